-- The shape of every row of kernel operations: its refusals in their order, and what it comes to where none holds.
use Rattle.std.specs.Prelude.{ℕ, Bool, false, if◌then◌else◌, List, [], ◌∷◌, Option, Some, None, ◌==◌}
use Rattle.cap_format.specs.declared.code.Code.{Code}
use Rattle.cap_format.specs.declared.code.Code.TheVariants.{Ok as OkCode, UnknownRequest, NoAccess, RequestError, CountSpent}
use Rattle.cap_format.specs.declared.request.Reply.{Reply}
use Rattle.cap_format.specs.Capability.{Capability}
use Rattle.operations.specs.Change.{Change, item_in}

-- what is done and told where nothing refuses: the changes in their order, the words w2 to w4, and a capability
pub record Answer : Type 0 where
  pub changes : List Change
  pub words : List ℕ
  pub cap : Option Capability

-- nothing is done, and nothing is told
abbrev pub nothing : Answer
nothing = record { changes = []; words = 0 ∷ 0 ∷ 0 ∷ []; cap = None }

-- words alone
abbrev pub tells : ℕ → ℕ → ℕ → Answer
tells w2 w3 w4 = record { changes = []; words = w2 ∷ w3 ∷ w4 ∷ []; cap = None }

-- a capability alone, which may be Null
abbrev pub gives : Capability → Answer
gives c = record { changes = []; words = 0 ∷ 0 ∷ 0 ∷ []; cap = Some c }

-- changes alone
abbrev pub does : List Change → Answer
does changes = record { changes = changes; words = 0 ∷ 0 ∷ 0 ∷ []; cap = None }

-- a row: whether it is refused with NoAccess, with RequestError and with CountSpent, and its answer
pub record Row : Type 0 where
  pub no_access : Bool
  pub request_error : Bool
  pub count_spent : Bool
  pub answer : Answer

-- a row that nothing refuses
abbrev pub always : Answer → Row
always answer = record { no_access = false; request_error = false; count_spent = false; answer = answer }

-- a row with a request error alone
abbrev pub unless_error : Bool → Answer → Row
unless_error request_error answer = record {
  no_access = false;
  request_error = request_error;
  count_spent = false;
  answer = answer;
}

-- a row that wants access as well
abbrev pub with_access : Bool → Bool → Answer → Row
with_access no_access request_error answer = record {
  no_access = no_access;
  request_error = request_error;
  count_spent = false;
  answer = answer;
}

-- ---- the shape

-- a code with what comes of it
pub record Settled : Type 0 where
  pub code : Code
  pub answer : Answer

-- a refusal: nothing is done, and nothing is told
abbrev pub refused : Code → Settled
refused code = record { code = code; answer = nothing }

-- no refusal
abbrev pub granted : Answer → Settled
granted answer = record { code = OkCode; answer = answer }

-- the first refusal that holds wins
abbrev pub settled : Row → Settled
settled row =
    if row.no_access then refused NoAccess
    else (if row.request_error then refused RequestError
    else (if row.count_spent then refused CountSpent
    else granted row.answer))

-- what a request with this number comes to by a table, whose rows have their numbers: one that has no row is unknown
abbrev pub settled_in : List (ℕ × Row) → ℕ → Settled
settled_in [] number = refused UnknownRequest
settled_in (entry ∷ rows) number = if number == entry.0 then settled entry.1 else settled_in rows number

-- the reply: the code, and of what comes of it the words, the capability and the item that it changes
abbrev pub reply_of : Settled → Reply
reply_of settled = record {
  code = settled.code;
  words = settled.answer.words;
  cap = settled.answer.cap;
  changed = item_in settled.answer.changes;
}
