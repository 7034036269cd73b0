-- What an invocation asks for, and the accesses to the spans of a string, in their ranges.
use Rattle.std.proofs.Common.{◌≡◌, ℕ, ◌+◌, ◌≤◌, ◌^◌, nat_lt, Bool, true, false, if◌then◌else◌, List, [], ◌∷◌, ◌++◌, All, length, take, drop, slice_index, Option, Some, None, Result, Ok, Err, refl, sym, ap, arith}
use Rattle.std.proofs.lemmas.Bool.{cond_both, or_parts, ltb-false}
use Rattle.std.proofs.lemmas.List.{length-take}
use Rattle.std.proofs.lemmas.List.Sums.{sum_by-cons}
use Rattle.std.specs.Int.{w32, to_le_bytes}
use Rattle.std.proofs.lemmas.List.Elements.{All-cons, All-nil, All-append, All-take, All-drop}
use Rattle.cap_format.specs.Capability.{Capability, bare, with_count}
use Rattle.process_objects.specs.Accept.{AcceptValue}
use Rattle.process_objects.specs.declared.state.State.{State as RunState}
use Rattle.process_objects.specs.declared.state.State.TheVariants.{Running, Receiving, Faulted}
use Rattle.object_store.specs.Store.{Store, page_at}
use Rattle.invocation.specs.declared.malformed.MalformedSyscall.{MalformedSyscall as Malformed}
use Rattle.invocation.specs.Invocation.{InvocationValue, longest_string, sends, receives, sent_count, accepted_count, has_too_many, names_no_register, is_no_string, sends_no_string, accepts_no_string, is_malformed, invocation_of, parsed}
use Rattle.invocation.specs.Delivery.{accepted}
use Rattle.page_store.specs.Page.{with_bytes}
use Rattle.string_move.specs.declared.piece.Piece.{Piece}
use Rattle.string_move.specs.declared.span.Span.{Span}
use Rattle.string_move.specs.Spans.{spans, Cover}
use Rattle.string_move.proofs.Cuts.{spans_cover}
use Rattle.string_move.specs.Move.{size_of_pieces, piece_bytes, gathered, with_piece, scattered, copied}
use Rattle.walk_meaning.specs.declared.kind.Kind.{Kind}
use Rattle.walk_meaning.specs.declared.place.WalkFault.{WalkFault}
use Rattle.walk_meaning.specs.Walk.{is_data}
use Rattle.walk_engine.specs.declared.hit.Hit.{Hit}
use Rattle.machine_state.specs.State.{State, space_of}
use Rattle.machine_state.specs.Outcome.{Outcome, Touch}
use Rattle.machine_state.specs.Outcome.Touch.{DataAccess, CapAccess, GptCall, Changed}
use Rattle.machine_state.specs.DataAccess.{data_access}
use Rattle.messages.specs.declared.string_fault.StringFault.{StringFault}
use Rattle.messages.specs.Followed.{followed}
use Rattle.messages.specs.Strings.{Side, piece_of, side, span_side}
use Rattle.shared_economy.specs.Accesses.{IsAccess, AreAccesses}
use Rattle.run_ranges.specs.Ranges.{IsWord, IsByte, IsRangedState, AreInRanges}
use Rattle.run_ranges.proofs.Words.{word_at}
use Rattle.run_ranges.proofs.Objects.{page-in, process_slot-in, with_page-in}
use Rattle.run_ranges.proofs.Messages.{IsHandler, IsHitAnswer, data_access-answer}

-- ---- invocations

-- words, strings that end below the last address or at it, and at most four registers
pub record IsRangedInvocation (inv : InvocationValue) : Type 0 where
  pub words : All IsWord inv.words
  pub string : inv.at + inv.length ≤ 2 ^ 32
  pub bytes : inv.length ≤ 65536
  pub accept : inv.accept.at + inv.accept.bound ≤ 2 ^ 32
  pub sent : length inv.sent ≤ 4

abbrev pub IsParsed : Result InvocationValue Malformed → Type 0
IsParsed (Err malformed) = Unit {0}
IsParsed (Ok inv) = IsRangedInvocation inv

-- what is not no string is one
string-in : (at size : ℕ) → is_no_string at size ≡ false → (at + size ≤ 2 ^ 32) × (size ≤ 65536)
string-in at size none =
    let parts = or_parts (nat_lt longest_string size) (nat_lt (2 ^ 32) (at + size)) none in
    (ltb-false _ _ parts.1, ltb-false _ _ parts.0)

module _ (regs : List ℕ) (all : All IsWord regs) (none : is_malformed regs ≡ false) where
  few-sent : sent_count regs ≤ 4
  unfolding is_malformed
  few-sent =
      let six = or_parts _ (accepts_no_string regs) none in
      let five = or_parts _ (sends_no_string regs) six.0 in
      let four = or_parts _ (names_no_register regs) five.0 in
      let three = or_parts _ (has_too_many regs) four.0 in
      ltb-false _ _ (or_parts (nat_lt 4 (sent_count regs)) (nat_lt 4 (accepted_count regs)) three.1).0

  sent-string : sends regs ≡ true → is_no_string (slice_index regs 15) (slice_index regs 16) ≡ false
  unfolding is_malformed
  sent-string is =
      let six = or_parts _ (accepts_no_string regs) none in
      let five = or_parts _ (sends_no_string regs) six.0 in
      rw is at five.1

  received-string : receives regs ≡ true → is_no_string (slice_index regs 20) (slice_index regs 21) ≡ false
  unfolding is_malformed
  received-string is = let six = or_parts _ (accepts_no_string regs) none in rw is at six.1

  sent-range : (b : Bool) → sends regs ≡ b → ((if b then slice_index regs 15 else 0) + (if b then slice_index regs 16 else 0) ≤ 2 ^ 32) × ((if b then slice_index regs 16 else 0) ≤ 65536)
  sent-range true e = string-in (slice_index regs 15) (slice_index regs 16) (sent-string e)
  sent-range false e = (omega arith, omega arith)

  invocation-in : IsRangedInvocation (invocation_of regs)
  unfolding invocation_of
  invocation-in =
      let at = λ (i : ℕ). word_at regs i all in
      record {
        words = four-words (slice_index regs 11) (slice_index regs 12) (slice_index regs 13) (slice_index regs 14) (at 11) (at 12) (at 13) (at 14);
        string = (sent-range (sends regs) refl).0;
        bytes = (sent-range (sends regs) refl).1;
        accept = cond_both (receives regs) _ _ (λ (accept : AcceptValue). accept.at + accept.bound ≤ 2 ^ 32) (λ e. (string-in (slice_index regs 20) (slice_index regs 21) (received-string e)).0) (λ e. omega arith);
        sent = let few = few-sent in let least = length-take (sent_count regs) (to_le_bytes w32 (slice_index regs 18)) in omega (arith, few, least);
      }
    where
      four-words : (a b c d : ℕ) → IsWord a → IsWord b → IsWord c → IsWord d → All IsWord (a ∷ b ∷ c ∷ d ∷ [])
      four-words a b c d w x y z =
          All-cons IsWord a (b ∷ c ∷ d ∷ []) w (All-cons IsWord b (c ∷ d ∷ []) x (All-cons IsWord c (d ∷ []) y (All-cons IsWord d [] z (All-nil IsWord))))

pub parsed-in : (regs : List ℕ) → All IsWord regs → IsParsed (parsed regs)
unfolding parsed
parsed-in regs all = cond_both (is_malformed regs) _ _ IsParsed (λ e. tt) (λ e. invocation-in regs all e)

-- what a process accepts
pub accepted-in : (state : RunState) → IsRangedState state → (accepted state).at + (accepted state).bound ≤ 2 ^ 32
accepted-in Running is = omega arith
accepted-in (Receiving accept) is = is
accepted-in (Faulted code address) is = omega arith

-- ---- parts of an event

-- each access of data of a part is one in its ranges, and so is what the part leaves
abbrev pub IsKept : Outcome → Type 0
IsKept o = AreAccesses o.touches × AreInRanges o.state.store

pub accesses-append : (ts us : List Touch) → AreAccesses ts → AreAccesses us → AreAccesses (ts ++ us)
accesses-append [] us are more = more
accesses-append (DataAccess o space address kind ∷ ts) us are more = (are.0, accesses-append ts us are.1 more)
accesses-append (CapAccess o space address kind ∷ ts) us are more = accesses-append ts us are more
accesses-append (GptCall reads ∷ ts) us are more = accesses-append ts us are more
accesses-append (Changed item ∷ ts) us are more = accesses-append ts us are more

pub kept-followed : (first second : Outcome) → IsKept first → IsKept second → IsKept (followed first second)
kept-followed first second one two = (accesses-append first.touches second.touches one.0 two.0, two.1)

bare-same : (c : Capability) → c.count ≡ 0 → bare c ≡ c
bare-same c e = ap (λ (n : ℕ). with_count c n) (sym e)

module _ (s : State) (r : AreInRanges s.store) (p : ℕ) where
  -- an access through a process's space
  pub access-in : (address : ℕ) (kind : Kind) → IsWord address → is_data kind ≡ true → IsAccess s.store.items (space_of s p) address kind
  access-in address kind word data_kind =
      let space = process_slot-in s.store r p 0 in
      record { ranged = r.items; capability = space.0; uncounted = bare-same (space_of s p) space.1; address_fits = word; data_kind = data_kind }

  -- ---- strings

  -- a fault of a string has its address below 2^32, and such a handler
  abbrev pub IsStringAnswer : Option StringFault → Type 0
  IsStringAnswer None = Unit {0}
  IsStringAnswer (Some f) = IsWord f.address × IsHandler s p f.why.handler

  -- what comes of the accesses to spans from one address to another
  pub record IsRangedSide (at end : ℕ) (x : Side) : Type 0 where
    pub touches : AreAccesses x.touches
    pub fault : IsStringAnswer x.fault
    pub bytes : at + size_of_pieces x.pieces ≤ end

  cover-order : (ss : List Span) (at end : ℕ) → Cover at end ss → at ≤ end
  cover-order [] at end cover = omega (arith, cover)
  cover-order (span ∷ ss) at end cover = let rest = cover-order ss (at + span.size) end cover.2 in omega (arith, rest)

  side-in : (kind : Kind) → is_data kind ≡ true → (ss : List Span) (at end : ℕ) → end ≤ 2 ^ 32 → Cover at end ss → IsRangedSide at end (side s p kind ss)
  unfolding side
  side-in kind data_kind [] at end low cover = record { touches = tt; fault = tt; bytes = omega (arith, cover) }
  side-in kind data_kind (span ∷ ss) at end low cover =
      by (data_access s p span.address kind) (data_access-answer s r p span.address kind) (side-in kind data_kind ss (at + span.size) end low cover.2)
    where
      word : IsWord span.address
      word = let here = cover.0 in let some = cover.1 in let rest = cover-order ss (at + span.size) end cover.2 in omega (arith, here, some, rest, low)

      by : (answer : Result Hit WalkFault) → IsHitAnswer s p answer → IsRangedSide (at + span.size) end (side s p kind ss) → IsRangedSide at end (span_side s p kind span (side s p kind ss) answer)
      by (Ok hit) is rest = record { touches = (access-in span.address kind word data_kind, rest.touches); fault = rest.fault; bytes = let bytes = rest.bytes in let more : size_of_pieces (piece_of hit span.size ∷ (side s p kind ss).pieces) ≡ span.size + size_of_pieces (side s p kind ss).pieces = sum_by-cons (λ (piece : Piece). piece.len) (piece_of hit span.size) (side s p kind ss).pieces in omega (arith, bytes, more) }
      by (Err why) is rest = record { touches = (access-in span.address kind word data_kind, tt); fault = (word, is); bytes = let order = cover-order (span ∷ ss) at end cover in omega (arith, order) }

  pub string_side-in : (kind : Kind) → is_data kind ≡ true → (at len : ℕ) → at + len ≤ 2 ^ 32 → IsRangedSide at (at + len) (side s p kind (spans at len))
  string_side-in kind data_kind at len low = side-in kind data_kind (spans at len) at (at + len) low (spans_cover at len)

-- ---- bytes that move

pub with_bytes-in : (page : List ℕ) (at : ℕ) (bytes : List ℕ) → All IsByte page → All IsByte bytes → All IsByte (with_bytes page at bytes)
with_bytes-in page at bytes all more =
    All-append IsByte (take at page ++ bytes) (drop (at + length bytes) page) (All-append IsByte (take at page) bytes (All-take IsByte at page all) more) (All-drop IsByte (at + length bytes) page all)

gathered-in : (s : Store) → AreInRanges s → (pieces : List Piece) → All IsByte (gathered s pieces)
unfolding gathered
gathered-in s r [] = All-nil IsByte
gathered-in s r (piece ∷ pieces) =
    All-append IsByte (piece_bytes s piece) (gathered s pieces) (All-take IsByte piece.len (drop piece.at (page_at s piece.page)) (All-drop IsByte piece.at (page_at s piece.page) (page-in s r piece.page))) (gathered-in s r pieces)

scattered-in : (s : Store) → AreInRanges s → (pieces : List Piece) (bytes : List ℕ) → All IsByte bytes → AreInRanges (scattered s pieces bytes)
unfolding scattered
scattered-in s r [] bytes all = r
scattered-in s r (piece ∷ pieces) bytes all =
    scattered-in (with_piece s piece (take piece.len bytes))
    (with_page-in s r piece.page (with_bytes (page_at s piece.page) piece.at (take piece.len bytes)) (with_bytes-in (page_at s piece.page) piece.at (take piece.len bytes) (page-in s r piece.page) (All-take IsByte piece.len bytes all)))
    pieces (drop piece.len bytes) (All-drop IsByte piece.len bytes all)

pub copied-in : (s : Store) → AreInRanges s → (from to : List Piece) → AreInRanges (copied s from to)
unfolding copied
copied-in s r from to = scattered-in s r to (take (size_of_pieces to) (gathered s from)) (All-take IsByte (size_of_pieces to) (gathered s from) (gathered-in s r from))
