-- Fields that stand one behind the other in an image. How they are spelled and how they are read is one value, so that
-- both directions cite the same list of fields. A field is judged as it is met: its end first, and then its own faults;
-- so the first fault from the left is the one that is told.
use Rattle.std.specs.Prelude.{◌≡◌, ℕ, nat_le, Bool, if◌then◌else◌, List, ◌++◌, length, take, drop, Result, Ok, Err}
use Rattle.std.specs.Borrow.{Bor}
use Rattle.byteorder.specs.Endian.{little_bytes, little_number}
use Rattle.listing_read.specs.Faults.{◌>>=◌}
use Rattle.image_binary.specs.declared.fault.ImageWord.{ImageWord}
use Rattle.image_binary.specs.declared.stop.Stop.{Stop}
use Rattle.image_binary.specs.declared.stop.Stop.TheVariants.{Short, Wrong}

-- what bytes give: a value and the bytes behind it, or why there is none; which field that is about is told by the number
-- of bytes that stand from its first on
abbrev pub Read : Type 0 → Type 0
Read A = Result (A × List ℕ) Stop

-- fields: the bytes of their values, and what bytes give that begin with them
pub record Fields (A : Type 0) : Type 0 where
  pub bytes : A → List ℕ
  pub read : List ℕ → Read A

infixr 10 ◌⨟◌
-- the first fields, and behind them those that follow upon their values
abbrev pub ◌⨟◌ : {A B : Type 0} → Fields A → (A → Fields B) → Fields (A × B)
first ⨟ next = record {
  bytes = λ x. first.bytes x.0 ++ (next x.0).bytes x.1;
  read = λ bytes. first.read bytes >>= λ x. (next x.0).read x.1 >>= λ y. Ok ((x.0, y.0), y.1);
}

-- a value that is made of what was read
abbrev pub made : {A B : Type 0} → (A → B) → Read A → Read B
made make (Ok x) = Ok (make x.0, x.1)
made make (Err stop) = Err stop

-- n bytes and those behind them, or that the bytes end before the last of them
unfoldable pub front_of : ℕ → List ℕ → Read (List ℕ)
front_of n bytes = if nat_le n (length bytes) then Ok (take n bytes, drop n bytes) else Err (Short (length bytes))

-- what a field gave, by the bytes from it on and those behind it
abbrev pub judged : {A : Type 0} → List ℕ → List ℕ → Result A ImageWord → Read A
judged bytes rest (Ok x) = Ok (x, rest)
judged bytes rest (Err fault) = Err (Wrong (length bytes) fault)

-- the value of n bytes, that they end too early, or what is wrong with them
unfoldable pub field_of : {A : Type 0} → ℕ → (List ℕ → Result A ImageWord) → List ℕ → Read A
field_of n judge bytes = front_of n bytes >>= λ front. judged bytes front.1 (judge front.0)

-- a field of n bytes, which are those of a value or are judged
abbrev pub field : {A : Type 0} → ℕ → (A → List ℕ) → (List ℕ → Result A ImageWord) → Fields A
field n bytes judge = record { bytes = bytes; read = field_of n judge }

-- the number of n bytes, the lowest first, where it passes a test
abbrev pub tested : ℕ → (ℕ → Bool) → ImageWord → List ℕ → Result ℕ ImageWord
tested n test fault bytes = if test (little_number n bytes) then Ok (little_number n bytes) else Err fault

-- a number of n bytes, the lowest first, that passes a test, or else its fault
abbrev pub number : ℕ → (ℕ → Bool) → ImageWord → Fields ℕ
number n test fault = field n (little_bytes n) (tested n test fault)

-- n bytes as they are
abbrev pub block : ℕ → Fields (List ℕ)
block n = field n (λ bytes. bytes) Ok

-- what reading a value and the bytes behind it gave is this
abbrev pub Gives : {X : Type 0} → Result (X × Bor (List ℕ)) Stop → Read X → Type 0
Gives (Ok x) read = read ≡ Ok (x.0, x.1.now)
Gives (Err stop) read = read ≡ Err stop

-- the same of bytes that are seen in their place
abbrev pub GivesBytes : Result (Bor (List ℕ) × Bor (List ℕ)) Stop → Read (List ℕ) → Type 0
GivesBytes (Ok x) read = read ≡ Ok (x.0.now, x.1.now)
GivesBytes (Err stop) read = read ≡ Err stop

-- the same of a value of n bytes
abbrev pub GivesAt : {X : Type 0} → ℕ → List ℕ → Result X Stop → Read X → Type 0
GivesAt n bytes (Ok x) read = read ≡ Ok (x, drop n bytes)
GivesAt n bytes (Err stop) read = read ≡ Err stop

-- a value, and how many bytes stand behind it
abbrev pub counted : {A : Type 0} → Read A → Result (A × ℕ) Stop
counted (Ok x) = Ok (x.0, length x.1)
counted (Err stop) = Err stop
