-- Objects that have all of their places. (Own.)
use Rattle.std.specs.Prelude.{◌≡◌, ℕ, ◌<◌, length}
use Rattle.cap_format.specs.declared.kind.CapKind.{CapKind}
use Rattle.cap_format.specs.declared.kind.CapKind.TheVariants.{CapPage, Process}
use Rattle.object_store.specs.Store.{Store, size_of, cappage_at, process_at}
use Rattle.object_store.specs.Ranges.{IsStore}

-- object `n` of a kind has all of its places for capabilities; the sixteen of a GPT are told of all items
abbrev pub IsFull : Store → CapKind → ℕ → Type 0
IsFull s CapPage n = length (cappage_at s n) ≡ 256
IsFull s Process n = (length (process_at s n).capregs ≡ 32) × (length (process_at s n).slots ≡ 3)
IsFull s _ n = Unit {0}

-- all objects do
pub record AreFull (s : Store) : Type 0 where
  pub is_store : IsStore s
  pub cappages : (n : ℕ) → n < size_of s.items CapPage → IsFull s CapPage n
  pub processes : (n : ℕ) → n < size_of s.items Process → IsFull s Process n
