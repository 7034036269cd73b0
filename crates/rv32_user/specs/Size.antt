-- Sizes of the data that a load or a store reaches.
use Rattle.std.specs.Prelude.{◌≡◌, ℕ, ◌⊎◌}

-- a byte, a halfword or a word, in bytes
abbrev pub IsSize : ℕ → Type 0
IsSize size = (size ≡ 1) ⊎ (size ≡ 2) ⊎ (size ≡ 4)
