use Rattle.std.proofs.Common.{◌≡◌, ◌&&◌, ℕ, if◌then◌else◌, length, nat_le, nat_lt}
use Rattle.std.specs.Prelude.{slice_index}
use Rattle.sv32_tables.proofs.words.wipe.Given as goal

-- what was passed is 0, and the rest is as it was
abbrev pub invariant-each : goal.invariant-each
invariant-each l = record {
  size : length l.words.items ≡ length l.initial.words.items;
  wiped : (k : ℕ) → slice_index l.words.items k ≡ (if nat_le l.start k && nat_lt k l.at then 0 else slice_index l.initial.words.items k);
}
