use Rattle.std.proofs.Common.{◌≡◌, ◌+◌, ◌*◌, take}
use Rattle.std.specs.List.{filter}
use Rattle.cap_format.specs.declared.kind.CapKind.TheVariants.{Gpt}
use Rattle.object_store.specs.Store.{size_of}
use Rattle.machine_state.specs.State.{state_of}
use Rattle.policy_lines.specs.Permission.{without}
use Rattle.policy_lines.specs.Unused.{holds_in}
use Rattle.policy_lines.proofs.unused_lines.all_unused.Given as goal

abbrev pub invariant-each : goal.invariant-each
invariant-each g l = record {
  same : l.policy ≡ l.fn.policy;
  told : l.found.items ≡ filter (λ line. holds_in (without l.fn.policy line) (state_of l.machine)) (take l.i l.lines.items);
  counted : l.fetches ≡ l.fn.fetches + 16 * size_of l.machine.objects.items Gpt * l.i;
}
