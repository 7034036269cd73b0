use Rattle.std.proofs.Common.{◌≡◌, ◌+◌, ◌*◌, [], drop, length}
use Rattle.std.specs.List.{All}
use Rattle.cap_format.specs.declared.kind.CapKind.TheVariants.{Gpt}
use Rattle.object_store.specs.Store.{size_of}
use Rattle.machine_state.specs.State.{state_of}
use Rattle.separation_policy.specs.Making.{bare_policy}
use Rattle.policy_lines.specs.Permission.{IsMade}
use Rattle.policy_lines.specs.Unused.{holds_in}
use Rattle.policy_lines.specs.Least.{only, thinned}
use Rattle.policy_lines.proofs.least_lines.thin.Given as goal

abbrev pub invariant-each : goal.invariant-each
invariant-each g l = record {
  bare : bare_policy l.policy ≡ bare_policy l.fn.policy;
  made : All (IsMade (length l.fn.policy.domains)) l.kept.items;
  left : thinned (λ some. holds_in (only l.fn.policy some) (state_of l.machine)) l.kept.items (drop l.i l.lines)
      ≡ thinned (λ some. holds_in (only l.fn.policy some) (state_of l.machine)) [] l.lines;
  counted : l.fetches ≡ l.fn.fetches + 16 * size_of l.machine.objects.items Gpt * l.i;
}
