use Rattle.std.proofs.Common.{◌≡◌, false, take}
use Rattle.image_builder.specs.Given.{listed, last_given, run_given}
use Rattle.image_builder.proofs.start.running.Given as goal

abbrev pub invariant-each : goal.invariant-each
invariant-each l = l.all.items ≡ listed l.fn.listing.sizes.processes (λ p. last_given (run_given p) false (take l.statement-index l.fn.listing.statements))
