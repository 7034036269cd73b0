use Rattle.std.proofs.Common.{ℕ, Bool, ◌||◌, List, ap, ap₂, sym, ◌∙◌}
use Rattle.std.specs.List.{list_any}
use Rattle.machine_state.specs.State.{state_of}
use Rattle.quiet_runs.specs.Finding.{is_own}
use Rattle.quiet_finding.proofs.Secluded.{watched-is}
use Rattle.quiet_finding.proofs.looking.is_watched.Goals as goal

pub returns : goal.returns
returns g c =
    let s = state_of c.args.machine.now in
    let listed = sym c.has_process.ensures ∙ c.if-has_process.false in
    let pages = sym (c.owns_one.ensures ∙ ap (λ (xs : List ℕ). list_any (is_own s c.args.p) xs) c.pages.ensures) in
    sym (watched-is c.args.watched.now s c.args.p ∙ ap₂ (λ (a b : Bool). a || b) listed pages)
