use Rattle.std.proofs.Common.{◌∙◌, ap, sym}
use Rattle.kernel_core.specs.State.{state_of}
use Rattle.confine_check.specs.Breach.{breach_in, breach_of, sleeper_of}
use Rattle.confine_check.specs.Found.{meant_of}
use Rattle.confine_check.specs.Sides.{cut_of}
use Rattle.confine_command.proofs.Awake.{awake-none}
use Rattle.confine_command.specs.Confine.{cut_text}
use Rattle.confine_command.proofs.Verdicts.{breach-found, found-awake, text-meant}
use Rattle.courses.proofs.Endings.{ends_text}
use Rattle.confine_command.proofs.checking.tell.Goals as goal

pub returns-clause-ends : goal.returns-clause-ends
returns-clause-ends g c =
    let sides = c.args.cut.now in
    let s = state_of c.args.machine.now in
    ends_text _ _ _ _ _ _ _ _
    (c.as_bytes.ensures.text ∙ c.push_verdict.ensures ∙ text-meant sides c.confined-verdict.result ∙ ap (λ v. cut_text sides (breach_in v)) c.confined-verdict.ensures.means
    ∙ ap (cut_text sides) (breach-found (meant_of (cut_of sides) s.store) (sleeper_of (cut_of sides) s.queues)))
    c.end_with.ensures

-- it is of no sleeper, since nobody sleeps
pub push_verdict-requires-clause-awake : goal.push_verdict-requires-clause-awake
push_verdict-requires-clause-awake g c = λ p is.
    let cut = cut_of c.args.cut.now in
    let m = c.args.machine.now in
    found-awake (breach_of cut m.objects) (sleeper_of cut m.queues) p (awake-none cut m.queues c.requires) (sym c.confined-verdict.ensures.verdict ∙ is)
