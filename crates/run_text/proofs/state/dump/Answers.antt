use Rattle.std.proofs.Common.{ap, refl, ◌∙◌}
use Rattle.object_store.specs.Store.{Store}
use Rattle.object_store.specs.Meaning.{state_map}
use Rattle.run_text.specs.State.{objects_text, state_text}
use Rattle.coy_io.proofs.Texts.{caused, failed, go_on, same, stop}
use Rattle.run_text.proofs.state.dump.Goals as goal

pub returns-in_err-put_front_of-clause-text : goal.returns-in_err-put_front_of-clause-text
unfolding state_text
returns-in_err-put_front_of-clause-text g c = (stop _ _ _ _ _ _ _ _ c.from_residual.ensures.0 c.in_err-put_front_of.ensures).text

pub returns-in_err-put_front_of-clause-cause : goal.returns-in_err-put_front_of-clause-cause
returns-in_err-put_front_of-clause-cause g c = failed _ _ _ _ _ c.from_residual.ensures.0 refl refl c.in_err-put_front_of.ensures.cause

pub returns-in_err-put_objects-clause-text : goal.returns-in_err-put_objects-clause-text
unfolding state_text
returns-in_err-put_objects-clause-text g c =
    (go_on _ _ _ _ _ _ _ _ _ _ c.in_ok-put_front_of.ensures
    (stop _ _ _ _ _ _ _ _ c.from_residual-in_err-put_objects.ensures.0
    (same _ _ _ _ _ _ _ (ap (λ (s : Store). objects_text (state_map s)) c.objects.ensures) c.in_err-put_objects.ensures.wrote))).text

pub returns-in_err-put_objects-clause-cause : goal.returns-in_err-put_objects-clause-cause
returns-in_err-put_objects-clause-cause g c =
    failed _ _ _ _ _ c.from_residual-in_err-put_objects.ensures.0 refl c.in_ok-put_front_of.ensures.cause.quiet c.in_err-put_objects.ensures.wrote.cause

pub returns-clause-text : goal.returns-clause-text
unfolding state_text
returns-clause-text g c =
    (go_on _ _ _ _ _ _ _ _ _ _ c.in_ok-put_front_of.ensures
    (go_on _ _ _ _ _ _ _ _ _ _ (same _ _ _ _ _ _ _ (ap (λ (s : Store). objects_text (state_map s)) c.objects.ensures) c.in_ok-put_objects.ensures.wrote)
    c.put_text.ensures)).text

pub returns-clause-cause : goal.returns-clause-cause
returns-clause-cause g c =
    caused _ _ _ _ (c.in_ok-put_objects.ensures.wrote.cause.quiet ∙ c.in_ok-put_front_of.ensures.cause.quiet) c.put_text.ensures.cause
