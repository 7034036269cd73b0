use Rattle.kernel_core.specs.State.{state_of}
use Rattle.run_text.specs.State.{state_text}
use Rattle.coy_io.proofs.Texts.{behind}
use Rattle.back_command.specs.Back.{count_text}
use Rattle.back_command.proofs.telling.put_state.Goals as goal

pub returns-clause-text : goal.returns-clause-text
returns-clause-text g c = behind c.dump.result _ _ _ (count_text c.args.count) (state_text (state_of c.args.machine.now)) c.in_ok-put_count.ensures.text c.dump.ensures.text
