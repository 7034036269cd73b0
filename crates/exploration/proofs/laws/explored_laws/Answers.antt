use Rattle.exploration.proofs.Answered.{exact_law, one_answer_law, says_law}
use Rattle.exploration.proofs.EveryEvent.{every_event_law}
use Rattle.exploration.proofs.Shown.{shown_law}
use Rattle.exploration.proofs.laws.explored_laws.Goals as goal

pub returns : goal.returns
returns c = record { says = says_law; exact = exact_law; one_answer = one_answer_law; every_event = every_event_law; shown = shown_law }
