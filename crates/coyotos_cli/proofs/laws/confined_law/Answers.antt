use Rattle.coyotos_cli.proofs.Confined.{confined_law}
use Rattle.coyotos_cli.proofs.laws.confined_law.Goals as goal

pub returns : goal.returns
returns c = confined_law
