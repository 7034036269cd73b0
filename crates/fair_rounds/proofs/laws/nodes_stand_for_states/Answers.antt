use Rattle.fair_rounds.proofs.Meaning.{comes-means, shortest-means}
use Rattle.fair_rounds.proofs.laws.nodes_stand_for_states.Goals as goal

pub returns-clause-comes : goal.returns-clause-comes
returns-clause-comes g c next goal first width ends goals firsts means start most stands a comes =
    comes-means next goal first width ends goals firsts means stands start most a comes

pub returns-clause-evades : goal.returns-clause-evades
returns-clause-evades g c next goal first width ends goals firsts means start path cycle stands a shortest =
    shortest-means next goal first width ends goals firsts means stands start path cycle a shortest
