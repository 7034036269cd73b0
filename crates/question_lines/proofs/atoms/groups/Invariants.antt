use Rattle.std.proofs.Common.{◌≡◌, ◌≤◌, ◌-◌, drop, length}
use Rattle.std.specs.List.{All}
use Rattle.questions.specs.Atom.{IsAtomOf}
use Rattle.question_lines.specs.AtomLine.{groups_from}
use Rattle.question_lines.proofs.Parting.{behind}
use Rattle.question_lines.proofs.atoms.groups.Given as goal

abbrev pub invariant-parts : goal.invariant-parts
invariant-parts l = record {
  goes_on : groups_from l.sizes l.words ≡ behind l.groups.items (groups_from l.sizes (drop l.at l.words));
  range : All (All (IsAtomOf l.sizes)) l.groups.items;
  within : l.at ≤ length l.words;
}

abbrev pub decreases-parts : goal.decreases-parts
decreases-parts l = length l.words - l.at
