use Rattle.std.proofs.Common.{◌++◌, sym, ap, ◌∙◌, append_assoc}
use Rattle.std.specs.Prelude.{codes}
use Rattle.object_store.specs.Meaning.{meaning, process_map}
use Rattle.object_lines.proofs.Lines.{line_ended}
use Rattle.run_text.specs.Objects.{state_word, process_text}
use Rattle.run_text.proofs.process.push_process.Goals as goal

pub returns-clause-text : goal.returns-clause-text
unfolding process_text
returns-clause-text c =
    let word = state_word (process_map (meaning c.args.objects.now.items) c.args.process.now).state in
    let worded = (rw c.state.ensures.value at c.push_state.ensures.text) ∙ ap (λ text. text ++ word) c.push_word.ensures.text ∙ append_assoc c.push_front.new.line (codes " ") word in
    rw (sym c.is_empty.ensures ∙ c.if-is_empty.false) (line_ended _ _ _ _ _ _ word c.push_front.ensures.text worded c.push_word-2.ensures.text)
