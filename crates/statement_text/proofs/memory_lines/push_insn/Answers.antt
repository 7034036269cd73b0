use Rattle.std.proofs.Common.{◌++◌, sym, ap, ◌∙◌, append_assoc}
use Rattle.std.specs.Prelude.{codes}
use Rattle.rv32_asm.specs.Text.{text_of}
use Rattle.statement_text.proofs.Instructions.{behind_words_from}
use Rattle.statement_text.proofs.memory_lines.push_insn.Goals as goal

pub returns-clause-text : goal.returns-clause-text
returns-clause-text c =
    c.disassemble.ensures.text
    ∙ ap (λ text. text ++ text_of c.args.insn) c.push_word.ensures.text
    ∙ append_assoc c.args.line.now (codes " ") (text_of c.args.insn)
    ∙ ap (λ text. c.args.line.now ++ text) (sym (behind_words_from c.args.insn))
