use Rattle.std.proofs.Common.{length, ap, arith}
use Rattle.std.proofs.lemmas.List.{length-drop}
use Rattle.question_lines.proofs.terms.leaf.Goals as goal

pub overflow_add-result : goal.overflow_add-result
overflow_add-result c =
    omega (arith, c.in-Ok.ensures.within, c.words_in.ensures.value, ap length c.behind.ensures, length-drop c.args.at c.args.words.now, c.count-count.ensures, c.requires)
