use Rattle.std.proofs.Common.{◌≡◌, ◌∙◌, ◌+◌, ◌-◌, ◌≤◌, drop, length, take, sym, ap, arith}
use Rattle.std.proofs.lemmas.List.{drop-take, length-take}
use Rattle.coy_text.specs.Words.{words_of}
use Rattle.question_lines.proofs.phrase.Phrase.behind.Goals as goal

pub returns : goal.returns
returns c =
    let ws = words_of c.self.inside.text.now in
    let n = c.args.n in
    let count = c.self.inside.count in
    let fewer : n ≤ count = omega (arith, c.requires, ap length c.self.view_is, length-take count ws, c.self.invariant) in
    let parted : n + (count - n) ≡ count = omega (arith, fewer) in
    ap (take (count - n)) c.words_from.ensures ∙ sym (drop-take n (count - n) ws) ∙ ap (λ k. drop n (take k ws)) parted ∙ ap (drop n) c.self.view_is
