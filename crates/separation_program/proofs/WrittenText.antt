-- The text of written lines is the lines that are read back, each with its line feed.
use Rattle.std.proofs.Common.{◌≡◌, ◌∙◌, ◌++◌, ◌∷◌, [], ℕ, List, map, refl, sym, ap, append_assoc}
use Rattle.std.specs.Prelude.{codes, flat_map}
use Rattle.std.specs.List.{AllByRecursion}
use Rattle.coy_io.specs.Lines.{IsFront, Line, line_feed, whole_lines}
use Rattle.coy_io.proofs.LineLaws.{short_part, whole_lines-line_in_front}
use Rattle.separation_policy.specs.Policy.{PolicyValue}
use Rattle.separation_lines.specs.Names.{domain_name}
use Rattle.separation_lines.specs.Written.{channel_line, right_line, written_line}
use Rattle.separation_lines.specs.declared.said.Said.{Said}
use Rattle.separation_program.specs.Text.{channel_text, own_text, right_text}

pub channel-text : (policy : PolicyValue) (word : List ℕ) (a b : ℕ) → channel_text policy word a b ≡ channel_line policy word a b ++ line_feed
unfolding channel_text own_text
channel-text policy word a b =
    let one = domain_name policy a in
    let other = domain_name policy b in
    sym (append_assoc word (one ++ (codes " " ++ other)) line_feed
    ∙ ap (λ text. word ++ text) (append_assoc one (codes " " ++ other) line_feed))

pub right-text : (policy : PolicyValue) (word : List ℕ) (a : ℕ) → right_text policy word a ≡ right_line policy word a ++ line_feed
unfolding right_text own_text
right-text policy word a = sym (append_assoc word (domain_name policy a) line_feed)

-- each written line with its line feed
abbrev pub written_text : PolicyValue → List Said → List ℕ
written_text policy all = flat_map (λ said. written_line policy said ++ line_feed) all

-- the lines of such a text
pub whole_lines-written : (policy : PolicyValue) (all : List Said) → AllByRecursion (λ said. IsFront (written_line policy said)) all → whole_lines [] (written_text policy all) ≡ map Line (map (written_line policy) all)
unfolding whole_lines
whole_lines-written policy [] fronts = refl
whole_lines-written policy (said ∷ rest) fronts =
    let line = written_line policy said in
    ap (whole_lines []) (append_assoc line line_feed (written_text policy rest))
    ∙ whole_lines-line_in_front line (written_text policy rest) fronts.0.unfinished
    ∙ ap (λ part. part ∷ whole_lines [] (written_text policy rest)) (short_part line fronts.0.short)
    ∙ ap (λ parts. Line line ∷ parts) (whole_lines-written policy rest fronts.1)
