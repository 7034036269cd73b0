-- What lines state is what they make of the first policy, up to the one that ends it.
use Rattle.std.proofs.Common.{◌≡◌, ◌∙◌, ◌+◌, ◌++◌, ◌∷◌, [], ℕ, List, length, map, Result, Ok, Err, refl, ap, subst, arith}
use Rattle.std.specs.List.{All}
use Rattle.coy_io.specs.Lines.{Part, Line, LongLine, PastLimit}
use Rattle.listing_read.specs.declared.object_fault.PolicyFault.{PolicyFault}
use Rattle.separation_policy.specs.Making.{bare_policy, first_policy}
use Rattle.separation_policy.specs.Policy.{PolicyValue}
use Rattle.separation_lines.specs.DomainsLine.{line_answer, line_policy}
use Rattle.separation_lines.specs.Names.{NamesDiffer}
use Rattle.separation_lines.specs.Written.{AreTaken, IsPermission, after_each, lines_policy}
use Rattle.separation_lines.specs.Replaced.{Give, SameDomains, replaced_lines}
use Rattle.separation_lines.specs.Laws.{EndLaw, NamesLaw, ReplacedLaw}
use Rattle.separation_lines.specs.declared.said.Next.{Next}
use Rattle.separation_lines.specs.declared.said.Next.TheVariants as nexts
use Rattle.separation_lines.specs.declared.said.Said.{Said}
use Rattle.separation_program.specs.Stated.{States, stated, stated_with}

-- lines that are taken in leave to those behind them what is stated
pub stated-taken_in : (first : PolicyValue) (n : ℕ) (lines : List (List ℕ)) (more : List Part) → AreTaken first lines
    → stated first n (map Line lines ++ more) ≡ stated (lines_policy first lines) (n + length lines) more
unfolding stated
stated-taken_in first n [] more taken = ap (λ k. stated first k more) (omega arith)
stated-taken_in first n (line ∷ lines) more taken =
    ap (λ answer. stated_with first (n + 1) (map Line lines ++ more) answer (stated (line_policy first line) (n + 1) (map Line lines ++ more))) taken.0
    ∙ stated-taken_in (line_policy first line) (n + 1) lines more taken.1
    ∙ ap (λ k. stated (lines_policy (line_policy first line) lines) k more) (omega arith)

-- and one that ends the policy states it
pub stated-ended : (policy : PolicyValue) (n : ℕ) (line : List ℕ) (rest : List Part) → line_answer policy line ≡ Ok nexts.Schedule → stated policy n (Line line ∷ rest) ≡ States policy (n + 1) rest
unfolding stated
stated-ended policy n line rest ends = ap (λ answer. stated_with policy (n + 1) rest answer (stated (line_policy policy line) (n + 1) rest)) ends

-- these lines are taken in and give this policy, the next one ends it, and the rest is the schedule
pub record StatedBy (first : PolicyValue) (parts : List Part) (policy : PolicyValue) (rest : List Part) : Type 0 where
  pub lines : List (List ℕ)
  pub end : List ℕ
  pub parts_are : parts ≡ map Line lines ++ Line end ∷ rest
  pub taken : AreTaken first lines
  pub gives : lines_policy first lines ≡ policy
  pub ends : line_answer policy end ≡ Ok nexts.Schedule

-- one line is taken in, and then those behind it
behind-line : (first policy : PolicyValue) (line : List ℕ) (parts rest : List Part) → line_answer first line ≡ Ok nexts.Policy → StatedBy (line_policy first line) parts policy rest → StatedBy first (Line line ∷ parts) policy rest
behind-line first policy line parts rest takes by = record {
  lines = line ∷ by.lines;
  end = by.end;
  parts_are = ap (λ more. Line line ∷ more) by.parts_are;
  taken = (takes, by.taken);
  gives = by.gives;
  ends = by.ends;
}

by-answer : (first policy : PolicyValue) (n last : ℕ) (line : List ℕ) (parts rest : List Part) (answer : Result Next PolicyFault) → line_answer first line ≡ answer
    → stated_with first n parts answer (stated (line_policy first line) n parts) ≡ States policy last rest
    → (stated (line_policy first line) n parts ≡ States policy last rest → StatedBy (line_policy first line) parts policy rest) → StatedBy first (Line line ∷ parts) policy rest
by-answer first policy n last line parts rest (Ok nexts.Policy) is states behind = behind-line first policy line parts rest is (behind states)
by-answer first policy n last line parts rest (Ok nexts.Schedule) is states behind =
    let same : first ≡ policy = cc in
    let left : parts ≡ rest = cc in
    record {
      lines = [];
      end = line;
      parts_are = ap (λ more. Line line ∷ more) left;
      taken = tt;
      gives = same;
      ends = subst (λ (p : PolicyValue). line_answer p line ≡ Ok nexts.Schedule) same is;
    }
by-answer first policy n last line parts rest (Err fault) is states behind = cc

-- where lines state a policy, they are so
pub stated-by : (first policy : PolicyValue) (n last : ℕ) (parts rest : List Part) → stated first n parts ≡ States policy last rest → StatedBy first parts policy rest
unfolding stated
stated-by first policy n last [] rest states = cc
stated-by first policy n last (LongLine ∷ parts) rest states = cc
stated-by first policy n last (PastLimit ∷ parts) rest states = cc
stated-by first policy n last (Line line ∷ parts) rest states =
    by-answer first policy (n + 1) last line parts rest (line_answer first line) refl states (λ behind. stated-by (line_policy first line) policy (n + 1) last parts rest behind)

-- ---- what the laws of lines say of them

-- names differ
pub stated-names : NamesLaw → (sizes : _) (policy : PolicyValue) (n last : ℕ) (parts rest : List Part) → stated (first_policy sizes) n parts ≡ States policy last rest → NamesDiffer policy
stated-names law sizes policy n last parts rest states =
    let by = stated-by (first_policy sizes) policy n last parts rest states in
    subst NamesDiffer by.gives (law sizes by.lines)

-- with written lines in place of those that let domains do something, up to the same last line, the input states a policy of
-- the same domains and objects, where no domain may do anything but what was written
pub record StatesOnly (first policy : PolicyValue) (n : ℕ) (lines : List (List ℕ)) (end : List ℕ) (rest : List Part) (all : List Said) : Type 0 where
  pub other : PolicyValue
  pub last : ℕ
  pub states : stated first n (map Line (replaced_lines policy lines all) ++ Line end ∷ rest) ≡ States other last rest
  pub same : SameDomains other (after_each (bare_policy policy) all)

-- the schedule behind it may be any
pub stated-replaced : ReplacedLaw → EndLaw → (sizes : _) (policy : PolicyValue) (n : ℕ) (parts rest more : List Part) (all : List Said) → (by : StatedBy (first_policy sizes) parts policy rest)
    → All (IsPermission (length policy.domains)) all → StatesOnly (first_policy sizes) policy n by.lines by.end more all
stated-replaced replaced ends sizes policy n parts rest more all by made =
    let first = first_policy sizes in
    let Gives : PolicyValue → Type 0 = λ policy. All (IsPermission (length policy.domains)) all → Give first (replaced_lines policy by.lines all) (after_each (bare_policy policy) all) in
    let give = subst Gives by.gives (replaced sizes by.lines all by.taken) made in
    let lines = replaced_lines policy by.lines all in
    record {
      other = lines_policy first lines;
      last = n + length lines + 1;
      states =
          stated-taken_in first n lines (Line by.end ∷ more) give.taken
          ∙ stated-ended (lines_policy first lines) (n + length lines) by.end more (ends policy (lines_policy first lines) by.end by.ends);
      same = give.same;
    }
