-- Line by line, what the lines of a policy state.
use Rattle.std.proofs.Common.{◌≡◌, ◌+◌, ◌∙◌, ◌∷◌, ◌++◌, [], Bool, ℕ, List, true, false, if◌then◌else◌, Option, Some, None, Result, Ok, Err, refl, sym, ap, subst, inl, inr}
use Rattle.coy_io.specs.Lines.{Part, Line, LongLine, PastLimit}
use Rattle.coy_io.specs.Reader.{Reader, Advances, Begins, IsDone, ahead}
use Rattle.judged_lines.specs.Judged.{JudgesNext, Refuses}
use Rattle.judged_lines.specs.declared.stop.Stop.{Stop}
use Rattle.judged_lines.specs.declared.stop.Stop.TheVariants as stops
use Rattle.separation_policy.specs.Policy.{PolicyValue}
use Rattle.coy_text.specs.Words.{words_of}
use Rattle.separation_lines.specs.PolicyLine.{after_line, answered, policy_line}
use Rattle.separation_lines.specs.DomainsLine.{domains_line, line_answer, line_policy, list_answer, list_policy, lists_domains}
use Rattle.listing_read.specs.declared.object_fault.PolicyFault.{PolicyFault}
use Rattle.listing_read.specs.declared.object_fault.PolicyFault.TheVariants.{LineTooLong, NoEnd}
use Rattle.separation_lines.specs.declared.said.Said.{Said}
use Rattle.separation_lines.specs.declared.said.Said.TheVariants as says
use Rattle.separation_lines.specs.declared.said.Next.{Next}
use Rattle.separation_lines.specs.declared.said.Next.TheVariants as nexts
use Rattle.schedule_replay.specs.Lines.{FailsOn, ReadsOn}
use Rattle.schedule_replay.proofs.ReadOn.{fails_on, on_lines, reads_on-line, reads_on-trans}
use Rattle.schedule_replay.proofs.Reading.{on_begun, on_given, on_none}
use Rattle.separation_program.specs.Stated.{AreStated, IsOver, JudgesPolicyLine, PastEnd, RefusedAt, StateAll, States, StatesRest, stated, stated_with, without_end}

-- ---- one line

-- what is said by a line that ends the policy leaves it as it was
said-unchanged : (first : PolicyValue) (told : Result Said PolicyFault) → answered told ≡ Ok nexts.Schedule → after_line first told ≡ first
said-unchanged first (Ok says.Nothing) ends = refl
said-unchanged first (Ok (says.Objects domain name block)) ends = cc
said-unchanged first (Ok (says.Reads reader read)) ends = cc
said-unchanged first (Ok (says.Writes writer written)) ends = cc
said-unchanged first (Ok (says.Halts domain)) ends = cc
said-unchanged first (Ok (says.Logs domain)) ends = cc
said-unchanged first (Ok says.Ends) ends = refl
said-unchanged first (Err fault) ends = refl

-- a line that lists domains ends no policy
list-open : (listed : Result PolicyValue PolicyFault) → list_answer listed ≡ Ok nexts.Schedule → ⊥
list-open (Ok policy) ends = cc
list-open (Err fault) ends = cc

-- a line that ends the policy leaves it as it was
unchanged : (first : PolicyValue) (line : List ℕ) → line_answer first line ≡ Ok nexts.Schedule → line_policy first line ≡ first
unchanged first line ends = by (lists_domains (words_of line)) ends
  where
    by : (lists : Bool) → (if lists then list_answer (domains_line first line) else answered (policy_line first line)) ≡ Ok nexts.Schedule
        → (if lists then list_policy first (domains_line first line) else after_line first (policy_line first line)) ≡ first
    by true ends = absurd (list-open (domains_line first line) ends)
    by false ends = said-unchanged first (policy_line first line) ends

module _ (policy : PolicyValue) (n : ℕ) where
  stated-end : stated policy n [] ≡ RefusedAt (n + 1) NoEnd
  unfolding stated
  stated-end = refl

  stated-long : (parts : List Part) → stated policy n (LongLine ∷ parts) ≡ RefusedAt (n + 1) LineTooLong
  unfolding stated
  stated-long parts = refl

  stated-past : (parts : List Part) → stated policy n (PastLimit ∷ parts) ≡ PastEnd
  unfolding stated
  stated-past parts = refl

  stated-line : (line : List ℕ) (parts : List Part)
      → stated policy n (Line line ∷ parts)
      ≡ stated_with policy (n + 1) parts (line_answer policy line) (stated (line_policy policy line) (n + 1) parts)
  unfolding stated
  stated-line line parts = refl

  -- by what it answers
  stated-answered : (line : List ℕ) (parts : List Part) (answer : Result Next PolicyFault) → line_answer policy line ≡ answer
      → stated policy n (Line line ∷ parts) ≡ stated_with policy (n + 1) parts answer (stated (line_policy policy line) (n + 1) parts)
  stated-answered line parts answer is =
      stated-line line parts ∙ ap (λ a. stated_with policy (n + 1) parts a (stated (line_policy policy line) (n + 1) parts)) is

  -- one that is taken in leaves it to those behind it what is stated
  stated-taken : (policy' : PolicyValue) (line : List ℕ) (parts : List Part) → JudgesPolicyLine policy line (Ok nexts.Policy) policy' → stated policy n (Line line ∷ parts) ≡ stated policy' (n + 1) parts
  stated-taken policy' line parts judged =
      stated-answered line parts (Ok nexts.Policy) (sym judged.answer) ∙ ap (λ (x : PolicyValue). stated x (n + 1) parts) (sym judged.after)

  -- one that ends the policy states it
  stated-over : (policy' : PolicyValue) (line : List ℕ) (parts : List Part) → JudgesPolicyLine policy line (Ok nexts.Schedule) policy' → stated policy n (Line line ∷ parts) ≡ States policy' (n + 1) parts
  stated-over policy' line parts judged =
      let ends = sym judged.answer in
      stated-answered line parts (Ok nexts.Schedule) ends
      ∙ ap (λ (x : PolicyValue). States x (n + 1) parts) (sym (judged.after ∙ unchanged policy line ends))

  -- and one that is refused ends the lines
  stated-refused : (policy' : PolicyValue) (line : List ℕ) (fault : PolicyFault) (parts : List Part) → JudgesPolicyLine policy line (Err fault) policy'
      → stated policy n (Line line ∷ parts) ≡ RefusedAt (n + 1) fault
  stated-refused policy' line fault parts judged =
      stated-answered line parts (Err fault) (sym judged.answer)

-- ---- the policy is over

-- lines were read, and then those behind them state a policy
are_stated-behind : (first mid last : PolicyValue) (n m k : ℕ) (old now new : Option (List Part)) (given : List Part) → Advances old now given
    → ((rest : List Part) → stated first n (given ++ rest) ≡ stated mid m rest) → AreStated mid m now last k new → AreStated first n old last k new
are_stated-behind first mid last n m k None now new given lines makes all = tt
are_stated-behind first mid last n m k (Some parts) None new given lines makes all = absurd lines
are_stated-behind first mid last n m k (Some parts) (Some left) None given lines makes all = absurd all
are_stated-behind first mid last n m k (Some parts) (Some left) (Some rest) given lines makes all = ap (stated first n) lines ∙ makes left ∙ all

-- what was made of the lines that were read is this policy, whatever is left
are_stated-on : (first last : PolicyValue) (n k : ℕ) (old new : Option (List Part)) (given : List Part) → Advances old new given
    → ((rest : List Part) → stated first n (given ++ rest) ≡ States last k rest) → AreStated first n old last k new
are_stated-on first last n k None new given lines makes = tt
are_stated-on first last n k (Some parts) None given lines makes = absurd lines
are_stated-on first last n k (Some parts) (Some rest) given lines makes = ap (stated first n) lines ∙ makes rest

-- ---- the next line

-- there is none, and the policy lacks its end
states-none : (policy : PolicyValue) (old : Reader) (held : Option (List ℕ)) → IsDone (ahead old held) → StateAll policy old held (RefusedAt (old.number + 1) NoEnd)
states-none policy old held done = on_none (ahead old held) (λ parts. stated policy old.number parts ≡ RefusedAt (old.number + 1) NoEnd) done (stated-end policy old.number)

-- it is past the limit
states-past : (policy : PolicyValue) (old : Reader) (held : Option (List ℕ)) → Begins (ahead old held) PastLimit → StateAll policy old held PastEnd
states-past policy old held past =
    on_begun (ahead old held) PastLimit (λ parts. stated policy old.number parts ≡ PastEnd) past (λ rest. stated-past policy old.number rest)

module _ (first policy : PolicyValue) (old new : Reader) (held held' : Option (List ℕ)) where
  -- what reading it came to
  abbrev Came : Result Next (Stop PolicyFault) → Type 0
  Came answer = JudgesNext JudgesPolicyLine LineTooLong first policy old new held held' answer

  -- it is taken in
  pub reads-line : Came (Ok nexts.Policy) → ReadsOn (stated first old.number) (stated policy new.number) old new held held'
  reads-line next =
      reads_on-line (stated first old.number) (stated policy new.number) old new held held' next.0
      (λ rest. stated-taken first old.number policy new.line rest next.1 ∙ ap (λ m. stated policy m rest) (sym next.0.counted))

  -- it ends the policy
  over-line : Came (Ok nexts.Schedule) → IsOver first policy old new held held'
  over-line next =
      let all : (rest : List Part) → stated first old.number (Line new.line ∷ rest) ≡ States policy new.number rest =
      λ rest. stated-over first old.number policy new.line rest next.1 ∙ ap (λ m. States policy m rest) (sym next.0.counted) in
      record {
        known = are_stated-on first policy old.number new.number (ahead old held) (ahead new held') (Line new.line ∷ []) next.0.line all;
        given = λ going. reads_on-line (stated first old.number) (States policy new.number) old new held held' next.0 all;
      }

  -- it is refused
  states-refused : (line : ℕ) (fault : PolicyFault) → Came (Err (stops.Refused line fault)) → StateAll first old held (RefusedAt line fault)
  states-refused line fault next = by_cause next.1
    where
      by_cause : Refuses JudgesPolicyLine LineTooLong first policy old new held held' fault → StateAll first old held (RefusedAt line fault)
      by_cause (inl long) =
          on_begun (ahead old held) LongLine (λ parts. stated first old.number parts ≡ RefusedAt line fault) long.0
          (λ rest. stated-long first old.number rest ∙ ap (RefusedAt (old.number + 1)) (sym long.1) ∙ ap (λ n. RefusedAt n fault) (sym next.0))
      by_cause (inr r) =
          on_given (ahead old held) (ahead new held') (Line new.line ∷ []) (λ parts. stated first old.number parts ≡ RefusedAt line fault) r.reads.line
          (λ rest same. stated-refused first old.number policy new.line fault rest r.judges ∙ ap (λ n. RefusedAt n fault) (sym next.0))

-- ---- all lines

module _ (first mid last : PolicyValue) (old now new : Reader) (held held' held'' : Option (List ℕ)) (r : ReadsOn (stated first old.number) (stated mid now.number) old now held held') where
  -- lines were read, and then the policy is over
  over-behind : IsOver mid last now new held' held'' → IsOver first last old new held held''
  over-behind over = record {
    known = are_stated-behind first mid last old.number now.number new.number (ahead old held) (ahead now held') (ahead new held'') r.given r.lines r.makes over.known;
    given = λ going. reads_on-trans (stated first old.number) (stated mid now.number) (States last new.number) old now new held held' held'' r (over.given going);
  }

  -- a line ends it
  pub states-over : Came mid last now new held' held'' (Ok nexts.Schedule) → IsOver first last old new held held''
  states-over next = over-behind (over-line mid last now new held' held'' next)

  -- none does, and there is no further line
  pub states-rest : (stop : Stop PolicyFault) → Came mid last now new held' held'' (Err stop) → StatesRest first last old new held held'' (without_end new.number stop)
  states-rest stops.End next =
      on_lines _ _ old now held held' (λ s. s ≡ RefusedAt (new.number + 1) NoEnd) r
      (subst (λ n. StateAll mid now held' (RefusedAt (n + 1) NoEnd)) (ap (λ (reader : Reader). reader.number) (sym next.0.reader)) (states-none mid now held' next.0.none))
  states-rest (stops.Refused line fault) next =
      on_lines _ _ old now held held' (λ s. s ≡ RefusedAt line fault) r (states-refused mid last now new held' held'' line fault next)
  states-rest stops.TooLong next = on_lines _ _ old now held held' (λ s. s ≡ PastEnd) r (states-past mid now held' next.0)
  states-rest stops.ReadFault next =
      subst (λ made. FailsOn (stated first old.number) made old new held held'')
      (stated-end mid now.number ∙ ap (λ n. RefusedAt (n + 1) NoEnd) (sym next.0.counted))
      (fails_on (stated first old.number) (stated mid now.number) old now new held held' held'' r next.0)
