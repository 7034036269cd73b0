-- Lines of a policy that are written with the names of its domains, and what it is that they are read as themselves. (Own.)
use Rattle.std.specs.Prelude.{ℕ, ◌≡◌, ◌<◌, List, [], ◌∷◌, ◌++◌, codes, Ok, ⊤}
use Rattle.coy_io.specs.Lines.{IsFront}
use Rattle.separation_policy.specs.Policy.{PolicyValue}
use Rattle.separation_lines.specs.PolicyLine.{after_said, policy_line}
use Rattle.separation_lines.specs.DomainsLine.{line_answer, line_policy}
use Rattle.separation_lines.specs.Names.{domain_name}
use Rattle.separation_lines.specs.declared.said.Next.TheVariants.{Policy}
use Rattle.separation_lines.specs.declared.said.Said.{Said}
use Rattle.separation_lines.specs.declared.said.Said.TheVariants.{Reads, Writes, Halts, Logs}

-- ---- one line

-- what a line says that lets a domain do something, where its domains are among so many
abbrev pub IsPermission : ℕ → Said → Type 0
IsPermission count (Reads reader read) = (reader < count) × (read < count)
IsPermission count (Writes writer written) = (writer < count) × (written < count)
IsPermission count (Halts domain) = domain < count
IsPermission count (Logs domain) = domain < count
IsPermission count _ = ⊥

-- a first word with its space, and two domains
abbrev pub channel_line : PolicyValue → List ℕ → ℕ → ℕ → List ℕ
channel_line policy word a b = word ++ (domain_name policy a ++ (codes " " ++ domain_name policy b))

-- the same of one domain
abbrev pub right_line : PolicyValue → List ℕ → ℕ → List ℕ
right_line policy word a = word ++ domain_name policy a

-- the line that says this, with the names that the policy has
abbrev pub written_line : PolicyValue → Said → List ℕ
written_line policy (Reads reader read) = channel_line policy (codes "reads ") reader read
written_line policy (Writes writer written) = channel_line policy (codes "writes ") writer written
written_line policy (Halts domain) = right_line policy (codes "halts ") domain
written_line policy (Logs domain) = right_line policy (codes "logs ") domain
written_line policy _ = []

-- a line is read as this: it is a line of an input, it says so, the next line is one of the policy, and the policy is then
-- what this makes of it
pub record IsReadAs (policy : PolicyValue) (line : List ℕ) (said : Said) : Type 0 where
  pub front : IsFront line
  pub says : policy_line policy line ≡ Ok said
  pub answer : line_answer policy line ≡ Ok Policy
  pub after : line_policy policy line ≡ after_said policy said

-- ---- several lines

-- the policy after lines, of which each is read where those before it were
abbrev pub lines_policy : PolicyValue → List (List ℕ) → PolicyValue
lines_policy policy [] = policy
lines_policy policy (line ∷ lines) = lines_policy (line_policy policy line) lines

-- behind each of them the next line is one of the policy
abbrev pub AreTaken : PolicyValue → List (List ℕ) → Type 0
AreTaken policy [] = ⊤
AreTaken policy (line ∷ lines) = (line_answer policy line ≡ Ok Policy) × AreTaken (line_policy policy line) lines

-- the policy after what lines say, one after the other
abbrev pub after_each : PolicyValue → List Said → PolicyValue
after_each policy [] = policy
after_each policy (said ∷ rest) = after_each (after_said policy said) rest

-- lines are read as these: each is taken in, and the policy is then what all of them make of it
pub record AreReadAs (policy : PolicyValue) (lines : List (List ℕ)) (all : List Said) : Type 0 where
  pub taken : AreTaken policy lines
  pub after : lines_policy policy lines ≡ after_each policy all
