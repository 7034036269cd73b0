-- Lines of a policy as values, those that a policy has, and the policy without one. (Own.)
use Rattle.std.specs.Prelude.{ℕ, ◌<◌, Bool, true, false, if◌then◌else◌, List, ◌++◌, length, Option, Some, None}
use Rattle.separation_policy.specs.declared.rights.Rights.{Rights}
use Rattle.separation_policy.specs.DomainSet.{without_domain}
use Rattle.separation_policy.specs.Policy.{PolicyValue, may_read, may_write, may_halt, may_log}
use Rattle.separation_policy.specs.Making.{rights_at, with_rights}
use Rattle.separation_check.specs.Crossings.{all_below, listed}
use Rattle.policy_lines.specs.declared.permission.Permission.{Permission}
use Rattle.policy_lines.specs.declared.permission.Permission.TheVariants.{Reads, Writes, Halts, Logs}

-- the domain that may do something by a line
abbrev pub domain_of_line : Permission → ℕ
domain_of_line (Reads a b) = a
domain_of_line (Writes a b) = a
domain_of_line (Halts a) = a
domain_of_line (Logs a) = a

-- the domains of a line are among so many
abbrev pub IsMade : ℕ → Permission → Type 0
IsMade count (Reads a b) = (a < count) × (b < count)
IsMade count (Writes a b) = (a < count) × (b < count)
IsMade count (Halts a) = a < count
IsMade count (Logs a) = a < count

-- ---- the policy without a line

-- what its domain may do without it
abbrev pub rights_without : Rights → Permission → Rights
rights_without rights (Reads a b) = record rights { reads = without_domain rights.reads b }
rights_without rights (Writes a b) = record rights { writes = without_domain rights.writes b }
rights_without rights (Halts a) = record rights { halts = false }
rights_without rights (Logs a) = record rights { logs = false }

-- the policy where its domain may do no more, and all else as it was
abbrev pub without : PolicyValue → Permission → PolicyValue
without policy line = with_rights policy (domain_of_line line) (rights_without (rights_at policy (domain_of_line line)) line)

-- ---- the lines of a policy

-- the line that domain `a` reads domain `b`, if it may
abbrev pub reading_by : PolicyValue → ℕ → ℕ → Option Permission
reading_by policy a b = if may_read policy a b then Some (Reads a b) else None

-- the line that it writes that, if it may
abbrev pub writing_by : PolicyValue → ℕ → ℕ → Option Permission
writing_by policy a b = if may_write policy a b then Some (Writes a b) else None

-- the one or the other
abbrev pub channel_by : PolicyValue → Bool → ℕ → ℕ → Option Permission
channel_by policy writes a b = if writes then writing_by policy a b else reading_by policy a b

-- such lines of domain `a`, by the domains that it may read or write
abbrev pub channels_from : PolicyValue → Bool → ℕ → List Permission
channels_from policy writes a = all_below (λ b. listed (channel_by policy writes a b)) (length policy.domains)

-- of all domains, by their numbers
abbrev pub channels_by : PolicyValue → Bool → List Permission
channels_by policy writes = all_below (channels_from policy writes) (length policy.domains)

-- the lines `reads` of a policy, and then those `writes`
abbrev pub channels_of : PolicyValue → List Permission
channels_of policy = channels_by policy false ++ channels_by policy true

-- the line that objects of domain `a` may hold SysCtl, if they may
abbrev pub halting_by : PolicyValue → ℕ → Option Permission
halting_by policy a = if may_halt policy a then Some (Halts a) else None

-- the line that they may hold KernLog, if they may
abbrev pub logging_by : PolicyValue → ℕ → Option Permission
logging_by policy a = if may_log policy a then Some (Logs a) else None

-- all lines of a policy: `reads`, `writes`, `halts` and `logs`
abbrev pub lines_of : PolicyValue → List Permission
lines_of policy =
    channels_of policy
    ++ (all_below (λ a. listed (halting_by policy a)) (length policy.domains)
    ++ all_below (λ a. listed (logging_by policy a)) (length policy.domains))
