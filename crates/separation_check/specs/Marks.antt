-- The domains of which an object holds SysCtl, which halts all, and those of which one holds KernLog, which all share (this
-- project's own).
use Rattle.std.specs.Prelude.{ℕ, zero, suc, ◌==◌, nat_lt, if◌then◌else◌}
use Rattle.cap_format.specs.declared.kind.CapKind.{CapKind}
use Rattle.cap_format.specs.declared.kind.CapKind.TheVariants.{CapPage, Gpt, Endpoint, Process, SysCtl, KernLog}
use Rattle.cap_format.specs.Capability.{Capability}
use Rattle.cap_format.specs.Kind.{number_of}
use Rattle.object_store.specs.Store.{Store, size_of}
use Rattle.machine_state.specs.State.{State}
use Rattle.object_store.specs.Places.{places_in, cap_in}
use Rattle.separation_policy.specs.DomainSet.{no_domains, with_domain, both_domains}
use Rattle.separation_policy.specs.Policy.{PolicyValue, domain_of}
use Rattle.separation_policy.specs.declared.domain_set.DomainSet.{DomainSet}
use Rattle.separation_check.specs.declared.marks.Marks.{Marks}

-- no domain has either
abbrev pub no_marks : Marks
no_marks = record { halts = no_domains; logs = no_domains }

-- a domain has what one of both says
abbrev pub both_marks : Marks → Marks → Marks
both_marks some others = record { halts = both_domains some.halts others.halts; logs = both_domains some.logs others.logs }

-- this domain alone
abbrev pub alone : ℕ → DomainSet
alone domain = if nat_lt domain 64 then with_domain no_domains domain else no_domains

-- this domain alone, if a capability is of a kind
abbrev pub alone_if : CapKind → Capability → ℕ → DomainSet
alone_if kind c domain = if number_of c.kind == number_of kind then alone domain else no_domains

-- what a capability says of the domain in which it stands
abbrev pub marks_by : ℕ → Capability → Marks
marks_by domain c = record { halts = alone_if SysCtl c domain; logs = alone_if KernLog c domain }

-- what is said by all numbers below `n`
unfoldable pub marks_below : (ℕ → Marks) → ℕ → Marks
marks_below f zero = no_marks
marks_below f (suc n) = both_marks (marks_below f n) (f n)

-- by the capability in each place of an object
abbrev pub object_marks : PolicyValue → (CapKind → ℕ → ℕ → Capability) → CapKind → ℕ → Marks
object_marks policy held kind n = marks_below (λ i. marks_by (domain_of policy kind n) (held kind n i)) (places_in kind)

-- by all objects of a kind
abbrev pub kind_marks : PolicyValue → (CapKind → ℕ → ℕ → Capability) → Store → CapKind → Marks
kind_marks policy held s kind = marks_below (object_marks policy held kind) (size_of s.items kind)

-- by all objects; pages hold no capability
abbrev pub all_marks : PolicyValue → (CapKind → ℕ → ℕ → Capability) → Store → Marks
all_marks policy held s =
    both_marks (kind_marks policy held s CapPage)
    (both_marks (kind_marks policy held s Gpt)
    (both_marks (kind_marks policy held s Endpoint) (kind_marks policy held s Process)))

-- of a state, in which each capability stands as it means
abbrev pub marks_in : PolicyValue → State → Marks
marks_in policy s = all_marks policy (cap_in s.store) s.store
