-- The laws of policies, as statements.
use Rattle.std.specs.Prelude.{◌≡◌, ◌↔◌, ℕ, true, false}
use Rattle.operations.specs.System.{System}
use Rattle.machine_state.specs.State.{State}
use Rattle.confinement.specs.Cut.{Holds}
use Rattle.confinement.specs.Acts.{system_of}
use Rattle.confinement.specs.authority.Authority.{IsBounded}
use Rattle.separation_policy.specs.Policy.{PolicyValue, Reads, ReadsWriter, Views, PolicyHolds, may_write, sees, sees_written, views, own, seen, view_cut, Integrity, ChangesItself, Noninterference}

-- What `sees` decides is the closure of who may read whom.
abbrev pub ReadsLaw : Type 0
ReadsLaw = (policy : PolicyValue) (a b : ℕ) → (sees policy a b ≡ true) ↔ Reads policy a b

-- What `sees_written` decides is whether a domain that one reads writes another.
abbrev pub WriterLaw : Type 0
WriterLaw = (policy : PolicyValue) (a d : ℕ) → (sees_written policy a d ≡ true) ↔ ReadsWriter policy a d

-- What `views` decides is the view.
abbrev pub ViewsLaw : Type 0
ViewsLaw = (policy : PolicyValue) (a b : ℕ) → (views policy a b ≡ true) ↔ Views policy a b

-- Where no domain writes another, the view of each is what it reads.
abbrev pub PlainViewLaw : Type 0
PlainViewLaw = (policy : PolicyValue) → ((a b : ℕ) → may_write policy a b ≡ false) → (a b : ℕ) → views policy a b ≡ sees policy a b

-- A policy holds exactly where for each domain what it may do is bounded, and what it may look at.
abbrev pub AuthorityLaw : Type 0
AuthorityLaw = (policy : PolicyValue) (w : System) → PolicyHolds policy w ↔ ((a : ℕ) → IsBounded (own policy a) w × IsBounded (seen policy a) w)

-- Where a policy holds, the cut holds for each domain between its view and all else.
abbrev pub ViewCutLaw : Type 0
ViewCutLaw = (policy : PolicyValue) (w : System) → PolicyHolds policy w → (a : ℕ) → Holds (view_cut policy a) w

-- Where a policy holds, nobody changes what he may not write, and it holds for good.
abbrev pub IntegrityLaw : Type 0
IntegrityLaw = (policy : PolicyValue) (s : State) → PolicyHolds policy (system_of s) → Integrity policy s

-- Where a policy holds, an object is changed by processes of its own domain alone, or, a page, by those of domains that
-- write it, over any run.
abbrev pub OwnChangesLaw : Type 0
OwnChangesLaw = (policy : PolicyValue) (s : State) → PolicyHolds policy (system_of s) → ChangesItself policy s

-- Where a policy holds, nobody sees beyond his view.
abbrev pub NoninterferenceLaw : Type 0
NoninterferenceLaw = (policy : PolicyValue) (s : State) → PolicyHolds policy (system_of s) → Noninterference policy s
