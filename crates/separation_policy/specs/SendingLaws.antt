-- The laws of policies whose domains send each other messages, as statements.
use Rattle.std.specs.Prelude.{◌≡◌, ◌≢◌, ◌↔◌, ℕ, false, Some}
use Rattle.cap_format.specs.declared.kind.CapKind.TheVariants.{Process}
use Rattle.object_store.specs.Store.{Store}
use Rattle.operations.specs.System.{System}
use Rattle.machine_state.specs.declared.event.Event.{Event}
use Rattle.machine_state.specs.State.{State}
use Rattle.kernel_core.specs.Event.{performer, event_of}
use Rattle.confinement.specs.declared.cut_side.CutSide.TheVariants.{Left}
use Rattle.confinement.specs.Cut.{Holds, HoldsFor}
use Rattle.confinement.specs.Acts.{Acts, system_of}
use Rattle.separation_policy.specs.Policy.{PolicyValue, domain_of, PolicyHolds}
use Rattle.separation_policy.specs.Sending.{Sending, silent, SendingHolds, IsDeafIn, IsDeaf, AreDeafTo, AcceptsNone, domain_cut, SendIntegrity, send_view_cut, SendNoninterference}

-- A policy in which nobody sends holds exactly where the policy does.
abbrev pub SilentLaw : Type 0
SilentLaw = (policy : PolicyValue) (w : System)
    → SendingHolds (silent policy) w ↔ PolicyHolds policy w

-- A policy that holds without messages holds with any lines of who sends to whom besides, where no domain is plain.
abbrev pub WiderLaw : Type 0
WiderLaw = (x : Sending) (w : System)
    → ((a : ℕ) → x.plain a ≡ false)
    → PolicyHolds x.policy w
    → SendingHolds x w

-- Where a policy holds, the cut holds for what each domain may do.
abbrev pub DomainCutLaw : Type 0
DomainCutLaw = (x : Sending) (w : System) (a : ℕ)
    → SendingHolds x w
    → HoldsFor (domain_cut x a) Left w

-- *A domain reaches no further than it sends*: an event of a process of a domain, in a state in which the policy holds,
-- leaves the cut of that domain holding, and changes beyond nothing but those who may be told and those who are woken.
abbrev pub SendLaw : Type 0
SendLaw = (x : Sending) (s : State) (e : Event) (p : ℕ)
    → SendingHolds x (system_of s)
    → performer s e ≡ Some p
    → Acts (domain_cut x (domain_of x.policy Process p)) Left (system_of s) (system_of (event_of s e).state)

-- *Deafness is each domain's own doing*: an event leaves deaf each domain that was but the one whose process performs it.
abbrev pub DeafLaw : Type 0
DeafLaw = (x : Sending) (s : State) (e : Event) (p b : ℕ)
    → SendingHolds x (system_of s)
    → performer s e ≡ Some p
    → domain_of x.policy Process p ≢ b
    → IsDeafIn x b s.store
    → IsDeafIn x b (event_of s e).state.store

-- Where all domains are deaf, all whom a domain calls are deaf to it.
abbrev pub DeafToLaw : Type 0
DeafToLaw = (x : Sending) (s : Store) (a : ℕ) → IsDeaf x s → AreDeafTo x a s

-- A domain of which no process accepts a capability is deaf.
abbrev pub AcceptLaw : Type 0
AcceptLaw = (x : Sending) (w : System) (b : ℕ)
    → SendingHolds x w
    → AcceptsNone x b w.store
    → IsDeafIn x b w.store

-- Where a policy holds, nobody changes more than he may write and whom he may tell, as long as each sender is plain or those
-- whom it calls are deaf.
abbrev pub SendIntegrityLaw : Type 0
SendIntegrityLaw = (x : Sending) (s : State) → SendingHolds x (system_of s) → SendIntegrity x s

-- Where a policy holds, the cut holds for each domain between its view and all else.
abbrev pub SendViewLaw : Type 0
SendViewLaw = (x : Sending) (w : System) → SendingHolds x w → (a : ℕ) → Holds (send_view_cut x a) w

-- Where a policy holds, nobody sees beyond his view.
abbrev pub SendNoninterferenceLaw : Type 0
SendNoninterferenceLaw = (x : Sending) (s : State) → SendingHolds x (system_of s) → SendNoninterference x s
