-- Where capabilities lead, as far as it matters for who comes to what, and for which pages are written. (Own.)
use Rattle.std.specs.Prelude.{◌≡◌, ℕ, zero, suc, ◌*◌, ◌/◌, ◌%◌, Bool, false, not, List, [], ◌∷◌, ◌++◌}
use Rattle.cap_format.specs.declared.kind.CapKind.{CapKind}
use Rattle.cap_format.specs.declared.kind.CapKind.TheVariants.{Null, Page, CapPage, Gpt, Window, Endpoint, Process, Range}
use Rattle.cap_format.specs.Capability.{Capability}
use Rattle.cap_format.specs.Weakening.{is_harmless}
use Rattle.object_store.specs.Store.{Store, size_of}
use Rattle.object_store.specs.Meaning.{state_map}
use Rattle.object_store.specs.Places.{cap_in, places_in}
use Rattle.confine_check.specs.Full.{AreFull}
use Rattle.quiet_finding.specs.declared.leads.Lead.{Lead}
use Rattle.quiet_finding.specs.Reaching.{IsReaching, ReachingValue}

-- to an object of a kind that isn't written
abbrev pub lead_to : CapKind → ℕ → Lead
lead_to kind object = record { kind = kind; object = object; writes = false }

-- where a capability of this kind leads, by which one may write or not: to the page, GPT or process that it names; by a Range or
-- a window beyond what it names, wherever that is; and by others nowhere
abbrev pub lead_by : CapKind → ℕ → Bool → Lead
lead_by Page object writes = record { kind = Page; object = object; writes = writes }
lead_by Gpt object writes = lead_to Gpt object
lead_by Process object writes = lead_to Process object
lead_by Range object writes = lead_to Range 0
lead_by Window object writes = lead_to Window 0
lead_by _ object writes = lead_to Null 0

-- where a capability leads
abbrev pub lead_of : Capability → Lead
lead_of c = lead_by c.kind c.object (not (is_harmless c))

-- where the capability in a place leads: the places of all objects of a kind are numbered one object after the other
abbrev pub lead_in : Store → CapKind → ℕ → Lead
lead_in s kind place = lead_of (cap_in s kind (place / places_in kind) (place % places_in kind))

-- those of so many places, in their order
unfoldable pub listed : (ℕ → Lead) → ℕ → List Lead
listed leads zero = []
listed leads (suc n) = listed leads n ++ leads n ∷ []

-- those of all objects of a kind
abbrev pub leads_of : Store → CapKind → List Lead
leads_of s kind = listed (lead_in s kind) (size_of s.items kind * places_in kind)

-- where the capabilities of processes, capability pages, GPTs and endpoints lead
pub record LeadsValue : Type 0 where
  pub processes : List Lead
  pub cappages : List Lead
  pub gpts : List Lead
  pub endpoints : List Lead

-- so do they in these objects
pub record AreLeadsOf (s : Store) (leads : LeadsValue) : Type 0 where
  pub processes : leads.processes ≡ leads_of s Process
  pub cappages : leads.cappages ≡ leads_of s CapPage
  pub gpts : leads.gpts ≡ leads_of s Gpt
  pub endpoints : leads.endpoints ≡ leads_of s Endpoint

-- tables of what is found out of capabilities, with where these led
pub record KeptValue : Type 0 where
  pub leads : LeadsValue
  pub reaching : ReachingValue

-- both by their parts
abbrev pub kept_by : List Lead → List Lead → List Lead → List Lead → ReachingValue → KeptValue
kept_by processes cappages gpts endpoints reaching = record {
  leads = record { processes = processes; cappages = cappages; gpts = gpts; endpoints = endpoints };
  reaching = reaching;
}

-- the tables are right for all objects whose capabilities lead there, each of which has all of its places
abbrev pub IsRight : KeptValue → Type 0
IsRight kept = (s : Store) → AreFull s → AreLeadsOf (state_map s) kept.leads → IsReaching (state_map s) kept.reaching
