-- Walks that are kept: why they lead where they do, and how long.
use Rattle.std.proofs.Common.{◌≡◌, ◌/◌, ◌%◌, ◌<◌, ℕ, true, not, nat_lt, length, Bool, ◌&&◌, ◌||◌, List, [], ◌∷◌, Option, Some, None, IfSome, Result, Ok, Err, refl, sym, ap, ap₂, ◌∙◌, subst}
use Rattle.std.specs.List.{list_all}
use Rattle.cap_format.specs.Capability.{IsCapability}
use Rattle.cap_format.specs.declared.item.Item.{Item}
use Rattle.cap_format.specs.declared.item.Item.TheVariants.{Header, Slot}
use Rattle.cap_format.specs.declared.kind.CapKind.TheVariants.{Page, Gpt}
use Rattle.object_store.specs.Ranges.{IsRanged}
use Rattle.schedules.specs.Queues.{hart_of}
use Rattle.walk_meaning.specs.declared.kind.Kind.{Kind}
use Rattle.walk_meaning.specs.declared.kind.Kind.TheVariants.{Fetch, Load, Store}
use Rattle.walk_meaning.specs.declared.noted.Noted.{Noted}
use Rattle.walk_meaning.specs.declared.place.Place.{Place}
use Rattle.walk_meaning.specs.declared.place.WalkFault.{WalkFault}
use Rattle.walk_meaning.specs.Walk.{access}
use Rattle.walk_meaning.specs.Trail.{trail}
use Rattle.walk_meaning.specs.Laws.{PageLaw, WalkedAlike}
use Rattle.walk_engine.specs.declared.hit.Hit.{Hit}
use Rattle.walk_engine.specs.Answer.{hit_of}
use Rattle.machine_state.specs.State.{State, space_of}
use Rattle.machine_state.specs.DataAccess.{data_access}
use Rattle.quiet_runs.specs.Reaching.{is_alone}
use Rattle.quiet_runs.specs.Finding.{goes_by_own, is_own, is_range, is_settled, may_pass, may_reach, may_write, only_reads}
use Rattle.quiet_runs.specs.Laws.{LookAlike}
use Rattle.quiet_finding.specs.declared.walks.QuietPage.{QuietPage}
use Rattle.quiet_finding.specs.declared.walks.KeptWalks.{KeptWalks}
use Rattle.quiet_finding.specs.Walks.{AreKept, AreKeptOn, LeadsQuietly}
use Rattle.quiet_finding.proofs.Kept.{cap-same}

-- tests that agree of each hold of all alike
pub all-same : (f g : Noted → Bool) → ((n : Noted) → f n ≡ g n) → (ns : List Noted) → list_all f ns ≡ list_all g ns
all-same f g same [] = refl
all-same f g same (n ∷ ns) = ap₂ (λ (a b : Bool). a && b) (same n) (all-same f g same ns)

-- ---- why it leads there

-- what a page may be reached by depends on the way alone
way-same : (s : State) (p at a : ℕ) (kind : Kind) (n : ℕ) → trail s.store.items (space_of s p) a kind ≡ trail s.store.items (space_of s p) at kind
    → may_reach s p a kind n ≡ may_reach s p at kind n
way-same s p at a kind n same =
    ap (λ (ns : List Noted). is_own s p n || (only_reads kind && (is_settled s.store n && list_all (λ (x : Noted). may_pass s p x.item) ns))) same

-- what one address of a page leads to, all do
pub walked-quietly : PageLaw → (s : State) (p at : ℕ) (kind : Kind) (place : Place) → IsRanged s.store.items → IsCapability (space_of s p)
    → access s.store.items (space_of s p) at kind ≡ Ok place → place.number < length s.store.contents.pages → may_reach s p at kind place.number ≡ true
    → LeadsQuietly s p kind (record { addresses = at / 4096; page = place.number })
walked-quietly law s p at kind place ranged is answer there may = record {
  there = there;
  may = λ a same. way-same s p at a kind place.number (alike a same).reads ∙ may;
  leads = λ a same. ap hit_of (alike a same).reached;
}
  where
    alike : (a : ℕ) → a / 4096 ≡ at / 4096 → WalkedAlike s.store.items (space_of s p) at a kind place
    alike a same = law s.store.items (space_of s p) at a kind place ranged is (sym same) answer

-- ---- of whom, and how long

-- where none is kept, all that are lead there
pub none-kept : (s : State) (hart : ℕ) (kept : KeptWalks) → kept.fetch ≡ None → kept.load ≡ None → kept.store ≡ None → AreKeptOn s hart kept
none-kept s hart kept fetch load store p on = (
  subst (λ (o : Option QuietPage). IfSome o (LeadsQuietly s p Fetch)) (sym fetch) tt,
  subst (λ (o : Option QuietPage). IfSome o (LeadsQuietly s p Load)) (sym load) tt,
  subst (λ (o : Option QuietPage). IfSome o (LeadsQuietly s p Store)) (sym store) tt,
)

module _ (s t : State) (alike : LookAlike s t) (p : ℕ) where
  -- the same pages are the process's own
  own-after : (n : ℕ) → is_own t p n ≡ is_own s p n
  own-after n = ap₂ (λ (count : ℕ) by. nat_lt n count && is_alone p by) alike.pages (alike.hold.reached Page n)

  -- the same are settled
  settled-after : (n : ℕ) → is_settled t.store n ≡ is_settled s.store n
  settled-after n = ap₂ (λ (a b : Bool). not a && not b)
      (cap-same s.store t.store alike.hold (λ c. is_range c.kind)) (cap-same s.store t.store alike.hold (may_write n))

  -- walks may read the same
  pass-after : (item : Item) → may_pass t p item ≡ may_pass s p item
  pass-after (Header Page n) = settled-after n
  pass-after (Header Gpt g) = ap (is_alone p) (alike.hold.reached Gpt g)
  pass-after (Header _ n) = refl
  pass-after (Slot g i) = ap (is_alone p) (alike.hold.reached Gpt g)

  goes-after : (at : ℕ) (kind : Kind) → goes_by_own t p at kind ≡ goes_by_own s p at kind
  goes-after at kind =
      ap (λ (ns : List Noted). list_all (λ (n : Noted). may_pass t p n.item) ns) (alike.ways p at kind)
      ∙ all-same (λ n. may_pass t p n.item) (λ n. may_pass s p n.item) (λ n. pass-after n.item) (trail s.store.items (space_of s p) at kind)

  may-after : (at : ℕ) (kind : Kind) (n : ℕ) → may_reach t p at kind n ≡ may_reach s p at kind n
  may-after at kind n = ap₂ (λ (a b : Bool). a || (only_reads kind && b)) (own-after n)
      (ap₂ (λ (a b : Bool). a && b) (settled-after n) (goes-after at kind))

  leads-after : (kind : Kind) (kept : QuietPage) → LeadsQuietly s p kind kept → LeadsQuietly t p kind kept
  leads-after kind kept leads = record {
    there = subst (λ (count : ℕ). kept.page < count) (sym alike.pages) leads.there;
    may = λ at is. may-after at kind kept.page ∙ leads.may at is;
    leads = λ at is. alike.walks p at kind ∙ leads.leads at is;
  }

  one-after : (kind : Kind) (kept : Option QuietPage) → IfSome kept (LeadsQuietly s p kind) → IfSome kept (LeadsQuietly t p kind)
  one-after kind None is = tt
  one-after kind (Some kept) is = leads-after kind kept is

-- they lead there as long as what one looks at is the same
pub kept-after : (s t : State) (hart : ℕ) (kept : KeptWalks) → LookAlike s t → AreKeptOn s hart kept → AreKeptOn t hart kept
kept-after s t hart kept alike are p on =
    let here = are p (ap (λ q. hart_of q hart) (sym alike.queues) ∙ on) in
    (one-after s t alike p Fetch kept.fetch here.0, one-after s t alike p Load kept.load here.1, one-after s t alike p Store kept.store here.2)
