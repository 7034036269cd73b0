-- Whether an access may belong to a quiet step, by what is looked up in the tables.
use Rattle.std.proofs.Common.{◌≡◌, ℕ, Bool, true, false, not, ◌&&◌, ◌||◌, List, Result, Ok, Err, refl, sym, ◌∙◌, ap, ap₂}
use Rattle.std.specs.List.{list_all}
use Rattle.cap_format.specs.declared.item.Item.{Item}
use Rattle.cap_format.specs.declared.item.Item.TheVariants.{Header, Slot}
use Rattle.cap_format.specs.declared.kind.CapKind.TheVariants.{Page, Gpt}
use Rattle.walk_meaning.specs.declared.kind.Kind.{Kind}
use Rattle.walk_meaning.specs.declared.noted.Noted.{Noted}
use Rattle.walk_meaning.specs.declared.place.Place.{Place}
use Rattle.walk_meaning.specs.declared.place.WalkFault.{WalkFault}
use Rattle.walk_meaning.specs.Walk.{access}
use Rattle.walk_meaning.specs.Trail.{trail}
use Rattle.walk_engine.specs.Answer.{hit_of}
use Rattle.machine_state.specs.State.{State, space_of}
use Rattle.machine_state.specs.DataAccess.{data_access}
use Rattle.quiet_runs.specs.Reaching.{is_alone}
use Rattle.quiet_runs.specs.Finding.{is_own, is_quiet_access, is_settled, may_pass, may_reach, only_reads}
use Rattle.quiet_finding.specs.Reaching.{IsReaching, ReachingValue, finds_passable, finds_settled}
use Rattle.quiet_finding.proofs.Walking.{all-same}

-- ---- what the tables say

module _ (s : State) (r : ReachingValue) (is : IsReaching s.store r) where
  settled-is : (n : ℕ) → finds_settled r n ≡ is_settled s.store n
  settled-is n = ap₂ (λ (a b : Bool). not a && not b) is.writing.range (is.writing.pages n)

  passable-is : (p : ℕ) (item : Item) → finds_passable r p item ≡ may_pass s p item
  passable-is p (Header Page n) = settled-is n
  passable-is p (Header Gpt g) = ap (is_alone p) (is.comers.gpts g)
  passable-is p (Header _ n) = refl
  passable-is p (Slot g i) = ap (is_alone p) (is.comers.gpts g)

  way-is : (p : ℕ) (reads : List Noted) → list_all (λ (x : Noted). finds_passable r p x.item) reads ≡ list_all (λ (x : Noted). may_pass s p x.item) reads
  way-is p reads = all-same (λ x. finds_passable r p x.item) (λ x. may_pass s p x.item) (λ x. passable-is p x.item) reads

  -- the page is settled, and so the way there the process's own
  pub settled-way : (p n : ℕ) (reads : List Noted) → (finds_settled r n && list_all (λ (x : Noted). finds_passable r p x.item) reads)
      ≡ (is_settled s.store n && list_all (λ (x : Noted). may_pass s p x.item) reads)
  settled-way p n reads = ap₂ (λ (a b : Bool). a && b) (settled-is n) (way-is p reads)

  -- what isn't the process's own may be reached where it only is read, and so
  pub may-read : (p n : ℕ) (kind : Kind) (reads : List Noted) (b : Bool) → is_own s p n ≡ false → only_reads kind ≡ true
      → b ≡ (finds_settled r n && list_all (λ (x : Noted). finds_passable r p x.item) reads)
      → b ≡ (is_own s p n || (only_reads kind && (is_settled s.store n && list_all (λ (x : Noted). may_pass s p x.item) reads)))
  may-read p n kind reads b own only found =
      found
      ∙ (settled-way p n reads
      ∙ ap₂ (λ (a c : Bool). a || (c && (is_settled s.store n && list_all (λ (x : Noted). may_pass s p x.item) reads))) (sym own) (sym only))

-- ---- walks

module _ (s : State) (p at : ℕ) (kind : Kind) (reads : List Noted) (way : reads ≡ trail s.store.items (space_of s p) at kind) where
  -- the page may be reached by what was read
  pub by-way : (n : ℕ) → (is_own s p n || (only_reads kind && (is_settled s.store n && list_all (λ (x : Noted). may_pass s p x.item) reads))) ≡ may_reach s p at kind n
  by-way n = ap (λ (ns : List Noted). is_own s p n || (only_reads kind && (is_settled s.store n && list_all (λ (x : Noted). may_pass s p x.item) ns))) way

-- a walk that reached a page, which may be reached or not
pub quiet-walk : (s : State) (p at : ℕ) (kind : Kind) (place : Place) (b : Bool) → access s.store.items (space_of s p) at kind ≡ Ok place
    → b ≡ may_reach s p at kind place.number → b ≡ is_quiet_access s p at kind (data_access s p at kind)
quiet-walk s p at kind place b reached may = may ∙ ap (λ (r : Result Place WalkFault). is_quiet_access s p at kind (hit_of r)) (sym reached)

-- a walk that reached none
pub faulted-walk : (s : State) (p at : ℕ) (kind : Kind) (fault : WalkFault) → access s.store.items (space_of s p) at kind ≡ Err fault
    → false ≡ is_quiet_access s p at kind (data_access s p at kind)
faulted-walk s p at kind fault faulted = ap (λ (r : Result Place WalkFault). is_quiet_access s p at kind (hit_of r)) (sym faulted)
