-- The laws of what is found: it is found for the whole page, and costs nothing.
use Rattle.std.proofs.Common.{◌≡◌, ℕ, ◌/◌, Bool, true, false, not, ◌&&◌, if◌then◌else◌, List, [], Ok, refl, sym, ap, ◌∙◌}
use Rattle.std.proofs.lemmas.Bool.{false≢true}
use Rattle.cap_format.specs.Capability.{Capability}
use Rattle.object_store.specs.Store.{Items}
use Rattle.walk_meaning.specs.declared.kind.Kind.{Kind}
use Rattle.walk_meaning.specs.Walk.{access}
use Rattle.walk_meaning.specs.Trail.{slots, trail}
use Rattle.tlb_model.specs.declared.entry.Entry.{Entry}
use Rattle.kept_pages.specs.Found.{CostsNothing, IsReached}
use Rattle.map_cache.specs.Kept.{KeptValue, added, added_to, cost_of, counted, fits, is_new, is_reached, is_spared, kept_after, tlb_after}

-- the second of two that hold
second : (a b : Bool) → (a && b) ≡ true → b ≡ true
second true b both = both
second false b both = absurd (false≢true both)

-- where both hold, the first without the second does not
not_without : (a b : Bool) → (a && b) ≡ true → (a && not b) ≡ false
not_without true true both = refl
not_without true false both = absurd (false≢true both)
not_without false b both = refl

module _ (k : KeptValue) (o : Items) (c : Capability) (a : ℕ) (kind : Kind) where
  -- what is found for one address is found for all of the page
  pub found_paged : (b : ℕ) → a / 4096 ≡ b / 4096 → IsReached o c b kind → is_spared k o c a kind ≡ true → is_spared k o c b kind ≡ true
  found_paged b page reached found =
      let held : k.held (counted o c) (b / 4096) ≡ true = ap (k.held (counted o c)) (sym page) ∙ second (is_reached (access o c a kind)) (k.held (counted o c) (a / 4096)) found in
      (λ i. is_reached (reached.reached i) && held i)

  -- what is found costs nothing
  pub found_free : is_spared k o c a kind ≡ true → CostsNothing cost_of kept_after tlb_after k o c a kind
  found_free found = record {
    free = ap (λ (b : Bool). if b then 0 else slots o c a kind) found;
    stays = ap (λ (b : Bool). if b then added_to k (counted o c) (a / 4096) (trail o c a kind) else k) no;
    spares = λ entries. ap (λ (b : Bool). if b && not (fits (added k (counted o c) (a / 4096) (trail o c a kind))) then [] else entries) no;
  }
    where
      no : is_new k o c a kind ≡ false
      no = not_without (is_reached (access o c a kind)) (k.held (counted o c) (a / 4096)) found
