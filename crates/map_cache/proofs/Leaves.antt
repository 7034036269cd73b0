-- The leaves of spaces: after a new root, a new leaf, and a cleared block.
use Rattle.std.proofs.Common.{◌≡◌, ◌≢◌, inl, inr, ℕ, ◌/◌, Bool, true, false, ◌&&◌, ◌==◌, if◌then◌else◌, List, [], ◌∷◌, ◌++◌, Option, Some, None, refl, sym, ap, ◌∙◌}
use Rattle.std.specs.Prelude.{slice_get}
use Rattle.std.proofs.lemmas.Option.{none-some}
use Rattle.cap_format.specs.Capability.{Capability}
use Rattle.sv32_tables.specs.declared.leaf.Leaf.{Leaf}
use Rattle.sv32_tables.specs.Pool.{PoolValue, leaf_at}
use Rattle.sv32_tables.specs.History.{Installs, MakesRoot}
use Rattle.tlb_model.specs.declared.entry.Entry.{Entry}
use Rattle.depend_table.specs.Depend.{Depend}
use Rattle.map_cache.specs.declared.key.Key.{Key}
use Rattle.map_cache.specs.Key.{has_key, region_key, root_key, same_space, with_key}
use Rattle.map_cache.specs.Cache.{IsCache, cache_of, leaf_in, root_at}
use Rattle.map_cache.specs.Effects.{SameLeaves, SetsLeaf}
use Rattle.map_cache.proofs.Keyed.{root_at-is, root_at-new, root_at-other, root_at-some}
use Rattle.map_cache.proofs.Invariant.{leaf_at-words, root_made}
use Rattle.depend_table.proofs.Coded.{apart-more, has-at, key_cases, one_key, key_itself, key_tells}
use Rattle.depend_table.proofs.Tests.{number_itself, same_numbers, same_tests}
use Rattle.depend_table.specs.Keyed.{AreApart}
use Rattle.map_cache.proofs.Codes.{key_coding, space_coding}

-- a region's key is no root's
pub region_unlike : (space s : Capability) (region : ℕ) → region_key space region ≢ root_key s
region_unlike space s region same = none-some region (sym (ap (λ (k : Key). k.region) same))

-- a region's key changes no space's root
pub root_at-region : (keys : List Key) (space s : Capability) (region : ℕ) → AreApart keys → root_at (with_key keys (region_key space region)) s ≡ root_at keys s
root_at-region keys space s region apart = on (has_key keys (region_key space region)) refl
  where
    on : (b : Bool) → has_key keys (region_key space region) ≡ b → root_at (if b then keys else keys ++ region_key space region ∷ []) s ≡ root_at keys s
    on true is = refl
    on false is = root_at-other keys (region_key space region) s (apart-more key_coding keys (region_key space region) apart is) (region_unlike space s region)

module _ (t : PoolValue) (keys : List Key) (tlbs : List (List Entry)) (ds : List Depend) (cache : IsCache t keys tlbs ds) where
  -- a new root has no leaf, and changes none
  pub leaves-root : (u : PoolValue) (root : ℕ) (space : Capability) (harts : List (List Entry)) → MakesRoot t u root → has_key keys (root_key space) ≡ false
      → SameLeaves (cache_of t keys tlbs ds) (cache_of u (keys ++ root_key space ∷ []) harts ds)
  leaves-root u root space harts makes new s p low = elim (key_cases space_coding s space) [
    | inl same ↦
        let apart = apart-more key_coding keys (root_key space) cache.apart new in
        let there : root_at (keys ++ root_key space ∷ []) s ≡ Some root =
        ap (root_at (keys ++ root_key space ∷ [])) same.1 ∙ root_at-new keys space apart ∙ ap (λ (n : ℕ). Some n) (cache.frames ∙ sym makes.number) in
        ap (leaf_in u p) there ∙ makes.bare p low ∙ sym (ap (leaf_in t p) (gone (root_at keys s) (λ f is. root_at-some keys s f is) same.1))
    | inr other ↦
        ap (leaf_in u p) (root_at-other keys (root_key space) s (apart-more key_coding keys (root_key space) cache.apart new) (λ e. other.1 (sym (ap (λ (k : Key). k.space) e))))
        ∙ words (root_at keys s)
  ]
    where
      words : (r : Option ℕ) → leaf_in u p r ≡ leaf_in t p r
      words None = refl
      words (Some r) = leaf_at-words t u r p makes.words

      gone : (r : Option ℕ) → ((f : ℕ) → r ≡ Some f → slice_get keys f ≡ Some (root_key s)) → s ≡ space → r ≡ None
      gone None some same = refl
      gone (Some f) some same = absurd (
          let at = some f refl ∙ ap (λ (s : Capability). Some (root_key s)) same in
          let there = has-at key_coding keys f (root_key space) at in
          cc)

  -- a page of a space gets a leaf
  pub leaves-install : (u : PoolValue) (root page : ℕ) (leaf : Leaf) (space : Capability) (harts : List (List Entry)) → Installs t u root page leaf → slice_get keys root ≡ Some (root_key space)
      → SetsLeaf (cache_of t keys tlbs ds) (cache_of u (with_key keys (region_key space (page / 1024))) harts ds) space page leaf
  leaves-install u root page leaf space harts installs here s p low =
      ap (leaf_in u p) (root_at-region keys space s (page / 1024) cache.apart) ∙ on (root_at keys s) refl
    where
      on : (r : Option ℕ) → root_at keys s ≡ r → leaf_in u p r ≡ (if same_space s space && (p == page) then Some leaf else leaf_in t p r)
      on None is = off (same_space s space) refl
        where
          off : (b : Bool) → same_space s space ≡ b → None ≡ (if b && (p == page) then Some leaf else None)
          off false other = refl
          off true same_is = absurd (
              let same = key_tells space_coding s space same_is in
              let there = root_at-is keys s root cache.apart (here ∙ ap (λ (s : Capability). Some (root_key s)) (sym same)) in
              none-some root (sym is ∙ there))
      on (Some r) is =
          let at = root_at-some keys s r is in
          let made = root_made t keys tlbs ds cache r s at in
          installs r p (record { made = made; inside = low })
          ∙ ap (λ (b : Bool). if b && (p == page) then Some leaf else leaf_at t r p) (same_tests (r == root) (same_space s space)
          (λ one.
          let at' = ap (slice_get keys) (sym (same_numbers r root one)) ∙ at in
          let k = one_key keys root (root_key s) (root_key space) at' here in
          ap (same_space s) (sym (ap (λ (k : Key). k.space) k)) ∙ key_itself space_coding s)
          (λ same_is.
          let same = key_tells space_coding s space same_is in
          let there = root_at-is keys s root cache.apart (here ∙ ap (λ (s : Capability). Some (root_key s)) (sym same)) in
          let some : Some r ≡ Some root = sym is ∙ there in
          let one : r ≡ root = cc in
          ap (λ (n : ℕ). n == root) one ∙ number_itself root))
