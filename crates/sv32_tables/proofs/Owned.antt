-- A shared pool whose frames have owners: what each call leaves of it, and of the leaves of its pages.
use Rattle.std.proofs.Common.{◌≡◌, ◌⊎◌, inl, inr, ℕ, zero, suc, ◌/◌, ◌%◌, ◌<◌, ◌^◌, ◌==◌, ◌&&◌, if◌then◌else◌, Bool, true, false, List, [], ◌∷◌, ◌++◌, length, map, Option, Some, None, refl, ap, sym, ◌∙◌, arith}
use Rattle.std.specs.List.{slice_get}
use Rattle.std.proofs.lemmas.Bool.{false≢true}
use Rattle.std.proofs.lemmas.Bool.Decides.{nat_tests}
use Rattle.std.proofs.lemmas.List.{length-map, map-append}
use Rattle.std.proofs.lemmas.Option.{none-some}
use Rattle.sv32_tables.specs.declared.leaf.Leaf.{Leaf as Entry}
use Rattle.sv32_tables.specs.declared.frame_use.FrameUse.{FrameUse}
use Rattle.sv32_tables.specs.declared.frame_use.FrameUse.TheVariants.{Root, Region}
use Rattle.sv32_tables.specs.declared.shared_use.SharedUse.{SharedUse}
use Rattle.sv32_tables.specs.declared.shared_use.SharedUse.TheVariants.{Root as SharedRoot, Leaf}
use Rattle.sv32_tables.specs.Word.{leaf_of, table_of}
use Rattle.sv32_tables.specs.Pool.{leaf_below, word_at}
use Rattle.sv32_tables.specs.Shared.{IsLeafTable, IsSharedRoot, SharedValue, entry_at, link_at, shared_leaf_at}
use Rattle.sv32_tables.specs.SharedHistory.{Links, MakesFrame, SameLinks}
use Rattle.sv32_tables.specs.Owned.{HasOwners, IsUnder, plain}
use Rattle.sv32_tables.proofs.Choices.{both_equal, if-false, if-true, other_unequal}
use Rattle.sv32_tables.proofs.Uses.{slice_get-more, slice_get-push, slice_get-push_new}

-- what a frame is used for, by its owner
plain-get : (uses : List FrameUse) (frame : ℕ) (u : FrameUse) → slice_get uses frame ≡ Some u → slice_get (map plain uses) frame ≡ Some (plain u)
plain-get [] frame u e = absurd (none-some u e)
plain-get (x ∷ xs) zero u e = let same : x ≡ u = cc in ap (λ (v : FrameUse). Some (plain v)) same
plain-get (x ∷ xs) (suc frame) u e = plain-get xs frame u e

module _ (t : SharedValue) (uses : List FrameUse) (has : HasOwners t uses) where
  -- roots are roots, and the frames of regions are leaf tables
  pub root_there : (r : ℕ) → slice_get uses r ≡ Some Root → IsSharedRoot t r
  root_there r made = ap (λ (us : List SharedUse). slice_get us r) has.plain_uses ∙ plain-get uses r Root made

  pub table_there : (f r i : ℕ) → slice_get uses f ≡ Some (Region r i) → IsLeafTable t f
  table_there f r i for = ap (λ (us : List SharedUse). slice_get us f) has.plain_uses ∙ plain-get uses f (Region r i) for

  pub as_many : length t.uses ≡ length uses
  as_many = ap (λ (us : List SharedUse). length us) has.plain_uses ∙ length-map uses plain

  -- with one more frame
  more_uses : (u : FrameUse) → t.uses ++ plain u ∷ [] ≡ map plain (uses ++ u ∷ [])
  more_uses u = ap (λ (us : List SharedUse). us ++ plain u ∷ []) has.plain_uses ∙ sym (map-append plain uses (u ∷ []))

  -- a new root
  pub owners-root : (new : SharedValue) (root : ℕ) → MakesFrame t new SharedRoot root → HasOwners new (uses ++ Root ∷ [])
  owners-root new root makes = record {
    plain_uses = makes.uses ∙ more_uses Root;
    owned = record {
      first = λ r i f made inside led. first r i f inside led (slice_get-push uses Root r Root made);
      under = λ f r i there. under f r i (slice_get-push uses Root f (Region r i) there);
    };
  }
    where
      link : (r i : ℕ) → link_at new r i ≡ link_at t r i
      link r i = ap (λ (ws : List ℕ). table_of (word_at ws r i)) makes.words

      first : (r i f : ℕ) → i < 1024 → link_at new r i ≡ Some f → (slice_get uses r ≡ Some Root) ⊎ ((r ≡ length uses) × (Root ≡ Root))
          → slice_get (uses ++ Root ∷ []) f ≡ Some (Region r i)
      first r i f inside led (inl made) = slice_get-more uses Root f (Region r i) (has.owned.first r i f made inside (sym (link r i) ∙ led))
      first r i f inside led (inr last) =
          let here : r ≡ root = last.0 ∙ (sym as_many ∙ sym makes.number) in
          absurd (none-some f (sym (makes.bare_root i inside) ∙ (ap (λ (n : ℕ). link_at new n i) (sym here) ∙ led)))

      under : (f r i : ℕ) → (slice_get uses f ≡ Some (Region r i)) ⊎ ((f ≡ length uses) × (Root ≡ Region r i)) → IsUnder new.words (uses ++ Root ∷ []) f r i
      under f r i (inl there) =
          let is = has.owned.under f r i there in
          record { made = slice_get-more uses Root r Root is.made; inside = is.inside; led_to = link r i ∙ is.led_to }
      under f r i (inr last) = let other = last.1 in absurd cc

  -- a frame for a region that has none
  module _ (made new : SharedValue) (root region table : ℕ) (makes : MakesFrame t made Leaf table) (links : Links made new root region table)
      (there : slice_get uses root ≡ Some Root) (within : region < 1024) (nowhere : link_at t root region ≡ None) where
    here : table ≡ length uses
    here = makes.number ∙ as_many

    -- the links of a root
    link : (r i : ℕ) → slice_get uses r ≡ Some Root → i < 1024 → link_at new r i ≡ (if (r == root) && (i == region) then Some table else link_at t r i)
    link r i is inside =
        links.links r i (ap (λ (us : List SharedUse). slice_get us r) makes.uses ∙ slice_get-more t.uses Leaf r SharedRoot (root_there r is)) inside
        ∙ ap (λ (ws : List ℕ). if (r == root) && (i == region) then Some table else table_of (word_at ws r i)) makes.words

    -- a link that was there is not the new one
    other : (r i f : ℕ) → link_at t r i ≡ Some f → ((r == root) && (i == region)) ≡ false
    other r i f led = on ((r == root) && (i == region)) refl
      where
        on : (b : Bool) → ((r == root) && (i == region)) ≡ b → b ≡ false
        on true e =
            let same = both_equal r root i region e in
            absurd (none-some f (sym nowhere ∙ (ap (λ (n : ℕ). link_at t n region) (sym same.0) ∙ (ap (λ (n : ℕ). link_at t r n) (sym same.1) ∙ led))))
        on false e = refl

    pub owners-table : HasOwners new (uses ++ Region root region ∷ [])
    owners-table = record {
      plain_uses = links.uses ∙ (makes.uses ∙ more_uses (Region root region));
      owned = record {
        first = λ r i f is inside led. first r i f inside led (slice_get-push uses (Region root region) r Root is);
        under = λ f r i for. under f r i (slice_get-push uses (Region root region) f (Region r i) for);
      };
    }
      where
        first : (r i f : ℕ) → i < 1024 → link_at new r i ≡ Some f → (slice_get uses r ≡ Some Root) ⊎ ((r ≡ length uses) × (Region root region ≡ Root))
            → slice_get (uses ++ Region root region ∷ []) f ≡ Some (Region r i)
        first r i f inside led (inr last) = let apart = last.1 in absurd cc
        first r i f inside led (inl is) = on ((r == root) && (i == region)) refl (sym (link r i is inside) ∙ led)
          where
            on : (b : Bool) → ((r == root) && (i == region)) ≡ b → (if b then Some table else link_at t r i) ≡ Some f
                → slice_get (uses ++ Region root region ∷ []) f ≡ Some (Region r i)
            on true e led' =
                let same = both_equal r root i region e in
                let one : f ≡ length uses = (let is' : table ≡ f = cc in sym is') ∙ here in
                ap (λ (n : ℕ). slice_get (uses ++ Region root region ∷ []) n) one
                ∙ (slice_get-push_new uses (Region root region)
                ∙ (ap (λ (n : ℕ). Some (Region n region)) (sym same.0) ∙ ap (λ (n : ℕ). Some (Region r n)) (sym same.1)))
            on false e led' = slice_get-more uses (Region root region) f (Region r i) (has.owned.first r i f is inside led')

        under : (f r i : ℕ) → (slice_get uses f ≡ Some (Region r i)) ⊎ ((f ≡ length uses) × (Region root region ≡ Region r i))
            → IsUnder new.words (uses ++ Region root region ∷ []) f r i
        under f r i (inl for) =
            let is = has.owned.under f r i for in
            record {
              made = slice_get-more uses (Region root region) r Root is.made;
              inside = is.inside;
              led_to = link r i is.made is.inside
                  ∙ (if-false ((r == root) && (i == region)) (Some table) (link_at t r i) (other r i f is.led_to) ∙ is.led_to);
            }
        under f r i (inr last) =
            let same = last.1 in
            let one : root ≡ r = cc in
            let two : region ≡ i = cc in
            let is : slice_get uses r ≡ Some Root = ap (λ (n : ℕ). slice_get uses n) (sym one) ∙ there in
            let inside : i < 1024 = omega (arith, two, within) in
            let test : ((r == root) && (i == region)) ≡ true = grind (arith, nat_tests, one, two) in
            record {
              made = slice_get-more uses (Region root region) r Root is;
              inside = inside;
              led_to = link r i is inside
                  ∙ (if-true ((r == root) && (i == region)) (Some table) (link_at t r i) test ∙ ap (λ (n : ℕ). Some n) (here ∙ sym last.0));
            }

    -- no leaf changes
    pub leaf_at-table : (r p : ℕ) → slice_get uses r ≡ Some Root → p < 2 ^ 20 → shared_leaf_at new r p ≡ shared_leaf_at t r p
    leaf_at-table r p is fits =
        let inside : p / 1024 < 1024 = omega (arith, fits) in
        let index : p % 1024 < 1024 = omega arith in
        on inside index ((r == root) && (p / 1024 == region)) refl (link r (p / 1024) is inside) (link_at t r (p / 1024)) refl
      where
        on : p / 1024 < 1024 → p % 1024 < 1024 → (b : Bool) → ((r == root) && (p / 1024 == region)) ≡ b
            → link_at new r (p / 1024) ≡ (if b then Some table else link_at t r (p / 1024))
            → (l : Option ℕ) → link_at t r (p / 1024) ≡ l → shared_leaf_at new r p ≡ shared_leaf_at t r p
        on inside index true e leads None was =
            let last : slice_get made.uses table ≡ Some Leaf =
            ap (λ (us : List SharedUse). slice_get us table) makes.uses ∙ (ap (λ (n : ℕ). slice_get (t.uses ++ Leaf ∷ []) n) makes.number ∙ slice_get-push_new t.uses Leaf) in
            ap (λ (l : Option ℕ). leaf_below new.words (p % 1024) l) leads
            ∙ (links.entries table (p % 1024) last index
            ∙ (makes.bare_leaf (p % 1024) index ∙ sym (ap (λ (l : Option ℕ). leaf_below t.words (p % 1024) l) was)))
        on inside index true e leads (Some f) was =
            let wrong = other r (p / 1024) f was in
            absurd (false≢true (sym wrong ∙ e))
        on inside index false e leads None was =
            ap (λ (l : Option ℕ). leaf_below new.words (p % 1024) l) (leads ∙ was) ∙ sym (ap (λ (l : Option ℕ). leaf_below t.words (p % 1024) l) was)
        on inside index false e leads (Some f) was =
            let leaf = table_there f r (p / 1024) (has.owned.first r (p / 1024) f is inside was) in
            ap (λ (l : Option ℕ). leaf_below new.words (p % 1024) l) (leads ∙ was)
            ∙ (links.entries f (p % 1024) (ap (λ (us : List SharedUse). slice_get us f) makes.uses ∙ slice_get-more t.uses Leaf f Leaf leaf) index
            ∙ (ap (λ (ws : List ℕ). leaf_of (word_at ws f (p % 1024))) makes.words
            ∙ sym (ap (λ (l : Option ℕ). leaf_below t.words (p % 1024) l) was)))

  -- entries of one region change
  module _ (new : SharedValue) (root region table : ℕ) (test : ℕ → Bool) (x : Option Entry) (for : slice_get uses table ≡ Some (Region root region))
      (entries : (f i : ℕ) → IsLeafTable t f → i < 1024 → entry_at new f i ≡ (if (f == table) && test i then x else entry_at t f i))
      (links : SameLinks t new) where
    pub owners-entries : new.uses ≡ t.uses → HasOwners new uses
    owners-entries same = record {
      plain_uses = same ∙ has.plain_uses;
      owned = record {
        first = λ r i f made inside led. has.owned.first r i f made inside (sym (links r i (root_there r made) inside) ∙ led);
        under = λ f r i is.
            let old = has.owned.under f r i is in
            record { made = old.made; inside = old.inside; led_to = links r i (root_there r old.made) old.inside ∙ old.led_to };
      };
    }

    -- the pages of the region that pass the test have this leaf, and every other page the one it had
    pub leaf_at-entries : (r p : ℕ) → slice_get uses r ≡ Some Root → p < 2 ^ 20
        → shared_leaf_at new r p ≡ (if (r == root) && ((p / 1024 == region) && test (p % 1024)) then x else shared_leaf_at t r p)
    leaf_at-entries r p made fits =
        let inside : p / 1024 < 1024 = omega (arith, fits) in
        let index : p % 1024 < 1024 = omega arith in
        ap (λ (l : Option ℕ). leaf_below new.words (p % 1024) l) (links r (p / 1024) (root_there r made) inside)
        ∙ on inside index (link_at t r (p / 1024)) refl
      where
        Leaves : Option ℕ → Type 0
        Leaves l = leaf_below new.words (p % 1024) l ≡ (if (r == root) && ((p / 1024 == region) && test (p % 1024)) then x else leaf_below t.words (p % 1024) l)

        -- the region is this one exactly where it leads to the table
        same_test : (f : ℕ) → p / 1024 < 1024 → link_at t r (p / 1024) ≡ Some f → (f == table) ≡ ((r == root) && (p / 1024 == region))
        same_test f inside was = tells (f == table) ((r == root) && (p / 1024 == region)) refl refl
          where
            tells : (a b : Bool) → (f == table) ≡ a → ((r == root) && (p / 1024 == region)) ≡ b → a ≡ b
            tells true true e g = refl
            tells false false e g = refl
            tells true false e g =
                let one : f ≡ table = grind (arith, nat_tests) in
                let mine = has.owned.first r (p / 1024) f made inside was in
                let owner : slice_get uses table ≡ Some (Region r (p / 1024)) = ap (λ (n : ℕ). slice_get uses n) (sym one) ∙ mine in
                let two : r ≡ root = cc in
                let three : p / 1024 ≡ region = cc in
                absurd (other_unequal r root (p / 1024) region g two three)
            tells false true e g =
                let same = both_equal r root (p / 1024) region g in
                let led = (has.owned.under table root region for).led_to in
                let leads : link_at t r (p / 1024) ≡ Some table =
                ap (λ (n : ℕ). link_at t n (p / 1024)) same.0 ∙ (ap (λ (n : ℕ). link_at t root n) same.1 ∙ led) in
                let one : f ≡ table = (let both = sym was ∙ leads in cc) in
                absurd (let no = e in grind (arith, nat_tests, one))

        none : (b : Bool) → b ≡ false → None ≡ (if b then x else None)
        none true e = absurd cc
        none false e = refl

        nest : (a b c d : Bool) (y : Option Entry) → a ≡ (b && c) → (if a && d then x else y) ≡ (if b && (c && d) then x else y)
        nest a true c d y e = rw e refl
        nest a false c d y e = rw e refl

        on : p / 1024 < 1024 → p % 1024 < 1024 → (l : Option ℕ) → link_at t r (p / 1024) ≡ l → Leaves l
        on inside index None was =
            none ((r == root) && ((p / 1024 == region) && test (p % 1024))) (never (r == root) (p / 1024 == region) (test (p % 1024)) refl)
          where
            never : (a b c : Bool) → ((r == root) && (p / 1024 == region)) ≡ (a && b) → (a && (b && c)) ≡ false
            never true true c e =
                let same = both_equal r root (p / 1024) region e in
                let led = (has.owned.under table root region for).led_to in
                absurd (none-some table (sym was ∙ (ap (λ (n : ℕ). link_at t n (p / 1024)) same.0 ∙ (ap (λ (n : ℕ). link_at t root n) same.1 ∙ led))))
            never true false c e = refl
            never false b c e = refl
        on inside index (Some f) was =
            entries f (p % 1024) (table_there f r (p / 1024) (has.owned.first r (p / 1024) f made inside was)) index
            ∙ nest (f == table) (r == root) (p / 1024 == region) (test (p % 1024)) (entry_at t f (p % 1024)) (same_test f inside was)
