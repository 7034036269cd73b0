-- What an access adds: notes of its trail, and the keys of its space and region.
use Rattle.std.proofs.Common.{◌≡◌, ◌⊎◌, inl, inr, ℕ, ◌+◌, ◌*◌, ◌/◌, ◌<◌, ◌≤◌, Bool, true, false, ◌&&◌, ◌||◌, nat_le, nat_lt, if◌then◌else◌, List, [], ◌∷◌, ◌++◌, refl, sym, ap, ◌∙◌, arith}
use Rattle.std.specs.Ordering.{eq_by_cmp}
use Rattle.std.specs.FinSet.{FinSet, contains, contains-insert, insert}
use Rattle.std.proofs.lemmas.List.Folds.{list_any-append}
use Rattle.std.proofs.Math.Nat.{div-mul-le_self, lt-div-mul-add}
use Rattle.std.proofs.lemmas.Bool.Decides.{nat_tests}
use Rattle.cap_format.specs.Capability.{Capability}
use Rattle.cap_format.specs.Kind.{is_counted, object_kind}
use Rattle.cap_format.specs.declared.item.Item.{Item}
use Rattle.cap_format.specs.declared.item.Item.TheVariants.{Header}
use Rattle.guard_math.specs.Block.{around, holds}
use Rattle.object_store.specs.Store.{Items}
use Rattle.walk_meaning.specs.declared.kind.Kind.{Kind}
use Rattle.walk_meaning.specs.declared.noted.Noted.{Noted}
use Rattle.walk_meaning.specs.Walk.{start_at, step}
use Rattle.walk_meaning.specs.Trail.{noted, trail}
use Rattle.walk_meaning.specs.After.{trail_after}
use Rattle.walk_meaning.proofs.Walked.{trail_from-suc}
use Rattle.map_cache.specs.declared.key.Key.{Key}
use Rattle.map_cache.specs.Key.{has_key, same_key, with_key}
use Rattle.map_cache.specs.Kept.{Note, note_order, noted_all}
use Rattle.depend_table.proofs.Coded.{key_itself}
use Rattle.depend_table.proofs.Notes.{notes_apart, notes_total}
use Rattle.depend_table.proofs.Sets.{Within, itself}
use Rattle.depend_table.proofs.Tests.{either, or_left, or_right}
use Rattle.depend_table.specs.Notes.{note}
use Rattle.map_cache.proofs.Codes.{key_coding, space_coding}

-- ---- notes

-- what was noted stays
insert-within : (s : FinSet note_order) (k : Note) → Within s (insert s k)
insert-within s k n there = contains-insert (notes_total space_coding) s k n ∙ or_right (eq_by_cmp note_order n k) (contains s n) there

insert-both : (s t : FinSet note_order) (k : Note) → Within s t → Within (insert s k) (insert t k)
insert-both s t k within n there =
    contains-insert (notes_total space_coding) t k n ∙ on (either (eq_by_cmp note_order n k) (contains s n) (sym (contains-insert (notes_total space_coding) s k n) ∙ there))
  where
    on : (eq_by_cmp note_order n k ≡ true) ⊎ (contains s n ≡ true) → (eq_by_cmp note_order n k || contains t n) ≡ true
    on (inl here) = or_left (eq_by_cmp note_order n k) (contains t n) here
    on (inr more) = or_right (eq_by_cmp note_order n k) (contains t n) (within n more)

pub noted_all-within : (s : FinSet note_order) (space : Capability) (reads : List Noted) → Within s (noted_all s space reads)
noted_all-within s space [] n there = there
noted_all-within s space (r ∷ reads) n there =
    noted_all-within (insert s (note space r.item r.block)) space reads n (insert-within s (note space r.item r.block) n there)

pub noted_all-both : (s t : FinSet note_order) (space : Capability) (reads : List Noted) → Within s t → Within (noted_all s space reads) (noted_all t space reads)
noted_all-both s t space [] within = within
noted_all-both s t space (r ∷ reads) within =
    noted_all-both (insert s (note space r.item r.block)) (insert t (note space r.item r.block)) space reads (insert-both s t (note space r.item r.block) within)

-- the first read is noted
pub noted_all-first : (s : FinSet note_order) (space : Capability) (r : Noted) (reads : List Noted) → contains (noted_all s space (r ∷ reads)) (note space r.item r.block) ≡ true
noted_all-first s space r reads =
    noted_all-within (insert s (note space r.item r.block)) space reads (note space r.item r.block)
    (contains-insert (notes_total space_coding) s (note space r.item r.block) (note space r.item r.block)
    ∙ or_left (eq_by_cmp note_order (note space r.item r.block) (note space r.item r.block)) (contains s (note space r.item r.block)) (itself (notes_total space_coding) (notes_apart space_coding) (note space r.item r.block)))

-- the header of the object that a capability names
abbrev pub header_of : Capability → Item
header_of space = Header (object_kind space.kind) space.object

-- a trail begins with the header of the space's object, for the block of all addresses
trail-first : (o : Items) (space : Capability) (address : ℕ) (kind : Kind) → is_counted space.kind ≡ true
    → trail o space address kind ≡ noted (header_of space) address 32 ∷ trail_after o kind address 31 (step o kind space (start_at address))
trail-first o space address kind named =
    trail_from-suc o kind address 31 space (start_at address)
    ∙ ap (λ (b : Bool). (if b then noted (header_of space) address 32 ∷ [] else []) ++ trail_after o kind address 31 (step o kind space (start_at address))) named

-- so it is noted with the trail
pub header-noted : (s : FinSet note_order) (aged : Capability) (o : Items) (space : Capability) (address : ℕ) (kind : Kind) → is_counted space.kind ≡ true
    → contains (noted_all s aged (trail o space address kind)) (note aged (header_of space) (around address 32)) ≡ true
header-noted s aged o space address kind named =
    ap (λ (reads : List Noted). contains (noted_all s aged reads) (note aged (header_of space) (around address 32))) (trail-first o space address kind named)
    ∙ noted_all-first s aged (noted (header_of space) address 32) (trail_after o kind address 31 (step o kind space (start_at address)))

-- and that block has the address's page
pub all-holds : (address : ℕ) → holds (around address 32) (address / 4096) ≡ true
all-holds address =
    let low = div-mul-le_self address 4294967296 in
    let high = lt-div-mul-add {a = address} {b = 4294967296} (omega arith) in
    on (address / 4294967296) low high
  where
    on : (q : ℕ) → q * 4294967296 ≤ address → address < q * 4294967296 + 4294967296
        → (nat_le (q * 4294967296 / 4096) (address / 4096) && nat_lt (address / 4096) (q * 4294967296 / 4096 + 1048576)) ≡ true
    on q low high = grind (arith, nat_tests)

-- ---- keys

-- a key that is there is not added
pub with_key-there : (keys : List Key) (k : Key) → has_key keys k ≡ true → with_key keys k ≡ keys
with_key-there keys k there = ap (λ (b : Bool). if b then keys else keys ++ k ∷ []) there

-- a key stays
pub has_key-more : (keys : List Key) (j k : Key) → has_key keys j ≡ true → has_key (with_key keys k) j ≡ true
has_key-more keys j k there = on (has_key keys k)
  where
    on : (b : Bool) → has_key (if b then keys else keys ++ k ∷ []) j ≡ true
    on true = there
    on false = list_any-append (same_key j) keys (k ∷ []) ∙ or_left (has_key keys j) (has_key (k ∷ []) j) there

-- an added key is there
pub has_key-added : (keys : List Key) (k : Key) → has_key (with_key keys k) k ≡ true
has_key-added keys k = on (has_key keys k) refl
  where
    on : (b : Bool) → has_key keys k ≡ b → has_key (if b then keys else keys ++ k ∷ []) k ≡ true
    on true there = there
    on false new =
        list_any-append (same_key k) keys (k ∷ [])
        ∙ or_right (has_key keys k) (has_key (k ∷ []) k) (or_left (same_key k k) (has_key [] k) (key_itself key_coding k))
