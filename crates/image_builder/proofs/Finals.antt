-- One statement more: what it assigns is what it gives, where it is the last.
use Rattle.std.proofs.Common.{◌≡◌, ℕ, zero, suc, ◌+◌, ◌∙◌, ◌≤◌, ◌==◌, eqb, false, if◌then◌else◌, List, [], ◌∷◌, ◌++◌, length, set, Some, None, refl, ap, arith}
use Rattle.std.specs.Prelude.{unwrap_or}
use Rattle.std.proofs.lemmas.Bool.{ne_eqb}
use Rattle.cap_format.specs.declared.kind.CapKind.TheVariants.{Page as PageKind, CapPage as CapPageKind, Gpt as GptKind, Endpoint as EndpointKind, Process as ProcessKind}
use Rattle.cap_format.specs.Capability.{Capability, null}
use Rattle.cap_format.specs.declared.restr.Restr.{Restr}
use Rattle.gpt_objects.specs.Gpt.{empty_gpt, empty_slots, with_slot as with_gpt_slot, with_header}
use Rattle.page_store.specs.Page.{with_bytes, empty_page}
use Rattle.page_store.specs.CapPage.{with_cap, empty_cappage}
use Rattle.process_objects.specs.Process.{empty_process, empty_regs, empty_capregs, empty_slots as empty_places, with_reg, with_capreg}
use Rattle.endpoint_objects.specs.Endpoint.{empty_endpoint}
use Rattle.object_store.specs.declared.sizes.Sizes.{Sizes}
use Rattle.object_store.specs.Store.{CountsValue, Store, sizes_of, with_items, with_contents, empty_store}
use Rattle.listing_read.specs.declared.statement.Statement.{Statement}
use Rattle.listing_read.specs.declared.statement.Statement.TheVariants.{Page, Code, CapSlot, Gpt, GptSlot, Endpoint, Process, Reg, CapReg, Count, Region}
use Rattle.listing_read.specs.Statement.{IsStatement}
use Rattle.image_builder.specs.Given.{last_given, listed, run_given, region_cap, slot_given, instruction_bytes, with_object_count, slot_among, final_counts, final_page, final_cappage, final_gpt, final_endpoint, final_process, final_objects}
use Rattle.image_builder.specs.Assigned.{empty_with, process_with, endpoint_of, with_count_of, with_slot_of, with_region, assigned, flagged}
use Rattle.image_builder.proofs.Regions.{region_none, region_more}
use Rattle.image_builder.proofs.Listed.{last_given-nil, last_given-snoc, length-listed, listed-same, replicate-listed, changed, put-listed, bytes-listed}

-- a write to one of a list
put : {A : Type 0} (n : ℕ) (f : ℕ → A) (m : ℕ) (v : A) → set (listed n f) m v ≡ listed n (λ k. unwrap_or (if m == k then Some v else None) (f k))
put {A} = put-listed (λ (x : A). x)

-- ---- whether processes run

pub flagged-last : (n : ℕ) (xs : List Statement) (x : Statement) → flagged (listed n (λ p. last_given (run_given p) false xs)) x ≡ listed n (λ p. last_given (run_given p) false (xs ++ x ∷ []))
flagged-last n xs (Process number pc space schedule handler runs) = simp (last_given-snoc, put)
flagged-last n xs x = simp last_given-snoc

-- ---- counts

pub with_count_of-last : (sizes : Sizes) (xs : List Statement) (x : Statement) → with_count_of (empty_with sizes (final_counts sizes xs)) x ≡ empty_with sizes (final_counts sizes (xs ++ x ∷ []))
with_count_of-last sizes xs (Count PageKind number count) = simp (last_given-snoc, put)
with_count_of-last sizes xs (Count CapPageKind number count) = simp (last_given-snoc, put)
with_count_of-last sizes xs (Count GptKind number count) = simp (last_given-snoc, put)
with_count_of-last sizes xs (Count ProcessKind number count) = simp (last_given-snoc, put)
with_count_of-last sizes xs (Count EndpointKind number count) = simp (last_given-snoc, put)
with_count_of-last sizes xs x = simp last_given-snoc

-- ---- all else

other_than_0 : (i : ℕ) → 1 ≤ i → eqb i 0 ≡ false
other_than_0 i some = ne_eqb i 0 (λ none. omega arith)

-- three slots that are written
three : (xs : List Capability) (a b c : Capability) → length xs ≡ 3 → set (set (set xs 0 a) 1 b) 2 c ≡ a ∷ b ∷ c ∷ []
three (x ∷ y ∷ z ∷ []) a b c e = refl
three (x ∷ y ∷ z ∷ w ∷ ws) a b c e = absurd (omega (arith, e))
three (x ∷ y ∷ []) a b c e = absurd (omega (arith, e))
three (x ∷ []) a b c e = absurd (omega (arith, e))
three [] a b c e = absurd (omega (arith, e))

module _ (sizes : Sizes) (counts : CountsValue) (xs : List Statement) where
  abbrev base : Store
  base = final_objects counts xs sizes

  -- a slot of a GPT
  slot-last : (number slot : ℕ) (held : Capability) → with_slot_of base number slot held ≡ final_objects counts (xs ++ GptSlot number slot held ∷ []) sizes
  slot-last number slot held =
      simp last_given-snoc (ap (λ l. with_items base (record base.items { gpts = l }))
      (changed sizes.gpts (final_gpt counts xs) _ number empty_gpt (λ gpt. with_gpt_slot gpt slot (with_object_count counts held)) (λ same. rw same (ap (λ slots. record (final_gpt counts xs number) { slots = slots }) (put-listed (with_object_count counts) 16 _ slot held))) (λ k other. rw other refl)))

  -- no slots of a region
  region-none : (gpt slot page : ℕ) (restr : Restr) → base ≡ final_objects counts (xs ++ Region gpt slot 0 page restr ∷ []) sizes
  region-none gpt slot page restr =
      simp last_given-snoc (ap (λ l. with_items base (record base.items { gpts = l }))
      (listed-same sizes.gpts (final_gpt counts xs) _ (λ g there. ap (λ slots. record (final_gpt counts xs g) { slots = slots })
      (listed-same 16 _ _ (λ i below. rw (region_none gpt g i slot page restr) refl)))))

  -- one slot of a region more
  region-more : (gpt slot n page : ℕ) (restr : Restr) → final_objects counts ((xs ++ Region gpt slot n page restr ∷ []) ++ GptSlot gpt (slot + n) (region_cap (page + n) restr.0) ∷ []) sizes ≡ final_objects counts (xs ++ Region gpt slot (suc n) page restr ∷ []) sizes
  region-more gpt slot n page restr =
      simp last_given-snoc (ap (λ l. with_items base (record base.items { gpts = l }))
      (listed-same sizes.gpts _ _ (λ g there. ap (λ slots. record (final_gpt counts xs g) { slots = slots })
      (listed-same 16 _ _ (λ i below. ap (with_object_count counts) (region_more g i slot n page restr (last_given (slot_given g i) null xs) gpt))))))

-- the slots of a region
regions : (sizes : Sizes) (counts : CountsValue) (xs : List Statement) (gpt slot page : ℕ) (restr : Restr) (n : ℕ) → with_region (final_objects counts xs sizes) gpt slot page restr.0 n ≡ final_objects counts (xs ++ Region gpt slot n page restr ∷ []) sizes
unfolding with_region
regions sizes counts xs gpt slot page restr zero = region-none sizes counts xs gpt slot page restr
regions sizes counts xs gpt slot page restr (suc n) =
    ap (λ (t : Store). with_slot_of t gpt (slot + n) (region_cap (page + n) restr.0)) (regions sizes counts xs gpt slot page restr n)
    ∙ slot-last sizes counts (xs ++ Region gpt slot n page restr ∷ []) gpt (slot + n) (region_cap (page + n) restr.0)
    ∙ region-more sizes counts xs gpt slot n page restr

module _ (sizes : Sizes) (counts : CountsValue) (xs : List Statement) where
  abbrev s : Store
  s = final_objects counts xs sizes

  places-listed : (f : ℕ → Capability) (space schedule handler : Capability) → set (set (set (listed 3 f) 0 (with_object_count counts space)) 1 (with_object_count counts schedule)) 2 (with_object_count counts handler) ≡ listed 3 (λ i. with_object_count counts (slot_among i space schedule handler))
  unfolding listed
  places-listed f space schedule handler = three (listed 3 f) (with_object_count counts space) (with_object_count counts schedule) (with_object_count counts handler) (length-listed 3 f)

  pub assigned-last : (x : Statement) → IsStatement sizes x → assigned s x ≡ final_objects counts (xs ++ x ∷ []) sizes
  assigned-last (Page number at bytes) is =
      simp last_given-snoc (ap (λ l. with_contents s (record s.contents { pages = l }))
      (changed sizes.pages (final_page counts xs) _ number empty_page (λ page. with_bytes page at bytes) (λ same. rw same (bytes-listed 4096 at _ bytes is.1)) (λ k other. rw other refl)))
  assigned-last (Code number at insn) is =
      simp last_given-snoc (ap (λ l. with_contents s (record s.contents { pages = l }))
      (changed sizes.pages (final_page counts xs) _ number empty_page (λ page. with_bytes page at (instruction_bytes insn)) (λ same. rw same (bytes-listed 4096 at _ (instruction_bytes insn) is.1)) (λ k other. rw other refl)))
  assigned-last (CapSlot number slot held) is =
      simp last_given-snoc (ap (λ l. with_contents s (record s.contents { cappages = l }))
      (changed sizes.cappages (final_cappage counts xs) _ number empty_cappage (λ page. with_cap page slot (with_object_count counts held)) (λ same. rw same (put-listed (with_object_count counts) 256 _ slot held)) (λ k other. rw other refl)))
  assigned-last (Gpt number header) is =
      simp last_given-snoc (ap (λ l. with_items s (record s.items { gpts = l }))
      (changed sizes.gpts (final_gpt counts xs) _ number empty_gpt (λ gpt. with_header gpt header) (λ same. rw same refl) (λ k other. rw other refl)))
  assigned-last (GptSlot number slot held) is = slot-last sizes counts xs number slot held
  assigned-last (Endpoint number recipient id payload matching) is =
      simp last_given-snoc (ap (λ l. with_contents s (record s.contents { endpoints = l }))
      (changed sizes.endpoints (final_endpoint counts xs) _ number empty_endpoint (λ _. endpoint_of (with_object_count counts recipient) id payload matching) (λ same. rw same refl) (λ k other. rw other refl)))
  assigned-last (Process number pc space schedule handler runs) is =
      simp last_given-snoc (ap (λ l. with_contents s (record s.contents { processes = l }))
      (changed sizes.processes (final_process counts xs) _ number empty_process (λ p. process_with p pc (with_object_count counts space) (with_object_count counts schedule) (with_object_count counts handler))
      (λ same. rw same (ap (λ slots. record (final_process counts xs number) { pc = pc; slots = slots }) (places-listed _ space schedule handler))) (λ k other. rw other refl)))
  assigned-last (Reg number index value) is =
      simp last_given-snoc (ap (λ l. with_contents s (record s.contents { processes = l }))
      (changed sizes.processes (final_process counts xs) _ number empty_process (λ p. with_reg p index value)
      (λ same. rw (same, other_than_0 index is.2) (ap (λ regs. record (final_process counts xs number) { regs = regs }) (put 32 _ index value))) (λ k other. rw other refl)))
  assigned-last (CapReg number index held) is =
      simp last_given-snoc (ap (λ l. with_contents s (record s.contents { processes = l }))
      (changed sizes.processes (final_process counts xs) _ number empty_process (λ p. with_capreg p index (with_object_count counts held))
      (λ same. rw (same, other_than_0 index is.2) (ap (λ capregs. record (final_process counts xs number) { capregs = capregs }) (put-listed (with_object_count counts) 32 _ index held))) (λ k other. rw other refl)))
  assigned-last (Region gpt slot count page restr) is = regions sizes counts xs gpt slot page restr count
  assigned-last (Count kind number count) is = simp last_given-snoc

-- ---- new objects

empty_page-listed : empty_page ≡ listed 4096 (λ i. 0)
unfolding empty_page
empty_page-listed = replicate-listed 4096 0

empty_cappage-listed : empty_cappage ≡ listed 256 (λ i. null)
unfolding empty_cappage
empty_cappage-listed = replicate-listed 256 null

empty_slots-listed : empty_slots ≡ listed 16 (λ i. null)
unfolding empty_slots
empty_slots-listed = replicate-listed 16 null

empty_regs-listed : empty_regs ≡ listed 32 (λ i. 0)
unfolding empty_regs
empty_regs-listed = replicate-listed 32 0

empty_capregs-listed : empty_capregs ≡ listed 32 (λ i. null)
unfolding empty_capregs
empty_capregs-listed = replicate-listed 32 null

empty_places-listed : empty_places ≡ listed 3 (λ i. null)
unfolding empty_places
empty_places-listed = replicate-listed 3 null

-- before the first statement all counts are 0, and all things are as in empty objects
pub final_counts-nil : (sizes : Sizes) → empty_store sizes ≡ empty_with sizes (final_counts sizes [])
final_counts-nil sizes = simp (last_given-nil, replicate-listed)

pub final_objects-nil : (sizes : Sizes) (counts : CountsValue) → empty_with sizes counts ≡ final_objects counts [] sizes
final_objects-nil sizes counts =
    simp (last_given-nil, empty_page-listed, empty_cappage-listed, empty_slots-listed, empty_regs-listed, empty_capregs-listed, empty_places-listed, replicate-listed)

-- ---- sizes

pub sizes-empty_with : (sizes : Sizes) (xs : List Statement) → sizes_of (empty_with sizes (final_counts sizes xs)) ≡ sizes
sizes-empty_with sizes xs = simp length-listed

pub sizes-final_objects : (sizes : Sizes) (xs ys : List Statement) → sizes_of (final_objects (final_counts sizes xs) ys sizes) ≡ sizes
sizes-final_objects sizes xs ys = simp length-listed
