-- Requests to the memory kinds: what they mean, and that what they change is the object that is asked.
use Rattle.std.proofs.Common.{◌≡◌, ◌≢◌, ℕ, ◌+◌, ◌*◌, Bool, true, false, if◌then◌else◌, [], ◌∷◌, map, refl, ap, ◌∙◌}
use Rattle.std.proofs.lemmas.List.{map-set}
use Rattle.cap_format.specs.declared.kind.CapKind.{CapKind}
use Rattle.cap_format.specs.declared.kind.CapKind.TheVariants.{Page, CapPage, Gpt}
use Rattle.cap_format.specs.declared.code.Code.TheVariants.{Ok as OkCode}
use Rattle.cap_format.specs.declared.request.Request.{Request}
use Rattle.cap_format.specs.Restr.{has}
use Rattle.cap_format.specs.Guard.{guard_of}
use Rattle.cap_format.specs.Capability.{Capability, bare, with_guard, local_window, window}
use Rattle.cap_format.specs.Weakening.{weakened, reduced}
use Rattle.gpt_objects.specs.Header.{HeaderValue}
use Rattle.page_store.specs.CapPage.{cap_at, with_cap}
use Rattle.object_store.specs.Store.{Store, Items, slot_at, cappage_at}
use Rattle.object_store.specs.Meaning.{is_live, meaning, state_map}
use Rattle.object_store.specs.Ahead.{IsBehind}
use Rattle.object_store.proofs.Live.{meaning_live, IsBehind-is_live, IsBehind-zero}
use Rattle.object_store.proofs.Means.{cappage_map-empty, cappage_at-state_map}
use Rattle.object_store.proofs.Each.{empty_cappage-each}
use Rattle.object_store.proofs.Made.{meaning_reduced, meaning_guarded, meaning_weakened, behind_weakened}
use Rattle.object_store.proofs.Writes.{header_means, gpt_slot_means, cap_means}
use Rattle.object_store.proofs.WritesBehind.{null_behind, gpt_slot_behind, cap_behind, cappage_behind}
use Rattle.object_store.specs.Object.{object_name}
use Rattle.std.proofs.lemmas.List.Elements.{All-set}
use Rattle.operations.specs.Weak.{read_through}
use Rattle.operations.specs.Change.{CapPageIs, SlotIs}
use Rattle.operations.specs.Row.{Row, Settled, nothing, tells, gives, does, settled}
use Rattle.operations.specs.Request.{w1, w2, w3, w4, request_map}
use Rattle.operations.specs.Memory.{kind_row, reduce_row, getguard_row, setguard_row, getrestr_row, clear_page_row, copy_row, clear_cappage_row, get_row, set_row, getslot_row, setslot_row, getheader_row, setheader_row, setwindow_row, window_of, window_slot, window_is_local, window_local_slot, window_l2g, window_restr, may_have, window_error, bit, page_table, cappage_table, gpt_table, own_table, memory_table, memory_operation}
use Rattle.operations.proofs.Mapped.{settled_map}
use Rattle.operations.proofs.Settled.{settled-map, ◌▸◌, EachAnswer, by_table, EachPair, by_pairs, refused_in}
use Rattle.operations.proofs.Fits.{Fits, fits_refused, fits_words, fits_cap, fits_change}

-- what is read through WK means what is read of the meaning
pub read_through_means : (o : Items) (restr : ℕ) (c : Capability) → meaning o (read_through restr c) ≡ read_through restr (meaning o c)
read_through_means o restr c = by (has restr 4)
  where
    by : (b : Bool) → meaning o (if b then weakened c else c) ≡ (if b then weakened (meaning o c) else meaning o c)
    by true = meaning_weakened o c
    by false = refl

-- and is not ahead, where it was not
pub read_through_behind : (o : Items) (restr : ℕ) (c : Capability) → IsBehind o c → IsBehind o (read_through restr c)
read_through_behind o restr c behind = by (has restr 4)
  where
    by : (b : Bool) → IsBehind o (if b then weakened c else c)
    by true = behind_weakened o c behind
    by false = behind

-- ---- what each row means

module _ (s : Store) (c : Capability) (r : Request) (live : is_live s.items c ≡ true) (sent : is_live s.items r.sent ≡ true) where
  abbrev f : Capability → Capability
  f = meaning s.items

  abbrev r' : Request
  r' = request_map bare r

  abbrev s' : Store
  s' = state_map s

  kind_means : settled_map f (settled (kind_row c)) ≡ settled (kind_row (bare c))
  unfolding kind_row
  kind_means = settled-map f (kind_row c) (kind_row (bare c)).answer refl

  reduce_means : settled_map f (settled (reduce_row c r)) ≡ settled (reduce_row (bare c) r')
  unfolding reduce_row
  reduce_means = settled-map f (reduce_row c r) (reduce_row (bare c) r').answer (ap gives (meaning_reduced s.items c (w2 r) live ∙ ap (λ m. reduced m (w2 r)) (meaning_live s.items c live)))

  getguard_means : settled_map f (settled (getguard_row c)) ≡ settled (getguard_row (bare c))
  unfolding getguard_row
  getguard_means = settled-map f (getguard_row c) (getguard_row (bare c)).answer refl

  setguard_means : settled_map f (settled (setguard_row c r)) ≡ settled (setguard_row (bare c) r')
  unfolding setguard_row may_have
  setguard_means = settled-map f (setguard_row c r) (setguard_row (bare c) r').answer (ap gives (meaning_guarded s.items c (guard_of (w2 r) (w3 r)) live ∙ ap (λ m. with_guard m (guard_of (w2 r) (w3 r))) (meaning_live s.items c live)))

  getrestr_means : settled_map f (settled (getrestr_row c)) ≡ settled (getrestr_row (bare c))
  unfolding getrestr_row
  getrestr_means = settled-map f (getrestr_row c) (getrestr_row (bare c)).answer refl

  clear_page_means : settled_map f (settled (clear_page_row c)) ≡ settled (clear_page_row (bare c))
  unfolding clear_page_row
  clear_page_means = settled-map f (clear_page_row c) (clear_page_row (bare c)).answer refl

  copy_means : settled_map f (settled (copy_row s c r)) ≡ settled (copy_row s' (bare c) r')
  unfolding copy_row
  copy_means = settled-map f (copy_row s c r) (copy_row s' (bare c) r').answer refl

  clear_cappage_means : settled_map f (settled (clear_cappage_row c)) ≡ settled (clear_cappage_row (bare c))
  unfolding clear_cappage_row
  clear_cappage_means = settled-map f (clear_cappage_row c) (clear_cappage_row (bare c)).answer (ap (λ page. does (CapPageIs c.object page ∷ [])) (cappage_map-empty f refl))

  get_means : settled_map f (settled (get_row s c r)) ≡ settled (get_row s' (bare c) r')
  unfolding get_row
  get_means = settled-map f (get_row s c r) (get_row s' (bare c) r').answer (ap gives (read_through_means s.items c.restr (cap_at (cappage_at s c.object) (w2 r)) ∙ ap (read_through c.restr) (cap_means s c.object (w2 r))))

  set_means : settled_map f (settled (set_row s c r)) ≡ settled (set_row s' (bare c) r')
  unfolding set_row
  set_means = settled-map f (set_row s c r) (set_row s' (bare c) r').answer (ap (λ page. does (CapPageIs c.object page ∷ [])) (map-set f (cappage_at s c.object) (w2 r) r.sent ∙ written))
    where
      written : with_cap (map f (cappage_at s c.object)) (w2 r) (f r.sent) ≡ with_cap (cappage_at s' c.object) (w2 r) (bare r.sent)
      written = rw (cappage_at-state_map s c.object, meaning_live s.items r.sent sent) refl

  getslot_means : settled_map f (settled (getslot_row s c r)) ≡ settled (getslot_row s' (bare c) r')
  unfolding getslot_row
  getslot_means = settled-map f (getslot_row s c r) (getslot_row s' (bare c) r').answer (ap gives (read_through_means s.items c.restr (slot_at s.items c.object (w2 r)) ∙ ap (read_through c.restr) (gpt_slot_means s c.object (w2 r))))

  setslot_means : settled_map f (settled (setslot_row c r)) ≡ settled (setslot_row (bare c) r')
  unfolding setslot_row
  setslot_means = settled-map f (setslot_row c r) (setslot_row (bare c) r').answer (ap (λ x. does (SlotIs c.object (w2 r) x ∷ [])) (meaning_live s.items r.sent sent))

  getheader_means : settled_map f (settled (getheader_row s c)) ≡ settled (getheader_row s' (bare c))
  unfolding getheader_row
  getheader_means = settled-map f (getheader_row s c) (getheader_row s' (bare c)).answer (ap (λ (h : HeaderValue). tells h.l2v (bit h.ha + 2 * bit h.bg) 0) (header_means s c.object))

  setheader_means : settled_map f (settled (setheader_row c r)) ≡ settled (setheader_row (bare c) r')
  unfolding setheader_row
  setheader_means = settled-map f (setheader_row c r) (setheader_row (bare c) r').answer refl

  either_means : (b : Bool) (x y : Capability) → f x ≡ x → f y ≡ y → f (if b then x else y) ≡ (if b then x else y)
  either_means true x y here there = here
  either_means false x y here there = there

  window_means : f (window_of r) ≡ window_of r'
  unfolding window_of
  window_means =
      either_means (window_is_local r)
      (local_window (window_local_slot r) (window_restr r) (guard_of (window_l2g r) (w3 r)) (w4 r))
      (window (window_restr r) (guard_of (window_l2g r) (w3 r)) (w4 r))
      refl refl

  setwindow_means : settled_map f (settled (setwindow_row c r)) ≡ settled (setwindow_row (bare c) r')
  unfolding setwindow_row window_error
  setwindow_means = settled-map f (setwindow_row c r) (setwindow_row (bare c) r').answer (ap (λ x. does (SlotIs c.object (window_slot r) x ∷ [])) window_means)

  -- ---- the tables

  -- what two rows come to means alike
  abbrev Means : Row → Row → Type 0
  Means row other = settled_map f (settled row) ≡ settled other

  page_means : EachPair Means (page_table s c r) (page_table s' (bare c) r')
  unfolding page_table
  page_means = (refl, clear_page_means) ▸ (refl, copy_means) ▸ tt

  cap_page_means : EachPair Means (cappage_table s c r) (cappage_table s' (bare c) r')
  unfolding cappage_table
  cap_page_means = (refl, clear_cappage_means) ▸ (refl, get_means) ▸ (refl, set_means) ▸ tt

  gpt_means : EachPair Means (gpt_table s c r) (gpt_table s' (bare c) r')
  unfolding gpt_table
  gpt_means =
      (refl, getslot_means)
      ▸ (refl, setslot_means)
      ▸ (refl, getheader_means)
      ▸ (refl, setheader_means)
      ▸ (refl, setwindow_means)
      ▸ tt

  own_means : (kind : CapKind) → EachPair Means (own_table s c r kind) (own_table s' (bare c) r' kind)
  unfolding own_table
  own_means Page = page_means
  own_means CapPage = cap_page_means
  own_means Gpt = gpt_means
  own_means kind = tt

  table_means : EachPair Means (memory_table s c r c.kind) (memory_table s' (bare c) r' c.kind)
  unfolding memory_table
  table_means =
      (refl, kind_means)
      ▸ (refl, reduce_means)
      ▸ (refl, getguard_means)
      ▸ (refl, setguard_means)
      ▸ (refl, getrestr_means)
      ▸ own_means c.kind

  -- a request to a memory capability means the request to what the capability means
  pub memory_means : settled_map f (memory_operation s c r) ≡ memory_operation s' (bare c) r'
  unfolding memory_operation
  memory_means = by_pairs (λ x y. settled_map f x ≡ y) refl (memory_table s c r c.kind) (memory_table s' (bare c) r' c.kind) table_means (w1 r)

-- ---- what each row changes

module _ (s : Store) (c : Capability) (r : Request) (live : is_live s.items c ≡ true) (sent : is_live s.items r.sent ≡ true) where
  abbrev Of : Settled → Type 0
  Of settled = Fits s c settled.answer

  page_fits : c.kind ≡ Page → EachAnswer Of (page_table s c r)
  unfolding page_table clear_page_row copy_row
  page_fits is = fits_change s c _ (λ q. named) tt (λ none. tt) ▸ fits_change s c _ (λ q. named) tt (λ none. tt) ▸ tt
    where
      named : (object_name Page c.object ∷ []) ≡ (object_name c.kind c.object ∷ [])
      named = rw is refl

  cap_page_fits : c.kind ≡ CapPage → EachAnswer Of (cappage_table s c r)
  unfolding cappage_table clear_cappage_row get_row set_row
  cap_page_fits is =
      fits_change s c _ (λ q. named) tt (λ none. empty_cappage-each (IsBehind s.items) (null_behind s))
      ▸ fits_cap s c _ (λ none. read_through_behind s.items c.restr _ (cap_behind s none c.object (w2 r)))
      ▸ fits_change s c _ (λ q. named) tt (λ none. All-set (IsBehind s.items) (cappage_at s c.object) (w2 r) r.sent (IsBehind-is_live s.items r.sent sent) (cappage_behind s none c.object))
      ▸ tt
    where
      named : (object_name CapPage c.object ∷ []) ≡ (object_name c.kind c.object ∷ [])
      named = rw is refl

  either_behind : (b : Bool) (x y : Capability) → IsBehind s.items x → IsBehind s.items y → IsBehind s.items (if b then x else y)
  either_behind true x y here there = here
  either_behind false x y here there = there

  abbrev local_of : Capability
  local_of = local_window (window_local_slot r) (window_restr r) (guard_of (window_l2g r) (w3 r)) (w4 r)

  abbrev other_of : Capability
  other_of = window (window_restr r) (guard_of (window_l2g r) (w3 r)) (w4 r)

  window_behind : IsBehind s.items (window_of r)
  unfolding window_of
  window_behind = either_behind (window_is_local r) local_of other_of (IsBehind-zero s.items local_of refl) (IsBehind-zero s.items other_of refl)

  gpt_fits : c.kind ≡ Gpt → EachAnswer Of (gpt_table s c r)
  unfolding gpt_table getslot_row setslot_row getheader_row setheader_row setwindow_row
  gpt_fits is =
      fits_cap s c _ (λ none. read_through_behind s.items c.restr _ (gpt_slot_behind s none c.object (w2 r)))
      ▸ fits_change s c _ (λ q. named) tt (λ none. IsBehind-is_live s.items r.sent sent)
      ▸ fits_words s c _ _ _
      ▸ fits_change s c _ (λ q. named) tt (λ none. tt)
      ▸ fits_change s c _ (λ q. named) tt (λ none. window_behind)
      ▸ tt
    where
      named : (object_name Gpt c.object ∷ []) ≡ (object_name c.kind c.object ∷ [])
      named = rw is refl

  own_fits : (kind : CapKind) → c.kind ≡ kind → EachAnswer Of (own_table s c r kind)
  unfolding own_table
  own_fits Page is = page_fits is
  own_fits CapPage is = cap_page_fits is
  own_fits Gpt is = gpt_fits is
  own_fits kind is = tt

  rows_fit : EachAnswer Of (memory_table s c r c.kind)
  unfolding memory_table kind_row reduce_row getguard_row setguard_row getrestr_row
  rows_fit =
      fits_words s c _ _ _
      ▸ fits_cap s c _ (λ none. IsBehind-is_live s.items c live)
      ▸ fits_words s c _ _ _
      ▸ fits_cap s c _ (λ none. IsBehind-is_live s.items c live)
      ▸ fits_words s c _ _ _
      ▸ own_fits c.kind refl

  -- a request to a memory capability changes the object that it names, or nothing, and leaves no capability ahead
  pub memory_fits : Fits s c (memory_operation s c r).answer
  unfolding memory_operation
  memory_fits = by_table Of (fits_refused s c) (memory_table s c r c.kind) rows_fit (w1 r)

-- a request that is refused does nothing and tells nothing
pub memory_refused : (s : Store) (c : Capability) (r : Request) → (memory_operation s c r).code ≢ OkCode → (memory_operation s c r).answer ≡ nothing
unfolding memory_operation
memory_refused s c r = refused_in (memory_table s c r c.kind) (w1 r)
