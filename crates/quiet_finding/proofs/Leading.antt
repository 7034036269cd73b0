-- Where capabilities lead to the same, the same come to the same.
use Rattle.std.proofs.Common.{◌≡◌, ℕ, zero, suc, ◌+◌, ◌*◌, ◌/◌, ◌%◌, ◌-◌, ◌<◌, ◌≤◌, ◌==◌, inl, inr, Bool, true, false, not, ◌&&◌, ◌||◌, if◌then◌else◌, List, [], ◌∷◌, ◌++◌, length, get_or, refl, sym, ◌∙◌, ap, ap₂, arith}
use Rattle.std.specs.List.{list_any}
use Rattle.std.proofs.Math.Nat.{mul-div_cancel}
use Rattle.std.proofs.lemmas.Bool.{cases_lt}
use Rattle.std.proofs.lemmas.Nat.{div-mul-add, mod-mul-add, row_fits}
use Rattle.std.proofs.lemmas.List.{length-append, get_or_append_left, get_or-append_right}
use Rattle.cap_format.specs.declared.kind.CapKind.{CapKind}
use Rattle.cap_format.specs.declared.kind.CapKind.TheVariants.{Null, Page, CapPage, Gpt, Window, Endpoint, Process, Range}
use Rattle.cap_format.specs.Kind.{number_of, is_counted, object_kind}
use Rattle.cap_format.specs.Capability.{Capability}
use Rattle.cap_format.specs.Weakening.{is_harmless}
use Rattle.object_store.specs.Store.{Store, size_of, gpt_at, cappage_at}
use Rattle.object_store.specs.Meaning.{state_map}
use Rattle.object_store.specs.Places.{cap_in, places_in}
use Rattle.confine_check.specs.Full.{AreFull}
use Rattle.quiet_runs.specs.declared.reached_by.ReachedBy.{ReachedBy}
use Rattle.quiet_runs.specs.declared.reached_by.ReachedBy.TheVariants.{Nobody, Alone, Several}
use Rattle.quiet_runs.specs.Reaching.{caps_of, held_by, joined, joined_below, names, reached_within, through}
use Rattle.quiet_runs.specs.Finding.{is_below, is_far_reaching, is_range, may_write, some_cap, some_held, some_recipient}
use Rattle.quiet_finding.specs.declared.leads.Lead.{Lead}
use Rattle.quiet_finding.specs.Comers.{AreComers, ComersValue, comers}
use Rattle.quiet_finding.specs.Writing.{AreWriting, WritingValue}
use Rattle.quiet_finding.specs.Reaching.{IsReaching, ReachingValue}
use Rattle.quiet_finding.specs.Passing.{by_cap, by_objects, by_places, in_objects, in_places}
use Rattle.quiet_finding.specs.Leads.{AreLeadsOf, LeadsValue, lead_by, lead_in, lead_of, lead_to, leads_of, listed}
use Rattle.quiet_finding.proofs.Folding.{is_below-same, joined_below-same}
use Rattle.quiet_finding.proofs.Places.{gpt-long, places-through}
use Rattle.quiet_finding.proofs.Recipients.{in-endpoints}
use Rattle.quiet_finding.proofs.Rounds.{by-cappages, by-processes, gpt-count, in-cappages, in-gpts, in-processes, reached-suc, reached-zero}

-- ---- lists by places

pub listed-none : (f : ℕ → Lead) → listed f 0 ≡ []
unfolding listed
listed-none f = refl

pub listed-more : (f : ℕ → Lead) (n : ℕ) → listed f (suc n) ≡ listed f n ++ f n ∷ []
unfolding listed
listed-more f n = refl

pub length-listed : (f : ℕ → Lead) (n : ℕ) → length (listed f n) ≡ n
length-listed f zero = ap (λ (l : List Lead). length l) (listed-none f)
length-listed f (suc n) =
    let rest = length-listed f n in
    let last = length-append (listed f n) (f n ∷ []) in
    ap (λ (l : List Lead). length l) (listed-more f n) ∙ omega (arith, rest, last)

pub get-listed : (f : ℕ → Lead) (n k : ℕ) (d : Lead) → k < n → get_or (listed f n) k d ≡ f k
get-listed f zero k d lt = absurd (omega (arith, lt))
get-listed f (suc n) k d lt =
    ap (λ (l : List Lead). get_or l k d) (listed-more f n)
    ∙ elim (cases_lt k n) [
      | inl before ↦ get_or_append_left (listed f n) (f n ∷ []) d k (omega (arith, before, length-listed f n)) ∙ get-listed f n k d before
      | inr last ↦
          let here : k ≡ n = omega (arith, lt, last) in
          let first : k - n ≡ 0 = omega (arith, lt, last) in
          get_or-append_right (listed f n) (f n ∷ []) n k d (length-listed f n) last
          ∙ (ap (λ (i : ℕ). get_or (f n ∷ []) i d) first ∙ ap f (sym here))
    ]

-- where a place is one of so many, each object has one
pub some-places : (size width place : ℕ) → place < size * width → 0 < width
some-places size zero place lt = let none : size * 0 ≡ 0 = omega arith in absurd (omega (arith, lt, none))
some-places size (suc width) place lt = omega arith

-- ---- what depends on where a capability leads

-- a capability of this kind to this object names another
abbrev named_by : CapKind → ℕ → CapKind → ℕ → Bool
named_by kind object k n = is_counted kind && ((number_of (object_kind kind) == number_of k) && (object == n))

-- a test depends on nothing else
abbrev IsOfLead : (Capability → Bool) → Type 0
IsOfLead test = (c d : Capability) → lead_of c ≡ lead_of d → test c ≡ test d

module _ (object n : ℕ) (writes : Bool) where
  page-led : (kind : CapKind) → named_by kind object Page n ≡ named_by (lead_by kind object writes).kind (lead_by kind object writes).object Page n
  page-led Page = refl
  page-led Gpt = refl
  page-led Process = refl
  page-led Range = refl
  page-led Window = refl
  page-led _ = refl

  gpt-led : (kind : CapKind) → named_by kind object Gpt n ≡ named_by (lead_by kind object writes).kind (lead_by kind object writes).object Gpt n
  gpt-led Page = refl
  gpt-led Gpt = refl
  gpt-led Process = refl
  gpt-led Range = refl
  gpt-led Window = refl
  gpt-led _ = refl

  process-led : (kind : CapKind) → named_by kind object Process n ≡ named_by (lead_by kind object writes).kind (lead_by kind object writes).object Process n
  process-led Page = refl
  process-led Gpt = refl
  process-led Process = refl
  process-led Range = refl
  process-led Window = refl
  process-led _ = refl

  write-led : (kind : CapKind) → (named_by kind object Page n && writes)
      ≡ (named_by (lead_by kind object writes).kind (lead_by kind object writes).object Page n && (lead_by kind object writes).writes)
  write-led Page = refl
  write-led Gpt = refl
  write-led Process = refl
  write-led Range = refl
  write-led Window = refl
  write-led _ = refl

  range-led : (kind : CapKind) → is_range kind ≡ is_range (lead_by kind object writes).kind
  range-led Page = refl
  range-led Gpt = refl
  range-led Process = refl
  range-led Range = refl
  range-led Window = refl
  range-led _ = refl

  far-led : (kind : CapKind) → is_far_reaching kind ≡ is_far_reaching (lead_by kind object writes).kind
  far-led Page = refl
  far-led Gpt = refl
  far-led Process = refl
  far-led Range = refl
  far-led Window = refl
  far-led _ = refl

-- whether one may write by it
abbrev writes_by : Capability → Bool
writes_by c = not (is_harmless c)

page-of : (n : ℕ) → IsOfLead (λ c. names c Page n)
page-of n c d same =
    page-led c.object n (writes_by c) c.kind
    ∙ (ap (λ (l : Lead). named_by l.kind l.object Page n) same ∙ sym (page-led d.object n (writes_by d) d.kind))

gpt-of : (n : ℕ) → IsOfLead (λ c. names c Gpt n)
gpt-of n c d same =
    gpt-led c.object n (writes_by c) c.kind
    ∙ (ap (λ (l : Lead). named_by l.kind l.object Gpt n) same ∙ sym (gpt-led d.object n (writes_by d) d.kind))

process-of : (n : ℕ) → IsOfLead (λ c. names c Process n)
process-of n c d same =
    process-led c.object n (writes_by c) c.kind
    ∙ (ap (λ (l : Lead). named_by l.kind l.object Process n) same ∙ sym (process-led d.object n (writes_by d) d.kind))

far-of : IsOfLead (λ c. is_far_reaching c.kind)
far-of c d same =
    far-led c.object 0 (writes_by c) c.kind
    ∙ (ap (λ (l : Lead). is_far_reaching l.kind) same ∙ sym (far-led d.object 0 (writes_by d) d.kind))

write-of : (n : ℕ) → IsOfLead (may_write n)
write-of n c d same =
    write-led c.object n (writes_by c) c.kind
    ∙ (ap (λ (l : Lead). named_by l.kind l.object Page n && l.writes) same ∙ sym (write-led d.object n (writes_by d) d.kind))

range-of : IsOfLead (λ c. is_range c.kind)
range-of c d same =
    range-led c.object 0 (writes_by c) c.kind
    ∙ (ap (λ (l : Lead). is_range l.kind) same ∙ sym (range-led d.object 0 (writes_by d) d.kind))

-- ---- objects whose capabilities lead to the same

module _ (s t : Store) (holder : CapKind) (some : 0 < places_in holder) (same : leads_of (state_map s) holder ≡ leads_of (state_map t) holder) where
  abbrev S : Store
  S = state_map s

  abbrev T : Store
  T = state_map t

  count : size_of s.items holder * places_in holder ≡ size_of t.items holder * places_in holder
  count =
      sym (length-listed (lead_in S holder) (size_of s.items holder * places_in holder))
      ∙ (ap (λ (l : List Lead). length l) same ∙ length-listed (lead_in T holder) (size_of t.items holder * places_in holder))

  -- there are as many
  pub same-size : size_of s.items holder ≡ size_of t.items holder
  same-size =
      sym (mul-div_cancel (size_of s.items holder) some)
      ∙ (ap (λ (n : ℕ). n / places_in holder) count ∙ mul-div_cancel (size_of t.items holder) some)

  -- each capability leads to where the other does
  pub same-lead : (n i : ℕ) → n < size_of s.items holder → i < places_in holder → lead_of (cap_in S holder n i) ≡ lead_of (cap_in T holder n i)
  same-lead n i there place =
      let width : ℕ = places_in holder in
      let k : ℕ = n * width + i in
      let fits = row_fits n width (size_of s.items holder) width there (omega arith) in
      let below : k < size_of s.items holder * width = omega (arith, fits, place) in
      let below_too : k < size_of t.items holder * width = omega (arith, below, count) in
      let d : Lead = lead_to Null 0 in
      let all = ap (λ (l : List Lead). get_or l k d) same in
      let here = get-listed (lead_in S holder) (size_of s.items holder * width) k d below in
      let here_too = get-listed (lead_in T holder) (size_of t.items holder * width) k d below_too in
      sym (ap₂ (λ (a b : ℕ). lead_of (cap_in S holder a b)) (div-mul-add n width i place) (mod-mul-add n width i place))
      ∙ (sym here ∙ (all ∙ (here_too ∙ ap₂ (λ (a b : ℕ). lead_of (cap_in T holder a b)) (div-mul-add n width i place) (mod-mul-add n width i place))))

  -- so who holds one of them comes to the same by it
  pub same-places : (kind : CapKind) (x : ℕ) → IsOfLead (λ c. names c kind x) → (by : ReachedBy) (n : ℕ) → n < size_of s.items holder
      → by_places S by holder n (places_in holder) kind x ≡ by_places T by holder n (places_in holder) kind x
  same-places kind x led by n there =
      joined_below-same (λ i. by_cap by (cap_in S holder n i) kind x) (λ i. by_cap by (cap_in T holder n i) kind x) (places_in holder)
      (λ i place. ap (λ (b : Bool). if b then by else Nobody) (led (cap_in S holder n i) (cap_in T holder n i) (same-lead n i there place)))

  -- and passes the same tests
  pub same-tests : (test : Capability → Bool) → IsOfLead test → in_objects S holder (size_of s.items holder) test ≡ in_objects T holder (size_of t.items holder) test
  same-tests test led =
      is_below-same (λ n. in_places S holder n (places_in holder) test) (λ n. in_places T holder n (places_in holder) test) (size_of s.items holder)
      (λ n there. is_below-same (λ i. test (cap_in S holder n i)) (λ i. test (cap_in T holder n i)) (places_in holder)
      (λ i place. led (cap_in S holder n i) (cap_in T holder n i) (same-lead n i there place)))
      ∙ ap (λ (n : ℕ). in_objects T holder n test) same-size

module _ (s t : Store) (full : AreFull s) (full_too : AreFull t) (leads : LeadsValue) (of : AreLeadsOf (state_map s) leads) (of_too : AreLeadsOf (state_map t) leads) where
  abbrev M : Store
  M = state_map s

  abbrev N : Store
  N = state_map t

  processes : leads_of M Process ≡ leads_of N Process
  processes = sym of.processes ∙ of_too.processes

  cappages : leads_of M CapPage ≡ leads_of N CapPage
  cappages = sym of.cappages ∙ of_too.cappages

  gpts : leads_of M Gpt ≡ leads_of N Gpt
  gpts = sym of.gpts ∙ of_too.gpts

  endpoints : leads_of M Endpoint ≡ leads_of N Endpoint
  endpoints = sym of.endpoints ∙ of_too.endpoints

  abbrev Empty : ComersValue
  Empty = comers [] [] [] false

  module _ (kind : CapKind) (led : (x : ℕ) → IsOfLead (λ c. names c kind x)) where
    same-held : (x : ℕ) → held_by M kind x ≡ held_by N kind x
    same-held x = ap₂ (λ (a b : ReachedBy). joined a b)
        (sym (by-processes s full Empty kind x)
        ∙ (joined_below-same (λ p. by_places M (Alone p) Process p (places_in Process) kind x) (λ p. by_places N (Alone p) Process p (places_in Process) kind x) (size_of s.items Process)
        (λ p there. same-places s t Process (omega arith) processes kind x (led x) (Alone p) p there)
        ∙ (ap (λ (n : ℕ). by_objects N Empty Process n kind x) (same-size s t Process (omega arith) processes) ∙ by-processes t full_too Empty kind x)))
        (sym (by-cappages s full Empty kind x)
        ∙ (joined_below-same (λ c. by_places M Several CapPage c (places_in CapPage) kind x) (λ c. by_places N Several CapPage c (places_in CapPage) kind x) (size_of s.items CapPage)
        (λ c there. same-places s t CapPage (omega arith) cappages kind x (led x) Several c there)
        ∙ (ap (λ (n : ℕ). by_objects N Empty CapPage n kind x) (same-size s t CapPage (omega arith) cappages) ∙ by-cappages t full_too Empty kind x)))

  same-gpts : length M.items.gpts ≡ length N.items.gpts
  same-gpts = sym (gpt-count s full) ∙ (same-size s t Gpt (omega arith) gpts ∙ gpt-count t full_too)

  -- what whoever comes to a GPT comes to by it
  same-through : (kind : CapKind) → ((x : ℕ) → IsOfLead (λ c. names c kind x)) → (x g : ℕ) (by also : ReachedBy) → g < length M.items.gpts → by ≡ also
      → through by (gpt_at M.items g).slots kind x ≡ through also (gpt_at N.items g).slots kind x
  same-through kind led x g by also lt is =
      let there : g < size_of s.items Gpt = omega (arith, lt, gpt-count s full) in
      let there_too : g < size_of t.items Gpt = omega (arith, there, same-size s t Gpt (omega arith) gpts) in
      sym (places-through M Gpt g (gpt_at M.items g).slots (gpt-long s full g there) (λ i place. refl) by kind x)
      ∙ (same-places s t Gpt (omega arith) gpts kind x (led x) by g there
      ∙ (ap (λ (b : ReachedBy). by_places N b Gpt g (places_in Gpt) kind x) is
      ∙ places-through N Gpt g (gpt_at N.items g).slots (gpt-long t full_too g there_too) (λ i place. refl) also kind x))

  same-within : (most : ℕ) (kind : CapKind) → ((x : ℕ) → IsOfLead (λ c. names c kind x)) → (x : ℕ) → reached_within most M kind x ≡ reached_within most N kind x
  same-within zero kind led x = reached-zero M kind x ∙ (same-held kind led x ∙ sym (reached-zero N kind x))
  same-within (suc most) kind led x =
      reached-suc most M kind x
      ∙ (ap₂ (λ (a b : ReachedBy). joined a b) (same-held kind led x)
      (joined_below-same (λ g. through (reached_within most M Gpt g) (gpt_at M.items g).slots kind x) (λ g. through (reached_within most N Gpt g) (gpt_at N.items g).slots kind x) (length M.items.gpts)
      (λ g lt. same-through kind led x g (reached_within most M Gpt g) (reached_within most N Gpt g) lt (same-within most Gpt gpt-of g))
      ∙ ap (joined_below (λ g. through (reached_within most N Gpt g) (gpt_at N.items g).slots kind x)) same-gpts)
      ∙ sym (reached-suc most N kind x))

  same-some : (test : Capability → Bool) → IsOfLead test → some_held test M ≡ some_held test N
  same-some test led = ap₂ (λ (a b : Bool). a || b)
      (sym (in-processes s full test) ∙ (same-tests s t Process (omega arith) processes test led ∙ in-processes t full_too test))
      (ap₂ (λ (a b : Bool). a || b)
      (sym (in-cappages s full test) ∙ (same-tests s t CapPage (omega arith) cappages test led ∙ in-cappages t full_too test))
      (sym (in-gpts s full test) ∙ (same-tests s t Gpt (omega arith) gpts test led ∙ in-gpts t full_too test)))

  same-cap : (test : Capability → Bool) → IsOfLead test → some_cap test M ≡ some_cap test N
  same-cap test led = ap₂ (λ (a b : Bool). a || b) (same-some test led)
      (sym (in-endpoints s full test) ∙ (same-tests s t Endpoint (omega arith) endpoints test led ∙ in-endpoints t full_too test))

  -- the tables of the one are those of the other
  alike-comers : (r : ComersValue) → AreComers M r → AreComers N r
  alike-comers r is = record {
    gpts = λ n. is.gpts n ∙ (same-within (length M.items.gpts) Gpt gpt-of n ∙ ap (λ (most : ℕ). reached_within most N Gpt n) same-gpts);
    pages = λ n. is.pages n ∙ (same-within (length M.items.gpts) Page page-of n ∙ ap (λ (most : ℕ). reached_within most N Page n) same-gpts);
    named = λ p. is.named p ∙ same-some (λ c. names c Process p) (process-of p);
    far = is.far ∙ same-some (λ c. is_far_reaching c.kind) far-of;
  }

  alike-writing : (w : WritingValue) → AreWriting M w → AreWriting N w
  alike-writing w is = record {
    pages = λ n. is.pages n ∙ same-cap (may_write n) (write-of n);
    range = is.range ∙ same-cap (λ c. is_range c.kind) range-of;
  }

  pub alike-reaching : (r : ReachingValue) → IsReaching M r → IsReaching N r
  alike-reaching r is = record { comers = alike-comers r.comers is.comers; writing = alike-writing r.writing is.writing }
