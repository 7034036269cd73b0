-- Which pages are written by the capabilities of all objects.
use Rattle.std.proofs.Common.{◌≡◌, ℕ, ◌<◌, ◌≤◌, inl, inr, Bool, false, not, ◌&&◌, ◌||◌, List, length, get_or, replicate, sym, ◌∙◌, ap, ap₂, arith}
use Rattle.std.proofs.lemmas.Bool.{cases_lt}
use Rattle.std.proofs.lemmas.List.{get_or-replicate, get_or_past, length-replicate}
use Rattle.cap_format.specs.declared.kind.CapKind.{CapKind}
use Rattle.cap_format.specs.declared.kind.CapKind.TheVariants.{Page, CapPage, Gpt, Endpoint, Process}
use Rattle.cap_format.specs.Capability.{Capability}
use Rattle.cap_format.specs.Weakening.{is_harmless}
use Rattle.object_store.specs.Store.{Store, size_of, gpt_at, cappage_at}
use Rattle.object_store.specs.Meaning.{state_map}
use Rattle.object_store.specs.Places.{cap_in, places_in}
use Rattle.confine_check.specs.Full.{AreFull}
use Rattle.quiet_runs.specs.Reaching.{caps_of}
use Rattle.std.specs.List.{list_any}
use Rattle.quiet_runs.specs.Finding.{is_below, is_range, may_write, some_cap}
use Rattle.quiet_finding.specs.Passing.{Finds, in_objects, in_places}
use Rattle.quiet_finding.specs.Writing.{AreWriting, WritesAfter, WritingValue, writes_page}
use Rattle.quiet_finding.proofs.Joining.{or-assoc}
use Rattle.quiet_finding.proofs.Folding.{is_below-false}
use Rattle.quiet_finding.proofs.Places.{names-none}
use Rattle.quiet_finding.proofs.Recipients.{in-endpoints}
use Rattle.quiet_finding.proofs.Rounds.{in-cappages, in-gpts, in-processes}
use Rattle.quiet_finding.proofs.Writes.{writes-then}

module _ (s : Store) (full : AreFull s) where
  abbrev M : Store
  M = state_map s

  -- a test of what all objects of a kind hold
  abbrev all_in : CapKind → Finds
  all_in kind test = in_objects M kind (size_of s.items kind) test

  abbrev all_places : Finds
  all_places test = ((all_in Process test || all_in CapPage test) || all_in Gpt test) || all_in Endpoint test

  -- there are no other places in which capabilities stand
  all-caps : (test : Capability → Bool) → all_places test ≡ some_cap test M
  all-caps test =
      ap₂ (λ (a b : Bool). a || b)
      (ap₂ (λ (a b : Bool). a || b) (ap₂ (λ (a b : Bool). a || b) (in-processes s full test) (in-cappages s full test)) (in-gpts s full test)
      ∙ or-assoc
      (is_below (λ p. list_any test (caps_of M p)) (length M.contents.processes))
      (is_below (λ c. list_any test (cappage_at M c)) (length M.contents.cappages))
      (is_below (λ g. list_any test (gpt_at M.items g).slots) (length M.items.gpts)))
      (in-endpoints s full test)

  -- nobody writes a page that isn't there
  module _ (n : ℕ) (past : size_of s.items Page ≤ n) where
    unwritten : (holder : CapKind) → all_in holder (may_write n) ≡ false
    unwritten holder =
        is_below-false (λ o. in_places M holder o (places_in holder) (may_write n)) (size_of s.items holder)
        (λ o lt. is_below-false (λ i. may_write n (cap_in M holder o i)) (places_in holder)
        (λ i place. ap (λ (b : Bool). b && not (is_harmless (cap_in M holder o i))) (names-none s Page n past holder o i)))

    none-write : some_cap (may_write n) M ≡ false
    none-write =
        sym (all-caps (may_write n))
        ∙ ap₂ (λ (a b : Bool). a || b)
        (ap₂ (λ (a b : Bool). a || b) (ap₂ (λ (a b : Bool). a || b) (unwritten Process) (unwritten CapPage)) (unwritten Gpt)) (unwritten Endpoint)

  module _ (none first second third all : WritingValue)
      (empty : none.pages ≡ replicate (size_of s.items Page) false) (no_range : none.range ≡ false)
      (processes : WritesAfter (all_in Process) none first) (cappages : WritesAfter (all_in CapPage) first second)
      (gpts : WritesAfter (all_in Gpt) second third) (endpoints : WritesAfter (all_in Endpoint) third all) where
    passed : WritesAfter all_places none all
    passed =
        let two = writes-then (all_in Process) (all_in CapPage) none first second processes cappages in
        let three = writes-then (λ test. all_in Process test || all_in CapPage test) (all_in Gpt) none second third two gpts in
        writes-then (λ test. (all_in Process test || all_in CapPage test) || all_in Gpt test) (all_in Endpoint) none third all three endpoints

    long : length none.pages ≡ size_of s.items Page
    long = ap (λ (pages : List Bool). length pages) empty ∙ length-replicate (size_of s.items Page) false

    none-yet : (n : ℕ) → n < size_of s.items Page → writes_page none n ≡ false
    none-yet n lt = ap (λ (pages : List Bool). get_or pages n false) empty ∙ get_or-replicate (size_of s.items Page) n false false lt

    -- the tables after all of them
    pub all-writing : AreWriting M all
    all-writing = record {
      pages = λ n. elim (cases_lt n (size_of s.items Page)) [
        | inl there ↦
            passed.pages n (omega (arith, there, long))
            ∙ (ap (λ (b : Bool). b || all_places (may_write n)) (none-yet n there) ∙ all-caps (may_write n))
        | inr past ↦ get_or_past all.pages n false (omega (arith, past, passed.count, long)) ∙ sym (none-write n past)
      ];
      range = passed.range ∙ (ap (λ (b : Bool). b || all_places (λ c. is_range c.kind)) no_range ∙ all-caps (λ c. is_range c.kind));
    }
