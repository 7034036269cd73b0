-- The steps that are found to be quiet are.
use Rattle.std.proofs.Common.{◌≡◌, ℕ, zero, suc, ◌%◌, ◌==◌, ◌<◌, ◌≤◌, nat_lt, ⊎_elim, inl, inr, Bool, true, false, not, ◌&&◌, ◌||◌, if◌then◌else◌, List, [], ◌∷◌, length, Option, Some, None, Result, Ok, Err, refl, sym, ◌∙◌, ap, arith}
use Rattle.std.specs.List.{AllByRecursion as Each, list_all}
use Rattle.std.proofs.lemmas.Bool.{and_parts, and_cases, or_parts, or_cases, false≢true, not-true, eqb-true, ltb-true}
use Rattle.cap_format.specs.declared.item.Item.{Item}
use Rattle.cap_format.specs.declared.item.Item.TheVariants.{Header, Slot}
use Rattle.cap_format.specs.declared.kind.CapKind.TheVariants.{Page, Gpt, Window}
use Rattle.object_store.specs.Store.{slot_at}
use Rattle.rv32_decode.specs.declared.insn.Insn.{Insn}
use Rattle.rv32_decode.specs.Table.{insn_at}
use Rattle.rv32_user.specs.declared.effect.Effect.{Effect}
use Rattle.rv32_user.specs.declared.effect.Effect.TheVariants.{Next, Load, Store as StoreOf}
use Rattle.rv32_user.specs.Step.{effect_of}
use Rattle.schedules.specs.Queues.{hart_of}
use Rattle.walk_meaning.specs.declared.kind.Kind.{Kind}
use Rattle.walk_meaning.specs.declared.kind.Kind.TheVariants.{Fetch, Load as LoadKind, Store as StoreKind}
use Rattle.walk_meaning.specs.declared.noted.Noted.{Noted}
use Rattle.walk_meaning.specs.declared.place.Place.{Place}
use Rattle.walk_meaning.specs.declared.place.WalkFault.{WalkFault}
use Rattle.walk_meaning.specs.Trail.{trail}
use Rattle.walk_meaning.specs.Walk.{is_data, start_at, access}
use Rattle.walk_engine.specs.declared.hit.Hit.{Hit}
use Rattle.walk_engine.specs.Answer.{hit_of}
use Rattle.machine_state.specs.State.{State, process, pc_of, space_of}
use Rattle.machine_state.specs.DataAccess.{data_access, number_at}
use Rattle.confinement.specs.declared.cut_side.CutSide.TheVariants.{Left}
use Rattle.confinement.specs.Cut.{Cut, side_of}
use Rattle.independence.specs.Settled.{AreSettled}
use Rattle.independence.specs.Quiet.{MayPass, MayRead, MayReach, StaysLeft, AccessesLeft, IsQuietEffect, IsQuietInstruction}
use Rattle.quiet_runs.specs.Runs.{Watch, IsQuietFor, AreQuiet, after_step}
use Rattle.quiet_runs.specs.Reaching.{reached_by, is_alone}
use Rattle.quiet_runs.specs.Finding.{is_far_reaching, is_secluded, is_own, is_settled, is_watched, goes_by_own, may_pass, may_reach, only_reads}
use Rattle.quiet_runs.specs.Finding.{is_quiet_access, is_quiet_effect, is_quiet_word, is_quiet_fetch, is_quiet_next, is_quiet_on, is_quiet, quiet_within}
use Rattle.quiet_runs.specs.Laws.{FoundLaw, WithinFoundLaw}
use Rattle.quiet_runs.specs.RoundLaws.{ShortLaw}
use Rattle.quiet_runs.proofs.Below.{below-none}
use Rattle.quiet_runs.proofs.Reached.{shared, shared-gpt, alone-unshared}
use Rattle.quiet_runs.proofs.Cutting.{own_cut, left-process, left-alone, left-gpt, left-page, right-watched, secluded, secluded-on, secluded-near}
use Rattle.quiet_runs.proofs.Settled.{settled_found}
use Rattle.quiet_runs.proofs.Staying.{stays}

-- what an access of data that reaches comes from
record Placed (r : Result Place WalkFault) (hit : Hit) : Type 0 where
  place : Place
  reached : r ≡ Ok place
  page : place.number ≡ hit.page

placed : (r : Result Place WalkFault) (hit : Hit) → hit_of r ≡ Ok hit → Placed r hit
placed (Ok place) hit e = record { place = place; reached = refl; page = let same : (record { page = place.number; offset = place.offset }) ≡ hit = cc (e) in ap (λ (h : Hit). h.page) same }
placed (Err fault) hit e = absurd (cc (e))

module _ (watch : Watch) (s : State) (p hart : ℕ) (is : is_secluded s p hart ≡ true) (unwatched : is_watched watch s p ≡ false) where
  abbrev cut : Cut
  cut = own_cut watch s p

  abbrev settled : ℕ → Bool
  settled n = is_settled s.store n

  still : AreSettled settled s.store
  still n e = settled_found s.store n e

  -- ---- pages of its own

  -- a page of its own isn't watched
  own-unwatched : (n : ℕ) → is_own s p n ≡ true → watch.pages n ≡ false
  own-unwatched n own =
      let pages = length s.store.contents.pages in
      let there : n < pages = ltb-true n pages (and_parts (nat_lt n pages) (is_alone p (reached_by s.store Page n)) own).0 in
      let none = below-none (λ n. watch.pages n && is_own s p n) pages n (or_parts (watch.processes p) _ unwatched).1 there in
      ⊎_elim
      (λ (no : watch.pages n ≡ false). no)
      (λ (no : is_own s p n ≡ false). absurd (false≢true (sym no ∙ own)))
      (and_cases (watch.pages n) (is_own s p n) none)

  -- a page of the left may be reached
  reach : (kind : Kind) (n : ℕ) → side_of cut Page n ≡ Left → MayReach cut settled kind n
  reach Fetch n left = inl left
  reach LoadKind n left = inl left
  reach _ n left = left

  -- an access that reaches a page of its own reads nothing but its own on the way
  stays-left : (address : ℕ) (kind : Kind) (hit : Hit) → is_data kind ≡ true → data_access s p address kind ≡ Ok hit → is_own s p hit.page ≡ true → StaysLeft cut settled s p address kind hit
  stays-left address kind hit of_data reaches own =
      let pages = length s.store.contents.pages in
      let alone = alone-unshared s.store p Page hit.page (and_parts (nat_lt hit.page pages) (is_alone p (reached_by s.store Page hit.page)) own).1 in
      let page = left-page watch s p hit.page (own-unwatched hit.page own) alone in
      let at = placed (access s.store.items (space_of s p) address kind) hit reaches in
      record {
        reaches = reaches;
        page = reach kind hit.page page;
        way = stays s.store.items (shared s.store p) kind of_data (near-window) (shared-gpt s.store p) at.place cut settled
            (ap (shared s.store p Page) at.page ∙ alone)
            (inl (ap (side_of cut Page) at.page ∙ page))
            (left-gpt watch s p) address 32 (space_of s p) (start_at address) at.reached;
      }
    where
      near-window : (g i : ℕ) → (slot_at s.store.items g i).kind ≡ Window → ⊥
      near-window g i window = false≢true (sym (secluded-near watch s p hart is g i) ∙ ap is_far_reaching window)

  -- ---- settled pages

  -- what a walk may read on its way
  pass : (item : Item) → may_pass s p item ≡ true → MayPass cut settled item
  pass (Header Page n) e = inr e
  pass (Header Gpt g) e = left-gpt watch s p g (alone-unshared s.store p Gpt g e)
  pass (Header _ n) e = absurd (false≢true e)
  pass (Slot g i) e = left-gpt watch s p g (alone-unshared s.store p Gpt g e)

  passes : (ns : List Noted) → list_all (λ (n : Noted). may_pass s p n.item) ns ≡ true → Each (λ (n : Noted). MayPass cut settled n.item) ns
  passes [] e = tt
  passes (n ∷ ns) e =
      let parts = and_parts (may_pass s p n.item) (list_all (λ (n : Noted). may_pass s p n.item) ns) e in
      (pass n.item parts.0, passes ns parts.1)

  -- an access that only reads may reach one
  reads : (kind : Kind) (n : ℕ) → only_reads kind ≡ true → MayRead cut settled n → MayReach cut settled kind n
  reads Fetch n e may = may
  reads LoadKind n e may = may
  reads _ n e may = absurd (false≢true e)

  -- ---- an access

  stays-quiet : (at : ℕ) (kind : Kind) (hit : Hit) → is_data kind ≡ true → data_access s p at kind ≡ Ok hit → may_reach s p at kind hit.page ≡ true
      → StaysLeft cut settled s p at kind hit
  stays-quiet at kind hit of_data reaches e =
      let still = is_settled s.store hit.page && goes_by_own s p at kind in
      ⊎_elim
      (λ (own : is_own s p hit.page ≡ true). stays-left at kind hit of_data reaches own)
      (λ (both : (only_reads kind && still) ≡ true).
      let first = and_parts (only_reads kind) still both in
      let second = and_parts (is_settled s.store hit.page) (goes_by_own s p at kind) first.1 in
      record {
        reaches = reaches;
        page = reads kind hit.page first.0 (inr second.0);
        way = passes (trail s.store.items (space_of s p) at kind) second.1;
      })
      (or_cases (is_own s p hit.page) (only_reads kind && still) e)

  record Reaches (at : ℕ) (kind : Kind) : Type 0 where
    hit : Hit
    stays : StaysLeft cut settled s p at kind hit

  reaches-is : (at : ℕ) (kind : Kind) → is_data kind ≡ true → (r : Result Hit WalkFault) → data_access s p at kind ≡ r → is_quiet_access s p at kind r ≡ true → Reaches at kind
  reaches-is at kind of_data (Ok hit) reaches e = record { hit = hit; stays = stays-quiet at kind hit of_data reaches e }
  reaches-is at kind of_data (Err fault) reaches e = absurd (false≢true e)

  accesses : (at size : ℕ) (kind : Kind) → is_data kind ≡ true → ((at % size == 0) && is_quiet_access s p at kind (data_access s p at kind)) ≡ true → AccessesLeft cut settled s p at size kind
  accesses at size kind of_data e =
      let parts = and_parts (at % size == 0) (is_quiet_access s p at kind (data_access s p at kind)) e in
      let r = reaches-is at kind of_data (data_access s p at kind) refl parts.1 in
      record { aligned = eqb-true (at % size) 0 parts.0; hit = r.hit; stays = r.stays }

  -- ---- an instruction

  quiet-effect : (effect : Effect) → is_quiet_effect s p effect ≡ true → IsQuietEffect cut settled s p effect
  quiet-effect (Next pc) e = tt
  quiet-effect (Load at size signed rd) e = accesses at size LoadKind refl e
  quiet-effect (StoreOf at size value) e = accesses at size StoreKind refl e
  quiet-effect _ e = absurd (false≢true e)

  quiet-word : (hit : Hit) → StaysLeft cut settled s p (pc_of s p) Fetch hit → (word : Option Insn) → insn_at (number_at s hit 4) ≡ word → is_quiet_word s p word ≡ true → IsQuietInstruction cut settled s p
  quiet-word hit fetch None decoded e = absurd (false≢true e)
  quiet-word hit fetch (Some insn) decoded e = record {
    hit = hit;
    fetch = fetch;
    insn = insn;
    decoded = decoded;
    effect = quiet-effect (effect_of (process s p).regs (pc_of s p) insn) e;
  }

  quiet-fetch : (r : Result Hit WalkFault) → data_access s p (pc_of s p) Fetch ≡ r → is_quiet_fetch s p r ≡ true → IsQuietInstruction cut settled s p
  quiet-fetch (Err fault) reaches e = absurd (false≢true e)
  quiet-fetch (Ok hit) reaches e =
      let parts = and_parts (may_reach s p (pc_of s p) Fetch hit.page) (is_quiet_word s p (insn_at (number_at s hit 4))) e in
      quiet-word hit (stays-quiet (pc_of s p) Fetch hit refl reaches parts.0) (insn_at (number_at s hit 4)) refl parts.1

  -- its step is quiet
  pub quiet-next : s.halted ≡ false → is_quiet_next s p ≡ true → IsQuietFor watch s hart
  quiet-next runs next = record {
    cut = cut;
    settled = settled;
    process = p;
    by = record {
      runs = runs;
      on = secluded-on watch s p hart is;
      secluded = secluded watch s p hart is;
      own = left-process watch s p;
      alone = left-alone watch s p;
      still = still;
      instruction = quiet-fetch (data_access s p (pc_of s p) Fetch) refl next;
    };
    unwatched = (or_parts (watch.processes p) _ unwatched).0;
    pages = right-watched watch s p;
  }

-- a step that is found to be quiet is
pub found : (watch : Watch) (s : State) (hart : ℕ) → is_quiet watch s hart ≡ true → IsQuietFor watch s hart
unfolding is_quiet
found watch s hart quiet =
    let parts = and_parts (not s.halted) (is_quiet_on watch s hart (hart_of s.queues hart)) quiet in
    on (not-true s.halted parts.0) (hart_of s.queues hart) parts.1
  where
    on : s.halted ≡ false → (h : Option ℕ) → is_quiet_on watch s hart h ≡ true → IsQuietFor watch s hart
    on runs None e = absurd (false≢true e)
    on runs (Some p) e =
        let first = and_parts (is_secluded s p hart) (not (is_watched watch s p) && is_quiet_next s p) e in
        let second = and_parts (not (is_watched watch s p)) (is_quiet_next s p) first.1 in
        quiet-next watch s p hart first.0 (not-true (is_watched watch s p) second.0) runs second.1

-- so are those that follow one after the other
pub found-within : WithinFoundLaw
unfolding quiet_within
found-within zero watch s hart = tt
found-within (suc most) watch s hart = on (is_quiet watch s hart) refl (found-within most watch (after_step s hart) hart)
  where
    on : (b : Bool) → is_quiet watch s hart ≡ b → AreQuiet watch (quiet_within most watch (after_step s hart) hart) (after_step s hart) hart
        → AreQuiet watch (if b then suc (quiet_within most watch (after_step s hart) hart) else 0) s hart
    on true e rest = (found watch s hart e, rest)
    on false e rest = tt

-- the steps that are found are quiet
pub found_law : FoundLaw
found_law watch s hart = found-within 4096 watch s hart

-- they are no more than are counted
within-short : (most : ℕ) (watch : Watch) (s : State) (hart : ℕ) → quiet_within most watch s hart ≤ most
unfolding quiet_within
within-short zero watch s hart = omega arith
within-short (suc most) watch s hart = on (is_quiet watch s hart) (within-short most watch (after_step s hart) hart)
  where
    on : (b : Bool) → quiet_within most watch (after_step s hart) hart ≤ most → (if b then suc (quiet_within most watch (after_step s hart) hart) else 0) ≤ suc most
    on true few = omega (arith, few)
    on false few = omega arith

pub short_law : ShortLaw
short_law watch s hart = within-short 4096 watch s hart
