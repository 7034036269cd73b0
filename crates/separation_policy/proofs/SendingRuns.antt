-- Policies whose domains send each other messages, over whole runs: where each sender is plain or those whom it calls are deaf, the policy holds behind it.
use Rattle.std.proofs.Common.{◌≡◌, ◌≢◌, ℕ, zero, suc, ◌<◌, ◌==◌, ◌&&◌, not, ◌⊎◌, inl, inr, Bool, true, false, List, [], ◌∷◌, length, get_or, Option, Some, None, refl, sym, ◌∙◌, ap, subst, eqb-true}
use Rattle.std.proofs.lemmas.Bool.{cases_Bool, and_from, and_parts, or_cases, or_left, or_right, eq-eqb}
use Rattle.cap_format.specs.declared.kind.CapKind.{CapKind}
use Rattle.cap_format.specs.declared.kind.CapKind.TheVariants.{Page, CapPage, Gpt, Endpoint, Entry, Process, Range, KernLog, SysCtl}
use Rattle.cap_format.specs.Kind.{is_counted, object_kind}
use Rattle.cap_format.specs.Capability.{Capability}
use Rattle.cap_format.specs.Weakening.{harmless_kind, is_harmless}
use Rattle.gpt_objects.specs.Gpt.{GptValue, slot_of as gpt_slot_of}
use Rattle.page_store.specs.CapPage.{cap_at}
use Rattle.process_objects.specs.Process.{capreg_of, slot_of}
use Rattle.object_store.specs.Object.{SameObject}
use Rattle.object_store.specs.Store.{Store, gpt_at, slot_at, cappage_at, process_at, endpoint_at}
use Rattle.schedules.specs.Queues.{sleepers_of, stands_in}
use Rattle.operations.specs.System.{System}
use Rattle.machine_state.specs.declared.event.Event.{Event}
use Rattle.machine_state.specs.State.{State}
use Rattle.kernel_core.specs.Event.{performer, event_of}
use Rattle.kernel_core.specs.Run.{run_state}
use Rattle.confinement.specs.declared.cut_side.CutSide.TheVariants.{Left}
use Rattle.confinement.specs.Cut.{Cut, side_of, NamesOwn, MayCross, MayCall, MayHold, MaySleep, Beyond, HoldsFor}
use Rattle.confinement.specs.Acts.{Given, Acts, system_of}
use Rattle.confinement.specs.Passing.{passes_kind, may_pass, may_lie, IsPlain, PassesAtMost}
use Rattle.confinement.specs.authority.Within.{may_change}
use Rattle.confinement.proofs.Runs.{event-idle, event_still, reach_law}
use Rattle.confinement.proofs.Passing.Events.{plain-after, pass_law}
use Rattle.separation_policy.specs.Policy.{domain_of, may_write, sees, sees_written, own, side_if}
use Rattle.separation_policy.specs.Policy.MayName.{Own, Read, Written, Shown}
use Rattle.separation_policy.specs.Sending.{Sending, may_send, may_call, MaySendName, MaySendStand, EachMaySend, passing_of, objects_of, IsClosedTo, SendingHolds, AreDeafTo, any_below, domain_cut, seen_hears, seen_cut, IsSafeBy, IsSafe, SafeBefore, SendsAtMost}
use Rattle.separation_policy.specs.Sending.MaySendName.{Named, Called}
use Rattle.separation_policy.specs.SendingLaws.{SendIntegrityLaw}
use Rattle.separation_policy.proofs.Reaching.{reach-then}
use Rattle.separation_policy.proofs.Reading.{reads-seen, seen-reads, sees-itself, sees-then, seen-writer, writer-seen}
use Rattle.separation_policy.proofs.Bounded.{page-named}
use Rattle.separation_policy.proofs.SendingHolding.{not-true, any-there, far-side, is-own, sends-made, call-sends, recipient-home, taker-home, may-lead, may-sleep-back, acts-domain}

-- what is so of any number below another is so of one
pub record Found (test : ℕ → Bool) : Type 0 where
  pub number : ℕ
  pub is : test number ≡ true

any-found : (test : ℕ → Bool) (n : ℕ) → any_below test n ≡ true → Found test
unfolding any_below
any-found test zero e = absurd (cc (e))
any-found test (suc n) e = elim (or_cases (any_below test n) (test n) e) [
  | inl below ↦ any-found test n below
  | inr here ↦ record { number = n; is = here }
]

true-not : (b : Bool) → b ≡ false → not b ≡ true
true-not true e = absurd (cc (e))
true-not false e = refl

-- a page kind has its own and its written pages, any other kind its own objects
changes-own : (o : CapKind → ℕ → Bool) (w : ℕ → Bool) (kind : CapKind) (n : ℕ) → o kind n ≡ true → may_change (record { objects = o; pages = w; looks = true; halts = true; logs = true }) kind n ≡ true
changes-own o w Page n own = or_left (o Page n) (w n) own
changes-own o w _ n own = own

changed-by : (o : CapKind → ℕ → Bool) (w : ℕ → Bool) (kind : CapKind) (n : ℕ) → may_change (record { objects = o; pages = w; looks = true; halts = true; logs = true }) kind n ≡ true
    → (o kind n ≡ true) ⊎ ((kind ≡ Page) × (w n ≡ true))
changed-by o w Page n may = elim (or_cases (o Page n) (w n) may) [ inl own ↦ inl own | inr page ↦ inr (refl, page) ]
changed-by o w _ n may = inl may

page-kind : (k : CapKind) → object_kind k ≡ Page → k ≡ Page
page-kind Page e = refl
page-kind _ e = absurd (cc (e))

module _ (x : Sending) where
  abbrev home : CapKind → ℕ → ℕ
  home kind n = domain_of x.policy kind n

  abbrev count : ℕ
  count = length x.policy.domains

  -- ---- what a domain may look at, as a side

  module _ (a : ℕ) where
    abbrev cut : Cut
    cut = seen_cut x a

    seen-side : (kind : CapKind) (n : ℕ) → sees x.policy a (home kind n) ≡ true → side_of cut kind n ≡ Left
    seen-side Page n saw = ap side_if (or_left (sees x.policy a (home Page n)) (sees_written x.policy a (home Page n)) saw)
    seen-side _ n saw = ap side_if saw

    written-side : (c : Capability) → c.kind ≡ Page → sees_written x.policy a (home Page c.object) ≡ true → side_of cut (object_kind c.kind) c.object ≡ Left
    written-side c page written =
        subst (λ (k : CapKind). side_of cut (object_kind k) c.object ≡ Left) (sym page) (ap side_if (or_right (sees x.policy a (home Page c.object)) _ written))

    may-look : (d : ℕ) (c : Capability) → sees x.policy a d ≡ true → MaySendStand x d c → MayHold cut Left c
    may-look d c saw may = record { no_range = may.no_range; halting = λ k. refl; logging = λ k. refl; own = on (cases_Bool (is_counted c.kind)) }
      where
        called : c.kind ≡ Entry → may_call x d c.object ≡ true → (sees x.policy a (home Endpoint c.object) ≡ true) ⊎ (sees x.policy a (home Endpoint c.object) ≡ false)
            → NamesOwn cut Left c ⊎ (MayCross cut Left c ⊎ MayCall cut Left c)
        called entry calls (inl there) = inl (λ e. subst (λ (k : CapKind). side_of cut (object_kind k) c.object ≡ Left) (sym entry) (ap side_if there))
        called entry calls (inr away) = inr (inr (
          entry,
          and_from _ _ (true-not _ away)
              (any-there (λ b. sees x.policy a b && may_call x b c.object) d count (sends-made x d (home Endpoint c.object) (call-sends x d c.object calls)) (and_from _ _ saw calls)),
        ))

        by : MaySendName x d c → NamesOwn cut Left c ⊎ (MayCross cut Left c ⊎ MayCall cut Left c)
        by (Named (Own same)) = inl (λ e. seen-side (object_kind c.kind) c.object (ap (sees x.policy a) same ∙ saw))
        by (Named (Read harmless reads)) = inl (λ e. seen-side (object_kind c.kind) c.object (sees-then x.policy a d _ saw (reads-seen x.policy d _ reads)))
        by (Named (Written page writes)) = inl (λ e. written-side c page (ap (sees_written x.policy a) (page-named x.policy c page)
            ∙ writer-seen x.policy a _ (record { by = d; reads = seen-reads x.policy a d saw; writes = writes })))
        by (Named (Shown page harmless writer)) = inl (λ e. written-side c page (ap (sees_written x.policy a) (page-named x.policy c page)
            ∙ writer-seen x.policy a _ (record { by = writer.by; reads = reach-then _ (seen-reads x.policy a d saw) writer.reads; writes = writer.writes })))
        by (Called entry calls) = called entry calls (cases_Bool (sees x.policy a (home Endpoint c.object)))

        on : (is_counted c.kind ≡ true) ⊎ (is_counted c.kind ≡ false) → NamesOwn cut Left c ⊎ (MayCross cut Left c ⊎ MayCall cut Left c)
        on (inl counted) = by (may.named counted)
        on (inr free) = inl (λ e. absurd (cc (free, e)))

    look-sleep : (p on : ℕ) → (home Process p ≡ home Process on) ⊎ (may_send x (home Process p) (home Process on) ≡ true) → MaySleep cut p on
    look-sleep p on (inl same) = inl (ap (λ (d : ℕ). side_if (sees x.policy a d)) same)
    look-sleep p on (inr sends) = by (sees x.policy a (home Process p)) (sees x.policy a (home Process on)) refl refl
      where
        made : home Process p < count
        made = sends-made x (home Process p) (home Process on) sends

        by : (v u : Bool) → sees x.policy a (home Process p) ≡ v → sees x.policy a (home Process on) ≡ u → (side_if (sees x.policy a (home Process p)) ≡ side_if (sees x.policy a (home Process on))) ⊎ (seen_hears x a (side_if (sees x.policy a (home Process p))) on ≡ true)
        by true true e f = inl (ap side_if (e ∙ sym f))
        by true false e f = inr (subst (λ (b : Bool). seen_hears x a (side_if b) on ≡ true) (sym e)
            (and_from _ _ (true-not _ f) (any-there (λ b. sees x.policy a b && may_send x b (home Process on)) (home Process p) count made (and_from _ _ e sends))))
        by false u e f = inr (subst (λ (b : Bool). seen_hears x a (side_if b) on ≡ true) (sym e)
            (any-there (λ b. may_send x b (home Process on)) (home Process p) count made sends))

    unseen : (kind : CapKind) (n : ℕ) (b : Bool) → (not (sees x.policy a (home kind n)) && b) ≡ true → sees x.policy a (home kind n) ≡ false
    unseen kind n b e = not-true _ (and_parts _ _ e).0

    look-beyond : (w : System) → SendingHolds x w → Beyond cut Left w.store
    look-beyond w holds = let each = holds.each in record {
      away = λ e calls. far-side (sees x.policy a (home Endpoint e)) (unseen Endpoint e _ calls);
      heard = λ e calls k.
          let r = (endpoint_at w.store e).recipient in
          let same = recipient-home x (home Endpoint e) r k (each.recipients e) in
          let found = any-found (λ b. sees x.policy a b && may_call x b e) count (and_parts _ _ calls).1 in
          let both = and_parts _ _ found.is in
          let sends = call-sends x found.number e both.1 in
          subst (λ (d : ℕ). (not (sees x.policy a d) && any_below (λ b. sees x.policy a b && may_send x b d) count) ≡ true) (sym same)
          (and_from _ _ (and_parts _ _ calls).0 (any-there (λ b. sees x.policy a b && may_send x b (home Endpoint e)) found.number count (sends-made x found.number (home Endpoint e) sends) (and_from _ _ both.0 sends)));
      others = λ q hears. far-side (sees x.policy a (home Process q)) (unseen Process q _ hears);
      spaces = λ q hears. may-lead x (home Process q) (slot_of (process_at w.store q) 0) (each.process_slots q 0);
      apart = λ q g hears own.
          far-side (sees x.policy a (home Gpt g)) (ap (sees x.policy a) (eqb-true (home Gpt g) (home Process q) own) ∙ unseen Process q _ hears);
      slots = λ q g i hears own.
          may-lead x (home Process q) (slot_at w.store.items g i)
          (subst (λ (d : ℕ). MaySendStand x d (slot_at w.store.items g i)) (eqb-true (home Gpt g) (home Process q) own) (each.slots g i));
    }

    holds-look : (w : System) → SendingHolds x w → HoldsFor cut Left w
    holds-look w holds = let each = holds.each in record {
      each = record {
        slots = λ g i here. may-look (home Gpt g) _ (is-own x a _ here) (each.slots g i);
        cappages = λ n i here. may-look (home CapPage n) _ (is-own x a _ here) (each.cappages n i);
        capregs = λ p i here. may-look (home Process p) _ (is-own x a _ here) (each.capregs p i);
        process_slots = λ p i here. may-look (home Process p) _ (is-own x a _ here) (each.process_slots p i);
        recipients = λ e here. may-look (home Endpoint e) _ (is-own x a _ here) (each.recipients e);
      };
      sleepers = λ on p there. look-sleep p on (holds.sleepers on p there);
      beyond = look-beyond w holds;
    }

    -- what may be held by both stands there by the policy
    both-stand : (c : Capability) → MayHold (domain_cut x a) Left c → MayHold cut Left c → MaySendStand x a c
    both-stand c does looks = record { no_range = does.no_range; halting = does.halting; logging = does.logging; named = λ counted. by counted does.own looks.own }
      where
        own-name : (home (object_kind c.kind) c.object == a) ≡ true ⊎ ((object_kind c.kind ≡ Page) × (may_write x.policy a (home Page c.object) ≡ true)) → MaySendName x a c
        own-name (inl same) = Named (Own (eqb-true _ a same))
        own-name (inr page) = let k = page-kind c.kind page.0 in Named (Written k (sym (ap (may_write x.policy a) (page-named x.policy c k)) ∙ page.1))

        seen-name : is_harmless c ≡ true → (sees x.policy a (home (object_kind c.kind) c.object) ≡ true) ⊎ ((object_kind c.kind ≡ Page) × (sees_written x.policy a (home Page c.object) ≡ true)) → MaySendName x a c
        seen-name harmless (inl saw) = Named (Read harmless (seen-reads x.policy a _ saw))
        seen-name harmless (inr page) = let k = page-kind c.kind page.0 in
            Named (Shown k harmless (seen-writer x.policy a _ (sym (ap (sees_written x.policy a) (page-named x.policy c k)) ∙ page.1)))

        looked : is_counted c.kind ≡ true → is_harmless c ≡ true → NamesOwn cut Left c ⊎ (MayCross cut Left c ⊎ MayCall cut Left c) → MaySendName x a c
        looked counted harmless (inl own) =
            seen-name harmless (changed-by (λ kind n. sees x.policy a (home kind n)) (λ n. sees_written x.policy a (home Page n)) (object_kind c.kind) c.object (is-own x a _ (own counted)))
        looked counted harmless (inr (inl cross)) = let no = cross.0 in absurd (cc (no))
        looked counted harmless (inr (inr call)) = let no = sym (ap (λ (j : CapKind). harmless_kind j c.restr) call.0) ∙ harmless in absurd (cc (no))

        by : is_counted c.kind ≡ true → NamesOwn (domain_cut x a) Left c ⊎ (MayCross (domain_cut x a) Left c ⊎ MayCall (domain_cut x a) Left c) → NamesOwn cut Left c ⊎ (MayCross cut Left c ⊎ MayCall cut Left c) → MaySendName x a c
        by counted (inl own) other =
            own-name (changed-by (λ kind n. home kind n == a) (λ n. may_write x.policy a (home Page n)) (object_kind c.kind) c.object (is-own x a _ (own counted)))
        by counted (inr (inl cross)) other = looked counted cross.1 other
        by counted (inr (inr call)) other = Called call.0 call.1

  -- ---- what is passed on

  -- what one domain may pass on may stand in another to which its lines are closed
  stands-passed : (a d : ℕ) (c : Capability) → IsClosedTo x a d → may_pass (passing_of x a) c ≡ true → MaySendStand x d c
  stands-passed a d c closed passes = record {
    no_range = λ k. let no = sym passes ∙ of-kind Range k in cc (no);
    halting = λ k. closed.halts (sym (of-kind SysCtl k) ∙ passes);
    logging = λ k. closed.logs (sym (of-kind KernLog k) ∙ passes);
    named = λ counted. name c.kind refl counted passes;
  }
    where
      of-kind : (k : CapKind) → c.kind ≡ k → may_pass (passing_of x a) c ≡ passes_kind (passing_of x a) k c.object
      of-kind k e = ap (λ (j : CapKind). passes_kind (passing_of x a) j c.object) e

      name : (k : CapKind) → c.kind ≡ k → is_counted k ≡ true → passes_kind (passing_of x a) k c.object ≡ true → MaySendName x d c
      name Entry k counted is = elim (closed.entries c.object is) [
        | inl own ↦ Named (Own (ap (λ (j : CapKind). domain_of x.policy (object_kind j) c.object) k ∙ own))
        | inr calls ↦ Called k calls
      ]
      name _ k counted is = absurd (cc (counted, is))

  -- and a plain one may pass it on in turn
  passes-onward : (a b : ℕ) → IsClosedTo x a b → x.plain b ≡ true → (k : CapKind) (n : ℕ) → passes_kind (passing_of x a) k n ≡ true → passes_kind (passing_of x b) k n ≡ true
  passes-onward a b closed plain Entry n is = closed.onward n is plain
  passes-onward a b closed plain KernLog n is = closed.logs is
  passes-onward a b closed plain SysCtl n is = closed.halts is
  passes-onward a b closed plain _ n is = is

  -- ---- an event that a process performs

  module _ (s : State) (e : Event) (p : ℕ) (holds : SendingHolds x (system_of s)) (safe : IsSafeBy x (domain_of x.policy Process p) s.store) (performs : performer s e ≡ Some p) where
    abbrev h : ℕ
    h = home Process p

    abbrev after : State
    after = (event_of s e).state

    does : Acts (domain_cut x h) Left (system_of s) (system_of after)
    does = acts-domain x s e p holds performs

    looks : Acts (seen_cut x h) Left (system_of s) (system_of after)
    looks = reach_law (seen_cut x h) Left s e p (ap side_if (sees-itself x.policy h)) performs (holds-look h (system_of s) holds)

    -- what a plain domain writes it may pass on
    wrote : x.plain h ≡ true → PassesAtMost (passing_of x h) s.store after.store
    wrote plain = pass_law (passing_of x h) (objects_of x h) s e p (eq-eqb h h refl) performs (holds.plain h plain)

    -- whoever is given something is of a domain to which this one sends
    given-sends : (q : ℕ) → Given (domain_cut x h) Left (system_of s) q → may_send x h (home Process q) ≡ true
    given-sends q given =
        let told = given.told in
        let each = holds.each in
        let same = taker-home x s.store told.through q (each.recipients told.through) told.takes in
        subst (λ (d : ℕ). may_send x h d ≡ true) (sym same) (call-sends x h told.through told.calls)

    -- and where those whom it calls are deaf, nobody is
    none-given : (q : ℕ) → AreDeafTo x h s.store → Given (domain_cut x h) Left (system_of s) q → ⊥
    none-given q deaf given = let told = given.told in given.accepts (deaf told.through q told.calls told.takes)

    -- what stands in a capability register of another domain, by a test of what is there and of what is passed on
    far-capreg : (P : Capability → Type 0) (q i : ℕ) → side_of (domain_cut x h) Process q ≢ Left → P (capreg_of (process_at s.store q) i)
        → (x.plain h ≡ true → may_send x h (home Process q) ≡ true → may_pass (passing_of x h) (capreg_of (process_at after.store q) i) ≡ true → P (capreg_of (process_at after.store q) i))
        → P (capreg_of (process_at after.store q) i)
    far-capreg P q i other old passed = let process = does.objects Process q other in elim process.capregs [
      | inl same ↦ subst (λ (cs : List Capability). P (cap_at cs i)) same old
      | inr given ↦ elim safe [
        | inr deaf ↦ absurd (none-given q deaf given)
        | inl plain ↦ let wrote_is = wrote plain in elim (wrote_is.capregs q i) [
          | inl same ↦ subst P same old
          | inr passes ↦ passed plain (given-sends q given) passes
        ]
      ]
    ]

    -- in an object of its domain, by both cuts; in any other what stood there
    stands-after : (kind : CapKind) (n : ℕ) (c : Capability) → (side_of (domain_cut x h) kind n ≡ Left → MayHold (domain_cut x h) Left c) → (side_of (seen_cut x h) kind n ≡ Left → MayHold (seen_cut x h) Left c)
        → side_of (domain_cut x h) kind n ≡ side_if (home kind n == h) → (side_of (domain_cut x h) kind n ≢ Left → MaySendStand x (home kind n) c) → MaySendStand x (home kind n) c
    stands-after kind n c may look same old = by (home kind n == h) refl
      where
        by : (v : Bool) → (home kind n == h) ≡ v → MaySendStand x (home kind n) c
        by true is =
            let at = eqb-true (home kind n) h is in
            subst (λ (d : ℕ). MaySendStand x d c) (sym at)
            (both-stand h c (may (same ∙ ap side_if is)) (look (seen-side h kind n (ap (sees x.policy h) at ∙ sees-itself x.policy h))))
        by false is = old (subst (λ side. side ≢ Left) (sym same) (far-side (home kind n == h) is))

    each-after : EachMaySend x after.store
    each-after = let each = holds.each in let mine = does.holds.each in let seen = looks.holds.each in record {
      slots = λ g i. stands-after Gpt g _ (mine.slots g i) (seen.slots g i) refl (λ other.
          let same : SameObject Gpt g s.store after.store = does.objects Gpt g other in
          let gpt : gpt_at s.store.items g ≡ gpt_at after.store.items g = cc (same) in
          subst (λ (x_is : GptValue). MaySendStand x (home Gpt g) (gpt_slot_of x_is i)) gpt (each.slots g i));
      cappages = λ n i. stands-after CapPage n _ (mine.cappages n i) (seen.cappages n i) refl (λ other.
          let same : SameObject CapPage n s.store after.store = does.objects CapPage n other in
          let page : cappage_at s.store n ≡ cappage_at after.store n = cc (same) in
          subst (λ (cs : List Capability). MaySendStand x (home CapPage n) (cap_at cs i)) page (each.cappages n i));
      capregs = λ q i. stands-after Process q _ (mine.capregs q i) (seen.capregs q i) refl (λ other.
          far-capreg (MaySendStand x (home Process q)) q i other (each.capregs q i) (λ plain sends passes.
          stands-passed h (home Process q) (capreg_of (process_at after.store q) i) (holds.closed h (home Process q) plain sends) passes));
      process_slots = λ q i. stands-after Process q _ (mine.process_slots q i) (seen.process_slots q i) refl (λ other.
          let process = does.objects Process q other in
          subst (λ (cs : List Capability). MaySendStand x (home Process q) (cap_at cs i)) process.slots (each.process_slots q i));
      recipients = λ n. stands-after Endpoint n _ (mine.recipients n) (seen.recipients n) refl (λ other.
          let endpoint = does.objects Endpoint n other in
          subst (λ (c : Capability). MaySendStand x (home Endpoint n) c) endpoint.recipient (each.recipients n));
    }

    asleep-after : (on q : ℕ) → stands_in (sleepers_of after.queues on) q ≡ true → (home Process q ≡ home Process on) ⊎ (may_send x (home Process q) (home Process on) ≡ true)
    asleep-after on q there = by (home Process q == h) refl
      where
        by : (v : Bool) → (home Process q == h) ≡ v → (home Process q ≡ home Process on) ⊎ (may_send x (home Process q) (home Process on) ≡ true)
        by true is = may-sleep-back x h q on is (does.holds.sleepers on q there)
        by false is = holds.sleepers on q (does.asleep on q (far-side (home Process q == h) is) there)

    -- another plain domain is plain
    far-plain : (b : ℕ) → x.plain b ≡ true → (b == h) ≡ false → IsPlain (passing_of x b) (objects_of x b) after.store
    far-plain b plain other = let old = holds.plain b plain in record {
      capregs = λ q i own.
          far-capreg (λ (c : Capability). may_pass (passing_of x b) c ≡ true) q i (far Process q own) (old.capregs q i own) (λ sender sends passes.
          let c = capreg_of (process_at after.store q) i in
          passes-onward h b (holds.closed h b sender (subst (λ (d : ℕ). may_send x h d ≡ true) (eqb-true (home Process q) b own) sends)) plain c.kind c.object passes);
      cappages = λ n i own.
          let same : SameObject CapPage n s.store after.store = does.objects CapPage n (far CapPage n own) in
          let page : cappage_at s.store n ≡ cappage_at after.store n = cc (same) in
          subst (λ (cs : List Capability). may_pass (passing_of x b) (cap_at cs i) ≡ true) page (old.cappages n i own);
      process_slots = λ q i own.
          let process = does.objects Process q (far Process q own) in
          subst (λ (cs : List Capability). may_lie (objects_of x b) (cap_at cs i) ≡ true) process.slots (old.process_slots q i own);
      slots = λ g i own.
          let same : SameObject Gpt g s.store after.store = does.objects Gpt g (far Gpt g own) in
          let gpt : gpt_at s.store.items g ≡ gpt_at after.store.items g = cc (same) in
          subst (λ (x_is : GptValue). may_lie (objects_of x b) (gpt_slot_of x_is i) ≡ true) gpt (old.slots g i own);
    }
      where
        away : (kind : CapKind) (n : ℕ) → objects_of x b kind n ≡ true → (home kind n == h) ≡ false
        away kind n own = subst (λ (d : ℕ). (d == h) ≡ false) (sym (eqb-true (home kind n) b own)) other

        far : (kind : CapKind) (n : ℕ) → objects_of x b kind n ≡ true → side_if (home kind n == h) ≢ Left
        far kind n own = far-side (home kind n == h) (away kind n own)

    plain-performed : (b : ℕ) → x.plain b ≡ true → IsPlain (passing_of x b) (objects_of x b) after.store
    plain-performed b plain = by (b == h) refl
      where
        mine : x.plain h ≡ true → IsPlain (passing_of x h) (objects_of x h) after.store
        mine is = plain-after (passing_of x h) (objects_of x h) s.store after.store (wrote is) (holds.plain h is)

        by : (v : Bool) → (b == h) ≡ v → IsPlain (passing_of x b) (objects_of x b) after.store
        by true e =
            let at = eqb-true b h e in
            subst (λ (d : ℕ). IsPlain (passing_of x d) (objects_of x d) after.store) (sym at) (mine (subst (λ (d : ℕ). x.plain d ≡ true) at plain))
        by false e = far-plain b plain e

    performed : SendingHolds x (system_of after)
    performed = record { each = each-after; sleepers = asleep-after; plain = plain-performed; closed = holds.closed }

    -- where this domain isn't plain, no other is given anything
    kept-capregs : (q : ℕ) → x.plain h ≡ false → home Process q ≢ h → (process_at s.store q).capregs ≡ (process_at after.store q).capregs
    kept-capregs q none other = let process = does.objects Process q (far-side (home Process q == h) (apart (home Process q == h) refl)) in elim process.capregs [
      | inl same ↦ same
      | inr given ↦ elim safe [
        | inl plain ↦ let both = sym plain ∙ none in absurd (cc (both))
        | inr deaf ↦ absurd (none-given q deaf given)
      ]
    ]
      where
        apart : (v : Bool) → (home Process q == h) ≡ v → v ≡ false
        apart true e = absurd (other (eqb-true (home Process q) h e))
        apart false e = refl

  -- ---- all events

  idle-holds : (s t : State) → (t.store ≡ s.store) × (t.queues.sleepers ≡ s.queues.sleepers) → SendingHolds x (system_of s) → SendingHolds x (system_of t)
  idle-holds s t same holds = record {
    each = subst (λ (store : Store). EachMaySend x store) (sym same.0) holds.each;
    sleepers = λ on p there. holds.sleepers on p (ap (λ (xs : List (List ℕ)). stands_in (get_or xs on []) p) (sym same.1) ∙ there);
    plain = λ a is. subst (λ (store : Store). IsPlain (passing_of x a) (objects_of x a) store) (sym same.0) (holds.plain a is);
    closed = holds.closed;
  }

  event-holds : (s : State) (e : Event) → SendingHolds x (system_of s) → IsSafe x s e → SendingHolds x (system_of (event_of s e).state)
  event-holds s e holds safe = by (performer s e) refl
    where
      by : (by : Option ℕ) → performer s e ≡ by → SendingHolds x (system_of (event_of s e).state)
      by None none = let idle = event-idle s e none in idle-holds s (event_of s e).state (idle.store, idle.sleepers) holds
      by (Some p) performs = performed s e p holds (safe p performs) performs

  run-holds : (s : State) (es : List Event) → SendingHolds x (system_of s) → SafeBefore x s es → SendingHolds x (system_of (run_state s es))
  unfolding run_state
  run-holds s [] holds safe = holds
  run-holds s (e ∷ es) holds safe = run-holds (event_of s e).state es (event-holds s e holds safe.0) safe.1

  event-sends : (s : State) (e : Event) → SendingHolds x (system_of s) → IsSafe x s e → SendsAtMost x s e (event_of s e).state
  event-sends s e holds safe = record {
    holds = event-holds s e holds safe;
    within = λ p performs. acts-domain x s e p holds performs;
    given = λ p q performs none other. kept-capregs s e p holds (safe p performs) performs q none other;
    passed = λ p performs plain. wrote s e p holds (safe p performs) performs plain;
    idle = λ none. let idle = event-idle s e none in (idle.store, idle.sleepers);
    still = event_still s e;
    harts = by (performer s e) refl;
  }
    where
      by : (by : Option ℕ) → performer s e ≡ by → length (event_of s e).state.queues.harts ≡ length s.queues.harts
      by None none = let idle = event-idle s e none in idle.harts
      by (Some p) performs = let acts = acts-domain x s e p holds performs in sym acts.size

-- nobody changes more than he may write and whom he may tell
pub send_integrity : SendIntegrityLaw
send_integrity x s holds before e safe_before safe =
    event-sends x (run_state s before) e (run-holds x s before holds safe_before) safe
