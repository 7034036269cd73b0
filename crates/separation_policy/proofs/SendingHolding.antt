-- Policies whose domains send each other messages: what each domain may do is a side of a cut that holds for it, so that events
-- of its processes reach no further, and leave all others deaf.
use Rattle.std.proofs.Common.{◌≡◌, ◌≢◌, ℕ, zero, suc, ◌<◌, ◌≤◌, ◌==◌, ◌&&◌, ◌||◌, nat_lt, not, ◌⊎◌, inl, inr, Bool, true, false, length, if◌then◌else◌, Some, refl, sym, ◌∙◌, ap, subst, arith, eqb-true}
use Rattle.std.proofs.lemmas.Bool.{cases_Bool, cases_lt, ltb-true, and_parts, or_left, or_right, eq-eqb}
use Rattle.cap_format.specs.declared.kind.CapKind.{CapKind}
use Rattle.cap_format.specs.declared.kind.CapKind.TheVariants.{Page, CapPage, Gpt, Endpoint, Process}
use Rattle.cap_format.specs.Kind.{is_counted, object_kind}
use Rattle.cap_format.specs.Capability.{Capability}
use Rattle.cap_format.specs.Weakening.{harmless_kind, is_harmless}
use Rattle.process_objects.specs.declared.state.State.{State as RunState}
use Rattle.process_objects.specs.Process.{slot_of}
use Rattle.object_store.specs.Store.{Store, slot_at, process_at, endpoint_at}
use Rattle.invocation.specs.Delivery.{accepted}
use Rattle.operations.specs.System.{System}
use Rattle.machine_state.specs.declared.event.Event.{Event}
use Rattle.machine_state.specs.State.{State}
use Rattle.kernel_core.specs.Event.{performer, event_of}
use Rattle.confinement.specs.declared.cut_side.CutSide.TheVariants.{Left, Right}
use Rattle.confinement.specs.Cut.{Cut, side_of, closed_cut, realm_side, NamesOwn, MayCross, MayCall, MayHold, MayLead, TakesFrom, MaySleep, Beyond, HoldsFor}
use Rattle.confinement.specs.Acts.{Acts, system_of}
use Rattle.confinement.proofs.Answering.{asked-takes}
use Rattle.confinement.proofs.Acting.{takes-since}
use Rattle.confinement.proofs.Runs.{reach_law}
use Rattle.separation_policy.specs.Policy.{PolicyValue, domain_of, may_write, MayName, MayStand, own, side_if}
use Rattle.separation_policy.specs.Policy.MayName.{Own, Read, Written, Shown}
use Rattle.separation_policy.specs.Sending.{Sending, silent, may_send, may_call, MaySendName, MaySendStand, SendingHolds, IsDeafIn, any_below, realm_of, hears_from, domain_cut}
use Rattle.separation_policy.specs.Sending.MaySendName.{Named, Called}
use Rattle.separation_policy.specs.SendingLaws.{SilentLaw, WiderLaw, DomainCutLaw, SendLaw, DeafLaw, DeafToLaw, AcceptLaw}
use Rattle.separation_policy.proofs.Bounded.{page-named}

-- ---- numbers

pub not-true : (b : Bool) → not b ≡ true → b ≡ false
not-true true e = absurd (cc (e))
not-true false e = refl

-- what is so of a number is so of any below a larger one
pub any-there : (test : ℕ → Bool) (k n : ℕ) → k < n → test k ≡ true → any_below test n ≡ true
unfolding any_below
any-there test k zero lt is = absurd (omega (arith, lt))
any-there test k (suc n) lt is = by (cases_lt k n) (λ below. any-there test k n below is)
  where
    by : (k < n) ⊎ (n ≤ k) → (k < n → any_below test n ≡ true) → (any_below test n || test n) ≡ true
    by (inl below) rest = or_left (any_below test n) (test n) (rest below)
    by (inr past) rest = let same : k ≡ n = omega (arith, lt, past) in or_right (any_below test n) (test n) (subst (λ (m : ℕ). test m ≡ true) same is)

pub far-side : (b : Bool) → b ≡ false → side_if b ≢ Left
far-side true none e = cc (none)
far-side false none e = cc (e)

module _ (x : Sending) where
  abbrev home : CapKind → ℕ → ℕ
  home kind n = domain_of x.policy kind n

  -- whoever sends does so to another
  sends-other : (a b : ℕ) → may_send x a b ≡ true → (a == b) ≡ false
  sends-other a b sends = not-true (a == b) (and_parts _ _ sends).0

  other-way : (a b : ℕ) → (a == b) ≡ false → (b == a) ≡ false
  other-way a b other = by (b == a) refl
    where
      by : (v : Bool) → (b == a) ≡ v → v ≡ false
      by true e = let same = eq-eqb a b (sym (eqb-true b a e)) in absurd (cc (same, other))
      by false e = refl

  -- and is a domain that was made
  pub sends-made : (a b : ℕ) → may_send x a b ≡ true → a < length x.policy.domains
  sends-made a b sends = ltb-true a (length x.policy.domains) (and_parts _ _ (and_parts _ _ sends).1).0

  pub call-sends : (a e : ℕ) → may_call x a e ≡ true → may_send x a (home Endpoint e) ≡ true
  call-sends a e calls = (and_parts _ _ calls).0

  -- a recipient is of its endpoint's domain
  pub recipient-home : (d : ℕ) (c : Capability) → c.kind ≡ Process → MaySendStand x d c → home Process c.object ≡ d
  recipient-home d c k may = by (may.named (ap (λ (j : CapKind). is_counted j) k))
    where
      harmed : is_harmless c ≡ true → ⊥
      harmed harmless = let no = sym (ap (λ (j : CapKind). harmless_kind j c.restr) k) ∙ harmless in cc (no)

      paged : c.kind ≡ Page → ⊥
      paged page = cc (k, page)

      by : MaySendName x d c → home Process c.object ≡ d
      by (Named (Own same)) = ap (λ (j : CapKind). domain_of x.policy (object_kind j) c.object) (sym k) ∙ same
      by (Named (Read harmless reads)) = absurd (harmed harmless)
      by (Named (Written page writes)) = absurd (paged page)
      by (Named (Shown page harmless writer)) = absurd (paged page)
      by (Called entry calls) = absurd (cc (k, entry))

  -- ---- what a domain may do, as a side

  module _ (a : ℕ) where
    abbrev cut : Cut
    cut = domain_cut x a

    own-side : (kind : CapKind) (n : ℕ) → (home kind n == a) ≡ true → side_of cut kind n ≡ Left
    own-side Page n own = ap side_if (or_left (home Page n == a) (may_write x.policy a (home Page n)) own)
    own-side _ n own = ap side_if own

    may-hold : (c : Capability) → MaySendStand x a c → MayHold cut Left c
    may-hold c may = record { no_range = may.no_range; halting = may.halting; logging = may.logging; own = on (cases_Bool (is_counted c.kind)) }
      where
        by : MaySendName x a c → NamesOwn cut Left c ⊎ (MayCross cut Left c ⊎ MayCall cut Left c)
        by (Named (Own same)) = inl (λ e. own-side (object_kind c.kind) c.object (eq-eqb _ _ same))
        by (Named (Read harmless reads)) = inr (inl (refl, harmless))
        by (Named (Written page writes)) = inl (λ e.
            subst (λ (k : CapKind). side_of cut (object_kind k) c.object ≡ Left) (sym page)
            (ap side_if (or_right (home Page c.object == a) _ (ap (may_write x.policy a) (page-named x.policy c page) ∙ writes))))
        by (Named (Shown page harmless writer)) = inr (inl (refl, harmless))
        by (Called entry calls) = inr (inr (entry, calls))

        on : (is_counted c.kind ≡ true) ⊎ (is_counted c.kind ≡ false) → NamesOwn cut Left c ⊎ (MayCross cut Left c ⊎ MayCall cut Left c)
        on (inl counted) = by (may.named counted)
        on (inr free) = inl (λ e. absurd (cc (free, e)))

    own-realm : (kind : CapKind) (n : ℕ) → (home kind n == a) ≡ true → realm_side (realm_of x a) kind n ≡ Left
    own-realm Page n own = ap (λ (b : Bool). if b then Left else Right) (or_left (home Page n == a) (may_write x.policy a (home Page n)) own)
    own-realm Gpt n own = ap (λ (b : Bool). if b then Left else Right) own
    own-realm _ n own = refl

    -- what a capability names is of its realm, or the capability is harmless
    abbrev Leads : Capability → Type 0
    Leads c = NamesOwn (closed_cut (realm_side (realm_of x a))) Left c ⊎ (MayCross (closed_cut (realm_side (realm_of x a))) Left c ⊎ MayCall (closed_cut (realm_side (realm_of x a))) Left c)

    -- its capabilities lead into its realm
    pub may-lead : (c : Capability) → MaySendStand x a c → MayLead (realm_of x a) c
    may-lead c may = record { no_range = may.no_range; halting = λ k. refl; logging = λ k. refl; own = on (cases_Bool (is_counted c.kind)) }
      where
        by : MaySendName x a c → Leads c
        by (Named (Own same)) = inl (λ e. own-realm (object_kind c.kind) c.object (eq-eqb _ _ same))
        by (Named (Read harmless reads)) = inr (inl (refl, harmless))
        by (Named (Written page writes)) = inl (λ e.
            subst (λ (k : CapKind). realm_side (realm_of x a) (object_kind k) c.object ≡ Left) (sym page)
            (ap (λ (b : Bool). if b then Left else Right) (or_right (home Page c.object == a) _ (ap (may_write x.policy a) (page-named x.policy c page) ∙ writes))))
        by (Named (Shown page harmless writer)) = inr (inl (refl, harmless))
        by (Called entry calls) = inl (λ e. subst (λ (k : CapKind). realm_side (realm_of x a) (object_kind k) c.object ≡ Left) (sym entry) refl)

        on : (is_counted c.kind ≡ true) ⊎ (is_counted c.kind ≡ false) → Leads c
        on (inl counted) = by (may.named counted)
        on (inr free) = inl (λ e. absurd (cc (free, e)))

    -- an object of a domain to which this one sends is beyond
    sent-far : (d : ℕ) → may_send x a d ≡ true → side_if (d == a) ≢ Left
    sent-far d sends = far-side (d == a) (other-way a d (sends-other a d sends))

    may-sleep : (p on : ℕ) → (home Process p ≡ home Process on) ⊎ (may_send x (home Process p) (home Process on) ≡ true) → MaySleep cut p on
    may-sleep p on (inl same) = inl (ap (λ (d : ℕ). side_if (d == a)) same)
    may-sleep p on (inr sends) = inr (by (home Process p == a) refl)
      where
        by : (v : Bool) → (home Process p == a) ≡ v → hears_from x a (side_if v) on ≡ true
        by true e = subst (λ (d : ℕ). may_send x d (home Process on) ≡ true) (eqb-true (home Process p) a e) sends
        by false e = any-there (λ b. may_send x b (home Process on)) (home Process p) (length x.policy.domains) (sends-made (home Process p) (home Process on) sends) sends

  pub is-own : (a : ℕ) (v : Bool) → side_if v ≡ Left → v ≡ true
  is-own a true e = refl
  is-own a false e = absurd (cc (e))

  -- and back: one of this domain who may sleep there does so at home, or where this domain sends
  pub may-sleep-back : (a p on : ℕ) → (home Process p == a) ≡ true → MaySleep (domain_cut x a) p on → (home Process p ≡ home Process on) ⊎ (may_send x (home Process p) (home Process on) ≡ true)
  may-sleep-back a p on is (inl same) =
      let there = eqb-true (home Process on) a (is-own a (home Process on == a) (sym same ∙ ap side_if is)) in
      inl (eqb-true (home Process p) a is ∙ sym there)
  may-sleep-back a p on is (inr hears) =
      inr (subst (λ (d : ℕ). may_send x d (home Process on) ≡ true) (sym (eqb-true (home Process p) a is)) (subst (λ (b : Bool). hears_from x a (side_if b) on ≡ true) is hears))

  beyond-holds : (a : ℕ) (w : System) → SendingHolds x w → Beyond (domain_cut x a) Left w.store
  beyond-holds a w holds = let each = holds.each in record {
    away = λ e calls. sent-far a (home Endpoint e) (call-sends a e calls);
    heard = λ e calls k.
        let r = (endpoint_at w.store e).recipient in
        subst (λ (d : ℕ). may_send x a d ≡ true) (sym (recipient-home (home Endpoint e) r k (each.recipients e))) (call-sends a e calls);
    others = λ q hears. sent-far a (home Process q) hears;
    spaces = λ q hears. may-lead (home Process q) (slot_of (process_at w.store q) 0) (each.process_slots q 0);
    apart = λ q g hears own.
        subst (λ (d : ℕ). side_if (d == a) ≢ Left) (sym (eqb-true (home Gpt g) (home Process q) own)) (sent-far a (home Process q) hears);
    slots = λ q g i hears own.
        may-lead (home Process q) (slot_at w.store.items g i)
        (subst (λ (d : ℕ). MaySendStand x d (slot_at w.store.items g i)) (eqb-true (home Gpt g) (home Process q) own) (each.slots g i));
  }

  held-here : (a : ℕ) (kind : CapKind) (n : ℕ) (c : Capability) → side_if (home kind n == a) ≡ Left → MaySendStand x (home kind n) c → MayHold (domain_cut x a) Left c
  held-here a kind n c here may = may-hold a c (subst (λ (d : ℕ). MaySendStand x d c) (eqb-true (home kind n) a (is-own a (home kind n == a) here)) may)

  holds-domain : (a : ℕ) (w : System) → SendingHolds x w → HoldsFor (domain_cut x a) Left w
  holds-domain a w holds = let each = holds.each in record {
    each = record {
      slots = λ g i here. held-here a Gpt g _ here (each.slots g i);
      cappages = λ n i here. held-here a CapPage n _ here (each.cappages n i);
      capregs = λ p i here. held-here a Process p _ here (each.capregs p i);
      process_slots = λ p i here. held-here a Process p _ here (each.process_slots p i);
      recipients = λ e here. held-here a Endpoint e _ here (each.recipients e);
    };
    sleepers = λ on p there. may-sleep a p on (holds.sleepers on p there);
    beyond = beyond-holds a w holds;
  }

  pub acts-domain : (s : State) (e : Event) (p : ℕ) → SendingHolds x (system_of s) → performer s e ≡ Some p
      → Acts (domain_cut x (home Process p)) Left (system_of s) (system_of (event_of s e).state)
  acts-domain s e p holds performs =
      let d = home Process p in
      reach_law (domain_cut x d) Left s e p (ap side_if (eq-eqb d d refl)) performs (holds-domain d (system_of s) holds)

  -- ---- deafness

  -- whoever takes through an endpoint is of its domain
  pub taker-home : (s : Store) (e q : ℕ) → MaySendStand x (home Endpoint e) (endpoint_at s e).recipient → TakesFrom s e q → home Process q ≡ home Endpoint e
  taker-home s e q may takes =
      let at = asked-takes s e e (endpoint_at s e).recipient.kind (endpoint_at s e).recipient.object q takes in
      ap (home Process) (sym at.1.0) ∙ recipient-home (home Endpoint e) (endpoint_at s e).recipient at.0 may

  deaf-after : (s : State) (e : Event) (p b : ℕ) → SendingHolds x (system_of s) → performer s e ≡ Some p → home Process p ≢ b → IsDeafIn x b s.store
      → IsDeafIn x b (event_of s e).state.store
  deaf-after s e p b holds performs other deaf a f q of_b calls takes =
      let d = home Process p in
      let t = (event_of s e).state in
      let acts = acts-domain s e p holds performs in
      let away : side_of (domain_cut x d) Endpoint f ≢ Left = far-side (home Endpoint f == d) (apart d (home Endpoint f) of_b) in
      let endpoint = acts.objects Endpoint f away in
      let each = holds.each in
      let there = taker-home t.store f q (subst (λ (c : Capability). MaySendStand x (home Endpoint f) c) endpoint.recipient (each.recipients f)) takes in
      let before = takes-since (domain_cut x d) Left (system_of s) s.store t.store f q acts.objects away (far-side (home Process q == d) (apart d (home Process q) (there ∙ of_b))) takes in
      subst (λ (state : RunState). (accepted state).caps ≡ 0) before.1 (deaf a f q of_b calls before.0)
    where
      apart : (d c : ℕ) → c ≡ b → (c == home Process p) ≡ false
      apart d c same = by (c == home Process p) refl
        where
          by : (v : Bool) → (c == home Process p) ≡ v → v ≡ false
          by true e = absurd (other (sym (eqb-true c (home Process p) e) ∙ same))
          by false e = refl

-- the laws
pub domain_cut_law : DomainCutLaw
domain_cut_law x w a holds = holds-domain x a w holds

pub send_law : SendLaw
send_law x s e p holds performs = acts-domain x s e p holds performs

pub deaf_law : DeafLaw
deaf_law x s e p b holds performs other deaf = deaf-after x s e p b holds performs other deaf

pub deaf_to_law : DeafToLaw
deaf_to_law x s a deaf e q calls takes = deaf (domain_of x.policy Endpoint e) a e q refl calls takes

pub accept_law : AcceptLaw
accept_law x w b holds none a e q of_b calls takes = let each = holds.each in none q (taker-home x w.store e q (each.recipients e) takes ∙ of_b)

-- ---- where nobody sends

module _ (policy : PolicyValue) where
  never-sends : (a b : ℕ) → may_send (silent policy) a b ≡ true → ⊥
  never-sends a b sends = let no : false ≡ true = (and_parts (nat_lt b (length policy.domains)) false (and_parts (nat_lt a (length policy.domains)) (nat_lt b (length policy.domains) && false) (and_parts (not (a == b)) (nat_lt a (length policy.domains) && (nat_lt b (length policy.domains) && false)) sends).1).1).1 in cc (no)

  never-calls : (a e : ℕ) → may_call (silent policy) a e ≡ true → ⊥
  never-calls a e calls = let no : false ≡ true = (and_parts (may_send (silent policy) a (domain_of policy Endpoint e)) false calls).1 in cc (no)

  stand-silent : (a : ℕ) (c : Capability) → MayStand policy a c → MaySendStand (silent policy) a c
  stand-silent a c may = record { no_range = may.no_range; halting = may.halting; logging = may.logging; named = λ counted. Named (may.named counted) }

  silent-stand : (a : ℕ) (c : Capability) → MaySendStand (silent policy) a c → MayStand policy a c
  silent-stand a c may = record { no_range = may.no_range; halting = may.halting; logging = may.logging; named = λ counted. by (may.named counted) }
    where
      by : MaySendName (silent policy) a c → MayName policy a c
      by (Named name) = name
      by (Called entry calls) = absurd (never-calls a c.object calls)

-- the law of policies in which nobody sends
pub silent_law : SilentLaw
silent_law policy w = (
  λ holds. let each = holds.each in record {
    each = record {
      slots = λ g i. silent-stand policy _ _ (each.slots g i);
      cappages = λ n i. silent-stand policy _ _ (each.cappages n i);
      capregs = λ p i. silent-stand policy _ _ (each.capregs p i);
      process_slots = λ p i. silent-stand policy _ _ (each.process_slots p i);
      recipients = λ e. silent-stand policy _ _ (each.recipients e);
    };
    sleepers = λ on p there. elim (holds.sleepers on p there) [ inl same ↦ same | inr sends ↦ absurd (never-sends policy _ _ sends) ];
  },
  λ holds. let each = holds.each in record {
    each = record {
      slots = λ g i. stand-silent policy _ _ (each.slots g i);
      cappages = λ n i. stand-silent policy _ _ (each.cappages n i);
      capregs = λ p i. stand-silent policy _ _ (each.capregs p i);
      process_slots = λ p i. stand-silent policy _ _ (each.process_slots p i);
      recipients = λ e. stand-silent policy _ _ (each.recipients e);
    };
    sleepers = λ on p there. inl (holds.sleepers on p there);
    plain = λ a is. absurd (cc (is));
    closed = λ a b is sends. absurd (cc (is));
  },
)

-- ---- more lines

pub wider_law : WiderLaw
wider_law x w none holds = let each = holds.each in record {
  each = record {
    slots = λ g i. wider _ _ (each.slots g i);
    cappages = λ n i. wider _ _ (each.cappages n i);
    capregs = λ p i. wider _ _ (each.capregs p i);
    process_slots = λ p i. wider _ _ (each.process_slots p i);
    recipients = λ e. wider _ _ (each.recipients e);
  };
  sleepers = λ on p there. inl (holds.sleepers on p there);
  plain = λ a is. let both = sym is ∙ none a in absurd (cc (both));
  closed = λ a b is sends. let both = sym is ∙ none a in absurd (cc (both));
}
  where
    wider : (a : ℕ) (c : Capability) → MayStand x.policy a c → MaySendStand x a c
    wider a c may = record { no_range = may.no_range; halting = may.halting; logging = may.logging; named = λ counted. Named (may.named counted) }
