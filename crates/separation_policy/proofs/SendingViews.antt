-- Where a policy with messages holds, the cut holds for each domain between its view and all else, and nobody sees beyond his view.
use Rattle.std.proofs.Common.{◌≡◌, ℕ, ◌<◌, ◌≤◌, ◌&&◌, ◌||◌, nat_lt, not, ◌==◌, ◌⊎◌, inl, inr, Bool, true, false, length, refl, sym, ◌∙◌, ap, arith}
use Rattle.std.proofs.lemmas.Bool.{cases_Bool, ltb-true, and_parts, or_left, or_right}
use Rattle.cap_format.specs.declared.kind.CapKind.{CapKind}
use Rattle.cap_format.specs.declared.kind.CapKind.TheVariants.{CapPage, Gpt, Endpoint, Process}
use Rattle.cap_format.specs.Kind.{is_counted, object_kind}
use Rattle.cap_format.specs.Capability.{Capability}
use Rattle.cap_format.specs.Weakening.{is_harmless}
use Rattle.schedules.specs.Queues.{sleepers_of}
use Rattle.operations.specs.System.{System}
use Rattle.kernel_core.specs.Run.{run_state}
use Rattle.confinement.specs.declared.cut_side.CutSide.TheVariants.{Left, Right}
use Rattle.confinement.specs.Cut.{Cut, side_of, same_side, NamesOwn, MayCross, MayCall, MayHold, Holds}
use Rattle.confinement.specs.Acts.{system_of}
use Rattle.confinement.specs.isolation.Agree.{Agree}
use Rattle.confinement.specs.isolation.Isolation.{AlikeRuns, Isolation}
use Rattle.confinement.proofs.Sleeping.{each_on}
use Rattle.separation_policy.specs.Policy.{Reach, domain_of, domain_named, may_learn, MayName, views, side_if}
use Rattle.separation_policy.specs.Policy.Reach.{Itself, Onward}
use Rattle.separation_policy.specs.Policy.MayName.{Own, Read, Written, Shown}
use Rattle.separation_policy.specs.Sending.{Sending, may_send, MaySendName, MaySendStand, SendingHolds, may_learn_by, SendViews, send_views, send_view_cut, SendSameFor}
use Rattle.separation_policy.specs.Sending.MaySendName.{Named, Called}
use Rattle.separation_policy.specs.SendingLaws.{SendViewLaw, SendNoninterferenceLaw}
use Rattle.separation_policy.proofs.Reaching.{found-reach, reach-found, onward-count, leads-count}
use Rattle.separation_policy.proofs.Reading.{unmade_learns, found-views, reads-view, writes-view, written-view, writer-view}
use Rattle.separation_policy.proofs.Cuts.{one_side}
use Rattle.separation_policy.proofs.SendingHolding.{sends-made, call-sends}

module _ (x : Sending) where
  abbrev count : ℕ
  count = length x.policy.domains

  -- whoever is sent to was made
  sent-made : (a b : ℕ) → may_send x a b ≡ true → b < count
  sent-made a b sends = ltb-true b count (and_parts (nat_lt b count) (x.sends a b) (and_parts (nat_lt a count) (nat_lt b count && x.sends a b) (and_parts (not (a == b)) (nat_lt a count && (nat_lt b count && x.sends a b)) sends).1).1).0

  none-sends : (m b : ℕ) → count ≤ m → may_send x m b ≡ false
  none-sends m b past = by (may_send x m b) refl
    where
      by : (v : Bool) → may_send x m b ≡ v → v ≡ false
      by true e = let made = sends-made x m b e in absurd (omega (arith, made, past))
      by false e = refl

  none-sent : (m b : ℕ) → count ≤ m → may_send x b m ≡ false
  none-sent m b past = by (may_send x b m) refl
    where
      by : (v : Bool) → may_send x b m ≡ v → v ≡ false
      by true e = let made = sent-made b m e in absurd (omega (arith, made, past))
      by false e = refl

  or_none : (a b : Bool) → a ≡ false → b ≡ false → (a || b) ≡ false
  or_none true b first second = absurd (cc (first))
  or_none false b first second = second

  unmade : (m b : ℕ) → count ≤ m → may_learn_by x m b ≡ false
  unmade m b past = or_none _ _ (unmade_learns x.policy m b past) (or_none _ _ (none-sends m b past) (none-sent m b past))

  then-views : (a m b : ℕ) → send_views x a m ≡ true → send_views x m b ≡ true → send_views x a b ≡ true
  then-views a m b to on = onward-count (may_learn_by x) count unmade a m b to on

  learns : (a b : ℕ) → may_learn_by x a b ≡ true → send_views x a b ≡ true
  learns a b may = leads-count (may_learn_by x) count unmade a b may

  found : (a b : ℕ) → SendViews x a b → send_views x a b ≡ true
  found a b reach = reach-found (may_learn_by x) count unmade a b reach

  -- who sends and who is sent to are in each other's view
  sends-to : (a b : ℕ) → may_send x a b ≡ true → send_views x a b ≡ true
  sends-to a b sends = learns a b (or_right (may_learn x.policy a b) _ (or_left (may_send x a b) _ sends))

  sent-by : (a b : ℕ) → may_send x b a ≡ true → send_views x a b ≡ true
  sent-by a b sends = learns a b (or_right (may_learn x.policy a b) _ (or_right (may_send x a b) _ sends))

  -- the view is as large as where nobody sends
  wider : {a b : ℕ} → Reach (may_learn x.policy) a b → SendViews x a b
  wider (Itself a) = Itself a
  wider (Onward a m b may rest) = Onward a m b (or_left (may_learn x.policy a m) _ may) (wider rest)

  too : (a b : ℕ) → views x.policy a b ≡ true → send_views x a b ≡ true
  too a b viewed = found a b (wider (found-views x.policy a b viewed))

  module _ (a : ℕ) where
    abbrev cut : Cut
    cut = send_view_cut x a

    -- two domains that are in each other's view are on one side
    together : (d b : ℕ) → send_views x d b ≡ true → send_views x b d ≡ true → send_views x a d ≡ send_views x a b
    together d b to back = by (send_views x a d) (send_views x a b) refl refl
      where
        by : (v u : Bool) → send_views x a d ≡ v → send_views x a b ≡ u → v ≡ u
        by true true e f = refl
        by false false e f = refl
        by true false e f = let on = then-views a d b e to in absurd (cc (on, f))
        by false true e f = let on = then-views a b d f back in absurd (cc (on, e))

    module _ (kind : CapKind) (n : ℕ) (c : Capability) where
      abbrev home : ℕ
      home = domain_of x.policy kind n

      abbrev named : ℕ
      named = domain_named x.policy c

      abbrev OwnOver : Type 0
      OwnOver = NamesOwn cut (side_of cut kind n) c ⊎ (MayCross cut (side_of cut kind n) c ⊎ MayCall cut (side_of cut kind n) c)

      same-side : send_views x a named ≡ send_views x a home → OwnOver
      same-side same = inl (λ e. ap side_if same)

      inside : send_views x a home ≡ true → views x.policy home named ≡ true → OwnOver
      inside here on = same-side (then-views a home named here (too home named on) ∙ sym here)

      outside : send_views x a home ≡ false → is_harmless c ≡ true → OwnOver
      outside away harmless = inr (inl (ap (λ (v : Bool). same_side (side_if v) Right) away, harmless))

      by-name : MayName x.policy home c → (send_views x a home ≡ true) ⊎ (send_views x a home ≡ false) → OwnOver
      by-name (Own same) side = same-side (ap (send_views x a) same)
      by-name (Read harmless reads) (inl here) = inside here (reads-view x.policy home named reads)
      by-name (Read harmless reads) (inr away) = outside away harmless
      by-name (Written page writes) side =
          same-side (sym (together home named (too home named (writes-view x.policy home named writes)) (too named home (written-view x.policy named home writes))))
      by-name (Shown page harmless writer) (inl here) = inside here (writer-view x.policy home named writer)
      by-name (Shown page harmless writer) (inr away) = outside away harmless

      by-send : MaySendName x home c → OwnOver
      by-send (Named name) = by-name name (cases_Bool (send_views x a home))
      by-send (Called entry calls) =
          let sends = call-sends x home c.object calls in
          let same = sym (together home (domain_of x.policy Endpoint c.object) (sends-to home _ sends) (sent-by _ home sends)) in
          same-side (ap (λ (k : CapKind). send_views x a (domain_of x.policy (object_kind k) c.object)) entry ∙ same)

      view-held : MaySendStand x home c → MayHold cut (side_of cut kind n) c
      view-held may = record { no_range = may.no_range; halting = λ k. refl; logging = λ k. refl; own = by (cases_Bool (is_counted c.kind)) }
        where
          by : (is_counted c.kind ≡ true) ⊎ (is_counted c.kind ≡ false) → OwnOver
          by (inr free) = inl (λ e. absurd (cc (free, e)))
          by (inl counted) = by-send (may.named counted)

    sleep-side : (p on : ℕ) → (domain_of x.policy Process p ≡ domain_of x.policy Process on) ⊎ (may_send x (domain_of x.policy Process p) (domain_of x.policy Process on) ≡ true)
        → side_of cut Process p ≡ side_of cut Process on
    sleep-side p on (inl same) = ap (λ (d : ℕ). side_if (send_views x a d)) same
    sleep-side p on (inr sends) = ap side_if (together _ _ (sends-to _ _ sends) (sent-by _ _ sends))

    holds-view : (w : System) → SendingHolds x w → Holds cut w
    holds-view w holds = let each = holds.each in record {
      each = record {
        slots = λ g i. view-held Gpt g _ (each.slots g i);
        cappages = λ n i. view-held CapPage n _ (each.cappages n i);
        capregs = λ p i. view-held Process p _ (each.capregs p i);
        process_slots = λ p i. view-held Process p _ (each.process_slots p i);
        recipients = λ e. view-held Endpoint e _ (each.recipients e);
      };
      sleepers = λ on. each_on cut (side_of cut Process on) (sleepers_of w.queues on) (λ p there. sleep-side p on (holds.sleepers on p there));
      closed = record { calls = λ side e. refl; hears = λ side q. refl };
    }

    -- ---- noninterference

    side-views : (kind : CapKind) (n : ℕ) → side_of cut kind n ≡ Left → SendViews x a (domain_of x.policy kind n)
    side-views kind n same = found-reach (may_learn_by x) count a _ (one_side _ true same)

    views-side : (kind : CapKind) (n : ℕ) → SendViews x a (domain_of x.policy kind n) → side_of cut kind n ≡ Left
    views-side kind n viewed = ap side_if (found a _ viewed)

    same-agree : (w v : System) → SendSameFor x a w v → Agree cut Left w v
    same-agree w v same = record {
      same = λ kind n own. same.objects kind n (side-views kind n own);
      sleepers = λ p own. same.sleepers p (side-views Process p own);
      sizes = same.sizes;
    }

    agree-same : (w v : System) → Agree cut Left w v → SendSameFor x a w v
    agree-same w v agree = record {
      objects = λ kind n viewed. agree.same kind n (views-side kind n viewed);
      sleepers = λ p viewed. agree.sleepers p (views-side Process p viewed);
      sizes = agree.sizes;
    }

-- the law of views as cuts
pub send_view_law : SendViewLaw
send_view_law x w holds a = holds-view x a w holds

-- nobody sees beyond his view
pub send_noninterference : Isolation → SendNoninterferenceLaw
send_noninterference isolation x s holds a t second same es fs turns =
    let cut = send_view_cut x a in
    let alike : AlikeRuns cut Left s t es fs = isolation cut Left s t
    (record { own_alone = refl; first = holds-view x a (system_of s) holds; second = second; agree = same-agree x a (system_of s) (system_of t) same }) es fs turns in
    record { records = alike.records; ends = agree-same x a (system_of (run_state s es)) (system_of (run_state t fs)) alike.ends }
