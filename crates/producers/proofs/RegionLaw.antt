-- All addresses of a region come to the point to which one of them comes.
use Rattle.std.proofs.Common.{◌≡◌, inl, inr, ℕ, zero, suc, ◌/◌, ◌%◌, ◌^◌, ◌<◌, ◌≤◌, List, ◌++◌, map, sym, ap, subst, ◌∙◌, arith}
use Rattle.std.specs.Result.{result_ok}
use Rattle.std.proofs.Math.Nat.{le_trans, min-le_right}
use Rattle.cap_format.specs.Capability.{Capability, IsCapability}
use Rattle.cap_format.specs.declared.kind.CapKind.TheVariants.{Gpt}
use Rattle.object_store.specs.Store.{Items, count_of, slot_at}
use Rattle.object_store.specs.Ranges.{IsRanged}
use Rattle.object_store.proofs.Ranged.{IsCapability-slot_at, IsHeader-header_at}
use Rattle.walk_meaning.specs.declared.at.At.{At}
use Rattle.walk_meaning.specs.declared.kind.Kind.{Kind}
use Rattle.walk_meaning.specs.declared.kind.Kind.TheVariants.{Load}
use Rattle.walk_meaning.specs.declared.noted.Noted.{Noted}
use Rattle.walk_meaning.specs.declared.step.Step.TheVariants.{Go}
use Rattle.walk_meaning.specs.Bounds.{GoesBelow, IsAt}
use Rattle.walk_meaning.specs.Walk.{past, start_at, step}
use Rattle.walk_meaning.specs.Trail.{header_noted, trail_from}
use Rattle.walk_meaning.specs.After.{trail_after}
use Rattle.walk_meaning.proofs.Alike.{alike-mod}
use Rattle.walk_meaning.proofs.Along.{header-alike, passes_along}
use Rattle.walk_meaning.proofs.StepBounds.{goes_below}
use Rattle.walk_meaning.proofs.Walked.{trail_from-suc}
use Rattle.producers.specs.declared.producer.Producer.{Producer}
use Rattle.producers.specs.Producer.{Point, aged, at_join, cut, gpt_cap, joined_trail, joined_walk, key_of}
use Rattle.producers.specs.Meets.{Meets, PassesAt}
use Rattle.producers.specs.Laws.{RegionLaw, moved}
use Rattle.producers.proofs.Cuts.{CutAlike}
use Rattle.producers.proofs.Joins.{joins-alike, near}
use Rattle.producers.proofs.Points.{Meets-suc, Meets-zero, Onward, Rests, meets-rests}
use Rattle.producers.proofs.Regions.{Beside, meets-along, meets-capability, meets-low}

-- the GPTs by which a walk goes to a point are there
module _ (o : Items) (ranged : IsRanged o) (kind : Kind) (a : ℕ) (p : Point) where
  pub meets-at : (n : ℕ) (c : Capability) (w : At) (reads : List Noted) → IsCapability c → IsAt 1024 w → Meets o kind a n c w p reads → IsAt 1024 p.at
  meets-at zero c w reads is at meets = absurd (Meets-zero o kind a p c w reads meets)
  meets-at (suc n) c w reads is at meets = on (Meets-suc o kind a p n c w reads meets) (meets-at n)
    where
      on : Onward o kind a p n c w reads
          → ((d : Capability) (v : At) (rest : List Noted) → IsCapability d → IsAt 1024 v → Meets o kind a n d v p rest → IsAt 1024 p.at) → IsAt 1024 p.at
      on (inl here) ih = subst (IsAt 1024) (sym here.at) at
      on (inr goes) ih =
          let there : c.kind ≡ Gpt → c.object < 1024 = λ k. rw k at is.object in
          let below : GoesBelow 1024 (Go goes.next goes.gpt goes.slot) = goes_below 1024 o (IsHeader-header_at o ranged) c is there w at kind (Go goes.next goes.gpt goes.slot) goes.steps in
          ih (slot_at o goes.gpt goes.slot) goes.next goes.rest (IsCapability-slot_at o ranged goes.gpt goes.slot) below.0 goes.further

-- a point with another address of the same region has the same key, and the walk passes there too
module _ (o : Items) (p : Point) (z : ℕ) (is : IsCapability p.cap) (passes_here : PassesAt p) (alike : p.at.address / 2 ^ 22 ≡ z / 2 ^ 22) where
  guard_wide : 22 ≤ p.cap.guard.l2g
  guard_wide = let wide = passes_here.wide in le_trans wide (min-le_right p.at.l2 p.cap.guard.l2g)

  pub moved-passes : PassesAt (moved p z)
  moved-passes = record {
    kind = passes_here.kind;
    wide = passes_here.wide;
    passed = passes_along 22 (omega arith) o Load p.cap is p.at z alike guard_wide passes_here.passed;
  }

  pub moved-key : key_of o (moved p z) ≡ key_of o p
  moved-key = ap (λ (t : ℕ). record {
    gpt = p.cap.object;
    age = count_of o Gpt p.cap.object;
    top = t;
    restr = (past p.cap p.at).restr;
    background = aged o p.at.background;
    left = p.left;
  }) (sym (alike-mod 22 p.cap.guard.l2g p.at.address z guard_wide alike))

pub region_law : RegionLaw
region_law o c a b j k p reads ranged is near_ab met passes_here = record {
  rest = beside.z;
  met = beside.met;
  passes = passes_there;
  key = key;
  background = (meets-at o ranged j a p 32 c (start_at a) reads is (record { holding = tt; background = tt; handler = tt; low = omega arith; high = omega arith }) met).background;
  header_is = header;
  further = trail_after o k b p.left (step o k p.cap q.at);
  reads_are = rests.reads_are ∙ ap (λ (t : List Noted). reads ++ t) behind;
  place = ap result_ok rests.place ∙ (alike.place ∙ ap (λ (x : Producer). result_ok (joined_walk o x (b % 2 ^ 22) k)) key);
  cut_reads = ap (map cut) (sym behind) ∙ (alike.reads ∙ ap (λ (x : Producer). joined_trail o x (b % 2 ^ 22) k) key);
}
  where
    wide : 22 ≤ p.at.l2
    wide = let w = passes_here.wide in omega (arith, w)

    capability : IsCapability p.cap
    capability = meets-capability o ranged j a p wide 32 c (start_at a) reads is met

    beside : Beside o k b 32 c (start_at a) b p reads
    beside = meets-along o ranged j k a b near_ab p wide 32 c (start_at a) b reads is near_ab met

    q : Point
    q = moved p beside.z

    passes_there : PassesAt q
    passes_there = moved-passes o p beside.z capability passes_here beside.alike

    key : key_of o q ≡ key_of o p
    key = moved-key o p beside.z capability passes_here beside.alike

    rests : Rests o k b 32 c (start_at b) q reads
    rests = meets-rests o k b q 32 c (start_at b) reads beside.met

    low : q.at.address % 2 ^ 22 ≡ b % 2 ^ 22
    low = meets-low o ranged k b q wide 32 c (start_at b) reads is beside.met

    alike : CutAlike o k b (b % 2 ^ 22) (near b) (suc p.left) p.cap (gpt_cap p.cap.object) q.at (at_join (key_of o q) (b % 2 ^ 22))
    alike = joins-alike o k b q passes_there capability low

    header : header_noted p.cap b p.at.l2 ≡ header_noted p.cap a p.at.l2
    header = header-alike 22 a b p.cap p.at.l2 wide near_ab

    behind : trail_from o k b (suc p.left) p.cap q.at ≡ header_noted p.cap a p.at.l2 ++ trail_after o k b p.left (step o k p.cap q.at)
    behind = trail_from-suc o k b p.left p.cap q.at ∙ ap (λ (t : List Noted). t ++ trail_after o k b p.left (step o k p.cap q.at)) header
