-- Few frames in every run: each key that is kept is one that is needed, none is kept twice, and at most 256 are.
use Rattle.std.proofs.Common.{◌≡◌, ℕ, ◌/◌, ◌≤◌, Bool, true, false, not, ◌&&◌, nat_le, if◌then◌else◌, List, [], ◌∷◌, length, refl, arith}
use Rattle.std.specs.FinSet.{len}
use Rattle.std.proofs.lemmas.Bool.Decides.{nat_tests}
use Rattle.cap_format.specs.Capability.{Capability}
use Rattle.object_store.specs.Store.{Items}
use Rattle.walk_meaning.specs.declared.kind.Kind.{Kind}
use Rattle.walk_meaning.specs.Walk.{access}
use Rattle.map_cache.specs.Kept.{counted, is_reached}
use Rattle.shared_leaves.specs.Key.{root_key, with_key}
use Rattle.shared_leaves.specs.Kept.{Addition, SharedKept, added, added_to, addition_of, fits, is_held, kept_after, kept_without, nothing}
use Rattle.machine_state.specs.Outcome.{Touch}
use Rattle.machine_state.specs.Outcome.Touch.{DataAccess, CapAccess, GptCall, Changed}
use Rattle.shared_economy.specs.Counts.{kept_by}
use Rattle.shared_economy.specs.Need.{NeedValue, need_after, need_at, needing, no_need}
use Rattle.shared_economy.specs.Laws.{FewerFrames}
use Rattle.shared_economy.proofs.Keys.{Among, Distinct, among-more, among-with, distinct-with, length-among}
use Rattle.depend_table.proofs.Coded.{with_key-grows}
use Rattle.shared_leaves.proofs.Codes.{key_coding}

-- the keys that are kept, by those that are needed
record AreNeeded (k : SharedKept) (n : NeedValue) : Type 0 where
  distinct : Distinct k.keys
  among : Among k.keys n.frames
  most : length k.keys ≤ 256

module _ (k : SharedKept) (n : NeedValue) (space : Capability) (page : ℕ) (add : Addition) (needed : AreNeeded k n) where
  needed-more : (others : SharedKept) → Distinct others.keys → Among others.keys n.frames → length (added others space page add).keys ≤ 256
      → AreNeeded (added others space page add) (needing n space add)
  needed-more others distinct among most = record {
    distinct = distinct-with (with_key others.keys (root_key space)) add.key (distinct-with others.keys (root_key space) distinct);
    among = among-with (with_key others.keys (root_key space)) (with_key n.frames (root_key space)) add.key (among-with others.keys n.frames (root_key space) among);
    most = most;
  }

  needed-added : AreNeeded (added_to k space page add) (needing n space add)
  needed-added = on (fits (added k space page add)) refl
    where
      within : (a b : ℕ) → (nat_le a 256 && nat_le b 16384) ≡ true → a ≤ 256
      within a b holds = grind (arith, nat_tests, holds)

      on : (b : Bool) → fits (added k space page add) ≡ b → AreNeeded (if b then added k space page add else added nothing space page add) (needing n space add)
      on true is = needed-more k needed.distinct needed.among (within (length (added k space page add).keys) (len (added k space page add).notes) is)
      on false is =
          needed-more nothing tt (λ j there. absurd (cc))
          (omega (arith, (with_key-grows key_coding [] (root_key space)).1, (with_key-grows key_coding (with_key [] (root_key space)) add.key).1))

  -- where nothing is added, no more is kept than needed
  needed-same : AreNeeded k (needing n space add)
  needed-same = record {
    distinct = needed.distinct;
    among = among-more k.keys (with_key n.frames (root_key space)) add.key (among-more k.keys n.frames (root_key space) needed.among);
    most = needed.most;
  }

needed-access : (k : SharedKept) (n : NeedValue) (o : Items) (space : Capability) (address : ℕ) (kind : Kind) → AreNeeded k n
    → AreNeeded (kept_after k o space address kind) (need_at n (DataAccess o space address kind))
needed-access k n o space address kind needed = on (is_reached (access o space address kind)) (is_held k (counted o space) (address / 4096))
  where
    on : (r h : Bool) → AreNeeded (if r && not h then added_to k (counted o space) (address / 4096) (addition_of o space address kind) else k)
        (if r then needing n (counted o space) (addition_of o space address kind) else n)
    on true true = needed-same k n (counted o space) (address / 4096) (addition_of o space address kind) needed
    on true false = needed-added k n (counted o space) (address / 4096) (addition_of o space address kind) needed
    on false h = needed

needed-touches : (k : SharedKept) (n : NeedValue) (ts : List Touch) → AreNeeded k n → AreNeeded (kept_by k ts) (need_after n ts)
needed-touches k n [] needed = needed
needed-touches k n (DataAccess o space address kind ∷ ts) needed =
    needed-touches (kept_after k o space address kind) (need_at n (DataAccess o space address kind)) ts (needed-access k n o space address kind needed)
needed-touches k n (CapAccess o space address kind ∷ ts) needed = needed-touches k n ts needed
needed-touches k n (GptCall reads ∷ ts) needed = needed-touches k n ts needed
needed-touches k n (Changed item ∷ ts) needed =
    needed-touches (kept_without k item) n ts (record { distinct = needed.distinct; among = needed.among; most = needed.most })

pub fewer_frames : FewerFrames
fewer_frames ts =
    let all = needed-touches nothing no_need ts (record { distinct = tt; among = λ j there. there; most = omega arith }) in
    record { needed = length-among (kept_by nothing ts).keys (need_after no_need ts).frames all.distinct all.among; most = all.most }
