-- A quiet step moves no capability, and leaves what accesses come to.
use Rattle.std.proofs.Common.{◌≡◌, ℕ, zero, suc, Bool, ◌||◌, List, [], ◌∷◌, ◌++◌, length, get_or, refl, sym, ◌∙◌, ap, ap₂, length-set}
use Rattle.std.specs.List.{list_any}
use Rattle.cap_format.specs.declared.kind.CapKind.{CapKind}
use Rattle.cap_format.specs.declared.kind.CapKind.TheVariants.{Gpt}
use Rattle.cap_format.specs.Capability.{Capability, null}
use Rattle.endpoint_objects.specs.declared.endpoint.Endpoint.{Endpoint as EndpointValue}
use Rattle.endpoint_objects.specs.Endpoint.{empty_endpoint}
use Rattle.page_store.specs.CapPage.{empty_cappage}
use Rattle.object_store.specs.Store.{Store, Items, gpt_at}
use Rattle.walk_meaning.specs.Trail.{trail}
use Rattle.walk_meaning.specs.Walk.{access}
use Rattle.walk_engine.specs.Answer.{hit_of}
use Rattle.machine_state.specs.State.{State}
use Rattle.independence.specs.Rewrite.{Rewrite, ProcessIs, PageIs, rewritten, rewritten_all}
use Rattle.independence.proofs.Quieting.{quiet_law}
use Rattle.quiet_runs.specs.declared.reached_by.ReachedBy.{ReachedBy}
use Rattle.quiet_runs.specs.declared.reached_by.ReachedBy.TheVariants.{Alone, Several}
use Rattle.quiet_runs.specs.Runs.{Watch, IsQuietFor, after_step}
use Rattle.quiet_runs.specs.Reaching.{joined, joined_below, through, caps_of, held_by, reached_within}
use Rattle.quiet_runs.specs.Finding.{is_below, some_held}
use Rattle.quiet_runs.specs.Laws.{HoldAlike, LookAlike, HeldLaw}
use Rattle.quiet_runs.proofs.Below.{below-same}
use Rattle.quiet_runs.proofs.Steps.{quiet-same}
use Rattle.quiet_runs.proofs.Found.{found}

-- groups that are the same are together the same
joined-same : (by other : ℕ → ReachedBy) (n : ℕ) → ((i : ℕ) → by i ≡ other i) → joined_below by n ≡ joined_below other n
unfolding joined_below
joined-same by other zero same = refl
joined-same by other (suc n) same = ap₂ joined (joined-same by other n same) (same n)

module _ (s t : Store) (items : t.items ≡ s.items) (cappages : t.contents.cappages ≡ s.contents.cappages) (endpoints : t.contents.endpoints ≡ s.contents.endpoints)
    (count : length t.contents.processes ≡ length s.contents.processes) (caps : (p : ℕ) → caps_of t p ≡ caps_of s p) where
  held-same : (kind : CapKind) (n : ℕ) → held_by t kind n ≡ held_by s kind n
  held-same kind n =
      ap₂ joined
      (joined-same (λ p. through (Alone p) (caps_of t p) kind n) (λ p. through (Alone p) (caps_of s p) kind n) (length t.contents.processes) (λ p. ap (λ (cs : List Capability). through (Alone p) cs kind n) (caps p))
      ∙ ap (joined_below (λ p. through (Alone p) (caps_of s p) kind n)) count)
      (ap (λ (pages : List (List Capability)). joined_below (λ c. through Several (get_or pages c empty_cappage) kind n) (length pages)) cappages)

  within-same : (most : ℕ) (kind : CapKind) (n : ℕ) → reached_within most t kind n ≡ reached_within most s kind n
  unfolding reached_within
  within-same zero kind n = held-same kind n
  within-same (suc most) kind n =
      ap₂ joined (held-same kind n)
      (joined-same (λ g. through (reached_within most t Gpt g) (gpt_at t.items g).slots kind n) (λ g. through (reached_within most s Gpt g) (gpt_at s.items g).slots kind n) (length t.items.gpts)
      (λ g. ap₂ (λ (by : ReachedBy) (cs : List Capability). through by cs kind n) (within-same most Gpt g) (ap (λ (o : Items). (gpt_at o g).slots) items))
      ∙ ap (λ (o : Items). joined_below (λ g. through (reached_within most s Gpt g) (gpt_at s.items g).slots kind n) (length o.gpts)) items)

  some-same : (test : Capability → Bool) → some_held test t ≡ some_held test s
  some-same test =
      ap₂ (λ (a b : Bool). a || b)
      (below-same (λ p. list_any test (caps_of t p)) (λ p. list_any test (caps_of s p)) (length t.contents.processes) (λ p l. ap (list_any test) (caps p))
      ∙ ap (is_below (λ p. list_any test (caps_of s p))) count)
      (ap₂ (λ (a b : Bool). a || b)
      (ap (λ (pages : List (List Capability)). is_below (λ c. list_any test (get_or pages c empty_cappage)) (length pages)) cappages)
      (ap (λ (o : Items). is_below (λ g. list_any test (gpt_at o g).slots) (length o.gpts)) items))

  -- stores with the same capabilities in the same places hold alike
  pub hold-alike : HoldAlike s t
  hold-alike = record {
    held = some-same;
    recipients = λ test. ap (λ (es : List EndpointValue). is_below (λ e. test (get_or es e empty_endpoint).recipient) (length es)) endpoints;
    reached = λ kind n. within-same (length t.items.gpts) kind n ∙ ap (λ (o : Items). reached_within (length o.gpts) s kind n) items;
  }

-- ---- a quiet step

-- rewrites make no process and remove none
length-rewritten : (s : State) (rewrites : List Rewrite) → length (rewritten_all s rewrites).store.contents.processes ≡ length s.store.contents.processes
length-rewritten s [] = refl
length-rewritten s (rewrite ∷ rewrites) = length-rewritten (rewritten s rewrite) rewrites ∙ one rewrite
  where
    one : (rewrite : Rewrite) → length (rewritten s rewrite).store.contents.processes ≡ length s.store.contents.processes
    one (ProcessIs p value) = length-set s.store.contents.processes p value
    one (PageIs n page) = refl

-- nor a page
pages-rewritten : (s : State) (rewrites : List Rewrite) → length (rewritten_all s rewrites).store.contents.pages ≡ length s.store.contents.pages
pages-rewritten s [] = refl
pages-rewritten s (rewrite ∷ rewrites) = pages-rewritten (rewritten s rewrite) rewrites ∙ one rewrite
  where
    one : (rewrite : Rewrite) → length (rewritten s rewrite).store.contents.pages ≡ length s.store.contents.pages
    one (ProcessIs p value) = refl
    one (PageIs n page) = length-set s.store.contents.pages n page

-- it moves no capability, and walks go by the same items from the same slot
held-step : (watch : Watch) (s : State) (hart : ℕ) → IsQuietFor watch s hart → LookAlike s (after_step s hart)
held-step watch s hart quiet =
    let seen = quiet-same watch s hart quiet in
    let same = seen.same in
    let law = quiet_law quiet.cut quiet.settled quiet.process s hart quiet.by in
    let does = law.does in
    record {
      hold = hold-alike s.store (after_step s hart).store (sym same.items) (sym same.cappages) (sym same.endpoints)
          (ap (λ (t : State). length t.store.contents.processes) does.state ∙ length-rewritten s law.rewrites)
          (λ p. let one = same.processes p in ap₂ (λ (slots capregs : List Capability). slots ++ capregs) (sym one.slots) (sym one.capregs));
      pages = ap (λ (t : State). length t.store.contents.pages) does.state ∙ pages-rewritten s law.rewrites;
      queues = sym same.queues;
      walks = λ p at kind. let one = same.processes p in
          ap₂ (λ (o : Items) (slots : List Capability). hit_of (access o (get_or slots 0 null) at kind)) (sym same.items) (sym one.slots);
      ways = λ p at kind. let one = same.processes p in
          ap₂ (λ (o : Items) (slots : List Capability). trail o (get_or slots 0 null) at kind) (sym same.items) (sym one.slots);
    }

-- so it is with each that is found
pub held_law : HeldLaw
held_law watch s hart quiet = held-step watch s hart (found watch s hart quiet)
