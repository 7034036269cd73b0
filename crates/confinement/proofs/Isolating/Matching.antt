-- Two systems that match on one side: they agree on it, and the cut holds in the first. What a process of this side does in
-- both leaves them so.
use Rattle.std.proofs.Common.{◌≡◌, ℕ, inl, true, List, [], ◌∷◌, ◌++◌, length, get_or, set, refl, sym, ◌∙◌, ap, ap₂, subst}
use Rattle.std.proofs.Math.ListN.{get_or-map}
use Rattle.cap_format.specs.declared.kind.CapKind.TheVariants.{Page, CapPage, Gpt, Endpoint, Process}
use Rattle.cap_format.specs.Capability.{Capability}
use Rattle.gpt_objects.specs.Header.{HeaderValue}
use Rattle.gpt_objects.specs.Gpt.{GptValue, with_slot, with_header}
use Rattle.page_store.specs.CapPage.{cap_at}
use Rattle.process_objects.specs.Process.{ProcessValue, slot_of}
use Rattle.endpoint_objects.specs.declared.endpoint.Endpoint.{Endpoint as EndpointValue}
use Rattle.object_store.specs.Store.{gpt_at, process_at, set_gpt, set_slot, set_header, with_items, with_page, with_cappage, with_process, with_endpoint}
use Rattle.schedules.specs.Queues.{QueuesValue, sleepers_of, stands_in, without, left, asleep}
use Rattle.schedules.specs.Ready.{readied, readied_process, readied_queues, readied_all, unslept, woken, runs_of, schedule_in}
use Rattle.schedules.proofs.Waking.{sleepers-readied}
use Rattle.operations.specs.System.{System, system, with_store, with_runs}
use Rattle.confinement.specs.declared.cut_side.CutSide.{CutSide}
use Rattle.confinement.specs.Cut.{Cut, side_of, IsClosed, MayHold, AllOn, MaySleep, HoldsFor}
use Rattle.confinement.specs.Acts.{Acts, ProcessHeld}
use Rattle.confinement.proofs.Own.{own-sleep}
use Rattle.confinement.proofs.Sleeping.{length-map_lists, asleep-unslept, asleep-same, each_on}
use Rattle.confinement.proofs.Acting.{acts-process, acts-page, acts-cappage, acts-slot, acts-header, acts-endpoint, acts-left, acts-asleep, held-process}
use Rattle.confinement.specs.isolation.Agree.{Agree}
use Rattle.confinement.proofs.Isolating.Agreeing.{set_both, set_long, same-gpt, same-process, agree-process, agree-page, agree-cappage, agree-gpt, agree-endpoint, agree-queues}

-- nobody calls across, the cut holds in the first, and both agree on this side
pub record Match (cut : Cut) (side : CutSide) (w v : System) : Type 0 where
  pub closed : IsClosed cut
  pub holds : HoldsFor cut side w
  pub agree : Agree cut side w v

module _ (cut : Cut) (side : CutSide) where
  -- what a process of this side may do of the first, and what leaves both agreeing
  pub match-after : (w v x y : System) → Match cut side w v → (HoldsFor cut side w → Acts cut side w x) → (Agree cut side w v → Agree cut side x y) → Match cut side x y
  match-after w v x y m acts agrees = let done = acts m.holds in record { closed = m.closed; holds = done.holds; agree = agrees m.agree }

  module _ (w v : System) (m : Match cut side w v) where
    -- ---- objects

    -- a process
    pub match-process : (p : ℕ) (x y : ProcessValue) → x ≡ y → side_of cut Process p ≡ side → ProcessHeld cut side x
        → Match cut side (with_store w (with_process w.store p x)) (with_store v (with_process v.store p y))
    match-process p x y e own held =
        subst (λ (z : ProcessValue). Match cut side (with_store w (with_process w.store p x)) (with_store v (with_process v.store p z))) e
        (match-after w v _ _ m (acts-process cut side w p x own held) (λ a. agree-process cut side w v a p x))

    -- a page
    pub match-page : (n : ℕ) (x y : List ℕ) → x ≡ y → side_of cut Page n ≡ side
        → Match cut side (with_store w (with_page w.store n x)) (with_store v (with_page v.store n y))
    match-page n x y e own =
        subst (λ (z : List ℕ). Match cut side (with_store w (with_page w.store n x)) (with_store v (with_page v.store n z))) e
        (match-after w v _ _ m (acts-page cut side w n x own) (λ a. agree-page cut side w v a n x))

    -- a capability page
    pub match-cappage : (n : ℕ) (x y : List Capability) → x ≡ y → side_of cut CapPage n ≡ side → ((i : ℕ) → MayHold cut side (cap_at x i))
        → Match cut side (with_store w (with_cappage w.store n x)) (with_store v (with_cappage v.store n y))
    match-cappage n x y e own held =
        subst (λ (z : List Capability). Match cut side (with_store w (with_cappage w.store n x)) (with_store v (with_cappage v.store n z))) e
        (match-after w v _ _ m (acts-cappage cut side w n x own held) (λ a. agree-cappage cut side w v a n x))

    -- an endpoint
    pub match-endpoint : (n : ℕ) (x y : EndpointValue) → x ≡ y → side_of cut Endpoint n ≡ side → MayHold cut side x.recipient
        → Match cut side (with_store w (with_endpoint w.store n x)) (with_store v (with_endpoint v.store n y))
    match-endpoint n x y e own held =
        subst (λ (z : EndpointValue). Match cut side (with_store w (with_endpoint w.store n x)) (with_store v (with_endpoint v.store n z))) e
        (match-after w v _ _ m (acts-endpoint cut side w n x own held) (λ a. agree-endpoint cut side w v a n x))

    agree-gpts : (g : ℕ) (x y : GptValue) → x ≡ y → Agree cut side (with_store w (with_items w.store (set_gpt w.store.items g x))) (with_store v (with_items v.store (set_gpt v.store.items g y)))
    agree-gpts g x y e =
        subst (λ (z : GptValue). Agree cut side (with_store w (with_items w.store (set_gpt w.store.items g x))) (with_store v (with_items v.store (set_gpt v.store.items g z)))) e
        (agree-gpt cut side w v m.agree g x)

    -- a slot of a GPT
    pub match-slot : (g i : ℕ) (c : Capability) → side_of cut Gpt g ≡ side → MayHold cut side c
        → Match cut side (with_store w (with_items w.store (set_slot w.store.items g i c))) (with_store v (with_items v.store (set_slot v.store.items g i c)))
    match-slot g i c own may =
        match-after w v _ _ m (acts-slot cut side w g i c own may)
        (λ a. agree-gpts g (with_slot (gpt_at w.store.items g) i c) (with_slot (gpt_at v.store.items g) i c) (ap (λ (x : GptValue). with_slot x i c) (same-gpt cut side w v a g own)))

    -- the header of a GPT
    pub match-header : (g : ℕ) (h : HeaderValue) → side_of cut Gpt g ≡ side
        → Match cut side (with_store w (with_items w.store (set_header w.store.items g h))) (with_store v (with_items v.store (set_header v.store.items g h)))
    match-header g h own =
        match-after w v _ _ m (acts-header cut side w g h own)
        (λ a. agree-gpts g (with_header (gpt_at w.store.items g) h) (with_header (gpt_at v.store.items g) h) (ap (λ (x : GptValue). with_header x h) (same-gpt cut side w v a g own)))

    -- ---- queues

    -- queues in which each sleeps on one of his side, and the same on this side's processes
    pub match-queues : (q r : QueuesValue) → ((on x : ℕ) → stands_in (sleepers_of q on) x ≡ true → MaySleep cut x on) → ((p : ℕ) → side_of cut Process p ≡ side → sleepers_of q p ≡ sleepers_of r p)
        → length q.sleepers ≡ length r.sleepers
        → Match cut side (system w.store q) (system v.store r)
    match-queues q r asleep sleep long =
        record { closed = m.closed; holds = record { each = m.holds.each; sleepers = asleep; beyond = m.holds.beyond }; agree = agree-queues cut side w v m.agree q r sleep long }

    -- the same lists of sleepers
    pub match-sleepers : (q r : QueuesValue) → q.sleepers ≡ w.queues.sleepers → r.sleepers ≡ v.queues.sleepers → Match cut side (system w.store q) (system v.store r)
    match-sleepers q r first second =
        match-queues q r
        (λ on x there. m.holds.sleepers on x (asleep-same w.queues q first on x there))
        (λ n own. ap (λ (xs : List (List ℕ)). get_or xs n []) first ∙ (m.agree.sleepers n own ∙ ap (λ (xs : List (List ℕ)). get_or xs n []) (sym second)))
        (ap (λ (xs : List (List ℕ)). length xs) first ∙ (m.agree.sizes.sleepers ∙ ap (λ (xs : List (List ℕ)). length xs) (sym second)))

    -- a process leaves its place
    pub match-left : (p : ℕ) → side_of cut Process p ≡ side → Match cut side (system w.store (left w.queues p)) (system v.store (left v.queues p))
    match-left p own =
        match-after w v _ _ m (acts-left cut side w p own)
        (λ a. agree-queues cut side w v a (left w.queues p) (left v.queues p)
        (λ n own. get_or-map (without p) w.queues.sleepers n [] ∙ (ap (without p) (a.sleepers n own) ∙ sym (get_or-map (without p) v.queues.sleepers n [])))
        (length-map_lists (without p) w.queues.sleepers ∙ (a.sizes.sleepers ∙ sym (length-map_lists (without p) v.queues.sleepers))))

    same-set : (on n : ℕ) (xs ys : List ℕ) → xs ≡ ys → side_of cut Process n ≡ side
        → get_or (set w.queues.sleepers on xs) n [] ≡ get_or (set v.queues.sleepers on ys) n []
    same-set on n xs ys e own =
        set_both w.queues.sleepers v.queues.sleepers on n xs [] m.agree.sizes.sleepers (m.agree.sleepers n own) ∙ ap
        (λ (zs : List ℕ). get_or (set v.queues.sleepers on zs) n []) e

    -- a process becomes the last that sleeps on another
    pub match-asleep : (p on : ℕ) → side_of cut Process p ≡ side → side_of cut Process on ≡ side
        → Match cut side (system w.store (asleep w.queues p on)) (system v.store (asleep v.queues p on))
    match-asleep p on own asked =
        match-queues (asleep w.queues p on) (asleep v.queues p on) (acts-asleep cut side w p on own (inl (own ∙ sym asked)) m.holds).holds.sleepers
        (λ n here. same-set on n (sleepers_of w.queues on ++ p ∷ []) (sleepers_of v.queues on ++ p ∷ []) (ap (λ (xs : List ℕ). xs ++ p ∷ []) (m.agree.sleepers on asked)) here)
        (set_long w.queues.sleepers v.queues.sleepers on (sleepers_of w.queues on ++ p ∷ []) (sleepers_of v.queues on ++ p ∷ []) m.agree.sizes.sleepers)

    -- nobody sleeps on a process any more
    pub match-unslept : (on : ℕ) → Match cut side (system w.store (unslept w.queues on)) (system v.store (unslept v.queues on))
    match-unslept on =
        match-queues (unslept w.queues on) (unslept v.queues on) (λ at x there. m.holds.sleepers at x (asleep-unslept w.queues on at x there))
        (λ n here. same-set on n [] [] refl here) (set_long w.queues.sleepers v.queues.sleepers on [] [] m.agree.sizes.sleepers)

  -- ---- made ready

  held-at : (w v : System) → Match cut side w v → (p : ℕ) → side_of cut Process p ≡ side → ProcessHeld cut side (process_at w.store p)
  held-at w v m p own = held-process cut side w p own m.holds

  -- a process is made ready
  pub match-readied : (w v : System) → Match cut side w v → (c d : Capability) → c ≡ d → (p : ℕ) → side_of cut Process p ≡ side
      → Match cut side (with_runs w (readied c p (runs_of w.store w.queues))) (with_runs v (readied d p (runs_of v.store v.queues)))
  match-readied w v m c d e p own =
      let x = readied_process c.kind (process_at w.store p) in
      let y = readied_process d.kind (process_at v.store p) in
      let held = held-at w v m p own in
      let value = ap₂ (λ (c : Capability) (q : ProcessValue). readied_process c.kind q) e (same-process cut side w v m.agree p own) in
      let next = match-process w v m p x y value own (record { capregs = held.capregs; slots = held.slots }) in
      match-sleepers (with_store w (with_process w.store p x)) (with_store v (with_process v.store p y)) next
      (readied_queues c.kind c.object w.queues p) (readied_queues d.kind d.object v.queues p)
      (sleepers-readied c.kind c.object w.queues p) (sleepers-readied d.kind d.object v.queues p)

  -- several are, one after the other
  pub match-readied_all : (w v : System) → Match cut side w v → (f g : ℕ → Capability) → ((p : ℕ) → side_of cut Process p ≡ side → f p ≡ g p) → (ps : List ℕ)
      → AllOn cut side ps
      → Match cut side (with_runs w (readied_all f ps (runs_of w.store w.queues))) (with_runs v (readied_all g ps (runs_of v.store v.queues)))
  unfolding readied_all
  match-readied_all w v m f g e [] all = m
  match-readied_all w v m f g e (p ∷ ps) all =
      match-readied_all (with_runs w (readied (f p) p (runs_of w.store w.queues))) (with_runs v (readied (g p) p (runs_of v.store v.queues)))
      (match-readied w v m (f p) (g p) (e p all.0) p all.0) f g e ps all.1

  -- those who sleep on a process of this side are woken
  pub match-woken : (w v : System) → Match cut side w v → (f g : ℕ → Capability) → ((p : ℕ) → side_of cut Process p ≡ side → f p ≡ g p) → (on : ℕ)
      → side_of cut Process on ≡ side
      → Match cut side (with_runs w (woken f on (runs_of w.store w.queues))) (with_runs v (woken g on (runs_of v.store v.queues)))
  match-woken w v m f g e on own =
      let x = system w.store (unslept w.queues on) in
      let y = system v.store (unslept v.queues on) in
      subst (λ (ps : List ℕ). Match cut side (with_runs w (woken f on (runs_of w.store w.queues))) (with_runs y (readied_all g ps (runs_of y.store y.queues)))) (m.agree.sleepers on own)
      (match-readied_all x y (match-unslept w v m on) f g e (sleepers_of w.queues on) (each_on cut side (sleepers_of w.queues on) (λ x there. own-sleep cut m.closed x on (m.holds.sleepers on x there) ∙ own)))

  -- what the schedule slots of this side's processes hold
  pub same-schedule : (w v : System) → Match cut side w v → (p : ℕ) → side_of cut Process p ≡ side → schedule_in w.store p ≡ schedule_in v.store p
  same-schedule w v m p own = ap (λ (q : ProcessValue). slot_of q 1) (same-process cut side w v m.agree p own)
