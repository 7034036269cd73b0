-- Two systems side by side, of which the second is the first with something rewritten on the left. What a process of the right
-- does to both leaves them so, and what is on the left as it was when it began.
use Rattle.std.proofs.Common.{◌≡◌, ℕ, List, [], ◌∷◌, ◌++◌, get_or, refl, sym, ◌∙◌, ap, ap₂, subst}
use Rattle.std.proofs.Math.ListN.{get_or-map}
use Rattle.cap_format.specs.declared.kind.CapKind.{CapKind}
use Rattle.cap_format.specs.declared.kind.CapKind.TheVariants.{Page, CapPage, Gpt, Endpoint, Process}
use Rattle.cap_format.specs.Capability.{Capability, null}
use Rattle.gpt_objects.specs.Header.{HeaderValue}
use Rattle.gpt_objects.specs.Gpt.{GptValue, slot_of as gpt_slot_of, with_slot, with_header, empty_gpt}
use Rattle.page_store.specs.CapPage.{cap_at, empty_cappage}
use Rattle.process_objects.specs.Process.{ProcessValue, capreg_of, slot_of, empty_process}
use Rattle.endpoint_objects.specs.declared.endpoint.Endpoint.{Endpoint as EndpointValue}
use Rattle.object_store.specs.Store.{Store, gpt_at, page_at, cappage_at, process_at, endpoint_at, set_gpt, set_slot, set_header, with_items, with_page, with_cappage, with_process, with_endpoint}
use Rattle.object_store.specs.Object.{object_name, ObjectName, Stays}
use Rattle.object_store.proofs.Stays.{stays_process, stays_page, stays_cappage, stays_endpoint, stays_gpt}
use Rattle.schedules.specs.Queues.{QueuesValue, sleepers_of, without, left, asleep}
use Rattle.schedules.specs.Ready.{readied, readied_process, readied_queues, readied_all, unslept, woken, runs_of, schedule_in}
use Rattle.schedules.proofs.Waking.{sleepers-readied}
use Rattle.operations.specs.System.{System, system, with_store, with_runs}
use Rattle.confinement.specs.declared.cut_side.CutSide.TheVariants.{Right}
use Rattle.confinement.specs.Cut.{Cut, side_of, MayHold, AllOn}
use Rattle.confinement.specs.Acts.{Spares, SparesPlaces, ProcessHeld}
use Rattle.confinement.proofs.Placing.{places-then, places-left, places-readied}
use Rattle.confinement.proofs.Sleeping.{each_set, all_without, all_last}
use Rattle.confinement.proofs.Acting.{AllNamed, spares-stays}
use Rattle.independence.specs.Seclusion.{HeldApart}
use Rattle.independence.proofs.Overlay.{Overlay, over, over-process_at, over-page_at, over-with_process, over-with_page}

-- The second is the first with something rewritten, nothing on the right names what is on the left, nobody of the left sleeps,
-- and since the start what is on the left stayed as it was.
pub record Beside (cut : Cut) (f : Overlay cut) (start w v : System) : Type 0 where
  pub apart : HeldApart cut w.store
  pub sleepers : (p : ℕ) → AllOn cut Right (sleepers_of w.queues p)
  pub spares : Spares cut Right start.store w.store
  pub places : SparesPlaces cut Right start.queues w.queues
  pub store : v.store ≡ over cut f w.store
  pub queues : v.queues ≡ w.queues

module _ (cut : Cut) (f : Overlay cut) (start : System) where
  abbrev Two : System → System → Type 0
  Two w v = Beside cut f start w v

  -- ---- what is read

  module _ (w v : System) (b : Two w v) where
    -- a process of the right
    pub same-process : (q : ℕ) → side_of cut Process q ≡ Right → process_at w.store q ≡ process_at v.store q
    same-process q right = sym (ap (λ (s : Store). process_at s q) b.store ∙ over-process_at cut f w.store q right)

    -- a page of the right
    pub same-page : (n : ℕ) → side_of cut Page n ≡ Right → page_at w.store n ≡ page_at v.store n
    same-page n right = sym (ap (λ (s : Store). page_at s n) b.store ∙ over-page_at cut f w.store n right)

    -- a capability page
    pub same-cappage : (n : ℕ) → cappage_at w.store n ≡ cappage_at v.store n
    same-cappage n = sym (ap (λ (s : Store). cappage_at s n) b.store)

    -- a GPT
    pub same-gpt : (g : ℕ) → gpt_at w.store.items g ≡ gpt_at v.store.items g
    same-gpt g = sym (ap (λ (s : Store). gpt_at s.items g) b.store)

    -- an endpoint
    pub same-endpoint : (e : ℕ) → endpoint_at w.store e ≡ endpoint_at v.store e
    same-endpoint e = sym (ap (λ (s : Store). endpoint_at s e) b.store)

    -- what a process of the right has it may have
    pub held-process : (q : ℕ) → side_of cut Process q ≡ Right → ProcessHeld cut Right (process_at w.store q)
    held-process q right = let apart = b.apart in record { capregs = λ i. apart.capregs q i right; slots = λ i. apart.process_slots q i right }

  -- ---- what is written

  -- other objects, of which only these changed, and nothing on the left
  stored : (w v : System) → Two w v → (names : List ObjectName) (s t : Store) → AllNamed cut Right names → Stays names w.store s → HeldApart cut s → t ≡ over cut f s
      → Two (with_store w s) (with_store v t)
  stored w v b names s t own stays apart same = record {
    apart = apart;
    sleepers = b.sleepers;
    spares = λ kind n other. b.spares kind n other ∙ spares-stays cut Right names w.store s own stays kind n other;
    places = b.places;
    store = same;
    queues = b.queues;
  }

  module _ (w v : System) (b : Two w v) where
    apart : HeldApart cut w.store
    apart = b.apart

    -- a process
    pub beside-process : (q : ℕ) (x y : ProcessValue) → x ≡ y → side_of cut Process q ≡ Right → ProcessHeld cut Right x
        → Two (with_store w (with_process w.store q x)) (with_store v (with_process v.store q y))
    beside-process q x y e right held =
        stored w v b (object_name Process q ∷ []) (with_process w.store q x) (with_process v.store q y) (right, tt) (stays_process [] w.store q x)
        (record {
          strictly = apart.strictly;
          closed = apart.closed;
          slots = apart.slots;
          cappages = apart.cappages;
          capregs = λ n i own. each_set (λ (n : ℕ) (z : ProcessValue). side_of cut Process n ≡ Right → MayHold cut Right (capreg_of z i)) w.store.contents.processes q x empty_process
              (λ own. held.capregs i) (λ n own. apart.capregs n i own) n own;
          process_slots = λ n i own. each_set (λ (n : ℕ) (z : ProcessValue). side_of cut Process n ≡ Right → MayHold cut Right (slot_of z i)) w.store.contents.processes q x empty_process
              (λ own. held.slots i) (λ n own. apart.process_slots n i own) n own;
        })
        (ap₂ (λ (s : Store) (z : ProcessValue). with_process s q z) b.store (sym e) ∙ over-with_process cut f w.store q x right)

    -- a page
    pub beside-page : (n : ℕ) (x y : List ℕ) → x ≡ y → side_of cut Page n ≡ Right
        → Two (with_store w (with_page w.store n x)) (with_store v (with_page v.store n y))
    beside-page n x y e right =
        stored w v b (object_name Page n ∷ []) (with_page w.store n x) (with_page v.store n y) (right, tt) (stays_page [] w.store n x)
        (record { strictly = apart.strictly; closed = apart.closed; slots = apart.slots; cappages = apart.cappages; capregs = apart.capregs; process_slots = apart.process_slots })
        (ap₂ (λ (s : Store) (z : List ℕ). with_page s n z) b.store (sym e) ∙ over-with_page cut f w.store n x right)

    -- a capability page
    pub beside-cappage : (n : ℕ) (x y : List Capability) → x ≡ y → side_of cut CapPage n ≡ Right → ((i : ℕ) → MayHold cut Right (cap_at x i))
        → Two (with_store w (with_cappage w.store n x)) (with_store v (with_cappage v.store n y))
    beside-cappage n x y e right held =
        stored w v b (object_name CapPage n ∷ []) (with_cappage w.store n x) (with_cappage v.store n y) (right, tt) (stays_cappage [] w.store n x)
        (record {
          strictly = apart.strictly;
          closed = apart.closed;
          slots = apart.slots;
          cappages = λ m i. each_set (λ (m : ℕ) (z : List Capability). MayHold cut Right (cap_at z i)) w.store.contents.cappages n x empty_cappage (held i) (λ m. apart.cappages m i) m;
          capregs = apart.capregs;
          process_slots = apart.process_slots;
        })
        (ap₂ (λ (s : Store) (z : List Capability). with_cappage s n z) b.store (sym e))

    -- an endpoint, whatever its recipient
    pub beside-endpoint : (n : ℕ) (x y : EndpointValue) → x ≡ y → side_of cut Endpoint n ≡ Right
        → Two (with_store w (with_endpoint w.store n x)) (with_store v (with_endpoint v.store n y))
    beside-endpoint n x y e right =
        stored w v b (object_name Endpoint n ∷ []) (with_endpoint w.store n x) (with_endpoint v.store n y) (right, tt) (stays_endpoint [] w.store n x)
        (record { strictly = apart.strictly; closed = apart.closed; slots = apart.slots; cappages = apart.cappages; capregs = apart.capregs; process_slots = apart.process_slots })
        (ap₂ (λ (s : Store) (z : EndpointValue). with_endpoint s n z) b.store (sym e))

    beside-gpt : (g : ℕ) (x y : GptValue) → x ≡ y → side_of cut Gpt g ≡ Right → ((i : ℕ) → MayHold cut Right (gpt_slot_of x i))
        → Two (with_store w (with_items w.store (set_gpt w.store.items g x))) (with_store v (with_items v.store (set_gpt v.store.items g y)))
    beside-gpt g x y e right held =
        stored w v b (object_name Gpt g ∷ []) (with_items w.store (set_gpt w.store.items g x)) (with_items v.store (set_gpt v.store.items g y)) (right, tt) (stays_gpt [] w.store g x)
        (record {
          strictly = apart.strictly;
          closed = apart.closed;
          slots = λ h i own. each_set (λ (h : ℕ) (z : GptValue). side_of cut Gpt h ≡ Right → MayHold cut Right (gpt_slot_of z i)) w.store.items.gpts g x empty_gpt
              (λ own. held i) (λ h own. apart.slots h i own) h own;
          cappages = apart.cappages;
          capregs = apart.capregs;
          process_slots = apart.process_slots;
        })
        (ap₂ (λ (s : Store) (z : GptValue). with_items s (set_gpt s.items g z)) b.store (sym e))

    -- a slot of a GPT
    pub beside-slot : (g i : ℕ) (c : Capability) → side_of cut Gpt g ≡ Right → MayHold cut Right c
        → Two (with_store w (with_items w.store (set_slot w.store.items g i c))) (with_store v (with_items v.store (set_slot v.store.items g i c)))
    beside-slot g i c right may =
        beside-gpt g (with_slot (gpt_at w.store.items g) i c) (with_slot (gpt_at v.store.items g) i c) (ap (λ (x : GptValue). with_slot x i c) (same-gpt w v b g)) right
        (each_set (λ (j : ℕ) (c : Capability). MayHold cut Right c) (gpt_at w.store.items g).slots i c null may (λ j. apart.slots g j right))

    -- the header of a GPT
    pub beside-header : (g : ℕ) (h : HeaderValue) → side_of cut Gpt g ≡ Right
        → Two (with_store w (with_items w.store (set_header w.store.items g h))) (with_store v (with_items v.store (set_header v.store.items g h)))
    beside-header g h right =
        beside-gpt g (with_header (gpt_at w.store.items g) h) (with_header (gpt_at v.store.items g) h) (ap (λ (x : GptValue). with_header x h) (same-gpt w v b g)) right
        (λ j. apart.slots g j right)

    -- ---- queues

    -- other queues, the same in both
    pub beside-queues : (q r : QueuesValue) → r ≡ q → ((p : ℕ) → AllOn cut Right (sleepers_of q p)) → SparesPlaces cut Right w.queues q → Two (system w.store q) (system v.store r)
    beside-queues q r same sleepers places = record {
      apart = b.apart;
      sleepers = sleepers;
      spares = b.spares;
      places = places-then cut Right start.queues w.queues q b.places places;
      store = b.store;
      queues = same;
    }

    -- a process leaves its place
    pub beside-left : (p : ℕ) → side_of cut Process p ≡ Right → Two (system w.store (left w.queues p)) (system v.store (left v.queues p))
    beside-left p right =
        beside-queues (left w.queues p) (left v.queues p) (ap (λ (q : QueuesValue). left q p) b.queues)
        (λ n. subst (λ (xs : List ℕ). AllOn cut Right xs) (sym (get_or-map (without p) w.queues.sleepers n [])) (all_without cut Right p (sleepers_of w.queues n) (b.sleepers n)))
        (places-left cut Right w.queues p right)

    -- a process becomes the last that sleeps on another, whosever that is
    pub beside-asleep : (p on : ℕ) → side_of cut Process p ≡ Right → Two (system w.store (asleep w.queues p on)) (system v.store (asleep v.queues p on))
    beside-asleep p on right =
        beside-queues (asleep w.queues p on) (asleep v.queues p on) (ap (λ (q : QueuesValue). asleep q p on) b.queues)
        (each_set (λ (n : ℕ) (xs : List ℕ). AllOn cut Right xs) w.queues.sleepers on (sleepers_of w.queues on ++ p ∷ []) [] (all_last cut Right p (sleepers_of w.queues on) (b.sleepers on) right) b.sleepers)
        (record { ready = λ k. refl; harts = λ h. refl; size = refl })

    -- nobody sleeps on a process any more
    pub beside-unslept : (on : ℕ) → Two (system w.store (unslept w.queues on)) (system v.store (unslept v.queues on))
    beside-unslept on =
        beside-queues (unslept w.queues on) (unslept v.queues on) (ap (λ (q : QueuesValue). unslept q on) b.queues)
        (each_set (λ (n : ℕ) (xs : List ℕ). AllOn cut Right xs) w.queues.sleepers on [] [] tt b.sleepers)
        (record { ready = λ k. refl; harts = λ h. refl; size = refl })

    beside-enqueued : (k : CapKind) (priority p : ℕ) → side_of cut Process p ≡ Right
        → Two (system w.store (readied_queues k priority w.queues p)) (system v.store (readied_queues k priority v.queues p))
    beside-enqueued k priority p right =
        beside-queues (readied_queues k priority w.queues p) (readied_queues k priority v.queues p) (ap (λ (q : QueuesValue). readied_queues k priority q p) b.queues)
        (λ n. subst (λ (xs : List (List ℕ)). AllOn cut Right (get_or xs n [])) (sym (sleepers-readied k priority w.queues p)) (b.sleepers n))
        (places-readied cut Right k priority w.queues p right)

  -- ---- made ready

  -- a process is made ready
  pub beside-readied : (w v : System) → Two w v → (c d : Capability) → c ≡ d → (p : ℕ) → side_of cut Process p ≡ Right
      → Two (with_runs w (readied c p (runs_of w.store w.queues))) (with_runs v (readied d p (runs_of v.store v.queues)))
  beside-readied w v b c d e p right =
      let x = readied_process c.kind (process_at w.store p) in
      let y = readied_process c.kind (process_at v.store p) in
      let held = held-process w v b p right in
      let next = beside-process w v b p x y (ap (λ (q : ProcessValue). readied_process c.kind q) (same-process w v b p right)) right (record { capregs = held.capregs; slots = held.slots }) in
      subst (λ (d : Capability). Two (with_runs w (readied c p (runs_of w.store w.queues))) (with_runs v (readied d p (runs_of v.store v.queues)))) e
      (beside-enqueued (with_store w (with_process w.store p x)) (with_store v (with_process v.store p y)) next c.kind c.object p right)

  -- several are, one after the other
  pub beside-readied_all : (w v : System) → Two w v → (f g : ℕ → Capability) → ((p : ℕ) → side_of cut Process p ≡ Right → f p ≡ g p) → (ps : List ℕ)
      → AllOn cut Right ps
      → Two (with_runs w (readied_all f ps (runs_of w.store w.queues))) (with_runs v (readied_all g ps (runs_of v.store v.queues)))
  unfolding readied_all
  beside-readied_all w v b f g e [] all = b
  beside-readied_all w v b f g e (p ∷ ps) all =
      beside-readied_all (with_runs w (readied (f p) p (runs_of w.store w.queues))) (with_runs v (readied (g p) p (runs_of v.store v.queues)))
      (beside-readied w v b (f p) (g p) (e p all.0) p all.0) f g e ps all.1

  -- those who sleep on a process are woken
  pub beside-woken : (w v : System) → Two w v → (f g : ℕ → Capability) → ((p : ℕ) → side_of cut Process p ≡ Right → f p ≡ g p) → (on : ℕ)
      → Two (with_runs w (woken f on (runs_of w.store w.queues))) (with_runs v (woken g on (runs_of v.store v.queues)))
  beside-woken w v b f g e on =
      let x = system w.store (unslept w.queues on) in
      let y = system v.store (unslept v.queues on) in
      subst (λ (ps : List ℕ). Two (with_runs w (woken f on (runs_of w.store w.queues))) (with_runs y (readied_all g ps (runs_of y.store y.queues)))) (ap (λ (q : QueuesValue). sleepers_of q on) (sym b.queues))
      (beside-readied_all x y (beside-unslept w v b on) f g e (sleepers_of w.queues on) (b.sleepers on))

  -- what the schedule slots of processes of the right hold
  pub same-schedule : (w v : System) → Two w v → (p : ℕ) → side_of cut Process p ≡ Right → schedule_in w.store p ≡ schedule_in v.store p
  same-schedule w v b p right = ap (λ (q : ProcessValue). slot_of q 1) (same-process w v b p right)
