-- The objects that changes write are the same ones by what is stored and by what it means.
use Rattle.std.proofs.Common.{◌≡◌, ℕ, List, [], ◌∷◌, ◌++◌, map, slice_index_or, slice_set, refl, sym, ap, ◌∙◌}
use Rattle.cap_format.specs.Capability.{Capability}
use Rattle.schedules.specs.Queues.{QueuesValue, without, sleepers_of}
use Rattle.schedules.specs.Ready.{Runs, runs, runs_of, readied, readied_all, unslept, process_names}
use Rattle.schedules.proofs.Waking.{readied_all-cons, readied_all-nil, sleepers-readied}
use Rattle.operations.specs.System.{System, Reading, Stored, Meant, schedule_by}
use Rattle.operations.specs.Change.{Change, PageIs, CapPageIs, SlotIs, HeaderIs, EndpointIs, ProcessIs, Left, Readied, Woken, Destroyed, applied}
use Rattle.operations.specs.Changed.{names_of, names_in}
use Rattle.operations.proofs.Mapped.{change_map}

-- who is made ready sleeps on nobody before and afterwards
sleepers_readied : (c : Capability) (p : ℕ) (r : Runs) → (readied c p r).queues.sleepers ≡ r.queues.sleepers
sleepers_readied c p r = sleepers-readied c.kind c.object r.queues p

sleepers_readied_all : (f : ℕ → Capability) (ps : List ℕ) (r : Runs) → (readied_all f ps r).queues.sleepers ≡ r.queues.sleepers
sleepers_readied_all f [] r = ap (λ (z : Runs). z.queues.sleepers) (readied_all-nil f r)
sleepers_readied_all f (p ∷ ps) r =
    ap (λ (z : Runs). z.queues.sleepers) (readied_all-cons f p ps r)
    ∙ (sleepers_readied_all f ps (readied (f p) p r) ∙ sleepers_readied (f p) p r)

-- the sleepers after a change: a function of those before, whatever the objects are
abbrev slept : Change → List (List ℕ) → List (List ℕ)
slept (Left p) sleepers = map (without p) sleepers
slept (Woken p) sleepers = slice_set sleepers p []
slept _ sleepers = sleepers

sleepers_after : (reading : Reading) (w : System) (change : Change) → (applied reading w change).queues.sleepers ≡ slept change w.queues.sleepers
sleepers_after reading w (PageIs n page) = refl
sleepers_after reading w (CapPageIs n page) = refl
sleepers_after reading w (SlotIs g i c) = refl
sleepers_after reading w (HeaderIs g header) = refl
sleepers_after reading w (EndpointIs e endpoint) = refl
sleepers_after reading w (ProcessIs p process) = refl
sleepers_after reading w (Left p) = refl
sleepers_after reading w (Readied p) = sleepers_readied (schedule_by reading w.store p) p (runs_of w.store w.queues)
sleepers_after reading w (Woken p) = sleepers_readied_all (schedule_by reading w.store) (sleepers_of w.queues p) (runs w.store.contents.processes (unslept w.queues p))
sleepers_after reading w (Destroyed kind n) = refl

slept-map : (f : Capability → Capability) (change : Change) (sleepers : List (List ℕ)) → slept (change_map f change) sleepers ≡ slept change sleepers
slept-map f (PageIs n page) sleepers = refl
slept-map f (CapPageIs n page) sleepers = refl
slept-map f (SlotIs g i c) sleepers = refl
slept-map f (HeaderIs g header) sleepers = refl
slept-map f (EndpointIs e endpoint) sleepers = refl
slept-map f (ProcessIs p process) sleepers = refl
slept-map f (Left p) sleepers = refl
slept-map f (Readied p) sleepers = refl
slept-map f (Woken p) sleepers = refl
slept-map f (Destroyed kind n) sleepers = refl

-- one change writes the same objects where the same processes sleep
names-same : (f : Capability → Capability) (q r : QueuesValue) (change : Change) → r.sleepers ≡ q.sleepers → names_of r (change_map f change) ≡ names_of q change
names-same f q r (PageIs n page) e = refl
names-same f q r (CapPageIs n page) e = refl
names-same f q r (SlotIs g i c) e = refl
names-same f q r (HeaderIs g header) e = refl
names-same f q r (EndpointIs n endpoint) e = refl
names-same f q r (ProcessIs p process) e = refl
names-same f q r (Left p) e = refl
names-same f q r (Readied p) e = refl
names-same f q r (Woken p) e = ap (λ sleepers. process_names (slice_index_or sleepers p [])) e
names-same f q r (Destroyed kind n) e = refl

-- and so do all
pub names_mean : (f : Capability → Capability) (w v : System) (changes : List Change) → v.queues.sleepers ≡ w.queues.sleepers → names_in Meant v (map (change_map f) changes) ≡ names_in Stored w changes
names_mean f w v [] e = refl
names_mean f w v (change ∷ changes) e =
    let after : (applied Meant v (change_map f change)).queues.sleepers ≡ (applied Stored w change).queues.sleepers =
    sleepers_after Meant v (change_map f change)
    ∙ (slept-map f change v.queues.sleepers ∙ (ap (slept change) e ∙ sym (sleepers_after Stored w change))) in
    ap (λ names. names ++ names_in Meant (applied Meant v (change_map f change)) (map (change_map f) changes)) (names-same f w.queues v.queues change e)
    ∙ ap (λ names. names_of w.queues change ++ names) (names_mean f (applied Stored w change) (applied Meant v (change_map f change)) changes after)
