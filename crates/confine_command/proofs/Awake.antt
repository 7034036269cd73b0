-- Nobody sleeps at a machine's start.
use Rattle.std.proofs.Common.{◌≡◌, ℕ, zero, suc, List, [], ◌∷◌, get_or, replicate, fold, filter, None, refl, sym, ◌∙◌, ap, subst}
use Rattle.std.specs.List.{range_with_len}
use Rattle.cap_format.specs.declared.kind.CapKind.TheVariants.{Process}
use Rattle.object_store.specs.Store.{size_of}
use Rattle.schedules.proofs.Waking.{sleepers-readied}
use Rattle.kernel_core.specs.State.{State, schedule_slot}
use Rattle.kernel_core.specs.Setters.{ready}
use Rattle.listing_read.specs.Statement.{ListingValue}
use Rattle.image_builder.specs.Boot.{objects_of, is_running, at_rest, booted}
use Rattle.schedules.specs.Queues.{QueuesValue}
use Rattle.confinement.specs.Cut.{Cut, side_of, AllOn}
use Rattle.confine_check.specs.Breach.{sleeper_of}
use Rattle.confine_check.specs.Found.{meant_of}
use Rattle.confine_check.proofs.Decided.{apart-none}
use Rattle.confine_command.specs.Confine.{NobodySleeps}
use Rattle.confine_command.specs.Laws.{AwakeLaw}
use Rattle.confine_command.proofs.Verdicts.{found-awake}

-- a copy of what stands for those that are not there is read at each index
copy-at : {A : Type 0} (d : A) (n i : ℕ) → get_or (replicate n d) i d ≡ d
copy-at d zero i = refl
copy-at d (suc n) zero = refl
copy-at d (suc n) (suc i) = copy-at d n i

-- processes that are made ready wake nobody, and none of them goes to sleep
ready-sleepers : (ps : List ℕ) (s : State) → (fold ready s ps).queues.sleepers ≡ s.queues.sleepers
ready-sleepers [] s = refl
ready-sleepers (p ∷ ps) s =
    ready-sleepers ps (ready s p) ∙ sleepers-readied (schedule_slot s p).kind (schedule_slot s p).object s.queues p

pub booted-awake : (listing : ListingValue) → NobodySleeps (booted listing).queues
booted-awake listing on = ap (λ (xs : List (List ℕ)). get_or xs on []) (ready-sleepers (filter (is_running listing) (range_with_len 0 listing.sizes.processes)) (at_rest (objects_of listing)))
    ∙ copy-at [] (size_of (objects_of listing).items Process) on

-- so none is found that sleeps on one of the other side
pub awake-none : (cut : Cut) (q : QueuesValue) → NobodySleeps q → sleeper_of cut q ≡ None
awake-none cut q awake = apart-none cut q (λ on. subst (λ (xs : List ℕ). AllOn cut (side_of cut Process on) xs) (sym (awake on)) tt)

-- the law of sleepers
pub awake_law : AwakeLaw
awake_law = record {
  awake = booted-awake;
  never = λ listing cut p. found-awake (meant_of cut (booted listing).store) (sleeper_of cut (booted listing).queues) p (awake-none cut (booted listing).queues (booted-awake listing));
}
