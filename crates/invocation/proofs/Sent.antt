-- The capabilities that are sent, as they mean.
use Rattle.std.proofs.Common.{◌≡◌, ℕ, List, [], ◌∷◌, map, refl, ap, ◌∙◌}
use Rattle.std.specs.List.{All}
use Rattle.std.proofs.lemmas.List.Elements.{All-map}
use Rattle.process_objects.specs.Process.{capreg_of}
use Rattle.object_store.specs.Store.{Store, process_at}
use Rattle.object_store.specs.Meaning.{meaning, state_map}
use Rattle.object_store.specs.Ahead.{IsBehind, NoneAhead}
use Rattle.object_store.proofs.Writes.{capreg_means}
use Rattle.object_store.proofs.WritesBehind.{capreg_behind}
use Rattle.invocation.specs.Delivery.{sent_by}

-- what is sent means what is sent of the map
pub sent_means : (s : Store) (p : ℕ) (registers : List ℕ) → map (meaning s.items) (sent_by s p registers) ≡ sent_by (state_map s) p registers
sent_means s p [] = refl
sent_means s p (i ∷ is) =
    ap (λ c. c ∷ map (meaning s.items) (sent_by s p is)) (capreg_means s p i)
    ∙ ap (λ cs. capreg_of (process_at (state_map s) p) i ∷ cs) (sent_means s p is)

-- nothing that is sent is ahead, where nothing is
pub sent_behind : (s : Store) (p : ℕ) (registers : List ℕ) → NoneAhead s → All (IsBehind s.items) (sent_by s p registers)
sent_behind s p registers none = All-map (IsBehind s.items) (capreg_of (process_at s p)) registers (λ k d there. capreg_behind s none p _)
