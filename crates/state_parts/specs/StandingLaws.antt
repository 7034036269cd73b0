-- What is kept of a standing, and that its equality answers true exactly where both are equal.
use Rattle.std.proofs.Common.{◌≡◌, refl, ap}
use Rattle.std.specs.Bool.{beq, Decides}
use Rattle.std.specs.Cmp.{booleans_Decides}
use Rattle.std.proofs.lemmas.Bool.Decides.{Decides-and, Decides-like}
use Rattle.state_parts.specs.declared.standing.Standing.{Standing}
use Rattle.state_parts.specs.Same.{same_queues}
use Rattle.state_parts.specs.SameLaws.{queues_decide}
use Rattle.state_parts.specs.Standing.{StandingValue, same_standing}

-- what it stands for
abbrev pub standing_in : Standing → StandingValue
standing_in s = record { queues = s.queues; halted = s.halted }

pub standing_decides : (a b : StandingValue) → Decides (same_standing a b) (a ≡ b)
standing_decides a b =
    Decides-like (same_standing a b) whole parts
    (Decides-and (beq a.halted b.halted) (same_queues a.queues b.queues) (booleans_Decides a.halted b.halted) (queues_decide a.queues b.queues))
  where
    by : (x : StandingValue) → StandingValue
    by x = record { queues = x.queues; halted = x.halted }

    whole : (a.halted ≡ b.halted) × (a.queues ≡ b.queues) → by a ≡ by b
    whole e = rw (e.0, e.1) refl

    parts : a ≡ b → (a.halted ≡ b.halted) × (a.queues ≡ b.queues)
    parts e = (ap (λ (x : StandingValue). x.halted) e, ap (λ (x : StandingValue). x.queues) e)
