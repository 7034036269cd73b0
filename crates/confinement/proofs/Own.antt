-- What one side may hold and reach: the capabilities of a list, and who answers an entry.
use Rattle.std.proofs.Common.{◌≡◌, ℕ, inl, inr, true, refl, List, [], ◌∷◌}
use Rattle.cap_format.specs.Capability.{Capability}
use Rattle.object_store.specs.Store.{Store}
use Rattle.invocation.specs.Answerer.{Answer}
use Rattle.invocation.specs.Answerer.Answer.{Dead, Open, Busy}
use Rattle.confinement.specs.declared.cut_side.CutSide.{CutSide}
use Rattle.cap_format.specs.declared.kind.CapKind.{CapKind}
use Rattle.cap_format.specs.declared.kind.CapKind.TheVariants.{Endpoint, Entry, Process}
use Rattle.confinement.specs.Cut.{Cut, side_of, closed_cut, IsClosed, MayHold, MaySleep, Beyond}
use Rattle.confinement.specs.Acts.{Hears, MayAwait}
use Rattle.confinement.proofs.Held.{side-entry}

-- all of these capabilities may be held by this side
abbrev pub AllMayHold : Cut → CutSide → List Capability → Type 0
AllMayHold cut side [] = Unit {0}
AllMayHold cut side (c ∷ cs) = MayHold cut side c × AllMayHold cut side cs

-- who answers an entry, if anybody does, takes messages of this side, or is one for whom it may wait
abbrev pub AnswersOwn : Cut → CutSide → Store → Answer → Type 0
AnswersOwn cut side s Dead = Unit {0}
AnswersOwn cut side s (Open e q) = Hears cut side s e q
AnswersOwn cut side s (Busy q) = MayAwait cut side q

-- ---- where nobody calls across

-- as over a closed cut
pub is-closed : (side : CapKind → ℕ → CutSide) → IsClosed (closed_cut side)
is-closed side = record { calls = λ on e. refl; hears = λ on q. refl }

module _ (cut : Cut) (closed : IsClosed cut) where
  pub uncalled : (side : CutSide) (e : ℕ) → cut.calls side e ≡ true → ⊥
  uncalled side e calls = let none = closed.calls side e in cc (calls, none)

  unheard : (side : CutSide) (q : ℕ) → cut.hears side q ≡ true → ⊥
  unheard side q hears = let none = closed.hears side q in cc (hears, none)

  -- an entry is to an endpoint of the side
  pub own-entry : (side : CutSide) (c : Capability) → c.kind ≡ Entry → MayHold cut side c → side_of cut Endpoint c.object ≡ side
  own-entry side c k may = elim (side-entry cut side c k may) [ inl own ↦ own | inr calls ↦ absurd (uncalled side c.object calls) ]

  -- who takes a message is of the side
  pub own-hears : (side : CutSide) (s : Store) (e q : ℕ) → Hears cut side s e q → (side_of cut Endpoint e ≡ side) × (side_of cut Process q ≡ side)
  own-hears side s e q (inl own) = own
  own-hears side s e q (inr call) = absurd (uncalled side e call.0)

  -- for whom it waits too
  pub own-await : (side : CutSide) (q : ℕ) → MayAwait cut side q → side_of cut Process q ≡ side
  own-await side q (inl own) = own
  own-await side q (inr hears) = absurd (unheard side q hears)

  -- and whoever sleeps does so on one of his side
  pub own-sleep : (p on : ℕ) → MaySleep cut p on → side_of cut Process p ≡ side_of cut Process on
  own-sleep p on (inl same) = same
  own-sleep p on (inr hears) = absurd (unheard (side_of cut Process p) on hears)

  -- nothing is beyond
  pub none-beyond : (side : CutSide) (s : Store) → Beyond cut side s
  none-beyond side s = record {
    away = λ e calls. absurd (uncalled side e calls);
    heard = λ e calls k. absurd (uncalled side e calls);
    others = λ q hears. absurd (unheard side q hears);
    spaces = λ q hears. absurd (unheard side q hears);
    apart = λ q g hears own. absurd (unheard side q hears);
    slots = λ q g i hears own. absurd (unheard side q hears);
  }
