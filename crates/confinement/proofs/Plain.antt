-- Where nobody calls across, what a process does leaves all that isn't of its side the same.
use Rattle.std.proofs.Common.{◌≡◌, ◌≢◌, ℕ, inl, inr, Bool, true, ◌==◌, not, cond, List, [], ◌∷◌, ◌++◌, refl, sym, ◌∙◌, ap, ap₂, append-nil, slice_index}
use Rattle.std.proofs.lemmas.Bool.{or_left, or_right, eq-eqb}
use Rattle.cap_format.specs.declared.kind.CapKind.TheVariants.{Page, Endpoint, Process}
use Rattle.cap_format.specs.Capability.{Capability}
use Rattle.process_objects.specs.declared.state.State.{State as RunState}
use Rattle.process_objects.specs.Process.{ProcessValue, process_of}
use Rattle.endpoint_objects.specs.declared.endpoint.Endpoint.{Endpoint as EndpointValue}
use Rattle.object_store.specs.Store.{CountsValue, counts_of, process_at, endpoint_at}
use Rattle.object_store.specs.Object.ObjectValue.{OfProcess, OfEndpoint}
use Rattle.schedules.specs.Queues.{sleepers_of, stands_in}
use Rattle.operations.specs.System.{System}
use Rattle.confinement.specs.declared.cut_side.CutSide.{CutSide}
use Rattle.confinement.specs.Cut.{Cut, side_of, IsClosed, HoldsFor}
use Rattle.confinement.specs.Acts.{others_in, Spares, KeepsApart, Told, Slept, Met, ProcessMoves, EndpointMoves, AllMet, Joins, Acts}
use Rattle.confinement.specs.Laws.{PlainLaw}
use Rattle.confinement.proofs.Sides.{same_side-false}
use Rattle.confinement.proofs.Own.{uncalled, own-sleep}

-- an endpoint by its parts
abbrev endpoint_with : Capability → ℕ → ℕ → Bool → EndpointValue
endpoint_with recipient id payload matching = record { recipient = recipient; id = id; payload = payload; matching = matching }

-- a list of others is all others
others-all : (cut : Cut) (side : CutSide) (ps : List ℕ) → ((x : ℕ) → stands_in ps x ≡ true → side_of cut Process x ≢ side) → others_in cut side ps ≡ ps
others-all cut side [] each = refl
others-all cut side (p ∷ ps) each =
    let here = same_side-false (side_of cut Process p) side (each p (or_left (p == p) (stands_in ps p) (eq-eqb p p refl))) in
    ap (λ (b : Bool). cond (not b) (p ∷ others_in cut side ps) (others_in cut side ps)) here
    ∙ ap (λ (xs : List ℕ). p ∷ xs) (others-all cut side ps (λ x there. each x (or_right (p == x) (stands_in ps x) there)))

module _ (cut : Cut) (side : CutSide) (w v : System) (closed : IsClosed cut) (holds : HoldsFor cut side w) (acts : Acts cut side w v) where
  untold : (q : ℕ) → Told cut side w q → ⊥
  untold q told = uncalled cut closed side told.through told.calls

  unslept : (q : ℕ) → Slept cut side w q → ⊥
  unslept q slept = slept.other (own-sleep cut closed q slept.on (holds.sleepers slept.on q slept.sleeps) ∙ slept.own)

  unmet : (q : ℕ) → Met cut side w q → ⊥
  unmet q (inl told) = untold q told
  unmet q (inr slept) = unslept q slept

  process-same : (p : ℕ) (x y : ProcessValue) → ProcessMoves cut side w p x y → x ≡ y
  process-same p x y moves = by
      (elim moves.regs [ inl same ↦ same | inr told ↦ absurd (untold p told) ])
      (elim moves.capregs [ inl same ↦ same | inr given ↦ absurd (untold p given.told) ])
      (elim moves.state [ inl same ↦ same | inr met ↦ absurd (unmet p met.1) ])
    where
      by : x.regs ≡ y.regs → x.capregs ≡ y.capregs → x.state ≡ y.state → x ≡ y
      by regs capregs state =
          ap (λ (n : ℕ). process_of n x.regs x.capregs x.slots x.state) moves.pc
          ∙ (ap (λ (rs : List ℕ). process_of y.pc rs x.capregs x.slots x.state) regs
          ∙ (ap (λ (cs : List Capability). process_of y.pc y.regs cs x.slots x.state) capregs
          ∙ (ap (λ (cs : List Capability). process_of y.pc y.regs y.capregs cs x.state) moves.slots
          ∙ ap (λ (state : RunState). process_of y.pc y.regs y.capregs y.slots state) state)))

  endpoint-same : (e : ℕ) (x y : EndpointValue) → EndpointMoves cut side w e x y → x ≡ y
  endpoint-same e x y moves = by (elim moves.payload [ inl same ↦ same | inr rung ↦ absurd (uncalled cut closed side e rung.calls) ])
    where
      by : x.payload ≡ y.payload → x ≡ y
      by payload =
          ap (λ (c : Capability). endpoint_with c x.id x.payload x.matching) moves.recipient
          ∙ (ap (λ (n : ℕ). endpoint_with y.recipient n x.payload x.matching) moves.id
          ∙ (ap (λ (n : ℕ). endpoint_with y.recipient y.id n x.matching) payload
          ∙ ap (λ (b : Bool). endpoint_with y.recipient y.id y.payload b) moves.matching))

  spares : Spares cut side w.store v.store
  spares Page n other = elim (acts.objects Page n other) [
    | inl same ↦ same
    | inr filled ↦ absurd (untold filled.taker filled.told)
  ]
  spares Process p other = ap₂ OfProcess (ap (λ (c : CountsValue). slice_index (counts_of c Process) p) acts.ages) (process-same p (process_at w.store p) (process_at v.store p) (acts.objects Process p other))
  spares Endpoint e other = ap₂ OfEndpoint (ap (λ (c : CountsValue). slice_index (counts_of c Endpoint) e) acts.ages) (endpoint-same e (endpoint_at w.store e) (endpoint_at v.store e) (acts.objects Endpoint e other))
  spares kind n other = acts.objects kind n other

  others-here : (u : System) → HoldsFor cut side u → (on : ℕ) → side_of cut Process on ≢ side → others_in cut side (sleepers_of u.queues on) ≡ sleepers_of u.queues on
  others-here u held on other =
      others-all cut side (sleepers_of u.queues on) (λ x there own. other (sym (own-sleep cut closed x on (held.sleepers on x there)) ∙ own))

  joins-same : (ps qs : List ℕ) → Joins cut side w ps qs → ps ≡ qs
  joins-same ps qs joins = by joins.joined joins.order joins.met
    where
      by : (joined : List ℕ) → ps ++ joined ≡ qs → AllMet cut side w joined → ps ≡ qs
      by [] order met = sym (append-nil ps) ∙ order
      by (p ∷ rest) order met = absurd (unmet p met.0)

  plain : KeepsApart cut side w v
  plain = record {
    holds = acts.holds;
    spares = spares;
    sleepers = λ on other. sym (others-here w holds on other) ∙ (acts.sleepers on other ∙ others-here v acts.holds on other);
    places = record { ready = λ k. joins-same _ _ (acts.ready k); harts = acts.harts; size = acts.size };
    sizes = acts.sizes;
    ages = acts.ages;
  }

-- the law of cuts over which nobody calls
pub plain_law : PlainLaw
plain_law cut side w v closed holds acts = plain cut side w v closed holds acts
