use Rattle.std.proofs.Common.{ℕ, Bool, suc, if◌then◌else◌, refl, ◌≡◌, ◌-◌, ◌<◌, ◌∙◌, ap, arith}
use Rattle.cap_format.specs.Capability.{Capability, bare}
use Rattle.cap_format.specs.declared.kind.CapKind.TheVariants.{Gpt}
use Rattle.object_store.specs.Store.{Items, size_of}
use Rattle.object_store.specs.Meaning.{map_of}
use Rattle.object_store.proofs.Live.{live_gpt}
use Rattle.object_store.proofs.Ranged.{IsHeader-header_at}
use Rattle.walk_meaning.specs.declared.at.At.{At}
use Rattle.walk_meaning.specs.declared.kind.Kind.{Kind}
use Rattle.walk_meaning.specs.declared.step.Step.{Step}
use Rattle.walk_meaning.specs.declared.step.Step.TheVariants.{Fault}
use Rattle.walk_meaning.specs.Walk.{at_kind, invalid, past, step}
use Rattle.walk_meaning.specs.Trail.{slots_from}
use Rattle.walk_meaning.specs.After.{slots_after}
use Rattle.walk_meaning.proofs.Walked.{slots_from-suc}
use Rattle.walk_meaning.proofs.Ways.{step-map_of, step-passed}
use Rattle.walk_meaning.proofs.StepBounds.{goes_below}
use Rattle.walk_engine.proofs.met.step.Goals as goal

pub returns-clause-below : goal.returns-clause-below
returns-clause-below c =
    let o = c.args.objects.now.items in
    let value : step o c.args.kind c.args.cap c.args.at ≡ c.at_kind.result =
    step-passed o c.args.kind c.args.cap c.args.at c.in-Some.ensures.passed ∙ cc (c.in-Some.ensures.some, c.at_kind.ensures) in
    goes_below (size_of o Gpt) o (IsHeader-header_at o c.in_ranges.ensures.ranged) c.args.cap c.in-Some.ensures.range
    (λ k. live_gpt o c.args.cap k c.requires.live) c.args.at c.requires.at c.args.kind c.at_kind.result value

-- the slots from a capability on, by its step
slots_from-step : (o : Items) (kind : Kind) (c : Capability) (w : At) (s : Step) → step o kind c w ≡ s
    → (n : ℕ) → 0 < n → slots_from (map_of o) kind n (bare c) w ≡ slots_after (map_of o) kind (n - 1) s
slots_from-step o kind c w s e n some =
    let more : n ≡ suc (n - 1) = omega arith in
    ap (λ (n : ℕ). slots_from (map_of o) kind n (bare c) w) more
    ∙ (slots_from-suc (map_of o) kind (n - 1) (bare c) w
    ∙ ap (slots_after (map_of o) kind (n - 1)) (step-map_of o kind c w ∙ e))

pub returns-clause-slots : goal.returns-clause-slots
returns-clause-slots c =
    let o = c.args.objects.now.items in
    let value : step o c.args.kind c.args.cap c.args.at ≡ c.at_kind.result =
    step-passed o c.args.kind c.args.cap c.args.at c.in-Some.ensures.passed ∙ cc (c.in-Some.ensures.some, c.at_kind.ensures) in
    slots_from-step o c.args.kind c.args.cap c.args.at c.at_kind.result value

pub returns-in_default-clause-slots : goal.returns-in_default-clause-slots
returns-in_default-clause-slots c =
    let o = c.args.objects.now.items in
    let w = c.args.at in
    let behind : Step = at_kind o c.args.kind c.args.cap.kind c.args.cap (past c.args.cap w) in
    let value : step o c.args.kind c.args.cap w ≡ Fault (invalid c.args.kind) w.handler =
    ap (λ (b : Bool). if b then behind else Fault (invalid c.args.kind) w.handler) (c.in_default.ensures.none refl) in
    slots_from-step o c.args.kind c.args.cap w (Fault (invalid c.args.kind) w.handler) value
