-- The window rules of a walk are what windows come to.
use Rattle.std.specs.Prelude.{◌≡◌, ℕ, Bool, true, false, not, ◌&&◌, ◌||◌, ◌==◌, if◌then◌else◌, Option, Some, None, refl}
use Rattle.std.proofs.Common.{sym, ◌∙◌, ap}
use Rattle.std.proofs.lemmas.Bool.{eqb-true}
use Rattle.cap_format.specs.Capability.{Capability}
use Rattle.cap_format.specs.Kind.{is_window}
use Rattle.cap_format.specs.declared.fault.FaultCode.TheVariants.{MalformedSpace}
use Rattle.cap_format.specs.declared.kind.CapKind.{CapKind}
use Rattle.cap_format.specs.declared.kind.CapKind.TheVariants.{Window, LocalWindow}
use Rattle.gpt_objects.specs.Header.{HeaderValue}
use Rattle.object_store.specs.Store.{Items, header_at}
use Rattle.walk_meaning.specs.declared.at.At.{At}
use Rattle.walk_meaning.specs.declared.kind.Kind.{Kind}
use Rattle.walk_meaning.specs.declared.step.Step.TheVariants.{Fault, Go}
use Rattle.walk_meaning.specs.Walk.{at_kind, at_window, at_local, is_reserved, through_window}
use Rattle.windows.specs.Resolve.{looks_through, resolution, through_background, through_holding, next}
use Rattle.walk_engine.specs.Windows.{held, context_of, step_through, WindowLaw}

by_flags : (a b ha bg : Bool) → (a ≡ true → b ≡ false) → (if a then not ha else (if b then not bg else true)) ≡ not ((a && ha) || (b && bg))
by_flags true true ha bg apart = absurd (cc (apart refl))
by_flags true false true bg apart = refl
by_flags true false false bg apart = refl
by_flags false true ha true apart = refl
by_flags false true ha false apart = refl
by_flags false false ha bg apart = refl

-- the slots of a GPT that a local window looks through are those that its flags don't reserve
looks_through-reserved : (h : HeaderValue) (i : ℕ) → looks_through h i ≡ not (is_reserved h i)
looks_through-reserved h i = by_flags (i == 15) (i == 14) h.ha h.bg (λ e. ap (λ (n : ℕ). n == 14) (eqb-true i 15 e))

module _ (o : Items) (c : Capability) (w : At) where
  by_background : (g : Option ℕ) → at_window g c w ≡ step_through w (through_background g c w.address)
  by_background None = refl
  by_background (Some g) = refl

  unless_reserved : (b : Bool) (g : ℕ) → (if b then Fault MalformedSpace w.handler else Go (through_window c g w) g c.slot) ≡ step_through w (if not b then Some (next g c.slot c w.address) else None)
  unless_reserved true g = refl
  unless_reserved false g = refl

  by_holding : (g : Option ℕ) → at_local o g c w ≡ step_through w (through_holding (held o g) c w.address)
  by_holding None = refl
  by_holding (Some g) =
      unless_reserved (is_reserved (header_at o g) c.slot) g
      ∙ ap (λ (b : Bool). step_through w (if b then Some (next g c.slot c w.address) else None)) (sym (looks_through-reserved (header_at o g) c.slot))

  by_kind : (kind : Kind) (k : CapKind) → is_window k ≡ true → at_kind o kind k c w ≡ step_through w (resolution k c w.address (context_of o w))
  by_kind kind Window e = by_background w.background
  by_kind kind LocalWindow e = by_holding w.holding
  by_kind kind _ e = absurd (cc (e))

-- the two window rules of a walk are what windows come to
pub window_law : WindowLaw
window_law o kind c w e = by_kind o c w kind c.kind e
