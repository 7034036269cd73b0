-- Steps of walks that differ in the handler and in sizes of a region or more: they are the same but for these.
use Rattle.std.proofs.Common.{◌≡◌, ℕ, ◌+◌, ◌/◌, ◌%◌, ◌^◌, min, Bool, true, false, not, ◌&&◌, ◌||◌, nat_le, nat_lt, if◌then◌else◌, Option, Some, None, refl, sym, ap, ◌∙◌, arith}
use Rattle.cap_format.specs.Capability.{Capability}
use Rattle.cap_format.specs.Kind.{is_memory}
use Rattle.cap_format.specs.declared.fault.FaultCode.{FaultCode}
use Rattle.cap_format.specs.declared.fault.FaultCode.TheVariants.{AccessViolation, CapAccessTypeError, DataAccessTypeError, MalformedSpace}
use Rattle.cap_format.specs.declared.kind.CapKind.{CapKind}
use Rattle.cap_format.specs.declared.kind.CapKind.TheVariants.{Page, CapPage, Gpt, Window, LocalWindow}
use Rattle.cap_format.specs.declared.restr.Restr.{Restr}
use Rattle.gpt_objects.specs.Header.{HeaderValue}
use Rattle.guard_math.specs.Pass.{passes}
use Rattle.object_store.specs.Store.{Items, header_at}
use Rattle.walk_meaning.specs.declared.at.At.{At}
use Rattle.walk_meaning.specs.declared.kind.Kind.{Kind}
use Rattle.walk_meaning.specs.declared.place.Place.{Place}
use Rattle.walk_meaning.specs.declared.step.Step.{Step}
use Rattle.walk_meaning.specs.declared.step.Step.TheVariants.{Reach, Fault, Go}
use Rattle.walk_meaning.specs.Walk.{at_gpt, at_kind, at_local, at_slot, at_window, denied, handler_from, into_slot, invalid, is_data, is_reserved, past, reached_place, step, through_window}

-- a walk's state but for the handler, with no size above a region's
abbrev pub strip_at : At → At
strip_at w = record w { handler = None; l2 = min w.l2 22 }

abbrev pub strip : Step → Step
strip (Reach place) = Reach place
strip (Fault code handler) = Fault code None
strip (Go next g i) = Go (strip_at next) g i

-- another handler, and another size that counts as much
abbrev pub with_size : At → Option ℕ → ℕ → At
with_size w h l = record w { handler = h; l2 = l }

strip-if : (b : Bool) (s t : Step) → strip (if b then s else t) ≡ (if b then strip s else strip t)
strip-if true s t = refl
strip-if false s t = refl

-- a choice of steps, stripped
strip-choice : (b : Bool) (s t u v : Step) → strip s ≡ strip u → strip t ≡ strip v → strip (if b then s else t) ≡ strip (if b then u else v)
strip-choice true s t u v e f = e
strip-choice false s t u v e f = f

module _ (w : At) (h : Option ℕ) (l : ℕ) (same : min l 22 ≡ min w.l2 22) where
  slot_same : (header : HeaderValue) (g i : ℕ) (kind : Kind) → strip (at_slot header g i kind (with_size w h l)) ≡ strip (at_slot header g i kind w)
  slot_same header g i kind =
      strip-choice (nat_lt 15 i || is_reserved header i)
      (Fault (invalid kind) (handler_from header g (with_size w h l))) (Go (into_slot header g (with_size w h l)) g i)
      (Fault (invalid kind) (handler_from header g w)) (Go (into_slot header g w) g i)
      refl
      (ap (λ (n : ℕ). Go (record { holding = Some g; background = if header.bg then Some g else w.background; handler = None; restr = w.restr; address = w.address % 2 ^ header.l2v; l2 = n }) g i) sizes)
    where
      sizes : min (min l header.l2v) 22 ≡ min (min w.l2 header.l2v) 22
      sizes = omega (arith, same)

  window_same : (g : Option ℕ) (c : Capability) → strip (at_window g c (with_size w h l)) ≡ strip (at_window g c w)
  window_same None c = refl
  window_same (Some g) c =
      ap (λ (n : ℕ). Go (record { holding = Some g; background = w.background; handler = None; restr = w.restr; address = c.object + w.address; l2 = n }) g 14) same

  local_same : (o : Items) (g : Option ℕ) (c : Capability) → strip (at_local o g c (with_size w h l)) ≡ strip (at_local o g c w)
  local_same o None c = refl
  local_same o (Some g) c =
      strip-choice (is_reserved (header_at o g) c.slot)
      (Fault MalformedSpace h) (Go (through_window c g (with_size w h l)) g c.slot)
      (Fault MalformedSpace w.handler) (Go (through_window c g w) g c.slot)
      refl
      (ap (λ (n : ℕ). Go (record { holding = Some g; background = w.background; handler = None; restr = w.restr; address = c.object + w.address; l2 = n }) g c.slot) same)

  ends_same : (x y z : FaultCode) (place : Place) (a b d : Bool)
      → strip (if a then Fault x h else (if b then Fault y h else (if d then Fault z h else Reach place)))
      ≡ strip (if a then Fault x w.handler else (if b then Fault y w.handler else (if d then Fault z w.handler else Reach place)))
  ends_same x y z place true b d = refl
  ends_same x y z place false true d = refl
  ends_same x y z place false false true = refl
  ends_same x y z place false false false = refl

  pub kind_same : (o : Items) (kind : Kind) (k : CapKind) (c : Capability) → strip (at_kind o kind k c (with_size w h l)) ≡ strip (at_kind o kind k c w)
  kind_same o kind Page c = ends_same (invalid kind) CapAccessTypeError AccessViolation (reached_place c w) (nat_le 4096 w.address) (not (is_data kind)) (denied kind w.restr.0)
  kind_same o kind CapPage c = ends_same (invalid kind) DataAccessTypeError AccessViolation (reached_place c w) (nat_le 4096 w.address) (is_data kind) (denied kind w.restr.0)
  kind_same o kind Gpt c = slot_same (header_at o c.object) c.object (w.address / 2 ^ (header_at o c.object).l2v) kind
  kind_same o kind Window c = window_same w.background c
  kind_same o kind LocalWindow c = local_same o w.holding c
  kind_same o kind _ c = refl

-- a step does not look at the handler, nor at sizes above a region's
strip-step : (o : Items) (kind : Kind) (c : Capability) (w : At) → strip (step o kind c (strip_at w)) ≡ strip (step o kind c w)
strip-step o kind c w =
    strip-choice (is_memory c.kind && passes c.guard w.address)
    (at_kind o kind c.kind c (past c (strip_at w))) (Fault (invalid kind) None)
    (at_kind o kind c.kind c (past c w)) (Fault (invalid kind) w.handler)
    (kind_same (past c w) None (min (min w.l2 22) c.guard.l2g) (omega arith) o kind c.kind c)
    refl

-- so walks that differ in these alone take the same steps, but for these
pub step-stripped : (o : Items) (kind : Kind) (c : Capability) (w v : At) → strip_at w ≡ strip_at v → strip (step o kind c w) ≡ strip (step o kind c v)
step-stripped o kind c w v same = sym (strip-step o kind c w) ∙ (ap (λ (u : At). strip (step o kind c u)) same ∙ strip-step o kind c v)

-- ---- at a GPT

-- what a GPT makes of an address, restrictions, a background and a size
abbrev pub slot_form : HeaderValue → ℕ → Kind → ℕ → Restr → Option ℕ → ℕ → Step
slot_form header g kind address restr background l =
    if nat_lt 15 (address / 2 ^ header.l2v) || is_reserved header (address / 2 ^ header.l2v) then Fault (invalid kind) None
    else Go (record { holding = Some g; background = if header.bg then Some g else background; handler = None; restr = restr; address = address % 2 ^ header.l2v; l2 = min l header.l2v }) g (address / 2 ^ header.l2v)

pub gpt-stripped : (header : HeaderValue) (g : ℕ) (kind : Kind) (w : At) → strip (at_gpt header g kind w) ≡ slot_form header g kind w.address w.restr w.background (min w.l2 22)
gpt-stripped header g kind w =
    strip-if (nat_lt 15 (w.address / 2 ^ header.l2v) || is_reserved header (w.address / 2 ^ header.l2v))
    (Fault (invalid kind) (handler_from header g w)) (Go (into_slot header g w) g (w.address / 2 ^ header.l2v))
    ∙ ap (λ (n : ℕ). if nat_lt 15 (w.address / 2 ^ header.l2v) || is_reserved header (w.address / 2 ^ header.l2v) then Fault (invalid kind) None
    else Go (record { holding = Some g; background = if header.bg then Some g else w.background; handler = None; restr = w.restr; address = w.address % 2 ^ header.l2v; l2 = n }) g (w.address / 2 ^ header.l2v)) sizes
  where
    sizes : min (min w.l2 header.l2v) 22 ≡ min (min w.l2 22) header.l2v
    sizes = omega arith
