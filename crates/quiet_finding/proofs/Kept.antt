-- The tables hold as long as no capability changes.
use Rattle.std.proofs.Common.{◌≡◌, Bool, ◌||◌, sym, ◌∙◌, ap₂}
use Rattle.cap_format.specs.declared.kind.CapKind.TheVariants.{Page, Gpt, Process}
use Rattle.cap_format.specs.Capability.{Capability}
use Rattle.object_store.specs.Store.{Store}
use Rattle.quiet_runs.specs.Reaching.{names}
use Rattle.quiet_runs.specs.Finding.{is_far_reaching, is_range, may_write, some_cap}
use Rattle.quiet_runs.specs.Laws.{HoldAlike}
use Rattle.quiet_finding.specs.Comers.{AreComers, ComersValue}
use Rattle.quiet_finding.specs.Writing.{AreWriting, WritingValue}
use Rattle.quiet_finding.specs.Reaching.{IsReaching, ReachingValue}

module _ (s t : Store) (alike : HoldAlike s t) where
  -- the same capabilities stand anywhere
  pub cap-same : (test : Capability → Bool) → some_cap test t ≡ some_cap test s
  cap-same test = ap₂ (λ (a b : Bool). a || b) (alike.held test) (alike.recipients test)

  comers-kept : (r : ComersValue) → AreComers s r → AreComers t r
  comers-kept r is = record {
    gpts = λ n. is.gpts n ∙ sym (alike.reached Gpt n);
    pages = λ n. is.pages n ∙ sym (alike.reached Page n);
    named = λ p. is.named p ∙ sym (alike.held (λ c. names c Process p));
    far = is.far ∙ sym (alike.held (λ c. is_far_reaching c.kind));
  }

  writing-kept : (w : WritingValue) → AreWriting s w → AreWriting t w
  writing-kept w is = record {
    pages = λ n. is.pages n ∙ sym (cap-same (may_write n));
    range = is.range ∙ sym (cap-same (λ c. is_range c.kind));
  }

-- they say the same of objects of which the same is held, to which the same come
pub reaching-kept : (s t : Store) (r : ReachingValue) → HoldAlike s t → IsReaching s r → IsReaching t r
reaching-kept s t r alike is = record {
  comers = comers-kept s t alike r.comers is.comers;
  writing = writing-kept s t alike r.writing is.writing;
}
