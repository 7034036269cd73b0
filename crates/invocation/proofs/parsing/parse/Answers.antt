use Rattle.std.proofs.Common.{◌≡◌, true, false, refl, sym, ◌∙◌}
use Rattle.invocation.specs.Invocation.{parsed, is_malformed, invocation_of}
use Rattle.invocation.proofs.parsing.parse.Goals as goal

pub returns-then-is_malformed : goal.returns-then-is_malformed
unfolding parsed
returns-then-is_malformed c =
    let is : is_malformed c.args.regs.now ≡ true = sym c.is_malformed.ensures ∙ c.if-is_malformed.true in
    rw is refl

pub returns : goal.returns
unfolding parsed invocation_of
returns c =
    let is : is_malformed c.args.regs.now ≡ false = sym c.is_malformed.ensures ∙ c.if-is_malformed.false in
    rw (is, c.invoked_register.ensures.value, c.sends.ensures, c.receives.ensures, c.is_nonblocking.ensures, c.sent.ensures.value, c.acceptance.ensures.value, c.sent_string-at.ensures.at, c.sent_string-at.ensures.length) refl
