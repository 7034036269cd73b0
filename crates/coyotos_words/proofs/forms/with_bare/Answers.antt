use Rattle.std.proofs.Common.{◌∙◌, ap, ap₂}
use Rattle.clap.specs.Simple.{App, Shape, with_subcommand}
use Rattle.coyotos_words.proofs.Tables.{more_bare}
use Rattle.coyotos_words.proofs.forms.with_bare.Goals as goal

pub loop-entry-preserved : goal.loop-entry-preserved
loop-entry-preserved c =
    c.in_ok-top.ensures
    ∙ ap₂ (λ (app : App) (form : Shape). with_subcommand app form) c.loop-entry.invariant (ap (λ (app : App). app.top) c.new.ensures.app)
    ∙ more_bare (λ e. e.0.now) _ c.args.table.now c.loop-entry.entry-index _ c.loop-entry-test.true
