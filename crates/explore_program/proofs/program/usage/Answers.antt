use Rattle.std.proofs.Common.{◌≡◌}
use Rattle.courses.proofs.Endings.{ends_text}
use Rattle.explore_program.specs.Program.{usage_text}
use Rattle.explore_program.proofs.program.usage.Goals as goal

pub returns : goal.returns
returns g c =
    let same : c.as_slice.result.now ≡ usage_text = c.as_slice.ensures in
    ends_text _ _ _ _ _ _ _ _ same c.end_with.ensures
