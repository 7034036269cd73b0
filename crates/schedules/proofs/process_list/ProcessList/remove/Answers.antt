use Rattle.std.proofs.Common.{rules, ap, ◌∙◌}
use Rattle.arrayvec.proofs.ArrayVecLemmas.{filter-from_retain}
use Rattle.schedules.specs.Queues.{without}
use Rattle.schedules.proofs.Removed.{others-left}
use Rattle.schedules.proofs.process_list.ProcessList.remove.Goals as goal

pub returns : goal.returns
returns c =
    filter-from_retain _ _ _ (λ x b f' y called. search rules) _ _ c.retain.ensures.filtered
    ∙ (others-left c.args.process c.self.inside.list.items ∙ ap (without c.args.process) c.self.view_is)
