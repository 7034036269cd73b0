use Rattle.std.proofs.Common.{◌∙◌, ◌++◌, [], ◌<◌, length, ap, arith}
use Rattle.std.proofs.Math.ListN.{drop_of_length-le}
use Rattle.std.proofs.lemmas.List.{get_or_read}
use Rattle.quiet_finding.specs.Watched.{WatchedValue}
use Rattle.questions.specs.Question.{PropertyValue, pages_in, processes_in, watched_of}
use Rattle.questions.proofs.Collecting.{both, collecting-all, collecting-more, collecting-none}
use Rattle.questions.proofs.watching.watched_in.Goals as goal

pub each-init : goal.each-init
each-init c = record {
  processes = collecting-none (watched_of processes_in) c.args.properties.now [] _ (ap (λ (v : WatchedValue). v.processes) c.new-all.ensures);
  pages = collecting-none (watched_of pages_in) c.args.properties.now [] _ (ap (λ (v : WatchedValue). v.pages) c.new-all.ensures);
}

pub each-preserved : goal.each-preserved
each-preserved c =
    let ps = c.args.properties.now in
    let x = c.index-properties-i.result in
    let within : c.each.i < length ps = omega arith in
    let at = get_or_read ps c.each.i x within c.index-properties-i.is x in
    record {
      processes =
          collecting-more (watched_of processes_in) ps [] c.each.all.processes c.watch_property.new.all.processes c.each.i x c.each.invariant.processes within
          (ap (λ (v : WatchedValue). v.processes) c.in_ok-watch_property.ensures
          ∙ ap (λ (p : PropertyValue). c.each.all.processes ++ watched_of processes_in p) at);
      pages =
          collecting-more (watched_of pages_in) ps [] c.each.all.pages c.watch_property.new.all.pages c.each.i x c.each.invariant.pages within
          (ap (λ (v : WatchedValue). v.pages) c.in_ok-watch_property.ensures
          ∙ ap (λ (p : PropertyValue). c.each.all.pages ++ watched_of pages_in p) at);
    }

pub returns : goal.returns
returns c =
    let ps = c.args.properties.now in
    let none = drop_of_length-le ps (omega arith) in
    both _ _
    (collecting-all (watched_of processes_in) ps [] c.each.all.processes c.each.i c.each.invariant.processes none)
    (collecting-all (watched_of pages_in) ps [] c.each.all.pages c.each.i c.each.invariant.pages none)
