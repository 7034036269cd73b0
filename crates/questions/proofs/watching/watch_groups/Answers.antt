use Rattle.std.proofs.Common.{◌<◌, ◌∙◌, ◌++◌, List, length, ap, refl, arith}
use Rattle.std.proofs.Math.ListN.{drop_of_length-le}
use Rattle.std.proofs.lemmas.List.{get_or_read}
use Rattle.quiet_finding.specs.Watched.{WatchedValue}
use Rattle.questions.specs.declared.atom.Atom.{Atom}
use Rattle.questions.specs.Question.{pages_in, processes_in, watched_by}
use Rattle.questions.proofs.Collecting.{both, collecting-all, collecting-more}
use Rattle.questions.proofs.watching.watch_groups.Goals as goal

pub each-init : goal.each-init
each-init c = record { processes = refl; pages = refl }

pub each-preserved : goal.each-preserved
each-preserved c =
    let groups = c.args.groups.now in
    let x = c.index-groups-i.result in
    let within : c.each.i < length groups = omega arith in
    let at = get_or_read groups c.each.i x within c.index-groups-i.is x in
    record {
      processes =
          collecting-more (watched_by processes_in) groups c.args.all.now.processes c.each.all.processes c.watch_all.new.all.processes c.each.i x c.each.invariant.processes within
          (ap (λ (v : WatchedValue). v.processes) c.in_ok-watch_all.ensures
          ∙ ap (λ (atoms : List Atom). c.each.all.processes ++ watched_by processes_in atoms) (c.atoms.ensures ∙ at));
      pages =
          collecting-more (watched_by pages_in) groups c.args.all.now.pages c.each.all.pages c.watch_all.new.all.pages c.each.i x c.each.invariant.pages within
          (ap (λ (v : WatchedValue). v.pages) c.in_ok-watch_all.ensures
          ∙ ap (λ (atoms : List Atom). c.each.all.pages ++ watched_by pages_in atoms) (c.atoms.ensures ∙ at));
    }

pub returns : goal.returns
returns c =
    let groups = c.args.groups.now in
    let none = drop_of_length-le groups (omega arith) in
    both _ _
    (collecting-all (watched_by processes_in) groups c.args.all.now.processes c.each.all.processes c.each.i c.each.invariant.processes none)
    (collecting-all (watched_by pages_in) groups c.args.all.now.pages c.each.all.pages c.each.i c.each.invariant.pages none)
