use Rattle.std.proofs.Common.{◌<◌, length, ap, refl, arith}
use Rattle.std.proofs.Math.ListN.{drop_of_length-le}
use Rattle.quiet_finding.specs.Watched.{WatchedValue}
use Rattle.questions.specs.Question.{pages_in, processes_in}
use Rattle.questions.proofs.Collecting.{both, collecting-all, collecting-more}
use Rattle.questions.proofs.watching.watch_all.Goals as goal

pub each-init : goal.each-init
each-init c = record { processes = refl; pages = refl }

pub each-preserved : goal.each-preserved
each-preserved c =
    let atoms = c.args.atoms.now in
    let x = c.index-atoms-i.result in
    let within : c.each.i < length atoms = omega arith in
    record {
      processes =
          collecting-more (λ atom. processes_in atom.condition) atoms c.args.all.now.processes c.each.all.processes c.watch.new.all.processes c.each.i x c.each.invariant.processes within
          (ap (λ (v : WatchedValue). v.processes) c.in_ok-watch.ensures);
      pages =
          collecting-more (λ atom. pages_in atom.condition) atoms c.args.all.now.pages c.each.all.pages c.watch.new.all.pages c.each.i x c.each.invariant.pages within
          (ap (λ (v : WatchedValue). v.pages) c.in_ok-watch.ensures);
    }

pub returns : goal.returns
returns c =
    let atoms = c.args.atoms.now in
    let none = drop_of_length-le atoms (omega arith) in
    both _ _
    (collecting-all (λ atom. processes_in atom.condition) atoms c.args.all.now.processes c.each.all.processes c.each.i c.each.invariant.processes none)
    (collecting-all (λ atom. pages_in atom.condition) atoms c.args.all.now.pages c.each.all.pages c.each.i c.each.invariant.pages none)
