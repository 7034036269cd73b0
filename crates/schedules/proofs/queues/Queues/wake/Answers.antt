use Rattle.std.proofs.Common.{rules, ◌≡◌, ◌<◌, ◌∙◌, ap, sym, subst, length, [], ◌∷◌, ◌+◌, drop, arith}
use Rattle.std.proofs.lemmas.List.{drop_more, drop_all}
use Rattle.schedules.proofs.Waking.{waking-there, waking-step, waking-end, agrees-end}
use Rattle.object_store.specs.Meaning.{state_map}
use Rattle.object_store.specs.Ahead.{NoneAhead}
use Rattle.object_store.specs.Object.{Stays}
use Rattle.schedules.specs.Queues.{QueuesValue, sleepers_of}
use Rattle.schedules.specs.Ready.{schedule_of, process_names}
use Rattle.schedules.proofs.Meant.{woken-means, woken_queues-mean, woken-stays, woken-behind, woken-harts}
use Rattle.schedules.proofs.queues.Queues.wake.Goals as goal

pub make_ready-requires-clause-there : goal.make_ready-requires-clause-there
make_ready-requires-clause-there c =
    let xs = c.take_sleepers-sleepers.result in
    let next : drop c.waking.i xs ≡ c.at-p.result ∷ drop (c.waking.i + 1) xs = rw c.at-p.ensures (drop_more xs c.waking.i 0 (search rules)) in
    (waking-there _ _ _ _ _ _ _ (rw next at c.waking.invariant)).0

pub make_ready-requires-clause-nowhere : goal.make_ready-requires-clause-nowhere
make_ready-requires-clause-nowhere c =
    let xs = c.take_sleepers-sleepers.result in
    let next : drop c.waking.i xs ≡ c.at-p.result ∷ drop (c.waking.i + 1) xs = rw c.at-p.ensures (drop_more xs c.waking.i 0 (search rules)) in
    (waking-there _ _ _ _ _ _ _ (rw next at c.waking.invariant)).1

pub waking-preserved : goal.waking-preserved
waking-preserved c =
    let xs = c.take_sleepers-sleepers.result in
    let next : drop c.waking.i xs ≡ c.at-p.result ∷ drop (c.waking.i + 1) xs = rw c.at-p.ensures (drop_more xs c.waking.i 0 (search rules)) in
    let there = (waking-there _ _ _ _ _ _ _ (rw next at c.waking.invariant)).0 in
    let within : c.at-p.result < length c.waking.objects.contents.processes = omega (arith, there, c.waking.invariant.sizes, c.in_ranges.ensures.sized.processes) in
    waking-step _ _ _ _ _ _ _ _ _ (rw next at c.waking.invariant) c.make_ready.ensures.objects c.make_ready.ensures.queues within c.make_ready.ensures.places

pub returns-clause-objects : goal.returns-clause-objects
returns-clause-objects c =
    let over : drop c.waking.i c.take_sleepers-sleepers.result ≡ [] = drop_all c.waking.i c.take_sleepers-sleepers.result (omega (arith, c.waking-test.false, c.len-i-end.ensures)) in
    (waking-end _ _ _ _ _ (rw over at c.waking.invariant)).0

pub returns-clause-queues : goal.returns-clause-queues
returns-clause-queues c =
    let over : drop c.waking.i c.take_sleepers-sleepers.result ≡ [] = drop_all c.waking.i c.take_sleepers-sleepers.result (omega (arith, c.waking-test.false, c.len-i-end.ensures)) in
    (waking-end _ _ _ _ _ (rw over at c.waking.invariant)).1

pub returns-clause-agrees : goal.returns-clause-agrees
returns-clause-agrees c =
    let over : drop c.waking.i c.take_sleepers-sleepers.result ≡ [] = drop_all c.waking.i c.take_sleepers-sleepers.result (omega (arith, c.waking-test.false, c.len-i-end.ensures)) in
    λ start. agrees-end _ (rw over at c.waking.invariant.agrees start)

pub returns-clause-means : goal.returns-clause-means
returns-clause-means c =
    let over : drop c.waking.i c.take_sleepers-sleepers.result ≡ [] = drop_all c.waking.i c.take_sleepers-sleepers.result (omega (arith, c.waking-test.false, c.len-i-end.ensures)) in
    ap state_map (waking-end _ _ _ _ _ (rw over at c.waking.invariant)).0 ∙ woken-means c.args.objects.now c.args.on c.args.self.now

pub returns-clause-queues_mean : goal.returns-clause-queues_mean
returns-clause-queues_mean c =
    let over : drop c.waking.i c.take_sleepers-sleepers.result ≡ [] = drop_all c.waking.i c.take_sleepers-sleepers.result (omega (arith, c.waking-test.false, c.len-i-end.ensures)) in
    (waking-end _ _ _ _ _ (rw over at c.waking.invariant)).1 ∙ woken_queues-mean c.args.objects.now c.args.on c.args.self.now

pub returns-clause-harts : goal.returns-clause-harts
returns-clause-harts c =
    let over : drop c.waking.i c.take_sleepers-sleepers.result ≡ [] = drop_all c.waking.i c.take_sleepers-sleepers.result (omega (arith, c.waking-test.false, c.len-i-end.ensures)) in
    ap (λ (q : QueuesValue). length q.harts) (waking-end _ _ _ _ _ (rw over at c.waking.invariant)).1
    ∙ ap length (woken-harts (schedule_of c.args.objects.now) c.args.objects.now c.args.on c.args.self.now)

pub returns-clause-stays : goal.returns-clause-stays
returns-clause-stays c =
    let over : drop c.waking.i c.take_sleepers-sleepers.result ≡ [] = drop_all c.waking.i c.take_sleepers-sleepers.result (omega (arith, c.waking-test.false, c.len-i-end.ensures)) in
    let end = (waking-end _ _ _ _ _ (rw over at c.waking.invariant)).0 in
    subst (Stays (process_names (sleepers_of c.args.self.now c.args.on)) c.args.objects.now) (sym end) (woken-stays c.args.objects.now c.args.on c.args.self.now)

pub returns-clause-behind : goal.returns-clause-behind
returns-clause-behind c = λ none.
    let over : drop c.waking.i c.take_sleepers-sleepers.result ≡ [] = drop_all c.waking.i c.take_sleepers-sleepers.result (omega (arith, c.waking-test.false, c.len-i-end.ensures)) in
    let end = (waking-end _ _ _ _ _ (rw over at c.waking.invariant)).0 in
    subst NoneAhead (sym end) (woken-behind c.args.objects.now c.args.on c.args.self.now none)
