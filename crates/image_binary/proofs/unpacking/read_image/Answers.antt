use Rattle.std.proofs.Common.{◌≡◌, ◌-◌, ◌+◌, ◌++◌, ◌∷◌, [], suc, length, sym, ap, subst, ◌∙◌, arith, Ok, length-append}
use Rattle.std.proofs.lemmas.Result.{err_from_is_err_and}
use Rattle.listing_read.specs.Statement.{ListingValue}
use Rattle.image_binary.specs.Image.{head_of}
use Rattle.image_binary.specs.Reader.{StepsTo, StopsAt}
use Rattle.image_binary.specs.Statements.{statement_of}
use Rattle.image_binary.specs.Unpacked.{Unpacks}
use Rattle.image_binary.specs.declared.fault.ImageFault.TheVariants.{OutOfMemory}
use Rattle.image_binary.proofs.Follows.{Follows, follows_start, follows_more, stops_start, stops_more, stop_unpacks, memory_unpacks, ended_unpacks, ending_memory, ending_unpacks, stands_behind, stops_memory}
use Rattle.image_binary.proofs.unpacking.read_image.Goals as goal

pub returns-in_err-head-clause-unpacks : goal.returns-in_err-head-clause-unpacks
returns-in_err-head-clause-unpacks g c =
    let old = g.S.Source.held c.args.input.now in
    let new = g.S.Source.held c.read_head.new.input in
    let fault = c.in_err-head.field-0.0 in
    let p = err_from_is_err_and c.from_residual.result c.from_residual.ensures.1 in
    rw (p.1, p.2) (stop_unpacks old new fault (stops_start old new fault (subst (λ r. StopsAt head_of r old new fault) c.new-reader.ensures c.in_err-head.ensures.steps)))

pub statements-init : goal.statements-init
statements-init g c =
    let old = g.S.Source.held c.args.input.now in
    let now = g.S.Source.held c.read_head.new.input in
    let reader = c.read_head.new.reader in
    let head = c.in_ok-head.head in
    let start = follows_start old now reader head (subst (λ r. StepsTo head_of r reader old now head) c.new-reader.ensures c.in_ok-head.ensures.steps) in
    let listed = ap (λ (l : ListingValue). l.statements) c.new-listing.ensures in
    let all : head.count ≡ head.count - 0 = omega arith in
    record {
      follows = subst (λ ss. Follows old now reader head.sizes ss (head.count - 0)) (sym listed) (subst (λ n. Follows old now reader head.sizes [] n) all start);
      sizes = ap (λ (l : ListingValue). l.sizes) c.new-listing.ensures;
      many = ap length listed;
      quiet = c.in_ok-head.ensures.quiet (λ same. cc);
    }

pub returns-in_err-statement-clause-unpacks : goal.returns-in_err-statement-clause-unpacks
returns-in_err-statement-clause-unpacks g c =
    let old = g.S.Source.held c.args.input.now in
    let mid = g.S.Source.held c.statements.input in
    let new = g.S.Source.held c.read_statement.new.input in
    let head = c.in_ok-head.head in
    let fault = c.in_err-statement.field-0.0 in
    let p = err_from_is_err_and c.from_residual-in_err-statement.result c.from_residual-in_err-statement.ensures.1 in
    let left : head.count - c.statements.counter ≡ suc (head.count - (c.statements.counter + 1)) = omega (arith, c.statements-test.true) in
    rw (p.1, p.2)
    (stop_unpacks old new fault
    (stops_more old mid new c.statements.reader head.sizes c.statements.listing.statements (head.count - c.statements.counter) (head.count - (c.statements.counter + 1)) left c.statements.invariant.follows fault c.in_err-statement.ensures.steps))

pub returns-in_err-push-clause-unpacks : goal.returns-in_err-push-clause-unpacks
returns-in_err-push-clause-unpacks g c =
    let old = g.S.Source.held c.args.input.now in
    let mid = g.S.Source.held c.statements.input in
    let now = g.S.Source.held c.read_statement.new.input in
    let head = c.in_ok-head.head in
    let s = c.in_ok-statement.statement in
    let p = err_from_is_err_and c.from_residual-in_err-push.result c.from_residual-in_err-push.ensures.1 in
    let left : head.count - c.statements.counter ≡ suc (head.count - (c.statements.counter + 1)) = omega (arith, c.statements-test.true) in
    let follows = follows_more old mid now c.statements.reader c.read_statement.new.reader head.sizes c.statements.listing.statements s (head.count - c.statements.counter) (head.count - (c.statements.counter + 1)) left c.statements.invariant.follows c.in_ok-statement.ensures.steps in
    rw (p.1, p.2) (memory_unpacks old now c.read_statement.new.reader head.sizes (c.statements.listing.statements ++ s ∷ []) (head.count - (c.statements.counter + 1)) follows)

pub statements-preserved : goal.statements-preserved
statements-preserved g c =
    let old = g.S.Source.held c.args.input.now in
    let mid = g.S.Source.held c.statements.input in
    let now = g.S.Source.held c.read_statement.new.input in
    let reader = c.read_statement.new.reader in
    let head = c.in_ok-head.head in
    let s = c.in_ok-statement.statement in
    let before = c.statements.invariant in
    let left : head.count - c.statements.counter ≡ suc (head.count - (c.statements.counter + 1)) = omega (arith, c.statements-test.true) in
    let follows = follows_more old mid now c.statements.reader reader head.sizes c.statements.listing.statements s (head.count - c.statements.counter) (head.count - (c.statements.counter + 1)) left before.follows c.in_ok-statement.ensures.steps in
    let listed : c.push.new.self.statements ≡ c.statements.listing.statements ++ s ∷ [] = ap (λ (l : ListingValue). l.statements) c.in_ok-push.ensures.ok in
    record {
      follows = subst (λ ss. Follows old now reader head.sizes ss (head.count - (c.statements.counter + 1))) (sym listed) follows;
      sizes = ap (λ (l : ListingValue). l.sizes) c.in_ok-push.ensures.ok ∙ before.sizes;
      many = (let len = ap length listed in omega (arith, length-append c.statements.listing.statements (s ∷ []), before.many));
      quiet = c.in_ok-statement.ensures.quiet (λ same. cc) ∙ before.quiet;
    }

pub returns-in_err-read_end-clause-unpacks : goal.returns-in_err-read_end-clause-unpacks
returns-in_err-read_end-clause-unpacks g c =
    let old = g.S.Source.held c.args.input.now in
    let mid = g.S.Source.held c.statements.input in
    let new = g.S.Source.held c.read_end.new.input in
    let head = c.in_ok-head.head in
    let p = err_from_is_err_and c.from_residual-in_err-read_end.result c.from_residual-in_err-read_end.ensures.1 in
    let done : head.count - c.statements.counter ≡ 0 = omega (arith, c.statements-test.false) in
    let follows = subst (λ n. Follows old mid c.statements.reader head.sizes c.statements.listing.statements n) done c.statements.invariant.follows in
    rw (p.1, p.2) (ending_unpacks old mid new c.statements.reader head.sizes c.statements.listing.statements follows c.in_err-read_end.field-0.0 c.in_err-read_end.ensures.ending)

pub returns-clause-unpacks : goal.returns-clause-unpacks
returns-clause-unpacks g c =
    let old = g.S.Source.held c.args.input.now in
    let mid = g.S.Source.held c.statements.input in
    let new = g.S.Source.held c.read_end.new.input in
    let head = c.in_ok-head.head in
    let ss = c.statements.listing.statements in
    let done : head.count - c.statements.counter ≡ 0 = omega (arith, c.statements-test.false) in
    let follows = subst (λ n. Follows old mid c.statements.reader head.sizes ss n) done c.statements.invariant.follows in
    subst (λ sizes. Unpacks (Ok (record { sizes = sizes; statements = ss })) old new) (sym c.statements.invariant.sizes)
    (ended_unpacks old mid new c.statements.reader head.sizes ss follows c.in_ok-read_end.ensures.ending)

-- ---- where memory is wanting

pub returns-in_err-head-clause-memory : goal.returns-in_err-head-clause-memory
returns-in_err-head-clause-memory g c =
    let fault = c.in_err-head.field-0.0 in
    let p = err_from_is_err_and c.from_residual.result c.from_residual.ensures.1 in
    rw (p.1, p.2) (λ same. absurd (stops_memory head_of _ _ _ fault c.in_err-head.ensures.steps (let is : fault ≡ OutOfMemory = cc in is)))

pub returns-in_err-statement-clause-memory : goal.returns-in_err-statement-clause-memory
returns-in_err-statement-clause-memory g c =
    let fault = c.in_err-statement.field-0.0 in
    let p = err_from_is_err_and c.from_residual-in_err-statement.result c.from_residual-in_err-statement.ensures.1 in
    rw (p.1, p.2) (λ same. absurd (stops_memory (statement_of c.in_ok-head.head.sizes) _ _ _ fault c.in_err-statement.ensures.steps (let is : fault ≡ OutOfMemory = cc in is)))

pub returns-in_err-push-clause-memory : goal.returns-in_err-push-clause-memory
returns-in_err-push-clause-memory g c = λ same.
    let old = g.S.Source.held c.args.input.now in
    let mid = g.S.Source.held c.statements.input in
    let now = g.S.Source.held c.read_statement.new.input in
    let head = c.in_ok-head.head in
    let s = c.in_ok-statement.statement in
    let left : head.count - c.statements.counter ≡ suc (head.count - (c.statements.counter + 1)) = omega (arith, c.statements-test.true) in
    let follows = follows_more old mid now c.statements.reader c.read_statement.new.reader head.sizes c.statements.listing.statements s (head.count - c.statements.counter) (head.count - (c.statements.counter + 1)) left c.statements.invariant.follows c.in_ok-statement.ensures.steps in
    stands_behind old now c.read_statement.new.reader head.sizes c.statements.listing.statements s (head.count - (c.statements.counter + 1)) follows

pub returns-in_err-read_end-clause-memory : goal.returns-in_err-read_end-clause-memory
returns-in_err-read_end-clause-memory g c =
    let fault = c.in_err-read_end.field-0.0 in
    let p = err_from_is_err_and c.from_residual-in_err-read_end.result c.from_residual-in_err-read_end.ensures.1 in
    rw (p.1, p.2) (λ same. absurd (ending_memory _ _ _ fault c.in_err-read_end.ensures.ending (let is : fault ≡ OutOfMemory = cc in is)))
