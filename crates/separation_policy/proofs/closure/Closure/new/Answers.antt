use Rattle.std.proofs.Common.{◌≡◌, ℕ, ◌++◌, List, length, take, drop, sym, subst, ◌∙◌, ap, arith}
use Rattle.std.proofs.Math.Seq.{take-append_seam}
use Rattle.separation_policy.specs.declared.domain_set.DomainSet.{DomainSet}
use Rattle.separation_policy.specs.Closure.{HaveWritten, IsClosure, all_passed, closure_of}
use Rattle.separation_policy.proofs.Closing.{all-closed, passed-length}
use Rattle.separation_policy.proofs.closure.Closure.new.Goals as goal

-- a list that is written back whole
written_back : (len : ℕ) (rows first : List DomainSet) → len ≡ length first → length rows ≡ length first → take len (rows ++ drop (length rows) first) ≡ rows
written_back len rows first size same =
    ap (λ (n : ℕ). take n (rows ++ drop (length rows) first)) (omega (arith, size, same)) ∙ take-append_seam rows (drop (length rows) first)

pub returns : goal.returns
returns c =
    let policy = c.args.policy.now in
    let count = c.len-count.result in
    let first = c.in_ok-reads.reads.items in
    let linked = c.in_ok-views.views.items in
    let written = c.in_ok-written.written.items in
    let read = c.in_ok-reads.ensures in
    let learn = c.in_ok-views.ensures in
    let read_size = read.size in
    let learn_size = learn.size in
    let number = c.len-count.ensures.value in
    let reads : c.pass_all.new.rows ≡ all_passed (length first) first =
    c.pass_all.ensures ∙ (ap (all_passed count) c.deref_mut.ensures.value ∙ ap (λ (n : ℕ). all_passed n first) (omega (arith, number, read_size))) in
    let views : c.pass_all-2.new.rows ≡ all_passed (length linked) linked =
    c.pass_all-2.ensures ∙ (ap (all_passed count) c.deref_mut-2.ensures.value ∙ ap (λ (n : ℕ). all_passed n linked) (omega (arith, number, learn_size))) in
    let reads_back : take c.in_ok-reads.reads.len (c.pass_all.new.rows ++ drop (length c.pass_all.new.rows) first) ≡ c.pass_all.new.rows =
    written_back c.in_ok-reads.reads.len c.pass_all.new.rows first (omega arith) (ap length reads ∙ passed-length (length first) first) in
    let views_back : take c.in_ok-views.views.len (c.pass_all-2.new.rows ++ drop (length c.pass_all-2.new.rows) linked) ≡ c.pass_all-2.new.rows =
    written_back c.in_ok-views.views.len c.pass_all-2.new.rows linked (omega arith) (ap length views ∙ passed-length (length linked) linked) in
    let have : HaveWritten policy (all_passed (length first) first) written =
    subst (λ (xs : List DomainSet). HaveWritten policy xs written) (c.deref.ensures.value ∙ (reads_back ∙ reads)) c.in_ok-written.ensures in
    let whole : IsClosure policy (closure_of (all_passed (length first) first) written c.pass_all-2.new.rows) =
    subst (λ (ys : List DomainSet). IsClosure policy (closure_of (all_passed (length first) first) written ys)) (sym views) (all-closed policy first linked written read learn have) in
    subst (λ (xs : List DomainSet). IsClosure policy (closure_of xs written (take c.in_ok-views.views.len (c.pass_all-2.new.rows ++ drop (length c.pass_all-2.new.rows) linked)))) (sym (reads_back ∙ reads))
    (subst (λ (ys : List DomainSet). IsClosure policy (closure_of (all_passed (length first) first) written ys)) (sym views_back) whole)
