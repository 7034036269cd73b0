use Rattle.std.proofs.Common.{rules, Ok, Err, refl, ◌≡◌, ◌∷◌, ◌++◌, [], length, ap, ◌∙◌, arith, length-append}
use Rattle.listing_read.specs.declared.place.Said.TheVariants.{Nothing, Opens, Calls, Says, Ends}
use Rattle.listing_read.specs.Reads.{IsStopped}
use Rattle.listing_read.proofs.Follows.{says, follows_start, gives_before, gives_front, follows_nothing, follows_opens, follows_calls, follows_says, listed_end, gives_end, cause_judged, holds_opens, holds_calls, holds_says}
use Rattle.listing_read.proofs.listing.read_listing.Goals as goal

pub lines-init : goal.lines-init
lines-init g c = record {
  going = c.requires;
  quiet = refl;
  told = λ told. told;
  follows = rw c.new-statements.ensures.items (follows_start c.args.lines.now (g.S.Source.held c.args.source.now));
  holds = c.new-statements.ensures.items;
  few = rw c.new-statements.ensures.items (omega arith);
}

pub lines-preserved-in-Ok-Nothing : goal.lines-preserved-in-Ok-Nothing
lines-preserved-in-Ok-Nothing g c =
    let e = rw c.in-Ok-Nothing.field-0-is at c.in-Ok-Nothing.ensures in
    let said = says c.lines.place c.line.result.now c.next_line.new.lines.line (Ok Nothing) c.line.ensures.value e.value in
    let before = c.lines.invariant in
    let next = c.in_ok-number.ensures in
    record {
      going = search rules;
      quiet = search rules;
      told = λ told. next.told (before.told told);
      follows = follows_nothing _ c.lines.lines c.next_line.new.lines _ _ _ c.lines.statements.items c.lines.place before.follows next.reads said;
      holds = before.holds;
      few = omega (arith, before.few, next.reads.counted);
    }

pub lines-preserved-in-Ok-Opens : goal.lines-preserved-in-Ok-Opens
lines-preserved-in-Ok-Opens g c =
    let e = rw c.in-Ok-Opens.field-0-is at c.in-Ok-Opens.ensures in
    let said = says c.lines.place c.line.result.now c.next_line.new.lines.line (Ok (Opens c.in-Ok-Opens.next)) c.line.ensures.value e.value in
    let before = c.lines.invariant in
    let next = c.in_ok-number.ensures in
    record {
      going = search rules;
      quiet = search rules;
      told = λ told. next.told (before.told told);
      follows = follows_opens _ c.lines.lines c.next_line.new.lines _ _ _ c.lines.statements.items c.lines.place c.in-Ok-Opens.next before.follows next.reads said;
      holds = holds_opens _ _ _ e.range before.holds;
      few = omega (arith, before.few, next.reads.counted);
    }

pub lines-preserved-in-Continue-branch-2 : goal.lines-preserved-in-Continue-branch-2
lines-preserved-in-Continue-branch-2 g c =
    let e = rw c.in-Ok-Calls.field-0-is at c.in-Ok-Calls.ensures in
    let said = says c.lines.place c.line.result.now c.next_line.new.lines.line (Ok (Calls c.in-Ok-Calls.naming)) c.line.ensures.value e.value in
    let before = c.lines.invariant in
    let next = c.in_ok-number.ensures in
    record {
      going = search rules;
      quiet = search rules;
      told = λ told. next.told (before.told told);
      follows = rw c.in_ok-call-in-Ok-Calls.ensures (follows_calls _ c.lines.lines c.next_line.new.lines _ _ _ c.lines.statements.items c.lines.place c.in-Ok-Calls.naming before.follows next.reads said);
      holds = rw c.in_ok-call-in-Ok-Calls.ensures (holds_calls _ _ _ before.holds);
      few = omega (arith, before.few, next.reads.counted);
    }

pub lines-preserved : goal.lines-preserved
lines-preserved g c =
    let e = rw c.in-Ok-Says.field-0-is at c.in-Ok-Says.ensures in
    let said = says c.lines.place c.line.result.now c.next_line.new.lines.line (Ok (Says c.in-Ok-Says.statement)) c.line.ensures.value e.value in
    let before = c.lines.invariant in
    let next = c.in_ok-number.ensures in
    let items : c.push.new.self.items ≡ c.lines.statements.items ++ c.in-Ok-Says.statement ∷ [] = c.in_ok-push-in-Ok-Says.ensures.items in
    let length_items = ap length items ∙ length-append c.lines.statements.items (c.in-Ok-Says.statement ∷ []) in
    record {
      going = search rules;
      quiet = search rules;
      told = λ told. next.told (before.told told);
      follows = rw items (follows_says _ c.lines.lines c.next_line.new.lines _ _ _ c.lines.statements.items c.lines.place c.in-Ok-Says.statement before.follows next.reads said);
      holds = rw items (holds_says _ _ _ e.range c.statement_is_typed.ensures before.holds);
      few = omega (arith, before.few, next.reads.counted, length_items);
    }

pub returns-in-Ok-Ends-clause-listed : goal.returns-in-Ok-Ends-clause-listed
returns-in-Ok-Ends-clause-listed g c =
    let e = rw c.in-Ok-Ends.field-0-is at c.in-Ok-Ends.ensures in
    let said = says c.lines.place c.line.result.now c.next_line.new.lines.line (Ok (Ends c.in-Ok-Ends.sizes)) c.line.ensures.value e.value in
    let next = c.in_ok-number.ensures in
    listed_end _ c.lines.lines c.next_line.new.lines _ _ _ c.lines.statements.items c.lines.place c.in-Ok-Ends.sizes c.lines.invariant.follows next.reads said

pub returns-in-Ok-Ends-clause-given : goal.returns-in-Ok-Ends-clause-given
returns-in-Ok-Ends-clause-given g c =
    let e = rw c.in-Ok-Ends.field-0-is at c.in-Ok-Ends.ensures in
    let said = says c.lines.place c.line.result.now c.next_line.new.lines.line (Ok (Ends c.in-Ok-Ends.sizes)) c.line.ensures.value e.value in
    let next = c.in_ok-number.ensures in
    gives_end _ c.lines.lines c.next_line.new.lines _ _ _ c.lines.statements.items c.lines.place c.in-Ok-Ends.sizes c.lines.invariant.follows next.reads said

pub returns-in-Ok-Ends-clause-last : goal.returns-in-Ok-Ends-clause-last
returns-in-Ok-Ends-clause-last g c =
    let next = c.in_ok-number.ensures in
    gives_before _ c.lines.lines c.next_line.new.lines _ _ _ c.lines.statements.items c.lines.place c.lines.invariant.follows next.reads

-- memory was wanting for a name or a statement of the listing
pub returns-in_err-call-in-Ok-Calls-clause-memory : goal.returns-in_err-call-in-Ok-Calls-clause-memory
returns-in_err-call-in-Ok-Calls-clause-memory g c = λ same.
    let next = c.in_ok-number.ensures in
    gives_before _ c.lines.lines c.next_line.new.lines _ _ _ c.lines.statements.items c.lines.place c.lines.invariant.follows next.reads

pub returns-in_err-push-in-Ok-Says-clause-memory : goal.returns-in_err-push-in-Ok-Says-clause-memory
returns-in_err-push-in-Ok-Says-clause-memory g c = λ same.
    let next = c.in_ok-number.ensures in
    gives_before _ c.lines.lines c.next_line.new.lines _ _ _ c.lines.statements.items c.lines.place c.lines.invariant.follows next.reads

pub returns-in-Err-clause-fault : goal.returns-in-Err-clause-fault
returns-in-Err-clause-fault g c =
    let said = says c.lines.place c.line.result.now c.next_line.new.lines.line (Err c.in-Err.fault) c.line.ensures.value c.in-Err.ensures.value in
    let next = c.in_ok-number.ensures in
    rw (c.refused.ensures, next.number)
    (cause_judged _ c.lines.lines c.next_line.new.lines _ _ _ c.lines.statements.items c.lines.place c.in-Err.fault c.lines.invariant.follows next.reads said)

pub returns-in_err-number-clause-front : goal.returns-in_err-number-clause-front
returns-in_err-number-clause-front g c fault =
    let stopped : IsStopped c.lines.lines c.next_line.new.lines (g.S.Source.held c.lines.source) (g.S.Source.held c.next_line.new.source) = c.in_err-number.ensures.stopped (search rules) in
    gives_front _ c.lines.lines c.next_line.new.lines _ _ _ c.lines.statements.items c.lines.place c.lines.invariant.follows stopped
