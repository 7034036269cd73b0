use Rattle.std.proofs.Common.{◌∙◌, arith}
use Rattle.std.proofs.lemmas.List.Elements.{All-push}
use Rattle.machine_state.specs.Past.{IsFor}
use Rattle.reverse_run.specs.Remembered.{MementoValue}
use Rattle.reverse_run.proofs.pasts.make_pasts.Goals as goal

pub each-preserved : goal.each-preserved
each-preserved c =
    let l = c.each in
    record {
      number = let one = c.push_reserved.ensures.len in let before = l.invariant.number in omega (arith, one, before);
      room = c.push_reserved.ensures.capacity ∙ l.invariant.room;
      sizes = rw c.push_reserved.ensures.items (All-push (λ (k : MementoValue). IsFor k.past c.args.sizes) l.pasts.items c.in_ok-make_memento.field-0 l.invariant.sizes c.in_ok-make_memento.ensures.sizes);
    }
