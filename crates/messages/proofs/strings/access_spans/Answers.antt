use Rattle.std.proofs.Common.{◌≡◌, ◌≢◌, ℕ, ◌+◌, ◌<◌, List, [], ◌∷◌, ◌++◌, length, drop, get_or, sym, ap, ◌∙◌, subst, arith, Some, Ok, Err}
use Rattle.std.specs.List.{All}
use Rattle.std.proofs.lemmas.List.{drop_more, drop_all, length_push}
use Rattle.std.proofs.lemmas.List.Elements.{All-push, All-get_or}
use Rattle.cap_format.specs.declared.kind.CapKind.TheVariants.{Page}
use Rattle.object_store.specs.Store.{Store, size_of}
use Rattle.object_store.specs.Meaning.{meaning}
use Rattle.schedules.specs.Queues.{QueuesValue, hart_of}
use Rattle.string_move.specs.declared.span.Span.{Span}
use Rattle.string_move.specs.Spans.{IsInOnePage}
use Rattle.string_move.specs.Move.{IsPiece, ArePieces}
use Rattle.machine_state.specs.State.{State, state_of}
use Rattle.machine_state.specs.Outcome.{spent_at, kept_at, spent, kept_after, spared_by}
use Rattle.machine_state.specs.Noted.{noted}
use Rattle.machine_state.specs.DataAccess.{data_access, data_touch}
use Rattle.machine_state.specs.Faulting.{fault_map}
use Rattle.messages.specs.Strings.{side, piece_of}
use Rattle.messages.proofs.Sides.{IsOnWay, on_way_more, on_way_fault, on_way_end}
use Rattle.messages.proofs.strings.access_spans.Goals as goal

pub each-preserved : goal.each-preserved
each-preserved g c =
    let t = g.T.Translator in
    let l = c.each in
    let a = c.access_for in
    let s = state_of c.args.machine.now in
    let list = c.as_slice-list.result.now in
    let none : Span = record { address = 0; size = 0 } in
    let span : Span = get_or list l.span-index none in
    let hit = c.in-Ok.hit in
    let w = g.O.Observer in
    let Elsewhere : ℕ → Type 0 = λ h. hart_of c.args.machine.now.queues h ≢ Some c.args.p in
    let k = t.kept l.machine.translator in
    let Rest : List Span → Type 0 = λ rest. IsOnWay t w.notes Elsewhere (side s c.args.q c.args.kind list) c.args.machine.now.translator (w.told c.args.observer.now) c.args.fetches.now (side s c.args.q c.args.kind rest) l.pieces l.machine.translator (w.told l.observer) l.fetches in
    let way = subst Rest (drop_more list l.span-index none c.each-test.true) l.invariant.way in
    let Reached : State → Type 0 = λ x. data_access x c.args.q span.address c.args.kind ≡ Ok hit in
    let reached = subst Reached l.invariant.state (sym c.in-Ok.ensures.means) in
    let Counted : State → Type 0 = λ x. a.new.fetches ≡ l.fetches + spent_at t.cost t.after t.without k (data_touch x c.args.q span.address c.args.kind) in
    let counted = subst Counted l.invariant.state a.ensures.counted in
    let Kept : State → Type 0 = λ x. t.kept a.new.self.translator ≡ kept_at t.cost t.after t.without k (data_touch x c.args.q span.address c.args.kind) in
    let kept = subst Kept l.invariant.state a.ensures.kept in
    let Spared : State → Type 0 = λ x. (h : ℕ) → Elsewhere h → t.cache a.new.self.translator h ≡ spared_by t.after t.without t.spared t.purged k (data_touch x c.args.q span.address c.args.kind ∷ []) (t.cache l.machine.translator h) in
    let spared = subst Spared l.invariant.state (λ h elsewhere. a.ensures.others h (subst (λ (q : QueuesValue). hart_of q h ≢ Some c.args.p) (sym l.invariant.queues) elsewhere)) in
    let objects = a.ensures.objects ∙ l.invariant.objects in
    let HasPage : Store → Type 0 = λ o. hit.page < size_of o.items Page in
    let InPages : List Span → Type 0 = λ spans. All IsInOnePage spans in
    let in_page = All-get_or IsInOnePage list l.span-index none c.each-test.true (subst InPages (sym c.as_slice-list.ensures.value) c.requires.in_pages) in
    let at = c.in-Ok.ensures.offset in
    let piece : IsPiece c.args.machine.now.objects.items (piece_of hit span.size) = record { page = subst HasPage objects c.in-Ok.ensures.page; inside = omega (arith, in_page, at) } in
    let more = on_way_more t w.notes Elsewhere (side s c.args.q c.args.kind list) c.args.machine.now.translator (w.told c.args.observer.now) c.args.fetches.now s c.args.q c.args.kind span (drop (l.span-index + 1) list) hit l.pieces l.machine.translator (w.told l.observer) l.fetches a.new.self.translator a.new.fetches way reached counted kept spared in
    record {
      way = rw (c.access.ensures.told, c.push.ensures) more;
      state = a.ensures.state ∙ l.invariant.state;
      objects = objects;
      queues = a.ensures.queues ∙ l.invariant.queues;
      there = rw c.push.ensures (All-push (IsPiece c.args.machine.now.objects.items) l.pieces (piece_of hit span.size) l.invariant.there piece);
      number = rw c.push.ensures (let one = length_push l.pieces (piece_of hit span.size) in let before = l.invariant.number in omega (arith, one, before));
      most = let one = c.access.ensures.most in let before = l.invariant.most in omega (arith, one, before);
    }

pub returns-in-Err : goal.returns-in-Err
returns-in-Err g c =
    let t = g.T.Translator in
    let l = c.each in
    let a = c.access_for in
    let s = state_of c.args.machine.now in
    let list = c.as_slice-list.result.now in
    let none : Span = record { address = 0; size = 0 } in
    let span : Span = get_or list l.span-index none in
    let why = fault_map (meaning a.new.self.objects.items) c.in-Err.why in
    let w = g.O.Observer in
    let Elsewhere : ℕ → Type 0 = λ h. hart_of c.args.machine.now.queues h ≢ Some c.args.p in
    let k = t.kept l.machine.translator in
    let Rest : List Span → Type 0 = λ rest. IsOnWay t w.notes Elsewhere (side s c.args.q c.args.kind list) c.args.machine.now.translator (w.told c.args.observer.now) c.args.fetches.now (side s c.args.q c.args.kind rest) l.pieces l.machine.translator (w.told l.observer) l.fetches in
    let way = subst Rest (drop_more list l.span-index none c.each-test.true) l.invariant.way in
    let Failed : State → Type 0 = λ x. data_access x c.args.q span.address c.args.kind ≡ Err why in
    let failed = subst Failed l.invariant.state (sym c.in-Err.ensures.means) in
    let Counted : State → Type 0 = λ x. a.new.fetches ≡ l.fetches + spent_at t.cost t.after t.without k (data_touch x c.args.q span.address c.args.kind) in
    let counted = subst Counted l.invariant.state a.ensures.counted in
    let Kept : State → Type 0 = λ x. t.kept a.new.self.translator ≡ kept_at t.cost t.after t.without k (data_touch x c.args.q span.address c.args.kind) in
    let kept = subst Kept l.invariant.state a.ensures.kept in
    let Spared : State → Type 0 = λ x. (h : ℕ) → Elsewhere h → t.cache a.new.self.translator h ≡ spared_by t.after t.without t.spared t.purged k (data_touch x c.args.q span.address c.args.kind ∷ []) (t.cache l.machine.translator h) in
    let spared = subst Spared l.invariant.state (λ h elsewhere. a.ensures.others h (subst (λ (q : QueuesValue). hart_of q h ≢ Some c.args.p) (sym l.invariant.queues) elsewhere)) in
    let objects = a.ensures.objects ∙ l.invariant.objects in
    let ended = on_way_fault t w.notes Elsewhere (side s c.args.q c.args.kind list) c.args.machine.now.translator (w.told c.args.observer.now) c.args.fetches.now s c.args.q c.args.kind span (drop (l.span-index + 1) list) why l.pieces l.machine.translator (w.told l.observer) l.fetches a.new.self.translator a.new.fetches way failed counted kept spared in
    let spans = c.as_slice-list.ensures.value in
    let There : Store → Type 0 = λ o. ArePieces o.items l.pieces in
    record {
      pieces = ended.0.pieces_are ∙ ap (λ (x : List Span). (side s c.args.q c.args.kind x).pieces) spans;
      fault = ended.1 ∙ ap (λ (x : List Span). (side s c.args.q c.args.kind x).fault) spans;
      there = subst There (sym objects) l.invariant.there;
      came = record {
        state = a.ensures.state ∙ l.invariant.state;
        records = ended.0.records_are ∙ ap (λ (x : List Span). w.told c.args.observer.now ++ noted w.notes (side s c.args.q c.args.kind x).records) spans;
        counted = ended.0.counted ∙ ap (λ (x : List Span). c.args.fetches.now + spent t.cost t.after t.without (t.kept c.args.machine.now.translator) (side s c.args.q c.args.kind x).touches) spans;
        keeps = ended.0.kept ∙ ap (λ (x : List Span). kept_after t.cost t.after t.without (t.kept c.args.machine.now.translator) (side s c.args.q c.args.kind x).touches) spans;
        others = λ h elsewhere. ended.0.others h elsewhere ∙ ap (λ (x : List Span). spared_by t.after t.without t.spared t.purged (t.kept c.args.machine.now.translator) (side s c.args.q c.args.kind x).touches (t.cache c.args.machine.now.translator h)) spans;
      };
      objects = objects;
      queues = a.ensures.queues ∙ l.invariant.queues;
      most = let number = ap (λ (x : List Span). length x) spans in let before = l.invariant.most in let test = c.each-test.true in omega (arith, number, before, test);
    }

pub returns : goal.returns
returns g c =
    let t = g.T.Translator in
    let l = c.each in
    let s = state_of c.args.machine.now in
    let list = c.as_slice-list.result.now in
    let w = g.O.Observer in
    let Elsewhere : ℕ → Type 0 = λ h. hart_of c.args.machine.now.queues h ≢ Some c.args.p in
    let k = t.kept l.machine.translator in
    let Rest : List Span → Type 0 = λ rest. IsOnWay t w.notes Elsewhere (side s c.args.q c.args.kind list) c.args.machine.now.translator (w.told c.args.observer.now) c.args.fetches.now (side s c.args.q c.args.kind rest) l.pieces l.machine.translator (w.told l.observer) l.fetches in
    let way = subst Rest (drop_all l.span-index list c.each-test.false) l.invariant.way in
    let ended = on_way_end t w.notes Elsewhere (side s c.args.q c.args.kind list) c.args.machine.now.translator (w.told c.args.observer.now) c.args.fetches.now s c.args.q c.args.kind l.pieces l.machine.translator (w.told l.observer) l.fetches way in
    let spans = c.as_slice-list.ensures.value in
    let There : Store → Type 0 = λ o. ArePieces o.items l.pieces in
    record {
      pieces = ended.0.pieces_are ∙ ap (λ (x : List Span). (side s c.args.q c.args.kind x).pieces) spans;
      fault = ended.1 ∙ ap (λ (x : List Span). (side s c.args.q c.args.kind x).fault) spans;
      there = subst There (sym l.invariant.objects) l.invariant.there;
      came = record {
        state = l.invariant.state;
        records = ended.0.records_are ∙ ap (λ (x : List Span). w.told c.args.observer.now ++ noted w.notes (side s c.args.q c.args.kind x).records) spans;
        counted = ended.0.counted ∙ ap (λ (x : List Span). c.args.fetches.now + spent t.cost t.after t.without (t.kept c.args.machine.now.translator) (side s c.args.q c.args.kind x).touches) spans;
        keeps = ended.0.kept ∙ ap (λ (x : List Span). kept_after t.cost t.after t.without (t.kept c.args.machine.now.translator) (side s c.args.q c.args.kind x).touches) spans;
        others = λ h elsewhere. ended.0.others h elsewhere ∙ ap (λ (x : List Span). spared_by t.after t.without t.spared t.purged (t.kept c.args.machine.now.translator) (side s c.args.q c.args.kind x).touches (t.cache c.args.machine.now.translator h)) spans;
      };
      objects = l.invariant.objects;
      queues = l.invariant.queues;
      most = let number = ap (λ (x : List Span). length x) spans in let before = l.invariant.most in let end = l.auto.span-index-end in omega (arith, number, before, end);
    }
