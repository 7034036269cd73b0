use Rattle.std.proofs.Common.{◌≡◌, ◌<◌, length, refl, sym, ap, ◌∙◌, subst, arith}
use Rattle.std.proofs.lemmas.Option.{slice_get_read, get_or_from_slice_get}
use Rattle.reaches_back.specs.Edges.{AreEdges}
use Rattle.fair_rounds.specs.Loops.{AreLoopless}
use Rattle.fair_rounds.specs.Classes.{class_of, IsFalling, AreInner, Lacks}
use Rattle.fair_rounds.proofs.Falling.{row-within, lacking-loopless, loopless-none, loopless-more}
use Rattle.fair_rounds.proofs.classes.loopless.Goals as goal

pub are_falling-requires : goal.are_falling-requires
are_falling-requires c = subst (AreEdges c.args.width c.args.ends.now) (sym (ap length c.deref.ensures.value ∙ c.in_ok-classes.ensures)) c.requires.edges

pub inner_choices-requires : goal.inner_choices-requires
inner_choices-requires c = record {
  edges = subst (AreEdges c.args.width c.args.ends.now) (sym (ap length c.deref-2.ensures.value ∙ c.in_ok-classes.ensures)) c.requires.edges;
  falling = subst (IsFalling c.args.width c.args.ends.now) (c.deref.ensures.value ∙ sym c.deref-2.ensures.value) (c.are_falling.ensures.0 c.if-not-are_falling.false);
}

pub lacks-requires : goal.lacks-requires
lacks-requires c =
    let w = c.args.width in
    let e = c.args.ends.now in
    let classes = c.in_ok-classes.classes.items in
    let many : length classes ≡ c.args.nodes = c.in_ok-classes.ensures in
    let falling : IsFalling w e classes = subst (IsFalling w e) c.deref.ensures.value (c.are_falling.ensures.0 c.if-not-are_falling.false) in
    let inner : AreInner w e classes c.in_ok-inner.inner.items = subst (λ k. AreInner w e k c.in_ok-inner.inner.items) c.deref-2.ensures.value c.in_ok-inner.ensures in
    let at : c.loop-at.at < length classes = omega (arith, many, c.loop-at-test.true) in
    let read : class_of classes c.loop-at.at ≡ c.index.result.now =
    get_or_from_slice_get classes c.loop-at.at c.index.result.now 0 (slice_get_read classes (length classes) c.loop-at.at c.index.result.now refl at c.index.ensures) in
    let few : c.index.result.now < length classes = subst (λ k. k < length classes) read (falling.few c.loop-at.at at) in
    omega (arith, row-within (length classes) w c.index.result.now few, inner.many, ap length c.deref-in-loop-at.ensures.value)

pub returns-then-not-are_falling : goal.returns-then-not-are_falling
returns-then-not-are_falling c =
    subst (AreLoopless c.args.width c.args.ends.now c.args.nodes) (sym (c.in_ok-marks.ensures.items_if_clones_equal (λ y e. e))) (loopless-none c.args.width c.args.ends.now c.args.nodes)

pub loop-at-init : goal.loop-at-init
loop-at-init c =
    subst (AreLoopless c.args.width c.args.ends.now c.args.nodes) (sym (c.in_ok-marks.ensures.items_if_clones_equal (λ y e. e))) (loopless-none c.args.width c.args.ends.now c.args.nodes)

pub loop-at-preserved : goal.loop-at-preserved
loop-at-preserved c =
    let w = c.args.width in
    let e = c.args.ends.now in
    let l = c.loop-at in
    let classes = c.in_ok-classes.classes.items in
    let many : length classes ≡ c.args.nodes = c.in_ok-classes.ensures in
    let are : AreEdges w e (length classes) = subst (AreEdges w e) (sym many) c.requires.edges in
    let falling : IsFalling w e classes = subst (IsFalling w e) c.deref.ensures.value (c.are_falling.ensures.0 c.if-not-are_falling.false) in
    let inner : AreInner w e classes c.in_ok-inner.inner.items = subst (λ k. AreInner w e k c.in_ok-inner.inner.items) c.deref-2.ensures.value c.in_ok-inner.ensures in
    let at : l.at < length classes = omega (arith, many, c.loop-at-test.true) in
    let read : class_of classes l.at ≡ c.index.result.now =
    get_or_from_slice_get classes l.at c.index.result.now 0 (slice_get_read classes (length classes) l.at c.index.result.now refl at c.index.ensures) in
    loopless-more w e c.args.nodes l.marks.items l.invariant l.at c.loop-at-test.true c.lacks.result
    (λ h. lacking-loopless w e classes are falling c.in_ok-inner.inner.items inner l.at at
    (subst (Lacks w c.in_ok-inner.inner.items) (sym read) (subst (λ ms. Lacks w ms c.index.result.now) c.deref-in-loop-at.ensures.value (c.lacks.ensures.0 h))))

pub returns : goal.returns
returns c = c.loop-at.invariant
