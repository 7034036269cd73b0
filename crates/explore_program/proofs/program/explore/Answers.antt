use Rattle.std.proofs.Common.{◌≡◌, ◌∙◌, Some, None, map, string_bytes, ap, arith, refl, sym}
use Rattle.courses.proofs.Bytes.{known-output}
use Rattle.courses.proofs.Lasts.{ends-own}
use Rattle.courses.specs.Course.{cached}
use Rattle.courses.specs.declared.exit.Exit.TheVariants.{Done, OutOfMemory, Usage, Violated}
use Rattle.explore_program.specs.Program.{asked_by, usage_text}
use Rattle.explore_program.specs.declared.words.Wanted.TheVariants.{Help, Explore}
use Rattle.explore_program.proofs.Called.{form-explore, judges-call, judges-none, reads-call, tells-call, tells-usage, tells-whole}
use Rattle.explore_program.proofs.program.explore.Goals as goal

-- ---- the machine is explored

pub returns-in-Some-Explore-clause-answers : goal.returns-in-Some-Explore-clause-answers
returns-in-Some-Explore-clause-answers g c =
    let asked : asked_by (map string_bytes c.args.words.now) ≡ Some Explore = sym c.read_words.ensures ∙ c.in-Some-Explore.is ∙ ap Some c.in-Some-Explore.field-0-is in
    tells-call g.S.Source.held g.S.Source.faults g.K.Sink.taken g.K.Sink.faults (map string_bytes c.args.words.now) _ _ _ _ c.explore_input.result asked c.explore_input.ensures.tells

pub returns-in-Some-Explore-clause-complete : goal.returns-in-Some-Explore-clause-complete
returns-in-Some-Explore-clause-complete g c = λ read write.
    tells-whole g.S.Source.held g.S.Source.faults g.K.Sink.taken g.K.Sink.faults (map string_bytes c.args.words.now) _ _ _ _ c.explore_input.result
    (returns-in-Some-Explore-clause-answers g c) read write

pub returns-in-Some-Explore-clause-judges : goal.returns-in-Some-Explore-clause-judges
returns-in-Some-Explore-clause-judges g c =
    let t = c.explore_input.ensures.tells in
    judges-call (map string_bytes c.args.words.now) _ _ _ c.explore_input.result t.told t.answers (known-output _ _ _ 0 0 _ cached _ t.so.comes)

pub returns-in-Some-Explore-clause-reads : goal.returns-in-Some-Explore-clause-reads
returns-in-Some-Explore-clause-reads g c = λ told.
    let asked : asked_by (map string_bytes c.args.words.now) ≡ Some Explore = sym c.read_words.ensures ∙ c.in-Some-Explore.is ∙ ap Some c.in-Some-Explore.field-0-is in
    reads-call g.S.Source.held told (map string_bytes c.args.words.now) _ _ c.explore_input.result asked c.explore_input.ensures.tells.so.end

pub returns-in-Some-Explore-clause-form : goal.returns-in-Some-Explore-clause-form
returns-in-Some-Explore-clause-form g c = λ told.
    form-explore told (map string_bytes c.args.words.now) (sym c.read_words.ensures ∙ c.in-Some-Explore.is ∙ ap Some c.in-Some-Explore.field-0-is) c.explore_input.result c.explore_input.ensures.tells.so.usage

pub returns-in-Some-Explore-clause-causes : goal.returns-in-Some-Explore-clause-causes
returns-in-Some-Explore-clause-causes g c = c.explore_input.ensures.tells.so.causes

pub returns-in-Some-Explore-clause-unwritten : goal.returns-in-Some-Explore-clause-unwritten
returns-in-Some-Explore-clause-unwritten g c = c.explore_input.ensures.tells.so.unwritten

pub returns-in-Some-Explore-clause-wanting : goal.returns-in-Some-Explore-clause-wanting
returns-in-Some-Explore-clause-wanting g c = c.explore_input.ensures.wanting

-- ---- it is not

pub returns-in-Some-Help-clause-answers : goal.returns-in-Some-Help-clause-answers
returns-in-Some-Help-clause-answers g c =
    let asked : asked_by (map string_bytes c.args.words.now) ≡ Some Help = sym c.read_words.ensures ∙ c.in-Some-Help.is ∙ ap Some c.in-Some-Help.field-0-is in
    tells-usage g.S.Source.held g.S.Source.faults g.K.Sink.taken g.K.Sink.faults (map string_bytes c.args.words.now) _ _ _ _ c.usage.result
    (Some Help) (record { text = usage_text; exit = Done }) asked (λ bad. cc) (λ bad. cc) (λ told bytes. refl) (λ told. refl) refl c.usage.ensures

pub returns-in-Some-Help-clause-complete : goal.returns-in-Some-Help-clause-complete
returns-in-Some-Help-clause-complete g c = λ read write.
    tells-whole g.S.Source.held g.S.Source.faults g.K.Sink.taken g.K.Sink.faults (map string_bytes c.args.words.now) _ _ _ _ c.usage.result
    (returns-in-Some-Help-clause-answers g c) read write

pub returns-in-Some-Help-clause-judges : goal.returns-in-Some-Help-clause-judges
returns-in-Some-Help-clause-judges g c =
    judges-none (map string_bytes c.args.words.now) _ c.usage.result (λ violated. let own = ends-own _ _ _ _ _ _ c.usage.ensures Violated (λ cut. cc) violated in cc)
    (λ asked. let bad : Some Help ≡ Some Explore = sym (c.in-Some-Help.is ∙ ap Some c.in-Some-Help.field-0-is) ∙ c.read_words.ensures ∙ asked in cc)

pub returns-in-Some-Help-clause-wanting : goal.returns-in-Some-Help-clause-wanting
returns-in-Some-Help-clause-wanting g c = λ lacks. let own = ends-own _ _ _ _ _ _ c.usage.ensures OutOfMemory (λ cut. cc) lacks in cc

pub returns-in-None-clause-answers : goal.returns-in-None-clause-answers
returns-in-None-clause-answers g c =
    let asked : asked_by (map string_bytes c.args.words.now) ≡ None = sym c.read_words.ensures ∙ c.in-None.is in
    tells-usage g.S.Source.held g.S.Source.faults g.K.Sink.taken g.K.Sink.faults (map string_bytes c.args.words.now) _ _ _ _ c.usage-in-None.result
    None (record { text = usage_text; exit = Usage }) asked (λ bad. cc) (λ bad. cc) (λ told bytes. refl) (λ told. refl) refl c.usage-in-None.ensures

pub returns-in-None-clause-complete : goal.returns-in-None-clause-complete
returns-in-None-clause-complete g c = λ read write.
    tells-whole g.S.Source.held g.S.Source.faults g.K.Sink.taken g.K.Sink.faults (map string_bytes c.args.words.now) _ _ _ _ c.usage-in-None.result
    (returns-in-None-clause-answers g c) read write

pub returns-in-None-clause-judges : goal.returns-in-None-clause-judges
returns-in-None-clause-judges g c =
    judges-none (map string_bytes c.args.words.now) _ c.usage-in-None.result (λ violated. let own = ends-own _ _ _ _ _ _ c.usage-in-None.ensures Violated (λ cut. cc) violated in cc)
    (λ asked. let bad : None ≡ Some Explore = sym c.in-None.is ∙ c.read_words.ensures ∙ asked in cc)

pub returns-in-None-clause-wanting : goal.returns-in-None-clause-wanting
returns-in-None-clause-wanting g c = λ lacks. let own = ends-own _ _ _ _ _ _ c.usage-in-None.ensures OutOfMemory (λ cut. cc) lacks in cc

-- ---- how many slots are read

pub returns-in-Some-Explore-clause-fetched : goal.returns-in-Some-Explore-clause-fetched
returns-in-Some-Explore-clause-fetched g c =
    let asked : asked_by (map string_bytes c.args.words.now) ≡ Some Explore = sym c.read_words.ensures ∙ c.in-Some-Explore.is ∙ ap Some c.in-Some-Explore.field-0-is in
    record { grows = c.explore_input.ensures.least; explored = λ again. c.explore_input.ensures.fetched; unread = λ other. absurd (other asked) }

pub returns-in-Some-Help-clause-fetched : goal.returns-in-Some-Help-clause-fetched
returns-in-Some-Help-clause-fetched g c = record {
  grows = omega arith;
  explored = λ asked. let bad : Some Help ≡ Some Explore = sym (c.in-Some-Help.is ∙ ap Some c.in-Some-Help.field-0-is) ∙ c.read_words.ensures ∙ asked in cc;
  unread = λ other. refl;
}

pub returns-in-None-clause-fetched : goal.returns-in-None-clause-fetched
returns-in-None-clause-fetched g c = record {
  grows = omega arith;
  explored = λ asked. let bad : None ≡ Some Explore = sym c.in-None.is ∙ c.read_words.ensures ∙ asked in cc;
  unread = λ other. refl;
}
