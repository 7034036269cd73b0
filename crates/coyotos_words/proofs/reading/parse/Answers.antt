use Rattle.std.proofs.Common.{◌≡◌, ◌∙◌, ap, sym, subst, inl, inr, map, string_bytes, false, []}
use Rattle.std.specs.List.{list_any}
use Rattle.clap.specs.Words.{App, IsAmong, app_of, fault_of, is_simple, is_simple_and_free, kind_of, subcommand_of, subcommand_rows_of}
use Rattle.coyotos_words.specs.Command.{is_dashed}
use Rattle.coyotos_words.specs.Forms.{forms}
use Rattle.coyotos_words.specs.Matches.{asked}
use Rattle.coyotos_words.proofs.Dashed.{dashed_bytes}
use Rattle.coyotos_words.proofs.Entered.{taken_is, refused_is}
use Rattle.coyotos_words.proofs.reading.parse.Goals as goal

pub returns-in-Ok : goal.returns-in-Ok
returns-in-Ok c =
    let words = map string_bytes c.args.words.now in
    let are : app_of c.in_ok-forms.field-0 ≡ forms = c.in_ok-forms.ensures in
    let plain : list_any is_dashed words ≡ false = dashed_bytes string_bytes c.args.words.now false c.requires in
    let passes : fault_of forms words ≡ [] = sym (ap (λ (app : App). fault_of app words) are) ∙ c.in-Ok.ensures.kinds (ap is_simple_and_free are) in
    let entered : subcommand_rows_of c.in-Ok.matches ≡ subcommand_of forms words = (c.in-Ok.ensures.matches (ap is_simple are)).1 ∙ ap (λ (app : App). subcommand_of app words) are in
    c.asked.ensures ∙ ap asked entered ∙ taken_is words plain passes

pub returns : goal.returns
returns c =
    let words = map string_bytes c.args.words.now in
    let are : app_of c.in_ok-forms.field-0 ≡ forms = c.in_ok-forms.ensures in
    let plain : list_any is_dashed words ≡ false = dashed_bytes string_bytes c.args.words.now false c.requires in
    sym (elim (c.in-Err.ensures.kinds (ap is_simple_and_free are)) [
      | inl memory ↦ absurd (c.in_default.not-OutOfMemory (c.kind.ensures ∙ memory))
      | inr kinds ↦ refused_is words _ plain (subst (λ (app : App). IsAmong (kind_of c.in-Err.error) (fault_of app words)) are kinds)
    ])
