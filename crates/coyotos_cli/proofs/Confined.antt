-- What is written of a cut is so.
use Rattle.std.proofs.Common.{◌≡◌, Option, sym, subst}
use Rattle.coyotos_words.specs.declared.command.Command.{Command}
use Rattle.confine_command.specs.Decided.{IsDecided}
use Rattle.confine_command.proofs.Written.{decided_law}
use Rattle.courses.specs.Course.{course_output}
use Rattle.courses.specs.declared.exit.Exit.TheVariants.{Done}
use Rattle.coyotos_cli.specs.Input.{whole_input}
use Rattle.coyotos_cli.specs.Laws.{ConfinedLaw}
use Rattle.coyotos_cli.specs.Program.{words_course}

pub confined_law : ConfinedLaw
confined_law words bytes is done =
    subst (λ (asked : Option Command). (course_output (words_course asked (whole_input bytes))).exit ≡ Done → IsDecided bytes (course_output (words_course asked (whole_input bytes))).text)
    (sym is) (decided_law bytes) done
