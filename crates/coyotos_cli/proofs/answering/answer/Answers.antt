use Rattle.std.proofs.Common.{◌∙◌, Some, ap, refl, sym}
use Rattle.courses.specs.Course.{cached}
use Rattle.courses.specs.declared.exit.Exit.TheVariants.{Done}
use Rattle.courses.proofs.Bytes.{known-output}
use Rattle.courses.proofs.Lasts.{ends-causes, none-entries}
use Rattle.courses.proofs.Standing.{stands-unread}
use Rattle.coyotos_words.specs.declared.command.Command.TheVariants.{Help, Check, Schedule, Make, Pack, Unpack, Migrate, Confine, Share}
use Rattle.share_command.specs.Share.{shared_fetched}
use Rattle.coyotos_cli.specs.Command.{asks_run}
use Rattle.coyotos_cli.specs.Program.{usage_text}
use Rattle.coyotos_cli.proofs.Words.{cache-shared, causes-other, comes-back, comes-known, comes-text, comes-told, known-back, known-check, known-confine, known-migrate, known-pack, known-unpack, stands-back, stands-told}
use Rattle.coyotos_cli.proofs.answering.answer.Goals as goal

-- ---- no input

pub returns-in-Help-clause-comes : goal.returns-in-Help-clause-comes
returns-in-Help-clause-comes g c = rw c.in-Help.is (comes-text Help _ _ _ _ _ _ _ _ refl c.usage.ensures refl)

pub returns-in-Help-clause-entries : goal.returns-in-Help-clause-entries
returns-in-Help-clause-entries g c = λ done has. rw c.in-Help.is (none-entries (record { text = usage_text; exit = Done }))

pub returns-in-Help-clause-unread : goal.returns-in-Help-clause-unread
returns-in-Help-clause-unread g c = λ off. refl

pub returns-in-Help-clause-causes : goal.returns-in-Help-clause-causes
returns-in-Help-clause-causes g c = ends-causes _ _ _ _ _ _ c.usage.ensures _ _ _ (λ bad. cc) refl refl

pub returns-in-Help-clause-wanting : goal.returns-in-Help-clause-wanting
returns-in-Help-clause-wanting g c = λ other same. stands-unread _

pub returns-in-Make-clause-wanting : goal.returns-in-Make-clause-wanting
returns-in-Make-clause-wanting g c = λ other same. stands-unread _

pub returns-in-Make-clause-comes : goal.returns-in-Make-clause-comes
returns-in-Make-clause-comes g c = rw c.in-Make.is (comes-told (Make c.in-Make.number c.in-Make.summary) _ _ _ _ _ cached refl _ c.make.ensures.comes)

pub returns-in-Make-clause-entries : goal.returns-in-Make-clause-entries
returns-in-Make-clause-entries g c = λ done has. rw c.in-Make.is (c.make.ensures.entries done)

pub returns-in-Make-clause-unread : goal.returns-in-Make-clause-unread
returns-in-Make-clause-unread g c = λ off. refl

pub returns-in-Make-clause-causes : goal.returns-in-Make-clause-causes
returns-in-Make-clause-causes g c = causes-other _ _ _ _ c.make.ensures.read c.make.ensures.causes

pub returns-in-Make-clause-stays : goal.returns-in-Make-clause-stays
returns-in-Make-clause-stays g c = λ off. c.make.ensures.stays (sym (ap (λ command. asks_run (Some command)) c.in-Make.is) ∙ off)

-- ---- a schedule

pub returns-in-Schedule-clause-comes : goal.returns-in-Schedule-clause-comes
returns-in-Schedule-clause-comes g c = rw c.in-Schedule.is (comes-known (Schedule c.in-Schedule.command) _ _ _ _ _ cached refl _ _ c.answer_schedule.ensures.course.comes)

pub returns-in-Schedule-clause-sure : goal.returns-in-Schedule-clause-sure
returns-in-Schedule-clause-sure g c = λ fault. rw c.in-Schedule.is (stands-told (Some (Schedule c.in-Schedule.command)) _ _ _ _ _ _ cached refl _ (c.answer_schedule.ensures.course.sure fault))

pub returns-in-Schedule-clause-entries : goal.returns-in-Schedule-clause-entries
returns-in-Schedule-clause-entries g c = λ done has. rw c.in-Schedule.is (c.answer_schedule.ensures.entries done)

-- ---- what is no schedule over the mapping cache

pub returns-in-Check-clause-comes : goal.returns-in-Check-clause-comes
returns-in-Check-clause-comes g c = rw c.in-Check.is (comes-known Check _ _ _ _ _ cached refl _ _ (c.check.ensures.course _).comes)

pub returns-in-Check-clause-sure : goal.returns-in-Check-clause-sure
returns-in-Check-clause-sure g c = λ fault. rw c.in-Check.is (stands-told (Some Check) _ _ _ _ _ _ cached refl _ ((c.check.ensures.course _).sure fault))

pub returns-in-Check-clause-entries : goal.returns-in-Check-clause-entries
returns-in-Check-clause-entries g c = λ done has. rw c.in-Check.is (known-check _)

pub returns-in-Check-clause-end : goal.returns-in-Check-clause-end
returns-in-Check-clause-end g c = λ done asks. (c.check.ensures.course 0).end done

pub returns-in-Check-clause-usage : goal.returns-in-Check-clause-usage
returns-in-Check-clause-usage g c = (c.check.ensures.course 0).usage

pub returns-in-Check-clause-causes : goal.returns-in-Check-clause-causes
returns-in-Check-clause-causes g c = (c.check.ensures.course 0).causes

pub returns-in-Check-clause-unwritten : goal.returns-in-Check-clause-unwritten
returns-in-Check-clause-unwritten g c = (c.check.ensures.course 0).unwritten

pub returns-in-Pack-clause-comes : goal.returns-in-Pack-clause-comes
returns-in-Pack-clause-comes g c = rw c.in-Pack.is (comes-known Pack _ _ _ _ _ cached refl _ _ (c.answer_pack.ensures.course _).comes)

pub returns-in-Pack-clause-sure : goal.returns-in-Pack-clause-sure
returns-in-Pack-clause-sure g c = λ fault. rw c.in-Pack.is (stands-told (Some Pack) _ _ _ _ _ _ cached refl _ ((c.answer_pack.ensures.course _).sure fault))

pub returns-in-Pack-clause-entries : goal.returns-in-Pack-clause-entries
returns-in-Pack-clause-entries g c = λ done has. rw c.in-Pack.is (known-pack _)

pub returns-in-Pack-clause-end : goal.returns-in-Pack-clause-end
returns-in-Pack-clause-end g c = λ done asks. (c.answer_pack.ensures.course 0).end done

pub returns-in-Pack-clause-usage : goal.returns-in-Pack-clause-usage
returns-in-Pack-clause-usage g c = (c.answer_pack.ensures.course 0).usage

pub returns-in-Pack-clause-causes : goal.returns-in-Pack-clause-causes
returns-in-Pack-clause-causes g c = (c.answer_pack.ensures.course 0).causes

pub returns-in-Pack-clause-unwritten : goal.returns-in-Pack-clause-unwritten
returns-in-Pack-clause-unwritten g c = (c.answer_pack.ensures.course 0).unwritten

pub returns-in-Unpack-clause-comes : goal.returns-in-Unpack-clause-comes
returns-in-Unpack-clause-comes g c = rw c.in-Unpack.is (comes-known Unpack _ _ _ _ _ cached refl _ _ (c.answer_unpack.ensures.course _).comes)

pub returns-in-Unpack-clause-sure : goal.returns-in-Unpack-clause-sure
returns-in-Unpack-clause-sure g c = λ fault. rw c.in-Unpack.is (stands-told (Some Unpack) _ _ _ _ _ _ cached refl _ ((c.answer_unpack.ensures.course _).sure fault))

pub returns-in-Unpack-clause-entries : goal.returns-in-Unpack-clause-entries
returns-in-Unpack-clause-entries g c = λ done has. rw c.in-Unpack.is (known-unpack _)

pub returns-in-Unpack-clause-end : goal.returns-in-Unpack-clause-end
returns-in-Unpack-clause-end g c = λ done asks. (c.answer_unpack.ensures.course 0).end done

pub returns-in-Unpack-clause-usage : goal.returns-in-Unpack-clause-usage
returns-in-Unpack-clause-usage g c = (c.answer_unpack.ensures.course 0).usage

pub returns-in-Unpack-clause-causes : goal.returns-in-Unpack-clause-causes
returns-in-Unpack-clause-causes g c = (c.answer_unpack.ensures.course 0).causes

pub returns-in-Unpack-clause-unwritten : goal.returns-in-Unpack-clause-unwritten
returns-in-Unpack-clause-unwritten g c = (c.answer_unpack.ensures.course 0).unwritten

pub returns-in-Unpack-clause-wanting : goal.returns-in-Unpack-clause-wanting
returns-in-Unpack-clause-wanting g c = λ other. absurd (other c.in-Unpack.is)

pub returns-in-Unpack-clause-wanting_image : goal.returns-in-Unpack-clause-wanting_image
returns-in-Unpack-clause-wanting_image g c = λ is. c.answer_unpack.ensures.wanting

pub returns-in-Migrate-clause-comes : goal.returns-in-Migrate-clause-comes
returns-in-Migrate-clause-comes g c = rw c.in-Migrate.is (comes-known Migrate _ _ _ _ _ cached refl _ _ (c.migrate.ensures.course _).comes)

pub returns-in-Migrate-clause-sure : goal.returns-in-Migrate-clause-sure
returns-in-Migrate-clause-sure g c = λ fault. rw c.in-Migrate.is (stands-told (Some Migrate) _ _ _ _ _ _ cached refl _ ((c.migrate.ensures.course _).sure fault))

pub returns-in-Migrate-clause-entries : goal.returns-in-Migrate-clause-entries
returns-in-Migrate-clause-entries g c = λ done has. rw c.in-Migrate.is (known-migrate _)

pub returns-in-Migrate-clause-end : goal.returns-in-Migrate-clause-end
returns-in-Migrate-clause-end g c = λ done asks. (c.migrate.ensures.course 0).end done

pub returns-in-Migrate-clause-usage : goal.returns-in-Migrate-clause-usage
returns-in-Migrate-clause-usage g c = (c.migrate.ensures.course 0).usage

pub returns-in-Migrate-clause-causes : goal.returns-in-Migrate-clause-causes
returns-in-Migrate-clause-causes g c = (c.migrate.ensures.course 0).causes

pub returns-in-Migrate-clause-unwritten : goal.returns-in-Migrate-clause-unwritten
returns-in-Migrate-clause-unwritten g c = (c.migrate.ensures.course 0).unwritten

pub returns-in-Confine-clause-comes : goal.returns-in-Confine-clause-comes
returns-in-Confine-clause-comes g c = rw c.in-Confine.is (comes-known Confine _ _ _ _ _ cached refl _ _ c.confine.ensures.course.comes)

pub returns-in-Confine-clause-sure : goal.returns-in-Confine-clause-sure
returns-in-Confine-clause-sure g c = λ fault. rw c.in-Confine.is (stands-told (Some Confine) _ _ _ _ _ _ cached refl _ (c.confine.ensures.course.sure fault))

pub returns-in-Confine-clause-entries : goal.returns-in-Confine-clause-entries
returns-in-Confine-clause-entries g c = λ done has. rw c.in-Confine.is (known-confine _)

pub returns-in-Share-clause-comes : goal.returns-in-Share-clause-comes
returns-in-Share-clause-comes g c = rw c.in-Share.is (comes-known Share _ _ _ _ _ shared_fetched refl _ _ c.share.ensures.course.comes)

pub returns-in-Share-clause-sure : goal.returns-in-Share-clause-sure
returns-in-Share-clause-sure g c = λ fault. rw c.in-Share.is (stands-told (Some Share) _ _ _ _ _ _ shared_fetched refl _ (c.share.ensures.course.sure fault))

pub returns-in-Share-clause-entries : goal.returns-in-Share-clause-entries
returns-in-Share-clause-entries g c = λ done has. cache-shared c.args.command c.in-Share.is has

pub returns-in-Share-clause-fewer : goal.returns-in-Share-clause-fewer
returns-in-Share-clause-fewer g c = λ asked done. rw c.in-Share.is (c.share.ensures.fewer done)

pub returns-in-Share-clause-bounded : goal.returns-in-Share-clause-bounded
returns-in-Share-clause-bounded g c = λ asked. rw c.in-Share.is c.share.ensures.bounded

pub returns-in-Back-clause-comes : goal.returns-in-Back-clause-comes
returns-in-Back-clause-comes g c = rw c.in-Back.is (comes-back _ _ _ _ _ _ _ (known-output _ _ _ 0 0 _ cached _ c.back.ensures.course.comes))

pub returns-in-Back-clause-sure : goal.returns-in-Back-clause-sure
returns-in-Back-clause-sure g c = λ fault. rw c.in-Back.is (stands-back _ _ _ _ _ _ _ (c.back.ensures.course.sure fault).writes)

pub returns-in-Back-clause-entries : goal.returns-in-Back-clause-entries
returns-in-Back-clause-entries g c = λ done has. rw c.in-Back.is (known-back _ _)
