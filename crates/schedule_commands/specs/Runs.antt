-- Which records of a run a command writes.
use Rattle.coyotos_words.specs.declared.command.RunCommand.TheVariants as commands
use Rattle.schedule_commands.specs.declared.command.ScheduleCommand.{ScheduleCommand}
use Rattle.schedule_commands.specs.declared.command.ScheduleCommand.TheVariants.{Of, Summary}
use Rattle.schedule_replay.specs.declared.mode.Mode.{Mode}
use Rattle.schedule_replay.specs.declared.mode.Mode.TheVariants.{Silent, Records, Trace}

-- the records of the run that a command writes
abbrev pub mode_of : ScheduleCommand → Mode
mode_of (Of commands.Run) = Records
mode_of (Of commands.Trace) = Trace
mode_of (Of commands.Tables) = Records
mode_of (Of (commands.Walk process kind address)) = Silent
mode_of Summary = Silent
