use Rattle.statement_text.proofs.Events.{event_reads, migrated}
use Rattle.statement_text.proofs.laws.migrated_is_read.Goals as goal

pub returns : goal.returns
returns c = record { events = event_reads; listing = migrated }
