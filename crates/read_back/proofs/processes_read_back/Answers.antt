use Rattle.read_back.proofs.Statements.{process_reads, register_reads, capreg_reads}
use Rattle.read_back.proofs.processes_read_back.Goals as goal

pub returns : goal.returns
returns c = record { processes = process_reads; registers = register_reads; cap_registers = capreg_reads }
