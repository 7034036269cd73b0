-- The bytes of a program's streams, where its reader and its writer tell them.
use Rattle.std.specs.Prelude.{ℕ, List, Option}
use Rattle.coy_io.specs.declared.adapters.ReadSource.{ReadSource}
use Rattle.coy_io.specs.declared.adapters.WriteSink.{WriteSink}
use Rattle.program_entry.specs.declared.noting.Noting.{Noting}

-- the bytes that the reader of the input has left
abbrev pub left_in : {R : Type 0} → (R → Option (List ℕ)) → ReadSource (Noting R) → Option (List ℕ)
left_in remaining source = remaining source.reader.stream

-- how often reading failed
abbrev pub read_faults : {R : Type 0} → ReadSource R → ℕ
read_faults source = source.faults

-- the bytes that the writer of the output got
abbrev pub got_by : {W : Type 0} → (W → Option (List ℕ)) → Noting W → Option (List ℕ)
got_by contents noting = contents noting.stream

-- the bytes that the writer of what is said got
abbrev pub said_by : {E : Type 0} → (E → Option (List ℕ)) → WriteSink E → Option (List ℕ)
said_by contents sink = contents sink.writer

-- how often writing them failed
abbrev pub said_faults : {E : Type 0} → WriteSink E → ℕ
said_faults sink = sink.faults
