-- The bytes of a sink whose writer stands behind a buffer, where that writer tells its bytes.
use Rattle.std.specs.Prelude.{ℕ, List, Option}
use Rattle.std.specs.Io.Buffered.{writer_contents, writer_inner}
use Rattle.std.specs.declared.io.buffered.BufWriter.{BufWriter}
use Rattle.coy_io.specs.declared.adapters.WriteSink.{WriteSink}

-- the bytes that the sink took: those that the writer got, and those still in the buffer
abbrev pub taken_in : {W A : Type 0} → (W → Option (List ℕ)) → WriteSink (BufWriter W A) → Option (List ℕ)
taken_in contents sink = writer_contents contents sink.writer

-- the bytes that the writer behind the buffer got
abbrev pub gone_out : {W A : Type 0} → (W → Option (List ℕ)) → WriteSink (BufWriter W A) → Option (List ℕ)
gone_out contents sink = contents (writer_inner sink.writer)
