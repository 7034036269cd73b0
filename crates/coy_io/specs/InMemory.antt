-- What a call leaves of this project's source and sink in memory.
use Rattle.std.specs.Prelude.{◌≡◌, ℕ, ◌+◌, OnOk, Result}
use Rattle.coy_io.specs.Causes.{counted, faults_after}
use Rattle.coy_io.specs.Pieces.{moved}
use Rattle.coy_io.specs.declared.in_memory.MemSink.{MemSink}
use Rattle.coy_io.specs.declared.in_memory.MemSource.{MemSource}

-- a source that answered a call: the bytes moved are given, the call and its fault are counted, and all else is kept
pub record TookFrom {E : Type 0} (old new : MemSource) (result : Result ℕ E) : Type 0 where
  pub at : new.at ≡ old.at + moved result
  pub calls : new.calls ≡ counted old.calls
  pub faults : new.faults ≡ faults_after old.faults result
  pub bytes : new.bytes.items ≡ old.bytes.items
  pub failing : new.failing.items ≡ old.failing.items
  pub piece : new.piece ≡ old.piece
  pub by_line : new.by_line ≡ old.by_line

-- a sink that answered a call: the call and its fault are counted, and all but its bytes is kept
pub record TookInto {E : Type 0} (old new : MemSink) (result : Result ℕ E) : Type 0 where
  pub calls : new.calls ≡ counted old.calls
  pub faults : new.faults ≡ faults_after old.faults result
  pub served : OnOk result (new.starved ≡ old.starved)
  pub room : new.room ≡ old.room
  pub failing : new.failing.items ≡ old.failing.items
  pub piece : new.piece ≡ old.piece
