-- The generated text as it is written.
use Rattle.std.specs.Prelude.{ℕ, List}
use Rattle.generated_text.specs.Text.{ahead_of}
use Rattle.generated_text.specs.declared.source.MakeSource.{MakeSource}

-- the bytes of the text that its source has not given yet
abbrev pub made_left : MakeSource → List ℕ
made_left source = ahead_of source.n source.done source.piece source.at
