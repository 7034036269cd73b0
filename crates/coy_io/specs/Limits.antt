-- How long a line and an input may be. (This project's own; the code's constants have to be these.)
use Rattle.std.specs.Prelude.{ℕ}

-- the most bytes of a line, without its line feed
abbrev pub line_limit : ℕ
line_limit = 512

-- the most bytes that a reader holds of what it took
abbrev pub window_limit : ℕ
window_limit = 4096

-- the most bytes of an input that are read: 16 MiB
abbrev pub input_limit : ℕ
input_limit = 16777216
