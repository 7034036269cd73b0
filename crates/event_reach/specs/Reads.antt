-- How many slots of GPTs are read at most to find what an event may change. (This project's.)
use Rattle.std.specs.Prelude.{ℕ, ◌+◌, ◌*◌}

-- by the walk of one access
abbrev pub a_walk : ℕ
a_walk = 32

-- by the walks to the spans of a string, of which 65,536 bytes have at most 17
abbrev pub a_string : ℕ
a_string = 17 * a_walk

-- by those to a message: to the string that is sent, and to the buffer into which it is received
abbrev pub a_message : ℕ
a_message = a_string + a_string

-- by those of an instruction, which fetches its word and at most tells a message
abbrev pub an_instruction : ℕ
an_instruction = a_walk + a_message

-- by those of a look for a plain instruction: to its word, and to what it loads or stores
abbrev pub a_plain_look : ℕ
a_plain_look = a_walk + a_walk
