-- An invocation: what the registers of a process ask for, and where they are malformed. (Coyotos has the parts; which
-- registers and bits they stand in, and the limits, are this project's.)
use Rattle.std.specs.Prelude.{ℕ, ◌+◌, ◌-◌, ◌/◌, ◌%◌, ◌^◌, ◌≡◌, ◌≤◌, ◌==◌, ◌&&◌, ◌||◌, not, nat_lt, Bool, if◌then◌else◌, List, [], ◌∷◌, ◌++◌, length, take, replicate, slice_index, Result, Ok, Err}
use Rattle.std.specs.List.{All, list_any}
use Rattle.std.specs.Int.{w32, to_le_bytes}
use Rattle.process_objects.specs.declared.wait.Wait.{Wait}
use Rattle.process_objects.specs.declared.wait.Wait.TheVariants.{Open, Closed}
use Rattle.process_objects.specs.Accept.{AcceptValue, IsAccept, accept_of}
use Rattle.invocation.specs.declared.malformed.MalformedSyscall.{MalformedSyscall}

-- the most bytes that a string has
abbrev pub longest_string : ℕ
longest_string = 65536

-- the `count` bits of a word from bit `low` on, as a number
abbrev pub bits : ℕ → ℕ → ℕ → ℕ
bits word low count = word / 2 ^ low % 2 ^ count

-- whether bit `i` of a word is set
abbrev pub bit : ℕ → ℕ → Bool
bit word i = bits word i 1 == 1

-- ---- the fields

-- x10, bits 0 to 4: the capability register that is invoked
abbrev pub invoked_register : List ℕ → ℕ
invoked_register regs = bits (slice_index regs 10) 0 5

-- x10, bit 5: whether there is a send phase
abbrev pub sends : List ℕ → Bool
sends regs = bit (slice_index regs 10) 5

-- x10, bit 6: whether there is a receive phase
abbrev pub receives : List ℕ → Bool
receives regs = bit (slice_index regs 10) 6

-- x10, bit 7: whether the send phase doesn't wait
abbrev pub is_nonblocking : List ℕ → Bool
is_nonblocking regs = bit (slice_index regs 10) 7

-- x10, bits 16 to 18: how many capabilities are sent
abbrev pub sent_count : List ℕ → ℕ
sent_count regs = bits (slice_index regs 10) 16 3

-- x10, bits 19 to 21: how many capabilities are accepted
abbrev pub accepted_count : List ℕ → ℕ
accepted_count regs = bits (slice_index regs 10) 19 3

-- x18, one register a byte from the lowest on: the registers sent
abbrev pub sent_registers : List ℕ → List ℕ
sent_registers regs = take (sent_count regs) (to_le_bytes w32 (slice_index regs 18))

-- x19, one register a byte from the lowest on: the registers that accept
abbrev pub accepting_registers : List ℕ → List ℕ
accepting_registers regs = take (accepted_count regs) (to_le_bytes w32 (slice_index regs 19))

-- x10, bit 8, and x22: a closed wait on an endpoint id, or an open one
abbrev pub asked_wait : List ℕ → Wait
asked_wait regs = if bit (slice_index regs 10) 8 then Closed (slice_index regs 22) else Open

-- x11 to x14: the words w1 to w4
abbrev pub words_of : List ℕ → List ℕ
words_of regs = slice_index regs 11 ∷ slice_index regs 12 ∷ slice_index regs 13 ∷ slice_index regs 14 ∷ []

-- what is accepted: x20 and x21 are the address and the bound of the string. Without a receive phase the registers
-- alone are accepted, with no string and an open wait
abbrev pub acceptance : List ℕ → AcceptValue
acceptance regs =
    let registers = accepting_registers regs ++ replicate (4 - accepted_count regs) 0 in
    if receives regs then accept_of (asked_wait regs) (accepted_count regs) registers (slice_index regs 20) (slice_index regs 21)
    else accept_of Open (accepted_count regs) registers 0 0

-- an invocation by its fields: the capability register that is invoked; whether it sends, receives and doesn't wait;
-- the registers of the capabilities sent; what it accepts; four words; and the address and length of the string sent
pub record InvocationValue : Type 0 where
  pub capreg : ℕ
  pub send : Bool
  pub receive : Bool
  pub nonblocking : Bool
  pub sent : List ℕ
  pub accept : AcceptValue
  pub words : List ℕ
  pub at : ℕ
  pub length : ℕ

-- the invocation of these registers. x15 and x16 are the address and length of the string sent, which is empty without
-- a send phase
unfoldable pub invocation_of : List ℕ → InvocationValue
invocation_of regs = record {
  capreg = invoked_register regs;
  send = sends regs;
  receive = receives regs;
  nonblocking = is_nonblocking regs;
  sent = sent_registers regs;
  accept = acceptance regs;
  words = words_of regs;
  at = if sends regs then slice_index regs 15 else 0;
  length = if sends regs then slice_index regs 16 else 0;
}

-- a string that is no longer than the longest, and ends below the last address or at it
pub record IsString (at size : ℕ) : Type 0 where
  pub longest : size ≤ longest_string
  pub ends : at + size ≤ 2 ^ 32

-- what each invocation keeps: its registers are registers, at most four of them are sent and as many accept, and its
-- strings are strings
pub record IsInvocation (invocation : InvocationValue) : Type 0 where
  pub capreg : invocation.capreg ≤ 31
  pub four : length invocation.sent ≤ 4
  pub registers : All (λ register. register ≤ 31) invocation.sent
  pub accept : IsAccept invocation.accept
  pub buffer : IsString invocation.accept.at invocation.accept.bound
  pub words : length invocation.words ≡ 4
  pub string : IsString invocation.at invocation.length

-- ---- where the call is malformed

-- point 1: a bit of x10 that must be zero is set, 9 to 15 or 22 to 31
abbrev pub sets_reserved_bits : List ℕ → Bool
sets_reserved_bits regs = not (bits (slice_index regs 10) 9 7 == 0) || not (bits (slice_index regs 10) 22 10 == 0)

-- point 2: it neither sends nor receives
abbrev pub has_no_phase : List ℕ → Bool
has_no_phase regs = not (sends regs) && not (receives regs)

-- point 3: the number of capabilities sent or the number accepted is over 4
abbrev pub has_too_many : List ℕ → Bool
has_too_many regs = nat_lt 4 (sent_count regs) || nat_lt 4 (accepted_count regs)

-- point 4: a register sent or one that accepts is over 31
abbrev pub names_no_register : List ℕ → Bool
names_no_register regs = list_any (nat_lt 31) (sent_registers regs) || list_any (nat_lt 31) (accepting_registers regs)

-- a string that is longer than the longest, or ends behind the last address
abbrev pub is_no_string : ℕ → ℕ → Bool
is_no_string at size = nat_lt longest_string size || nat_lt (2 ^ 32) (at + size)

-- point 5: it sends a string that is none
abbrev pub sends_no_string : List ℕ → Bool
sends_no_string regs = sends regs && is_no_string (slice_index regs 15) (slice_index regs 16)

-- point 6: it receives a string where none can be
abbrev pub accepts_no_string : List ℕ → Bool
accepts_no_string regs = receives regs && is_no_string (slice_index regs 20) (slice_index regs 21)

-- whether one of the six points holds
unfoldable pub is_malformed : List ℕ → Bool
is_malformed regs =
    sets_reserved_bits regs || has_no_phase regs || has_too_many regs || names_no_register regs || sends_no_string regs || accepts_no_string regs

-- the invocation of these registers, or that they are malformed
unfoldable pub parsed : List ℕ → Result InvocationValue MalformedSyscall
parsed regs = if is_malformed regs then Err (record {}) else Ok (invocation_of regs)
