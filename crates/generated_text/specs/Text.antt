-- The generated text: pairs of processes that send to one another, and a schedule long enough for all of it. (This
-- project's own.)
use Rattle.std.specs.Prelude.{ℕ, ◌+◌, ◌*◌, ◌/◌, ◌%◌, List, [], ◌∷◌, ◌++◌, map, drop, codes, decimal}
use Rattle.std.specs.List.{range_with_len, concat}
use Rattle.coy_io.specs.Lines.{line_feed}
use Rattle.coy_text.specs.Numeral.{hex_text}

-- how many pairs the text of a number has, 1 to 63
abbrev pub pairs_of : ℕ → ℕ
pairs_of n = 1 + n % 63

-- how often each client calls, 1 to 1000 times
abbrev pub calls_of : ℕ → ℕ
calls_of n = 1 + n / 64 % 1000

-- how many harts the machine has, 1 to 8
abbrev pub harts_of : ℕ → ℕ
harts_of n = 1 + n % 8

-- how many rounds are run: 13 for each call of each client and 20 more for each pair
abbrev pub rounds_of : ℕ → ℕ
rounds_of n = pairs_of n * (13 * calls_of n + 20)

-- the first two lines
unfoldable pub head_text : ℕ → List ℕ
head_text n =
    let twice = decimal (2 * pairs_of n) in
    codes "coyotos 1" ++ line_feed ++
    codes "machine " ++ decimal (harts_of n) ++ codes " " ++ twice ++ codes " 0 " ++ twice ++ codes " " ++ twice ++ codes " " ++ twice ++ line_feed

-- an instruction in a page
unfoldable pub code_line : ℕ → List ℕ → List ℕ
code_line page rest = codes "code " ++ decimal page ++ rest ++ line_feed

-- the instructions of a client: it sends how many calls are left
unfoldable pub call_text : ℕ → List ℕ
call_text c =
    code_line c (codes " 000 lui x10 0x10") ++
    code_line c (codes " 004 addi x10 x10 0x61") ++
    code_line c (codes " 008 addi x11 x5 0") ++
    code_line c (codes " 00c ecall")

-- it adds up the answers, counts down, and ends
unfoldable pub counting_text : ℕ → List ℕ
counting_text c =
    code_line c (codes " 010 add x6 x6 x11") ++
    code_line c (codes " 014 addi x5 x5 -1") ++
    code_line c (codes " 018 bne x5 x0 -24") ++
    code_line c (codes " 01c addi x10 x0 64") ++
    code_line c (codes " 020 ecall")

-- the instructions of a server: it receives a first number
unfoldable pub receiving_text : ℕ → List ℕ
receiving_text s =
    code_line s (codes " 000 lui x10 0x80") ++
    code_line s (codes " 004 addi x10 x10 0x40") ++
    code_line s (codes " 008 ecall")

-- it doubles the number, counts, answers, and receives the next
unfoldable pub answering_text : ℕ → List ℕ
answering_text s =
    code_line s (codes " 00c add x11 x11 x11") ++
    code_line s (codes " 010 addi x9 x9 1") ++
    code_line s (codes " 014 lui x10 0x80") ++
    code_line s (codes " 018 addi x10 x10 0x65") ++
    code_line s (codes " 01c jal x0 -20")

-- a number twice in a line
unfoldable pub double_line : List ℕ → ℕ → List ℕ → ℕ → List ℕ → List ℕ
double_line front first middle second rest = front ++ decimal first ++ middle ++ decimal second ++ rest ++ line_feed

-- the slots, endpoints and processes of a pair
unfoldable pub places_text : ℕ → ℕ → List ℕ
places_text c s =
    double_line (codes "slot ") c (codes " 0 page:") c (codes "@12/0") ++
    double_line (codes "slot ") s (codes " 0 page:") s (codes "@12/0") ++
    double_line (codes "endpoint ") c (codes " process:") s (codes " 00000000 00000000 plain") ++
    double_line (codes "endpoint ") s (codes " process:") c (codes " 00000000 00000000 plain") ++
    double_line (codes "process ") c (codes " 0 gpt:") c (codes "@16/0 schedule:3 null run") ++
    double_line (codes "process ") s (codes " 0 gpt:") s (codes "@16/0 schedule:3 null run")

-- a register of a process
unfoldable pub register_line : ℕ → List ℕ → List ℕ
register_line process rest = codes "reg " ++ decimal process ++ rest ++ line_feed

-- the registers of a pair: how often the client calls, its two endpoints' names, and the server's register count
unfoldable pub registers_text : ℕ → ℕ → ℕ → List ℕ
registers_text calls c s =
    register_line c (codes " 5 " ++ hex_text 8 calls) ++
    register_line c (codes " 18 00000002") ++
    double_line (codes "capreg ") c (codes " 1 entry:") c (codes ":00000000") ++
    double_line (codes "capreg ") c (codes " 2 entry:") s (codes ":00000000") ++
    register_line s (codes " 19 00000005")

-- pair i has the objects 2i and 2i + 1
abbrev pub pair_text : ℕ → ℕ → List ℕ
pair_text calls i =
    call_text (2 * i) ++ counting_text (2 * i) ++ receiving_text (2 * i + 1) ++ answering_text (2 * i + 1) ++
    places_text (2 * i) (2 * i + 1) ++ registers_text calls (2 * i) (2 * i + 1)

-- the last two lines
unfoldable pub tail_text : ℕ → List ℕ
tail_text n = codes "end" ++ line_feed ++ codes "round " ++ decimal (rounds_of n) ++ line_feed

-- the first two lines, the lines of each pair, and the last two lines
unfoldable pub pieces_of : ℕ → List (List ℕ)
pieces_of n = head_text n ∷ (map (λ i. pair_text (calls_of n) i) (range_with_len 0 (pairs_of n)) ++ tail_text n ∷ [])

-- the text of a number
abbrev pub make_text : ℕ → List ℕ
make_text n = concat (pieces_of n)

-- what is left of it behind the first `done` pieces and the first `at` bytes of the last of them
abbrev pub ahead_of : ℕ → ℕ → List ℕ → ℕ → List ℕ
ahead_of n done piece at = drop at piece ++ concat (drop done (pieces_of n))
