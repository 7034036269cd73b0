-- The two-level walk of Sv32 for user accesses, as the RISC-V Privileged ISA has it (virtual address translation process).
use Rattle.std.specs.Prelude.{ℕ, ◌≡◌, Bool, true, not, ◌&&◌, ◌||◌, ◌==◌, if◌then◌else◌, ◌+◌, ◌-◌, ◌/◌, ◌%◌, List, Option, Some, None}
use Rattle.sv32_tables.specs.declared.leaf.Leaf.{Leaf}
use Rattle.sv32_tables.specs.Word.{has, number_of, flag_r, flag_w, flag_x, flag_u, flag_a, flag_d, flag_v, first_frame}
use Rattle.sv32_tables.specs.Pool.{word_at}

-- what a user program does at an address
pub data Access : Type 0 where
  Fetch : Access
  Load : Access
  Store : Access

-- a word of physical memory, by its page's number and its place there: the frames lie from page 4,096 on
abbrev pub memory_word : List ℕ → ℕ → ℕ → ℕ
memory_word words number index = word_at words (number - first_frame) index

-- a word faults where V = 0, or where R = 0 and W = 1
abbrev pub is_bad : ℕ → Bool
is_bad word = not (has word flag_v) || (not (has word flag_r) && has word flag_w)

-- a word is a leaf where R = 1 or X = 1, and leads to a table otherwise
abbrev pub is_leaf : ℕ → Bool
is_leaf word = has word flag_r || has word flag_x

-- a leaf allows an access by R, W or X; a store needs D too
abbrev pub is_allowed : Access → ℕ → Bool
is_allowed Fetch word = has word flag_x
is_allowed Load word = has word flag_r
is_allowed Store word = has word flag_d && has word flag_w

-- a leaf serves a user's access where it allows it and has U and A
abbrev pub serves : Access → ℕ → Bool
serves access word = has word flag_u && has word flag_a && is_allowed access word

-- the physical page that a word of the last level gives; none is a page fault
abbrev pub last_level : Access → ℕ → Option ℕ
last_level access word =
    if not (is_bad word) && is_leaf word && serves access word then Some (number_of word) else None

-- the physical page of a leaf at the first level, which maps 1,024 pages and must be aligned
abbrev pub superpage : Access → ℕ → ℕ → Option ℕ
superpage access page word =
    if serves access word && (number_of word % 1024 == 0) then Some (number_of word + page % 1024) else None

-- the physical page that a word of the first level leads to
abbrev pub first_level : List ℕ → Access → ℕ → ℕ → Option ℕ
first_level words access page word =
    if is_bad word then None else
    (if is_leaf word then superpage access page word else last_level access (memory_word words (number_of word) (page % 1024)))

-- the physical page that a user's access to a page of the space with this root reaches; none is a page fault
abbrev pub reached : List ℕ → ℕ → ℕ → Access → Option ℕ
reached words root page access = first_level words access page (memory_word words (first_frame + root) (page / 1024))

-- whether a leaf lets an access through
abbrev pub lets : Access → Leaf → Bool
lets Fetch leaf = leaf.execute
lets Load leaf = true
lets Store leaf = leaf.write

-- the physical page that an access reaches through a leaf
abbrev pub through : Access → Option Leaf → Option ℕ
through access None = None
through access (Some leaf) = if lets access leaf then Some leaf.page else None

-- user accesses to a page of the space with this root reach what the leaf lets through
abbrev pub WalksTo : List ℕ → ℕ → ℕ → Option Leaf → Type 0
WalksTo words root page leaf = (access : Access) → reached words root page access ≡ through access leaf
