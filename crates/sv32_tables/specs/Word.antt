-- One word of an Sv32 table (RISC-V Privileged ISA). That frames are the physical pages from 4,096 on is this project's own.
use Rattle.std.specs.Prelude.{ℕ, Bool, if◌then◌else◌, ◌==◌, ◌+◌, ◌-◌, ◌*◌, ◌/◌, ◌%◌, Option, Some, None}
use Rattle.sv32_tables.specs.declared.leaf.Leaf.{Leaf}

-- ---- the flags of a word, each as its power of two (RISC-V Privileged ISA, Sv32 page table entry)

-- V: the word leads somewhere
abbrev pub flag_v : ℕ
flag_v = 1

-- R: it may be read
abbrev pub flag_r : ℕ
flag_r = 2

-- W: it may be written
abbrev pub flag_w : ℕ
flag_w = 4

-- X: it may be executed
abbrev pub flag_x : ℕ
flag_x = 8

-- U: user accesses may use it
abbrev pub flag_u : ℕ
flag_u = 16

-- A: it was used
abbrev pub flag_a : ℕ
flag_a = 64

-- D: it was written by
abbrev pub flag_d : ℕ
flag_d = 128

-- the physical page number of frame 0 (this project's own)
abbrev pub first_frame : ℕ
first_frame = 4096

-- ---- words

-- whether a word has a flag, given as its power of two
abbrev pub has : ℕ → ℕ → Bool
has word flag = (word / flag % 2 == 1)

-- whether a word leads somewhere
abbrev pub is_valid : ℕ → Bool
is_valid word = has word flag_v

-- the physical page number of a word
abbrev pub number_of : ℕ → ℕ
number_of word = word / 1024

-- the word that leads to the table in a frame: no flag but V
abbrev pub pointer : ℕ → ℕ
pointer frame = (first_frame + frame) * 1024 + flag_v

-- the frame of the table to which a word leads
abbrev pub table_of : ℕ → Option ℕ
table_of word = if is_valid word then Some (number_of word - first_frame) else None

-- the word of a leaf: V, R, U, A and D, and W and X where it may be written and executed
abbrev pub leaf_word : Leaf → ℕ
leaf_word leaf = leaf.page * 1024 + (flag_v + flag_r + flag_u + flag_a + flag_d) + (if leaf.write then flag_w else 0) + (if leaf.execute then flag_x else 0)

-- the leaf that a word is
abbrev pub leaf_of : ℕ → Option Leaf
leaf_of word = if is_valid word then Some (record { page = number_of word; write = has word flag_w; execute = has word flag_x }) else None
