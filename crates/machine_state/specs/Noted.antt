-- What is kept of records by those who are told them.
use Rattle.std.specs.Prelude.{ℕ, Bool, true, false, not, List, [], ◌∷◌, ◌++◌}
use Rattle.std.specs.List.{filter}
use Rattle.machine_state.specs.declared.record.Record.{Record}
use Rattle.machine_state.specs.declared.record.Record.TheVariants.{Access, Insn}

-- what is kept of these records, by what is kept of each
abbrev pub noted : (Record → List Record) → List Record → List Record
noted notes [] = []
noted notes (entry ∷ entries) = notes entry ++ noted notes entries

-- an access or an instruction, of which a trace alone tells
abbrev pub is_detail : Record → Bool
is_detail (Access process kind address number) = true
is_detail (Insn process at insn) = true
is_detail _ = false

-- the records besides those of accesses and instructions
abbrev pub untraced : List Record → List Record
untraced entries = filter (λ entry. not (is_detail entry)) entries
