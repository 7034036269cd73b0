-- What is counted of the touches of a run, and what they fetch over a mapping cache (this project's own).
use Rattle.std.specs.Prelude.{ℕ, Bool, false, ◌||◌, ◌+◌, if◌then◌else◌, List, [], ◌∷◌}
use Rattle.map_cache.specs.Kept.{KeptValue, cost_of, kept_after, kept_without, overflows}
use Rattle.machine_state.specs.Outcome.{Touch, spent, kept_at, kept_after as kept_behind}
use Rattle.machine_state.specs.Outcome.Touch.{DataAccess, CapAccess, GptCall, Changed}

-- how many accesses there are, of data and of capabilities, those that fault among them
abbrev pub accesses : List Touch → ℕ
accesses [] = 0
accesses (DataAccess o space address kind ∷ touches) = 1 + accesses touches
accesses (CapAccess o space address kind ∷ touches) = 1 + accesses touches
accesses (GptCall reads ∷ touches) = accesses touches
accesses (Changed item ∷ touches) = accesses touches

-- how many invocations of GPTs' capabilities there are, those that are refused among them
abbrev pub gpt_calls : List Touch → ℕ
gpt_calls [] = 0
gpt_calls (DataAccess o space address kind ∷ touches) = gpt_calls touches
gpt_calls (CapAccess o space address kind ∷ touches) = gpt_calls touches
gpt_calls (GptCall reads ∷ touches) = 1 + gpt_calls touches
gpt_calls (Changed item ∷ touches) = gpt_calls touches

-- how many of these read a slot of their GPT
abbrev pub slot_reads : List Touch → ℕ
slot_reads [] = 0
slot_reads (DataAccess o space address kind ∷ touches) = slot_reads touches
slot_reads (CapAccess o space address kind ∷ touches) = slot_reads touches
slot_reads (GptCall reads ∷ touches) = (if reads then 1 else 0) + slot_reads touches
slot_reads (Changed item ∷ touches) = slot_reads touches

-- how many slots touches fetch over a mapping cache that keeps this before them
abbrev pub fetched_by : KeptValue → List Touch → ℕ
fetched_by kept touches = spent cost_of kept_after kept_without kept touches

-- what it keeps behind them
abbrev pub kept_by : KeptValue → List Touch → KeptValue
kept_by kept touches = kept_behind cost_of kept_after kept_without kept touches

-- whether it forgets everything for want of room at one of them
abbrev pub overflows_at : KeptValue → Touch → Bool
overflows_at kept (DataAccess o space address kind) = overflows kept o space address kind
overflows_at kept _ = false

-- or at some
abbrev pub overflows_in : KeptValue → List Touch → Bool
overflows_in kept [] = false
overflows_in kept (t ∷ ts) = overflows_at kept t || overflows_in (kept_at cost_of kept_after kept_without kept t) ts
