-- Loads and stores: alignment first, then one walk of the process's space at this moment.
use Rattle.std.specs.Prelude.{ℕ, ◌%◌, ◌==◌, Bool, if◌then◌else◌, Result, Ok, Err}
use Rattle.walk_meaning.specs.declared.kind.Kind.TheVariants.{Load, Store as Put}
use Rattle.walk_meaning.specs.declared.place.WalkFault.{WalkFault}
use Rattle.walk_engine.specs.declared.hit.Hit.{Hit}
use Rattle.rv32_user.specs.Step.{loaded}
use Rattle.machine_state.specs.State.{State, process}
use Rattle.machine_state.specs.Setters.{set_registers, advance}
use Rattle.machine_state.specs.Outcome.{Outcome, page_name, done, recorded, touched, changing}
use Rattle.machine_state.specs.DataAccess.{data_access, data_touch, reached, number_at, written}
use Rattle.messages.specs.Fault.{fault, misaligned}

-- a load that is aligned
abbrev pub loaded_from : State → ℕ → ℕ → ℕ → Bool → ℕ → Result Hit WalkFault → Outcome
loaded_from s p at size signed rd (Err f) = fault s p f.code at f.handler
loaded_from s p at size signed rd (Ok hit) =
    recorded (reached p Load at hit)
    (done (advance (set_registers s p (loaded (process s p).regs rd size signed (number_at s hit size))) p))

-- a load of so many bytes to register `rd`: alignment first, then the walk (RV32I)
unfoldable pub load : State → ℕ → ℕ → ℕ → Bool → ℕ → Outcome
load s p at size signed rd =
    if at % size == 0
    then touched (data_touch s p at Load) (loaded_from s p at size signed rd (data_access s p at Load))
    else misaligned s p at

-- a store that is aligned
abbrev pub stored_to : State → ℕ → ℕ → ℕ → ℕ → Result Hit WalkFault → Outcome
stored_to s p at size value (Err f) = fault s p f.code at f.handler
stored_to s p at size value (Ok hit) =
    changing (page_name hit.page) (recorded (reached p Put at hit) (done (advance (written s hit size value) p)))

-- a store of the lowest so many bytes of a value: alignment first, then the walk (RV32I)
unfoldable pub store : State → ℕ → ℕ → ℕ → ℕ → Outcome
store s p at size value =
    if at % size == 0 then touched (data_touch s p at Put) (stored_to s p at size value (data_access s p at Put))
    else misaligned s p at
