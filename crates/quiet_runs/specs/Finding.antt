-- Which steps are quiet, as a test of a state. (The ample sets of partial-order reduction, of one process each; that they are found by
-- capabilities is this project's own.)
use Rattle.std.specs.Prelude.{ℕ, zero, suc, ◌%◌, ◌==◌, nat_lt, Bool, true, false, not, ◌&&◌, ◌||◌, if◌then◌else◌, length, Option, Some, None, Result, Ok, Err}
use Rattle.std.specs.List.{list_all, list_any}
use Rattle.cap_format.specs.declared.item.Item.{Item}
use Rattle.cap_format.specs.declared.item.Item.TheVariants.{Header, Slot}
use Rattle.cap_format.specs.declared.kind.CapKind.{CapKind}
use Rattle.cap_format.specs.declared.kind.CapKind.TheVariants.{Page, Gpt, Window, Process, Range}
use Rattle.cap_format.specs.Capability.{Capability}
use Rattle.cap_format.specs.Weakening.{is_harmless}
use Rattle.process_objects.specs.declared.state.State.{State as ProcessState}
use Rattle.process_objects.specs.declared.state.State.TheVariants.{Running}
use Rattle.object_store.specs.Store.{Store, gpt_at, cappage_at, endpoint_at}
use Rattle.rv32_decode.specs.declared.insn.Insn.{Insn}
use Rattle.rv32_decode.specs.Table.{insn_at}
use Rattle.rv32_user.specs.declared.effect.Effect.{Effect}
use Rattle.rv32_user.specs.declared.effect.Effect.TheVariants.{Next, Load, Store as StoreOf}
use Rattle.rv32_user.specs.Step.{effect_of}
use Rattle.schedules.specs.Queues.{QueuesValue, hart_of, stands_in}
use Rattle.walk_meaning.specs.declared.kind.Kind.{Kind}
use Rattle.walk_meaning.specs.declared.kind.Kind.TheVariants.{Fetch, Load as LoadKind, Store as StoreKind}
use Rattle.walk_meaning.specs.declared.noted.Noted.{Noted}
use Rattle.walk_meaning.specs.declared.place.WalkFault.{WalkFault}
use Rattle.walk_meaning.specs.Trail.{trail}
use Rattle.walk_engine.specs.declared.hit.Hit.{Hit}
use Rattle.machine_state.specs.State.{State, process, pc_of, space_of}
use Rattle.machine_state.specs.DataAccess.{data_access, number_at}
use Rattle.quiet_runs.specs.Runs.{Watch, after_step}
use Rattle.quiet_runs.specs.Reaching.{caps_of, is_alone, names, reached_by}

-- the test holds of a number below `n`
unfoldable pub is_below : (ℕ → Bool) → ℕ → Bool
is_below test zero = false
is_below test (suc n) = is_below test n || test n

-- the test holds of a capability that a process, a capability page or a GPT holds
abbrev pub some_held : (Capability → Bool) → Store → Bool
some_held test s =
    is_below (λ p. list_any test (caps_of s p)) (length s.contents.processes)
    || (is_below (λ c. list_any test (cappage_at s c)) (length s.contents.cappages)
    || is_below (λ g. list_any test (gpt_at s.items g).slots) (length s.items.gpts))

-- the kinds by which one comes to what capabilities don't name: a Range makes and destroys objects, and a window leads a walk to its
-- background, whoever comes to the GPT in which it stands
abbrev pub is_far_reaching : CapKind → Bool
is_far_reaching Range = true
is_far_reaching Window = true
is_far_reaching _ = false

-- the process runs
abbrev pub runs : ProcessState → Bool
runs Running = true
runs _ = false

-- this hart has the process
abbrev pub has_process : Option ℕ → ℕ → Bool
has_process None p = false
has_process (Some q) p = q == p

-- the process is on this hart, and nowhere else
abbrev pub is_only_on : QueuesValue → ℕ → ℕ → Bool
is_only_on q p hart =
    has_process (hart_of q hart) p
    && (not (is_below (λ other. not (other == hart) && has_process (hart_of q other) p) (length q.harts))
    && (not (list_any (λ queue. stands_in queue p) q.ready) && not (list_any (λ sleepers. stands_in sleepers p) q.sleepers)))

-- A process has its own to itself: it runs, on this hart, nobody holds a capability to it, and nobody holds a Range or a window to a
-- background. An endpoint may name it as its recipient.
abbrev pub is_secluded : State → ℕ → ℕ → Bool
is_secluded s p hart =
    runs (process s p).state
    && (is_only_on s.queues p hart
    && (not (some_held (λ c. names c Process p) s.store) && not (some_held (λ c. is_far_reaching c.kind) s.store)))

-- a page is a process's own: there is one, the process comes to it, and nobody else does
abbrev pub is_own : State → ℕ → ℕ → Bool
is_own s p n = nat_lt n (length s.store.contents.pages) && is_alone p (reached_by s.store Page n)

-- what the process does is looked at: it is one that is watched, or a page that is watched is its own
abbrev pub is_watched : Watch → State → ℕ → Bool
is_watched watch s p = watch.processes p || is_below (λ n. watch.pages n && is_own s p n) (length s.store.contents.pages)

-- ---- settled pages

-- a Range
abbrev pub is_range : CapKind → Bool
is_range Range = true
is_range _ = false

-- the capability names the page and isn't RO
abbrev pub may_write : ℕ → Capability → Bool
may_write n c = names c Page n && not (is_harmless c)

-- the recipient of an endpoint passes a test
abbrev pub some_recipient : (Capability → Bool) → Store → Bool
some_recipient test s =
    is_below (λ e. test (endpoint_at s e).recipient) (length s.contents.endpoints)

-- a capability passes it, wherever it stands
abbrev pub some_cap : (Capability → Bool) → Store → Bool
some_cap test s = some_held test s || some_recipient test s

-- A page is settled: there is no Range, and each capability that names the page is RO. Nobody can
-- change it any more.
abbrev pub is_settled : Store → ℕ → Bool
is_settled s n = not (some_cap (λ c. is_range c.kind) s) && not (some_cap (may_write n) s)

-- a walk may read this on its way to a settled page: GPTs of the process's own, and last the page
abbrev pub may_pass : State → ℕ → Item → Bool
may_pass s p (Header Page n) = is_settled s.store n
may_pass s p (Header Gpt g) = is_alone p (reached_by s.store Gpt g)
may_pass s p (Header kind n) = false
may_pass s p (Slot g i) = is_alone p (reached_by s.store Gpt g)

-- an access reads nothing else on its way
abbrev pub goes_by_own : State → ℕ → ℕ → Kind → Bool
goes_by_own s p at kind =
    list_all (λ (n : Noted). may_pass s p n.item) (trail s.store.items (space_of s p) at kind)

-- accesses of this kind leave a page as it is
abbrev pub only_reads : Kind → Bool
only_reads Fetch = true
only_reads LoadKind = true
only_reads _ = false

-- ---- instructions

-- An access may reach the page: it is the process's own, or it is a settled one that the access reads
-- by GPTs of the process's own.
abbrev pub may_reach : State → ℕ → ℕ → Kind → ℕ → Bool
may_reach s p at kind n =
    is_own s p n || (only_reads kind && (is_settled s.store n && goes_by_own s p at kind))

-- an access that ends at such a page
abbrev pub is_quiet_access : State → ℕ → ℕ → Kind → Result Hit WalkFault → Bool
is_quiet_access s p at kind (Ok hit) = may_reach s p at kind hit.page
is_quiet_access s p at kind (Err fault) = false

-- what is left to be done of an instruction is to go on, to load or to store so: no system call, no
-- breakpoint, no fault
abbrev pub is_quiet_effect : State → ℕ → Effect → Bool
is_quiet_effect s p (Next pc) = true
is_quiet_effect s p (Load at size signed rd) =
    (at % size == 0) && is_quiet_access s p at LoadKind (data_access s p at LoadKind)
is_quiet_effect s p (StoreOf at size value) =
    (at % size == 0) && is_quiet_access s p at StoreKind (data_access s p at StoreKind)
is_quiet_effect s p _ = false

-- the word that was fetched: an instruction, or none of the table
abbrev pub is_quiet_word : State → ℕ → Option Insn → Bool
is_quiet_word s p None = false
is_quiet_word s p (Some insn) =
    is_quiet_effect s p (effect_of (process s p).regs (pc_of s p) insn)

-- the fetch at a process's pc
abbrev pub is_quiet_fetch : State → ℕ → Result Hit WalkFault → Bool
is_quiet_fetch s p (Err fault) = false
is_quiet_fetch s p (Ok hit) =
    may_reach s p (pc_of s p) Fetch hit.page && is_quiet_word s p (insn_at (number_at s hit 4))

-- the instruction that a process performs next
abbrev pub is_quiet_next : State → ℕ → Bool
is_quiet_next s p = is_quiet_fetch s p (data_access s p (pc_of s p) Fetch)

-- that of the process on a hart, if there is one
abbrev pub is_quiet_on : Watch → State → ℕ → Option ℕ → Bool
is_quiet_on watch s hart None = false
is_quiet_on watch s hart (Some p) = is_secluded s p hart && (not (is_watched watch s p) && is_quiet_next s p)

-- The step of a hart is quiet, for one who watches this: nobody else can tell it from no step at all.
unfoldable pub is_quiet : Watch → State → ℕ → Bool
is_quiet watch s hart = not s.halted && is_quiet_on watch s hart (hart_of s.queues hart)

-- ---- one after the other

-- how many quiet steps of a hart follow, one after the other, where no more than `most` are counted
unfoldable pub quiet_within : ℕ → Watch → State → ℕ → ℕ
quiet_within zero watch s hart = 0
quiet_within (suc most) watch s hart = if is_quiet watch s hart then suc (quiet_within most watch (after_step s hart) hart) else 0

-- the same where a run takes no more than 4,096
abbrev pub quiet_steps : Watch → State → ℕ → ℕ
quiet_steps watch s hart = quiet_within 4096 watch s hart
