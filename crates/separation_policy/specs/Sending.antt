-- Policies whose domains send each other messages: a domain may hold entries to endpoints of those to which it sends.
-- (Own.)
use Rattle.std.specs.Prelude.{◌≡◌, ◌≢◌, ℕ, zero, suc, ◌==◌, ◌&&◌, ◌||◌, nat_lt, not, ◌<◌, Bool, true, false, ◌⊎◌, List, [], ◌∷◌, length, Some, None}
use Rattle.cap_format.specs.declared.kind.CapKind.{CapKind}
use Rattle.cap_format.specs.declared.kind.CapKind.TheVariants.{Page, CapPage, Gpt, Endpoint, Entry, Process, Range, KernLog, SysCtl}
use Rattle.cap_format.specs.Kind.{is_counted}
use Rattle.cap_format.specs.Capability.{Capability}
use Rattle.page_store.specs.CapPage.{cap_at}
use Rattle.process_objects.specs.Process.{capreg_of, slot_of}
use Rattle.object_store.specs.Object.{SameObject}
use Rattle.object_store.specs.Store.{Store, slot_at, cappage_at, process_at, endpoint_at}
use Rattle.schedules.specs.Queues.{QueuesValue, sleepers_of, stands_in}
use Rattle.invocation.specs.Delivery.{accepted}
use Rattle.operations.specs.System.{System}
use Rattle.machine_state.specs.declared.event.Event.{Event}
use Rattle.machine_state.specs.Machine.{hart_in}
use Rattle.machine_state.specs.State.{State}
use Rattle.kernel_core.specs.Event.{performer, event_of}
use Rattle.kernel_core.specs.Run.{run_state}
use Rattle.confinement.specs.declared.cut_side.CutSide.{CutSide}
use Rattle.confinement.specs.declared.cut_side.CutSide.TheVariants.{Left, Right}
use Rattle.confinement.specs.Cut.{Realm, Cut, no_realm, same_side, TakesFrom, Holds}
use Rattle.confinement.specs.Acts.{SameSizes, Acts, system_of}
use Rattle.confinement.specs.Passing.{Passing, IsPlain, PassesAtMost}
use Rattle.confinement.specs.isolation.Turns.{turns, side_records}
use Rattle.confinement.specs.authority.Within.{may_change}
use Rattle.separation_policy.specs.Policy.{PolicyValue, domain_of, may_write, may_halt, may_log, MayName, Reach, may_learn, reach_below, sees, own, seen, side_if}

-- A policy with who sends to whom; to which endpoints of others the objects of a domain may hold entries at all; and which
-- domains are plain. Where no domain is plain, nobody gives an entry to another domain, so those that stand in a state are
-- as many as there will be. A plain domain gives its own away.
pub record Sending : Type 0 where
  pub policy : PolicyValue
  pub sends : ℕ → ℕ → Bool
  pub calls : ℕ → ℕ → Bool
  pub plain : ℕ → Bool

-- the policy where nobody sends
abbrev pub silent : PolicyValue → Sending
silent policy = record { policy = policy; sends = λ a b. false; calls = λ a e. false; plain = λ a. false }

-- whether domain `a` may send to domain `b`, another: both were made, and the policy says so
abbrev pub may_send : Sending → ℕ → ℕ → Bool
may_send x a b =
    let count = length x.policy.domains in
    not (a == b) && (nat_lt a count && (nat_lt b count && x.sends a b))

-- whether domain `a` may hold an entry to endpoint `e` of another domain
abbrev pub may_call : Sending → ℕ → ℕ → Bool
may_call x a e = may_send x a (domain_of x.policy Endpoint e) && x.calls a e

-- ---- when such a policy holds

-- a capability that names an object may stand in one of domain `a`: as in a policy where nobody sends, or it is an entry
-- to an endpoint that the domain may call
pub data MaySendName (x : Sending) (a : ℕ) (c : Capability) : Type 0 where
  Named : MayName x.policy a c → MaySendName x a c
  Called : c.kind ≡ Entry → may_call x a c.object ≡ true → MaySendName x a c

-- a capability that may stand in an object of domain `a`
pub record MaySendStand (x : Sending) (a : ℕ) (c : Capability) : Type 0 where
  pub no_range : c.kind ≢ Range
  pub halting : c.kind ≡ SysCtl → may_halt x.policy a ≡ true
  pub logging : c.kind ≡ KernLog → may_log x.policy a ≡ true
  pub named : is_counted c.kind ≡ true → MaySendName x a c

-- each capability that stands in an object may stand there
pub record EachMaySend (x : Sending) (s : Store) : Type 0 where
  pub slots : (g i : ℕ) → MaySendStand x (domain_of x.policy Gpt g) (slot_at s.items g i)
  pub cappages : (n i : ℕ) → MaySendStand x (domain_of x.policy CapPage n) (cap_at (cappage_at s n) i)
  pub capregs : (p i : ℕ) → MaySendStand x (domain_of x.policy Process p) (capreg_of (process_at s p) i)
  pub process_slots : (p i : ℕ) → MaySendStand x (domain_of x.policy Process p) (slot_of (process_at s p) i)
  pub recipients : (e : ℕ) → MaySendStand x (domain_of x.policy Endpoint e) (endpoint_at s e).recipient

-- whoever sleeps does so on a process of his own domain, or of one to which that sends
abbrev pub SleepWhereSent : Sending → QueuesValue → Type 0
SleepWhereSent x q = (on p : ℕ) → stands_in (sleepers_of q on) p ≡ true
    → (domain_of x.policy Process p ≡ domain_of x.policy Process on)
    ⊎ (may_send x (domain_of x.policy Process p) (domain_of x.policy Process on) ≡ true)

-- ---- plain domains

-- what a plain domain may pass on: entries to endpoints of others that it may call, and to its own where it sends to
-- itself; KernLog and SysCtl where it may hold them
abbrev pub passing_of : Sending → ℕ → Passing
passing_of x a = record {
  entries = λ e. may_call x a e || ((domain_of x.policy Endpoint e == a) && x.sends a a);
  logs = may_log x.policy a;
  halts = may_halt x.policy a;
}

-- the objects of domain `a`
abbrev pub objects_of : Sending → ℕ → CapKind → ℕ → Bool
objects_of x a kind n = domain_of x.policy kind n == a

-- What domain `a` may pass on domain `b` may have: entries to its own endpoints, and to those that it may call itself;
-- KernLog and SysCtl. And where `b` is plain too it may pass it on in turn.
pub record IsClosedTo (x : Sending) (a b : ℕ) : Type 0 where
  pub entries : (e : ℕ) → (passing_of x a).entries e ≡ true
      → (domain_of x.policy Endpoint e ≡ b) ⊎ (may_call x b e ≡ true)
  pub onward : (e : ℕ) → (passing_of x a).entries e ≡ true → x.plain b ≡ true → (passing_of x b).entries e ≡ true
  pub logs : may_log x.policy a ≡ true → may_log x.policy b ≡ true
  pub halts : may_halt x.policy a ≡ true → may_halt x.policy b ≡ true

-- The policy holds, of objects as they mean and of who sleeps where: and the objects of each plain domain are plain, and
-- its lines are closed to each domain to which it sends.
pub record SendingHolds (x : Sending) (w : System) : Type 0 where
  pub each : EachMaySend x w.store
  pub sleepers : SleepWhereSent x w.queues
  pub plain : (a : ℕ) → x.plain a ≡ true → IsPlain (passing_of x a) (objects_of x a) w.store
  pub closed : (a b : ℕ) → x.plain a ≡ true → may_send x a b ≡ true → IsClosedTo x a b

-- ---- what a receiver is handed is its own doing

-- nobody who receives through an endpoint that domain `a` may call accepts a capability
abbrev pub AreDeafTo : Sending → ℕ → Store → Type 0
AreDeafTo x a s = (e q : ℕ) → may_call x a e ≡ true
    → TakesFrom s e q
    → (accepted (process_at s q).state).caps ≡ 0

-- Domain `b` is deaf: each of its processes that receives through an endpoint which another domain may call accepts no
-- capability.
abbrev pub IsDeafIn : Sending → ℕ → Store → Type 0
IsDeafIn x b s = (a e q : ℕ) → domain_of x.policy Endpoint e ≡ b
    → may_call x a e ≡ true
    → TakesFrom s e q
    → (accepted (process_at s q).state).caps ≡ 0

-- all domains are
abbrev pub IsDeaf : Sending → Store → Type 0
IsDeaf x s = (b : ℕ) → IsDeafIn x b s

-- no process of domain `b` accepts a capability
abbrev pub AcceptsNone : Sending → ℕ → Store → Type 0
AcceptsNone x b s = (q : ℕ) → domain_of x.policy Process q ≡ b
    → (accepted (process_at s q).state).caps ≡ 0

-- ---- what a domain may do

-- whether any number below `k` is such
unfoldable pub any_below : (ℕ → Bool) → ℕ → Bool
any_below test zero = false
any_below test (suc k) = any_below test k || test k

-- what a process of domain `d` has: its GPTs, and the pages that it may write
abbrev pub realm_of : Sending → ℕ → Realm
realm_of x d = record {
  gpts = λ g. domain_of x.policy Gpt g == d;
  pages = λ n. (domain_of x.policy Page n == d) || may_write x.policy d (domain_of x.policy Page n);
}

-- the endpoints to which objects of a side of domain `a` may hold entries beyond it
abbrev pub calls_from : Sending → ℕ → CutSide → ℕ → Bool
calls_from x a Left e = may_call x a e
calls_from x a Right e = false

-- and the processes beyond for which they may wait: all others for those to whom anybody sends
abbrev pub hears_from : Sending → ℕ → CutSide → ℕ → Bool
hears_from x a Left q = may_send x a (domain_of x.policy Process q)
hears_from x a Right q =
    any_below (λ b. may_send x b (domain_of x.policy Process q)) (length x.policy.domains)

-- "what domain `a` may do, and all else": its objects and the pages that it writes, and what it may call beyond
abbrev pub domain_cut : Sending → ℕ → Cut
domain_cut x a = record {
  side = λ kind n. side_if (may_change (own x.policy a) kind n);
  weakly = λ side. true;
  halts = λ side. may_halt x.policy a;
  logs = λ side. may_log x.policy a;
  calls = calls_from x a;
  hears = hears_from x a;
  realm = λ q. realm_of x (domain_of x.policy Process q);
}

-- the endpoints to which objects of a side of what domain `a` may look at may hold entries beyond it: one of the domains that
-- it reads may call them
abbrev pub seen_calls : Sending → ℕ → CutSide → ℕ → Bool
seen_calls x a Left e =
    not (sees x.policy a (domain_of x.policy Endpoint e))
    && any_below (λ b. sees x.policy a b && may_call x b e) (length x.policy.domains)
seen_calls x a Right e = false

-- and the processes beyond for which they may wait
abbrev pub seen_hears : Sending → ℕ → CutSide → ℕ → Bool
seen_hears x a Left q =
    not (sees x.policy a (domain_of x.policy Process q))
    && any_below (λ b. sees x.policy a b && may_send x b (domain_of x.policy Process q)) (length x.policy.domains)
seen_hears x a Right q =
    any_below (λ b. may_send x b (domain_of x.policy Process q)) (length x.policy.domains)

-- "what domain `a` may look at, and all else": the objects of the domains that it reads, and the pages that these write
abbrev pub seen_cut : Sending → ℕ → Cut
seen_cut x a = record {
  side = λ kind n. side_if (may_change (seen x.policy a) kind n);
  weakly = λ side. false;
  halts = λ side. true;
  logs = λ side. true;
  calls = seen_calls x a;
  hears = seen_hears x a;
  realm = λ q. realm_of x (domain_of x.policy Process q);
}

-- ---- integrity

-- nobody is handed by domain `a` what it mustn't have: it is plain, or all whom it calls are deaf
abbrev pub IsSafeBy : Sending → ℕ → Store → Type 0
IsSafeBy x a s = (x.plain a ≡ true) ⊎ AreDeafTo x a s

-- so it is with the domain of the process that performs an event
abbrev pub IsSafe : Sending → State → Event → Type 0
IsSafe x s e = (p : ℕ) → performer s e ≡ Some p → IsSafeBy x (domain_of x.policy Process p) s.store

-- so it is before each of these events
abbrev pub SafeBefore : Sending → State → List Event → Type 0
SafeBefore x s [] = Unit {0}
SafeBefore x s (e ∷ es) = IsSafe x s e × SafeBefore x (event_of s e).state es

-- An event takes state `s` to state `t`. The policy holds afterwards, and there are as many harts. Where a process performs
-- it, that reaches no further than its domain sends; where this domain isn't plain no other gets a capability, and where it
-- is nothing is written that it may not pass on. Where nobody performs it, no object changes, and no sleeper; and where it
-- is an event of a hart that there is, no queue and no hart.
pub record SendsAtMost (x : Sending) (s : State) (e : Event) (t : State) : Type 0 where
  pub holds : SendingHolds x (system_of t)
  pub within : (p : ℕ) → performer s e ≡ Some p
      → Acts (domain_cut x (domain_of x.policy Process p)) Left (system_of s) (system_of t)
  pub given : (p q : ℕ) → performer s e ≡ Some p → x.plain (domain_of x.policy Process p) ≡ false
      → domain_of x.policy Process q ≢ domain_of x.policy Process p
      → (process_at s.store q).capregs ≡ (process_at t.store q).capregs
  pub passed : (p : ℕ) → performer s e ≡ Some p → x.plain (domain_of x.policy Process p) ≡ true
      → PassesAtMost (passing_of x (domain_of x.policy Process p)) s.store t.store
  pub idle : performer s e ≡ None → (t.store ≡ s.store) × (t.queues.sleepers ≡ s.queues.sleepers)
  pub still : performer s e ≡ None → hart_in e < length s.queues.harts → t.queues ≡ s.queues
  pub harts : length t.queues.harts ≡ length s.queues.harts

-- *Nobody changes more than he may write and whom he may tell*: so it is with every event that a plain domain performs, or
-- one to which all whom it calls are deaf, behind any events of which each was such.
abbrev pub SendIntegrity : Sending → State → Type 0
SendIntegrity x s = (before : List Event) (e : Event)
    → SafeBefore x s before
    → let t = run_state s before in
    IsSafe x t e
    → SendsAtMost x t e (event_of t e).state

-- ---- noninterference

-- what domain `a` comes to know may come at once from domain `b`: as where nobody sends, or one of the two sends to the other,
-- since who sends sees whether the other was busy
abbrev pub may_learn_by : Sending → ℕ → ℕ → Bool
may_learn_by x a b = may_learn x.policy a b || (may_send x a b || may_send x b a)

-- the view of domain `a` has domain `b`
abbrev pub SendViews : Sending → ℕ → ℕ → Type 0
SendViews x a b = Reach (may_learn_by x) a b

-- and whether it has, decided
abbrev pub send_views : Sending → ℕ → ℕ → Bool
send_views x a b = reach_below (may_learn_by x) (length x.policy.domains) a b

-- "the view of this domain, and all else": all else may hold what is harmless to the view, and that nothing to all else
abbrev pub send_view_cut : Sending → ℕ → Cut
send_view_cut x a = record {
  side = λ kind n. side_if (send_views x a (domain_of x.policy kind n));
  weakly = λ side. same_side side Right;
  halts = λ side. true;
  logs = λ side. true;
  calls = λ side e. false;
  hears = λ side q. false;
  realm = λ q. no_realm;
}

-- two systems are the same for domain `a`: in the objects of its view, who sleeps on its processes, and the sizes
pub record SendSameFor (x : Sending) (a : ℕ) (w v : System) : Type 0 where
  pub objects : (kind : CapKind) (n : ℕ) → SendViews x a (domain_of x.policy kind n) → SameObject kind n w.store v.store
  pub sleepers : (p : ℕ) → SendViews x a (domain_of x.policy Process p)
      → sleepers_of w.queues p ≡ sleepers_of v.queues p
  pub sizes : SameSizes w v

-- two runs in which the same is told of the view of domain `a`, and which end in states that are the same for it
pub record SendAlikeFor (x : Sending) (a : ℕ) (s t : State) (es fs : List Event) : Type 0 where
  pub records : side_records (send_view_cut x a) Left s es ≡ side_records (send_view_cut x a) Left t fs
  pub ends : SendSameFor x a (system_of (run_state s es)) (system_of (run_state t fs))

-- *Nobody sees beyond his view*: for each domain, take any other state that is the same for it and in which no object of its
-- view holds a capability to one that isn't. Two runs, one from each, that give the processes of its view the same turns are
-- alike for it, whatever all others do in either. Nobody has to be deaf.
abbrev pub SendNoninterference : Sending → State → Type 0
SendNoninterference x s = (a : ℕ) (t : State)
    → Holds (send_view_cut x a) (system_of t)
    → SendSameFor x a (system_of s) (system_of t)
    → (es fs : List Event)
    → turns (send_view_cut x a) Left s es ≡ turns (send_view_cut x a) Left t fs
    → SendAlikeFor x a s t es fs
