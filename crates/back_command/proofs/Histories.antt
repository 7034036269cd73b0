-- The history of a run, event by event and undo by undo.
use Rattle.std.proofs.Common.{◌≡◌, ◌≤◌, ◌+◌, ◌-◌, ◌∙◌, ℕ, zero, suc, List, [], ◌∷◌, ◌++◌, length, take, get_or, refl, sym, ap, ap₂, add-one, arith}
use Rattle.std.specs.Prelude.{min}
use Rattle.std.proofs.Math.Nat.{min-le_left, min-le_right}
use Rattle.std.proofs.Math.Seq.{take-suc, take-length}
use Rattle.std.proofs.lemmas.List.{length-append, length-take, take-take}
use Rattle.machine_state.specs.declared.event.Event.{Event}
use Rattle.machine_state.specs.declared.event.Event.TheVariants.{Step}
use Rattle.machine_state.specs.State.{State}
use Rattle.kernel_core.specs.Event.{event_of}
use Rattle.kernel_core.specs.Run.{run_state}
use Rattle.kernel_core.proofs.Ran.{run_state-append, run_state-cons, run_state-nil}
use Rattle.reverse_run.specs.History.{History, after_event, after_undo, remembered}
use Rattle.back_command.specs.Back.{back_text, events_left, undone, most_remembered}
use Rattle.back_command.specs.Runs.{history_at, states_before, text_of, undos}

-- ---- the states before events

-- the state before one event more comes first
states_before-push : (s : State) (events : List Event) (e : Event) → states_before s (events ++ e ∷ []) ≡ run_state s events ∷ states_before s events
unfolding states_before run_state
states_before-push s [] e = refl
states_before-push s (d ∷ events) e = ap (λ (states : List State). states ++ s ∷ []) (states_before-push (event_of s d).state events e)

-- there is one for each event
length-states_before : (s : State) (events : List Event) → length (states_before s events) ≡ length events
unfolding states_before
length-states_before s [] = refl
length-states_before s (d ∷ events) =
    let sum = length-append (states_before (event_of s d).state events) (s ∷ []) in
    let rest = length-states_before (event_of s d).state events in
    omega (arith, sum, rest)

states_before-nil : (s : State) → states_before s [] ≡ []
unfolding states_before
states_before-nil s = refl

-- ---- events

-- of what is cut off twice only the first matters
take-push : {X : Type 0} (depth : ℕ) (x : X) (xs : List X) → 1 ≤ depth → take depth (x ∷ take depth xs) ≡ take depth (x ∷ xs)
take-push zero x xs least = absurd (omega (arith, least))
take-push (suc depth) x xs least = ap (λ rest. x ∷ rest) (take-take depth (suc depth) xs (omega arith))

-- no event was run
pub history-start : (h : History) → h.before ≡ [] → h ≡ history_at most_remembered h.present []
history-start h none =
    ap₂ (λ (s : State) (before : List State). record { present = s; before = before }) (sym (run_state-nil h.present))
    (none ∙ sym (ap (take most_remembered) (states_before-nil h.present)))

-- one event more was run
pub history-event : (depth : ℕ) (s : State) (events : List Event) (e : Event) → 1 ≤ depth → after_event depth (history_at depth s events) e ≡ history_at depth s (events ++ e ∷ [])
history-event depth s events e least =
    let here : State = run_state s events in
    let last : (event_of here e).state ≡ run_state s (events ++ e ∷ []) =
    sym (run_state-append s events (e ∷ []) ∙ run_state-cons here e [] ∙ run_state-nil (event_of here e).state) in
    ap₂ (λ (t : State) (before : List State). record { present = t; before = before }) last
    (take-push depth here (states_before s events) least ∙ ap (take depth) (sym (states_before-push s events e)))

-- ---- undos

pub undos-none : (h : History) → undos 0 h ≡ h
unfolding undos
undos-none h = refl

pub undos-more : (n : ℕ) (h : History) → undos (n + 1) h ≡ after_undo (undos n h)
unfolding undos
undos-more n h = ap (λ k. undos k h) (add-one n)

-- the last event is undone
history-undo : (room : ℕ) (s : State) (events : List Event) (e : Event) → after_undo (history_at (suc room) s (events ++ e ∷ [])) ≡ history_at room s events
history-undo room s events e =
    ap (λ (before : List State). after_undo (record { present = run_state s (events ++ e ∷ []); before = take (suc room) before })) (states_before-push s events e)

-- and so many
history-undos : (n room : ℕ) (s : State) (events : List Event) → n ≤ length events → undos n (history_at (n + room) s events) ≡ history_at room s (take (length events - n) events)
unfolding undos
history-undos zero room s events within =
    let same : length events - 0 ≡ length events = omega arith in
    let all : take (length events - 0) events ≡ events = ap (λ k. take k events) same ∙ take-length events in
    let none : 0 + room ≡ room = omega arith in
    ap (λ k. history_at k s events) none ∙ ap (history_at room s) (sym all)
history-undos (suc n) room s events within =
    let j : ℕ = length events - suc n in
    let more : length events - n ≡ suc j = omega (arith, within) in
    let deeper : suc n + room ≡ n + suc room = omega arith in
    let last : Event = get_or events j (Step 0) in
    let split : take (length events - n) events ≡ take j events ++ last ∷ [] = ap (λ k. take k events) more ∙ take-suc events j (Step 0) (omega (arith, within)) in
    ap (λ k. after_undo (undos n (history_at k s events))) deeper
    ∙ ap after_undo (history-undos n (suc room) s events (omega (arith, within)))
    ∙ ap (λ es. after_undo (history_at (suc room) s es)) split
    ∙ history-undo room s (take j events) last

-- as many events are remembered as there were, and no more than there is room for
remembered-at : (s : State) (events : List Event) → remembered (history_at most_remembered s events) ≡ min most_remembered (length events)
remembered-at s events = length-take most_remembered (states_before s events) ∙ ap (min most_remembered) (length-states_before s events)

-- after as many undos as asked for and remembered, all but the last events are left
pub undone-at : (number : ℕ) (s : State) (h : History) (events : List Event) → h ≡ history_at most_remembered s events
    → (undos (min number (remembered h)) h).present ≡ run_state s (events_left number events)
undone-at number s h events is =
    let n : ℕ = undone number events in
    let some : n ≤ min most_remembered (length events) = min-le_right number (min most_remembered (length events)) in
    let most : min most_remembered (length events) ≤ 256 = min-le_left most_remembered (length events) in
    let within : min most_remembered (length events) ≤ length events = min-le_right most_remembered (length events) in
    let depth : most_remembered ≡ n + (256 - n) = omega (arith, some, most) in
    let back : undos n (history_at most_remembered s events) ≡ history_at (256 - n) s (events_left number events) =
    ap (λ k. undos n (history_at k s events)) depth ∙ history-undos n (256 - n) s events (omega (arith, some, within)) in
    ap (λ (g : History). (undos (min number (remembered g)) g).present) is
    ∙ ap (λ k. (undos (min number k) (history_at most_remembered s events)).present) (remembered-at s events)
    ∙ ap (λ (g : History). g.present) back

-- which are so many
pub undone-count : (number : ℕ) (s : State) (h : History) (events : List Event) → h ≡ history_at most_remembered s events → min number (remembered h) ≡ undone number events
undone-count number s h events is = ap (λ (g : History). min number (remembered g)) is ∙ ap (min number) (remembered-at s events)

-- what is written is the state before the events that are undone
pub text-at : (number : ℕ) (s : State) (h : History) (events : List Event) → h ≡ history_at most_remembered s events
    → text_of number h ≡ back_text (undone number events) (run_state s (events_left number events))
text-at number s h events is =
    ap (λ k. back_text k (undos (min number (remembered h)) h).present) (undone-count number s h events is)
    ∙ ap (back_text (undone number events)) (undone-at number s h events is)
