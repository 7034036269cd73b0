-- Lists of calls, call by call.
use Rattle.std.proofs.Common.{◌≡◌, ℕ, zero, suc, ◌+◌, ◌-◌, ◌<◌, ◌≤◌, List, [], ◌∷◌, ◌++◌, map, take, drop, get_or, length, replicate, refl, sym, ap, ◌∙◌, append-nil, arith}
use Rattle.std.proofs.lemmas.List.{drop_more, drop_all, length-take, take_all}
use Rattle.machine_state.specs.declared.event.Event.{Event}
use Rattle.reverse_run.specs.declared.call.Call.{Call}
use Rattle.reverse_run.specs.declared.call.Call.TheVariants.{Perform, Undo}
use Rattle.reverse_run.specs.History.{History, remembered, after_event, after_undo}
use Rattle.reverse_run.specs.Calls.{after_call, history_after, UndoesAll}
use Rattle.reverse_run.specs.Reads.{most_for, most_in}

-- ---- the next call

-- the history after the rest is that after the next call and those behind it
pub history_next : (depth : ℕ) (h : History) (calls : List Call) (i : ℕ) (d : Call) → i < length calls → history_after depth h (drop i calls) ≡ history_after depth (after_call depth h (get_or calls i d)) (drop (i + 1) calls)
unfolding history_after
history_next depth h calls i d within = ap (history_after depth h) (drop_more calls i d within)

-- and so are the slots
pub most_next : (depth : ℕ) (h : History) (calls : List Call) (i : ℕ) (d : Call) → i < length calls → most_in depth h (drop i calls) ≡ most_for h (get_or calls i d) + most_in depth (after_call depth h (get_or calls i d)) (drop (i + 1) calls)
unfolding most_in
most_next depth h calls i d within = ap (most_in depth h) (drop_more calls i d within)

-- no call is left
pub history_end : (depth : ℕ) (h : History) (calls : List Call) (i : ℕ) → length calls ≤ i → history_after depth h (drop i calls) ≡ h
unfolding history_after
history_end depth h calls i past = ap (history_after depth h) (drop_all i calls past)

-- ---- there and back

-- one more is the same in front as behind
replicate_behind : (n : ℕ) (c : Call) (rest : List Call) → replicate n c ++ (c ∷ rest) ≡ replicate (suc n) c ++ rest
replicate_behind zero c rest = refl
replicate_behind (suc n) c rest = ap (λ more. c ∷ more) (replicate_behind n c rest)

-- the first of the first
take_take : {X : Type 0} (n m : ℕ) (xs : List X) → n ≤ m → take n (take m xs) ≡ take n xs
take_take zero m xs le = refl
take_take (suc n) zero xs le = absurd (omega (arith, le))
take_take (suc n) (suc m) [] le = refl
take_take (suc n) (suc m) (x ∷ xs) le = ap (λ more. x ∷ more) (take_take n m xs (omega (arith, le)))

-- events and as many undos, with other calls behind them
back_before : (depth : ℕ) (h : History) (events : List Event) (rest : List Call) → remembered h ≤ depth → length events ≤ depth
    → history_after depth h (map Perform events ++ (replicate (length events) Undo ++ rest)) ≡ history_after depth (record { present = h.present; before = take (depth - length events) h.before }) rest
unfolding history_after
back_before depth h [] rest few all =
    let none : depth - 0 ≡ depth = omega arith in
    ap (λ before. history_after depth (record { present = h.present; before = before }) rest) (sym (ap (λ n. take n h.before) none ∙ take_all depth h.before few))
back_before depth h (e ∷ es) rest few all =
    let n = length es in
    let t = after_event depth h e in
    let size : depth - n ≡ suc (depth - suc n) = omega (arith, all) in
    let kept = length-take depth (h.present ∷ h.before) in
    ap (λ calls. history_after depth t (map Perform es ++ calls)) (sym (replicate_behind n Undo rest))
    ∙ (back_before depth t es (Undo ∷ rest) (omega (arith, kept)) (omega (arith, all))
    ∙ ap (λ before. history_after depth (after_undo (record { present = t.present; before = before })) rest) (take_take (depth - n) depth (h.present ∷ h.before) (omega arith) ∙ ap (λ k. take k (h.present ∷ h.before)) size))

pub back : UndoesAll
unfolding history_after
back depth h events few all =
    ap (λ calls. history_after depth h (map Perform events ++ calls)) (sym (append-nil (replicate (length events) Undo))) ∙ back_before depth h events [] few all
