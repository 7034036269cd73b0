-- Answers that a call may give.
use Rattle.std.proofs.Common.{Result, Ok, Err, IfOk, OnErr}

-- what follows for each answer follows where there is one
pub if_ok : {A E : Type 0} (r : Result A E) (P Q : A → Type 0) → ((x : A) → P x → Q x) → IfOk r P → IfOk r Q
if_ok (Ok x) P Q follows is = follows x is
if_ok (Err e) P Q follows is = tt

-- and so it is where there is none
pub if_err : {A E : Type 0} (r : Result A E) (P Q : Type 0) → (P → Q) → OnErr r P → OnErr r Q
if_err (Ok x) P Q follows is = tt
if_err (Err e) P Q follows is = follows is

-- what is so in any case is so where there is none
pub so_err : {A E : Type 0} (r : Result A E) (P : Type 0) → P → OnErr r P
so_err (Ok x) P is = tt
so_err (Err e) P is = is
