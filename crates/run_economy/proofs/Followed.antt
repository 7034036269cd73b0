-- Items along lists of touches, the one behind the other, and the ages along them.
use Rattle.std.proofs.Common.{List, [], ◌∷◌, ◌++◌, Bool, true, false, if◌then◌else◌, sym, ap, subst}
use Rattle.object_store.specs.Store.{Items, count_of}
use Rattle.machine_state.specs.Outcome.{Outcome, Touch}
use Rattle.machine_state.specs.Outcome.Touch.{DataAccess, CapAccess, GptCall, Changed}
use Rattle.messages.specs.Followed.{followed}
use Rattle.fetch_economy.specs.Ages.{AgesAreTold}
use Rattle.fetch_economy.proofs.Told.{told-same, ages-differ}
use Rattle.fetch_economy.specs.Follows.{Follows}

-- one list behind another
pub follows-append : (o p q : Items) (ts us : List Touch) → Follows o ts p → Follows p us q → Follows o (ts ++ us) q
follows-append o p q [] us follows more = subst (λ (i : Items). Follows i us q) (sym follows) more
follows-append o p q (DataAccess r space address kind ∷ ts) us follows more = (follows.0, follows-append o p q ts us follows.1 more)
follows-append o p q (CapAccess r space address kind ∷ ts) us follows more = (follows.0, follows-append o p q ts us follows.1 more)
follows-append o p q (GptCall reads ∷ ts) us follows more = follows-append o p q ts us follows more
follows-append o p q (Changed item ∷ ts) us follows more = (follows.0, follows.1, follows-append follows.0 p q ts us follows.2 more)

-- one part of an event behind another
pub follows-followed : (o : Items) (first second : Outcome) → Follows o first.touches first.state.store.items
    → Follows first.state.store.items second.touches second.state.store.items
    → Follows o (followed first second).touches (followed first second).state.store.items
follows-followed o first second one two = follows-append o first.state.store.items second.state.store.items first.touches second.touches one two

-- an invocation of a GPT's capability in front
pub follows-gpt_call : (o p : Items) (is_one reads : Bool) (ts : List Touch) → Follows o ts p → Follows o ((if is_one then GptCall reads ∷ [] else []) ++ ts) p
follows-gpt_call o p true reads ts follows = follows
follows-gpt_call o p false reads ts follows = follows

-- where each change of an item is told, each age that changes is
pub follows-ages : (o p : Items) (ts : List Touch) → Follows o ts p → AgesAreTold o ts p
follows-ages o p [] follows = λ kind n. ap (λ (i : Items). count_of i kind n) follows
follows-ages o p (DataAccess q space address kind ∷ ts) follows =
    (λ k n. ap (λ (i : Items). count_of i k n) (sym follows.0), told-same q o p ts (λ k n. ap (λ (i : Items). count_of i k n) follows.0) (follows-ages o p ts follows.1))
follows-ages o p (CapAccess q space address kind ∷ ts) follows = follows-ages o p ts follows.1
follows-ages o p (GptCall reads ∷ ts) follows = follows-ages o p ts follows
follows-ages o p (Changed item ∷ ts) follows = (follows.0, ages-differ item o follows.0 follows.1, follows-ages follows.0 p ts follows.2)
