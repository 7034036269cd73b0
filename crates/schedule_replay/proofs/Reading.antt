-- What is so of the lines of an input, where they are known.
use Rattle.std.proofs.Common.{◌≡◌, ◌∷◌, ◌++◌, [], List, Option, Some, None, refl, sym, subst}
use Rattle.coy_io.specs.Lines.{Part}
use Rattle.coy_io.specs.Reader.{Advances, Begins, IsDone}
use Rattle.schedule_replay.specs.Scheduled.{OnParts}

-- what is so of the lines given with all that may follow them is so of the lines known
pub on_given : (first left : Option (List Part)) (given : List Part) (P : List Part → Type 0) → Advances first left given
    → ((rest : List Part) → left ≡ Some rest → P (given ++ rest)) → OnParts first P
on_given None left given P a all = tt
on_given (Some parts) None given P a all = absurd a
on_given (Some parts) (Some rest) given P a all = subst P (sym a) (all rest refl)

-- what is so of all lines that may be the known ones
pub on_each : (left : Option (List Part)) (P : List Part → Type 0) → ((parts : List Part) → left ≡ Some parts → P parts) → OnParts left P
on_each None P all = tt
on_each (Some parts) P all = all parts refl

-- what follows from all lines follows from those that are known
pub on_all : (left : Option (List Part)) (P Q : List Part → Type 0) → ((parts : List Part) → P parts → Q parts) → OnParts left P → OnParts left Q
on_all None P Q all is = tt
on_all (Some parts) P Q all is = all parts is

-- what is so of all lines that begin with this one
pub on_begun : (left : Option (List Part)) (part : Part) (P : List Part → Type 0) → Begins left part → ((rest : List Part) → P (part ∷ rest)) → OnParts left P
on_begun None part P b all = tt
on_begun (Some parts) part P b all = subst P (sym b.1) (all b.0)

pub on_none : (left : Option (List Part)) (P : List Part → Type 0) → IsDone left → P [] → OnParts left P
on_none None P d all = tt
on_none (Some parts) P d all = subst P (sym d) all

-- what is so of the known lines is so of what is known to be them
pub on_known : (left : Option (List Part)) (rest : List Part) (P : List Part → Type 0) → OnParts left P → left ≡ Some rest → P rest
on_known None rest P all same = cc
on_known (Some parts) rest P all same =
    let is : parts ≡ rest = cc in
    subst P is all
