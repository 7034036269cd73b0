-- The sides that lines give to the objects of a machine. (Own.)
use Rattle.std.specs.Prelude.{ℕ, ◌+◌, ◌-◌, ◌<◌, ◌^◌, true, List, ◌++◌, length, take, drop, replicate}
use Rattle.std.specs.List.{count_by}
use Rattle.cap_format.specs.declared.kind.CapKind.{CapKind}
use Rattle.cap_format.specs.declared.kind.CapKind.TheVariants.{Page, CapPage, Gpt, Endpoint, Process}
use Rattle.object_store.specs.declared.sizes.Sizes.{Sizes}
use Rattle.confinement.specs.declared.cut_side.CutSide.{CutSide}
use Rattle.confinement.specs.declared.cut_side.CutSide.TheVariants.{Left, Right}
use Rattle.confinement.specs.Cut.{Sides, Cut, closed_cut, side_in, same_side}
use Rattle.confine_check.specs.declared.block.Block.{Block}

-- the sides of all objects, by the lists of the five kinds
abbrev pub sides_by_kind : List CutSide → List CutSide → List CutSide → List CutSide → List CutSide → Sides
sides_by_kind pages cappages gpts processes endpoints =
    record { pages = pages; cappages = cappages; gpts = gpts; processes = processes; endpoints = endpoints }

-- the cut with these sides, over which harmless capabilities may lead both ways; each side may hold SysCtl and KernLog
abbrev pub cut_of : Sides → Cut
cut_of sides = closed_cut (side_in sides)

-- as many objects of each kind as a number of 16 bits counts
pub record AreSized (sides : Sides) : Type 0 where
  pub pages : length sides.pages < 2 ^ 16
  pub cappages : length sides.cappages < 2 ^ 16
  pub gpts : length sides.gpts < 2 ^ 16
  pub processes : length sides.processes < 2 ^ 16
  pub endpoints : length sides.endpoints < 2 ^ 16

-- all objects of a machine of these sizes are on the right
abbrev pub all_right : Sizes → Sides
all_right sizes = record {
  pages = replicate sizes.pages Right;
  cappages = replicate sizes.cappages Right;
  gpts = replicate sizes.gpts Right;
  processes = replicate sizes.processes Right;
  endpoints = replicate sizes.endpoints Right;
}

-- the elements from `from` to `to` are on the left
abbrev pub left_between : List CutSide → ℕ → ℕ → List CutSide
left_between sides from to = take from sides ++ replicate (to + 1 - from) Left ++ drop (to + 1) sides

-- the objects of these numbers of a kind are on the left
abbrev pub with_left_of : Sides → CapKind → ℕ → ℕ → Sides
with_left_of sides Page from to = record sides { pages = left_between sides.pages from to }
with_left_of sides CapPage from to = record sides { cappages = left_between sides.cappages from to }
with_left_of sides Gpt from to = record sides { gpts = left_between sides.gpts from to }
with_left_of sides Process from to = record sides { processes = left_between sides.processes from to }
with_left_of sides Endpoint from to = record sides { endpoints = left_between sides.endpoints from to }
with_left_of sides _ from to = sides

-- the objects of a block are on the left
abbrev pub with_left : Sides → Block → Sides
with_left sides block = with_left_of sides block.kind block.from block.to

-- how many of these are on the left
abbrev pub lefts_in : List CutSide → ℕ
lefts_in sides = count_by (λ side. same_side side Left) sides

-- how many are on the right
abbrev pub rights_in : List CutSide → ℕ
rights_in sides = count_by (λ side. same_side side Right) sides

-- how many objects are on the left
abbrev pub left_count : Sides → ℕ
left_count sides =
    lefts_in sides.pages + lefts_in sides.cappages + lefts_in sides.gpts + lefts_in sides.processes
    + lefts_in sides.endpoints

-- how many objects are on the right
abbrev pub right_count : Sides → ℕ
right_count sides =
    rights_in sides.pages + rights_in sides.cappages + rights_in sides.gpts + rights_in sides.processes
    + rights_in sides.endpoints
