-- What rewrites something on the left of a cut, as a function of objects that leaves all reads and writes on the right as they
-- are.
use Rattle.std.proofs.Common.{◌≡◌, ◌≢◌, ℕ, List, length, get_or, set, refl, sym, ◌∙◌, ap, length-set}
use Rattle.std.proofs.lemmas.List.{get_or-set_other, set_comm}
use Rattle.cap_format.specs.declared.kind.CapKind.{CapKind}
use Rattle.cap_format.specs.declared.kind.CapKind.TheVariants.{Page, Process}
use Rattle.page_store.specs.Page.{empty_page}
use Rattle.process_objects.specs.declared.state.State.TheVariants.{Running}
use Rattle.process_objects.specs.Process.{ProcessValue, empty_process}
use Rattle.object_store.specs.Store.{Store, process_at, page_at, with_contents, with_process, with_page}
use Rattle.schedules.specs.Ready.{with_processes}
use Rattle.machine_state.specs.State.{State}
use Rattle.machine_state.specs.Setters.{set_store}
use Rattle.confinement.specs.declared.cut_side.CutSide.TheVariants.{Left, Right}
use Rattle.confinement.specs.Cut.{Cut, side_of}
use Rattle.confinement.proofs.Sleeping.{each_set}
use Rattle.independence.specs.Rewrite.{Rewrite, ProcessIs, PageIs, IsPrivate, rewritten}

-- other processes and other pages on the left, where each process still runs that ran
pub record Overlay (cut : Cut) : Type 0 where
  pub processes : List ProcessValue → List ProcessValue
  pub pages : List (List ℕ) → List (List ℕ)
  pub process_same : (xs : List ProcessValue) (q : ℕ) → side_of cut Process q ≡ Right → get_or (processes xs) q empty_process ≡ get_or xs q empty_process
  pub process_set : (xs : List ProcessValue) (q : ℕ) (x : ProcessValue) → side_of cut Process q ≡ Right → processes (set xs q x) ≡ set (processes xs) q x
  pub running : (xs : List ProcessValue) (p : ℕ) → side_of cut Process p ≡ Left → (get_or xs p empty_process).state ≡ Running → (get_or (processes xs) p empty_process).state ≡ Running
  pub page_same : (xs : List (List ℕ)) (n : ℕ) → side_of cut Page n ≡ Right → get_or (pages xs) n empty_page ≡ get_or xs n empty_page
  pub page_set : (xs : List (List ℕ)) (n : ℕ) (x : List ℕ) → side_of cut Page n ≡ Right → pages (set xs n x) ≡ set (pages xs) n x
  pub processes_size : (xs : List ProcessValue) → length (processes xs) ≡ length xs
  pub pages_size : (xs : List (List ℕ)) → length (pages xs) ≡ length xs

-- an object of the left is none of the right
other : (cut : Cut) (kind : CapKind) (n m : ℕ) → side_of cut kind n ≡ Left → side_of cut kind m ≡ Right → m ≢ n
other cut kind n m left right same = let e : Left ≡ Right = sym left ∙ (ap (λ (i : ℕ). side_of cut kind i) (sym same) ∙ right) in cc (e)

module _ (cut : Cut) (f : Overlay cut) where
  -- the objects with what is rewritten
  abbrev pub over : Store → Store
  over s = with_contents s (record s.contents { processes = f.processes s.contents.processes; pages = f.pages s.contents.pages })

  -- and the state
  abbrev pub over_state : State → State
  over_state s = set_store s (over s.store)

  -- a process of the right is the same
  pub over-process_at : (s : Store) (q : ℕ) → side_of cut Process q ≡ Right → process_at (over s) q ≡ process_at s q
  over-process_at s q right = f.process_same s.contents.processes q right

  -- so is a page
  pub over-page_at : (s : Store) (n : ℕ) → side_of cut Page n ≡ Right → page_at (over s) n ≡ page_at s n
  over-page_at s n right = f.page_same s.contents.pages n right

  -- and what is written to one
  pub over-with_process : (s : Store) (q : ℕ) (x : ProcessValue) → side_of cut Process q ≡ Right → with_process (over s) q x ≡ over (with_process s q x)
  over-with_process s q x right = ap (λ (xs : List ProcessValue). with_processes (over s) xs) (sym (f.process_set s.contents.processes q x right))

  -- or to the other
  pub over-with_page : (s : Store) (n : ℕ) (x : List ℕ) → side_of cut Page n ≡ Right → with_page (over s) n x ≡ over (with_page s n x)
  over-with_page s n x right =
      ap (λ (xs : List (List ℕ)). with_contents (over s) (record (over s).contents { pages = xs })) (sym (f.page_set s.contents.pages n x right))

-- ---- one rewrite

module _ (cut : Cut) where
  -- nothing is rewritten
  pub no_overlay : Overlay cut
  no_overlay = record {
    processes = λ xs. xs;
    pages = λ xs. xs;
    process_same = λ xs q right. refl;
    process_set = λ xs q x right. refl;
    running = λ xs p own old. old;
    page_same = λ xs n right. refl;
    page_set = λ xs n x right. refl;
    processes_size = λ xs. refl;
    pages_size = λ xs. refl;
  }

  process-overlay : (p : ℕ) (value : ProcessValue) → side_of cut Process p ≡ Left → value.state ≡ Running → Overlay cut
  process-overlay p value left runs = record {
    processes = λ xs. set xs p value;
    pages = λ xs. xs;
    process_same = λ xs q right. get_or-set_other xs p q value empty_process (other cut Process p q left right);
    process_set = λ xs q x right. set_comm xs q p x value (other cut Process p q left right);
    running = λ xs q own old. each_set (λ (n : ℕ) (x : ProcessValue). (get_or xs n empty_process).state ≡ Running → x.state ≡ Running) xs p value empty_process
        (λ old. runs) (λ n old. old) q old;
    page_same = λ xs n right. refl;
    page_set = λ xs n x right. refl;
    processes_size = λ xs. length-set xs p value;
    pages_size = λ xs. refl;
  }

  page-overlay : (n : ℕ) (page : List ℕ) → side_of cut Page n ≡ Left → Overlay cut
  page-overlay n page left = record {
    processes = λ xs. xs;
    pages = λ xs. set xs n page;
    process_same = λ xs q right. refl;
    process_set = λ xs q x right. refl;
    running = λ xs q own old. old;
    page_same = λ xs m right. get_or-set_other xs n m page empty_page (other cut Page n m left right);
    page_set = λ xs m x right. set_comm xs m n x page (other cut Page n m left right);
    processes_size = λ xs. refl;
    pages_size = λ xs. length-set xs n page;
  }

  -- the function of a rewrite
  pub overlay : (rewrite : Rewrite) → IsPrivate cut rewrite → Overlay cut
  overlay (ProcessIs p value) own = process-overlay p value own.0 own.1
  overlay (PageIs n page) own = page-overlay n page own

  -- which is the rewrite
  pub overlay-is : (rewrite : Rewrite) (own : IsPrivate cut rewrite) (s : State) → over_state cut (overlay rewrite own) s ≡ rewritten s rewrite
  unfolding overlay process-overlay page-overlay
  overlay-is (ProcessIs p value) own s = refl
  overlay-is (PageIs n page) own s = refl
