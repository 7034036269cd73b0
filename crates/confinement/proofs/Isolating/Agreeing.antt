-- Agreement on one side: the same write in both systems leaves them agreeing, whoever's the object is that is written.
use Rattle.std.proofs.Common.{◌≡◌, ℕ, zero, suc, List, [], ◌∷◌, length, get_or, set, refl, sym, ◌∙◌, ap₂, length-set}
use Rattle.cap_format.specs.declared.kind.CapKind.{CapKind}
use Rattle.cap_format.specs.declared.kind.CapKind.TheVariants.{Page, CapPage, Gpt, Endpoint, Process}
use Rattle.cap_format.specs.Capability.{Capability}
use Rattle.gpt_objects.specs.Gpt.{GptValue, empty_gpt}
use Rattle.page_store.specs.Page.{empty_page}
use Rattle.page_store.specs.CapPage.{empty_cappage}
use Rattle.process_objects.specs.Process.{ProcessValue, empty_process}
use Rattle.endpoint_objects.specs.declared.endpoint.Endpoint.{Endpoint as EndpointValue}
use Rattle.endpoint_objects.specs.Endpoint.{empty_endpoint}
use Rattle.object_store.specs.Store.{count_of, gpt_at, page_at, cappage_at, process_at, endpoint_at, set_gpt, with_items, with_page, with_cappage, with_process, with_endpoint}
use Rattle.object_store.specs.Object.{SameObject}
use Rattle.object_store.specs.Object.ObjectValue.{OfPage, OfCapPage, OfGpt, OfProcess, OfEndpoint}
use Rattle.schedules.specs.Queues.{QueuesValue, sleepers_of}
use Rattle.operations.specs.System.{System, system, with_store}
use Rattle.confinement.specs.declared.cut_side.CutSide.{CutSide}
use Rattle.confinement.specs.Cut.{Cut, side_of}
use Rattle.confinement.specs.Acts.{SameSizes}
use Rattle.confinement.specs.isolation.Agree.{Agree}

-- the same write in two lists of one length leaves an element alike where it was
pub set_both : {A : Type 0} (xs zs : List A) (i j : ℕ) (y d : A) → length xs ≡ length zs → get_or xs j d ≡ get_or zs j d
    → get_or (set xs i y) j d ≡ get_or (set zs i y) j d
set_both [] [] i j y d long same = same
set_both [] (z ∷ zs) i j y d long same = absurd (cc (long))
set_both (x ∷ xs) [] i j y d long same = absurd (cc (long))
set_both (x ∷ xs) (z ∷ zs) zero zero y d long same = refl
set_both (x ∷ xs) (z ∷ zs) zero (suc j) y d long same = same
set_both (x ∷ xs) (z ∷ zs) (suc i) zero y d long same = same
set_both (x ∷ xs) (z ∷ zs) (suc i) (suc j) y d long same = set_both xs zs i j y d (cc (long)) same

-- and writes anywhere leave the lists of one length
pub set_long : {A : Type 0} (xs zs : List A) (i : ℕ) (x z : A) → length xs ≡ length zs → length (set xs i x) ≡ length (set zs i z)
set_long xs zs i x z long = length-set xs i x ∙ (long ∙ sym (length-set zs i z))

module _ (cut : Cut) (side : CutSide) (w v : System) (agree : Agree cut side w v) where
  sizes : SameSizes w v
  sizes = agree.sizes

  -- ---- what is read of this side

  -- an age
  pub same-count : (kind : CapKind) (n : ℕ) → side_of cut kind n ≡ side → count_of w.store.items kind n ≡ count_of v.store.items kind n
  same-count Page n own = let e = agree.same Page n own in cc (e)
  same-count CapPage n own = let e = agree.same CapPage n own in cc (e)
  same-count Gpt n own = let e = agree.same Gpt n own in cc (e)
  same-count Endpoint n own = let e = agree.same Endpoint n own in cc (e)
  same-count Process n own = let e = agree.same Process n own in cc (e)
  same-count _ n own = refl

  -- a page
  pub same-page : (n : ℕ) → side_of cut Page n ≡ side → page_at w.store n ≡ page_at v.store n
  same-page n own = let e = agree.same Page n own in cc (e)

  -- a capability page
  pub same-cappage : (n : ℕ) → side_of cut CapPage n ≡ side → cappage_at w.store n ≡ cappage_at v.store n
  same-cappage n own = let e = agree.same CapPage n own in cc (e)

  -- a GPT
  pub same-gpt : (g : ℕ) → side_of cut Gpt g ≡ side → gpt_at w.store.items g ≡ gpt_at v.store.items g
  same-gpt g own = let e = agree.same Gpt g own in cc (e)

  -- an endpoint
  pub same-endpoint : (e : ℕ) → side_of cut Endpoint e ≡ side → endpoint_at w.store e ≡ endpoint_at v.store e
  same-endpoint n own = let e = agree.same Endpoint n own in cc (e)

  -- a process
  pub same-process : (p : ℕ) → side_of cut Process p ≡ side → process_at w.store p ≡ process_at v.store p
  same-process p own = let e = agree.same Process p own in cc (e)

  -- ---- what is written

  -- a process
  pub agree-process : (p : ℕ) (x : ProcessValue) → Agree cut side (with_store w (with_process w.store p x)) (with_store v (with_process v.store p x))
  agree-process p x = record {
    same = by;
    sleepers = agree.sleepers;
    sizes = record {
      pages = sizes.pages;
      cappages = sizes.cappages;
      gpts = sizes.gpts;
      endpoints = sizes.endpoints;
      sleepers = sizes.sleepers;
      processes = set_long w.store.contents.processes v.store.contents.processes p x x sizes.processes;
    };
  }
    where
      by : (kind : CapKind) (n : ℕ) → side_of cut kind n ≡ side → SameObject kind n (with_process w.store p x) (with_process v.store p x)
      by Process n own =
          ap₂ OfProcess (same-count Process n own)
          (set_both w.store.contents.processes v.store.contents.processes p n x empty_process sizes.processes (same-process n own))
      by kind n own = agree.same kind n own

  -- a page
  pub agree-page : (p : ℕ) (x : List ℕ) → Agree cut side (with_store w (with_page w.store p x)) (with_store v (with_page v.store p x))
  agree-page p x = record {
    same = by;
    sleepers = agree.sleepers;
    sizes = record {
      cappages = sizes.cappages;
      gpts = sizes.gpts;
      processes = sizes.processes;
      endpoints = sizes.endpoints;
      sleepers = sizes.sleepers;
      pages = set_long w.store.contents.pages v.store.contents.pages p x x sizes.pages;
    };
  }
    where
      by : (kind : CapKind) (n : ℕ) → side_of cut kind n ≡ side → SameObject kind n (with_page w.store p x) (with_page v.store p x)
      by Page n own =
          ap₂ OfPage (same-count Page n own) (set_both w.store.contents.pages v.store.contents.pages p n x empty_page sizes.pages (same-page n own))
      by kind n own = agree.same kind n own

  -- a capability page
  pub agree-cappage : (p : ℕ) (x : List Capability) → Agree cut side (with_store w (with_cappage w.store p x)) (with_store v (with_cappage v.store p x))
  agree-cappage p x = record {
    same = by;
    sleepers = agree.sleepers;
    sizes = record {
      pages = sizes.pages;
      gpts = sizes.gpts;
      processes = sizes.processes;
      endpoints = sizes.endpoints;
      sleepers = sizes.sleepers;
      cappages = set_long w.store.contents.cappages v.store.contents.cappages p x x sizes.cappages;
    };
  }
    where
      by : (kind : CapKind) (n : ℕ) → side_of cut kind n ≡ side → SameObject kind n (with_cappage w.store p x) (with_cappage v.store p x)
      by CapPage n own =
          ap₂ OfCapPage (same-count CapPage n own)
          (set_both w.store.contents.cappages v.store.contents.cappages p n x empty_cappage sizes.cappages (same-cappage n own))
      by kind n own = agree.same kind n own

  -- a GPT
  pub agree-gpt : (g : ℕ) (x : GptValue) → Agree cut side (with_store w (with_items w.store (set_gpt w.store.items g x))) (with_store v (with_items v.store (set_gpt v.store.items g x)))
  agree-gpt g x = record {
    same = by;
    sleepers = agree.sleepers;
    sizes = record {
      pages = sizes.pages;
      cappages = sizes.cappages;
      processes = sizes.processes;
      endpoints = sizes.endpoints;
      sleepers = sizes.sleepers;
      gpts = set_long w.store.items.gpts v.store.items.gpts g x x sizes.gpts;
    };
  }
    where
      by : (kind : CapKind) (n : ℕ) → side_of cut kind n ≡ side
          → SameObject kind n (with_items w.store (set_gpt w.store.items g x)) (with_items v.store (set_gpt v.store.items g x))
      by Gpt n own = ap₂ OfGpt (same-count Gpt n own) (set_both w.store.items.gpts v.store.items.gpts g n x empty_gpt sizes.gpts (same-gpt n own))
      by kind n own = agree.same kind n own

  -- an endpoint
  pub agree-endpoint : (e : ℕ) (x : EndpointValue) → Agree cut side (with_store w (with_endpoint w.store e x)) (with_store v (with_endpoint v.store e x))
  agree-endpoint e x = record {
    same = by;
    sleepers = agree.sleepers;
    sizes = record {
      pages = sizes.pages;
      cappages = sizes.cappages;
      gpts = sizes.gpts;
      processes = sizes.processes;
      sleepers = sizes.sleepers;
      endpoints = set_long w.store.contents.endpoints v.store.contents.endpoints e x x sizes.endpoints;
    };
  }
    where
      by : (kind : CapKind) (n : ℕ) → side_of cut kind n ≡ side → SameObject kind n (with_endpoint w.store e x) (with_endpoint v.store e x)
      by Endpoint n own =
          ap₂ OfEndpoint (same-count Endpoint n own)
          (set_both w.store.contents.endpoints v.store.contents.endpoints e n x empty_endpoint sizes.endpoints (same-endpoint n own))
      by kind n own = agree.same kind n own

  -- queues in which the same sleep on this side's processes
  pub agree-queues : (q r : QueuesValue) → ((p : ℕ) → side_of cut Process p ≡ side → sleepers_of q p ≡ sleepers_of r p) → length q.sleepers ≡ length r.sleepers
      → Agree cut side (system w.store q) (system v.store r)
  agree-queues q r sleep long = record {
    same = agree.same;
    sleepers = sleep;
    sizes = record { pages = sizes.pages; cappages = sizes.cappages; gpts = sizes.gpts; processes = sizes.processes; endpoints = sizes.endpoints; sleepers = long };
  }
