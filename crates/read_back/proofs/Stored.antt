-- Objects that a listing can say: their sizes are within their limits, and each number below its size has its object.
use Rattle.std.proofs.Common.{ℕ, ◌<◌, length, arith}
use Rattle.cap_format.specs.declared.kind.CapKind.TheVariants as kinds
use Rattle.object_store.specs.Store.{Store, sizes_of, size_of}
use Rattle.object_store.specs.Ranges.{IsWithinLimits}
use Rattle.read_back.specs.Listable.{IsListable}

module _ (s : Store) (is : IsListable s) where
  -- the sizes
  pub limits : IsWithinLimits (sizes_of s)
  limits = record {
    some_hart = is.store.sized.some_hart;
    harts = is.store.sized.most_harts;
    pages = is.store.ranged.counts.pages.size;
    cappages = is.store.ranged.counts.cappages.size;
    gpts = is.store.ranged.counts.gpts.size;
    processes = is.store.ranged.counts.processes.size;
    endpoints = is.store.ranged.counts.endpoints.size;
  }

  -- what stands at a number
  pub page_is : (n : ℕ) → n < size_of s.items kinds.Page → n < length s.contents.pages
  page_is n there = omega (arith, is.store.sized.pages)

  pub cappage_is : (n : ℕ) → n < size_of s.items kinds.CapPage → n < length s.contents.cappages
  cappage_is n there = omega (arith, is.store.sized.cappages)

  pub gpt_is : (n : ℕ) → n < size_of s.items kinds.Gpt → n < length s.items.gpts
  gpt_is n there = omega (arith, is.store.ranged.each)

  pub endpoint_is : (n : ℕ) → n < size_of s.items kinds.Endpoint → n < length s.contents.endpoints
  endpoint_is n there = omega (arith, is.store.sized.endpoints)

  pub process_is : (n : ℕ) → n < size_of s.items kinds.Process → n < length s.contents.processes
  process_is n there = omega (arith, is.store.sized.processes)
