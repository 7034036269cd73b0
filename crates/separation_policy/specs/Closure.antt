-- The closure of a policy as tables of sets. (Own.)
use Rattle.std.specs.Prelude.{◌≡◌, ℕ, zero, suc, ◌<◌, ◌==◌, ◌&&◌, ◌||◌, nat_lt, Bool, if◌then◌else◌, List, map, length, slice_index_or}
use Rattle.separation_policy.specs.declared.domain_set.DomainSet.{DomainSet}
use Rattle.separation_policy.specs.DomainSet.{no_domains, has_domain, with_domain, both_domains}
use Rattle.separation_policy.specs.Policy.{PolicyValue, domain_at, may_write, reach_below, sees, sees_written, views}

-- three tables with a set for each domain: whom it reads, whom one that it reads writes, and whom its view has
pub record ClosureValue : Type 0 where
  pub reads : List DomainSet
  pub written : List DomainSet
  pub views : List DomainSet

-- the tables, one by one
abbrev pub closure_of : List DomainSet → List DomainSet → List DomainSet → ClosureValue
closure_of reads written views = record { reads = reads; written = written; views = views }

-- whether domain `a` comes to domain `b` by such a table: each comes to itself
abbrev pub row_reaches : List DomainSet → ℕ → ℕ → Bool
row_reaches rows a b = (a == b) || has_domain (slice_index_or rows a no_domains) b

-- whether domain `a` reads domain `b`, by the tables
abbrev pub closure_sees : ClosureValue → ℕ → ℕ → Bool
closure_sees closure a b = row_reaches closure.reads a b

-- whether one that domain `a` reads writes domain `d`
abbrev pub closure_written : ClosureValue → ℕ → ℕ → Bool
closure_written closure a d = nat_lt d (length closure.written) && has_domain (slice_index_or closure.written a no_domains) d

-- whether the view of domain `a` has domain `b`
abbrev pub closure_views : ClosureValue → ℕ → ℕ → Bool
closure_views closure a b = row_reaches closure.views a b

-- the tables say of each domain what the policy does
pub record IsClosure (policy : PolicyValue) (closure : ClosureValue) : Type 0 where
  pub reads : (a b : ℕ) → closure_sees closure a b ≡ sees policy a b
  pub written : (a d : ℕ) → closure_written closure a d ≡ sees_written policy a d
  pub views : (a b : ℕ) → closure_views closure a b ≡ views policy a b

-- a row for each number below `count`, with those to which it comes by way of numbers below `k`
pub record AreReachedBelow (leads : ℕ → ℕ → Bool) (count k : ℕ) (rows : List DomainSet) : Type 0 where
  pub size : length rows ≡ count
  pub each : (a b : ℕ) → a < length rows → has_domain (slice_index_or rows a no_domains) b ≡ reach_below leads k a b

-- a row, with that of domain `k` where it has domain `k`
abbrev pub passed_by : ℕ → DomainSet → DomainSet → DomainSet
passed_by k through row = if has_domain row k then both_domains row through else row

-- all rows, each so
abbrev pub passed : ℕ → List DomainSet → List DomainSet
passed k rows = map (passed_by k (slice_index_or rows k no_domains)) rows

-- all rows, so by way of each number below `k` in turn
unfoldable pub all_passed : ℕ → List DomainSet → List DomainSet
all_passed zero rows = rows
all_passed (suc k) rows = passed k (all_passed k rows)

-- a set with whom domain `k` may write, where it is one of `writers`
abbrev pub writes_too : PolicyValue → DomainSet → ℕ → DomainSet → DomainSet
writes_too policy writers k written = if has_domain writers k then both_domains written (domain_at policy k).writes else written

-- whom those of a set may write that are below `k`
unfoldable pub written_by : PolicyValue → DomainSet → ℕ → DomainSet
written_by policy writers zero = no_domains
written_by policy writers (suc k) = writes_too policy writers k (written_by policy writers k)

-- a row for each domain, with whom those of its row of a table may write
pub record HaveWritten (policy : PolicyValue) (reads rows : List DomainSet) : Type 0 where
  pub size : length rows ≡ length reads
  pub each : (a : ℕ) → a < length rows → slice_index_or rows a no_domains ≡ written_by policy (slice_index_or reads a no_domains) (length policy.domains)

-- a row of domain `a` with domain `k` too, where that may write it or be written by it
abbrev pub linked_by : PolicyValue → ℕ → ℕ → DomainSet → DomainSet
linked_by policy a k row = if may_write policy a k || may_write policy k a then with_domain row k else row

-- domain `a` with those that it may read, and with those below `k` that it may write or that may write it
unfoldable pub linked_below : PolicyValue → ℕ → ℕ → DomainSet
linked_below policy a zero = with_domain (domain_at policy a).reads a
linked_below policy a (suc k) = linked_by policy a k (linked_below policy a k)
