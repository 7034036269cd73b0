-- Who comes to an object by capabilities. It is looked at in the model's map, where a capability that is dead is Null, and so names
-- nothing. (Reachability in a protection graph; that one process alone comes to an object is what escape analysis asks of data.)
use Rattle.std.specs.Prelude.{ℕ, zero, suc, ◌==◌, Bool, false, ◌&&◌, if◌then◌else◌, List, [], ◌∷◌, ◌++◌, length}
use Rattle.cap_format.specs.declared.kind.CapKind.{CapKind}
use Rattle.cap_format.specs.declared.kind.CapKind.TheVariants.{Gpt}
use Rattle.cap_format.specs.Kind.{number_of, is_counted, object_kind}
use Rattle.cap_format.specs.Capability.{Capability}
use Rattle.object_store.specs.Store.{Store, gpt_at, cappage_at, process_at}
use Rattle.quiet_runs.specs.declared.reached_by.ReachedBy.{ReachedBy}
use Rattle.quiet_runs.specs.declared.reached_by.ReachedBy.TheVariants.{Nobody, Alone, Several}

-- those of two groups together
abbrev pub joined : ReachedBy → ReachedBy → ReachedBy
joined Nobody b = b
joined (Alone p) Nobody = Alone p
joined (Alone p) (Alone q) = if p == q then Alone p else Several
joined (Alone p) Several = Several
joined Several b = Several

-- those of all groups below `n`
unfoldable pub joined_below : (ℕ → ReachedBy) → ℕ → ReachedBy
joined_below by zero = Nobody
joined_below by (suc n) = joined (joined_below by n) (by n)

-- a capability names object `n` of a kind; an entry names its endpoint
abbrev pub names : Capability → CapKind → ℕ → Bool
names c kind n = is_counted c.kind && ((number_of (object_kind c.kind) == number_of kind) && (c.object == n))

-- who comes to an object by capabilities that these hold
unfoldable pub through : ReachedBy → List Capability → CapKind → ℕ → ReachedBy
through by [] kind n = Nobody
through by (c ∷ cs) kind n = joined (if names c kind n then by else Nobody) (through by cs kind n)

-- the capabilities of a process: its slots and its capability registers
abbrev pub caps_of : Store → ℕ → List Capability
caps_of s p = (process_at s p).slots ++ (process_at s p).capregs

-- who holds a capability to an object: each process by itself, and whoever comes to a capability page. The recipient of an endpoint
-- counts for nobody.
abbrev pub held_by : Store → CapKind → ℕ → ReachedBy
held_by s kind n = joined
    (joined_below (λ p. through (Alone p) (caps_of s p) kind n) (length s.contents.processes))
    (joined_below (λ c. through Several (cappage_at s c) kind n) (length s.contents.cappages))

-- who comes to an object through at most `most` GPTs
unfoldable pub reached_within : ℕ → Store → CapKind → ℕ → ReachedBy
reached_within zero s kind n = held_by s kind n
reached_within (suc most) s kind n = joined (held_by s kind n)
    (joined_below (λ g. through (reached_within most s Gpt g) (gpt_at s.items g).slots kind n) (length s.items.gpts))

-- who comes to an object: a way goes through no GPT twice
abbrev pub reached_by : Store → CapKind → ℕ → ReachedBy
reached_by s kind n = reached_within (length s.items.gpts) s kind n

-- it is this process, and nobody else
abbrev pub is_alone : ℕ → ReachedBy → Bool
is_alone p (Alone q) = p == q
is_alone p _ = false
