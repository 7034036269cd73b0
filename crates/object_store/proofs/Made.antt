-- What a capability means that was made of another or of an object's number, whether it is live, and that it is not ahead.
use Rattle.std.proofs.Common.{◌≡◌, ℕ, ◌<◌, true, if◌then◌else◌, refl, sym, ap, ◌∙◌, arith}
use Rattle.std.proofs.lemmas.Bool.{and_from, lt-ltb, eq-eqb}
use Rattle.cap_format.specs.declared.kind.CapKind.{CapKind}
use Rattle.cap_format.specs.declared.kind.CapKind.TheVariants.{Page, CapPage, Gpt, Endpoint, Process}
use Rattle.cap_format.specs.Kind.{is_object}
use Rattle.cap_format.specs.Guard.{GuardValue}
use Rattle.cap_format.specs.Capability.{Capability, null, bare, to_object, entry, with_guard}
use Rattle.cap_format.specs.Weakening.{reduced, weakened}
use Rattle.object_store.specs.Store.{Items, counts_of, size_of, count_of}
use Rattle.object_store.specs.Meaning.{is_current, is_live, meaning}
use Rattle.object_store.specs.Ahead.{IsBehind}
use Rattle.object_store.proofs.Live.{meaning_live, meaning-weakened, IsBehind-is_live, IsBehind-weakened}

-- ---- of another capability

-- more restrictions on a live capability are more restrictions on its meaning
pub meaning_reduced : (o : Items) (c : Capability) (more : ℕ) → is_live o c ≡ true → meaning o (reduced c more) ≡ reduced (meaning o c) more
meaning_reduced o c more is = ap (λ b. if b then bare (reduced c more) else null) is ∙ ap (λ m. reduced m more) (sym (meaning_live o c is))

-- another guard on a live capability is another guard on its meaning
pub meaning_guarded : (o : Items) (c : Capability) (guard : GuardValue) → is_live o c ≡ true → meaning o (with_guard c guard) ≡ with_guard (meaning o c) guard
meaning_guarded o c guard is = ap (λ b. if b then bare (with_guard c guard) else null) is ∙ ap (λ m. with_guard m guard) (sym (meaning_live o c is))

-- what is left of a capability behind WK is what is left of its meaning, whether it is live or not
pub meaning_weakened : (o : Items) (c : Capability) → meaning o (weakened c) ≡ weakened (meaning o c)
meaning_weakened o c = meaning-weakened o c

-- it is not ahead, where the capability was not
pub behind_weakened : (o : Items) (c : Capability) → IsBehind o c → IsBehind o (weakened c)
behind_weakened o c behind = IsBehind-weakened o c behind

-- ---- of a kind that names no object

-- ---- of an object

-- the count of an object that is there is current
current_of : (o : Items) (kind : CapKind) (n : ℕ) → n < size_of o kind → is_current (counts_of o.counts kind) n (count_of o kind n) ≡ true
current_of o kind n there = and_from _ _ (lt-ltb n (size_of o kind) there) (eq-eqb (count_of o kind n) (count_of o kind n) refl)

-- an entry made of an endpoint that is there is live
pub is_live_entry : (o : Items) (e payload : ℕ) → e < size_of o Endpoint → is_live o (entry e (count_of o Endpoint e) payload) ≡ true
is_live_entry o e payload there = current_of o Endpoint e there

-- it means the entry of the abstract machine
pub meaning_entry : (o : Items) (e payload : ℕ) → e < size_of o Endpoint → meaning o (entry e (count_of o Endpoint e) payload) ≡ entry e 0 payload
meaning_entry o e payload there = meaning_live o (entry e (count_of o Endpoint e) payload) (is_live_entry o e payload there)

-- a capability to a process that is there is live
pub is_live_process : (o : Items) (p : ℕ) → p < size_of o Process → is_live o (to_object Process p (count_of o Process p)) ≡ true
is_live_process o p there = current_of o Process p there

-- it means the capability to that process of the abstract machine
pub meaning_process : (o : Items) (p : ℕ) → p < size_of o Process → meaning o (to_object Process p (count_of o Process p)) ≡ to_object Process p 0
meaning_process o p there = meaning_live o (to_object Process p (count_of o Process p)) (is_live_process o p there)

-- it is not ahead
pub behind_process : (o : Items) (p : ℕ) → p < size_of o Process → IsBehind o (to_object Process p (count_of o Process p))
behind_process o p there = IsBehind-is_live o (to_object Process p (count_of o Process p)) (is_live_process o p there)

-- the same for each of the five kinds of objects: it is live
pub is_live_object : (o : Items) (kind : CapKind) (n : ℕ) → is_object kind ≡ true → n < size_of o kind → is_live o (to_object kind n (count_of o kind n)) ≡ true
is_live_object o Page n is there = current_of o Page n there
is_live_object o CapPage n is there = current_of o CapPage n there
is_live_object o Gpt n is there = current_of o Gpt n there
is_live_object o Endpoint n is there = current_of o Endpoint n there
is_live_object o Process n is there = current_of o Process n there
is_live_object o kind n is there = absurd (omega (arith, there))

-- it means the capability to the object of the abstract machine
pub meaning_object : (o : Items) (kind : CapKind) (n : ℕ) → is_object kind ≡ true → n < size_of o kind → meaning o (to_object kind n (count_of o kind n)) ≡ to_object kind n 0
meaning_object o kind n is there = meaning_live o (to_object kind n (count_of o kind n)) (is_live_object o kind n is there)
