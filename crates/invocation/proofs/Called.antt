-- What is reached through a capability, by its kind.
use Rattle.std.proofs.Common.{◌≡◌, ◌≢◌, refl, sym, ap, ◌∙◌}
use Rattle.cap_format.specs.declared.kind.CapKind.{CapKind}
use Rattle.cap_format.specs.declared.kind.CapKind.TheVariants.{Entry}
use Rattle.cap_format.specs.Capability.{Capability, bare}
use Rattle.object_store.specs.Store.{Items, Store}
use Rattle.object_store.specs.Meaning.{live, meaning}
use Rattle.object_store.proofs.Live.{bare-live}
use Rattle.invocation.specs.declared.callee.Callee.{Callee}
use Rattle.invocation.specs.declared.callee.Callee.TheVariants.{Kernel}
use Rattle.invocation.specs.Answerer.{Answer, answered, answerer, entered}
use Rattle.invocation.specs.Answerer.Answer.{Dead, Open, Busy}
use Rattle.invocation.specs.Target.{called_by, called, callee, bare_callee, answer_of}

-- what is no entry reaches the kernel
called_kernel : (m : Store) (kind : CapKind) (c : Capability) → kind ≢ Entry → called m kind c ≡ Kernel c
called_kernel m Entry c other = absurd (other refl)
called_kernel m kind c other = refl

-- .. and has nobody who answers
answered_nobody : (m : Store) (kind : CapKind) (c : Capability) → kind ≢ Entry → answered m kind c ≡ Dead
answered_nobody m Entry c other = absurd (other refl)
answered_nobody m kind c other = refl

-- the same of a capability of the map
callee_kernel : (m : Store) (c : Capability) → c.kind ≢ Entry → callee m c ≡ Kernel c
unfolding callee
callee_kernel m c other = called_kernel m c.kind c other

answerer_nobody : (m : Store) (c : Capability) → c.kind ≢ Entry → answerer m c ≡ Dead
unfolding answerer
answerer_nobody m c other = answered_nobody m c.kind c other

-- an entry reaches who answers it
callee_entry : (m : Store) (c : Capability) → c.kind ≡ Entry → callee m c ≡ called_by (entered m c.object c.payload)
unfolding callee
callee_entry m c is = rw is refl

answerer_entry : (m : Store) (c : Capability) → c.kind ≡ Entry → answerer m c ≡ entered m c.object c.payload
unfolding answerer
answerer_entry m c is = rw is refl

-- who answers has no count
bare_called_by : (a : Answer) → bare_callee (called_by a) ≡ called_by a
bare_called_by Dead = refl
bare_called_by (Open e q) = refl
bare_called_by (Busy q) = refl

-- who answers, as a callee and back
answer_of-called_by : (a : Answer) → answer_of (called_by a) ≡ a
answer_of-called_by Dead = refl
answer_of-called_by (Open e q) = refl
answer_of-called_by (Busy q) = refl

-- ---- for a capability that is `r` as it is live

module _ (m : Store) (o : Items) (c r : Capability) (r_is : r ≡ live o c) where
  means : bare r ≡ meaning o c
  means = ap bare r_is ∙ bare-live o c

  -- what is no entry reaches the kernel, with the capability or its meaning
  pub kernel_value : r.kind ≢ Entry → Kernel r ≡ callee m (live o c)
  kernel_value other = sym (callee_kernel m r other) ∙ ap (callee m) r_is

  pub kernel_means : r.kind ≢ Entry → Kernel (bare r) ≡ callee m (meaning o c)
  kernel_means other = sym (callee_kernel m (bare r) other) ∙ ap (callee m) means

  pub nobody_answers : r.kind ≢ Entry → Dead ≡ answerer m (meaning o c)
  nobody_answers other = sym (answerer_nobody m (bare r) other) ∙ ap (answerer m) means

  -- an entry reaches who answers it
  module _ (x : Callee) (is : r.kind ≡ Entry) (x_is : x ≡ called_by (entered m r.object r.payload)) where
    pub entry_value : x ≡ callee m (live o c)
    entry_value = x_is ∙ (sym (callee_entry m r is) ∙ ap (callee m) r_is)

    pub entry_means : bare_callee x ≡ callee m (meaning o c)
    entry_means = ap bare_callee x_is ∙ (bare_called_by (entered m r.object r.payload) ∙ (sym (callee_entry m (bare r) is) ∙ ap (callee m) means))

    pub entry_answer : answer_of x ≡ answerer m (meaning o c)
    entry_answer = ap answer_of x_is ∙ (answer_of-called_by (entered m r.object r.payload) ∙ (sym (answerer_entry m (bare r) is) ∙ ap (answerer m) means))
