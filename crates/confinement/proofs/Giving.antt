-- What a message makes of the capability registers of its receiver: each is the same, or holds one of what is given.
use Rattle.std.proofs.Common.{◌≡◌, ℕ, ◌⊎◌, inl, inr, Bool, true, false, ◌==◌, if◌then◌else◌, List, [], ◌∷◌, get_or, set, refl, ◌∙◌, subst}
use Rattle.cap_format.specs.Capability.{Capability, null}
use Rattle.process_objects.specs.Process.{ProcessValue, capreg_of, with_capreg}
use Rattle.endpoint_objects.specs.declared.endpoint.Endpoint.{Endpoint as EndpointValue}
use Rattle.endpoint_objects.specs.Endpoint.{raised}
use Rattle.invocation.specs.declared.message.Message.{Message}
use Rattle.invocation.specs.Delivery.{passed, accepted, accepting, number_given, told_process, given, received}
use Rattle.confinement.proofs.Sleeping.{each_set}

-- a message leaves the recipient
pub passed-recipient : (v : EndpointValue) → (passed v).recipient ≡ v.recipient
passed-recipient v = by v.matching
  where
    by : (b : Bool) → (if b then raised v else v).recipient ≡ v.recipient
    by true = refl
    by false = refl

-- a process with other registers and capability registers
pub record SameRest (x y : ProcessValue) : Type 0 where
  pub pc : x.pc ≡ y.pc
  pub slots : x.slots ≡ y.slots
  pub state : x.state ≡ y.state

given-rest : (v : ProcessValue) (is : List ℕ) (caps : List Capability) → SameRest v (given v is caps)
unfolding given
given-rest v [] caps = record { pc = refl; slots = refl; state = refl }
given-rest v (i ∷ is) [] = record { pc = refl; slots = refl; state = refl }
given-rest v (i ∷ is) (c ∷ caps) =
    let rest = given-rest (with_capreg v i c) is caps in
    record { pc = rest.pc; slots = rest.slots; state = rest.state }

told-rest : (v w : ProcessValue) (id number : ℕ) (message : Message)
    → SameRest (told_process v id number message) w → SameRest v w
unfolding told_process
told-rest v w id number message rest = record { pc = rest.pc; slots = rest.slots; state = rest.state }

-- the receiver of a message has its pc, its slots and its state
pub received-rest : (v : ProcessValue) (id : ℕ) (message : Message) → SameRest v (received v id message)
unfolding received
received-rest v id message =
    let accept = accepted v.state in
    let number = number_given accept message.caps in
    told-rest v (received v id message) id number message
    (given-rest (told_process v id number message) (accepting accept) message.caps)

module _ (P : Capability → Type 0) where
  -- all of these capabilities are such
  abbrev pub AllAre : List Capability → Type 0
  AllAre [] = Unit {0}
  AllAre (c ∷ cs) = P c × AllAre cs

  -- each capability register is the same, or holds such
  abbrev pub RegistersGain : ProcessValue → ProcessValue → Type 0
  RegistersGain v w = (j : ℕ) → (capreg_of v j ≡ capreg_of w j) ⊎ P (capreg_of w j)

  pub gain-then : (x y z : Capability) → (x ≡ y) ⊎ P y → (y ≡ z) ⊎ P z → (x ≡ z) ⊎ P z
  gain-then x y z first (inr gained) = inr gained
  gain-then x y z (inl same) (inl same2) = inl (same ∙ same2)
  gain-then x y z (inr gained) (inl same2) = inr (subst P same2 gained)

  -- one is written
  pub gains-capreg : (v : ProcessValue) (i : ℕ) (c : Capability) → P c → RegistersGain v (with_capreg v i c)
  gains-capreg v i c is j = by (i == 0)
    where
      by : (b : Bool) → (capreg_of v j ≡ get_or (if b then v.capregs else set v.capregs i c) j null)
          ⊎ P (get_or (if b then v.capregs else set v.capregs i c) j null)
      by true = inl refl
      by false =
          each_set (λ n (x : Capability). (capreg_of v n ≡ x) ⊎ P x) v.capregs i c null (inr is) (λ n. inl refl) j

  gains-given : (v : ProcessValue) (is : List ℕ) (caps : List Capability) → AllAre caps → RegistersGain v (given v is caps)
  unfolding given
  gains-given v [] caps all j = inl refl
  gains-given v (i ∷ is) [] all j = inl refl
  gains-given v (i ∷ is) (c ∷ caps) all j =
      let next = with_capreg v i c in
      gain-then (capreg_of v j) (capreg_of next j) (capreg_of (given next is caps) j)
      (gains-capreg v i c all.0 j) (gains-given next is caps all.1 j)

  gains-told : (v w : ProcessValue) (id number : ℕ) (message : Message)
      → RegistersGain (told_process v id number message) w → RegistersGain v w
  unfolding told_process
  gains-told v w id number message gains j = gains j

  -- those of the receiver of a message
  pub gains-received : (v : ProcessValue) (id : ℕ) (message : Message) → AllAre message.caps → RegistersGain v (received v id message)
  unfolding received
  gains-received v id message all =
      let accept = accepted v.state in
      let number = number_given accept message.caps in
      gains-told v (received v id message) id number message
      (gains-given (told_process v id number message) (accepting accept) message.caps all)
