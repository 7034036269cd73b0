-- Links after a record is taken and after one is noted.
use Rattle.std.proofs.Common.{◌≡◌, ◌≢◌, ◌⊎◌, inl, inr, ℕ, ◌+◌, ◌<◌, Option, Some, None, refl, sym, ap, ◌∙◌, subst, arith}
use Rattle.std.proofs.lemmas.Bool.Decides.{eqb_tells}
use Rattle.cap_format.specs.Item.{IsItem}
use Rattle.depend_table.specs.declared.chain.Chain.{Chain}
use Rattle.depend_table.specs.declared.chain.Node.{Node}
use Rattle.depend_table.specs.Place.{place_of}
use Rattle.depend_table.specs.Chain.{IsChain, IsLinked, Leads, record_of}

-- two keys are one or not
pub one_or_not : (j k : ℕ) → (j ≡ k) ⊎ (j ≢ k)
one_or_not j k = elim (eqb_tells j k) [
  | inl same ↦ inl same.1
  | inr other ↦ inr other.1
]

-- the first node of a chain, where there is one
pub first_of : (node : ℕ → Option Node) (place length : ℕ) (first : Option ℕ) (key : ℕ) → first ≡ Some key → Leads node place length first → (n : Node) × ((node key ≡ Some n) × ((place_of n.item ≡ place) × (length ≡ n.rest.length + 1)))
first_of node place length None key is leads = absurd (cc)
first_of node place length (Some k) key is leads = let same : k ≡ key = cc in
    let P : ℕ → Type 0 = λ j. (n : Node) × ((node j ≡ Some n) × ((place_of n.item ≡ place) × (length ≡ n.rest.length + 1))) in
    subst P same leads

-- a chain of no record has none
pub none_left : (length : ℕ) (node : ℕ → Option Node) (place : ℕ) (first : Option ℕ) → first ≡ None → Leads node place length first → length ≡ 0
none_left length node place None is leads = leads
none_left length node place (Some k) is leads = absurd (cc)

-- a chain whose first node stays is one still
leads_on : (node other : ℕ → Option Node) (place length : ℕ) (first : Option ℕ) → ((key : ℕ) (n : Node) → node key ≡ Some n → place_of n.item ≡ place → length ≡ n.rest.length + 1 → other key ≡ Some n) → Leads node place length first → Leads other place length first
leads_on node other place length None stays leads = leads
leads_on node other place length (Some key) stays leads =
    let n = leads.0 in
    (n, (stays key n leads.1.0 leads.1.1.0 leads.1.1.1, leads.1.1))

module _ (node less : ℕ → Option Node) (chain after : ℕ → Chain) (key : ℕ) (m : Node)
    (linked : IsLinked node chain) (at : node key ≡ Some m) (first : (chain (place_of m.item)).first ≡ Some key)
    (gone : less key ≡ None) (others : (k : ℕ) → k ≢ key → less k ≡ node k)
    (rest : after (place_of m.item) ≡ m.rest) (chains : (place : ℕ) → place ≢ place_of m.item → after place ≡ chain place) where
  -- a node that is left was there, under another key
  left : (k : ℕ) (n : Node) → less k ≡ Some n → (k ≢ key) × (node k ≡ Some n)
  left k n is = elim (one_or_not k key) [
    | inl same ↦ absurd (let here : less k ≡ None = ap less same ∙ gone in cc)
    | inr differs ↦ (differs, sym (others k differs) ∙ is)
  ]

  stays : (k : ℕ) (n : Node) → node k ≡ Some n → k ≢ key → less k ≡ Some n
  stays k n is differs = others k differs ∙ is

  -- the chain of the item had one record more than the rest
  pub one_more : (chain (place_of m.item)).length ≡ m.rest.length + 1
  one_more =
      let n = first_of node (place_of m.item) (chain (place_of m.item)).length (chain (place_of m.item)).first key first (linked.chains (place_of m.item)) in
      let same : n.0 ≡ m = cc in
      n.1.1.1 ∙ ap (λ (x : Node). x.rest.length + 1) same

  -- a node of the item with this height is the one that is taken
  height : (k : ℕ) (n : Node) → node k ≡ Some n → place_of n.item ≡ place_of m.item → k ≢ key → n.rest.length < m.rest.length
  height k n is place differs =
      let low = linked.within k n is in
      let here : n.rest.length < (chain (place_of m.item)).length = rw place at low in
      let apart : n.rest.length ≢ m.rest.length = λ same. differs (linked.apart k key n m is at place same) in
      omega (arith, here, one_more, apart)

  pub linked-taken : IsLinked less after
  linked-taken = record {
    items = λ k n is. linked.items k n (left k n is).1;
    chains = chains';
    rests = λ k n is. rests' k n (left k n is).0 (left k n is).1;
    within = λ k n is. within' k n (left k n is).0 (left k n is).1;
    apart = λ j k a b isa isb. linked.apart j k a b (left j a isa).1 (left k b isb).1;
    once = λ j k a b isa isb. linked.once j k a b (left j a isa).1 (left k b isb).1;
  }
    where
      chains' : (place : ℕ) → IsChain less place (after place)
      chains' place = elim (one_or_not place (place_of m.item)) [
        | inl same ↦
            let P : Chain → Type 0 = λ c. IsChain less place c in
            let Q : ℕ → Type 0 = λ p. IsChain less p m.rest in
            subst P (sym (ap after same ∙ rest)) (subst Q (sym same) own)
        | inr differs ↦
            let P : Chain → Type 0 = λ c. IsChain less place c in
            subst P (sym (chains place differs)) (leads_on node less place (chain place).length (chain place).first (λ k n is at' long. stays k n is (λ same. differs (sym at' ∙ ap (λ (x : Node). place_of x.item) (one n k is same)))) (linked.chains place))
      ]
        where
          one : (n : Node) (k : ℕ) → node k ≡ Some n → k ≡ key → n ≡ m
          one n k is same = let here : node k ≡ Some m = ap node same ∙ at in cc

          own : IsChain less (place_of m.item) m.rest
          own = leads_on node less (place_of m.item) m.rest.length m.rest.first (λ k n is at' long. stays k n is (λ same. let here : n.rest.length ≡ m.rest.length = ap (λ (x : Node). x.rest.length) (one n k is same) in omega (arith, here, long))) (linked.rests key m at)

      rests' : (k : ℕ) (n : Node) → k ≢ key → node k ≡ Some n → IsChain less (place_of n.item) n.rest
      rests' k n differs is = leads_on node less (place_of n.item) n.rest.length n.rest.first (λ j a isa place long. stays j a isa (λ same.
          let here : node j ≡ Some m = ap node same ∙ at in
          let one : a ≡ m = cc in
          let taller : n.rest.length ≡ m.rest.length + 1 = long ∙ ap (λ (x : Node). x.rest.length + 1) one in
          let low = height k n is (sym place ∙ ap (λ (x : Node). place_of x.item) one) differs in
          omega (arith, taller, low))) (linked.rests k n is)

      within' : (k : ℕ) (n : Node) → k ≢ key → node k ≡ Some n → n.rest.length < (after (place_of n.item)).length
      within' k n differs is = elim (one_or_not (place_of n.item) (place_of m.item)) [
        | inl same ↦
            let low = height k n is same differs in
            let now : (after (place_of n.item)).length ≡ m.rest.length = ap (λ (p : ℕ). (after p).length) same ∙ ap (λ (c : Chain). c.length) rest in
            omega (arith, low, now)
        | inr other ↦ rw (chains (place_of n.item) other) (linked.within k n is)
      ]

module _ (node more : ℕ → Option Node) (chain after : ℕ → Chain) (key : ℕ) (m : Node)
    (linked : IsLinked node chain) (vacant : node key ≡ None) (there : more key ≡ Some m) (others : (k : ℕ) → k ≢ key → more k ≡ node k)
    (item : IsItem m.item) (rest : m.rest ≡ chain (place_of m.item)) (new : (k : ℕ) (n : Node) → node k ≡ Some n → record_of n ≢ record_of m)
    (first : (after (place_of m.item)).first ≡ Some key) (longer : (after (place_of m.item)).length ≡ m.rest.length + 1)
    (chains : (place : ℕ) → place ≢ place_of m.item → after place ≡ chain place) where
  -- a node is the new one or was there
  which : (k : ℕ) (n : Node) → more k ≡ Some n → ((k ≡ key) × (n ≡ m)) ⊎ (node k ≡ Some n)
  which k n is = elim (one_or_not k key) [
    | inl same ↦ let here : more k ≡ Some m = ap more same ∙ there in inl (same, cc)
    | inr differs ↦ inr (sym (others k differs) ∙ is)
  ]

  -- what was there is there
  kept : (k : ℕ) (n : Node) → node k ≡ Some n → more k ≡ Some n
  kept k n is = elim (one_or_not k key) [
    | inl same ↦ absurd (let here : node k ≡ None = ap node same ∙ vacant in cc)
    | inr differs ↦ others k differs ∙ is
  ]

  kept_chain : (place : ℕ) (c : Chain) → IsChain node place c → IsChain more place c
  kept_chain place c is = leads_on node more place c.length c.first (λ k n at place' long. kept k n at) is

  -- a node of the item that was there is less high than the new one
  lower : (k : ℕ) (n : Node) → node k ≡ Some n → place_of n.item ≡ place_of m.item → n.rest.length < m.rest.length
  lower k n is place =
      let low = linked.within k n is in
      let here : n.rest.length < (chain (place_of m.item)).length = rw place at low in
      let long : m.rest.length ≡ (chain (place_of m.item)).length = ap (λ (c : Chain). c.length) rest in
      omega (arith, here, long)

  pub linked-noted : IsLinked more after
  linked-noted = record {
    items = λ k n is. elim (which k n is) [
      | inl own ↦ let P : Node → Type 0 = λ x. IsItem x.item in subst P (sym own.1) item
      | inr old ↦ linked.items k n old
    ];
    chains = chains';
    rests = rests';
    within = within';
    apart = apart';
    once = once';
  }
    where
      chains' : (place : ℕ) → IsChain more place (after place)
      chains' place = elim (one_or_not place (place_of m.item)) [
        | inl same ↦
            let P : ℕ → Type 0 = λ p. IsChain more p (after p) in
            subst P (sym same) own
        | inr differs ↦
            let P : Chain → Type 0 = λ c. IsChain more place c in
            subst P (sym (chains place differs)) (kept_chain place (chain place) (linked.chains place))
      ]
        where
          own : IsChain more (place_of m.item) (after (place_of m.item))
          own =
              let P : Option ℕ → Type 0 = λ f. Leads more (place_of m.item) (after (place_of m.item)).length f in
              subst P (sym first) (m, (there, (refl, longer)))

      rests' : (k : ℕ) (n : Node) → more k ≡ Some n → IsChain more (place_of n.item) n.rest
      rests' k n is = elim (which k n is) [
        | inl own ↦
            let P : Node → Type 0 = λ x. IsChain more (place_of x.item) x.rest in
            let Q : Chain → Type 0 = λ c. IsChain more (place_of m.item) c in
            subst P (sym own.1) (subst Q (sym rest) (kept_chain (place_of m.item) (chain (place_of m.item)) (linked.chains (place_of m.item))))
        | inr old ↦ kept_chain (place_of n.item) n.rest (linked.rests k n old)
      ]

      within' : (k : ℕ) (n : Node) → more k ≡ Some n → n.rest.length < (after (place_of n.item)).length
      within' k n is = elim (which k n is) [
        | inl own ↦
            let P : Node → Type 0 = λ x. x.rest.length < (after (place_of x.item)).length in
            subst P (sym own.1) (omega (arith, longer))
        | inr old ↦ elim (one_or_not (place_of n.item) (place_of m.item)) [
          | inl same ↦
              let low = lower k n old same in
              let now : (after (place_of n.item)).length ≡ m.rest.length + 1 = ap (λ (p : ℕ). (after p).length) same ∙ longer in
              omega (arith, low, now)
          | inr other ↦ rw (chains (place_of n.item) other) (linked.within k n old)
        ]
      ]

      -- a node that was there does not have the height of the new one
      differs : (k : ℕ) (n : Node) → node k ≡ Some n → place_of n.item ≡ place_of m.item → n.rest.length ≢ m.rest.length
      differs k n is place same = let low = lower k n is place in omega (arith, low, same)

      apart' : (j k : ℕ) (a b : Node) → more j ≡ Some a → more k ≡ Some b → place_of a.item ≡ place_of b.item → a.rest.length ≡ b.rest.length → j ≡ k
      apart' j k a b isa isb place long = elim (which j a isa) [
        | inl own ↦ elim (which k b isb) [
          | inl also ↦ own.0 ∙ sym also.0
          | inr old ↦ absurd (differs k b old (sym place ∙ ap (λ (x : Node). place_of x.item) own.1) (sym long ∙ ap (λ (x : Node). x.rest.length) own.1))
        ]
        | inr old ↦ elim (which k b isb) [
          | inl also ↦ absurd (differs j a old (place ∙ ap (λ (x : Node). place_of x.item) also.1) (long ∙ ap (λ (x : Node). x.rest.length) also.1))
          | inr older ↦ linked.apart j k a b old older place long
        ]
      ]

      once' : (j k : ℕ) (a b : Node) → more j ≡ Some a → more k ≡ Some b → record_of a ≡ record_of b → j ≡ k
      once' j k a b isa isb same = elim (which j a isa) [
        | inl own ↦ elim (which k b isb) [
          | inl also ↦ own.0 ∙ sym also.0
          | inr old ↦ absurd (new k b old (sym same ∙ ap record_of own.1))
        ]
        | inr old ↦ elim (which k b isb) [
          | inl also ↦ absurd (new j a old (same ∙ ap record_of also.1))
          | inr older ↦ linked.once j k a b old older same
        ]
      ]
