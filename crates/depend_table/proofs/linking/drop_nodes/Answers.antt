use Rattle.std.proofs.Common.{◌≡◌, ◌⊎◌, inl, inr, leb, true, false, ◌<◌, ◌≤◌, ℕ, None, refl, sym, ◌∙◌, arith}
use Rattle.std.proofs.lemmas.Bool.Decides.{leb_tells}
use Rattle.std.proofs.lemmas.List.{get_or_past}
use Rattle.slab.specs.Slab.{get}
use Rattle.depend_table.specs.Chain.{record_at, unless_within}
use Rattle.depend_table.proofs.Relinked.{linked_end, records_left}
use Rattle.depend_table.proofs.linking.drop_nodes.Goals as goal

-- there is no node from the last key on
none : (c : goal.After-keys) → (k : ℕ) → c.keys.key ≤ k → get c.keys.nodes k ≡ None
none c k past =
    c.keys.invariant.left k past
    ∙ get_or_past c.args.nodes.now.slots k None (omega (arith, past, c.keys-test.false, c.capacity-key-end.ensures.slots))

pub returns-clause-table : goal.returns-clause-table
returns-clause-table c =
    linked_end c.keys.nodes c.keys.chains.items c.keys.key c.keys.invariant.linked (omega (arith, c.keys.invariant.capacity, c.requires.room)) (none c)

pub returns-clause-records : goal.returns-clause-records
returns-clause-records c = records_left c.args.root c.args.block c.args.nodes.now.slots c.keys.nodes.slots left
  where
    left : (k : ℕ) → record_at (get c.keys.nodes k) ≡ unless_within c.args.root c.args.block (record_at (get c.args.nodes.now k))
    left k = on (leb_tells c.keys.key k)
      where
        on : ((leb c.keys.key k ≡ true) × (c.keys.key ≤ k)) ⊎ ((leb c.keys.key k ≡ false) × (k < c.keys.key))
            → record_at (get c.keys.nodes k) ≡ unless_within c.args.root c.args.block (record_at (get c.args.nodes.now k))
        on (inl past) =
            let now : get c.keys.nodes k ≡ None = none c k past.1 in
            let before : get c.args.nodes.now k ≡ None = sym (c.keys.invariant.left k past.1) ∙ now in
            rw (now, before) refl
        on (inr less) = c.keys.invariant.done k less.1
