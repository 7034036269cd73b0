-- With more lines, what may stand may stand.
use Rattle.std.proofs.Common.{◌≡◌, ℕ, true, None, slice_index_or, sym, ◌∙◌, ap, subst}
use Rattle.cap_format.specs.declared.kind.CapKind.{CapKind}
use Rattle.cap_format.specs.declared.kind.CapKind.TheVariants.{CapPage, Gpt, Endpoint, Process}
use Rattle.cap_format.specs.Kind.{object_kind}
use Rattle.cap_format.specs.Capability.{Capability}
use Rattle.operations.specs.System.{System}
use Rattle.separation_policy.specs.Policy.{PolicyValue, Assigned, assigned_of, domain_or_rest, domain_of, domain_named, may_read, may_write, may_halt, may_log, Reads, MayName, MayStand, PolicyHolds}
use Rattle.separation_policy.specs.Policy.Reach.{Itself, Onward}
use Rattle.separation_policy.specs.Policy.MayName.{Own, Read, Written, Shown}

-- one policy gives objects the domains that another does, and lets these do as much
pub record AllowsAsMuch (p q : PolicyValue) : Type 0 where
  pub assigned : q.assigned ≡ p.assigned
  pub reads : (a b : ℕ) → may_read p a b ≡ true → may_read q a b ≡ true
  pub writes : (a b : ℕ) → may_write p a b ≡ true → may_write q a b ≡ true
  pub halts : (a : ℕ) → may_halt p a ≡ true → may_halt q a ≡ true
  pub logs : (a : ℕ) → may_log p a ≡ true → may_log q a ≡ true

module _ (p q : PolicyValue) (more : AllowsAsMuch p q) where
  pub same-domain : (kind : CapKind) (n : ℕ) → domain_of q kind n ≡ domain_of p kind n
  same-domain kind n = ap (λ (assigned : Assigned). domain_or_rest (slice_index_or (assigned_of assigned kind) n None)) more.assigned

  pub same-named : (c : Capability) → domain_named q c ≡ domain_named p c
  same-named c = same-domain (object_kind c.kind) c.object

  reads-more : (a b : ℕ) → Reads p a b → Reads q a b
  reads-more a _ (Itself _) = Itself a
  reads-more a c (Onward _ b _ first rest) = Onward a b c (more.reads a b first) (reads-more b c rest)

  names-more : (a : ℕ) (c : Capability) → MayName p a c → MayName q a c
  names-more a c (Own e) = Own (same-named c ∙ e)
  names-more a c (Read harmless reads) = Read harmless (subst (λ (d : ℕ). Reads q a d) (sym (same-named c)) (reads-more a (domain_named p c) reads))
  names-more a c (Written page writes) = Written page (subst (λ (d : ℕ). may_write q a d ≡ true) (sym (same-named c)) (more.writes a (domain_named p c) writes))
  names-more a c (Shown page harmless writer) =
      Shown page harmless (record {
        by = writer.by;
        reads = reads-more a writer.by writer.reads;
        writes = subst (λ (d : ℕ). may_write q writer.by d ≡ true) (sym (same-named c)) (more.writes writer.by (domain_named p c) writer.writes);
      })

  pub stands-more : (a : ℕ) (c : Capability) → MayStand p a c → MayStand q a c
  stands-more a c may = record {
    no_range = may.no_range;
    halting = λ is. more.halts a (may.halting is);
    logging = λ is. more.logs a (may.logging is);
    named = λ counted. names-more a c (may.named counted);
  }

  at-home : (kind : CapKind) (n : ℕ) (c : Capability) → MayStand p (domain_of p kind n) c → MayStand q (domain_of q kind n) c
  at-home kind n c may = subst (λ (d : ℕ). MayStand q d c) (sym (same-domain kind n)) (stands-more (domain_of p kind n) c may)

  -- so where the one holds, the other does
  pub holds-more : (w : System) → PolicyHolds p w → PolicyHolds q w
  holds-more w holds = record {
    each = record {
      slots = λ g i. at-home Gpt g _ (holds.each.slots g i);
      cappages = λ n i. at-home CapPage n _ (holds.each.cappages n i);
      capregs = λ n i. at-home Process n _ (holds.each.capregs n i);
      process_slots = λ n i. at-home Process n _ (holds.each.process_slots n i);
      recipients = λ e. at-home Endpoint e _ (holds.each.recipients e);
    };
    sleepers = λ on n there. same-domain Process n ∙ (holds.sleepers on n there ∙ sym (same-domain Process on));
  }
