-- What follows for a request to a memory capability from its reply and the objects as they are stored.
use Rattle.std.proofs.Common.{◌≡◌, ◌≢◌, [], ◌∷◌, List, map, true, Option, Some, None, refl, sym, ap, ◌∙◌, subst}
use Rattle.std.specs.Option.{IfSome}
use Rattle.cap_format.specs.declared.code.Code.TheVariants.{Ok as OkCode}
use Rattle.cap_format.specs.declared.request.Request.{Request}
use Rattle.cap_format.specs.declared.request.Reply.{Reply}
use Rattle.cap_format.specs.Capability.{Capability, bare}
use Rattle.object_store.specs.Store.{Store, CountsValue}
use Rattle.object_store.specs.Meaning.{is_live, meaning, map_of, state_map}
use Rattle.object_store.specs.Ahead.{IsBehind, NoneAhead}
use Rattle.object_store.specs.Object.{Stays, object_name, ObjectName}
use Rattle.object_store.proofs.Stays.{stays_same}
use Rattle.schedules.specs.Queues.{QueuesValue}
use Rattle.operations.specs.System.{System, system, Stored, Meant}
use Rattle.operations.specs.Change.{Change, PageIs, CapPageIs, SlotIs, HeaderIs, EndpointIs, ProcessIs, Left, Readied, Woken, Destroyed, applied, applied_all, item_in}
use Rattle.operations.specs.Row.{Answer, Settled, nothing, reply_of}
use Rattle.operations.specs.Request.{request_map}
use Rattle.operations.specs.Memory.{memory_operation}
use Rattle.operations.specs.Meaning.{reply_map}
use Rattle.operations.specs.Changed.{DifferBy, names_of}
use Rattle.operations.proofs.Mapped.{change_map}
use Rattle.operations.proofs.Settled.{reply_of-map}
use Rattle.operations.proofs.Applied.{applied_means, applied_behind, applied_stays, applied_differ, WritesBehind}
use Rattle.operations.proofs.Fits.{IsWrite, IsOwn, AtMostOne, Fits}
use Rattle.operations.proofs.Memory.{memory_means, memory_fits, memory_refused}

-- ---- one write, or none

-- a write leaves the counts
write_counts : (w : System) (change : Change) → IsWrite change → (applied Stored w change).store.items.counts ≡ w.store.items.counts
write_counts w (PageIs n page) is = refl
write_counts w (CapPageIs n page) is = refl
write_counts w (SlotIs g i c) is = refl
write_counts w (HeaderIs g header) is = refl
write_counts w (EndpointIs e endpoint) is = refl
write_counts w (ProcessIs p process) is = refl
write_counts w (Left p) is = absurd is
write_counts w (Readied p) is = absurd is
write_counts w (Woken p) is = absurd is
write_counts w (Destroyed kind n) is = absurd is

-- and means the write of what was meant
write_means : (s : Store) (q : QueuesValue) (change : Change) → IsWrite change → applied Meant (system (state_map s) q) (change_map (meaning s.items) change) ≡ system (state_map (applied Stored (system s q) change).store) (applied Stored (system s q) change).queues
write_means s q (PageIs n page) is = sym (applied_means (system s q) (PageIs n page) tt)
write_means s q (CapPageIs n page) is = sym (applied_means (system s q) (CapPageIs n page) tt)
write_means s q (SlotIs g i c) is = sym (applied_means (system s q) (SlotIs g i c) tt)
write_means s q (HeaderIs g header) is = sym (applied_means (system s q) (HeaderIs g header) tt)
write_means s q (EndpointIs e endpoint) is = sym (applied_means (system s q) (EndpointIs e endpoint) tt)
write_means s q (ProcessIs p process) is = sym (applied_means (system s q) (ProcessIs p process) tt)
write_means s q (Left p) is = absurd is
write_means s q (Readied p) is = absurd is
write_means s q (Woken p) is = absurd is
write_means s q (Destroyed kind n) is = absurd is

-- queues with nobody in them, where any will do
abbrev nobody : QueuesValue
nobody = record { ready = []; sleepers = []; harts = [] }

-- `changes` are at most one write of the object that `c` names, and lead from the objects `s` to the objects `t`
module _ (s t : Store) (c : Capability) where
  leads : List Change → Type 0
  leads changes = (q : QueuesValue) → applied_all Stored (system s q) changes ≡ system t q

  all_counts : (changes : List Change) → AtMostOne (IsOwn c) changes → leads changes → t.items.counts ≡ s.items.counts
  unfolding leads
  all_counts [] own after = ap (λ (w : System). w.store.items.counts) (sym (after nobody))
  all_counts (change ∷ []) own after = ap (λ (w : System). w.store.items.counts) (sym (after nobody)) ∙ write_counts (system s nobody) change own.write
  all_counts (change ∷ other ∷ changes) own after = absurd own

  all_mean : (changes : List Change) → AtMostOne (IsOwn c) changes → leads changes → (q : QueuesValue) → applied_all Meant (system (state_map s) q) (map (change_map (meaning s.items)) changes) ≡ system (state_map t) q
  unfolding leads
  all_mean [] own after q = ap (λ (w : System). system (state_map w.store) w.queues) (after q)
  all_mean (change ∷ []) own after q = write_means s q change own.write ∙ ap (λ (w : System). system (state_map w.store) w.queues) (after q)
  all_mean (change ∷ other ∷ changes) own after q = absurd own

  all_stays : (changes : List Change) → AtMostOne (IsOwn c) changes → leads changes → Stays (object_name c.kind c.object ∷ []) s t
  unfolding leads
  all_stays [] own after = subst (λ (w : System). Stays (object_name c.kind c.object ∷ []) s w.store) (after nobody) (stays_same (object_name c.kind c.object ∷ []) s)
  all_stays (change ∷ []) own after =
      subst (λ (w : System). Stays (object_name c.kind c.object ∷ []) s w.store) (after nobody)
      (subst (λ (names : List ObjectName). Stays names s (applied Stored (system s nobody) change).store) (own.name nobody) (applied_stays (system s nobody) change))
  all_stays (change ∷ other ∷ changes) own after = absurd own

  all_differ : (changes : List Change) → AtMostOne (IsOwn c) changes → leads changes → DifferBy (item_in changes) (map_of s.items) (map_of t.items)
  unfolding leads
  all_differ [] own after = ap (λ (w : System). map_of w.store.items) (after nobody)
  all_differ (change ∷ []) own after = subst (λ (w : System). DifferBy (item_in (change ∷ [])) (map_of s.items) (map_of w.store.items)) (after nobody) (one change)
    where
      one : (change : Change) → DifferBy (item_in (change ∷ [])) (map_of s.items) (map_of (applied Stored (system s nobody) change).store.items)
      one (PageIs n page) = applied_differ (system s nobody) (PageIs n page)
      one (CapPageIs n page) = applied_differ (system s nobody) (CapPageIs n page)
      one (SlotIs g i x) = applied_differ (system s nobody) (SlotIs g i x)
      one (HeaderIs g header) = applied_differ (system s nobody) (HeaderIs g header)
      one (EndpointIs e endpoint) = applied_differ (system s nobody) (EndpointIs e endpoint)
      one (ProcessIs p process) = applied_differ (system s nobody) (ProcessIs p process)
      one (Left p) = applied_differ (system s nobody) (Left p)
      one (Readied p) = applied_differ (system s nobody) (Readied p)
      one (Woken p) = applied_differ (system s nobody) (Woken p)
      one (Destroyed kind n) = applied_differ (system s nobody) (Destroyed kind n)
  all_differ (change ∷ other ∷ changes) own after = absurd own

  all_behind : (changes : List Change) → AtMostOne (IsOwn c) changes → AtMostOne (WritesBehind s.items) changes → leads changes → NoneAhead s → NoneAhead t
  unfolding leads
  all_behind [] own writes after none = subst (λ (w : System). NoneAhead w.store) (after nobody) none
  all_behind (change ∷ []) own writes after none = subst (λ (w : System). NoneAhead w.store) (after nobody) (applied_behind (system s nobody) change none writes)
  all_behind (change ∷ other ∷ changes) own writes after none = absurd own

-- ---- a request

module _ (s t : Store) (c : Capability) (r : Request) (live : is_live s.items c ≡ true) (sent : is_live s.items r.sent ≡ true)
    (after : (q : QueuesValue) → applied_all Stored (system s q) (memory_operation s c r).answer.changes ≡ system t q) where
  abbrev done : Settled
  done = memory_operation s c r

  abbrev meant : Settled
  meant = memory_operation (state_map s) (bare c) (request_map bare r)

  pub reply_means : (reply : Reply) → reply ≡ reply_of done → reply_map (meaning s.items) reply ≡ reply_of meant
  reply_means reply is = ap (reply_map (meaning s.items)) is ∙ (reply_of-map (meaning s.items) done ∙ ap reply_of (memory_means s c r live sent))

  pub means : (q : QueuesValue) → applied_all Meant (system (state_map s) q) meant.answer.changes ≡ system (state_map t) q
  unfolding leads
  means q =
      ap (λ (z : Settled). applied_all Meant (system (state_map s) q) z.answer.changes) (sym (memory_means s c r live sent))
      ∙ all_mean s t c done.answer.changes (memory_fits s c r live sent).own after q

  pub counts : t.items.counts ≡ s.items.counts
  unfolding leads
  counts = all_counts s t c done.answer.changes (memory_fits s c r live sent).own after

  pub stays : Stays (object_name c.kind c.object ∷ []) s t
  unfolding leads
  stays = all_stays s t c done.answer.changes (memory_fits s c r live sent).own after

  pub differ : (reply : Reply) → reply ≡ reply_of done → DifferBy reply.changed (map_of s.items) (map_of t.items)
  unfolding leads
  differ reply is = subst (λ (z : Reply). DifferBy z.changed (map_of s.items) (map_of t.items)) (sym is) (all_differ s t c done.answer.changes (memory_fits s c r live sent).own after)

  pub behind : (reply : Reply) → reply ≡ reply_of done → NoneAhead s → NoneAhead t × IfSome reply.cap (IsBehind s.items)
  unfolding leads
  behind reply is none =
      let fits = memory_fits s c r live sent in (
        all_behind s t c done.answer.changes fits.own (fits.writes none) after none,
        subst (λ (z : Reply). IfSome z.cap (IsBehind s.items)) (sym is) (fits.gives_behind none),
      )

  pub refused : (reply : Reply) → reply ≡ reply_of done → reply.code ≢ OkCode → t ≡ s
  refused reply is not =
      let none : done.answer ≡ nothing = memory_refused s c r (λ e. not (ap (λ (z : Reply). z.code) is ∙ e)) in
      ap (λ (w : System). w.store) (sym (after nobody)) ∙ ap (λ (a : Answer). (applied_all Stored (system s nobody) a.changes).store) none
