-- What follows for a request from its reply and from the objects and queues as they are stored.
use Rattle.std.proofs.Common.{◌≡◌, ◌≢◌, [], List, map, true, Option, Some, None, refl, sym, ap, ◌∙◌, subst}
use Rattle.std.specs.Option.{IfSome}
use Rattle.cap_format.specs.declared.code.Code.TheVariants.{Ok as OkCode}
use Rattle.cap_format.specs.declared.request.Request.{Request}
use Rattle.cap_format.specs.declared.request.Reply.{Reply}
use Rattle.cap_format.specs.Capability.{Capability, bare}
use Rattle.object_store.specs.Store.{Store}
use Rattle.object_store.specs.Meaning.{is_live, meaning, map_of, state_map}
use Rattle.object_store.specs.Ahead.{IsBehind, NoneAhead}
use Rattle.object_store.specs.Object.{Stays}
use Rattle.schedules.specs.Queues.{QueuesValue}
use Rattle.schedules.specs.Ready.{runs_of, Agrees}
use Rattle.operations.specs.System.{System, system, Stored, Meant}
use Rattle.operations.specs.Change.{Change, applied_all}
use Rattle.operations.specs.Row.{Answer, Settled, nothing, reply_of}
use Rattle.operations.specs.Request.{request_map}
use Rattle.operations.specs.Control.{control_operation}
use Rattle.operations.specs.Meaning.{reply_map}
use Rattle.operations.specs.Changed.{DifferBy, names_in}
use Rattle.operations.proofs.Mapped.{system_map}
use Rattle.operations.proofs.Settled.{reply_of-map}
use Rattle.operations.proofs.Applied.{applied_all_stays}
use Rattle.operations.proofs.Sound.{SameSizes, applied_all_sizes}
use Rattle.operations.proofs.Control.{IsSoundAnswer, control_means, control_refused, control_sound}
use Rattle.control_caps.specs.Kinds.{Keeps}

-- a capability is given where nothing changes, and is not ahead
given_where : (s t : Store) (changes : List Change) (cap : Option Capability) → IfSome cap (λ x. changes ≡ []) → IfSome cap (IsBehind s.items) → (changes ≡ [] → t ≡ s)
    → IfSome cap (λ x. (t ≡ s) × IsBehind s.items x)
given_where s t changes None quiet behind same = tt
given_where s t changes (Some x) quiet behind same = (same quiet, behind)

-- the request leads from the objects `s` with the queues `q` to the objects `t` with the queues `n`
module _ (s t : Store) (q n : QueuesValue) (c : Capability) (r : Request) (live : is_live s.items c ≡ true) (sent : is_live s.items r.sent ≡ true) (none : NoneAhead s)
    (after : applied_all Stored (system s q) (control_operation Stored s c r).answer.changes ≡ system t n) where
  abbrev done : Settled
  done = control_operation Stored s c r

  abbrev meant : Settled
  meant = control_operation Meant (state_map s) (bare c) (request_map bare r)

  answer_is : IsSoundAnswer s q done.answer
  answer_is = control_sound s q c r live sent none

  pub reply_means : (reply : Reply) → reply ≡ reply_of done → reply_map (meaning s.items) reply ≡ reply_of meant
  reply_means reply is = ap (reply_map (meaning s.items)) is ∙ (reply_of-map (meaning s.items) done ∙ ap reply_of (control_means s c r live sent))

  pub means : applied_all Meant (system (state_map s) q) meant.answer.changes ≡ system (state_map t) n
  means =
      ap (λ (z : Settled). applied_all Meant (system (state_map s) q) z.answer.changes) (sym (control_means s c r live sent))
      ∙ (sym answer_is.sound.means ∙ ap system_map after)

  pub refused : (reply : Reply) → reply ≡ reply_of done → reply.code ≢ OkCode → (t ≡ s) × (n ≡ q)
  refused reply is not =
      let nothing_is : done.answer ≡ nothing = control_refused s c r (λ e. not (ap (λ (z : Reply). z.code) is ∙ e)) in
      let same : system t n ≡ system s q = sym after ∙ ap (λ (a : Answer). applied_all Stored (system s q) a.changes) nothing_is in
      (ap (λ (w : System). w.store) same, ap (λ (w : System). w.queues) same)

  pub given : (reply : Reply) → reply ≡ reply_of done → IfSome reply.cap (λ cap. (t ≡ s) × IsBehind s.items cap)
  given reply is =
      subst (λ (z : Reply). IfSome z.cap (λ cap. (t ≡ s) × IsBehind s.items cap)) (sym is)
      (given_where s t done.answer.changes done.answer.cap answer_is.quiet answer_is.gives_behind
      (λ e. ap (λ (w : System). w.store) (sym after ∙ ap (λ (changes : List Change). applied_all Stored (system s q) changes) e)))

  pub stays : Stays (names_in Stored (system s q) done.answer.changes) s t
  stays = subst (λ (w : System). Stays (names_in Stored (system s q) done.answer.changes) s w.store) after (applied_all_stays (system s q) done.answer.changes)

  pub differ : (reply : Reply) → reply ≡ reply_of done → DifferBy reply.changed (map_of s.items) (map_of t.items)
  differ reply is =
      subst (λ (z : Reply). DifferBy z.changed (map_of s.items) (map_of t.items)) (sym is)
      (subst (λ (w : System). DifferBy (reply_of done).changed (map_of s.items) (map_of w.store.items)) after answer_is.sound.differ)

  pub kept : Agrees (runs_of t n) → Keeps s q t n
  kept agrees =
      let sizes : SameSizes (system s q) (system t n) = subst (SameSizes (system s q)) after (applied_all_sizes (system s q) done.answer.changes) in
      record {
        sizes = sizes.objects;
        object_harts = sizes.object_harts;
        sleepers = sizes.sleepers;
        harts = sizes.harts;
        agrees = agrees;
        behind = subst (λ (w : System). NoneAhead w.store) after answer_is.sound.behind;
      }
