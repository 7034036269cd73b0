-- A request to a capability of a kind that is no memory kind: a machine is still one, and which objects stay.
use Rattle.std.proofs.Common.{◌≡◌, true, sym, ap, ◌∙◌, subst, refl}
use Rattle.cap_format.specs.declared.kind.CapKind.TheVariants.{Process}
use Rattle.cap_format.specs.declared.request.Request.{Request}
use Rattle.cap_format.specs.Capability.{Capability, bare}
use Rattle.object_store.specs.Store.{Store}
use Rattle.object_store.specs.Meaning.{is_live, meaning, state_map}
use Rattle.object_store.specs.Object.{Stays}
use Rattle.schedules.specs.Queues.{QueuesValue}
use Rattle.operations.specs.System.{system, Stored, Meant}
use Rattle.operations.specs.Changed.{names_in}
use Rattle.operations.specs.Request.{request_map}
use Rattle.operations.specs.Row.{Settled}
use Rattle.operations.specs.Control.{control_operation}
use Rattle.operations.proofs.Control.{control_means}
use Rattle.control_caps.specs.Kinds.{Keeps}
use Rattle.machine_state.specs.Machine.{IsMachine}
use Rattle.machine_state.proofs.Names.{names_mean}

-- a machine is still one
pub kept_control : (s t : Store) (q n : QueuesValue) → Keeps s q t n → IsMachine s q → IsMachine t n
kept_control s t q n keeps is = record {
  fits = record {
    processes = keeps.sleepers ∙ (is.fits.processes ∙ sym (keeps.sizes Process));
    harts = keeps.harts ∙ (is.fits.harts ∙ sym keeps.object_harts);
  };
  agrees = keeps.agrees;
  behind = keeps.behind;
}

-- the objects that change are those of the request as it means
pub control_stays : (s t : Store) (q : QueuesValue) (c : Capability) (r : Request) → is_live s.items c ≡ true → is_live s.items r.sent ≡ true
    → Stays (names_in Stored (system s q) (control_operation Stored s c r).answer.changes) s t
    → Stays (names_in Meant (system (state_map s) q) (control_operation Meant (state_map s) (bare c) (request_map bare r)).answer.changes) s t
control_stays s t q c r live sent stays =
    let changes = (control_operation Stored s c r).answer.changes in
    subst (λ names. Stays names s t)
    (sym (names_mean (meaning s.items) (system s q) (system (state_map s) q) changes refl)
    ∙ ap (λ (z : Settled). names_in Meant (system (state_map s) q) z.answer.changes) (control_means s c r live sent))
    stays
