use Rattle.std.proofs.Common.{◌≡◌, ◌∙◌, ap, subst}
use Rattle.kernel_core.specs.State.{state_of}
use Rattle.map_cache.specs.Cache.{CacheValue, kept_of}
use Rattle.map_cache.specs.Held.{held_entries}
use Rattle.map_cache.specs.Mappings.{mappings_of}
use Rattle.coy_io.proofs.Texts.{behind}
use Rattle.coy_io.specs.Written.{Writes}
use Rattle.schedule_commands.specs.Finished.{last_state_text}
use Rattle.schedule_commands.specs.Tables.{entries_text}
use Rattle.schedule_commands.proofs.tables.put_tables.Goals as goal

pub returns-clause-text : goal.returns-clause-text
returns-clause-text g c =
    let m = c.args.machine.now in
    let same : entries_text (mappings_of c.translator.result.now) ≡ entries_text (held_entries (state_of m).store.items (kept_of m.translator)) =
    ap (λ (v : CacheValue). entries_text (mappings_of v)) c.translator.ensures ∙ ap entries_text c.tell_entries.ensures.held in
    behind c.put_entries.result _ _ _ (last_state_text (state_of m)) (entries_text (held_entries (state_of m).store.items (kept_of m.translator))) c.in_ok-dump.ensures.text
    (subst (Writes _ _ c.put_entries.result) same c.put_entries.ensures.text)
