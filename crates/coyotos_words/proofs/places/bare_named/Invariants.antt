use Rattle.std.proofs.Common.{◌≡◌, map, drop}
use Rattle.coyotos_words.specs.Command.{bare_named}
use Rattle.coyotos_words.proofs.places.bare_named.Given as goal

-- the entries so far are none of the word
abbrev pub invariant-loop-entry : goal.invariant-loop-entry
invariant-loop-entry l = bare_named (map (λ e. (e.0.now, e.1)) (drop l.entry-index l.table)) l.word ≡ bare_named (map (λ e. (e.0.now, e.1)) l.table) l.word
