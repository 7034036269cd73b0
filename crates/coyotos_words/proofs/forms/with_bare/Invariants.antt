use Rattle.std.proofs.Common.{◌≡◌, map, take}
use Rattle.clap.specs.Words.{app_of}
use Rattle.coyotos_words.specs.Forms.{with_bare}
use Rattle.coyotos_words.proofs.forms.with_bare.Given as goal

-- the entries so far have their forms
abbrev pub invariant-loop-entry : goal.invariant-loop-entry
invariant-loop-entry l = app_of l.top ≡ with_bare (app_of l.fn.top) (map (λ e. e.0.now) (take l.entry-index l.table))
