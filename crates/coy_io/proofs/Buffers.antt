-- What a writer got, where it took nothing and where a buffer in front of it is empty.
use Rattle.std.proofs.Common.{◌≡◌, ℕ, List, [], ◌++◌, Option, Some, None, ap, ◌∙◌, append-nil, sym}
use Rattle.std.specs.Io.KnownBytes.{Keeps, Appends, append_known}

-- where nothing was appended the bytes are as they were
pub keeps_none : (old new : Option (List ℕ)) (bytes : List ℕ) → bytes ≡ [] → Appends old new bytes → Keeps old new
keeps_none None new bytes none appends = tt
keeps_none (Some x) None bytes none appends = absurd appends
keeps_none (Some x) (Some y) bytes none appends = appends ∙ ap (λ l. x ++ l) none ∙ append-nil x

-- behind an empty buffer the writer has all that was kept
pub keeps_empty : (old new : Option (List ℕ)) (buffer : List ℕ) → buffer ≡ [] → Keeps old (append_known new buffer) → Keeps old new
keeps_empty None new buffer none keeps = tt
keeps_empty (Some x) None buffer none keeps = absurd keeps
keeps_empty (Some x) (Some y) buffer none keeps = sym (append-nil y) ∙ ap (λ l. y ++ l) (sym none) ∙ keeps
