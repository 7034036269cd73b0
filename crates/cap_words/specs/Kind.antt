-- A kind of objects as one word.
use Rattle.std.specs.Prelude.{ℕ, List, codes}
use Rattle.cap_format.specs.declared.kind.CapKind.{CapKind}
use Rattle.cap_format.specs.declared.kind.CapKind.TheVariants.{Page, CapPage, Gpt, Endpoint, Process}

-- a kind of objects, as the statement `count` says it; other kinds are never written
abbrev pub kind_word : CapKind → List ℕ
kind_word Page = codes "page"
kind_word CapPage = codes "cappage"
kind_word Gpt = codes "gpt"
kind_word Endpoint = codes "endpoint"
kind_word Process = codes "process"
kind_word _ = codes "none"
