-- Texts of numbered things, and of things that may be as in the empty object.
use Rattle.std.proofs.Common.{ℕ, zero, suc, ◌≡◌, Bool, true, false, List, [], refl, arith}
use Rattle.listing_read.specs.declared.statement.Statement.{Statement}
use Rattle.listing_read.specs.declared.terms.Terms.{Terms}
use Rattle.statement_text.specs.ReadsBack.{ReadsBack}
use Rattle.statement_text.specs.Lists.{Lists}
use Rattle.statement_text.proofs.Listed.{nothing, one, both}
use Rattle.run_text.specs.Each.{each_below}
use Rattle.read_back.specs.Printed.{statements_below, unless_empty}
use Rattle.read_back.specs.ObjectLaws.{EachIsListed}

pub each : EachIsListed
unfolding each_below statements_below
each terms text statements zero all = nothing terms
each terms text statements (suc n) all =
    both terms (each_below text n) (text n) (statements_below statements n) (statements n)
    (each terms text statements n (λ i below. all i (omega arith)))
    (all n (omega arith))

-- the text of a thing that may be as in the empty object
pub unless : (terms : Terms) (empty : Bool) (text : List ℕ) (statement : Statement) → (empty ≡ true → text ≡ []) → (empty ≡ false → ReadsBack terms text statement) → Lists terms text (unless_empty empty statement)
unless terms true text statement none some = rw (none refl) (nothing terms)
unless terms false text statement none some = one terms text statement (some refl)
