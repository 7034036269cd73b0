-- What the type number tells of a kind.
use Rattle.std.proofs.Common.{Some, ◌≡◌, ◌≤◌, refl, sym, ap, ◌∙◌, arith}
use Rattle.cap_format.specs.declared.kind.CapKind.{CapKind}
use Rattle.cap_format.specs.declared.kind.CapKind.TheVariants.{Null, Page, CapPage, Gpt, Window, LocalWindow, Endpoint, Entry, Process, Schedule, Range, Discrim, KernLog, SysCtl}
use Rattle.cap_format.specs.Kind.{number_of, kind_with, kinds}

-- the kind that has its number is itself
pub kind_with-number : (kind : CapKind) → kind_with (number_of kind) ≡ Some kind
unfolding kinds
kind_with-number Null = refl
kind_with-number Page = refl
kind_with-number CapPage = refl
kind_with-number Gpt = refl
kind_with-number Window = refl
kind_with-number LocalWindow = refl
kind_with-number Endpoint = refl
kind_with-number Entry = refl
kind_with-number Process = refl
kind_with-number Schedule = refl
kind_with-number Range = refl
kind_with-number Discrim = refl
kind_with-number KernLog = refl
kind_with-number SysCtl = refl

-- kinds of one number are one
pub kind_of_number : (j k : CapKind) → number_of j ≡ number_of k → j ≡ k
kind_of_number j k same =
    let both : Some j ≡ Some k = sym (kind_with-number j) ∙ ap kind_with same ∙ kind_with-number k in
    cc

-- no type number is over 13
pub number_small : (k : CapKind) → number_of k ≤ 13
number_small Null = omega arith
number_small Page = omega arith
number_small CapPage = omega arith
number_small Gpt = omega arith
number_small Window = omega arith
number_small LocalWindow = omega arith
number_small Endpoint = omega arith
number_small Entry = omega arith
number_small Process = omega arith
number_small Schedule = omega arith
number_small Range = omega arith
number_small Discrim = omega arith
number_small KernLog = omega arith
number_small SysCtl = omega arith
