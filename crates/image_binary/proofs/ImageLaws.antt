-- An image is read as its listing, and no other bytes are.
use Rattle.std.proofs.Common.{◌≡◌, ℕ, zero, suc, ◌^◌, ◌<◌, ◌≤◌, ◌&&◌, Bool, true, false, List, [], ◌∷◌, ◌++◌, length, take, Ok, Err, refl, sym, ap, subst, ◌∙◌, append_assoc, append-nil, arith, flat_map}
use Rattle.std.specs.Prelude.{nat_le, nat_lt}
use Rattle.std.specs.List.{AllByRecursion}
use Rattle.std.proofs.lemmas.Bool.{ltb-false, le-ltb, and_from, le-leb}
use Rattle.std.proofs.lemmas.List.{take_all}
use Rattle.std.proofs.lemmas.List.Concat.{flat_map-cons}
use Rattle.std.proofs.lemmas.List.Elements.{recursion_from_All}
use Rattle.coy_io.specs.Limits.{input_limit}
use Rattle.object_store.specs.declared.sizes.Sizes.{Sizes}
use Rattle.object_store.specs.Ranges.{IsWithinLimits}
use Rattle.listing_read.specs.Faults.{◌>>=◌}
use Rattle.listing_read.specs.Statement.{IsStatement, IsTyped, ListingValue}
use Rattle.listing_read.specs.declared.statement.Statement.{Statement}
use Rattle.image_binary.specs.declared.fault.ImageWord.TheVariants.{BadMachine}
use Rattle.image_binary.specs.declared.head.Head.{Head}
use Rattle.image_binary.specs.declared.stop.Stop.TheVariants.{Short, Wrong}
use Rattle.image_binary.specs.Fields.{Read, Fields}
use Rattle.image_binary.specs.Values.{size}
use Rattle.image_binary.specs.Statements.{statement_bytes, statement_of}
use Rattle.image_binary.specs.Image.{head_fields, head_bytes, sizes_of, head_of, image_of, statements_of, listing_of, ended, concluded, unpacked}
use Rattle.image_binary.specs.Laws.{AreBytes, IsPacked, ImagesAreRead, OnlyImagesAreRead, ImagesDiffer}
use Rattle.image_binary.proofs.Binds.{bind_ok, read_parts, All-behind}
use Rattle.image_binary.proofs.Lawful.{IsLawful}
use Rattle.image_binary.proofs.MadeLaws.{IsMade, made_is}
use Rattle.image_binary.proofs.NumberLaws.{width_2, IsTested, number_is}
use Rattle.image_binary.proofs.ValueLaws.{magic_is}
use Rattle.image_binary.proofs.StatementLaws.{IsWord, word_is, pair, Fits, statement_is}
use Rattle.image_binary.proofs.Fitting.{fitting}

-- ---- what stands at the start

abbrev IsSize : ℕ → ℕ → ℕ → Type 0
IsSize least most n = IsTested 2 (λ n. nat_le least n && nat_le n most) n

size_is : (least most : ℕ) → IsLawful (size least most) (IsSize least most) 2
size_is least most = number_is 2 width_2 (λ n. nat_le least n && nat_le n most) BadMachine

abbrev StartFits : Unit {0} × (ℕ × (ℕ × (ℕ × (ℕ × (ℕ × (ℕ × ℕ)))))) → Type 0
StartFits x =
    Unit {0} × (IsSize 1 8 x.1.0 × (IsSize 0 4096 x.1.1.0 × (IsSize 0 256 x.1.1.1.0 × (IsSize 0 1024 x.1.1.1.1.0
    × (IsSize 0 256 x.1.1.1.1.1.0 × (IsSize 0 1024 x.1.1.1.1.1.1.0 × IsWord x.1.1.1.1.1.1.1))))))

start_is : IsLawful head_fields StartFits 24
start_is =
    pair magic_is (λ _ _. pair (size_is 1 8) (λ _ _. pair (size_is 0 4096) (λ _ _. pair (size_is 0 256) (λ _ _. pair (size_is 0 1024) (λ _ _.
    pair (size_is 0 256) (λ _ _. pair (size_is 0 1024) (λ _ _. word_is)))))))

-- its start as one value
abbrev pub start : Fields Head
start = record { bytes = λ h. head_bytes h.sizes h.count; read = head_of }

abbrev start_of : Head → Unit {0} × (ℕ × (ℕ × (ℕ × (ℕ × (ℕ × (ℕ × ℕ))))))
start_of h = (tt, (h.sizes.harts, (h.sizes.pages, (h.sizes.cappages, (h.sizes.gpts, (h.sizes.processes, (h.sizes.endpoints, h.count)))))))

abbrev head_made : Unit {0} × (ℕ × (ℕ × (ℕ × (ℕ × (ℕ × (ℕ × ℕ)))))) → Head
head_made x = record { sizes = sizes_of x.1.0 x.1.1.0 x.1.1.1.0 x.1.1.1.1.0 x.1.1.1.1.1.0 x.1.1.1.1.1.1.0; count = x.1.1.1.1.1.1.1 }

abbrev pub HeadFits : Head → Type 0
HeadFits h = StartFits (start_of h)

start_made : IsMade head_fields StartFits start HeadFits head_made
unfolding head_of
start_made = record {
  reads = λ bytes. refl;
  there = λ x fits. (fits, refl);
  back = λ h fits. record { of = start_of h; fits = fits; makes = refl; same = refl };
}

pub head_is : IsLawful start HeadFits 24
head_is = made_is head_fields StartFits 24 start_is start HeadFits head_made start_made

-- sizes within their limits, and a number of statements, fit
size_fits : (least most n : ℕ) → least ≤ n → n ≤ most → most ≤ 4096 → IsSize least most n
size_fits least most n low high small =
    record { small = omega arith; passes = and_from (nat_le least n) (nat_le n most) (le-leb least n low) (le-leb n most high) }

head_fits : (sizes : Sizes) (count : ℕ) → IsWithinLimits sizes → count < 2 ^ 32 → HeadFits (record { sizes = sizes; count = count })
head_fits sizes count l small = (
  tt,
  (
    size_fits 1 8 sizes.harts l.some_hart l.harts (omega arith),
    (
      size_fits 0 4096 sizes.pages (omega arith) l.pages (omega arith),
      (
        size_fits 0 256 sizes.cappages (omega arith) l.cappages (omega arith),
        (
          size_fits 0 1024 sizes.gpts (omega arith) l.gpts (omega arith),
          (
            size_fits 0 256 sizes.processes (omega arith) l.processes (omega arith),
            (
              size_fits 0 1024 sizes.endpoints (omega arith) l.endpoints (omega arith),
              record { small = omega arith; passes = refl },
            ),
          ),
        ),
      ),
    ),
  ),
)

-- ---- the statements

statements_again : (sizes : Sizes) (ss : List Statement) (more : List ℕ) → AllByRecursion (Fits sizes) ss
    → statements_of sizes (length ss) (flat_map (statement_bytes sizes) ss ++ more) ≡ Ok (ss, more)
unfolding statements_of
statements_again sizes [] more fits = refl
statements_again sizes (s ∷ ss) more fits =
    let all = flat_map (statement_bytes sizes) ss in
    let grouped : flat_map (statement_bytes sizes) (s ∷ ss) ++ more ≡ statement_bytes sizes s ++ (all ++ more) =
    ap (λ l. l ++ more) (flat_map-cons (statement_bytes sizes) s ss) ∙ append_assoc (statement_bytes sizes s) all more in
    let first : statement_of sizes (statement_bytes sizes s ++ (all ++ more)) ≡ Ok (s, all ++ more) = (statement_is sizes).again s (all ++ more) fits.0 in
    ap (statements_of sizes (suc (length ss))) grouped ∙ rw (first, statements_again sizes ss more fits.1) refl

statements_spelled : (sizes : Sizes) (n : ℕ) (bytes : List ℕ) (ss : List Statement) (rest : List ℕ) → AreBytes bytes
    → statements_of sizes n bytes ≡ Ok (ss, rest) → (bytes ≡ flat_map (statement_bytes sizes) ss ++ rest) × (length ss ≡ n)
unfolding statements_of
statements_spelled sizes zero bytes ss rest are e =
    let p = read_parts [] ss bytes rest e in
    (p.1 ∙ ap (λ l. flat_map (statement_bytes sizes) l ++ rest) p.0, ap length (sym p.0))
statements_spelled sizes (suc n) bytes ss rest are e =
    let a = bind_ok (statement_of sizes bytes) (λ first. statements_of sizes n first.1 >>= λ others. Ok (first.0 ∷ others.0, others.1)) (ss, rest) e in
    let b = bind_ok (statements_of sizes n a.0.1) (λ others. Ok (a.0.0 ∷ others.0, others.1)) (ss, rest) a.2 in
    let p = read_parts (a.0.0 ∷ b.0.0) ss b.0.1 rest b.2 in
    let s = (statement_is sizes).spelled bytes a.0.0 a.0.1 are a.1 in
    let t = statements_spelled sizes n a.0.1 b.0.0 b.0.1 (All-behind (λ byte. byte < 256) (statement_bytes sizes a.0.0) a.0.1 (subst AreBytes s.parts are)) b.1 in
    let whole : bytes ≡ flat_map (statement_bytes sizes) (a.0.0 ∷ b.0.0) ++ b.0.1 =
    s.parts ∙ ap (λ l. statement_bytes sizes a.0.0 ++ l) t.0
    ∙ sym (append_assoc (statement_bytes sizes a.0.0) (flat_map (statement_bytes sizes) b.0.0) b.0.1)
    ∙ ap (λ l. l ++ b.0.1) (sym (flat_map-cons (statement_bytes sizes) a.0.0 b.0.0)) in (
      whole ∙ ap (λ l. flat_map (statement_bytes sizes) l ++ b.0.1) p.0 ∙ ap (λ l. flat_map (statement_bytes sizes) ss ++ l) p.1,
      sym (ap length p.0) ∙ ap suc t.1,
    )

-- ---- the listing

all_fit : (sizes : Sizes) → IsWithinLimits sizes → (ss : List Statement) → AllByRecursion (IsStatement sizes) ss → AllByRecursion IsTyped ss → AllByRecursion (Fits sizes) ss
all_fit sizes limits [] are typed = tt
all_fit sizes limits (s ∷ ss) are typed = (fitting sizes limits s are.0 typed.0, all_fit sizes limits ss are.1 typed.1)

listing_again : (l : ListingValue) (more : List ℕ) → IsPacked l → listing_of (image_of l ++ more) ≡ Ok (l, more)
unfolding listing_of
listing_again l more packed =
    let is = packed.listing in
    let fits = all_fit l.sizes is.limits l.statements (recursion_from_All (IsStatement l.sizes) l.statements is.statements) (recursion_from_All IsTyped l.statements packed.typed) in
    let h : Head = record { sizes = l.sizes; count = length l.statements } in
    let all = flat_map (statement_bytes l.sizes) l.statements in
    ap listing_of (append_assoc (start.bytes h) all more)
    ∙ rw (head_is.again h (all ++ more) (head_fits l.sizes (length l.statements) is.limits is.few), statements_again l.sizes l.statements more fits) refl

listing_spelled : (bytes : List ℕ) (l : ListingValue) (rest : List ℕ) → AreBytes bytes → listing_of bytes ≡ Ok (l, rest) → bytes ≡ image_of l ++ rest
unfolding listing_of
listing_spelled bytes l rest are e =
    let a = bind_ok (head_of bytes) (λ head. statements_of head.0.sizes head.0.count head.1 >>= λ ss. Ok (record { sizes = head.0.sizes; statements = ss.0 }, ss.1)) (l, rest) e in
    let h = a.0.0 in
    let b = bind_ok (statements_of h.sizes h.count a.0.1) (λ ss. Ok (record { sizes = h.sizes; statements = ss.0 }, ss.1)) (l, rest) a.2 in
    let found : ListingValue = record { sizes = h.sizes; statements = b.0.0 } in
    let p = read_parts found l b.0.1 rest b.2 in
    let s = head_is.spelled bytes h a.0.1 are a.1 in
    let t = statements_spelled h.sizes h.count a.0.1 b.0.0 b.0.1 (All-behind (λ byte. byte < 256) (start.bytes h) a.0.1 (subst AreBytes s.parts are)) b.1 in
    let all = flat_map (statement_bytes h.sizes) b.0.0 in
    s.parts ∙ ap (λ l. start.bytes h ++ l) t.0 ∙ ap (λ n. head_bytes h.sizes n ++ (all ++ b.0.1)) (sym t.1)
    ∙ sym (append_assoc (head_bytes h.sizes (length b.0.0)) all b.0.1) ∙ ap (λ (m : ListingValue). image_of m ++ b.0.1) p.0 ∙ ap (λ r. image_of l ++ r) p.1

-- ---- an input

concluded_ok : (goes_on : Bool) (total : ℕ) (r : Read ListingValue) (l : ListingValue) → concluded goes_on total r ≡ Ok l → (goes_on ≡ false) × (r ≡ Ok (l, []))
concluded_ok goes_on total (Err (Wrong left fault)) l e = absurd cc
concluded_ok true total (Err (Short left)) l e = absurd cc
concluded_ok false total (Err (Short left)) l e = absurd cc
concluded_ok goes_on total (Ok x) l e = on goes_on x.1 x.0 e
  where
    on : (goes_on : Bool) (rest : List ℕ) (m : ListingValue) → ended goes_on total m rest ≡ Ok l → (goes_on ≡ false) × ((λ (r : Read ListingValue). r) (Ok (m, rest)) ≡ Ok (l, []))
    on goes_on (byte ∷ rest) m e = absurd cc
    on true [] m e = absurd cc
    on false [] m e = (refl, let same : m ≡ l = cc in ap (λ n. Ok (n, [])) same)

pub images_read : ImagesAreRead
unfolding unpacked
images_read l packed few =
    let bytes = image_of l in
    let all : take input_limit bytes ≡ bytes = take_all input_limit bytes few in
    let read : listing_of bytes ≡ Ok (l, []) = ap listing_of (sym (append-nil bytes)) ∙ listing_again l [] packed in
    ap (λ b. concluded b (length (take input_limit bytes)) (listing_of (take input_limit bytes))) (le-ltb input_limit (length bytes) few)
    ∙ ap (λ l. concluded false (length l) (listing_of l)) all
    ∙ ap (concluded false (length bytes)) read

pub only_images : OnlyImagesAreRead
unfolding unpacked
only_images bytes l are e =
    let c = concluded_ok (nat_lt input_limit (length bytes)) (length (take input_limit bytes)) (listing_of (take input_limit bytes)) l e in
    let few : length bytes ≤ input_limit = ltb-false input_limit (length bytes) c.0 in
    let read : listing_of bytes ≡ Ok (l, []) = ap listing_of (sym (take_all input_limit bytes few)) ∙ c.1 in
    listing_spelled bytes l [] are read ∙ append-nil (image_of l)

pub images_differ : ImagesDiffer
images_differ l m is_l is_m same =
    let both : (λ (r : Read ListingValue). r) (Ok (l, [])) ≡ Ok (m, []) =
    sym (listing_again l [] is_l) ∙ ap (λ b. listing_of (b ++ [])) same ∙ listing_again m [] is_m in
    (read_parts l m [] [] both).0
