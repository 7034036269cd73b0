-- The image of a listing, and what the bytes of an input give.
use Rattle.std.specs.Prelude.{◌≡◌, ℕ, zero, suc, ◌-◌, nat_lt, Bool, true, false, List, [], ◌∷◌, ◌++◌, length, take, flat_map, Result, Ok, Err, ⊤}
use Rattle.coy_io.specs.Limits.{input_limit}
use Rattle.object_store.specs.declared.sizes.Sizes.{Sizes}
use Rattle.listing_read.specs.Faults.{◌>>=◌}
use Rattle.listing_read.specs.Statement.{ListingValue}
use Rattle.listing_read.specs.declared.statement.Statement.{Statement}
use Rattle.image_binary.specs.declared.fault.ImageFault.{ImageFault}
use Rattle.image_binary.specs.declared.fault.ImageFault.TheVariants.{Refused, TooLong}
use Rattle.image_binary.specs.declared.fault.ImageWord.TheVariants.{Cut, Trailing}
use Rattle.image_binary.specs.declared.head.Head.{Head}
use Rattle.image_binary.specs.declared.stop.Stop.TheVariants.{Short, Wrong}
use Rattle.image_binary.specs.Fields.{Fields, Read, ◌⨟◌, made}
use Rattle.image_binary.specs.Values.{magic, size, word}
use Rattle.image_binary.specs.Statements.{statement_bytes, statement_of}

-- ---- what stands at the start

-- the letters, the six sizes in the order of the line `machine`, and the number of statements
abbrev pub head_fields : Fields (Unit {0} × (ℕ × (ℕ × (ℕ × (ℕ × (ℕ × (ℕ × ℕ)))))))
head_fields =
    magic ⨟ λ _. size 1 8 ⨟ λ _. size 0 4096 ⨟ λ _. size 0 256 ⨟ λ _. size 0 1024 ⨟ λ _. size 0 256 ⨟ λ _. size 0 1024 ⨟ λ _.
    word

-- the bytes of the head of an image of these sizes and this number of statements
abbrev pub head_bytes : Sizes → ℕ → List ℕ
head_bytes sizes count =
    head_fields.bytes (tt, (sizes.harts, (sizes.pages, (sizes.cappages, (sizes.gpts, (sizes.processes, (sizes.endpoints, count)))))))

-- sizes, each by itself
abbrev pub sizes_of : ℕ → ℕ → ℕ → ℕ → ℕ → ℕ → Sizes
sizes_of harts pages cappages gpts processes endpoints =
    record { harts = harts; pages = pages; cappages = cappages; gpts = gpts; processes = processes; endpoints = endpoints }

-- the head that bytes begin with, or its first fault
unfoldable pub head_of : List ℕ → Read Head
head_of bytes =
    made
    (λ x. record { sizes = sizes_of x.1.0 x.1.1.0 x.1.1.1.0 x.1.1.1.1.0 x.1.1.1.1.1.0 x.1.1.1.1.1.1.0; count = x.1.1.1.1.1.1.1 })
    (head_fields.read bytes)

-- ---- the image

-- the image of a listing
abbrev pub image_of : ListingValue → List ℕ
image_of listing =
    head_bytes listing.sizes (length listing.statements) ++ flat_map (statement_bytes listing.sizes) listing.statements

-- so many statements, one behind the other
unfoldable pub statements_of : Sizes → ℕ → List ℕ → Read (List Statement)
statements_of sizes zero bytes = Ok ([], bytes)
statements_of sizes (suc count) bytes = do
  first ← statement_of sizes bytes
  others ← statements_of sizes count first.1
  Ok (first.0 ∷ others.0, others.1)

-- the listing whose image the bytes begin with
unfoldable pub listing_of : List ℕ → Read ListingValue
listing_of bytes = do
  head ← head_of bytes
  statements ← statements_of head.0.sizes head.0.count head.1
  Ok (record { sizes = head.0.sizes; statements = statements.0 }, statements.1)

-- ---- an input

-- nothing stands behind the last statement, unless the input goes on behind the last byte that is read
abbrev pub ended : Bool → ℕ → ListingValue → List ℕ → Result ListingValue ImageFault
ended goes_on total listing (byte ∷ rest) = Err (Refused (total - length (byte ∷ rest)) Trailing)
ended true total listing [] = Err TooLong
ended false total listing [] = Ok listing

-- what so many bytes gave that were read, and whether the input goes on behind them. The offset of a field is how many
-- of them stand before it. A field that isn't whole is cut, or the input is too long for it.
abbrev pub concluded : Bool → ℕ → Read ListingValue → Result ListingValue ImageFault
concluded goes_on total (Ok x) = ended goes_on total x.0 x.1
concluded goes_on total (Err (Wrong left fault)) = Err (Refused (total - left) fault)
concluded true total (Err (Short left)) = Err TooLong
concluded false total (Err (Short left)) = Err (Refused (total - left) Cut)

-- what an input gives, of which at most the first 16,777,216 bytes are read
unfoldable pub unpacked : List ℕ → Result ListingValue ImageFault
unpacked bytes =
    let read = take input_limit bytes in
    concluded (nat_lt input_limit (length bytes)) (length read) (listing_of read)

-- the bytes have no fault, but that more have to follow or the input has to end behind them
abbrev pub IsOpen : Read ListingValue → Type 0
IsOpen (Ok x) = x.1 ≡ []
IsOpen (Err (Short left)) = ⊤
IsOpen (Err (Wrong left fault)) = ⊥
