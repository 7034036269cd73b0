-- A reader of images: the bytes that it has taken from its source and not used yet. What its calls do to it and to the
-- source is said of the bytes that the source gave, whether these are known or not.
use Rattle.std.specs.Prelude.{◌≡◌, ◌≤◌, ◌<◌, ◌+◌, ◌-◌, ◌⊎◌, ℕ, List, [], ◌∷◌, ◌++◌, length, Option, Result, Ok, Err}
use Rattle.std.specs.Io.KnownBytes.{Keeps, Consumes, IsAtEnd}
use Rattle.coy_io.specs.Limits.{input_limit}
use Rattle.coy_io.specs.declared.traits.Failed.{Failed}
use Rattle.image_binary.specs.declared.fault.ImageFault.{ImageFault}
use Rattle.image_binary.specs.declared.fault.ImageFault.TheVariants.{Refused, ReadFault, TooLong, OutOfMemory}
use Rattle.image_binary.specs.declared.fault.ImageWord.TheVariants.{Cut, Trailing}
use Rattle.image_binary.specs.declared.reader.Supply.{Supply}
use Rattle.image_binary.specs.declared.reader.Supply.TheVariants.{Bytes, End, Past}
use Rattle.image_binary.specs.declared.stop.Stop.TheVariants.{Short, Wrong}
use Rattle.image_binary.specs.Fields.{Read}
use Rattle.image_binary.specs.Laws.{AreBytes}

-- how many bytes of the image were used, and the bytes that are held
pub record Reader : Type 0 where
  pub at : ℕ
  pub held : List ℕ

-- a reader that has taken nothing
abbrev pub new_reader : Reader
new_reader = record { at = 0; held = [] }

-- the offset of a field from which so many of the bytes stand that are held
abbrev pub offset_of : Reader → ℕ → ℕ
offset_of reader left = reader.at + (length reader.held - left)

-- the source gave these bytes, and they stand behind those that were held
pub record Fills (from to : Reader) (old new : Option (List ℕ)) (got : List ℕ) : Type 0 where
  pub bytes : AreBytes got
  pub taken : Consumes old new got
  pub held : to.held ≡ from.held ++ got
  pub at : to.at ≡ from.at

-- so many bytes came, and none only where the source told its end; or it failed
abbrev pub IsFilled : Result ℕ Failed → Reader → Reader → Option (List ℕ) → Option (List ℕ) → Type 0
IsFilled (Ok count) from to old new =
    (got : List ℕ) × (length got ≡ count) × Fills from to old new got × (count ≡ 0 → IsAtEnd new)
IsFilled (Err failed) from to old new = (to ≡ from) × Keeps old new

-- bytes came, or the source told its end, or it gave one byte behind the last that is read, or it failed
abbrev pub IsSupply : Result Supply Failed → Reader → Reader → Option (List ℕ) → Option (List ℕ) → Type 0
IsSupply (Ok Bytes) from to old new =
    (got : List ℕ) × (0 < length got) × Fills from to old new got × (from.at + length from.held + length got ≤ input_limit)
IsSupply (Ok End) from to old new = (to ≡ from) × Keeps old new × IsAtEnd new
IsSupply (Ok Past) from to old new =
    (to ≡ from) × (from.at + length from.held ≡ input_limit) × (byte : ℕ) × (byte < 256) × Consumes old new (byte ∷ [])
IsSupply (Err failed) from to old new = (to ≡ from) × Keeps old new

-- the source told its end, or gave one byte, or failed
abbrev pub IsProbe : Result Supply Failed → Option (List ℕ) → Option (List ℕ) → Type 0
IsProbe (Ok Bytes) old new = ⊥
IsProbe (Ok End) old new = Keeps old new × IsAtEnd new
IsProbe (Ok Past) old new = (byte : ℕ) × (byte < 256) × Consumes old new (byte ∷ [])
IsProbe (Err failed) old new = Keeps old new

-- more bytes came for a field that was short, from which so many of those stand that were held; or this is why none did
abbrev pub Supplies : Result (Unit {0}) ImageFault → ℕ → Reader → Reader → Option (List ℕ) → Option (List ℕ) → Type 0
Supplies (Ok done) left from to old new = (got : List ℕ) × (0 < length got) × Fills from to old new got
Supplies (Err (Refused offset fault)) left from to old new =
    (offset ≡ offset_of from left) × (fault ≡ Cut) × Keeps old new × IsAtEnd new
Supplies (Err TooLong) left from to old new =
    (from.at + length from.held ≡ input_limit) × (byte : ℕ) × (byte < 256) × Consumes old new (byte ∷ [])
Supplies (Err ReadFault) left from to old new = Keeps old new
Supplies (Err OutOfMemory) left from to old new = ⊥

-- a step of reading gave a value: of the bytes that were held and those that the source gave, whatever follows them
pub record StepsTo {A : Type 0} (read : List ℕ → Read A) (from to : Reader) (old new : Option (List ℕ)) (x : A) : Type 0 where
  pub got : List ℕ
  pub bytes : AreBytes got
  pub taken : Consumes old new got
  pub few : from.at + length (from.held ++ got) ≤ input_limit
  pub total : to.at + length to.held ≡ from.at + length (from.held ++ got)
  pub reads : (more : List ℕ) → read ((from.held ++ got) ++ more) ≡ Ok (x, to.held ++ more)

-- why a step gave none, by what was read of the bytes that were held and those that the source gave, `got`, before it
-- gave `last`: a fault, whatever follows; or a field that was short where the source ended, failed or went on too far
abbrev pub IsStop : {A : Type 0} → ImageFault → (List ℕ → Read A) → Reader → List ℕ → List ℕ → Option (List ℕ) → Type 0
IsStop (Refused offset fault) read from got last new =
    (left : ℕ) × (offset ≡ from.at + (length (from.held ++ got) - left)) × (left ≤ length (from.held ++ got)) × (last ≡ [])
    × (((more : List ℕ) → read ((from.held ++ got) ++ more) ≡ Err (Wrong (left + length more) fault))
    ⊎ ((read (from.held ++ got) ≡ Err (Short left)) × (fault ≡ Cut) × IsAtEnd new))
IsStop TooLong read from got last new =
    (left : ℕ) × (read (from.held ++ got) ≡ Err (Short left)) × (from.at + length (from.held ++ got) ≡ input_limit)
    × (length last ≡ 1)
IsStop ReadFault read from got last new = (left : ℕ) × (read (from.held ++ got) ≡ Err (Short left)) × (last ≡ [])
IsStop OutOfMemory read from got last new = ⊥

-- a step gave no value, and this is why
pub record StopsAt {A : Type 0} (read : List ℕ → Read A) (from : Reader) (old new : Option (List ℕ)) (fault : ImageFault) : Type 0 where
  pub got : List ℕ
  pub last : List ℕ
  pub bytes : AreBytes (got ++ last)
  pub taken : Consumes old new (got ++ last)
  pub few : from.at + length (from.held ++ got) ≤ input_limit
  pub cause : IsStop fault read from got last new

-- what a step of reading did
abbrev pub Steps : {A : Type 0} → (List ℕ → Read A) → Reader → Reader → Option (List ℕ) → Option (List ℕ) → Result A ImageFault → Type 0
Steps read from to old new (Ok x) = StepsTo read from to old new x
Steps read from to old new (Err fault) = StopsAt read from old new fault

-- behind the last statement: nothing follows, or a byte that is read, or one that isn't, or the source failed
abbrev pub IsEnding : Result (Unit {0}) ImageFault → Reader → Option (List ℕ) → Option (List ℕ) → Type 0
IsEnding (Ok done) from old new = (from.held ≡ []) × (from.at ≤ input_limit) × Keeps old new × IsAtEnd new
IsEnding (Err (Refused offset fault)) from old new =
    (offset ≡ from.at) × (fault ≡ Trailing) × (got : List ℕ) × AreBytes got × Consumes old new got × (0 < length (from.held ++ got))
    × (from.at + length (from.held ++ got) ≤ input_limit)
IsEnding (Err TooLong) from old new =
    (from.held ≡ []) × (from.at ≡ input_limit) × (byte : ℕ) × (byte < 256) × Consumes old new (byte ∷ [])
IsEnding (Err ReadFault) from old new = (from.held ≡ []) × (from.at ≤ input_limit) × Keeps old new
IsEnding (Err OutOfMemory) from old new = ⊥
