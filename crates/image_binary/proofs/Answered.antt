-- What an answer says of images: the bytes of a listing that was read are its image, and an image is read as its listing.
use Rattle.std.proofs.Common.{◌≡◌, ◌≤◌, List, ◌++◌, ℕ, length, Option, Some, None, Result, Ok, Err, sym, ap, subst, ◌∙◌, append-nil}
use Rattle.std.specs.Prelude.{IfOk, IfSome}
use Rattle.coy_io.specs.Limits.{input_limit}
use Rattle.listing_read.specs.Statement.{ListingValue}
use Rattle.image_binary.specs.declared.fault.ImageFault.{ImageFault}
use Rattle.image_binary.specs.declared.fault.ImageFault.TheVariants.{Refused, ReadFault, TooLong, OutOfMemory}
use Rattle.image_binary.specs.Image.{image_of, unpacked}
use Rattle.image_binary.specs.Laws.{AreBytes, IsPacked}
use Rattle.image_binary.specs.Unpacked.{Answers, Unpacks, Finds}
use Rattle.image_binary.proofs.ImageLaws.{images_read, only_images}

pub image_is : (result : Result ListingValue ImageFault) (old new : Option (List ℕ)) → Unpacks result old new → IfOk result (λ l. IfSome old (λ bytes. bytes ≡ image_of l))
image_is (Err fault) old new u = tt
image_is (Ok l) None new u = tt
image_is (Ok l) (Some x) None u = absurd u.answers
image_is (Ok l) (Some x) (Some y) u =
    let all : x ≡ u.takes.taken = u.takes.consumed ∙ ap (λ r. u.takes.taken ++ r) u.answers.1 ∙ append-nil u.takes.taken in
    only_images x l (subst AreBytes (sym all) u.takes.bytes) u.answers.0

-- an answer of known bytes that are an image
answers_image : (result : Result ListingValue ImageFault) (l : ListingValue) (new : Option (List ℕ)) → unpacked (image_of l) ≡ Ok l → Answers result (Some (image_of l)) new → Finds result l
answers_image result l None read a = absurd a
answers_image (Ok found) l (Some y) read a = let same = sym a.0 ∙ read in cc
answers_image (Err (Refused offset fault)) l (Some y) read a = absurd (let same = sym a ∙ read in cc)
answers_image (Err TooLong) l (Some y) read a = absurd (let same = sym a ∙ read in cc)
answers_image (Err ReadFault) l (Some y) read a = tt
answers_image (Err OutOfMemory) l (Some y) read a = tt

pub finds : (result : Result ListingValue ImageFault) (l : ListingValue) (old new : Option (List ℕ)) → IsPacked l → length (image_of l) ≤ input_limit → old ≡ Some (image_of l)
    → Unpacks result old new → Finds result l
finds result l old new packed few is u =
    answers_image result l new (images_read l packed few) (subst (λ o. Answers result o new) is u.answers)
