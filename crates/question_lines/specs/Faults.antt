-- Faults of the fields that name objects, as those of a line of a question. (Own.)
use Rattle.std.specs.Prelude.{Result, Ok, Err}
use Rattle.listing_read.specs.ObjectFaults.{question_fault}
use Rattle.listing_read.specs.declared.object_fault.FieldFault.{FieldFault}
use Rattle.listing_read.specs.declared.object_fault.QuestionFault.{QuestionFault}

-- what such fields say, or their fault as one of the line
abbrev pub as_question : {A : Type 0} → Result A FieldFault → Result A QuestionFault
as_question (Ok said) = Ok said
as_question (Err fault) = Err (question_fault fault)
