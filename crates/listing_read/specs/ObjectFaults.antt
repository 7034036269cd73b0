-- Faults of the fields that name objects, as those of the lines that have them (this project's own).
use Rattle.listing_read.specs.declared.object_fault.FieldFault.{FieldFault}
use Rattle.listing_read.specs.declared.object_fault.FieldFault.TheVariants as fields
use Rattle.listing_read.specs.declared.object_fault.CutFault.{CutFault}
use Rattle.listing_read.specs.declared.object_fault.CutFault.TheVariants as cuts
use Rattle.listing_read.specs.declared.object_fault.PolicyFault.{PolicyFault}
use Rattle.listing_read.specs.declared.object_fault.PolicyFault.TheVariants as policies
use Rattle.listing_read.specs.declared.object_fault.QuestionFault.{QuestionFault}
use Rattle.listing_read.specs.declared.object_fault.QuestionFault.TheVariants as questions

-- a fault of fields, as one of a line of a cut
abbrev pub cut_fault : FieldFault → CutFault
cut_fault fields.BadValue = cuts.BadValue
cut_fault fields.BadNumber = cuts.BadNumber
cut_fault fields.NoObject = cuts.NoObject
cut_fault fields.BadOrder = cuts.BadOrder

-- a fault of fields, as one of a line of a policy
abbrev pub policy_fault : FieldFault → PolicyFault
policy_fault fields.BadValue = policies.BadValue
policy_fault fields.BadNumber = policies.BadNumber
policy_fault fields.NoObject = policies.NoObject
policy_fault fields.BadOrder = policies.BadOrder

-- a fault of fields, as one of a line of a question
abbrev pub question_fault : FieldFault → QuestionFault
question_fault fields.BadValue = questions.BadValue
question_fault fields.BadNumber = questions.BadNumber
question_fault fields.NoObject = questions.NoObject
question_fault fields.BadOrder = questions.BadOrder
