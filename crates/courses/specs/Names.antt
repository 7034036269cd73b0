-- The names of faults, as a refusal prints them.
use Rattle.std.specs.Prelude.{ℕ, List, codes}
use Rattle.listing_read.specs.declared.object_fault.CutFault.{CutFault}
use Rattle.listing_read.specs.declared.object_fault.CutFault.TheVariants as cuts
use Rattle.listing_read.specs.declared.object_fault.PolicyFault.{PolicyFault}
use Rattle.listing_read.specs.declared.object_fault.PolicyFault.TheVariants as policies
use Rattle.listing_read.specs.declared.object_fault.QuestionFault.{QuestionFault}
use Rattle.listing_read.specs.declared.object_fault.QuestionFault.TheVariants as questions
use Rattle.image_binary.specs.declared.fault.ImageWord.{ImageWord}
use Rattle.image_binary.specs.declared.fault.ImageWord.TheVariants as images
use Rattle.listing_read.specs.declared.fault.Fault.{Fault}
use Rattle.listing_read.specs.declared.fault.Fault.TheVariants.{LineTooLong, BadByte, BadHeader, BadMachine, NoEnd, UnknownStatement, WrongWords, BadNumber, NoObject, BadValue, BadHex, BadInstruction, BadCap, BadGuard, BadName, NameTaken, NameUnknown}
use Rattle.listing_read.specs.declared.fault.ScheduleFault.{ScheduleFault}
use Rattle.listing_read.specs.declared.fault.ScheduleFault.TheVariants.{LineTooLong as TooLong, BadByte as NotVisible, UnknownEvent, WrongWords as OtherWords, BadNumber as NoNumber, NoHart, BadRepeat, EventInPack}

-- a fault of a line of a cut
abbrev pub cut_fault_name : CutFault → List ℕ
cut_fault_name cuts.LineTooLong = codes "LineTooLong"
cut_fault_name cuts.BadByte = codes "BadByte"
cut_fault_name cuts.UnknownCut = codes "UnknownCut"
cut_fault_name cuts.WrongWords = codes "WrongWords"
cut_fault_name cuts.BadValue = codes "BadValue"
cut_fault_name cuts.BadNumber = codes "BadNumber"
cut_fault_name cuts.NoObject = codes "NoObject"
cut_fault_name cuts.BadOrder = codes "BadOrder"

-- a fault of a line of a policy
abbrev pub policy_fault_name : PolicyFault → List ℕ
policy_fault_name policies.LineTooLong = codes "LineTooLong"
policy_fault_name policies.BadByte = codes "BadByte"
policy_fault_name policies.UnknownPolicy = codes "UnknownPolicy"
policy_fault_name policies.WrongWords = codes "WrongWords"
policy_fault_name policies.BadName = codes "BadName"
policy_fault_name policies.TooManyDomains = codes "TooManyDomains"
policy_fault_name policies.BadValue = codes "BadValue"
policy_fault_name policies.BadNumber = codes "BadNumber"
policy_fault_name policies.NoObject = codes "NoObject"
policy_fault_name policies.BadOrder = codes "BadOrder"
policy_fault_name policies.Taken = codes "Taken"
policy_fault_name policies.NoDomain = codes "NoDomain"
policy_fault_name policies.NameTaken = codes "NameTaken"
policy_fault_name policies.NotFirst = codes "NotFirst"
policy_fault_name policies.NoEnd = codes "NoEnd"

-- a fault of a line of a question
abbrev pub question_fault_name : QuestionFault → List ℕ
question_fault_name questions.LineTooLong = codes "LineTooLong"
question_fault_name questions.BadByte = codes "BadByte"
question_fault_name questions.UnknownQuestion = codes "UnknownQuestion"
question_fault_name questions.UnknownEvent = codes "UnknownEvent"
question_fault_name questions.UnknownAtom = codes "UnknownAtom"
question_fault_name questions.WrongWords = codes "WrongWords"
question_fault_name questions.BadNumber = codes "BadNumber"
question_fault_name questions.NoHart = codes "NoHart"
question_fault_name questions.BadRepeat = codes "BadRepeat"
question_fault_name questions.BadValue = codes "BadValue"
question_fault_name questions.NoObject = codes "NoObject"
question_fault_name questions.BadCode = codes "BadCode"
question_fault_name questions.BadOrder = codes "BadOrder"
question_fault_name questions.BadRegister = codes "BadRegister"
question_fault_name questions.BadOffset = codes "BadOffset"
question_fault_name questions.BadLimit = codes "BadLimit"
question_fault_name questions.BadTerm = codes "BadTerm"
question_fault_name questions.Taken = codes "Taken"
question_fault_name questions.WrongChoices = codes "WrongChoices"
question_fault_name questions.TooManyProcesses = codes "TooManyProcesses"
question_fault_name questions.NoEnd = codes "NoEnd"
question_fault_name (questions.OfPolicy fault) = policy_fault_name fault

-- a fault of a listing
abbrev pub fault_name : Fault → List ℕ
fault_name LineTooLong = codes "LineTooLong"
fault_name BadByte = codes "BadByte"
fault_name BadHeader = codes "BadHeader"
fault_name BadMachine = codes "BadMachine"
fault_name NoEnd = codes "NoEnd"
fault_name UnknownStatement = codes "UnknownStatement"
fault_name WrongWords = codes "WrongWords"
fault_name BadNumber = codes "BadNumber"
fault_name NoObject = codes "NoObject"
fault_name BadValue = codes "BadValue"
fault_name BadHex = codes "BadHex"
fault_name BadInstruction = codes "BadInstruction"
fault_name BadCap = codes "BadCap"
fault_name BadGuard = codes "BadGuard"
fault_name BadName = codes "BadName"
fault_name NameTaken = codes "NameTaken"
fault_name NameUnknown = codes "NameUnknown"

-- a fault of a schedule
abbrev pub schedule_fault_name : ScheduleFault → List ℕ
schedule_fault_name TooLong = codes "LineTooLong"
schedule_fault_name NotVisible = codes "BadByte"
schedule_fault_name UnknownEvent = codes "UnknownEvent"
schedule_fault_name OtherWords = codes "WrongWords"
schedule_fault_name NoNumber = codes "BadNumber"
schedule_fault_name NoHart = codes "NoHart"
schedule_fault_name BadRepeat = codes "BadRepeat"
schedule_fault_name EventInPack = codes "EventInPack"

-- a fault of an image
abbrev pub image_word_name : ImageWord → List ℕ
image_word_name images.Cut = codes "Cut"
image_word_name images.BadMagic = codes "BadMagic"
image_word_name images.BadMachine = codes "BadMachine"
image_word_name images.BadType = codes "BadType"
image_word_name images.BadCap = codes "BadCap"
image_word_name images.BadInstruction = codes "BadInstruction"
image_word_name images.NoObject = codes "NoObject"
image_word_name images.BadValue = codes "BadValue"
image_word_name images.Trailing = codes "Trailing"
