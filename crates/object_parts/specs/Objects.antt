-- What a part stands for.
use Rattle.cap_format.specs.declared.kind.CapKind.{CapKind}
use Rattle.cap_format.specs.declared.kind.CapKind.TheVariants.{Page as PageKind, CapPage as CapPageKind, Gpt as GptKind, Process as ProcessKind, Endpoint as EndpointKind}
use Rattle.object_store.specs.Object.{ObjectValue}
use Rattle.object_store.specs.Object.ObjectValue.{OfPage, OfCapPage, OfGpt, OfProcess, OfEndpoint}
use Rattle.object_parts.specs.declared.part.Part.{Part}
use Rattle.object_parts.specs.declared.part.Part.TheVariants.{Page, CapPage, Gpt, Process, Endpoint}

-- the object that a part is a copy of: its count and its record
abbrev pub object_in : Part → ObjectValue
object_in (Page count page) = OfPage count.value page.value
object_in (CapPage count page) = OfCapPage count.value page.value
object_in (Gpt count gpt) = OfGpt count.value gpt
object_in (Process count process) = OfProcess count.value process.value
object_in (Endpoint count endpoint) = OfEndpoint count.value endpoint

-- the kind of the object
abbrev pub kind_in : Part → CapKind
kind_in (Page count page) = PageKind
kind_in (CapPage count page) = CapPageKind
kind_in (Gpt count gpt) = GptKind
kind_in (Process count process) = ProcessKind
kind_in (Endpoint count endpoint) = EndpointKind
