-- Endpoints: where entries lead.
use Rattle.std.specs.Prelude.{◌+◌, ◌%◌, ◌^◌, false}
use Rattle.cap_format.specs.Capability.{null}
use Rattle.endpoint_objects.specs.declared.endpoint.Endpoint.{Endpoint}

-- the endpoint whose payload is one higher, where the number after the last is 0 (Coyotos)
abbrev pub raised : Endpoint → Endpoint
raised endpoint = record endpoint { payload = (endpoint.payload + 1) % 2 ^ 32 }

-- the empty endpoint: no recipient, and 0 in each field (this project's)
abbrev pub empty_endpoint : Endpoint
empty_endpoint = record { recipient = null; id = 0; payload = 0; matching = false }
