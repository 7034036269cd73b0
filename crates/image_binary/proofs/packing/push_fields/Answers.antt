use Rattle.image_binary.proofs.packing.push_fields.Goals as goal

pub returns-in-Code : goal.returns-in-Code
returns-in-Code c = λ sizes. rw c.in-Code.is (c.push_code.ensures sizes)

pub returns-in-Gpt : goal.returns-in-Gpt
returns-in-Gpt c = λ sizes. rw c.in-Gpt.is (c.push_gpt.ensures sizes)

pub returns-in-Endpoint : goal.returns-in-Endpoint
returns-in-Endpoint c = λ sizes. rw c.in-Endpoint.is (c.push_endpoint.ensures sizes)

pub returns-in-Process : goal.returns-in-Process
returns-in-Process c = λ sizes. rw c.in-Process.is (c.push_process.ensures sizes)

pub returns-in-Reg : goal.returns-in-Reg
returns-in-Reg c = λ sizes. rw c.in-Reg.is (c.push_register.ensures sizes)

pub returns-in-Count : goal.returns-in-Count
returns-in-Count c = λ sizes. rw c.in-Count.is (c.push_count.ensures sizes)

pub returns-in-Region : goal.returns-in-Region
returns-in-Region c = λ sizes. rw c.in-Region.is (c.push_region.ensures sizes)

pub returns-in-Page : goal.returns-in-Page
returns-in-Page c = λ sizes. rw (c.in-Page.is, ← c.as_slice.ensures.value) (c.push_page.ensures sizes)
