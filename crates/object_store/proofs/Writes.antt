-- A write to one object, as it means: the same write to the model's map, of what the written capability means.
use Rattle.std.proofs.Common.{◌≡◌, ℕ, List, refl, sym, ap, ◌∙◌}
use Rattle.std.proofs.lemmas.List.{map-set}
use Rattle.cap_format.specs.Capability.{Capability}
use Rattle.gpt_objects.specs.Header.{HeaderValue}
use Rattle.page_store.specs.CapPage.{cap_at, with_cap}
use Rattle.process_objects.specs.declared.state.State.{State}
use Rattle.process_objects.specs.Process.{ProcessValue, slot_of, capreg_of, with_pc, with_regs, with_capreg, with_slot, with_state}
use Rattle.endpoint_objects.specs.declared.endpoint.Endpoint.{Endpoint as EndpointValue}
use Rattle.object_store.specs.Store.{Store, header_at, slot_at, cappage_at, process_at, endpoint_at, set_slot, set_header, with_items, with_cappage, with_process, with_endpoint}
use Rattle.object_store.specs.Meaning.{meaning, process_map, endpoint_map, state_map}
use Rattle.object_store.proofs.Means.{header_at-map_of, slot_at-map_of, cappage_at-state_map, process_at-state_map, endpoint_at-state_map, cap_at-map, capreg_of-process_map, process_slot-process_map, process_map-with_capreg, process_map-with_slot, state_map-set_slot, state_map-set_header, state_map-with_cappage, state_map-with_process, state_map-with_endpoint}

-- ---- what is read

-- the header of a GPT is in the map as it is stored
pub header_means : (s : Store) (g : ℕ) → header_at s.items g ≡ header_at (state_map s).items g
header_means s g = sym (header_at-map_of s.items g)

-- what slot `i` of GPT `g` means is in that slot of the map
pub gpt_slot_means : (s : Store) (g i : ℕ) → meaning s.items (slot_at s.items g i) ≡ slot_at (state_map s).items g i
gpt_slot_means s g i = sym (slot_at-map_of s.items g i)

-- what slot `i` of capability page `n` means is in that slot of the map
pub cap_means : (s : Store) (n i : ℕ) → meaning s.items (cap_at (cappage_at s n) i) ≡ cap_at (cappage_at (state_map s) n) i
cap_means s n i = sym (ap (λ page. cap_at page i) (cappage_at-state_map s n) ∙ cap_at-map (meaning s.items) refl (cappage_at s n) i)

-- what slot `i` of process `p` means is in that slot of the map
pub slot_means : (s : Store) (p i : ℕ) → meaning s.items (slot_of (process_at s p) i) ≡ slot_of (process_at (state_map s) p) i
slot_means s p i = sym (ap (λ q. slot_of q i) (process_at-state_map s p) ∙ process_slot-process_map (meaning s.items) refl (process_at s p) i)

-- what capability register `i` of process `p` means is in that register of the map
pub capreg_means : (s : Store) (p i : ℕ) → meaning s.items (capreg_of (process_at s p) i) ≡ capreg_of (process_at (state_map s) p) i
capreg_means s p i = sym (ap (λ q. capreg_of q i) (process_at-state_map s p) ∙ capreg_of-process_map (meaning s.items) refl (process_at s p) i)

-- a process of the map has the pc of the one that is stored
pub pc_means : (s : Store) (p : ℕ) → (process_at s p).pc ≡ (process_at (state_map s) p).pc
pc_means s p = sym (ap (λ (q : ProcessValue). q.pc) (process_at-state_map s p))

-- .. its registers
pub regs_means : (s : Store) (p : ℕ) → (process_at s p).regs ≡ (process_at (state_map s) p).regs
regs_means s p = sym (ap (λ (q : ProcessValue). q.regs) (process_at-state_map s p))

-- .. and its state
pub state_means : (s : Store) (p : ℕ) → (process_at s p).state ≡ (process_at (state_map s) p).state
state_means s p = sym (ap (λ (q : ProcessValue). q.state) (process_at-state_map s p))

-- an endpoint of the map has the id of the one that is stored
pub id_means : (s : Store) (n : ℕ) → (endpoint_at s n).id ≡ (endpoint_at (state_map s) n).id
id_means s n = sym (ap (λ (e : EndpointValue). e.id) (endpoint_at-state_map s n))

-- ---- a process

-- where a process is replaced by one that means `u` of the process as it meant, the map has `u` of its process
pub put_process : (s : Store) (p : ℕ) (v : ProcessValue) (u : ProcessValue → ProcessValue) → process_map (meaning s.items) v ≡ u (process_map (meaning s.items) (process_at s p))
    → state_map (with_process s p v) ≡ with_process (state_map s) p (u (process_at (state_map s) p))
put_process s p v u e = state_map-with_process s p v ∙ ap (with_process (state_map s) p) (e ∙ ap u (sym (process_at-state_map s p)))

-- another pc
pub put_pc : (s : Store) (p pc : ℕ) → state_map (with_process s p (with_pc (process_at s p) pc)) ≡ with_process (state_map s) p (with_pc (process_at (state_map s) p) pc)
put_pc s p pc = put_process s p (with_pc (process_at s p) pc) (λ q. with_pc q pc) refl

-- other registers
pub put_regs : (s : Store) (p : ℕ) (regs : List ℕ) → state_map (with_process s p (with_regs (process_at s p) regs)) ≡ with_process (state_map s) p (with_regs (process_at (state_map s) p) regs)
put_regs s p regs = put_process s p (with_regs (process_at s p) regs) (λ q. with_regs q regs) refl

-- another state
pub put_state : (s : Store) (p : ℕ) (state : State) → state_map (with_process s p (with_state (process_at s p) state)) ≡ with_process (state_map s) p (with_state (process_at (state_map s) p) state)
put_state s p state = put_process s p (with_state (process_at s p) state) (λ q. with_state q state) refl

-- another capability in capability register `i`
pub put_capreg : (s : Store) (p i : ℕ) (c : Capability) → state_map (with_process s p (with_capreg (process_at s p) i c)) ≡ with_process (state_map s) p (with_capreg (process_at (state_map s) p) i (meaning s.items c))
put_capreg s p i c = put_process s p (with_capreg (process_at s p) i c) (λ q. with_capreg q i (meaning s.items c)) (process_map-with_capreg (meaning s.items) refl (process_at s p) i c)

-- another capability in slot `i`
pub put_slot : (s : Store) (p i : ℕ) (c : Capability) → state_map (with_process s p (with_slot (process_at s p) i c)) ≡ with_process (state_map s) p (with_slot (process_at (state_map s) p) i (meaning s.items c))
put_slot s p i c = put_process s p (with_slot (process_at s p) i c) (λ q. with_slot q i (meaning s.items c)) (process_map-with_slot (meaning s.items) refl (process_at s p) i c)

-- ---- a GPT, a page, a capability page, an endpoint

-- another capability in slot `i` of a GPT
pub put_gpt_slot : (s : Store) (g i : ℕ) (c : Capability) → state_map (with_items s (set_slot s.items g i c)) ≡ with_items (state_map s) (set_slot (state_map s).items g i (meaning s.items c))
put_gpt_slot s g i c = state_map-set_slot s g i c

-- another header of a GPT
pub put_header : (s : Store) (g : ℕ) (h : HeaderValue) → state_map (with_items s (set_header s.items g h)) ≡ with_items (state_map s) (set_header (state_map s).items g h)
put_header s g h = state_map-set_header s g h

-- another capability in slot `i` of a capability page
pub put_cap : (s : Store) (n i : ℕ) (c : Capability) → state_map (with_cappage s n (with_cap (cappage_at s n) i c)) ≡ with_cappage (state_map s) n (with_cap (cappage_at (state_map s) n) i (meaning s.items c))
put_cap s n i c =
    state_map-with_cappage s n (with_cap (cappage_at s n) i c)
    ∙ ap (with_cappage (state_map s) n) (map-set (meaning s.items) (cappage_at s n) i c ∙ ap (λ page. with_cap page i (meaning s.items c)) (sym (cappage_at-state_map s n)))

-- where an endpoint is replaced by one that means `u` of the endpoint as it meant, the map has `u` of its endpoint
pub put_endpoint : (s : Store) (n : ℕ) (v : EndpointValue) (u : EndpointValue → EndpointValue) → endpoint_map (meaning s.items) v ≡ u (endpoint_map (meaning s.items) (endpoint_at s n))
    → state_map (with_endpoint s n v) ≡ with_endpoint (state_map s) n (u (endpoint_at (state_map s) n))
put_endpoint s n v u e = state_map-with_endpoint s n v ∙ ap (with_endpoint (state_map s) n) (e ∙ ap u (sym (endpoint_at-state_map s n)))
