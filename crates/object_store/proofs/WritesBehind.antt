-- A write to one object leaves no capability ahead, where none was and what is written is not.
use Rattle.std.proofs.Common.{◌≡◌, ℕ, List, refl, sym, subst}
use Rattle.std.specs.List.{All}
use Rattle.std.proofs.lemmas.List.Elements.{All-set}
use Rattle.cap_format.specs.Capability.{Capability, null}
use Rattle.gpt_objects.specs.Header.{HeaderValue}
use Rattle.page_store.specs.CapPage.{cap_at, with_cap}
use Rattle.process_objects.specs.declared.state.State.{State}
use Rattle.process_objects.specs.Process.{ProcessValue, slot_of, capreg_of, with_capreg, with_state}
use Rattle.endpoint_objects.specs.declared.endpoint.Endpoint.{Endpoint as EndpointValue}
use Rattle.object_store.specs.Store.{Store, slot_at, cappage_at, process_at, endpoint_at, set_slot, set_header, with_items, with_page, with_cappage, with_process, with_endpoint}
use Rattle.object_store.specs.Ahead.{IsBehind, NoneAhead}
use Rattle.object_store.proofs.Live.{IsBehind-null}
use Rattle.object_store.proofs.Each.{slot_at-each, cappage_at-each, cap_at-each, capregs-each, capreg_of-each, capreg_set-each, process_slots-each, process_slot-each, recipient-each}
use Rattle.object_store.proofs.Behind.{NoneAhead-set_slot, NoneAhead-set_header, NoneAhead-with_page, NoneAhead-with_cappage, NoneAhead-with_process, NoneAhead-with_endpoint}

-- Null is not ahead
pub null_behind : (s : Store) → IsBehind s.items null
null_behind s = IsBehind-null s.items

-- `s` has no capability ahead
module _ (s : Store) (none : NoneAhead s) where
  -- ---- what is read

  -- slot `i` of GPT `g`
  pub gpt_slot_behind : (g i : ℕ) → IsBehind s.items (slot_at s.items g i)
  gpt_slot_behind g i = slot_at-each (IsBehind s.items) (null_behind s) s none g i

  -- slot `i` of capability page `n`
  pub cap_behind : (n i : ℕ) → IsBehind s.items (cap_at (cappage_at s n) i)
  cap_behind n i = cap_at-each (IsBehind s.items) (null_behind s) s none n i

  -- all slots of capability page `n`
  pub cappage_behind : (n : ℕ) → All (IsBehind s.items) (cappage_at s n)
  cappage_behind n = cappage_at-each (IsBehind s.items) (null_behind s) s none n

  -- capability register `i` of process `p`
  pub capreg_behind : (p i : ℕ) → IsBehind s.items (capreg_of (process_at s p) i)
  capreg_behind p i = capreg_of-each (IsBehind s.items) (null_behind s) s none p i

  -- slot `i` of process `p`
  pub slot_behind : (p i : ℕ) → IsBehind s.items (slot_of (process_at s p) i)
  slot_behind p i = process_slot-each (IsBehind s.items) (null_behind s) s none p i

  -- the recipient of endpoint `n`
  pub recipient_behind : (n : ℕ) → IsBehind s.items (endpoint_at s n).recipient
  recipient_behind n = recipient-each (IsBehind s.items) (null_behind s) s none n

  -- ---- a process

  -- a process with the capabilities that it had, whatever else it has
  pub put_process_behind : (p : ℕ) (v : ProcessValue) → v.capregs ≡ (process_at s p).capregs → v.slots ≡ (process_at s p).slots → NoneAhead (with_process s p v)
  put_process_behind p v capregs slots =
      NoneAhead-with_process s none p v
      (subst (All (IsBehind s.items)) (sym capregs) (capregs-each (IsBehind s.items) (null_behind s) s none p))
      (subst (All (IsBehind s.items)) (sym slots) (process_slots-each (IsBehind s.items) (null_behind s) s none p))

  -- another state
  pub put_state_behind : (p : ℕ) (state : State) → NoneAhead (with_process s p (with_state (process_at s p) state))
  put_state_behind p state = put_process_behind p (with_state (process_at s p) state) refl refl

  -- another capability in capability register `i`
  pub put_capreg_behind : (p i : ℕ) (c : Capability) → IsBehind s.items c → NoneAhead (with_process s p (with_capreg (process_at s p) i c))
  put_capreg_behind p i c behind =
      NoneAhead-with_process s none p (with_capreg (process_at s p) i c)
      (capreg_set-each (IsBehind s.items) (null_behind s) (process_at s p).capregs i c behind (capregs-each (IsBehind s.items) (null_behind s) s none p))
      (process_slots-each (IsBehind s.items) (null_behind s) s none p)

  -- ---- a GPT, a page, a capability page, an endpoint

  -- another capability in slot `i` of a GPT
  pub put_gpt_slot_behind : (g i : ℕ) (c : Capability) → IsBehind s.items c → NoneAhead (with_items s (set_slot s.items g i c))
  put_gpt_slot_behind g i c behind = NoneAhead-set_slot s none g i c behind

  -- another header of a GPT
  pub put_header_behind : (g : ℕ) (h : HeaderValue) → NoneAhead (with_items s (set_header s.items g h))
  put_header_behind g h = NoneAhead-set_header s none g h

  -- a page that is written
  pub put_page_behind : (n : ℕ) (page : List ℕ) → NoneAhead (with_page s n page)
  put_page_behind n page = NoneAhead-with_page s none n page

  -- another capability in slot `i` of a capability page
  pub put_cap_behind : (n i : ℕ) (c : Capability) → IsBehind s.items c → NoneAhead (with_cappage s n (with_cap (cappage_at s n) i c))
  put_cap_behind n i c behind = NoneAhead-with_cappage s none n (with_cap (cappage_at s n) i c) (All-set (IsBehind s.items) (cappage_at s n) i c behind (cappage_behind n))

  -- an endpoint with a recipient that is not ahead
  pub put_endpoint_behind : (n : ℕ) (v : EndpointValue) → IsBehind s.items v.recipient → NoneAhead (with_endpoint s n v)
  put_endpoint_behind n v behind = NoneAhead-with_endpoint s none n v behind
