-- How many slots a call read that had no memory to go on: it goes through all slots, and each time reads so many. (Own.)
use Rattle.std.specs.Prelude.{◌≡◌, ◌≤◌, ℕ, ◌+◌, ◌*◌}

-- it had gone through all slots so many times, and no more than these, and no slot else was read
pub record ReadsWhole (slots most fetches fetches' : ℕ) : Type 0 where
  pub times : ℕ
  pub few : times ≤ most
  pub read : fetches' ≡ fetches + slots * times
