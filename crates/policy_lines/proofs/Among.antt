-- A line that a policy says is among its lines.
use Rattle.std.proofs.Common.{◌≡◌, ℕ, Bool, true, false, if◌then◌else◌, List, length, Some, None, ap}
use Rattle.std.specs.List.{Contains}
use Rattle.std.proofs.lemmas.Bool.{lt-ltb}
use Rattle.std.proofs.lemmas.List.Elements.{Contains-append_left, Contains-append_right}
use Rattle.separation_policy.specs.Policy.{PolicyValue}
use Rattle.separation_policy.proofs.Reaching.{both}
use Rattle.separation_check.specs.Crossings.{all_below, listed}
use Rattle.separation_check.proofs.Listed.{has-below, is-listed}
use Rattle.policy_lines.specs.declared.permission.Permission.{Permission}
use Rattle.policy_lines.specs.declared.permission.Permission.TheVariants.{Reads, Writes, Halts, Logs}
use Rattle.policy_lines.specs.Permission.{IsMade, channel_by, channels_from, channels_by, channels_of, halting_by, logging_by, lines_of}
use Rattle.policy_lines.proofs.With.{says}

module _ (policy : PolicyValue) where
  abbrev count : ℕ
  count = length policy.domains

  abbrev halting : List Permission
  halting = all_below (λ a. listed (halting_by policy a)) count

  abbrev logging : List Permission
  logging = all_below (λ a. listed (logging_by policy a)) count

  channel-among : (writes : Bool) (a b : ℕ) (line : Permission) → IsMade count (Reads a b) → channel_by policy writes a b ≡ Some line → Contains (channels_by policy writes) line
  channel-among writes a b line made is =
      has-below (channels_from policy writes) count line a made.0
      (has-below (λ b. listed (channel_by policy writes a b)) count line b made.1 (is-listed (channel_by policy writes a b) line is))

  pub among : (line : Permission) → IsMade count line → says policy line ≡ true → Contains (lines_of policy) line
  among (Reads a b) made said =
      Contains-append_left (channels_of policy) _ (Reads a b) (Contains-append_left (channels_by policy false) (channels_by policy true) (Reads a b)
      (channel-among false a b (Reads a b) made (ap (λ (v : Bool). if v then Some (Reads a b) else None) said)))
  among (Writes a b) made said =
      Contains-append_left (channels_of policy) _ (Writes a b) (Contains-append_right (channels_by policy false) (channels_by policy true) (Writes a b)
      (channel-among true a b (Writes a b) made (ap (λ (v : Bool). if v then Some (Writes a b) else None) (both _ _ (lt-ltb b count made.1) said))))
  among (Halts a) made said =
      Contains-append_right (channels_of policy) _ (Halts a) (Contains-append_left halting logging (Halts a)
      (has-below (λ a. listed (halting_by policy a)) count (Halts a) a made (is-listed (halting_by policy a) (Halts a) (ap (λ (v : Bool). if v then Some (Halts a) else None) said))))
  among (Logs a) made said =
      Contains-append_right (channels_of policy) _ (Logs a) (Contains-append_right halting logging (Logs a)
      (has-below (λ a. listed (logging_by policy a)) count (Logs a) a made (is-listed (logging_by policy a) (Logs a) (ap (λ (v : Bool). if v then Some (Logs a) else None) said))))
