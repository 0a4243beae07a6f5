-- The first bytes of a source.
use Rattle.std.specs.Prelude.{ℕ, zero, suc, ◌-◌, true, ◌∷◌, take, drop, option_map}
use Rattle.bit_fields.specs.Devices.{Incoming, Calls, keeping, calling}

-- the counts of a source and of its front, which may still take `left` bytes
abbrev pub calls_of : (left pulls failures : ℕ) → Incoming → Calls
calls_of left pulls failures i = record {
  pulls = i.pulls;
  failures = i.failures;
  asked = pulls;
  failed = failures;
  left = left;
}

-- A source of the first `left` bytes of another one, with counts of its own. It accounts for the bytes behind these, which stay as
-- they are, and for its calls of the other source.
abbrev pub front_of : (left pulls failures : ℕ) → Incoming → Incoming
front_of left pulls failures i = record {
  to_come = option_map (take left) i.to_come;
  pulls = pulls;
  failures = failures;
  accounts = keeping true (option_map (drop left) i.to_come)
      ∷ calling (calls_of left pulls failures i) ∷ i.accounts;
}

-- so many bytes are left after `count` more were taken: none if the other source is at its end
abbrev pub left_after : (left count : ℕ) → ℕ
left_after left zero = 0
left_after left (suc count) = left - suc count
