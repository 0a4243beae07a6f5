-- The bits of a stream that a source still gives, and the state after loading some.
use Rattle.std.specs.Prelude.{◌≡◌, ℕ, ◌+◌, ◌-◌, ◌*◌, ◌^◌, ◌<◌, ◌≤◌, min, Bool, true, false, if◌then◌else◌, List, [], ◌++◌, length, take, drop, IsSome, Result, Ok, Err, nat_lt, ◌&&◌}
use Rattle.std.specs.Io.KnownBytes.{IsAtEnd}
use Rattle.bit_grammar.specs.Bits.{bits_of_bytes}
use Rattle.bit_fields.specs.Devices.{Incoming, Looked, Spends, Fails, known_bytes}
use Rattle.bit_fields.specs.declared.source.SourceFailed.{SourceFailed}
use Rattle.bit_fields.specs.declared.inflow.Missing.{Missing}
use Rattle.bit_fields.specs.declared.inflow.Missing.TheVariants.{End, Limit, Read}

pub record Flow : Type 0 where
  -- bits that were loaded and not yet read
  pub window : List Bool
  pub incoming : Incoming
  -- how many bytes were loaded
  pub loaded : ℕ
  -- the byte at which the stream ends, unless its source ends before
  pub end : ℕ
  -- the limit on bytes
  pub limit : ℕ
  -- the source has returned that it is at its end
  pub ended : Bool

abbrev pub IsKnown : Flow → Type 0
IsKnown f = IsSome f.incoming.to_come

-- where the stream ends within the limit
abbrev pub stop_of : Flow → ℕ
stop_of f = min f.end f.limit

-- the unread bits of the stream, up to the limit
abbrev pub flow_bits : Flow → List Bool
flow_bits f = f.window ++ bits_of_bytes (take (stop_of f - f.loaded)
    (known_bytes f.incoming.to_come))

-- how many bytes the whole input has
abbrev pub total_of : Flow → ℕ
total_of f = f.loaded + length (known_bytes f.incoming.to_come)

-- the unread bits end because of the limit
abbrev pub is_flow_cut : Flow → Bool
is_flow_cut f = nat_lt f.limit (total_of f) && nat_lt f.limit f.end

-- how many pulls may still be made and bytes taken, together
abbrev pub budget_of : Flow → ℕ
budget_of f = if f.ended then 0 else (f.limit + 1 - f.loaded)

-- the invariant between calls
pub record IsFlow (f : Flow) : Type 0 where
  pub held : length f.window ≤ 64
  -- past the limit there is only the byte that shows that the input is longer
  pub loaded : f.loaded ≤ f.limit + 1
  pub limit : f.limit < 2 ^ 35
  pub place : length f.window ≤ 8 * f.loaded
  pub ended : f.ended ≡ true → IsAtEnd f.incoming.to_come × (f.loaded ≤ f.limit)

-- within the stream and the limit, as many bits were read as before
pub record SamePlace (old new : Flow) : Type 0 where
  pub loaded : 8 * old.loaded + length new.window ≤ 8 * new.loaded + length old.window
  pub exact : 8 * min old.loaded (stop_of old) + length new.window
      ≡ 8 * min new.loaded (stop_of new) + length old.window

-- what stays if bytes were loaded, or none are left
pub record KeepsFlow (old new : Flow) : Type 0 where
  pub end : new.end ≡ old.end
  pub limit : new.limit ≡ old.limit
  pub place : SamePlace old new
  pub spends : Spends old.incoming (budget_of old) new.incoming (budget_of new)
  pub left : IsKnown old → flow_bits new ≡ flow_bits old
  pub total : IsKnown old → total_of new ≡ total_of old

-- nothing more was loaded within the limit
pub record NoMore (old new : Flow) (by_limit : Bool) : Type 0 where
  pub keeps : KeepsFlow old new
  pub window : new.window ≡ old.window
  pub left : IsKnown old → flow_bits old ≡ old.window
  pub cut : IsKnown old → is_flow_cut old ≡ by_limit
  pub left_now : flow_bits new ≡ new.window
  pub cut_now : is_flow_cut new ≡ by_limit

-- the source failed
pub record LostFlow (old new : Flow) : Type 0 where
  pub place : SamePlace old new
  pub fails : Fails old.incoming (budget_of old) new.incoming 0

-- why no more bits were loaded
abbrev pub Misses : Flow → Flow → Missing → Type 0
Misses old new End = NoMore old new false
Misses old new Limit = NoMore old new true
Misses old new Read = LostFlow old new

-- the effect of loading bytes
abbrev pub Brings : Flow → Flow → Result (Unit {0}) Missing → Type 0
Brings old new (Ok _) = KeepsFlow old new × (length old.window < length new.window)
Brings old new (Err missing) = Misses old new missing

-- the stream has fewer bits left
pub record RunsOut (old new : Flow) (n : ℕ) (by_limit : Bool) : Type 0 where
  pub keeps : KeepsFlow old new
  pub left : IsKnown old → length (flow_bits old) < n
  pub cut : IsKnown old → is_flow_cut old ≡ by_limit
  pub left_now : length (flow_bits new) < n
  pub cut_now : is_flow_cut new ≡ by_limit

-- the effect of making sure of n bits
abbrev pub Fills : ℕ → Flow → Flow → Result (Unit {0}) Missing → Type 0
Fills n old new (Ok _) = KeepsFlow old new × (n ≤ length new.window)
Fills n old new (Err End) = RunsOut old new n false
Fills n old new (Err Limit) = RunsOut old new n true
Fills n old new (Err Read) = LostFlow old new

-- the stream ends at a byte: the bits of the window after it are dropped
abbrev pub flow_ended_at : Flow → ℕ → Flow
flow_ended_at f end = record f {
  window = take (length f.window - 8 * (min f.loaded f.limit - end))
      f.window;
  end = end;
}

-- bytes of the stream were skipped
pub record PassesBytes (old new : Flow) (count : ℕ) : Type 0 where
  pub some : 0 < count
  pub window : new.window ≡ []
  pub end : new.end ≡ old.end
  pub limit : new.limit ≡ old.limit
  pub loaded : new.loaded ≡ old.loaded + count
  pub within : old.loaded + count ≤ stop_of old
  pub spends : Spends old.incoming (budget_of old) new.incoming (budget_of new)
  pub there : IsKnown old → 8 * count ≤ length (flow_bits old)
  pub left : IsKnown old → flow_bits new ≡ drop (8 * count) (flow_bits old)
  pub total : IsKnown old → total_of new ≡ total_of old

-- the effect of skipping bytes of the stream, at most this many
abbrev pub StepsBytes : ℕ → Flow → Flow → Result ℕ Missing → Type 0
StepsBytes most old new (Ok count) = PassesBytes old new count × (count ≤ most)
StepsBytes most old new (Err missing) = Misses old new missing

-- bits of the stream were skipped
pub record Skips (old new : Flow) (count : ℕ) : Type 0 where
  pub some : 0 < count
  pub end : new.end ≡ old.end
  pub limit : new.limit ≡ old.limit
  pub loaded : 8 * old.loaded + length new.window + count ≤ 8 * new.loaded + length old.window
  pub exact : 8 * min old.loaded (stop_of old) + length new.window + count
      ≡ 8 * min new.loaded (stop_of new) + length old.window
  pub spends : Spends old.incoming (budget_of old) new.incoming (budget_of new)
  pub there : IsKnown old → count ≤ length (flow_bits old)
  pub left : IsKnown old → flow_bits new ≡ drop count (flow_bits old)
  pub total : IsKnown old → total_of new ≡ total_of old

-- the effect of skipping bits of the stream, at most this many; it fails only if no bit is left
abbrev pub SkipsSome : ℕ → Flow → Flow → Result ℕ Missing → Type 0
SkipsSome most old new (Ok count) = Skips old new count × (count ≤ most)
SkipsSome most old new (Err missing) = Fills 1 old new (Err missing)

-- the source was looked at, and nothing was taken
pub record LooksOn (old new : Flow) : Type 0 where
  pub same : new ≡ record old { incoming = new.incoming }
  pub looked : Looked old.incoming new.incoming

-- the effect of looking for bytes after the window
abbrev pub LooksOver : Flow → Result Bool SourceFailed → Flow → Type 0
LooksOver old (Ok some) new = LooksOn old new
LooksOver old (Err e) new = LostFlow old new

-- these bytes come next in the stream after the window
abbrev pub LiesBehind : Flow → List ℕ → Type 0
LiesBehind f bytes = IsKnown f → (rest : List Bool)
    × (flow_bits f ≡ (f.window ++ bits_of_bytes bytes) ++ rest)

-- ---- all remaining input, which is skipped

-- how far it is
pub record Draining (old new : Flow) : Type 0 where
  pub window : new.window ≡ old.window
  pub end : new.end ≡ old.end
  pub loaded : old.loaded ≤ new.loaded
  pub limit : new.limit ≡ old.limit
  pub spends : Spends old.incoming (budget_of old) new.incoming (budget_of new)
  pub total : IsKnown old → total_of new ≡ total_of old

-- the source has no byte left, and the whole input is within the limit
pub record Drained (old new : Flow) : Type 0 where
  pub window : new.window ≡ old.window
  pub end : new.end ≡ old.end
  pub loaded : old.loaded ≤ new.loaded
  pub spends : Spends old.incoming (budget_of old) new.incoming 0
  pub none : IsKnown old → known_bytes new.incoming.to_come ≡ []
  pub within : IsKnown old → total_of old ≤ old.limit

-- the input goes on past the limit
pub record Overran (old new : Flow) : Type 0 where
  pub window : new.window ≡ old.window
  pub end : new.end ≡ old.end
  pub loaded : old.loaded ≤ new.loaded
  pub limit : new.limit ≡ old.limit
  pub spends : Spends old.incoming (budget_of old) new.incoming 0
  pub past : IsKnown old → old.limit < total_of old

-- the source failed before it was at its end
pub record DrainLost (old new : Flow) : Type 0 where
  pub window : new.window ≡ old.window
  pub end : new.end ≡ old.end
  pub loaded : old.loaded ≤ new.loaded
  pub fails : Fails old.incoming (budget_of old) new.incoming 0

-- why it did not reach the end
abbrev pub DrainFails : Flow → Flow → Missing → Type 0
DrainFails old new End = ⊥
DrainFails old new Limit = Overran old new
DrainFails old new Read = DrainLost old new

-- the effect of skipping some bytes
abbrev pub DrainsSome : Flow → Flow → Result (Unit {0}) Missing → Type 0
DrainsSome old new (Ok _) = Draining old new
DrainsSome old new (Err missing) = DrainFails old new missing

-- the effect of skipping all bytes
abbrev pub Drains : Flow → Flow → Result (Unit {0}) Missing → Type 0
Drains old new (Ok _) = Drained old new
Drains old new (Err missing) = DrainFails old new missing

-- how many more bytes may be skipped
abbrev pub to_drain : Flow → ℕ
to_drain f = if f.ended then 0 else (f.limit + 2 - f.loaded)
