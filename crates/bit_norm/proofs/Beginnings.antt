-- How an input begins, of which slices were taken that are those of another one.
use Rattle.std.proofs.Common.{◌≡◌, ℕ, ◌+◌, ◌<◌, ◌≤◌, List, [], ◌++◌, length, take, drop, Ok, Some, refl, subst, ◌∙◌, arith, append-nil}
use Rattle.std.specs.Prelude.{min}
use Rattle.std.proofs.lemmas.List.{length-take-le, take_all}
use Rattle.bit_grammar.specs.Blocks.{Limits}
use Rattle.bit_fields.specs.Devices.{Incoming, Begins, GaveNone}
use Rattle.bit_events.specs.Reading.{LostInput}
use Rattle.bit_norm.specs.declared.again.Slices.{Slices}
use Rattle.bit_norm.specs.declared.alike.Stop.{Stop}
use Rattle.bit_norm.specs.declared.alike.Stop.TheVariants.{Silent, Other, End}
use Rattle.bit_norm.specs.Rejoined.{equal_behind, StopsAt, Takes, TakesMore, TakesNext, GoesOnAs, TakesFront, TakesSame}
use Rattle.bit_norm.proofs.AlikeBytes.{goes_no_further, takes_then, taken_all, spends_taken, fails_taken}

pub goes_on : (first : List ℕ) (s t : Slices) (i j : Incoming) (stop : Stop) → (stop ≡ End → ⊥) → StopsAt stop first s i t j → TakesMore first 0 s i t j × GoesOnAs first (equal_behind stop) s i t
goes_on first s t i j Silent not more = (more, goes_no_further first s t i j more)
goes_on first s t i j (Other equal) not more = more
goes_on first s t i j End not more = absurd (not refl)

module _ (limits : Limits) (first : List ℕ) (s t : Slices) (i j : Incoming) (empty : s.bytes ≡ 0) (within : length first ≤ limits.bytes) (more : TakesMore first 0 s i t j) where
  takes : Takes i t.count (take t.bytes first) j
  takes = subst (λ (n : ℕ). Takes i n (take t.bytes first) j) (omega arith) (taken_all first 0 s t i j empty more)

  short : length (take t.bytes first) ≤ limits.bytes
  short = omega (arith, length-take-le t.bytes first more.few, more.few, within)

  pub takes_lost : (k : Incoming) → GaveNone j k → LostInput limits i k
  takes_lost k none = fails_taken i j k t.count (limits.bytes + 1) (take t.bytes first) takes none (omega (arith, t.few, more.few, within)) (omega (arith, short))

  pub takes_same : (next : List ℕ) (k : Incoming) → length first ≤ t.bytes → TakesNext next j (Ok (Some 0)) k → TakesSame limits first i k
  takes_same next k all ended =
      let whole : take t.bytes first ++ [] ≡ first = append-nil (take t.bytes first) ∙ take_all t.bytes first all in
      let took : Takes i (t.count + 1) first k = subst (λ (xs : List ℕ). Takes i (t.count + 1) xs k) whole (takes_then i j k t.count 1 (take t.bytes first) [] takes ended.2) in
      record {
        spent = spends_taken i k (t.count + 1) (limits.bytes + 1) first took (omega (arith, t.few, more.few, within)) (omega (arith, within));
        bytes = took.bytes;
        end = ended.1 refl;
      }

  -- so many bytes more were taken
  pub takes_front : (next : List ℕ) (k : Incoming) (count equal : ℕ) → count ≤ length next → count ≤ 1 → GoesOnAs first equal s i t → Takes j (min 1 count) (take count next) k → TakesFront limits first next i t count equal k
  takes_front next k count equal there one on took = record {
    few = on.few;
    within = omega (arith, more.few, within);
    there = there;
    one = one;
    takes = takes_then i j k t.count (min 1 count) (take t.bytes first) (take count next) takes took;
    same = subst (λ (n : ℕ). Begins i.to_come (drop n (take (t.bytes + equal) first))) empty on.same;
  }

  pub takes_next : (next : List ℕ) (k : Incoming) (count : ℕ) → length next ≡ 1 → 0 < count → TakesNext next j (Ok (Some count)) k → TakesFront limits first next i t count 0 k
  takes_next next k count long some took =
      takes_front next k count 0 took.0 (omega (arith, took.0, long)) (goes_no_further first s t i j more) (subst (λ (n : ℕ). Takes j n (take count next) k) (omega (arith, some)) took.2)
