-- The bytes of an input that are those of another one.
use Rattle.std.proofs.Common.{◌≡◌, ℕ, ◌+◌, ◌-◌, ◌^◌, ◌≤◌, List, [], ◌++◌, length, take, drop, Option, Some, None, refl, sym, ap, subst, ◌∙◌, arith, inl, inr, length-append, take-take}
use Rattle.std.specs.Prelude.{IsSome, max}
use Rattle.std.specs.Io.KnownBytes.{Consumes, Keeps}
use Rattle.std.proofs.KnownBytes.{Consumes-nil, Consumes-trans}
use Rattle.std.proofs.lemmas.Bool.{cases_lt}
use Rattle.std.proofs.lemmas.List.{length-take-le, take_all, take_rest, drop-drop, drop-take, length-drop}
use lib.Seq.{take-append_seam}
use Rattle.std.proofs.Math.Seq.{take-add, take-append-add}
use Rattle.std.proofs.Transfers.{starts_with_of_append, starts_with_trans}
use Rattle.bit_fields.specs.Devices.{Incoming, Begins, IsWorn, GaveNone, GaveUnseen, Looked, Spends, Fails, known_bytes}
use Rattle.bit_fields.proofs.Words.{looked_consumed}
use Rattle.bit_norm.specs.declared.again.Slices.{Slices}
use Rattle.bit_norm.specs.declared.alike.Stop.{Stop}
use Rattle.bit_norm.specs.declared.alike.Stop.TheVariants.{Silent, Other, End}
use Rattle.bit_norm.specs.Rejoined.{Takes, TakesMore, GoesOnAs, StopsAt, Breaks}

-- ---- bytes that are taken

pub takes_nothing : (i : Incoming) → Takes i 0 [] i
takes_nothing i = record {
  bytes = Consumes-nil i.to_come;
  pulls = omega arith;
  failures = refl;
  accounts = λ n all says. says;
}

looked_none : (o p : Option (List ℕ)) → Keeps o p → Consumes o p []
looked_none None p same = tt
looked_none (Some xs) None same = absurd same
looked_none (Some xs) (Some ys) same = sym same

pub takes_looked : (i j : Incoming) → Looked i j → Takes i 0 [] j
takes_looked i j looked = record {
  bytes = looked_none i.to_come j.to_come looked.bytes;
  pulls = omega (arith, looked.pulls);
  failures = looked.failures;
  accounts = looked.accounts;
}

pub takes_then : (i j k : Incoming) (n m : ℕ) (xs ys : List ℕ) → Takes i n xs j → Takes j m ys k → Takes i (n + m) (xs ++ ys) k
takes_then i j k n m xs ys first second = record {
  bytes = Consumes-trans i.to_come j.to_come k.to_come xs ys first.bytes second.bytes;
  pulls = omega (arith, first.pulls, second.pulls);
  failures = second.failures ∙ first.failures;
  accounts = λ k all says. second.accounts k all (first.accounts k all says);
}

-- ---- how bytes begin

begins_kept : (o p : Option (List ℕ)) (shown : List ℕ) → Keeps o p → Begins p shown → Begins o shown
begins_kept None p shown same begins = tt
begins_kept (Some xs) None shown same begins = absurd same
begins_kept (Some xs) (Some ys) shown same begins = subst (λ (l : List ℕ). Begins (Some l) shown) same begins

begins_less : (o : Option (List ℕ)) (shown : List ℕ) (count : ℕ) → Begins o shown → count ≤ length shown → Begins o (take count shown)
begins_less None shown count begins few = tt
begins_less (Some xs) shown count begins few = starts_with_trans xs shown (take count shown) begins (ap (λ (n : ℕ). take n shown) (length-take-le count shown few))

begins_taken : (o p : Option (List ℕ)) (gone shown : List ℕ) → Consumes o p gone → Begins p shown → Begins o (gone ++ shown)
begins_taken None p gone shown took begins = tt
begins_taken (Some xs) None gone shown took begins = absurd took
begins_taken (Some xs) (Some ys) gone shown took begins = ap (λ (n : ℕ). take n xs) (length-append gone shown) ∙ ap (take (length gone + length shown)) took ∙ take-append-add gone ys (length shown) ∙ ap (λ (l : List ℕ). gone ++ l) begins

pub begins_consumed : (o p : Option (List ℕ)) (gone : List ℕ) → Consumes o p gone → Begins o gone
begins_consumed None p gone took = tt
begins_consumed (Some xs) None gone took = absurd took
begins_consumed (Some xs) (Some ys) gone took = starts_with_of_append xs gone ys took

-- ---- bytes that are passed

-- the bytes that were passed are the shown ones
shown_taken : (o p : Option (List ℕ)) (into lent rest : List ℕ) (most count : ℕ) → Consumes o p (take count into) → count ≤ length into → Begins o lent → count ≤ most → most ≤ length lent → take most lent ≡ take most rest → Consumes o p (take count rest)
shown_taken None p into lent rest most count took fits begins few there same = tt
shown_taken (Some xs) None into lent rest most count took fits begins few there same = absurd took
shown_taken (Some xs) (Some ys) into lent rest most count took fits begins few there same =
    let size : length (take count into) ≡ count = length-take-le count into fits in
    let gone : take count xs ≡ take count into = ap (λ (n : ℕ). take n xs) (sym size) ∙ ap (take (length (take count into))) took ∙ take-append_seam (take count into) ys in
    let seen : take count xs ≡ take count lent = sym (take-take count (length lent) xs (omega (arith, few, there))) ∙ ap (take count) begins in
    let alike : take count lent ≡ take count rest = sym (take-take count most lent few) ∙ ap (take count) same ∙ take-take count most rest few in
    took ∙ ap (λ (s : List ℕ). s ++ ys) (sym gone ∙ seen ∙ alike)

pub takes_passed : (a b c : Incoming) (lent rest : List ℕ) (most count : ℕ) → Looked a b → Begins a.to_come lent → GaveUnseen b c most count → most ≤ length lent → take most lent ≡ take most rest → Takes a 1 (take count rest) c
takes_passed a b c lent rest most count looked begins unseen there same = record {
  bytes = shown_taken a.to_come c.to_come unseen.into lent rest most count (looked_consumed a.to_come b.to_come c.to_come (take count unseen.into) looked.bytes unseen.gave.bytes) unseen.gave.fits begins unseen.few there same;
  pulls = unseen.gave.pulls ∙ ap (λ (n : ℕ). n + 1) looked.pulls;
  failures = unseen.gave.failures ∙ looked.failures;
  accounts = λ n all says. unseen.gave.accounts n all (looked.accounts n all says);
}

-- ---- bytes that are compared

-- the next bytes are the same too
pub same_more : (xs ys : List ℕ) (equal width : ℕ) → take equal xs ≡ take equal ys → take (equal + width - equal) (drop equal xs) ≡ take (equal + width - equal) (drop equal ys) → take (equal + width) xs ≡ take (equal + width) ys
same_more xs ys equal width same next =
    let many : equal + width - equal ≡ width = omega arith in
    let more : take width (drop equal xs) ≡ take width (drop equal ys) = subst (λ (n : ℕ). take n (drop equal xs) ≡ take n (drop equal ys)) many next in
    take-add equal width xs ∙ ap (λ (l : List ℕ). l ++ take width (drop equal xs)) same ∙ ap (λ (l : List ℕ). take equal ys ++ l) more ∙ sym (take-add equal width ys)

-- ---- what was spent

taken_left : (o p : Option (List ℕ)) (gone : List ℕ) (n : ℕ) → Consumes o p gone → length gone ≤ n → IsSome o → IsSome p × (length (known_bytes o) + 0 ≤ length (known_bytes p) + n)
taken_left None p gone n took few known = absurd cc
taken_left (Some xs) None gone n took few known = absurd took
taken_left (Some xs) (Some ys) gone n took few known = (refl, omega (arith, ap length took, length-append gone ys, few))

pub spends_taken : (i j : Incoming) (calls n : ℕ) (gone : List ℕ) → Takes i calls gone j → calls ≤ n → length gone ≤ n → Spends i n j 0
spends_taken i j calls n gone takes each few = record {
  pulls = omega (arith, takes.pulls, each);
  failures = takes.failures;
  tells = λ known. (taken_left i.to_come j.to_come gone n takes.bytes few known).0;
  bytes = λ known. (taken_left i.to_come j.to_come gone n takes.bytes few known).1;
  accounts = takes.accounts;
}

kept_left : (o p : Option (List ℕ)) (n : ℕ) → Keeps o p → IsSome o → (m : ℕ) → m + 0 ≤ length (known_bytes o) + n → IsSome p × (m + 0 ≤ length (known_bytes p) + n)
kept_left None p n same known m le = absurd cc
kept_left (Some xs) None n same known m le = absurd same
kept_left (Some xs) (Some ys) n same known m le = (refl, omega (arith, ap length same, le))

pub fails_taken : (i m j : Incoming) (calls n : ℕ) (gone : List ℕ) → Takes i calls gone m → GaveNone m j → calls + 1 ≤ n → length gone ≤ n → Fails i n j 0
fails_taken i m j calls n gone takes none each few =
    let left : IsSome i.to_come → IsSome j.to_come × (length (known_bytes i.to_come) + 0 ≤ length (known_bytes j.to_come) + n) = λ known.
    let mid = taken_left i.to_come m.to_come gone n takes.bytes few known in
    kept_left m.to_come j.to_come n none.bytes mid.0 (length (known_bytes i.to_come)) mid.1 in
    elim (cases_lt (max m.pulls m.failures) (2 ^ 64 - 1)) [
      | inl fresh ↦
          let counted = none.counted fresh in
          record {
            pulls = omega (arith, takes.pulls, counted.0, each);
            failed = inl (counted.1 ∙ ap (λ (k : ℕ). k + 1) takes.failures);
            tells = λ known. (left known).0;
            bytes = λ known. (left known).1;
            accounts = λ k all says. none.accounts k all (takes.accounts k all says);
          }
      | inr worn ↦
          let same : j ≡ m = none.worn worn in
          record {
            pulls = omega (arith, takes.pulls, ap (λ (s : Incoming). s.pulls) same, each);
            failed = inr (ap (λ (s : Incoming). s.failures) same ∙ takes.failures, subst IsWorn (sym same) worn);
            tells = λ known. (left known).0;
            bytes = λ known. (left known).1;
            accounts = λ k all says. none.accounts k all (takes.accounts k all says);
          }
    ]

-- ---- slices that are taken, one after the other

pub more_none : (first : List ℕ) (s : Slices) (i j : Incoming) → s.bytes ≤ length first → Takes i 0 [] j → TakesMore first 0 s i s j
more_none first s i j few takes = record { width = 0; calls = 0; bytes = omega arith; count = omega arith; few = few; takes = takes }

-- the next bytes, and the next ones behind them
joined : (xs : List ℕ) (from to width more : ℕ) → to ≡ from + width → take width (drop from xs) ++ take more (drop to xs) ≡ take (width + more) (drop from xs)
joined xs from to width more is =
    ap (λ (n : ℕ). take width (drop from xs) ++ take more (drop n xs)) is
    ∙ ap (λ (l : List ℕ). take width (drop from xs) ++ take more l) (sym (drop-drop width from xs))
    ∙ sym (take-add width more (drop from xs))

next_part : (xs : List ℕ) (from to : ℕ) → from ≤ to → drop from (take to xs) ≡ take (to - from) (drop from xs)
next_part xs from to le = (let is : to ≡ from + (to - from) = omega (arith, le) in ap (λ (n : ℕ). drop from (take n xs)) is ∙ drop-take from (to - from) xs)

pub more_then : (first : List ℕ) (none : ℕ) (s t u : Slices) (i j k : Incoming) → TakesMore first 0 s i t j → TakesMore first none t j u k → TakesMore first none s i u k
more_then first none s t u i j k before next =
    let width = before.width + next.width in
    let front = take before.width (drop s.bytes first) in
    let bytes : front ++ take next.width (drop t.bytes first) ≡ take width (drop s.bytes first) = joined first s.bytes t.bytes before.width next.width before.bytes in
    let calls : (before.calls + 0) + (next.calls + none) ≡ (before.calls + next.calls) + none = omega arith in
    record {
      width = width;
      calls = before.calls + next.calls;
      bytes = omega (arith, before.bytes, next.bytes);
      count = omega (arith, before.count, next.count);
      few = next.few;
      takes = subst (λ (n : ℕ). Takes i n (take width (drop s.bytes first)) k) calls (subst (λ (xs : List ℕ). Takes i ((before.calls + 0) + (next.calls + none)) xs k) bytes (takes_then i j k (before.calls + 0) (next.calls + none) front (take next.width (drop t.bytes first)) before.takes next.takes));
    }

-- bytes after those that were taken
goes_then : (first : List ℕ) (equal : ℕ) (s t u : Slices) (i j : Incoming) → t.bytes ≤ u.bytes → TakesMore first 0 s i t j → GoesOnAs first equal t j u → GoesOnAs first equal s i u
goes_then first equal s t u i j on before next =
    let most = u.bytes + equal in
    let front = take before.width (drop s.bytes first) in
    let bytes : front ++ drop t.bytes (take most first) ≡ drop s.bytes (take most first) =
    ap (λ (xs : List ℕ). front ++ xs) (next_part first t.bytes most (omega arith))
    ∙ joined first s.bytes t.bytes before.width (most - t.bytes) before.bytes
    ∙ ap (λ (n : ℕ). take n (drop s.bytes first)) (omega (arith, before.bytes))
    ∙ sym (next_part first s.bytes most (omega (arith, before.bytes))) in
    record {
      few = next.few;
      same = subst (Begins i.to_come) bytes (begins_taken i.to_come j.to_come front (drop t.bytes (take most first)) before.takes.bytes next.same);
    }

-- no byte is known to be the same but those that were taken
pub goes_no_further : (first : List ℕ) (s t : Slices) (i j : Incoming) → TakesMore first 0 s i t j → GoesOnAs first 0 s i t
goes_no_further first s t i j more =
    let taken : take more.width (drop s.bytes first) ≡ drop s.bytes (take (t.bytes + 0) first) = sym (drop-take s.bytes more.width first) ∙ ap (λ (n : ℕ). drop s.bytes (take n first)) (omega (arith, more.bytes)) in
    record {
      few = omega (arith, more.few);
      same = subst (Begins i.to_come) taken (begins_consumed i.to_come j.to_come (take more.width (drop s.bytes first)) more.takes.bytes);
    }

-- the next bytes that are lent are the same
pub goes_as_lent : (first lent : List ℕ) (equal : ℕ) (s : Slices) (i j : Incoming) → s.bytes ≤ length first → Looked i j → Begins j.to_come lent → equal ≤ length lent → (let rest = take (length first - s.bytes) (drop s.bytes first) in ((take equal lent ≡ take equal rest) → equal ≤ length rest → GoesOnAs first equal s i s))
goes_as_lent first lent equal s i j before looked begins within same few =
    let rest : take (length first - s.bytes) (drop s.bytes first) ≡ drop s.bytes first = take_rest first s.bytes in
    let shown : take equal lent ≡ drop s.bytes (take (s.bytes + equal) first) = same ∙ ap (take equal) rest ∙ sym (drop-take s.bytes equal first) in
    record {
      few = omega (arith, few, ap length rest, length-drop s.bytes first, before);
      same = subst (Begins i.to_come) shown (begins_kept i.to_come j.to_come (take equal lent) looked.bytes (begins_less j.to_come lent equal begins within));
    }

pub stops_then : (first : List ℕ) (stop : Stop) (s t u : Slices) (i j k : Incoming) → TakesMore first 0 s i t j → StopsAt stop first t j u k → StopsAt stop first s i u k
stops_then first Silent s t u i j k before next = more_then first 0 s t u i j k before next
stops_then first (Other equal) s t u i j k before next = (more_then first 0 s t u i j k before next.0, goes_then first equal s t u i j (omega (arith, next.0.bytes)) before next.1)
stops_then first End s t u i j k before next = (more_then first 1 s t u i j k before next.0, next.1)

pub breaks_then : (first : List ℕ) (s t u : Slices) (i j k : Incoming) → TakesMore first 0 s i t j → Breaks first t j u k → Breaks first s i u k
breaks_then first s t u i j k before next = record { mid = next.mid; takes = more_then first 0 s t u i j next.mid before next.takes; none = next.none }

-- all that were taken, if none were before
pub taken_all : (first : List ℕ) (none : ℕ) (s t : Slices) (i j : Incoming) → s.bytes ≡ 0 → TakesMore first none s i t j → Takes i (t.count + none) (take t.bytes first) j
taken_all first none s t i j empty more =
    let front : take more.width (drop s.bytes first) ≡ take t.bytes first = ap (λ (n : ℕ). take more.width (drop n first)) empty ∙ ap (λ (n : ℕ). take n first) (omega (arith, more.bytes, empty)) in
    let calls : more.calls + none ≡ t.count + none = omega (arith, more.count, s.few, empty) in
    subst (λ (n : ℕ). Takes i n (take t.bytes first) j) calls (subst (λ (xs : List ℕ). Takes i (more.calls + none) xs j) front more.takes)

-- the next slice was taken
pub slice_taken : (first : List ℕ) (s t : Slices) (width : ℕ) (i j : Incoming) → t.bytes ≡ s.bytes + width → t.count ≡ s.count + 1 → s.bytes ≤ length first → width ≤ length (take (length first - s.bytes) (drop s.bytes first)) → Takes i 1 (take width (take (length first - s.bytes) (drop s.bytes first))) j → TakesMore first 0 s i t j
slice_taken first s t width i j bytes count before few takes =
    let rest : take (length first - s.bytes) (drop s.bytes first) ≡ drop s.bytes first = take_all (length first - s.bytes) (drop s.bytes first) (omega (arith, length-drop s.bytes first)) in
    record {
      width = width;
      calls = 1;
      bytes = bytes;
      count = count;
      few = omega (arith, bytes, few, ap length rest, length-drop s.bytes first, before);
      takes = subst (λ (xs : List ℕ). Takes i 1 (take width xs) j) rest takes;
    }
