-- Bytes as a word.
use Rattle.std.proofs.Common.{◌≡◌, ℕ, ◌+◌, ◌*◌, ◌-◌, ◌^◌, ◌<◌, ◌≤◌, min, Bool, List, [], ◌∷◌, ◌++◌, length, take, drop, get_or, Option, Some, None, Result, Ok, Err, refl, sym, ap, subst, ◌∙◌, arith, take-take, append_assoc}
use Rattle.std.specs.Io.KnownBytes as bytes
use Rattle.std.proofs.KnownBytes.{Keeps-trans}
use lib.Seq.{take-append_seam}
use Rattle.std.proofs.lemmas.List.{length-append, length-take-le, take-append-le, take-append-drop, drop_all, take_all, length-drop}
use Rattle.bit_grammar.specs.Bits.{bits_of, bits_of_bytes}
use Rattle.std.specs.Int.{w32, to_le_bytes}
use Rattle.bit_fields.proofs.BitLaws.{le_bytes_bits_32, bits_of_bytes-append}
use Rattle.bit_fields.specs.Devices.{Account, SaysOf, Incoming, IsFresh, IsWorn, Begins, Looked, Gave, GaveNone, GaveWord, GaveUnseen, PullsUnseen}
use Rattle.bit_fields.specs.declared.source.SourceFailed.{SourceFailed}

abbrev zeros : List ℕ
zeros = 0 ∷ 0 ∷ 0 ∷ 0 ∷ 0 ∷ 0 ∷ 0 ∷ 0 ∷ []

-- ---- four bytes

pub four_first : (s : List ℕ) → 4 ≤ length s → get_or s 0 0 ∷ get_or s 1 0 ∷ get_or s 2 0 ∷ get_or s 3 0 ∷ [] ≡ take 4 s
four_first [] long = absurd (omega arith)
four_first (a ∷ []) long = absurd (omega arith)
four_first (a ∷ b ∷ []) long = absurd (omega arith)
four_first (a ∷ b ∷ c ∷ []) long = absurd (omega arith)
four_first (a ∷ b ∷ c ∷ d ∷ s) long = refl

pub four_bits : (n : ℕ) (four bytes : List ℕ) → to_le_bytes w32 n ≡ four → four ≡ take 4 bytes → bits_of 32 n ≡ bits_of_bytes (take 4 bytes)
four_bits n four bytes is front = sym (le_bytes_bits_32 n) ∙ ap bits_of_bytes (is ∙ front)

-- the first bytes are appended to a window, and the bits stay the same
pub some_moved : (count : ℕ) (window new : List Bool) (word : ℕ) (bytes : List ℕ) → new ≡ window ++ bits_of (8 * count) word → bits_of (8 * count) word ≡ bits_of_bytes (take count bytes) → new ++ bits_of_bytes (take (length bytes - count) (drop count bytes)) ≡ window ++ bits_of_bytes bytes
some_moved count window new word bytes is bits =
    let whole : take (length bytes - count) (drop count bytes) ≡ drop count bytes = take_all (length bytes - count) (drop count bytes) (omega (arith, length-drop count bytes)) in
    let parts : bits_of_bytes (take count bytes) ++ bits_of_bytes (drop count bytes) ≡ bits_of_bytes bytes = sym (bits_of_bytes-append (take count bytes) (drop count bytes)) ∙ ap bits_of_bytes (take-append-drop count bytes) in
    ap (λ (s : List Bool). s ++ bits_of_bytes (take (length bytes - count) (drop count bytes))) (is ∙ ap (λ (s : List Bool). window ++ s) bits)
    ∙ ap (λ (s : List ℕ). (window ++ bits_of_bytes (take count bytes)) ++ bits_of_bytes s) whole
    ∙ append_assoc window (bits_of_bytes (take count bytes)) (bits_of_bytes (drop count bytes))
    ∙ ap (λ (s : List Bool). window ++ s) parts

-- ---- bytes that are skipped

-- the first of the bytes that a source showed were skipped
pub front_passed : (i j : Incoming) (shown : List ℕ) (most count : ℕ) → IsFresh i → j.pulls ≡ i.pulls + 1 → j.failures ≡ i.failures → bytes.Consumes i.to_come j.to_come (take count shown) → (count ≡ 0 → bytes.IsAtEnd j.to_come) → j.accounts ≡ i.accounts → count ≤ most → count ≤ length shown → GaveUnseen i j most count
front_passed i j shown most count fresh pulls failures gone end accounts few there =
    let all : List ℕ = shown ++ zeros in
    let long : length all ≡ length shown + 8 = length-append shown zeros in
    let same : take count all ≡ take count shown = take-append-le count shown zeros there in
    record {
      into = all;
      some = omega (arith, long);
      few = few;
      gave = record {
        fresh = fresh;
        fits = omega (arith, long);
        bytes = subst (bytes.Consumes i.to_come j.to_come) (sym same) gone;
        end = λ none more. end none;
        pulls = pulls;
        failures = failures;
        accounts = λ n all says. subst (λ (a : List Account). SaysOf a n all) (sym accounts) says;
      };
    }

-- the first bytes of a slice were skipped
pub slice_passed : (rest : List ℕ) (pulls most count : ℕ) → pulls < 2 ^ 64 - 1 → 0 < most → count ≡ min most (length rest)
    → GaveUnseen (record { to_come = Some rest; pulls = pulls; failures = 0; accounts = [] }) (record { to_come = Some (take (length rest - count) (drop count rest)); pulls = pulls + 1; failures = 0; accounts = [] }) most count
slice_passed rest pulls most count fresh some is =
    let whole : take (length rest - count) (drop count rest) ≡ drop count rest = take_all (length rest - count) (drop count rest) (omega (arith, length-drop count rest)) in
    let split : rest ≡ take count rest ++ take (length rest - count) (drop count rest) = sym (ap (λ (s : List ℕ). take count rest ++ s) whole ∙ take-append-drop count rest) in
    let i : Incoming = record { to_come = Some rest; pulls = pulls; failures = 0; accounts = [] } in
    let j : Incoming = record { to_come = Some (take (length rest - count) (drop count rest)); pulls = pulls + 1; failures = 0; accounts = [] } in
    front_passed i j rest most count (omega arith) refl refl split (λ none. whole ∙ drop_all count rest (omega arith)) refl (omega arith) (omega arith)

-- ---- a source that was looked at before it was pulled

pub looked_consumed : (a b c : Option (List ℕ)) (gone : List ℕ) → bytes.Keeps a b → bytes.Consumes b c gone → bytes.Consumes a c gone
looked_consumed None b c gone same gave = tt
looked_consumed (Some xs) None c gone same gave = absurd same
looked_consumed (Some xs) (Some ys) None gone same gave = absurd gave
looked_consumed (Some xs) (Some ys) (Some zs) gone same gave = sym same ∙ gave

pub gave_looked : (a b c : Incoming) (count : ℕ) (into : List ℕ) → Looked a b → Gave b c count into → Gave a c count into
gave_looked a b c count into looked gave = record {
  fresh = omega (arith, gave.fresh, looked.pulls, looked.failures);
  fits = gave.fits;
  bytes = looked_consumed a.to_come b.to_come c.to_come (take count into) looked.bytes gave.bytes;
  end = gave.end;
  pulls = gave.pulls ∙ ap (λ (n : ℕ). n + 1) looked.pulls;
  failures = gave.failures ∙ looked.failures;
  accounts = λ n all says. gave.accounts n all (looked.accounts n all says);
}

pub none_looked : (a b c : Incoming) → Looked a b → GaveNone b c → GaveNone a c
none_looked a b c looked none = record {
  bytes = Keeps-trans a.to_come b.to_come c.to_come looked.bytes none.bytes;
  counted = λ fresh. let n = none.counted (omega (arith, fresh, looked.pulls, looked.failures)) in (n.0 ∙ ap (λ (m : ℕ). m + 1) looked.pulls, n.1 ∙ ap (λ (m : ℕ). m + 1) looked.failures);
  worn = λ worn. let same = looked.worn worn in none.worn (subst IsWorn (sym same) worn) ∙ same;
  accounts = λ n all says. none.accounts n all (looked.accounts n all says);
}

-- ---- a word of bytes that were seen before

-- the bytes taken are the first of the bytes seen
front_consumed : (i j : Option (List ℕ)) (seen gone : List ℕ) (count : ℕ) → bytes.Consumes i j gone → Begins i seen → length gone ≡ count → count ≤ length seen → bytes.Consumes i j (take count seen)
front_consumed None j seen gone count gave begins len few = tt
front_consumed (Some xs) None seen gone count gave begins len few = absurd gave
front_consumed (Some xs) (Some ys) seen gone count gave begins len few =
    let front : take count seen ≡ gone = ap (take count) (sym begins) ∙ take-take count (length seen) xs few ∙ ap (take count) gave ∙ ap (λ (n : ℕ). take n (gone ++ ys)) (sym len) ∙ take-append_seam gone ys in
    gave ∙ ap (λ (s : List ℕ). s ++ ys) (sym front)

pub word_unseen : (a b c : Incoming) (seen : List ℕ) (room word count : ℕ) → Looked a b → Begins a.to_come seen → length seen ≡ 8 → 0 < room → room ≤ 8 → GaveUnseen b c room count → word < 2 ^ (8 * count) → bits_of (8 * count) word ≡ bits_of_bytes (take count seen) → GaveWord a c room word count
word_unseen a b c seen room word count looked begins long some few unseen below bits =
    let gave : Gave a c count unseen.into = gave_looked a b c count unseen.into looked unseen.gave in
    let wide : length (take room seen) ≡ room = length-take-le room seen (omega (arith, long, few)) in
    let same : take count (take room seen) ≡ take count seen = take-take count room seen unseen.few in
    let gone : bytes.Consumes a.to_come c.to_come (take count seen) = front_consumed a.to_come c.to_come seen (take count unseen.into) count gave.bytes begins (length-take-le count unseen.into gave.fits) (omega (arith, long, few, unseen.few)) in
    record {
      into = take room seen;
      wide = wide;
      gave = record {
        fresh = gave.fresh;
        fits = omega (arith, wide, unseen.few);
        bytes = subst (bytes.Consumes a.to_come c.to_come) (sym same) gone;
        end = λ none more. gave.end none unseen.some;
        pulls = gave.pulls;
        failures = gave.failures;
        accounts = gave.accounts;
      };
      below = below;
      bits = bits ∙ ap bits_of_bytes (sym same);
    }

-- skipped bytes
pub unseen_looked : (a b c : Incoming) (most : ℕ) (answer : Result ℕ SourceFailed) → Looked a b → PullsUnseen most b c answer → PullsUnseen most a c answer
unseen_looked a b c most (Ok count) looked unseen = record { into = unseen.into; some = unseen.some; few = unseen.few; gave = gave_looked a b c count unseen.into looked unseen.gave }
unseen_looked a b c most (Err e) looked none = none_looked a b c looked none
