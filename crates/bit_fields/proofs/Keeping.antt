-- The bytes that a source has kept.
use Rattle.std.proofs.Common.{◌≡◌, ℕ, zero, suc, ◌+◌, ◌≤◌, Bool, true, ◌-◌, List, [], ◌∷◌, ◌++◌, length, take, Option, Some, None, Result, Ok, Err, refl, sym, ap, subst, ◌∙◌, arith, append_assoc, append-nil, take-take}
use Rattle.std.proofs.lemmas.List.{length-take-le, length-append, nil_from_length}
use Rattle.std.proofs.Math.Seq.{take-append-add}
use lib.Seq.{take-append_seam}
use Rattle.std.specs.Io.KnownBytes.{Consumes, Keeps, prepend_known}
use Rattle.bit_fields.specs.declared.kept.Kept.{Kept}
use Rattle.bit_fields.specs.declared.source.SourceFailed.{SourceFailed}
use Rattle.bit_fields.specs.Devices.{Account, keeping, Says, SaysOf, Incoming, IsFresh, Begins, Gave, GaveNone, GaveUnseen, Looked, Looks, Spends, Fails, known_bytes, keeps_of}
use Rattle.bit_fields.specs.Kept.{KeptBuffered}
use Rattle.bit_fields.proofs.Words.{looked_consumed, none_looked}

-- ---- a pull

-- the given bytes were appended to the kept ones
told_on : (kept now gone : List ℕ) (i j : Option (List ℕ)) (all : List ℕ) → Consumes i j gone → now ≡ kept ++ gone → prepend_known kept i ≡ Some all → prepend_known now j ≡ Some all
told_on kept now gone None j all gave more is = absurd cc
told_on kept now gone (Some xs) None all gave more is = absurd gave
told_on kept now gone (Some xs) (Some ys) all gave more is = ap Some (ap (λ (s : List ℕ). s ++ ys) more ∙ append_assoc kept gone ys ∙ ap (λ (s : List ℕ). kept ++ s) (sym gave)) ∙ is

pub says_before : (a b : Account) (old new : List Account) → ((all : List ℕ) → Says a all → Says b all) → ((n : ℕ) (all : List ℕ) → SaysOf old n all → SaysOf new n all) → (n : ℕ) (all : List ℕ) → SaysOf (a ∷ old) n all → SaysOf (b ∷ new) n all
unfolding SaysOf
says_before a b old new first others zero all says = first all says
says_before a b old new first others (suc n) all says = others n all says

-- what the other source gave was kept, or an allocation failed
pub gave_kept : (was is : Bool) (kept now : List ℕ) (i j : Incoming) (count : ℕ) (into : List ℕ) → Gave i j count into → (is ≡ true → (was ≡ true) × (now ≡ kept ++ take count into)) → Gave (keeps_of was kept i) (keeps_of is now j) count into
gave_kept was is kept now i j count into gave keeps = record {
  fresh = gave.fresh;
  fits = gave.fits;
  bytes = gave.bytes;
  end = gave.end;
  pulls = gave.pulls;
  failures = gave.failures;
  accounts = says_before (keeping was (prepend_known kept i.to_come)) (keeping is (prepend_known now j.to_come)) i.accounts j.accounts
      (λ all says h. told_on kept now (take count into) i.to_come j.to_come all gave.bytes (keeps h).1 (says (keeps h).0)) gave.accounts;
}

kept_told : (kept : List ℕ) (i j : Option (List ℕ)) (all : List ℕ) → Keeps i j → prepend_known kept i ≡ Some all → prepend_known kept j ≡ Some all
kept_told kept None j all same is = absurd cc
kept_told kept (Some xs) None all same is = absurd same
kept_told kept (Some xs) (Some ys) all same is = ap Some (ap (λ (s : List ℕ). kept ++ s) same) ∙ is

-- the other source failed
pub gave_none : (is : Bool) (kept : List ℕ) (i j : Incoming) → GaveNone i j → GaveNone (keeps_of is kept i) (keeps_of is kept j)
gave_none is kept i j none = record {
  bytes = none.bytes;
  counted = none.counted;
  worn = λ worn. ap (keeps_of is kept) (none.worn worn);
  accounts = says_before (keeping is (prepend_known kept i.to_come)) (keeping is (prepend_known kept j.to_come)) i.accounts j.accounts
      (λ all says h. kept_told kept i.to_come j.to_come all none.bytes (says h)) none.accounts;
}

-- ---- a source that is looked at

-- nothing was taken, and what is kept stays
pub looked_kept : (is : Bool) (kept : List ℕ) (i j : Incoming) → Looked i j → Looked (keeps_of is kept i) (keeps_of is kept j)
looked_kept is kept i j looked = record {
  bytes = looked.bytes;
  pulls = looked.pulls;
  failures = looked.failures;
  worn = λ worn. ap (keeps_of is kept) (looked.worn worn);
  accounts = says_before (keeping is (prepend_known kept i.to_come)) (keeping is (prepend_known kept j.to_come)) i.accounts j.accounts
      (λ all says h. kept_told kept i.to_come j.to_come all looked.bytes (says h)) looked.accounts;
}

pub looks_kept : (is : Bool) (kept : List ℕ) (i j : Incoming) (answer : Result Bool SourceFailed) → Looks i answer j → Looks (keeps_of is kept i) answer (keeps_of is kept j)
looks_kept is kept i j (Ok some) looks = looked_kept is kept i j looks
looks_kept is kept i j (Err e) looks = gave_none is kept i j looks

-- buffered bytes were kept before they were taken, or an allocation failed
told_buffered : (kept now front gone : List ℕ) (i j : Option (List ℕ)) (all : List ℕ) → Consumes i j gone → Begins i front → length front ≡ length gone → now ≡ kept ++ front → prepend_known kept i ≡ Some all → prepend_known now j ≡ Some all
told_buffered kept now front gone None j all gave begins same more is = absurd cc
told_buffered kept now front gone (Some xs) None all gave begins same more is = absurd gave
told_buffered kept now front gone (Some xs) (Some ys) all gave begins same more is =
    let taken : front ≡ gone = sym begins ∙ ap (λ (n : ℕ). take n xs) same ∙ ap (take (length gone)) gave ∙ take-append_seam gone ys in
    told_on kept now gone (Some xs) (Some ys) all gave (more ∙ ap (λ (s : List ℕ). kept ++ s) taken) is

-- the first of the bytes that a source shows came next before it was looked at
pub begins_before : (a b : Option (List ℕ)) (shown : List ℕ) (count : ℕ) → Keeps a b → Begins b shown → count ≤ length shown → Begins a (take count shown)
begins_before None b shown count same begins there = tt
begins_before (Some xs) None shown count same begins there = absurd same
begins_before (Some xs) (Some ys) shown count same begins there =
    ap (λ (n : ℕ). take n xs) (length-take-le count shown there) ∙ sym (take-take count (length shown) xs there) ∙ ap (λ (s : List ℕ). take count (take (length shown) s)) (sym same) ∙ ap (take count) begins

-- the source was looked at, the next bytes were kept, and as many were taken
pub gave_buffered : (old new : Kept) (a b c : Incoming) (count : ℕ) (into : List ℕ) → Looked a b → KeptBuffered count a.to_come old new → Gave b c count into → Gave (keeps_of old.whole old.bytes.items a) (keeps_of new.whole new.bytes.items c) count into
gave_buffered old new a b c count into looked buffered gave = record {
  fresh = omega (arith, gave.fresh, looked.pulls, looked.failures);
  fits = gave.fits;
  bytes = looked_consumed a.to_come b.to_come c.to_come (take count into) looked.bytes gave.bytes;
  end = gave.end;
  pulls = gave.pulls ∙ ap (λ (n : ℕ). n + 1) looked.pulls;
  failures = gave.failures ∙ looked.failures;
  accounts = says_before (keeping old.whole (prepend_known old.bytes.items a.to_come)) (keeping new.whole (prepend_known new.bytes.items c.to_come)) a.accounts c.accounts
      (λ all says h. let grew = buffered.3 h in
      told_buffered old.bytes.items new.bytes.items buffered.0 (take count into) a.to_come c.to_come all (looked_consumed a.to_come b.to_come c.to_come (take count into) looked.bytes gave.bytes) buffered.2 (buffered.1 ∙ sym (length-take-le count into gave.fits)) grew.1 (says grew.0))
      (λ n all says. gave.accounts n all (looked.accounts n all says));
}

begins_shorter : (to_come : Option (List ℕ)) (front : List ℕ) (count : ℕ) → Begins to_come front → count ≤ length front → Begins to_come (take count front)
begins_shorter None front count begins few = tt
begins_shorter (Some xs) front count begins few = begins_before (Some xs) (Some xs) front count refl begins few

-- fewer bytes were taken than were kept, and the others were dropped again
pub kept_fewer : (old mid new : Kept) (count done : ℕ) (to_come : Option (List ℕ)) → KeptBuffered count to_come old mid → done ≤ count → new.whole ≡ mid.whole → new.bytes.items ≡ take (length mid.bytes.items - (count - done)) mid.bytes.items → KeptBuffered done to_come old new
kept_fewer old mid new count done to_come buffered few whole cut = (
  take done buffered.0,
  length-take-le done buffered.0 (omega (arith, buffered.1, few)),
  begins_shorter to_come buffered.0 done buffered.2 (omega (arith, buffered.1, few)),
  λ is.
      let grew = buffered.3 (sym whole ∙ is) in
      let left : length mid.bytes.items - (count - done) ≡ length old.bytes.items + done = omega (arith, ap length grew.1, length-append old.bytes.items buffered.0, buffered.1, few) in
      (grew.0, cut ∙ ap (λ (n : ℕ). take n mid.bytes.items) left ∙ ap (take (length old.bytes.items + done)) grew.1 ∙ take-append-add old.bytes.items buffered.0 done),
)

pub unseen_buffered : (old mid new : Kept) (a b c : Incoming) (most count done : ℕ) → Looked a b → KeptBuffered count a.to_come old mid → count ≤ most → GaveUnseen b c count done → new.whole ≡ mid.whole → new.bytes.items ≡ take (length mid.bytes.items - (count - done)) mid.bytes.items → GaveUnseen (keeps_of old.whole old.bytes.items a) (keeps_of new.whole new.bytes.items c) most done
unseen_buffered old mid new a b c most count done looked buffered few unseen whole cut = record {
  into = unseen.into;
  some = unseen.some;
  few = omega (arith, few, unseen.few);
  gave = gave_buffered old new a b c done unseen.into looked (kept_fewer old mid new count done a.to_come buffered unseen.few whole cut) unseen.gave;
}

-- a source that is not exhausted failed, and what is kept is as before, or an allocation failed
lost_none : (was is : Bool) (kept now : List ℕ) (i j : Incoming) → IsFresh i → (is ≡ true → (was ≡ true) × (now ≡ kept)) → GaveNone i j → GaveNone (keeps_of was kept i) (keeps_of is now j)
lost_none was is kept now i j fresh same none = record {
  bytes = none.bytes;
  counted = none.counted;
  worn = λ worn. absurd (omega (arith, fresh, worn));
  accounts = says_before (keeping was (prepend_known kept i.to_come)) (keeping is (prepend_known now j.to_come)) i.accounts j.accounts
      (λ all says h. let s = same h in subst (λ (list : List ℕ). prepend_known list j.to_come ≡ Some all) (sym s.1) (kept_told kept i.to_come j.to_come all none.bytes (says s.0))) none.accounts;
}

fresh_before : (a b : Incoming) → Looked a b → IsFresh b → IsFresh a
fresh_before a b looked fresh = omega (arith, fresh, looked.pulls, looked.failures)

pub failed_buffered : (old mid new : Kept) (a b c : Incoming) (count : ℕ) → IsFresh b → Looked a b → KeptBuffered count a.to_come old mid → GaveNone b c → new.whole ≡ mid.whole → new.bytes.items ≡ take (length mid.bytes.items - count) mid.bytes.items → GaveNone (keeps_of old.whole old.bytes.items a) (keeps_of new.whole new.bytes.items c)
failed_buffered old mid new a b c count fresh looked buffered none whole cut =
    let kept : KeptBuffered 0 a.to_come old new = kept_fewer old mid new count 0 a.to_come buffered (omega arith) whole (rw (rest_of count) cut) in
    lost_none old.whole new.whole old.bytes.items new.bytes.items a c (fresh_before a b looked fresh)
    (λ is. let grew = kept.3 is in (grew.0, grew.1 ∙ ap (λ (s : List ℕ). old.bytes.items ++ s) (nil_from_length kept.0 kept.1) ∙ append-nil old.bytes.items)) (none_looked a b c looked none)
  where
    rest_of : (n : ℕ) → n - 0 ≡ n
    rest_of n = omega arith

-- ---- in the end

pub spared : (a b : Account) (old new : List Account) → ((n : ℕ) (all : List ℕ) → SaysOf (a ∷ old) n all → SaysOf (b ∷ new) n all) → (n : ℕ) (all : List ℕ) → SaysOf old n all → SaysOf new n all
unfolding SaysOf
spared a b old new more n all says = more (suc n) all says

-- the source within spent as much
pub spends_within : (was is : Bool) (xs ys : List ℕ) (i j : Incoming) (before after : ℕ) → Spends (keeps_of was xs i) before (keeps_of is ys j) after → Spends i before j after
spends_within was is xs ys i j before after p = record {
  pulls = p.pulls;
  failures = p.failures;
  tells = p.tells;
  bytes = p.bytes;
  accounts = spared (keeping was (prepend_known xs i.to_come)) (keeping is (prepend_known ys j.to_come)) i.accounts j.accounts p.accounts;
}

pub fails_within : (was is : Bool) (xs ys : List ℕ) (i j : Incoming) (before after : ℕ) → Fails (keeps_of was xs i) before (keeps_of is ys j) after → Fails i before j after
fails_within was is xs ys i j before after p = record {
  pulls = p.pulls;
  failed = p.failed;
  tells = p.tells;
  bytes = p.bytes;
  accounts = spared (keeping was (prepend_known xs i.to_come)) (keeping is (prepend_known ys j.to_come)) i.accounts j.accounts p.accounts;
}

all_of : (bytes all : List ℕ) (to_come : Option (List ℕ)) → prepend_known bytes to_come ≡ Some all → known_bytes to_come ≡ [] → bytes ≡ all
all_of bytes all None is none = absurd cc
all_of bytes all (Some rest) is none = sym (append-nil bytes) ∙ ap (λ (s : List ℕ). bytes ++ s) (sym none) ∙ (let same : Some (bytes ++ rest) ≡ Some all = is in cc)

pub says_first : (a b : Account) (old new : List Account) (all : List ℕ) → ((n : ℕ) (all : List ℕ) → SaysOf (a ∷ old) n all → SaysOf (b ∷ new) n all) → Says a all → Says b all
unfolding SaysOf
says_first a b old new all more told = more zero all told

-- if no byte is left it has kept all
pub all_kept : (bytes all : List ℕ) (i j : Incoming) (before after : ℕ) → Spends (keeps_of true [] i) before (keeps_of true bytes j) after → i.to_come ≡ Some all → known_bytes j.to_come ≡ [] → bytes ≡ all
all_kept bytes all i j before after p told none =
    all_of bytes all j.to_come (says_first (keeping true (prepend_known [] i.to_come)) (keeping true (prepend_known bytes j.to_come)) i.accounts j.accounts all p.accounts (λ h. ap (prepend_known []) told) refl) none
