-- The first bytes of a source.
use Rattle.std.proofs.Common.{◌≡◌, ℕ, zero, suc, ◌+◌, ◌-◌, ◌^◌, ◌<◌, ◌≤◌, min, true, List, [], ◌∷◌, ◌++◌, length, take, drop, Option, Some, None, refl, sym, ap, subst, ◌∙◌, arith, inl, inr, length-append, length-take, take-append-drop}
use Rattle.std.specs.Prelude.{IsSome, option_map, max}
use Rattle.std.specs.Io.KnownBytes.{Consumes, Keeps, IsAtEnd}
use Rattle.std.proofs.lemmas.List.{length-take-le, take-take}
use Rattle.std.proofs.lemmas.Bool.{cases_lt}
use Rattle.std.proofs.Math.Seq.{take-append-add, drop-append-add}
use Rattle.bit_fields.specs.Devices.{Calls, CalledFrom, keeping, calling, Says, SaysOf, Incoming, Begins, Gave, GaveNone, GaveUnseen, Looked, Spends, Fails, known_bytes}
use Rattle.bit_fields.specs.Front.{calls_of, front_of, left_after}
use Rattle.bit_fields.proofs.Keeping.{begins_before, says_before, says_first, spared}

-- ---- the calls of the other source

says_calls : (c d : Calls) → ((pulls failures most : ℕ) → CalledFrom c pulls failures most → CalledFrom d pulls failures most) → (all : List ℕ) → Says (calling c) all → Says (calling d) all
says_calls c d goes [] says = tt
says_calls c d goes (p ∷ []) says = tt
says_calls c d goes (p ∷ f ∷ []) says = tt
says_calls c d goes (p ∷ f ∷ m ∷ []) says = goes p f m says
says_calls c d goes (p ∷ f ∷ m ∷ k ∷ more) says = tt

-- the accounts of a front
module _ (n p f m q g : ℕ) (i j : Incoming) where
  accounts_on : ((all : List ℕ) → option_map (drop n) i.to_come ≡ Some all → option_map (drop m) j.to_come ≡ Some all) → ((pulls failures most : ℕ) → CalledFrom (calls_of n p f i) pulls failures most → CalledFrom (calls_of m q g j) pulls failures most)
      → ((k : ℕ) (all : List ℕ) → SaysOf i.accounts k all → SaysOf j.accounts k all) → (k : ℕ) (all : List ℕ) → SaysOf (front_of n p f i).accounts k all → SaysOf (front_of m q g j).accounts k all
  accounts_on behind goes others =
      says_before (keeping true (option_map (drop n) i.to_come)) (keeping true (option_map (drop m) j.to_come)) (calling (calls_of n p f i) ∷ i.accounts) (calling (calls_of m q g j) ∷ j.accounts) (λ all says h. behind all (says refl))
      (says_before (calling (calls_of n p f i)) (calling (calls_of m q g j)) i.accounts j.accounts (says_calls (calls_of n p f i) (calls_of m q g j) goes) others)

fewer_left : (n count : ℕ) → 0 < n → count ≤ n → left_after n count + 1 ≤ n
fewer_left n zero some few = omega (arith, some)
fewer_left n (suc count) some few = omega (arith, some, few)

called_more : (n p count : ℕ) (i j : Incoming) (pulls failures most : ℕ) → 0 < n → count ≤ n → j.pulls ≡ i.pulls + 1 → j.failures ≡ i.failures → CalledFrom (calls_of n p 0 i) pulls failures most → CalledFrom (calls_of (left_after n count) (p + 1) 0 j) pulls failures most
called_more n p count i j pulls failures most some few one same was = record {
  each = omega (arith, was.each, one);
  well = λ _. let well = was.well refl in (omega (arith, well.0, one, fewer_left n count some few), same ∙ well.1);
  lost = λ failed. absurd (omega (arith, failed));
}

-- the other source failed
called_lost : (n p : ℕ) (i j : Incoming) (pulls failures most : ℕ) → 0 < n → GaveNone i j → CalledFrom (calls_of n p 0 i) pulls failures most → CalledFrom (calls_of n (p + 1) 1 j) pulls failures most
called_lost n p i j pulls failures most some none was =
    let well = was.well refl in
    elim (cases_lt (max i.pulls i.failures) (2 ^ 64 - 1)) [
      | inl fresh ↦
          let counted = none.counted fresh in
          record {
            each = omega (arith, was.each, counted.0);
            well = λ never. absurd (omega (arith, never));
            lost = λ _. (omega (arith, well.0, counted.0, some), inl (counted.1 ∙ ap (λ (k : ℕ). k + 1) well.1));
          }
      | inr worn ↦
          let same : j ≡ i = none.worn worn in
          record {
            each = omega (arith, was.each, ap (λ (s : Incoming). s.pulls) same);
            well = λ never. absurd (omega (arith, never));
            lost = λ _. (omega (arith, well.0, ap (λ (s : Incoming). s.pulls) same, some), inr (ap (λ (s : Incoming). s.failures) same ∙ well.1, rw same worn));
          }
    ]

-- it was not called
called_alone : (n p : ℕ) (i j : Incoming) (pulls failures most : ℕ) → j.pulls ≡ i.pulls → j.failures ≡ i.failures → (q : ℕ) → p ≤ q → CalledFrom (calls_of n p 0 i) pulls failures most → CalledFrom (calls_of n q 0 j) pulls failures most
called_alone n p i j pulls failures most calls fails q le was = record {
  each = omega (arith, was.each, calls, le);
  well = λ _. let well = was.well refl in (omega (arith, well.0, calls), fails ∙ well.1);
  lost = λ failed. absurd (omega (arith, failed));
}

called_again : (n p f : ℕ) (i : Incoming) (pulls failures most : ℕ) → 0 < f → CalledFrom (calls_of n p f i) pulls failures most → CalledFrom (calls_of n (p + 1) (f + 1) i) pulls failures most
called_again n p f i pulls failures most some was = record {
  each = omega (arith, was.each);
  well = λ never. absurd (omega (arith, never));
  lost = λ _. was.lost some;
}

-- ---- a pull

-- bytes of the front were taken, and as many fewer are left of it
front_gone : (o p : Option (List ℕ)) (gone : List ℕ) (n : ℕ) → Consumes o p gone → length gone ≤ n → Consumes (option_map (take n) o) (option_map (take (n - length gone)) p) gone
front_gone None p gone n took few = tt
front_gone (Some xs) None gone n took few = absurd took
front_gone (Some xs) (Some ys) gone n took few =
    let parts : n ≡ length gone + (n - length gone) = omega (arith, few) in
    ap (take n) took ∙ ap (λ (k : ℕ). take k (gone ++ ys)) parts ∙ take-append-add gone ys (n - length gone)

-- and the bytes behind it are the same
behind_stays : (o p : Option (List ℕ)) (gone all : List ℕ) (n : ℕ) → Consumes o p gone → length gone ≤ n → option_map (drop n) o ≡ Some all → option_map (drop (n - length gone)) p ≡ Some all
behind_stays None p gone all n took few is = absurd cc
behind_stays (Some xs) None gone all n took few is = absurd took
behind_stays (Some xs) (Some ys) gone all n took few is =
    let parts : n ≡ length gone + (n - length gone) = omega (arith, few) in
    let same : drop n xs ≡ drop (n - length gone) ys = ap (drop n) took ∙ ap (λ (k : ℕ). drop k (gone ++ ys)) parts ∙ drop-append-add gone ys (n - length gone) in
    ap Some (sym same) ∙ is

front_none : (o : Option (List ℕ)) (n : ℕ) → n ≡ 0 → IsAtEnd (option_map (take n) o)
front_none None n none = tt
front_none (Some xs) n none = ap (λ (k : ℕ). take k xs) none

front_ended : (o : Option (List ℕ)) (n : ℕ) → IsAtEnd o → IsAtEnd (option_map (take n) o)
front_ended None n ended = tt
front_ended (Some xs) n ended = ap (take n) ended ∙ nothing n
  where
    nothing : (k : ℕ) → ◌≡◌ {A = List ℕ} (take k []) []
    nothing zero = refl
    nothing (suc k) = refl

-- at the end of the other source any number of bytes is left
end_taken : (p : Option (List ℕ)) (a b : ℕ) → IsAtEnd p → option_map (take a) p ≡ option_map (take b) p
end_taken None a b ended = refl
end_taken (Some []) a b ended = ap Some (none a ∙ sym (none b))
  where
    none : (k : ℕ) → ◌≡◌ {A = List ℕ} (take k []) []
    none zero = refl
    none (suc k) = refl
end_taken (Some (x ∷ xs)) a b ended = absurd cc

end_dropped : (p : Option (List ℕ)) (a b : ℕ) → IsAtEnd p → option_map (drop a) p ≡ option_map (drop b) p
end_dropped None a b ended = refl
end_dropped (Some []) a b ended = ap Some (none a ∙ sym (none b))
  where
    none : (k : ℕ) → ◌≡◌ {A = List ℕ} (drop k []) []
    none zero = refl
    none (suc k) = refl
end_dropped (Some (x ∷ xs)) a b ended = absurd cc

front_took : (o p : Option (List ℕ)) (gone : List ℕ) (n count : ℕ) → Consumes o p gone → length gone ≡ count → count ≤ n → (count ≡ 0 → IsAtEnd p) → Consumes (option_map (take n) o) (option_map (take (left_after n count)) p) gone
front_took o p gone n zero took long few end = subst (λ (s : Option (List ℕ)). Consumes (option_map (take n) o) s gone) (end_taken p (n - length gone) 0 (end refl)) (front_gone o p gone n took (omega (arith, long)))
front_took o p gone n (suc count) took long few end = subst (λ (k : ℕ). Consumes (option_map (take n) o) (option_map (take (n - k)) p) gone) long (front_gone o p gone n took (omega (arith, long, few)))

behind_took : (o p : Option (List ℕ)) (gone all : List ℕ) (n count : ℕ) → Consumes o p gone → length gone ≡ count → count ≤ n → (count ≡ 0 → IsAtEnd p) → option_map (drop n) o ≡ Some all → option_map (drop (left_after n count)) p ≡ Some all
behind_took o p gone all n zero took long few end is = end_dropped p 0 (n - length gone) (end refl) ∙ behind_stays o p gone all n took (omega (arith, long)) is
behind_took o p gone all n (suc count) took long few end is = subst (λ (k : ℕ). option_map (drop (n - k)) p ≡ Some all) long (behind_stays o p gone all n took (omega (arith, long, few)) is)

-- what the front gave, and what the other source gave into a slice that begins alike
gave_alike : (n p count : ℕ) (i j : Incoming) (part whole : List ℕ) → p < 2 ^ 64 - 1 → 0 < n → take count whole ≡ take count part → count ≤ length whole → count ≤ n → (count ≡ 0 → IsAtEnd j.to_come) → Gave i j count part → Gave (front_of n p 0 i) (front_of (left_after n count) (p + 1) 0 j) count whole
gave_alike n p count i j part whole fresh some same fits few end gave =
    let taken : length (take count part) ≡ count = length-take-le count part gave.fits in
    record {
      fresh = omega (arith, fresh);
      fits = fits;
      bytes = rw same (front_took i.to_come j.to_come (take count part) n count gave.bytes taken few end);
      end = λ none _. front_ended j.to_come (left_after n count) (end none);
      pulls = refl;
      failures = refl;
      accounts = accounts_on n p 0 (left_after n count) (p + 1) 0 i j (λ all. behind_took i.to_come j.to_come (take count part) all n count gave.bytes taken few end)
          (λ pulls failures most. called_more n p count i j pulls failures most some few gave.pulls gave.failures) gave.accounts;
    }

-- the pull was into this part of a slice, as long as the front allows
pub gave_front : (n p room count : ℕ) (i j : Incoming) (part whole : List ℕ) → p < 2 ^ 64 - 1 → 0 < room → room ≡ min (length whole) n → length part ≡ room → take count whole ≡ take count part → Gave i j count part → Gave (front_of n p 0 i) (front_of (left_after n count) (p + 1) 0 j) count whole
gave_front n p room count i j part whole fresh some room_is long same gave =
    gave_alike n p count i j part whole fresh (omega (arith, some, room_is)) same (omega (arith, gave.fits, long, room_is)) (omega (arith, gave.fits, long, room_is)) (λ none. gave.end none (omega (arith, some, long))) gave

same_bytes : (o : Option (List ℕ)) → Consumes o o []
same_bytes None = tt
same_bytes (Some xs) = refl

-- the front is at its end, or has no room: the other source was not called
pub gave_nothing : (n p : ℕ) (i : Incoming) (whole : List ℕ) → p < 2 ^ 64 - 1 → 0 ≡ min (length whole) n → Gave (front_of n p 0 i) (front_of n (p + 1) 0 i) 0 whole
gave_nothing n p i whole fresh none = record {
  fresh = omega (arith, fresh);
  fits = omega arith;
  bytes = same_bytes (option_map (take n) i.to_come);
  end = λ _ some. front_none i.to_come n (omega (arith, none, some));
  pulls = refl;
  failures = refl;
  accounts = accounts_on n p 0 n (p + 1) 0 i i (λ all is. is) (λ pulls failures most. called_alone n p i i pulls failures most refl refl (p + 1) (omega arith)) (λ k all says. says);
}

front_kept : (o p : Option (List ℕ)) (n : ℕ) → Keeps o p → Keeps (option_map (take n) o) (option_map (take n) p)
front_kept None p n same = tt
front_kept (Some xs) None n same = absurd same
front_kept (Some xs) (Some ys) n same = ap (take n) same

behind_kept : (o p : Option (List ℕ)) (all : List ℕ) (n : ℕ) → Keeps o p → option_map (drop n) o ≡ Some all → option_map (drop n) p ≡ Some all
behind_kept None p all n same is = absurd cc
behind_kept (Some xs) None all n same is = absurd same
behind_kept (Some xs) (Some ys) all n same is = ap Some (ap (drop n) same) ∙ is

-- the other source failed
pub none_front : (n p : ℕ) (i j : Incoming) → p < 2 ^ 64 - 1 → 0 < n → GaveNone i j → GaveNone (front_of n p 0 i) (front_of n (p + 1) 1 j)
none_front n p i j fresh some none = record {
  bytes = front_kept i.to_come j.to_come n none.bytes;
  counted = λ _. (refl, refl);
  worn = λ worn. absurd (omega (arith, worn, fresh));
  accounts = accounts_on n p 0 n (p + 1) 1 i j (λ all. behind_kept i.to_come j.to_come all n none.bytes) (λ pulls failures most. called_lost n p i j pulls failures most some none) none.accounts;
}

same_kept : (o : Option (List ℕ)) → Keeps o o
same_kept None = tt
same_kept (Some xs) = refl

-- it had failed before
pub none_again : (n p f : ℕ) (i : Incoming) → 0 < f → max p f < 2 ^ 64 - 1 → GaveNone (front_of n p f i) (front_of n (p + 1) (f + 1) i)
none_again n p f i some fresh = record {
  bytes = same_kept (option_map (take n) i.to_come);
  counted = λ _. (refl, refl);
  worn = λ worn. absurd (omega (arith, worn, fresh));
  accounts = accounts_on n p f n (p + 1) (f + 1) i i (λ all is. is) (λ pulls failures most. called_again n p f i pulls failures most some) (λ k all says. says);
}

-- ---- a source that is looked at

pub looked_front : (n p : ℕ) (i j : Incoming) → p < 2 ^ 64 - 1 → Looked i j → Looked (front_of n p 0 i) (front_of n p 0 j)
looked_front n p i j fresh looked = record {
  bytes = front_kept i.to_come j.to_come n looked.bytes;
  pulls = refl;
  failures = refl;
  worn = λ worn. absurd (omega (arith, worn, fresh));
  accounts = accounts_on n p 0 n p 0 i j (λ all. behind_kept i.to_come j.to_come all n looked.bytes) (λ pulls failures most. called_alone n p i j pulls failures most looked.pulls looked.failures p (omega arith)) looked.accounts;
}

-- the shown bytes of the front
pub begins_front : (o : Option (List ℕ)) (shown : List ℕ) (n count : ℕ) → Begins o shown → count ≡ min (length shown) n → Begins (option_map (take n) o) (take count shown)
begins_front None shown n count begins is = tt
begins_front (Some xs) shown n count begins is =
    let few : count ≤ length shown = omega (arith, is) in
    let within : length (take count shown) ≤ n = omega (arith, is, length-take count shown) in
    take-take (length (take count shown)) n xs within ∙ begins_before (Some xs) (Some xs) shown count refl begins few

-- ---- bytes that are skipped

pub unseen_front : (n p most room count : ℕ) (i j : Incoming) → p < 2 ^ 64 - 1 → 0 < room → room ≡ min most n → GaveUnseen i j room count → GaveUnseen (front_of n p 0 i) (front_of (left_after n count) (p + 1) 0 j) most count
unseen_front n p most room count i j fresh some room_is unseen = record {
  into = unseen.into;
  some = unseen.some;
  few = omega (arith, unseen.few, room_is);
  gave = gave_alike n p count i j unseen.into unseen.into fresh (omega (arith, some, room_is)) refl unseen.gave.fits (omega (arith, unseen.few, room_is)) (λ none. unseen.gave.end none unseen.some) unseen.gave;
}

pub unseen_nothing : (n p most : ℕ) (i : Incoming) → p < 2 ^ 64 - 1 → n ≡ 0 → GaveUnseen (front_of n p 0 i) (front_of n (p + 1) 0 i) most 0
unseen_nothing n p most i fresh none = record {
  into = 0 ∷ [];
  some = omega arith;
  few = omega arith;
  gave = gave_nothing n p i (0 ∷ []) fresh (omega (arith, none));
}

-- ---- in the end

-- what is known of the other source, if this is known of the front
counted : (o p : Option (List ℕ)) (n m before after : ℕ) → (IsSome (option_map (take n) o) → IsSome (option_map (take m) p)) → (IsSome (option_map (take n) o) → length (known_bytes (option_map (take n) o)) + after ≤ length (known_bytes (option_map (take m) p)) + before) → ((all : List ℕ) → option_map (drop n) o ≡ Some all → option_map (drop m) p ≡ Some all) → IsSome o
    → IsSome p × (length (known_bytes o) + after ≤ length (known_bytes p) + before) × (length (known_bytes o) ≤ length (known_bytes p) + n) × (known_bytes (option_map (take m) p) ≡ [] → p ≡ option_map (drop n) o)
counted None p n m before after tells bytes stays known = absurd cc
counted (Some xs) None n m before after tells bytes stays known = let told = tells refl in absurd cc
counted (Some xs) (Some ys) n m before after tells bytes stays known =
    let behind : Some (drop m ys) ≡ Some (drop n xs) = stays (drop n xs) refl in
    let same : drop m ys ≡ drop n xs = cc in
    let few = bytes refl in
    let whole : length xs ≡ length (take n xs) + length (drop n xs) = ap length (sym (take-append-drop n xs)) ∙ length-append (take n xs) (drop n xs) in
    let other : length ys ≡ length (take m ys) + length (drop m ys) = ap length (sym (take-append-drop m ys)) ∙ length-append (take m ys) (drop m ys) in (
      refl,
      omega (arith, few, whole, other, ap length same),
      omega (arith, whole, other, ap length same, length-take n xs),
      λ none. ap Some (sym (take-append-drop m ys) ∙ ap (λ (s : List ℕ). s ++ drop m ys) none ∙ same),
    )

-- the front began with the first `n` bytes, and ended with counts of its own
module _ (n m q g : ℕ) (i j : Incoming) (before after : ℕ) where
  abbrev Carries : Type 0
  Carries = (k : ℕ) (all : List ℕ) → SaysOf (front_of n 0 0 i).accounts k all → SaysOf (front_of m q g j).accounts k all

  behind_same : Carries → (all : List ℕ) → option_map (drop n) i.to_come ≡ Some all → option_map (drop m) j.to_come ≡ Some all
  behind_same more all told =
      says_first (keeping true (option_map (drop n) i.to_come)) (keeping true (option_map (drop m) j.to_come)) (calling (calls_of n 0 0 i) ∷ i.accounts) (calling (calls_of m q g j) ∷ j.accounts) all more (λ _. told) refl

  calls_carried : Carries → (k : ℕ) (all : List ℕ) → SaysOf (calling (calls_of n 0 0 i) ∷ i.accounts) k all → SaysOf (calling (calls_of m q g j) ∷ j.accounts) k all
  calls_carried more = spared (keeping true (option_map (drop n) i.to_come)) (keeping true (option_map (drop m) j.to_come)) (calling (calls_of n 0 0 i) ∷ i.accounts) (calling (calls_of m q g j) ∷ j.accounts) more

  others_carried : Carries → (k : ℕ) (all : List ℕ) → SaysOf i.accounts k all → SaysOf j.accounts k all
  others_carried more = spared (calling (calls_of n 0 0 i)) (calling (calls_of m q g j)) i.accounts j.accounts (calls_carried more)

  called_first : CalledFrom (calls_of n 0 0 i) i.pulls i.failures n
  called_first = record { each = omega arith; well = λ _. (omega arith, refl); lost = λ failed. absurd (omega (arith, failed)) }

  called_last : Carries → CalledFrom (calls_of m q g j) i.pulls i.failures n
  called_last more = says_first (calling (calls_of n 0 0 i)) (calling (calls_of m q g j)) i.accounts j.accounts (i.pulls ∷ i.failures ∷ n ∷ []) (calls_carried more) called_first

  -- the other source spent as much, and no more than the front is long
  pub spends_behind : Spends (front_of n 0 0 i) before (front_of m q g j) after → Spends i (min n before) j 0
  spends_behind p =
      let last = called_last p.accounts in
      let well = last.well p.failures in
      let known : IsSome i.to_come → _ = counted i.to_come j.to_come n m before after p.tells p.bytes (behind_same p.accounts) in
      record {
        pulls = omega (arith, p.pulls, last.each, well.0);
        failures = well.1;
        tells = λ t. (known t).0;
        bytes = λ t.
            let all = (known t).1 in
            let few = (known t).2 in
            omega (arith, all, few);
        accounts = others_carried p.accounts;
      }

  has_failed : before < 2 ^ 64 - 1 → Fails (front_of n 0 0 i) before (front_of m q g j) after → 0 < g
  has_failed few p = elim p.failed [
    | inl one ↦ omega (arith, one)
    | inr worn ↦ absurd (omega (arith, worn.0, worn.1, p.pulls, few))
  ]

  pub fails_behind : before < 2 ^ 64 - 1 → Fails (front_of n 0 0 i) before (front_of m q g j) after → Fails i (min n before) j 0
  fails_behind small p =
      let last = called_last p.accounts in
      let lost = last.lost (has_failed small p) in
      let known : IsSome i.to_come → _ = counted i.to_come j.to_come n m before after p.tells p.bytes (behind_same p.accounts) in
      record {
        pulls = omega (arith, p.pulls, last.each, lost.0);
        failed = lost.1;
        tells = λ t. (known t).0;
        bytes = λ t.
            let all = (known t).1 in
            let few = (known t).2 in
            omega (arith, all, few);
        accounts = others_carried p.accounts;
      }

  -- if the front was taken whole, what is behind it is left
  pub rest_left : Spends (front_of n 0 0 i) before (front_of m q g j) after → IsSome i.to_come → known_bytes (front_of m q g j).to_come ≡ [] → j.to_come ≡ option_map (drop n) i.to_come
  rest_left p t none = (counted i.to_come j.to_come n m before after p.tells p.bytes (behind_same p.accounts) t).3 none
