-- A source that gives bytes again that were taken before.
use Rattle.std.proofs.Common.{◌≡◌, ℕ, zero, suc, ◌+◌, ◌-◌, ◌^◌, ◌<◌, ◌≤◌, true, List, [], ◌∷◌, ◌++◌, length, take, Option, Some, None, refl, ap, ◌∙◌, arith, inl, inr, append_assoc}
use Rattle.std.specs.Prelude.{max}
use Rattle.std.specs.Io.KnownBytes.{Consumes, Keeps, IsAtEnd, prepend_known}
use Rattle.std.proofs.KnownBytes.{Keeps-refl}
use Rattle.std.proofs.lemmas.Bool.{cases_lt}
use Rattle.bit_fields.specs.Devices.{Calls, CalledFrom, keeping, calling, Says, SaysOf, Incoming, Begins, Gave, GaveNone, GaveUnseen, Looked}
use Rattle.bit_fields.proofs.Keeping.{says_before}
use Rattle.bit_norm.specs.Rejoined.{calls_with, has_some, is_more, rejoined_of}

-- ---- the calls of the other source

says_calls : (c d : Calls) → ((pulls failures most : ℕ) → CalledFrom c pulls failures most → CalledFrom d pulls failures most) → (all : List ℕ) → Says (calling c) all → Says (calling d) all
says_calls c d goes [] says = tt
says_calls c d goes (p ∷ []) says = tt
says_calls c d goes (p ∷ f ∷ []) says = tt
says_calls c d goes (p ∷ f ∷ m ∷ []) says = goes p f m says
says_calls c d goes (p ∷ f ∷ m ∷ k ∷ more) says = tt

module _ (h k : List ℕ) (o p f d q g : ℕ) (i j : Incoming) where
  accounts_on : (has_some k ≡ true → (has_some h ≡ true) × ((all : List ℕ) → i.to_come ≡ Some all → j.to_come ≡ Some all)) → (is_more d ≡ true → (is_more o ≡ true) × (j.pulls ≡ i.pulls))
      → ((pulls failures most : ℕ) → CalledFrom (calls_with o p f i) pulls failures most → CalledFrom (calls_with d q g j) pulls failures most) → ((n : ℕ) (all : List ℕ) → SaysOf i.accounts n all → SaysOf j.accounts n all)
      → (n : ℕ) (all : List ℕ) → SaysOf (rejoined_of h o p f i).accounts n all → SaysOf (rejoined_of k d q g j).accounts n all
  accounts_on stays owes goes others =
      says_before (keeping (has_some h) i.to_come) (keeping (has_some k) j.to_come) (keeping (is_more o) (Some (i.pulls ∷ [])) ∷ calling (calls_with o p f i) ∷ i.accounts) (keeping (is_more d) (Some (j.pulls ∷ [])) ∷ calling (calls_with d q g j) ∷ j.accounts)
      (λ all says is. (stays is).1 all (says (stays is).0))
      (says_before (keeping (is_more o) (Some (i.pulls ∷ []))) (keeping (is_more d) (Some (j.pulls ∷ []))) (calling (calls_with o p f i) ∷ i.accounts) (calling (calls_with d q g j) ∷ j.accounts)
      (λ all says is. ap (λ (n : ℕ). Some (n ∷ [])) (owes is).1 ∙ says (owes is).0)
      (says_before (calling (calls_with o p f i)) (calling (calls_with d q g j)) i.accounts j.accounts (says_calls (calls_with o p f i) (calls_with d q g j) goes) others))

none_held : has_some [] ≡ true → (A : Type 0) → A
none_held is A = absurd cc

none_owed : is_more 0 ≡ true → (A : Type 0) → A
none_owed is A = absurd cc

-- it was not called
called_alone : (o p d q : ℕ) (i : Incoming) (pulls failures most : ℕ) → p + o ≤ q + d → p ≤ q → CalledFrom (calls_with o p 0 i) pulls failures most → CalledFrom (calls_with d q 0 i) pulls failures most
called_alone o p d q i pulls failures most asked more was = record {
  each = omega (arith, was.each, asked);
  well = λ _. let well = was.well refl in (omega (arith, well.0, more), well.1);
  lost = λ failed. absurd (omega (arith, failed));
}

called_more : (p : ℕ) (i j : Incoming) (pulls failures most : ℕ) → p < 2 ^ 64 - 1 → j.pulls ≡ i.pulls + 1 → j.failures ≡ i.failures → CalledFrom (calls_with 0 p 0 i) pulls failures most → CalledFrom (calls_with 0 (p + 1) 0 j) pulls failures most
called_more p i j pulls failures most fresh one same was = record {
  each = omega (arith, was.each, one);
  well = λ _. let well = was.well refl in (omega (arith, well.0, one, fresh), same ∙ well.1);
  lost = λ failed. absurd (omega (arith, failed));
}

-- it was looked at
called_same : (p : ℕ) (i j : Incoming) (pulls failures most : ℕ) → j.pulls ≡ i.pulls → j.failures ≡ i.failures → CalledFrom (calls_with 0 p 0 i) pulls failures most → CalledFrom (calls_with 0 p 0 j) pulls failures most
called_same p i j pulls failures most calls fails was = record {
  each = omega (arith, was.each, calls);
  well = λ _. let well = was.well refl in (omega (arith, well.0, calls), fails ∙ well.1);
  lost = λ failed. absurd (omega (arith, failed));
}

-- it failed
called_lost : (p : ℕ) (i j : Incoming) (pulls failures most : ℕ) → p < 2 ^ 64 - 1 → GaveNone i j → CalledFrom (calls_with 0 p 0 i) pulls failures most → CalledFrom (calls_with 0 (p + 1) 1 j) pulls failures most
called_lost p i j pulls failures most some none was =
    let well = was.well refl in
    elim (cases_lt (max i.pulls i.failures) (2 ^ 64 - 1)) [
      | inl fresh ↦
          let counted = none.counted fresh in
          record {
            each = omega (arith, was.each, counted.0);
            well = λ never. absurd (omega (arith, never));
            lost = λ _. (omega (arith, well.0, counted.0, some), inl (counted.1 ∙ ap (λ (k : ℕ). k + 1) well.1));
          }
      | inr worn ↦
          let same : j ≡ i = none.worn worn in
          record {
            each = omega (arith, was.each, ap (λ (s : Incoming). s.pulls) same);
            well = λ never. absurd (omega (arith, never));
            lost = λ _. (omega (arith, well.0, ap (λ (s : Incoming). s.pulls) same, some), inr (ap (λ (s : Incoming). s.failures) same ∙ well.1, rw same worn));
          }
    ]

called_again : (o p f : ℕ) (i : Incoming) (pulls failures most : ℕ) → 0 < f → CalledFrom (calls_with o p f i) pulls failures most → CalledFrom (calls_with o (p + 1) (f + 1) i) pulls failures most
called_again o p f i pulls failures most some was = record {
  each = omega (arith, was.each);
  well = λ never. absurd (omega (arith, never));
  lost = λ _. was.lost some;
}

-- ---- bytes that are given again

held_longer : (given k : List ℕ) → has_some k ≡ true → has_some (given ++ k) ≡ true
held_longer [] k is = is
held_longer (x ∷ given) k is = refl

more_owed : (o d : ℕ) → d ≤ o → is_more d ≡ true → is_more o ≡ true
more_owed zero zero le is = is
more_owed zero (suc d) le is = absurd (omega (arith, le))
more_owed (suc o) d le is = refl

given_on : (o : Option (List ℕ)) (h given k : List ℕ) → h ≡ given ++ k → Consumes (prepend_known h o) (prepend_known k o) given
given_on None h given k is = tt
given_on (Some xs) h given k is = ap (λ (s : List ℕ). s ++ xs) is ∙ append_assoc given k xs

pub gave_again : (h given k : List ℕ) (o d p count : ℕ) (i : Incoming) (whole : List ℕ) → p < 2 ^ 64 - 1 → h ≡ given ++ k → o ≤ d + 1 → d ≤ o → take count whole ≡ given → count ≤ length whole → (0 < length whole → 0 < count) → Gave (rejoined_of h o p 0 i) (rejoined_of k d (p + 1) 0 i) count whole
gave_again h given k o d p count i whole fresh is owed fewer same fits some = record {
  fresh = omega (arith, fresh);
  fits = fits;
  bytes = rw same (given_on i.to_come h given k is);
  end = λ none room. absurd (omega (arith, none, some room));
  pulls = refl;
  failures = refl;
  accounts = accounts_on h k o p 0 d (p + 1) 0 i i (λ yes. (ap has_some is ∙ held_longer given k yes, λ all told. told)) (λ yes. (more_owed o d fewer yes, refl)) (λ pulls failures most. called_alone o p d (p + 1) i pulls failures most (omega (arith, owed)) (omega arith)) (λ n all says. says);
}

pub unseen_again : (h given k : List ℕ) (o d p most : ℕ) (i : Incoming) → p < 2 ^ 64 - 1 → h ≡ given ++ k → o ≤ d + 1 → d ≤ o → 0 < length given → length given ≤ most → GaveUnseen (rejoined_of h o p 0 i) (rejoined_of k d (p + 1) 0 i) most (length given)
unseen_again h given k o d p most i fresh is owed fewer some few = record {
  into = given;
  some = some;
  few = few;
  gave = gave_again h given k o d p (length given) i given fresh is owed fewer (take-all given) (omega arith) (λ _. some);
}
  where
    take-all : (xs : List ℕ) → take (length xs) xs ≡ xs
    take-all [] = refl
    take-all (x ∷ xs) = ap (λ (s : List ℕ). x ∷ s) (take-all xs)

-- it had failed before
pub none_again : (h : List ℕ) (o p f : ℕ) (i : Incoming) → 0 < f → max p f < 2 ^ 64 - 1 → GaveNone (rejoined_of h o p f i) (rejoined_of h o (p + 1) (f + 1) i)
none_again h o p f i some fresh = record {
  bytes = Keeps-refl (prepend_known h i.to_come);
  counted = λ _. (refl, refl);
  worn = λ worn. absurd (omega (arith, worn, fresh));
  accounts = accounts_on h h o p f o (p + 1) (f + 1) i i (λ yes. (yes, λ all told. told)) (λ yes. (yes, refl)) (λ pulls failures most. called_again o p f i pulls failures most some) (λ n all says. says);
}

-- ---- all were given

consumes_bare : (o p : Option (List ℕ)) (gone : List ℕ) → Consumes o p gone → Consumes (prepend_known [] o) (prepend_known [] p) gone
consumes_bare None p gone took = tt
consumes_bare (Some xs) None gone took = absurd took
consumes_bare (Some xs) (Some ys) gone took = took

keeps_bare : (o p : Option (List ℕ)) → Keeps o p → Keeps (prepend_known [] o) (prepend_known [] p)
keeps_bare None p same = tt
keeps_bare (Some xs) None same = absurd same
keeps_bare (Some xs) (Some ys) same = same

end_bare : (o : Option (List ℕ)) → IsAtEnd o → IsAtEnd (prepend_known [] o)
end_bare None end = tt
end_bare (Some xs) end = end

pub begins_behind : (o : Option (List ℕ)) (shown : List ℕ) → Begins o shown → Begins (prepend_known [] o) shown
begins_behind None shown begins = tt
begins_behind (Some xs) shown begins = begins

behind : (p f q g : ℕ) (i j : Incoming) → ((pulls failures most : ℕ) → CalledFrom (calls_with 0 p f i) pulls failures most → CalledFrom (calls_with 0 q g j) pulls failures most) → ((n : ℕ) (all : List ℕ) → SaysOf i.accounts n all → SaysOf j.accounts n all)
    → (n : ℕ) (all : List ℕ) → SaysOf (rejoined_of [] 0 p f i).accounts n all → SaysOf (rejoined_of [] 0 q g j).accounts n all
behind p f q g i j = accounts_on [] [] 0 p f 0 q g i j (λ yes. none_held yes _) (λ yes. none_owed yes _)

pub gave_behind : (p count : ℕ) (i j : Incoming) (into : List ℕ) → p < 2 ^ 64 - 1 → Gave i j count into → Gave (rejoined_of [] 0 p 0 i) (rejoined_of [] 0 (p + 1) 0 j) count into
gave_behind p count i j into fresh gave = record {
  fresh = omega (arith, fresh);
  fits = gave.fits;
  bytes = consumes_bare i.to_come j.to_come (take count into) gave.bytes;
  end = λ none room. end_bare j.to_come (gave.end none room);
  pulls = refl;
  failures = refl;
  accounts = behind p 0 (p + 1) 0 i j (λ pulls failures most. called_more p i j pulls failures most fresh gave.pulls gave.failures) gave.accounts;
}

pub unseen_behind : (p most count : ℕ) (i j : Incoming) → p < 2 ^ 64 - 1 → GaveUnseen i j most count → GaveUnseen (rejoined_of [] 0 p 0 i) (rejoined_of [] 0 (p + 1) 0 j) most count
unseen_behind p most count i j fresh unseen = record {
  into = unseen.into;
  some = unseen.some;
  few = unseen.few;
  gave = gave_behind p count i j unseen.into fresh unseen.gave;
}

pub none_behind : (p : ℕ) (i j : Incoming) → p < 2 ^ 64 - 1 → GaveNone i j → GaveNone (rejoined_of [] 0 p 0 i) (rejoined_of [] 0 (p + 1) 1 j)
none_behind p i j fresh none = record {
  bytes = keeps_bare i.to_come j.to_come none.bytes;
  counted = λ _. (refl, refl);
  worn = λ worn. absurd (omega (arith, worn, fresh));
  accounts = behind p 0 (p + 1) 1 i j (λ pulls failures most. called_lost p i j pulls failures most fresh none) none.accounts;
}

pub looked_behind : (p : ℕ) (i j : Incoming) → p < 2 ^ 64 - 1 → Looked i j → Looked (rejoined_of [] 0 p 0 i) (rejoined_of [] 0 p 0 j)
looked_behind p i j fresh looked = record {
  bytes = keeps_bare i.to_come j.to_come looked.bytes;
  pulls = refl;
  failures = refl;
  worn = λ worn. absurd (omega (arith, worn, fresh));
  accounts = behind p 0 p 0 i j (λ pulls failures most. called_same p i j pulls failures most looked.pulls looked.failures) looked.accounts;
}
