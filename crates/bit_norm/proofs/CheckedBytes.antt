-- An input that was read after its bytes were compared with accepted ones.
use Rattle.std.proofs.Common.{◌≡◌, ℕ, zero, suc, ◌+◌, ◌-◌, ◌^◌, ◌<◌, ◌≤◌, Bool, true, List, [], ◌∷◌, ◌++◌, length, take, Option, Some, None, Result, Ok, Err, refl, sym, ap, subst, ◌∙◌, arith, inl, inr, append-nil, length-append, length-take}
use Rattle.std.specs.Prelude.{IsSome, min}
use Rattle.std.specs.Io.KnownBytes.{Consumes, IsAtEnd, prepend_known}
use Rattle.bit_grammar.specs.Setting.{Setting}
use Rattle.bit_grammar.specs.Under.{under}
use Rattle.bit_grammar.specs.Blocks.{Limits}
use Rattle.bit_grammar.specs.Normal.{Capped}
use Rattle.bit_grammar.specs.Input.{SpellsInput, BreaksInput, tree_of}
use Rattle.bit_grammar.specs.Terms.{Marked}
use Rattle.bit_grammar.specs.Grammar.{at}
use Rattle.bit_grammar.proofs.WholeInputs.Inputs.{one_tree}
use Rattle.bit_fields.specs.declared.fault.Fault.{Fault}
use Rattle.bit_fields.specs.declared.fault.Fault.TheVariants.{Refused, Read, Write, Memory, OutputTooLong, Failed}
use Rattle.bit_fields.specs.Devices.{CalledFrom, keeping, calling, SaysOf, Incoming, Begins, Spends, Fails, known_bytes}
use Rattle.bit_fields.proofs.Keeping.{says_first, spared}
use Rattle.bit_events.specs.Reading.{Spent}
use Rattle.bit_norm.proofs.AlikeBytes.{spends_taken}
use Rattle.bit_norm.specs.declared.differences.Difference.{Difference}
use Rattle.bit_norm.specs.declared.comparing.Which.{Which}
use Rattle.bit_norm.specs.declared.comparing.Which.TheVariants.{First, Second}
use Rattle.bit_norm.specs.declared.comparing.SameFault.{SameFault}
use Rattle.bit_norm.specs.Whole.{ReadsTree, source_of}
use Rattle.bit_norm.specs.InStep.{ReadBeside, NotRead, ComparesWith}
use Rattle.bit_norm.specs.InFront.{ComparesBehind}
use Rattle.bit_norm.specs.declared.again.Slices.{Slices}
use Rattle.std.proofs.Transfers.{starts_with_of_eq}
use Rattle.std.proofs.lemmas.List.{length-take-le}
use Rattle.bit_norm.specs.Rejoined.{calls_with, has_some, is_more, rejoined_of, unknown, Takes, TakesFront, TakesSame, TakesEnd, OfSecond, Confirms, ComparesChecked}

-- ---- a source that gave bytes again, in the end

-- what is known of the other source, if this is known of that one
counted : (b i j : Option (List ℕ)) (h k : List ℕ) (n : ℕ) → Consumes b i h → length h ≤ n → (IsSome (prepend_known h i) → IsSome (prepend_known k j)) → (IsSome (prepend_known h i) → length (known_bytes (prepend_known h i)) + 0 ≤ length (known_bytes (prepend_known k j)) + n) → ((all : List ℕ) → i ≡ Some all → has_some k ≡ true → j ≡ Some all) → IsSome b
    → IsSome j × (length (known_bytes b) + 0 ≤ length (known_bytes j) + n)
counted None i j h k n took few tells bytes stays known = absurd cc
counted (Some xs) None j h k n took few tells bytes stays known = absurd took
counted (Some xs) (Some ys) None h k n took few tells bytes stays known = let told = tells refl in absurd cc
counted (Some xs) (Some ys) (Some zs) h [] n took few tells bytes stays known = (refl, omega (arith, bytes refl, ap length took))
counted (Some xs) (Some ys) (Some zs) h (x ∷ k) n took few tells bytes stays known =
    let same : Some zs ≡ Some ys = stays ys refl refl in
    let list : zs ≡ ys = cc in
    (refl, omega (arith, ap length took, length-append h ys, ap length list, few))

-- `b` is the source before these bytes were taken, and `i` the one after them
module _ (h k : List ℕ) (calls o d q g : ℕ) (b i j : Incoming) (n : ℕ) where
  abbrev Carries : Type 0
  Carries = (m : ℕ) (all : List ℕ) → SaysOf (rejoined_of h o 0 0 i).accounts m all → SaysOf (rejoined_of k d q g j).accounts m all

  bytes_stay : Carries → (all : List ℕ) → i.to_come ≡ Some all → has_some k ≡ true → j.to_come ≡ Some all
  bytes_stay more all told =
      says_first (keeping (has_some h) i.to_come) (keeping (has_some k) j.to_come) (keeping (is_more o) (Some (i.pulls ∷ [])) ∷ calling (calls_with o 0 0 i) ∷ i.accounts) (keeping (is_more d) (Some (j.pulls ∷ [])) ∷ calling (calls_with d q g j) ∷ j.accounts) all more (λ _. told)

  behind_first : Carries → (m : ℕ) (all : List ℕ) → SaysOf (keeping (is_more o) (Some (i.pulls ∷ [])) ∷ calling (calls_with o 0 0 i) ∷ i.accounts) m all → SaysOf (keeping (is_more d) (Some (j.pulls ∷ [])) ∷ calling (calls_with d q g j) ∷ j.accounts) m all
  behind_first more =
      spared (keeping (has_some h) i.to_come) (keeping (has_some k) j.to_come) (keeping (is_more o) (Some (i.pulls ∷ [])) ∷ calling (calls_with o 0 0 i) ∷ i.accounts) (keeping (is_more d) (Some (j.pulls ∷ [])) ∷ calling (calls_with d q g j) ∷ j.accounts) more

  pulls_stay : Carries → is_more d ≡ true → j.pulls ≡ i.pulls
  pulls_stay more is =
      let same : Some (j.pulls ∷ []) ≡ Some (i.pulls ∷ []) = says_first (keeping (is_more o) (Some (i.pulls ∷ []))) (keeping (is_more d) (Some (j.pulls ∷ []))) (calling (calls_with o 0 0 i) ∷ i.accounts) (calling (calls_with d q g j) ∷ j.accounts) (i.pulls ∷ []) (behind_first more) (λ _. refl) is in
      cc

  calls_carried : Carries → (m : ℕ) (all : List ℕ) → SaysOf (calling (calls_with o 0 0 i) ∷ i.accounts) m all → SaysOf (calling (calls_with d q g j) ∷ j.accounts) m all
  calls_carried more = spared (keeping (is_more o) (Some (i.pulls ∷ []))) (keeping (is_more d) (Some (j.pulls ∷ []))) (calling (calls_with o 0 0 i) ∷ i.accounts) (calling (calls_with d q g j) ∷ j.accounts) (behind_first more)

  others_carried : Carries → (m : ℕ) (all : List ℕ) → SaysOf i.accounts m all → SaysOf j.accounts m all
  others_carried more = spared (calling (calls_with o 0 0 i)) (calling (calls_with d q g j)) i.accounts j.accounts (calls_carried more)

  called_first : Takes b calls h i → calls ≤ o → CalledFrom (calls_with o 0 0 i) b.pulls b.failures (calls + 2 ^ 64)
  called_first took enough = record { each = omega (arith, took.pulls, enough); well = λ _. (omega (arith, took.pulls), took.failures); lost = λ failed. absurd (omega (arith, failed)) }

  called_last : Carries → Takes b calls h i → calls ≤ o → CalledFrom (calls_with d q g j) b.pulls b.failures (calls + 2 ^ 64)
  called_last more took enough = says_first (calling (calls_with o 0 0 i)) (calling (calls_with d q g j)) i.accounts j.accounts (b.pulls ∷ b.failures ∷ (calls + 2 ^ 64) ∷ []) (calls_carried more) (called_first took enough)

  paid : Carries → Takes b calls h i → calls ≤ o → calls ≤ n → q + 0 ≤ 0 + n → j.pulls + 0 ≤ b.pulls + n
  paid more took enough few each = by_owed d (called_last more took enough).each (pulls_stay more)
    where
      by_owed : (e : ℕ) → j.pulls ≤ b.pulls + (q + e) → (is_more e ≡ true → j.pulls ≡ i.pulls) → j.pulls + 0 ≤ b.pulls + n
      by_owed zero all stays = omega (arith, all, each)
      by_owed (suc e) all stays = omega (arith, stays refl, took.pulls, few)

  pub spends_again : Takes b calls h i → calls ≤ o → calls ≤ n → length h ≤ n → Spends (rejoined_of h o 0 0 i) n (rejoined_of k d q g j) 0 → Spends b n j 0
  spends_again took enough few short p =
      let known : IsSome b.to_come → _ = counted b.to_come i.to_come j.to_come h k n took.bytes short p.tells p.bytes (bytes_stay p.accounts) in
      record {
        pulls = paid p.accounts took enough few p.pulls;
        failures = ((called_last p.accounts took enough).well p.failures).1;
        tells = λ t. (known t).0;
        bytes = λ t. (known t).1;
        accounts = λ m all says. others_carried p.accounts m all (took.accounts m all says);
      }

  has_failed : n < 2 ^ 64 - 1 → Fails (rejoined_of h o 0 0 i) n (rejoined_of k d q g j) 0 → 0 < g
  has_failed small p = elim p.failed [
    | inl one ↦ omega (arith, one)
    | inr worn ↦ absurd (omega (arith, worn.0, worn.1, p.pulls, small))
  ]

  pub fails_again : n < 2 ^ 64 - 1 → Takes b calls h i → calls ≤ o → calls ≤ n → length h ≤ n → Fails (rejoined_of h o 0 0 i) n (rejoined_of k d q g j) 0 → Fails b n j 0
  fails_again small took enough few short p =
      let known : IsSome b.to_come → _ = counted b.to_come i.to_come j.to_come h k n took.bytes short p.tells p.bytes (bytes_stay p.accounts) in
      record {
        pulls = paid p.accounts took enough few p.pulls;
        failed = ((called_last p.accounts took enough).lost (has_failed small p)).1;
        tells = λ t. (known t).0;
        bytes = λ t. (known t).1;
        accounts = λ m all says. others_carried p.accounts m all (took.accounts m all says);
      }

-- the bytes that it gave are those that were to come
same_bytes : (b i : Option (List ℕ)) (h : List ℕ) → Consumes b i h → IsSome b → prepend_known h i ≡ b
same_bytes None i h took known = absurd cc
same_bytes (Some xs) None h took known = absurd took
same_bytes (Some xs) (Some ys) h took known = ap Some (sym took)

nothing_behind : (k : List ℕ) (j : Option (List ℕ)) → known_bytes (prepend_known k j) ≡ [] → known_bytes j ≡ []
nothing_behind k None none = refl
nothing_behind [] (Some zs) none = none
nothing_behind (x ∷ k) (Some zs) none = absurd cc

-- ---- a source whose bytes are not known

unknown_spends : (i j : Incoming) (n : ℕ) → Spends i n j 0 → Spends (unknown i) n j 0
unknown_spends i j n p = record {
  pulls = p.pulls;
  failures = p.failures;
  tells = λ known. absurd cc;
  bytes = λ known. absurd cc;
  accounts = p.accounts;
}

unknown_fails : (i j : Incoming) (n : ℕ) → Fails i n j 0 → Fails (unknown i) n j 0
unknown_fails i j n p = record {
  pulls = p.pulls;
  failed = p.failed;
  tells = λ known. absurd cc;
  bytes = λ known. absurd cc;
  accounts = p.accounts;
}

unknown_tree : (setting : Setting) (limits : Limits) (i j : Incoming) (fault : Fault) → ReadsTree setting limits i (Err fault) j → ReadsTree setting limits (unknown i) (Err fault) j
unknown_tree setting limits i j (Refused reason bit) read = (unknown_spends i j (limits.bytes + 1) read.0, λ known. absurd cc)
unknown_tree setting limits i j Read read = unknown_fails i j (limits.bytes + 1) read
unknown_tree setting limits i j Memory read = unknown_spends i j (limits.bytes + 1) read
unknown_tree setting limits i j Write read = absurd read
unknown_tree setting limits i j OutputTooLong read = absurd read
unknown_tree setting limits i j Failed read = absurd read

-- ---- the result

-- all bytes are the same
whole_bytes : (b j : Option (List ℕ)) (first : List ℕ) → Consumes b j first → IsAtEnd j → IsSome b → (known_bytes b ≡ first) × (known_bytes j ≡ [])
whole_bytes None j first took end known = absurd cc
whole_bytes (Some xs) None first took end known = absurd took
whole_bytes (Some xs) (Some ys) first took end known = (took ∙ ap (λ (s : List ℕ). first ++ s) end ∙ append-nil first, end)

read_same : (setting : Setting) (limits : Limits) (first : List ℕ) (b j : Incoming) → TakesSame limits first b j → (m : Marked) → SpellsInput limits first m → ReadBeside setting limits first b None j
read_same setting limits first b j same m spelled = (
  same.spent,
  λ known.
      let whole = whole_bytes b.to_come j.to_come first same.bytes same.end known in
      (m, subst (λ (s : List ℕ). SpellsInput limits s m) (sym whole.0) spelled, whole.1, λ other told. ap (λ (t : Marked). under setting (tree_of t)) (one_tree limits first other m told spelled)),
)

pub checked_same : (judged : Bool) (setting : Setting) (limits : Limits) (first : List ℕ) (b j : Incoming) (answer : Result (Option Difference) SameFault) → TakesSame limits first b j → Confirms judged limits first answer → ComparesChecked judged setting limits first b answer j
checked_same judged setting limits first b j (Ok None) same confirms = record {
  accepted = λ m spelled. read_same setting limits first b j same m spelled;
  unknown = (unknown_spends b j (limits.bytes + 1) same.spent, λ known. absurd cc);
  plain = λ no. let found = confirms no in read_same setting limits first b j same found.0 found.1;
}
checked_same judged setting limits first b j (Ok (Some difference)) same confirms = absurd confirms
checked_same judged setting limits first b j (Err e) same confirms = subst (λ (f : SameFault). ComparesChecked judged setting limits first b (Err f) j) (sym confirms) (record {
  accepted = λ m spelled. same.spent;
  unknown = unknown_spends b j (limits.bytes + 1) same.spent;
  plain = λ no. same.spent;
})

checked_found : (judged : Bool) (setting : Setting) (limits : Limits) (first : List ℕ) (b j : Incoming) (found : Option Difference) (result : Result (Option Difference) SameFault) → ReadBeside setting limits first b found j → result ≡ Ok found → ComparesChecked judged setting limits first b result j
checked_found judged setting limits first b j found result beside is = subst (λ (r : Result (Option Difference) SameFault). ComparesChecked judged setting limits first b r j) (sym is) (record {
  accepted = λ m spelled. beside;
  unknown = (unknown_spends b j (limits.bytes + 1) beside.0, λ known. absurd cc);
  plain = λ no. beside;
})

checked_fault : (judged : Bool) (setting : Setting) (limits : Limits) (first : List ℕ) (b j : Incoming) (fault : Fault) (result : Result (Option Difference) SameFault) → ReadsTree setting limits b (Err fault) j → result ≡ Err (record { which = Second; fault = fault }) → ComparesChecked judged setting limits first b result j
checked_fault judged setting limits first b j fault result tree is = subst (λ (r : Result (Option Difference) SameFault). ComparesChecked judged setting limits first b r j) (sym is) (record {
  accepted = λ m spelled. tree;
  unknown = unknown_tree setting limits b j fault tree;
  plain = λ no. tree;
})

-- the input was read after these bytes of it were taken
module _ (setting : Setting) (limits : Limits) (first h k : List ℕ) (calls o d q g : ℕ) (b i j : Incoming) (small : limits.bytes + 1 < 2 ^ 64 - 1) (took : Takes b calls h i) (enough : calls ≤ o) (few : calls ≤ limits.bytes + 1) (short : length h ≤ limits.bytes + 1) where
  spent_again : Spent limits (rejoined_of h o 0 0 i) (rejoined_of k d q g j) → Spent limits b j
  spent_again = spends_again h k calls o d q g b i j (limits.bytes + 1) took enough few short

  tree_again : (fault : Fault) → ReadsTree setting limits (rejoined_of h o 0 0 i) (Err fault) (rejoined_of k d q g j) → ReadsTree setting limits b (Err fault) j
  tree_again (Refused reason bit) read = (
    spent_again read.0,
    λ known. let same = same_bytes b.to_come i.to_come h took.bytes known in
        subst (λ (o : Option (List ℕ)). BreaksInput limits (known_bytes o) (at reason bit)) same (read.1 (subst IsSome (sym same) known)),
  )
  tree_again Read read = fails_again h k calls o d q g b i j (limits.bytes + 1) small took enough few short read
  tree_again Memory read = spent_again read
  tree_again Write read = absurd read
  tree_again OutputTooLong read = absurd read
  tree_again Failed read = absurd read

  -- nothing was called
  same_spent : rejoined_of k d q g j ≡ rejoined_of h o 0 0 i → Spent limits b j
  same_spent same = spent_again (subst (λ (s : Incoming). Spent limits (rejoined_of h o 0 0 i) s) (sym same) (record {
    pulls = omega arith;
    failures = refl;
    tells = λ known. known;
    bytes = λ known. omega arith;
    accounts = λ n all says. says;
  }))

  second_tree : (which : Which) (fault : Fault) → NotRead setting limits which fault (rejoined_of h o 0 0 i) (rejoined_of k d q g j) → ReadsTree setting limits b (Err fault) j
  second_tree First fault none = subst (λ (f : Fault). ReadsTree setting limits b (Err f) j) (sym none.0) (same_spent none.1)
  second_tree Second fault none = tree_again fault none

  pub checked_again : (judged : Bool) (equal : ℕ) (answer result : Result (Option Difference) SameFault) → Begins b.to_come (take equal first) → ComparesBehind setting limits first equal (rejoined_of h o 0 0 i) answer (rejoined_of k d q g j) → OfSecond answer result → ComparesChecked judged setting limits first b result j
  checked_again judged equal (Ok found) result begins read is = checked_found judged setting limits first b j found result (
    spent_again read.0,
    λ known.
        let same = same_bytes b.to_come i.to_come h took.bytes known in
        let beside = read.1 (subst (λ (o : Option (List ℕ)). Begins o (take equal first)) (sym same) begins) in
        let told = beside.1 (subst IsSome (sym same) known) in
        (told.0, subst (λ (o : Option (List ℕ)). SpellsInput limits (known_bytes o) told.0) same told.1, nothing_behind k j.to_come told.2, told.3),
  ) is
  checked_again judged equal (Err e) result begins none is = checked_fault judged setting limits first b j e.fault result (second_tree e.which e.fault none) is

pub checked_front : (judged : Bool) (setting : Setting) (limits : Limits) (first next : List ℕ) (t : Slices) (more equal : ℕ) (b i r j u : Incoming) (k : List ℕ) (o d q g : ℕ) (answer result : Result (Option Difference) SameFault) → Capped limits → TakesFront limits first next b t more equal i
    → o ≡ t.count + min 1 (length (take more next)) → r ≡ rejoined_of (take t.bytes first ++ take more next) o 0 0 i → u ≡ rejoined_of k d q g j → ComparesBehind setting limits first (t.bytes + equal) r answer u → OfSecond answer result → ComparesChecked judged setting limits first b result j
checked_front judged setting limits first next t more equal b i r j u k o d q g answer result capped front owed begun ended read is =
    let h = take t.bytes first ++ take more next in
    let calls = t.count + min 1 more in
    let held : length h ≡ length (take t.bytes first) + length (take more next) = length-append (take t.bytes first) (take more next) in
    let bytes : length (take t.bytes first) ≡ t.bytes = length-take-le t.bytes first (omega (arith, front.few)) in
    let others : length (take more next) ≡ more = length-take-le more next front.there in
    let short : length h ≤ limits.bytes + 1 = omega (arith, held, bytes, others, front.within, front.one) in
    let small : limits.bytes + 1 < 2 ^ 64 - 1 = omega (arith, capped.bytes) in
    let few : calls ≤ limits.bytes + 1 = omega (arith, t.few, front.within) in
    let enough : calls ≤ o = omega (arith, owed, others) in
    let after = subst (λ (v : Incoming). ComparesBehind setting limits first (t.bytes + equal) (rejoined_of h o 0 0 i) answer v) ended (subst (λ (v : Incoming). ComparesBehind setting limits first (t.bytes + equal) v answer u) begun read) in
    checked_again setting limits first h k calls o d q g b i j small front.takes enough few short judged (t.bytes + equal) answer result front.same after is

-- ---- the input ended

-- `xs` are all its bytes, `b` is the source before they were taken, and `j` the one after that
module _ (setting : Setting) (limits : Limits) (first xs : List ℕ) (calls : ℕ) (b j later : Incoming) (small : limits.bytes + 1 < 2 ^ 64 - 1) (took : Takes b calls xs j) (end : IsAtEnd j.to_come) (each : calls ≤ limits.bytes + 1) (few : length xs ≤ limits.bytes + 1) (never : later.failures ≡ 0) where
  ended_spent : Spent limits b j
  ended_spent = spends_taken b j calls (limits.bytes + 1) xs took each few

  ended_whole : IsSome b.to_come → (known_bytes b.to_come ≡ xs) × (known_bytes j.to_come ≡ [])
  ended_whole known = whole_bytes b.to_come j.to_come xs took.bytes end known

  -- a slice is not exhausted
  ended_lost : (A : Type 0) → Fails (source_of xs) (limits.bytes + 1) later 0 → A
  ended_lost A read = elim read.failed [
    | inl one ↦ absurd (omega (arith, one, never))
    | inr worn ↦ absurd (omega (arith, worn.1, never, read.pulls, small))
  ]

  ended_tree : (fault : Fault) → ReadsTree setting limits (source_of xs) (Err fault) later → ReadsTree setting limits b (Err fault) j
  ended_tree (Refused reason bit) read = (ended_spent, λ known. subst (λ (s : List ℕ). BreaksInput limits s (at reason bit)) (sym (ended_whole known).0) (read.1 refl))
  ended_tree Read read = ended_lost _ read
  ended_tree Memory read = ended_spent
  ended_tree Write read = absurd read
  ended_tree OutputTooLong read = absurd read
  ended_tree Failed read = absurd read

  ended_second : (which : Which) (fault : Fault) → NotRead setting limits which fault (source_of xs) later → ReadsTree setting limits b (Err fault) j
  ended_second First fault none = subst (λ (f : Fault). ReadsTree setting limits b (Err f) j) (sym none.0) ended_spent
  ended_second Second fault none = ended_tree fault none

  pub ended_checked : (judged : Bool) (answer result : Result (Option Difference) SameFault) → ComparesWith setting limits first (source_of xs) answer later → OfSecond answer result → ComparesChecked judged setting limits first b result j
  ended_checked judged (Ok found) result read is = checked_found judged setting limits first b j found result (
    ended_spent,
    λ known.
        let whole = ended_whole known in
        let told = read.1 refl in
        (told.0, subst (λ (s : List ℕ). SpellsInput limits s told.0) (sym whole.0) told.1, whole.1, told.3),
  ) is
  ended_checked judged (Err e) result none is = checked_fault judged setting limits first b j e.fault result (ended_second e.which e.fault none) is

-- the bytes are the same as said
compared_behind : (setting : Setting) (limits : Limits) (bytes : List ℕ) (equal : ℕ) (j later : Incoming) (answer : Result (Option Difference) SameFault) → ComparesBehind setting limits bytes equal j answer later → Begins j.to_come (take equal bytes) → ComparesWith setting limits bytes j answer later
compared_behind setting limits bytes equal j later (Ok found) read begins = read.1 begins
compared_behind setting limits bytes equal j later (Err e) read begins = read

pub checked_ended : (judged : Bool) (setting : Setting) (limits : Limits) (first : List ℕ) (t : Slices) (b j u later : Incoming) (answer result : Result (Option Difference) SameFault) → Capped limits → TakesEnd limits first b t j → u ≡ source_of (take t.bytes first) → later.failures ≡ 0
    → ComparesBehind setting limits first t.bytes u answer later → OfSecond answer result → ComparesChecked judged setting limits first b result j
checked_ended judged setting limits first t b j u later answer result capped ended begun never read is =
    let small : limits.bytes + 1 < 2 ^ 64 - 1 = omega (arith, capped.bytes) in
    let each : t.count + 1 ≤ limits.bytes + 1 = omega (arith, t.few, ended.within) in
    let few : length (take t.bytes first) ≤ limits.bytes + 1 = omega (arith, length-take t.bytes first, ended.within) in
    ended_checked setting limits first (take t.bytes first) (t.count + 1) b j later small ended.takes ended.end each few never judged answer result (compared_behind setting limits first t.bytes (source_of (take t.bytes first)) later answer (subst (λ (v : Incoming). ComparesBehind setting limits first t.bytes v answer later) begun read) (starts_with_of_eq (take t.bytes first) (take t.bytes first) refl)) is
