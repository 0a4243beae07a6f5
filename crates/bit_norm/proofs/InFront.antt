-- A comparison in front of the place where both inputs are read in step.
use Rattle.std.proofs.Common.{◌≡◌, ℕ, suc, ◌+◌, ◌-◌, ◌^◌, ◌<◌, ◌≤◌, Bool, true, false, List, [], ◌∷◌, ◌++◌, Option, Some, None, length, refl, sym, ap, ◌∙◌, subst, append_assoc, length-append, arith, inl, inr}
use Rattle.std.specs.Prelude.{◌⊎◌, zero, is_some, if◌then◌else◌}
use Rattle.std.proofs.lemmas.List.{append-nil}
use Rattle.std.specs.List.{list_all}
use Rattle.bit_grammar.specs.Setting.{keeps}
use Rattle.bit_grammar.specs.Under.{is_left, events_under}
use Rattle.bit_grammar.specs.Marks.{DefinitionMark}
use Rattle.bit_grammar.specs.Machine.{Event, defines, leaves}
use Rattle.bit_events.specs.Coming.{Coming, TellsComing}
use Rattle.bit_events.specs.Gathering.{left_open}
use Rattle.bit_events.proofs.Folds.{open_behind-push}
use Rattle.bit_events.specs.Standing as blocks
use Rattle.bit_norm.specs.Entries.{Entry, ends}
use Rattle.bit_norm.specs.Fronts.{ends_at, EndWithin}
use Rattle.bit_norm.specs.declared.differences.Difference.{Difference}
use Rattle.bit_norm.specs.declared.differences.OpenBlock.{OpenBlock}
use Rattle.bit_norm.specs.declared.differences.What.TheVariants.{End}
use Rattle.bit_norm.specs.declared.in_step.Apart.{Apart}
use Rattle.bit_norm.specs.declared.in_step.Beside.TheVariants.{Same}
use Rattle.bit_norm.specs.declared.in_step.Found.{Found}
use Rattle.bit_norm.specs.InStep.{Stand, Said, said_of, said_left, stand_behind, entry_at, told_entries, Took, Compared, here, entries_of_first, ended_from, second_end, Tallied, AnswersFound, Finishes}
use Rattle.bit_norm.specs.InFront.{Comparing, telling, first_telling, InFront, Shares, Matches, in_front, in_step, apart, FinishesAll, GoesInStep, PassesBy, PassesEvent, PassesSign, Takes, first_behind, said_here, second_behind}
use Rattle.bit_norm.proofs.InStep.{end_signed, left_says, left_out_says, left_more, entries_silent, entries_said, with_blocks, some_left, tally_silent, tally_left_out, tally_definition, tally_stays, IsSigned, tally_sign, tally_begun, agreed}

-- ---- lists of events

-- events that end within a bit, and one more
pub within_more : (bit : ℕ) (events : List Event) (event : Event) → EndWithin bit events → ends_at event ≤ bit → EndWithin bit (events ++ event ∷ [])
within_more bit [] event all one = (one, tt)
within_more bit (x ∷ events) event all one = (all.0, within_more bit events event all.1 one)

-- what is behind a front of the same length
pub same_rest : (a b x y : List Event) → length a ≡ length b → a ++ x ≡ b ++ y → x ≡ y
same_rest [] [] x y many same = same
same_rest [] (e ∷ b) x y many same = absurd (omega (arith, many))
same_rest (e ∷ a) [] x y many same = absurd (omega (arith, many))
same_rest (e ∷ a) (f ∷ b) x y many same = same_rest a b x y (omega (arith, many)) cc

-- ---- another first input

-- one that tells the same entries
pub tally_first : (begun old : Compared) (done : List Event) (coming : Coming) (now : blocks.OpenUnder) → Tallied begun done old → (TellsComing old.first → TellsComing coming)
    → entries_of_first (record old { first = coming; first_blocks = now }) ≡ entries_of_first old → Tallied begun done (record old { first = coming; first_blocks = now })
tally_first begun old done coming now was tells same = record {
  stands = was.stands;
  tells = λ known. tells (was.tells known);
  depth = was.depth;
  alike = λ known found p following. rw same (was.alike known found p following);
  apart = was.apart;
}

-- what is known with any first input that has these events first is so with this one
pub read_front : (begun old : Compared) (done : List Event) (coming : Coming) → (TellsComing begun.first → begun.first.told.0 ≡ done ++ coming.told.0) → ((rest : List Event) → Tallied (first_telling begun (done ++ rest)) done (first_telling old rest))
    → (TellsComing begun.first → TellsComing coming) → old.found ≡ None → Tallied begun done (record old { first = coming })
read_front begun old done coming is was tells found = record {
  stands = (was []).stands;
  tells = tells;
  depth = (was []).depth;
  alike = λ known none p following. rw (is known) ((was coming.told.0).alike refl none p following);
  apart = λ known f some p following. absurd cc;
}

-- ---- an event in front

no_apart : Apart
no_apart = record { first = record { bit = 0; what = End }; value = None }

-- the comparison when an event of both is passed over, with the place after it
abbrev pub at_event : Comparing → Event → Comparing
at_event old event = record old {
  compared = record old.compared {
    first_blocks = blocks.stands_after event old.compared.first_blocks;
    second_blocks = blocks.stands_after event old.compared.second_blocks;
  };
  passed = old.passed + 1;
}

more_events : (done : List Event) (event : Event) (n : ℕ) → length done ≡ n → length (done ++ event ∷ []) ≡ n + 1
more_events done event n many = omega (arith, many, length-append done (event ∷ []))

-- what comes before the place ended where it did in both
ended_here : (p : ℕ) (within : List OpenBlock) (items : ℕ) → ended_from p within items p ≡ p
ended_here p [] zero = refl
ended_here p [] (suc items) = refl
ended_here p (b ∷ within) items = refl

-- the first input takes the event too, which has no sign
front_first : (old : Compared) (event : Event) (rest : List Event) → old.first_ended ≡ old.second_ended → old.first_blocks ≡ old.second_blocks → ((ended : ℕ) → said_left old.second_blocks ended event ≡ None)
    → told_entries (here old old.first_ended) (blocks.left_of (blocks.stands_after event old.first_blocks) rest) ≡ told_entries (here old old.first_ended) (blocks.left_of old.first_blocks (event ∷ rest))
front_first old event rest one_end same none =
    sym (entries_silent old.first_blocks (blocks.stands_after event old.first_blocks) (here old old.first_ended) event rest (ap (λ (stands : blocks.OpenUnder). said_left stands old.first_ended event) same ∙ none old.first_ended) refl)

pub front_silent : (begun old : Comparing) (done : List Event) (event : Event) → InFront begun done old → ends_at event ≤ old.passed_to → ((ended : ℕ) → said_left old.compared.second_blocks ended event ≡ None)
    → left_open (events_under begun.compared.second_blocks.setting [] (done ++ event ∷ [])) ≡ left_open (events_under begun.compared.second_blocks.setting [] done) → InFront begun (done ++ event ∷ []) (at_event old event)
front_silent begun old done event was within none deep = record {
  found = was.found;
  passed_to = was.passed_to;
  whole = was.whole;
  some = was.some;
  within = within_more old.passed_to done event was.within within;
  many = more_events done event old.passed was.many;
  first = was.first;
  ends = was.ends;
  blocks = ap (blocks.stands_after event) was.blocks;
  tallied = λ rest. rw (append_assoc done (event ∷ []) rest)
      (tally_first (first_telling begun.compared (done ++ event ∷ rest)) (with_blocks (first_telling old.compared (event ∷ rest)) (blocks.stands_after event old.compared.second_blocks)) (done ++ event ∷ []) (telling old.compared.first rest) (blocks.stands_after event old.compared.first_blocks)
      (tally_silent (first_telling begun.compared (done ++ event ∷ rest)) (first_telling old.compared (event ∷ rest)) done event (blocks.stands_after event old.compared.second_blocks) (was.tallied (event ∷ rest)) refl none deep)
      (λ known. refl)
      (front_first old.compared event rest was.ends was.blocks none));
}

-- the sign does not depend on the first input
telling_signed : (old : Compared) (events : List Event) (event : Event) (x : Said) → IsSigned old event x → IsSigned (first_telling old events) event x
telling_signed old events event x is = record { kept = is.kept; says = is.says; item = is.item; ended = is.ended; deep = is.deep }

-- the comparison when an event of both with a sign is passed over, at this place in the innermost block
abbrev pub at_both : Comparing → Event → List OpenBlock → (items ended : ℕ) → Comparing
at_both old event within items ended = record old {
  compared = record old.compared {
    first_blocks = blocks.stands_after event old.compared.first_blocks;
    second_blocks = blocks.stands_after event old.compared.second_blocks;
    within = within;
    items = items;
    first_ended = ended;
    second_ended = ended;
  };
  passed = old.passed + 1;
}

-- the first input takes the sign too
front_took : (old : Compared) (event : Event) (x : Said) (rest : List Event) → old.found ≡ None → old.first_ended ≡ old.second_ended → old.first_blocks ≡ old.second_blocks → IsSigned old event x
    → Took old.first_blocks (here old old.first_ended) (telling old.first (event ∷ rest)) x.sign (Same x.ended) no_apart (blocks.stands_after event old.first_blocks) (telling old.first rest)
front_took old event x rest found one_end same is = record {
  tells = refl;
  found = x;
  is = entries_said old.first_blocks (blocks.stands_after event old.first_blocks) (here old old.first_ended) event x rest says refl ∙ ap (λ (l : List Entry). entry_at (here old old.first_ended) x ∷ l) (sym (is.item _));
  beside = (refl, refl);
}
  where
    end : second_end old.first_ended old ≡ old.first_ended
    end = ap (ended_from old.first_ended old.within old.items) (sym one_end) ∙ ended_here old.first_ended old.within old.items

    says : said_left old.first_blocks old.first_ended event ≡ Some x
    says = ap (λ (stands : blocks.OpenUnder). said_left stands old.first_ended event) same ∙ left_says old.second_blocks old.first_ended event is.kept ∙ ap (λ (n : ℕ). said_of n event) (sym end) ∙ is.says found old.first_ended

pub front_sign : (begun old : Comparing) (done : List Event) (event : Event) (x : Said) (within : List OpenBlock) (items : ℕ) → InFront begun done old → ends_at event ≤ old.passed_to → IsSigned old.compared event x
    → ((before behind : ℕ) → (let s : Stand = record { within = within; items = items; ended = behind } in (s ≡ stand_behind (here old.compared before) x.sign behind)))
    → InFront begun (done ++ event ∷ []) (at_both old event within items x.ended)
front_sign begun old done event x inside items was within is moves = record {
  found = was.found;
  passed_to = was.passed_to;
  whole = was.whole;
  some = was.some;
  within = within_more old.passed_to done event was.within within;
  many = more_events done event old.passed was.many;
  first = was.first;
  ends = refl;
  blocks = ap (blocks.stands_after event) was.blocks;
  tallied = λ rest. rw (append_assoc done (event ∷ []) rest)
      (let c = first_telling old.compared (event ∷ rest) in
      tally_sign (first_telling begun.compared (done ++ event ∷ rest)) c (first_telling (at_both old event inside items x.ended).compared rest) (blocks.stands_after event old.compared.second_blocks) done event x (was.tallied (event ∷ rest)) refl (telling_signed old.compared (event ∷ rest) event x is)
      (agreed (with_blocks c (blocks.stands_after event old.compared.second_blocks)) (telling old.compared.first rest) (blocks.stands_after event old.compared.first_blocks) inside items x.sign x.bit x.ended x.ended no_apart was.found moves
      (λ known. front_took old.compared event x rest was.found was.ends was.blocks is)));
}

-- ---- the place where both are read in step

module _ (begun old new : Comparing) (done : List Event) (was : InFront begun done old) (goes : GoesInStep old.whole old new) where
  -- the first input was read up to there
  pub behind_front : (event : Event) → Shares begun (done ++ event ∷ []) → old.passed_to < ends_at event → Tallied begun.compared done new.compared
  behind_front event shares behind = subst (λ (c : Compared). Tallied begun.compared done c) (sym goes.rest)
      (read_front begun.compared old.compared done new.compared.first (λ known. told known old.whole refl) was.tallied (λ known. goes.tells (subst TellsComing (sym was.first) known)) was.found)
    where
      first : (others : List Event) × (begun.compared.first.told.0 ≡ done ++ others)
      first = shares.same done (event ∷ []) refl (subst (λ (n : ℕ). EndWithin n done) was.passed_to was.within)

      told : TellsComing begun.compared.first → (b : Bool) → old.whole ≡ b → begun.compared.first.told.0 ≡ done ++ new.compared.first.told.0
      told known true all = shares.all (sym was.whole ∙ all) done event [] refl (subst (λ (n : ℕ). EndWithin n done) was.passed_to was.within) (subst (λ (n : ℕ). n < ends_at event) was.passed_to behind) ∙ sym (append-nil done) ∙ ap (λ (l : List Event). done ++ l) (sym (goes.none all))
      told known false not =
          let front = goes.front not (subst TellsComing (sym was.first) known) in
          let same : begun.compared.first.told.0 ≡ front.0 ++ new.compared.first.told.0 = ap (λ (c : Coming). c.told.0) (sym was.first) ∙ front.2 in
          let others : new.compared.first.told.0 ≡ first.0 = same_rest front.0 done new.compared.first.told.0 first.0 (front.1 ∙ sym was.many) (sym same ∙ first.1) in
          first.1 ∙ ap (λ (l : List Event). done ++ l) (sym others)

-- ---- the comparison at an event

-- what the first input shares if one more event comes, it shares before
pub shares_less : (begun : Comparing) (done : List Event) (event : Event) → Shares begun (done ++ event ∷ []) → Shares begun done
shares_less begun done event shares = record {
  same = λ front rest is within. shares.same front (rest ++ event ∷ []) (ap (λ (l : List Event). l ++ event ∷ []) is ∙ append_assoc front rest (event ∷ [])) within;
  all = λ whole front other rest is within behind. shares.all whole front other (rest ++ event ∷ []) (ap (λ (l : List Event). l ++ event ∷ []) is ∙ append_assoc front (other ∷ rest) (event ∷ [])) within behind;
}

-- both are read in step before an event
pub record AtStep (begun : Comparing) (done : List Event) (event : Event) (c : Comparing) : Type 0 where
  pub found : c.compared.found ≡ None
  pub passed_to : c.passed_to ≡ 0
  pub tallied : Shares begun (done ++ event ∷ []) → Tallied begun.compared done c.compared

pub goes_at_step : (begun old mid : Comparing) (done : List Event) (event : Event) → Matches begun done old → PassesEvent (ends_at event) old false mid → ends_at event < 2 ^ 64 → AtStep begun done event mid
goes_at_step begun old mid done event (in_front was) (inl (none, same)) below = absurd (omega (arith, was.some, none))
goes_at_step begun old mid done event (in_front was) (inr (some, behind, goes)) below = record {
  found = ap (λ (c : Compared). c.found) goes.rest ∙ was.found;
  passed_to = goes.passed_to;
  tallied = λ shares. behind_front begun old mid done was goes event shares behind;
}
goes_at_step begun old mid done event (in_step found none tallied) (inl (before, same)) below = rw same (record { found = found; passed_to = none; tallied = λ shares. tallied (shares_less begun done event shares) })
goes_at_step begun old mid done event (in_step found none tallied) (inr (some, behind, goes)) below = absurd (omega (arith, some, none))
goes_at_step begun old mid done event (apart f found end tallied) (inl (none, same)) below = absurd (omega (arith, end, none))
goes_at_step begun old mid done event (apart f found end tallied) (inr (some, behind, goes)) below = absurd (omega (arith, end, behind, below))

-- after it, with a difference or without
pub matches_on : (begun new : Comparing) (events : List Event) (o : Option Found) → new.compared.found ≡ o → (new.compared.found ≡ None → new.passed_to ≡ 0) → ((f : Found) → new.compared.found ≡ Some f → new.passed_to ≡ 2 ^ 64 - 1)
    → (Shares begun events → Tallied begun.compared events new.compared) → Matches begun events new
matches_on begun new events None is on over tallied = in_step is (on is) tallied
matches_on begun new events (Some f) is on over tallied = apart f is (over f is) tallied

-- after an event with a sign
pub step_sign : (begun mid new : Comparing) (next : blocks.OpenUnder) (done : List Event) (event : Event) (x : Said) → AtStep begun done event mid → next ≡ blocks.stands_after event mid.compared.second_blocks → IsSigned mid.compared event x
    → Takes (record mid { compared = with_blocks mid.compared next }) x.sign x.bit x.ended new → Matches begun (done ++ event ∷ []) new
step_sign begun mid new next done event x was stands is takes =
    matches_on begun new (done ++ event ∷ []) new.compared.found refl (λ none. takes.on none ∙ was.passed_to) (takes.over was.found)
    (λ shares. tally_sign begun.compared mid.compared new.compared next done event x (was.tallied shares) stands is (takes.takes was.found))

-- after one without
pub step_silent : (begun mid : Comparing) (next : blocks.OpenUnder) (done : List Event) (event : Event) → AtStep begun done event mid → (Tallied begun.compared done mid.compared → Tallied begun.compared (done ++ event ∷ []) (with_blocks mid.compared next))
    → Matches begun (done ++ event ∷ []) (record mid { compared = with_blocks mid.compared next })
step_silent begun mid next done event was goes_on = in_step was.found was.passed_to (λ shares. goes_on (was.tallied shares))

-- an event that is not compared, after a difference
abbrev pub behind_apart : Comparing → Event → Comparing
behind_apart old event = record old { compared = with_blocks old.compared (blocks.stands_after event old.compared.second_blocks); passed = old.passed + 1 }

passed_apart : (begun old : Comparing) (done : List Event) (event : Event) (f : Found) → old.compared.found ≡ Some f → old.passed_to ≡ 2 ^ 64 - 1 → (Shares begun done → Tallied begun.compared done old.compared) → Matches begun (done ++ event ∷ []) (behind_apart old event)
passed_apart begun old done event f found end tallied = apart f found end (λ shares. tally_stays begun.compared old.compared done event f (tallied (shares_less begun done event shares)) found)

-- an event of both with a sign was passed over, with this place after it
pub record IsPassed (old : Comparing) (event : Event) (x : Said) (new : Comparing) : Type 0 where
  pub within : List OpenBlock
  pub items : ℕ
  pub moves : (before behind : ℕ) → (let s : Stand = record { within = within; items = items; ended = behind } in (s ≡ stand_behind (here old.compared before) x.sign behind))
  pub is : new ≡ at_both old event within items x.ended

pub passed_sign : (begun old new : Comparing) (done : List Event) (event : Event) (x : Said) → Matches begun done old → 0 < old.passed_to → ends_at event ≤ old.passed_to → IsSigned old.compared event x
    → (old.compared.found ≡ None → IsPassed old event x new) → ((f : Found) → old.compared.found ≡ Some f → new ≡ behind_apart old event) → Matches begun (done ++ event ∷ []) new
passed_sign begun old new done event x (in_front was) some within is passes stays = (let p = passes was.found in subst (λ (c : Comparing). Matches begun (done ++ event ∷ []) c) (sym p.is) (in_front (front_sign begun old done event x p.within p.items was within is p.moves)))
passed_sign begun old new done event x (in_step found none tallied) some within is passes stays = absurd (omega (arith, some, none))
passed_sign begun old new done event x (apart f found end tallied) some within is passes stays = subst (λ (c : Comparing). Matches begun (done ++ event ∷ []) c) (sym (stays f found)) (passed_apart begun old done event f found end tallied)

pub passed_silent : (begun old new : Comparing) (done : List Event) (event : Event) → Matches begun done old → 0 < old.passed_to → ends_at event ≤ old.passed_to → ((ended : ℕ) → said_left old.compared.second_blocks ended event ≡ None)
    → (Tallied (first_telling begun.compared (done ++ [])) done (first_telling old.compared []) → left_open (events_under begun.compared.second_blocks.setting [] (done ++ event ∷ [])) ≡ left_open (events_under begun.compared.second_blocks.setting [] done))
    → (old.compared.found ≡ None → new ≡ at_event old event) → ((f : Found) → old.compared.found ≡ Some f → new ≡ behind_apart old event) → Matches begun (done ++ event ∷ []) new
passed_silent begun old new done event (in_front was) some within none deep passes stays = subst (λ (c : Comparing). Matches begun (done ++ event ∷ []) c) (sym (passes was.found)) (in_front (front_silent begun old done event was within none (deep (was.tallied []))))
passed_silent begun old new done event (in_step found at tallied) some within none deep passes stays = absurd (omega (arith, some, at))
passed_silent begun old new done event (apart f found end tallied) some within none deep passes stays = subst (λ (c : Comparing). Matches begun (done ++ event ∷ []) c) (sym (stays f found)) (passed_apart begun old done event f found end tallied)

comparing_is : (new : Comparing) (c : Compared) (to n : ℕ) (whole : Bool) → new.compared ≡ c → new.passed_to ≡ to → new.whole ≡ whole → new.passed ≡ n → (let other : Comparing = record { compared = c; passed_to = to; whole = whole; passed = n } in (new ≡ other))
comparing_is new c to n whole e f g h = rw (← e, ← f, ← g, ← h) refl

-- an event that is not compared was counted and taken
module _ (begun old new : Comparing) (done : List Event) (event : Event) (was : Matches begun done old) (some : 0 < old.passed_to) (within : ends_at event ≤ old.passed_to) (by : PassesBy event (record old { passed = old.passed + 1 }) new) where
  behind_is : (f : Found) → old.compared.found ≡ Some f → new ≡ behind_apart old event
  behind_is f found = comparing_is new (second_behind event old.compared) old.passed_to (old.passed + 1) old.whole (by.apart f found) by.passed_to by.whole by.passed

  -- one that is left out
  passed_out : is_left old.compared.second_blocks.setting old.compared.second_blocks.ids event ≡ false → Matches begun (done ++ event ∷ []) new
  passed_out out =
      passed_silent begun old new done event was some within (λ ended. left_out_says old.compared.second_blocks ended event out)
      (λ tallied. ap left_open (left_more (first_telling begun.compared (done ++ [])) (first_telling old.compared []) done event tallied false out ∙ append-nil (events_under begun.compared.second_blocks.setting [] done)))
      (λ found. comparing_is new (first_behind event (second_behind event old.compared)) old.passed_to (old.passed + 1) old.whole (rw (left_out_says old.compared.second_blocks old.compared.second_ended event out) at (by.both found)) by.passed_to by.whole by.passed)
      behind_is

  -- one that is kept, with this sign
  passed_kept : (x : Said) → said_here old.compared event ≡ Some x → IsSigned old.compared event x → Matches begun (done ++ event ∷ []) new
  passed_kept x said is =
      passed_sign begun old new done event x was some within is
      (λ found.
      let place = rw said at (by.both found) in
      record {
        within = new.compared.within;
        items = new.compared.items;
        moves = place.0;
        is = comparing_is new _ old.passed_to (old.passed + 1) old.whole place.1 by.passed_to by.whole by.passed;
      })
      behind_is

  pub passed_by : (x : Said) → (is_left old.compared.second_blocks.setting old.compared.second_blocks.ids event ≡ true → (said_here old.compared event ≡ Some x) × IsSigned old.compared event x) → Matches begun (done ++ event ∷ []) new
  passed_by x signed = go (is_left old.compared.second_blocks.setting old.compared.second_blocks.ids event) refl
    where
      go : (b : Bool) → is_left old.compared.second_blocks.setting old.compared.second_blocks.ids event ≡ b → Matches begun (done ++ event ∷ []) new
      go true is = (let x-signed = signed is in passed_kept x x-signed.0 x-signed.1)
      go false is = passed_out is

pub passed_at : (begun old mid new : Comparing) (done : List Event) (event : Event) (b : Bool) → Matches begun done old → PassesEvent (ends_at event) old b mid → b ≡ true → PassesBy event mid new → (x : Said) → (0 < old.passed_to → is_left old.compared.second_blocks.setting old.compared.second_blocks.ids event ≡ true → (said_here old.compared event ≡ Some x) × IsSigned old.compared event x)
    → Matches begun (done ++ event ∷ []) new
passed_at begun old mid new done event true was (some, within, is) met by x signed = passed_by begun old new done event was some within (subst (λ (c : Comparing). PassesBy event c new) is by) x (signed some)
passed_at begun old mid new done event false was goes met by x signed = absurd cc

-- a block that ends is open among the kept ones
pub some_open : (begun old : Comparing) (done : List Event) (after : ℕ) → Matches begun done old → 0 < old.passed_to → list_all (keeps old.compared.second_blocks.setting) old.compared.second_blocks.ids ≡ true → 0 < left_open done → old.compared.found ≡ None → 0 < length old.compared.within
some_open begun old done after (in_front was) some kept open_blocks found =
    let tallied = was.tallied [] in
    omega (arith, tallied.depth found, some_left (first_telling begun.compared (done ++ [])) (first_telling old.compared []) done (leaves after) tallied kept open_blocks)
some_open begun old done after (in_step none at tallied) some kept open_blocks found = absurd (omega (arith, some, at))
some_open begun old done after (apart f is end tallied) some kept open_blocks found = absurd cc

-- both are read in step from before the event on
pub at_step : (begun old mid : Comparing) (done : List Event) (event : Event) (b : Bool) → Matches begun done old → PassesEvent (ends_at event) old b mid → b ≡ false → ends_at event < 2 ^ 64 → AtStep begun done event mid
at_step begun old mid done event true was goes met below = absurd cc
at_step begun old mid done event false was goes met below = goes_at_step begun old mid done event was goes below

-- the end of a block comes next, which is kept
pub step_sign_open : (begun mid new : Comparing) (next : blocks.OpenUnder) (done : List Event) (after : ℕ) → AtStep begun done (leaves after) mid → next ≡ blocks.stands_after (leaves after) mid.compared.second_blocks → is_left mid.compared.second_blocks.setting mid.compared.second_blocks.ids (leaves after) ≡ true → 0 < left_open done
    → Takes (record mid { compared = with_blocks mid.compared next }) ends mid.compared.second_ended after new → Matches begun (done ++ leaves after ∷ []) new
step_sign_open begun mid new next done after at stands kept open_blocks takes =
    matches_on begun new (done ++ leaves after ∷ []) new.compared.found refl (λ none. takes.on none ∙ at.passed_to) (takes.over at.found)
    (λ shares.
    let tallied = at.tallied shares in
    tally_sign begun.compared mid.compared new.compared next done (leaves after) _ tallied stands (end_signed mid.compared after kept (λ found. omega (arith, tallied.depth found, some_left begun.compared mid.compared done (leaves after) tallied kept open_blocks))) (takes.takes at.found))

-- an event that is left out comes next
pub step_left_out : (begun mid : Comparing) (next : blocks.OpenUnder) (done : List Event) (event : Event) → AtStep begun done event mid → next ≡ blocks.stands_after event mid.compared.second_blocks → is_left mid.compared.second_blocks.setting mid.compared.second_blocks.ids event ≡ false → Matches begun (done ++ event ∷ []) (record mid { compared = with_blocks mid.compared next })
step_left_out begun mid next done event at is out = step_silent begun mid next done event at (λ tallied. tally_left_out begun.compared mid.compared done event next tallied is out)

-- ---- definitions

definition_says : (stands : blocks.OpenUnder) (mark : DefinitionMark) (ended : ℕ) → said_left stands ended (defines mark) ≡ None
definition_says stands mark ended = go (is_left stands.setting stands.ids (defines mark))
  where
    go : (b : Bool) → (if b then said_of ended (defines mark) else None) ≡ None
    go true = refl
    go false = refl

definition_open : (begun old : Compared) (done : List Event) (mark : DefinitionMark) → Tallied begun done old → left_open (events_under begun.second_blocks.setting [] (done ++ defines mark ∷ [])) ≡ left_open (events_under begun.second_blocks.setting [] done)
definition_open begun old done mark was = go (is_left old.second_blocks.setting old.second_blocks.ids (defines mark)) refl
  where
    go : (b : Bool) → is_left old.second_blocks.setting old.second_blocks.ids (defines mark) ≡ b → left_open (events_under begun.second_blocks.setting [] (done ++ defines mark ∷ [])) ≡ left_open (events_under begun.second_blocks.setting [] done)
    go true is = ap left_open (left_more begun old done (defines mark) was true is) ∙ open_behind-push (events_under begun.second_blocks.setting [] done) (defines mark) 0
    go false is = ap left_open (left_more begun old done (defines mark) was false is ∙ append-nil (events_under begun.second_blocks.setting [] done))

pub passed_definition : (begun old new : Comparing) (done : List Event) (mark : DefinitionMark) (b : Bool) → Matches begun done old → mark.after < 2 ^ 64 → PassesEvent mark.after old b new → Matches begun (done ++ defines mark ∷ []) new
passed_definition begun old new done mark true was below (some, within, is) =
    passed_silent begun old new done (defines mark) was some within (definition_says old.compared.second_blocks mark) (definition_open (first_telling begun.compared (done ++ [])) (first_telling old.compared []) done mark) (λ found. is) (λ f found. is)
passed_definition begun old new done mark false was below goes =
    let at = goes_at_step begun old new done (defines mark) was goes below in
    in_step at.found at.passed_to (λ shares. tally_definition begun.compared new.compared done mark (at.tallied shares))

-- ---- an event is taken that is not compared

pub passes_apart : (old : Comparing) (event : Event) → is_some old.compared.found ≡ true → PassesBy event old (record old { compared = second_behind event old.compared })
passes_apart old event some = record {
  passed_to = refl;
  whole = refl;
  passed = refl;
  both = λ none. (let no = sym (ap is_some none) ∙ some in absurd cc);
  apart = λ f is. refl;
}

pub passes_silent : (old : Comparing) (event : Event) → is_some old.compared.found ≡ false → said_here old.compared event ≡ None → PassesBy event old (record old { compared = first_behind event (second_behind event old.compared) })
passes_silent old event not none = record {
  passed_to = refl;
  whole = refl;
  passed = refl;
  both = λ found. rw none refl;
  apart = λ f is. (let no = sym (ap is_some is) ∙ not in absurd cc);
}

pub passes_sign : (old new : Comparing) (event : Event) (x : Said) → is_some old.compared.found ≡ false → said_here old.compared event ≡ Some x → PassesSign (record old { compared = first_behind event (second_behind event old.compared) }) x.sign x.ended new → PassesBy event old new
passes_sign old new event x not said is = record {
  passed_to = ap (λ (c : Comparing). c.passed_to) is.is;
  whole = ap (λ (c : Comparing). c.whole) is.is;
  passed = ap (λ (c : Comparing). c.passed) is.is;
  both = λ found. rw said (is.moves, ap (λ (c : Comparing). c.compared) is.is);
  apart = λ f some. (let no = sym (ap is_some some) ∙ not in absurd cc);
}

-- ---- the end of the second input

-- the events of the first input that are the same were read, though others may be left
behind_all : (begun old new : Comparing) (events : List Event) → InFront begun events old → GoesInStep false old new → Shares begun events → Tallied begun.compared events new.compared
behind_all begun old new events was goes shares = subst (λ (c : Compared). Tallied begun.compared events c) (sym goes.rest) (read_front begun.compared old.compared events new.compared.first told was.tallied (λ known. goes.tells (subst TellsComing (sym was.first) known)) was.found)
  where
    first : (others : List Event) × (begun.compared.first.told.0 ≡ events ++ others)
    first = shares.same events [] (sym (append-nil events)) (subst (λ (n : ℕ). EndWithin n events) was.passed_to was.within)

    told : TellsComing begun.compared.first → begun.compared.first.told.0 ≡ events ++ new.compared.first.told.0
    told known =
        let front = goes.front refl (subst TellsComing (sym was.first) known) in
        let same : begun.compared.first.told.0 ≡ front.0 ++ new.compared.first.told.0 = ap (λ (c : Coming). c.told.0) (sym was.first) ∙ front.2 in
        let others : new.compared.first.told.0 ≡ first.0 = same_rest front.0 events new.compared.first.told.0 first.0 (front.1 ∙ sym was.many) (sym same ∙ first.1) in
        first.1 ∙ ap (λ (l : List Event). events ++ l) (sym others)

-- both were read in step at the end, or a difference was found before
pub record AtEnd (begun : Comparing) (events : List Event) (p : ℕ) (answer : Option Difference) : Type 0 where
  pub last : Compared
  pub tallied : Tallied begun.compared events last
  pub answers : Finishes p last answer ⊎ (AnswersFound last answer × ((f : Found) × (last.found ≡ Some f)))

pub finished : (begun last : Comparing) (events : List Event) (p : ℕ) (answer : Option Difference) → Matches begun events last → Shares begun events → FinishesAll p last answer → AtEnd begun events p answer
finished begun last events p answer (in_front was) shares (inl answers) = (let none = was.found in let some = answers.1.1 in absurd cc)
finished begun last events p answer (in_front was) shares (inr (inl (found, at, finish))) = absurd (omega (arith, was.some, at))
finished begun last events p answer (in_front was) shares (inr (inr (found, some, (step, goes, finish)))) = record { last = step.compared; tallied = behind_all begun last step events was goes shares; answers = inl finish }
finished begun last events p answer (in_step none at tallied) shares (inl answers) = (let some = answers.1.1 in absurd cc)
finished begun last events p answer (in_step none at tallied) shares (inr (inl (found, same, finish))) = record { last = last.compared; tallied = tallied shares; answers = inl finish }
finished begun last events p answer (in_step none at tallied) shares (inr (inr (found, some, (step, goes, finish)))) = absurd (omega (arith, some, at))
finished begun last events p answer (apart f is end tallied) shares (inl answers) = record { last = last.compared; tallied = tallied shares; answers = inr answers }
finished begun last events p answer (apart f is end tallied) shares (inr (inl (found, same, finish))) = absurd cc
finished begun last events p answer (apart f is end tallied) shares (inr (inr (found, some, (step, goes, finish)))) = absurd cc

-- ---- the comparison begins

pub front_begun : (c : Comparing) → c.compared.within ≡ [] → c.compared.second_blocks.ids ≡ [] → c.compared.found ≡ None → c.compared.first_ended ≡ c.compared.second_ended → c.compared.first_blocks ≡ c.compared.second_blocks → c.passed ≡ 0 → Matches c [] c
front_begun c top outside found one_end same none = go c.passed_to refl
  where
    go : (n : ℕ) → c.passed_to ≡ n → Matches c [] c
    go zero is = in_step found is (λ shares. tally_begun c.compared top outside found)
    go (suc n) is = in_front (record {
      found = found;
      passed_to = refl;
      whole = refl;
      some = omega (arith, is);
      within = tt;
      many = sym none;
      first = refl;
      ends = one_end;
      blocks = same;
      tallied = λ rest. tally_begun (first_telling c.compared rest) top outside found;
    })
