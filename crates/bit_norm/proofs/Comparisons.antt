-- The result for two inputs.
use Rattle.std.proofs.Common.{◌≡◌, ℕ, ◌+◌, ◌⊎◌, inl, inr, arith, Bool, true, false, IsTrue, List, [], ◌∷◌, ◌++◌, Option, Some, None, Result, Ok, Err, refl, sym, ap, ◌∙◌, subst, append-nil, take, drop}
use Rattle.std.specs.Prelude.{◌↔◌, IsSome, option_map}
use Rattle.bit_grammar.specs.Setting.{Setting}
use Rattle.bit_grammar.specs.Under.{under}
use Rattle.bit_events.specs.Standing as blocks
use Rattle.bit_grammar.specs.Forest.{empty, Tree}
use Rattle.bit_grammar.specs.Marks.{no_marks}
use Rattle.bit_grammar.specs.Blocks.{Limits}
use Rattle.bit_grammar.specs.Input.{SpellsInput, tree_of}
use Rattle.bit_grammar.specs.Terms.{Head, Marked}
use Rattle.bit_grammar.specs.Machine.{Event, flat, accepted, Told}
use Rattle.bit_grammar.specs.Grammar as grammar
use Rattle.bit_grammar.specs.Normal.{Capped}
use Rattle.bit_grammar.specs.Outlook.{outlook}
use Rattle.bit_fields.specs.declared.fault.Fault.{Fault}
use Rattle.bit_fields.specs.declared.fault.Fault.TheVariants.{Refused, Read, Write, Memory, OutputTooLong, Failed}
use Rattle.bit_events.specs.Reading.{Spent, ReadsWhole}
use Rattle.bit_tree.specs.Reading.{HasFit}
use Rattle.bit_grammar.proofs.NormalForms.Settings.{fit_of_setting}
use Rattle.bit_grammar.proofs.Events.Telling.{told_if_spelled}
use Rattle.std.specs.Io.{StartsWith}
use Rattle.bit_fields.specs.Devices as devices
use Rattle.bit_fields.specs.Devices.{Incoming, keeping, calling, known_bytes}
use Rattle.bit_fields.specs.Front.{calls_of, front_of}
use Rattle.bit_fields.proofs.Keeping.{says_before, spared}
use Rattle.bit_fields.proofs.Fronts.{rest_left}
use Rattle.bit_events.specs.Coming.{Coming, TellsComing}
use Rattle.bit_norm.specs.declared.differences.Difference.{Difference}
use Rattle.bit_norm.specs.declared.differences.Standing as bit
use Rattle.bit_norm.specs.declared.differences.Place.TheVariants as place
use Rattle.bit_norm.specs.declared.in_step.Found.{Found}
use Rattle.bit_norm.specs.Entries.{Sign, Entry, over, signs_in, Seen, Standing, at_magic, standing_shown, difference_shown, magic_standing, behind_magic, all_entries, magics_apart, apart_at, in_magic, behind, Differs}
use Rattle.bit_norm.specs.Whole.{ReadsTree, ReadsMarked, Misreads, Compares, source_of, FindsDifference, FindsInBytes, FindsInParts, HasRest, HasRestUnless, ReachesRest, SaysNone}
use Rattle.bit_norm.specs.Fronts.{SharesFront}
use Rattle.bit_norm.specs.InStep.{Said, entry_at, Compared, here, entries_of_first, entries_of_second, second_end, seen_of, TakesSign, Alike, ApartAt, Tallied, AnswersFound, Finishes, ReadBeside, NotRead, ComparesWith}
use Rattle.bit_norm.specs.InFront.{Comparing, Matches, FinishesAll, Concludes, other_magic, same_magic}
use Rattle.bit_norm.specs.Rejoined.{unknown, ComparesChecked}
use Rattle.bit_norm.specs.declared.comparing.Which.{Which}
use Rattle.bit_norm.specs.declared.comparing.Which.TheVariants.{First, Second}
use Rattle.bit_norm.specs.declared.comparing.SameFault.{SameFault}
use Rattle.bit_norm.proofs.Signs.{signs_in-append, same_signs, tree_is}
use Rattle.bit_norm.proofs.EventEntries.{entries_told}
use Rattle.bit_norm.proofs.InStep.{departs_there}
use Rattle.bit_norm.proofs.InFront.{finished}
use Rattle.bit_norm.proofs.Apart.{never_same}

-- ---- the magics

pub magics_seen : (a b : Head) (s t : bit.Standing) → standing_shown s ≡ magic_standing a → standing_shown t ≡ magic_standing b
    → (let d : Difference = record { place = place.Magic; first = s; second = t; value = None } in (difference_shown d ≡ magics_apart a b))
magics_seen a b s t e f =
    let make : Standing → Standing → Seen = λ x y. record { place = at_magic; first = x; second = y; value = None } in
    ap (λ (x : Standing). make x (standing_shown t)) e ∙ ap (make (magic_standing a)) f

-- ---- the first input

-- the outlook of bytes is the head and the events of the marked tree that they spell
told_parts : (h k : Head) (x y : Told) → ◌≡◌ {A = Result (Head × Told) grammar.Fault} (Ok (h, x)) (Ok (k, y)) → (h ≡ k) × (x.0 ≡ y.0)
told_parts h k x y same =
    let pair : Path (Head × Told) (h, x) (k, y) = cc in
    (ap (λ (p : Head × Told). p.0) pair, ap (λ (p : Head × Told). p.1.0) pair)

told_is : (limits : Limits) (bytes : List ℕ) (c : Coming) (m : Marked) → outlook limits bytes ≡ Ok (c.head, c.told) → SpellsInput limits bytes m → (c.head ≡ m.head) × (c.told.0 ≡ flat m.blocks [])
told_is limits bytes c m told spelled = told_parts c.head m.head c.told (flat m.blocks [], accepted m.after) (sym told ∙ (told_if_spelled limits bytes m).0 spelled)

-- ---- the result by the entries

-- this is the result for two lists of entries
abbrev pub AnswersLists : List Entry → List Entry → Option Difference → Type 0
AnswersLists a b None = signs_in a ≡ signs_in b
AnswersLists a b (Some d) = ApartAt a b (difference_shown d)

differs : (setting : Setting) (a b : Marked) (answer : Option Difference) → a.head.magic ≡ b.head.magic → AnswersLists (all_entries setting a) (all_entries setting b) answer → Differs setting a b answer
differs setting a b None magic is = tree_is setting a b magic ((same_signs setting (behind_magic a.head) (behind_magic b.head) a.blocks b.blocks).0 is)
differs setting a b (Some d) magic is = behind magic is.0 is.1 is.2 is.3

-- both lists end there
ended_alike : (a b l m : List Entry) (x y : Entry) → Alike a b l m → l ≡ x ∷ [] → m ≡ y ∷ [] → x.sign ≡ y.sign → signs_in a ≡ signs_in b
ended_alike a b l m x y was e f same =
    ap signs_in was.first ∙ signs_in-append was.front l ∙ ap (λ (s : List Sign). s ++ signs_in l) was.same ∙ ap (λ (s : List Entry). signs_in was.other_front ++ signs_in s) e
    ∙ ap (λ (s : Sign). signs_in was.other_front ++ s ∷ []) same
    ∙ sym (ap signs_in was.second ∙ signs_in-append was.other_front m ∙ ap (λ (s : List Entry). signs_in was.other_front ++ signs_in s) f)

abbrev over_said : ℕ → Said
over_said bit = record { sign = over; bit = bit; ended = bit }

-- no difference was found before, and none or one at the end
at_end : (a b : List Entry) (p : ℕ) (last end : Compared) (o : Option Found) (answer : Option Difference) → TellsComing last.first → last.found ≡ None → end.found ≡ o → Alike a b (entries_of_first last) (entries_of_second p last [])
    → TakesSign last over (second_end p last) (second_end p last) end → AnswersFound end answer → AnswersLists a b answer
at_end a b p last end None None tells none is was takes answers =
    let one = (takes.same none is).takes tells in
    ended_alike a b _ _ (entry_at (here last last.first_ended) one.0) (entry_at (here last (second_end p last)) (over_said (second_end p last))) was one.2 refl one.1
at_end a b p last end None (Some d) tells none is was takes answers = let no = answers.1 in absurd cc
at_end a b p last end (Some g) None tells none is was takes answers = absurd cc
at_end a b p last end (Some g) (Some d) tells none is was takes answers =
    let departs = takes.other none answers.0 answers.1 in
    subst (ApartAt a b) (sym answers.2) (departs_there a b (entries_of_first last) (entries_of_second p last []) last end (over_said (second_end p last)) (second_end p last) answers.0 [] was refl departs (departs.takes tells))

found_before : (a b : List Entry) (last end : Compared) (f : Found) (answer : Option Difference) → last.found ≡ Some f → end ≡ last → ((g : Found) → last.found ≡ Some g → ApartAt a b (seen_of last g)) → AnswersFound end answer → AnswersLists a b answer
found_before a b last end f None some is apart_at answers = let none = ap (λ (c : Compared). c.found) (sym is) ∙ answers in absurd cc
found_before a b last end f (Some d) some is apart_at answers =
    subst (ApartAt a b) (sym (answers.2 ∙ ap (λ (c : Compared). seen_of c answers.0) is)) (apart_at answers.0 (ap (λ (c : Compared). c.found) (sym is) ∙ answers.1))

by_found : (a b : List Entry) (p : ℕ) (last end : Compared) (o : Option Found) (answer : Option Difference) → last.found ≡ o → TellsComing last.first → (last.found ≡ None → Alike a b (entries_of_first last) (entries_of_second p last [])) → ((g : Found) → last.found ≡ Some g → ApartAt a b (seen_of last g))
    → TakesSign last over (second_end p last) (second_end p last) end → AnswersFound end answer → AnswersLists a b answer
by_found a b p last end None answer is tells alike apart_at takes answers = at_end a b p last end end.found answer tells is refl (alike is) takes answers
by_found a b p last end (Some f) answer is tells alike apart_at takes answers = found_before a b last end f answer is (takes.stays f is) apart_at answers

-- a setting before any block is open
abbrev pub outside : Setting → blocks.OpenUnder
outside setting = record { setting = setting; ids = [] }

-- the state in which the comparison begins
pub record Begins (setting : Setting) (head : Head) (c : Compared) : Type 0 where
  pub first : c.first_blocks ≡ outside setting
  pub second : c.second_blocks ≡ outside setting
  pub within : c.within ≡ []
  pub items : c.items ≡ 0
  pub ended : c.first_ended ≡ behind_magic head

left_is : (setting : Setting) (head : Head) (c : Compared) (m : Marked) → Begins setting head c → head ≡ m.head → c.first.told.0 ≡ flat m.blocks [] → entries_of_first c ≡ all_entries setting m
left_is setting head c m is same told = rw (is.first, is.within, is.items, is.ended, same, told) (entries_told setting m.blocks (behind_magic m.head))

right_is : (setting : Setting) (head : Head) (c : Compared) (m : Marked) → Begins setting head c → entries_of_second (behind_magic m.head) c (flat m.blocks []) ≡ all_entries setting m
right_is setting head c m is = rw (is.second, is.within, is.items) (entries_told setting m.blocks (behind_magic m.head))

-- by the end of the second
at_last : (a b : List Entry) (p : ℕ) (begun : Compared) (events : List Event) (last : Compared) (answer : Option Difference) → TellsComing begun.first → a ≡ entries_of_first begun → b ≡ entries_of_second p begun (events ++ []) → Tallied begun events last → Finishes p last answer ⊎ (AnswersFound last answer × ((f : Found) × (last.found ≡ Some f)))
    → AnswersLists a b answer
at_last a b p begun events last answer tells first second was (inl finish) = rw (first, second) (by_found (entries_of_first begun) (entries_of_second p begun (events ++ [])) p last finish.0 last.found answer refl (was.tells tells) (λ none. was.alike tells none p []) (λ g some. was.apart tells g some p []) finish.1 finish.2)
at_last a b p begun events last answer tells first second was (inr (answers, (f, found))) = rw (first, second) (found_before (entries_of_first begun) (entries_of_second p begun (events ++ [])) last last f answer found refl (λ g some. was.apart tells g some p []) answers)

pub concluded : (setting : Setting) (limits : Limits) (bytes : List ℕ) (begun last : Comparing) (m : Marked) (second : Head) (answer : Option Difference) → outlook limits bytes ≡ Ok (begun.compared.first.head, begun.compared.first.told) → TellsComing begun.compared.first → Begins setting begun.compared.first.head begun.compared
    → m.head ≡ second → Matches begun (flat m.blocks []) last → ((other : Marked) → SpellsInput limits bytes other → SharesFront begun.whole begun.passed_to (flat other.blocks []) (flat m.blocks [])) → Concludes begun.compared.first.head second last answer → (other : Marked) → SpellsInput limits bytes other → Differs setting other m answer
concluded setting limits bytes begun last m second answer told tells begins is was shares (other_magic unlike d some seen) other spelled =
    let head = (told_is limits bytes begun.compared.first other told spelled).0 in
    let apart_heads : difference_shown d ≡ magics_apart other.head m.head = seen ∙ ap (λ (h : Head). magics_apart h second) head ∙ ap (magics_apart other.head) (sym is) in
    subst (Differs setting other m) (sym some) (in_magic (λ e. unlike (ap (λ (h : Head). h.magic) head ∙ e ∙ ap (λ (h : Head). h.magic) is)) apart_heads)
concluded setting limits bytes begun last m second answer told tells begins is was shares (same_magic same finishes) other spelled =
    let parts = told_is limits bytes begun.compared.first other told spelled in
    let p = behind_magic m.head in
    let events = flat m.blocks [] in
    let end = finished begun last events p answer was (rw parts.1 (shares other spelled)) (subst (λ (h : Head). FinishesAll (behind_magic h) last answer) (sym is) finishes) in
    let first = left_is setting begun.compared.first.head begun.compared other begins parts.0 parts.1 in
    let second : entries_of_second p begun.compared (events ++ []) ≡ all_entries setting m = ap (entries_of_second p begun.compared) (append-nil events) ∙ right_is setting begun.compared.first.head begun.compared m begins in
    differs setting other m answer (ap (λ (h : Head). h.magic) (sym parts.0) ∙ same ∙ ap (λ (h : Head). h.magic) (sym is))
    (at_last (all_entries setting other) (all_entries setting m) p begun.compared events end.last answer tells (sym first) (sym second) end.tallied end.answers)

-- the bytes begin with these, since they are known
pub begins_known : (o : Option (List ℕ)) (shown : List ℕ) → IsSome o → devices.Begins o shown → StartsWith (known_bytes o) shown
begins_known None shown known begins = absurd cc
begins_known (Some bytes) shown known begins = begins

-- ---- both inputs

-- the outlook of the first input, which was kept
abbrev pub Kept : Limits → Incoming → Incoming → List ℕ → Type 0
Kept limits i now bytes = Spent limits i now × (IsSome i.to_come → ((bytes ≡ known_bytes i.to_come) × ((m : Marked) × SpellsInput limits (known_bytes i.to_come) m)) × (known_bytes now.to_come ≡ []))

tells_or_not : (o : Option (List ℕ)) → IsSome o ⊎ (IsSome o → ⊥)
tells_or_not None = inr (λ tells. absurd cc)
tells_or_not (Some bytes) = inl refl

untold : (setting : Setting) (limits : Limits) (i now : Incoming) (t : Tree) → Spent limits i now → (IsSome i.to_come → ⊥) → ReadsTree setting limits i (Ok t) now
untold setting limits i now t spent none = (spent, λ tells. absurd (none tells))

has_fit : (setting : Setting) (limits : Limits) (bytes : List ℕ) (m : Marked) → Capped limits → SpellsInput limits bytes m → HasFit setting limits bytes (under setting (tree_of m))
has_fit setting limits bytes m capped spelled = ((m, spelled, refl), fit_of_setting setting limits bytes m capped spelled)

any_tree : Tree
any_tree = record { magic = 0; blocks = empty }

-- a tree for this result
beside : (answer : Bool) (t : Tree) → (other : Tree) × (IsTrue answer ↔ (other ≡ t))
beside true t = (t, (λ yes. refl, λ e. refl))
beside false t = (record { magic = t.magic + 1; blocks = t.blocks }, (λ no. absurd cc, λ e. absurd (omega (arith, ap (λ (u : Tree). u.magic) e))))

-- the first was read as some tree
first_read : (setting : Setting) (limits : Limits) (i now : Incoming) (bytes : List ℕ) → Capped limits → Kept limits i now bytes → (a : Tree) × ReadsTree setting limits i (Ok a) now
first_read setting limits i now bytes capped kept =
    elim (tells_or_not i.to_come) [
      | inl tells ↦ let found = kept.1 tells in (under setting (tree_of found.0.1.0), (kept.0, λ told. (has_fit setting limits (known_bytes i.to_come) found.0.1.0 capped found.0.1.1, found.1)))
      | inr none ↦ (any_tree, untold setting limits i now any_tree kept.0 none)
    ]

any_marked : Marked
any_marked = record { head = record { magic = 0; wrapper = None }; blocks = no_marks; after = 0 }

-- the first was read as some marked tree
marked_first : (limits : Limits) (i now : Incoming) (bytes : List ℕ) → Kept limits i now bytes → (m : Marked) × ReadsMarked limits i m now × (IsSome i.to_come → SpellsInput limits bytes m)
marked_first limits i now bytes kept =
    elim (tells_or_not i.to_come) [
      | inl tells ↦ let found = kept.1 tells in (found.0.1.0, (kept.0, λ told. (found.0.1.1, found.1)), λ told. subst (λ (bs : List ℕ). SpellsInput limits bs found.0.1.0) (sym found.0.0) found.0.1.1)
      | inr none ↦ (any_marked, (kept.0, λ told. absurd (none told)), λ told. absurd (none told))
    ]

-- and the second
marked_second : (setting : Setting) (limits : Limits) (j later : Incoming) (bytes : List ℕ) (answer : Option Difference) → ReadBeside setting limits bytes j answer later
    → (m : Marked) × ReadsMarked limits j m later × (IsSome j.to_come → (other : Marked) → SpellsInput limits bytes other → Differs setting other m answer)
marked_second setting limits j later bytes answer read =
    elim (tells_or_not j.to_come) [
      | inl tells ↦ let found = read.1 tells in (found.0, (read.0, λ told. (found.1, found.2)), λ told. found.3)
      | inr none ↦ (any_marked, (read.0, λ told. absurd (none told)), λ told. absurd (none told))
    ]

misread : (setting : Setting) (limits : Limits) (i now j later : Incoming) (bytes : List ℕ) (which : Which) (fault : Fault) → Capped limits → Kept limits i now bytes → NotRead setting limits which fault j later → Misreads setting limits which fault i j now later
misread setting limits i now j later bytes First fault capped kept none = (subst (λ (f : Fault). ReadsTree setting limits i (Err f) now) (sym none.0) kept.0, none.1)
misread setting limits i now j later bytes Second fault capped kept none = let first = first_read setting limits i now bytes capped kept in (first.0, first.1, none)

pub finds : (setting : Setting) (limits : Limits) (i now j later : Incoming) (bytes : List ℕ) (answer : Result (Option Difference) SameFault) → Capped limits → Kept limits i now bytes → ComparesWith setting limits bytes j answer later → FindsDifference setting limits i j answer now later
finds setting limits i now j later bytes (Ok answer) capped kept read =
    let a = marked_first limits i now bytes kept in
    let b = marked_second setting limits j later bytes answer read in
    (a.0, b.0, a.1, b.1, λ first second. b.2 second a.0 (a.2 first))
finds setting limits i now j later bytes (Err e) capped kept none = misread setting limits i now j later bytes e.which e.fault capped kept none

-- the same for bytes that were not said to be judged
pub finds_plain : (setting : Setting) (limits : Limits) (i now j later : Incoming) (bytes : List ℕ) (answer : Result (Option Difference) SameFault) → Capped limits → Kept limits i now bytes → ComparesChecked false setting limits bytes j answer later → FindsDifference setting limits i j answer now later
finds_plain setting limits i now j later bytes answer capped kept compared = finds setting limits i now j later bytes answer capped kept (compared.plain refl)

-- the first is a slice
pub finds_in_bytes : (setting : Setting) (limits : Limits) (bytes : List ℕ) (i now j later : Incoming) (checked : Unit {0}) (answer : Result (Option Difference) SameFault) → Capped limits → i ≡ source_of bytes → now.failures ≡ 0
    → ReadsWhole (λ (all : List ℕ) (_ : Unit {0}). (m : Marked) × SpellsInput limits all m) limits i (Ok checked) now → ComparesChecked true setting limits bytes j answer later → FindsInBytes setting limits bytes j answer later
finds_in_bytes setting limits bytes i now j later checked answer capped is never read compared =
    let whole = subst (λ (s : Incoming). ReadsWhole (λ (all : List ℕ) (_ : Unit {0}). (m : Marked) × SpellsInput limits all m) limits s (Ok checked) now) is read in
    let first = whole.1 refl in
    (now, never, finds setting limits (source_of bytes) now j later bytes answer capped (whole.0, λ tells. let found = whole.1 tells in ((refl, found.0), found.1)) (compared.accepted first.0.0 first.0.1))

misread_first : {A : Type 0} (Holds : List ℕ → A → Type 0) (setting : Setting) (limits : Limits) (i now j : Incoming) (fault : Fault) → ReadsWhole Holds limits i (Err fault) now → FindsDifference setting limits i j (Err (record { which = First; fault = fault })) now j
misread_first Holds setting limits i now j (Refused reason bit) read = (read, refl)
misread_first Holds setting limits i now j Read read = (read, refl)
misread_first Holds setting limits i now j Memory read = (read, refl)
misread_first Holds setting limits i now j Write read = absurd read
misread_first Holds setting limits i now j OutputTooLong read = absurd read
misread_first Holds setting limits i now j Failed read = absurd read

-- it was not accepted
pub bytes_misread : (setting : Setting) (limits : Limits) (bytes : List ℕ) (i now j : Incoming) (fault : Fault) → i ≡ source_of bytes → now.failures ≡ 0 → ReadsWhole (λ (all : List ℕ) (_ : Unit {0}). (m : Marked) × SpellsInput limits all m) limits i (Err fault) now
    → FindsInBytes setting limits bytes j (Err (record { which = First; fault = fault })) j
bytes_misread setting limits bytes i now j fault is never read =
    (now, never, misread_first (λ (all : List ℕ) (_ : Unit {0}). (m : Marked) × SpellsInput limits all m) setting limits (source_of bytes) now j fault (subst (λ (s : Incoming). ReadsWhole (λ (all : List ℕ) (_ : Unit {0}). (m : Marked) × SpellsInput limits all m) limits s (Err fault) now) is read))

-- ---- two parts of one source

known_front : (o : Option (List ℕ)) (first : ℕ) → IsSome o → IsSome (option_map (take first) o)
known_front None first told = absurd cc
known_front (Some bytes) first told = refl

rest_after : (limits : Limits) (first left pulls failures : ℕ) (i j : Incoming) (bytes : List ℕ) → Kept limits (front_of first 0 0 i) (front_of left pulls failures j) bytes → HasRest first i j
rest_after limits first left pulls failures i j bytes kept told = rest_left first left pulls failures i j (limits.bytes + 1) 0 kept.0 told (kept.1 (known_front i.to_come first told)).1

reached : (which : Which) (first : ℕ) (i j : Incoming) → HasRest first i j → HasRestUnless which first i j
reached First first i j rest = tt
reached Second first i j rest = rest

reaches : (answer : Result (Option Difference) SameFault) (first : ℕ) (i j : Incoming) → HasRest first i j → ReachesRest first i j answer
reaches (Ok found) first i j rest = rest
reaches (Err e) first i j rest = reached e.which first i j rest

-- the source between both, if its bytes were not known before
known_before : {A : Type 0} (o : Option (List ℕ)) (f : List ℕ → A) → IsSome (option_map f o) → IsSome o
known_before None f told = absurd cc
known_before (Some bytes) f told = refl

told_before : (o : Option (List ℕ)) (f : List ℕ → List ℕ) (all : List ℕ) → option_map f o ≡ Some all → IsSome o
told_before None f all told = absurd cc
told_before (Some bytes) f all told = refl

kept_unknown : (limits : Limits) (first left pulls failures : ℕ) (i j : Incoming) (bytes : List ℕ) → (IsSome i.to_come → ⊥) → Kept limits (front_of first 0 0 i) (front_of left pulls failures j) bytes → Kept limits (front_of first 0 0 i) (front_of left pulls failures (unknown j)) bytes
kept_unknown limits first left pulls failures i j bytes none kept = (
  record {
    pulls = kept.0.pulls;
    failures = kept.0.failures;
    tells = λ told. absurd (none (known_before i.to_come (take first) told));
    bytes = λ told. absurd (none (known_before i.to_come (take first) told));
    accounts = says_before (keeping true (option_map (drop first) i.to_come)) (keeping true (option_map (drop left) None)) (calling (calls_of first 0 0 i) ∷ i.accounts) (calling (calls_of left pulls failures j) ∷ j.accounts)
        (λ all says. absurd (none (told_before i.to_come (drop first) all (says refl))))
        (spared (keeping true (option_map (drop first) i.to_come)) (keeping true (option_map (drop left) j.to_come)) (calling (calls_of first 0 0 i) ∷ i.accounts) (calling (calls_of left pulls failures j) ∷ j.accounts) kept.0.accounts);
  },
  λ told. absurd (none (known_before i.to_come (take first) told)),
)

-- the first was accepted
pub finds_in_parts : (setting : Setting) (limits : Limits) (first left pulls failures : ℕ) (i p q j later : Incoming) (bytes : List ℕ) (answer : Result (Option Difference) SameFault) → Capped limits → p ≡ front_of first 0 0 i → q ≡ front_of left pulls failures j → Kept limits p q bytes → ComparesChecked true setting limits bytes j answer later
    → FindsInParts setting limits first i answer later
finds_in_parts setting limits first left pulls failures i p q j later bytes answer capped begun ended read compared =
    let kept = subst (λ (s : Incoming). Kept limits (front_of first 0 0 i) s bytes) ended (subst (λ (s : Incoming). Kept limits s q bytes) begun read) in
    elim (tells_or_not i.to_come) [
      | inl tells ↦
          let found = kept.1 (known_front i.to_come first tells) in
          let spelled = subst (λ (bs : List ℕ). SpellsInput limits bs found.0.1.0) (sym found.0.0) found.0.1.1 in
          (left, pulls, failures, j, finds setting limits (front_of first 0 0 i) (front_of left pulls failures j) j later bytes answer capped kept (compared.accepted found.0.1.0 spelled), reaches answer first i j (rest_after limits first left pulls failures i j bytes kept))
      | inr none ↦
          (left, pulls, failures, unknown j, finds setting limits (front_of first 0 0 i) (front_of left pulls failures (unknown j)) (unknown j) later bytes answer capped (kept_unknown limits first left pulls failures i j bytes none kept) compared.unknown, reaches answer first i (unknown j) (λ told. absurd (none told)))
    ]

-- it was not
pub parts_misread : {A : Type 0} (Holds : List ℕ → A → Type 0) (setting : Setting) (limits : Limits) (first left pulls failures : ℕ) (i p q j : Incoming) (fault : Fault) → p ≡ front_of first 0 0 i → q ≡ front_of left pulls failures j → ReadsWhole Holds limits p (Err fault) q
    → FindsInParts setting limits first i (Err (record { which = First; fault = fault })) j
parts_misread Holds setting limits first left pulls failures i p q j fault begun ended read =
    let none = subst (λ (s : Incoming). ReadsWhole Holds limits (front_of first 0 0 i) (Err fault) s) ended (subst (λ (s : Incoming). ReadsWhole Holds limits s (Err fault) q) begun read) in
    (left, pulls, failures, j, misread_first Holds setting limits (front_of first 0 0 i) (front_of left pulls failures j) j fault none, tt)

-- ---- whether there is no difference

-- the tree of what was read
tree_read : (setting : Setting) (limits : Limits) (i now : Incoming) (m : Marked) → Capped limits → ReadsMarked limits i m now → ReadsTree setting limits i (Ok (under setting (tree_of m))) now
tree_read setting limits i now m capped read = (read.0, λ tells. let found = read.1 tells in (has_fit setting limits (known_bytes i.to_come) m capped found.0, found.1))

swapped : (answer : Bool) (a b : Tree) → IsTrue answer ↔ (a ≡ b) → IsTrue answer ↔ (b ≡ a)
swapped answer a b is = (λ yes. sym (is.0 yes), λ e. is.1 (sym e))

both_read : (setting : Setting) (limits : Limits) (i now j later : Incoming) (a b : Marked) (same : Bool) → Capped limits → ReadsMarked limits i a now → ReadsMarked limits j b later
    → (IsSome i.to_come → IsSome j.to_come → IsTrue same ↔ (under setting (tree_of a) ≡ under setting (tree_of b))) → Compares setting limits i j (Ok same) now later
both_read setting limits i now j later a b same capped first second is =
    elim (tells_or_not i.to_come) [
      | inr none ↦ let other = beside same (under setting (tree_of b)) in (other.0, under setting (tree_of b), untold setting limits i now other.0 first.0 none, tree_read setting limits j later b capped second, other.1)
      | inl known ↦
          elim (tells_or_not j.to_come) [
            | inr none ↦ let other = beside same (under setting (tree_of a)) in (under setting (tree_of a), other.0, tree_read setting limits i now a capped first, untold setting limits j later other.0 second.0 none, swapped same other.0 (under setting (tree_of a)) other.1)
            | inl told ↦ (under setting (tree_of a), under setting (tree_of b), tree_read setting limits i now a capped first, tree_read setting limits j later b capped second, is known told)
          ]
    ]

pub compares : (setting : Setting) (limits : Limits) (i now j later : Incoming) (found : Result (Option Difference) SameFault) (answer : Result Bool SameFault) → Capped limits → FindsDifference setting limits i j found now later → SaysNone found answer → Compares setting limits i j answer now later
compares setting limits i now j later (Ok None) answer capped finds says =
    subst (λ (r : Result Bool SameFault). Compares setting limits i j r now later) (sym says)
    (both_read setting limits i now j later finds.0 finds.1 true capped finds.2 finds.3 (λ first second. (λ yes. finds.4 first second, λ e. refl)))
compares setting limits i now j later (Ok (Some d)) answer capped finds says =
    subst (λ (r : Result Bool SameFault). Compares setting limits i j r now later) (sym says)
    (both_read setting limits i now j later finds.0 finds.1 false capped finds.2 finds.3 (λ first second. (λ no. absurd cc, λ e. absurd (never_same setting finds.0 finds.1 (difference_shown d) (finds.4 first second) e))))
compares setting limits i now j later (Err e) answer capped finds says = subst (λ (r : Result Bool SameFault). Compares setting limits i j r now later) (sym says) finds
