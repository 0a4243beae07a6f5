-- Two trees that are not the same first differ at one place.
use Rattle.std.proofs.Common.{◌≡◌, ℕ, zero, suc, ◌⊎◌, inl, inr, List, [], ◌∷◌, ◌++◌, Option, Some, None, refl, sym, ap, ◌∙◌, subst, arith}
use Rattle.std.specs.Prelude.{◌≢◌}
use Rattle.bit_grammar.specs.Setting.{Setting}
use Rattle.bit_grammar.specs.Under.{under, events_under}
use Rattle.bit_grammar.specs.Input.{tree_of}
use Rattle.bit_grammar.specs.Terms.{Marked}
use Rattle.bit_grammar.specs.Machine.{Event, enters, defines, notes, leaves, flat}
use Rattle.bit_norm.specs.declared.differences.OpenBlock.{OpenBlock}
use Rattle.bit_norm.specs.Entries.{Sign, begins, has_record, ends, over, Entry, signs_in, FirstApart, Seen, apart_at, behind_magic, all_entries, magics_apart, FirstDifference, in_magic, behind}
use Rattle.bit_norm.specs.InStep.{Stand, Said, said_of, stand_behind_block, stand_behind, entry_at, stand_after, put_entry, told_entries}
use Rattle.bit_norm.proofs.Signs.{same_signs, tree_is}
use Rattle.bit_norm.proofs.EventEntries.{entries_told}

-- ---- one place at most

heads_are : (x y : Entry) (a b : List Entry) → x ∷ a ≡ y ∷ b → (x ≡ y) × (a ≡ b)
heads_are x y a b e = (cc, cc)

signs_are : (x y : Entry) (a b : List Entry) → signs_in (x ∷ a) ≡ signs_in (y ∷ b) → (x.sign ≡ y.sign) × (signs_in a ≡ signs_in b)
signs_are x y a b e = (cc, cc)

one_place : (f g h k r s t u : List Entry) (x y v w : Entry) → f ++ x ∷ r ≡ h ++ v ∷ t → g ++ y ∷ s ≡ k ++ w ∷ u → signs_in f ≡ signs_in g → signs_in h ≡ signs_in k → x.sign ≢ y.sign → v.sign ≢ w.sign → (x ≡ v) × (y ≡ w)
one_place [] [] [] [] r s t u x y v w first second same other one two = ((heads_are _ _ _ _ first).0, (heads_are _ _ _ _ second).0)
one_place [] [] (a ∷ h) (b ∷ k) r s t u x y v w first second same other one two =
    absurd (one (ap (λ (e : Entry). e.sign) (heads_are _ _ _ _ first).0 ∙ (signs_are a b h k other).0 ∙ ap (λ (e : Entry). e.sign) (sym (heads_are _ _ _ _ second).0)))
one_place (a ∷ f) (b ∷ g) [] [] r s t u x y v w first second same other one two =
    absurd (two (ap (λ (e : Entry). e.sign) (sym (heads_are _ _ _ _ first).0) ∙ (signs_are a b f g same).0 ∙ ap (λ (e : Entry). e.sign) (heads_are _ _ _ _ second).0))
one_place (a ∷ f) (b ∷ g) (c ∷ h) (d ∷ k) r s t u x y v w first second same other one two =
    one_place f g h k r s t u x y v w (heads_are _ _ _ _ first).1 (heads_are _ _ _ _ second).1 (signs_are a b f g same).1 (signs_are c d h k other).1 one two
one_place [] (b ∷ g) h k r s t u x y v w first second same other one two = absurd cc
one_place (a ∷ f) [] h k r s t u x y v w first second same other one two = absurd cc
one_place [] [] [] (b ∷ k) r s t u x y v w first second same other one two = absurd cc
one_place [] [] (a ∷ h) [] r s t u x y v w first second same other one two = absurd cc
one_place (a ∷ f) (b ∷ g) [] (d ∷ k) r s t u x y v w first second same other one two = absurd cc
one_place (a ∷ f) (b ∷ g) (c ∷ h) [] r s t u x y v w first second same other one two = absurd cc

-- two places where trees first differ are one
pub one_difference : (s : Setting) (a b : Marked) (seen other : Seen) → FirstDifference s a b seen → FirstDifference s a b other → seen ≡ other
one_difference s a b seen other (in_magic unlike is) (in_magic again so) = is ∙ sym so
one_difference s a b seen other (in_magic unlike is) (behind same x y apart_at so) = absurd (unlike same)
one_difference s a b seen other (behind same x y first is) (in_magic unlike so) = absurd (unlike same)
one_difference s a b seen other (behind same x y first is) (behind again v w second so) =
    let place = one_place first.front first.other_front second.front second.other_front first.rest first.other_rest second.rest second.other_rest x y v w (sym first.first ∙ second.first) (sym first.second ∙ second.second) first.same second.same first.unlike second.unlike in
    is ∙ ap (λ (e : Entry). apart_at e y) place.0 ∙ ap (apart_at v) place.1 ∙ sym so

-- ---- one place where they are not the same

number_same : (x y : ℕ) → (x ≡ y) ⊎ (x ≢ y)
number_same zero zero = inl refl
number_same zero (suc y) = inr (λ e. absurd (omega (arith, e)))
number_same (suc x) zero = inr (λ e. absurd (omega (arith, e)))
number_same (suc x) (suc y) = elim (number_same x y) [ inl same ↦ inl (ap suc same) | inr unlike ↦ inr (λ e. unlike (omega (arith, e))) ]

list_same : (a b : List ℕ) → (a ≡ b) ⊎ (a ≢ b)
list_same [] [] = inl refl
list_same [] (y ∷ b) = inr (λ e. absurd cc)
list_same (x ∷ a) [] = inr (λ e. absurd cc)
list_same (x ∷ a) (y ∷ b) =
    elim (number_same x y) [
      | inr unlike ↦ inr (λ e. unlike cc)
      | inl same ↦ elim (list_same a b) [
        | inl rest ↦ inl (ap (λ (n : ℕ). n ∷ a) same ∙ ap (λ (l : List ℕ). y ∷ l) rest)
        | inr unlike ↦ inr (λ e. unlike cc)
      ]
    ]

sign_same : (x y : Sign) → (x ≡ y) ⊎ (x ≢ y)
sign_same (begins id) (begins other) = elim (number_same id other) [ inl same ↦ inl (ap begins same) | inr unlike ↦ inr (λ e. unlike cc) ]
sign_same (begins id) (has_record code values) = inr (λ e. absurd cc)
sign_same (begins id) ends = inr (λ e. absurd cc)
sign_same (begins id) over = inr (λ e. absurd cc)
sign_same (has_record code values) (begins id) = inr (λ e. absurd cc)
sign_same (has_record code values) (has_record other others) =
    elim (number_same code other) [
      | inr unlike ↦ inr (λ e. unlike cc)
      | inl same ↦ elim (list_same values others) [
        | inl rest ↦ inl (ap (λ (n : ℕ). has_record n values) same ∙ ap (has_record other) rest)
        | inr unlike ↦ inr (λ e. unlike cc)
      ]
    ]
sign_same (has_record code values) ends = inr (λ e. absurd cc)
sign_same (has_record code values) over = inr (λ e. absurd cc)
sign_same ends (begins id) = inr (λ e. absurd cc)
sign_same ends (has_record code values) = inr (λ e. absurd cc)
sign_same ends ends = inl refl
sign_same ends over = inr (λ e. absurd cc)
sign_same over (begins id) = inr (λ e. absurd cc)
sign_same over (has_record code values) = inr (λ e. absurd cc)
sign_same over ends = inr (λ e. absurd cc)
sign_same over over = inl refl

-- what follows is at the place that the signs before it give
abbrev Placed : List OpenBlock → ℕ → List Entry → Type 0
Placed within items [] = Unit {0}
Placed within items (x ∷ rest) = (x.within ≡ within) × (x.items ≡ items) × (let s = stand_behind (record { within = within; items = items; ended = 0 }) x.sign 0 in Placed s.within s.items rest)

closing_same : (l : List OpenBlock) (items ended other : ℕ) → ((stand_behind_block l items ended).within ≡ (stand_behind_block l items other).within) × ((stand_behind_block l items ended).items ≡ (stand_behind_block l items other).items)
closing_same [] items ended other = (refl, refl)
closing_same (b ∷ []) items ended other = (refl, refl)
closing_same (b ∷ c ∷ l) items ended other = let rest = closing_same (c ∷ l) items ended other in (ap (λ (w : List OpenBlock). b ∷ w) rest.0, rest.1)

moved_same : (s : Stand) (sign : Sign) (ended : ℕ) → (let t = stand_behind (record { within = s.within; items = s.items; ended = 0 }) sign 0 in (((stand_behind s sign ended).within ≡ t.within) × ((stand_behind s sign ended).items ≡ t.items)))
moved_same s (begins id) ended = (refl, refl)
moved_same s (has_record code values) ended = (refl, refl)
moved_same s ends ended = closing_same s.within s.items ended 0
moved_same s over ended = (refl, refl)

put_placed : (s : Stand) (o : Option Said) (rest : List Entry) → Placed (stand_after s o).within (stand_after s o).items rest → Placed s.within s.items (put_entry s o rest)
put_placed s None rest placed = placed
put_placed s (Some x) rest placed =
    let same = moved_same s x.sign x.ended in
    let t = stand_behind (record { within = s.within; items = s.items; ended = 0 }) x.sign 0 in
    (refl, refl, subst (λ (n : ℕ). Placed t.within n rest) same.1 (subst (λ (w : List OpenBlock). Placed w (stand_behind s x.sign x.ended).items rest) same.0 placed))

told_placed : (s : Stand) (events : List Event) → Placed s.within s.items (told_entries s events)
told_placed s [] = (refl, refl, tt)
told_placed s (event ∷ events) = put_placed s (said_of s.ended event) _ (told_placed (stand_after s (said_of s.ended event)) events)

-- the end of the stream comes last, and nowhere else
abbrev EndsOnce : List Entry → Type 0
EndsOnce [] = ⊥
EndsOnce (x ∷ []) = x.sign ≡ over
EndsOnce (x ∷ y ∷ rest) = (x.sign ≢ over) × EndsOnce (y ∷ rest)

more_end : (x : Entry) (rest : List Entry) → x.sign ≢ over → EndsOnce rest → EndsOnce (x ∷ rest)
more_end x [] other once = absurd once
more_end x (y ∷ rest) other once = (other, once)

never_over : (ended : ℕ) (event : Event) (x : Said) → said_of ended event ≡ Some x → x.sign ≢ over
never_over ended (defines mark) x is e = absurd cc
never_over ended (notes mark) x is e = let own : ◌≡◌ {A = Said} (record { sign = has_record mark.code mark.values; bit = mark.first; ended = mark.after }) x = cc in let sign = ap (λ (y : Said). y.sign) own ∙ e in absurd cc
never_over ended (leaves after) x is e = let own : ◌≡◌ {A = Said} (record { sign = ends; bit = ended; ended = after }) x = cc in let sign = ap (λ (y : Said). y.sign) own ∙ e in absurd cc
never_over ended (enters o) x is e = let own : ◌≡◌ {A = Said} (record { sign = begins o.id; bit = o.first; ended = o.body }) x = cc in let sign = ap (λ (y : Said). y.sign) own ∙ e in absurd cc

put_end : (s : Stand) (o : Option Said) (rest : List Entry) → ((x : Said) → o ≡ Some x → x.sign ≢ over) → EndsOnce rest → EndsOnce (put_entry s o rest)
put_end s None rest other once = once
put_end s (Some x) rest other once = more_end (entry_at s x) rest (other x refl) once

told_end : (s : Stand) (events : List Event) → EndsOnce (told_entries s events)
told_end s [] = refl
told_end s (event ∷ events) = put_end s (said_of s.ended event) _ (never_over s.ended event) (told_end (stand_after s (said_of s.ended event)) events)

-- one entry more with the same sign before both
apart_more : (v w : Entry) (a b : List Entry) (x y : Entry) → v.sign ≡ w.sign → FirstApart a b x y → FirstApart (v ∷ a) (w ∷ b) x y
apart_more v w a b x y same is = record {
  front = v ∷ is.front;
  rest = is.rest;
  other_front = w ∷ is.other_front;
  other_rest = is.other_rest;
  first = ap (λ (l : List Entry). v ∷ l) is.first;
  second = ap (λ (l : List Entry). w ∷ l) is.second;
  same = ap (λ (s : Sign). s ∷ signs_in is.front) same ∙ ap (λ (l : List Sign). w.sign ∷ l) is.same;
  unlike = is.unlike;
  within = is.within;
  items = is.items;
}

abbrev Compare : List Entry → List Entry → Type 0
Compare a b = (signs_in a ≡ signs_in b) ⊎ ((x y : Entry) × FirstApart a b x y)

compare_more : (v w : Entry) (a b : List Entry) → v.sign ≡ w.sign → Compare a b → Compare (v ∷ a) (w ∷ b)
compare_more v w a b same (inl e) = inl (ap (λ (s : Sign). s ∷ signs_in a) same ∙ ap (λ (l : List Sign). w.sign ∷ l) e)
compare_more v w a b same (inr is) = inr (is.0, is.1, apart_more v w a b is.0 is.1 same is.2)

apart_here : (v w : Entry) (a b : List Entry) → v.sign ≢ w.sign → v.within ≡ w.within → v.items ≡ w.items → Compare (v ∷ a) (w ∷ b)
apart_here v w a b unlike within items = inr (v, w, record { front = []; rest = a; other_front = []; other_rest = b; first = refl; second = refl; same = refl; unlike = unlike; within = within; items = items })

compared : (within : List OpenBlock) (items : ℕ) (a b : List Entry) → Placed within items a → Placed within items b → EndsOnce a → EndsOnce b → Compare a b
compared within items [] b p q once again = absurd once
compared within items (v ∷ a) [] p q once again = absurd again
compared within items (v ∷ []) (w ∷ []) p q once again = inl (ap (λ (s : Sign). s ∷ []) (once ∙ sym again))
compared within items (v ∷ []) (w ∷ c ∷ b) p q once again = apart_here v w [] (c ∷ b) (λ e. again.0 (sym e ∙ once)) (p.0 ∙ sym q.0) (p.1 ∙ sym q.1)
compared within items (v ∷ c ∷ a) (w ∷ []) p q once again = apart_here v w (c ∷ a) [] (λ e. once.0 (e ∙ again)) (p.0 ∙ sym q.0) (p.1 ∙ sym q.1)
compared within items (v ∷ c ∷ a) (w ∷ d ∷ b) p q once again =
    elim (sign_same v.sign w.sign) [
      | inr unlike ↦ apart_here v w (c ∷ a) (d ∷ b) unlike (p.0 ∙ sym q.0) (p.1 ∙ sym q.1)
      | inl same ↦
          let s = stand_behind (record { within = within; items = items; ended = 0 }) v.sign 0 in
          let q' : Placed s.within s.items (d ∷ b) = subst (λ (n : Sign). let t = stand_behind (record { within = within; items = items; ended = 0 }) n 0 in Placed t.within t.items (d ∷ b)) (sym same) q.2 in
          compare_more v w (c ∷ a) (d ∷ b) same (compared s.within s.items (c ∷ a) (d ∷ b) p.2 q' once.1 again.1)
    ]

of_marks : (s : Setting) (a b : Marked) → Compare (all_entries s a) (all_entries s b)
of_marks s a b =
    let p = behind_magic a.head in
    let q = behind_magic b.head in
    let place : ℕ → Stand = λ n. record { within = []; items = 0; ended = n } in
    let first = events_under s [] (flat a.blocks []) in
    let second = events_under s [] (flat b.blocks []) in
    let compare : Compare (told_entries (place p) first) (told_entries (place q) second) = compared [] 0 _ _ (told_placed (place p) first) (told_placed (place q) second) (told_end (place p) first) (told_end (place q) second) in
    subst (λ (l : List Entry). Compare l (all_entries s b)) (entries_told s a.blocks p) (subst (Compare (told_entries (place p) first)) (entries_told s b.blocks q) compare)

-- trees are the same, or differ somewhere
pub some_difference : (s : Setting) (a b : Marked) → (under s (tree_of a) ≡ under s (tree_of b)) ⊎ ((seen : Seen) × FirstDifference s a b seen)
some_difference s a b =
    elim (number_same a.head.magic b.head.magic) [
      | inr unlike ↦ inr (magics_apart a.head b.head, in_magic unlike refl)
      | inl same ↦ elim (of_marks s a b) [
        | inl e ↦ inl (tree_is s a b same ((same_signs s (behind_magic a.head) (behind_magic b.head) a.blocks b.blocks).0 e))
        | inr is ↦ inr (apart_at is.0 is.1, behind same is.0 is.1 is.2 refl)
      ]
    ]
