use Rattle.std.proofs.Common.{◌≡◌, ℕ, ◌<◌, List, Some, length, sym, ap, ◌∙◌, subst, arith, set, slice_get}
use Rattle.std.proofs.lemmas.Option.{slice_get-get_or}
use Rattle.bit_grammar.specs.declared.op.Op.{Op}
use Rattle.bit_grammar.specs.Terms.{defined_at}
use Rattle.bit_abbrev.specs.Groups.{IsPlaceOf, ready_at, ready_for}
use Rattle.bit_abbrev.specs.Ready.{last_one}
use Rattle.bit_abbrev.proofs.Grouping.{one_more, new_group, newest_here, newest_new}
use Rattle.bit_abbrev.proofs.ready.add_ready.Goals as goal

pub returns-then-place-len-clause-ok : goal.returns-then-place-len-clause-ok
returns-then-place-len-clause-ok c = λ other.
    let groups = c.args.groups.now.items in
    let place = c.place_of-place.result in
    let group : ℕ × List (List Op) = c.index_mut.result.now in
    let within : place < length groups = omega arith in
    let is = subst (λ (g : List (ℕ × List (List Op))). IsPlaceOf g c.args.id place) c.as_slice.ensures.value c.place_of-place.ensures in
    let at : slice_get groups place ≡ Some group = slice_get-get_or groups place _ within ∙ ap Some (sym c.index_mut.ensures.value) in
    subst (λ (g : ℕ × List (List Op)). ready_for (set groups place g) other ≡ defined_at c.args.id c.args.«abbrev» (ready_for groups) other) (sym c.in_ok-add.ensures.ok) (one_more groups c.args.id place group c.args.«abbrev» is at other)

pub returns-then-place-len-clause-newest : goal.returns-then-place-len-clause-newest
returns-then-place-len-clause-newest c =
    let groups = c.args.groups.now.items in
    let place = c.place_of-place.result in
    let group : ℕ × List (List Op) = c.index_mut.result.now in
    let within : place < length groups = omega arith in
    subst (λ (g : ℕ × List (List Op)). last_one (ready_at (set groups place g) place) ≡ Some c.args.«abbrev») (sym c.in_ok-add.ensures.ok) (newest_here groups place group c.args.«abbrev» within)

pub returns-clause-ok : goal.returns-clause-ok
returns-clause-ok c = λ other.
    let groups = c.args.groups.now.items in
    let place = c.place_of-place.result in
    let is = subst (λ (g : List (ℕ × List (List Op))). IsPlaceOf g c.args.id place) c.as_slice.ensures.value c.place_of-place.ensures in
    let end : place ≡ length groups = omega (arith, is.within) in
    let there = subst (λ (n : ℕ). IsPlaceOf groups c.args.id n) end is in
    rw (c.in_ok-push.ensures.items, c.in_ok-add-2.ensures.ok, c.in_ok-group.ensures) (new_group groups c.args.id c.args.«abbrev» there other)

pub returns-clause-newest : goal.returns-clause-newest
returns-clause-newest c =
    let groups = c.args.groups.now.items in
    let place = c.place_of-place.result in
    let is = subst (λ (g : List (ℕ × List (List Op))). IsPlaceOf g c.args.id place) c.as_slice.ensures.value c.place_of-place.ensures in
    let end : place ≡ length groups = omega (arith, is.within) in
    rw (c.in_ok-push.ensures.items, c.in_ok-add-2.ensures.ok, c.in_ok-group.ensures, end) (newest_new groups c.args.id c.args.«abbrev»)
