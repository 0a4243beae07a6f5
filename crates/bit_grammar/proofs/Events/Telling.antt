-- The outlook of an input and what the input spells, or how it breaks, determine each other.
use Rattle.std.proofs.Common.{◌≡◌, ℕ, List, [], ◌∷◌, Ok, Err, refl, sym, ap, ◌∙◌, subst, inl, inr}
use Rattle.std.specs.Prelude.{◌↔◌}
use Rattle.bit_grammar.specs.Grammar.{Fault}
use Rattle.bit_grammar.specs.Marks.{BlockMark, RecordMark, DefinitionMark, Marks, no_marks, marked_block, marked_record, marked_definition}
use Rattle.bit_grammar.specs.Blocks.{Limits}
use Rattle.bit_grammar.specs.Input.{SpellsInput, BreaksInput}
use Rattle.bit_grammar.specs.Terms.{Head, Marked}
use Rattle.bit_grammar.specs.Machine.{Opened, Event, enters, defines, notes, leaves, flat, accepted, broke, Told}
use Rattle.bit_grammar.specs.Outlook.{Outlook, outlook, EndsBy}
use Rattle.bit_grammar.proofs.WholeInputs.Inputs.{tree_or_fault}
use Rattle.bit_grammar.proofs.Events.Outlooks.{outlook_spelled, outlook_broken}

-- ---- marks by their events

-- no event, or first the end of a block
abbrev Stand : List Event → Type 0
Stand [] = Unit {0}
Stand (leaves after ∷ events) = Unit {0}
Stand (enters o ∷ events) = ⊥
Stand (defines mark ∷ events) = ⊥
Stand (notes mark ∷ events) = ⊥

first_is : (a b : Event) (f g : List Event) → a ∷ f ≡ b ∷ g → (a ≡ b) × (f ≡ g)
first_is a b f g e = (cc, cc)

enters_is : (a b : Opened) → enters a ≡ enters b → a ≡ b
enters_is a b e = cc

notes_is : (a b : RecordMark) → notes a ≡ notes b → a ≡ b
notes_is a b e = cc

defines_is : (a b : DefinitionMark) → defines a ≡ defines b → a ≡ b
defines_is a b e = cc

leaves_is : (a b : ℕ) → leaves a ≡ leaves b → a ≡ b
leaves_is a b e = cc

-- the first event is not that of an item
not_first : (event : Event) (f g : List Event) → Stand f → (Stand (event ∷ g) → ⊥) → f ≡ event ∷ g → ⊥
not_first event f g stand other e = other (subst Stand e stand)

mark_is : (a b : BlockMark) → a.id ≡ b.id → a.width ≡ b.width → a.first ≡ b.first → a.body ≡ b.body → a.after ≡ b.after → a ≡ b
mark_is a b one two three four five = (let same : ◌≡◌ {A = BlockMark} (record { id = a.id; width = a.width; first = a.first; body = a.body; after = a.after }) (record { id = b.id; width = b.width; first = b.first; body = b.body; after = b.after }) = rw (one, two, three, four, five) refl in same)

flat_is : (a b : Marks) (f g : List Event) → Stand f → Stand g → flat a f ≡ flat b g → (a ≡ b) × (f ≡ g)
flat_is no_marks no_marks f g s t e = (refl, e)
flat_is no_marks (marked_block mark inner rest) f g s t e = absurd (not_first _ f _ s (λ h. h) e)
flat_is no_marks (marked_record mark rest) f g s t e = absurd (not_first _ f _ s (λ h. h) e)
flat_is no_marks (marked_definition mark rest) f g s t e = absurd (not_first _ f _ s (λ h. h) e)
flat_is (marked_block mark inner rest) no_marks f g s t e = absurd (not_first _ g _ t (λ h. h) (sym e))
flat_is (marked_record mark rest) no_marks f g s t e = absurd (not_first _ g _ t (λ h. h) (sym e))
flat_is (marked_definition mark rest) no_marks f g s t e = absurd (not_first _ g _ t (λ h. h) (sym e))
flat_is (marked_block mark inner rest) (marked_block other inside others) f g s t e =
    let first = first_is _ _ _ _ e in
    let opened = enters_is _ _ first.0 in
    let within = flat_is inner inside (leaves mark.after ∷ flat rest f) (leaves other.after ∷ flat others g) tt tt first.1 in
    let last = first_is _ _ _ _ within.1 in
    let more = flat_is rest others f g s t last.1 in
    let same = mark_is mark other (ap (λ (o : Opened). o.id) opened) (ap (λ (o : Opened). o.width) opened) (ap (λ (o : Opened). o.first) opened) (ap (λ (o : Opened). o.body) opened) (leaves_is _ _ last.0) in
    (rw (same, within.0, more.0) refl, more.1)
flat_is (marked_record mark rest) (marked_record other others) f g s t e =
    let first = first_is _ _ _ _ e in
    let more = flat_is rest others f g s t first.1 in
    (rw (notes_is _ _ first.0, more.0) refl, more.1)
flat_is (marked_definition mark rest) (marked_definition other others) f g s t e =
    let first = first_is _ _ _ _ e in
    let more = flat_is rest others f g s t first.1 in
    (rw (defines_is _ _ first.0, more.0) refl, more.1)
flat_is (marked_block mark inner rest) (marked_record other others) f g s t e = absurd cc
flat_is (marked_block mark inner rest) (marked_definition other others) f g s t e = absurd cc
flat_is (marked_record mark rest) (marked_block other inside others) f g s t e = absurd cc
flat_is (marked_record mark rest) (marked_definition other others) f g s t e = absurd cc
flat_is (marked_definition mark rest) (marked_block other inside others) f g s t e = absurd cc
flat_is (marked_definition mark rest) (marked_record other others) f g s t e = absurd cc

-- marks with the same events are the same
pub flat_only : (a b : Marks) → flat a [] ≡ flat b [] → a ≡ b
flat_only a b e = (flat_is a b [] [] tt tt e).0

-- ---- whole inputs

abbrev told_of : Marked → Outlook
told_of m = Ok (m.head, (flat m.blocks [], accepted m.after))

told_is : (a b : Head × Told) → ◌≡◌ {A = Outlook} (Ok a) (Ok b) → a ≡ b
told_is a b e = cc

no_both : (a : Head × Told) (fault : Fault) → ◌≡◌ {A = Outlook} (Ok a) (Err fault) → ⊥
no_both a fault e = absurd cc

err_is : (f g : Fault) → ◌≡◌ {A = Outlook} (Err f) (Err g) → f ≡ g
err_is f g e = cc

accepted_is : (p q : ℕ) → accepted p ≡ accepted q → p ≡ q
accepted_is p q e = cc

broke_is : (f g : Fault) → broke f ≡ broke g → f ≡ g
broke_is f g e = cc

no_other_end : (p : ℕ) (fault : Fault) → accepted p ≡ broke fault → ⊥
no_other_end p fault e = absurd cc

-- the outlook determines the tree
told_only : (m n : Marked) → told_of m ≡ told_of n → m ≡ n
told_only m n e =
    let same = told_is _ _ e in
    let head : m.head ≡ n.head = ap (λ (x : Head × Told). x.0) same in
    let blocks : m.blocks ≡ n.blocks = flat_only m.blocks n.blocks (ap (λ (x : Head × Told). x.1.0) same) in
    let after : m.after ≡ n.after = accepted_is _ _ (ap (λ (x : Head × Told). x.1.1) same) in
    let whole : ◌≡◌ {A = Marked} (record { head = m.head; blocks = m.blocks; after = m.after }) (record { head = n.head; blocks = n.blocks; after = n.after }) = rw (head, blocks, after) refl in
    whole

-- an outlook that is accepted ends with no fault
not_broken : (m : Marked) (fault : Fault) (told : Outlook) → told ≡ told_of m → EndsBy told fault → ⊥
not_broken m fault told e (inl h) = no_both _ fault (sym e ∙ h)
not_broken m fault told e (inr h) = no_other_end m.after fault (sym (ap (λ (x : Head × Told). x.1.1) (told_is h.0 _ (sym h.1 ∙ e))) ∙ h.2)

one_end : (told : Outlook) (f g : Fault) → EndsBy told f → EndsBy told g → f ≡ g
one_end told f g (inl h) (inl k) = err_is f g (sym h ∙ k)
one_end told f g (inl h) (inr k) = absurd (no_both k.0 f (sym k.1 ∙ h))
one_end told f g (inr h) (inl k) = absurd (no_both h.0 g (sym h.1 ∙ k))
one_end told f g (inr h) (inr k) = broke_is f g (sym h.2 ∙ ap (λ (x : Head × Told). x.1.1) (told_is h.0 k.0 (sym h.1 ∙ k.1)) ∙ k.2)

told_spelled : (limits : Limits) (bytes : List ℕ) (m : Marked) → outlook limits bytes ≡ told_of m → SpellsInput limits bytes m
told_spelled limits bytes m e =
    elim (tree_or_fault limits bytes) [
      | inl found ↦ subst (SpellsInput limits bytes) (told_only found.0 m (sym (outlook_spelled limits bytes found.0 found.1) ∙ e)) found.1
      | inr stopped ↦ absurd (not_broken m stopped.0 (outlook limits bytes) e (outlook_broken limits bytes stopped.0 stopped.1))
    ]

told_broken : (limits : Limits) (bytes : List ℕ) (fault : Fault) → EndsBy (outlook limits bytes) fault → BreaksInput limits bytes fault
told_broken limits bytes fault ends =
    elim (tree_or_fault limits bytes) [
      | inl found ↦ absurd (not_broken found.0 fault (outlook limits bytes) (outlook_spelled limits bytes found.0 found.1) ends)
      | inr stopped ↦ subst (BreaksInput limits bytes) (one_end (outlook limits bytes) stopped.0 fault (outlook_broken limits bytes stopped.0 stopped.1) ends) stopped.1
    ]

pub told_if_spelled : (limits : Limits) (bytes : List ℕ) (m : Marked) → (SpellsInput limits bytes m ↔ (outlook limits bytes ≡ Ok (m.head, (flat m.blocks [], accepted m.after))))
told_if_spelled limits bytes m = (outlook_spelled limits bytes m, told_spelled limits bytes m)

pub told_if_broken : (limits : Limits) (bytes : List ℕ) (fault : Fault) → (BreaksInput limits bytes fault ↔ EndsBy (outlook limits bytes) fault)
told_if_broken limits bytes fault = (outlook_broken limits bytes fault, told_broken limits bytes fault)
