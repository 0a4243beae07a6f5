-- The lines of the events of a tree are those of the tree.
use Rattle.std.proofs.Common.{◌≡◌, ℕ, suc, ◌-◌, List, [], ◌∷◌, ◌++◌, refl, sym, ap, ◌∙◌, append_assoc, arith}
use Rattle.std.proofs.lemmas.List.{append-nil}
use Rattle.bit_grammar.specs.Setting.{Setting}
use Rattle.bit_grammar.specs.Under.{items_under, events_under}
use Rattle.bit_grammar.proofs.NormalForms.Under.{marks_left}
use Rattle.bit_grammar.specs.Marks.{Marks, no_marks, marked_block, marked_record, marked_definition, forest_of}
use Rattle.bit_grammar.specs.Machine.{Event, leaves, flat}
use Rattle.bit_grammar.specs.Texts.{block_line, record_line, lines_of, events_text}

lines_then : (around : ℕ) (marks : Marks) (following : List Event) → events_text around (flat marks following) ≡ lines_of around (forest_of marks) ++ events_text around following
lines_then around no_marks following = refl
lines_then around (marked_definition mark rest) following = lines_then around rest following
lines_then around (marked_record mark rest) following =
    ap (λ (text : List ℕ). record_line around mark.code mark.values ++ text) (lines_then around rest following) ∙ sym (append_assoc (record_line around mark.code mark.values) (lines_of around (forest_of rest)) (events_text around following))
lines_then around (marked_block mark inner rest) following =
    let within = lines_of (suc around) (forest_of inner) in
    let others = lines_of around (forest_of rest) in
    let place : suc around - 1 ≡ around = omega arith in
    let after = ap (λ (n : ℕ). events_text n (flat rest following)) place ∙ lines_then around rest following in
    let both = lines_then (suc around) inner (leaves mark.after ∷ flat rest following) ∙ ap (λ (text : List ℕ). within ++ text) after ∙ sym (append_assoc within others (events_text around following)) in
    ap (λ (text : List ℕ). block_line around mark.id ++ text) both ∙ sym (append_assoc (block_line around mark.id) (within ++ others) (events_text around following))

pub lines_by_events : (s : Setting) (marks : Marks) → events_text 0 (events_under s [] (flat marks [])) ≡ lines_of 0 (items_under s 0 (forest_of marks))
lines_by_events s marks =
    let n = marks_left s marks in
    ap (events_text 0) n.1 ∙ lines_then 0 n.0 [] ∙ append-nil (lines_of 0 (forest_of n.0)) ∙ ap (lines_of 0) n.2
