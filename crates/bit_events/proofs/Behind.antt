-- A step ends at the bit after its event.
use Rattle.std.proofs.Common.{◌≡◌, ℕ, ◌+◌, Bool, List, [], ◌∷◌, length, length-append, refl, sym, ap, ◌∙◌, arith, inl, inr}
use Rattle.bit_grammar.specs.Marks.{RecordMark}
use Rattle.bit_grammar.specs.Blocks.{Limits, Handed, Scope, BlockHead, record_after}
use Rattle.bit_grammar.specs.Machine.{Event, Frame, Machine, frame_of, scope_of, open_block, open_nested, step_after, step_in, step_top, step_of, step}
use Rattle.bit_grammar.proofs.NormalForms.SpelledParts.{Spelled}
use Rattle.bit_grammar.proofs.Readings.Parts.{apart, from_here, after_judge, is_given, chosen, ends, image}
use Rattle.bit_grammar.proofs.Words.Heads.{head_is, end_is}
use Rattle.bit_grammar.proofs.Words.Contexts.{context_of, described_is}
use Rattle.bit_grammar.proofs.Words.Entries.{define_is}
use Rattle.bit_fields.specs.Reader.{SpellsTo}
use Rattle.bit_events.specs.Coming.{bit_behind}

abbrev event_bit : Event × Machine → ℕ
event_bit v = bit_behind v.0

block_behind : (limits : Limits) (frames : List Frame) (first : ℕ) (handed : Handed) (p : ℕ) (s : List Bool) (v : Event × Machine) → Spelled (open_block limits frames first handed) p s v → event_bit v ≡ p + length s
unfolding open_block
block_behind limits frames first handed p s v h =
    let i = image (after_judge h).then in
    ap event_bit i.is ∙ (head_is i.value p s i.one).body

record_behind : (limit first id : ℕ) (scope : Scope) (p : ℕ) (s : List Bool) (v : RecordMark × Scope) → Spelled (record_after limit first id scope) p s v → v.0.after ≡ p + length s
unfolding record_after
record_behind limit first id scope p s v h =
    let a = apart h in
    let b = apart (from_here a.two) in
    let g = is_given b.two in
    let none = ends a.others b.front b.others b.parts g.0 ∙ (described_is scope.info first a.value _ b.front b.value (context_of 0 scope) refl b.one).0 in
    ap (λ (x : RecordMark × Scope). x.0.after) g.1 ∙ ap (λ (t : List Bool). p + length t) (sym (ends s a.front a.others a.parts none))

after_behind : (limits : Limits) (h : BlockHead) (frames : List Frame) (first : ℕ) (scope : Scope) (id p : ℕ) (s : List Bool) (v : Event × Machine) → Spelled (step_after limits h frames first scope id) p s v → event_bit v ≡ p + length s
unfolding step_after open_nested
after_behind limits h frames first scope id p s v k =
    elim (chosen k) [
      | inl n ↦
          let i = image n.1 in
          ap event_bit i.is ∙ (end_is h p s i.value i.one).2
      | inr m ↦
          elim (chosen m.1) [
            | inl n ↦ block_behind limits (frame_of h scope ∷ frames) first scope.handed p s v (after_judge n.1).then
            | inr m ↦
                elim (chosen m.1) [
                  | inl n ↦
                      let i = image n.1 in
                      ap event_bit i.is ∙ (define_is limits.shapes first 0 scope p s i.value i.one).after
                  | inr n ↦
                      let i = image n.1 in
                      ap event_bit i.is ∙ record_behind limits.values first id scope p s i.value i.one
                ]
          ]
    ]

machine_behind : (limits : Limits) (frames : List Frame) (handed : Handed) (p : ℕ) (s : List Bool) (v : Event × Machine) → Spelled (step_of limits frames handed) p s v → event_bit v ≡ p + length s
unfolding step_in step_top
machine_behind limits [] handed p s v h =
    let a = apart (from_here h) in
    omega (arith, block_behind limits [] p handed _ a.others v (after_judge a.two).then, ap length a.parts, length-append a.front a.others)
machine_behind limits (f ∷ frames) handed p s v h =
    let a = apart (from_here h) in
    omega (arith, after_behind limits f.head frames p (scope_of f handed) a.value _ a.others v a.two, ap length a.parts, length-append a.front a.others)

pub step_behind : (limits : Limits) (m n : Machine) (p q : ℕ) (event : Event) → SpellsTo (step limits m) p (event, n) q → q ≡ bit_behind event
step_behind limits m n p q event h = h.2 ∙ sym (machine_behind limits m.frames m.handed p h.0 (event, n) (record { is = h.1 }))
