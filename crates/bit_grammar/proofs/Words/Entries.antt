-- Definitions and records as items, by the rules and in the words of the format.
use Rattle.std.proofs.Common.{◌≡◌, ℕ, ◌+◌, ◌-◌, ◌≤◌, Bool, eqb, List, [], length, get_or, refl, sym, ap, subst, ◌∙◌, arith, inl, inr}
use Rattle.std.proofs.lemmas.Bool.{ltb-true, lt-ltb, eqb-true, eqb-false, ne_eqb}
use Rattle.std.proofs.lemmas.Option.{slice_get-get_or, get_or_from_slice_get, slice_get_within}
use Rattle.bit_grammar.specs.declared.op.Op.{Op}
use Rattle.bit_grammar.specs.declared.shapes.Shapes.{Shapes}
use Rattle.bit_grammar.specs.FormatDefinition.{Definable, InOrder, Lawful, PassesShape, IsDefinition}
use Rattle.bit_grammar.specs.Terms.{CodeAndValues}
use Rattle.bit_grammar.specs.FormatRecord.{IsAbbreviated}
use Rattle.bit_grammar.specs.Marks.{RecordMark, DefinitionMark}
use Rattle.bit_grammar.specs.Blocks.{Scope, defined, define, by_definition, entry, record_after}
use Rattle.bit_grammar.specs.FormatBlocks.{Context, Defined, IsRecord, Described, entry_of_mark}
use Rattle.bit_grammar.proofs.NormalForms.SpelledParts.{Spelled, then_last, given, no_bits, here_spelled, judge_spelled, first_chosen, other_chosen}
use Rattle.bit_grammar.proofs.Readings.Parts.{apart, from_here, after_judge, is_given, chosen, ends}
use Rattle.bit_grammar.proofs.Words.Definitions.{is_in_order}
use Rattle.bit_grammar.proofs.Words.Operands.{shape_of}
use Rattle.bit_grammar.proofs.Words.Spellings.{definition_is, is_definition, unabbreviated_is, is_unabbreviated, abbreviated_is, is_abbreviated}
use Rattle.bit_grammar.proofs.Words.Contexts.{context_of, LawfulContext, one_lawful, defined_is, is_defined, described_is, is_described}

-- a definition after its id, which began at `first`
pub record DefineIs (first : ℕ) (c : Context) (p : ℕ) (s : List Bool) (mark : DefinitionMark) (new : Context) : Type 0 where
  pub spelled : IsDefinition mark.ops s
  pub defines : Defined c.info mark.ops c new
  pub begins : mark.first ≡ first
  pub after : mark.after ≡ p + length s

pub define_is : (shapes : Shapes) (first width : ℕ) (scope : Scope) (p : ℕ) (s : List Bool) (v : DefinitionMark × Scope) → Spelled (define shapes first scope) p s v → DefineIs first (context_of width scope) p s v.0 (context_of width v.1)
unfolding define
define_is shapes first width scope p s v h =
    let j = after_judge h in
    let a = apart j.then in
    let g = is_given (from_here a.two) in
    let all = ends s a.front a.others a.parts g.0 in
    subst (λ (x : DefinitionMark × Scope). DefineIs first (context_of width scope) p s x.0 (context_of width x.1)) (sym g.1)
    (record { spelled = subst (IsDefinition a.value) (sym all) (definition_is shapes p a.front a.value a.one.is); defines = defined_is scope.info a.value width scope j.held; begins = refl; after = omega (arith, ap length all) })

pub is_define : (shapes : Shapes) (first width : ℕ) (scope : Scope) (p : ℕ) (s : List Bool) (mark : DefinitionMark) (new : Context) → PassesShape shapes mark.ops → DefineIs first (context_of width scope) p s mark new → (new ≡ context_of width (defined scope.info mark.ops scope)) × Spelled (define shapes first scope) p s (mark, defined scope.info mark.ops scope)
unfolding define
is_define shapes first width scope p s mark new passes k =
    let d = is_defined scope.info mark.ops width scope new k.defines in
    let one : Spelled (define shapes first scope) p s (record mark { first = first; after = p + length s }, defined scope.info mark.ops scope) = judge_spelled _ _ _ d.0 (then_last _ (record { is = is_definition shapes p s mark.ops k.spelled passes }) (here_spelled _ given)) in
    let same : record mark { first = first; after = p + length s } ≡ mark = ap (λ (x : ℕ). record mark { first = x; after = p + length s }) (sym k.begins) ∙ ap (λ (x : ℕ). record mark { after = x }) (sym k.after) in
    (d.1, subst (λ (m : DefinitionMark). Spelled (define shapes first scope) p s (m, defined scope.info mark.ops scope)) same one)

-- ---- records

lawful_of : (ops : List Op) → Definable ops → InOrder ops → Lawful ops
lawful_of ops definable order = record { some = definable.some; order = order; values = definable.values }

by_definition_is : (first room : ℕ) (ops : List Op) (p : ℕ) (s : List Bool) (e : CodeAndValues) → Definable ops → Spelled (by_definition first room ops) p s e → InOrder ops × IsAbbreviated ops p e s
unfolding by_definition
by_definition_is first room ops p s e definable h =
    let j = after_judge h in
    let order = is_in_order ops j.held in
    (order, (abbreviated_is first room ops p s e (lawful_of ops definable order) j.then.is).0)

is_by_definition : (first room : ℕ) (ops : List Op) (p : ℕ) (s : List Bool) (e : CodeAndValues) → Definable ops → InOrder ops → IsAbbreviated ops p e s → length e.values ≤ room → Spelled (by_definition first room ops) p s e
unfolding by_definition
is_by_definition first room ops p s e definable order is fits = judge_spelled _ _ _ (shape_of ops order) (record { is = is_abbreviated first room ops p s e (lawful_of ops definable order) is fits })

pub entry_is : (limit first id width : ℕ) (scope : Scope) (p : ℕ) (s : List Bool) (e : CodeAndValues) → 3 ≤ id → LawfulContext (context_of width scope) → Spelled (entry (limit - scope.handed.used) first id scope.definitions) p s e → IsRecord (context_of width scope) id p e s
unfolding entry
entry_is limit first id width scope p s e big ok h =
    elim (chosen h) [
      | inl k ↦ inl (eqb-true _ _ k.0, (unabbreviated_is _ p s e k.1.is).0)
      | inr k ↦
          let four : 4 ≤ id = omega (arith, big, eqb-false _ _ k.0) in
          elim (chosen k.1) [
            | inl n ↦
                let ops : List Op = get_or scope.definitions (id - 4) [] in
                let is = slice_get-get_or scope.definitions (id - 4) [] (ltb-true _ _ n.0) in
                let d = by_definition_is first _ ops p s e (one_lawful scope.definitions (id - 4) ops ok.definitions is) n.1 in
                inr (four, ops, is, d.0, d.1)
            | inr n ↦ absurd n.1.is
          ]
    ]

pub is_entry : (limit first id width : ℕ) (scope : Scope) (p : ℕ) (s : List Bool) (e : CodeAndValues) → LawfulContext (context_of width scope) → scope.handed.used + length e.values ≤ limit → IsRecord (context_of width scope) id p e s → Spelled (entry (limit - scope.handed.used) first id scope.definitions) p s e
unfolding entry
is_entry limit first id width scope p s e ok fits (inl k) = first_chosen _ (ap (λ (n : ℕ). eqb n 3) k.0) (record { is = is_unabbreviated _ p s e k.1 (omega (arith, fits)) })
is_entry limit first id width scope p s e ok fits (inr k) =
    let lawful = one_lawful scope.definitions (id - 4) k.1 ok.definitions k.2 in
    let is : get_or scope.definitions (id - 4) [] ≡ k.1 = get_or_from_slice_get scope.definitions (id - 4) k.1 [] k.2 in
    let one : Spelled (by_definition first (limit - scope.handed.used) k.1) p s e = is_by_definition first (limit - scope.handed.used) k.1 p s e lawful k.3 k.4 (omega (arith, fits)) in
    other_chosen _ (ne_eqb _ _ (λ x. absurd (omega (arith, x, k.0)))) (first_chosen _ (lt-ltb _ _ (slice_get_within scope.definitions (id - 4) k.1 k.2)) (subst (λ (ops : List Op). Spelled (by_definition first (limit - scope.handed.used) ops) p s e) (sym is) one))

-- a record after its id, which began at `first`
pub record NoteIs (first id : ℕ) (c : Context) (p : ℕ) (s : List Bool) (mark : RecordMark) (new : Context) : Type 0 where
  pub spelled : IsRecord c id p (entry_of_mark mark) s
  pub describes : Described c.info (entry_of_mark mark) c new
  pub abbreviation : mark.abbreviation ≡ id
  pub begins : mark.first ≡ first
  pub after : mark.after ≡ p + length s

pub note_is : (limit first id width : ℕ) (scope : Scope) (p : ℕ) (s : List Bool) (v : RecordMark × Scope) → 3 ≤ id → LawfulContext (context_of width scope) → Spelled (record_after limit first id scope) p s v → NoteIs first id (context_of width scope) p s v.0 (context_of width v.1)
unfolding record_after
note_is limit first id width scope p s v big ok h =
    let a = apart h in
    let b = apart (from_here a.two) in
    let g = is_given b.two in
    let d = described_is scope.info first a.value _ b.front b.value (context_of width scope) refl b.one in
    let none = ends a.others b.front b.others b.parts g.0 ∙ d.0 in
    let all = ends s a.front a.others a.parts none in
    let e = entry_is limit first id width scope p a.front a.value big ok a.one in
    subst (λ (x : RecordMark × Scope). NoteIs first id (context_of width scope) p s x.0 (context_of width x.1)) (sym g.1)
    (record { spelled = subst (IsRecord (context_of width scope) id p a.value) (sym all) e; describes = d.1; abbreviation = refl; begins = refl; after = omega (arith, ap length all) })

-- the scope after a record with this many values, which leaves this context
abbrev pub noted : Scope → Context → ℕ → Scope
noted scope new n = record scope { info = new.info; handed = record { table = scope.handed.table; used = scope.handed.used + n } }

pub is_note : (limit first id width : ℕ) (scope : Scope) (p : ℕ) (s : List Bool) (mark : RecordMark) (new : Context) → LawfulContext (context_of width scope) → scope.handed.used + length mark.values ≤ limit → NoteIs first id (context_of width scope) p s mark new
    → (new ≡ context_of width (noted scope new (length mark.values))) × Spelled (record_after limit first id scope) p s (mark, noted scope new (length mark.values))
unfolding record_after
is_note limit first id width scope p s mark new ok fits k =
    let c = context_of width scope in
    let d = is_described scope.info first (entry_of_mark mark) (p + length s) c new refl k.describes in
    let t = noted scope new (length mark.values) in
    let one : Spelled (record_after limit first id scope) p s (record mark { abbreviation = id; first = first; after = p + length s }, t) = then_last _ (is_entry limit first id width scope p s (entry_of_mark mark) ok fits k.spelled) (here_spelled _ (no_bits _ d.1 given)) in
    let same : record mark { abbreviation = id; first = first; after = p + length s } ≡ mark =
    ap (λ (x : ℕ). record mark { abbreviation = x; first = first; after = p + length s }) (sym k.abbreviation) ∙ ap (λ (x : ℕ). record mark { first = x; after = p + length s }) (sym k.begins) ∙ ap (λ (x : ℕ). record mark { after = x }) (sym k.after) in
    (d.0, subst (λ (m : RecordMark). Spelled (record_after limit first id scope) p s (m, t)) same one)
