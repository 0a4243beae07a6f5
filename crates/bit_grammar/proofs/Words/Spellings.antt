-- Definitions and records are spelled as the words of the format say, both ways.
use Rattle.std.proofs.Common.{ℕ, ◌+◌, ◌-◌, ◌^◌, ◌<◌, ◌≤◌, Bool, true, false, ltb, leb, List, [], ◌∷◌, ◌++◌, length, refl, sym, ap, subst, ◌∙◌, arith}
use Rattle.std.specs.Prelude.{◌↔◌}
use Rattle.std.specs.List.{AllByRecursion}
use Rattle.std.proofs.lemmas.Bool.{lt-ltb}
use Rattle.bit_grammar.specs.declared.op.Op.{Op}
use Rattle.bit_grammar.specs.declared.op.Op.TheVariants.{Literal, Fixed, Vbr, Array, Char6, Blob}
use Rattle.bit_grammar.specs.declared.op.Place.{Place}
use Rattle.bit_grammar.specs.declared.op.Place.TheVariants.{First as first_place}
use Rattle.bit_grammar.specs.declared.shapes.Shapes.{Shapes}
use Rattle.bit_grammar.specs.declared.shapes.Shapes.TheVariants.{AtDefinition}
use Rattle.bit_grammar.specs.declared.reason.Reason.TheVariants.{AbbrevEmpty, TooManyValues}
use Rattle.bit_grammar.specs.Bits.{bits_of}
use Rattle.bit_grammar.specs.Grammar.{gives, ◌>>=◌, ◌>>◌, judge, repeat, Spells}
use Rattle.bit_grammar.specs.Fields.{vbr}
use Rattle.bit_grammar.specs.FormatFields.{IsVbr, IsFixed, shortest}
use Rattle.bit_grammar.specs.Definition.{operands, definition}
use Rattle.bit_grammar.specs.FormatDefinition.{HasLawfulValue, Definable, Lawful, PassesShape, IsEncoding, IsNothing, IsOperand, AreOperands, IsDefinition}
use Rattle.bit_grammar.specs.Record.{unabbreviated, scalar, singles, values_of, abbreviated}
use Rattle.bit_grammar.specs.Terms.{CodeAndValues}
use Rattle.bit_grammar.specs.FormatRecord.{IsUnabbreviated, IsAbbreviated}
use Rattle.bit_grammar.proofs.Readings.Deciding.{position-first, first-position, judged, judge-spells}
use Rattle.bit_grammar.proofs.Readings.Wholes.{is_le}
use Rattle.bit_grammar.proofs.WholeInputs.Rooms.{unabbreviated_bounded, abbreviated_within}
use Rattle.bit_grammar.proofs.Words.Fields.{vbr_is, is_vbr, short_is_vbr}
use Rattle.bit_grammar.proofs.Readings.Sequences.{made, made-spells}
use Rattle.bit_grammar.proofs.Words.Definitions.{PassFrom, operands_are, definition_defines}
use Rattle.bit_grammar.proofs.Words.Operands.{pass_from, lawful_from, operands_in_words, are_operands}
use Rattle.bit_grammar.proofs.Words.Records.{first_single, later_after, scalar_is, is_scalar, fields_are, are_fields, count_is, is_count, values_are, are_values, values_some}

-- ---- definitions

pub definition_is : (shapes : Shapes) (p : ℕ) (s : List Bool) (ops : List Op) → Spells (definition shapes) p s ops → IsDefinition ops s
unfolding definition
definition_is shapes p s ops h =
    let c = position-first (λ start. vbr 5 >>= λ count. judge (ltb 0 count) AbbrevEmpty start >> operands shapes count first_place) p s ops h in
    let j = judged (ltb 0 c.2) (record { reason = AbbrevEmpty; bit = p }) (operands shapes c.2 first_place) (p + length c.0) c.1 ops c.5 in
    let are = operands_are shapes c.2 first_place (p + length c.0) c.1 ops j.1 in
    record {
      definable = (definition_defines shapes p s ops h).0;
      count = c.0;
      operands = c.1;
      parts = c.3;
      counted = subst (λ (n : ℕ). IsVbr 5 n c.0) (sym are.0) (vbr_is 5 p c.0 c.2 (omega arith) c.4);
      spelled = operands_in_words shapes c.2 first_place (p + length c.0) c.1 ops j.1;
    }

pub is_definition : (shapes : Shapes) (p : ℕ) (s : List Bool) (ops : List Op) → IsDefinition ops s → PassesShape shapes ops → Spells (definition shapes) p s ops
unfolding definition
is_definition shapes p s ops h passes =
    let all = are_operands shapes first_place ops (p + length h.count) h.operands (pass_from shapes ops passes h.definable.values) h.spelled in
    first-position (λ start. vbr 5 >>= λ count. judge (ltb 0 count) AbbrevEmpty start >> operands shapes count first_place) p s ops (
      h.count,
      h.operands,
      length ops,
      h.parts,
      is_vbr 5 p h.count (length ops) (omega arith) h.counted,
      judge-spells (ltb 0 (length ops)) (record { reason = AbbrevEmpty; bit = p }) (operands shapes (length ops) first_place) (p + length h.count) h.operands ops (lt-ltb _ _ h.definable.some) all,
    )

-- the rule for a definition, in the words of the format
pub definition_agrees : (shapes : Shapes) (p : ℕ) (s : List Bool) (ops : List Op) → (Spells (definition shapes) p s ops ↔ (IsDefinition ops s × PassesShape shapes ops))
definition_agrees shapes p s ops = (λ h. (definition_is shapes p s ops h, (definition_defines shapes p s ops h).1), λ h. is_definition shapes p s ops h.0 h.1)

-- an encoding with this number and this value
encoded : (number : ℕ) (code value : List Bool) (Value : List Bool → Type 0) → IsFixed 3 number code → Value value → (s : List Bool) × IsEncoding number Value s
encoded number code value Value is h = (false ∷ (code ++ value), (code, value, refl, is, h))

operand_spelled : (op : Op) → HasLawfulValue op → (s : List Bool) × IsOperand op s
operand_spelled (Literal v) lawful = (true ∷ shortest 8 v, (shortest 8 v, refl, short_is_vbr 8 v (omega arith) lawful))
operand_spelled (Fixed width) lawful = encoded 1 (bits_of 3 1) (shortest 5 width) (IsVbr 5 width) (record { length = refl; value = refl }) (short_is_vbr 5 width (omega arith) (omega (arith, lawful)))
operand_spelled (Vbr width) lawful = encoded 2 (bits_of 3 2) (shortest 5 width) (IsVbr 5 width) (record { length = refl; value = refl }) (short_is_vbr 5 width (omega arith) (omega (arith, lawful.0)))
operand_spelled Array lawful = encoded 3 (bits_of 3 3) [] IsNothing (record { length = refl; value = refl }) refl
operand_spelled Char6 lawful = encoded 4 (bits_of 3 4) [] IsNothing (record { length = refl; value = refl }) refl
operand_spelled Blob lawful = encoded 5 (bits_of 3 5) [] IsNothing (record { length = refl; value = refl }) refl

operands_spelled : (ops : List Op) → AllByRecursion HasLawfulValue ops → (s : List Bool) × AreOperands ops s
operands_spelled [] lawful = ([], refl)
operands_spelled (op ∷ others) lawful =
    let one = operand_spelled op lawful.0 in
    let rest = operands_spelled others lawful.1 in
    (one.0 ++ rest.0, (one.0, rest.0, refl, one.1, rest.1))

pub definable_spelled : (ops : List Op) → Definable ops → length ops < 2 ^ 64 → (s : List Bool) × IsDefinition ops s
definable_spelled ops definable few =
    let all = operands_spelled ops definable.values in (
      shortest 5 (length ops) ++ all.0,
      record { definable = definable; count = shortest 5 (length ops); operands = all.0; parts = refl; counted = short_is_vbr 5 (length ops) (omega arith) few; spelled = all.1 },
    )

-- ---- records

pub unabbreviated_is : (room p : ℕ) (s : List Bool) (e : CodeAndValues) → Spells (unabbreviated room) p s e → IsUnabbreviated e s × (length e.values ≤ room)
unfolding unabbreviated scalar
unabbreviated_is room p s e h =
    let c = h.5 in
    let q : ℕ = p + length h.0 + length c.0 in
    let m = made (repeat c.2 (vbr 6)) (λ vs. record { code = h.2; values = vs }) q c.1 e c.5 in
    let f = fields_are (Vbr 6) (vbr 6) (λ p s v k. vbr_is 6 p s v (omega arith) k) c.2 q c.1 m.0 m.1 in
    let is : IsUnabbreviated (record { code = h.2; values = m.0 }) s = record {
      code = h.0;
      count = c.0;
      values = c.1;
      parts = h.3 ∙ ap (λ (t : List Bool). h.0 ++ t) c.3;
      coded = vbr_is 6 p h.0 h.2 (omega arith) h.4;
      counted = subst (λ (n : ℕ). IsVbr 6 n c.0) (sym f.1) (count_is room (p + length h.0) c.0 c.2 c.4);
      are_values = f.0;
    } in
    (subst (λ (x : CodeAndValues). IsUnabbreviated x s) (sym m.2) is, unabbreviated_bounded.within room p s e h)

pub is_unabbreviated : (room p : ℕ) (s : List Bool) (e : CodeAndValues) → IsUnabbreviated e s → length e.values ≤ room → Spells (unabbreviated room) p s e
unfolding unabbreviated
is_unabbreviated room p s e h fits =
    let q : ℕ = p + length h.code in
    let all = are_fields (Vbr 6) (vbr 6) (λ p s v k. is_vbr 6 p s v (omega arith) k) (q + length h.count) h.values e.values h.are_values in (
      h.code,
      h.count ++ h.values,
      e.code,
      h.parts,
      is_vbr 6 p h.code e.code (omega arith) h.coded,
      (h.count, h.values, length e.values, refl, is_count room q h.count (length e.values) h.counted fits, made-spells (repeat (length e.values) (vbr 6)) (λ vs. record { code = e.code; values = vs }) (q + length h.count) h.values e.values all),
    )

pub abbreviated_is : (start room : ℕ) (ops : List Op) (p : ℕ) (s : List Bool) (e : CodeAndValues) → Lawful ops → Spells (abbreviated start room ops) p s e → IsAbbreviated ops p e s × (length e.values ≤ room)
unfolding abbreviated
abbreviated_is start room [] p s e lawful h = absurd (omega (arith, lawful.some))
abbreviated_is start room (op ∷ others) p s e lawful h =
    let l = lawful_from (op ∷ others) lawful in
    let single = first_single (length others) op l.0 in
    let after = subst (λ (x : Place). PassFrom AtDefinition x others) (later_after op single) l.2 in
    let j = judged (leb (singles others) room) (record { reason = TooManyValues; bit = start }) (scalar op >>= λ code. values_of (room - singles others) others >>= λ values. gives (record { code = code; values = values })) p s e h in
    let c = j.1 in
    let m = made (values_of (room - singles others) others) (λ vs. record { code = c.2; values = vs }) (p + length c.0) c.1 e c.5 in
    let is : IsAbbreviated (op ∷ others) p (record { code = c.2; values = m.0 }) s = (c.0, c.1, c.3, scalar_is op single l.1 p c.0 c.2 c.4, values_are (room - singles others) others (p + length c.0) c.1 m.0 after m.1) in
    (subst (λ (x : CodeAndValues). IsAbbreviated (op ∷ others) p x s) (sym m.2) is, abbreviated_within start (op ∷ others) room p s e h)

pub is_abbreviated : (start room : ℕ) (ops : List Op) (p : ℕ) (s : List Bool) (e : CodeAndValues) → Lawful ops → IsAbbreviated ops p e s → length e.values ≤ room → Spells (abbreviated start room ops) p s e
unfolding abbreviated
is_abbreviated start room [] p s e lawful h fits = absurd h
is_abbreviated start room (op ∷ others) p s e lawful h fits =
    let l = lawful_from (op ∷ others) lawful in
    let single = first_single (length others) op l.0 in
    let after = subst (λ (x : Place). PassFrom AtDefinition x others) (later_after op single) l.2 in
    let some : singles others ≤ length e.values = values_some others (p + length h.0) h.1 e.values h.4 in
    let all = are_values (room - singles others) others (p + length h.0) h.1 e.values after h.4 (omega (arith, some, fits)) in
    judge-spells (leb (singles others) room) (record { reason = TooManyValues; bit = start }) (scalar op >>= λ code. values_of (room - singles others) others >>= λ values. gives (record { code = code; values = values })) p s e (is_le (singles others) room (omega (arith, some, fits)))
    (h.0, h.1, e.code, h.2, is_scalar op l.1 p h.0 e.code h.3, made-spells (values_of (room - singles others) others) (λ vs. record { code = e.code; values = vs }) (p + length h.0) h.1 e.values all)
