-- How a proof distinguishes marked trees.
use Rattle.std.specs.Prelude.{◌≡◌, ℕ, zero, suc, List, [], ◌∷◌, Option, refl}
use Rattle.std.specs.Coded.{Coded, code_by, coded_ℕ, coded_list, coded×, coded_option}
use Rattle.std.proofs.Common.{ap, ◌∙◌}
use Rattle.bit_grammar.specs.declared.op.Op.{Op}
use Rattle.bit_grammar.specs.declared.op.Op.TheVariants.{Literal, Fixed, Vbr, Array, Char6, Blob}
use Rattle.bit_grammar.specs.Marks.{Marks, no_marks, marked_block, marked_record, marked_definition}
use Rattle.bit_grammar.specs.Terms.{Wrapper, Head, Marked}

-- ---- operands

-- an operand as numbers
abbrev pub op_numbers : Op → List ℕ
op_numbers (Literal v) = 0 ∷ v ∷ []
op_numbers (Fixed n) = 1 ∷ n ∷ []
op_numbers (Vbr n) = 2 ∷ n ∷ []
op_numbers Array = 3 ∷ []
op_numbers Char6 = 4 ∷ []
op_numbers Blob = 5 ∷ []

-- the operand that numbers give
abbrev pub op_of : List ℕ → Op
op_of (zero ∷ v ∷ _) = Literal v
op_of (suc zero ∷ n ∷ _) = Fixed n
op_of (suc (suc zero) ∷ n ∷ _) = Vbr n
op_of (suc (suc (suc zero)) ∷ _) = Array
op_of (suc (suc (suc (suc zero))) ∷ _) = Char6
op_of _ = Blob

pub op_of-op_numbers : (o : Op) → op_of (op_numbers o) ≡ o
op_of-op_numbers (Literal v) = refl
op_of-op_numbers (Fixed n) = refl
op_of-op_numbers (Vbr n) = refl
op_of-op_numbers Array = refl
op_of-op_numbers Char6 = refl
op_of-op_numbers Blob = refl

-- an operand is stored as a list of numbers
abbrev pub op_code : Coded Op
op_code = code_by (List ℕ) (coded_list coded_ℕ) op_numbers op_of op_of-op_numbers

-- ---- marks

-- a word of marks: its numbers, and the operands of a definition
abbrev pub Word : Type 0
Word = List ℕ × List Op

-- the words of marks in order, before the words of what follows
abbrev pub marks_words : Marks → List Word → List Word
marks_words no_marks after = ([], []) ∷ after
marks_words (marked_block m inner rest) after = (
  0 ∷ m.id ∷ m.width ∷ m.first ∷ m.body ∷ m.after
      ∷ [],
  [],
) ∷ marks_words inner (marks_words rest after)
marks_words (marked_record m rest) after = (
  1 ∷ m.abbreviation ∷ m.code ∷ m.first ∷ m.after
      ∷ m.values,
  [],
) ∷ marks_words rest after
marks_words (marked_definition m rest) after = (2 ∷ m.first ∷ m.after ∷ [], m.ops)
    ∷ marks_words rest after

-- one word before the marks that the words after it give
abbrev pub join_numbers : List ℕ → List Op → List Marks → List Marks
join_numbers (zero ∷ id ∷ width ∷ first ∷ body ∷ after ∷ _) ops (inner ∷ rest ∷ marks) =
    marked_block (record { id = id; width = width; first = first; body = body; after = after })
    inner rest ∷ marks
join_numbers (suc zero ∷ abbreviation ∷ code ∷ first ∷ after ∷ values) ops (rest ∷ marks) =
    marked_record (record {
      abbreviation = abbreviation;
      code = code;
      values = values;
      first = first;
      after = after;
    }) rest ∷ marks
join_numbers (suc (suc _) ∷ first ∷ after ∷ _) ops (rest ∷ marks) = marked_definition
    (record { ops = ops; first = first; after = after }) rest ∷ marks
join_numbers _ ops marks = no_marks ∷ marks

abbrev pub join_word : Word → List Marks → List Marks
join_word w = join_numbers w.0 w.1

-- the marks that words give
abbrev pub marks_of_words : List Word → List Marks
marks_of_words [] = []
marks_of_words (w ∷ ws) = join_word w (marks_of_words ws)

-- the first of them
abbrev pub first_marks : List Marks → Marks
first_marks [] = no_marks
first_marks (m ∷ _) = m

pub marks_of_words-marks_words : (m : Marks) (after : List Word)
    → marks_of_words (marks_words m after) ≡ m ∷ marks_of_words after
marks_of_words-marks_words no_marks after = refl
marks_of_words-marks_words (marked_block m inner rest) after =
    ap (join_word (0 ∷ m.id ∷ m.width ∷ m.first ∷ m.body ∷ m.after ∷ [], []))
    (marks_of_words-marks_words inner (marks_words rest after) ∙ ap
    (λ (ms : List Marks). inner ∷ ms) (marks_of_words-marks_words rest after))
marks_of_words-marks_words (marked_record m rest) after =
    ap (join_word (1 ∷ m.abbreviation ∷ m.code ∷ m.first ∷ m.after ∷ m.values, []))
    (marks_of_words-marks_words rest after)
marks_of_words-marks_words (marked_definition m rest) after = ap
    (join_word (2 ∷ m.first ∷ m.after ∷ [], m.ops)) (marks_of_words-marks_words rest after)

-- marks are stored as the list of their words
abbrev pub marks_code : Coded Marks
marks_code =
    code_by (List Word) (coded_list (coded× (coded_list coded_ℕ) (coded_list op_code)))
    (λ m. marks_words m []) (λ ws. first_marks (marks_of_words ws))
    (λ m. ap first_marks (marks_of_words-marks_words m []))

-- ---- marked trees

-- a wrapper as numbers
abbrev pub wrapper_code : Coded Wrapper
wrapper_code = code_by (ℕ × (ℕ × ℕ)) (coded× coded_ℕ (coded× coded_ℕ coded_ℕ))
    (λ w. (w.offset, (w.size, w.cpu))) (λ p. record { offset = p.0; size = p.1.0; cpu = p.1.1 })
    (λ _. refl)

-- a head is stored as the pair of its parts
abbrev pub head_code : Coded Head
head_code = code_by (ℕ × Option Wrapper) (coded× coded_ℕ (coded_option wrapper_code))
    (λ h. (h.magic, h.wrapper)) (λ p. record { magic = p.0; wrapper = p.1 }) (λ _. refl)

-- a marked tree is stored as its parts
abbrev pub marked_code : Coded Marked
marked_code =
    code_by (Head × (Marks × ℕ)) (coded× head_code (coded× marks_code coded_ℕ))
    (λ m. (m.head, (m.blocks, m.after))) (λ p.
    record { head = p.0; blocks = p.1.0; after = p.1.1 }) (λ _. refl)
