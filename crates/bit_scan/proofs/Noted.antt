-- The objects of records, blocks and definitions, written key by key.
use Rattle.std.proofs.Common.{◌≡◌, ℕ, List, ◌++◌, ap, sym, ◌∙◌, append_assoc}
use Rattle.std.specs.Prelude.{codes}
use Rattle.std.proofs.lemmas.List.{append-nil}
use Rattle.bit_scan.specs.Json.{Field, list_front, noted_fields, number_json, object_front, object_line, opened_fields, place_fields}

-- a text and a number after it
abbrev pub after : List ℕ → ℕ → List ℕ
after before number = before ++ number_json number

noted_parts : (around first code abbreviation count : ℕ) → object_front (codes "record") (noted_fields around first code abbreviation count) ≡ after (codes "{\"kind\":\"record\",\"bit\":") first ++ (after (codes ",\"depth\":") around ++ (after (codes ",\"code\":") code ++ (after (codes ",\"abbreviation\":") abbreviation ++ after (codes ",\"count\":") count)))
noted_parts around first code abbreviation count = ap (λ (l : List ℕ). after (codes "{\"kind\":\"record\",\"bit\":") first ++ (after (codes ",\"depth\":") around ++ (after (codes ",\"code\":") code ++ (after (codes ",\"abbreviation\":") abbreviation ++ (codes ",\"count\":" ++ l))))) (append-nil (number_json count))

opened_parts : (around id width first body : ℕ) → object_front (codes "block") (opened_fields around id width first body) ≡ after (codes "{\"kind\":\"block\",\"bit\":") first ++ (after (codes ",\"depth\":") around ++ (after (codes ",\"id\":") id ++ (after (codes ",\"width\":") width ++ after (codes ",\"body\":") body)))
opened_parts around id width first body = ap (λ (l : List ℕ). after (codes "{\"kind\":\"block\",\"bit\":") first ++ (after (codes ",\"depth\":") around ++ (after (codes ",\"id\":") id ++ (after (codes ",\"width\":") width ++ (codes ",\"body\":" ++ l))))) (append-nil (number_json body))

end_parts : (around bit : ℕ) → object_front (codes "end") (place_fields around bit) ≡ after (codes "{\"kind\":\"end\",\"bit\":") bit ++ after (codes ",\"depth\":") around
end_parts around bit = ap (λ (l : List ℕ). after (codes "{\"kind\":\"end\",\"bit\":") bit ++ (codes ",\"depth\":" ++ l)) (append-nil (number_json around))

define_parts : (around bit : ℕ) → object_front (codes "define") (place_fields around bit) ≡ after (codes "{\"kind\":\"define\",\"bit\":") bit ++ after (codes ",\"depth\":") around
define_parts around bit = ap (λ (l : List ℕ). after (codes "{\"kind\":\"define\",\"bit\":") bit ++ (codes ",\"depth\":" ++ l)) (append-nil (number_json around))

-- two texts and five, each after the one before
two_pushed : (a b whole old one new : List ℕ) → whole ≡ a ++ b → one ≡ old ++ a → new ≡ one ++ b → new ≡ old ++ whole
two_pushed a b whole old one new is first second = second ∙ ap (λ (l : List ℕ). l ++ b) first ∙ append_assoc old a b ∙ ap (λ (l : List ℕ). old ++ l) (sym is)

five_pushed : (a b c d e whole old one two three four new : List ℕ) → whole ≡ a ++ (b ++ (c ++ (d ++ e))) → one ≡ old ++ a → two ≡ one ++ b → three ≡ two ++ c → four ≡ three ++ d → new ≡ four ++ e → new ≡ old ++ whole
five_pushed a b c d e whole old one two three four new is first second third fourth fifth =
    fifth
    ∙ ap (λ (l : List ℕ). l ++ e) (fourth ∙ ap (λ (l : List ℕ). l ++ d) (third ∙ ap (λ (l : List ℕ). l ++ c) (second ∙ ap (λ (l : List ℕ). l ++ b) first)))
    ∙ joined old a b c d e
    ∙ ap (λ (l : List ℕ). old ++ l) (sym is)
  where
    joined : (o a b c d e : List ℕ) → ((((o ++ a) ++ b) ++ c) ++ d) ++ e ≡ o ++ (a ++ (b ++ (c ++ (d ++ e))))
    joined o a b c d e = simp append_assoc

-- an object up to its end, and its end
object_ended : (kind : List ℕ) (fields : List Field) (old front new : List ℕ) → front ≡ old ++ object_front kind fields → new ≡ front ++ codes "}\n" → new ≡ old ++ object_line kind fields
object_ended kind fields old front new first second = two_pushed (object_front kind fields) (codes "}\n") (object_line kind fields) old front new (append_assoc (object_front kind fields) (codes "}") (codes "\n")) first second

pub noted_pushed : (around first code abbreviation count : ℕ) (old one two three four new : List ℕ) → one ≡ old ++ after (codes "{\"kind\":\"record\",\"bit\":") first → two ≡ one ++ after (codes ",\"depth\":") around → three ≡ two ++ after (codes ",\"code\":") code → four ≡ three ++ after (codes ",\"abbreviation\":") abbreviation → new ≡ four ++ after (codes ",\"count\":") count → new ≡ old ++ object_front (codes "record") (noted_fields around first code abbreviation count)
noted_pushed around first code abbreviation count old one two three four new = five_pushed (after (codes "{\"kind\":\"record\",\"bit\":") first) (after (codes ",\"depth\":") around) (after (codes ",\"code\":") code) (after (codes ",\"abbreviation\":") abbreviation) (after (codes ",\"count\":") count) (object_front (codes "record") (noted_fields around first code abbreviation count)) old one two three four new (noted_parts around first code abbreviation count)

pub opened_pushed : (around id width first body : ℕ) (old one two three four five new : List ℕ) → one ≡ old ++ after (codes "{\"kind\":\"block\",\"bit\":") first → two ≡ one ++ after (codes ",\"depth\":") around → three ≡ two ++ after (codes ",\"id\":") id → four ≡ three ++ after (codes ",\"width\":") width → five ≡ four ++ after (codes ",\"body\":") body → new ≡ five ++ codes "}\n" → new ≡ old ++ object_line (codes "block") (opened_fields around id width first body)
opened_pushed around id width first body old one two three four five new p q r s t = object_ended (codes "block") (opened_fields around id width first body) old five new (five_pushed (after (codes "{\"kind\":\"block\",\"bit\":") first) (after (codes ",\"depth\":") around) (after (codes ",\"id\":") id) (after (codes ",\"width\":") width) (after (codes ",\"body\":") body) (object_front (codes "block") (opened_fields around id width first body)) old one two three four five (opened_parts around id width first body) p q r s t)

pub end_pushed : (around bit : ℕ) (old one two new : List ℕ) → one ≡ old ++ after (codes "{\"kind\":\"end\",\"bit\":") bit → two ≡ one ++ after (codes ",\"depth\":") around → new ≡ two ++ codes "}\n" → new ≡ old ++ object_line (codes "end") (place_fields around bit)
end_pushed around bit old one two new p q = object_ended (codes "end") (place_fields around bit) old two new (two_pushed (after (codes "{\"kind\":\"end\",\"bit\":") bit) (after (codes ",\"depth\":") around) (object_front (codes "end") (place_fields around bit)) old one two (end_parts around bit) p q)

pub define_pushed : (around bit : ℕ) (old one two new : List ℕ) → one ≡ old ++ after (codes "{\"kind\":\"define\",\"bit\":") bit → two ≡ one ++ after (codes ",\"depth\":") around → new ≡ two ++ codes ",\"operands\":[" → new ≡ old ++ list_front (codes "define") (place_fields around bit) (codes "operands")
define_pushed around bit old one two new p q r =
    let front = object_front (codes "define") (place_fields around bit) in
    r ∙ ap (λ (l : List ℕ). l ++ codes ",\"operands\":[") (two_pushed (after (codes "{\"kind\":\"define\",\"bit\":") bit) (after (codes ",\"depth\":") around) front old one two (define_parts around bit) p q) ∙ append_assoc old front (codes ",\"operands\":[")
