-- The lines of JSON are objects.
use Rattle.std.proofs.Common.{◌≡◌, ℕ, zero, suc, ◌+◌, ◌-◌, ◌/◌, ◌%◌, ◌^◌, ◌<◌, ◌≤◌, Bool, true, false, ◌&&◌, not, List, [], ◌∷◌, ◌++◌, length, map, Ok, Err, refl, sym, ap, ◌∙◌, append_assoc, arith, inl, inr}
use Rattle.std.specs.Prelude.{codes, decimal, flat_map, nat_lt, ◌==◌, if◌then◌else◌}
use Rattle.std.specs.Char.{is_ascii_alphanumeric}
use Rattle.std.specs.Fmt.{digit_glyph, digits, digits_onto}
use Rattle.std.specs.List.{AllByRecursion, IsDistinct, join_by, list_all}
use Rattle.std.specs.Str.{bytes_eq}
use Rattle.std.proofs.lemmas.Bool.{le-leb, ltb-true, ltb-false, not-true}
use Rattle.std.proofs.Math.Bool.{or-true}
use Rattle.std.proofs.lemmas.Grind.{flat_map-append}
use Rattle.std.proofs.lemmas.List.{append-nil}
use Rattle.std.proofs.lemmas.List.Folds.{flat_map-map}
use Rattle.bit_grammar.specs.declared.op.Op.{Op}
use Rattle.bit_grammar.specs.declared.op.Op.TheVariants.{Literal, Fixed, Vbr, Array, Char6, Blob}
use Rattle.bit_grammar.specs.declared.reason.Reason.{Reason}
use Rattle.bit_grammar.specs.declared.reason.Reason.TheVariants.{Truncated, ValueTooWide, TopLevel, TooDeep, BlockId, AbbrevWidth, DirtyPadding, BlockLength, UndefinedAbbrev, AbbrevEmpty, AbbrevEncoding, FieldWidth, AbbrevShape, NoBlockSet, BadSetBid, NestedInBlockInfo, TooManyValues, TooLong, WrapperVersion, WrapperOffset, WrapperSize, WrapperNested}
use Rattle.bit_grammar.specs.declared.value_display.ValueDisplay.{ValueDisplay}
use Rattle.bit_grammar.specs.declared.value_display.ValueDisplay.TheVariants.{Shown, LeftOut}
use Rattle.bit_grammar.specs.Reasons.{name_of}
use Rattle.bit_grammar.specs.Machine.{Event, enters, defines, notes, leaves, Ending, accepted, broke}
use Rattle.bit_grammar.specs.Outlook.{Outlook}
use Rattle.bit_grammar.specs.Steps.{open_after}
use Rattle.bit_grammar.specs.Tally.{BlockTally, CodeTally, Tally, stream_begin}
use Rattle.bit_grammar.specs.Texts.{hex_text, magic_bytes}
use Rattle.bit_scan.specs.Json.{Field, number_json, field_json, object_front, object, object_line, list_line, text_line, joined, joined_from, op_json, noted_fields, event_json, events_json, ending_json, refusal_json, head_json, outlook_json, code_json, row_line_json, row_json, stream_json, report_json}
use Rattle.bit_scan.specs.EventLines.{OpFits, EventFits, EndFits, EventsFit, OutlookFits, CodeRowFits, BlockRowFits, ReportFits}
use Rattle.bit_scan.specs.ObjectLines.{IsPlain, IsWord, quoted, IsString, IsSimple, IsList, Member, member_text, names_of, IsObject, IsLineValue, IsObjectLine, AreObjectLines}

-- ---- characters

digit_plain : (d : ℕ) → d < 10 → is_ascii_alphanumeric (48 + d) ≡ true
digit_plain d h = rw (le-leb 48 (48 + d) (omega arith), le-leb (48 + d) 57 (omega (arith, h))) refl

pub glyph_plain : (d : ℕ) → d < 16 → is_ascii_alphanumeric (digit_glyph false d) ≡ true
glyph_plain d h = cases (nat_lt d 10) refl
  where
    cases : (b : Bool) → nat_lt d 10 ≡ b → is_ascii_alphanumeric (digit_glyph false d) ≡ true
    cases true is = rw is (digit_plain d (ltb-true d 10 is))
    cases false is = rw is (letter (ltb-false d 10 is))
      where
        letter : 10 ≤ d → is_ascii_alphanumeric (87 + d) ≡ true
        letter low = rw (le-leb 97 (87 + d) (omega (arith, low)), le-leb (87 + d) 122 (omega (arith, h))) (or-true _)

more_plain : (k n : ℕ) (rest : List ℕ) → IsPlain (digit_glyph false (n % 10) ∷ rest) → IsPlain (digits_onto k 10 false (n / 10) (digit_glyph false (n % 10) ∷ rest)) → (b : Bool) → IsPlain (if b then digit_glyph false (n % 10) ∷ rest else digits_onto k 10 false (n / 10) (digit_glyph false (n % 10) ∷ rest))
more_plain k n rest last others true = last
more_plain k n rest last others false = others

digits_plain : (k n : ℕ) (rest : List ℕ) → IsPlain rest → IsPlain (digits_onto k 10 false n rest)
digits_plain zero n rest p = p
digits_plain (suc k) n rest p =
    let more : IsPlain (digit_glyph false (n % 10) ∷ rest) = rw (glyph_plain (n % 10) (omega arith), p) refl in
    more_plain k n rest more (digits_plain k (n / 10) (digit_glyph false (n % 10) ∷ rest) more) (n / 10 == 0)

pub decimal_plain : (n : ℕ) → IsPlain (decimal n)
unfolding digits
decimal_plain n = digits_plain 64 n [] refl

pub number_simple : (bound n : ℕ) → n < bound → IsSimple bound (number_json n)
number_simple bound n fits = cases (nat_lt n (2 ^ 53)) refl
  where
    cases : (b : Bool) → nat_lt n (2 ^ 53) ≡ b → IsSimple bound (if b then decimal n else (codes "\"" ++ decimal n ++ codes "\""))
    cases true is = inr (n, fits, inl (ltb-true n (2 ^ 53) is, refl))
    cases false is = inr (n, fits, inr (ltb-false n (2 ^ 53) is, refl))

-- the numbers of fields are below the bound
abbrev pub FieldsFit : (bound : ℕ) → List Field → Type 0
FieldsFit bound fields = AllByRecursion (λ (field : Field). field.1 < bound) fields

-- ---- names

abbrev is_new : List ℕ → List (List ℕ) → Bool
is_new name [] = true
is_new name (other ∷ others) = not (bytes_eq name other) && is_new name others

abbrev are_distinct : List (List ℕ) → Bool
are_distinct [] = true
are_distinct (name ∷ names) = is_new name names && are_distinct names

-- what the names of an object are, as a test
abbrev pub are_names : List (List ℕ) → Bool
are_names names = list_all (list_all is_ascii_alphanumeric) names && are_distinct names

pub both : (a b : Bool) → (a && b) ≡ true → (a ≡ true) × (b ≡ true)
both true b e = (refl, e)
both false b e = absurd (let no : false ≡ true = e in cc)

new_among : (name : List ℕ) (others : List (List ℕ)) → is_new name others ≡ true → AllByRecursion (λ other. bytes_eq name other ≡ false) others
new_among name [] e = tt
new_among name (other ∷ others) e = (let e2 = both (not (bytes_eq name other)) (is_new name others) e in (not-true (bytes_eq name other) e2.0, new_among name others e2.1))

names_distinct : (names : List (List ℕ)) → are_distinct names ≡ true → IsDistinct bytes_eq names
unfolding IsDistinct
names_distinct [] e = tt
names_distinct (name ∷ names) e = (let e2 = both (is_new name names) (are_distinct names) e in (new_among name names e2.0, names_distinct names e2.1))

names_plain : (names : List (List ℕ)) → list_all (list_all is_ascii_alphanumeric) names ≡ true → AllByRecursion IsPlain names
names_plain [] e = tt
names_plain (name ∷ names) e = (let e2 = both (list_all is_ascii_alphanumeric name) (list_all (list_all is_ascii_alphanumeric) names) e in (e2.0, names_plain names e2.1))

-- ---- members

-- a key and its number
abbrev pub field_member : Field → Member
field_member field = (field.0, number_json field.1)

abbrev pub front_members : (kind : List ℕ) → List Field → List Member
front_members kind fields = (codes "kind", quoted kind) ∷ map field_member fields

-- a member after another one
abbrev pub later : Member → List ℕ
later member = codes "," ++ member_text member

key_text : (key value : List ℕ) → (codes ",\"" ++ key ++ codes "\":") ++ value ≡ later (key, value)
key_text key value = ap (λ (l : List ℕ). 44 ∷ 34 ∷ l) (append_assoc key (codes "\":") value ∙ sym (append_assoc key (codes "\"") (58 ∷ value)))

pub fields_text : (fields : List Field) → flat_map field_json fields ≡ flat_map later (map field_member fields)
fields_text [] = refl
fields_text (field ∷ fields) = ap (λ (l : List ℕ). l ++ flat_map field_json fields) (key_text field.0 (number_json field.1)) ∙ ap (λ (l : List ℕ). later (field_member field) ++ l) (fields_text fields)

regroup : (a b c d : List ℕ) → (a ++ b) ++ (c ++ d) ≡ (a ++ (b ++ c)) ++ d
regroup a b c d = simp append_assoc

front_text : (kind : List ℕ) (fields : List Field) (more : List Member) → object_front kind fields ++ (flat_map later more ++ codes "}") ≡ codes "{" ++ (join_by member_text (codes ",") (front_members kind fields ++ more) ++ codes "}")
front_text kind fields more =
    let front = codes "{\"kind\":\"" ++ kind ++ codes "\"" in
    let first = flat_map later (map field_member fields) in
    let last = flat_map later more in
    ap (λ (l : List ℕ). (front ++ l) ++ (last ++ codes "}")) (fields_text fields)
    ∙ regroup front first last (codes "}")
    ∙ ap (λ (l : List ℕ). (front ++ l) ++ codes "}") (sym (flat_map-append later (map field_member fields) more))

module _ (bound : ℕ) (IsValue : List ℕ → Type 0) (simple : (text : List ℕ) → IsSimple bound text → IsValue text) where
  fields_valued : (fields : List Field) (more : List Member) → FieldsFit bound fields → AllByRecursion (λ (member : Member). IsValue member.1) more → AllByRecursion (λ (member : Member). IsValue member.1) (map field_member fields ++ more)
  fields_valued [] more fits all = all
  fields_valued (field ∷ fields) more fits all = (simple (number_json field.1) (number_simple bound field.1 fits.0), fields_valued fields more fits.1 all)

  pub object_made : (kind : List ℕ) (fields : List Field) (more : List Member) → IsWord kind → FieldsFit bound fields → are_names (names_of (front_members kind fields ++ more)) ≡ true → AllByRecursion (λ (member : Member). IsValue member.1) more → IsObject IsValue (object_front kind fields ++ (flat_map later more ++ codes "}"))
  object_made kind fields more word fits names all =
      let members = front_members kind fields ++ more in
      let parts = both (list_all (list_all is_ascii_alphanumeric) (names_of members)) (are_distinct (names_of members)) names in
      record {
        members = members;
        plain = names_plain (names_of members) parts.0;
        distinct = names_distinct (names_of members) parts.1;
        values = (simple (quoted kind) (inl (kind, inl word, refl)), fields_valued fields more fits all);
        spelled = front_text kind fields more;
      }

-- ---- lines

module _ (bound : ℕ) where
  simple_value : (text : List ℕ) → IsSimple bound text → IsLineValue bound text
  simple_value text s = inl s

  pub object_is : (kind : List ℕ) (fields : List Field) → IsWord kind → FieldsFit bound fields → are_names (names_of (front_members kind fields ++ [])) ≡ true → IsObject (IsSimple bound) (object kind fields)
  object_is kind fields word fits names = object_made bound (IsSimple bound) (λ text s. s) kind fields [] word fits names tt

  pub object_line_is : (kind : List ℕ) (fields : List Field) → IsWord kind → FieldsFit bound fields → are_names (names_of (front_members kind fields ++ [])) ≡ true → IsObjectLine bound (object_line kind fields)
  object_line_is kind fields word fits names = (object kind fields, object_made bound (IsLineValue bound) simple_value kind fields [] word fits names tt, refl)

list_text : (front key list : List ℕ) → (front ++ (codes ",\"" ++ key ++ codes "\":[")) ++ (list ++ codes "]}\n") ≡ (front ++ ((later (key, codes "[" ++ (list ++ codes "]")) ++ []) ++ codes "}")) ++ codes "\n"
list_text front key list = simp (append_assoc, append-nil)

pub list_line_is : (bound : ℕ) (kind : List ℕ) (fields : List Field) (key list : List ℕ) → IsWord kind → FieldsFit bound fields → are_names (names_of (front_members kind fields ++ (key, codes "[" ++ (list ++ codes "]")) ∷ [])) ≡ true → IsLineValue bound (codes "[" ++ (list ++ codes "]")) → IsObjectLine bound (list_line kind fields key list)
list_line_is bound kind fields key list word fits names value = (_, object_made bound (IsLineValue bound) (simple_value bound) kind fields ((key, codes "[" ++ (list ++ codes "]")) ∷ []) word fits names (value, tt), list_text (object_front kind fields) key list)

text_text : (front key text : List ℕ) → ((front ++ (codes ",\"" ++ key ++ codes "\":\"")) ++ (text ++ codes "\"")) ++ codes "}\n" ≡ (front ++ ((later (key, quoted text) ++ []) ++ codes "}")) ++ codes "\n"
text_text front key text = simp (append_assoc, append-nil)

pub text_line_is : (bound : ℕ) (kind : List ℕ) (fields : List Field) (key text : List ℕ) → IsWord kind → FieldsFit bound fields → are_names (names_of (front_members kind fields ++ (key, quoted text) ∷ [])) ≡ true → IsString (quoted text) → IsObjectLine bound (text_line kind fields key text)
text_line_is bound kind fields key text word fits names string = (_, object_made bound (IsLineValue bound) (simple_value bound) kind fields ((key, quoted text) ∷ []) word fits names (inl (inl string), tt), text_text (object_front kind fields) key text)

-- ---- lists

module _ {A : Type 0} (text : A → List ℕ) where
  pub joined_later : (place : ℕ) (xs : List A) → joined_from text (suc place) xs ≡ flat_map (λ x. codes "," ++ text x) xs
  joined_later place [] = refl
  joined_later place (x ∷ xs) =
      let next : suc place + 1 ≡ suc (suc place) = omega arith in
      rw next (ap (λ (l : List ℕ). (codes "," ++ text x) ++ l) (joined_later (suc place) xs))

  joined_text : (xs : List A) → joined text xs ≡ join_by (λ (item : List ℕ). item) (codes ",") (map text xs)
  joined_text [] = refl
  joined_text (x ∷ xs) = ap (λ (l : List ℕ). text x ++ l) (joined_later 0 xs ∙ sym (flat_map-map (λ (item : List ℕ). codes "," ++ item) text xs))

  all_items : (IsItem : List ℕ → Type 0) (Fits : A → Type 0) → ((x : A) → Fits x → IsItem (text x)) → (xs : List A) → AllByRecursion Fits xs → AllByRecursion IsItem (map text xs)
  all_items IsItem Fits each [] all = tt
  all_items IsItem Fits each (x ∷ xs) all = (each x all.0, all_items IsItem Fits each xs all.1)

  pub joined_list : (IsItem : List ℕ → Type 0) (Fits : A → Type 0) → ((x : A) → Fits x → IsItem (text x)) → (xs : List A) → AllByRecursion Fits xs → IsList IsItem (codes "[" ++ (joined text xs ++ codes "]"))
  joined_list IsItem Fits each xs all = (map text xs, all_items IsItem Fits each xs all, ap (λ (l : List ℕ). codes "[" ++ (l ++ codes "]")) (joined_text xs))

-- ---- texts

pub name_word : (reason : Reason) → IsWord (name_of reason)
name_word Truncated = (refl, refl)
name_word ValueTooWide = (refl, refl)
name_word TopLevel = (refl, refl)
name_word TooDeep = (refl, refl)
name_word BlockId = (refl, refl)
name_word AbbrevWidth = (refl, refl)
name_word DirtyPadding = (refl, refl)
name_word BlockLength = (refl, refl)
name_word UndefinedAbbrev = (refl, refl)
name_word AbbrevEmpty = (refl, refl)
name_word AbbrevEncoding = (refl, refl)
name_word FieldWidth = (refl, refl)
name_word AbbrevShape = (refl, refl)
name_word NoBlockSet = (refl, refl)
name_word BadSetBid = (refl, refl)
name_word NestedInBlockInfo = (refl, refl)
name_word TooManyValues = (refl, refl)
name_word TooLong = (refl, refl)
name_word WrapperVersion = (refl, refl)
name_word WrapperOffset = (refl, refl)
name_word WrapperSize = (refl, refl)
name_word WrapperNested = (refl, refl)

digits_of_bytes : (bytes : List ℕ) → AllByRecursion (λ byte. byte < 256) bytes → IsPlain (flat_map hex_text bytes)
digits_of_bytes [] all = refl
digits_of_bytes (byte ∷ bytes) all = rw (glyph_plain (byte / 16) (omega (arith, all.0)), glyph_plain (byte % 16) (omega arith), digits_of_bytes bytes all.1) refl

magic_plain : (magic : ℕ) → IsPlain (flat_map hex_text (magic_bytes magic))
magic_plain magic = digits_of_bytes (magic_bytes magic) (omega arith, (omega arith, (omega arith, (omega arith, tt))))

pub magic_string : (magic : ℕ) → IsString (quoted (flat_map hex_text (magic_bytes magic)))
magic_string magic = (flat_map hex_text (magic_bytes magic), inr (magic_plain magic, refl), refl)

-- ---- events

op_is : (bound : ℕ) (op : Op) → OpFits bound op → IsObject (IsSimple bound) (op_json op)
op_is bound (Literal value) fits = object_is bound (codes "literal") ((codes "value", value) ∷ []) (refl, refl) (fits, tt) refl
op_is bound (Fixed width) fits = object_is bound (codes "fixed") ((codes "width", width) ∷ []) (refl, refl) (fits, tt) refl
op_is bound (Vbr width) fits = object_is bound (codes "vbr") ((codes "width", width) ∷ []) (refl, refl) (fits, tt) refl
op_is bound Array fits = object_is bound (codes "array") [] (refl, refl) tt refl
op_is bound Char6 fits = object_is bound (codes "char6") [] (refl, refl) tt refl
op_is bound Blob fits = object_is bound (codes "blob") [] (refl, refl) tt refl

pub event_is : (bound : ℕ) (values : ValueDisplay) (around : ℕ) (event : Event) → around < bound → EventFits bound event → IsObjectLine bound (event_json values around event)
event_is bound values around (enters o) depth fits = object_line_is bound (codes "block") ((codes "bit", o.first) ∷ (codes "depth", around) ∷ (codes "id", o.id) ∷ (codes "width", o.width) ∷ (codes "body", o.body) ∷ []) (refl, refl) (fits.0, (depth, (fits.1, (fits.2, (fits.3, tt))))) refl
event_is bound values around (defines mark) depth fits = list_line_is bound (codes "define") ((codes "bit", mark.first) ∷ (codes "depth", around) ∷ []) (codes "operands") (joined op_json mark.ops) (refl, refl) (fits.0, (depth, tt)) refl (inr (inr (joined_list op_json (IsObject (IsSimple bound)) (OpFits bound) (op_is bound) mark.ops fits.1)))
event_is bound Shown around (notes mark) depth fits = list_line_is bound (codes "record") (noted_fields around mark.first mark.code mark.abbreviation (length mark.values)) (codes "values") (joined number_json mark.values) (refl, refl) (fits.0, (depth, (fits.1, (fits.2, (fits.3, tt))))) refl (inr (inl (joined_list number_json (IsSimple bound) (λ value. value < bound) (number_simple bound) mark.values fits.4)))
event_is bound LeftOut around (notes mark) depth fits = object_line_is bound (codes "record") (noted_fields around mark.first mark.code mark.abbreviation (length mark.values)) (refl, refl) (fits.0, (depth, (fits.1, (fits.2, (fits.3, tt))))) refl
event_is bound values around (leaves after) depth fits = object_line_is bound (codes "end") ((codes "bit", after) ∷ (codes "depth", around - 1) ∷ []) (refl, refl) (fits, (omega (arith, depth), tt)) refl

-- ---- lines one after the other

module _ (bound : ℕ) where
  one_more : (line text : List ℕ) → IsObjectLine bound line → AreObjectLines bound text → AreObjectLines bound (line ++ text)
  one_more line text is others = (line ∷ others.0, (is, others.1), ap (λ (l : List ℕ). line ++ l) others.2)

  one_line : (line : List ℕ) → IsObjectLine bound line → AreObjectLines bound line
  one_line line is = (line ∷ [], (is, tt), sym (append-nil line))

  both_lines : (first second : List (List ℕ)) → AllByRecursion (IsObjectLine bound) first → AllByRecursion (IsObjectLine bound) second → AllByRecursion (IsObjectLine bound) (first ++ second)
  both_lines [] second all others = others
  both_lines (line ∷ first) second all others = (all.0, both_lines first second all.1 others)

  lines_then : (first second : List ℕ) → AreObjectLines bound first → AreObjectLines bound second → AreObjectLines bound (first ++ second)
  lines_then first second a b = (a.0 ++ b.0, both_lines a.0 b.0 a.1 b.1, ap (λ (l : List ℕ). l ++ second) a.2 ∙ ap (λ (l : List ℕ). flat_map (λ (line : List ℕ). line) a.0 ++ l) b.2 ∙ sym (flat_map-append (λ (line : List ℕ). line) a.0 b.0))

  each_lines : {A : Type 0} (text : A → List ℕ) (Fits : A → Type 0) → ((x : A) → Fits x → AreObjectLines bound (text x)) → (xs : List A) → AllByRecursion Fits xs → AreObjectLines bound (flat_map text xs)
  each_lines text Fits each [] all = ([], tt, refl)
  each_lines text Fits each (x ∷ xs) all = lines_then (text x) (flat_map text xs) (each x all.0) (each_lines text Fits each xs all.1)

  refusal_is : (reason : Reason) (bit : ℕ) → bit < bound → IsObjectLine bound (refusal_json reason bit)
  refusal_is reason bit fits = text_line_is bound (codes "refused") ((codes "bit", bit) ∷ []) (codes "reason") (name_of reason) (refl, refl) (fits, tt) refl (name_of reason, inl (name_word reason), refl)

  ending_are : (end : Ending) → EndFits bound end → AreObjectLines bound (ending_json end)
  ending_are (accepted bit) fits = ([], tt, refl)
  ending_are (broke fault) fits = one_line (refusal_json fault.reason fault.bit) (refusal_is fault.reason fault.bit fits)

  events_are : (values : ValueDisplay) (around : ℕ) (events : List Event) (end : Ending) → EventsFit bound around events end → AreObjectLines bound (events_json values around events end)
  events_are values around [] end fits = ending_are end fits
  events_are values around (event ∷ events) end fits = one_more (event_json values around event) (events_json values (open_after event around) events end) (event_is bound values around event fits.0 fits.1) (events_are values (open_after event around) events end fits.2)

  pub outlook_are : (values : ValueDisplay) (told : Outlook) → OutlookFits bound told → AreObjectLines bound (outlook_json values told)
  outlook_are values (Ok x) fits = one_more (head_json x.0) (events_json values 0 x.1.0 x.1.1) (text_line_is bound (codes "magic") ((codes "bit", stream_begin x.0.wrapper) ∷ []) (codes "magic") (flat_map hex_text (magic_bytes x.0.magic)) (refl, refl) (fits.0, tt) refl (magic_string x.0.magic)) (events_are values 0 x.1.0 x.1.1 fits.1)
  outlook_are values (Err fault) fits = one_line (refusal_json fault.reason fault.bit) (refusal_is fault.reason fault.bit fits)

  -- ---- the report

  code_are : (id : ℕ) → id < bound → (row : CodeTally) → CodeRowFits bound row → AreObjectLines bound (code_json id row)
  code_are id small row fits = one_line (code_json id row) (object_line_is bound (codes "record") ((codes "block", id) ∷ (codes "code", row.code) ∷ (codes "count", row.count) ∷ (codes "bits", row.bits) ∷ []) (refl, refl) (small, (fits.0, (fits.1, (fits.2, tt)))) refl)

  row_are : (row : BlockTally) → BlockRowFits bound row → AreObjectLines bound (row_json row)
  row_are row fits =
      one_more (row_line_json row) (flat_map (code_json row.id) row.codes)
      (object_line_is bound (codes "block") ((codes "id", row.id) ∷ (codes "count", row.blocks) ∷ (codes "bits", row.bits) ∷ (codes "definitions", row.definitions) ∷ (codes "records", row.records) ∷ (codes "abbreviated", row.abbreviated) ∷ (codes "values", row.values) ∷ []) (refl, refl) (fits.0, (fits.1, (fits.2, (fits.3, (fits.4, (fits.5, (fits.6, tt))))))) refl)
      (each_lines (code_json row.id) (CodeRowFits bound) (code_are row.id fits.0) row.codes fits.7)

  pub report_are : (tally : Tally) → ReportFits bound tally → AreObjectLines bound (report_json tally)
  report_are tally fits = one_more (stream_json tally.magic tally.bits) (flat_map row_json tally.rows) (text_line_is bound (codes "stream") ((codes "bits", tally.bits) ∷ []) (codes "magic") (flat_map hex_text (magic_bytes tally.magic)) (refl, refl) (fits.0, tt) refl (magic_string tally.magic)) (each_lines row_json (BlockRowFits bound) row_are tally.rows fits.1)
