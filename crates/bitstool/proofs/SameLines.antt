-- The line of JSON of `same` is an object.
use Rattle.std.proofs.Common.{◌≡◌, ◌⊎◌, ℕ, ◌^◌, ◌<◌, true, List, [], ◌∷◌, ◌++◌, map, Some, None, refl, sym, ap, ◌∙◌, append_assoc, subst, inl, inr}
use Rattle.std.specs.Prelude.{IfOk, Option, Result, Ok, Err, String, codes, flat_map, string_bytes}
use Rattle.std.specs.declared.alloc.AllocError.{AllocError}
use Rattle.std.specs.List.{AllByRecursion, join_by}
use Rattle.std.proofs.lemmas.Grind.{flat_map-append}
use Rattle.std.proofs.lemmas.List.{append-nil}
use Rattle.bit_grammar.specs.Texts.{hex_text, magic_bytes}
use Rattle.bit_norm.specs.declared.differences.OpenBlock.{OpenBlock}
use Rattle.bit_norm.specs.declared.differences.ValueDifference.{ValueDifference}
use Rattle.bit_norm.specs.Entries.{Place, at_magic, at_item, What, the_magic, the_block, the_record, the_end, Seen}
use Rattle.bit_scan.specs.Json.{Field, field_json, number_json, object, object_front}
use Rattle.bit_scan.specs.ObjectLines.{IsList, IsLineValue, IsObject, IsSimple, IsWord, Member, names_of, quoted}
use Rattle.bit_scan.proofs.Objects.{are_names, field_member, fields_text, front_members, FieldsFit, later, magic_string, number_simple, object_is, object_made}
use Rattle.bitstool.specs.JsonDifferences.{BlockFits, IsDifferenceLine, PlaceFits, SeenFits, ValueFits, WhatFits, difference_json, first_json, open_json, place_json, second_json, value_json, what_json}

-- ---- the list of open blocks

abbrev block_text : OpenBlock → List ℕ
block_text block = object (codes "block") ((codes "id", block.id) ∷ (codes "item", block.items) ∷ [])

-- texts with a comma after each, and a last one
commas_after : (blocks : List OpenBlock) (last : List ℕ) → flat_map (λ (item : List ℕ). codes "," ++ item) (map block_text blocks ++ last ∷ []) ≡ codes "," ++ (flat_map open_json blocks ++ last)
commas_after [] last = ap (λ (l : List ℕ). codes "," ++ l) (append-nil last)
commas_after (block ∷ blocks) last =
    ap (λ (l : List ℕ). (codes "," ++ block_text block) ++ l) (commas_after blocks last)
    ∙ ap (λ (l : List ℕ). codes "," ++ l) (apart (block_text block) (flat_map open_json blocks))
  where
    apart : (text others : List ℕ) → text ++ (codes "," ++ (others ++ last)) ≡ ((text ++ codes ",") ++ others) ++ last
    apart text others = simp append_assoc

items_joined : (blocks : List OpenBlock) (last : List ℕ) → flat_map open_json blocks ++ last ≡ join_by (λ (item : List ℕ). item) (codes ",") (map block_text blocks ++ last ∷ [])
items_joined [] last = sym (append-nil last)
items_joined (block ∷ blocks) last =
    apart (block_text block) (flat_map open_json blocks)
    ∙ ap (λ (l : List ℕ). block_text block ++ l) (sym (commas_after blocks last))
  where
    apart : (text others : List ℕ) → ((text ++ codes ",") ++ others) ++ last ≡ text ++ (codes "," ++ (others ++ last))
    apart text others = simp append_assoc

-- the numbers of a value
abbrev fields_told : Option (ℕ × ℕ) → List Field
fields_told None = []
fields_told (Some x) = (codes "index", x.0) ∷ (codes "value", x.1) ∷ []

module _ (bound : ℕ) where
  number_is : (number : ℕ) → number < bound → IsSimple bound (number_json number)
  number_is number fits = number_simple bound number fits

  blocks_are : (blocks : List OpenBlock) (last : List ℕ) → AllByRecursion (BlockFits bound) blocks → IsObject (IsSimple bound) last → AllByRecursion (IsObject (IsSimple bound)) (map block_text blocks ++ last ∷ [])
  blocks_are [] last all is = (is, tt)
  blocks_are (block ∷ blocks) last all is = (object_is bound (codes "block") ((codes "id", block.id) ∷ (codes "item", block.items) ∷ []) (refl, refl) (all.0.id, (all.0.items, tt)) refl, blocks_are blocks last all.1 is)

  place_is : (place : Place) → PlaceFits bound place → IsList (IsObject (IsSimple bound)) (codes "[" ++ (place_json place ++ codes "]"))
  place_is at_magic fits = (object (codes "magic") [] ∷ [], (object_is bound (codes "magic") [] (refl, refl) tt refl, tt), refl)
  place_is (at_item within items) fits =
      let last = object (codes "item") ((codes "item", items) ∷ []) in
      (map block_text within ++ last ∷ [], blocks_are within last fits.0 (object_is bound (codes "item") ((codes "item", items) ∷ []) (refl, refl) (fits.1, tt) refl), ap (λ (l : List ℕ). codes "[" ++ (l ++ codes "]")) (items_joined within last))

  -- ---- an item and its value

  -- an object with these numbers, and more of them
  front_is : (kind : List ℕ) (fields more : List Field) → IsWord kind → FieldsFit bound (fields ++ more) → are_names (names_of (front_members kind (fields ++ more) ++ [])) ≡ true → IsObject (IsSimple bound) (object_front kind fields ++ (flat_map field_json more ++ codes "}"))
  front_is kind fields more word fits names =
      let before = codes "{\"kind\":\"" ++ kind ++ codes "\"" in
      subst (IsObject (IsSimple bound)) (ap (λ (l : List ℕ). (before ++ l) ++ codes "}") (flat_map-append field_json fields more) ∙ apart before (flat_map field_json fields) (flat_map field_json more) (codes "}"))
      (object_is bound kind (fields ++ more) word fits names)
    where
      apart : (a b c d : List ℕ) → (a ++ (b ++ c)) ++ d ≡ (a ++ b) ++ (c ++ d)
      apart a b c d = simp append_assoc

  -- an object with the digits of a magic, and more numbers
  magic_is : (bit magic : ℕ) (more : List Field) → bit < bound → AllByRecursion (λ (member : Member). IsSimple bound member.1) (map field_member more) → are_names (codes "kind" ∷ codes "bit" ∷ codes "magic" ∷ names_of (map field_member more)) ≡ true → IsObject (IsSimple bound) (what_json bit (the_magic magic) ++ (flat_map field_json more ++ codes "}"))
  magic_is bit magic more fits all names =
      let digits = flat_map hex_text (magic_bytes magic) in
      let front = object_front (codes "magic") ((codes "bit", bit) ∷ []) in
      subst (IsObject (IsSimple bound)) (ap (λ (l : List ℕ). front ++ ((later (codes "magic", quoted digits) ++ l) ++ codes "}")) (sym (fields_text more)) ∙ apart front digits (flat_map field_json more))
      (object_made bound (IsSimple bound) (λ text is. is) (codes "magic") ((codes "bit", bit) ∷ []) ((codes "magic", quoted digits) ∷ map field_member more) (refl, refl) (fits, tt) names (inl (magic_string magic), all))
    where
      apart : (front digits numbers : List ℕ) → front ++ ((later (codes "magic", quoted digits) ++ numbers) ++ codes "}") ≡ ((front ++ codes ",\"magic\":\"") ++ (digits ++ codes "\"")) ++ (numbers ++ codes "}")
      apart front digits numbers = simp append_assoc

  -- the number of a value and the value, if there are such
  abbrev Told : Option (ℕ × ℕ) → Type 0
  Told None = Unit {0}
  Told (Some x) = (x.0 < bound) × (x.1 < bound)

  what_is : (bit : ℕ) (what : What) (value : Option (ℕ × ℕ)) → bit < bound → WhatFits bound what → Told value → IsObject (IsSimple bound) (what_json bit what ++ (flat_map field_json (fields_told value) ++ codes "}"))
  what_is bit (the_magic magic) None small fits told = magic_is bit magic [] small tt refl
  what_is bit (the_magic magic) (Some x) small fits told = magic_is bit magic (fields_told (Some x)) small (number_is x.0 told.0, (number_is x.1 told.1, tt)) refl
  what_is bit (the_block id) None small fits told = front_is (codes "block") ((codes "bit", bit) ∷ (codes "id", id) ∷ []) [] (refl, refl) (small, (fits, tt)) refl
  what_is bit (the_block id) (Some x) small fits told = front_is (codes "block") ((codes "bit", bit) ∷ (codes "id", id) ∷ []) (fields_told (Some x)) (refl, refl) (small, (fits, (told.0, (told.1, tt)))) refl
  what_is bit (the_record code count) None small fits told = front_is (codes "record") ((codes "bit", bit) ∷ (codes "code", code) ∷ (codes "count", count) ∷ []) [] (refl, refl) (small, (fits.0, (fits.1, tt))) refl
  what_is bit (the_record code count) (Some x) small fits told = front_is (codes "record") ((codes "bit", bit) ∷ (codes "code", code) ∷ (codes "count", count) ∷ []) (fields_told (Some x)) (refl, refl) (small, (fits.0, (fits.1, (told.0, (told.1, tt))))) refl
  what_is bit the_end None small fits told = front_is (codes "end") ((codes "bit", bit) ∷ []) [] (refl, refl) (small, tt) refl
  what_is bit the_end (Some x) small fits told = front_is (codes "end") ((codes "bit", bit) ∷ []) (fields_told (Some x)) (refl, refl) (small, (told.0, (told.1, tt))) refl

  -- ---- the line

  abbrev Value : List ℕ → Type 0
  Value text = IsLineValue bound text ⊎ IsObject (IsSimple bound) text

  line_made : (place first value second other : List ℕ) → IsList (IsObject (IsSimple bound)) (codes "[" ++ (place ++ codes "]")) → IsObject (IsSimple bound) (first ++ (value ++ codes "}")) → IsObject (IsSimple bound) (second ++ (other ++ codes "}"))
      → IsDifferenceLine bound (codes "{\"kind\":\"different\",\"at\":[" ++ place ++ codes "],\"first\":" ++ first ++ value ++ codes "},\"second\":" ++ second ++ other ++ codes "}}\n")
  line_made place first value second other at one two =
      let members = (codes "at", codes "[" ++ (place ++ codes "]")) ∷ (codes "first", first ++ (value ++ codes "}")) ∷ (codes "second", second ++ (other ++ codes "}")) ∷ [] in
      (_, object_made bound Value (λ text is. inl (inl is)) (codes "different") [] members (refl, refl) tt refl (inl (inr (inr at)), (inr one, (inr two, tt))), parts)
    where
      parts : codes "{\"kind\":\"different\",\"at\":[" ++ place ++ codes "],\"first\":" ++ first ++ value ++ codes "},\"second\":" ++ second ++ other ++ codes "}}\n"
          ≡ (object_front (codes "different") [] ++ (flat_map later ((codes "at", codes "[" ++ (place ++ codes "]")) ∷ (codes "first", first ++ (value ++ codes "}")) ∷ (codes "second", second ++ (other ++ codes "}")) ∷ []) ++ codes "}")) ++ codes "\n"
      parts = simp (append_assoc, append-nil)

  pub difference_is : (seen : Seen) → SeenFits bound seen → IsDifferenceLine bound (difference_json seen)
  difference_is seen fits = cases seen.value fits.value
    where
      cases : (value : Option ValueDifference) → ValueFits bound value
          → IsDifferenceLine bound (codes "{\"kind\":\"different\",\"at\":[" ++ place_json seen.place ++ codes "],\"first\":" ++ what_json seen.first.bit seen.first.what ++ first_json value ++ codes "},\"second\":" ++ what_json seen.second.bit seen.second.what ++ second_json value ++ codes "}}\n")
      cases None told = line_made (place_json seen.place) (what_json seen.first.bit seen.first.what) [] (what_json seen.second.bit seen.second.what) [] (place_is seen.place fits.place) (what_is seen.first.bit seen.first.what None fits.first_bit fits.first tt) (what_is seen.second.bit seen.second.what None fits.second_bit fits.second tt)
      cases (Some value) told =
          line_made (place_json seen.place) (what_json seen.first.bit seen.first.what) (value_json value.index value.first) (what_json seen.second.bit seen.second.what) (value_json value.index value.second) (place_is seen.place fits.place)
          (what_is seen.first.bit seen.first.what (Some (value.index, value.first)) fits.first_bit fits.first (told.0, told.1)) (what_is seen.second.bit seen.second.what (Some (value.index, value.second)) fits.second_bit fits.second (told.0, told.2))

  pub same_is : IsDifferenceLine bound (codes "{\"kind\":\"same\"}\n")
  same_is = (_, object_made bound Value (λ text is. inl (inl is)) (codes "same") [] [] (refl, refl) tt refl tt, refl)

-- the line of a call that made it, unless an allocation failed
pub made_line : {A : Type 0} (seen : Seen) (answer : Result (String A) AllocError) → IfOk answer (λ text. string_bytes text ≡ difference_json seen) → IfOk answer (λ _. SeenFits (2 ^ 64) seen) → IfOk answer (λ text. IsDifferenceLine (2 ^ 64) (string_bytes text))
made_line seen (Ok text) is fits = subst (IsDifferenceLine (2 ^ 64)) (sym is) (difference_is (2 ^ 64) seen fits)
made_line seen (Err error) is fits = tt
