-- The values read from a parse are those that it found.
use Rattle.std.proofs.Common.{◌≡◌, ◌∙◌, ℕ, Bool, true, false, ◌&&◌, not, Option, Some, None, refl, sym, ap, codes, true≢false}
use Rattle.std.specs.Str.{bytes_eq}
use Rattle.std.specs.Prelude.{◌<◌, ◌^◌, IfSome, Result, Ok, Err}
use Rattle.std.specs.Bool.{MatchBool}
use Rattle.std.specs.Str.Parse.{IsNumeral, ParsesUnsigned, digits_value, without_leading_plus, true_text, false_text}
use Rattle.std.specs.Prelude.{List, Box, option_map, unwrap_or}
use Rattle.std.specs.Box.{box_value}
use Rattle.clap.specs.declared.parser.matches.SubCommand.{SubCommand}
use Rattle.clap.specs.declared.parser.matches.ArgMatches.TheViews.{out-SubCommand}
use Rattle.clap.specs.Words.{Row, Text, one_of, one_text, rows_of, subcommand_rows}
use Rattle.clap.specs.Matches.{ReadsOne}
use Rattle.clap.specs.declared.parser.matches.Found.{Found}
use Rattle.clap.proofs.WalkLemmas.{one_text-rows}
use Rattle.bitstool.specs.Words.{FindsAll, HasAllLimits, HasNumber, HasWithin, IsComplete, checks, normalises, compares, analyses, lists, tells, assembles}

-- a numeral that was read
numeral_found : (f : Found) (id : Text) (n : ℕ) → (one_text f id ≡ None → Some n ≡ None)
    → ((t : Text) → one_text f id ≡ Some t → IsNumeral 10 (without_leading_plus t) × (n ≡ digits_value 10 (without_leading_plus t)))
    → HasNumber id (rows_of f) n
numeral_found f id n none value = go (one_text f id) refl
  where
    go : (o : Option Text) → one_text f id ≡ o → HasNumber id (rows_of f) n
    go None e = let bad = none e in absurd (cc)
    go (Some t) e = let v = value t e in (t, sym (one_text-rows f id) ∙ e, (v.0, sym v.1))

-- the value read as a number, if any was read
pub number_found : {E : Type 0} (f : Found) (id : Text) (gives : Text → Result ℕ E → Type 0) (o : Option ℕ)
    → ((t : Text) (r : Result ℕ E) → gives t r → ParsesUnsigned 64 10 t r)
    → (one_text f id ≡ None → o ≡ None) → ((t : Text) → one_text f id ≡ Some t → ReadsOne gives t o)
    → IfSome o (λ n. HasNumber id (rows_of f) n)
number_found f id gives None reads none value = tt
number_found f id gives (Some n) reads none value = numeral_found f id n none (λ t e. let p = reads t (Ok n) (value t e) in (p.0.0, p.1))

-- a found number is read
pub number_read : {E : Type 0} (f : Found) (id : Text) (gives : Text → Result ℕ E → Type 0) (o : Option ℕ) (n : ℕ)
    → ((t : Text) (r : Result ℕ E) → gives t r → ParsesUnsigned 64 10 t r)
    → ((t : Text) → one_text f id ≡ Some t → ReadsOne gives t o) → HasNumber id (rows_of f) n → n < 2 ^ 64 → o ≡ Some n
number_read {E} f id gives o n reads value has small = go o (value has.0 (one_text-rows f id ∙ has.1))
  where
    go : (x : Option ℕ) → ReadsOne gives has.0 x → x ≡ Some n
    go (Some v) r = let p = reads has.0 (Ok v) r in ap Some (p.1 ∙ has.2.1)
    go None r = absurd (reads has.0 (Err r.0) r.1 (has.2.0, rw has.2.1 small))

-- a flag that is read as given
pub flag_found : (f : Found) (id : Text) (b : Bool) → b ≡ true → (one_text f id ≡ None → Some b ≡ None)
    → ((t : Text) → one_text f id ≡ Some t → MatchBool b (t ≡ true_text) (t ≡ false_text)) → one_of id (rows_of f) ≡ Some (codes "true")
flag_found f id false e none value = absurd (cc)
flag_found f id true is none value = go (one_text f id) refl
  where
    go : (o : Option Text) → one_text f id ≡ o → one_of id (rows_of f) ≡ Some (codes "true")
    go None e = let bad = none e in absurd (cc)
    go (Some t) e = sym (one_text-rows f id) ∙ e ∙ ap Some (value t e)

-- a flag that is read as not given
pub flag_not_found : (f : Found) (id : Text) → ((t : Text) → one_text f id ≡ Some t → t ≡ codes "true" → ⊥) → one_of id (rows_of f) ≡ Some (codes "true") → ⊥
flag_not_found f id value found = value (codes "true") (one_text-rows f id ∙ found) refl

pub flag_denied : (f : Found) (id : Text) (b : Bool) → b ≡ false
    → ((t : Text) → one_text f id ≡ Some t → MatchBool b (t ≡ true_text) (t ≡ false_text)) → one_of id (rows_of f) ≡ Some (codes "true") → ⊥
flag_denied f id true is value found = absurd (cc)
flag_denied f id false is value found = let other : true_text ≡ false_text = value true_text (one_text-rows f id ∙ found) in absurd (cc)

-- ---- commands

and_right : (a b : Bool) → (a && b) ≡ true → b ≡ true
and_right true b e = e
and_right false b e = absurd (cc)

and_left : (a b : Bool) → (a && b) ≡ true → a ≡ true
and_left true b e = refl
and_left false b e = absurd (cc)

pub no_is_false : (b : Bool) → not b ≡ true → b ≡ false
no_is_false false e = refl
no_is_false true e = absurd (cc)

-- the third of conditions that all hold does not hold of what it denies
pub third_denied : (a b d rest : Bool) → (a && (b && (not d && rest))) ≡ true → d ≡ false
third_denied a b d rest e = no_is_false d (and_left _ rest (and_right b _ (and_right a _ e)))

-- the result of a parse for a command, by its parts
module _ {Z : Type 0} (name : Text) (rows : List Row) where
  pub parts_found : (o : Option (Box SubCommand Z)) → Some name ≡ option_map (λ b. (out-SubCommand (box_value b)).name.now) o → Some rows ≡ option_map (λ p. p.1) (subcommand_rows o)
      → FindsAll (subcommand_rows o) → IsComplete rows name
  parts_found None is_name is_rows found = absurd found
  parts_found (Some b) is_name is_rows found =
      let same_name = ap (λ (o : Option Text). unwrap_or o name) is_name in
      let same_rows = ap (λ (o : Option (List Row)). unwrap_or o rows) is_rows in
      rw (same_name, same_rows) found

pub limits_found : (name : Text) (rows : List Row) → IsComplete rows name → HasAllLimits rows
limits_found name rows (checks limits) = limits
limits_found name rows (normalises limits) = limits
limits_found name rows (compares limits first) = limits
limits_found name rows (analyses limits) = limits
limits_found name rows (lists limits) = limits
limits_found name rows (tells limits) = limits
limits_found name rows (assembles limits) = limits

pub first_found : (name : Text) (rows : List Row) → IsComplete rows name → name ≡ codes "same" → HasWithin (codes "first") 17179869180 rows
first_found name rows (compares limits first) is = first
first_found name rows (checks limits) is = absurd (true≢false (sym (ap (λ (w : Text). bytes_eq w (codes "same")) is)))
first_found name rows (normalises limits) is = absurd (true≢false (sym (ap (λ (w : Text). bytes_eq w (codes "same")) is)))
first_found name rows (analyses limits) is = absurd (true≢false (sym (ap (λ (w : Text). bytes_eq w (codes "same")) is)))
first_found name rows (lists limits) is = absurd (true≢false (sym (ap (λ (w : Text). bytes_eq w (codes "same")) is)))
first_found name rows (tells limits) is = absurd (true≢false (sym (ap (λ (w : Text). bytes_eq w (codes "same")) is)))
first_found name rows (assembles limits) is = absurd (true≢false (sym (ap (λ (w : Text). bytes_eq w (codes "same")) is)))
