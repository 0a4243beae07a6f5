-- Names of texts in order.
use Rattle.std.proofs.Common.{◌≡◌, ◌∙◌, ℕ, zero, suc, ◌<◌, List, [], ◌∷◌, ◌++◌, length, take, get_or, Option, Result, Ok, Err, ap, subst, codes, arith}
use Rattle.std.specs.Prelude.{MatchResult, option_map, unwrap_or}
use Rattle.std.specs.Borrow.{Bor}
use Rattle.clap.specs.Walk.{Row, Text, rows_of, texts}
use Rattle.clap.specs.Matches.{matched_of, raw_values}
use Rattle.clap.specs.declared.parser.matches.Found.{Found}
use Rattle.clap.proofs.WalkLemmas.{raw_values-rows}
use Rattle.bitstool.specs.declared.names.Unnamed.{Unnamed}
use Rattle.bitstool.specs.declared.names.Unnamed.TheVariants.{Block, Record, Memory}
use Rattle.bitstool.specs.Names.{IsUnnamed, NameEach}
use Rattle.bitstool.specs.Words.{Misnamed, texts_of}

-- one more name
pub names_next : {X : Type 0} (Names : Text → X → Type 0) (given : List (Bor Text)) (xs : List X) (i : ℕ) (d : Bor Text) (x : X) → i < length given
    → NameEach Names (take i (texts given)) xs → Names (get_or given i d).now x → NameEach Names (take (suc i) (texts given)) (xs ++ x ∷ [])
names_next Names [] xs i d x inside each one = absurd (omega (arith, inside))
names_next Names (g ∷ gs) [] zero d x inside each one = (one, tt)
names_next Names (g ∷ gs) (y ∷ ys) zero d x inside each one = absurd each
names_next Names (g ∷ gs) [] (suc i) d x inside each one = absurd each
names_next Names (g ∷ gs) (y ∷ ys) (suc i) d x inside each one = (each.0, names_next Names gs ys i d x (omega (arith, inside)) each.1 one)

-- a reason why blocks are not named remains one if there are also records to name, and the other way round
pub unnamed_blocks : (blocks records : List Text) (why : Unnamed) → IsUnnamed blocks [] why → IsUnnamed blocks records why
unnamed_blocks blocks records (Block text) h = h
unnamed_blocks blocks records (Record text) h = absurd (omega (arith, h.0.1))
unnamed_blocks blocks records Memory h = h

pub unnamed_records : (blocks records : List Text) (why : Unnamed) → IsUnnamed [] records why → IsUnnamed blocks records why
unnamed_records blocks records (Block text) h = absurd (omega (arith, h.0.1))
unnamed_records blocks records (Record text) h = h
unnamed_records blocks records Memory h = h

-- ---- the texts given for an option

-- the texts that were read
pub texts_found : (f : Found) (id : Text) (o : Option (Bor (List (Bor Text)))) → option_map (λ s. texts s.now) o ≡ option_map raw_values (matched_of f id)
    → unwrap_or (option_map (λ s. texts s.now) o) [] ≡ texts_of id (rows_of f)
texts_found f id o e = ap (λ (found : Option (List Text)). unwrap_or found []) (e ∙ raw_values-rows f id)

-- the names made of an option's texts, or the reason why they are invalid
module _ {X : Type 0} (P : List Text → X → Type 0) (rows : List Row) (given : List Text) where
  pub blocks_named_by : (r : Result X Unnamed) → given ≡ texts_of (codes "drop-block") rows → MatchResult r (P given) (IsUnnamed given [])
      → MatchResult r (P (texts_of (codes "drop-block") rows)) (Misnamed rows)
  blocks_named_by (Ok x) is h = subst (λ (g : List Text). P g x) is h
  blocks_named_by (Err why) is h = unnamed_blocks _ _ why (subst (λ (g : List Text). IsUnnamed g [] why) is h)

  pub records_named_by : (r : Result X Unnamed) → given ≡ texts_of (codes "drop-record") rows → MatchResult r (P given) (IsUnnamed [] given)
      → MatchResult r (P (texts_of (codes "drop-record") rows)) (Misnamed rows)
  records_named_by (Ok x) is h = subst (λ (g : List Text). P g x) is h
  records_named_by (Err why) is h = unnamed_records _ _ why (subst (λ (g : List Text). IsUnnamed [] g why) is h)
