-- How a proof distinguishes trees.
use Rattle.std.specs.Prelude.{◌≡◌, ℕ, zero, suc, List, [], ◌∷◌, refl}
use Rattle.std.specs.Coded.{Coded, code_by, coded_ℕ, coded_list, coded×}
use Rattle.std.proofs.Common.{ap, ◌∙◌}
use Rattle.bit_grammar.specs.Forest.{Forest, empty, a_block, a_record, Tree}

-- the words of a forest in order, before the words of what follows
abbrev pub words : Forest → List (List ℕ) → List (List ℕ)
words empty after = [] ∷ after
words (a_block id inner rest) after = (0 ∷ id ∷ []) ∷ words inner (words rest after)
words (a_record code values rest) after = (1 ∷ code ∷ values) ∷ words rest after

-- one word before the forests that the words after it give
abbrev pub join : List ℕ → List Forest → List Forest
join [] forests = empty ∷ forests
join (zero ∷ id ∷ _) (inner ∷ rest ∷ forests) = a_block id inner rest ∷ forests
join (suc _ ∷ code ∷ values) (rest ∷ forests) = a_record code values rest ∷ forests
join _ forests = forests

-- the forests that words give
abbrev pub forests_of_words : List (List ℕ) → List Forest
forests_of_words [] = []
forests_of_words (w ∷ ws) = join w (forests_of_words ws)

-- the first of them
abbrev pub first_of : List Forest → Forest
first_of [] = empty
first_of (f ∷ _) = f

pub forests_of_words-words : (f : Forest) (after : List (List ℕ))
    → forests_of_words (words f after) ≡ f ∷ forests_of_words after
forests_of_words-words empty after = refl
forests_of_words-words (a_block id inner rest) after =
    ap (join (0 ∷ id ∷ [])) (forests_of_words-words inner (words rest after) ∙ ap
    (λ (fs : List Forest). inner ∷ fs) (forests_of_words-words rest after))
forests_of_words-words (a_record code values rest) after = ap (join (1 ∷ code ∷ values))
    (forests_of_words-words rest after)

-- a forest is stored as the list of its words
abbrev pub forest_code : Coded Forest
forest_code =
    code_by (List (List ℕ)) (coded_list (coded_list coded_ℕ)) (λ f. words f [])
    (λ ws. first_of (forests_of_words ws)) (λ f. ap first_of (forests_of_words-words f []))

-- a tree is stored as the pair of its parts
abbrev pub tree_code : Coded Tree
tree_code = code_by (ℕ × Forest) (coded× coded_ℕ forest_code) (λ t. (t.magic, t.blocks))
    (λ p. record { magic = p.0; blocks = p.1 }) (λ _. refl)
