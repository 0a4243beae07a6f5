-- Where two trees first differ: nowhere if they are the same, and else at one place.
use Rattle.std.proofs.Common.{◌≡◌, List, [], ◌∷◌, ◌++◌, sym, ap, ◌∙◌}
use Rattle.bit_grammar.specs.Setting.{Setting}
use Rattle.bit_grammar.specs.Under.{under}
use Rattle.bit_grammar.specs.Forest.{Tree}
use Rattle.bit_grammar.specs.Input.{tree_of}
use Rattle.bit_grammar.specs.Terms.{Marked}
use Rattle.bit_norm.specs.Entries.{Sign, Entry, signs_in, FirstApart, Seen, behind_magic, all_entries, FirstDifference, in_magic, behind}
use Rattle.bit_norm.proofs.Signs.{signs_in-append, same_signs}

-- ---- the same tree

rest_is : (s a b : List Sign) → s ++ a ≡ s ++ b → a ≡ b
rest_is [] a b e = e
rest_is (x ∷ s) a b e = rest_is s a b cc

signs_apart : (a b : List Entry) (x y : Entry) → FirstApart a b x y → signs_in a ≡ signs_in b → ⊥
signs_apart a b x y is e =
    let all : signs_in is.front ++ x.sign ∷ signs_in is.rest ≡ signs_in is.front ++ y.sign ∷ signs_in is.other_rest =
    sym (ap signs_in is.first ∙ signs_in-append is.front (x ∷ is.rest)) ∙ e ∙ ap signs_in is.second ∙ signs_in-append is.other_front (y ∷ is.other_rest)
    ∙ ap (λ (s : List Sign). s ++ y.sign ∷ signs_in is.other_rest) (sym is.same) in
    let tails = rest_is (signs_in is.front) _ _ all in
    is.unlike cc

-- trees that differ somewhere are not the same
pub never_same : (s : Setting) (a b : Marked) (seen : Seen) → FirstDifference s a b seen → under s (tree_of a) ≡ under s (tree_of b) → ⊥
never_same s a b seen (in_magic unlike is) e = unlike (ap (λ (t : Tree). t.magic) e)
never_same s a b seen (behind same x y apart is) e =
    signs_apart (all_entries s a) (all_entries s b) x y apart ((same_signs s (behind_magic a.head) (behind_magic b.head) a.blocks b.blocks).1 (ap (λ (t : Tree). t.blocks) e))
