-- The normal form of items depends on its position modulo 32.
use Rattle.std.proofs.Common.{◌≡◌, ℕ, ◌+◌, ◌*◌, ◌/◌, Bool, false, List, [], ◌++◌, length, replicate, refl, ap, ◌∙◌, arith}
use Rattle.bit_grammar.specs.Bits.{bits_of}
use Rattle.bit_grammar.specs.FormatFields.{shortest}
use Rattle.bit_grammar.specs.Forest.{Forest, empty, a_block, a_record}
use Rattle.bit_grammar.specs.Normal.{Text, chain, put, padding, entry_text, head_text, block_text, end_text, normal}
use Rattle.bit_grammar.proofs.NormalForms.Sizes.{padding_again}

record Again (text : Text) : Type 0 where
  at : (p k : ℕ) → text (p + 32 * k) ≡ text p

put_again : (s : List Bool) → Again (put s)
put_again s = record { at = λ p k. refl }

pad_again : Again padding
pad_again = record { at = λ p k. ap (λ (n : ℕ). replicate n false) (padding_again p k) }

chain_again : (a b : Text) → Again a → Again b → Again (chain a b)
chain_again a b x y = record {
  at = λ p k.
      let q = p + length (a p) in
      let place : p + 32 * k + length (a p) ≡ q + 32 * k = omega arith in
      ap (λ (s : List Bool). s ++ b (p + 32 * k + length s)) (x.at p k) ∙ ap (λ (n : ℕ). a p ++ b n) place ∙ ap (λ (s : List Bool). a p ++ s) (y.at q k);
}

head_again : (id words : ℕ) → Again (head_text id words)
head_again id words =
    chain_again (put (shortest 8 id)) _ (put_again (shortest 8 id)) (chain_again (put (shortest 4 2)) _ (put_again (shortest 4 2)) (chain_again padding _ pad_again (put_again (bits_of 32 words))))

-- a block, whose body is given with its head's length
abbrev with_body : ℕ → List Bool → Text
with_body id body p = head_text id (length body / 32) p ++ body

block_again : (id : ℕ) (body : Text) → Again body → Again (block_text id body)
block_again id body x = record {
  at = λ p k.
      let q = p + length (head_text id 0 p) in
      let place : p + 32 * k + length (head_text id 0 (p + 32 * k)) ≡ q + 32 * k = omega (arith, ap length ((head_again id 0).at p k)) in
      let same : body (p + 32 * k + length (head_text id 0 (p + 32 * k))) ≡ body q = ap body place ∙ x.at q k in
      ap (λ (s : List Bool). with_body id s (p + 32 * k)) same ∙ ap (λ (s : List Bool). s ++ body q) ((head_again id (length (body q) / 32)).at p k);
}

text_again : (f : Forest) → Again (normal f)
unfolding normal
text_again empty = put_again []
text_again (a_block id inner rest) =
    let front = chain_again (put (bits_of 2 1)) (block_text id (chain (normal inner) end_text)) (put_again (bits_of 2 1)) (block_again id (chain (normal inner) end_text) (chain_again (normal inner) end_text (text_again inner) (chain_again (put (bits_of 2 0)) padding (put_again (bits_of 2 0)) pad_again))) in
    chain_again (chain (put (bits_of 2 1)) (block_text id (chain (normal inner) end_text))) (normal rest) front (text_again rest)
text_again (a_record code values rest) =
    chain_again (chain (put (bits_of 2 3)) (put (entry_text code values))) (normal rest) (chain_again (put (bits_of 2 3)) (put (entry_text code values)) (put_again (bits_of 2 3)) (put_again (entry_text code values))) (text_again rest)

pub normal_again : (f : Forest) (p k : ℕ) → normal f (p + 32 * k) ≡ normal f p
normal_again f p k = (text_again f).at p k
