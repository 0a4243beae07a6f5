-- A block's head and its end, by the rules and in the words of the format.
use Rattle.std.proofs.Common.{◌≡◌, ℕ, ◌+◌, ◌*◌, ◌^◌, ◌<◌, ◌≤◌, Bool, true, eqb, List, ◌++◌, length, refl, sym, ap, subst, ◌∙◌, arith}
use Rattle.std.proofs.lemmas.Bool.{ltb-true, leb-true, lt-ltb, eqb-true, and_parts}
use Rattle.std.proofs.lemmas.Bool.Decides.{nat_tests}
use Rattle.std.proofs.lemmas.List.{length-append}
use Rattle.bit_grammar.specs.FormatFields.{IsFixed, IsVbr, IsPadding}
use Rattle.bit_grammar.specs.Blocks.{BlockHead, block_id, new_width, block_head, end_of_block}
use Rattle.bit_grammar.proofs.Readings.Wholes.{is_le}
use Rattle.bit_grammar.proofs.Words.Fields.{fixed_is, is_fixed, vbr_is, is_vbr, align_is, is_align}
use Rattle.bit_grammar.proofs.NormalForms.SpelledParts.{Spelled, then_spelled, then_last, given, here_spelled, judge_spelled}
use Rattle.bit_grammar.proofs.Readings.Parts.{apart, from_here, after_judge, is_given, ends}

id_is : (p : ℕ) (s : List Bool) (id : ℕ) → Spelled block_id p s id → IsVbr 8 id s × (id < 2 ^ 32)
unfolding block_id
id_is p s id h =
    let k = apart (from_here h) in
    let j = after_judge k.two in
    let g = is_given j.then in
    let all = ends s k.front k.others k.parts g.0 in
    let one = vbr_is 8 p k.front k.value (omega arith) k.one.is in
    subst (λ (n : ℕ). IsVbr 8 n s × (n < 2 ^ 32)) (sym g.1) (subst (IsVbr 8 k.value) (sym all) one, ltb-true _ _ j.held)

is_id : (p : ℕ) (s : List Bool) (id : ℕ) → IsVbr 8 id s → id < 2 ^ 32 → Spelled block_id p s id
unfolding block_id
is_id p s id h small = here_spelled _ (then_last _ (record { is = is_vbr 8 p s id (omega arith) h }) (judge_spelled _ _ _ (lt-ltb id (2 ^ 32) small) given))

width_is : (p : ℕ) (s : List Bool) (width : ℕ) → Spelled new_width p s width → IsVbr 4 width s × ((1 ≤ width) × (width ≤ 32))
unfolding new_width
width_is p s width h =
    let k = apart (from_here h) in
    let j = after_judge k.two in
    let g = is_given j.then in
    let all = ends s k.front k.others k.parts g.0 in
    let one = vbr_is 4 p k.front k.value (omega arith) k.one.is in
    let both = and_parts _ _ j.held in
    subst (λ (n : ℕ). IsVbr 4 n s × ((1 ≤ n) × (n ≤ 32))) (sym g.1) (subst (IsVbr 4 k.value) (sym all) one, (leb-true _ _ both.0, leb-true _ _ both.1))

is_width : (p : ℕ) (s : List Bool) (width : ℕ) → IsVbr 4 width s → (1 ≤ width) × (width ≤ 32) → Spelled new_width p s width
unfolding new_width
is_width p s width h lawful =
    let low = is_le 1 width lawful.0 in
    let high = is_le width 32 lawful.1 in
    here_spelled _ (then_last _ (record { is = is_vbr 4 p s width (omega arith) h }) (judge_spelled _ _ _ (rw (low, high) refl) given))

-- the bits of a block's head: the id, the width, the padding and the length
pub record HeadIs (h : BlockHead) (p : ℕ) (s : List Bool) : Type 0 where
  pub id : List Bool
  pub width : List Bool
  pub padding : List Bool
  pub size : List Bool
  pub parts : s ≡ id ++ (width ++ (padding ++ size))
  pub named : IsVbr 8 h.id id
  pub id_small : h.id < 2 ^ 32
  pub wide : IsVbr 4 h.width width
  pub width_lawful : (1 ≤ h.width) × (h.width ≤ 32)
  pub padded : IsPadding (p + length id + length width) padding
  pub sized : IsFixed 32 h.words size
  pub body : h.body ≡ p + length s

pub head_is : (h : BlockHead) (p : ℕ) (s : List Bool) → Spelled block_head p s h → HeadIs h p s
unfolding block_head
head_is h p s k =
    let a = apart k in
    let b = apart a.two in
    let c = apart b.two in
    let d = apart (from_here c.two) in
    let g = is_given (from_here d.two) in
    let id = id_is p a.front a.value a.one in
    let width = width_is _ b.front b.value b.one in
    let all = ends c.others d.front d.others d.parts g.0 in
    subst (λ (x : BlockHead). HeadIs x p s) (sym g.1) (record {
      id = a.front;
      width = b.front;
      padding = c.front;
      size = d.front;
      parts = a.parts ∙ ap (λ (t : List Bool). a.front ++ t) (b.parts ∙ ap (λ (t : List Bool). b.front ++ t) (c.parts ∙ ap (λ (t : List Bool). c.front ++ t) all));
      named = id.0;
      id_small = id.1;
      wide = width.0;
      width_lawful = width.1;
      padded = align_is _ c.front c.value c.one.is;
      sized = fixed_is 32 _ d.front d.value d.one.is;
      body = omega (arith, ap length a.parts, length-append a.front a.others, ap length b.parts, length-append b.front b.others, ap length c.parts, length-append c.front c.others, ap length all);
    })

head_at : (h : BlockHead) (a b : ℕ) → h.length_at ≡ a → h.body ≡ b → record h { length_at = a; body = b } ≡ h
head_at h a b e e' = ap (λ (x : ℕ). record h { length_at = x; body = b }) (sym e) ∙ ap (λ (x : ℕ). record h { body = x }) (sym e')

pub is_head : (h : BlockHead) (p : ℕ) (s : List Bool) (k : HeadIs h p s) → h.length_at ≡ p + length k.id + length k.width + length k.padding → Spelled block_head p s h
unfolding block_head
is_head h p s k at_length =
    let len : h.body ≡ p + length k.id + length k.width + length k.padding + length k.size = omega (arith, ap length k.parts, length-append k.id (k.width ++ (k.padding ++ k.size)), length-append k.width (k.padding ++ k.size), length-append k.padding k.size, k.body) in
    subst (λ (t : List Bool). Spelled block_head p t h) (sym k.parts)
    (subst (λ (x : BlockHead). Spelled block_head p (k.id ++ (k.width ++ (k.padding ++ k.size))) x) (head_at h _ (p + length k.id + length k.width + length k.padding + length k.size) at_length len)
    (then_spelled _ (is_id p k.id h.id k.named k.id_small)
    (then_spelled _ (is_width _ k.width h.width k.wide k.width_lawful)
    (then_spelled _ (record { is = is_align _ k.padding k.padded })
    (here_spelled _ (then_last _ (record { is = is_fixed 32 _ k.size h.words k.sized }) (here_spelled _ given)))))))

pub end_is : (h : BlockHead) (p : ℕ) (s : List Bool) (after : ℕ) → Spelled (end_of_block h) p s after → IsPadding p s × (h.body + 32 * h.words ≡ p + length s) × (after ≡ p + length s)
unfolding end_of_block
end_is h p s after k =
    let a = apart k in
    let j = after_judge (from_here a.two) in
    let g = is_given j.then in
    let all = ends s a.front a.others a.parts g.0 in
    let len = ap length all in
    (subst (IsPadding p) (sym all) (align_is p a.front a.value a.one.is), omega (arith, eqb-true _ _ j.held, len), omega (arith, g.1, len))

ends_at : (a b : ℕ) → a ≡ b → eqb a b ≡ true
ends_at a b e = grind (arith, nat_tests)

pub is_end : (h : BlockHead) (p : ℕ) (s : List Bool) → IsPadding p s → h.body + 32 * h.words ≡ p + length s → Spelled (end_of_block h) p s (p + length s)
unfolding end_of_block
is_end h p s k e = then_last _ (record { is = is_align p s k }) (here_spelled _ (judge_spelled _ _ _ (ends_at _ _ e) given))
