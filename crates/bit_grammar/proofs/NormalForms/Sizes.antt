-- The size of a normal form.
use Rattle.std.proofs.Common.{◌≡◌, ℕ, zero, suc, ◌+◌, ◌-◌, ◌*◌, ◌/◌, ◌%◌, ◌^◌, ◌<◌, ◌≤◌, Bool, true, false, ltb, List, [], ◌∷◌, ◌++◌, length, refl, ap, ◌∙◌, arith}
use Rattle.std.specs.Prelude.{if◌then◌else◌}
use Rattle.std.specs.List.{All}
use Rattle.std.proofs.Math.Nat.{mul-le-mul_left, div-add-mod'}
use Rattle.std.proofs.lemmas.List.{length-append}
use Rattle.std.proofs.lemmas.List.Elements.{All-from_recursion}
use Rattle.bit_grammar.specs.Setting.{Setting, keeps, keeps_record}
use Rattle.bit_grammar.specs.Bits.{bits_of, bits_of_bytes}
use Rattle.bit_grammar.specs.Fields.{padding_length}
use Rattle.bit_grammar.specs.Terms.{chunk_limit}
use Rattle.bit_grammar.specs.FormatFields.{shortest_payloads, shortest}
use Rattle.bit_grammar.specs.Forest.{Forest, empty, a_block, a_record, Tree, AreBlocks}
use Rattle.bit_grammar.specs.Under.{items_under, under}
use Rattle.bit_grammar.specs.Normal.{chain, put, padding, values_bits, entry_text, head_text, block_text, end_text, normal, normal_form}
use Rattle.bit_grammar.specs.Size.{chunk_count, shortest_length, values_length, record_length, aligned, body_at, end_of, body_length, size_of}
use Rattle.bit_grammar.proofs.Bits.Numbers.{length-bits_of}
use Rattle.bit_grammar.proofs.Words.Fields.{short_wide, length-chunked}
use Rattle.bit_grammar.proofs.Bits.Bytes.{bytes_length, bytes_of}
use Rattle.bit_grammar.proofs.NormalForms.Texts.{pad_length, head_length, body_aligned}

-- ---- positions modulo 32

pub padding_again : (p k : ℕ) → padding_length (p + 32 * k) ≡ padding_length p
padding_again p k = omega arith

aligned_again : (p k : ℕ) → aligned (p + 32 * k) ≡ aligned p + 32 * k
aligned_again p k = omega (arith, padding_again p k)

body_again : (id p k : ℕ) → body_at id (p + 32 * k) ≡ body_at id p + 32 * k
body_again id p k =
    let x = p + 2 + shortest_length 8 id + 4 in
    let same : p + 32 * k + 2 + shortest_length 8 id + 4 ≡ x + 32 * k = omega arith in
    omega (arith, ap aligned same, aligned_again x k)

-- the end of items depends on the position modulo 32
pub end_again : (f : Forest) (p k : ℕ) → end_of f (p + 32 * k) ≡ end_of f p + 32 * k
unfolding end_of
end_again empty p k = refl
end_again (a_block id inner rest) p k =
    let n = aligned (end_of inner 0 + 2) in
    let same : body_at id (p + 32 * k) + n ≡ (body_at id p + n) + 32 * k = omega (arith, body_again id p k) in
    ap (end_of rest) same ∙ end_again rest (body_at id p + n) k
end_again (a_record code values rest) p k =
    let n = record_length code values in
    let same : p + 32 * k + n ≡ (p + n) + 32 * k = omega arith in
    ap (end_of rest) same ∙ end_again rest (p + n) k

-- ---- lengths

count_is : (payload permitted v : ℕ) → length (shortest_payloads payload permitted v) ≡ chunk_count payload permitted v
count_is payload zero v = refl
count_is payload (suc permitted) v = go (ltb v (2 ^ payload)) (count_is payload permitted (v / 2 ^ payload))
  where
    go : (b : Bool) → length (shortest_payloads payload permitted (v / 2 ^ payload)) ≡ chunk_count payload permitted (v / 2 ^ payload)
        → suc (length (if b then [] else shortest_payloads payload permitted (v / 2 ^ payload))) ≡ suc (if b then 0 else chunk_count payload permitted (v / 2 ^ payload))
    go true e = refl
    go false e = ap suc e

pub short_length : (n v : ℕ) → 1 ≤ n → length (shortest n v) ≡ shortest_length n v
unfolding shortest_length
short_length n v some =
    let limit = chunk_limit (n - 1) in
    let whole : suc (n - 1) ≡ n = omega (arith, some) in
    length-chunked (n - 1) (shortest_payloads (n - 1) limit v) (short_wide (n - 1) limit v) ∙ ap (λ (c : ℕ). suc (n - 1) * c) (count_is (n - 1) limit v) ∙ ap (λ (k : ℕ). k * chunk_count (n - 1) limit v) whole

count_range : (payload permitted v : ℕ) → (chunk_count payload permitted v ≤ permitted) × (1 ≤ permitted → 1 ≤ chunk_count payload permitted v)
count_range payload zero v = (omega arith, λ some. some)
count_range payload (suc permitted) v = (go (ltb v (2 ^ payload)) (count_range payload permitted (v / 2 ^ payload)).0, λ some. omega arith)
  where
    go : (b : Bool) → chunk_count payload permitted (v / 2 ^ payload) ≤ permitted → suc (if b then 0 else chunk_count payload permitted (v / 2 ^ payload)) ≤ suc permitted
    go true e = omega arith
    go false e = omega arith

limit_some : (payload : ℕ) → 1 ≤ payload → 1 ≤ chunk_limit payload
limit_some payload some = go (chunk_limit payload) (div-add-mod' (63 + payload) payload)
  where
    go : (k : ℕ) → k * payload + (63 + payload) % payload ≡ 63 + payload → 1 ≤ k
    go zero e = absurd (omega (arith, e, some))
    go (suc k) e = omega arith

-- a VBR has at least one chunk, and no more than are permitted
pub short_range : (n v : ℕ) → 2 ≤ n → (n ≤ shortest_length n v) × (shortest_length n v ≤ n * chunk_limit (n - 1))
unfolding shortest_length
short_range n v wide =
    let limit = chunk_limit (n - 1) in
    let range = count_range (n - 1) limit v in
    let least : n * 1 ≤ n * chunk_count (n - 1) limit v = mul-le-mul_left n (range.1 (limit_some (n - 1) (omega arith))) in
    (omega (arith, least), mul-le-mul_left n range.0)

values_end : (vs : List ℕ) → length (values_bits vs) ≡ values_length vs
values_end [] = refl
values_end (v ∷ vs) = omega (arith, length-append (shortest 6 v) (values_bits vs), short_length 6 v (omega arith), values_end vs)

record_end : (code : ℕ) (values : List ℕ) → length (bits_of 2 3 ++ entry_text code values) ≡ record_length code values
record_end code values =
    let a = shortest 6 code in
    let b = shortest 6 (length values) in
    omega (
      arith,
      length-append (bits_of 2 3) (entry_text code values),
      length-append a (b ++ values_bits values),
      length-append b (values_bits values),
      length-bits_of 2 3,
      short_length 6 code (omega arith),
      short_length 6 (length values) (omega arith),
      values_end values,
    )

width_length : length (shortest 4 2) ≡ 4
width_length = refl

-- where the body begins, if q is the bit after the abbreviation id
head_end : (id p q : ℕ) → q ≡ p + 2 → q + length (head_text id 0 q) ≡ body_at id p
head_end id p q e =
    let a = shortest 8 id in
    let b = shortest 4 2 in
    let at_pad = q + length a + length b in
    let z = padding at_pad in
    let place : at_pad ≡ p + 2 + shortest_length 8 id + 4 = omega (arith, e, short_length 8 id (omega arith), width_length) in
    let pad : length z ≡ padding_length (p + 2 + shortest_length 8 id + 4) = pad_length at_pad ∙ ap padding_length place in
    omega (arith, place, pad, length-append a (b ++ (z ++ bits_of 32 0)), length-append b (z ++ bits_of 32 0), length-append z (bits_of 32 0), length-bits_of 32 0)

end_length : (p : ℕ) → p + length (end_text p) ≡ aligned (p + 2)
end_length p =
    let q = p + length (bits_of 2 0) in
    let place : q ≡ p + 2 = omega (arith, length-bits_of 2 0) in
    let pad : length (padding q) ≡ padding_length (p + 2) = pad_length q ∙ ap padding_length place in
    omega (arith, place, pad, length-append (bits_of 2 0) (padding q))

-- from the items to the body that they make
body_end : (inner : Forest) (p k : ℕ) → ((q : ℕ) → q + length (normal inner q) ≡ end_of inner q) → p ≡ 32 * k → length (chain (normal inner) end_text p) ≡ body_length inner
body_end inner p k items e =
    let q = p + length (normal inner p) in
    let start : p ≡ 0 + 32 * k = omega (arith, e) in
    let place : q ≡ end_of inner 0 + 32 * k = items p ∙ ap (end_of inner) start ∙ end_again inner 0 k in
    let after : q + 2 ≡ (end_of inner 0 + 2) + 32 * k = omega (arith, place) in
    let end : aligned (q + 2) ≡ aligned (end_of inner 0 + 2) + 32 * k = ap aligned after ∙ aligned_again (end_of inner 0 + 2) k in
    omega (arith, e, end, end_length q, length-append (normal inner p) (end_text q))

block_end : (id : ℕ) (inner : Forest) (p : ℕ) → ((q : ℕ) → q + length (normal inner q) ≡ end_of inner q) → p + length (chain (put (bits_of 2 1)) (block_text id (chain (normal inner) end_text)) p) ≡ body_at id p + body_length inner
block_end id inner p items =
    let q = p + length (bits_of 2 1) in
    let two : q ≡ p + 2 = omega (arith, length-bits_of 2 1) in
    let body = chain (normal inner) end_text (q + length (head_text id 0 q)) in
    let words = length body / 32 in
    let place = body_aligned id q in
    omega (
      arith,
      two,
      head_end id p q two,
      head_length id words q,
      body_end inner (q + length (head_text id 0 q)) place.0 items place.1,
      length-append (head_text id words q) body,
      length-append (bits_of 2 1) (block_text id (chain (normal inner) end_text) q),
    )

-- the bit after the normal form of items
pub items_end : (f : Forest) (p : ℕ) → p + length (normal f p) ≡ end_of f p
unfolding normal end_of
items_end empty p = omega arith
items_end (a_block id inner rest) p =
    let front = chain (put (bits_of 2 1)) (block_text id (chain (normal inner) end_text)) p in
    let place : p + length front ≡ body_at id p + body_length inner = block_end id inner p (items_end inner) in
    let others = items_end rest (p + length front) ∙ ap (end_of rest) place in
    omega (arith, others, length-append front (normal rest (p + length front)))
items_end (a_record code values rest) p =
    let front = bits_of 2 3 ++ entry_text code values in
    let place : p + length front ≡ p + record_length code values = ap (λ (n : ℕ). p + n) (record_end code values) in
    let others = items_end rest (p + length front) ∙ ap (end_of rest) place in
    omega (arith, others, length-append front (normal rest (p + length front)))

-- the length of a block's body is the same at each multiple of 32, and one itself
pub body_is : (inner : Forest) (k : ℕ) → length (chain (normal inner) end_text (32 * k)) ≡ body_length inner
body_is inner k = body_end inner (32 * k) k (items_end inner) refl

pub body_whole : (inner : Forest) → body_length inner % 32 ≡ 0
body_whole inner = omega arith

-- ---- whole trees

-- blocks that begin at a multiple of 32 end at one
blocks_end : (f : Forest) (p : ℕ) → AreBlocks f → p % 32 ≡ 0 → end_of f p % 32 ≡ 0
unfolding end_of
blocks_end empty p blocks e = e
blocks_end (a_block id inner rest) p blocks e = blocks_end rest (body_at id p + aligned (end_of inner 0 + 2)) blocks (omega arith)
blocks_end (a_record code values rest) p blocks e = absurd blocks

pub form_end : (tree : Tree) → length (normal_form tree) ≡ end_of tree.blocks 32
unfolding normal_form
form_end tree =
    let magic = bits_of 32 tree.magic in
    let place : 0 + length magic ≡ 32 = omega (arith, length-bits_of 32 tree.magic) in
    let others = items_end tree.blocks (0 + length magic) ∙ ap (end_of tree.blocks) place in
    omega (arith, others, length-append magic (normal tree.blocks (0 + length magic)))

pub size_is : (tree : Tree) → AreBlocks tree.blocks → length (normal_form tree) ≡ 8 * size_of tree
unfolding size_of
size_is tree blocks = omega (arith, form_end tree, blocks_end tree.blocks 32 blocks (omega arith))

pub size_whole : (tree : Tree) → AreBlocks tree.blocks → size_of tree % 4 ≡ 0
unfolding size_of
size_whole tree blocks = omega (arith, blocks_end tree.blocks 32 blocks (omega arith))

pub form_bytes : (tree : Tree) → AreBlocks tree.blocks → (bytes : List ℕ) × All (λ b. b < 256) bytes × (bits_of_bytes bytes ≡ normal_form tree) × (length bytes ≡ size_of tree)
form_bytes tree blocks = (let b = bytes_of (size_of tree) (normal_form tree) (size_is tree blocks) in (b.bytes, All-from_recursion (λ x. x < 256) b.bytes b.small, b.is, b.count))

-- bytes with the bits of a normal form are as many
pub form_size : (tree : Tree) (bytes : List ℕ) → bits_of_bytes bytes ≡ normal_form tree → length bytes ≡ size_of tree
unfolding size_of
form_size tree bytes is = omega (arith, ap length is, bytes_length bytes, form_end tree)

-- ---- order

aligned_more : (p q : ℕ) → p ≤ q → aligned p ≤ aligned q
aligned_more p q le = omega arith

body_more : (id p q : ℕ) → p ≤ q → body_at id p ≤ body_at id q
body_more id p q le = omega (arith, aligned_more (p + 2 + shortest_length 8 id + 4) (q + 2 + shortest_length 8 id + 4) (omega arith))

-- items that begin later do not end earlier
pub end_more : (f : Forest) (p q : ℕ) → p ≤ q → end_of f p ≤ end_of f q
unfolding end_of
end_more empty p q le = le
end_more (a_block id inner rest) p q le = end_more rest (body_at id p + body_length inner) (body_at id q + body_length inner) (omega (arith, body_more id p q le))
end_more (a_record code values rest) p q le = end_more rest (p + record_length code values) (q + record_length code values) (omega arith)

pub end_grows : (f : Forest) (p : ℕ) → p ≤ end_of f p
end_grows f p = omega (arith, items_end f p)

-- a tree under a setting is no larger
items_end_under : (s : Setting) (around : ℕ) (f : Forest) (p : ℕ) → end_of (items_under s around f) p ≤ end_of f p
unfolding end_of
items_end_under s around empty p = omega arith
items_end_under s around (a_block id inner rest) p = go (keeps s id) (items_end_under s id inner 0) (λ q. items_end_under s around rest q)
  where
    inside : Forest
    inside = items_under s id inner

    others : Forest
    others = items_under s around rest

    go : (b : Bool) → end_of inside 0 ≤ end_of inner 0 → ((q : ℕ) → end_of others q ≤ end_of rest q) → end_of (if b then a_block id inside others else others) p ≤ end_of rest (body_at id p + body_length inner)
    go true x y = omega (arith, y (body_at id p + body_length inside), end_more rest (body_at id p + body_length inside) (body_at id p + body_length inner) (omega (arith, aligned_more (end_of inside 0 + 2) (end_of inner 0 + 2) (omega (arith, x)))))
    go false x y = omega (arith, y p, end_more rest p (body_at id p + body_length inner) (omega arith))
items_end_under s around (a_record code values rest) p = go (keeps_record s around code) (λ q. items_end_under s around rest q)
  where
    others : Forest
    others = items_under s around rest

    go : (b : Bool) → ((q : ℕ) → end_of others q ≤ end_of rest q) → end_of (if b then a_record code values others else others) p ≤ end_of rest (p + record_length code values)
    go true y = y (p + record_length code values)
    go false y = omega (arith, y p, end_more rest p (p + record_length code values) (omega arith))

pub size_under : (s : Setting) (tree : Tree) → size_of (under s tree) ≤ size_of tree
unfolding size_of
size_under s tree = omega (arith, items_end_under s 0 tree.blocks 32)
