-- A normal form is spelled by the tree whose form it is.
use Rattle.std.proofs.Common.{◌≡◌, ℕ, zero, suc, ◌+◌, ◌*◌, ◌/◌, ◌<◌, ◌≤◌, ◌^◌, ◌≢◌, Bool, true, false, eqb, List, [], ◌∷◌, ◌++◌, length, get_or, Option, Some, None, refl, sym, ap, subst, ◌∙◌, append_assoc, arith, inr}
use Rattle.std.specs.Prelude.{if◌then◌else◌, is_some}
use Rattle.std.proofs.lemmas.Bool.Decides.{nat_tests}
use Rattle.std.proofs.lemmas.List.{length-append}
use Rattle.bit_grammar.specs.declared.shapes.Shapes.{Shapes}
use Rattle.bit_grammar.specs.declared.reason.Reason.TheVariants.{Truncated}
use Rattle.bit_grammar.specs.Bits.{bits_of, bits_of_bytes}
use Rattle.bit_grammar.specs.Grammar.{at, rounds, Round, one_more, last, Rounds, Spells}
use Rattle.bit_grammar.specs.FormatFields.{shortest}
use Rattle.bit_grammar.specs.Forest.{Forest, empty, a_block, a_record, Tree, forest_depth, forest_values, names_block, DescribesBlocks, FitForest, AreBlocks, wrapper_magic, Fit}
use Rattle.bit_grammar.specs.Marks.{BlockMark, Marks, Item, block_item, record_item, item_then, marks_of, forest_of}
use Rattle.bit_grammar.specs.Blocks.{Limits, Handed, Scope, enter, leave, BlockHead, describe, nested, item_after, item, block, top_block}
use Rattle.bit_grammar.specs.Terms.{no_definitions, BlockInfo, Marked}
use Rattle.bit_grammar.specs.Whole.{Things}
use Rattle.bit_grammar.specs.Setting.{keep}
use Rattle.bit_grammar.specs.Input.{is_wrapped, tree_of, top_blocks, stream, input, SpellsInput}
use Rattle.bit_grammar.specs.Normal.{Text, chain, put, padding, entry_text, head_text, block_text, end_text, normal, normal_form, Capped, HasTree}
use Rattle.bit_grammar.proofs.Bits.Numbers.{length-bits_of}
use Rattle.bit_grammar.proofs.NormalForms.Under.{tree_kept}
use Rattle.bit_grammar.proofs.Readings.Items.{item_takes, top_takes}
use Rattle.bit_grammar.proofs.WholeInputs.Inputs.{one_tree}
use Rattle.bit_grammar.proofs.Bits.Bytes.{bytes_length}
use Rattle.bit_grammar.proofs.NormalForms.Texts.{pad_ends, head_length, body_aligned}
use Rattle.bit_grammar.proofs.NormalForms.SpelledParts.{Spelled, then_spelled, then_last, given, here_spelled, judge_spelled, first_chosen, other_chosen, moved, fixed_spelled, id_spelled, record_spelled, made_head, head_spelled, last_spelled}

-- ---- bodies

abbrev handed_of : ℕ → Handed
handed_of used = record { table = no_definitions; used = used }

-- in a block that is no BLOCKINFO block
abbrev plain : ℕ → Scope
plain used = record { definitions = []; info = None; handed = handed_of used }

abbrev info_of : Option ℕ → BlockInfo
info_of described = record { described = described; made = no_definitions }

-- in a BLOCKINFO block
abbrev describing : Option ℕ → ℕ → Scope
describing described used = record { definitions = []; info = Some (info_of described); handed = handed_of used }

abbrev ItemSpells : Shapes → (limit depth : ℕ) → BlockHead → Scope → ℕ → List Bool → Round Scope Item (ℕ × Handed) → Type 0
ItemSpells shapes limit depth h scope p s x = Spells (item shapes (block shapes depth limit) h limit scope) p s x

abbrev Body : Shapes → (limit depth : ℕ) → BlockHead → List Item → Scope → ℕ → List Bool → ℕ × Handed → Type 0
Body shapes limit depth h xs scope p s e = Rounds (ItemSpells shapes limit depth h) xs scope p s e

-- marked items with this tree, which its normal form spells in a body at this position, and the scope that they leave
record Made (shapes : Shapes) (limit depth : ℕ) (h : BlockHead) (before : Scope) (total : ℕ) (forest : Forest) (p : ℕ) : Type 0 where
  items : List Item
  after : Scope
  left : leave after.info after.handed ≡ handed_of total
  tree : forest_of (marks_of items) ≡ forest
  spelled : (e : ℕ × Handed) (tail : List Bool) → ItemSpells shapes limit depth h after (p + length (normal forest p)) tail (last e) → Body shapes limit depth h items before p (normal forest p ++ tail) e

-- no items
none_made : (shapes : Shapes) (limit depth : ℕ) (h : BlockHead) (scope : Scope) (total p : ℕ) → leave scope.info scope.handed ≡ handed_of total → Made shapes limit depth h scope total empty p
unfolding normal
none_made shapes limit depth h scope total p left = record {
  items = [];
  after = scope;
  left = left;
  tree = refl;
  spelled = λ e tail ended. subst (λ (q : ℕ). ItemSpells shapes limit depth h scope q tail (last e)) (omega arith) ended;
}

-- an item, and those after it
step_made : (shapes : Shapes) (limit depth : ℕ) (h : BlockHead) (before between : Scope) (total : ℕ) (x : Item) (front : Text) (whole rest : Forest) (p : ℕ) → 1 ≤ h.width
    → normal whole p ≡ chain front (normal rest) p
    → ((ms : Marks) → forest_of ms ≡ rest → forest_of (item_then x ms) ≡ whole)
    → Spelled (item shapes (block shapes depth limit) h limit before) p (front p) (one_more x between)
    → Made shapes limit depth h between total rest (p + length (front p)) → Made shapes limit depth h before total whole p
step_made shapes limit depth h before between total x front whole rest p wide is tree spelled made = record {
  items = x ∷ made.items;
  after = made.after;
  left = made.left;
  tree = tree (marks_of made.items) made.tree;
  spelled = λ e tail ended.
      let others = normal rest (p + length (front p)) in
      let len : length (normal whole p) ≡ length (front p) + length others = ap length is ∙ length-append (front p) others in
      let place : p + length (normal whole p) ≡ (p + length (front p)) + length others = omega (arith, len) in
      let there = subst (λ (q : ℕ). ItemSpells shapes limit depth h made.after q tail (last e)) place ended in
      let some : 0 < length (front p) = omega (arith, wide, item_takes shapes (block shapes depth limit) h limit before p (front p) (one_more x between) spelled.is) in
      (front p, others ++ tail, between, ap (λ (s : List Bool). s ++ tail) is ∙ append_assoc (front p) others tail, some, spelled.is, made.spelled e tail there);
}

-- ---- the records of a BLOCKINFO block

abbrev described_after : Option ℕ → ℕ → List ℕ → Option ℕ
described_after described code values = if eqb code 1 then Some (get_or values 0 0) else described

describe_spelled : (described : Option ℕ) (code : ℕ) (values : List ℕ) (first q : ℕ) → (if eqb code 1 then names_block values else is_some described) ≡ true
    → Spelled (describe (Some (info_of described)) first (record { code = code; values = values })) q [] (Some (info_of (described_after described code values)))
unfolding describe
describe_spelled described code values first q ok = go (eqb code 1) refl ok
  where
    go : (b : Bool) → eqb code 1 ≡ b → (if b then names_block values else is_some described) ≡ true
        → Spelled (describe (Some (info_of described)) first (record { code = code; values = values })) q [] (Some (info_of (if b then Some (get_or values 0 0) else described)))
    go true e ok = first_chosen _ e (judge_spelled _ _ _ ok given)
    go false e ok = other_chosen _ e (judge_spelled _ _ _ ok given)

still_described : (described : Option ℕ) (code : ℕ) (values : List ℕ) → (if eqb code 1 then names_block values else is_some described) ≡ true → is_some (described_after described code values) ≡ true
still_described described code values ok = go (eqb code 1) ok
  where
    go : (b : Bool) → (if b then names_block values else is_some described) ≡ true → is_some (if b then Some (get_or values 0 0) else described) ≡ true
    go true ok = refl
    go false ok = ok

info_made : (shapes : Shapes) (limit depth : ℕ) (forest : Forest) (h : BlockHead) (described : Option ℕ) (used p : ℕ) → h.width ≡ 2 → DescribesBlocks (is_some described) forest → FitForest forest → used + forest_values forest ≤ limit → limit < 2 ^ 64
    → Made shapes limit depth h (describing described used) (used + forest_values forest) forest p
unfolding normal
info_made shapes limit depth empty h described used p wide ok fits room capped = none_made shapes limit depth h (describing described used) (used + 0) p (ap handed_of (omega arith))
info_made shapes limit depth (a_block id inner rest) h described used p wide ok fits room capped = absurd ok
info_made shapes limit depth (a_record code values rest) h described used p wide ok fits room capped =
    let front = chain (put (bits_of 2 3)) (put (entry_text code values)) in
    let now = described_after described code values in
    let more = subst (λ (b : Bool). DescribesBlocks b rest) (sym (still_described described code values ok.0)) ok.1 in
    let sum : (used + length values) + forest_values rest ≡ used + (length values + forest_values rest) = omega arith in
    let others = info_made shapes limit depth rest h now (used + length values) (p + length (front p)) wide more fits.2 (omega (arith, room)) capped in
    let x = record_item (record { abbreviation = 3; code = code; values = values; first = p; after = p + length (bits_of 2 3) + length (entry_text code values) }) in
    step_made shapes limit depth h (describing described used) (describing now (used + length values)) (used + (length values + forest_values rest)) x front (a_record code values rest) rest p (omega (arith, wide)) refl (λ ms e. ap (a_record code values) e)
    (record_spelled shapes (block shapes depth limit) h limit (describing described used) (Some (info_of now)) code values p wide fits.0 fits.1 (omega (arith, room)) capped (λ q. describe_spelled described code values p q ok.0))
    (subst (λ (total : ℕ). Made shapes limit depth h (describing now (used + length values)) total rest (p + length (front p))) sum others)

-- ---- blocks

-- where a block's body begins, whatever its length
body_place : (id words q : ℕ) → (made_head id words q).body ≡ q + length (head_text id 0 q)
body_place id words q =
    let a = shortest 8 id in
    let b = shortest 4 2 in
    let z = padding (q + length a + length b) in
    omega (arith, length-append a (b ++ (z ++ bits_of 32 0)), length-append b (z ++ bits_of 32 0), length-append z (bits_of 32 0), length-bits_of 32 words, length-bits_of 32 0)

in_words : (a b k m n : ℕ) → a ≡ 32 * k → a + b ≡ 32 * m → n ≡ b / 32 → 32 * n ≡ b
in_words a b k m n x y z = omega arith

abbrev body_of : Forest → Text
body_of inner = chain (normal inner) end_text

-- a marked block with this id and these items, which its normal form spells after the abbreviation id
record BlockMade (shapes : Shapes) (limit depth first used id : ℕ) (inner : Forest) (q : ℕ) : Type 0 where
  mark : BlockMark
  marks : Marks
  same : mark.id ≡ id
  tree : forest_of marks ≡ inner
  spelled : Spelled (block shapes depth limit first (handed_of used)) q (block_text id (body_of inner) q) (block_item mark marks, handed_of (used + forest_values inner))

block_made : (shapes : Shapes) (limit depth first used id : ℕ) (inner : Forest) (q : ℕ) → id < 2 ^ 32 → length (block_text id (body_of inner) q) < 2 ^ 37
    → ((h : BlockHead) (at_body : ℕ) → h.width ≡ 2 → length (normal inner at_body) < 2 ^ 37 → Made shapes limit depth h (enter id (handed_of used)) (used + forest_values inner) inner at_body)
    → BlockMade shapes limit (suc depth) first used id inner q
unfolding block
block_made shapes limit depth first used id inner q small fits made_inner =
    let at_body = q + length (head_text id 0 q) in
    let body = body_of inner at_body in
    let n = length body / 32 in
    let h = made_head id n q in
    let p = at_body + length (normal inner at_body) in
    let end = at_body + length body in
    let total = used + forest_values inner in
    let whole : length body ≡ length (normal inner at_body) + length (end_text p) = length-append (normal inner at_body) (end_text p) in
    let text : length (block_text id (body_of inner) q) ≡ length (head_text id n q) + length body = length-append (head_text id n q) body in
    let made = made_inner h at_body refl (omega (arith, whole, text, fits)) in
    let aligned = body_aligned id q in
    let ended_at = pad_ends (p + length (bits_of 2 0)) in
    let end_is : length (end_text p) ≡ length (bits_of 2 0) + length (padding (p + length (bits_of 2 0))) = length-append (bits_of 2 0) (padding (p + length (bits_of 2 0))) in
    let words : 32 * n ≡ length body = in_words at_body (length body) aligned.0 ended_at.0 n aligned.1 (omega (arith, whole, end_is, ended_at.1)) refl in
    let place = body_place id n q in
    let ended = last_spelled shapes (block shapes depth limit) h limit made.after p refl (omega (arith, place, words, whole)) end (omega (arith, whole)) in
    let ended' : Spelled (item shapes (block shapes depth limit) h limit made.after) p (end_text p) (last (end, handed_of total)) = subst (λ (handed : Handed). Spelled (item shapes (block shapes depth limit) h limit made.after) p (end_text p) (last (end, handed))) made.left ended in
    let inside = made.spelled (end, handed_of total) (end_text p) ended'.is in
    let spelled : Spelled (rounds (at Truncated h.body) (item shapes (block shapes depth limit) h limit) (enter id (handed_of used))) at_body body (made.items, (end, handed_of total)) = record { is = inside } in
    let at-is : at_body ≡ q + length (head_text id n q) = ap (λ (k : ℕ). q + k) (sym (head_length id n q)) in
    record {
      mark = record { id = id; width = 2; first = first; body = h.body; after = end };
      marks = marks_of made.items;
      same = refl;
      tree = made.tree;
      spelled = then_spelled _ (head_spelled id n q small (omega (arith, text, words, fits))) (then_last _ (moved at-is spelled) given);
    }

entered : (id used : ℕ) → id ≢ 0 → enter id (handed_of used) ≡ plain used
entered zero used some = absurd (some refl)
entered (suc id) used some =
    let no_info : eqb (suc id) 0 ≡ false = grind (arith, nat_tests) in
    rw no_info refl

-- the items of a block, by its id
inner_made : (shapes : Shapes) (limit depth id : ℕ) (inner : Forest) (h : BlockHead) (used q : ℕ) → h.width ≡ 2 → (id ≡ 0 → DescribesBlocks false inner) → FitForest inner → used + forest_values inner ≤ limit → limit < 2 ^ 64
    → Made shapes limit depth h (plain used) (used + forest_values inner) inner q → Made shapes limit depth h (enter id (handed_of used)) (used + forest_values inner) inner q
inner_made shapes limit depth zero inner h used q wide info fits room capped made = info_made shapes limit depth inner h None used q wide (info refl) fits room capped
inner_made shapes limit depth (suc id) inner h used q wide info fits room capped made = subst (λ (s : Scope). Made shapes limit depth h s (used + forest_values inner) inner q) (sym (entered (suc id) used (λ e. absurd (omega (arith, e))))) made

-- a block, if the limit allows its depth
block_at : (shapes : Shapes) (limit depth first used id : ℕ) (inner : Forest) (q : ℕ) → suc (forest_depth inner) ≤ depth → id < 2 ^ 32 → (id ≡ 0 → DescribesBlocks false inner) → FitForest inner → used + forest_values inner ≤ limit → limit < 2 ^ 64
    → length (block_text id (body_of inner) q) < 2 ^ 37
    → ((depth' : ℕ) (h : BlockHead) (at_body : ℕ) → forest_depth inner ≤ depth' → h.width ≡ 2 → length (normal inner at_body) < 2 ^ 37 → Made shapes limit depth' h (plain used) (used + forest_values inner) inner at_body)
    → BlockMade shapes limit depth first used id inner q
block_at shapes limit zero first used id inner q deep small info fits room capped short more = absurd (omega (arith, deep))
block_at shapes limit (suc depth) first used id inner q deep small info fits room capped short more =
    block_made shapes limit depth first used id inner q small short (λ h at_body wide short'. inner_made shapes limit depth id inner h used at_body wide info fits room capped (more depth h at_body (omega (arith, deep)) wide short'))

-- a block in a block
nested_spelled : (shapes : Shapes) (limit depth : ℕ) (h : BlockHead) (used id : ℕ) (inner : Forest) (p : ℕ) → h.width ≡ 2 → (made : BlockMade shapes limit depth p used id inner (p + length (bits_of 2 1)))
    → Spelled (item shapes (block shapes depth limit) h limit (plain used)) p (bits_of 2 1 ++ block_text id (body_of inner) (p + length (bits_of 2 1))) (one_more (block_item made.mark made.marks) (plain (used + forest_values inner)))
unfolding item item_after nested
nested_spelled shapes limit depth h used id inner p wide made =
    here_spelled _ (then_spelled _ (id_spelled h 1 p wide (omega arith))
    (other_chosen _ refl (first_chosen _ refl
    (then_last _ (judge_spelled _ _ _ refl (then_last _ made.spelled given)) given))))

same_block : (mark : BlockMark) (marks ms : Marks) (id : ℕ) (inner rest : Forest) → mark.id ≡ id → forest_of marks ≡ inner → forest_of ms ≡ rest → forest_of (item_then (block_item mark marks) ms) ≡ a_block id inner rest
same_block mark marks ms id inner rest a b c = rw (a, b, c) refl

plain_described : (code : ℕ) (values : List ℕ) (first q : ℕ) → Spelled (describe None first (record { code = code; values = values })) q [] None
unfolding describe
plain_described code values first q = given

plain_made : (shapes : Shapes) (limit depth : ℕ) (forest : Forest) (h : BlockHead) (used p : ℕ) → h.width ≡ 2 → FitForest forest → forest_depth forest ≤ depth → used + forest_values forest ≤ limit → limit < 2 ^ 64 → length (normal forest p) < 2 ^ 37
    → Made shapes limit depth h (plain used) (used + forest_values forest) forest p
unfolding normal
plain_made shapes limit depth empty h used p wide fits deep room capped short = none_made shapes limit depth h (plain used) (used + 0) p (ap handed_of (omega arith))
plain_made shapes limit depth (a_block id inner rest) h used p wide fits deep room capped short =
    let q = p + length (bits_of 2 1) in
    let text = block_text id (body_of inner) in
    let front = chain (put (bits_of 2 1)) text in
    let parts = length-append (front p) (normal rest (p + length (front p))) in
    let parts' = length-append (bits_of 2 1) (text q) in
    let sum : (used + forest_values inner) + forest_values rest ≡ used + (forest_values inner + forest_values rest) = omega arith in
    let made = block_at shapes limit depth p used id inner q (omega (arith, deep)) fits.0 fits.1 fits.2 (omega (arith, room)) capped (omega (arith, short, parts, parts')) (λ depth' h' at_body deep' wide' short'. plain_made shapes limit depth' inner h' used at_body wide' fits.2 deep' (omega (arith, room)) capped short') in
    let others = plain_made shapes limit depth rest h (used + forest_values inner) (p + length (front p)) wide fits.3 (omega (arith, deep)) (omega (arith, room)) capped (omega (arith, short, parts)) in
    step_made shapes limit depth h (plain used) (plain (used + forest_values inner)) (used + (forest_values inner + forest_values rest)) (block_item made.mark made.marks) front (a_block id inner rest) rest p (omega (arith, wide)) refl
    (λ ms e. same_block made.mark made.marks ms id inner rest made.same made.tree e)
    (nested_spelled shapes limit depth h used id inner p wide made)
    (subst (λ (total : ℕ). Made shapes limit depth h (plain (used + forest_values inner)) total rest (p + length (front p))) sum others)
plain_made shapes limit depth (a_record code values rest) h used p wide fits deep room capped short =
    let front = chain (put (bits_of 2 3)) (put (entry_text code values)) in
    let parts = length-append (front p) (normal rest (p + length (front p))) in
    let sum : (used + length values) + forest_values rest ≡ used + (length values + forest_values rest) = omega arith in
    let x = record_item (record { abbreviation = 3; code = code; values = values; first = p; after = p + length (bits_of 2 3) + length (entry_text code values) }) in
    let others = plain_made shapes limit depth rest h (used + length values) (p + length (front p)) wide fits.2 deep (omega (arith, room)) capped (omega (arith, short, parts)) in
    step_made shapes limit depth h (plain used) (plain (used + length values)) (used + (length values + forest_values rest)) x front (a_record code values rest) rest p (omega (arith, wide)) refl (λ ms e. ap (a_record code values) e)
    (record_spelled shapes (block shapes depth limit) h limit (plain used) None code values p wide fits.0 fits.1 (omega (arith, room)) capped (λ q. plain_described code values p q))
    (subst (λ (total : ℕ). Made shapes limit depth h (plain (used + length values)) total rest (p + length (front p))) sum others)

-- ---- the input

top_spelled : (limits : Limits) (used id : ℕ) (inner : Forest) (p : ℕ) → (made : BlockMade limits.shapes limits.values limits.depth p used id inner (p + length (bits_of 2 1)))
    → Spelled (top_block limits (handed_of used)) p (bits_of 2 1 ++ block_text id (body_of inner) (p + length (bits_of 2 1))) (block_item made.mark made.marks, handed_of (used + forest_values inner))
unfolding top_block
top_spelled limits used id inner p made = here_spelled _ (then_spelled _ (fixed_spelled 2 1 p (omega arith)) (judge_spelled _ _ _ refl made.spelled))

record TopMade (limits : Limits) (used : ℕ) (forest : Forest) (p after : ℕ) : Type 0 where
  items : List Item
  tree : forest_of (marks_of items) ≡ forest
  spelled : Things (λ handed p s x. Spells (top_block limits handed) p s x) items (handed_of used) p (normal forest p) after

top_made : (limits : Limits) (forest : Forest) (used p after : ℕ) → AreBlocks forest → FitForest forest → forest_depth forest ≤ limits.depth → used + forest_values forest ≤ limits.values → limits.values < 2 ^ 64 → length (normal forest p) < 2 ^ 37
    → after ≡ p + length (normal forest p) → TopMade limits used forest p after
unfolding normal
top_made limits empty used p after blocks fits deep room capped short end = record { items = []; tree = refl; spelled = (refl, omega (arith, end)) }
top_made limits (a_record code values rest) used p after blocks fits deep room capped short end = absurd blocks
top_made limits (a_block id inner rest) used p after blocks fits deep room capped short end =
    let q = p + length (bits_of 2 1) in
    let text = block_text id (body_of inner) in
    let front = chain (put (bits_of 2 1)) text in
    let parts = length-append (front p) (normal rest (p + length (front p))) in
    let parts' = length-append (bits_of 2 1) (text q) in
    let made = block_at limits.shapes limits.values limits.depth p used id inner q (omega (arith, deep)) fits.0 fits.1 fits.2 (omega (arith, room)) capped (omega (arith, short, parts, parts')) (λ depth' h' at_body deep' wide' short'. plain_made limits.shapes limits.values depth' inner h' used at_body wide' fits.2 deep' (omega (arith, room)) capped short') in
    let others = top_made limits rest (used + forest_values inner) (p + length (front p)) after blocks fits.3 (omega (arith, deep)) (omega (arith, room)) capped (omega (arith, short, parts)) (omega (arith, end, parts)) in
    let one = top_spelled limits used id inner p made in
    let some : 0 < length (front p) = omega (arith, top_takes limits (handed_of used) p (front p) (block_item made.mark made.marks, handed_of (used + forest_values inner)) one.is) in
    record {
      items = block_item made.mark made.marks ∷ others.items;
      tree = same_block made.mark made.marks (marks_of others.items) id inner rest made.same made.tree others.tree;
      spelled = (front p, normal rest (p + length (front p)), handed_of (used + forest_values inner), refl, some, one.is, others.spelled);
    }

not_wrapped : (magic : ℕ) → magic ≢ wrapper_magic → is_wrapped magic ≡ false
not_wrapped magic h = grind (arith, nat_tests)

-- these bytes spell a marked tree with this tree
abbrev pub IsSpelled : Limits → List ℕ → Tree → Type 0
IsSpelled limits bytes tree = (m : Marked) × SpellsInput limits bytes m × (tree_of m ≡ tree)

-- limits within which each length fits its field
pub form_spelled : (limits : Limits) (tree : Tree) (bytes : List ℕ) → limits.bytes ≤ 17179869180 → limits.values < 2 ^ 64 → Fit tree → bits_of_bytes bytes ≡ normal_form tree → length bytes ≤ limits.bytes → forest_depth tree.blocks ≤ limits.depth → forest_values tree.blocks ≤ limits.values
    → IsSpelled limits bytes tree
unfolding normal_form input stream top_blocks
form_spelled limits tree bytes cap cap' fit is fits deep room =
    let magic = bits_of 32 tree.magic in
    let p = 0 + length magic in
    let blocks = normal tree.blocks p in
    let parts = length-append magic blocks in
    let short : length blocks < 2 ^ 37 = omega (arith, ap length is, parts, bytes_length bytes, fits, cap) in
    let made = top_made limits tree.blocks 0 p (p + length blocks) fit.blocks fit.fit deep (omega (arith, room)) cap' short refl in
    let m : Marked = record { head = record { magic = tree.magic; wrapper = None }; blocks = marks_of made.items; after = p + length blocks } in (
      m,
      record {
        fits = fits;
        spelled = (magic, blocks, tree.magic, is, (fixed_spelled 32 tree.magic 0 fit.magic).is, inr (not_wrapped tree.magic fit.bare, ((made.items, p + length blocks), made.spelled, refl)));
      },
      ap (λ (f : Forest). record { magic = tree.magic; blocks = f }) made.tree,
    )

pub whole_spelled : (limits : Limits) (tree : Tree) (bytes : List ℕ) → Capped limits → Fit tree → bits_of_bytes bytes ≡ normal_form tree → length bytes ≤ limits.bytes → forest_depth tree.blocks ≤ limits.depth → forest_values tree.blocks ≤ limits.values
    → IsSpelled limits bytes tree
whole_spelled limits tree bytes capped fit is fits deep room = form_spelled limits tree bytes capped.bytes (omega (arith, capped.values)) fit is fits deep room

pub normal_spelled : (limits : Limits) (tree : Tree) (bytes : List ℕ) → Capped limits → Fit tree → bits_of_bytes bytes ≡ normal_form tree → length bytes ≤ limits.bytes → forest_depth tree.blocks ≤ limits.depth → forest_values tree.blocks ≤ limits.values
    → HasTree keep limits bytes tree
normal_spelled limits tree bytes capped fit is fits deep room = (let x = whole_spelled limits tree bytes capped fit is fits deep room in (x.0, x.1, tree_kept (tree_of x.0) ∙ x.2))

pub one_tree_of_normal : (limits : Limits) (a b : Tree) (bytes : List ℕ) → Capped limits → Fit a → Fit b → bits_of_bytes bytes ≡ normal_form a → bits_of_bytes bytes ≡ normal_form b → length bytes ≤ limits.bytes
    → forest_depth a.blocks ≤ limits.depth → forest_values a.blocks ≤ limits.values → forest_depth b.blocks ≤ limits.depth → forest_values b.blocks ≤ limits.values → a ≡ b
one_tree_of_normal limits a b bytes capped fit fit' is is' fits deep room deep' room' =
    let x = whole_spelled limits a bytes capped fit is fits deep room in
    let y = whole_spelled limits b bytes capped fit' is' fits deep' room' in
    sym x.2 ∙ ap tree_of (one_tree limits bytes x.0 y.0 x.1 y.1) ∙ y.2
