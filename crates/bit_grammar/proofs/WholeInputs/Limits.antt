-- What is spelled under limits keeps to them, and is spelled under all limits that it keeps to.
use Rattle.std.proofs.Common.{◌≡◌, ℕ, zero, suc, ◌+◌, ◌≤◌, Bool, List, [], ◌∷◌, length, Option, Some, None, refl, ap, sym, subst, ◌∙◌, arith, inl, inr}
use Rattle.std.specs.Prelude.{max, ◌↔◌}
use Rattle.bit_grammar.specs.declared.shapes.Shapes.{Shapes}
use Rattle.bit_grammar.specs.declared.shapes.Shapes.TheVariants.{AtUse}
use Rattle.bit_grammar.specs.declared.op.Op.{Op}
use Rattle.bit_grammar.specs.Bits.{bits_of_bytes}
use Rattle.bit_grammar.specs.Grammar.{Round, one_more, last, Rounds, Spells}
use Rattle.bit_grammar.specs.FormatDefinition.{PassesShape}
use Rattle.bit_grammar.specs.FormatBlocks.{PassIn}
use Rattle.bit_grammar.specs.Marks.{Marks, no_marks, marked_block, marked_record, marked_definition, Item, block_item, record_item, definition_item, item_then, marks_of, depth_in, values_in, RecordMark, DefinitionMark}
use Rattle.bit_grammar.specs.Blocks.{Limits, Handed, Scope, leave, defined, nothing_handed, BlockHead, enter, define, record_after, nested, item_after, item, block, top_block}
use Rattle.bit_grammar.specs.Terms.{BlockInfo, Head, Marked}
use Rattle.bit_grammar.specs.Whole.{Things, SpellsAll}
use Rattle.bit_grammar.specs.Input.{top_blocks, stream, wrapped, input, SpellsInput}
use Rattle.bit_grammar.proofs.WholeInputs.Rooms.{entry_fitted}
use Rattle.bit_grammar.proofs.Words.Definitions.{definition_defines}
use Rattle.bit_grammar.proofs.Words.Spellings.{definition_is, is_definition}

-- ---- items

-- Values are added to those used before, within the limits; and the same is spelled under other limits that hold.
pub record Fitted (shapes : Shapes) (limit depth before after values deep : ℕ) (Pass : Shapes → Type 0) (Again : Shapes → ℕ → ℕ → Type 0) : Type 0 where
  pub sum : after ≡ before + values
  pub within : before ≤ limit → after ≤ limit
  pub shallow : deep ≤ depth
  pub passes : Pass shapes
  pub again : (c : Shapes) (b d : ℕ) → Pass c → deep ≤ d → after ≤ b → Again c b d

abbrev pub depth_of : Item → ℕ
depth_of (block_item mark inner) = suc (depth_in inner)
depth_of (record_item mark) = 0
depth_of (definition_item mark) = 0

abbrev pub values_at : Item → ℕ
values_at (block_item mark inner) = values_in inner
values_at (record_item mark) = length mark.values
values_at (definition_item mark) = 0

depth_then : (x : Item) (rest : Marks) → depth_in (item_then x rest) ≡ max (depth_of x) (depth_in rest)
depth_then (block_item mark inner) rest = refl
depth_then (record_item mark) rest = omega arith
depth_then (definition_item mark) rest = omega arith

values_then : (x : Item) (rest : Marks) → values_in (item_then x rest) ≡ values_at x + values_in rest
values_then (block_item mark inner) rest = refl
values_then (record_item mark) rest = refl
values_then (definition_item mark) rest = omega arith

-- the judgement of the definitions in an item
abbrev pub PassAt : Shapes → Item → Type 0
PassAt shapes (block_item mark inner) = PassIn shapes inner
PassAt shapes (record_item mark) = Unit {0}
PassAt shapes (definition_item mark) = PassesShape shapes mark.ops

pass_then : (shapes : Shapes) (x : Item) (rest : Marks) → PassAt shapes x → PassIn shapes rest → PassIn shapes (item_then x rest)
pass_then shapes (block_item mark inner) rest one others = (one, others)
pass_then shapes (record_item mark) rest one others = others
pass_then shapes (definition_item mark) rest one others = (one, others)

then_pass : (shapes : Shapes) (x : Item) (rest : Marks) → PassIn shapes (item_then x rest) → PassAt shapes x × PassIn shapes rest
then_pass shapes (block_item mark inner) rest h = h
then_pass shapes (record_item mark) rest h = (tt, h)
then_pass shapes (definition_item mark) rest h = h

-- judged at its use each definition passes
pub all_pass : (marks : Marks) → PassIn AtUse marks
all_pass no_marks = tt
all_pass (marked_block mark inner rest) = (all_pass inner, all_pass rest)
all_pass (marked_record mark rest) = all_pass rest
all_pass (marked_definition mark rest) = (tt, all_pass rest)

-- ---- a definition

-- it passes, and is spelled under each judgement that it passes
define_passes : (shapes : Shapes) (first : ℕ) (scope : Scope) (p : ℕ) (s : List Bool) (v : DefinitionMark × Scope) → Spells (define shapes first scope) p s v → PassesShape shapes v.0.ops
unfolding define
define_passes shapes first scope p s v k =
    let d = k.5 in
    subst (λ (w : DefinitionMark × Scope). PassesShape shapes w.0.ops) (sym d.5.5.1) (definition_defines shapes _ d.0 d.2 d.4).1

define_again : (shapes c : Shapes) (first : ℕ) (scope : Scope) (p : ℕ) (s : List Bool) (v : DefinitionMark × Scope) → PassesShape c v.0.ops → Spells (define shapes first scope) p s v → Spells (define c first scope) p s v
unfolding define
define_again shapes c first scope p s v passes k =
    let d = k.5 in
    let there : PassesShape c d.2 = subst (λ (w : DefinitionMark × Scope). PassesShape c w.0.ops) d.5.5.1 passes in
    (k.0, k.1, k.2, k.3, k.4, (d.0, d.1, d.2, d.3, is_definition c _ d.0 d.2 (definition_is shapes _ d.0 d.2 d.4) there, d.5))

abbrev used_by : Round Scope Item (ℕ × Handed) → ℕ
used_by (one_more x t) = t.handed.used
used_by (last e) = e.1.used

abbrev values_by : Round Scope Item (ℕ × Handed) → ℕ
values_by (one_more x t) = values_at x
values_by (last e) = 0

abbrev depth_by : Round Scope Item (ℕ × Handed) → ℕ
depth_by (one_more x t) = depth_of x
depth_by (last e) = 0

abbrev PassBy : Round Scope Item (ℕ × Handed) → Shapes → Type 0
PassBy (one_more x t) shapes = PassAt shapes x
PassBy (last e) shapes = Unit {0}

pub leave_used : (info : Option BlockInfo) (handed : Handed) → (leave info handed).used ≡ handed.used
leave_used None handed = refl
leave_used (Some info) handed = refl

pub defined_used : (info : Option BlockInfo) (ops : List Op) (scope : Scope) → (defined info ops scope).handed.used ≡ scope.handed.used
defined_used None ops scope = refl
defined_used (Some info) ops scope = refl

pub defines_used : (shapes : Shapes) (first : ℕ) (scope : Scope) (p : ℕ) (s : List Bool) (v : DefinitionMark × Scope) → Spells (define shapes first scope) p s v → v.1.handed.used ≡ scope.handed.used
unfolding define
defines_used shapes first scope p s v k = ap (λ (y : DefinitionMark × Scope). y.1.handed.used) k.5.5.5.1 ∙ defined_used scope.info _ scope

abbrev pub BlockFitted : Shapes → (limit depth : ℕ) → Type 0
BlockFitted shapes limit depth = (first : ℕ) (handed : Handed) (p : ℕ) (s : List Bool) (v : Item × Handed) → Spells (block shapes depth limit first handed) p s v
    → Fitted shapes limit depth handed.used v.1.used (values_at v.0) (depth_of v.0) (λ c. PassAt c v.0) (λ c b d. Spells (block c d b first handed) p s v)

abbrev RoundFitted : Shapes → (limit depth : ℕ) → Scope → Round Scope Item (ℕ × Handed) → (Shapes → ℕ → ℕ → Type 0) → Type 0
RoundFitted shapes limit depth scope x Again = Fitted shapes limit depth scope.handed.used (used_by x) (values_by x) (depth_by x) (PassBy x) Again

-- an item that adds no values, whatever the limits
no_more : (shapes : Shapes) (limit depth : ℕ) (scope : Scope) (x : Round Scope Item (ℕ × Handed)) (Again : Shapes → ℕ → ℕ → Type 0) → used_by x ≡ scope.handed.used → values_by x ≡ 0 → depth_by x ≡ 0 → PassBy x shapes → ((c : Shapes) (b d : ℕ) → PassBy x c → Again c b d) → RoundFitted shapes limit depth scope x Again
no_more shapes limit depth scope x Again used values deep passes again = record { sum = omega (arith, used, values); within = λ fits. omega (arith, used, fits); shallow = omega (arith, deep); passes = passes; again = λ c b d o y z. again c b d o }

after_fitted : (shapes : Shapes) (limit depth : ℕ) → BlockFitted shapes limit depth → (h : BlockHead) (first : ℕ) (scope : Scope) (id p : ℕ) (s : List Bool) (x : Round Scope Item (ℕ × Handed))
    → Spells (item_after shapes (block shapes depth limit) h limit first scope id) p s x → RoundFitted shapes limit depth scope x (λ c b d. Spells (item_after c (block c d b) h b first scope id) p s x)
unfolding item_after nested record_after
after_fitted shapes limit depth inner h first scope id p s x (inl k) =
    let is = k.1.5.1 in
    no_more shapes limit depth scope x _ (ap used_by is ∙ leave_used scope.info scope.handed) (ap values_by is) (ap depth_by is) (subst (λ (y : Round Scope Item (ℕ × Handed)). PassBy y shapes) (sym is) tt) (λ c b d o. inl k)
after_fitted shapes limit depth inner h first scope id p s x (inr (e, inl k)) =
    let n = k.1 in
    let b = n.4.5 in
    let f = inner first scope.handed _ b.0 b.2 b.4 in
    let made = ap (λ (y : Item × Scope). y.1.handed.used) b.5.1 in
    let item = ap (λ (y : Item × Scope). y.0) b.5.1 in
    let used : used_by x ≡ b.2.1.used = ap used_by n.5.1 ∙ made in
    let values : values_by x ≡ values_at b.2.0 = ap values_by n.5.1 ∙ ap values_at item in
    let deep : depth_by x ≡ depth_of b.2.0 = ap depth_by n.5.1 ∙ ap depth_of item in
    let is : x ≡ one_more b.2.0 (record scope { handed = b.2.1 }) = n.5.1 ∙ ap (λ (y : Item × Scope). one_more y.0 y.1) b.5.1 in
    record {
      sum = omega (arith, f.sum, used, values);
      within = λ fits. omega (arith, f.within fits, used);
      shallow = omega (arith, f.shallow, deep);
      passes = subst (λ (y : Round Scope Item (ℕ × Handed)). PassBy y shapes) (sym is) f.passes;
      again = λ c b' d o y z. inr (e, inl (k.0, (n.0, n.1, n.2, n.3, (n.4.0, n.4.1, n.4.2, n.4.3, n.4.4, (b.0, b.1, b.2, b.3, f.again c b' d (subst (λ (y : Round Scope Item (ℕ × Handed)). PassBy y c) is o) (omega (arith, deep, y)) (omega (arith, used, z)), b.5)), n.5)));
    }
after_fitted shapes limit depth inner h first scope id p s x (inr (e, inr (e', inl k))) =
    let n = k.1 in
    let is = n.5.1 in
    let used = defines_used shapes first scope _ n.0 n.2 n.4 in
    no_more shapes limit depth scope x _ (ap used_by is ∙ used) (ap values_by is) (ap depth_by is)
    (subst (λ (y : Round Scope Item (ℕ × Handed)). PassBy y shapes) (sym is) (define_passes shapes first scope _ n.0 n.2 n.4))
    (λ c b d o. inr (e, inr (e', inl (k.0, (n.0, n.1, n.2, n.3, define_again shapes c first scope _ n.0 n.2 (subst (λ (y : Round Scope Item (ℕ × Handed)). PassBy y c) is o) n.4, n.5)))))
after_fitted shapes limit depth inner h first scope id p s x (inr (e, inr (e', inr k))) =
    let r = k.1 in
    let m = r.4 in
    let f = entry_fitted limit first id scope _ m.0 m.2 m.4 in
    let made = m.5.5.5.1 in
    let used : used_by x ≡ scope.handed.used + length m.2.values = ap used_by r.5.1 ∙ ap (λ (y : _ × Scope). y.1.handed.used) made in
    let values : values_by x ≡ length m.2.values = ap values_by r.5.1 ∙ ap (λ (y : RecordMark × Scope). length y.0.values) made in
    let deep : depth_by x ≡ 0 = ap depth_by r.5.1 in
    record {
      sum = omega (arith, used, values);
      within = λ fits. omega (arith, f.within fits, used);
      shallow = omega (arith, deep);
      passes = subst (λ (y : Round Scope Item (ℕ × Handed)). PassBy y shapes) (sym r.5.1) tt;
      again = λ c b d o y z. inr (e, inr (e', inr (k.0, (r.0, r.1, r.2, r.3, (m.0, m.1, m.2, m.3, f.again b (omega (arith, used, z)), m.5), r.5))));
    }

item_fitted : (shapes : Shapes) (limit depth : ℕ) → BlockFitted shapes limit depth → (h : BlockHead) (scope : Scope) (p : ℕ) (s : List Bool) (x : Round Scope Item (ℕ × Handed))
    → Spells (item shapes (block shapes depth limit) h limit scope) p s x → RoundFitted shapes limit depth scope x (λ c b d. Spells (item c (block c d b) h b scope) p s x)
unfolding item
item_fitted shapes limit depth inner h scope p s x k =
    let i = k.5 in
    let f = after_fitted shapes limit depth inner h k.2 scope i.2 _ i.1 x i.5 in
    record { sum = f.sum; within = f.within; shallow = f.shallow; passes = f.passes; again = λ c b d o y z. (k.0, k.1, k.2, k.3, k.4, (i.0, i.1, i.2, i.3, i.4, f.again c b d o y z)) }

-- ---- bodies and blocks

abbrev Body : Shapes → (limit depth : ℕ) → BlockHead → List Item → Scope → ℕ → List Bool → ℕ × Handed → Type 0
Body shapes limit depth h xs scope p s e = Rounds (λ scope p s x. Spells (item shapes (block shapes depth limit) h limit scope) p s x) xs scope p s e

body_fitted : (shapes : Shapes) (limit depth : ℕ) → BlockFitted shapes limit depth → (h : BlockHead) (xs : List Item) (scope : Scope) (p : ℕ) (s : List Bool) (e : ℕ × Handed) → Body shapes limit depth h xs scope p s e
    → Fitted shapes limit depth scope.handed.used e.1.used (values_in (marks_of xs)) (depth_in (marks_of xs)) (λ c. PassIn c (marks_of xs)) (λ c b d. Body c b d h xs scope p s e)
body_fitted shapes limit depth inner h [] scope p s e k = item_fitted shapes limit depth inner h scope p s (last e) k
body_fitted shapes limit depth inner h (x ∷ xs) scope p s e k =
    let f = item_fitted shapes limit depth inner h scope p k.0 (one_more x k.2) k.5 in
    let g = body_fitted shapes limit depth inner h xs k.2 (p + length k.0) k.1 e k.6 in
    let values = values_then x (marks_of xs) in
    let deep = depth_then x (marks_of xs) in
    record {
      sum = omega (arith, f.sum, g.sum, values);
      within = λ fits. g.within (f.within fits);
      shallow = omega (arith, f.shallow, g.shallow, deep);
      passes = pass_then shapes x (marks_of xs) f.passes g.passes;
      again = λ c b d o y z. (
        k.0,
        k.1,
        k.2,
        k.3,
        k.4,
        f.again c b d (then_pass c x (marks_of xs) o).0 (omega (arith, deep, y)) (omega (arith, g.sum, z)),
        g.again c b d (then_pass c x (marks_of xs) o).1 (omega (arith, deep, y)) z,
      );
    }

pub block_fitted : (shapes : Shapes) (limit depth : ℕ) → BlockFitted shapes limit depth
unfolding block
block_fitted shapes limit zero first handed p s v k = absurd k
block_fitted shapes limit (suc depth) first handed p s v k =
    let m = k.5 in
    let g = body_fitted shapes limit depth (block_fitted shapes limit depth) k.2 m.2.0 (enter k.2.id handed) _ m.0 m.2.1 m.4 in
    let used : v.1.used ≡ m.2.1.1.used = ap (λ (y : Item × Handed). y.1.used) m.5.1 in
    let values : values_at v.0 ≡ values_in (marks_of m.2.0) = ap (λ (y : Item × Handed). values_at y.0) m.5.1 in
    let deep : depth_of v.0 ≡ suc (depth_in (marks_of m.2.0)) = ap (λ (y : Item × Handed). depth_of y.0) m.5.1 in
    record {
      sum = omega (arith, g.sum, used, values);
      within = λ fits. omega (arith, g.within fits, used);
      shallow = omega (arith, g.shallow, deep);
      passes = subst (λ (y : Item × Handed). PassAt shapes y.0) (sym m.5.1) g.passes;
      again = λ c b d o y z. again c b d (omega (arith, deep, y)) (λ d' e. g.again c b d' (subst (λ (y : Item × Handed). PassAt c y.0) m.5.1 o) e (omega (arith, used, z)));
    }
  where
    again : (c : Shapes) (b d : ℕ) → suc (depth_in (marks_of k.5.2.0)) ≤ d → ((d' : ℕ) → depth_in (marks_of k.5.2.0) ≤ d' → Body c b d' k.2 k.5.2.0 (enter k.2.id handed) (p + length k.0) k.5.0 k.5.2.1) → Spells (block c d b first handed) p s v
    again c b zero y more = absurd (omega (arith, y))
    again c b (suc d) y more = (k.0, k.1, k.2, k.3, k.4, (k.5.0, k.5.1, k.5.2, k.5.3, more d (omega (arith, y)), k.5.5))

-- ---- streams and inputs

top_fitted : (a : Limits) (handed : Handed) (p : ℕ) (s : List Bool) (v : Item × Handed) → Spells (top_block a handed) p s v
    → Fitted a.shapes a.values a.depth handed.used v.1.used (values_at v.0) (depth_of v.0) (λ c. PassAt c v.0) (λ c x d. (b : Limits) → c ≡ b.shapes → x ≡ b.values → d ≡ b.depth → Spells (top_block b handed) p s v)
unfolding top_block
top_fitted a handed p s v k =
    let i = k.5 in
    let j = i.5 in
    let f = block_fitted a.shapes a.values a.depth k.2 handed _ j.1 v j.5 in
    record {
      sum = f.sum;
      within = f.within;
      shallow = f.shallow;
      passes = f.passes;
      again = λ c x d o y z b same e e'. (
        k.0,
        k.1,
        k.2,
        k.3,
        k.4,
        (i.0, i.1, i.2, i.3, i.4, (j.0, j.1, j.2, j.3, j.4, f.again b.shapes b.values b.depth (subst (λ (c : Shapes). PassAt c v.0) same o) (omega (arith, e', y)) (omega (arith, e, z)))),
      );
    }

-- Within limits in depth and values, and spelled under all limits that are met.
pub record Kept (a : Limits) (deep values : ℕ) (marks : Marks) (Again : Limits → Type 0) : Type 0 where
  pub deep_enough : deep ≤ a.depth
  pub few_enough : values ≤ a.values
  pub passes : PassIn a.shapes marks
  pub again : (b : Limits) → deep ≤ b.depth → values ≤ b.values → PassIn b.shapes marks → Again b

abbrev BlocksOf : Limits → List Item → Handed → ℕ → List Bool → ℕ → Type 0
BlocksOf a xs handed p r after = Things (λ handed p s x. Spells (top_block a handed) p s x) xs handed p r after

blocks_fitted : (a : Limits) (xs : List Item) (handed : Handed) (p : ℕ) (r : List Bool) (after : ℕ) → handed.used ≤ a.values → BlocksOf a xs handed p r after
    → Kept a (depth_in (marks_of xs)) (handed.used + values_in (marks_of xs)) (marks_of xs) (λ b. BlocksOf b xs handed p r after)
blocks_fitted a [] handed p r after fits k = record { deep_enough = omega arith; few_enough = omega (arith, fits); passes = tt; again = λ b y z o. k }
blocks_fitted a (x ∷ xs) handed p r after fits k =
    let f = top_fitted a handed p k.0 (x, k.2) k.5 in
    let g = blocks_fitted a xs k.2 (p + length k.0) k.1 after (f.within fits) k.6 in
    let values = values_then x (marks_of xs) in
    let deep = depth_then x (marks_of xs) in
    record {
      deep_enough = omega (arith, f.shallow, g.deep_enough, deep);
      few_enough = omega (arith, f.sum, g.few_enough, values);
      passes = pass_then a.shapes x (marks_of xs) f.passes g.passes;
      again = λ b y z o.
          let both = then_pass b.shapes x (marks_of xs) o in
          (k.0, k.1, k.2, k.3, k.4, f.again b.shapes b.values b.depth both.0 (omega (arith, deep, y)) (omega (arith, f.sum, values, z)) b refl refl refl, g.again b (omega (arith, deep, y)) (omega (arith, f.sum, values, z)) both.1);
    }

stream_fitted : (a : Limits) (head : Head) (p : ℕ) (r : List Bool) (m : Marked) → SpellsAll (stream a head) p r m → Kept a (depth_in m.blocks) (values_in m.blocks) m.blocks (λ b. SpellsAll (stream b head) p r m)
unfolding stream top_blocks
stream_fitted a head p r m k =
    let g = blocks_fitted a k.0.0 nothing_handed p r k.0.1 (omega arith) k.1 in
    let same : m.blocks ≡ marks_of k.0.0 = ap (λ (x : Marked). x.blocks) k.2 in
    let deep = ap depth_in same in
    let values = ap values_in same in
    record { deep_enough = omega (arith, deep, g.deep_enough); few_enough = omega (arith, values, g.few_enough); passes = subst (PassIn a.shapes) (sym same) g.passes; again = λ b y z o. (k.0, g.again b (omega (arith, deep, y)) (omega (arith, values, z)) (subst (PassIn b.shapes) same o), k.2) }

wrapped_fitted : (a : Limits) (p : ℕ) (r : List Bool) (m : Marked) → SpellsAll (wrapped a) p r m → Kept a (depth_in m.blocks) (values_in m.blocks) m.blocks (λ b. SpellsAll (wrapped b) p r m)
unfolding wrapped
wrapped_fitted a p r m k =
    let i = k.5 in
    let j = i.4 in
    let g = stream_fitted a (record { magic = j.2; wrapper = Some k.2 }) _ j.1 m j.5 in
    record { deep_enough = g.deep_enough; few_enough = g.few_enough; passes = g.passes; again = λ b y z o. (k.0, k.1, k.2, k.3, k.4, (i.0, i.1, i.2, i.3, (j.0, j.1, j.2, j.3, j.4, g.again b y z o))) }

input_fitted : (a : Limits) (p : ℕ) (r : List Bool) (m : Marked) → SpellsAll (input a) p r m → Kept a (depth_in m.blocks) (values_in m.blocks) m.blocks (λ b. SpellsAll (input b) p r m)
unfolding input
input_fitted a p r m (front, others, magic, parts, spelled, inl k) =
    let g = wrapped_fitted a _ others m k.1 in
    record { deep_enough = g.deep_enough; few_enough = g.few_enough; passes = g.passes; again = λ b y z o. (front, others, magic, parts, spelled, inl (k.0, g.again b y z o)) }
input_fitted a p r m (front, others, magic, parts, spelled, inr k) =
    let g = stream_fitted a (record { magic = magic; wrapper = None }) _ others m k.1 in
    record { deep_enough = g.deep_enough; few_enough = g.few_enough; passes = g.passes; again = λ b y z o. (front, others, magic, parts, spelled, inr (k.0, g.again b y z o)) }

pub limits_judged : (a b : Limits) (bytes : List ℕ) (m : Marked) → SpellsInput a bytes m → (SpellsInput b bytes m ↔ ((length bytes ≤ b.bytes) × (depth_in m.blocks ≤ b.depth) × (values_in m.blocks ≤ b.values) × PassIn b.shapes m.blocks))
limits_judged a b bytes m h =
    let g = input_fitted a 0 (bits_of_bytes bytes) m h.spelled in
    (λ k. (let f = input_fitted b 0 (bits_of_bytes bytes) m k.spelled in (k.fits, f.deep_enough, f.few_enough, f.passes)), λ k. record { fits = k.0; spelled = g.again b k.1 k.2 k.3 })
