-- The tree that an input spells is fit.
use Rattle.std.proofs.Common.{◌≡◌, ℕ, zero, suc, ◌+◌, ◌-◌, ◌<◌, ◌≤◌, ◌^◌, ◌≢◌, Bool, true, false, eqb, ltb, List, [], ◌∷◌, ◌++◌, length, get_or, Option, Some, None, refl, sym, ap, subst, ◌∙◌, arith, inl, inr}
use Rattle.std.specs.Prelude.{if◌then◌else◌, is_some, is_none}
use Rattle.std.specs.List.{AllByRecursion}
use Rattle.std.proofs.lemmas.Bool.{ltb-true, eqb-false, not-true}
use Rattle.bit_grammar.specs.declared.shapes.Shapes.{Shapes}
use Rattle.bit_grammar.specs.declared.op.Op.{Op}
use Rattle.bit_grammar.specs.declared.op.Op.TheVariants.{Literal, Fixed, Vbr, Array, Char6, Blob}
use Rattle.bit_grammar.specs.Bits.{number, bits_of_bytes}
use Rattle.bit_grammar.specs.Grammar.{Grammar, Round, one_more, last, repeat, Rounds, Spells}
use Rattle.bit_grammar.specs.Fields.{fixed, vbr, byte}
use Rattle.bit_grammar.specs.Terms.{character, CodeAndValues, Table, defined_at, BlockInfo, info_for, Head, Marked}
use Rattle.bit_grammar.specs.FormatDefinition.{HasLawfulValue}
use Rattle.bit_grammar.specs.Record.{unabbreviated, scalar, values_of, abbreviated}
use Rattle.bit_grammar.specs.Forest.{Forest, empty, a_record, forest_depth, forest_values, DescribesBlocks, FitForest, AreBlocks, wrapper_magic, Fit}
use Rattle.bit_grammar.specs.Marks.{RecordMark, DefinitionMark, Marks, no_marks, marked_block, marked_record, marked_definition, Item, record_item, definition_item, item_then, marks_of, forest_of, depth_in, values_in}
use Rattle.bit_grammar.specs.Blocks.{Limits, Handed, Scope, nothing_handed, enter, leave, made_for, defined, BlockHead, block_id, block_head, define, by_definition, entry, describe, record_after, nested, item_after, item, block, top_block}
use Rattle.bit_grammar.specs.Whole.{Things, SpellsAll}
use Rattle.bit_grammar.specs.Input.{tree_of, is_wrapped, inner_magic, top_blocks, stream, wrapped, input, SpellsInput}
use Rattle.bit_grammar.specs.Normal.{Capped}
use Rattle.bit_grammar.proofs.WholeInputs.Limits.{limits_judged}
use Rattle.bit_grammar.proofs.Bits.Numbers.{number_below, pow_mono}
use Rattle.bit_grammar.proofs.Words.Fields.{sum_is, fixed_is, vbr_is, char6_is}
use Rattle.bit_grammar.proofs.Words.Definitions.{definition_defines}

-- ---- values have 64 bits

abbrev Is64 : ℕ → Type 0
Is64 v = v < 2 ^ 64

fixed_below : (n p : ℕ) (s : List Bool) (v : ℕ) → Spells (fixed n) p s v → v < 2 ^ n
fixed_below n p s v k =
    let f = fixed_is n p s v k in
    subst (λ (x : ℕ). x < 2 ^ n) (sym (f.value ∙ sum_is s)) (subst (λ (x : ℕ). number s < 2 ^ x) f.length (number_below s))

fixed_64 : (n p : ℕ) (s : List Bool) (v : ℕ) → n ≤ 64 → Spells (fixed n) p s v → v < 2 ^ 64
fixed_64 n p s v small k = omega (arith, fixed_below n p s v k, pow_mono n 64 small)

vbr_64 : (n p : ℕ) (s : List Bool) (v : ℕ) → n ≢ 1 → Spells (vbr n) p s v → v < 2 ^ 64
unfolding vbr
vbr_64 zero p s v some k = omega (arith, k.1)
vbr_64 (suc zero) p s v some k = absurd (some refl)
vbr_64 (suc (suc n)) p s v some k = (vbr_is (suc (suc n)) p s v (omega arith) k).below

char_near : (c : ℕ) → character c ≤ c + 97
char_near c = go (ltb c 26) (ltb c 52) (ltb c 62) (eqb c 62)
  where
    go : (a b d e : Bool) → (if a then 97 + c else if b then 65 + (c - 26) else if d then 48 + (c - 52) else if e then 46 else 95) ≤ c + 97
    go true b d e = omega arith
    go false true d e = omega arith
    go false false true e = omega arith
    go false false false true = omega arith
    go false false false false = omega arith

scalar_64 : (op : Op) (p : ℕ) (s : List Bool) (v : ℕ) → HasLawfulValue op → Spells (scalar op) p s v → v < 2 ^ 64
unfolding scalar
scalar_64 (Literal n) p s v ok k = omega (arith, k.1, ok)
scalar_64 (Fixed n) p s v ok k = fixed_64 n p s v (omega (arith, ok)) k
scalar_64 (Vbr n) p s v ok k = vbr_64 n p s v ok.1 k
scalar_64 Array p s v ok k = omega (arith, k.1)
scalar_64 Char6 p s v ok k =
    let c = char6_is p s v k in
    let below : c.place < 2 ^ 6 = subst (λ (x : ℕ). x < 2 ^ 6) (sym (c.bits.value ∙ sum_is s)) (subst (λ (x : ℕ). number s < 2 ^ x) c.bits.length (number_below s)) in
    omega (arith, c.value, char_near c.place, below)
scalar_64 Blob p s v ok k = omega (arith, k.1)

repeat_64 : (n : ℕ) (rule : Grammar ℕ) → ((p : ℕ) (s : List Bool) (v : ℕ) → Spells rule p s v → v < 2 ^ 64) → (p : ℕ) (s : List Bool) (vs : List ℕ) → Spells (repeat n rule) p s vs → AllByRecursion Is64 vs
repeat_64 zero rule one p s vs k = subst (AllByRecursion Is64) (sym k.1) tt
repeat_64 (suc n) rule one p s vs k = subst (AllByRecursion Is64) (sym k.5.5.1) (one p k.0 k.2 k.4, repeat_64 n rule one _ k.5.0 k.5.2 k.5.4)

values_64 : (room : ℕ) (ops : List Op) (p : ℕ) (s : List Bool) (vs : List ℕ) → AllByRecursion HasLawfulValue ops → Spells (values_of room ops) p s vs → AllByRecursion Is64 vs
unfolding values_of byte
values_64 room [] p s vs ok k = subst (AllByRecursion Is64) (sym k.1) tt
values_64 room (Array ∷ []) p s vs ok k = subst (AllByRecursion Is64) (sym k.1) tt
values_64 room (Array ∷ element ∷ others) p s vs ok k = repeat_64 k.2 (scalar element) (λ p s v h. scalar_64 element p s v ok.1.0 h) _ k.1 vs k.5
values_64 room (Blob ∷ others) p s vs ok k = (let v = k.5.5 in subst (AllByRecursion Is64) (sym v.5.5.1) (repeat_64 k.2 byte (λ p s v h. fixed_64 8 p s v (omega arith) h) _ v.0 v.2 v.4))
values_64 room (Literal n ∷ others) p s vs ok k = subst (AllByRecursion Is64) (sym k.5.5.1) (scalar_64 (Literal n) p k.0 k.2 ok.0 k.4, values_64 room others _ k.5.0 k.5.2 ok.1 k.5.4)
values_64 room (Fixed n ∷ others) p s vs ok k = subst (AllByRecursion Is64) (sym k.5.5.1) (scalar_64 (Fixed n) p k.0 k.2 ok.0 k.4, values_64 room others _ k.5.0 k.5.2 ok.1 k.5.4)
values_64 room (Vbr n ∷ others) p s vs ok k = subst (AllByRecursion Is64) (sym k.5.5.1) (scalar_64 (Vbr n) p k.0 k.2 ok.0 k.4, values_64 room others _ k.5.0 k.5.2 ok.1 k.5.4)
values_64 room (Char6 ∷ others) p s vs ok k = subst (AllByRecursion Is64) (sym k.5.5.1) (scalar_64 Char6 p k.0 k.2 ok.0 k.4, values_64 room others _ k.5.0 k.5.2 ok.1 k.5.4)

abbrev Entry64 : CodeAndValues → Type 0
Entry64 e = (e.code < 2 ^ 64) × AllByRecursion Is64 e.values

unabbreviated_64 : (room p : ℕ) (s : List Bool) (e : CodeAndValues) → Spells (unabbreviated room) p s e → Entry64 e
unfolding unabbreviated
unabbreviated_64 room p s e k =
    let v = k.5.5 in
    subst Entry64 (sym v.5.1) (vbr_64 6 p k.0 k.2 (λ x. absurd (omega (arith, x))) k.4, repeat_64 k.5.2 (vbr 6) (λ p s v h. vbr_64 6 p s v (λ x. absurd (omega (arith, x))) h) _ v.0 v.2 v.4)

abbreviated_64 : (start room : ℕ) (ops : List Op) (p : ℕ) (s : List Bool) (e : CodeAndValues) → AllByRecursion HasLawfulValue ops → Spells (abbreviated start room ops) p s e → Entry64 e
unfolding abbreviated
abbreviated_64 start room [] p s e ok k = subst Entry64 (sym k.1) (omega arith, tt)
abbreviated_64 start room (op ∷ others) p s e ok k =
    let c = k.5 in
    let v = c.5 in
    subst Entry64 (sym v.5.1) (scalar_64 op _ c.0 c.2 ok.0 c.4, values_64 _ others _ v.0 v.2 ok.1 v.4)

-- ---- definitions in force are lawful

abbrev AreLawful : List (List Op) → Type 0
AreLawful definitions = AllByRecursion (λ ops. AllByRecursion HasLawfulValue ops) definitions

abbrev IsLawfulTable : Table → Type 0
IsLawfulTable table = (id : ℕ) → AreLawful (table id)

abbrev IsLawfulInfo : Option BlockInfo → Type 0
IsLawfulInfo None = Unit {0}
IsLawfulInfo (Some info) = IsLawfulTable info.made

record LawfulScope (scope : Scope) : Type 0 where
  definitions : AreLawful scope.definitions
  info : IsLawfulInfo scope.info
  table : IsLawfulTable scope.handed.table

one_of : (definitions : List (List Op)) (i : ℕ) → AreLawful definitions → AllByRecursion HasLawfulValue (get_or definitions i [])
one_of [] i ok = tt
one_of (ops ∷ others) zero ok = ok.0
one_of (ops ∷ others) (suc i) ok = one_of others i ok.1

one_added : (definitions : List (List Op)) (ops : List Op) → AreLawful definitions → AllByRecursion HasLawfulValue ops → AreLawful (definitions ++ ops ∷ [])
one_added [] ops ok lawful = (lawful, tt)
one_added (first ∷ others) ops ok lawful = (ok.0, one_added others ops ok.1 lawful)

added_at : (id : ℕ) (ops : List Op) (table : Table) → IsLawfulTable table → AllByRecursion HasLawfulValue ops → IsLawfulTable (defined_at id ops table)
added_at id ops table ok lawful other = go (eqb other id)
  where
    go : (b : Bool) → AreLawful (if b then table other ++ ops ∷ [] else table other)
    go true = one_added (table other) ops (ok other) lawful
    go false = ok other

made_lawful : (described : Option ℕ) (ops : List Op) (made : Table) → IsLawfulTable made → AllByRecursion HasLawfulValue ops → IsLawfulTable (made_for described ops made)
made_lawful None ops made ok lawful = ok
made_lawful (Some id) ops made ok lawful = added_at id ops made ok lawful

defined_lawful : (info : Option BlockInfo) (ops : List Op) (scope : Scope) → scope.info ≡ info → LawfulScope scope → AllByRecursion HasLawfulValue ops → LawfulScope (defined info ops scope)
defined_lawful None ops scope e ok lawful = record { definitions = one_added scope.definitions ops ok.definitions lawful; info = ok.info; table = ok.table }
defined_lawful (Some info) ops scope e ok lawful = record { definitions = ok.definitions; info = made_lawful info.described ops info.made (subst IsLawfulInfo e ok.info) lawful; table = ok.table }

leave_lawful : (info : Option BlockInfo) (handed : Handed) → IsLawfulInfo info → IsLawfulTable handed.table → IsLawfulTable (leave info handed).table
leave_lawful None handed ok table = table
leave_lawful (Some info) handed ok table = ok

info_lawful : (id : ℕ) → IsLawfulInfo (info_for id)
info_lawful id = go (eqb id 0)
  where
    go : (b : Bool) → IsLawfulInfo (if b then Some (record { described = None; made = λ other. [] }) else None)
    go true = λ other. tt
    go false = tt

-- ---- items

-- the items of a BLOCKINFO block describe blocks
abbrev InfoFit : Option BlockInfo → Forest → Type 0
InfoFit None f = Unit {0}
InfoFit (Some info) f = DescribesBlocks (is_some info.described) f

abbrev BodyFit : Option BlockInfo → Forest → Type 0
BodyFit info f = FitForest f × InfoFit info f

-- before fit items, the item makes fit items
abbrev Adds : Option BlockInfo → Item → Option BlockInfo → Type 0
Adds info x info' = (ms : Marks) → BodyFit info' (forest_of ms) → BodyFit info (forest_of (item_then x ms))

-- a block, before others
abbrev Holds : Item → Type 0
Holds x = (ms : Marks) → (FitForest (forest_of ms) → FitForest (forest_of (item_then x ms))) × (AreBlocks (forest_of ms) → AreBlocks (forest_of (item_then x ms)))

abbrev RoundFit : Scope → Round Scope Item (ℕ × Handed) → Type 0
RoundFit scope (one_more x t) = LawfulScope t × Adds scope.info x t.info
RoundFit scope (last e) = IsLawfulTable e.1.table

nothing_fit : (info : Option BlockInfo) → InfoFit info empty
nothing_fit None = tt
nothing_fit (Some info) = tt

entry_64 : (limit first id : ℕ) (scope : Scope) (p : ℕ) (s : List Bool) (e : CodeAndValues) → LawfulScope scope → Spells (entry (limit - scope.handed.used) first id scope.definitions) p s e → Entry64 e
unfolding entry by_definition
entry_64 limit first id scope p s e ok (inl k) = unabbreviated_64 _ p s e k.1
entry_64 limit first id scope p s e ok (inr (other, inl k)) = abbreviated_64 first _ (get_or scope.definitions (id - 4) []) _ _ e (one_of scope.definitions (id - 4) ok.definitions) k.1.5
entry_64 limit first id scope p s e ok (inr (other, inr k)) = absurd k.1

by_true : (b x y : Bool) → b ≡ true → x ≡ true → (if b then x else y) ≡ true
by_true b x y e ok = rw e ok

by_false : (b x y : Bool) → b ≡ false → y ≡ true → (if b then x else y) ≡ true
by_false b x y e ok = rw e ok

record DescribeFit (info : Option BlockInfo) (e : CodeAndValues) (info' : Option BlockInfo) : Type 0 where
  lawful : IsLawfulInfo info → IsLawfulInfo info'
  adds : (f : Forest) → Entry64 e → BodyFit info' f → BodyFit info (a_record e.code e.values f)

describe_fit : (info : Option BlockInfo) (first : ℕ) (e : CodeAndValues) (p : ℕ) (s : List Bool) (info' : Option BlockInfo) → Spells (describe info first e) p s info' → DescribeFit info e info'
unfolding describe
describe_fit None first e p s info' k = record { lawful = λ ok. subst IsLawfulInfo (sym k.1) tt; adds = λ f small fit. ((small.0, small.1, fit.0), tt) }
describe_fit (Some info) first e p s info' (inl k) =
    let is = k.1.5.1 in
    record {
      lawful = λ ok. subst IsLawfulInfo (sym is) ok;
      adds = λ f small fit. ((small.0, small.1, fit.0), (by_true (eqb e.code 1) _ _ k.0 k.1.4.1, subst (λ (i : Option BlockInfo). InfoFit i f) is fit.1));
    }
describe_fit (Some info) first e p s info' (inr k) =
    let is = k.1.5.1 in
    record {
      lawful = λ ok. subst IsLawfulInfo (sym is) ok;
      adds = λ f small fit. ((small.0, small.1, fit.0), (by_false (eqb e.code 1) _ _ k.0 k.1.4.1, subst (λ (b : Bool). DescribesBlocks b f) k.1.4.1 (subst (λ (i : Option BlockInfo). InfoFit i f) is fit.1)));
    }

nested_adds : (info : Option BlockInfo) (x : Item) → is_none info ≡ true → Holds x → Adds info x info
nested_adds None x ok holds ms fit = ((holds ms).0 fit.0, tt)
nested_adds (Some info) x ok holds ms fit = absurd cc

defined_adds : (info : Option BlockInfo) (ops : List Op) (scope : Scope) → scope.info ≡ info → (mark : DefinitionMark) → Adds scope.info (definition_item mark) (defined info ops scope).info
defined_adds None ops scope e mark ms fit = fit
defined_adds (Some info) ops scope e mark ms fit = subst (λ (i : Option BlockInfo). BodyFit i (forest_of ms)) (sym e) fit

abbrev BlockFit : Shapes → (limit depth : ℕ) → Type 0
BlockFit shapes limit depth = (first : ℕ) (handed : Handed) (p : ℕ) (s : List Bool) (v : Item × Handed) → IsLawfulTable handed.table → Spells (block shapes depth limit first handed) p s v → IsLawfulTable v.1.table × Holds v.0

after_fit : (shapes : Shapes) (limit depth : ℕ) → BlockFit shapes limit depth → (h : BlockHead) (first : ℕ) (scope : Scope) (id p : ℕ) (s : List Bool) (x : Round Scope Item (ℕ × Handed)) → LawfulScope scope → Spells (item_after shapes (block shapes depth limit) h limit first scope id) p s x → RoundFit scope x
unfolding item_after nested define record_after
after_fit shapes limit depth inner h first scope id p s x ok (inl k) = subst (RoundFit scope) (sym k.1.5.1) (leave_lawful scope.info scope.handed ok.info ok.table)
after_fit shapes limit depth inner h first scope id p s x ok (inr (other, inl k)) =
    let n = k.1 in
    let b = n.4.5 in
    let f = inner first scope.handed _ b.0 b.2 ok.table b.4 in
    let is = n.5.1 ∙ ap (λ (y : Item × Scope). one_more y.0 y.1) b.5.1 in
    subst (RoundFit scope) (sym is) (record { definitions = ok.definitions; info = ok.info; table = f.0 }, nested_adds scope.info b.2.0 n.4.4.1 f.1)
after_fit shapes limit depth inner h first scope id p s x ok (inr (other, inr (other', inl k))) =
    let d = k.1.4 in
    let ops = d.5.2 in
    let lawful = (definition_defines shapes _ d.5.0 ops d.5.4).0.values in
    let is = k.1.5.1 ∙ ap (λ (y : DefinitionMark × Scope). one_more (definition_item y.0) y.1) d.5.5.5.1 in
    subst (RoundFit scope) (sym is) (defined_lawful scope.info ops scope refl ok lawful, defined_adds scope.info ops scope refl (record { ops = ops; first = first; after = d.5.5.2 }))
after_fit shapes limit depth inner h first scope id p s x ok (inr (other, inr (other', inr k))) =
    let r = k.1 in
    let m = r.4 in
    let d = m.5.5 in
    let small = entry_64 limit first id scope _ m.0 m.2 ok m.4 in
    let f = describe_fit scope.info first m.2 _ d.0 d.2 d.4 in
    let is = r.5.1 ∙ ap (λ (y : RecordMark × Scope). one_more (record_item y.0) y.1) d.5.1 in
    subst (RoundFit scope) (sym is) (record { definitions = ok.definitions; info = f.lawful ok.info; table = ok.table }, λ ms fit. f.adds (forest_of ms) small fit)

-- ---- bodies and blocks

body_fit : (shapes : Shapes) (limit depth : ℕ) → BlockFit shapes limit depth → (h : BlockHead) (xs : List Item) (scope : Scope) (p : ℕ) (s : List Bool) (e : ℕ × Handed) → LawfulScope scope
    → Rounds (λ scope p s x. Spells (item shapes (block shapes depth limit) h limit scope) p s x) xs scope p s e → IsLawfulTable e.1.table × BodyFit scope.info (forest_of (marks_of xs))
unfolding item
body_fit shapes limit depth inner h [] scope p s e ok k = (after_fit shapes limit depth inner h k.2 scope k.5.2 _ k.5.1 (last e) ok k.5.5, (tt, nothing_fit scope.info))
body_fit shapes limit depth inner h (x ∷ xs) scope p s e ok k =
    let i = k.5 in
    let f = after_fit shapes limit depth inner h i.2 scope i.5.2 _ i.5.1 (one_more x k.2) ok i.5.5 in
    let g = body_fit shapes limit depth inner h xs k.2 (p + length k.0) k.1 e f.0 k.6 in
    (g.0, f.1 (marks_of xs) g.1)

id_below : (p : ℕ) (s : List Bool) (id : ℕ) → Spells block_id p s id → id < 2 ^ 32
unfolding block_id
id_below p s id k = (let j = k.5.5 in subst (λ (n : ℕ). n < 2 ^ 32) (sym j.5.1) (ltb-true _ _ j.4.1))

head_below : (p : ℕ) (s : List Bool) (h : BlockHead) → Spells block_head p s h → h.id < 2 ^ 32
unfolding block_head
head_below p s h k = subst (λ (n : ℕ). n < 2 ^ 32) (sym (ap (λ (x : BlockHead). x.id) k.5.5.5.5.5.5.1)) (id_below _ k.0 k.2 k.4)

pub block_fit : (shapes : Shapes) (limit depth : ℕ) → BlockFit shapes limit depth
unfolding block
block_fit shapes limit zero first handed p s v ok k = absurd k
block_fit shapes limit (suc depth) first handed p s v ok k =
    let m = k.5 in
    let g = body_fit shapes limit depth (block_fit shapes limit depth) k.2 m.2.0 (enter k.2.id handed) _ m.0 m.2.1 (record { definitions = ok k.2.id; info = info_lawful k.2.id; table = ok }) m.4 in
    let inner = forest_of (marks_of m.2.0) in
    let below = head_below _ k.0 k.2 k.4 in
    subst (λ (w : Item × Handed). IsLawfulTable w.1.table × Holds w.0) (sym m.5.1)
    (g.0, λ ms. (λ fit. (below, (λ e. subst (λ (n : ℕ). InfoFit (info_for n) inner) e g.1.1), g.1.0, fit), λ blocks. blocks))

-- ---- the input

things_fit : (limits : Limits) (xs : List Item) (handed : Handed) (p : ℕ) (r : List Bool) (after : ℕ) → IsLawfulTable handed.table → Things (λ handed p s x. Spells (top_block limits handed) p s x) xs handed p r after
    → FitForest (forest_of (marks_of xs)) × AreBlocks (forest_of (marks_of xs))
unfolding top_block
things_fit limits [] handed p r after ok k = (tt, tt)
things_fit limits (x ∷ xs) handed p r after ok k =
    let j = k.5.5.5 in
    let f = block_fit limits.shapes limits.values limits.depth k.5.2 handed _ j.1 (x, k.2) ok j.5 in
    let g = things_fit limits xs k.2 (p + length k.0) k.1 after f.0 k.6 in
    let holds = f.1 (marks_of xs) in
    (holds.0 g.0, holds.1 g.1)

-- the depth and the number of values of the tree are those of the marks
pub depth_kept : (m : Marks) → forest_depth (forest_of m) ≡ depth_in m
depth_kept no_marks = refl
depth_kept (marked_block mark inner rest) = rw (depth_kept inner, depth_kept rest) refl
depth_kept (marked_record mark rest) = depth_kept rest
depth_kept (marked_definition mark rest) = depth_kept rest

pub values_kept : (m : Marks) → forest_values (forest_of m) ≡ values_in m
values_kept no_marks = refl
values_kept (marked_block mark inner rest) = rw (values_kept inner, values_kept rest) refl
values_kept (marked_record mark rest) = ap (λ (n : ℕ). length mark.values + n) (values_kept rest)
values_kept (marked_definition mark rest) = values_kept rest

record StreamFit (m : Marked) : Type 0 where
  blocks : AreBlocks (forest_of m.blocks)
  fit : FitForest (forest_of m.blocks)

stream_fit : (limits : Limits) (head : Head) (p : ℕ) (r : List Bool) (m : Marked) → SpellsAll (stream limits head) p r m → StreamFit m × (m.head ≡ head)
unfolding stream top_blocks
stream_fit limits head p r m k =
    let g = things_fit limits k.0.0 nothing_handed p r k.0.1 (λ id. tt) k.1 in
    subst (λ (x : Marked). StreamFit x × (x.head ≡ head)) (sym k.2) (record { blocks = g.1; fit = g.0 }, refl)

is_bare : (magic : ℕ) → is_wrapped magic ≡ false → magic ≢ wrapper_magic
is_bare magic e = eqb-false magic wrapper_magic e

inner_bare : (p : ℕ) (s : List Bool) (magic : ℕ) → Spells inner_magic p s magic → (magic < 2 ^ 32) × (magic ≢ wrapper_magic)
unfolding inner_magic
inner_bare p s magic k =
    let v = k.5 in
    let j = v.5 in
    subst (λ (n : ℕ). (n < 2 ^ 32) × (n ≢ wrapper_magic)) (sym j.5.1) (fixed_below 32 _ v.0 v.2 v.4, is_bare v.2 (not-true _ j.4.1))

record InputFit (m : Marked) : Type 0 where
  magic : m.head.magic < 2 ^ 32
  bare : m.head.magic ≢ wrapper_magic
  stream : StreamFit m

input_fit : (limits : Limits) (p : ℕ) (r : List Bool) (m : Marked) → SpellsAll (input limits) p r m → InputFit m
unfolding input wrapped
input_fit limits p r m (front, others, magic, parts, spelled, inl k) =
    let i = k.1.5 in
    let j = i.4 in
    let own = inner_bare _ j.0 j.2 j.4 in
    let f = stream_fit limits _ _ j.1 m j.5 in
    let same = ap (λ (h : Head). h.magic) f.1 in
    record { magic = subst (λ (n : ℕ). n < 2 ^ 32) (sym same) own.0; bare = subst (λ (n : ℕ). n ≢ wrapper_magic) (sym same) own.1; stream = f.0 }
input_fit limits p r m (front, others, magic, parts, spelled, inr k) =
    let f = stream_fit limits _ _ others m k.1 in
    let same = ap (λ (h : Head). h.magic) f.1 in
    record { magic = subst (λ (n : ℕ). n < 2 ^ 32) (sym same) (fixed_below 32 p front magic spelled); bare = subst (λ (n : ℕ). n ≢ wrapper_magic) (sym same) (is_bare magic k.0); stream = f.0 }

pub fit_of_spelled : (limits : Limits) (bytes : List ℕ) (m : Marked) → Capped limits → SpellsInput limits bytes m → Fit (tree_of m)
fit_of_spelled limits bytes m capped h =
    let f = input_fit limits 0 (bits_of_bytes bytes) m h.spelled in
    let within = (limits_judged limits limits bytes m h).0 h in
    record { magic = f.magic; bare = f.bare; blocks = f.stream.blocks; fit = f.stream.fit; depth = omega (arith, depth_kept m.blocks, within.1, capped.depth) }
