-- The rules spell each block in the words of the format, within limits that it keeps to.
use Rattle.std.proofs.Common.{◌≡◌, ℕ, zero, suc, ◌+◌, ◌*◌, ◌≤◌, ◌<◌, Bool, false, eqb, List, [], ◌∷◌, ◌++◌, length, Option, Some, None, refl, sym, ap, subst, ◌∙◌, append_assoc, arith, inl, inr}
use Rattle.std.proofs.lemmas.Bool.{ne_eqb}
use Rattle.std.proofs.lemmas.List.{length-append}
use Rattle.bit_grammar.specs.declared.shapes.Shapes.{Shapes}
use Rattle.bit_grammar.specs.declared.reason.Reason.TheVariants.{Truncated}
use Rattle.bit_grammar.specs.Grammar.{Grammar, one_more, last, at, rounds, Rounds, Spells}
use Rattle.bit_grammar.specs.FormatFields.{IsFixed, IsPadding}
use Rattle.bit_grammar.specs.Terms.{CodeAndValues, Table, BlockInfo}
use Rattle.bit_grammar.specs.Marks.{BlockMark, RecordMark, DefinitionMark, Marks, no_marks, marked_block, marked_record, marked_definition, Item, block_item, record_item, definition_item, marks_of, depth_in, values_in}
use Rattle.bit_grammar.specs.Blocks.{Handed, Scope, enter, leave, defined, BlockHead, nested, item_after, item, block}
use Rattle.bit_grammar.specs.FormatDefinition.{PassesShape}
use Rattle.bit_grammar.specs.FormatBlocks.{Context, top_with, made_or, HoldsDefinable, IsDefine, IsRecord, IsNote, AreItems, PassIn}
use Rattle.bit_grammar.proofs.Words.Fields.{is_fixed}
use Rattle.bit_grammar.proofs.Readings.Items.{item_takes}
use Rattle.bit_grammar.proofs.WholeInputs.Limits.{defined_used}
use Rattle.bit_grammar.proofs.NormalForms.SpelledParts.{Spelled, then_spelled, then_last, given, here_spelled, judge_spelled, first_chosen, other_chosen, moved}
use Rattle.bit_grammar.proofs.Words.Contexts.{context_of, scope_in, is_no, LawfulContext, entered_lawful, table_lawful, defined_lawful, described_lawful, items_lawful}
use Rattle.bit_grammar.proofs.Words.Heads.{HeadIs, is_head, is_end}
use Rattle.bit_grammar.proofs.Words.Entries.{is_define, noted, is_note}
use Rattle.bit_grammar.proofs.Words.Marked.{items_of, marks_again, BlockAfter, without_id}

-- ---- one item

-- a block in a block, after its id
nested_spelled : (shapes : Shapes) (inner : ℕ → Handed → Grammar (Item × Handed)) (h : BlockHead) (limit : ℕ) (scope : Scope) (p : ℕ) (enter rest : List Bool) (x : Item) (handed : Handed) → scope.info ≡ None → IsFixed h.width 1 enter
    → Spelled (inner p scope.handed) (p + length enter) rest (x, handed) → Spelled (item shapes inner h limit scope) p (enter ++ rest) (one_more x (record scope { handed = handed }))
unfolding item item_after nested
nested_spelled shapes inner h limit scope p enter rest x handed none is one =
    here_spelled _ (then_spelled _ (record { is = is_fixed h.width p enter 1 is })
    (other_chosen _ refl (first_chosen _ refl
    (then_last _ (judge_spelled _ _ _ (is_no scope.info none) (then_last _ one given)) given))))

define_spelled : (shapes : Shapes) (inner : ℕ → Handed → Grammar (Item × Handed)) (h : BlockHead) (limit : ℕ) (scope : Scope) (p : ℕ) (s : List Bool) (mark : DefinitionMark) (new : Context) → PassesShape shapes mark.ops → IsDefine (context_of h.width scope) p mark s new
    → (new ≡ context_of h.width (defined scope.info mark.ops scope)) × Spelled (item shapes inner h limit scope) p s (one_more (definition_item mark) (defined scope.info mark.ops scope))
unfolding item item_after
define_spelled shapes inner h limit scope p s mark new passes k =
    let head = k.0.0 in
    let rest = k.0.1 in
    let parts = k.0.2 in
    let d = is_define shapes p h.width scope (p + length head) rest mark new passes (record { spelled = k.0.4; defines = k.1; begins = k.2; after = omega (arith, k.3, ap length parts, length-append head rest) }) in (
      d.0,
      subst (λ (t : List Bool). Spelled (item shapes inner h limit scope) p t (one_more (definition_item mark) (defined scope.info mark.ops scope))) (sym parts)
          (here_spelled _ (then_spelled _ (record { is = is_fixed h.width p head 2 k.0.3 })
          (other_chosen _ refl (other_chosen _ refl (first_chosen _ refl (then_last _ d.1 given)))))),
    )

record_id : (c : Context) (id p : ℕ) (e : CodeAndValues) (s : List Bool) → IsRecord c id p e s → 3 ≤ id
record_id c id p e s (inl k) = omega (arith, k.0)
record_id c id p e s (inr k) = omega (arith, k.0)

differs : (a b : ℕ) → b < a → eqb a b ≡ false
differs a b more = ne_eqb _ _ (λ e. absurd (omega (arith, more, e)))

note_spelled : (shapes : Shapes) (inner : ℕ → Handed → Grammar (Item × Handed)) (h : BlockHead) (limit : ℕ) (scope : Scope) (p : ℕ) (s : List Bool) (mark : RecordMark) (new : Context) → LawfulContext (context_of h.width scope) → scope.handed.used + length mark.values ≤ limit
    → IsNote (context_of h.width scope) p mark s new → (new ≡ context_of h.width (noted scope new (length mark.values))) × Spelled (item shapes inner h limit scope) p s (one_more (record_item mark) (noted scope new (length mark.values)))
unfolding item item_after
note_spelled shapes inner h limit scope p s mark new ok fits k =
    let head = k.0.0 in
    let rest = k.0.1 in
    let parts = k.0.2 in
    let id = mark.abbreviation in
    let big = record_id (context_of h.width scope) id _ _ rest k.0.4 in
    let n = is_note limit p id h.width scope (p + length head) rest mark new ok fits (record { spelled = k.0.4; describes = k.1; abbreviation = refl; begins = k.2; after = omega (arith, k.3, ap length parts, length-append head rest) }) in (
      n.0,
      subst (λ (t : List Bool). Spelled (item shapes inner h limit scope) p t (one_more (record_item mark) (noted scope new (length mark.values)))) (sym parts)
          (here_spelled _ (then_spelled _ (record { is = is_fixed h.width p head id k.0.3 })
          (other_chosen _ (differs id 0 (omega (arith, big))) (other_chosen _ (differs id 1 (omega (arith, big))) (other_chosen _ (differs id 2 (omega (arith, big))) (then_last _ n.1 given)))))),
    )

last_spelled : (shapes : Shapes) (inner : ℕ → Handed → Grammar (Item × Handed)) (h : BlockHead) (limit : ℕ) (scope : Scope) (p : ℕ) (leaves padding : List Bool) (after : ℕ) → IsFixed h.width 0 leaves → IsPadding (p + length leaves) padding
    → h.body + 32 * h.words ≡ after → after ≡ p + length leaves + length padding → Spelled (item shapes inner h limit scope) p (leaves ++ padding) (last (after, leave scope.info scope.handed))
unfolding item item_after
last_spelled shapes inner h limit scope p leaves padding after is closed measured place =
    let e = is_end h (p + length leaves) padding closed (measured ∙ place) in
    let ended = subst (λ (q : ℕ). Spelled (item_after shapes inner h limit p scope 0) (p + length leaves) padding (last (q, leave scope.info scope.handed))) (sym place) (first_chosen _ refl (then_last _ e given)) in
    here_spelled _ (then_spelled _ (record { is = is_fixed h.width p leaves 0 is }) ended)

-- ---- bodies

abbrev Body : Shapes → (limit depth : ℕ) → BlockHead → List Item → Scope → ℕ → List Bool → ℕ × Handed → Type 0
Body shapes limit depth h xs scope p s e = Rounds (λ scope p s x. Spells (item shapes (block shapes depth limit) h limit scope) p s x) xs scope p s e

-- Items of these marks, followed by the last round, are spelled under all limits that they keep to.
abbrev pub ItemsSpell : Marks → Type 0
ItemsSpell marks = (shapes : Shapes) (limit depth : ℕ) (h : BlockHead) (scope : Scope) (p : ℕ) (s : List Bool) (left : Context) (end : List Bool) (e : ℕ × Handed) → 1 ≤ h.width → LawfulContext (context_of h.width scope)
    → scope.handed.used + values_in marks ≤ limit → depth_in marks ≤ depth → PassIn shapes marks → AreItems marks (context_of h.width scope) p s left
    → Spelled (item shapes (block shapes depth limit) h limit (scope_in left (scope.handed.used + values_in marks))) (p + length s) end (last e) → Body shapes limit depth h (items_of marks) scope p (s ++ end) e

none_spelled : (shapes : Shapes) (limit depth : ℕ) (h : BlockHead) (scope : Scope) (p : ℕ) (s end : List Bool) (left : Context) (e : ℕ × Handed) → s ≡ [] → left ≡ context_of h.width scope
    → Spelled (item shapes (block shapes depth limit) h limit (scope_in left (scope.handed.used + 0))) (p + length s) end (last e) → Spelled (item shapes (block shapes depth limit) h limit scope) p (s ++ end) (last e)
none_spelled shapes limit depth h scope p s end left e none same k =
    let place : p + length s ≡ p = omega (arith, ap length none) in
    let used : scope.handed.used + 0 ≡ scope.handed.used = omega arith in
    let here = moved place k in
    let one = subst (λ (n : ℕ). Spelled (item shapes (block shapes depth limit) h limit (scope_in left n)) p end (last e)) used here in
    let two = subst (λ (c : Context). Spelled (item shapes (block shapes depth limit) h limit (scope_in c scope.handed.used)) p end (last e)) same one in
    subst (λ (t : List Bool). Spelled (item shapes (block shapes depth limit) h limit scope) p (t ++ end) (last e)) (sym none) two

-- an item, and those after it
step_spelled : (shapes : Shapes) (limit depth : ℕ) (h : BlockHead) (x : Item) (scope t : Scope) (p : ℕ) (first others s : List Bool) (rest : Marks) (new left : Context) (end : List Bool) (e : ℕ × Handed) (total : ℕ) → 1 ≤ h.width → s ≡ first ++ others
    → new ≡ context_of h.width t → total ≡ t.handed.used + values_in rest → Spelled (item shapes (block shapes depth limit) h limit scope) p first (one_more x t) → AreItems rest new (p + length first) others left
    → Spelled (item shapes (block shapes depth limit) h limit (scope_in left total)) (p + length s) end (last e)
    → (AreItems rest (context_of h.width t) (p + length first) others left → Spelled (item shapes (block shapes depth limit) h limit (scope_in left (t.handed.used + values_in rest))) (p + length first + length others) end (last e) → Body shapes limit depth h (items_of rest) t (p + length first) (others ++ end) e)
    → Body shapes limit depth h (x ∷ items_of rest) scope p (s ++ end) e
step_spelled shapes limit depth h x scope t p first others s rest new left end e total wide parts is sum one are ended more =
    let some : 0 < length first = omega (arith, wide, item_takes shapes (block shapes depth limit) h limit scope p first (one_more x t) one.is) in
    let place : p + length s ≡ p + length first + length others = omega (arith, ap length parts, length-append first others) in
    let are' = subst (λ (c : Context). AreItems rest c (p + length first) others left) is are in
    let ended' = subst (λ (n : ℕ). Spelled (item shapes (block shapes depth limit) h limit (scope_in left n)) (p + length first + length others) end (last e)) sum (moved place ended) in
    (first, others ++ end, t, ap (λ (u : List Bool). u ++ end) parts ∙ append_assoc first others end, some, one.is, more are' ended')

-- ---- blocks

leave_is : (info : Option BlockInfo) (table : Table) (used : ℕ) → leave info (record { table = table; used = used }) ≡ record { table = made_or table info; used = used }
leave_is None table used = refl
leave_is (Some info) table used = refl

pub block_spelled : (inner : Marks) → ItemsSpell inner → (shapes : Shapes) (limit depth first : ℕ) (handed : Handed) (p : ℕ) (s : List Bool) (mark : BlockMark) (new : Table) → HoldsDefinable handed.table → handed.used + values_in inner ≤ limit → suc (depth_in inner) ≤ depth → PassIn shapes inner
    → BlockAfter (AreItems inner) first handed.table p mark s new → Spelled (block shapes depth limit first handed) p s (block_item mark inner, record { table = new; used = handed.used + values_in inner })
unfolding block
block_spelled inner more shapes limit zero first handed p s mark new ok fits deep passes k = absurd (omega (arith, deep))
block_spelled inner more shapes limit (suc depth) first handed p s mark new ok fits deep passes k =
    let at_length = p + length k.id + length k.width + length k.padding in
    let h : BlockHead = record { id = mark.id; width = mark.width; length_at = at_length; words = k.words; body = mark.body } in
    let head : List Bool = k.id ++ (k.width ++ (k.padding ++ k.size)) in
    let at_body = p + length head in
    let end : List Bool = k.leave ++ k.last in
    let body : List Bool = k.items ++ end in
    let total = handed.used + values_in inner in
    let is : HeadIs h p head = record { id = k.id; width = k.width; padding = k.padding; size = k.size; parts = refl; named = k.named; id_small = k.id_small; wide = k.wide; width_lawful = k.width_lawful; padded = k.padded; sized = k.sized; body = k.body } in
    let len : length s ≡ length head + (length k.items + (length k.leave + length k.last)) = omega (arith, ap length k.parts, length-append head body, length-append k.items end, length-append k.leave k.last) in
    let closed = subst (λ (q : ℕ). IsPadding (q + length k.items + length k.leave) k.last) k.body k.closed in
    let ended = last_spelled shapes (block shapes depth limit) h limit (scope_in k.inner total) (at_body + length k.items) k.leave k.last mark.after k.leaves closed (omega (arith, k.body, k.measured, k.after, len)) (omega (arith, k.after, len)) in
    let inside = subst (λ (q : ℕ). AreItems inner (context_of mark.width (enter mark.id handed)) q k.items k.inner) k.body k.inside in
    let left = leave k.inner.info (record { table = k.inner.table; used = total }) in
    let made = more shapes limit depth h (enter mark.id handed) at_body k.items k.inner end (mark.after, left) k.width_lawful.0 (entered_lawful (top_with handed.table) mark.id mark.width ok) fits (omega (arith, deep)) passes inside ended in
    let spelled : Spelled (rounds (at Truncated h.body) (item shapes (block shapes depth limit) h limit) (enter mark.id handed)) at_body body (items_of inner, (mark.after, left)) = record { is = made } in
    let whole : Spelled (block shapes (suc depth) limit first handed) p (head ++ body) (block_item (record mark { first = first }) (marks_of (items_of inner)), left) = then_spelled _ (is_head h p head is refl) (then_last _ spelled given) in
    let same : left ≡ record { table = new; used = total } = leave_is k.inner.info k.inner.table total ∙ ap (λ (t : Table). record { table = t; used = total }) (sym k.handed) in
    let one = subst (λ (t : List Bool). Spelled (block shapes (suc depth) limit first handed) p t (block_item (record mark { first = first }) (marks_of (items_of inner)), left)) (sym k.parts) whole in
    let two = subst (λ (m : Marks). Spelled (block shapes (suc depth) limit first handed) p s (block_item (record mark { first = first }) m, left)) (marks_again inner) one in
    let three = subst (λ (f : ℕ). Spelled (block shapes (suc depth) limit first handed) p s (block_item (record mark { first = f }) inner, left)) (sym k.begins) two in
    subst (λ (t : Handed). Spelled (block shapes (suc depth) limit first handed) p s (block_item mark inner, t)) same three

pub items_spelled : (marks : Marks) → ItemsSpell marks
items_spelled no_marks shapes limit depth h scope p s left end e wide ok fits deep passes k ended = (none_spelled shapes limit depth h scope p s end left e k.0 k.1 ended).is
items_spelled (marked_definition mark rest) shapes limit depth h scope p s left end e wide ok fits deep passes k ended =
    let first = k.0 in
    let new = k.2 in
    let t = defined scope.info mark.ops scope in
    let d = define_spelled shapes (block shapes depth limit) h limit scope p first mark new passes.0 k.4 in
    let used = defined_used scope.info mark.ops scope in
    let ok' = subst LawfulContext d.0 (defined_lawful scope.info mark.ops (context_of h.width scope) new refl k.4.1 k.4.0.4.definable ok) in
    step_spelled shapes limit depth h (definition_item mark) scope t p first k.1 s rest new left end e _ wide k.3 d.0 (omega (arith, used)) d.1 k.5 ended
    (λ are ended'. items_spelled rest shapes limit depth h t _ k.1 left end e wide ok' (omega (arith, used, fits)) deep passes.1 are ended')
items_spelled (marked_record mark rest) shapes limit depth h scope p s left end e wide ok fits deep passes k ended =
    let first = k.0 in
    let new = k.2 in
    let t = noted scope new (length mark.values) in
    let n = note_spelled shapes (block shapes depth limit) h limit scope p first mark new ok (omega (arith, fits)) k.4 in
    let ok' = subst LawfulContext n.0 (described_lawful scope.info _ (context_of h.width scope) new refl k.4.1 ok) in
    step_spelled shapes limit depth h (record_item mark) scope t p first k.1 s rest new left end e _ wide k.3 n.0 (omega arith) n.1 k.5 ended
    (λ are ended'. items_spelled rest shapes limit depth h t _ k.1 left end e wide ok' (omega (arith, fits)) deep passes are ended')
items_spelled (marked_block mark inner rest) shapes limit depth h scope p s left end e wide ok fits deep passes k ended =
    let c = context_of h.width scope in
    let first = k.0 in
    let new = k.2 in
    let w = without_id (AreItems inner) c p mark first new k.4 in
    let handed : Handed = record { table = w.table; used = scope.handed.used + values_in inner } in
    let t = record scope { handed = handed } in
    let b = block_spelled inner (items_spelled inner) shapes limit depth p scope.handed (p + length w.enter) w.rest mark w.table ok.table (omega (arith, fits)) (omega (arith, deep)) passes.0 w.block in
    let one = subst (λ (u : List Bool). Spelled (item shapes (block shapes depth limit) h limit scope) p u (one_more (block_item mark inner) t)) (sym w.parts) (nested_spelled shapes (block shapes depth limit) h limit scope p w.enter w.rest (block_item mark inner) handed w.outside w.enters b) in
    let table = table_lawful w.block.inner (items_lawful inner _ _ _ w.block.inner w.block.inside (entered_lawful c mark.id mark.width ok.table)) in
    let ok' : LawfulContext (context_of h.width t) = record { definitions = ok.definitions; table = subst HoldsDefinable (sym w.block.handed) table; info = ok.info } in
    step_spelled shapes limit depth h (block_item mark inner) scope t p first k.1 s rest new left end e _ wide k.3 w.handed (omega arith) one k.5 ended
    (λ are ended'. items_spelled rest shapes limit depth h t _ k.1 left end e wide ok' (omega (arith, fits)) (omega (arith, deep)) passes.1 are ended')
