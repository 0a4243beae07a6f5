-- The rules for blocks spell blocks in the words of the format.
use Rattle.std.proofs.Common.{◌≡◌, ℕ, zero, suc, ◌+◌, ◌≤◌, Bool, List, [], ◌∷◌, ◌++◌, length, Option, Some, None, refl, sym, ap, subst, ◌∙◌, append_assoc, arith, inl, inr}
use Rattle.std.proofs.lemmas.Bool.{eqb-true, eqb-false}
use Rattle.std.proofs.lemmas.List.{append-nil, length-append}
use Rattle.bit_grammar.specs.declared.shapes.Shapes.{Shapes}
use Rattle.bit_grammar.specs.Grammar.{Round, one_more, last, Rounds, Spells}
use Rattle.bit_grammar.specs.FormatFields.{IsFixed, IsPadding}
use Rattle.bit_grammar.specs.Marks.{no_marks, Item, block_item, record_item, definition_item, item_then, marks_of}
use Rattle.bit_grammar.specs.Blocks.{Handed, Scope, enter, leave, BlockHead, nested, item_after, item, block}
use Rattle.bit_grammar.specs.Terms.{Table, BlockInfo}
use Rattle.bit_grammar.specs.FormatBlocks.{Context, top_with, context_inside, made_or, HoldsDefinable, IsRecord, entry_of_mark, AreItems}
use Rattle.bit_grammar.proofs.Words.Fields.{fixed_is}
use Rattle.bit_grammar.proofs.NormalForms.SpelledParts.{Spelled}
use Rattle.bit_grammar.proofs.Readings.Parts.{apart, from_here, after_judge, chosen, image}
use Rattle.bit_grammar.proofs.Words.Contexts.{context_of, none_is, LawfulContext, entered_lawful, items_lawful}
use Rattle.bit_grammar.proofs.Words.Heads.{head_is, end_is}
use Rattle.bit_grammar.proofs.Words.Entries.{define_is, note_is}
use Rattle.bit_grammar.proofs.Words.Marked.{IsMarked, item_first, EndIs, RoundIs, IsAfter, with_id}

-- ---- one item

abbrev pub BlockIs : Shapes → (limit depth : ℕ) → Type 0
BlockIs shapes limit depth = (first : ℕ) (handed : Handed) (p : ℕ) (s : List Bool) (v : Item × Handed) → HoldsDefinable handed.table → Spelled (block shapes depth limit first handed) p s v → IsAfter v.0 first handed.table p s v.1.table

nested_is : (x : Item) (c : Context) (p : ℕ) (enter s : List Bool) (new : Table) → c.info ≡ None → IsFixed c.width 1 enter → IsAfter x p c.table (p + length enter) s new → IsMarked x c p (enter ++ s) (record c { table = new })
nested_is (block_item mark inner) c p enter s new none enters k = with_id (AreItems inner) c p mark enter s new none enters k
nested_is (record_item mark) c p enter s new none enters k = absurd k
nested_is (definition_item mark) c p enter s new none enters k = absurd k

after_is : (shapes : Shapes) (limit depth : ℕ) → BlockIs shapes limit depth → (h : BlockHead) (scope : Scope) (p id : ℕ) (head rest : List Bool) (x : Round Scope Item (ℕ × Handed)) → LawfulContext (context_of h.width scope) → IsFixed h.width id head
    → Spelled (item_after shapes (block shapes depth limit) h limit p scope id) (p + length head) rest x → RoundIs h scope p (head ++ rest) x
unfolding item_after nested
after_is shapes limit depth inner h scope p id head rest x ok is k =
    let c = context_of h.width scope in
    let all = head ++ rest in
    let len = length-append head rest in
    elim (chosen k) [
      | inl n ↦
          let a = image n.1 in
          let e = end_is h (p + length head) rest a.value a.one in
          subst (RoundIs h scope p all) (sym a.is) (record {
            leaves = head;
            padding = rest;
            parts = refl;
            ends = subst (λ (i : ℕ). IsFixed h.width i head) (eqb-true _ _ n.0) is;
            closed = e.0;
            measured = omega (arith, e.1, len);
            after = omega (arith, e.2, len);
            handed = refl;
          })
      | inr n ↦ elim (chosen n.1) [
        | inl m ↦
            let a = image m.1 in
            let j = after_judge a.one in
            let b = image j.then in
            let is_one = subst (λ (i : ℕ). IsFixed h.width i head) (eqb-true _ _ m.0) is in
            subst (RoundIs h scope p all) (sym (a.is ∙ ap (λ (y : Item × Scope). one_more y.0 y.1) b.is))
            (nested_is b.value.0 c p head rest b.value.1.table (none_is scope.info j.held) is_one (inner p scope.handed _ rest b.value ok.table b.one))
        | inr m ↦ elim (chosen m.1) [
          | inl d ↦
              let a = image d.1 in
              let w = define_is shapes p h.width scope _ rest a.value a.one in
              subst (RoundIs h scope p all) (sym a.is)
              ((head, rest, refl, subst (λ (i : ℕ). IsFixed h.width i head) (eqb-true _ _ d.0) is, w.spelled), w.defines, w.begins, omega (arith, w.after, len))
          | inr d ↦
              let a = image d.1 in
              let big : 3 ≤ id = omega (arith, eqb-false _ _ n.0, eqb-false _ _ m.0, eqb-false _ _ d.0) in
              let w = note_is limit p id h.width scope _ rest a.value big ok a.one in
              let mark = a.value.0 in
              let named = subst (λ (i : ℕ). IsFixed h.width i head) (sym w.abbreviation) is in
              let spelled = subst (λ (i : ℕ). IsRecord c i (p + length head) (entry_of_mark mark) rest) (sym w.abbreviation) w.spelled in
              subst (RoundIs h scope p all) (sym a.is) ((head, rest, refl, named, spelled), w.describes, w.begins, omega (arith, w.after, len))
        ]
      ]
    ]

item_is : (shapes : Shapes) (limit depth : ℕ) → BlockIs shapes limit depth → (h : BlockHead) (scope : Scope) (p : ℕ) (s : List Bool) (x : Round Scope Item (ℕ × Handed)) → LawfulContext (context_of h.width scope) → Spelled (item shapes (block shapes depth limit) h limit scope) p s x → RoundIs h scope p s x
unfolding item
item_is shapes limit depth inner h scope p s x ok k =
    let a = apart (from_here k) in
    subst (λ (t : List Bool). RoundIs h scope p t x) (sym a.parts) (after_is shapes limit depth inner h scope p a.value a.front a.others x ok (fixed_is h.width p a.front a.value a.one.is) a.two)

-- ---- bodies and blocks

-- a body: items, the scope that they leave, and the end
record BodyIs (h : BlockHead) (xs : List Item) (scope : Scope) (p : ℕ) (s : List Bool) (e : ℕ × Handed) : Type 0 where
  items : List Bool
  end : List Bool
  left : Scope
  parts : s ≡ items ++ end
  are : AreItems (marks_of xs) (context_of h.width scope) p items (context_of h.width left)
  ended : EndIs h left (p + length items) end e

item_lawful : (x : Item) (c new : Context) (p : ℕ) (s : List Bool) → IsMarked x c p s new → LawfulContext c → LawfulContext new
item_lawful x c new p s h ok = items_lawful (item_then x no_marks) c p s new (item_first x no_marks c new new p s [] s (sym (append-nil s)) h (refl, refl)) ok

body_is : (shapes : Shapes) (limit depth : ℕ) → BlockIs shapes limit depth → (h : BlockHead) (xs : List Item) (scope : Scope) (p : ℕ) (s : List Bool) (e : ℕ × Handed) → LawfulContext (context_of h.width scope)
    → Rounds (λ scope p s x. Spells (item shapes (block shapes depth limit) h limit scope) p s x) xs scope p s e → BodyIs h xs scope p s e
body_is shapes limit depth inner h [] scope p s e ok k =
    let here : p ≡ p + 0 = omega arith in
    record { items = []; end = s; left = scope; parts = refl; are = (refl, refl); ended = subst (λ (q : ℕ). EndIs h scope q s e) here (item_is shapes limit depth inner h scope p s (last e) ok (record { is = k })) }
body_is shapes limit depth inner h (x ∷ xs) scope p s e ok k =
    let c = context_of h.width scope in
    let new = context_of h.width k.2 in
    let f = item_is shapes limit depth inner h scope p k.0 (one_more x k.2) ok (record { is = k.5 }) in
    let g = body_is shapes limit depth inner h xs k.2 (p + length k.0) k.1 e (item_lawful x c new p k.0 f ok) k.6 in
    let there : p + length k.0 + length g.items ≡ p + length (k.0 ++ g.items) = omega (arith, length-append k.0 g.items) in
    record {
      items = k.0 ++ g.items;
      end = g.end;
      left = g.left;
      parts = k.3 ∙ ap (λ (t : List Bool). k.0 ++ t) g.parts ∙ sym (append_assoc k.0 g.items g.end);
      are = item_first x (marks_of xs) c new (context_of h.width g.left) p k.0 g.items (k.0 ++ g.items) refl f g.are;
      ended = subst (λ (q : ℕ). EndIs h g.left q g.end e) there g.ended;
    }

pub leave_table : (info : Option BlockInfo) (handed : Handed) → (leave info handed).table ≡ made_or handed.table info
leave_table None handed = refl
leave_table (Some info) handed = refl

pub block_is : (shapes : Shapes) (limit depth : ℕ) → BlockIs shapes limit depth
unfolding block
block_is shapes limit zero first handed p s v ok k = absurd k.is
block_is shapes limit (suc depth) first handed p s v ok k =
    let a = apart k in
    let b = image a.two in
    let h = a.value in
    let xs = b.value.0 in
    let head = head_is h p a.front a.one in
    let body = body_is shapes limit depth (block_is shapes limit depth) h xs (enter h.id handed) (p + length a.front) a.others b.value.1 (entered_lawful (top_with handed.table) h.id h.width ok) b.one.is in
    let end = body.ended in
    let inner = context_of h.width body.left in
    let end_len : length body.end ≡ length end.leaves + length end.padding = ap length end.parts ∙ length-append end.leaves end.padding in
    let others_len : length a.others ≡ length body.items + length body.end = ap length body.parts ∙ length-append body.items body.end in
    subst (λ (w : Item × Handed). IsAfter w.0 first handed.table p s w.1.table) (sym b.is) (record {
      id = head.id;
      width = head.width;
      padding = head.padding;
      size = head.size;
      items = body.items;
      leave = end.leaves;
      last = end.padding;
      words = h.words;
      inner = inner;
      parts = a.parts ∙ ap (λ (t : List Bool). t ++ a.others) head.parts ∙ ap (λ (t : List Bool). (head.id ++ (head.width ++ (head.padding ++ head.size))) ++ t) (body.parts ∙ ap (λ (t : List Bool). body.items ++ t) end.parts);
      named = head.named;
      id_small = head.id_small;
      wide = head.wide;
      width_lawful = head.width_lawful;
      padded = head.padded;
      sized = head.sized;
      inside = subst (λ (q : ℕ). AreItems (marks_of xs) (context_inside (top_with handed.table) h.id h.width) q body.items inner) (sym head.body) body.are;
      leaves = end.ends;
      closed = subst (λ (q : ℕ). IsPadding (q + length body.items + length end.leaves) end.padding) (sym head.body) end.closed;
      measured = omega (arith, end.measured, head.body, end_len);
      handed = ap (λ (x : Handed). x.table) end.handed ∙ leave_table body.left.info body.left.handed;
      begins = refl;
      body = head.body ∙ ap (λ (t : List Bool). p + length t) head.parts;
      after = omega (arith, end.after, ap length a.parts, length-append a.front a.others, others_len);
    })
