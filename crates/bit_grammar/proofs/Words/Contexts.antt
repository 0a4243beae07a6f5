-- The state at an item, by the rules and in the words of the format.
use Rattle.std.proofs.Common.{◌≡◌, ℕ, zero, suc, ◌<◌, ◌^◌, Bool, true, false, eqb, List, [], ◌∷◌, ◌++◌, get_or, Option, Some, None, refl, sym, ap, subst, ◌∙◌, arith, inl, inr}
use Rattle.std.specs.Prelude.{if◌then◌else◌, is_some, is_none, slice_get}
use Rattle.std.specs.List.{AllByRecursion}
use Rattle.std.proofs.lemmas.Bool.{ltb-true, lt-ltb, eqb-true, eqb-false, ne_eqb}
use Rattle.bit_grammar.specs.declared.op.Op.{Op}
use Rattle.bit_grammar.specs.FormatDefinition.{Definable}
use Rattle.bit_grammar.specs.Terms.{CodeAndValues, Table, defined_at, BlockInfo, info_for}
use Rattle.bit_grammar.specs.Forest.{set_bid, names_block}
use Rattle.bit_grammar.specs.Marks.{Marks, no_marks, marked_block, marked_record, marked_definition}
use Rattle.bit_grammar.specs.Blocks.{Scope, may_define, made_for, defined, describe}
use Rattle.bit_grammar.specs.FormatBlocks.{Context, context_inside, made_or, table_after, HoldsDefinable, Defined, Described, AreItems}
use Rattle.bit_grammar.proofs.NormalForms.SpelledParts.{Spelled, given, judge_spelled, first_chosen, other_chosen}
use Rattle.bit_grammar.proofs.Readings.Parts.{after_judge, is_given, chosen}

-- the context of a scope in the words of the format, with the width of the ids
abbrev pub context_of : (width : ℕ) → Scope → Context
context_of width scope = record { width = width; definitions = scope.definitions; table = scope.handed.table; info = scope.info }

-- the scope of a context, with the number of values so far
abbrev pub scope_in : Context → (used : ℕ) → Scope
scope_in c used = record { definitions = c.definitions; info = c.info; handed = record { table = c.table; used = used } }

some_is : {A : Type 0} (o : Option A) → is_some o ≡ true → (x : A) × (o ≡ Some x)
some_is None e = absurd cc
some_is (Some x) e = (x, refl)

pub none_is : {A : Type 0} (o : Option A) → is_none o ≡ true → o ≡ None
none_is None e = refl
none_is (Some x) e = absurd cc

pub is_no : {A : Type 0} (o : Option A) → o ≡ None → is_none o ≡ true
is_no o e = ap is_none e

-- ---- a definition

pub defined_is : (info : Option BlockInfo) (ops : List Op) (width : ℕ) (scope : Scope) → may_define info ≡ true → Defined info ops (context_of width scope) (context_of width (defined info ops scope))
defined_is None ops width scope ok = refl
defined_is (Some info) ops width scope ok =
    let d = some_is info.described ok in
    (d.0, d.1, ap (λ (o : Option ℕ). record (context_of width scope) { info = Some (record info { made = made_for o ops info.made }) }) d.1)

pub is_defined : (info : Option BlockInfo) (ops : List Op) (width : ℕ) (scope : Scope) (new : Context) → Defined info ops (context_of width scope) new → (may_define info ≡ true) × (new ≡ context_of width (defined info ops scope))
is_defined None ops width scope new h = (refl, h)
is_defined (Some info) ops width scope new h =
    (ap is_some h.1, h.2 ∙ sym (ap (λ (o : Option ℕ). record (context_of width scope) { info = Some (record info { made = made_for o ops info.made }) }) h.1))

-- ---- a record

record NamesFirst (values : List ℕ) : Type 0 where
  id : ℕ
  stands : slice_get values 0 ≡ Some id
  is : get_or values 0 0 ≡ id
  small : id < 2 ^ 32

names_first : (values : List ℕ) → names_block values ≡ true → NamesFirst values
names_first [] e = absurd cc
names_first (id ∷ values) e = record { id = id; stands = refl; is = refl; small = ltb-true _ _ e }

first_named : (values : List ℕ) (id : ℕ) → slice_get values 0 ≡ Some id → id < 2 ^ 32 → (names_block values ≡ true) × (get_or values 0 0 ≡ id)
first_named [] id e small = absurd cc
first_named (v ∷ values) id e small =
    let same : v ≡ id = cc in
    (lt-ltb _ _ (omega (arith, small, same)), same)

abbrev with_info : Context → Option BlockInfo → Context
with_info c info = record c { info = info }

pub described_is : (info : Option BlockInfo) (first : ℕ) (e : CodeAndValues) (p : ℕ) (s : List Bool) (info' : Option BlockInfo) (c : Context) → c.info ≡ info → Spelled (describe info first e) p s info' → (s ≡ []) × Described info e c (record c { info = info' })
unfolding describe
described_is None first e p s info' c same h = (let g = is_given h in (g.0, ap (with_info c) (g.1 ∙ sym same)))
described_is (Some info) first e p s info' c same h =
    elim (chosen h) [
      | inl k ↦
          let j = after_judge k.1 in
          let g = is_given j.then in
          let n = names_first e.values j.held in
          (g.0, inl (eqb-true _ _ k.0, n.id, n.stands, n.small, ap (with_info c) (g.1 ∙ ap (λ (id : ℕ). Some (record info { described = Some id })) n.is)))
      | inr k ↦
          let j = after_judge k.1 in
          let g = is_given j.then in
          (g.0, inr (eqb-false _ _ k.0, some_is info.described j.held, ap (with_info c) (g.1 ∙ sym same)))
    ]

only_info : (c new : Context) (info : Option BlockInfo) → new ≡ with_info c info → (new.info ≡ info) × (new ≡ with_info c new.info)
only_info c new info e =
    let is : new.info ≡ info = ap (λ (x : Context). x.info) e in
    (is, e ∙ ap (with_info c) (sym is))

pub is_described : (info : Option BlockInfo) (first : ℕ) (e : CodeAndValues) (p : ℕ) (c new : Context) → c.info ≡ info → Described info e c new → (new ≡ record c { info = new.info }) × Spelled (describe info first e) p [] new.info
unfolding describe
is_described None first e p c new same h =
    let o = only_info c new c.info h in
    (o.1, subst (λ (i : Option BlockInfo). Spelled (describe None first e) p [] i) (sym (o.0 ∙ same)) given)
is_described (Some info) first e p c new same (inl h) =
    let o = only_info c new (Some (record info { described = Some h.1 })) h.4 in
    let n = first_named e.values h.1 h.2 h.3 in
    let is = o.0 ∙ ap (λ (id : ℕ). Some (record info { described = Some id })) (sym n.1) in
    (o.1, subst (λ (i : Option BlockInfo). Spelled (describe (Some info) first e) p [] i) (sym is) (first_chosen _ (ap (λ (code : ℕ). eqb code set_bid) h.0) (judge_spelled _ _ _ n.0 given)))
is_described (Some info) first e p c new same (inr h) =
    let o = only_info c new c.info h.2 in
    (o.1, subst (λ (i : Option BlockInfo). Spelled (describe (Some info) first e) p [] i) (sym (o.0 ∙ same)) (other_chosen _ (ne_eqb _ _ h.0) (judge_spelled _ _ _ (ap is_some h.1.1) given)))

-- ---- the definitions that hold can be defined

abbrev HoldsLawfulInfo : Option BlockInfo → Type 0
HoldsLawfulInfo None = Unit {0}
HoldsLawfulInfo (Some info) = HoldsDefinable info.made

pub record LawfulContext (c : Context) : Type 0 where
  pub definitions : AllByRecursion Definable c.definitions
  pub table : HoldsDefinable c.table
  pub info : HoldsLawfulInfo c.info

pub one_lawful : (definitions : List (List Op)) (i : ℕ) (ops : List Op) → AllByRecursion Definable definitions → slice_get definitions i ≡ Some ops → Definable ops
one_lawful [] i ops ok e = absurd cc
one_lawful (first ∷ others) zero ops ok e = (let same : first ≡ ops = cc in subst Definable same ok.0)
one_lawful (first ∷ others) (suc i) ops ok e = one_lawful others i ops ok.1 e

added_lawful : (definitions : List (List Op)) (ops : List Op) → AllByRecursion Definable definitions → Definable ops → AllByRecursion Definable (definitions ++ ops ∷ [])
added_lawful [] ops ok lawful = (lawful, tt)
added_lawful (first ∷ others) ops ok lawful = (ok.0, added_lawful others ops ok.1 lawful)

made_lawful : (id : ℕ) (ops : List Op) (table : Table) → HoldsDefinable table → Definable ops → HoldsDefinable (defined_at id ops table)
made_lawful id ops table ok lawful other = go (eqb other id)
  where
    go : (b : Bool) → AllByRecursion Definable (if b then table other ++ ops ∷ [] else table other)
    go true = added_lawful (table other) ops (ok other) lawful
    go false = ok other

info_lawful : (id : ℕ) → HoldsLawfulInfo (info_for id)
info_lawful id = go (eqb id 0)
  where
    go : (b : Bool) → HoldsLawfulInfo (if b then Some (record { described = None; made = λ other. [] }) else None)
    go true = λ other. tt
    go false = tt

pub entered_lawful : (c : Context) (id width : ℕ) → HoldsDefinable c.table → LawfulContext (context_inside c id width)
entered_lawful c id width ok = record { definitions = ok id; table = ok; info = info_lawful id }

pub table_lawful : (c : Context) → LawfulContext c → HoldsDefinable (table_after c)
table_lawful c ok = go c.info ok.info
  where
    go : (info : Option BlockInfo) → HoldsLawfulInfo info → HoldsDefinable (made_or c.table info)
    go None lawful = ok.table
    go (Some info) lawful = lawful

pub defined_lawful : (info : Option BlockInfo) (ops : List Op) (c new : Context) → c.info ≡ info → Defined info ops c new → Definable ops → LawfulContext c → LawfulContext new
defined_lawful None ops c new e h lawful ok = subst LawfulContext (sym h) (record { definitions = added_lawful c.definitions ops ok.definitions lawful; table = ok.table; info = ok.info })
defined_lawful (Some info) ops c new e h lawful ok = subst LawfulContext (sym h.2) (record { definitions = ok.definitions; table = ok.table; info = made_lawful h.0 ops info.made (subst HoldsLawfulInfo e ok.info) lawful })

pub described_lawful : (info : Option BlockInfo) (e : CodeAndValues) (c new : Context) → c.info ≡ info → Described info e c new → LawfulContext c → LawfulContext new
described_lawful None e c new same h ok = subst LawfulContext (sym h) ok
described_lawful (Some info) e c new same (inl h) ok = subst LawfulContext (sym h.4) (record { definitions = ok.definitions; table = ok.table; info = subst HoldsLawfulInfo same ok.info })
described_lawful (Some info) e c new same (inr h) ok = subst LawfulContext (sym h.2) ok

-- from a table of definable lists items leave a table of such lists
pub items_lawful : (marks : Marks) (c : Context) (p : ℕ) (s : List Bool) (left : Context) → AreItems marks c p s left → LawfulContext c → LawfulContext left
items_lawful no_marks c p s left h ok = subst LawfulContext (sym h.1) ok
items_lawful (marked_definition mark rest) c p s left h ok = items_lawful rest h.2 _ h.1 left h.5 (defined_lawful c.info mark.ops c h.2 refl h.4.1 h.4.0.4.definable ok)
items_lawful (marked_record mark rest) c p s left h ok = items_lawful rest h.2 _ h.1 left h.5 (described_lawful c.info _ c h.2 refl h.4.1 ok)
items_lawful (marked_block mark inner rest) c p s left h ok =
    let b = h.4 in
    let table = table_lawful b.inner (items_lawful inner _ _ _ b.inner b.inside (entered_lawful c mark.id mark.width ok.table)) in
    items_lawful rest h.2 _ h.1 left h.5 (subst LawfulContext (sym b.handed) (record { definitions = ok.definitions; table = table; info = ok.info }))
