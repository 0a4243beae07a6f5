-- A magic, and the text after it.
use Rattle.std.proofs.Common.{◌≡◌, ℕ, ◌+◌, ◌/◌, Bool, List, [], ◌++◌, length, Option, Some, None, Result, Ok, Err, refl, ap, sym, subst, ◌∙◌, arith}
use Rattle.bit_grammar.specs.Bits.{bits_of}
use Rattle.bit_grammar.specs.Forest.{Forest, Tree}
use Rattle.bit_grammar.specs.Normal.{normal, normal_form}
use Rattle.bit_grammar.specs.Size.{size_of}
use Rattle.bit_grammar.proofs.NormalForms.Sizes.{items_end}
use Rattle.bit_grammar.proofs.Bits.Numbers.{length-bits_of}
use Rattle.std.specs.Prelude.{IsSome}
use Rattle.bit_grammar.specs.Setting.{Setting}
use Rattle.bit_grammar.specs.Under.{items_under, under}
use Rattle.bit_grammar.proofs.NormalForms.Under.{marks_left}
use Rattle.bit_grammar.specs.Blocks.{Limits}
use Rattle.bit_grammar.specs.Forest.{Fit}
use Rattle.bit_grammar.specs.Input.{tree_of}
use Rattle.bit_grammar.specs.Terms.{Head}
use Rattle.bit_grammar.specs.Machine.{Event, flat}
use Rattle.bit_grammar.specs.Marks.{forest_of}
use Rattle.bit_grammar.proofs.NormalForms.Settings.{fit_of_setting}
use Rattle.bit_fields.specs.Devices.{Incoming, Outgoing, known_bytes}
use Rattle.bit_fields.specs.declared.fault.Fault.{Fault}
use Rattle.bit_fields.specs.declared.fault.Fault.TheVariants.{Refused, Read, Write, Memory, OutputTooLong, Failed}
use Rattle.bit_events.specs.Folding.{Gathered}
use Rattle.bit_events.specs.Gathering.{left_open}
use Rattle.bit_events.specs.Reading.{Spent, ReadsWhole}
use Rattle.bit_tree.specs.Reading.{HasFit}
use Rattle.bit_norm.specs.Told.{told_at_level}
use Rattle.bit_tree.proofs.Gathered.{open_behind-flat}
use Rattle.bit_norm.proofs.Told.{told_flat}
use Rattle.bit_norm.specs.Building.{left_events, IsFormOf}
use Rattle.bit_norm.specs.Whole.{ReadsTree, Normalises}
use Rattle.bit_norm.specs.Writing.{WritesForm}
use Rattle.bit_norm.specs.declared.form_builder.FormBuilder.{FormBuilder}

-- the form is the magic and the text of the blocks
pub form_bits : (tree : Tree) (n : ℕ) (text : List Bool) → tree.magic ≡ n → normal tree.blocks 32 ≡ text → normal_form tree ≡ bits_of 32 n ++ text
unfolding normal_form
form_bits tree n text magic blocks =
    let place : 0 + length (bits_of 32 tree.magic) ≡ 32 = omega (arith, length-bits_of 32 tree.magic) in
    ap (λ (p : ℕ). bits_of 32 tree.magic ++ normal tree.blocks p) place ∙ ap (λ (m : ℕ). bits_of 32 m ++ normal tree.blocks 32) magic ∙ ap (λ (s : List Bool). bits_of 32 n ++ s) blocks

pub form_bytes : (tree : Tree) (text : List Bool) → normal tree.blocks 32 ≡ text → 4 + length text / 8 ≡ size_of tree
unfolding size_of
form_bytes tree text blocks = omega (arith, ap length blocks, items_end tree.blocks 32)

-- ---- what was read

-- A builder gathered events of an input that leave no block open; if the input is known, its tree is that of these events.
pub record Found (s : Setting) (limits : Limits) (to_come : Option (List ℕ)) (first last : FormBuilder) (magic : ℕ) : Type 0 where
  pub events : List Event
  pub form : IsFormOf first events last
  pub closed : left_open events ≡ 0
  pub fit : IsSome to_come → HasFit s limits (known_bytes to_come) (record { magic = magic; blocks = told_at_level (left_events first events) 0 })

pub found : (s : Setting) (limits : Limits) (to_come : Option (List ℕ)) (first last : FormBuilder) (head : Head) (after magic : ℕ) → (bytes : List ℕ) × Gathered IsFormOf limits bytes first head last after → (IsSome to_come → Gathered IsFormOf limits (known_bytes to_come) first head last after)
    → first.standing.setting ≡ s → magic ≡ head.magic → Found s limits to_come first last magic
found s limits None first last head after magic some all setting_is magic_is = (let m = some.1.marked in record { events = flat m.blocks []; form = some.1.gathers; closed = open_behind-flat m.blocks [] 0; fit = λ known. absurd cc })
found s limits (Some bytes) first last head after magic some all setting_is magic_is =
    let it = all refl in
    let m = it.marked in
    let number : m.head.magic ≡ magic = ap (λ (h : Head). h.magic) it.is_head ∙ sym magic_is in
    let n = marks_left first.standing.setting m.blocks in
    let blocks : items_under s 0 (forest_of m.blocks) ≡ told_at_level (left_events first (flat m.blocks [])) 0 =
    sym (ap (λ (es : List Event). told_at_level es 0) n.1 ∙ told_flat n.0 ∙ n.2 ∙ ap (λ (t : Setting). items_under t 0 (forest_of m.blocks)) setting_is) in
    let same : under s (tree_of m) ≡ record { magic = magic; blocks = told_at_level (left_events first (flat m.blocks [])) 0 } =
    ap (λ (k : ℕ). record { magic = k; blocks = items_under s 0 (forest_of m.blocks) }) number ∙ ap (λ (x : Forest). record { magic = magic; blocks = x }) blocks in
    record {
      events = flat m.blocks [];
      form = it.gathers;
      closed = open_behind-flat m.blocks [] 0;
      fit = λ known. ((m, it.spelled, same), subst Fit same (fit_of_setting s limits bytes m it.capped it.spelled));
    }

abbrev failure : {A : Type 0} → Fault → Result A Fault
failure fault = Err fault

-- it was read, and its form was written
pub wrote_form : (s : Setting) (limits : Limits) (i : Incoming) (o : Outgoing) (answer : Result ℕ Fault) (now : Incoming) (new : Outgoing) (tree : Tree) → ReadsTree s limits i (Ok tree) now → WritesForm tree limits.bytes o answer new → Normalises s limits i o answer now new
wrote_form s limits i o (Ok count) now new tree read wrote = (tree, read, wrote)
wrote_form s limits i o (Err Write) now new tree read wrote = (tree, read, wrote)
wrote_form s limits i o (Err OutputTooLong) now new tree read wrote = (tree, read, wrote)
wrote_form s limits i o (Err (Refused reason bit)) now new tree read wrote = absurd wrote
wrote_form s limits i o (Err Read) now new tree read wrote = absurd wrote
wrote_form s limits i o (Err Memory) now new tree read wrote = absurd wrote
wrote_form s limits i o (Err Failed) now new tree read wrote = wrote

-- it was read, whether it is known or not
pub read_tree : (s : Setting) (limits : Limits) (i now : Incoming) (first last : FormBuilder) (head : Head) (after magic : ℕ) (f : Found s limits i.to_come first last magic) → Spent limits i now × (IsSome i.to_come → Gathered IsFormOf limits (known_bytes i.to_come) first head last after × (known_bytes now.to_come ≡ []))
    → ReadsTree s limits i (Ok (record { magic = magic; blocks = told_at_level (left_events first f.events) 0 })) now
read_tree s limits i now first last head after magic f all = (all.0, λ known. (f.fit known, (all.1 known).1))

-- an input that was not read as one thing was not read as another
pub unread : {A B : Type 0} (H : List ℕ → A → Type 0) (K : List ℕ → B → Type 0) (limits : Limits) (i now : Incoming) (fault : Fault) → ReadsWhole H limits i (failure {A = A} fault) now → ReadsWhole K limits i (failure {A = B} fault) now
unread H K limits i now (Refused reason bit) r = r
unread H K limits i now Read r = r
unread H K limits i now Memory r = r
unread H K limits i now Write r = r
unread H K limits i now OutputTooLong r = r
unread H K limits i now Failed r = r
