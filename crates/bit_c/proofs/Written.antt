-- The normal form of a writer's tree.
use Rattle.std.proofs.Common.{◌≡◌, ◌≤◌, ℕ, List, [], ◌++◌, length, Option, Some, Result, Ok, Err, refl, ap, sym, subst, ◌∙◌}
use Rattle.std.specs.Prelude.{IsSome}
use Rattle.std.specs.Global.{Vec}
use Rattle.bit_grammar.specs.Bits.{bits_of_bytes}
use Rattle.bit_grammar.specs.Blocks.{Limits}
use Rattle.bit_grammar.specs.Forest.{Tree}
use Rattle.bit_grammar.specs.Normal.{Capped, HasTree, normal_form}
use Rattle.bit_grammar.specs.Setting.{keep}
use Rattle.bit_grammar.proofs.NormalForms.Normals.{normal_spelled}
use Rattle.bit_grammar.proofs.NormalForms.Sizes.{form_size}
use Rattle.bit_fields.specs.Devices.{Outgoing, known_bytes}
use Rattle.bit_norm.specs.Telling.{Call, HasTold, IsFit, tree_told}
use Rattle.bit_norm.specs.Writing.{WritesForm}
use Rattle.bit_norm.specs.declared.form_writer.FormWriter.{FormWriter}
use Rattle.bit_c.specs.Handing.{KeepsText}
use Rattle.bit_c.specs.Telling.{IsWritten, MakesForm}
use Rattle.bit_c.specs.declared.outcome.Outcome.{Outcome}

-- a form that a sink took, which had nothing
pub form_taken : (limits : Limits) (tree : Tree) (count : ℕ) (old new : Outgoing) (text : List ℕ) → Capped limits → IsFit limits tree → old.bytes ≡ Some [] → new.bytes ≡ Some text → WritesForm tree limits.bytes old (Ok count) new
    → (bits_of_bytes text ≡ normal_form tree) × HasTree keep limits text tree
form_taken limits tree count old new text capped fit none all wrote =
    let some : IsSome old.bytes = subst (λ (b : Option (List ℕ)). IsSome b) (sym none) refl in
    let gained = wrote.2.bytes some in
    let same : text ≡ gained.0 = ap known_bytes (sym all) ∙ gained.1 ∙ ap (λ (b : Option (List ℕ)). known_bytes b ++ gained.0) none in
    let form : bits_of_bytes text ≡ normal_form tree = ap bits_of_bytes same ∙ gained.2 in
    let fits : length text ≤ limits.bytes = subst (λ (n : ℕ). n ≤ limits.bytes) (sym (form_size tree text form)) wrote.0 in
    (form, normal_spelled limits tree text capped fit.fit form fits fit.depth fit.values)

written : (w : FormWriter) (calls : List Call) (count : ℕ) (old new : Outgoing) (text : List ℕ) → old.bytes ≡ Some [] → new.bytes ≡ Some text → HasTold calls w → IsFit w.limits (tree_told w.magic calls)
    → WritesForm (tree_told w.magic calls) w.limits.bytes old (Ok count) new → IsWritten w calls text
written w calls count old new text none all was fit wrote =
    let taken = form_taken w.limits (tree_told w.magic calls) count old new text was.capped fit none all wrote in
    record { form = taken.0; fit = fit; read = taken.1 }

pub form_made : (w : FormWriter) (count : ℕ) (old new : Outgoing) (took : List ℕ) (r : Result (Vec ℕ) Outcome) → old.bytes ≡ Some [] → new.bytes ≡ Some took
    → ((calls : List Call) → HasTold calls w → WritesForm (tree_told w.magic calls) w.limits.bytes old (Ok count) new) → ((calls : List Call) → HasTold calls w → IsFit w.limits (tree_told w.magic calls))
    → KeepsText took r → MakesForm w r
form_made w count old new took (Ok text) none all wrote fit keeps = λ calls was. written w calls count old new text.items none (all ∙ ap Some (sym keeps)) was (fit calls was) (wrote calls was)
form_made w count old new took (Err outcome) none all wrote fit keeps = subst (λ (o : Outcome). MakesForm w (Err o)) (sym keeps) tt
