use Rattle.std.proofs.Common.{◌≡◌, ℕ, ◌<◌, List, Some, ap, arith, drop, length, refl, slice_get, slice_range, sym, ◌∙◌}
use Rattle.std.proofs.lemmas.List.{length-map}
use Rattle.std.proofs.lemmas.Option.{slice_get_read, slice_get-map}
use Rattle.std.specs.Option.{option_map}
use Rattle.bit_grammar.specs.declared.op.Op.{Op}
use Rattle.bit_abbrev.specs.declared.held.Head.{Head}
use Rattle.bit_abbrev.specs.declared.held_op.HeldOp.{HeldOp}
use Rattle.bit_abbrev.specs.Heads.{all_held, ops_of}
use Rattle.bit_abbrev.specs.HeldLists.{all_of}
use Rattle.bit_abbrev.specs.HeldOps.{ops_in}
use Rattle.bit_abbrev.proofs.Encoded.{range_after}
use Rattle.bit_abbrev.proofs.HeldLists.{all_shown}
use Rattle.bit_abbrev.proofs.held.HeldList.at.Goals as goal

pub returns : goal.returns
returns c =
    let all = c.self.inside.held.items in
    let heads = c.self.inside.heads.items in
    let head = c.index.result.now in
    let index = c.args.index in
    let list : all_of c.args.self.now ≡ all_held all heads = ap all_of (sym c.self.view_is) ∙ all_shown all heads in
    let within : index < length heads = omega (arith, c.requires, ap length c.self.view_is, length-map {B = ℕ × List Op} heads (λ (h : Head). (h.id, ops_of all h))) in
    let here : slice_get heads index ≡ Some head = slice_get_read heads (length heads) index head refl within c.index.ensures in
    let there : slice_get (all_held all heads) index ≡ Some (ops_of all head) = slice_get-map (ops_of all) heads index ∙ ap (option_map (ops_of all)) here in
    let held : ops_in (slice_range c.deref.result.now head.start (length c.deref.result.now)) ≡ ops_of all head = ap ops_in (range_after head.start c.deref.result.now ∙ ap (λ (l : List HeldOp). drop head.start l) c.deref.ensures.value) in
    ap (λ (l : List (List Op)). slice_get l index) list ∙ there ∙ ap Some (sym held)
