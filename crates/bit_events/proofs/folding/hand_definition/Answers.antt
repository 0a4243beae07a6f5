use Rattle.std.proofs.Common.{◌≡◌, ◌∙◌, List, [], Option, Some, None, IsSome, inl, inr, sym, subst}
use Rattle.std.specs.Prelude.{unwrap_or}
use Rattle.std.proofs.lemmas.Result.{err_from_is_err_and}
use Rattle.bit_grammar.specs.declared.op.Op.{Op}
use Rattle.bit_events.specs.MachineView.{newest}
use Rattle.bit_events.proofs.folding.hand_definition.Goals as goal

pub returns-in_err-taken-clause-fails : goal.returns-in_err-taken-clause-fails
returns-in_err-taken-clause-fails g c =
    let p = err_from_is_err_and c.from_residual.result c.from_residual.ensures.1 in
    rw p.1 (inr (c.in_err-taken.ensures.fails (unwrap_or (newest c.args.machine.now.frames.items) [])))

pub returns-then-taken-clause-gathers : goal.returns-then-taken-clause-gathers
returns-then-taken-clause-gathers g c = c.in_ok-taken.ensures.gathers c.if-taken.true (unwrap_or (newest c.args.machine.now.frames.items) [])

pub returns-in_err-made-clause-fails : goal.returns-in_err-made-clause-fails
returns-in_err-made-clause-fails g c =
    let p = err_from_is_err_and c.from_residual-in_err-made.result c.from_residual-in_err-made.ensures.1 in
    rw p.1 (inl (c.in_ok-taken.ensures.declines c.if-taken.false))

pub unreachable-requires : goal.unreachable-requires
unreachable-requires g c =
    let none : None ≡ newest c.args.machine.now.frames.items = c.in-None.ensures ∙ c.in_ok-made.ensures in
    let some = subst (λ (o : Option (List Op)). IsSome o) (sym none) c.requires in
    cc

pub returns-clause-gathers : goal.returns-clause-gathers
returns-clause-gathers g c =
    let held : newest c.args.machine.now.frames.items ≡ Some c.in-Some.abbrev.now = sym (c.in-Some.ensures ∙ c.in_ok-made.ensures) in
    let same = c.in_ok-taken.ensures.declines c.if-taken.false in
    rw (held, ← same) c.define.ensures.gathers
