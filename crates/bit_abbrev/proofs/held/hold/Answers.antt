use Rattle.std.proofs.Common.{[], refl, subst, sym}
use Rattle.std.proofs.lemmas.List.{append-nil, take_all, take_more}
use Rattle.bit_abbrev.specs.HeldOps.{Holds}
use Rattle.bit_abbrev.proofs.Encoded.{held_behind, now_held}
use Rattle.bit_abbrev.proofs.held.hold.Goals as goal

pub loop-op-init : goal.loop-op-init
loop-op-init c = now_held [] (sym (append-nil _)) refl refl tt

pub loop-op-preserved : goal.loop-op-preserved
loop-op-preserved c = subst (Holds _ _) (sym (take_more _ _ _ c.loop-op-test.true)) (held_behind c.loop-op.invariant c.in_ok-push.ensures.ok)

pub returns-clause-ok : goal.returns-clause-ok
returns-clause-ok c = subst (Holds _ _) (take_all _ _ c.loop-op-test.false) c.loop-op.invariant
