use Rattle.std.proofs.Common.{◌≡◌, ℕ, ◌∙◌, ap, subst}
use Rattle.bit_norm.specs.Entries.{over}
use Rattle.bit_norm.specs.InStep.{TakesSign, second_end}
use Rattle.bit_norm.specs.InFront.{Comparing}
use Rattle.bit_norm.proofs.in_step.Comparer.finish_in_step.Goals as goal

pub returns : goal.returns
returns c =
    let bit : c.ended_from-bit.result ≡ second_end c.args.behind_magic c.args.self.compared = c.ended_from-bit.ensures ∙ ap (λ (s : Comparing). second_end c.args.behind_magic s.compared) c.self.view_is in
    (c.take.new.self.compared, subst (λ (b : ℕ). TakesSign c.args.self.compared over b b c.take.new.self.compared) bit (c.in_ok-take.ensures.takes c.requires), c.difference.ensures)
