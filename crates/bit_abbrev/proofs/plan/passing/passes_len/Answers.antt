use Rattle.std.proofs.Common.{◌≡◌, ◌+◌, ◌-◌, ◌<◌, ℕ, length, take, get_or, ap, ◌∙◌, subst, arith}
use Rattle.bit_fields.specs.Buffered.{BufferedBits, beyond}
use Rattle.bit_fields.specs.Placed.{HasNumbers, bits_at}
use Rattle.bit_fields.specs.PlacedView.{loaded}
use Rattle.bit_abbrev.specs.declared.plan.Pass.{Pass}
use Rattle.bit_abbrev.specs.Plans.{HasPasses}
use Rattle.bit_abbrev.proofs.Covering.{beyond_both, left_on, passes_on}
use Rattle.bit_abbrev.proofs.plan.passing.passes_len.Goals as goal

pub loop-next-preserved : goal.loop-next-preserved
loop-next-preserved c =
    let a : BufferedBits = bits_at c.args.start c.args.at c.args.bytes.now in
    let passes = c.args.passes.now in
    let at = c.loop-next.next in
    let here : BufferedBits = loaded c.loop-next.load in
    let there : BufferedBits = loaded c.in_ok-load.load in
    let pass : Pass = c.index-passes-next.result in
    let same : pass ≡ get_or passes at pass = c.index-passes-next.is in
    let h = c.in_ok-load.ensures.has in
    let before : ℕ = here.position - a.position in
    let next : ℕ = pass.skip + h.0 in
    let within : at < length passes = omega arith in
    let skipped : beyond here pass.skip ≡ beyond a (before + pass.skip) = ap (λ (b : BufferedBits). beyond b pass.skip) c.loop-next.invariant.here ∙ beyond_both a before pass.skip in
    let behind : there ≡ beyond a (before + next) = h.1 ∙ ap (λ (b : BufferedBits). beyond b next) c.loop-next.invariant.here ∙ beyond_both a before next in
    let position : there.position ≡ a.position + (before + next) = ap (λ (b : BufferedBits). b.position) behind in
    let place : before + next ≡ there.position - a.position = omega (arith, position) in
    record {
      within = omega (arith, within);
      least = omega (arith, position);
      here = behind ∙ ap (beyond a) place;
      has = subst (HasPasses (take (at + 1) passes) a) place (passes_on passes at pass a (beyond here pass.skip) before pass.skip next h.0 within skipped (ap (λ (p : Pass). p.skip) same) c.loop-next.invariant.has (ap (λ (p : Pass). p.skip + h.0) same) (subst (λ (p : Pass). HasNumbers p.width p.count (beyond here pass.skip) h.0) same h.2));
      left = left_on (length passes) at (length here.bits) (length there.bits) c.requires.few within c.loop-next.invariant.left c.in_ok-load.ensures.left;
    }
