use Rattle.std.proofs.Common.{ℕ, ◌-◌, ◌∙◌, refl, ap, subst, sym}
use Rattle.bit_grammar.specs.Tally.{Tally}
use Rattle.bit_fields.specs.Devices.{known_bytes}
use Rattle.bit_fields.specs.Opening.{head_told, magic_number}
use Rattle.bit_scan.specs.Analysing.{HasTally}
use Rattle.bit_scan.specs.Rows.{block_tallies}
use Rattle.bit_scan.proofs.Analysed.{has_tally}
use Rattle.bit_scan.proofs.analysing.analyse_with_hasher.Goals as goal

pub returns-in-Ok : goal.returns-in-Ok
returns-in-Ok g c =
    let all = rw c.in-Ok.is at c.fold-answer.ensures.whole in
    let bytes = known_bytes (g.S.Source.incoming c.args.source).to_come in
    let bits = c.saturating_sub-bits.ensures ∙ ap (λ (n : ℕ). c.in-Ok.folded.after - n) c.begin_of.ensures in
    let tally : Tally = record { magic = magic_number c.in-Ok.folded.head.magic; bits = c.saturating_sub-bits.result; rows = block_tallies c.into_rows-rows.result.entries } in (
      all.0,
      λ tells. (
        subst (HasTally c.args.limits bytes) (sym c.of.ensures) (has_tally c.args.limits bytes c.new.result c.in-Ok.folded.gatherer (head_told c.in-Ok.folded.head) tally c.in-Ok.folded.after (all.1 tells).0 refl bits c.into_rows-rows.ensures),
        (all.1 tells).1,
      ),
    )
