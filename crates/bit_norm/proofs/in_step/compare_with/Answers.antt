use Rattle.std.proofs.Common.{ℕ, ◌+◌, refl, sym, ap, ◌∙◌, subst, arith}
use Rattle.std.proofs.lemmas.Bool.{eqb-true}
use Rattle.bit_grammar.specs.Terms.{Head}
use Rattle.bit_fields.specs.Devices.{Incoming, known_bytes}
use Rattle.bit_fields.specs.Opening.{head_told}
use Rattle.bit_grammar.specs.Setting.{setting_of}
use Rattle.bit_events.specs.Events.{Begun}
use Rattle.bit_events.specs.Standing.{OpenUnder}
use Rattle.bit_norm.specs.Entries.{magic_bit}
use Rattle.bit_norm.specs.InFront.{Concludes}
use Rattle.bit_norm.proofs.InFront.{front_begun}
use Rattle.bit_norm.proofs.SharedFronts.{shares_front}
use Rattle.bit_norm.proofs.Comparisons.{begins_known, concluded}
use Rattle.bit_norm.proofs.in_step.compare_with.Goals as goal

pub fold-read-requires : goal.fold-read-requires
fold-read-requires g c = front_begun _ c.new-4.ensures.«open» (ap (λ (st : OpenUnder). st.ids) c.new-3.ensures) refl refl (c.new-2.ensures ∙ sym c.new-3.ensures) refl

pub returns-in-Ok-conclude : goal.returns-in-Ok-conclude
returns-in-Ok-conclude g c =
    let read = rw c.in-Ok-read.is at c.fold-read.ensures.whole in
    let begun = subst (λ (i : Incoming). Begun c.args.limits i c.in-Ok.events) c.new.ensures c.in-Ok.ensures.begun in
    let last = c.in-Ok-read.folded.gatherer in
    let second = head_told c.in-Ok-read.folded.head in
    let answer = c.in-Ok-conclude.answer in
    let first = c.args.first.now in
    let i = g.S.Source.incoming c.args.source in
    let fits = c.saturating_mul.ensures in (
      read.0,
      λ same. (
        read.0,
        λ tells.
            let found = (read.1 tells).0 in (
              found.marked,
              found.spelled,
              (read.1 tells).1,
              concluded (setting_of c.args.info) c.args.limits first _ last found.marked second answer (begun.told refl) (begun.pays.tells refl)
                  (record { first = c.new-2.ensures; second = c.new-3.ensures; within = c.new-4.ensures.«open»; items = c.new-4.ensures.items; ended = ap (λ (n : ℕ). n + 32) (c.magic_bit-behind_magic.ensures.bit ∙ ap magic_bit c.head.ensures) })
                  found.is_head found.gathers
                  (λ other spelled. shares_front c.args.limits begun.capped first (known_bytes i.to_come) c.args.equal c.saturating_mul.result _ c.requires.few (begins_known i.to_come _ tells same) (omega (arith, fits)) (λ below. omega (arith, fits, below)) (λ whole. eqb-true _ _ whole) other found.marked spelled found.spelled)
                  (subst (λ (h : Head). Concludes h second last answer) c.head.ensures c.in-Ok-conclude.ensures),
            ),
      ),
    )
