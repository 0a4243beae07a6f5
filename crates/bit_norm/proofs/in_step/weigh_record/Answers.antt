use Rattle.std.proofs.Common.{◌≡◌, ◌∙◌, sym, arith, length}
use Rattle.bit_norm.specs.Entries.{has_record}
use Rattle.bit_norm.specs.declared.in_step.Beside.TheVariants.{Same, Other}
use Rattle.bit_norm.proofs.InStep.{read_front, record_passed, record_beside, record_same, record_other}
use Rattle.bit_norm.proofs.in_step.weigh_record.Goals as goal
use Rattle.bit_norm.proofs.in_step.weigh_record.Goals.{else-read-code-via-then-read-code+else-count-len, else-read-code-via-else-read-code}

pub returns-then-not-leaves_record-clause-some : goal.returns-then-not-leaves_record-clause-some
returns-then-not-leaves_record-clause-some c =
    let r = c.in-Some.read in
    let h = c.in-Some.ensures.gives _ c.new-expected.ensures.took in
    record_passed c.args.blocks.now c.args.events.now c.record.new.self r.«abbrev» r.code r.first r.after h.2.0 (has_record c.args.code c.args.values.now) c.args.apart.now h.2.2 (sym c.leaves_record.ensures ∙ c.if-not-leaves_record.true)

pub returns-then-count-len-clause-some : goal.returns-then-count-len-clause-some
returns-then-count-len-clause-some c =
    let r = c.in-Some.read in
    let others = c.args.values.now in
    let h = c.in-Some.ensures.gives _ c.new-expected.ensures.took in
    let e = c.in-Some-front_of.ensures in
    let front = e.front h.2.0 (read_front c.record.new.values others h.0 h.2.0 h.1 h.2.1 e.whole) in
    record_beside c.args.blocks.now c.args.events.now c.record.new.self r.«abbrev» r.code r.first r.after h.2.0 (has_record c.args.code others) (Same r.after) c.args.apart.now h.2.2 (sym c.leaves_record.ensures ∙ c.if-not-leaves_record.false)
    (record_same r.code r.first r.after c.args.code c.in-Some-front_of.count h.2.0 others c.args.apart.now front (c.if-count-len.true ∙ c.len.ensures) c.if-read-code.true)

pub returns-clause-some : goal.returns-clause-some
returns-clause-some c =
    let r = c.in-Some.read in
    let others = c.args.values.now in
    let count = c.in-Some-front_of.count in
    let h = c.in-Some.ensures.gives _ c.new-expected.ensures.took in
    let e = c.in-Some-front_of.ensures in
    let front = e.front h.2.0 (read_front c.record.new.values others h.0 h.2.0 h.1 h.2.1 e.whole) in
    let unlike : (r.code ≡ c.args.code) × (count ≡ length others) → ⊥ = λ same. elim c.else-read-code.branch [
      | else-read-code-via-then-read-code+else-count-len w ↦ absurd (omega (arith, w.if-count-len.false, w.len.ensures, same.1))
      | else-read-code-via-else-read-code w ↦ absurd (omega (arith, w.if-read-code.false, same.0))
    ] in
    record_beside c.args.blocks.now c.args.events.now c.record.new.self r.«abbrev» r.code r.first r.after h.2.0 (has_record c.args.code others) Other c.tell_record_apart.new.apart h.2.2 (sym c.leaves_record.ensures ∙ c.if-not-leaves_record.false)
    (record_other r.code r.first r.after c.args.code count h.2.0 others c.tell_record_apart.new.apart front e.few.1 unlike c.tell_record_apart.ensures.first c.tell_record_apart.ensures.value)
