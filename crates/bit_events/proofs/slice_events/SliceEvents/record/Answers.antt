use Rattle.std.proofs.Common.{◌<◌, None, subst, sym, ◌∙◌}
use Rattle.bit_grammar.specs.Machine.{step}
use Rattle.bit_fields.specs.Buffered.{BufferedBits, Reads}
use Rattle.bit_events.specs.Coming.{Coming, GivesEvent}
use Rattle.bit_events.specs.MachineView.{machine_shown, record_of}
use Rattle.bit_events.specs.Events.{coming_of}
use Rattle.bit_events.specs.SliceEvents.{reader_seen}
use Rattle.bit_events.proofs.InSlices.{seen_behind, seen_given}
use Rattle.bit_events.proofs.slice_events.SliceEvents.record.Goals as goal

pub invariant_of-self-2 : goal.invariant_of-self-2
invariant_of-self-2 g c =
    let s = c.self.inside in
    let e = c.in_ok-read.ensures in
    let r = c.in_ok-read.read in
    let new = c.buffered_step.new in
    let was = c.requires.took in
    let h = e.reads was.0 was.1 in
    let live = sym c.is_live.ensures ∙ c.if-not-is_live.false in
    rw c.forget.ensures (seen_behind s.limits s.machine new.self s.reader s.buffered new.buffered (record_of r.«abbrev» h.2.0 r.first (r.code, r.after)) live e.«open» e.frames (subst (λ (x : BufferedBits). x.position < new.buffered.position) c.copy-buffered.ensures e.moves) c.self.invariant
    (subst (λ (x : BufferedBits). Reads (step s.limits (machine_shown s.machine)) x (record_of r.«abbrev» h.2.0 r.first (r.code, r.after), machine_shown new.self) new.buffered) c.copy-buffered.ensures h.2.2))

pub returns-clause-gives : goal.returns-clause-gives
returns-clause-gives g c = λ before was.
    let s = c.self.inside in
    let e = c.in_ok-read.ensures in
    let r = c.in_ok-read.read in
    let new = c.buffered_step.new in
    let h = e.reads before was in
    let live = sym c.is_live.ensures ∙ c.if-not-is_live.false in
    let given = seen_given s.over s.limits s.head s.machine new.self s.values.taker h.2.0 s.found s.reader s.buffered new.buffered r.«abbrev» r.code r.first r.after live e.«open» e.frames (subst (λ (x : BufferedBits). x.position < new.buffered.position) c.copy-buffered.ensures e.moves) e.below c.self.invariant
    (subst (λ (x : BufferedBits). Reads (step s.limits (machine_shown s.machine)) x (record_of r.«abbrev» h.2.0 r.first (r.code, r.after), machine_shown new.self) new.buffered) c.copy-buffered.ensures h.2.2) in
    (h.0, h.1, (h.2.0, h.2.1, rw c.forget.ensures (subst (λ (old : Coming). GivesEvent old (record_of r.«abbrev» h.2.0 r.first (r.code, r.after)) (coming_of s.over s.limits s.head new.self h.2.0 None new.buffered.position (reader_seen s.reader new.buffered))) c.self.view_is given)))
