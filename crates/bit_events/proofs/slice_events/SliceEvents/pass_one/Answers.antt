use Rattle.std.proofs.Common.{[], Ok, not, ap, subst, sym}
use Rattle.bit_events.specs.Coming.{Coming, PassesNext}
use Rattle.bit_events.specs.MachineView.{record_of}
use Rattle.bit_events.proofs.PassedEvents.{passes_found, passes_given}
use Rattle.bit_events.proofs.slice_events.SliceEvents.pass_one.Goals as goal

pub returns-in-Some : goal.returns-in-Some
returns-in-Some c =
    let read = c.in-Some._read in
    let given = c.in-Some.ensures.gives [] c.new.ensures in
    let event = record_of read.«abbrev» given.2.0 read.first (read.code, read.after) in
    (passes_given c.args.self.now event given.2.0 c.record.new.self given.2.2, given.2.2.goes)

pub returns : goal.returns
returns c =
    let s = c.self.inside in
    subst (λ (old : Coming). PassesNext old (Ok (not s.over)) c.find.new.self) c.in_default.ensures.stays (passes_found c.record.new.self c.find.new.self s.over s.reader.live c.find.new.self.last (ap (λ (x : Coming). x.stage) (sym c.self.view_is)) c.in_ok-find.ensures)
