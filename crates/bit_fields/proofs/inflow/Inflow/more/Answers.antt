use Rattle.std.proofs.Common.{◌≡◌, ◌-◌, ◌/◌, min, arith}
use Rattle.bit_fields.proofs.InflowLaws.{stops_again, word_came, flow_after}
use Rattle.bit_fields.proofs.inflow.Inflow.more.Goals as goal

pub returns-then-self : goal.returns-then-self
returns-then-self g c = rw (← c.self.view_is) (stops_again _ c.self.invariant c.if-self.true)

pub invariant_of-self-in-Ok : goal.invariant_of-self-in-Ok
invariant_of-self-in-Ok g c =
    let stop : c.min-stop.result ≡ min c.self.inside.end c.self.inside.limit = c.min-stop.ensures in
    let free : c.from.result ≡ (64 - c.len.result) / 8 = c.from.ensures in
    let room : c.min-room.result ≡ min c.from.result (c.min-stop.result - c.self.inside.loaded) = c.min-room.ensures in
    flow_after _ (g.S.Source.incoming c.pull_word.new.source) c.min-room.result c.in-Ok.word c.in-Ok.count c.push.new.self c.self.invariant c.if-self.false (omega arith) (omega arith) (omega arith) c.in-Ok.ensures c.push.ensures

pub returns-in-Ok : goal.returns-in-Ok
returns-in-Ok g c =
    let stop : c.min-stop.result ≡ min c.self.inside.end c.self.inside.limit = c.min-stop.ensures in
    let room : c.min-room.result ≡ min c.from.result (c.min-stop.result - c.self.inside.loaded) = c.min-room.ensures in
    rw (← c.self.view_is) (word_came _ (g.S.Source.incoming c.pull_word.new.source) c.min-room.result c.in-Ok.word c.in-Ok.count c.push.new.self c.if-self.false (omega arith) (omega arith) c.in-Ok.count-test.1 c.in-Ok.ensures c.push.ensures)
