use Rattle.std.proofs.Common.{◌≡◌, ◌∙◌, ◌<◌, [], refl, rules, arith, length}
use Rattle.std.proofs.KnownBytes.{Appends-nil}
use Rattle.bitstool.proofs.Known.{part_grows}
use Rattle.bitstool.proofs.Putting.{put_failed, put_none, took_all}
use Rattle.bitstool.proofs.devices.put_all.Goals as goal

pub loop-rest-init : goal.loop-rest-init
loop-rest-init g c = ([], refl, Appends-nil _, refl)

pub loop-rest-preserved : goal.loop-rest-preserved
loop-rest-preserved g c =
    let i = c.loop-rest.invariant in
    let accepted = c.in-Ok.ensures in
    let more = part_grows _ _ _ _ i.0 _ _ i.1 i.2 accepted.bytes in
    (more.0, more.1, more.2, accepted.failures (omega (arith, c.in-Ok.count-test.1)) ∙ i.3)

pub returns : goal.returns
returns g c =
    let i = c.loop-rest.invariant in
    let none : length c.loop-rest.rest.now ≡ 0 = search rules in
    took_all _ _ _ i.0 _ none i.1 i.2 i.3

pub returns-in-Ok-eq0 : goal.returns-in-Ok-eq0
returns-in-Ok-eq0 g c =
    let i = c.loop-rest.invariant in
    let some : 0 < length c.loop-rest.rest.now = search rules in
    put_none _ (g.K.Sink.outgoing c.loop-rest.sink) _ _ i.0 c.loop-rest.rest.now c.in-Ok-eq0.field-0 c.in-Ok-eq0.field-0-test some i.1 i.2 i.3 c.in-Ok-eq0.ensures

pub returns-in-Err : goal.returns-in-Err
returns-in-Err g c =
    let i = c.loop-rest.invariant in
    put_failed _ (g.K.Sink.outgoing c.loop-rest.sink) _ _ i.0 c.loop-rest.rest.now i.1 i.2 i.3 c.in-Err.ensures
