use Rattle.std.proofs.Common.{Ok, Err}
use Rattle.bit_text.proofs.Finishing.{ended, last_stopped, given, no_magic}
use Rattle.bit_text.proofs.assembler.Assembler.finish.Goals as goal

pub returns-in-Err : goal.returns-in-Err
returns-in-Err g c = λ now here. last_stopped now c.args.self c.end_line.new.self c.in-Err.fault (g.K.Sink.outgoing c.args.sink) (ended now c.args.self c.end_line.new.self (Err c.in-Err.fault) (c.in-Err.ensures now here))

pub returns-in-Some : goal.returns-in-Some
returns-in-Some g c = λ now here. given now c.args.self c.end_line.new.self c.in-Some.writer (g.K.Sink.outgoing c.args.sink) (g.K.Sink.outgoing c.give.result.1) c.give.result.0 (ended now c.args.self c.end_line.new.self (Ok tt) (c.in_default.ensures now here)) c.in-Some.is c.give.ensures

pub returns : goal.returns
returns g c = λ now here. no_magic now c.args.self c.end_line.new.self (g.K.Sink.outgoing c.args.sink) (ended now c.args.self c.end_line.new.self (Ok tt) (c.in_default.ensures now here)) c.in-None.is
