use Rattle.bit_scan.proofs.Tellings.{rest_ended, rest_stopped, rest_written}
use Rattle.bit_scan.proofs.telling.write_rest.Goals as goal

pub returns-in-Some : goal.returns-in-Some
returns-in-Some g c = rest_stopped c.args.writer.now c.gather-done.new.gatherer (λ w. w.style) (λ w. w.around) (λ w. w.printer) (λ w. w.stopped) c.args.events.now c.gather-done.new.self c.gather-done.result c.in-Some.fault c.requires.around c.requires.wrote c.requires.goes c.requires.outside c.gather-done.ensures c.in-Some.is

pub returns-in-Ok : goal.returns-in-Ok
returns-in-Ok g c = rest_written c.args.writer.now c.gather-done.new.gatherer (λ w. w.style) (λ w. w.around) (λ w. w.printer) (λ w. w.stopped) c.args.events.now c.gather-done.new.self c.finish.result c.finish.new.self c.requires.around c.requires.goes c.requires.outside c.in-Ok.ensures c.finish.ensures.prints c.finish.ensures.all

pub returns-in-Err : goal.returns-in-Err
returns-in-Err g c = rest_ended c.args.writer.now c.gather-done.new.gatherer (λ w. w.style) (λ w. w.around) (λ w. w.printer) (λ w. w.stopped) c.args.events.now c.gather-done.new.self c.in-Err.fault c.write_last.result c.write_last.new.printer c.requires.around c.requires.goes c.requires.outside c.in-Err.ensures c.in_default.is c.write_last.ensures
