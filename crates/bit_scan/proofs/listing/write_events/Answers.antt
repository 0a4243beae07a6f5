use Rattle.bit_scan.proofs.Lists.{left_ended, left_stopped, left_written}
use Rattle.bit_scan.proofs.listing.write_events.Goals as goal

pub returns-in-Some : goal.returns-in-Some
returns-in-Some g c = left_stopped c.args.writer.now c.gather-done.new.gatherer (λ w. w.standing) (λ w. w.around) (λ w. w.printer) (λ w. w.stopped) c.args.events.now c.gather-done.new.self c.gather-done.result c.in-Some.fault c.requires.around c.requires.wrote c.requires.tells c.requires.outside c.gather-done.ensures c.in-Some.is

pub returns-in-Ok : goal.returns-in-Ok
returns-in-Ok g c = left_written c.args.writer.now c.gather-done.new.gatherer (λ w. w.standing) (λ w. w.around) (λ w. w.printer) (λ w. w.stopped) c.args.events.now c.gather-done.new.self c.requires.around c.requires.tells c.requires.outside c.in-Ok.ensures

pub returns-in-Err : goal.returns-in-Err
returns-in-Err g c = left_ended c.args.writer.now c.gather-done.new.gatherer (λ w. w.standing) (λ w. w.around) (λ w. w.printer) (λ w. w.stopped) c.args.events.now c.gather-done.new.self c.in-Err.field-0 c.requires.around c.requires.tells c.requires.outside c.in-Err.ensures c.in_default.is
