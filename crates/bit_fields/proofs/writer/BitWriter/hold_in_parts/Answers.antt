use Rattle.std.proofs.Common.{◌-◌, Bool, List, ◌++◌, length, take, drop, ap, ◌∙◌, arith}
use Rattle.std.proofs.lemmas.List.{take-append-drop}
use Rattle.std.proofs.lemmas.Result.{err_from_is_err_and}
use Rattle.bit_fields.specs.Writer.{Wrote}
use Rattle.bit_fields.proofs.WriterLaws.{wrote_no_more, wrote_in_parts, lost_between}
use Rattle.bit_fields.proofs.writer.BitWriter.hold_in_parts.Goals as goal

pub returns-in_err-put-clause-lost : goal.returns-in_err-put-clause-lost
returns-in_err-put-clause-lost g c =
    let p = err_from_is_err_and c.from_residual.result c.from_residual.ensures.1 in
    let room = 64 - length c.args.self.now.held in
    rw p.1 (lost_between c.args.self.now c.hold_front-rest.new.self c.put.new.self (take room c.args.bits) (drop room c.args.bits) c.args.bits (take-append-drop room c.args.bits) c.hold_front-rest.ensures.wrote c.in_err-put.ensures.lost)

pub put_all-requires-clause-whole : goal.put_all-requires-clause-whole
put_all-requires-clause-whole g c = omega (arith, c.hold_front-rest.ensures.whole, c.in_ok-put.ensures.wrote.position)

pub returns-in_err-put_all-clause-lost : goal.returns-in_err-put_all-clause-lost
returns-in_err-put_all-clause-lost g c =
    let p = err_from_is_err_and c.from_residual-in_err-put_all.result c.from_residual-in_err-put_all.ensures.1 in
    let room = 64 - length c.args.self.now.held in
    let before : Wrote c.args.self.now (take room c.args.bits) c.put.new.self = wrote_no_more c.args.self.now c.hold_front-rest.new.self c.put.new.self (take room c.args.bits) c.hold_front-rest.ensures.wrote c.in_ok-put.ensures.wrote in
    rw p.1 (lost_between c.args.self.now c.put.new.self c.put_all.new.self (take room c.args.bits) (drop room c.args.bits) c.args.bits (take-append-drop room c.args.bits) before c.in_err-put_all.ensures.lost)

pub returns-clause-wrote : goal.returns-clause-wrote
returns-clause-wrote g c =
    let room = 64 - length c.args.self.now.held in
    let front : List Bool = take room c.args.bits in
    let before : Wrote c.args.self.now front c.put.new.self = wrote_no_more c.args.self.now c.hold_front-rest.new.self c.put.new.self front c.hold_front-rest.ensures.wrote c.in_ok-put.ensures.wrote in
    let put : Wrote c.args.self.now front c.put_all.new.self = wrote_no_more c.args.self.now c.put.new.self c.put_all.new.self front before c.in_ok-put_all.ensures.wrote in
    wrote_in_parts c.args.self.now c.put_all.new.self c.hold.new.self front c.hold_front-rest.result c.args.bits (ap (λ (s : List Bool). front ++ s) c.hold_front-rest.ensures.rest ∙ take-append-drop room c.args.bits) put c.hold.ensures.wrote
