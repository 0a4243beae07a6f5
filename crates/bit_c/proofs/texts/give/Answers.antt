use Rattle.bit_grammar.specs.Setting.{setting_of}
use Rattle.bit_c.specs.Texts.{FailsText, IsTextOf}
use Rattle.bit_c.proofs.Handed.{handed}
use Rattle.bit_c.proofs.Making.{no_memory}
use Rattle.bit_c.proofs.texts.give.Goals as goal

pub returns : goal.returns
returns c =
    let setting = setting_of c.args.info in
    handed (IsTextOf c.args.text setting c.args.limits c.args.bytes.now) (FailsText c.args.text setting c.args.limits c.args.bytes.now) c.make-outcome.result.0 _ c.args.room.now c.hand.new.room c.hand.new.needed c.hand.result
    (no_memory c.args.text setting c.args.limits c.args.bytes.now) c.make-outcome.ensures c.hand.ensures
