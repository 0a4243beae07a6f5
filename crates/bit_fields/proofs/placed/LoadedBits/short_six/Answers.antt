use Rattle.std.proofs.Common.{sym, subst}
use Rattle.bit_grammar.specs.Fields.{vbr}
use Rattle.bit_fields.specs.Buffered.{Reads}
use Rattle.bit_fields.specs.PlacedView.{loaded}
use Rattle.bit_fields.proofs.Placing.{six_there, six_one, six_two, six_three}
use Rattle.bit_fields.proofs.placed.LoadedBits.short_six.Goals as goal

pub after-requires-clause-there : goal.after-requires-clause-there
after-requires-clause-there c = six_there 5 c.args.self.ends (loaded c.args.self).bits c.args.self.shows c.if-self-ne0.true

pub returns-then-self-ne0-clause-reads : goal.returns-then-self-ne0-clause-reads
returns-then-self-ne0-clause-reads c = subst (Reads (vbr 6) (loaded c.args.self) _) (sym c.after.ensures) (six_one c.args.self.ends (loaded c.args.self) c.args.self.word c.args.self.shows c.if-self-ne0.true)

pub after-requires-then-self-ne0-2-clause-there : goal.after-requires-then-self-ne0-2-clause-there
after-requires-then-self-ne0-2-clause-there c = six_there 11 c.args.self.ends (loaded c.args.self).bits c.args.self.shows c.if-self-ne0-2.true

pub returns-then-self-ne0-2-clause-reads : goal.returns-then-self-ne0-2-clause-reads
returns-then-self-ne0-2-clause-reads c = subst (Reads (vbr 6) (loaded c.args.self) _) (sym c.after-then-self-ne0-2.ensures) (six_two c.args.self.ends (loaded c.args.self) c.args.self.word c.args.self.shows c.if-self-ne0.false c.if-self-ne0-2.true)

pub after-requires-then-self-ne0-3-clause-there : goal.after-requires-then-self-ne0-3-clause-there
after-requires-then-self-ne0-3-clause-there c = six_there 17 c.args.self.ends (loaded c.args.self).bits c.args.self.shows c.if-self-ne0-3.true

pub returns-then-self-ne0-3-clause-reads : goal.returns-then-self-ne0-3-clause-reads
returns-then-self-ne0-3-clause-reads c = subst (Reads (vbr 6) (loaded c.args.self) _) (sym c.after-then-self-ne0-3.ensures) (six_three c.args.self.ends (loaded c.args.self) c.args.self.word c.args.self.shows c.if-self-ne0.false c.if-self-ne0-2.false c.if-self-ne0-3.true)
