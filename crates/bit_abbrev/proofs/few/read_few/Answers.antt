use Rattle.std.proofs.lemmas.Option.{IfSome_then}
use Rattle.bit_fields.specs.PlacedView.{placed}
use Rattle.bit_abbrev.proofs.FewValues.{found_few, plain_found}
use Rattle.bit_abbrev.proofs.few.read_few.Goals as goal

pub returns-then-id-eq3-clause-reads : goal.returns-then-id-eq3-clause-reads
returns-then-id-eq3-clause-reads c =
    IfSome_then c.read_few_plain.result c.read_few_plain.ensures.reads (λ passed h. λ first. plain_found c.args.room first c.args.id c.args.definitions.now (placed c.args.fields) passed c.read_few_plain.new.values c.if-id-eq3.true h)

pub returns-then-eq-clause-reads : goal.returns-then-eq-clause-reads
returns-then-eq-clause-reads c =
    IfSome_then c.read_few_fixed.result c.read_few_fixed.ensures.reads (λ passed h. λ first. found_few c.args.room first c.args.id c.args.definitions.now c.in_ok-abbrev.abbrev.now (placed c.args.fields) passed c.read_few_fixed.new.values c.if-id-eq3.false c.in_ok-abbrev.ensures (h first))

pub returns-clause-reads : goal.returns-clause-reads
returns-clause-reads c =
    IfSome_then c.read_few_other.result c.read_few_other.ensures.reads (λ passed h. λ first. found_few c.args.room first c.args.id c.args.definitions.now c.in_ok-abbrev.abbrev.now (placed c.args.fields) passed c.read_few_other.new.values c.if-id-eq3.false c.in_ok-abbrev.ensures (h first))
