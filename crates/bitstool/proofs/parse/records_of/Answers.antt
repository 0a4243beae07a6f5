use Rattle.std.proofs.Common.{rules, ◌≡◌, List, [], codes}
use Rattle.clap.specs.Walk.{Text, texts}
use Rattle.clap.specs.Words.{found_of, rows_of}
use Rattle.bitstool.specs.Names.{NameEach, NamesRecord}
use Rattle.bitstool.specs.Words.{texts_of}
use Rattle.bitstool.proofs.Naming.{records_named_by, texts_found}
use Rattle.bitstool.proofs.parse.records_of.Goals as goal

pub returns-in-Some : goal.returns-in-Some
returns-in-Some c =
    let found = found_of c.args.matches.now in
    let is : texts c.in-Some.given.now ≡ texts_of (codes "drop-record") (rows_of found) = rw c.in-Some.is at (texts_found found (codes "drop-record") c.get_strs.result c.get_strs.ensures) in
    records_named_by (λ given named. NameEach NamesRecord given named.items) (rows_of found) (texts c.in-Some.given.now) c.records_named.result is c.records_named.ensures

pub returns-in-None : goal.returns-in-None
returns-in-None c =
    let found = found_of c.args.matches.now in
    let none : ◌≡◌ {A = List Text} [] (texts_of (codes "drop-record") (rows_of found)) = rw c.in-None.is at (texts_found found (codes "drop-record") c.get_strs.result c.get_strs.ensures) in
    let fresh : c.new.result.items ≡ [] = search rules in
    rw (← none, fresh) tt
