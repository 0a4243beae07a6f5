use Rattle.std.proofs.Common.{◌≡◌, map, Ok, refl}
use Rattle.std.proofs.Math.ListN.{replicate}
use Rattle.std.proofs.lemmas.List.{length-replicate}
use Rattle.bit_grammar.specs.Grammar.{repeat}
use Rattle.bit_grammar.specs.Fields.{fixed, vbr}
use Rattle.bit_grammar.specs.Record.{scalar}
use Rattle.bit_grammar.specs.Terms.{character}
use Rattle.bit_fields.specs.Inside.{numbers}
use Rattle.bit_fields.specs.Buffered.{reader_at}
use Rattle.bit_abbrev.proofs.Adding.{zeros_took_by}
use Rattle.bit_abbrev.proofs.Buffered.{took_at}
use Rattle.bit_abbrev.proofs.Taking.{length-numbers, length-map-codes, characters_took, zeros_took}
use Rattle.bit_abbrev.proofs.runs.skip_fields.Goals as goal

pub returns-in-Fixed-eq0-clause-skips : goal.returns-in-Fixed-eq0-clause-skips
unfolding scalar
returns-in-Fixed-eq0-clause-skips c =
    let none : c.in-Fixed-eq0.field-0 ≡ 0 = cc in
    rw (c.in-Fixed-eq0.is, none) (replicate c.args.most 0, length-replicate c.args.most 0, zeros_took_by c.args.most (reader_at c.args.buffered.now) (replicate c.args.most 0) (zeros_took c.args.most (reader_at c.args.buffered.now) refl))

pub returns-in-Fixed-clause-skips : goal.returns-in-Fixed-clause-skips
unfolding scalar
returns-in-Fixed-clause-skips c =
    let count = c.skip_fields.result in
    let values = numbers c.in-Fixed.width count c.args.buffered.now.bits in
    let seen = rw c.of.ensures at c.skip_fields.ensures.reads in
    rw c.in-Fixed.is (values, length-numbers c.in-Fixed.width count c.args.buffered.now.bits, took_at (repeat count (fixed c.in-Fixed.width)) c.args.buffered.now values c.skip_fields.new.self seen)

pub returns-in-Vbr-eq0-clause-skips : goal.returns-in-Vbr-eq0-clause-skips
unfolding scalar vbr
returns-in-Vbr-eq0-clause-skips c =
    let none : c.in-Vbr-eq0.field-0 ≡ 0 = cc in
    rw (c.in-Vbr-eq0.is, none) (replicate c.args.most 0, length-replicate c.args.most 0, zeros_took c.args.most (reader_at c.args.buffered.now) refl)

pub returns-in-Char6-clause-skips : goal.returns-in-Char6-clause-skips
unfolding scalar
returns-in-Char6-clause-skips c =
    let count = c.skip_fields-in-Char6.result in
    let codes = numbers 6 count c.args.buffered.now.bits in
    let took = took_at (repeat count (fixed 6)) c.args.buffered.now codes c.skip_fields-in-Char6.new.self c.skip_fields-in-Char6.ensures.reads in
    rw c.in-Char6.is (map character codes, length-map-codes count c.args.buffered.now.bits, characters_took count (reader_at c.args.buffered.now) codes (Ok tt) (reader_at c.skip_fields-in-Char6.new.self) took)
