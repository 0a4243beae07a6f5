use Rattle.std.proofs.Common.{◌≡◌, ◌+◌, ◌-◌, ◌*◌, ◌≤◌, true, length, ap, subst, arith, rules}
use Rattle.std.proofs.lemmas.Option.{IfSome_then}
use Rattle.bit_grammar.specs.Fields.{vbr}
use Rattle.bit_fields.specs.Buffered.{BufferedBits}
use Rattle.bit_fields.specs.Placed.{HasNumbers}
use Rattle.bit_fields.specs.PlacedView.{loaded, placed}
use Rattle.bit_fields.proofs.BufferedReads.{reads_forward}
use Rattle.bit_fields.proofs.Placing.{length_at}
use Rattle.bit_abbrev.proofs.Covering.{left_is}
use Rattle.bit_abbrev.proofs.PassedRecords.{short_number, small_product, one_before, behind_there, sixes_array, numbers_array, fields_array}
use Rattle.bit_abbrev.proofs.plan.Plan.elements_len.Goals as goal

pub overflow_sub-before : goal.overflow_sub-before
overflow_sub-before c = omega (arith, reads_forward (vbr 6) (loaded c.args.first) c.args.count (loaded c.args.elements) c.requires.reads, c.position.ensures, c.position-2.ensures)

pub sixes_len-requires-clause-numbers : goal.sixes_len-requires-clause-numbers
sixes_len-requires-clause-numbers c = one_before (loaded c.args.first) c.args.count (loaded c.args.elements) c.requires.reads

pub sixes_len-requires-clause-behind : goal.sixes_len-requires-clause-behind
sixes_len-requires-clause-behind c = left_is (vbr 6) (loaded c.args.first) c.args.count (loaded c.args.elements) c.requires.reads

pub overflow_add-result : goal.overflow_add-result
overflow_add-result c =
    let wide = subst (λ n. HasNumbers n c.args.count (placed c.bits.result) c.in_ok-all_of-in-Numbers.field-0) c.chunks.ensures c.in_ok-all_of-in-Numbers.ensures.has in
    let there = subst (λ (b : BufferedBits). HasNumbers c.args.self.now.width c.args.count b c.in_ok-all_of-in-Numbers.field-0) c.bits.ensures wide in
    omega (arith, there.0, c.position.ensures, c.position-2.ensures, c.args.elements.bits.fits, length_at c.args.elements.bits.at c.args.elements.bits.bytes.now)

pub overflow_mul-len : goal.overflow_mul-len
overflow_mul-len c = omega (arith, small_product c.args.count c.from.result (short_number (loaded c.args.first) c.args.count (loaded c.args.elements) c.requires.reads c.requires.short) (omega (arith, c.from.ensures)))

pub overflow_add-result-in_default : goal.overflow_add-result-in_default
overflow_add-result-in_default c = omega (arith, c.position.ensures, c.position-2.ensures, c.requires.short, small_product c.args.count c.from.result (short_number (loaded c.args.first) c.args.count (loaded c.args.elements) c.requires.reads c.requires.short) (omega (arith, c.from.ensures)))

pub returns-in-Sixes : goal.returns-in-Sixes
returns-in-Sixes c = record {
  has = IfSome_then c.sixes_len.result c.sixes_len.ensures (λ len h tail has. sixes_array c.args.self.now.width c.args.self.now.rest tail (loaded c.args.first) c.args.count (loaded c.args.elements) len c.in-Sixes.is has c.requires.reads h);
  within = IfSome_then c.sixes_len.result c.sixes_len.ensures (λ len h. h.0);
}

pub returns-in_ok-all_of-in-Numbers : goal.returns-in_ok-all_of-in-Numbers
returns-in_ok-all_of-in-Numbers c =
    let more = c.in_ok-all_of-in-Numbers.field-0 in
    let a = loaded c.args.first in
    let b = loaded c.args.elements in
    let wide = subst (λ n. HasNumbers n c.args.count (placed c.bits.result) more) c.chunks.ensures c.in_ok-all_of-in-Numbers.ensures.has in
    let there = subst (λ (b : BufferedBits). HasNumbers c.args.self.now.width c.args.count b more) c.bits.ensures wide in
    let len_is : c.position.result - c.position-2.result + more ≡ b.position - a.position + more = omega (arith, c.position.ensures, c.position-2.ensures) in
    record {
      has = λ tail has. numbers_array c.args.self.now.width c.args.self.now.rest tail a c.args.count b more (c.position.result - c.position-2.result + more) c.in-Numbers.is has c.requires.reads there len_is;
      within = omega (arith, len_is, behind_there a c.args.count b more c.requires.reads there.0);
    }

pub returns-else-not-has : goal.returns-else-not-has
returns-else-not-has c =
    let a = loaded c.args.first in
    let b = loaded c.args.elements in
    let more = c.args.count * c.from.result in
    let product : more ≡ c.args.count * c.args.self.now.width = ap (λ n. c.args.count * n) c.from.ensures in
    let held : c.has.result ≡ true = search rules in
    let there : more ≤ length b.bits = subst (λ (x : BufferedBits). more ≤ length x.bits) c.bits-in_default.ensures (c.has.ensures held) in
    let len_is : c.position.result - c.position-2.result + more ≡ b.position - a.position + c.args.count * c.args.self.now.width = omega (arith, c.position.ensures, c.position-2.ensures, product) in
    record {
      has = λ tail has. fields_array c.args.self.now.width c.args.self.now.rest tail a c.args.count b (c.position.result - c.position-2.result + more) c.requires.array c.requires.planned c.in_default.not-Sixes c.in_default.not-Numbers has c.requires.reads (omega (arith, there, product)) len_is;
      within = omega (arith, len_is, product, behind_there a c.args.count b more c.requires.reads there);
    }
