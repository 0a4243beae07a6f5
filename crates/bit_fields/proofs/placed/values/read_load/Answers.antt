use Rattle.std.proofs.Common.{◌≡◌, ℕ, ◌+◌, ◌/◌, ◌^◌, ◌≤◌, sym, ap, ◌∙◌, subst, arith, length-set, refl}
use Rattle.std.specs.Int.{w64, trailing_zeros}
use Rattle.bit_fields.specs.Buffered.{BufferedBits, beyond}
use Rattle.bit_fields.specs.Placed.{bits_at}
use Rattle.bit_fields.specs.PlacedView.{loaded}
use Rattle.bit_fields.proofs.Placing.{length_at}
use Rattle.bit_fields.proofs.SixLoads.{Loads, load_taken, loads_first, loads_number}
use Rattle.bit_fields.proofs.SixRows.{behind_at, row_more}
use Rattle.bit_fields.proofs.SixValues.{six_few}
use Rattle.bit_fields.proofs.placed.values.read_load.Goals as goal

few_bits : (word tops : ℕ) (a : BufferedBits) → Loads word tops a → (tops ≡ 0 → ⊥) → trailing_zeros w64 tops + 1 ≤ 54
few_bits word tops a loads some = (six_few (trailing_zeros w64 tops + 1) word (loads_number word tops a loads some).ends).1

pub loop-tops-init : goal.loop-tops-init
loop-tops-init c =
    let load = c.args.load in
    record { on = omega arith; within = omega arith; begun = λ none. refl; there = load.bits.there; loads = loads_first load.ends (loaded load) load.word load.shows; reads = λ before row. row }

pub number_in-requires : goal.number_in-requires
number_in-requires c = let l = c.loop-tops in few_bits l.word l.tops (bits_at c.args.load.bits.start l.at c.args.load.bits.bytes.now) l.invariant.loads c.loop-tops-test.true

pub overflow_shr-word : goal.overflow_shr-word
overflow_shr-word c = let l = c.loop-tops in omega (arith, few_bits l.word l.tops (bits_at c.args.load.bits.start l.at c.args.load.bits.bytes.now) l.invariant.loads c.loop-tops-test.true)

pub overflow_shr-tops : goal.overflow_shr-tops
overflow_shr-tops c = let l = c.loop-tops in omega (arith, few_bits l.word l.tops (bits_at c.args.load.bits.start l.at c.args.load.bits.bytes.now) l.invariant.loads c.loop-tops-test.true)

pub overflow_add-at : goal.overflow_add-at
overflow_add-at c =
    let l = c.loop-tops in
    let bits = c.args.load.bits in
    let n = loads_number l.word l.tops (bits_at bits.start l.at bits.bytes.now) l.invariant.loads c.loop-tops-test.true in
    omega (arith, c.from-at.ensures, n.there, length_at l.at bits.bytes.now, bits.fits)

pub loop-tops-preserved : goal.loop-tops-preserved
loop-tops-preserved c =
    let l = c.loop-tops in
    let bits = c.args.load.bits in
    let bytes = bits.bytes.now in
    let a = bits_at bits.start l.at bytes in
    let b = bits_at bits.start (l.at + c.from-at.result) bytes in
    let len = trailing_zeros w64 l.tops + 1 in
    let value = c.number_in.result in
    let n = loads_number l.word l.tops a l.invariant.loads c.loop-tops-test.true in
    let b_is : b ≡ beyond a len = ap (λ (k : ℕ). bits_at bits.start (l.at + k) bytes) c.from-at.ensures ∙ behind_at bits.start l.at len bytes in
    record {
      on = omega (arith, l.invariant.on);
      within = omega (arith, length-set l.values l.next value, c.if-next-values.true);
      begun = λ none. absurd (omega (arith, none, l.invariant.on));
      there = omega (arith, c.from-at.ensures, n.there, length_at l.at bytes, l.invariant.there);
      loads = subst (Loads (l.word / 2 ^ len) (l.tops / 2 ^ len)) (sym b_is) n.rest;
      reads = λ before row. row_more l.next value 0 l.values before a b c.if-next-values.true (l.invariant.reads before row) (load_taken l.word l.tops len value a b n c.number_in.ensures b_is);
    }
