use Rattle.std.proofs.Common.{◌≡◌, sym, ap, arith, true, false, length, true≢false}
use Rattle.std.specs.Vec.{vec_len}
use Rattle.bitstool.proofs.run.run_with_hasher.Goals.{then-is_empty, else-is_empty}
use Rattle.bitstool.proofs.run.run_with_hasher.Goals as goal

pub returns-clause-plain : goal.returns-clause-plain
returns-clause-plain g c none = elim c.if-is_empty.branch [
  | then-is_empty w ↦ (w.nothing.result, w.nothing.ensures, rw (w.parsed-is, w.usual.ensures.usual) at c.obey.ensures.runs)
  | else-is_empty w ↦
      let empty : vec_len c.args.words ≡ 0 = omega (arith, c.args.words.ok, ap length none) in
      let bad : false ≡ true = rw empty at w.if-is_empty.ensures in
      absurd (true≢false (sym bad))
]
