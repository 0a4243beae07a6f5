use Rattle.bit_abbrev.proofs.Records.{tail_array, tail_blob, tail_nothing}
use Rattle.bit_abbrev.proofs.tail.tail_of.Goals as goal

pub returns-then-has_array : goal.returns-then-has_array
returns-then-has_array c = λ lawful. let h = c.has_array.ensures.yes c.if-has_array.true in tail_array c.args.ops.now c.in-len1-up.len_at_least lawful h.0 h.1

pub returns-then-has_blob : goal.returns-then-has_blob
returns-then-has_blob c = λ lawful. let h = c.has_blob.ensures.yes c.if-has_blob.true in tail_blob c.args.ops.now c.in-len1-up.len_at_least lawful (c.has_array.ensures.no c.if-has_array.false) h.0 h.1

pub returns : goal.returns
returns c = λ lawful. tail_nothing c.args.ops.now c.in-len1-up.len_at_least lawful (c.has_array.ensures.no c.if-has_array.false) (c.has_blob.ensures.no c.if-has_blob.false)
