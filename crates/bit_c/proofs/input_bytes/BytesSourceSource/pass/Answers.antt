use Rattle.std.proofs.Common.{[], ◌∷◌, arith}
use Rattle.bit_c.specs.Bytes.{account_of, bytes_in}
use Rattle.bit_c.proofs.Sources.{passed}
use Rattle.bit_c.proofs.input_bytes.BytesSourceSource.pass.Goals as goal

pub returns : goal.returns
returns c =
    let old = c.args.self.now in
    passed (bytes_in old.bytes) c.rest.result.now (account_of old.bytes ∷ []) old.given old.pulls c.args.most c.min-count.result (omega arith) c.requires c.rest.ensures.rest c.min-count.ensures
