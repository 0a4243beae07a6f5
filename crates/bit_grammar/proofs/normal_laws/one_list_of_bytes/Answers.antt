use Rattle.bit_grammar.proofs.Bits.Bytes.{one_list_of_bytes, bytes_length}
use Rattle.bit_grammar.proofs.normal_laws.one_list_of_bytes.Goals as goal

pub returns : goal.returns
returns c = record { same = one_list_of_bytes; bits = bytes_length }
