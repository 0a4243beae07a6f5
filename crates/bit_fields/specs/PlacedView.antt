-- The bits that placed and loaded bits stand for.
use Rattle.bit_fields.specs.declared.placed.PlacedBits.{PlacedBits}
use Rattle.bit_fields.specs.declared.placed.LoadedBits.{LoadedBits}
use Rattle.bit_fields.specs.Buffered.{BufferedBits}
use Rattle.bit_fields.specs.Placed.{bits_at}

abbrev pub placed : PlacedBits → BufferedBits
placed p = bits_at p.start p.at p.bytes.now

abbrev pub loaded : LoadedBits → BufferedBits
loaded l = placed l.bits
