-- What a handle owns: a box, or nothing.
use Rattle.std.specs.declared.option.Option.{Option}
use Rattle.std.specs.declared.option.Option.TheVariants.{Some, None}
use base.Fml.{Fml, ftrue}
use denote.RawPtr.{Ptr}
use Rattle.std.specs.Box.Ownership.{box_owns}
use Rattle.std.specs.Global.{Global}
use Rattle.std_heap.specs.contracts.GlobalAllocator.TheImpl.{ghosts}
use Rattle.bit_c.specs.contracts.home.Home.{the_row}

abbrev pub held : Global → Ptr → Option the_row.Denot → Fml
held alloc at None = ftrue
held alloc at (Some home) = box_owns (ghosts.dealloc_token alloc) the_row at home
