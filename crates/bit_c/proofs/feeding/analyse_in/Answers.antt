use Rattle.std.proofs.Common.{◌≡◌, ℕ, List, subst}
use Rattle.bit_c.specs.Limiting.{Within, limits_told}
use Rattle.bit_c.specs.Rows.{Analyses, LeavesRows, no_tally}
use Rattle.bit_c.proofs.feeding.analyse_in.Goals as goal

pub returns-in-Input : goal.returns-in-Input
returns-in-Input c =
    let l = limits_told c.args.limits.now in
    let new = c.analyse_within.new in
    rw c.in-Input.is
    (subst
    (λ (bytes : List ℕ). Within l ((new.tally ≡ no_tally) × LeavesRows c.args.block_room.now new.block_room c.args.code_room.now new.code_room) (Analyses l bytes new.tally c.args.block_room.now new.block_room c.args.code_room.now new.code_room)
    c.analyse_within.result) c.as_slice.ensures.value c.analyse_within.ensures)
