-- The analysis of a whole input.
use Rattle.std.proofs.Common.{◌≡◌, ℕ, ◌+◌, ◌-◌, List, sym, ap, subst, ◌∙◌}
use Rattle.bit_grammar.specs.Blocks.{Limits}
use Rattle.bit_grammar.specs.Terms.{Head, Marked}
use Rattle.bit_grammar.specs.Machine.{Event}
use Rattle.bit_grammar.specs.Counting.{Counts, no_counts, count_events}
use Rattle.bit_grammar.specs.Tally.{BlockTally, Tally, tally_of, stream_begin, stream_bits, bits_of_rows}
use Rattle.bit_grammar.proofs.Tallying.Tallies.{bits_add_up, rows_by_events}
use Rattle.bit_events.specs.Folding.{Gathered}
use Rattle.bit_scan.specs.Cut.{capped_counts, cut_rows}
use Rattle.bit_scan.specs.Analysing.{HasTally}
use Rattle.bit_scan.proofs.Exact.{rows_stay, report_fits}

is_tally : (m : Marked) (head : Head) (p : ℕ) (tally : Tally) → m.head ≡ head → m.after ≡ p → tally.magic ≡ head.magic → tally.bits ≡ p - stream_begin head.wrapper → tally.rows ≡ (tally_of m).rows → tally ≡ tally_of m
is_tally m head p tally is_head is_after magic bits rows =
    let magic_of : tally.magic ≡ m.head.magic = magic ∙ ap (λ (h : Head). h.magic) (sym is_head) in
    let bits_of : tally.bits ≡ stream_bits m = bits ∙ ap (λ (h : Head). p - stream_begin h.wrapper) (sym is_head) ∙ ap (λ (q : ℕ). q - stream_begin m.head.wrapper) (sym is_after) in
    ap (λ (n : ℕ). record { magic = n; bits = tally.bits; rows = tally.rows }) magic_of ∙ ap (λ (n : ℕ). record { magic = m.head.magic; bits = n; rows = tally.rows }) bits_of ∙ ap (λ (x : List BlockTally). record { magic = m.head.magic; bits = stream_bits m; rows = x }) rows

-- the analysis of an input
pub has_tally : (limits : Limits) (bytes : List ℕ) (first last : Counts) (head : Head) (tally : Tally) (after : ℕ) → Gathered (λ (first : Counts) (events : List Event) (last : Counts). last ≡ capped_counts (count_events events no_counts)) limits bytes first head last after
    → tally.magic ≡ head.magic → tally.bits ≡ after - stream_begin head.wrapper → tally.rows ≡ last.rows → HasTally limits bytes tally
has_tally limits bytes first last head tally after found magic bits counted =
    let m = found.marked in
    let rows : tally.rows ≡ (tally_of m).rows =
    counted
    ∙ ap (λ (c : Counts). c.rows) found.gathers
    ∙ ap cut_rows (rows_by_events limits bytes m found.spelled)
    ∙ rows_stay (tally_of m).rows (report_fits limits bytes m found.capped found.spelled).1 in
    let same = is_tally m head after tally found.is_head found.is_after magic bits rows in
    (m, found.spelled, same, subst (λ (x : Tally). 32 + bits_of_rows x ≡ x.bits) (sym same) (bits_add_up limits bytes m found.spelled))
