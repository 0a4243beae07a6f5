-- The lines of a report, one after the other.
use Rattle.std.proofs.Common.{◌≡◌, ℕ, ◌+◌, ◌<◌, List, [], ◌∷◌, ◌++◌, length, get_or, drop, drop-cons, add-one, Result, Err, refl, sym, ap, ◌∙◌}
use Rattle.std.specs.Prelude.{flat_map}
use Rattle.std.proofs.lemmas.List.{append-nil}
use Rattle.bit_grammar.specs.Tally.{Tally}
use Rattle.bit_fields.specs.declared.fault.Fault.{Fault}
use Rattle.bit_scan.specs.CodesView.{code_tally, code_tallies}
use Rattle.bit_scan.specs.declared.format.Format.{Format}
use Rattle.bit_scan.specs.declared.format.Format.TheVariants.{Text, JsonLines}
use Rattle.bit_scan.specs.Printing.{Printing, Printed, Prints}
use Rattle.bit_scan.specs.Rows.{block_tally, block_tallies}
use Rattle.bit_scan.specs.Styles.{code_as, report_as, row_as, row_line_as, stream_as}
use Rattle.bit_scan.specs.declared.rows.BlockRow.{BlockRow}
use Rattle.bit_scan.specs.declared.rows.CodeRow.{CodeRow}
use Rattle.bit_scan.proofs.Prints.{Goes, goes_starts, goes_as, goes_on, goes_wrong, goes_last}

-- the first of what remains
pub drop_first : {A : Type 0} (xs : List A) (i : ℕ) (x : A) → i < length xs → drop i xs ≡ get_or xs i x ∷ drop (i + 1) xs
drop_first xs i x h = rw add-one (drop-cons xs i x h)

-- ---- the parts of a report, in each format

row_parts : {S H : Type 0} (format : Format) (e : ℕ × BlockRow S H) → row_as format (block_tally e) ≡ row_line_as format e ++ flat_map (code_as format e.0) (code_tallies e.1.codes)
row_parts Text e = refl
row_parts JsonLines e = refl

report_parts : (format : Format) (tally : Tally) → report_as format tally ≡ stream_as format tally.magic tally.bits ++ flat_map (row_as format) tally.rows
report_parts Text tally = refl
report_parts JsonLines tally = refl

module _ (format : Format) where
  -- ---- codes

  -- the lines of codes in blocks with an id
  abbrev pub lines_of_codes : (id : ℕ) → List (ℕ × CodeRow) → List ℕ
  lines_of_codes id es = flat_map (code_as format id) (code_tallies es)

  pub next_code : (id : ℕ) (whole : List ℕ) (old now : Printing) (es left : List (ℕ × CodeRow)) (e : ℕ × CodeRow) → es ≡ e ∷ left → Goes whole old (lines_of_codes id es) now → Goes whole old (code_as format id (code_tally e) ++ lines_of_codes id left) now
  next_code id whole old now es left e is g = goes_as whole old (lines_of_codes id es) (code_as format id (code_tally e) ++ lines_of_codes id left) now (ap (lines_of_codes id) is) g

  -- ---- rows

  -- the lines of rows
  abbrev pub lines_of_rows : {S H : Type 0} → List (ℕ × BlockRow S H) → List ℕ
  lines_of_rows es = flat_map (row_as format) (block_tallies es)

  pub next_row : {S H : Type 0} (whole : List ℕ) (old now : Printing) (es left : List (ℕ × BlockRow S H)) (e : ℕ × BlockRow S H) → es ≡ e ∷ left → Goes whole old (lines_of_rows es) now → Goes whole old (row_as format (block_tally e) ++ lines_of_rows left) now
  next_row whole old now es left e is g = goes_as whole old (lines_of_rows es) (row_as format (block_tally e) ++ lines_of_rows left) now (ap lines_of_rows is) g

  -- ---- the whole

  -- the first line, the rows, and nothing more
  report_starts : (tally : Tally) (w : Printing) → Goes (report_as format tally) w (stream_as format tally.magic tally.bits ++ (flat_map (row_as format) tally.rows ++ [])) w
  report_starts tally w =
      goes_as (report_as format tally) w (report_as format tally) (stream_as format tally.magic tally.bits ++ (flat_map (row_as format) tally.rows ++ [])) w
      (report_parts format tally ∙ ap (λ (l : List ℕ). stream_as format tally.magic tally.bits ++ l) (sym (append-nil (flat_map (row_as format) tally.rows)))) (goes_starts (report_as format tally) w)

  pub no_head : (tally : Tally) (old new : Printing) (fault : Fault) → Prints (stream_as format tally.magic tally.bits) old (Err fault) new → Prints (report_as format tally) old (Err fault) new
  no_head tally old new fault p = goes_wrong (report_as format tally) old (stream_as format tally.magic tally.bits) (flat_map (row_as format) tally.rows ++ []) old new fault (report_starts tally old) p

  after_head : (tally : Tally) (old now : Printing) → Printed (stream_as format tally.magic tally.bits) old now → Goes (report_as format tally) old (flat_map (row_as format) tally.rows ++ []) now
  after_head tally old now p = goes_on (report_as format tally) old (stream_as format tally.magic tally.bits) (flat_map (row_as format) tally.rows ++ []) old now (report_starts tally old) p

  pub no_rows : (tally : Tally) (old now new : Printing) (fault : Fault) → Printed (stream_as format tally.magic tally.bits) old now → Prints (flat_map (row_as format) tally.rows) now (Err fault) new → Prints (report_as format tally) old (Err fault) new
  no_rows tally old now new fault p q = goes_wrong (report_as format tally) old (flat_map (row_as format) tally.rows) [] now new fault (after_head tally old now p) q

  pub report_ends : (tally : Tally) (old now last new : Printing) (r : Result (Unit {0}) Fault) → Printed (stream_as format tally.magic tally.bits) old now → Printed (flat_map (row_as format) tally.rows) now last → Prints [] last r new → Prints (report_as format tally) old r new
  report_ends tally old now last new r p q f = goes_last (report_as format tally) old [] last r new (goes_on (report_as format tally) old (flat_map (row_as format) tally.rows) [] now last (after_head tally old now p) q) f

  -- ---- a row

  row_starts : {S H : Type 0} (e : ℕ × BlockRow S H) (w : Printing) → Goes (row_as format (block_tally e)) w (row_line_as format e ++ lines_of_codes e.0 e.1.codes) w
  row_starts e w = goes_as (row_as format (block_tally e)) w (row_as format (block_tally e)) (row_line_as format e ++ lines_of_codes e.0 e.1.codes) w (row_parts format e) (goes_starts (row_as format (block_tally e)) w)

  pub no_row : {S H : Type 0} (e : ℕ × BlockRow S H) (old new : Printing) (fault : Fault) → Prints (row_line_as format e) old (Err fault) new → Prints (row_as format (block_tally e)) old (Err fault) new
  no_row e old new fault p = goes_wrong (row_as format (block_tally e)) old (row_line_as format e) (lines_of_codes e.0 e.1.codes) old new fault (row_starts e old) p

  pub row_ends : {S H : Type 0} (e : ℕ × BlockRow S H) (old now new : Printing) (r : Result (Unit {0}) Fault) → Printed (row_line_as format e) old now → Prints (lines_of_codes e.0 e.1.codes) now r new → Prints (row_as format (block_tally e)) old r new
  row_ends e old now new r p q =
      goes_last (row_as format (block_tally e)) old (lines_of_codes e.0 e.1.codes) now r new (goes_on (row_as format (block_tally e)) old (row_line_as format e) (lines_of_codes e.0 e.1.codes) old now (row_starts e old) p) q
