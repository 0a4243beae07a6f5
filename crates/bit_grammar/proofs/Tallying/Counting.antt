-- One pass over the events of a tree makes the rows of its analysis.
use Rattle.std.proofs.Common.{◌≡◌, ℕ, suc, ◌+◌, ◌-◌, Bool, true, false, cond, eqb, List, [], ◌∷◌, ◌++◌, length, map, refl, sym, ap, subst, ◌∙◌, append_assoc, arith, inl, inr}
use Rattle.std.specs.Prelude.{filter, sum_by, count_by}
use Rattle.std.proofs.lemmas.Bool.{eq-eqb, ne_eqb}
use Rattle.std.proofs.lemmas.List.{map-append, append-nil, length-append}
use Rattle.std.proofs.lemmas.List.Elements.{filter-append}
use Rattle.std.proofs.lemmas.List.Sums.{sum_by-cons, sum_by-append}
use Rattle.bit_grammar.specs.Marks.{RecordMark, DefinitionMark, Marks, no_marks, marked_block, marked_record, marked_definition}
use Rattle.bit_grammar.specs.FormatInput.{AreMarkedBlocks}
use Rattle.bit_grammar.specs.Machine.{Opened, Event, enters, defines, notes, leaves, flat}
use Rattle.bit_grammar.specs.Tally.{FullBlock, Placed, blocks_in, records_in, definitions_in, placed_in, block_bits, record_bits, bits_in, own_bits, distinct, CodeTally, BlockTally, with_code, code_row, code_rows, is_abbreviated, with_id, row_of, rows_of}
use Rattle.bit_grammar.specs.Counting.{rows_with, fresh_code, fresh_row, one_use, one_block, more_bits, one_definition, one_record, OpenCount, Counts, no_counts, with_row, more_inside, count_events}
use Rattle.bit_grammar.proofs.Tallying.Sums.{Has}
use Rattle.bit_grammar.proofs.Tallying.Keyed.{Moved, rows_changed, distinct_known}

-- ---- one more at the end of a list

filter_same : {X : Type 0} (key : X → ℕ) (k : ℕ) (xs : List X) (x : X) → key x ≡ k → filter (λ y. eqb (key y) k) (xs ++ x ∷ []) ≡ filter (λ y. eqb (key y) k) xs ++ x ∷ []
filter_same key k xs x same = filter-append (λ y. eqb (key y) k) xs (x ∷ []) ∙ ap (λ (b : Bool). filter (λ y. eqb (key y) k) xs ++ cond b (x ∷ []) []) (eq-eqb (key x) k same)

filter_other : {X : Type 0} (key : X → ℕ) (k : ℕ) (xs : List X) (x : X) → (key x ≡ k → ⊥) → filter (λ y. eqb (key y) k) (xs ++ x ∷ []) ≡ filter (λ y. eqb (key y) k) xs
filter_other key k xs x other =
    filter-append (λ y. eqb (key y) k) xs (x ∷ []) ∙ ap (λ (b : Bool). filter (λ y. eqb (key y) k) xs ++ cond b (x ∷ []) []) (ne_eqb (key x) k other) ∙ append-nil (filter (λ y. eqb (key y) k) xs)

placed_same : {Mark : Type 0} (id : ℕ) (xs : List (Placed Mark)) (mark : Mark) → placed_in id (xs ++ record { block = id; mark = mark } ∷ []) ≡ placed_in id xs ++ mark ∷ []
placed_same {Mark} id xs mark =
    ap (map (λ (x : Placed Mark). x.mark)) (filter_same (λ (x : Placed Mark). x.block) id xs (record { block = id; mark = mark }) refl) ∙ map-append (λ (x : Placed Mark). x.mark) (filter (λ x. eqb x.block id) xs) (record { block = id; mark = mark } ∷ [])

placed_other : {Mark : Type 0} (id k : ℕ) (xs : List (Placed Mark)) (mark : Mark) → (k ≡ id → ⊥) → placed_in k (xs ++ record { block = id; mark = mark } ∷ []) ≡ placed_in k xs
placed_other {Mark} id k xs mark other = ap (map (λ (x : Placed Mark). x.mark)) (filter_other (λ (x : Placed Mark). x.block) k xs (record { block = id; mark = mark }) (λ e. other (sym e)))

length_end : {X : Type 0} (xs : List X) (x : X) → length (xs ++ x ∷ []) ≡ length xs + 1
length_end xs x = length-append xs (x ∷ [])

sum_end : {X : Type 0} (f : X → ℕ) (xs : List X) (x : X) → sum_by f (xs ++ x ∷ []) ≡ sum_by f xs + f x
sum_end f xs x = sum_by-append f xs (x ∷ []) ∙ omega arith

-- ---- the codes of one more record

no_codes : (records : List RecordMark) (code : ℕ) → (Has code (map (λ r. r.code) records) → ⊥) → with_code code records ≡ []
no_codes [] code none = refl
no_codes (r ∷ records) code none = rw (ne_eqb r.code code (λ e. none (inl (sym e))), no_codes records code (λ has. none (inr has))) refl

code_moved : (records : List RecordMark) (r : RecordMark) → Moved (λ (x : CodeTally). x.code) fresh_code (one_use r) r.code (map (λ (x : RecordMark). x.code) records) (code_row records) (code_row (records ++ r ∷ []))
code_moved records r = record {
  own = λ k. refl;
  unseen = λ k none. rw (no_codes records k none) refl;
  here =
      let more = filter_same (λ (x : RecordMark). x.code) r.code records r refl in
      let count = ap (λ (xs : List RecordMark). length xs) more ∙ length_end (with_code r.code records) r in
      let bits = ap (sum_by record_bits) more ∙ sum_end record_bits (with_code r.code records) r in
      let both : code_row (records ++ r ∷ []) r.code ≡ one_use r (code_row records r.code) = rw (count, bits) refl in
      both;
  others = λ k other. (let same = filter_other (λ (x : RecordMark). x.code) k records r (λ e. other (sym e)) in rw same refl);
}

codes_more : (records : List RecordMark) (r : RecordMark) → rows_with (λ (x : CodeTally). x.code) fresh_code (one_use r) r.code (code_rows records) ≡ code_rows (records ++ r ∷ [])
codes_more records r =
    rows_changed (λ (x : CodeTally). x.code) fresh_code (one_use r) r.code (map (λ (x : RecordMark). x.code) records) (code_row records) (code_row (records ++ r ∷ [])) (code_moved records r)
    ∙ ap (λ (ks : List ℕ). map (code_row (records ++ r ∷ [])) (distinct ks)) (sym (map-append (λ (x : RecordMark). x.code) records (r ∷ [])))

-- ---- what was seen

-- the ids of the blocks that began, in order; the own bits of those that ended; the records and the definitions
pub record Seen : Type 0 where
  pub entered : List ℕ
  pub left : List (Placed ℕ)
  pub records : List (Placed RecordMark)
  pub definitions : List (Placed DefinitionMark)

abbrev row_seen : Seen → ℕ → BlockTally
row_seen seen id = record {
  id = id;
  blocks = length (filter (λ k. eqb k id) seen.entered);
  bits = sum_by (λ n. n) (placed_in id seen.left);
  definitions = length (placed_in id seen.definitions);
  records = length (placed_in id seen.records);
  abbreviated = count_by is_abbreviated (placed_in id seen.records);
  values = sum_by (λ (r : RecordMark). length r.values) (placed_in id seen.records);
  codes = code_rows (placed_in id seen.records);
}

abbrev rows_seen : Seen → List BlockTally
rows_seen seen = map (row_seen seen) (distinct seen.entered)

-- nothing was seen of other ids
abbrev Unseen : Seen → Type 0
Unseen seen = (k : ℕ) → (Has k seen.entered → ⊥) → row_seen seen k ≡ fresh_row k

abbrev see_block : ℕ → Seen → Seen
see_block id seen = record { entered = seen.entered ++ id ∷ []; left = seen.left; records = seen.records; definitions = seen.definitions }

abbrev see_bits : ℕ → ℕ → Seen → Seen
see_bits id bits seen = record { entered = seen.entered; left = seen.left ++ record { block = id; mark = bits } ∷ []; records = seen.records; definitions = seen.definitions }

abbrev see_record : ℕ → RecordMark → Seen → Seen
see_record id mark seen = record { entered = seen.entered; left = seen.left; records = seen.records ++ record { block = id; mark = mark } ∷ []; definitions = seen.definitions }

abbrev see_definition : ℕ → DefinitionMark → Seen → Seen
see_definition id mark seen = record { entered = seen.entered; left = seen.left; records = seen.records; definitions = seen.definitions ++ record { block = id; mark = mark } ∷ [] }

abbrev RowMoved : (BlockTally → BlockTally) → ℕ → Seen → Seen → Type 0
RowMoved change id seen new = Moved (λ (x : BlockTally). x.id) fresh_row change id seen.entered (row_seen seen) (row_seen new)

block_moved : (id : ℕ) (seen : Seen) → Unseen seen → RowMoved one_block id seen (see_block id seen)
block_moved id seen unseen = record {
  own = λ k. refl;
  unseen = unseen;
  here = (let more = ap (λ (xs : List ℕ). length xs) (filter_same (λ (k : ℕ). k) id seen.entered id refl) ∙ length_end (filter (λ k. eqb k id) seen.entered) id in rw more refl);
  others = λ k other. (let same = filter_other (λ (j : ℕ). j) k seen.entered id (λ e. other (sym e)) in rw same refl);
}

bits_moved : (id bits : ℕ) (seen : Seen) → Unseen seen → RowMoved (more_bits bits) id seen (see_bits id bits seen)
bits_moved id bits seen unseen = record {
  own = λ k. refl;
  unseen = unseen;
  here = (let more = ap (sum_by (λ n. n)) (placed_same id seen.left bits) ∙ sum_end (λ n. n) (placed_in id seen.left) bits in rw more refl);
  others = λ k other. (let same = placed_other id k seen.left bits other in rw same refl);
}

definition_moved : (id : ℕ) (mark : DefinitionMark) (seen : Seen) → Unseen seen → RowMoved one_definition id seen (see_definition id mark seen)
definition_moved id mark seen unseen = record {
  own = λ k. refl;
  unseen = unseen;
  here = (let more = ap (λ (xs : List DefinitionMark). length xs) (placed_same id seen.definitions mark) ∙ length_end (placed_in id seen.definitions) mark in rw more refl);
  others = λ k other. (let same = placed_other id k seen.definitions mark other in rw same refl);
}

record_moved : (id : ℕ) (mark : RecordMark) (seen : Seen) → Unseen seen → RowMoved (one_record mark) id seen (see_record id mark seen)
record_moved id mark seen unseen = record {
  own = λ k. refl;
  unseen = unseen;
  here =
      let old = placed_in id seen.records in
      let more = placed_same id seen.records mark in
      let count = length_end old mark in
      let short = sum_end (λ x. cond (is_abbreviated x) 1 0) old mark in
      let values = sum_end (λ (r : RecordMark). length r.values) old mark in
      let codes = sym (codes_more old mark) in
      let all : row_seen (see_record id mark seen) id ≡ one_record mark (row_seen seen id) = rw (more, count, short, values, codes) refl in
      all;
  others = λ k other. (let same = placed_other id k seen.records mark other in rw same refl);
}

-- ---- the pass

abbrev counts_of : Seen → List OpenCount → Counts
counts_of seen around = record { rows = rows_seen seen; around = around }

-- Counting these events, up to those that follow, sees new things.
pub record Runs (events following : List Event) (seen new : Seen) (around left : List OpenCount) : Type 0 where
  pub unseen : Unseen new
  pub known : (k : ℕ) → Has k seen.entered → Has k new.entered
  pub same : count_events events (counts_of seen around) ≡ count_events following (counts_of new left)

runs_then : (a b c : List Event) (s t u : Seen) (x y z : List OpenCount) → Runs a b s t x y → Runs b c t u y z → Runs a c s u x z
runs_then a b c s t u x y z first second = record { unseen = second.unseen; known = λ k has. second.known k (first.known k has); same = first.same ∙ second.same }

has_end : (q k : ℕ) (xs : List ℕ) → Has q xs → Has q (xs ++ k ∷ [])
has_end q k [] h = absurd h
has_end q k (x ∷ xs) (inl same) = inl same
has_end q k (x ∷ xs) (inr has) = inr (has_end q k xs has)

has_last : (q : ℕ) (xs : List ℕ) → Has q (xs ++ q ∷ [])
has_last q [] = inl refl
has_last q (x ∷ xs) = inr (has_last q xs)

-- one more thing in a block that began
known_row : (change : BlockTally → BlockTally) (id : ℕ) (seen new : Seen) → new.entered ≡ seen.entered → Has id seen.entered → RowMoved change id seen new → (with_row change id (rows_seen seen) ≡ rows_seen new) × Unseen new
known_row change id seen new entered has moved =
    let rows = rows_changed (λ (x : BlockTally). x.id) fresh_row change id seen.entered (row_seen seen) (row_seen new) moved in
    let keys = distinct_known id seen.entered has ∙ ap distinct (sym entered) in
    (rows ∙ ap (map (row_seen new)) keys, λ k none. (let other = subst (λ (ks : List ℕ). Has k ks → ⊥) entered none in moved.others k (λ e. other (subst (λ (j : ℕ). Has j seen.entered) (sym e) has)) ∙ moved.unseen k other))

run_record : (mark : RecordMark) (following : List Event) (seen : Seen) (b : OpenCount) (around : List OpenCount) → Has b.id seen.entered → Unseen seen → Runs (notes mark ∷ following) following seen (see_record b.id mark seen) (b ∷ around) (b ∷ around)
run_record mark following seen b around has unseen =
    let row = known_row (one_record mark) b.id seen (see_record b.id mark seen) refl has (record_moved b.id mark seen unseen) in
    record { unseen = row.1; known = λ k h. h; same = ap (λ (rows : List BlockTally). count_events following (record { rows = rows; around = b ∷ around })) row.0 }

run_definition : (mark : DefinitionMark) (following : List Event) (seen : Seen) (b : OpenCount) (around : List OpenCount) → Has b.id seen.entered → Unseen seen → Runs (defines mark ∷ following) following seen (see_definition b.id mark seen) (b ∷ around) (b ∷ around)
run_definition mark following seen b around has unseen =
    let row = known_row one_definition b.id seen (see_definition b.id mark seen) refl has (definition_moved b.id mark seen unseen) in
    record { unseen = row.1; known = λ k h. h; same = ap (λ (rows : List BlockTally). count_events following (record { rows = rows; around = b ∷ around })) row.0 }

run_end : (after bits : ℕ) (following : List Event) (seen : Seen) (b : OpenCount) (around : List OpenCount) → Has b.id seen.entered → Unseen seen → after - b.first - b.inside ≡ bits
    → Runs (leaves after ∷ following) following seen (see_bits b.id bits seen) (b ∷ around) (more_inside (after - b.first) around)
run_end after bits following seen b around has unseen is =
    let row = known_row (more_bits bits) b.id seen (see_bits b.id bits seen) refl has (bits_moved b.id bits seen unseen) in
    record { unseen = row.1; known = λ k h. h; same = ap (λ (rows : List BlockTally). count_events following (record { rows = rows; around = more_inside (after - b.first) around })) (ap (λ (n : ℕ). with_row (more_bits n) b.id (rows_seen seen)) is ∙ row.0) }

run_block : (o : Opened) (following : List Event) (seen : Seen) (around : List OpenCount) → Unseen seen → Runs (enters o ∷ following) following seen (see_block o.id seen) around (record { id = o.id; first = o.first; inside = 0 } ∷ around)
run_block o following seen around unseen =
    let moved = block_moved o.id seen unseen in
    let rows = rows_changed (λ (x : BlockTally). x.id) fresh_row one_block o.id seen.entered (row_seen seen) (row_seen (see_block o.id seen)) moved in
    record {
      unseen = λ k none. moved.others k (λ e. none (subst (λ (j : ℕ). Has j (seen.entered ++ o.id ∷ [])) (sym e) (has_last o.id seen.entered))) ∙ unseen k (λ has. none (has_end k o.id seen.entered has));
      known = λ k has. has_end k o.id seen.entered has;
      same = ap (λ (rows : List BlockTally). count_events following (record { rows = rows; around = record { id = o.id; first = o.first; inside = 0 } ∷ around })) rows;
    }

-- the own bits of blocks, in the order in which they end
abbrev left_in : Marks → List (Placed ℕ)
left_in no_marks = []
left_in (marked_block mark inner rest) = left_in inner ++ record { block = mark.id; mark = block_bits mark - bits_in inner } ∷ left_in rest
left_in (marked_record mark rest) = left_in rest
left_in (marked_definition mark rest) = left_in rest

abbrev ids_in : Marks → List ℕ
ids_in marks = map (λ (b : FullBlock). b.mark.id) (blocks_in marks)

-- what is seen in a block after its items
abbrev see_marks : ℕ → Marks → Seen → Seen
see_marks block marks seen = record {
  entered = seen.entered ++ ids_in marks;
  left = seen.left ++ left_in marks;
  records = seen.records ++ records_in block marks;
  definitions = seen.definitions ++ definitions_in block marks;
}

seen_is : (a b : Seen) → a.entered ≡ b.entered → a.left ≡ b.left → a.records ≡ b.records → a.definitions ≡ b.definitions → a ≡ b
seen_is a b one two three four =
    let same : ◌≡◌ {A = Seen} (record { entered = a.entered; left = a.left; records = a.records; definitions = a.definitions }) (record { entered = b.entered; left = b.left; records = b.records; definitions = b.definitions }) = rw (one, two, three, four) refl in
    same

see_none : (block : ℕ) (seen : Seen) → see_marks block no_marks seen ≡ seen
see_none block seen = seen_is _ _ (append-nil seen.entered) (append-nil seen.left) (append-nil seen.records) (append-nil seen.definitions)

see_note : (block : ℕ) (mark : RecordMark) (rest : Marks) (seen : Seen) → see_marks block rest (see_record block mark seen) ≡ see_marks block (marked_record mark rest) seen
see_note block mark rest seen = seen_is _ _ refl refl (append_assoc seen.records (record { block = block; mark = mark } ∷ []) (records_in block rest)) refl

see_define : (block : ℕ) (mark : DefinitionMark) (rest : Marks) (seen : Seen) → see_marks block rest (see_definition block mark seen) ≡ see_marks block (marked_definition mark rest) seen
see_define block mark rest seen = seen_is _ _ refl refl refl (append_assoc seen.definitions (record { block = block; mark = mark } ∷ []) (definitions_in block rest))

see_whole : (id bits : ℕ) (ids others : List ℕ) (seen : Seen) (left more : List (Placed ℕ)) (records later : List (Placed RecordMark)) (definitions following : List (Placed DefinitionMark))
    → ◌≡◌ {A = Seen} (record {
      entered = ((seen.entered ++ id ∷ []) ++ ids) ++ others;
      left = ((seen.left ++ left) ++ record { block = id; mark = bits } ∷ []) ++ more;
      records = (seen.records ++ records) ++ later;
      definitions = (seen.definitions ++ definitions) ++ following;
    }) (record {
      entered = seen.entered ++ id ∷ (ids ++ others);
      left = seen.left ++ (left ++ record { block = id; mark = bits } ∷ more);
      records = seen.records ++ (records ++ later);
      definitions = seen.definitions ++ (definitions ++ following);
    })
see_whole id bits ids others seen left more records later definitions following = simp append_assoc

-- the open block with these bits in it, and with more
abbrev with_inside : OpenCount → ℕ → OpenCount
with_inside b bits = record { id = b.id; first = b.first; inside = bits }

abbrev fuller : OpenCount → ℕ → OpenCount
fuller b bits = with_inside b (b.inside + bits)

runs_to : (events following : List Event) (seen new other : Seen) (around : List OpenCount) (b : OpenCount) (n k : ℕ) (left : List OpenCount) → new ≡ other → n ≡ k
    → Runs events following seen new around (with_inside b n ∷ left) → Runs events following seen other around (with_inside b k ∷ left)
runs_to events following seen new other around b n k left same bits h =
    subst (λ (s : Seen). Runs events following seen s around (with_inside b k ∷ left)) same (subst (λ (m : ℕ). Runs events following seen new around (with_inside b m ∷ left)) bits h)

runs_stay : (following : List Event) (seen : Seen) (b : OpenCount) (around : List OpenCount) → Unseen seen → Runs following following seen seen (b ∷ around) (fuller b 0 ∷ around)
runs_stay following seen b around unseen = record {
  unseen = unseen;
  known = λ k h. h;
  same = ap (λ (n : ℕ). count_events following (counts_of seen (record { id = b.id; first = b.first; inside = n } ∷ around))) (let none : b.inside ≡ b.inside + 0 = omega arith in none);
}

-- the items of the innermost block
run_marks : (marks : Marks) (following : List Event) (seen : Seen) (b : OpenCount) (around : List OpenCount) → Has b.id seen.entered → Unseen seen
    → Runs (flat marks following) following seen (see_marks b.id marks seen) (b ∷ around) (fuller b (bits_in marks) ∷ around)
run_marks no_marks following seen b around has unseen = runs_to _ _ seen seen _ _ b (b.inside + 0) (b.inside + 0) around (sym (see_none b.id seen)) refl (runs_stay following seen b around unseen)
run_marks (marked_record mark rest) following seen b around has unseen =
    let first = run_record mark (flat rest following) seen b around has unseen in
    let more = run_marks rest following (see_record b.id mark seen) b around has first.unseen in
    runs_to _ _ seen _ _ _ b (b.inside + bits_in rest) (b.inside + bits_in rest) around (see_note b.id mark rest seen) refl (runs_then _ _ _ _ _ _ _ _ _ first more)
run_marks (marked_definition mark rest) following seen b around has unseen =
    let first = run_definition mark (flat rest following) seen b around has unseen in
    let more = run_marks rest following (see_definition b.id mark seen) b around has first.unseen in
    runs_to _ _ seen _ _ _ b (b.inside + bits_in rest) (b.inside + bits_in rest) around (see_define b.id mark rest seen) refl (runs_then _ _ _ _ _ _ _ _ _ first more)
run_marks (marked_block mark inner rest) following seen b around has unseen =
    let opened : Opened = record { id = mark.id; width = mark.width; first = mark.first; body = mark.body } in
    let start : OpenCount = record { id = mark.id; first = mark.first; inside = 0 } in
    let own = block_bits mark - bits_in inner in
    let one = run_block opened (flat inner (leaves mark.after ∷ flat rest following)) seen (b ∷ around) unseen in
    let two = run_marks inner (leaves mark.after ∷ flat rest following) (see_block mark.id seen) start (b ∷ around) (has_last mark.id seen.entered) one.unseen in
    let within = see_marks mark.id inner (see_block mark.id seen) in
    let three = run_end mark.after own (flat rest following) within (fuller start (bits_in inner)) (b ∷ around) (two.known mark.id (has_last mark.id seen.entered)) two.unseen (ap (λ (n : ℕ). mark.after - mark.first - n) (let none : 0 + bits_in inner ≡ bits_in inner = omega arith in none)) in
    let four = run_marks rest following (see_bits mark.id own within) (fuller b (block_bits mark)) around (three.known b.id (two.known b.id (one.known b.id has))) three.unseen in
    let whole = see_whole mark.id own (ids_in inner) (ids_in rest) seen (left_in inner) (left_in rest) (records_in mark.id inner) (records_in b.id rest) (definitions_in mark.id inner) (definitions_in b.id rest) in
    let entered : ids_in inner ++ ids_in rest ≡ map (λ (x : FullBlock). x.mark.id) (blocks_in inner ++ blocks_in rest) = sym (map-append (λ (x : FullBlock). x.mark.id) (blocks_in inner) (blocks_in rest)) in
    let same : see_marks b.id rest (see_bits mark.id own within) ≡ see_marks b.id (marked_block mark inner rest) seen =
    whole ∙ ap (λ (ids : List ℕ). record { entered = seen.entered ++ mark.id ∷ ids; left = seen.left ++ left_in (marked_block mark inner rest); records = seen.records ++ records_in b.id (marked_block mark inner rest); definitions = seen.definitions ++ definitions_in b.id (marked_block mark inner rest) }) entered in
    let bits : b.inside + block_bits mark + bits_in rest ≡ b.inside + (block_bits mark + bits_in rest) = omega arith in
    runs_to _ _ seen _ _ _ b (b.inside + block_bits mark + bits_in rest) (b.inside + (block_bits mark + bits_in rest)) around same bits
    (runs_then _ _ _ _ _ _ _ _ _ one (runs_then _ _ _ _ _ _ _ _ _ two (runs_then _ _ _ _ _ _ _ _ _ three four)))

-- blocks at the top
run_top : (marks : Marks) (following : List Event) (seen : Seen) → AreMarkedBlocks marks → Unseen seen → Runs (flat marks following) following seen (see_marks 0 marks seen) [] []
run_top no_marks following seen only unseen =
    subst (λ (s : Seen). Runs following following seen s [] []) (sym (see_none 0 seen)) (record { unseen = unseen; known = λ k h. h; same = refl })
run_top (marked_record mark rest) following seen only unseen = absurd only
run_top (marked_definition mark rest) following seen only unseen = absurd only
run_top (marked_block mark inner rest) following seen only unseen =
    let opened : Opened = record { id = mark.id; width = mark.width; first = mark.first; body = mark.body } in
    let start : OpenCount = record { id = mark.id; first = mark.first; inside = 0 } in
    let own = block_bits mark - bits_in inner in
    let one = run_block opened (flat inner (leaves mark.after ∷ flat rest following)) seen [] unseen in
    let two = run_marks inner (leaves mark.after ∷ flat rest following) (see_block mark.id seen) start [] (has_last mark.id seen.entered) one.unseen in
    let within = see_marks mark.id inner (see_block mark.id seen) in
    let three = run_end mark.after own (flat rest following) within (fuller start (bits_in inner)) [] (two.known mark.id (has_last mark.id seen.entered)) two.unseen (ap (λ (n : ℕ). mark.after - mark.first - n) (let none : 0 + bits_in inner ≡ bits_in inner = omega arith in none)) in
    let four = run_top rest following (see_bits mark.id own within) only three.unseen in
    let whole = see_whole mark.id own (ids_in inner) (ids_in rest) seen (left_in inner) (left_in rest) (records_in mark.id inner) (records_in 0 rest) (definitions_in mark.id inner) (definitions_in 0 rest) in
    let entered : ids_in inner ++ ids_in rest ≡ map (λ (x : FullBlock). x.mark.id) (blocks_in inner ++ blocks_in rest) = sym (map-append (λ (x : FullBlock). x.mark.id) (blocks_in inner) (blocks_in rest)) in
    let same : see_marks 0 rest (see_bits mark.id own within) ≡ see_marks 0 (marked_block mark inner rest) seen =
    whole ∙ ap (λ (ids : List ℕ). record { entered = seen.entered ++ mark.id ∷ ids; left = seen.left ++ left_in (marked_block mark inner rest); records = seen.records ++ records_in 0 (marked_block mark inner rest); definitions = seen.definitions ++ definitions_in 0 (marked_block mark inner rest) }) entered in
    subst (λ (s : Seen). Runs (flat (marked_block mark inner rest) following) following seen s [] []) same
    (runs_then _ _ _ _ _ _ _ _ _ one (runs_then _ _ _ _ _ _ _ _ _ two (runs_then _ _ _ _ _ _ _ _ _ three four)))

-- ---- what was seen, and the rows of the tree

length_ids : (k : ℕ) (xs : List FullBlock) → length (filter (λ j. eqb j k) (map (λ (b : FullBlock). b.mark.id) xs)) ≡ length (with_id k xs)
length_ids k [] = refl
length_ids k (x ∷ xs) = go (eqb x.mark.id k) (length_ids k xs)
  where
    go : (b : Bool) → length (filter (λ j. eqb j k) (map (λ (b : FullBlock). b.mark.id) xs)) ≡ length (with_id k xs)
        → length (cond b (x.mark.id ∷ filter (λ j. eqb j k) (map (λ (b : FullBlock). b.mark.id) xs)) (filter (λ j. eqb j k) (map (λ (b : FullBlock). b.mark.id) xs))) ≡ length (cond b (x ∷ with_id k xs) (with_id k xs))
    go true e = ap suc e
    go false e = e

-- the bits of ended blocks with an id
abbrev left_bits : ℕ → List (Placed ℕ) → ℕ
left_bits k xs = sum_by (λ n. n) (placed_in k xs)

left_append : (k : ℕ) (xs ys : List (Placed ℕ)) → left_bits k (xs ++ ys) ≡ left_bits k xs + left_bits k ys
left_append k xs ys =
    ap (λ (zs : List (Placed ℕ)). sum_by (λ n. n) (map (λ (x : Placed ℕ). x.mark) zs)) (filter-append (λ (x : Placed ℕ). eqb x.block k) xs ys)
    ∙ ap (sum_by (λ n. n)) (map-append (λ (x : Placed ℕ). x.mark) (filter (λ x. eqb x.block k) xs) (filter (λ x. eqb x.block k) ys))
    ∙ sum_by-append (λ n. n) (placed_in k xs) (placed_in k ys)

left_cons : (k id bits : ℕ) (xs : List (Placed ℕ)) → left_bits k (record { block = id; mark = bits } ∷ xs) ≡ cond (eqb id k) bits 0 + left_bits k xs
left_cons k id bits xs = go (eqb id k)
  where
    go : (b : Bool) → sum_by (λ n. n) (map (λ (x : Placed ℕ). x.mark) (cond b (record { block = id; mark = bits } ∷ filter (λ x. eqb x.block k) xs) (filter (λ x. eqb x.block k) xs))) ≡ cond b bits 0 + left_bits k xs
    go true = sum_by-cons (λ n. n) bits (placed_in k xs)
    go false = omega arith

own_cons : (k : ℕ) (b : FullBlock) (xs : List FullBlock) → sum_by own_bits (with_id k (b ∷ xs)) ≡ cond (eqb b.mark.id k) (own_bits b) 0 + sum_by own_bits (with_id k xs)
own_cons k b xs = go (eqb b.mark.id k)
  where
    go : (is : Bool) → sum_by own_bits (cond is (b ∷ with_id k xs) (with_id k xs)) ≡ cond is (own_bits b) 0 + sum_by own_bits (with_id k xs)
    go true = sum_by-cons own_bits b (with_id k xs)
    go false = omega arith

left_is : (k : ℕ) (marks : Marks) → left_bits k (left_in marks) ≡ sum_by own_bits (with_id k (blocks_in marks))
left_is k no_marks = refl
left_is k (marked_record mark rest) = left_is k rest
left_is k (marked_definition mark rest) = left_is k rest
left_is k (marked_block mark inner rest) =
    let b : FullBlock = record { mark = mark; inner = inner } in
    let here = left_append k (left_in inner) (record { block = mark.id; mark = own_bits b } ∷ left_in rest) in
    let next = left_cons k mark.id (own_bits b) (left_in rest) in
    let there = own_cons k b (blocks_in inner ++ blocks_in rest) in
    let both = ap (sum_by own_bits) (filter-append (λ (x : FullBlock). eqb x.mark.id k) (blocks_in inner) (blocks_in rest)) ∙ sum_by-append own_bits (with_id k (blocks_in inner)) (with_id k (blocks_in rest)) in
    omega (arith, here, next, there, both, left_is k inner, left_is k rest)

map_same : {Row : Type 0} (f g : ℕ → Row) → ((k : ℕ) → f k ≡ g k) → (ks : List ℕ) → map f ks ≡ map g ks
map_same f g same [] = refl
map_same f g same (k ∷ ks) = rw (same k, map_same f g same ks) refl

row_is : (marks : Marks) (k : ℕ) → row_seen (see_marks 0 marks (record { entered = []; left = []; records = []; definitions = [] })) k ≡ row_of marks k
row_is marks k = rw (length_ids k (blocks_in marks), left_is k marks) refl

-- the pass makes the rows of the tree
pub rows_counted : (marks : Marks) → AreMarkedBlocks marks → (count_events (flat marks []) no_counts).rows ≡ rows_of marks
rows_counted marks only =
    let nothing : Seen = record { entered = []; left = []; records = []; definitions = [] } in
    ap (λ (c : Counts). c.rows) (run_top marks [] nothing only (λ k none. refl)).same ∙ map_same (row_seen (see_marks 0 marks nothing)) (row_of marks) (row_is marks) (distinct (ids_in marks))
