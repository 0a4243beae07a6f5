-- What lists a tree is read as that tree, and the listing of a fit tree lists it.
use Rattle.std.proofs.Common.{◌≡◌, ◌≢◌, refl, ℕ, zero, suc, ◌+◌, ◌-◌, ◌*◌, ◌/◌, ◌%◌, ◌^◌, ◌<◌, ◌≤◌, Bool, false, true, List, [], ◌∷◌, ◌++◌, get_or, replicate, inl, inr, Result, Ok, Err, if◌then◌else◌, sym, ◌∙◌, ap, subst, arith, append_assoc, append-nil}
use Rattle.std.specs.Prelude.{codes, decimal}
use Rattle.std.specs.Int.{w32, from_le_bytes}
use Rattle.bit_grammar.specs.Blocks.{Limits}
use Rattle.bit_grammar.specs.Forest.{Forest, empty, a_block, a_record, FitForest, Tree, Fit, forest_values, wrapper_magic}
use Rattle.bit_grammar.specs.Texts.{line, magic_bytes, magic_text, values_text, lines_of, listing_of}
use Rattle.bit_grammar.specs.FormatListing.{Item, of_block, of_record, IsItem, Entry, IsEntry, HaveEntries, IsMagicLine, AreListing}
use Rattle.bit_grammar.specs.declared.shapes.Shapes.TheVariants.{AtDefinition}
use Rattle.bit_fields.specs.Opening.{magic_number}
use Rattle.bit_tree.proofs.Magics.{magic_is}
use Rattle.bit_norm.specs.Telling.{Call, Where, at_top, fits, where_after, ends, IsFit}
use Rattle.bit_text.specs.declared.reason.TextReason.{TextReason}
use Rattle.bit_text.specs.declared.reason.TextReason.TheVariants.{WrapperMagic}
use Rattle.bit_text.specs.Numbers.{and_then, lines, parts_after}
use Rattle.bit_text.specs.Lines.{spaces, content, item_of}
use Rattle.bit_text.specs.Listings.{Standing, at_start, behind_magic, begun, misfit, item_calls, after_line, told_all, lines_read, reading_of}
use Rattle.bit_text.specs.Refusals.{LinesList}
use Rattle.bit_text.specs.Entries.{entries_of, Lists}
use Rattle.bit_text.proofs.Decimals.{Lacks}
use Rattle.bit_text.proofs.Entries.{called, open_after, closed, told_with, calls_with, FitEntries, calls_in, tree_entries}
use Rattle.bit_text.proofs.FromWords.{only_parts, BeginsItem, item_read, free_read, magic_read_of, magic_not_free}
use Rattle.bit_text.proofs.InWords.{numbers_are, parts_are}
use Rattle.bit_text.proofs.Standings.{ReadsAll, reads_all}
use Rattle.bit_text.proofs.Spelling.{other_byte}
use Rattle.bit_text.proofs.Tellings.{where_append, at_level, says}
use Rattle.bit_text.proofs.Written.{spaces_of, content_of, magic_lacks, record_numbers, record_lacks, block_numbers, block_lacks, line_over}

-- ---- one line

-- what a line says that has this after its spaces
pub spaced_line : (limits : Limits) (magic : List ℕ) (calls : List Call) (line : List ℕ) (n : ℕ) (text : List ℕ) (found : Result Call TextReason) → line ≡ replicate n 32 ++ text → BeginsItem text found
    → after_line limits (behind_magic magic calls) line ≡ and_then found (λ c. and_then (item_calls limits (where_after calls at_top) n c) (λ more. Ok (behind_magic magic (calls ++ more))))
spaced_line limits magic calls line n text found same begins =
    let w = where_after calls at_top in
    let b = begins.first in
    let whole = replicate n 32 ++ b ∷ begins.rest in
    let now = behind_magic magic calls in
    let add : Result (List Call) TextReason → Result Standing TextReason = λ r. and_then r (λ more. Ok (behind_magic magic (calls ++ more))) in
    ap (after_line limits now) (same ∙ ap (λ (t : List ℕ). replicate n 32 ++ t) begins.same)
    ∙ says limits now whole (b ∷ begins.rest) (sym (content_of n b begins.rest begins.no_space)) begins.no_comment
    ∙ ap (λ (t : List ℕ). and_then (item_of t) (λ c. add (item_calls limits w (spaces whole) c))) (content_of n b begins.rest begins.no_space)
    ∙ ap (λ (i : Result Call TextReason). and_then i (λ c. add (item_calls limits w (spaces whole) c))) begins.read
    ∙ ap (λ (k : ℕ). and_then found (λ c. add (item_calls limits w k c))) (spaces_of n b begins.rest begins.no_space)

placed : (limits : Limits) (magic : List ℕ) (calls : List Call) (around : ℕ) (call : Call) → around ≤ open_after calls
    → and_then (item_calls limits (where_after calls at_top) (2 * around) call) (λ more. Ok (behind_magic magic (calls ++ more)))
    ≡ (if fits limits (where_after (closed calls around) at_top) call then Ok (behind_magic magic (closed calls around ++ call ∷ [])) else Err (misfit limits (where_after (closed calls around) at_top) call))
placed limits magic calls around call deep =
    let w = where_after calls at_top in
    let there = where_after (closed calls around) at_top in
    let half : 2 * around / 2 ≡ around = omega arith in
    let even : 2 * around % 2 ≡ 0 = omega arith in
    let closing = replicate (w.depth - around) ends in
    let level : 2 * around / 2 ≤ w.depth = rw half deep in
    let add : Result (List Call) TextReason → Result Standing TextReason = λ r. and_then r (λ more. Ok (behind_magic magic (calls ++ more))) in
    ap add (at_level limits w (2 * around) call level even)
    ∙ ap (λ (n : ℕ). add (if fits limits (where_after (replicate (w.depth - n) ends) w) call then Ok (replicate (w.depth - n) ends ++ call ∷ []) else Err (misfit limits (where_after (replicate (w.depth - n) ends) w) call))) half
    ∙ ap (λ (p : Where). add (if fits limits p call then Ok (closing ++ call ∷ []) else Err (misfit limits p call))) (sym (where_append calls closing at_top))
    ∙ by (fits limits there call) closing (misfit limits there call)
  where
    by : (t : Bool) (closing : List Call) (reason : TextReason) → and_then (if t then Ok (closing ++ call ∷ []) else Err reason) (λ more. Ok (behind_magic magic (calls ++ more))) ≡ (if t then Ok (behind_magic magic ((calls ++ closing) ++ call ∷ [])) else Err reason)
    by true closing reason = ap (λ (cs : List Call). Ok (behind_magic magic cs)) (sym (append_assoc calls closing (call ∷ [])))
    by false closing reason = refl

-- what the line of an entry says in blocks that are open
pub entry_said : (limits : Limits) (magic : List ℕ) (calls : List Call) (line : List ℕ) (e : Entry) → IsEntry line e → e.around ≤ open_after calls
    → after_line limits (behind_magic magic calls) line ≡ (if fits limits (where_after (closed calls e.around) at_top) (called e.item) then Ok (behind_magic magic (told_with calls e)) else Err (misfit limits (where_after (closed calls e.around) at_top) (called e.item)))
entry_said limits magic calls line e (text, same, is) deep =
    spaced_line limits magic calls line (2 * e.around) text (Ok (called e.item)) same (item_read text e.item is) ∙ placed limits magic calls e.around (called e.item) deep

entry_line : (limits : Limits) (magic : List ℕ) (calls : List Call) (line : List ℕ) (e : Entry) → IsEntry line e → e.around ≤ open_after calls → fits limits (where_after (closed calls e.around) at_top) (called e.item) ≡ true
    → after_line limits (behind_magic magic calls) line ≡ Ok (behind_magic magic (told_with calls e))
entry_line limits magic calls line e is deep there =
    entry_said limits magic calls line e is deep
    ∙ ap (λ (t : Bool). if t then Ok (behind_magic magic (told_with calls e)) else Err (misfit limits (where_after (closed calls e.around) at_top) (called e.item))) there

pub magic_line : (limits : Limits) (line magic : List ℕ) → IsMagicLine line magic → magic_number magic ≢ wrapper_magic → after_line limits at_start line ≡ Ok (behind_magic magic [])
magic_line limits line magic is bare =
    says limits at_start line (content line) refl (magic_not_free line magic is)
    ∙ ap begun (magic_read_of line magic is)
    ∙ ap (λ t. if t then Err WrapperMagic else Ok (behind_magic magic [])) (other_byte (magic_number magic) wrapper_magic bare)

-- ---- lines

entries_read : (limits : Limits) (magic : List ℕ) (calls : List Call) (lines : List (List ℕ)) (entries : List Entry) → HaveEntries lines entries → FitEntries limits calls entries → ReadsAll limits (behind_magic magic calls) lines (behind_magic magic (calls_with calls entries))
entries_read limits magic calls [] entries same fit = ap (λ (es : List Entry). behind_magic magic (calls_with calls es)) same
entries_read limits magic calls (line ∷ lines) entries (inl (free, more)) fit = (behind_magic magic calls, free_read limits (behind_magic magic calls) line free, entries_read limits magic calls lines entries more fit)
entries_read limits magic calls (line ∷ lines) entries (inr (e, others, same, is, more)) fit =
    let now = behind_magic magic (told_with calls e) in
    let fit_all = subst (FitEntries limits calls) same fit in
    let read = entries_read limits magic (told_with calls e) lines others more fit_all.2 in
    (now, entry_line limits magic calls line e is fit_all.0 fit_all.1, subst (λ (es : List Entry). ReadsAll limits now lines (behind_magic magic (calls_with calls es))) (sym same) read)

listing_read : (limits : Limits) (magic : List ℕ) (lines : List (List ℕ)) (entries : List Entry) → AreListing lines magic entries → magic_number magic ≢ wrapper_magic → FitEntries limits [] entries → ReadsAll limits at_start lines (behind_magic magic (calls_with [] entries))
listing_read limits magic [] entries are bare fit = absurd are
listing_read limits magic (line ∷ lines) entries (inl (free, more)) bare fit = (at_start, free_read limits at_start line free, listing_read limits magic lines entries more bare fit)
listing_read limits magic (line ∷ lines) entries (inr (is, more)) bare fit = (behind_magic magic [], magic_line limits line magic is bare, entries_read limits magic [] lines entries more fit)

-- what is read of lines that list a tree
pub record Stands (limits : Limits) (lines : List (List ℕ)) (tree : Tree) : Type 0 where
  pub magic : List ℕ
  pub number : magic_number magic ≡ tree.magic
  pub read : ReadsAll limits at_start lines (behind_magic magic (calls_in tree))
  pub fit : IsFit limits tree
  pub listing : AreListing lines magic (entries_of 0 tree.blocks)

pub stands : (limits : Limits) (lines : List (List ℕ)) (tree : Tree) → LinesList limits lines tree → Stands limits lines tree
stands limits lines tree (magic, entries, are, of) =
    let bare : magic_number magic ≢ wrapper_magic = λ e. of.fit.fit.bare (sym of.number ∙ e) in
    let listing = subst (AreListing lines magic) of.items are in
    record { magic = magic; number = of.number; read = listing_read limits magic lines (entries_of 0 tree.blocks) listing bare (tree_entries limits tree of.fit).0; fit = of.fit; listing = listing }

pub lines_listed : (limits : Limits) (lines : List (List ℕ)) (tree : Tree) → LinesList limits lines tree → lines_read limits 0 at_start lines ≡ Ok tree
lines_listed limits lines tree is =
    let s = stands limits lines tree is in
    let same : told_all s.magic (calls_in tree) ≡ tree = rw (s.number, (tree_entries limits tree s.fit).1) refl in
    reads_all limits 0 at_start (behind_magic s.magic (calls_in tree)) lines s.read ∙ ap Ok same

pub listed_read : (limits : Limits) (text : List ℕ) (tree : Tree) → Lists limits text tree → reading_of limits text ≡ Ok tree
listed_read limits text tree (magic, entries, (parts, are_parts, are), of) =
    ap (lines_read limits 0 at_start) (only_parts 10 text parts are_parts) ∙ lines_listed limits parts tree (magic, entries, are, of)

-- ---- the listing of a tree

-- lines with these entries come after the line of an item
behind_line : (around : ℕ) (item : Item) (text rest : List ℕ) (entries : List Entry) → IsItem text item → Lacks 10 text → HaveEntries (parts_after 10 [] rest) entries
    → HaveEntries (parts_after 10 [] (line around text ++ rest)) (record { around = around; item = item } ∷ entries)
behind_line around item text rest entries is lacks more =
    subst (λ (ls : List (List ℕ)). HaveEntries ls (record { around = around; item = item } ∷ entries)) (sym (line_over around text rest lacks))
    (inr (record { around = around; item = item }, entries, refl, (text, refl, is), more))

lines_list : (f : Forest) (around : ℕ) (rest : List ℕ) (entries : List Entry) → FitForest f → HaveEntries (parts_after 10 [] rest) entries → HaveEntries (parts_after 10 [] (lines_of around f ++ rest)) (entries_of around f ++ entries)
lines_list empty around rest entries fit more = more
lines_list (a_record code values others) around rest entries (small, all, fit) more =
    let numbers = decimal code ++ values_text values in
    subst (λ (t : List ℕ). HaveEntries (parts_after 10 [] t) (entries_of around (a_record code values others) ++ entries)) (sym (append_assoc (line around (codes "record " ++ numbers)) (lines_of around others) rest))
    (behind_line around (of_record code values) (codes "record " ++ numbers) (lines_of around others ++ rest) (entries_of around others ++ entries)
    (numbers, refl, numbers_are numbers (code ∷ values) (record_numbers code values small all)) (record_lacks code values small all) (lines_list others around rest entries fit more))
lines_list (a_block id inner others) around rest entries (small, info, fit_inner, fit) more =
    let behind = lines_list others around rest entries fit more in
    let inside = lines_list inner (suc around) (lines_of around others ++ rest) (entries_of around others ++ entries) fit_inner behind in
    let text_apart = append_assoc (line around (codes "block " ++ decimal id)) (lines_of (suc around) inner ++ lines_of around others) rest
    ∙ ap (λ (t : List ℕ). line around (codes "block " ++ decimal id) ++ t) (append_assoc (lines_of (suc around) inner) (lines_of around others) rest) in
    let e : Entry = record { around = around; item = of_block id } in
    let entries_apart : e ∷ (entries_of (suc around) inner ++ (entries_of around others ++ entries)) ≡ entries_of around (a_block id inner others) ++ entries =
    ap (λ (es : List Entry). e ∷ es) (sym (append_assoc (entries_of (suc around) inner) (entries_of around others) entries)) in
    subst (λ (t : List ℕ). HaveEntries (parts_after 10 [] t) (entries_of around (a_block id inner others) ++ entries)) (sym text_apart)
    (subst (HaveEntries (parts_after 10 [] (line around (codes "block " ++ decimal id) ++ (lines_of (suc around) inner ++ (lines_of around others ++ rest))))) entries_apart
    (behind_line around (of_block id) (codes "block " ++ decimal id) (lines_of (suc around) inner ++ (lines_of around others ++ rest)) (entries_of (suc around) inner ++ (entries_of around others ++ entries))
    (decimal id, refl, numbers_are (decimal id) (id ∷ []) (block_numbers id small), small) (block_lacks id small) inside))

-- ---- the whole

number_back : (magic : ℕ) → magic < 2 ^ 32 → magic_number (magic_bytes magic) ≡ magic
number_back magic h =
    let bytes = magic_bytes magic in
    let below : (k : ℕ) → get_or bytes k 0 < 256 = each_below magic in
    let is : from_le_bytes w32 bytes ≡ magic_number bytes = magic_is bytes refl below in
    sym is ∙ (let sum : from_le_bytes w32 bytes ≡ magic = omega (arith, h) in sum)
  where
    each_below : (magic k : ℕ) → get_or (magic_bytes magic) k 0 < 256
    each_below magic zero = omega arith
    each_below magic (suc zero) = omega arith
    each_below magic (suc (suc zero)) = omega arith
    each_below magic (suc (suc (suc zero))) = omega arith
    each_below magic (suc (suc (suc (suc k)))) = omega arith

-- the listing of a fit tree lists it
pub listing_lists : (limits : Limits) (tree : Tree) → IsFit limits tree → Lists limits (listing_of tree) tree
listing_lists limits tree h =
    let bytes = magic_bytes tree.magic in
    let items = lines_of 0 tree.blocks in
    let nothing : HaveEntries (parts_after 10 [] []) [] = inl ((0, [], refl, tt), refl) in
    let have : HaveEntries (parts_after 10 [] items) (entries_of 0 tree.blocks) =
    subst (λ (t : List ℕ). HaveEntries (parts_after 10 [] t) (entries_of 0 tree.blocks)) (append-nil items)
    (subst (HaveEntries (parts_after 10 [] (items ++ []))) (append-nil (entries_of 0 tree.blocks)) (lines_list tree.blocks 0 [] [] h.fit.fit nothing)) in
    let first : IsMagicLine (magic_text tree.magic) bytes = record { four = refl; bytes = (omega arith, (omega arith, (omega arith, (omega arith, tt)))); text = refl } in
    let are : AreListing (lines (listing_of tree)) bytes (entries_of 0 tree.blocks) =
    subst (λ (ls : List (List ℕ)). AreListing ls bytes (entries_of 0 tree.blocks)) (sym (line_over 0 (magic_text tree.magic) items (magic_lacks tree.magic))) (inr (first, have)) in
    (bytes, entries_of 0 tree.blocks, (lines (listing_of tree), parts_are 10 (listing_of tree), are), record { number = number_back tree.magic h.fit.magic; items = refl; fit = h })

pub listing_spells : (limits : Limits) (tree : Tree) → IsFit limits tree → reading_of limits (listing_of tree) ≡ Ok tree
listing_spells limits tree h = listed_read limits (listing_of tree) tree (listing_lists limits tree h)

pub same_tree : (r : Result Tree (TextReason × ℕ)) (a b : Tree) → r ≡ Ok a → r ≡ Ok b → a ≡ b
same_tree r a b h k = cc

pub not_both : (r : Result Tree (TextReason × ℕ)) (tree : Tree) (refusal : TextReason × ℕ) → r ≡ Ok tree → r ≡ Err refusal → ⊥
not_both r tree refusal h k = cc

-- limits that both trees keep to
abbrev both_within : (a b : Tree) → Limits
both_within a b = record { bytes = 0; depth = 255; values = forest_values a.blocks + forest_values b.blocks; shapes = AtDefinition }

pub lists_one : (limits other : Limits) (text : List ℕ) (a b : Tree) → Lists limits text a → Lists other text b → a ≡ b
lists_one limits other text a b (magic, entries, is, of) (magic', entries', is', of') =
    let all = both_within a b in
    let of_a : Lists all text a = (magic, entries, is, record { number = of.number; items = of.items; fit = record { fit = of.fit.fit; depth = of.fit.fit.depth; values = omega arith } }) in
    let of_b : Lists all text b = (magic', entries', is', record { number = of'.number; items = of'.items; fit = record { fit = of'.fit.fit; depth = of'.fit.fit.depth; values = omega arith } }) in
    same_tree (reading_of all text) a b (listed_read all text a of_a) (listed_read all text b of_b)

pub listing_determines : (a b : Tree) → Fit a → Fit b → listing_of a ≡ listing_of b → a ≡ b
listing_determines a b fit_a fit_b same =
    let all = both_within a b in
    let of_a = listing_lists all a (record { fit = fit_a; depth = fit_a.depth; values = omega arith }) in
    let of_b = listing_lists all b (record { fit = fit_b; depth = fit_b.depth; values = omega arith }) in
    lists_one all all (listing_of b) a b (subst (λ (text : List ℕ). Lists all text a) same of_a) of_b
