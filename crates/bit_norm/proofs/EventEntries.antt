-- The entries of marks are those of their events.
use Rattle.std.proofs.Common.{◌≡◌, ℕ, suc, List, [], ◌∷◌, ◌++◌, refl, sym, ap, ◌∙◌, append_assoc, append-nil}
use Rattle.bit_grammar.specs.Setting.{Setting}
use Rattle.bit_grammar.specs.Under.{events_under, marks_under}
use Rattle.bit_grammar.proofs.NormalForms.Under.{events_left}
use Rattle.bit_grammar.specs.Marks.{Marks, no_marks, marked_block, marked_record, marked_definition}
use Rattle.bit_grammar.specs.Machine.{Event, leaves, flat}
use Rattle.bit_norm.specs.declared.differences.OpenBlock.{OpenBlock}
use Rattle.bit_norm.specs.Entries.{Sign, begins, has_record, ends, over, Entry, entry_with, open_block_with, entries}
use Rattle.bit_norm.specs.InStep.{Stand, told_entries}
use Rattle.bit_norm.proofs.InStep.{closing_last}

abbrev st : List OpenBlock → ℕ → ℕ → Stand
st within items ended = record { within = within; items = items; ended = ended }

-- after items come this end and then others
abbrev Ends : (end : Sign) → List OpenBlock → List Event → List Entry → Type 0
Ends end within following others = (n e : ℕ) → told_entries (st within n e) following ≡ entry_with within n end e ∷ others

block_ends : (within : List OpenBlock) (id items after : ℕ) (events : List Event) (others : List Entry) → told_entries (st within (suc items) after) events ≡ others → Ends ends (within ++ open_block_with id items ∷ []) (leaves after ∷ events) others
block_ends within id items after events others is n e =
    ap (λ (l : List Entry). entry_with (within ++ open_block_with id items ∷ []) n ends e ∷ l) (ap (λ (s : Stand). told_entries s events) (closing_last within (open_block_with id items) n after) ∙ is)

told_flat : (m : Marks) (end : Sign) (within : List OpenBlock) (items ended : ℕ) (following : List Event) (others : List Entry) → Ends end within following others → told_entries (st within items ended) (flat m following) ≡ entries end within items ended m ++ others
told_flat no_marks end within items ended following others stop = stop items ended
told_flat (marked_block mark inner rest) end within items ended following others stop =
    let after = entries end within (suc items) mark.after rest in
    let inside = entries ends (within ++ open_block_with mark.id items ∷ []) 0 mark.body inner in
    ap (λ (l : List Entry). entry_with within items (begins mark.id) mark.first ∷ l)
    (told_flat inner ends (within ++ open_block_with mark.id items ∷ []) 0 mark.body (leaves mark.after ∷ flat rest following) (after ++ others)
    (block_ends within mark.id items mark.after (flat rest following) (after ++ others) (told_flat rest end within (suc items) mark.after following others stop))
    ∙ sym (append_assoc inside after others))
told_flat (marked_record mark rest) end within items ended following others stop =
    ap (λ (l : List Entry). entry_with within items (has_record mark.code mark.values) mark.first ∷ l) (told_flat rest end within (suc items) mark.after following others stop)
told_flat (marked_definition mark rest) end within items ended following others stop = told_flat rest end within items ended following others stop

-- all entries that are kept, after a magic that ends at this bit
pub entries_told : (s : Setting) (m : Marks) (ended : ℕ) → told_entries (st [] 0 ended) (events_under s [] (flat m [])) ≡ entries over [] 0 ended (marks_under s 0 m)
entries_told s m ended =
    ap (told_entries (st [] 0 ended)) (events_left s [] m [] refl) ∙ told_flat (marks_under s 0 m) over [] 0 ended [] [] (λ n e. refl) ∙ append-nil (entries over [] 0 ended (marks_under s 0 m))
