-- What is shown of an input, and then assembled.
use Rattle.std.proofs.Common.{◌≡◌, ℕ, List, ◌++◌, Option, Some, None, Result, Ok, Err, sym, ◌∙◌, ap, subst, inl, inr, append-nil, arith}
use Rattle.std.specs.Io.KnownBytes.{Consumes, IsAtEnd}
use Rattle.bit_grammar.specs.Blocks.{Limits}
use Rattle.bit_grammar.specs.Forest.{Tree}
use Rattle.bit_grammar.specs.Input.{tree_of, SpellsInput}
use Rattle.bit_grammar.specs.Normal.{Capped}
use Rattle.bit_grammar.specs.Setting.{Setting}
use Rattle.bit_grammar.specs.Terms.{Marked}
use Rattle.bit_grammar.specs.Texts.{listing_of}
use Rattle.bit_grammar.specs.Under.{under}
use Rattle.bit_grammar.proofs.NormalForms.Fits.{depth_kept, values_kept}
use Rattle.bit_grammar.proofs.NormalForms.Settings.{fit_of_setting}
use Rattle.bit_grammar.proofs.NormalForms.Under.{depth_under, values_under}
use Rattle.bit_grammar.proofs.WholeInputs.Limits.{limits_judged}
use Rattle.bit_fields.specs.Devices.{Incoming, Outgoing}
use Rattle.bit_norm.specs.Telling.{IsFit}
use Rattle.bit_norm.specs.Writing.{WritesForm}
use Rattle.bit_text.specs.declared.fault.AssembleFault.TheVariants.{Refused}
use Rattle.bit_text.specs.declared.reason.TextReason.{TextReason}
use Rattle.bit_text.specs.Assembling.{Assembles, IsRead, TookAll}
use Rattle.bit_text.specs.Listings.{reading_of}
use Rattle.bit_text.proofs.Spelled.{listing_spells, same_tree, not_both}

-- ---- the text of a source

-- the bytes of a source begin with those that it gave
begins : (before after : Option (List ℕ)) (bytes gave : List ℕ) → before ≡ Some bytes → Consumes before after gave → (rest : List ℕ) × (bytes ≡ gave ++ rest)
begins before None bytes gave is took = absurd (subst (λ (o : Option (List ℕ)). Consumes o None gave) is took)
begins before (Some rest) bytes gave is took = (rest, subst (λ (o : Option (List ℕ)). Consumes o (Some rest) gave) is took)

-- a source that is at its end gave all
gave_all : (before after : Option (List ℕ)) (bytes gave : List ℕ) → before ≡ Some bytes → Consumes before after gave → IsAtEnd after → bytes ≡ gave
gave_all before None bytes gave is took end = absurd (subst (λ (o : Option (List ℕ)). Consumes o None gave) is took)
gave_all before (Some rest) bytes gave is took end = subst (λ (o : Option (List ℕ)). Consumes o (Some rest) gave) is took ∙ ap (λ (r : List ℕ). gave ++ r) end ∙ append-nil gave

pub took_all : (i later : Incoming) (listing text : List ℕ) → i.to_come ≡ Some listing → TookAll text i later → listing ≡ text
took_all i later listing text is all = gave_all i.to_come later.to_come listing text is all.took.bytes all.end

-- the listing is read as the text that was taken is
pub read_so : (limits : Limits) (i later : Incoming) (listing : List ℕ) (answer : Result Tree (TextReason × ℕ)) → i.to_come ≡ Some listing → IsRead limits i answer later → reading_of limits listing ≡ answer
read_so limits i later listing answer is h = elim h.1 [
  | inl all ↦ ap (reading_of limits) (took_all i later listing h.0 is all.0) ∙ all.1
  | inr front ↦ (let more = begins i.to_come later.to_come listing h.0 is front.0.bytes in ap (reading_of limits) more.1 ∙ front.1 more.0)
]

-- ---- what was shown

kept_fit : (setting : Setting) (limits : Limits) (bytes : List ℕ) (m : Marked) → Capped limits → SpellsInput limits bytes m → IsFit limits (under setting (tree_of m))
kept_fit setting limits bytes m capped spelled =
    let within = (limits_judged limits limits bytes m spelled).0 spelled in
    record {
      fit = fit_of_setting setting limits bytes m capped spelled;
      depth = omega (arith, depth_under setting 0 (tree_of m).blocks, depth_kept m.blocks, within.1);
      values = omega (arith, values_under setting 0 (tree_of m).blocks, values_kept m.blocks, within.2);
    }

pub shown_read : (setting : Setting) (limits : Limits) (bytes : List ℕ) (m : Marked) → Capped limits → SpellsInput limits bytes m → reading_of limits (listing_of (under setting (tree_of m))) ≡ Ok (under setting (tree_of m))
shown_read setting limits bytes m capped spelled = listing_spells limits (under setting (tree_of m)) (kept_fit setting limits bytes m capped spelled)

pub shown_form : (setting : Setting) (limits : Limits) (bytes : List ℕ) (m : Marked) (i later : Incoming) (old new : Outgoing) (count : ℕ) → Capped limits → SpellsInput limits bytes m
    → i.to_come ≡ Some (listing_of (under setting (tree_of m))) → Assembles limits i old (Ok count) later new → WritesForm (under setting (tree_of m)) limits.bytes old (Ok count) new
shown_form setting limits bytes m i later old new count capped spelled is (text, took, done) =
    let tree = under setting (tree_of m) in
    let read : reading_of limits text ≡ Ok tree = ap (reading_of limits) (sym (took_all i later (listing_of tree) text is took)) ∙ shown_read setting limits bytes m capped spelled in
    subst (λ (t : Tree). WritesForm t limits.bytes old (Ok count) new) (same_tree (reading_of limits text) done.tree tree done.spells read) done.writes

pub shown_never_refused : (setting : Setting) (limits : Limits) (bytes : List ℕ) (m : Marked) (i later : Incoming) (old new : Outgoing) (reason : TextReason) (line : ℕ) → Capped limits → SpellsInput limits bytes m
    → i.to_come ≡ Some (listing_of (under setting (tree_of m))) → Assembles limits i old (Err (Refused reason line)) later new → ⊥
shown_never_refused setting limits bytes m i later old new reason line capped spelled is h =
    let listing = listing_of (under setting (tree_of m)) in
    not_both (reading_of limits listing) (under setting (tree_of m)) (reason, line) (shown_read setting limits bytes m capped spelled) (read_so limits i later listing (Err (reason, line)) is h.0)
