-- The listing of a whole input.
use Rattle.std.proofs.Common.{◌≡◌, ℕ, List, [], ◌++◌, refl, sym, ap, subst, ◌∙◌, Option, Some, None, Result, Ok, Err, inl, inr}
use Rattle.std.specs.Prelude.{IsSome}
use Rattle.std.specs.declared.alloc.Global.{Global}
use Rattle.std.specs.declared.vec.Vec.{Vec}
use Rattle.bit_grammar.specs.Forest.{Tree}
use Rattle.bit_grammar.specs.Blocks.{Limits}
use Rattle.bit_grammar.specs.Setting.{Setting}
use Rattle.bit_grammar.specs.Under.{under, events_under}
use Rattle.bit_grammar.specs.Grammar as grammar
use Rattle.bit_grammar.specs.Input.{tree_of, SpellsInput}
use Rattle.bit_grammar.specs.Terms.{Head, Marked}
use Rattle.bit_grammar.specs.Machine.{Told, flat, accepted}
use Rattle.bit_grammar.specs.Normal.{Capped}
use Rattle.bit_grammar.specs.Outlook.{outlook}
use Rattle.bit_grammar.specs.Texts.{listing_of}
use Rattle.bit_grammar.proofs.Tallying.Listings.{lines_by_events}
use Rattle.bit_grammar.proofs.NormalForms.Settings.{fit_of_setting}
use Rattle.bit_grammar.proofs.Events.Telling.{told_if_spelled}
use Rattle.bit_fields.specs.declared.fault.Fault.{Fault}
use Rattle.bit_fields.specs.declared.fault.Fault.TheVariants.{Refused, Read, Write, Memory, OutputTooLong, Failed}
use Rattle.bit_fields.specs.Devices.{Incoming, Outgoing, known_bytes}
use Rattle.bit_events.specs.Reading.{ReadsWhole}
use Rattle.bit_scan.specs.Lines.{listing_head}
use Rattle.bit_scan.specs.Listing.{told_text, ListsBytes}
use Rattle.bit_scan.specs.Written.{WritesText}
use Rattle.bit_scan.specs.Showing.{ReadsLeft, Shows}
use Rattle.bit_scan.proofs.Untold.{some_forest}

-- facts about an accepted input and the bytes that were kept of it
abbrev pub HoldsKept : Limits → List ℕ → Vec ℕ Global → Type 0
HoldsKept limits bytes kept = (kept.items ≡ bytes) × ((m : Marked) × SpellsInput limits bytes m)

abbrev pub ReadsKept : Limits → Incoming → Result (Vec ℕ Global) Fault → Incoming → Type 0
ReadsKept limits = ReadsWhole (HoldsKept limits) limits

-- its bytes were not kept
pub not_kept : (s : Setting) (limits : Limits) (i now : Incoming) (o : Outgoing) (fault : Fault) → ReadsKept limits i (Err fault) now → Shows s limits i o (Err fault) now o
not_kept s limits i now o (Refused reason bit) r = (r, refl)
not_kept s limits i now o Read r = (r, refl)
not_kept s limits i now o Memory r = inl (r, refl)
not_kept s limits i now o Write r = absurd r
not_kept s limits i now o OutputTooLong r = absurd r
not_kept s limits i now o Failed r = absurd r

-- an input that was read
pub shown : (s : Setting) (limits : Limits) (i now : Incoming) (old new : Outgoing) (tree : Tree) (answer : Result (Unit {0}) Fault) → ReadsLeft s limits i (Ok tree) now → WritesText (listing_of tree) old answer new → Shows s limits i old answer now new
shown s limits i now old new tree (Ok _) r w = (tree, r, w)
shown s limits i now old new tree (Err Write) r w = (tree, r, w)
shown s limits i now old new tree (Err Memory) r w = inr (tree, r, w)
shown s limits i now old new tree (Err (Refused reason bit)) r w = absurd w
shown s limits i now old new tree (Err Read) r w = absurd w
shown s limits i now old new tree (Err OutputTooLong) r w = absurd w
shown s limits i now old new tree (Err Failed) r w = absurd w

-- the kept events of bytes that spell a marked tree have the listing of its kept tree
told_of_spelled : (s : Setting) (limits : Limits) (bytes : List ℕ) (m : Marked) (x : Head × Told) → SpellsInput limits bytes m → outlook limits bytes ≡ Ok x → told_text s x.0 x.1 ≡ listing_of (under s (tree_of m))
told_of_spelled s limits bytes m x spelled told =
    let same : Path (Result (Head × Told) grammar.Fault) (Ok x) (Ok (m.head, (flat m.blocks [], accepted m.after))) = sym told ∙ (told_if_spelled limits bytes m).0 spelled in
    let pair : Path (Head × Told) x (m.head, (flat m.blocks [], accepted m.after)) = cc in
    ap (λ (y : Head × Told). told_text s y.0 y.1) pair ∙ ap (λ (l : List ℕ). listing_head m.head.magic ++ l) (lines_by_events s m.blocks)

-- if the source's bytes are unknown there is some tree too
untold_shown : (s : Setting) (limits : Limits) (i now : Incoming) (kept : Vec ℕ Global) (old new : Outgoing) (answer : Result (Unit {0}) Fault) (x : Head × Told) → ReadsKept limits i (Ok kept) now → i.to_come ≡ None → WritesText (told_text s x.0 x.1) old answer new → Shows s limits i old answer now new
untold_shown s limits i now kept old new answer x k none writes =
    let f = some_forest (events_under s [] x.1.0) in
    let tree : Tree = record { magic = x.0.magic; blocks = f.0 } in
    let same : told_text s x.0 x.1 ≡ listing_of tree = ap (λ (l : List ℕ). listing_head x.0.magic ++ l) f.1 in
    shown s limits i now old new tree answer (k.0, λ tells. absurd (untold i.to_come none tells)) (subst (λ (l : List ℕ). WritesText l old answer new) same writes)
  where
    untold : (t : Option (List ℕ)) → t ≡ None → IsSome t → ⊥
    untold None none tells = cc
    untold (Some bytes) none tells = cc

told_shown : (s : Setting) (limits : Limits) (i now : Incoming) (kept : Vec ℕ Global) (bytes : List ℕ) (old new : Outgoing) (answer : Result (Unit {0}) Fault) (x : Head × Told) → Capped limits → ReadsKept limits i (Ok kept) now → i.to_come ≡ Some bytes → outlook limits kept.items ≡ Ok x → WritesText (told_text s x.0 x.1) old answer new
    → Shows s limits i old answer now new
told_shown s limits i now kept bytes old new answer x capped k some told writes =
    let tells : IsSome i.to_come = rw some refl in
    let held = k.1 tells in
    let m = held.0.1.0 in
    let spelled = held.0.1.1 in
    let text = told_of_spelled s limits kept.items m x (subst (λ (b : List ℕ). SpellsInput limits b m) (sym held.0.0) spelled) told in
    shown s limits i now old new (under s (tree_of m)) answer (k.0, λ t. (((m, spelled, refl), fit_of_setting s limits (known_bytes i.to_come) m capped spelled), held.1)) (subst (λ (l : List ℕ). WritesText l old answer new) text writes)

pub kept_shown : (s : Setting) (limits : Limits) (i now : Incoming) (kept : Vec ℕ Global) (old new : Outgoing) (answer : Result (Unit {0}) Fault) → ReadsKept limits i (Ok kept) now → ListsBytes s limits kept.items old answer new → Shows s limits i old answer now new
kept_shown s limits i now kept old new answer k (inr none) =
    subst (λ (r : Result (Unit {0}) Fault). Shows s limits i old r now new) (sym none.0) (subst (λ (o : Outgoing). Shows s limits i old (Err Memory) now o) (sym none.1) (not_kept s limits i now old Memory k.0))
kept_shown s limits i now kept old new answer k (inl w) = go i.to_come refl
  where
    go : (t : Option (List ℕ)) → i.to_come ≡ t → Shows s limits i old answer now new
    go None none = untold_shown s limits i now kept old new answer w.1 k none w.3
    go (Some bytes) some = told_shown s limits i now kept bytes old new answer w.1 w.0 k some w.2 w.3
