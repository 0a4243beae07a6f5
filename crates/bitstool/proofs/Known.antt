-- Facts about the part of a text that a sink took, and about bytes that a source gave.
use Rattle.std.proofs.Common.{◌≡◌, ◌∙◌, ℕ, ◌-◌, Bool, List, [], ◌++◌, length, take, drop, refl, sym, ap, subst, append_assoc, arith, Some, None, length-drop}
use Rattle.std.specs.Prelude.{IsSome, IfSome}
use Rattle.std.proofs.lemmas.List.{take-append-drop, append-nil}
use Rattle.std.proofs.lemmas.Grind.{common_steps}
use Rattle.std.specs.Io.KnownBytes.{Appends, Keeps}
use Rattle.std.proofs.KnownBytes.{Appends-trans}
use Rattle.bit_grammar.specs.Bits.{bits_of_bytes}
use Rattle.bit_fields.specs.Devices.{known_bytes}
use Rattle.bit_fields.proofs.BitLaws.{bits_of_bytes-append}
use Rattle.bitstool.specs.Runs.{ToldBytes, GainsBits, GainsFront}

-- one more put takes a prefix of the rest
pub part_grows : (a b d : ToldBytes) (text part rest : List ℕ) (n : ℕ) → text ≡ part ++ rest → Appends a b part → Appends b d (take n rest)
    → (x : List ℕ) × (text ≡ x ++ take (length rest - n) (drop n rest)) × Appends a d x
part_grows a b d text part rest n e h k =
    let whole : take (length rest - n) (drop n rest) ≡ drop n rest = grind (arith, common_steps, length-drop n rest) in
    let split : take n rest ++ drop n rest ≡ rest = take-append-drop n rest in
    (part ++ take n rest, e ∙ ap (λ (r : List ℕ). part ++ r) (sym split ∙ ap (λ (r : List ℕ). take n rest ++ r) (sym whole)) ∙ sym (append_assoc part (take n rest) _), Appends-trans a b d part (take n rest) h k)

-- a put that takes nothing leaves the part unchanged
pub part_stays : (a b d : ToldBytes) (part rest : List ℕ) (n : ℕ) → n ≡ 0 → Appends a b part → Appends b d (take n rest) → Appends a d part
part_stays a b d part rest n none h k =
    let nothing : take n rest ≡ [] = grind (arith, common_steps) in
    let same : part ++ take n rest ≡ part = ap (λ (r : List ℕ). part ++ r) nothing ∙ append-nil part in
    subst (λ (p : List ℕ). Appends a d p) same (Appends-trans a b d part (take n rest) h k)

-- an output gained a text
pub gains_text : (old new : ToldBytes) (text : List ℕ) → Appends old new text → GainsBits (bits_of_bytes text) old new
gains_text None new text h = tt
gains_text (Some held) None text h = absurd h
gains_text (Some held) (Some now) text h = (text, ap Some h, refl)

-- an output gained a prefix of a text
pub gains_part : (old new : ToldBytes) (text part rest : List ℕ) → text ≡ part ++ rest → Appends old new part → GainsFront (bits_of_bytes text) old new
gains_part None new text part rest e h = tt
gains_part (Some held) None text part rest e h = absurd h
gains_part (Some held) (Some now) text part rest e h = (part, bits_of_bytes rest, ap Some h, sym (bits_of_bytes-append part rest) ∙ ap bits_of_bytes (sym e))

-- a whole text is a prefix of itself
pub gains_front : (bits : List Bool) (old new : ToldBytes) → GainsBits bits old new → GainsFront bits old new
gains_front bits None new h = tt
gains_front bits (Some held) new h = (h.0, [], h.1, append-nil (bits_of_bytes h.0) ∙ h.2)

-- the same of a sink
pub gained : (bits : List Bool) (old new : ToldBytes) → (IsSome old → IsSome new)
    → (IsSome old → (more : List ℕ) × (known_bytes new ≡ known_bytes old ++ more) × (bits_of_bytes more ≡ bits)) → GainsBits bits old new
gained bits None new tells bytes = tt
gained bits (Some held) None tells bytes = let bad = tells refl in absurd (cc)
gained bits (Some held) (Some now) tells bytes = let b = bytes refl in (b.0, ap Some b.1, b.2)

pub gained_front : (bits : List Bool) (old new : ToldBytes) → (IsSome old → IsSome new)
    → (IsSome old → (more : List ℕ) × (rest : List Bool) × (known_bytes new ≡ known_bytes old ++ more) × (bits_of_bytes more ++ rest ≡ bits)) → GainsFront bits old new
gained_front bits None new tells bytes = tt
gained_front bits (Some held) None tells bytes = let bad = tells refl in absurd (cc)
gained_front bits (Some held) (Some now) tells bytes = let b = bytes refl in (b.0, b.1, ap Some b.2, b.3)

-- a fact of the known bytes
pub if_told : (o : ToldBytes) (P : List ℕ → Type 0) → (IsSome o → P (known_bytes o)) → IfSome o P
if_told None P h = tt
if_told (Some bytes) P h = h refl

-- an output that keeps what it gained
pub gains_kept : (bits : List Bool) (old new last : ToldBytes) → GainsBits bits old new → Keeps new last → GainsBits bits old last
gains_kept bits None new last h k = tt
gains_kept bits (Some held) None last h k = let bad = h.1 in absurd (cc)
gains_kept bits (Some held) (Some now) None h k = absurd k
gains_kept bits (Some held) (Some now) (Some end) h k = (h.0, ap Some k ∙ h.1, h.2)

pub front_kept : (bits : List Bool) (old new last : ToldBytes) → GainsFront bits old new → Keeps new last → GainsFront bits old last
front_kept bits None new last h k = tt
front_kept bits (Some held) None last h k = let bad = h.2 in absurd (cc)
front_kept bits (Some held) (Some now) None h k = absurd k
front_kept bits (Some held) (Some now) (Some end) h k = (h.0, h.1, ap Some k ∙ h.2, h.3)
