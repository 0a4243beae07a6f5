-- Putting a text in pieces.
use Rattle.std.proofs.Common.{◌≡◌, ℕ, ◌-◌, ◌<◌, List, ◌++◌, length, take, drop, sym, ap, ◌∙◌, append_assoc, arith, length-drop}
use Rattle.std.proofs.lemmas.List.{take-append-drop}
use Rattle.std.proofs.lemmas.Grind.{common_steps}
use Rattle.std.proofs.KnownBytes.{Appends-trans}
use Rattle.bit_fields.specs.Devices.{Outgoing, Accepted}
use Rattle.bit_scan.specs.Written.{TookText}

-- the sink took a prefix of a text, and this remains
pub record PutSoFar (text : List ℕ) (old : Outgoing) (rest : List ℕ) (now : Outgoing) : Type 0 where
  pub part : List ℕ
  pub split : text ≡ part ++ rest
  pub took : TookText part old now

-- a put took a prefix of what remains
pub put_on : (text : List ℕ) (old : Outgoing) (rest : List ℕ) (now new : Outgoing) (count : ℕ) → 0 < count → PutSoFar text old rest now → Accepted now new count rest → PutSoFar text old (take (length rest - count) (drop count rest)) new
put_on text old rest now new count some p a =
    let whole : take (length rest - count) (drop count rest) ≡ drop count rest = grind (arith, common_steps, length-drop count rest) in
    let parted : take count rest ++ take (length rest - count) (drop count rest) ≡ rest = ap (λ (l : List ℕ). take count rest ++ l) whole ∙ take-append-drop count rest in
    record {
      part = p.part ++ take count rest;
      split = p.split ∙ ap (λ (l : List ℕ). p.part ++ l) (sym parted) ∙ sym (append_assoc p.part (take count rest) (take (length rest - count) (drop count rest)));
      took = record { bytes = Appends-trans old.bytes now.bytes new.bytes p.part (take count rest) p.took.bytes a.bytes; failures = a.failures some ∙ p.took.failures };
    }
