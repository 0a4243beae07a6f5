-- The lines of events are those of some tree, whatever the events are.
use Rattle.std.proofs.Common.{◌≡◌, ℕ, zero, suc, ◌-◌, List, [], ◌∷◌, ◌++◌, refl, sym, ap, ◌∙◌, append_assoc, arith}
use Rattle.bit_grammar.specs.Forest.{Forest, empty, a_block, a_record}
use Rattle.bit_grammar.specs.Machine.{Event, enters, defines, notes, leaves}
use Rattle.bit_grammar.specs.Texts.{block_line, record_line, lines_of, events_text}

-- what follows in the blocks around, the innermost first
abbrev Around : ℕ → Type 0
Around zero = Unit {0}
Around (suc n) = Forest × Around n

abbrev nothing : (n : ℕ) → Around n
nothing zero = tt
nothing (suc n) = (empty, nothing n)

-- the lines of the items of n blocks, and of what follows in these
abbrev lines_around : (n : ℕ) → Forest → Around n → List ℕ
lines_around zero f around = lines_of 0 f
lines_around (suc n) f around = lines_of (suc n) f ++ lines_around n around.0 around.1

nothing_there : (n : ℕ) → lines_around n empty (nothing n) ≡ []
nothing_there zero = refl
nothing_there (suc n) = nothing_there n

line_first : (n : ℕ) (line : List ℕ) (f g : Forest) (around : Around n) → lines_of n g ≡ line ++ lines_of n f → lines_around n g around ≡ line ++ lines_around n f around
line_first zero line f g around is = is
line_first (suc n) line f g around is = ap (λ (l : List ℕ). l ++ lines_around n around.0 around.1) is ∙ append_assoc line (lines_of (suc n) f) (lines_around n around.0 around.1)

-- forests with the lines of events
record Stands (n : ℕ) (events : List Event) : Type 0 where
  here : Forest
  around : Around n
  lines : events_text n events ≡ lines_around n here around

stands : (events : List Event) (n : ℕ) → Stands n events
stands [] n = record { here = empty; around = nothing n; lines = sym (nothing_there n) }
stands (enters o ∷ events) n =
    let more = stands events (suc n) in
    let inner = lines_of (suc n) more.here in
    let line = block_line n o.id in
    record {
      here = a_block o.id more.here more.around.0;
      around = more.around.1;
      lines = ap (λ (l : List ℕ). line ++ l) more.lines ∙ sym (append_assoc line inner (lines_around n more.around.0 more.around.1))
          ∙ sym (line_first n (line ++ inner) more.around.0 (a_block o.id more.here more.around.0) more.around.1 (sym (append_assoc line inner (lines_of n more.around.0))));
    }
stands (defines mark ∷ events) n = (let more = stands events n in record { here = more.here; around = more.around; lines = more.lines })
stands (notes mark ∷ events) n =
    let more = stands events n in
    let line = record_line n mark.code mark.values in
    record {
      here = a_record mark.code mark.values more.here;
      around = more.around;
      lines = ap (λ (l : List ℕ). line ++ l) more.lines ∙ sym (line_first n line more.here (a_record mark.code mark.values more.here) more.around refl);
    }
stands (leaves after ∷ events) zero = (let more = stands events zero in record { here = more.here; around = more.around; lines = more.lines })
stands (leaves after ∷ events) (suc n) =
    let more = stands events n in
    let place : suc n - 1 ≡ n = omega arith in
    record { here = empty; around = (more.here, more.around); lines = ap (λ (k : ℕ). events_text k events) place ∙ more.lines }

pub some_forest : (events : List Event) → (f : Forest) × (events_text 0 events ≡ lines_of 0 f)
some_forest events = (let s = stands events 0 in (s.here, s.lines))
