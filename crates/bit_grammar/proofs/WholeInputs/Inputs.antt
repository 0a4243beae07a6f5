-- One tree or one fault for each input.
use Rattle.std.proofs.Common.{◌≡◌, ℕ, ◌<◌, ◌≤◌, ◌⊎◌, List, length, Result, Ok, Err, refl, sym, ◌∙◌, inl, inr}
use Rattle.std.proofs.lemmas.Bool.{cases_lt}
use Rattle.bit_grammar.specs.Bits.{bits_of_bytes}
use Rattle.bit_grammar.specs.Grammar.{Fault}
use Rattle.bit_grammar.specs.Blocks.{Limits}
use Rattle.bit_grammar.specs.Input.{input, too_long, front_of, is_closed, cut_fault, SpellsInput, Cut, front_spelled, front_broken, BreaksInput}
use Rattle.bit_grammar.specs.Terms.{Marked}
use Rattle.bit_grammar.proofs.Readings.Wholes.{is_le, is_not_le, DecidedAll, reads_all, breaks_all, decides_all}
use Rattle.bit_grammar.proofs.Readings.Readers.{reading_all, cut_at_limit, reading_input}

pub spelled_read : (limits : Limits) (bytes : List ℕ) (m : Marked) → SpellsInput limits bytes m → reading_input limits bytes ≡ Ok m
unfolding reading_input
spelled_read limits bytes m h = rw (is_le (length bytes) limits.bytes h.fits) (reads_all (input limits) 0 (bits_of_bytes bytes) m h.spelled)

cut_read : (limits : Limits) (bytes : List ℕ) (fault : Fault) → Cut limits bytes fault → cut_at_limit limits (is_closed limits bytes) (reading_all (input limits) 0 (front_of limits bytes)) ≡ Err fault
cut_read limits bytes fault (front_spelled m spelled is) = rw (reads_all (input limits) 0 (front_of limits bytes) m spelled, is) refl
cut_read limits bytes fault (front_broken own stopped is) = rw (breaks_all (input limits) 0 (front_of limits bytes) own stopped, is) refl

pub breaks_read : (limits : Limits) (bytes : List ℕ) (fault : Fault) → BreaksInput limits bytes fault → reading_input limits bytes ≡ Err fault
unfolding reading_input
breaks_read limits bytes fault (inl h) = rw (is_le (length bytes) limits.bytes h.0) (breaks_all (input limits) 0 (bits_of_bytes bytes) fault h.1)
breaks_read limits bytes fault (inr h) = rw (is_not_le (length bytes) limits.bytes h.0) (cut_read limits bytes fault h.1)

abbrev done : Marked → Result Marked Fault
done m = Ok m

abbrev failed : Fault → Result Marked Fault
failed fault = Err fault

ok_is : (m n : Marked) → done m ≡ done n → m ≡ n
ok_is m n e = cc

err_is : (f g : Fault) → failed f ≡ failed g → f ≡ g
err_is f g e = cc

no_both : (m : Marked) (f : Fault) → done m ≡ failed f → ⊥
no_both m f e = absurd cc

-- ---- one tree, one fault, and one or the other

pub one_tree : (limits : Limits) (bytes : List ℕ) (m n : Marked) → SpellsInput limits bytes m → SpellsInput limits bytes n → m ≡ n
one_tree limits bytes m n a b = ok_is m n (sym (spelled_read limits bytes m a) ∙ spelled_read limits bytes n b)

pub one_fault : (limits : Limits) (bytes : List ℕ) (f g : Fault) → BreaksInput limits bytes f → BreaksInput limits bytes g → f ≡ g
one_fault limits bytes f g a b = err_is f g (sym (breaks_read limits bytes f a) ∙ breaks_read limits bytes g b)

pub not_both : (limits : Limits) (bytes : List ℕ) (m : Marked) (f : Fault) → SpellsInput limits bytes m → BreaksInput limits bytes f → ⊥
not_both limits bytes m f a b = no_both m f (sym (spelled_read limits bytes m a) ∙ breaks_read limits bytes f b)

abbrev InputDecided : Limits → List ℕ → Type 0
InputDecided limits bytes = ((m : Marked) × SpellsInput limits bytes m) ⊎ ((fault : Fault) × BreaksInput limits bytes fault)

short_decided : (limits : Limits) (bytes : List ℕ) → length bytes ≤ limits.bytes → DecidedAll (input limits) 0 (bits_of_bytes bytes) → InputDecided limits bytes
short_decided limits bytes fits (inl found) = inl (found.0, record { fits = fits; spelled = found.1 })
short_decided limits bytes fits (inr stopped) = inr (stopped.0, inl (fits, stopped.1))

long_decided : (limits : Limits) (bytes : List ℕ) → limits.bytes < length bytes → DecidedAll (input limits) 0 (front_of limits bytes) → InputDecided limits bytes
long_decided limits bytes long (inl found) = inr (too_long limits, inr (long, front_spelled found.0 found.1 refl))
long_decided limits bytes long (inr stopped) = inr (cut_fault limits (is_closed limits bytes) stopped.0, inr (long, front_broken stopped.0 stopped.1 refl))

pub tree_or_fault : (limits : Limits) (bytes : List ℕ) → InputDecided limits bytes
tree_or_fault limits bytes =
    elim (cases_lt limits.bytes (length bytes)) [
      | inl long ↦ long_decided limits bytes long (decides_all (input limits) 0 (front_of limits bytes))
      | inr fits ↦ short_decided limits bytes fits (decides_all (input limits) 0 (bits_of_bytes bytes))
    ]
