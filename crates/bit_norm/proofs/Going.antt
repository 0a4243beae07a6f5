-- Writing a text part by part.
use Rattle.std.proofs.Common.{◌≡◌, ◌+◌, Bool, List, [], length, Result, Ok, Err, sym, ap, subst, arith, length-append}
use Rattle.bit_grammar.specs.Normal.{Text, chain}
use Rattle.bit_fields.specs.Writer.{Writer, Wrote, Writes}
use Rattle.bit_fields.specs.declared.fault.Fault.{Fault}
use Rattle.bit_fields.proofs.WriterLaws.{wrote_nothing, wrote_then, not_written}
use Rattle.bit_norm.specs.Writing.{HasRoom}

-- a writer that has this left to write: what writes it completes the whole
pub record Goes (whole : List Bool) (old : Writer) (rest : Text) (now : Writer) : Type 0 where
  pub room : HasRoom now (rest now.position)
  pub completes : (r : Result (Unit {0}) Fault) (new : Writer) → Writes (rest now.position) now r new → Writes whole old r new

pub goes_starts : (text : Text) (w : Writer) → HasRoom w (text w.position) → Goes (text w.position) w text w
goes_starts text w room = record { room = room; completes = λ r new writes. writes }

-- another text that is the same here
pub goes_as : (whole : List Bool) (old : Writer) (a b : Text) (now : Writer) → a now.position ≡ b now.position → Goes whole old a now → Goes whole old b now
goes_as whole old a b now same g = record {
  room = subst (λ (s : List Bool). HasRoom now s) same g.room;
  completes = λ r new writes. g.completes r new (subst (λ (s : List Bool). Writes s now r new) (sym same) writes);
}

-- the first part was written
pub goes_on : (whole : List Bool) (old : Writer) (a b : Text) (now new : Writer) → Goes whole old (chain a b) now → Wrote now (a now.position) new → Goes whole old b new
goes_on whole old a b now new g wrote =
    let s = a now.position in
    let here : b (now.position + length s) ≡ b new.position = ap b (sym wrote.position) in
    record {
      room = record { live = wrote.live; fits = omega (arith, g.room.fits, wrote.position, length-append s (b (now.position + length s)), ap length here) };
      completes = λ r last writes. g.completes r last (wrote_then now new last s (b (now.position + length s)) r wrote (subst (λ (t : List Bool). Writes t new r last) (sym here) writes));
    }

-- the first part was not written
pub goes_wrong : (whole : List Bool) (old : Writer) (a b : Text) (now new : Writer) (fault : Fault) → Goes whole old (chain a b) now → Writes (a now.position) now (Err fault) new → Writes whole old (Err fault) new
goes_wrong whole old a b now new fault g writes = g.completes (Err fault) new (not_written (a now.position) (b (now.position + length (a now.position))) now fault new writes)

-- there is room for the first part
pub room_for : (whole : List Bool) (old : Writer) (a b : Text) (now : Writer) → Goes whole old (chain a b) now → HasRoom now (a now.position)
room_for whole old a b now g = record { live = g.room.live; fits = omega (arith, g.room.fits, length-append (a now.position) (b (now.position + length (a now.position)))) }

-- nothing is left
pub goes_ends : (whole : List Bool) (old : Writer) (rest : Text) (now : Writer) → rest now.position ≡ [] → Goes whole old rest now → Writes whole old (Ok tt) now
goes_ends whole old rest now none g = g.completes (Ok tt) now (subst (λ (s : List Bool). Wrote now s now) (sym none) (wrote_nothing now g.room.live))
