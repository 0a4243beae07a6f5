-- What a sink gained from a writer.
use Rattle.std.proofs.Common.{◌≡◌, ℕ, ◌≤◌, Bool, true, List, [], ◌++◌, Result, Ok, Err, sym, ap, ◌∙◌, subst, append_assoc}
use Rattle.std.proofs.lemmas.List.{append-nil, append_cancel_left}
use Rattle.bit_grammar.specs.Bits.{bits_of_bytes}
use Rattle.bit_grammar.specs.Forest.{Tree}
use Rattle.bit_grammar.specs.Normal.{normal_form}
use Rattle.bit_grammar.specs.Size.{size_of}
use Rattle.bit_fields.specs.Devices.{Outgoing, known_bytes}
use Rattle.bit_fields.specs.Writer.{Writer, taken_bits, written_bits, Wrote, LostBits, Writes}
use Rattle.bit_fields.specs.declared.fault.Fault.{Fault}
use Rattle.bit_fields.specs.declared.fault.Fault.TheVariants.{Refused, Read, Write, Memory, OutputTooLong, Failed}
use Rattle.bit_fields.proofs.BitLaws.{bits_of_bytes-append}
use Rattle.bit_norm.specs.Writing.{GainedBits, GainedFront, WritesForm}

-- a writer that holds nothing wrote what its sink took
all_taken : (w : Writer) → w.held ≡ [] → written_bits w ≡ taken_bits w
all_taken w none = ap (λ (s : List Bool). taken_bits w ++ s) none ∙ append-nil (taken_bits w)

-- the bits of the bytes that a sink took in between
took_more : (a b : Writer) (more : List ℕ) → known_bytes b.outgoing.bytes ≡ known_bytes a.outgoing.bytes ++ more → taken_bits a ++ bits_of_bytes more ≡ taken_bits b
took_more a b more is = sym (bits_of_bytes-append (known_bytes a.outgoing.bytes) more) ∙ ap bits_of_bytes (sym is)

gained : (bits : List Bool) (a b : Writer) → a.held ≡ [] → b.held ≡ [] → Wrote a bits b → GainedBits bits a.outgoing b.outgoing
gained bits a b none all w = record {
  failures = w.failures;
  tells = w.tells;
  bytes = λ k.
      let more = w.kept k in
      (more.0, more.1, append_cancel_left (taken_bits a) (bits_of_bytes more.0) bits (took_more a b more.0 more.1 ∙ sym (all_taken b all) ∙ w.written k ∙ ap (λ (s : List Bool). s ++ bits) (all_taken a none)));
}

gained_front : (bits : List Bool) (a b : Writer) → a.held ≡ [] → LostBits a bits b → GainedFront bits a.outgoing b.outgoing
gained_front bits a b none l = record {
  why = l.why;
  tells = l.tells;
  bytes = λ k.
      let more = l.kept k in
      let rest = l.front k in (
        more.0,
        rest.0,
        more.1,
        append_cancel_left (taken_bits a) (bits_of_bytes more.0 ++ rest.0) bits
            (sym (append_assoc (taken_bits a) (bits_of_bytes more.0) rest.0) ∙ ap (λ (s : List Bool). s ++ rest.0) (took_more a b more.0 more.1) ∙ rest.1 ∙ ap (λ (s : List Bool). s ++ bits) (all_taken a none)),
      );
}

-- a form was written
pub form_written : (tree : Tree) (limit bytes : ℕ) (a b : Writer) → bytes ≡ size_of tree → bytes ≤ limit → a.held ≡ [] → b.held ≡ [] → Wrote a (normal_form tree) b → WritesForm tree limit a.outgoing (Ok bytes) b.outgoing
form_written tree limit bytes a b is within none all w = (rw is at within, is, gained (normal_form tree) a b none all w)

-- a prefix of it was written
pub form_lost : (tree : Tree) (limit bytes : ℕ) (a b : Writer) (fault : Fault) → bytes ≡ size_of tree → bytes ≤ limit → a.live ≡ true → a.held ≡ [] → Writes (normal_form tree) a (Err fault) b → WritesForm tree limit a.outgoing (Err fault) b.outgoing
form_lost tree limit bytes a b Write is within live none w = (rw is at within, gained_front (normal_form tree) a b none w)
form_lost tree limit bytes a b Failed is within live none w = let dead = w.0 in absurd cc
form_lost tree limit bytes a b (Refused reason bit) is within live none w = w
form_lost tree limit bytes a b Read is within live none w = w
form_lost tree limit bytes a b Memory is within live none w = w
form_lost tree limit bytes a b OutputTooLong is within live none w = absurd w

-- the same between sinks with these known bytes
pub between : (tree : Tree) (limit : ℕ) (answer : Result ℕ Fault) (a old b new : Outgoing) → a ≡ old → b ≡ new → WritesForm tree limit a answer b → WritesForm tree limit old answer new
between tree limit answer a old b new first last form = subst (λ (o : Outgoing). WritesForm tree limit old answer o) last (subst (λ (o : Outgoing). WritesForm tree limit o answer b) first form)
