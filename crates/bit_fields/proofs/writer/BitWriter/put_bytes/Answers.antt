use Rattle.std.proofs.Common.{◌≡◌, ℕ, true, Bool, List, [], ◌++◌, ap, sym, subst, ◌∙◌, arith}
use Rattle.std.proofs.lemmas.List.{append-nil}
use Rattle.std.proofs.lemmas.Result.{err_from_is_err_and}
use Rattle.bit_grammar.specs.Bits.{bits_of_bytes}
use Rattle.bit_fields.specs.Writer.{Writer, Wrote, writer_holding}
use Rattle.bit_fields.proofs.BitLaws.{length-bits_of_bytes, left_after, nothing_left}
use Rattle.bit_fields.proofs.WriterLaws.{wrote_field, wrote_nothing, wrote_no_more, lost_between}
use Rattle.bit_fields.proofs.writer.BitWriter.put_bytes.Goals as goal

pub loop-rest-init : goal.loop-rest-init
loop-rest-init g c =
    let bits = bits_of_bytes c.args.bytes.now in
    let live : c.self.inside.live ≡ true = subst (λ (w : Writer). w.live ≡ true) (sym c.self.view_is) c.requires.live in
    let none : c.self.inside.window ≡ [] = subst (λ (w : Writer). w.held ≡ []) (sym c.self.view_is) c.requires.none in
    record {
      live = live;
      none = none;
      wrote = rw (← c.self.view_is) (wrote_field _ _ bits bits _ (wrote_nothing _ live) (omega (arith, length-bits_of_bytes c.args.bytes.now)) (sym (ap (λ (h : List Bool). h ++ bits) none)));
    }

pub loop-rest-preserved : goal.loop-rest-preserved
loop-rest-preserved g c =
    let l = c.loop-rest in
    let bits = bits_of_bytes c.args.bytes.now in
    record {
      live = c.in_ok-count.ensures.wrote.live;
      none = c.in_ok-count.ensures.none;
      wrote = subst (λ (s : List ℕ). Wrote c.args.self.now bits (writer_holding c.put_front.new.self s)) (left_after c.in_ok-count.count l.rest.now) (wrote_no_more c.args.self.now (writer_holding l.self l.rest.now) _ bits l.invariant.wrote c.in_ok-count.ensures.wrote);
    }

pub returns-in_err-count-clause-lost : goal.returns-in_err-count-clause-lost
returns-in_err-count-clause-lost g c =
    let p = err_from_is_err_and c.from_residual.result c.from_residual.ensures.1 in
    let l = c.loop-rest in
    let bits = bits_of_bytes c.args.bytes.now in
    rw p.1 (lost_between c.args.self.now (writer_holding l.self l.rest.now) c.put_front.new.self bits [] bits (append-nil bits) l.invariant.wrote c.in_err-count.ensures.lost)

pub returns-clause-wrote : goal.returns-clause-wrote
returns-clause-wrote g c =
    let l = c.loop-rest in
    subst (λ (s : List Bool). Wrote c.args.self.now (bits_of_bytes c.args.bytes.now) (record l.self { held = s })) (ap bits_of_bytes (nothing_left l.rest.now c.loop-rest-test.ensures) ∙ sym l.invariant.none) l.invariant.wrote
