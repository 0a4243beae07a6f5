-- The end of a text.
use Rattle.std.proofs.Common.{◌≡◌, refl, ℕ, ◌≤◌, length, false, IfOk, List, [], ◌++◌, replicate, Option, Some, None, Result, Ok, Err, sym, ◌∙◌, ap, subst, append-nil}
use Rattle.std.specs.Result.{is_err}
use Rattle.bit_grammar.specs.Blocks.{Limits}
use Rattle.bit_grammar.specs.Forest.{Tree}
use Rattle.bit_grammar.specs.Normal.{Capped}
use Rattle.bit_grammar.proofs.NormalForms.Normals.{normal_spelled}
use Rattle.bit_grammar.proofs.NormalForms.Sizes.{form_size}
use Rattle.bit_fields.specs.Devices.{Outgoing}
use Rattle.bit_fields.specs.declared.fault.Fault.{Fault}
use Rattle.bit_fields.specs.declared.fault.Fault.TheVariants.{Read, Write, Memory, OutputTooLong, Failed, Refused as RefusedBits}
use Rattle.bit_norm.specs.Telling.{Call, ends, at_top, where_after, tree_told, HasTold, IsFit}
use Rattle.bit_norm.specs.Writing.{WritesForm}
use Rattle.bit_norm.specs.declared.form_writer.FormWriter.{FormWriter}
use Rattle.bit_text.specs.declared.reason.TextReason.{TextReason}
use Rattle.bit_text.specs.declared.reason.TextReason.TheVariants.{NoMagic}
use Rattle.bit_text.specs.declared.fault.AssembleFault.{AssembleFault}
use Rattle.bit_text.specs.declared.fault.AssembleFault.TheVariants.{Refused, Fault as FaultOf}
use Rattle.bit_text.specs.declared.numbers.Stop.{Stop}
use Rattle.bit_text.specs.declared.assembler.Assembler.{Assembler}
use Rattle.bit_text.specs.Listings.{Standing, at_start, behind_magic, after_line, at_end, told_all, next_line}
use Rattle.bit_text.specs.Stops.{IsAt, IsTold}
use Rattle.bit_text.specs.Assembling.{outlook, EndsLine, TookTree, Writes, Finishes}
use Rattle.bit_text.proofs.Takings.{line_read, line_refused}

took_tree : (limits : Limits) (tree : Tree) (old new : Outgoing) (r : Result ℕ Fault) → Capped limits → IsFit limits tree → WritesForm tree limits.bytes old r new → TookTree limits tree old r new
took_tree limits tree old new (Ok count) capped fit wrote = λ known.
    let gained = wrote.2.bytes known in
    let few : length gained.0 ≤ limits.bytes = subst (λ (n : ℕ). n ≤ limits.bytes) (sym (form_size tree gained.0 gained.2)) wrote.0 in
    (gained.0, gained.1, normal_spelled limits tree gained.0 capped fit.fit gained.2 few fit.depth fit.values)
took_tree limits tree old new (Err fault) capped fit wrote = tt

-- the form was used
pub form_used : (limits : Limits) (magic : List ℕ) (calls : List Call) (w : FormWriter) (old new : Outgoing) (r : Result ℕ Fault) → IsTold limits magic (calls ++ replicate (where_after calls at_top).depth ends) w
    → ((calls : List Call) → HasTold calls w → WritesForm (tree_told w.magic calls) w.limits.bytes old r new) → ((calls : List Call) → HasTold calls w → IsFit w.limits (tree_told w.magic calls)) → Writes (Ok (told_all magic calls)) limits old r new
form_used limits magic calls w old new r was form fit =
    let all = calls ++ replicate (where_after calls at_top).depth ends in
    let tree = told_all magic calls in
    let kept : IsFit limits tree = subst (λ (l : Limits). IsFit l tree) was.under (subst (λ (m : List ℕ). IsFit w.limits (tree_told m all)) was.of_magic (fit all was.told)) in
    let wrote : WritesForm tree limits.bytes old r new = subst (λ (l : Limits). WritesForm tree l.bytes old r new) was.under (subst (λ (m : List ℕ). WritesForm (tree_told m all) w.limits.bytes old r new) was.of_magic (form all was.told)) in
    let capped : Capped limits = subst Capped was.under was.told.capped in
    record { tree = tree; spells = refl; fit = kept; writes = wrote; accepted = took_tree limits tree old new r capped kept wrote }

pub fault_used : (wanted : Result Tree (TextReason × ℕ)) (limits : Limits) (old new : Outgoing) (fault : Fault) → Writes wanted limits old (Err fault) new → Finishes wanted limits old (Err (FaultOf fault)) new
fault_used wanted limits old new Write h = h
fault_used wanted limits old new OutputTooLong h = h
fault_used wanted limits old new Memory h = absurd h.writes
fault_used wanted limits old new Read h = h.writes
fault_used wanted limits old new Failed h = h.writes
fault_used wanted limits old new (RefusedBits reason bit) h = h.writes

-- nothing more comes in the last line
pub ended : (now : Standing) (a b : Assembler) (r : Result (Unit {0}) AssembleFault) → EndsLine a (after_line a.limits now (a.line.items ++ [])) r b → EndsLine a (after_line a.limits now a.line.items) r b
ended now a b r h = subst (λ (l : List ℕ). EndsLine a (after_line a.limits now l) r b) (append-nil a.line.items) h

-- the last line was refused, or an allocation failed
pub last_stopped : (now : Standing) (a b : Assembler) (fault : AssembleFault) (o : Outgoing) → EndsLine a (after_line a.limits now a.line.items) (Err fault) b → Finishes (outlook now a []) a.limits o (Err fault) o
last_stopped now a b (Refused reason line) o h = (line_refused a.limits a.number now reason a.line.items [] h.0 ∙ ap (λ (n : ℕ). Err (reason, n)) (sym h.1), refl)
last_stopped now a b (FaultOf fault) o h = subst (λ (f : Fault). Finishes (outlook now a []) a.limits o (Err (FaultOf f)) o) (sym h) refl

-- what is read at the end of the last line
pub last_read : (now later : Standing) (a : Assembler) → after_line a.limits now a.line.items ≡ Ok later → outlook now a [] ≡ at_end (next_line a.number) later
last_read now later a h = line_read a.limits a.number now later a.line.items [] h

-- a writer after the last line
pub given : (now : Standing) (a b : Assembler) (w : FormWriter) (old new : Outgoing) (r : Result ℕ AssembleFault) → EndsLine a (after_line a.limits now a.line.items) (Ok tt) b → b.writer ≡ Some w
    → ((limits : Limits) (magic : List ℕ) (calls : List Call) → IsTold limits magic calls w → Finishes (Ok (told_all magic calls)) limits old r new) → Finishes (outlook now a []) a.limits old r new
given now a b w old new r h some gives = given_at now h.0 a w old new r h.1 (subst (λ (o : Option FormWriter). IsAt a.limits h.0 o) some (subst (λ (l : Limits). IsAt l h.0 b.writer) h.3 h.2)) gives
  where
    given_at : (now later : Standing) (a : Assembler) (w : FormWriter) (old new : Outgoing) (r : Result ℕ AssembleFault) → after_line a.limits now a.line.items ≡ Ok later → IsAt a.limits later (Some w)
        → ((limits : Limits) (magic : List ℕ) (calls : List Call) → IsTold limits magic calls w → Finishes (Ok (told_all magic calls)) limits old r new) → Finishes (outlook now a []) a.limits old r new
    given_at now at_start a w old new r read here gives = absurd here
    given_at now (behind_magic magic calls) a w old new r read here gives =
        subst (λ (wanted : Result Tree (TextReason × ℕ)). Finishes wanted a.limits old r new) (sym (last_read now (behind_magic magic calls) a read)) (gives a.limits magic calls here)

-- no writer after the last line
pub no_magic : (now : Standing) (a b : Assembler) (o : Outgoing) → EndsLine a (after_line a.limits now a.line.items) (Ok tt) b → b.writer ≡ None → Finishes (outlook now a []) a.limits o (Err (Refused NoMagic b.number)) o
no_magic now a b o h none = (no_magic_at now h.0 a b.limits b.number h.1 h.4 (subst (λ (w : Option FormWriter). IsAt b.limits h.0 w) none h.2), refl)
  where
    no_magic_at : (now later : Standing) (a : Assembler) (limits : Limits) (number : ℕ) → after_line a.limits now a.line.items ≡ Ok later → number ≡ next_line a.number → IsAt limits later None → outlook now a [] ≡ Err (NoMagic, number)
    no_magic_at now at_start a limits number read is here = last_read now at_start a read ∙ ap (λ (n : ℕ). Err (NoMagic, n)) (sym is)
    no_magic_at now (behind_magic magic calls) a limits number read is here = absurd here

pub if_ok : (r : Result (Unit {0}) Stop) (P : Type 0) → is_err r ≡ false → IfOk r (λ _. P) → P
if_ok (Ok x) P h p = p
if_ok (Err e) P h p = absurd cc
