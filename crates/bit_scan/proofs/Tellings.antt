-- The lines of events, one after the other, and how they end.
use Rattle.std.proofs.Common.{◌≡◌, ℕ, ◌+◌, List, [], ◌++◌, refl, sym, ap, subst, ◌∙◌, inl, inr, arith, Result, Ok, Err, ◌∷◌, append_assoc, Option, Some, None}
use Rattle.std.specs.Prelude.{◌⊎◌, OnErr, OnOk}
use Rattle.std.specs.declared.alloc.AllocError.{AllocError}
use Rattle.std.proofs.lemmas.List.{append-nil}
use Rattle.std.proofs.KnownBytes.{Appends-nil}
use Rattle.bit_grammar.specs.Grammar.{at}
use Rattle.bit_grammar.specs.Blocks.{Limits}
use Rattle.bit_grammar.specs.Terms.{Head}
use Rattle.bit_grammar.specs.Machine.{Event, Ending, accepted, broke, Told}
use Rattle.bit_grammar.specs.EventTexts.{outlook_end}
use Rattle.bit_grammar.specs.Outlook.{Outlook, outlook}
use Rattle.bit_grammar.specs.declared.reason.Reason.{Reason}
use Rattle.bit_grammar.specs.Steps.{open_after}
use Rattle.bit_fields.specs.declared.fault.Fault.{Fault}
use Rattle.bit_fields.specs.declared.fault.Fault.TheVariants.{Refused, Read, Write, Memory, OutputTooLong, Failed}
use Rattle.bit_fields.specs.Devices.{Incoming, Outgoing, Spends, Fails, known_bytes}
use Rattle.bit_fields.proofs.InflowLaws.{Spends-refl, Spends-trans, Spends-none, Fails-none, fails_later}
use Rattle.bit_events.specs.Coming.{Coming, TellsComing, going, over, failed, event_before, EndsEvents, BreaksOff}
use Rattle.bit_events.specs.Events.{Begun, DeclinesEvents}
use Rattle.bit_events.specs.Folding.{EndsGathered, GathersFirst, GathersRest}
use Rattle.bit_events.specs.Gathering.{open_behind, Gathers, Stops}
use Rattle.bit_events.proofs.Folds.{open_behind-push}
use Rattle.bit_scan.specs.declared.format.EventStyle.{EventStyle}
use Rattle.bit_scan.specs.declared.format.Format.{Format}
use Rattle.bit_scan.specs.declared.format.Format.TheVariants.{Text, JsonLines}
use Rattle.bit_scan.specs.Printing.{Printing, Printed, Prints}
use Rattle.bit_scan.specs.Styles.{event_as, fault_as, head_as, outlook_as, refusal_as, styled_event, styled_lines, styled_outlook, styled_told, told_as}
use Rattle.bit_scan.specs.Telling.{FailsLine, KeepsFault, WritesToEnd, PaidBy, TellsInput, PrintsLast, PrintsToEnd, TellsRest, TellsAll, WroteLines}
use Rattle.bit_scan.proofs.Prints.{Goes, goes_starts, goes_as, goes_on, goes_wrong, goes_last, printed_none, printed_then, all_written, not_written}

-- ---- a text to its end

-- if not all of the text was printed
pub printed_wrong : (text : List ℕ) (end : Ending) (i now : Incoming) (old new : Printing) (fault : Fault) → Prints text old (Err fault) new → PrintsToEnd text end i old (Err fault) now new
printed_wrong text end i now old new Write p = p
printed_wrong text end i now old new Memory p = p
printed_wrong text end i now old new (Refused reason bit) p = absurd p
printed_wrong text end i now old new Read p = absurd p
printed_wrong text end i now old new OutputTooLong p = absurd p
printed_wrong text end i now old new Failed p = absurd p

-- earlier calls of the source belong to it
paid_later : (answer : Result (Unit {0}) Fault) (i mid now : Incoming) (a b c : ℕ) → Spends i a mid b → PaidBy answer mid b now c → PaidBy answer i a now c
paid_later (Ok v) i mid now a b c p q = Spends-trans i a mid b now c p q
paid_later (Err (Refused reason bit)) i mid now a b c p q = Spends-trans i a mid b now c p q
paid_later (Err Read) i mid now a b c p q = fails_later i a mid b now c p q
paid_later (Err Write) i mid now a b c p q = elim q [ inl spends ↦ inl (Spends-trans i a mid b now c p spends) | inr fails ↦ inr (fails_later i a mid b now c p fails) ]
paid_later (Err Memory) i mid now a b c p q = elim q [ inl spends ↦ inl (Spends-trans i a mid b now c p spends) | inr fails ↦ inr (fails_later i a mid b now c p fails) ]
paid_later (Err OutputTooLong) i mid now a b c p q = q
paid_later (Err Failed) i mid now a b c p q = q

-- no further call is needed
paid_all : (answer : Result (Unit {0}) Fault) (i now : Incoming) (a b : ℕ) → PaidBy answer i a now b → PaidBy answer i a now 0
paid_all (Ok v) i now a b p = Spends-none i a now b p
paid_all (Err (Refused reason bit)) i now a b p = Spends-none i a now b p
paid_all (Err Read) i now a b p = Fails-none i a now b p
paid_all (Err Write) i now a b p = elim p [ inl spends ↦ inl (Spends-none i a now b spends) | inr fails ↦ inr (Fails-none i a now b fails) ]
paid_all (Err Memory) i now a b p = elim p [ inl spends ↦ inl (Spends-none i a now b spends) | inr fails ↦ inr (Fails-none i a now b fails) ]
paid_all (Err OutputTooLong) i now a b p = p
paid_all (Err Failed) i now a b p = p

-- if a text was not printed, whether the source failed or not
paid_wrong : (text : List ℕ) (p q : Printing) (fault : Fault) (i now : Incoming) (a b : ℕ) → Prints text p (Err fault) q → Spends i a now b ⊎ Fails i a now b → PaidBy (Err fault) i a now b
paid_wrong text p q Write i now a b prints paid = paid
paid_wrong text p q Memory i now a b prints paid = paid
paid_wrong text p q (Refused reason bit) i now a b prints paid = absurd prints
paid_wrong text p q Read i now a b prints paid = absurd prints
paid_wrong text p q OutputTooLong i now a b prints paid = absurd prints
paid_wrong text p q Failed i now a b prints paid = absurd prints

-- after a printed part, the rest goes to its end
pub printed_to_end : (whole a b : List ℕ) (end : Ending) (i mid now : Incoming) (paid left : ℕ) (old p q : Printing) (answer : Result (Unit {0}) Fault) → whole ≡ a ++ b → Spends i paid mid left → Printed a old p → PrintsToEnd b end mid p answer now q → PrintsToEnd whole end i old answer now q
printed_to_end whole a b end i mid now paid left old p q answer is pays printed rest = go answer rest
  where
    goes : Goes whole old b p
    goes = goes_on whole old a b old p (goes_as whole old whole (a ++ b) old is (goes_starts whole old)) printed

    go : (answer : Result (Unit {0}) Fault) → PrintsToEnd b end mid p answer now q → PrintsToEnd whole end i old answer now q
    go (Ok v) r = ((goes_last whole old b p (Ok tt) q goes r.0.0, r.0.1), r.1, λ tells. r.2 (pays.tells tells))
    go (Err (Refused reason bit)) r = ((goes_last whole old b p (Ok tt) q goes r.0.0, r.0.1), r.1)
    go (Err Read) r = goes_last whole old b p (Err Memory) q goes r
    go (Err Write) r = goes_last whole old b p (Err Write) q goes r
    go (Err Memory) r = goes_last whole old b p (Err Memory) q goes r
    go (Err OutputTooLong) r = r
    go (Err Failed) r = r

-- ---- lines in a style

-- the lines of an event and of what follows it
told_step : (style : EventStyle) (around : ℕ) (event : Event) (told : Told) → styled_told style around (event_before event told) ≡ styled_event style around event ++ styled_told style (open_after event around) told
told_step style around event told = go style.format
  where
    go : (format : Format) → told_as format style.values around (event_before event told) ≡ event_as format style.values around event ++ told_as format style.values (open_after event around) told
    go Text = refl
    go JsonLines = refl

-- those of some events and of what follows them
told_split : (style : EventStyle) (around : ℕ) (events : List Event) (told : Told) → styled_told style around (events ++ told.0, told.1) ≡ styled_lines style around events ++ styled_told style (open_behind events around) told
told_split style around [] told = refl
told_split style around (event ∷ events) told =
    told_step style around event (events ++ told.0, told.1) ∙ ap (λ (l : List ℕ). styled_event style around event ++ l) (told_split style (open_after event around) events told)
    ∙ sym (append_assoc (styled_event style around event) (styled_lines style (open_after event around) events) (styled_told style (open_behind events (open_after event around)) told))

-- those of one event more
lines_push : (style : EventStyle) (around : ℕ) (events : List Event) (event : Event) → styled_lines style around (events ++ event ∷ []) ≡ styled_lines style around events ++ styled_event style (open_behind events around) event
lines_push style around [] event = append-nil (styled_event style around event)
lines_push style around (first ∷ events) event =
    ap (λ (l : List ℕ). styled_event style around first ++ l) (lines_push style (open_after first around) events event)
    ∙ sym (append_assoc (styled_event style around first) (styled_lines style (open_after first around) events) (styled_event style (open_behind events (open_after first around)) event))

-- none if all is accepted
told_accepted : (style : EventStyle) (around bit : ℕ) → [] ≡ styled_told style around ([], accepted bit)
told_accepted style around bit = go style.format
  where
    go : (format : Format) → [] ≡ told_as format style.values around ([], accepted bit)
    go Text = refl
    go JsonLines = refl

-- the line of a refusal
told_broke : (style : EventStyle) (around : ℕ) (reason : Reason) (bit : ℕ) → refusal_as style.format reason bit ≡ styled_told style around ([], broke (at reason bit))
told_broke style around reason bit = go style.format
  where
    go : (format : Format) → refusal_as format reason bit ≡ told_as format style.values around ([], broke (at reason bit))
    go Text = refl
    go JsonLines = refl

outlook_broke : (style : EventStyle) (reason : Reason) (bit : ℕ) → refusal_as style.format reason bit ≡ styled_outlook style (Err (at reason bit))
outlook_broke style reason bit = go style.format
  where
    go : (format : Format) → refusal_as format reason bit ≡ outlook_as format style.values (Err (at reason bit))
    go Text = refl
    go JsonLines = refl

-- the lines of the magic and of all events
outlook_parts : (style : EventStyle) (head : Head) (told : Told) → head_as style.format head ++ styled_told style 0 told ≡ styled_outlook style (Ok (head, told))
outlook_parts style head told = go style.format
  where
    go : (format : Format) → head_as format head ++ told_as format style.values 0 told ≡ outlook_as format style.values (Ok (head, told))
    go Text = refl
    go JsonLines = refl

-- ---- as events are gathered

-- no line yet
pub wrote_none : (style : EventStyle) (around : ℕ) (p : Printing) → WroteLines style around p [] around p
wrote_none style around p = record { printed = printed_none p; now_is = refl }

-- one line more
pub wrote_more : (style : EventStyle) (around now next : ℕ) (p q s : Printing) (events : List Event) (event : Event) → WroteLines style around p events now q → Printed (styled_event style now event) q s → next ≡ open_after event now → WroteLines style around p (events ++ event ∷ []) next s
wrote_more style around now next p q s events event wrote printed is = record {
  printed = subst (λ (l : List ℕ). Printed l p s) (sym (lines_push style around events event)) (printed_then (styled_lines style around events) (styled_event style (open_behind events around) event) p q s wrote.printed (subst (λ (n : ℕ). Printed (styled_event style n event) q s) wrote.now_is printed));
  now_is = is ∙ ap (open_after event) wrote.now_is ∙ sym (open_behind-push events event around);
}

-- the events after those whose lines were printed
abbrev pub left_to_write : Coming → Told → Coming
left_to_write old told = record old { told = told; depth = 0 }

-- the lines of some events, and then of the others to their end
pub lines_then_rest : (style : EventStyle) (old new : Coming) (p q s : Printing) (events : List Event) (told : Told) (now : ℕ) (answer : Result (Unit {0}) Fault) → WroteLines style 0 p events now q → (TellsComing old → old.told ≡ (events ++ told.0, told.1)) → TellsRest style now (left_to_write old told) q answer new s → TellsRest style 0 old p answer new s
lines_then_rest style old new p q s events told now answer wrote is rest =
    let all : Told = (events ++ rest.1.0, rest.1.1) in
    let whole : styled_told style 0 all ≡ styled_lines style 0 events ++ styled_told style now rest.1 = told_split style 0 events rest.1 ∙ ap (λ (n : ℕ). styled_lines style 0 events ++ styled_told style n rest.1) (sym wrote.now_is) in (
      rest.0,
      all,
      λ tells. is tells ∙ ap (λ (t : Told). (events ++ t.0, t.1)) (rest.2 tells),
      printed_to_end _ (styled_lines style 0 events) (styled_told style now rest.1) rest.1.1 old.incoming old.incoming new.incoming old.budget old.budget p q s answer whole (Spends-refl old.incoming old.budget) wrote.printed rest.3,
    )

-- not all of the line of the next event was printed
pub line_wrong : (style : EventStyle) (around : ℕ) (old new : Coming) (p q : Printing) (event : Event) (told : Told) (fault : Fault) → (TellsComing old → old.told ≡ event_before event told) → Spends old.incoming old.budget new.incoming new.budget ⊎ Fails old.incoming old.budget new.incoming new.budget → Prints (styled_event style around event) p (Err fault) q → TellsRest style around old p (Err fault) new q
line_wrong style around old new p q event told fault is paid prints =
    let line = styled_event style around event in
    let others = styled_told style (open_after event around) told in
    let whole = styled_told style around (event_before event told) in (
      paid_wrong line p q fault old.incoming new.incoming old.budget new.budget prints paid,
      event_before event told,
      is,
      printed_wrong whole told.1 old.incoming new.incoming p q fault (goes_wrong whole p line others p q fault (goes_as whole p whole (line ++ others) p (told_step style around event told) (goes_starts whole p)) prints),
    )

-- the events have ended, and the buffered text is put, or not
pub events_over : (style : EventStyle) (around : ℕ) (old new : Coming) (p q : Printing) → old.stage ≡ going → EndsEvents old new → Printed [] p q → q.held ≡ [] → TellsRest style around old p (Ok tt) new q
events_over style around old new p q goes ends printed all =
    (ends.pays, ([], accepted new.position), λ tells. (ends.told tells).0, ((subst (λ (l : List ℕ). Printed l p q) (told_accepted style around new.position) printed, all), (new.position, refl), ends.none goes))

pub over_wrong : (style : EventStyle) (around : ℕ) (old new : Coming) (p q : Printing) (fault : Fault) → EndsEvents old new → Prints [] p (Err fault) q → TellsRest style around old p (Err fault) new q
over_wrong style around old new p q fault ends prints =
    let whole = styled_told style around ([], accepted new.position) in
    (paid_wrong [] p q fault old.incoming new.incoming old.budget new.budget prints (inl ends.pays), ([], accepted new.position), λ tells. (ends.told tells).0, printed_wrong whole (accepted new.position) old.incoming new.incoming p q fault (subst (λ (l : List ℕ). Prints l p (Err fault) q) (told_accepted style around new.position) prints))

-- the printed text is a prefix of what follows too
front_of_more : (text : List ℕ) (p q : Printing) → Printed [] p q → Prints text p (Err Memory) q
front_of_more text p q printed = goes_wrong text p [] text p q Memory (goes_starts text p) (record { front = printed.part; rest = q.held; split = printed.split; bytes = printed.bytes }, printed.failures)

-- a call for the next event failed, and the fault's line and the buffered text are put
events_broke : (style : EventStyle) (around : ℕ) (old new : Coming) (p q : Printing) (fault : Fault) → old.stage ≡ going → BreaksOff old fault new → Printed (fault_as style.format fault) p q → q.held ≡ [] → TellsRest style around old p (Err fault) new q
events_broke style around old new p q (Refused reason bit) goes breaks printed all =
    (breaks.0.pays, ([], broke (at reason bit)), breaks.1, ((subst (λ (l : List ℕ). Printed l p q) (told_broke style around reason bit) printed, all), refl))
events_broke style around old new p q Read goes breaks printed all = (breaks.fails, old.told, λ tells. refl, front_of_more (styled_told style around old.told) p q printed)
events_broke style around old new p q Memory goes breaks printed all = (inl breaks.pays, old.told, λ tells. refl, front_of_more (styled_told style around old.told) p q printed)
events_broke style around old new p q Failed goes breaks printed all = (let both : going ≡ failed = sym goes ∙ breaks.0 in cc)
events_broke style around old new p q Write goes breaks printed all = absurd breaks
events_broke style around old new p q OutputTooLong goes breaks printed all = absurd breaks

-- or not, if there is no line
broke_wrong : (style : EventStyle) (around : ℕ) (old new : Coming) (p q : Printing) (wrong : Fault) → Spends old.incoming old.budget new.incoming new.budget ⊎ Fails old.incoming old.budget new.incoming new.budget → Prints [] p (Err wrong) q → TellsRest style around old p (Err wrong) new q
broke_wrong style around old new p q wrong paid prints =
    let text = styled_told style around old.told in
    (paid_wrong [] p q wrong old.incoming new.incoming old.budget new.budget prints paid, old.told, λ tells. refl, printed_wrong text old.told.1 old.incoming new.incoming p q wrong (goes_wrong text p [] text p q wrong (goes_starts text p) prints))

-- or not all of the line
line_broke : (style : EventStyle) (around : ℕ) (old new : Coming) (p q : Printing) (fault wrong : Fault) → old.stage ≡ going → BreaksOff old fault new → Prints (fault_as style.format fault) p (Err wrong) q → TellsRest style around old p (Err wrong) new q
line_broke style around old new p q (Refused reason bit) wrong goes breaks prints =
    let text = styled_told style around ([], broke (at reason bit)) in
    (paid_wrong (refusal_as style.format reason bit) p q wrong old.incoming new.incoming old.budget new.budget prints (inl breaks.0.pays), ([], broke (at reason bit)), breaks.1, printed_wrong text (broke (at reason bit)) old.incoming new.incoming p q wrong (subst (λ (l : List ℕ). Prints l p (Err wrong) q) (told_broke style around reason bit) prints))
line_broke style around old new p q Read wrong goes breaks prints = broke_wrong style around old new p q wrong (inr breaks.fails) prints
line_broke style around old new p q Memory wrong goes breaks prints = broke_wrong style around old new p q wrong (inl breaks.pays) prints
line_broke style around old new p q Failed wrong goes breaks prints = (let both : going ≡ failed = sym goes ∙ breaks.0 in cc)
line_broke style around old new p q Write wrong goes breaks prints = absurd breaks
line_broke style around old new p q OutputTooLong wrong goes breaks prints = absurd breaks

pub events_broken : (style : EventStyle) (around : ℕ) (old new : Coming) (p q : Printing) (fault answer : Fault) → old.stage ≡ going → BreaksOff old fault new → PrintsLast (fault_as style.format fault) fault p answer q → TellsRest style around old p (Err answer) new q
events_broken style around old new p q fault answer goes breaks (inl done) = subst (λ (f : Fault). TellsRest style around old p (Err f) new q) (sym done.0) (events_broke style around old new p q fault goes breaks done.1.0 done.1.1)
events_broken style around old new p q fault answer goes breaks (inr wrong) = line_broke style around old new p q fault answer goes breaks wrong

-- ---- all events

-- all lines were printed, and what is buffered is put, or not
pub rest_over : {G : Type 0} (gathered : G → List Event → G → Type 0) (style : EventStyle) (old new : Coming) (g h : G) (p q s : Printing) (now : ℕ) (answer : Result (Unit {0}) Fault) → old.stage ≡ going → (all : EndsGathered gathered old g new h) → WroteLines style 0 p all.events now q → Prints [] q answer s → OnOk answer (s.held ≡ []) → TellsRest style 0 old p answer new s
rest_over gathered style old new g h p q s now answer goes all wrote prints held =
    let told : Told = ([], accepted new.position) in
    let mid = left_to_write old told in
    let ends : EndsEvents mid new = record {
      held_on = all.held_on;
      ends = all.ends;
      again = λ isnt. let both : going ≡ over = sym goes ∙ isnt in cc;
      pays = all.pays;
      head = all.head;
      depth = refl;
      none_open = all.none_open;
      told = λ tells. (refl, all.over_told);
      none = all.none;
    } in
    lines_then_rest style old new p q s all.events told now answer wrote (λ tells. all.told tells ∙ ap (λ (es : List Event). (es, accepted new.position)) (sym (append-nil all.events))) (go answer ends prints held)
  where
    go : (answer : Result (Unit {0}) Fault) → EndsEvents (left_to_write old ([], accepted new.position)) new → Prints [] q answer s → OnOk answer (s.held ≡ []) → TellsRest style now (left_to_write old ([], accepted new.position)) q answer new s
    go (Ok v) ends prints held = events_over style now (left_to_write old ([], accepted new.position)) new q s goes ends prints held
    go (Err fault) ends prints held = over_wrong style now (left_to_write old ([], accepted new.position)) new q s fault ends prints

-- the events ended with a fault, or some are left, and its line is printed, or not
pub rest_broken : (style : EventStyle) (old new : Coming) (p q s : Printing) (events : List Event) (told : Told) (now : ℕ) (fault answer : Fault) → old.stage ≡ going → WroteLines style 0 p events now q → (TellsComing old → old.told ≡ (events ++ told.0, told.1)) → BreaksOff (left_to_write old told) fault new → PrintsLast (fault_as style.format fault) fault q answer s → TellsRest style 0 old p (Err answer) new s
rest_broken style old new p q s events told now fault answer goes wrote is breaks last = lines_then_rest style old new p q s events told now (Err answer) wrote is (events_broken style now (left_to_write old told) new q s fault answer goes breaks last)

-- not all of a line was printed
pub rest_wrong : (style : EventStyle) (old new : Coming) (p q s : Printing) (events others : List Event) (event : Event) (now : ℕ) (fault : Fault) → WroteLines style 0 p events now q → (TellsComing old → old.told.0 ≡ events ++ event ∷ others) → Spends old.incoming old.budget new.incoming new.budget ⊎ Fails old.incoming old.budget new.incoming new.budget → Prints (styled_event style now event) q (Err fault) s → TellsRest style 0 old p (Err fault) new s
rest_wrong style old new p q s events others event now fault wrote is paid prints =
    let told : Told = (others, old.told.1) in
    lines_then_rest style old new p q s events (event_before event told) now (Err fault) wrote (λ tells. ap (λ (es : List Event). (es, old.told.1)) (is tells)) (line_wrong style now (left_to_write old (event_before event told)) new q s event told fault (λ tells. refl) paid prints)

-- ---- what a gatherer that writes lines did, as its style, its open blocks, its printer and its kept fault are read from it

abbrev pub WroteBy : {G : Type 0} → (G → EventStyle) → (G → ℕ) → (G → Printing) → (G → Option Fault) → G → List Event → G → Type 0
WroteBy style around printer stopped first events last = WroteLines (style first) (around first) (printer first) events (around last) (printer last) × (style last ≡ style first) × (stopped last ≡ stopped first)

abbrev pub FailsBy : {G : Type 0} → (G → EventStyle) → (G → ℕ) → (G → Printing) → (G → Option Fault) → G → Option Event → G → Type 0
FailsBy style around printer stopped old event new = FailsLine (style old) (around old) (printer old) event (stopped new) (printer new)

-- one line more, if it was printed
pub wrote_line : {G : Type 0} (style : G → EventStyle) (around : G → ℕ) (printer : G → Printing) (stopped : G → Option Fault) (old new : G) (event : Event) (result : Result (Unit {0}) AllocError) → OnOk result (Printed (styled_event (style old) (around old) event) (printer old) (printer new)) → OnOk result (stopped new ≡ stopped old) → style new ≡ style old → OnOk result (around new ≡ open_after event (around old)) → OnOk result (Gathers (WroteBy style around printer stopped) old event new)
wrote_line style around printer stopped old new event (Ok v) printed kept same next = λ first done deepest was stands. (
  wrote_more (style first) (around first) (around old) (around new) (printer first) (printer old) (printer new) done event was.0 (subst (λ (s : EventStyle). Printed (styled_event s (around old) event) (printer old) (printer new)) was.1 printed) next,
  same ∙ was.1,
  kept ∙ was.2,
)
wrote_line style around printer stopped old new event (Err e) printed kept same next = tt

-- what became of a line, if its fault is kept
pub line_written : (text : List ℕ) (p q : Printing) (done : Result (Unit {0}) Fault) (old : Option Fault) (result : Result (Unit {0}) AllocError) (new : Option Fault) → Prints text p done q → KeepsFault done old result new → OnOk result (Printed text p q)
line_written text p q done old (Ok v) new prints keeps = subst (λ (r : Result (Unit {0}) Fault). Prints text p r q) keeps.0 prints
line_written text p q done old (Err e) new prints keeps = tt

pub line_failed : (style : EventStyle) (around : ℕ) (event : Event) (p q : Printing) (done : Result (Unit {0}) Fault) (old : Option Fault) (result : Result (Unit {0}) AllocError) (new : Option Fault) → Prints (styled_event style around event) p done q → KeepsFault done old result new → OnErr result (FailsLine style around p (Some event) new q)
line_failed style around event p q done old (Ok v) new prints keeps = tt
line_failed style around event p q done old (Err e) new prints keeps = subst (λ (o : Option Fault). FailsLine style around p (Some event) o q) (sym keeps.2) (subst (λ (r : Result (Unit {0}) Fault). Prints (styled_event style around event) p r q) keeps.1 prints)

pub none_kept : (done : Result (Unit {0}) Fault) (old : Option Fault) (result : Result (Unit {0}) AllocError) (new : Option Fault) → KeepsFault done old result new → OnOk result (new ≡ old)
none_kept done old (Ok v) new keeps = keeps.1
none_kept done old (Err e) new keeps = tt

-- a fact for each list that was taken, if a call failed
pub each_lost : (Taken P : List ℕ → Type 0) (result : Result (Unit {0}) AllocError) → ((list : List ℕ) → Taken list → OnErr result (P list)) → OnErr result ((list : List ℕ) → Taken list → P list)
each_lost Taken P (Ok x) each = tt
each_lost Taken P (Err e) each = each

-- nothing was printed
pub none_printed : (text : List ℕ) (p : Printing) → Prints text p (Err Memory) p
none_printed text p = (record { front = []; rest = p.held ++ text; split = refl; bytes = Appends-nil p.outgoing.bytes }, refl)

wrote_first : {G : Type 0} (g : G) (style : G → EventStyle) (around : G → ℕ) (printer : G → Printing) (stopped : G → Option Fault) → WroteBy style around printer stopped g [] g
wrote_first g style around printer stopped = (wrote_none (style g) (around g) (printer g), refl, refl)

no_fault : (o : Option Fault) (fault : Fault) → o ≡ Some fault → o ≡ None → ⊥
no_fault o fault is isnt = (let both : Some fault ≡ None = sym is ∙ isnt in cc)

-- a fault of a line was kept
pub rest_stopped : {G : Type 0} (g h : G) (style : G → EventStyle) (around : G → ℕ) (printer : G → Printing) (stopped : G → Option Fault) (old new : Coming) (done : Result (Unit {0}) Fault) (fault : Fault) → around g ≡ 0 → stopped g ≡ None → old.stage ≡ going → old.depth ≡ 0 → GathersRest (WroteBy style around printer stopped) (FailsBy style around printer stopped) old g done new h → stopped h ≡ Some fault → TellsRest (style g) 0 old (printer g) (Err fault) new (printer h)
rest_stopped {G = G} g h style around printer stopped old new done fault none wrote goes outside rest is = go done rest
  where
    not_all : (events : List Event) → WroteBy style around printer stopped g events h → ⊥
    not_all events w = no_fault (stopped h) fault is (w.2 ∙ wrote)

    here : (k : GathersFirst (WroteBy style around printer stopped) (FailsBy style around printer stopped) (TellsComing old) old.told old.depth g h) → Spends old.incoming old.budget new.incoming new.budget ⊎ Fails old.incoming old.budget new.incoming new.budget → TellsRest (style g) 0 old (printer g) (Err fault) new (printer h)
    here k paid = by k.stops
      where
        w : WroteBy style around printer stopped g k.events k.before
        w = k.gathers g [] (wrote_first g style around printer stopped) (sym outside)

        lines : WroteLines (style g) 0 (printer g) k.events (around k.before) (printer k.before)
        lines = subst (λ (n : ℕ). WroteLines (style g) n (printer g) k.events (around k.before) (printer k.before)) none w.0

        by : Stops (FailsBy style around printer stopped) k.before k.rest h → TellsRest (style g) 0 old (printer g) (Err fault) new (printer h)
        by (inl same) = absurd (no_fault (stopped h) fault is (ap stopped same ∙ w.2 ∙ wrote))
        by (inr (inl lost)) = absurd lost
        by (inr (inr (event, others, first, lost))) =
            let prints = subst (λ (o : Option Fault). FailsLine (style k.before) (around k.before) (printer k.before) (Some event) o (printer h)) is lost in
            rest_wrong (style g) old new (printer g) (printer k.before) (printer h) k.events others event (around k.before) fault lines (λ tells. k.told tells ∙ ap (λ (es : List Event). k.events ++ es) first) paid (subst (λ (s : EventStyle). Prints (styled_event s (around k.before) event) (printer k.before) (Err fault) (printer h)) w.1 prints)

    go : (done : Result (Unit {0}) Fault) → GathersRest (WroteBy style around printer stopped) (FailsBy style around printer stopped) old g done new h → TellsRest (style g) 0 old (printer g) (Err fault) new (printer h)
    go (Ok v) k = absurd (not_all k.events (k.gathers g [] (wrote_first g style around printer stopped) (sym outside)))
    go (Err (Refused reason bit)) k = absurd (not_all k.1.events (k.1.gathers g [] (wrote_first g style around printer stopped) (sym outside)))
    go (Err Read) k = here k.1 (inr k.0.fails)
    go (Err Memory) k = here k.1 (inl k.0.pays)
    go (Err Failed) k = (let both : going ≡ failed = sym goes ∙ k.0 in cc)
    go (Err Write) k = absurd k
    go (Err OutputTooLong) k = absurd k

-- all lines were printed, and what is buffered is put, or not
pub rest_written : {G : Type 0} (g h : G) (style : G → EventStyle) (around : G → ℕ) (printer : G → Printing) (stopped : G → Option Fault) (old new : Coming) (answer : Result (Unit {0}) Fault) (s : Printing) → around g ≡ 0 → old.stage ≡ going → old.depth ≡ 0 → GathersRest (WroteBy style around printer stopped) (FailsBy style around printer stopped) old g (Ok tt) new h → Prints [] (printer h) answer s → OnOk answer (s.held ≡ []) → TellsRest (style g) 0 old (printer g) answer new s
rest_written g h style around printer stopped old new answer s none goes outside all prints held =
    let w = all.gathers g [] (wrote_first g style around printer stopped) (sym outside) in
    rest_over (WroteBy style around printer stopped) (style g) old new g h (printer g) (printer h) s (around h) answer goes all (subst (λ (n : ℕ). WroteLines (style g) n (printer g) all.events (around h) (printer h)) none w.0) prints held

-- a fault, but not of a line
pub rest_ended : {G : Type 0} (g h : G) (style : G → EventStyle) (around : G → ℕ) (printer : G → Printing) (stopped : G → Option Fault) (old new : Coming) (fault answer : Fault) (s : Printing) → around g ≡ 0 → old.stage ≡ going → old.depth ≡ 0 → GathersRest (WroteBy style around printer stopped) (FailsBy style around printer stopped) old g (Err fault) new h → stopped h ≡ None → PrintsLast (fault_as (style h).format fault) fault (printer h) answer s → TellsRest (style g) 0 old (printer g) (Err answer) new s
rest_ended {G = G} g h style around printer stopped old new fault answer s none goes outside rest isnt last = go fault rest last
  where
    lines : (events : List Event) (k : G) → WroteBy style around printer stopped g events k → WroteLines (style g) 0 (printer g) events (around k) (printer k)
    lines events k w = subst (λ (n : ℕ). WroteLines (style g) n (printer g) events (around k) (printer k)) none w.0

    whole : (k : GathersFirst (WroteBy style around printer stopped) (FailsBy style around printer stopped) (TellsComing old) old.told old.depth g h) → WroteLines (style g) 0 (printer g) k.events (around h) (printer h)
    whole k = by k.stops
      where
        w : WroteBy style around printer stopped g k.events k.before
        w = k.gathers g [] (wrote_first g style around printer stopped) (sym outside)

        by : Stops (FailsBy style around printer stopped) k.before k.rest h → WroteLines (style g) 0 (printer g) k.events (around h) (printer h)
        by (inl same) = subst (λ (x : G). WroteLines (style g) 0 (printer g) k.events (around x) (printer x)) (sym same) (lines k.events k.before w)
        by (inr (inl lost)) = absurd lost
        by (inr (inr (event, others, first, lost))) = absurd (subst (λ (o : Option Fault). FailsLine (style k.before) (around k.before) (printer k.before) (Some event) o (printer h)) isnt lost)

    go : (fault : Fault) → GathersRest (WroteBy style around printer stopped) (FailsBy style around printer stopped) old g (Err fault) new h → PrintsLast (fault_as (style h).format fault) fault (printer h) answer s → TellsRest (style g) 0 old (printer g) (Err answer) new s
    go (Refused reason bit) k last =
        let w = k.1.gathers g [] (wrote_first g style around printer stopped) (sym outside) in
        rest_broken (style g) old new (printer g) (printer h) s k.1.events ([], broke (at reason bit)) (around h) (Refused reason bit) answer goes (lines k.1.events h w) (λ tells. k.1.told tells ∙ ap (λ (es : List Event). (es, broke (at reason bit))) (sym (append-nil k.1.events))) (record { went = k.0.went; stopped = k.0.stopped; head = k.0.head; position = k.0.position; depth = omega (arith, k.0.depth, outside); deepest = k.0.deepest; pays = k.0.pays }, λ tells. refl) (subst (λ (x : EventStyle). PrintsLast (refusal_as x.format reason bit) (Refused reason bit) (printer h) answer s) w.1 last)
    go Read k last =
        rest_broken (style g) old new (printer g) (printer h) s k.1.events (k.1.rest, old.told.1) (around h) Read answer goes (whole k.1) (λ tells. ap (λ (es : List Event). (es, old.told.1)) (k.1.told tells)) (record { went = k.0.went; stopped = k.0.stopped; head = k.0.head; position = k.0.position; depth = omega (arith, k.0.depth, outside); deepest = k.0.deepest; fails = k.0.fails }) last
    go Memory k last =
        rest_broken (style g) old new (printer g) (printer h) s k.1.events (k.1.rest, old.told.1) (around h) Memory answer goes (whole k.1) (λ tells. ap (λ (es : List Event). (es, old.told.1)) (k.1.told tells)) (record { went = k.0.went; stopped = k.0.stopped; head = k.0.head; position = k.0.position; depth = omega (arith, k.0.depth, outside); deepest = k.0.deepest; pays = k.0.pays }) last
    go Failed k last = (let both : going ≡ failed = sym goes ∙ k.0 in cc)
    go Write k last = absurd k
    go OutputTooLong k last = absurd k

-- not all of the line of the magic was printed
pub head_wrong : (style : EventStyle) (now : Coming) (p q : Printing) (fault : Fault) → Prints (head_as style.format now.head) p (Err fault) q → TellsAll style now p (Err fault) now q
head_wrong style now p q fault prints =
    let line = head_as style.format now.head in
    let others = styled_told style 0 now.told in (
      paid_wrong line p q fault now.incoming now.incoming now.budget now.budget prints (inl (Spends-refl now.incoming now.budget)),
      now.told,
      λ tells. refl,
      printed_wrong (line ++ others) now.told.1 now.incoming now.incoming p q fault (goes_wrong (line ++ others) p line others p q fault (goes_starts (line ++ others) p) prints),
    )

-- it was printed, and then the lines of the events to their end
pub head_then_rest : (style : EventStyle) (now last : Coming) (p q s : Printing) (answer : Result (Unit {0}) Fault) → Printed (head_as style.format now.head) p q → TellsRest style 0 now q answer last s → TellsAll style now p answer last s
head_then_rest style now last p q s answer printed rest = (
  rest.0,
  rest.1,
  rest.2,
  printed_to_end _ (head_as style.format now.head) (styled_told style 0 rest.1) rest.1.1 now.incoming now.incoming last.incoming now.budget now.budget p q s answer refl (Spends-refl now.incoming now.budget) printed rest.3,
)

-- ---- the whole input

-- the effect on a sink of a printer that began with it
to_sink : (text : List ℕ) (end : Ending) (i mid now : Incoming) (paid left : ℕ) (p q : Printing) (answer : Result (Unit {0}) Fault) → p.held ≡ [] → Spends i paid mid left → PrintsToEnd text end mid p answer now q → WritesToEnd text end i p.outgoing answer now q.outgoing
to_sink text end i mid now paid left p q (Ok v) none pays r = (all_written text p q none r.0.1 r.0.0, r.1, λ tells. r.2 (pays.tells tells))
to_sink text end i mid now paid left p q (Err (Refused reason bit)) none pays r = (all_written text p q none r.0.1 r.0.0, r.1)
to_sink text end i mid now paid left p q (Err Read) none pays r = not_written text p q Memory none r
to_sink text end i mid now paid left p q (Err Write) none pays r = not_written text p q Write none r
to_sink text end i mid now paid left p q (Err Memory) none pays r = not_written text p q Memory none r
to_sink text end i mid now paid left p q (Err OutputTooLong) none pays r = r
to_sink text end i mid now paid left p q (Err Failed) none pays r = r

-- an input that was begun
pub input_told : (style : EventStyle) (limits : Limits) (i : Incoming) (old : Outgoing) (c last : Coming) (s : Printing) (answer : Result (Unit {0}) Fault) → Begun limits i c → TellsAll style c (record { outgoing = old; held = [] }) answer last s → TellsInput style limits i old answer last.incoming s.outgoing
input_told style limits i old c last s answer begun all =
    let p : Printing = record { outgoing = old; held = [] } in
    let text = styled_outlook style (Ok (c.head, all.1)) in (
      paid_all answer i last.incoming (limits.bytes + 1) last.budget (paid_later answer i c.incoming last.incoming (limits.bytes + 1) c.budget last.budget begun.pays all.0),
      Ok (c.head, all.1),
      λ tells. begun.told tells ∙ ap (λ (t : Told). Ok (c.head, t)) (all.2 (begun.pays.tells tells)),
      to_sink text all.1.1 i c.incoming last.incoming (limits.bytes + 1) c.budget p s answer refl begun.pays (subst (λ (l : List ℕ). PrintsToEnd l all.1.1 c.incoming p answer last.incoming s) (outlook_parts style c.head all.1) all.3),
    )

-- one that was not begun
pub input_declined : (style : EventStyle) (limits : Limits) (i now : Incoming) (old : Outgoing) (s : Printing) (fault answer : Fault) → DeclinesEvents limits i fault now → PrintsLast (fault_as style.format fault) fault (record { outgoing = old; held = [] }) answer s → TellsInput style limits i old (Err answer) now s.outgoing
input_declined style limits i now old s (Refused reason bit) answer d last = go last
  where
    first : Printing
    first = record { outgoing = old; held = [] }

    text : List ℕ
    text = styled_outlook style (Err (at reason bit))

    go : PrintsLast (refusal_as style.format reason bit) (Refused reason bit) first answer s → TellsInput style limits i old (Err answer) now s.outgoing
    go (inl done) = subst (λ (f : Fault). TellsInput style limits i old (Err f) now s.outgoing) (sym done.0) (d.0, Err (at reason bit), d.1, (all_written text first s refl done.1.1 (subst (λ (l : List ℕ). Printed l first s) (outlook_broke style reason bit) done.1.0), refl))
    go (inr wrong) =
        (paid_wrong (refusal_as style.format reason bit) first s answer i now (limits.bytes + 1) 0 wrong (inl d.0), Err (at reason bit), d.1, to_sink text (broke (at reason bit)) i i now 0 0 first s (Err answer) refl (Spends-refl i 0) (printed_wrong text (broke (at reason bit)) i now first s answer (subst (λ (l : List ℕ). Prints l first (Err answer) s) (outlook_broke style reason bit) wrong)))
input_declined style limits i now old s Read answer d last = go last
  where
    first : Printing
    first = record { outgoing = old; held = [] }

    told : Outlook
    told = outlook limits (known_bytes i.to_come)

    text : List ℕ
    text = styled_outlook style told

    go : PrintsLast [] Read first answer s → TellsInput style limits i old (Err answer) now s.outgoing
    go (inl done) = subst (λ (f : Fault). TellsInput style limits i old (Err f) now s.outgoing) (sym done.0) (d, told, λ tells. refl, not_written text first s Memory refl (front_of_more text first s done.1.0))
    go (inr wrong) =
        (paid_wrong [] first s answer i now (limits.bytes + 1) 0 wrong (inr d), told, λ tells. refl, to_sink text (outlook_end told) i i now 0 0 first s (Err answer) refl (Spends-refl i 0) (printed_wrong text (outlook_end told) i now first s answer (goes_wrong text first [] text first s answer (goes_starts text first) wrong)))
input_declined style limits i now old s Memory answer d last = absurd d
input_declined style limits i now old s Failed answer d last = absurd d
input_declined style limits i now old s Write answer d last = absurd d
input_declined style limits i now old s OutputTooLong answer d last = absurd d
