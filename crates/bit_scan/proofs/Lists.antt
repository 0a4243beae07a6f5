-- The lines of a listing, one after the other.
use Rattle.std.proofs.Common.{◌≡◌, ℕ, Bool, true, false, List, [], ◌∷◌, ◌++◌, Option, Some, None, Result, Ok, Err, append_assoc, inl, inr, refl, sym, ap, subst, ◌∙◌}
use Rattle.std.specs.Prelude.{OnErr, OnOk, if◌then◌else◌}
use Rattle.std.specs.declared.alloc.AllocError.{AllocError}
use Rattle.std.proofs.lemmas.List.{append-nil}
use Rattle.bit_grammar.specs.Machine.{Event, Told}
use Rattle.bit_grammar.specs.Steps.{open_after}
use Rattle.bit_grammar.specs.Texts.{event_text, events_text}
use Rattle.bit_events.specs.Standing.{OpenUnder, leaves as leaves_event, stands_after, left_of}
use Rattle.bit_events.specs.Coming.{Coming, TellsComing}
use Rattle.bit_events.specs.Folding.{GathersFirst, GathersRest}
use Rattle.bit_events.specs.Gathering.{Gathers, Stops}
use Rattle.bit_fields.specs.declared.fault.Fault.{Fault}
use Rattle.bit_fields.specs.declared.fault.Fault.TheVariants.{Refused, Read, Write, Memory, OutputTooLong, Failed}
use Rattle.bit_scan.specs.Lines.{listing_head}
use Rattle.bit_scan.specs.Listing.{FailsLeft, WroteLeft, around_after, around_behind, left_text, line_left, stands_behind}
use Rattle.bit_scan.specs.Telling.{KeepsFault}
use Rattle.bit_scan.specs.Printing.{Printing, Printed, Prints}
use Rattle.bit_scan.proofs.Prints.{Goes, goes_starts, goes_as, goes_on, goes_wrong, goes_last, printed_none, printed_then}

-- ---- events

left_first : (stood : OpenUnder) (around : ℕ) (event : Event) (events : List Event) → left_text around stood (event ∷ events) ≡ line_left stood around event ++ left_text (around_after stood around event) (stands_after event stood) events
left_first stood around event events = go (leaves_event stood event)
  where
    others : List Event
    others = left_of (stands_after event stood) events

    go : (b : Bool) → events_text around (if b then event ∷ others else others) ≡ (if b then event_text around event else []) ++ events_text (if b then open_after event around else around) others
    go true = refl
    go false = refl

-- those of some events and of what follows them
left_split : (stood : OpenUnder) (around : ℕ) (events rest : List Event) → left_text around stood (events ++ rest) ≡ left_text around stood events ++ left_text (around_behind stood around events) (stands_behind events stood) rest
left_split stood around [] rest = refl
left_split stood around (event ∷ events) rest =
    let line = line_left stood around event in
    let next = around_after stood around event in
    let stands = stands_after event stood in
    left_first stood around event (events ++ rest) ∙ ap (λ (l : List ℕ). line ++ l) (left_split stands next events rest)
    ∙ sym (append_assoc line (left_text next stands events) (left_text (around_behind stands next events) (stands_behind events stands) rest))
    ∙ ap (λ (l : List ℕ). l ++ left_text (around_behind stands next events) (stands_behind events stands) rest) (sym (left_first stood around event events))

-- those of one event more
left_push : (stood : OpenUnder) (around : ℕ) (events : List Event) (event : Event) → left_text around stood (events ++ event ∷ []) ≡ left_text around stood events ++ line_left (stands_behind events stood) (around_behind stood around events) event
left_push stood around events event =
    let stands = stands_behind events stood in
    let now = around_behind stood around events in
    left_split stood around events (event ∷ []) ∙ ap (λ (l : List ℕ). left_text around stood events ++ l) (left_first stands now event [] ∙ append-nil (line_left stands now event))

stands_push : (events : List Event) (event : Event) (stood : OpenUnder) → stands_behind (events ++ event ∷ []) stood ≡ stands_after event (stands_behind events stood)
stands_push [] event stood = refl
stands_push (first ∷ events) event stood = stands_push events event (stands_after first stood)

around_push : (stood : OpenUnder) (around : ℕ) (events : List Event) (event : Event) → around_behind stood around (events ++ event ∷ []) ≡ around_after (stands_behind events stood) (around_behind stood around events) event
around_push stood around [] event = refl
around_push stood around (first ∷ events) event = around_push (stands_after first stood) (around_after stood around first) events event

-- ---- what a gatherer that writes lines did, as its open blocks, its kept ones, its printer and its kept fault are read from it

abbrev pub WroteBy : {G : Type 0} → (G → OpenUnder) → (G → ℕ) → (G → Printing) → (G → Option Fault) → G → List Event → G → Type 0
WroteBy stands around printer stopped first events last = WroteLeft (stands first) (around first) (printer first) events (stands last) (around last) (printer last) × (stopped last ≡ stopped first)

abbrev pub FailsBy : {G : Type 0} → (G → OpenUnder) → (G → ℕ) → (G → Printing) → (G → Option Fault) → G → Option Event → G → Type 0
FailsBy stands around printer stopped old event new = FailsLeft (stands old) (around old) (printer old) event (stopped new) (printer new)

wrote_first : {G : Type 0} (g : G) (stands : G → OpenUnder) (around : G → ℕ) (printer : G → Printing) (stopped : G → Option Fault) → WroteBy stands around printer stopped g [] g
wrote_first g stands around printer stopped = (record { printed = printed_none (printer g); stands_is = refl; now_is = refl }, refl)

-- one event more, if its line was printed
pub wrote_line : {G : Type 0} (stands : G → OpenUnder) (around : G → ℕ) (printer : G → Printing) (stopped : G → Option Fault) (old new : G) (event : Event) (result : Result (Unit {0}) AllocError) → OnOk result (Printed (line_left (stands old) (around old) event) (printer old) (printer new)) → OnOk result (stopped new ≡ stopped old) → OnOk result (stands new ≡ stands_after event (stands old)) → OnOk result (around new ≡ around_after (stands old) (around old) event) → OnOk result (Gathers (WroteBy stands around printer stopped) old event new)
wrote_line stands around printer stopped old new event (Ok v) printed kept stood next = λ first done deepest was may.
    let w = was.0 in
    let line : Printed (line_left (stands_behind done (stands first)) (around_behind (stands first) (around first) done) event) (printer old) (printer new) = subst (λ (n : ℕ). Printed (line_left (stands_behind done (stands first)) n event) (printer old) (printer new)) w.now_is (subst (λ (s : OpenUnder). Printed (line_left s (around old) event) (printer old) (printer new)) w.stands_is printed) in (
      record {
        printed = subst (λ (l : List ℕ). Printed l (printer first) (printer new)) (sym (left_push (stands first) (around first) done event)) (printed_then (left_text (around first) (stands first) done) (line_left (stands_behind done (stands first)) (around_behind (stands first) (around first) done) event) (printer first) (printer old) (printer new) w.printed line);
        stands_is = stood ∙ ap (stands_after event) w.stands_is ∙ sym (stands_push done event (stands first));
        now_is = next ∙ ap (λ (s : OpenUnder). around_after s (around old) event) w.stands_is ∙ ap (λ (n : ℕ). around_after (stands_behind done (stands first)) n event) w.now_is ∙ sym (around_push (stands first) (around first) done event);
      },
      kept ∙ was.1,
    )
wrote_line stands around printer stopped old new event (Err e) printed kept stood next = tt

-- what became of a line, if its fault is kept
pub left_failed : (stood : OpenUnder) (around : ℕ) (event : Event) (p q : Printing) (done : Result (Unit {0}) Fault) (old : Option Fault) (result : Result (Unit {0}) AllocError) (new : Option Fault) → Prints (line_left stood around event) p done q → KeepsFault done old result new → OnErr result (FailsLeft stood around p (Some event) new q)
left_failed stood around event p q done old (Ok v) new prints keeps = tt
left_failed stood around event p q done old (Err e) new prints keeps = subst (λ (o : Option Fault). FailsLeft stood around p (Some event) o q) (sym keeps.2) (subst (λ (r : Result (Unit {0}) Fault). Prints (line_left stood around event) p r q) keeps.1 prints)

pub on_any : {P : Type 0} (result : Result (Unit {0}) AllocError) → P → OnOk result P
on_any (Ok v) p = p
on_any (Err e) p = tt

-- an event that is not kept has no line
pub not_left : (stood : OpenUnder) (around : ℕ) (event : Event) (p : Printing) → leaves_event stood event ≡ false → Printed (line_left stood around event) p p
not_left stood around event p isnt = rw isnt (printed_none p)

no_fault : (o : Option Fault) (fault : Fault) → o ≡ Some fault → o ≡ None → ⊥
no_fault o fault is isnt = (let both : Some fault ≡ None = sym is ∙ isnt in cc)

-- the lines of some of the events were printed, and no more
some_printed : (stood : OpenUnder) (around : ℕ) (p q : Printing) (all events rest : List Event) → all ≡ events ++ rest → Printed (left_text around stood events) p q → Prints (left_text around stood all) p (Err Memory) q
some_printed stood around p q all events rest is printed =
    let lines = left_text around stood events in
    let others = left_text (around_behind stood around events) (stands_behind events stood) rest in
    let whole : left_text around stood all ≡ lines ++ others = ap (left_text around stood) is ∙ left_split stood around events rest in
    subst (λ (l : List ℕ). Prints l p (Err Memory) q) (sym whole) (goes_wrong (lines ++ others) p lines others p q Memory (goes_starts (lines ++ others) p) (record { front = printed.part; rest = q.held; split = printed.split; bytes = printed.bytes }, printed.failures))

-- the lines of some of the events were printed, and not all of the next one
next_stops : (stood : OpenUnder) (around : ℕ) (p q s : Printing) (all events others : List Event) (event : Event) (fault : Fault) → all ≡ events ++ event ∷ others → Printed (left_text around stood events) p q → Prints (line_left (stands_behind events stood) (around_behind stood around events) event) q (Err fault) s → Prints (left_text around stood all) p (Err fault) s
next_stops stood around p q s all events others event fault is printed prints =
    let lines = left_text around stood events in
    let stands = stands_behind events stood in
    let now = around_behind stood around events in
    let line = line_left stands now event in
    let rest = left_text (around_after stands now event) (stands_after event stands) others in
    let whole : left_text around stood all ≡ lines ++ (line ++ rest) = ap (left_text around stood) is ∙ left_split stood around events (event ∷ others) ∙ ap (λ (l : List ℕ). lines ++ l) (left_first stands now event others) in
    let text = lines ++ (line ++ rest) in
    subst (λ (l : List ℕ). Prints l p (Err fault) s) (sym whole) (goes_wrong text p line rest q s fault (goes_on text p lines (line ++ rest) p q (goes_starts text p) printed) prints)

-- a fault of a line was kept
pub left_stopped : {G : Type 0} (g h : G) (stands : G → OpenUnder) (around : G → ℕ) (printer : G → Printing) (stopped : G → Option Fault) (old new : Coming) (done : Result (Unit {0}) Fault) (fault : Fault) → around g ≡ 0 → stopped g ≡ None → TellsComing old → old.depth ≡ 0 → GathersRest (WroteBy stands around printer stopped) (FailsBy stands around printer stopped) old g done new h → stopped h ≡ Some fault → Prints (left_text 0 (stands g) old.told.0) (printer g) (Err fault) (printer h)
left_stopped {G = G} g h stands around printer stopped old new done fault none wrote tells outside rest is = subst (λ (n : ℕ). Prints (left_text n (stands g) old.told.0) (printer g) (Err fault) (printer h)) none (go done rest)
  where
    not_all : (events : List Event) → WroteBy stands around printer stopped g events h → ⊥
    not_all events w = no_fault (stopped h) fault is (w.1 ∙ wrote)

    here : (k : GathersFirst (WroteBy stands around printer stopped) (FailsBy stands around printer stopped) (TellsComing old) old.told old.depth g h) → Prints (left_text (around g) (stands g) old.told.0) (printer g) (Err fault) (printer h)
    here k = by k.stops
      where
        w : WroteBy stands around printer stopped g k.events k.before
        w = k.gathers g [] (wrote_first g stands around printer stopped) (sym outside)

        by : Stops (FailsBy stands around printer stopped) k.before k.rest h → Prints (left_text (around g) (stands g) old.told.0) (printer g) (Err fault) (printer h)
        by (inl same) = absurd (no_fault (stopped h) fault is (ap stopped same ∙ w.1 ∙ wrote))
        by (inr (inl lost)) = absurd lost
        by (inr (inr (event, others, first, lost))) =
            let prints = subst (λ (o : Option Fault). FailsLeft (stands k.before) (around k.before) (printer k.before) (Some event) o (printer h)) is lost in
            let line = subst (λ (n : ℕ). Prints (line_left (stands_behind k.events (stands g)) n event) (printer k.before) (Err fault) (printer h)) w.0.now_is (subst (λ (s : OpenUnder). Prints (line_left s (around k.before) event) (printer k.before) (Err fault) (printer h)) w.0.stands_is prints) in
            next_stops (stands g) (around g) (printer g) (printer k.before) (printer h) old.told.0 k.events others event fault (k.told tells ∙ ap (λ (es : List Event). k.events ++ es) first) w.0.printed line

    go : (done : Result (Unit {0}) Fault) → GathersRest (WroteBy stands around printer stopped) (FailsBy stands around printer stopped) old g done new h → Prints (left_text (around g) (stands g) old.told.0) (printer g) (Err fault) (printer h)
    go (Ok v) k = absurd (not_all k.events (k.gathers g [] (wrote_first g stands around printer stopped) (sym outside)))
    go (Err (Refused reason bit)) k = absurd (not_all k.1.events (k.1.gathers g [] (wrote_first g stands around printer stopped) (sym outside)))
    go (Err Read) k = here k.1
    go (Err Memory) k = here k.1
    go (Err Failed) k = absurd (no_fault (stopped h) fault is (ap stopped k.2 ∙ wrote))
    go (Err Write) k = absurd k
    go (Err OutputTooLong) k = absurd k

-- all lines were printed
pub left_written : {G : Type 0} (g h : G) (stands : G → OpenUnder) (around : G → ℕ) (printer : G → Printing) (stopped : G → Option Fault) (old new : Coming) → around g ≡ 0 → TellsComing old → old.depth ≡ 0 → GathersRest (WroteBy stands around printer stopped) (FailsBy stands around printer stopped) old g (Ok tt) new h → Printed (left_text 0 (stands g) old.told.0) (printer g) (printer h)
left_written g h stands around printer stopped old new none tells outside all =
    let w = all.gathers g [] (wrote_first g stands around printer stopped) (sym outside) in
    subst (λ (n : ℕ). Printed (left_text n (stands g) old.told.0) (printer g) (printer h)) none (subst (λ (es : List Event). Printed (left_text (around g) (stands g) es) (printer g) (printer h)) (sym (ap (λ (t : Told). t.0) (all.told tells))) w.0.printed)

-- a fault, but not of a line
pub left_ended : {G : Type 0} (g h : G) (stands : G → OpenUnder) (around : G → ℕ) (printer : G → Printing) (stopped : G → Option Fault) (old new : Coming) (fault : Fault) → around g ≡ 0 → TellsComing old → old.depth ≡ 0 → GathersRest (WroteBy stands around printer stopped) (FailsBy stands around printer stopped) old g (Err fault) new h → stopped h ≡ None → Prints (left_text 0 (stands g) old.told.0) (printer g) (Err Memory) (printer h)
left_ended {G = G} g h stands around printer stopped old new fault none tells outside rest isnt = subst (λ (n : ℕ). Prints (left_text n (stands g) old.told.0) (printer g) (Err Memory) (printer h)) none (go fault rest)
  where
    part : (events rest : List Event) (k : G) → h ≡ k → old.told.0 ≡ events ++ rest → WroteBy stands around printer stopped g events k → Prints (left_text (around g) (stands g) old.told.0) (printer g) (Err Memory) (printer h)
    part events rest k same is w = some_printed (stands g) (around g) (printer g) (printer h) old.told.0 events rest is (subst (λ (x : G). Printed (left_text (around g) (stands g) events) (printer g) (printer x)) (sym same) w.0.printed)

    first : (k : GathersFirst (WroteBy stands around printer stopped) (FailsBy stands around printer stopped) (TellsComing old) old.told old.depth g h) → Prints (left_text (around g) (stands g) old.told.0) (printer g) (Err Memory) (printer h)
    first k = by k.stops
      where
        w : WroteBy stands around printer stopped g k.events k.before
        w = k.gathers g [] (wrote_first g stands around printer stopped) (sym outside)

        by : Stops (FailsBy stands around printer stopped) k.before k.rest h → Prints (left_text (around g) (stands g) old.told.0) (printer g) (Err Memory) (printer h)
        by (inl same) = part k.events k.rest k.before same (k.told tells) w
        by (inr (inl lost)) = absurd lost
        by (inr (inr (event, others, is, lost))) = absurd (subst (λ (o : Option Fault). FailsLeft (stands k.before) (around k.before) (printer k.before) (Some event) o (printer h)) isnt lost)

    go : (fault : Fault) → GathersRest (WroteBy stands around printer stopped) (FailsBy stands around printer stopped) old g (Err fault) new h → Prints (left_text (around g) (stands g) old.told.0) (printer g) (Err Memory) (printer h)
    go (Refused reason bit) k = part k.1.events [] h refl (ap (λ (t : Told). t.0) (k.1.told tells) ∙ sym (append-nil k.1.events)) (k.1.gathers g [] (wrote_first g stands around printer stopped) (sym outside))
    go Read k = first k.1
    go Memory k = first k.1
    go Failed k = part [] old.told.0 g k.2 refl (wrote_first g stands around printer stopped)
    go Write k = absurd k
    go OutputTooLong k = absurd k

-- ---- the whole

told_starts : (magic : ℕ) (lines : List ℕ) (w : Printing) → Goes (listing_head magic ++ lines) w (listing_head magic ++ (lines ++ [])) w
told_starts magic lines w = goes_as (listing_head magic ++ lines) w (listing_head magic ++ lines) _ w (ap (λ (l : List ℕ). listing_head magic ++ l) (sym (append-nil lines))) (goes_starts (listing_head magic ++ lines) w)

pub no_head : (magic : ℕ) (lines : List ℕ) (old new : Printing) (fault : Fault) → Prints (listing_head magic) old (Err fault) new → Prints (listing_head magic ++ lines) old (Err fault) new
no_head magic lines old new fault p = goes_wrong (listing_head magic ++ lines) old (listing_head magic) (lines ++ []) old new fault (told_starts magic lines old) p

after_head : (magic : ℕ) (lines : List ℕ) (old now : Printing) → Printed (listing_head magic) old now → Goes (listing_head magic ++ lines) old (lines ++ []) now
after_head magic lines old now p = goes_on (listing_head magic ++ lines) old (listing_head magic) (lines ++ []) old now (told_starts magic lines old) p

pub no_lines : (magic : ℕ) (lines : List ℕ) (old now new : Printing) (fault : Fault) → Printed (listing_head magic) old now → Prints lines now (Err fault) new → Prints (listing_head magic ++ lines) old (Err fault) new
no_lines magic lines old now new fault p q = goes_wrong (listing_head magic ++ lines) old lines [] now new fault (after_head magic lines old now p) q

pub told_ends : (magic : ℕ) (lines : List ℕ) (old now last new : Printing) (r : Result (Unit {0}) Fault) → Printed (listing_head magic) old now → Printed lines now last → Prints [] last r new → Prints (listing_head magic ++ lines) old r new
told_ends magic lines old now last new r p q e = goes_last (listing_head magic ++ lines) old [] last r new (goes_on (listing_head magic ++ lines) old lines [] now last (after_head magic lines old now p) q) e
