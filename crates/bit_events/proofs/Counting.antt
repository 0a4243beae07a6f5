-- Gathering records of which only the number of values is wanted.
use Rattle.std.proofs.Common.{◌≡◌, ℕ, ◌+◌, ◌-◌, ◌≤◌, ◌<◌, List, length, length-append, Option, None, Result, Ok, Err, IfOk, OnErr, refl, sym, ap, subst, arith, take}
use Rattle.std.proofs.lemmas.List.{append-nil, length-take-le, take-append-drop}
use Rattle.bit_grammar.specs.Blocks.{Limits}
use Rattle.bit_grammar.specs.Machine.{Event}
use Rattle.bit_fields.specs.Buffered.{BufferedBits, beyond}
use Rattle.bit_events.specs.declared.frame.Frame.{Frame}
use Rattle.bit_events.specs.declared.passing.PassedRun.{PassedRun}
use Rattle.bit_events.specs.declared.running.GatheredRun.{GatheredRun}
use Rattle.bit_events.specs.Gathering.{left_open}
use Rattle.bit_events.specs.Passing.{PassesRun}
use Rattle.bit_events.specs.Runs.{GathersRun, GathersTo, Passed, StopsRun}
use Rattle.bit_events.proofs.Blocks.{passed_beyond}
use Rattle.bit_events.proofs.Runs.{gathers_then, passed_both, stop_later}
use Rattle.bit_events.proofs.Stepping.{length-frames}

-- records that were passed over were gathered, in a block with ids of this width
pub run_passed : {G : Type 0} (gathered : G → List Event → G → Type 0) (limits : Limits) (f : Frame) (used : ℕ) (a : BufferedBits) (g : G) (width room : ℕ) (run : PassedRun) (h : G) → f.head.width ≡ width → f.info ≡ None → limits.values - used ≡ room → PassesRun gathered width f.definitions.all room a g run h
    → GathersRun gathered limits f used a g (used + (room - run.room)) run.after h
run_passed gathered limits f used a g width room run h same plain left p =
    let q = p.1 in
    let to = q.1.passes limits f used same plain refl left in
    let so = to.2 in (
      to.0,
      to.1,
      record {
        passed = so.passed;
        gathers = λ m outer r split is sees.
            let before = so.gathers m outer r split is sees in
            let some = before.0 in (
              record {
                events = some.events;
                live = some.live;
                pays = some.pays;
                forward = some.forward;
                aligned = some.aligned;
                told = some.told;
                leads = some.leads;
                gathers = λ first done was levels.
                    let all = some.gathers done done (sym (append-nil done)) levels in
                    let open_yet : 0 < left_open done = omega (arith, levels, m.frames.ok.0, length-frames m.frames.items, ap length split) in
                    (subst (λ (es : List Event). gathered first es h) (sym all.0) (q.2 first done was open_yet), all.1);
              },
              before.1,
            );
      },
    )

-- the bits after the first ones
passed_first : (a : BufferedBits) (n : ℕ) → n ≤ length a.bits → Passed a (beyond a n)
passed_first a n fits = (take n a.bits, sym (take-append-drop n a.bits), omega (arith, length-take-le n a.bits fits))

-- bits that come later, after the first ones, are those beyond as many
pub later_bits : (a : BufferedBits) (n : ℕ) (c : BufferedBits) → n ≤ length a.bits → Passed (beyond a n) c → (a.position + n ≤ c.position) × (c.position - a.position ≤ length a.bits) × (c ≡ beyond a (c.position - a.position))
later_bits a n c fits p =
    let all = passed_both a (beyond a n) c (passed_first a n fits) p in
    (omega (arith, p.2), omega (arith, all.2, ap length all.1, length-append all.0 c.bits), sym (passed_beyond a c (c.position - a.position) all refl))

-- a run after others: what was gathered up to its last bit
pub run_then : {G : Type 0} (gathered : G → List Event → G → Type 0) (limits : Limits) (f : Frame) (used : ℕ) (a b : BufferedBits) (g : G) (now_used first : ℕ) (h : G) (more_used after : ℕ) (k : G) → a.position ≤ first → first - a.position ≤ length a.bits → GathersTo gathered limits f used b g now_used (beyond a (first - a.position)) h → GathersRun gathered limits f now_used (beyond a (first - a.position)) h more_used after k
    → (first ≤ after) × (after - a.position ≤ length a.bits) × GathersTo gathered limits f used b g more_used (beyond a (after - a.position)) k
run_then gathered limits f used a b g now_used first h more_used after k least there so run =
    let n : ℕ = first - a.position in
    let c = run.0 in
    let l = later_bits a n c there run.2.passed in
    let place : c.position - a.position ≡ after - a.position = omega (arith, run.1) in (
      omega (arith, l.0, run.1, least),
      omega (arith, l.1, place),
      rw (← place, ← l.2) (gathers_then gathered limits f used b g now_used (beyond a n) h more_used c k so run.2),
    )

pub runs_then : {G E : Type 0} (gathered : G → List Event → G → Type 0) (limits : Limits) (f : Frame) (used : ℕ) (a b : BufferedBits) (g : G) (now_used first : ℕ) (h : G) (more_used : ℕ) (k : G) (result : Result GatheredRun E) → a.position ≤ first → first - a.position ≤ length a.bits → GathersTo gathered limits f used b g now_used (beyond a (first - a.position)) h → IfOk result (λ run. GathersRun gathered limits f now_used (beyond a (first - a.position)) h more_used run.after k)
    → IfOk result (λ run. GathersRun gathered limits f used b g more_used run.after k)
runs_then gathered limits f used a b g now_used first h more_used k (Ok run) least there so ran =
    let both = run_then gathered limits f used a b g now_used first h more_used run.after k least there so ran in
    (beyond a (run.after - a.position), omega (arith, both.0, least), both.2)
runs_then gathered limits f used a b g now_used first h more_used k (Err fault) least there so ran = tt

pub stops_then : {G A E : Type 0} (gathered : G → List Event → G → Type 0) (fails : G → Option Event → G → Type 0) (limits : Limits) (f : Frame) (used : ℕ) (a : BufferedBits) (g : G) (now_used : ℕ) (b : BufferedBits) (h k : G) (result : Result A E) → GathersTo gathered limits f used a g now_used b h → OnErr result (StopsRun gathered fails limits f now_used b h k)
    → OnErr result (StopsRun gathered fails limits f used a g k)
stops_then gathered fails limits f used a g now_used b h k (Ok x) so stopped = tt
stops_then gathered fails limits f used a g now_used b h k (Err fault) so stopped = stop_later gathered fails limits f used a g now_used b h k so stopped
