-- The end of a stream, and of its input.
use Rattle.std.proofs.Common.{◌≡◌, ℕ, ◌+◌, ◌*◌, ◌<◌, ◌≤◌, min, Bool, true, false, ltb, [], length, Result, Ok, Err, refl, sym, ap, ◌∙◌, subst, arith, inl, inr}
use Rattle.std.proofs.lemmas.Bool.{cases_lt, false≢true, le-ltb, lt-ltb, and_from, and_left, and_right}
use Rattle.std.proofs.lemmas.List.{nil_from_length}
use Rattle.bit_fields.specs.declared.fault.Fault.{Fault}
use Rattle.bit_fields.specs.declared.inflow.Missing.TheVariants as missing
use Rattle.bit_fields.specs.declared.inflow.Missing.{Missing}
use Rattle.bit_fields.specs.Inflow.{Flow, stop_of, flow_bits, total_of, budget_of, KeepsFlow, RunsOut, Fills, Drains}
use Rattle.bit_fields.specs.Reader.{Reader, Extent, is_cut, stopped_at}
use Rattle.bit_fields.specs.Inside.{fault_of_missing, reader_of, IsReader}
use Rattle.bit_fields.specs.Ending.{stream_end, reach_of, Stays, LooksForEnd, IsThrough}
use Rattle.bit_fields.proofs.InflowLaws.{Spends-none}
use Rattle.bit_fields.proofs.Shortening.{left_ends}
use Rattle.bit_fields.proofs.Parts.{fills_exact}

-- ---- where the unread bits end

pub reaches : (live : Bool) (p : ℕ) (f : Flow) (now : Reader) → reader_of live p f ≡ now → IsReader live p f → now.live ≡ true → p + length now.left ≡ reach_of now.extent
reaches live p f now view is is_live =
    let l : live ≡ true = ap (λ (r : Reader). r.live) view ∙ is_live in
    rw (← view, l) (left_ends f p (is.exact l))

uncut : (e : Extent) → is_cut e ≡ false → reach_of e ≡ stream_end e
uncut e un = elim (cases_lt e.limit e.total) [
  | inl lt ↦ elim (cases_lt e.limit e.end) [
    | inl less ↦ absurd (false≢true (sym un ∙ and_from (ltb e.limit e.total) (ltb e.limit e.end) (lt-ltb e.limit e.total lt) (lt-ltb e.limit e.end less)))
    | inr le ↦ omega arith
  ]
  | inr le ↦ omega arith
]

cut_is : (e : Extent) → is_cut e ≡ true → (e.limit < e.total) × (e.limit < e.end)
cut_is e cut = elim (cases_lt e.limit e.total) [
  | inl lt ↦ elim (cases_lt e.limit e.end) [
    | inl less ↦ (lt, less)
    | inr le ↦ absurd (false≢true (sym (and_right (ltb e.limit e.total) (ltb e.limit e.end) (le-ltb e.limit e.end le)) ∙ cut))
  ]
  | inr le ↦ absurd (false≢true (sym (and_left (ltb e.limit e.total) (ltb e.limit e.end) (le-ltb e.limit e.total le)) ∙ cut))
]

-- ---- whether the stream has no byte left

stays_so : (p : ℕ) (f g : Flow) → KeepsFlow f g → Stays (reader_of true p f) (reader_of true p g)
stays_so p f g kept = record {
  was_live = refl;
  live = refl;
  goes_on = kept.spends;
  position = refl;
  end = kept.end;
  limit = kept.limit;
  extent = λ k. rw (kept.total k, kept.end, kept.limit) refl;
  left = kept.left;
}

looks_through : (was : Bool) (p : ℕ) (f g : Flow) (now : Reader) → reader_of was p f ≡ now → IsReader was p f → was ≡ true → RunsOut f g 1 false → LooksForEnd now (Ok true) (reader_of was p g)
looks_through was p f g now view is live out =
    let reach : p + length (flow_bits f) ≡ 8 * min (stop_of f) (total_of f) = left_ends f p (is.exact live) in
    rw (← view, live) (
      stays_so p f g out.keeps,
      λ k. (omega (arith, reach, out.left k, uncut (record { total = total_of f; end = f.end; limit = f.limit }) (out.cut k)), nil_from_length (flow_bits f) (omega (arith, out.left k))),
    )

looks_limit : (was : Bool) (p : ℕ) (f g : Flow) (fault : Fault) (now new : Reader) → reader_of was p f ≡ now → IsReader was p f → was ≡ true → RunsOut f g 1 true → fault ≡ fault_of_missing missing.Limit p g.limit → new ≡ stopped_at (reader_of was p g) p → LooksForEnd now (Err fault) new
looks_limit was p f g fault now new view is live out fault_is new_is =
    let reach : p + length (flow_bits f) ≡ 8 * min (stop_of f) (total_of f) = left_ends f p (is.exact live) in
    rw (fault_is, new_is, ← view, live) (
      record { was_live = refl; failed = refl; goes_on = Spends-none f.incoming (budget_of f) g.incoming (budget_of g) out.keeps.spends },
      (refl, ap (λ (l : ℕ). 8 * l) out.keeps.limit),
      λ k.
          let c = cut_is (record { total = total_of f; end = f.end; limit = f.limit }) (out.cut k) in
          (omega (arith, reach, out.left k, c.0, c.1), omega (arith, c.0, c.1)),
    )

-- no bit is left, and not because of the limit: the stream is through
pub is_through : (was : Bool) (p : ℕ) (f g : Flow) (what : Missing) → IsReader was p f → was ≡ true → what ≡ missing.End → Fills 1 f g (Err what) → IsThrough (reader_of was p g)
is_through was p f g what is live end fills =
    let out : RunsOut f g 1 false = subst (λ (m : Missing). Fills 1 f g (Err m)) end fills in
    let place : p + length g.window ≡ 8 * min g.loaded (stop_of g) = fills_exact 1 p f g what fills (is.exact live) in
    let reach : p + length (flow_bits g) ≡ 8 * min (stop_of g) (total_of g) = left_ends g p place in
    λ l k. omega (arith, reach, out.left_now, uncut (record { total = total_of g; end = g.end; limit = g.limit }) out.cut_now)

pub looks_ended : (was : Bool) (p : ℕ) (f g : Flow) (what : Missing) (now : Reader) → reader_of was p f ≡ now → IsReader was p f → was ≡ true → what ≡ missing.End → Fills 1 f g (Err what) → LooksForEnd now (Ok true) (reader_of was p g)
looks_ended was p f g what now view is live end out = looks_through was p f g now view is live (subst (λ (m : Missing). Fills 1 f g (Err m)) end out)

pub looks_cut : (was : Bool) (p : ℕ) (f g : Flow) (what : Missing) (fault : Fault) (now new : Reader) → reader_of was p f ≡ now → IsReader was p f → was ≡ true → what ≡ missing.Limit → Fills 1 f g (Err what) → fault ≡ fault_of_missing missing.Limit p g.limit → new ≡ stopped_at (reader_of was p g) p → LooksForEnd now (Err fault) new
looks_cut was p f g what fault now new view is live limit out fault_is new_is = looks_limit was p f g fault now new view is live (subst (λ (m : Missing). Fills 1 f g (Err m)) limit out) fault_is new_is

-- ---- closing

drains_on : (h g : Flow) (result : Result (Unit {0}) Missing) → Drains h g result → (g.window ≡ h.window) × (h.loaded ≤ g.loaded)
drains_on h g (Ok x) d = (d.window, d.loaded)
drains_on h g (Err missing.End) d = absurd d
drains_on h g (Err missing.Limit) d = (d.window, d.loaded)
drains_on h g (Err missing.Read) d = (d.window, d.loaded)

pub closed_is_reader : (was : Bool) (p : ℕ) (f h g : Flow) (result : Result (Unit {0}) Missing) → IsReader was p f → h ≡ record f { window = [] } → Drains h g result → IsReader false p g
closed_is_reader was p f h g result is h_is d =
    let on = drains_on (record f { window = [] }) g result (subst (λ (x : Flow). Drains x g result) h_is d) in
    record { exact = λ e. absurd (false≢true e); empty = λ e. on.0 }
