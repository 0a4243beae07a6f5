use Rattle.std.specs.Prelude.{slice_get}
use Rattle.std.proofs.Common.{◌≡◌, ℕ, List, [], ◌∷◌, ◌++◌, refl, subst, ◌∙◌, append_assoc}
use Rattle.std.proofs.lemmas.Result.{on_err_weaker}
use Rattle.bit_events.proofs.with_first.WithFirstValueTaker.take_bytes.Goals as goal

-- the first value stays the first, whatever comes after another one
first_stays : (values others : List ℕ) (value : ℕ) → slice_get (values ++ value ∷ []) 0 ≡ slice_get (values ++ value ∷ others) 0
first_stays [] others value = refl
first_stays (x ∷ values) others value = refl

pub returns-clause-err : goal.returns-clause-err
returns-clause-err g c = on_err_weaker c.take_bytes-2.result (λ h. λ values t.
    let value = c.from.result in
    let one = c.in_ok-take.ensures.ok values t in
    let more = h (values ++ value ∷ []) one.0 in
    (value ∷ more.0, (subst (g.V.ValueTaker.took c.take_bytes-2.new.self) (append_assoc values (value ∷ []) more.0) more.1, one.1 ∙ first_stays values more.0 value))) c.take_bytes-2.ensures.err
