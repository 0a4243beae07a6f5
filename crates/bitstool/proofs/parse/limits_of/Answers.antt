use Rattle.std.proofs.Common.{◌≡◌, ℕ, Option, Some, None, arith}
use Rattle.bitstool.proofs.parse.limits_of.Goals as goal

pub returns-in_err-bytes-clause-found : goal.returns-in_err-bytes-clause-found
returns-in_err-bytes-clause-found c all =
    let n = all.0 in
    let bad : ◌≡◌ {A = Option ℕ} None (Some n.0) = c.in_err-bytes.ensures.found n.0 n.1 (omega (arith, n.2)) in
    absurd (cc)

pub returns-in_err-number-clause-found : goal.returns-in_err-number-clause-found
returns-in_err-number-clause-found c all =
    let n = all.1 in
    let bad : ◌≡◌ {A = Option ℕ} None (Some n.0) = c.in_err-number.ensures.found n.0 n.1 (omega (arith, n.2)) in
    absurd (cc)

pub returns-in_err-values-clause-found : goal.returns-in_err-values-clause-found
returns-in_err-values-clause-found c all =
    let n = all.2 in
    let bad : ◌≡◌ {A = Option ℕ} None (Some n.0) = c.in_err-values.ensures.found n.0 n.1 (omega (arith, n.2)) in
    absurd (cc)
