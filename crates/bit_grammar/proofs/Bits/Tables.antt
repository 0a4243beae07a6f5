-- The table of characters, and the number of chunks that 64 bits take.
use Rattle.std.proofs.Common.{◌≡◌, ℕ, zero, suc, ◌+◌, ◌*◌, ◌<◌, ◌≤◌, Bool, true, ◌&&◌, eqb, get_or, refl, arith, inl, inr}
use Rattle.std.proofs.Math.Nat.{div-mul-le_self, mul-le-mul_right}
use Rattle.std.proofs.lemmas.Bool.{cases_lt, eqb-true, and_parts}
use Rattle.std.proofs.lemmas.Nat.{div-add-mod'}
use Rattle.bit_grammar.specs.Terms.{chunk_limit, character}
use Rattle.bit_grammar.specs.FormatFields.{characters}

-- whether each place below n has the character of the table
abbrev fits_table : ℕ → Bool
fits_table zero = true
fits_table (suc n) = eqb (character n) (get_or characters n 0) && fits_table n

fits_below : (n c : ℕ) → fits_table n ≡ true → c < n → character c ≡ get_or characters c 0
fits_below zero c fits below = absurd (omega (arith, below))
fits_below (suc n) c fits below =
    let both = and_parts _ _ fits in
    elim (cases_lt c n) [
      | inl less ↦ fits_below n c both.1 less
      | inr more ↦ let same : c ≡ n = omega (arith, below, more) in rw same (eqb-true _ _ both.0)
    ]

pub character_is : (c : ℕ) → c < 64 → character c ≡ get_or characters c 0
character_is c below = fits_below 64 c refl below

-- the permitted chunks have 64 payload bits
pub limit_enough : (payload : ℕ) → 1 ≤ payload → 64 ≤ chunk_limit payload * payload
limit_enough payload some = omega (arith, div-add-mod' (63 + payload) payload)

-- and no fewer chunks have
pub limit_least : (payload k : ℕ) → 64 ≤ k * payload → chunk_limit payload ≤ k
limit_least payload k enough =
    elim (cases_lt k (chunk_limit payload)) [
      | inl less ↦
          let more : suc k * payload ≤ chunk_limit payload * payload = mul-le-mul_right payload less in
          absurd (omega (arith, more, enough, div-mul-le_self (63 + payload) payload))
      | inr le ↦ le
    ]
