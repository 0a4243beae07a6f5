-- Lines that are read one by one.
use Rattle.std.proofs.Common.{◌≡◌, refl, ℕ, suc, ◌+◌, ◌-◌, ◌^◌, ◌⊎◌, inl, inr, List, [], ◌∷◌, ◌++◌, length, Result, Ok, Err, sym, ◌∙◌, ap, arith}
use Rattle.std.specs.Prelude.{min}
use Rattle.bit_grammar.specs.Blocks.{Limits}
use Rattle.bit_grammar.specs.Forest.{Tree}
use Rattle.bit_text.specs.declared.reason.TextReason.{TextReason}
use Rattle.bit_text.specs.Listings.{Standing, after_line, at_end, goes_on, lines_read, next_line}
use Rattle.bit_text.specs.Refusals.{number_after}
use Rattle.bit_text.proofs.Takings.{line_read}

-- lines are read, from one standing to another
abbrev pub ReadsAll : Limits → Standing → (lines : List (List ℕ)) → Standing → Type 0
ReadsAll limits now [] later = later ≡ now
ReadsAll limits now (line ∷ lines) later = (next : Standing) × (after_line limits now line ≡ Ok next)
    × ReadsAll limits next lines later

-- the number of the last of these lines, after the line of number k
abbrev pub counted : (k : ℕ) → (lines : List (List ℕ)) → ℕ
counted k [] = k
counted k (line ∷ lines) = counted (next_line k) lines

counted_from : (j k : ℕ) (lines : List (List ℕ)) → k ≡ min j (2 ^ 64 - 1) → counted k lines ≡ min (j + length lines) (2 ^ 64 - 1)
counted_from j k [] h = omega (arith, h)
counted_from j k (line ∷ lines) h =
    let next : next_line k ≡ min (suc j) (2 ^ 64 - 1) = omega (arith, h) in
    counted_from (suc j) (next_line k) lines next ∙ (let same : min (suc j + length lines) (2 ^ 64 - 1) ≡ min (j + suc (length lines)) (2 ^ 64 - 1) = omega arith in same)

pub next_number : (lines : List (List ℕ)) → next_line (counted 0 lines) ≡ number_after (length lines)
next_number lines =
    let same : counted 0 lines ≡ min (0 + length lines) (2 ^ 64 - 1) = counted_from 0 0 lines (omega arith) in
    ap next_line same ∙ (let next : next_line (min (0 + length lines) (2 ^ 64 - 1)) ≡ number_after (length lines) = omega arith in next)

pub last_number : (lines : List (List ℕ)) → counted 0 lines ≡ min (length lines) (2 ^ 64 - 1)
last_number lines =
    let none : 0 + length lines ≡ length lines = omega arith in
    counted_from 0 0 lines (omega arith) ∙ ap (λ (n : ℕ). min n (2 ^ 64 - 1)) none

pub reads_on : (limits : Limits) (k : ℕ) (now later : Standing) (lines others : List (List ℕ)) → ReadsAll limits now lines later → lines_read limits k now (lines ++ others) ≡ lines_read limits (counted k lines) later others
reads_on limits k now later [] others same = ap (λ (s : Standing). lines_read limits k s others) (sym same)
reads_on limits k now later (line ∷ lines) others (next, read, more) = line_read limits k now next line (lines ++ others) read ∙ reads_on limits (next_line k) next later lines others more

pub reads_all : (limits : Limits) (k : ℕ) (now later : Standing) (lines : List (List ℕ)) → ReadsAll limits now lines later → lines_read limits k now lines ≡ at_end (counted k lines) later
reads_all limits k now later [] same = ap (at_end k) (sym same)
reads_all limits k now later (line ∷ lines) (next, read, more) = line_read limits k now next line lines read ∙ reads_all limits (next_line k) next later lines more

same_next : (r : Result Standing TextReason) (a b : Standing) → r ≡ Ok a → r ≡ Ok b → a ≡ b
same_next r a b h k = cc

pub reads_same : (limits : Limits) (now also a b : Standing) (lines : List (List ℕ)) → now ≡ also → ReadsAll limits now lines a → ReadsAll limits also lines b → a ≡ b
reads_same limits now also a b [] same h k = h ∙ same ∙ sym k
reads_same limits now also a b (line ∷ lines) same (next, read, more) (next', read', more') =
    reads_same limits next next' a b lines (same_next (after_line limits now line) next next' read (ap (λ (s : Standing). after_line limits s line) same ∙ read')) more more'

-- ---- where lines are refused

-- a line among others is refused, after those before it were read
pub record Stops (limits : Limits) (k : ℕ) (now : Standing) (lines : List (List ℕ)) (reason : TextReason) (number : ℕ) : Type 0 where
  pub before : List (List ℕ)
  pub line : List ℕ
  pub after : List (List ℕ)
  pub there : Standing
  pub parts : lines ≡ before ++ line ∷ after
  pub read : ReadsAll limits now before there
  pub refused : after_line limits there line ≡ Err reason
  pub numbered : number ≡ next_line (counted k before)

-- all lines are read, and then there is no tree
pub record Ends (limits : Limits) (k : ℕ) (now : Standing) (lines : List (List ℕ)) (refusal : TextReason × ℕ) : Type 0 where
  pub last : Standing
  pub read : ReadsAll limits now lines last
  pub refused : at_end (counted k lines) last ≡ Err refusal

abbrev pub StopsOrEnds : Limits → ℕ → Standing → (lines : List (List ℕ)) → TextReason → ℕ → Type 0
StopsOrEnds limits k now lines reason number = Stops limits k now lines reason number ⊎ Ends limits k now lines (reason, number)

abbrev refusal_or : TextReason × ℕ → Result Tree (TextReason × ℕ) → TextReason × ℕ
refusal_or other (Ok tree) = other
refusal_or other (Err refusal) = refusal

pub refused_same : (a b : TextReason) (m n : ℕ) → (let r : Result Tree (TextReason × ℕ) = Err (a, m) in r ≡ Err (b, n)) → (a ≡ b) × (m ≡ n)
refused_same a b m n h = (ap (λ r. (refusal_or (a, m) r).0) h, ap (λ r. (refusal_or (a, m) r).1) h)

line_stops : (limits : Limits) (k : ℕ) (now : Standing) (line : List ℕ) (lines : List (List ℕ)) (r : Result Standing TextReason) (reason : TextReason) (number : ℕ) → after_line limits now line ≡ r
    → ((next : Standing) → lines_read limits (next_line k) next lines ≡ Err (reason, number) → StopsOrEnds limits (next_line k) next lines reason number)
    → goes_on (next_line k) r (λ later. lines_read limits (next_line k) later lines) ≡ Err (reason, number) → StopsOrEnds limits k now (line ∷ lines) reason number
line_stops limits k now line lines (Ok next) reason number is more h = elim (more next h) [
  | inl s ↦ inl (record { before = line ∷ s.before; line = s.line; after = s.after; there = s.there; parts = ap (λ (ls : List (List ℕ)). line ∷ ls) s.parts; read = (next, is, s.read); refused = s.refused; numbered = s.numbered })
  | inr e ↦ inr (record { last = e.last; read = (next, is, e.read); refused = e.refused })
]
line_stops limits k now line lines (Err why) reason number is more h =
    let same = refused_same why reason (next_line k) number h in
    inl (record { before = []; line = line; after = lines; there = now; parts = refl; read = refl; refused = is ∙ ap Err same.0; numbered = sym same.1 })

pub stops : (limits : Limits) (k : ℕ) (now : Standing) (lines : List (List ℕ)) (reason : TextReason) (number : ℕ) → lines_read limits k now lines ≡ Err (reason, number) → StopsOrEnds limits k now lines reason number
stops limits k now [] reason number h = inr (record { last = now; read = refl; refused = h })
stops limits k now (line ∷ lines) reason number h =
    line_stops limits k now line lines (after_line limits now line) reason number refl (λ next e. stops limits (next_line k) next lines reason number e) h
