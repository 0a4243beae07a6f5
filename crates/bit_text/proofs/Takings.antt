-- A text that comes in pieces.
use Rattle.std.proofs.Common.{◌≡◌, refl, ℕ, zero, suc, ◌+◌, ◌-◌, ◌<◌, ◌≤◌, false, nat_eq, List, [], ◌∷◌, ◌++◌, length, take, drop, get_or, Result, Ok, Err, if◌then◌else◌, sym, ◌∙◌, ap, subst, arith, append_assoc, append-nil}
use Rattle.std.proofs.lemmas.List.{at_drop_more, at_drop_all, take_rest}
use Rattle.std.proofs.lemmas.Bool.Decides.{nat_tests}
use Rattle.bit_grammar.specs.Blocks.{Limits}
use Rattle.bit_text.specs.declared.reason.TextReason.{TextReason}
use Rattle.bit_text.specs.declared.fault.AssembleFault.{AssembleFault}
use Rattle.bit_text.specs.declared.fault.AssembleFault.TheVariants.{Refused, Fault as FaultOf}
use Rattle.bit_text.specs.declared.assembler.Assembler.{Assembler}
use Rattle.bit_text.specs.Numbers.{parts_after}
use Rattle.bit_text.specs.Listings.{Standing, after_line, goes_on, lines_read, next_line}
use Rattle.bit_text.specs.Places.{IsLineEnd}
use Rattle.bit_text.specs.Stops.{IsAt}
use Rattle.bit_text.specs.Assembling.{outlook, EndsLine, TakesBytes}
use Rattle.bit_text.proofs.Spelling.{same_byte, other_byte, part_more}

-- ---- one line

pub line_read : (limits : Limits) (number : ℕ) (now later : Standing) (line : List ℕ) (others : List (List ℕ)) → after_line limits now line ≡ Ok later → lines_read limits number now (line ∷ others) ≡ lines_read limits (next_line number) later others
line_read limits number now later line others h = ap (λ (r : Result Standing TextReason). goes_on (next_line number) r (λ l. lines_read limits (next_line number) l others)) h

pub line_refused : (limits : Limits) (number : ℕ) (now : Standing) (reason : TextReason) (line : List ℕ) (others : List (List ℕ)) → after_line limits now line ≡ Err reason → lines_read limits number now (line ∷ others) ≡ Err (reason, next_line number)
line_refused limits number now reason line others h = ap (λ (r : Result Standing TextReason). goes_on (next_line number) r (λ l. lines_read limits (next_line number) l others)) h

-- ---- bytes

-- an assembler has read this many bytes of a piece, of which the next line begins here
abbrev pub Far : Standing → (bytes : List ℕ) → (from i : ℕ) → (first a : Assembler) → Type 0
Far now bytes from i first a = (later : Standing) × IsAt a.limits later a.writer × (a.limits ≡ first.limits)
    × ((rest : List ℕ) → outlook now first (bytes ++ rest) ≡ lines_read a.limits a.number later (parts_after 10 (a.line.items ++ take (i - from) (drop from bytes)) (drop i bytes ++ rest)))

pub far_none : (now : Standing) (bytes : List ℕ) (a : Assembler) → IsAt a.limits now a.writer → Far now bytes 0 0 a a
far_none now bytes a here = (now, here, refl, λ rest. ap (λ (l : List ℕ). lines_read a.limits a.number now (parts_after 10 l (bytes ++ rest))) (sym (append-nil a.line.items)))

-- at the end of a line its parts begin with it
cut_line : (line bytes rest : List ℕ) (i : ℕ) → i < length bytes → get_or bytes i 0 ≡ 10 → parts_after 10 line (drop i bytes ++ rest) ≡ line ∷ parts_after 10 [] (drop (i + 1) bytes ++ rest)
cut_line line bytes rest i k same =
    at_drop_more (λ (d : List ℕ). parts_after 10 line (d ++ rest)) bytes i 0 k
    ∙ ap (λ t. if t then line ∷ parts_after 10 [] (drop (i + 1) bytes ++ rest) else parts_after 10 (line ++ get_or bytes i 0 ∷ []) (drop (i + 1) bytes ++ rest)) (same_byte (get_or bytes i 0) 10 same)

more_line : (line bytes rest : List ℕ) (from i : ℕ) → from ≤ i → i < length bytes → (get_or bytes i 0 ≡ 10 → ⊥)
    → parts_after 10 (line ++ take (i - from) (drop from bytes)) (drop i bytes ++ rest) ≡ parts_after 10 (line ++ take (i + 1 - from) (drop from bytes)) (drop (i + 1) bytes ++ rest)
more_line line bytes rest from i h k other =
    let front = line ++ take (i - from) (drop from bytes) in
    let behind = drop (i + 1) bytes ++ rest in
    at_drop_more (λ (d : List ℕ). parts_after 10 front (d ++ rest)) bytes i 0 k
    ∙ ap (λ t. if t then front ∷ parts_after 10 [] behind else parts_after 10 (front ++ get_or bytes i 0 ∷ []) behind) (other_byte (get_or bytes i 0) 10 other)
    ∙ ap (λ (l : List ℕ). parts_after 10 l behind) (append_assoc line (take (i - from) (drop from bytes)) (get_or bytes i 0 ∷ []) ∙ ap (λ (l : List ℕ). line ++ l) (sym (part_more bytes from i h k)))

-- the outlook of an assembler that ended a line
outlook_ended : (a b : Assembler) (later : Standing) (bytes rest : List ℕ) (i : ℕ) → b.limits ≡ a.limits → b.number ≡ next_line a.number → b.line.items ≡ []
    → lines_read a.limits (next_line a.number) later (parts_after 10 [] rest) ≡ lines_read b.limits b.number later (parts_after 10 (b.line.items ++ take (i - i) (drop i bytes)) rest)
outlook_ended a b later bytes rest i limits number line =
    let none : i - i ≡ 0 = omega arith in
    rw (limits, number, line, none) refl

pub far_line : (now : Standing) (bytes : List ℕ) (from i : ℕ) (first a b : Assembler) → i < length bytes → get_or bytes i 0 ≡ 10
    → ((n : Standing) → IsAt a.limits n a.writer → EndsLine a (after_line a.limits n (a.line.items ++ take (i - from) (drop from bytes))) (Ok tt) b) → Far now bytes from i first a → Far now bytes (i + 1) (i + 1) first b
far_line now bytes from i first a b k same ends far =
    let e = ends far.0 far.1 in
    let line = a.line.items ++ take (i - from) (drop from bytes) in (
      e.0,
      e.2,
      e.3 ∙ far.2,
      λ rest.
          far.3 rest
          ∙ ap (lines_read a.limits a.number far.0) (cut_line line bytes rest i k same)
          ∙ line_read a.limits a.number far.0 e.0 line (parts_after 10 [] (drop (i + 1) bytes ++ rest)) e.1
          ∙ outlook_ended a b e.0 bytes (drop (i + 1) bytes ++ rest) (i + 1) e.3 e.4 e.5,
    )

pub far_byte : (now : Standing) (bytes : List ℕ) (from i : ℕ) (first a : Assembler) → from ≤ i → i < length bytes → (get_or bytes i 0 ≡ 10 → ⊥) → Far now bytes from i first a → Far now bytes from (i + 1) first a
far_byte now bytes from i first a h k other far = (far.0, far.1, far.2, λ rest. far.3 rest ∙ ap (lines_read a.limits a.number far.0) (more_line a.line.items bytes rest from i h k other))

no_byte : (b c : ℕ) → nat_eq b c ≡ false → b ≡ c → ⊥
no_byte b c h e = absurd (grind (arith, nat_tests))

far_more : (now : Standing) (bytes : List ℕ) (from i n : ℕ) (first a : Assembler) → from ≤ i → i + n ≤ length bytes → ((k : ℕ) → i ≤ k → k < i + n → nat_eq (get_or bytes k 0) 10 ≡ false) → Far now bytes from i first a → Far now bytes from (i + n) first a
far_more now bytes from i zero first a h room none far = let e : i ≡ i + 0 = omega arith in subst (λ (j : ℕ). Far now bytes from j first a) e far
far_more now bytes from i (suc n) first a h room none far =
    let e : i + 1 + n ≡ i + suc n = omega arith in
    let one = far_byte now bytes from i first a h (omega (arith, room)) (no_byte (get_or bytes i 0) 10 (none i (omega arith) (omega arith))) far in
    subst (λ (j : ℕ). Far now bytes from j first a) e (far_more now bytes from (i + 1) n first a (omega (arith, h)) (omega (arith, room)) (λ k low high. none k (omega (arith, low)) (omega (arith, high))) one)

pub feed_there : (bytes : List ℕ) (from to : ℕ) → to < length bytes → IsLineEnd bytes from (length bytes) to → get_or bytes to 0 ≡ 10
feed_there bytes from to h is = let there = is.feed h in grind (arith, nat_tests)

-- up to the end of a line
pub far_bytes : (now : Standing) (bytes : List ℕ) (from to : ℕ) (first a : Assembler) → IsLineEnd bytes from (length bytes) to → Far now bytes from from first a → Far now bytes from to first a
far_bytes now bytes from to first a is far =
    let e : from + (to - from) ≡ to = omega (arith, is.low) in
    subst (λ (i : ℕ). Far now bytes from i first a) e (far_more now bytes from from (to - from) first a (omega arith) (omega (arith, e, is.high)) (λ k low high. is.before k low (omega (arith, e, high))) far)

pub far_stopped : (now : Standing) (bytes : List ℕ) (from i : ℕ) (first a b : Assembler) (fault : AssembleFault) → i < length bytes → get_or bytes i 0 ≡ 10
    → ((n : Standing) → IsAt a.limits n a.writer → EndsLine a (after_line a.limits n (a.line.items ++ take (i - from) (drop from bytes))) (Err fault) b) → Far now bytes from i first a → TakesBytes now bytes first (Err fault) b
far_stopped now bytes from i first a b (Refused reason line) k same ends far =
    let e = ends far.0 far.1 in
    let text = a.line.items ++ take (i - from) (drop from bytes) in
    λ rest.
    far.3 rest
    ∙ ap (lines_read a.limits a.number far.0) (cut_line text bytes rest i k same)
    ∙ line_refused a.limits a.number far.0 reason text (parts_after 10 [] (drop (i + 1) bytes ++ rest)) e.0
    ∙ ap (λ (n : ℕ). Err (reason, n)) (sym e.1)
far_stopped now bytes from i first a b (FaultOf fault) k same ends far = ends far.0 far.1

pub far_all : (now : Standing) (bytes : List ℕ) (from i : ℕ) (first a b : Assembler) → length bytes ≤ i → i ≤ length bytes → b.limits ≡ a.limits → b.number ≡ a.number → b.writer ≡ a.writer → b.line.items ≡ a.line.items ++ take (length bytes - from) (drop from bytes)
    → Far now bytes from i first a → TakesBytes now bytes first (Ok tt) b
far_all now bytes from i first a b h k limits number writer line far =
    let end : i ≡ length bytes = omega (arith, h, k) in
    let same : b.line.items ≡ a.line.items ++ take (i - from) (drop from bytes) = line ∙ ap (λ (n : ℕ). a.line.items ++ take (n - from) (drop from bytes)) (sym end) in (
      far.0,
      rw (limits, writer) far.1,
      limits ∙ far.2,
      λ rest.
          far.3 rest
          ∙ at_drop_all (λ (d : List ℕ). lines_read a.limits a.number far.0 (parts_after 10 (a.line.items ++ take (i - from) (drop from bytes)) (d ++ rest))) bytes i h
          ∙ (let read : lines_read a.limits a.number far.0 (parts_after 10 (a.line.items ++ take (i - from) (drop from bytes)) rest) ≡ outlook far.0 b rest = rw (limits, number, same) refl in read),
    )

-- the end of a line of what is left of the bytes
pub ends_within : (bytes : List ℕ) (from i : ℕ) (a b : Assembler) (r : Result (Unit {0}) AssembleFault)
    → ((n : Standing) → IsAt a.limits n a.writer → EndsLine a (after_line a.limits n (a.line.items ++ take (i - from) (take (length bytes - from) (drop from bytes)))) r b)
    → (n : Standing) → IsAt a.limits n a.writer → EndsLine a (after_line a.limits n (a.line.items ++ take (i - from) (drop from bytes))) r b
ends_within bytes from i a b r ends = λ n here. subst (λ (l : List ℕ). EndsLine a (after_line a.limits n (a.line.items ++ take (i - from) l)) r b) (take_rest bytes from) (ends n here)

-- ---- pieces

-- two pieces, one after the other
pub takes_both : (now : Standing) (text more : List ℕ) (first a b : Assembler) (r : Result (Unit {0}) AssembleFault) → TakesBytes now text first (Ok tt) a → ((n : Standing) → IsAt a.limits n a.writer → TakesBytes n more a r b) → TakesBytes now (text ++ more) first r b
takes_both now text more first a b (Ok x) front behind =
    let e = behind front.0 front.1 in
    (e.0, e.1, e.2 ∙ front.2, λ rest. ap (outlook now first) (append_assoc text more rest) ∙ front.3 (more ++ rest) ∙ e.3 rest)
takes_both now text more first a b (Err (Refused reason line)) front behind =
    let e = behind front.0 front.1 in
    λ rest. ap (outlook now first) (append_assoc text more rest) ∙ front.3 (more ++ rest) ∙ e rest
takes_both now text more first a b (Err (FaultOf fault)) front behind = behind front.0 front.1

pub takes_none : (now : Standing) (a : Assembler) → IsAt a.limits now a.writer → TakesBytes now [] a (Ok tt) a
takes_none now a here = (now, here, refl, λ rest. refl)
