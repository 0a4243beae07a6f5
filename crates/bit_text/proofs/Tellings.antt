-- What a writer is told of a listing.
use Rattle.std.proofs.Common.{◌≡◌, refl, ℕ, zero, suc, ◌+◌, ◌-◌, ◌/◌, ◌%◌, ◌<◌, ◌≤◌, Bool, true, false, nat_lt, List, [], ◌∷◌, ◌++◌, length, take, drop, replicate, Option, Some, None, Result, Ok, Err, if◌then◌else◌, sym, ◌∙◌, ap, subst, inl, inr, arith, append_assoc, append-nil}
use Rattle.std.proofs.lemmas.List.{replicate_more, take_rest}
use Rattle.std.proofs.lemmas.Bool.{cases_lt}
use Rattle.std.proofs.lemmas.Bool.Decides.{nat_tests}
use Rattle.bit_grammar.specs.Blocks.{Limits}
use Rattle.bit_grammar.specs.Forest.{wrapper_magic}
use Rattle.bit_fields.specs.Opening.{magic_number}
use Rattle.bit_norm.specs.Telling.{Call, ends, Where, at_top, fits, where_after, after_call, place_of, ToldMore, Begins as BeginsForm}
use Rattle.bit_norm.specs.declared.form_writer.FormWriter.{FormWriter}
use Rattle.bit_text.specs.declared.reason.TextReason.{TextReason}
use Rattle.bit_text.specs.declared.reason.TextReason.TheVariants.{BadIndentation}
use Rattle.bit_text.specs.Listings.{Standing, at_start, behind_magic, begun, misfit, item_calls, if_last_fits, ends_before, said, after_line}
use Rattle.bit_text.specs.Numbers.{and_then}
use Rattle.bit_text.specs.Lines.{spaces, content, is_free, magic_of, item_of}
use Rattle.bit_text.specs.declared.numbers.Stop.{Stop}
use Rattle.bit_text.specs.declared.numbers.Stop.TheVariants.{Refused, Memory}
use Rattle.bit_text.specs.Stops.{IsTold, TellsItem, IsAt, ReadsItem, ReadsLine}
use Rattle.bit_text.proofs.Spelling.{other_byte, same_byte}
use Rattle.bit_text.proofs.Decimals.{is_below}

pub not_below : (a b : ℕ) → b ≤ a → nat_lt a b ≡ false
not_below a b h = grind (arith, nat_tests)

pub where_append : (calls more : List Call) (w : Where) → where_after (calls ++ more) w ≡ where_after more (where_after calls w)
where_append [] more w = refl
where_append (call ∷ calls) more w = where_append calls more (after_call call w)

pub told_call : (limits : Limits) (magic : List ℕ) (calls : List Call) (call : Call) (old new : FormWriter) → IsTold limits magic calls old → ToldMore call old new → IsTold limits magic (calls ++ call ∷ []) new
told_call limits magic calls call old new was more = record {
  told = more.told calls was.told;
  of_magic = more.magic ∙ was.of_magic;
  under = more.limits ∙ was.under;
}

-- one block more is ended
pub told_end : (limits : Limits) (magic : List ℕ) (calls : List Call) (k : ℕ) (old new : FormWriter) → IsTold limits magic (calls ++ replicate k ends) old → ToldMore ends old new → IsTold limits magic (calls ++ replicate (k + 1) ends) new
told_end limits magic calls k old new was more =
    let same : calls ++ replicate k ends ++ ends ∷ [] ≡ calls ++ replicate (k + 1) ends = append_assoc calls (replicate k ends) (ends ∷ []) ∙ ap (λ (cs : List Call). calls ++ cs) (replicate_more k ends) in
    subst (λ (cs : List Call). IsTold limits magic cs new) same (told_call limits magic (calls ++ replicate k ends) ends old new was more)

-- how many blocks are open
pub depth_told : (limits : Limits) (magic : List ℕ) (calls : List Call) (w : FormWriter) → IsTold limits magic calls w → (where_after calls at_top).depth ≡ (place_of w).depth
depth_told limits magic calls w was = ap (λ (p : Where). p.depth) (sym was.told.place)

-- ---- an item

pub too_far_in : (limits : Limits) (w : Where) (spaces : ℕ) (call : Call) → w.depth < spaces / 2 → item_calls limits w spaces call ≡ Err BadIndentation
too_far_in limits w spaces call h = rw (is_below w.depth (spaces / 2) h) refl

pub odd_spaces : (limits : Limits) (w : Where) (spaces : ℕ) (call : Call) → spaces / 2 ≤ w.depth → (spaces % 2 ≡ 0 → ⊥) → item_calls limits w spaces call ≡ Err BadIndentation
odd_spaces limits w spaces call h odd = rw (not_below w.depth (spaces / 2) h, other_byte (spaces % 2) 0 odd) refl

pub at_level : (limits : Limits) (w : Where) (spaces : ℕ) (call : Call) → spaces / 2 ≤ w.depth → spaces % 2 ≡ 0 → item_calls limits w spaces call ≡ if_last_fits limits w (ends_before w spaces) call
at_level limits w spaces call h even = rw (not_below w.depth (spaces / 2) h, same_byte (spaces % 2) 0 even) refl

-- where a writer is after the ends before an item
closed_at : (limits : Limits) (magic : List ℕ) (calls : List Call) (spaces : ℕ) (mid : FormWriter) → IsTold limits magic (calls ++ ends_before (where_after calls at_top) spaces) mid
    → place_of mid ≡ where_after (ends_before (where_after calls at_top) spaces) (where_after calls at_top)
closed_at limits magic calls spaces mid was = was.told.place ∙ where_append calls (ends_before (where_after calls at_top) spaces) at_top

pub item_told : (limits : Limits) (magic : List ℕ) (calls : List Call) (spaces : ℕ) (call : Call) (mid new : FormWriter) → spaces / 2 ≤ (where_after calls at_top).depth → spaces % 2 ≡ 0
    → IsTold limits magic (calls ++ ends_before (where_after calls at_top) spaces) mid → ToldMore call mid new → TellsItem limits magic calls (item_calls limits (where_after calls at_top) spaces call) (Ok tt) new
item_told limits magic calls spaces call mid new h even was more =
    let w = where_after calls at_top in
    let closing = ends_before w spaces in
    let there : fits limits (where_after closing w) call ≡ true =
    ap (λ (p : Where). fits limits p call) (sym (closed_at limits magic calls spaces mid was)) ∙ ap (λ (l : Limits). fits l (place_of mid) call) (sym was.under) ∙ more.fits in (
      closing ++ call ∷ [],
      at_level limits w spaces call h even ∙ ap (λ (b : Bool). if b then Ok (closing ++ call ∷ []) else Err (misfit limits (where_after closing w) call)) there,
      subst (λ (cs : List Call). IsTold limits magic cs new) (append_assoc calls closing (call ∷ [])) (told_call limits magic (calls ++ closing) call mid new was more),
    )

pub item_misfit : (limits : Limits) (magic : List ℕ) (calls : List Call) (spaces : ℕ) (call : Call) (mid new : FormWriter) → spaces / 2 ≤ (where_after calls at_top).depth → spaces % 2 ≡ 0
    → IsTold limits magic (calls ++ ends_before (where_after calls at_top) spaces) mid → fits mid.limits (place_of mid) call ≡ false → new ≡ mid → item_calls limits (where_after calls at_top) spaces call ≡ Err (misfit limits (place_of new) call)
item_misfit limits magic calls spaces call mid new h even was no_place same =
    let w = where_after calls at_top in
    let closing = ends_before w spaces in
    let at = closed_at limits magic calls spaces mid was in
    let not_there : fits limits (where_after closing w) call ≡ false =
    ap (λ (p : Where). fits limits p call) (sym at) ∙ ap (λ (l : Limits). fits l (place_of mid) call) (sym was.under) ∙ no_place in
    at_level limits w spaces call h even
    ∙ ap (λ (b : Bool). if b then Ok (closing ++ call ∷ []) else Err (misfit limits (where_after closing w) call)) not_there
    ∙ ap (λ (p : Where). Err (misfit limits p call)) (sym at)
    ∙ ap (λ (v : FormWriter). Err (misfit limits (place_of v) call)) (sym same)

-- ---- the beginning

pub begun_at : (limits : Limits) (magic : List ℕ) (w : FormWriter) → BeginsForm magic limits w → begun (Some magic) ≡ Ok (behind_magic magic [])
begun_at limits magic w h =
    let other : magic_number magic ≡ wrapper_magic → ⊥ = λ e. h.nothing.bare (ap magic_number h.of_magic ∙ e) in
    rw (other_byte (magic_number magic) wrapper_magic other) refl

pub told_none : (limits : Limits) (magic : List ℕ) (w : FormWriter) → BeginsForm magic limits w → IsTold limits magic [] w
told_none limits magic w h = record { told = h.nothing; of_magic = h.of_magic; under = h.under }

-- ---- blocks that are ended

pub none_ended : (limits : Limits) (magic : List ℕ) (calls : List Call) (level : ℕ) (w : FormWriter) → IsTold limits magic calls w → IsTold limits magic (calls ++ replicate (level - level) ends) w
none_ended limits magic calls level w was =
    let none : level - level ≡ 0 = omega arith in
    rw none (subst (λ (cs : List Call). IsTold limits magic cs w) (sym (append-nil calls)) was)

pub one_ended : (limits : Limits) (magic : List ℕ) (calls : List Call) (level counter : ℕ) (old new : FormWriter) → level ≤ counter → IsTold limits magic (calls ++ replicate (counter - level) ends) old → ToldMore ends old new → IsTold limits magic (calls ++ replicate (counter + 1 - level) ends) new
one_ended limits magic calls level counter old new h was more =
    let next : counter + 1 - level ≡ counter - level + 1 = omega arith in
    rw next (told_end limits magic calls (counter - level) old new was more)

pub all_ended : (limits : Limits) (magic : List ℕ) (calls : List Call) (level counter depth : ℕ) (old new : FormWriter) → depth ≡ (place_of old).depth → level ≤ counter → (level ≤ depth → counter ≤ depth) → depth ≤ counter
    → (depth ≤ level → counter ≡ level) → IsTold limits magic (calls ++ replicate (counter - level) ends) new → IsTold limits magic calls old → IsTold limits magic (calls ++ replicate ((where_after calls at_top).depth - level) ends) new
all_ended limits magic calls level counter depth old new here above within far start told was =
    let deep = depth_told limits magic calls old was in
    let same : counter - level ≡ (where_after calls at_top).depth - level =
    elim (cases_lt level depth) [ inl k ↦ (let w = within (omega (arith, k)) in omega (arith, deep, here, above, far, w)) | inr k ↦ (let e = start k in omega (arith, deep, here, e, k)) ] in
    subst (λ (n : ℕ). IsTold limits magic (calls ++ replicate n ends) new) same told

pub depth_ended : (k : ℕ) (w : Where) → (where_after (replicate k ends) w).depth ≡ w.depth - k
depth_ended zero w = omega arith
depth_ended (suc k) w = depth_ended k (after_call ends w) ∙ (let less : w.depth - 1 - k ≡ w.depth - suc k = omega arith in less)

-- all open blocks are ended
pub told_closed : (limits : Limits) (magic : List ℕ) (calls : List Call) (w : FormWriter) → IsTold limits magic (calls ++ replicate ((where_after calls at_top).depth - 0) ends) w → IsTold limits magic (calls ++ replicate (where_after calls at_top).depth ends) w
told_closed limits magic calls w was =
    let same : (where_after calls at_top).depth - 0 ≡ (where_after calls at_top).depth = omega arith in
    subst (λ (n : ℕ). IsTold limits magic (calls ++ replicate n ends) w) same was

pub none_open : (limits : Limits) (magic : List ℕ) (calls : List Call) (w : FormWriter) → IsTold limits magic (calls ++ replicate (where_after calls at_top).depth ends) w → (place_of w).depth ≡ 0
none_open limits magic calls w was =
    let d = (where_after calls at_top).depth in
    sym (depth_told limits magic (calls ++ replicate d ends) w was)
    ∙ ap (λ (p : Where). p.depth) (where_append calls (replicate d ends) at_top)
    ∙ depth_ended d (where_after calls at_top)
    ∙ (let none : d - d ≡ 0 = omega arith in none)

-- ---- a line

pub content_is : (line : List ℕ) (count : ℕ) → count ≡ spaces line → take (length line - count) (drop count line) ≡ content line
content_is line count at = take_rest line count ∙ ap (λ (n : ℕ). drop n line) at

pub free_line : (limits : Limits) (now : Standing) (line text : List ℕ) (w : Option FormWriter) → text ≡ content line → is_free text ≡ true → IsAt limits now w → ReadsLine limits (after_line limits now line) (Ok tt) w
free_line limits now line text w is free here =
    let f : is_free (content line) ≡ true = ap is_free (sym is) ∙ free in
    (now, ap (λ (b : Bool). if b then Ok now else said limits now line) f, here)

-- a line that is not free says something
pub says : (limits : Limits) (now : Standing) (line text : List ℕ) → text ≡ content line → is_free text ≡ false → after_line limits now line ≡ said limits now line
says limits now line text is other = ap (λ (b : Bool). if b then Ok now else said limits now line) (ap is_free (sym is) ∙ other)

item_line_at : (limits : Limits) (magic : List ℕ) (calls : List Call) (now : Result Standing TextReason) (wanted : Result (List Call) TextReason) (r : Result (Unit {0}) Stop) (new : FormWriter)
    → now ≡ and_then wanted (λ more. Ok (behind_magic magic (calls ++ more))) → TellsItem limits magic calls wanted r new → ReadsLine limits now r (Some new)
item_line_at limits magic calls now wanted (Ok x) new is h = (behind_magic magic (calls ++ h.0), is ∙ ap (λ (w : Result (List Call) TextReason). and_then w (λ more. Ok (behind_magic magic (calls ++ more)))) h.1, h.2)
item_line_at limits magic calls now wanted (Err (Refused reason)) new is h = is ∙ ap (λ (w : Result (List Call) TextReason). and_then w (λ more. Ok (behind_magic magic (calls ++ more)))) h
item_line_at limits magic calls now wanted (Err Memory) new is h = tt

pub item_line : (limits : Limits) (now : Standing) (line text : List ℕ) (count : ℕ) (call : Call) (r : Result (Unit {0}) Stop) (old new : FormWriter) → count ≡ spaces line → text ≡ content line → is_free text ≡ false → item_of text ≡ Ok call
    → ((magic : List ℕ) (calls : List Call) → IsTold limits magic calls old → TellsItem limits magic calls (item_calls limits (where_after calls at_top) count call) r new)
    → IsAt limits now (Some old) → ReadsLine limits (after_line limits now line) r (Some new)
item_line limits at_start line text count call r old new at is other item tells here = absurd here
item_line limits (behind_magic magic calls) line text count call r old new at is other item tells here =
    let w = where_after calls at_top in
    let found : item_of (content line) ≡ Ok call = ap item_of (sym is) ∙ item in
    let now = after_line limits (behind_magic magic calls) line in
    let same : now ≡ and_then (item_calls limits w count call) (λ more. Ok (behind_magic magic (calls ++ more))) =
    says limits (behind_magic magic calls) line text is other
    ∙ ap (λ (i : Result Call TextReason). and_then i (λ c. and_then (item_calls limits w (spaces line) c) (λ more. Ok (behind_magic magic (calls ++ more))))) found
    ∙ ap (λ (n : ℕ). and_then (item_calls limits w n call) (λ more. Ok (behind_magic magic (calls ++ more)))) (sym at) in
    item_line_at limits magic calls now (item_calls limits w count call) r new same (tells magic calls here)

pub item_stopped : (limits : Limits) (now : Standing) (line text numbers : List ℕ) (stop : Stop) (w : FormWriter) → text ≡ content line → is_free text ≡ false → ReadsItem (item_of text) (Err stop) numbers
    → IsAt limits now (Some w) → ReadsLine limits (after_line limits now line) (Err stop) (Some w)
item_stopped limits at_start line text numbers stop w is other item here = absurd here
item_stopped limits (behind_magic magic calls) line text numbers (Refused reason) w is other item here =
    says limits (behind_magic magic calls) line text is other
    ∙ ap (λ (i : Result Call TextReason). and_then i (λ c. and_then (item_calls limits (where_after calls at_top) (spaces line) c) (λ more. Ok (behind_magic magic (calls ++ more))))) (ap item_of (sym is) ∙ item)
item_stopped limits (behind_magic magic calls) line text numbers Memory w is other item here = tt

pub first_line : (limits : Limits) (now : Standing) (line text : List ℕ) (r : Result (Unit {0}) Stop) (w : Option FormWriter) → text ≡ content line → is_free text ≡ false → ReadsLine limits (begun (magic_of line)) r w → IsAt limits now None → ReadsLine limits (after_line limits now line) r w
first_line limits at_start line text r w is other begins here = subst (λ (wanted : Result Standing TextReason). ReadsLine limits wanted r w) (sym (says limits at_start line text is other)) begins
first_line limits (behind_magic magic calls) line text r w is other begins here = absurd here
