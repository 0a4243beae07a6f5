-- The normal form that a text becomes while it is built.
use Rattle.std.proofs.Common.{◌≡◌, ℕ, suc, ◌+◌, ◌*◌, ◌/◌, ◌%◌, ◌<◌, ◌≤◌, Bool, true, false, List, [], ◌∷◌, ◌++◌, length, take, drop, vec_len, replicate, refl, sym, ap, subst, ◌∙◌, arith, append_assoc, length-append}
use Rattle.std.specs.Prelude.{◌&&◌, Result, Ok, Err, OnOk}
use Rattle.std.specs.List.{list_all}
use Rattle.std.proofs.lemmas.List.{append-nil, take-append-drop}
use Rattle.bit_grammar.specs.Setting.{keeps, keeps_record}
use Rattle.bit_grammar.specs.Under.{ids_after, ids_behind, innermost, is_left}
use Rattle.bit_grammar.proofs.NormalForms.Under.{ids_behind-push}
use Rattle.bit_grammar.specs.Bits.{bits_of}
use Rattle.bit_grammar.specs.FormatFields.{shortest}
use Rattle.bit_grammar.specs.Forest.{Forest, empty, a_block, a_record}
use Rattle.bit_grammar.specs.Machine.{Event, Opened, enters, defines, notes, leaves}
use Rattle.bit_grammar.specs.Marks.{RecordMark, DefinitionMark}
use Rattle.bit_grammar.specs.Normal.{chain, padding, values_bits, head_text, block_text, end_text, normal}
use Rattle.bit_grammar.specs.Size.{end_of}
use Rattle.bit_grammar.specs.Steps.{open_after}
use Rattle.bit_grammar.proofs.Bits.Numbers.{length-bits_of}
use Rattle.bit_grammar.proofs.NormalForms.Sizes.{items_end, padding_again}
use Rattle.bit_grammar.proofs.NormalForms.Texts.{pad_length}
use Rattle.bit_events.specs.Gathering.{left_open}
use Rattle.bit_events.specs.Standing.{OpenUnder}
use Rattle.bit_events.proofs.Standings.{left_as_many, left_closed, left_push}
use Rattle.bit_events.proofs.Folds.{open_behind-push}
use Rattle.bit_grammar.specs.Blocks.{Limits}
use Rattle.bit_fields.specs.Texts.{with_word}
use Rattle.bit_fields.proofs.Texts.{with_word_between}
use Rattle.bit_norm.specs.Told.{told_at_level}
use Rattle.bit_norm.specs.Building.{form_so_far, begins, length_and_body, whole_form, form_with, holes_of, AreWords, Builds, PassesLimit, Forms, HasForm, record_left, left_events, IsFormOf, AddsRecord}
use Rattle.bit_norm.specs.Writing.{record_front, record_text, enter_text}
use Rattle.bit_norm.proofs.ValueTexts.{values_text-append}
use Rattle.bit_norm.specs.declared.form_builder.FormBuilder.{FormBuilder}

-- ---- text after text

-- the text after some text, in parts
pub added : (inner t : List Bool) (p : ℕ) (f rest : Forest) → normal f (p + length inner) ≡ t ++ normal rest (p + length inner + length t) → inner ++ normal f (p + length inner) ≡ (inner ++ t) ++ normal rest (p + length (inner ++ t))
added inner t p f rest is =
    let place : p + length inner + length t ≡ p + length (inner ++ t) = omega (arith, length-append inner t) in
    ap (λ (s : List Bool). inner ++ s) is ∙ sym (append_assoc inner t (normal rest (p + length inner + length t))) ∙ ap (λ (q : ℕ). (inner ++ t) ++ normal rest q) place

record_first : (code : ℕ) (values : List ℕ) (rest : Forest) (p : ℕ) → normal (a_record code values rest) p ≡ record_text code values p ++ normal rest (p + length (record_text code values p))
unfolding normal
record_first code values rest p = refl

nothing : (p : ℕ) → normal empty p ≡ []
unfolding normal
nothing p = refl

-- a block: what comes before its length, and its length and body
block_first : (id : ℕ) (inner rest : Forest) (q b : ℕ) → b ≡ q + length (enter_text id q) + 32
    → normal (a_block id inner rest) q ≡ (enter_text id q ++ length_and_body b (normal inner b)) ++ normal rest (q + length (enter_text id q ++ length_and_body b (normal inner b)))
unfolding normal
block_first id inner rest q b is =
    let two = bits_of 2 1 in
    let p = q + length two in
    let x = shortest 8 id in
    let y = shortest 4 2 in
    let z = padding (p + length x + length y) in
    let body = chain (normal inner) end_text in
    let at_body = p + length (head_text id 0 p) in
    let lengths : length (enter_text id q) ≡ length two + (length x + (length y + length z)) = omega (arith, length-append two (x ++ (y ++ z)), length-append x (y ++ z), length-append y z) in
    let place : at_body ≡ b = omega (arith, is, lengths, length-append x (y ++ (z ++ bits_of 32 0)), length-append y (z ++ bits_of 32 0), length-append z (bits_of 32 0), length-bits_of 32 0) in
    let parts : (w : List Bool) (s : List Bool) → two ++ ((x ++ (y ++ (z ++ w))) ++ s) ≡ (two ++ (x ++ (y ++ z))) ++ (w ++ s) = λ (w : List Bool) (s : List Bool).
    ap (λ (t : List Bool). two ++ (t ++ s)) (ap (λ (t : List Bool). x ++ t) (sym (append_assoc y z w)) ∙ sym (append_assoc x (y ++ z) w))
    ∙ ap (λ (t : List Bool). two ++ t) (append_assoc (x ++ (y ++ z)) w s)
    ∙ sym (append_assoc two (x ++ (y ++ z)) (w ++ s)) in
    let same : two ++ block_text id body p ≡ enter_text id q ++ length_and_body b (normal inner b) = parts (bits_of 32 (length (body at_body) / 32)) (body at_body) ∙ ap (λ (k : ℕ). enter_text id q ++ (bits_of 32 (length (body k) / 32) ++ body k)) place in
    ap (λ (s : List Bool). s ++ normal rest (q + length s)) same

-- ---- the growth of a text

-- the whole is at least as long as the text so far
pub longer : (outer : List (List Bool)) (full : List Bool) (coming : ℕ → Forest) → length (form_so_far outer) + length full ≤ length (whole_form outer full coming)
longer [] full coming = omega arith
longer (s ∷ outer) full coming =
    let p = begins (s ∷ outer) in
    let end = end_text (p + length full) in
    let body = full ++ end in
    let now = s ++ length_and_body p full in
    let others = normal (coming 0) (begins outer + length now) in
    omega (
      arith,
      longer outer (now ++ others) (λ level. coming (suc level)),
      length-append now others,
      length-append s (length_and_body p full),
      length-append (bits_of 32 (length body / 32)) body,
      length-append full end,
      length-bits_of 32 (length body / 32),
      length-append (form_so_far outer ++ s) (bits_of 32 0),
      length-append (form_so_far outer) s,
      length-bits_of 32 0,
    )

-- a record is added
pub form_record : (outer : List (List Bool)) (inner : List Bool) (code : ℕ) (values : List ℕ) (rest : Forest) (coming : ℕ → Forest) →
    whole_form outer (inner ++ normal (a_record code values rest) (begins outer + length inner)) coming
    ≡ whole_form outer ((inner ++ record_text code values (begins outer + length inner)) ++ normal rest (begins outer + length (inner ++ record_text code values (begins outer + length inner)))) coming
form_record outer inner code values rest coming =
    ap (λ (s : List Bool). whole_form outer s coming) (added inner (record_text code values (begins outer + length inner)) (begins outer) (a_record code values rest) rest (record_first code values rest (begins outer + length inner)))

-- a block is opened
pub form_enters : (outer : List (List Bool)) (inner : List Bool) (id : ℕ) (first rest : Forest) (coming : ℕ → Forest) (head : List Bool) → head ≡ enter_text id (begins outer + length inner) →
    whole_form outer (inner ++ normal (a_block id first rest) (begins outer + length inner)) coming
    ≡ (let now = (inner ++ head) ++ length_and_body (begins ((inner ++ head) ∷ outer)) (normal first (begins ((inner ++ head) ∷ outer))) in whole_form outer (now ++ normal rest (begins outer + length now)) coming)
form_enters outer inner id first rest coming head head_is =
    let q = begins outer + length inner in
    let b = begins ((inner ++ head) ∷ outer) in
    let there : b ≡ q + length (enter_text id q) + 32 = omega (arith, length-append (form_so_far outer ++ (inner ++ head)) (bits_of 32 0), length-append (form_so_far outer) (inner ++ head), length-append inner head, length-bits_of 32 0, ap length head_is) in
    let t = enter_text id q ++ length_and_body b (normal first b) in
    let same : inner ++ t ≡ (inner ++ head) ++ length_and_body b (normal first b) = sym (append_assoc inner (enter_text id q) (length_and_body b (normal first b))) ∙ ap (λ (s : List Bool). (inner ++ s) ++ length_and_body b (normal first b)) (sym head_is) in
    ap (λ (s : List Bool). whole_form outer s coming) (added inner t (begins outer) (a_block id first rest) rest (block_first id first rest q b there) ∙ ap (λ (now : List Bool). now ++ normal rest (begins outer + length now)) same)

-- an end is the same with and without the magic before it
pub end_again : (p : ℕ) → end_text (32 + p) ≡ end_text p
end_again p =
    let two = bits_of 2 0 in
    let place : 32 + p + length two ≡ (p + length two) + 32 * 1 = omega arith in
    ap (λ (n : ℕ). two ++ padding n) place ∙ ap (λ (n : ℕ). two ++ replicate n false) (padding_again (p + length two) 1)

pub open_again : (id p : ℕ) → enter_text id (32 + p) ≡ enter_text id p
open_again id p =
    let two = bits_of 2 1 in
    let x = shortest 8 id in
    let y = shortest 4 2 in
    let q = p + length two + length x + length y in
    let place : 32 + p + length two + length x + length y ≡ q + 32 * 1 = omega arith in
    ap (λ (n : ℕ). two ++ (x ++ (y ++ padding n))) place ∙ ap (λ (n : ℕ). two ++ (x ++ (y ++ replicate n false))) (padding_again q 1)

-- what comes before a block's length ends at a word, and so does its end
pub open_ends : (id p : ℕ) → (p + length (enter_text id p)) % 32 ≡ 0
open_ends id p =
    let two = bits_of 2 1 in
    let x = shortest 8 id in
    let y = shortest 4 2 in
    let q = p + length two + length x + length y in
    let z = padding q in
    omega (arith, pad_length q, length-append two (x ++ (y ++ z)), length-append x (y ++ z), length-append y z)

pub end_ends : (p : ℕ) → (p + length (end_text p)) % 32 ≡ 0
end_ends p =
    let two = bits_of 2 0 in
    omega (arith, pad_length (p + length two), length-append two (padding (p + length two)))

zero_more : (p : ℕ) → p ≡ p + 0
zero_more p = omega arith

-- ---- events

module _ (events : List Event) (text : List Bool) (holes : List ℕ) (was : Builds events text holes) where
  -- an event, before those that follow
  pub next_whole : (event : Event) (following : List Event) → normal (told_at_level ((events ++ event ∷ []) ++ following) 0) 32 ≡ form_with was.outer was.inner (told_at_level (event ∷ following))
  next_whole event following = ap (λ (es : List Event). normal (told_at_level es 0) 32) (append_assoc events (event ∷ []) following) ∙ was.whole (event ∷ following)

  -- how many blocks are open
  next_depth : (event : Event) → open_after event (length was.outer) ≡ left_open (events ++ event ∷ [])
  next_depth event = ap (open_after event) was.depth ∙ sym (open_behind-push events event 0)

  -- the length of the text in bits
  text_length : length text ≡ length (form_so_far was.outer) + length was.inner
  text_length = ap length was.is ∙ length-append (form_so_far was.outer) was.inner

  here_is : begins was.outer + length was.inner ≡ 32 + length text
  here_is = omega (arith, text_length)

  -- a definition
  pub builds_definition : (mark : DefinitionMark) → Builds (events ++ defines mark ∷ []) text holes
  builds_definition mark = record { outer = was.outer; inner = was.inner; is = was.is; places = was.places; words = was.words; top = was.top; whole = next_whole (defines mark); depth = next_depth (defines mark) }

  pub builds_record : (mark : RecordMark) (new : List Bool) → 0 < left_open events → new ≡ text ++ record_text mark.code mark.values 0 → Builds (events ++ notes mark ∷ []) new holes
  builds_record mark new some adds =
      let t = record_text mark.code mark.values 0 in
      record {
        outer = was.outer;
        inner = was.inner ++ t;
        is = adds ∙ ap (λ (s : List Bool). s ++ t) was.is ∙ append_assoc (form_so_far was.outer) was.inner t;
        places = was.places;
        words = was.words;
        top = λ outside. absurd (omega (arith, outside, some, was.depth));
        whole = λ following. next_whole (notes mark) following ∙ form_record was.outer was.inner mark.code mark.values (told_at_level following 0) (λ level. told_at_level following (suc level));
        depth = next_depth (notes mark);
      }

  pub builds_block : (opened : Opened) (new : List Bool) (more : List ℕ) → new ≡ (text ++ enter_text opened.id (length text)) ++ bits_of 32 0 → more ≡ holes ++ (length (text ++ enter_text opened.id (length text)) / 32) ∷ [] → Builds (events ++ enters opened ∷ []) new more
  builds_block opened new more adds pushes =
      let head = enter_text opened.id (length text) in
      let there : head ≡ enter_text opened.id (begins was.outer + length was.inner) = sym (open_again opened.id (length text)) ∙ ap (enter_text opened.id) (sym here_is) in
      let before : text ++ head ≡ form_so_far was.outer ++ (was.inner ++ head) = ap (λ (s : List Bool). s ++ head) was.is ∙ append_assoc (form_so_far was.outer) was.inner head in
      record {
        outer = (was.inner ++ head) ∷ was.outer;
        inner = [];
        is = adds ∙ ap (λ (s : List Bool). s ++ bits_of 32 0) before ∙ sym (append-nil ((form_so_far was.outer ++ (was.inner ++ head)) ++ bits_of 32 0));
        places = pushes ∙ ap (λ (ns : List ℕ). ns ++ (length (text ++ head) / 32) ∷ []) was.places ∙ ap (λ (s : List Bool). holes_of was.outer ++ (length s / 32) ∷ []) before;
        words = (omega (arith, open_ends opened.id (length text), ap length before, length-append text head), was.words);
        top = λ outside. absurd (omega (arith, outside));
        whole = λ following.
            next_whole (enters opened) following
            ∙ form_enters was.outer was.inner opened.id (told_at_level following 0) (told_at_level following 1) (λ level. told_at_level following (suc (suc level))) head there
            ∙ ap (λ (k : ℕ). whole_form ((was.inner ++ head) ∷ was.outer) (normal (told_at_level following 0) k) (λ level. told_at_level following (suc level))) (zero_more (begins ((was.inner ++ head) ∷ was.outer)));
        depth = next_depth (enters opened);
      }

-- when the innermost block ends, its length is stored at its place
with_length : (outer : List (List Bool)) (s inner text : List Bool) (hole words : ℕ) → text ≡ form_so_far (s ∷ outer) ++ inner → 32 * hole ≡ length (form_so_far outer ++ s) → words ≡ length (inner ++ end_text (begins (s ∷ outer) + length inner)) / 32
    → with_word hole words (text ++ end_text (length text)) ≡ form_so_far outer ++ (s ++ length_and_body (begins (s ∷ outer)) inner)
with_length outer s inner text hole words text_is hole_is words_is =
    let front = form_so_far outer ++ s in
    let zeros = bits_of 32 0 in
    let p = begins (s ∷ outer) in
    let place : p + length inner ≡ 32 + length text = omega (arith, ap length text_is, length-append (front ++ zeros) inner) in
    let end : end_text (length text) ≡ end_text (p + length inner) = sym (end_again (length text)) ∙ ap end_text (sym place) in
    let body = inner ++ end_text (p + length inner) in
    let parted : text ++ end_text (length text) ≡ front ++ (zeros ++ body) =
    ap (λ (t : List Bool). text ++ t) end ∙ ap (λ (t : List Bool). t ++ end_text (p + length inner)) text_is ∙ append_assoc (front ++ zeros) inner (end_text (p + length inner)) ∙ append_assoc front zeros body in
    ap (with_word hole words) parted
    ∙ with_word_between front zeros body hole words (sym hole_is) (length-bits_of 32 0)
    ∙ ap (λ (k : ℕ). front ++ (bits_of 32 k ++ body)) words_is
    ∙ append_assoc (form_so_far outer) s (length_and_body p inner)

outside_only : (outer : List (List Bool)) (s : List Bool) → length outer ≡ 0 → length (form_so_far outer ++ s) ≡ length s
outside_only [] s none = refl
outside_only (t ∷ outer) s none = absurd (omega (arith, none))

pub push_same : (xs ys : List ℕ) (x y : ℕ) → xs ++ x ∷ [] ≡ ys ++ y ∷ [] → (xs ≡ ys) × (x ≡ y)
push_same [] [] x y e = (refl, cc)
push_same [] (b ∷ ys) x y e = absurd (omega (arith, ap length e, length-append ys (y ∷ [])))
push_same (a ∷ xs) [] x y e = absurd (omega (arith, ap length e, length-append xs (x ∷ [])))
push_same (a ∷ xs) (b ∷ ys) x y e =
    let rest : xs ++ x ∷ [] ≡ ys ++ y ∷ [] = cc in
    let first : a ≡ b = cc in
    let others = push_same xs ys x y rest in
    (ap (λ (zs : List ℕ). a ∷ zs) others.0 ∙ ap (λ (z : ℕ). z ∷ ys) first, others.1)

-- the length in words of the innermost block, and its place
pub record Ending (text : List Bool) (hole : ℕ) : Type 0 where
  pub words : ℕ
  pub there : 32 * hole + 32 ≤ length text
  pub counted : 32 * (hole + 1 + words) ≡ length text + length (end_text (length text))

module _ (events : List Event) (text : List Bool) (holes others : List ℕ) (after hole : ℕ) (some : 0 < left_open events) (popped : holes ≡ others ++ hole ∷ []) where
  ending_in : (outers : List (List Bool)) (inner : List Bool) → text ≡ form_so_far outers ++ inner → holes ≡ holes_of outers → AreWords outers → length outers ≡ left_open events → Ending text hole
  ending_in [] inner is places words depth = absurd (omega (arith, depth, some))
  ending_in (s ∷ outer) inner is places words depth =
      let front = form_so_far outer ++ s in
      let body = inner ++ end_text (begins (s ∷ outer) + length inner) in
      let place : hole ≡ length front / 32 = (push_same others (holes_of outer) hole (length front / 32) (sym popped ∙ places)).1 in
      let lengths : length text ≡ length front + 32 + length inner = omega (arith, ap length is, length-append (front ++ bits_of 32 0) inner, length-append front (bits_of 32 0), length-bits_of 32 0) in
      let end : length (end_text (length text)) ≡ length (end_text (begins (s ∷ outer) + length inner)) =
      ap length (sym (end_again (length text))) ∙ ap (λ (n : ℕ). length (end_text n)) (omega (arith, lengths, length-append front (bits_of 32 0), length-bits_of 32 0)) in
      record {
        words = length body / 32;
        there = omega (arith, place, words.0, lengths);
        counted = omega (arith, place, words.0, lengths, end_ends (length text), end, length-append inner (end_text (begins (s ∷ outer) + length inner)));
      }

  pub ending : Builds events text holes → Ending text hole
  ending was = ending_in was.outer was.inner was.is was.places was.words was.depth

  ends_in : (outers : List (List Bool)) (inner new : List Bool) → text ≡ form_so_far outers ++ inner → holes ≡ holes_of outers → AreWords outers → length outers ≡ left_open events
      → ((following : List Event) → normal (told_at_level ((events ++ leaves after ∷ []) ++ following) 0) 32 ≡ form_with outers inner (told_at_level (leaves after ∷ following)))
      → ((words : ℕ) → 32 * (hole + 1 + words) ≡ length text + length (end_text (length text)) → new ≡ with_word hole words (text ++ end_text (length text)))
      → Builds (events ++ leaves after ∷ []) new others
  ends_in [] inner new is places words depth whole put_in = absurd (omega (arith, depth, some))
  ends_in (s ∷ outer) inner new is places words depth whole put_in =
      let front = form_so_far outer ++ s in
      let p = begins (s ∷ outer) in
      let body = inner ++ end_text (p + length inner) in
      let n = length body / 32 in
      let here = push_same others (holes_of outer) hole (length front / 32) (sym popped ∙ places) in
      let e = ending_in (s ∷ outer) inner is places words depth in
      let lengths : length text ≡ length front + 32 + length inner = omega (arith, ap length is, length-append (front ++ bits_of 32 0) inner, length-append front (bits_of 32 0), length-bits_of 32 0) in
      let same : length (end_text (length text)) ≡ length (end_text (p + length inner)) =
      ap length (sym (end_again (length text))) ∙ ap (λ (k : ℕ). length (end_text k)) (omega (arith, lengths, length-append front (bits_of 32 0), length-bits_of 32 0)) in
      let len : length body ≡ length inner + length (end_text (p + length inner)) = length-append inner (end_text (p + length inner)) in
      record {
        outer = outer;
        inner = s ++ length_and_body p inner;
        is = put_in n (omega (arith, here.1, words.0, lengths, end_ends (length text), same, len)) ∙ with_length outer s inner text hole n is (omega (arith, here.1, words.0)) refl;
        places = here.0;
        words = words.1;
        top = λ outside. omega (arith, outside_only outer s outside, words.0, lengths, end_ends (length text), same, len, length-append s (length_and_body p inner), length-append (bits_of 32 n) body, length-bits_of 32 n);
        whole = λ following. whole following ∙ ap (λ (t : List Bool). whole_form (s ∷ outer) t (λ level. told_at_level following level)) (ap (λ (t : List Bool). inner ++ t) (nothing (p + length inner)) ∙ append-nil inner);
        depth = omega (arith, depth, open_behind-push events (leaves after) 0);
      }

  pub builds_end : (new : List Bool) → Builds events text holes → ((words : ℕ) → 32 * (hole + 1 + words) ≡ length text + length (end_text (length text)) → new ≡ with_word hole words (text ++ end_text (length text))) → Builds (events ++ leaves after ∷ []) new others
  builds_end new was put_in = ends_in was.outer was.inner new was.is was.places was.words was.depth (next_whole events text holes was (leaves after)) put_in

-- ---- a form that passes the limit

pub passes_by : (limit : ℕ) (events : List Event) (outer : List (List Bool)) (inner : List Bool) → ((following : List Event) → normal (told_at_level (events ++ following) 0) 32 ≡ form_with outer inner (told_at_level following)) → limit < length (form_so_far outer ++ inner) / 8 → PassesLimit limit events
passes_by limit events outer inner whole long following =
    let f = told_at_level (events ++ following) 0 in
    let rest = normal (told_at_level following 0) (begins outer + length inner) in
    omega (
      arith,
      long,
      items_end f 32,
      ap length (whole following),
      longer outer (inner ++ rest) (λ level. told_at_level following (suc level)),
      length-append inner rest,
      length-append (form_so_far outer) inner,
    )

pub passes_more : (limit : ℕ) (events : List Event) (event : Event) → PassesLimit limit events → PassesLimit limit (events ++ event ∷ [])
passes_more limit events event passes following =
    subst (λ (es : List Event). limit < end_of (told_at_level es 0) 32 / 8) (sym (append_assoc events (event ∷ []) following)) (passes (event ∷ following))

-- the text passes it
passes_now : (limit : ℕ) (events : List Event) (text : List Bool) (holes : List ℕ) → Builds events text holes → limit < length text / 8 → PassesLimit limit events
passes_now limit events text holes was long = passes_by limit events was.outer was.inner was.whole (subst (λ (t : List Bool). limit < length t / 8) was.is long)

-- ---- the form after an event that is kept

both : (b : Bool) → b ≡ false → b ≡ true → ⊥
both b x y = absurd cc

pub formed : (limit : ℕ) (events : List Event) (text : List Bool) (holes : List ℕ) (long : Bool) → long ≡ false → Builds events text holes → Forms limit events text holes long
formed limit events text holes long short builds = record { builds = λ _. builds; passes = λ it_is. absurd (both long short it_is) }

pub passed : (limit : ℕ) (events : List Event) (text : List Bool) (holes : List ℕ) (long : Bool) → long ≡ true → PassesLimit limit events → Forms limit events text holes long
passed limit events text holes long it_is passes = record { builds = λ short. absurd (both long short it_is); passes = λ _. passes }

-- it passes the limit now
pub now_passed : (old new : FormBuilder) (done : List Event) (event : Event) → HasForm done old → old.long ≡ false → old.limits.bytes < length old.text / 8 → new.limits ≡ old.limits → new.long ≡ true → HasForm (done ++ event ∷ []) new
now_passed old new done event was short over limits long =
    passed new.limits.bytes (done ++ event ∷ []) new.text new.holes.items new.long long
    (passes_more new.limits.bytes done event (passes_now new.limits.bytes done old.text old.holes.items (was.builds short) (subst (λ (l : Limits). l.bytes < length old.text / 8) (sym limits) over)))

-- a record with which the text passes the limit
pub record_passes : (old new : FormBuilder) (done : List Event) (mark : RecordMark) → HasForm done old → old.long ≡ false → 0 < left_open done → old.limits.bytes < length (old.text ++ record_text mark.code mark.values 0) / 8 → new.limits ≡ old.limits → new.long ≡ true → HasForm (done ++ notes mark ∷ []) new
record_passes old new done mark was short some over limits long =
    let all = old.text ++ record_text mark.code mark.values 0 in
    passed new.limits.bytes (done ++ notes mark ∷ []) new.text new.holes.items new.long long
    (passes_now new.limits.bytes (done ++ notes mark ∷ []) all old.holes.items (builds_record done old.text old.holes.items (was.builds short) mark all some refl) (subst (λ (l : Limits). l.bytes < length all / 8) (sym limits) over))

-- its values alone pass it
pub values_pass : (text : List Bool) (code : ℕ) (values : List ℕ) (limit : ℕ) → limit < length (values_bits values) / 8 → limit < length (text ++ record_text code values 0) / 8
values_pass text code values limit over =
    let x = shortest 6 code in
    let y = shortest 6 (length values) in
    let v = values_bits values in
    omega (arith, over, length-append text (record_text code values 0), length-append (bits_of 2 3) (x ++ (y ++ v)), length-append x (y ++ v), length-append y v)

-- ---- the builder after an event

module _ (first old new : FormBuilder) (done : List Event) (event : Event) (was : IsFormOf first done old) (short : old.long ≡ false) where
  here : old.standing ≡ record { setting = first.standing.setting; ids = ids_behind done [] }
  here = was.stands short

  stands_on : new.standing ≡ record old.standing { ids = ids_after event old.standing.ids } → new.standing ≡ record { setting = first.standing.setting; ids = ids_behind (done ++ event ∷ []) [] }
  stands_on moved =
      moved ∙ ap (λ (st : OpenUnder). record st { ids = ids_after event st.ids }) here
      ∙ ap (λ (ids : List ℕ). record { setting = first.standing.setting; ids = ids }) (sym (ids_behind-push done event []))

  judged : (b : Bool) → is_left old.standing.setting old.standing.ids event ≡ b → is_left first.standing.setting (ids_behind done []) event ≡ b
  judged b is = ap (λ (st : OpenUnder). is_left st.setting st.ids event) (sym here) ∙ is

  -- one that is kept
  pub event_taken : is_left old.standing.setting old.standing.ids event ≡ true → (new.long ≡ false → new.standing ≡ record old.standing { ids = ids_after event old.standing.ids }) → new.limits ≡ old.limits → HasForm (left_events first done ++ event ∷ []) new → IsFormOf first (done ++ event ∷ []) new
  event_taken is moved limits form = record {
    limits = limits ∙ was.limits;
    stands = λ still. stands_on (moved still);
    form = subst (λ (es : List Event). HasForm es new) (sym (left_push first.standing.setting done event [] true (judged true is))) form;
  }

  -- one that is left out
  pub event_left_out : is_left old.standing.setting old.standing.ids event ≡ false → new.standing ≡ record old.standing { ids = ids_after event old.standing.ids } → new.limits ≡ old.limits → HasForm (left_events first done) new → IsFormOf first (done ++ event ∷ []) new
  event_left_out is moved limits form = record {
    limits = limits ∙ was.limits;
    stands = λ still. stands_on moved;
    form = subst (λ (es : List Event). HasForm es new) (sym (left_push first.standing.setting done event [] false (judged false is) ∙ append-nil (left_events first done))) form;
  }

  -- as many blocks are open by the events that are kept
  pub some_left : list_all (keeps old.standing.setting) old.standing.ids ≡ true → 0 < left_open done → 0 < left_open (left_events first done)
  some_left all some =
      let same : list_all (keeps first.standing.setting) (ids_behind done []) ≡ true = ap (λ (st : OpenUnder). list_all (keeps st.setting) st.ids) (sym here) ∙ all in
      omega (arith, left_as_many first.standing.setting done same, some)

-- a form that passed the limit still passes it
pub still_passed : (first old : FormBuilder) (done : List Event) (event : Event) → IsFormOf first done old → old.long ≡ true → IsFormOf first (done ++ event ∷ []) old
still_passed first old done event was long = record {
  limits = was.limits;
  stands = λ short. absurd (both old.long short long);
  form = passed old.limits.bytes (left_events first (done ++ event ∷ [])) old.text old.holes.items old.long long (go (is_left first.standing.setting (ids_behind done []) event) refl);
}
  where
    go : (b : Bool) → is_left first.standing.setting (ids_behind done []) event ≡ b → PassesLimit old.limits.bytes (left_events first (done ++ event ∷ []))
    go true is = subst (PassesLimit old.limits.bytes) (sym (left_push first.standing.setting done event [] true is)) (passes_more old.limits.bytes (left_events first done) event (was.form.passes long))
    go false is = subst (PassesLimit old.limits.bytes) (sym (left_push first.standing.setting done event [] false is ∙ append-nil (left_events first done))) (was.form.passes long)

-- a definition
pub defines_more : (first old : FormBuilder) (done : List Event) (mark : DefinitionMark) → IsFormOf first done old → IsFormOf first (done ++ defines mark ∷ []) old
defines_more first old done mark was = go old.long refl (list_all (keeps old.standing.setting) old.standing.ids) refl
  where
    go : (long : Bool) → old.long ≡ long → (b : Bool) → list_all (keeps old.standing.setting) old.standing.ids ≡ b → IsFormOf first (done ++ defines mark ∷ []) old
    go true long b is = still_passed first old done (defines mark) was long
    go false short true is =
        event_taken first old old done (defines mark) was short is (λ _. refl) refl
        (formed old.limits.bytes (left_events first done ++ defines mark ∷ []) old.text old.holes.items old.long short (builds_definition (left_events first done) old.text old.holes.items (was.form.builds short) mark))
    go false short false is = event_left_out first old old done (defines mark) was short is refl refl was.form

-- all blocks are closed, and nothing follows
pub whole_text : (first last : FormBuilder) (events : List Event) → IsFormOf first events last → left_open events ≡ 0 → last.long ≡ false → (last.text ≡ normal (told_at_level (left_events first events) 0) 32) × (length last.text % 32 ≡ 0)
whole_text first last events was closed_all short =
    let b = was.form.builds short in
    go b.outer b.inner b.is b.top (b.depth ∙ left_closed first.standing.setting events closed_all) b.whole
  where
    go : (outer : List (List Bool)) (inner : List Bool) → last.text ≡ form_so_far outer ++ inner → (length outer ≡ 0 → length inner % 32 ≡ 0) → length outer ≡ 0
        → ((following : List Event) → normal (told_at_level (left_events first events ++ following) 0) 32 ≡ form_with outer inner (told_at_level following)) → (last.text ≡ normal (told_at_level (left_events first events) 0) 32) × (length last.text % 32 ≡ 0)
    go [] inner text top outside whole =
        let form : normal (told_at_level (left_events first events) 0) 32 ≡ inner =
        ap (λ (es : List Event). normal (told_at_level es 0) 32) (sym (append-nil (left_events first events))) ∙ whole [] ∙ ap (λ (s : List Bool). inner ++ s) (nothing (32 + length inner)) ∙ append-nil inner in
        (text ∙ sym form, ap (λ (s : List Bool). length s % 32) text ∙ top outside)
    go (s ∷ outer) inner text top outside whole = absurd (omega (arith, outside))

pub passes_whole : (first last : FormBuilder) (events : List Event) → IsFormOf first events last → last.long ≡ true → first.limits.bytes < 4 + length (normal (told_at_level (left_events first events) 0) 32) / 8
passes_whole first last events was long =
    let f = told_at_level (left_events first events) 0 in
    let over : last.limits.bytes < end_of f 32 / 8 = subst (λ (es : List Event). last.limits.bytes < end_of (told_at_level es 0) 32 / 8) (append-nil (left_events first events)) (was.form.passes long []) in
    omega (arith, over, items_end f 32, ap (λ (l : Limits). l.bytes) was.limits)

-- ---- what is added, in parts

-- a record: its values after what comes before them
pub record_joined : (text a e : List Bool) (code count : ℕ) (list : List ℕ) → a ≡ text ++ record_front code count → count ≡ length list → e ≡ a ++ values_bits list → e ≡ text ++ record_text code list (length text)
record_joined text a e code count list a_is count_is e_is =
    let x = bits_of 2 3 in
    let y = shortest 6 code in
    let z = shortest 6 (length list) in
    let v = values_bits list in
    e_is
    ∙ ap (λ (s : List Bool). s ++ v) (a_is ∙ ap (λ (n : ℕ). text ++ record_front code n) count_is)
    ∙ append_assoc text (x ++ (y ++ z)) v
    ∙ ap (λ (s : List Bool). text ++ s) (append_assoc x (y ++ z) v ∙ ap (λ (s : List Bool). x ++ s) (append_assoc y z v))

-- its first values, and the others after them
pub record_in_parts : (text a : List Bool) (code done : ℕ) (list : List ℕ) → a ≡ (text ++ record_front code (length list)) ++ values_bits (take done list) → a ++ values_bits (drop done list) ≡ text ++ record_text code list (length text)
record_in_parts text a code done list is =
    let front = text ++ record_front code (length list) in
    let first = values_bits (take done list) in
    let rest = values_bits (drop done list) in
    record_joined text front (a ++ rest) code (length list) list refl refl
    (ap (λ (s : List Bool). s ++ rest) is ∙ append_assoc front first rest
    ∙ ap (λ (s : List Bool). front ++ s) (sym (values_text-append (take done list) (drop done list)) ∙ ap values_bits (take-append-drop done list)))

pub end_parts : (text a b : List Bool) → a ≡ text ++ bits_of 2 0 → b ≡ a ++ padding (length a) → b ≡ text ++ end_text (length text)
end_parts text a b a_is b_is =
    let x = bits_of 2 0 in
    let place : length a ≡ length text + length x = ap length a_is ∙ length-append text x in
    b_is ∙ ap (λ (n : ℕ). a ++ padding n) place ∙ ap (λ (s : List Bool). s ++ padding (length text + length x)) a_is ∙ append_assoc text x (padding (length text + length x))

length-holes : (outer : List (List Bool)) → length (holes_of outer) ≡ length outer
length-holes [] = refl
length-holes (s ∷ outer) = omega (arith, length-append (holes_of outer) ((length (form_so_far outer ++ s) / 32) ∷ []), length-holes outer)

-- an open block has a place for its length
pub some_hole : (events : List Event) (b : FormBuilder) → Builds events b.text b.holes.items → 0 < left_open events → 0 < vec_len b.holes
some_hole events b was some = omega (arith, b.holes.ok.0, ap length was.places, length-holes was.outer, was.depth, some)

-- a record if the form is too long, or one that is left out
pub record_idle : (first old : FormBuilder) (done : List Event) (mark : RecordMark) → IsFormOf first done old → (old.long ≡ false → record_left old.standing mark.code ≡ false) → IsFormOf first (done ++ notes mark ∷ []) old
record_idle first old done mark was out = go old.long refl
  where
    go : (b : Bool) → old.long ≡ b → IsFormOf first (done ++ notes mark ∷ []) old
    go true long = still_passed first old done (notes mark) was long
    go false short = event_left_out first old old done (notes mark) was short (out short) refl refl was.form

first_of_two : (a b : Bool) → (a && b) ≡ true → a ≡ true
first_of_two true b e = refl
first_of_two false b e = e

-- a record that is kept
pub record_taken : (first old new : FormBuilder) (done : List Event) (mark : RecordMark) → IsFormOf first done old → old.long ≡ false → record_left old.standing mark.code ≡ true → 0 < left_open done → (new.standing ≡ old.standing) × (new.limits ≡ old.limits)
    → (HasForm (left_events first done) old → old.long ≡ false → 0 < left_open (left_events first done) → HasForm (left_events first done ++ notes mark ∷ []) new) → IsFormOf first (done ++ notes mark ∷ []) new
record_taken first old new done mark was short is some stays adds =
    event_taken first old new done (notes mark) was short is (λ _. stays.0) stays.1
    (adds was.form short (some_left first old new done (notes mark) was short (first_of_two (list_all (keeps old.standing.setting) old.standing.ids) (keeps_record old.standing.setting (innermost old.standing.ids) mark.code) is) some))

-- its code and values are these
same_text : (code : ℕ) (values : List ℕ) (mark : RecordMark) → mark.code ≡ code → mark.values ≡ values → record_text code values 0 ≡ record_text mark.code mark.values 0
same_text code values mark code_is values_is = ap (λ (n : ℕ). record_text n values 0) (sym code_is) ∙ ap (λ (vs : List ℕ). record_text mark.code vs 0) (sym values_is)

pub record_added : (code : ℕ) (values : List ℕ) (old new : FormBuilder) → old.long ≡ false → record_left old.standing code ≡ true → (new.standing ≡ old.standing) × (new.limits ≡ old.limits) → new.holes ≡ old.holes → new.long ≡ old.long
    → new.text ≡ old.text ++ record_text code values 0 → AddsRecord code values old new
record_added code values old new short left stays holes long adds = λ first done mark code_is values_are was some.
    record_taken first old new done mark was short (ap (record_left old.standing) code_is ∙ left) some stays
    (λ form short some. formed new.limits.bytes (left_events first done ++ notes mark ∷ []) new.text new.holes.items new.long (long ∙ short)
    (rw holes (builds_record (left_events first done) old.text old.holes.items (form.builds short) mark new.text some (adds ∙ ap (λ (s : List Bool). old.text ++ s) (same_text code values mark code_is values_are)))))

-- one with which the form is too long
pub record_cut : (code : ℕ) (values : List ℕ) (old new : FormBuilder) → old.long ≡ false → record_left old.standing code ≡ true → new.standing ≡ old.standing → new.limits ≡ old.limits → new.long ≡ true
    → old.limits.bytes < length (old.text ++ record_text code values 0) / 8 → AddsRecord code values old new
record_cut code values old new short left standing limits long over = λ first done mark code_is values_are was some.
    record_taken first old new done mark was short (ap (record_left old.standing) code_is ∙ left) some (standing, limits)
    (λ form short some. record_passes old new (left_events first done) mark form short some (subst (λ (s : List Bool). old.limits.bytes < length (old.text ++ s) / 8) (same_text code values mark code_is values_are) over) limits long)

pub both_ok : (P Q : Type 0) {A E : Type 0} (r : Result A E) → OnOk r P → OnOk r Q → OnOk r (P × Q)
both_ok P Q (Ok x) p q = (p, q)
both_ok P Q (Err e) p q = tt
