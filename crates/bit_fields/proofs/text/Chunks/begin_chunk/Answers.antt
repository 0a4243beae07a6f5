use Rattle.std.proofs.Common.{◌≡◌, ℕ, ◌-◌, ◌≤◌, Bool, List, ◌++◌, length, take, drop, replicate, ap, sym, subst, ◌∙◌, arith, length-append, length-drop}
use Rattle.std.proofs.lemmas.List.{length-replicate, length-take-le}
use Rattle.std.specs.Global.{Vec}
use Rattle.bit_fields.specs.Texts.{text_of, IsText}
use Rattle.bit_fields.proofs.Texts.{begun_text, begun_same, pushed_text, text-length}
use Rattle.bit_fields.proofs.text.Chunks.begin_chunk.Goals as goal

-- the next chunk, as it was made
next_is : (last made next : Vec ℕ) (bytes : List ℕ) → next ≡ made → made.items ≡ drop 1048576 bytes ++ replicate (2129920 - length bytes) 0 → bytes ≡ last.items → next.items ≡ drop 1048576 last.items ++ replicate (2129920 - length last.items) 0
next_is last made next bytes is made_is bytes_is = ap (λ (v : Vec ℕ). v.items) is ∙ made_is ∙ ap (λ (xs : List ℕ). drop 1048576 xs ++ replicate (2129920 - length xs) 0) bytes_is

next_begun : (full : List (Vec ℕ)) (last next : List ℕ) (at : ℕ) → IsText full last at → 8388608 ≤ at → next ≡ drop 1048576 last ++ replicate (2129920 - length last) 0 → IsText full next (at - 8388608)
next_begun full last next at t le is =
    begun_text full last next at (2129920 - length last) t le is (omega (arith, t.few, t.there, le, ap length is, length-append (drop 1048576 last) (replicate (2129920 - length last) 0), length-drop 1048576 last, length-replicate {A = ℕ} (2129920 - length last) 0))

whole_is : (last taken whole : Vec ℕ) → whole.items ≡ take 1048576 taken.items → taken ≡ last → whole.items ≡ take 1048576 last.items
whole_is last taken whole is same = is ∙ ap (λ (v : Vec ℕ). take 1048576 v.items) same

whole_full : (full : List (Vec ℕ)) (last whole : List ℕ) (at : ℕ) → IsText full last at → 8388608 ≤ at → whole ≡ take 1048576 last → length whole ≡ 1048576
whole_full full last whole at t le is = ap length is ∙ length-take-le 1048576 last (omega (arith, t.there, le))

pub returns-in_err-push-clause-is : goal.returns-in_err-push-clause-is
returns-in_err-push-clause-is c =
    let b = c.args.self.now in
    let next = next_is b.last c.in_ok-next.next c.replace-whole.new.dest c.deref.result.now c.replace-whole.ensures.after c.in_ok-next.ensures c.deref.ensures.value in
    subst (λ (vs : List (Vec ℕ)). IsText vs c.replace-whole.new.dest.items (b.at - 8388608)) (sym c.in_err-push.ensures.items) (next_begun b.full.items b.last.items c.replace-whole.new.dest.items b.at c.requires c.if-self.false next)

pub returns-in_err-push-clause-fewer : goal.returns-in_err-push-clause-fewer
returns-in_err-push-clause-fewer c =
    let b = c.args.self.now in
    let next = next_is b.last c.in_ok-next.next c.replace-whole.new.dest c.deref.result.now c.replace-whole.ensures.after c.in_ok-next.ensures c.deref.ensures.value in
    let t = next_begun b.full.items b.last.items c.replace-whole.new.dest.items b.at c.requires c.if-self.false next in
    fewer b.full.items c.push.new.self.items b.last.items c.replace-whole.new.dest.items b.at c.requires c.in_err-push.ensures.items t
  where
    fewer : (full full' : List (Vec ℕ)) (last next : List ℕ) (at : ℕ) → IsText full last at → full' ≡ full → IsText full next (at - 8388608) → length (text_of full' next (at - 8388608)) ≤ length (text_of full last at)
    fewer full full' last next at t is u = omega (arith, ap (λ (vs : List (Vec ℕ)). length (text_of vs next (at - 8388608))) is, text-length full last at t, text-length full next (at - 8388608) u)

pub returns-clause-is : goal.returns-clause-is
returns-clause-is c =
    let b = c.args.self.now in
    let next = next_is b.last c.in_ok-next.next c.replace-whole.new.dest c.deref.result.now c.replace-whole.ensures.after c.in_ok-next.ensures c.deref.ensures.value in
    let whole = whole_is b.last c.replace-whole.result c.truncate.new.self c.truncate.ensures.items c.replace-whole.ensures.value in
    subst (λ (vs : List (Vec ℕ)). IsText vs c.replace-whole.new.dest.items (b.at - 8388608)) (sym c.in_ok-push.ensures.items)
    (pushed_text b.full.items c.truncate.new.self c.replace-whole.new.dest.items (b.at - 8388608) (next_begun b.full.items b.last.items c.replace-whole.new.dest.items b.at c.requires c.if-self.false next) (whole_full b.full.items b.last.items c.truncate.new.self.items b.at c.requires c.if-self.false whole))

pub returns-clause-same : goal.returns-clause-same
returns-clause-same c =
    let b = c.args.self.now in
    let next = next_is b.last c.in_ok-next.next c.replace-whole.new.dest c.deref.result.now c.replace-whole.ensures.after c.in_ok-next.ensures c.deref.ensures.value in
    let whole = whole_is b.last c.replace-whole.result c.truncate.new.self c.truncate.ensures.items c.replace-whole.ensures.value in
    ap (λ (vs : List (Vec ℕ)). text_of vs c.replace-whole.new.dest.items (b.at - 8388608)) c.in_ok-push.ensures.items
    ∙ begun_same b.full.items c.truncate.new.self b.last.items c.replace-whole.new.dest.items (replicate (2129920 - length b.last.items) 0) b.at c.requires.there c.if-self.false whole next

pub returns-clause-fewer : goal.returns-clause-fewer
returns-clause-fewer c =
    let b = c.args.self.now in
    let next = next_is b.last c.in_ok-next.next c.replace-whole.new.dest c.deref.result.now c.replace-whole.ensures.after c.in_ok-next.ensures c.deref.ensures.value in
    let whole = whole_is b.last c.replace-whole.result c.truncate.new.self c.truncate.ensures.items c.replace-whole.ensures.value in
    same_length _ _ (ap (λ (vs : List (Vec ℕ)). text_of vs c.replace-whole.new.dest.items (b.at - 8388608)) c.in_ok-push.ensures.items
    ∙ begun_same b.full.items c.truncate.new.self b.last.items c.replace-whole.new.dest.items (replicate (2129920 - length b.last.items) 0) b.at c.requires.there c.if-self.false whole next)
  where
    same_length : (s t : List Bool) → s ≡ t → length s ≤ length t
    same_length s t is = omega (arith, ap length is)
