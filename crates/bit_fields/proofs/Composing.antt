-- One call after another: together they take what their combined rule reads.
use Rattle.std.proofs.Common.{◌≡◌, ℕ, ◌+◌, Bool, true, false, List, [], ◌++◌, length, Result, Ok, Err, refl, sym, ap, ◌∙◌, subst, arith, append_assoc}
use Rattle.std.proofs.lemmas.Bool.{false≢true}
use Rattle.std.proofs.lemmas.List.{length-append}
use Rattle.bit_grammar.specs.declared.reason.Reason.{Reason}
use Rattle.bit_grammar.specs.Grammar as grammar
use Rattle.bit_grammar.specs.Grammar.{Grammar, at, gives, position, test, choose, ◌>>=◌, ◌>>◌, ◌and_then◌, Spells, reading}
use Rattle.bit_grammar.proofs.Readings.Deciding.{reads, is_spelled, one_value}
use Rattle.bit_fields.specs.declared.fault.Fault.{Fault}
use Rattle.bit_fields.specs.declared.fault.Fault.TheVariants.{Refused, Read, Write, Memory, OutputTooLong, Failed}
use Rattle.bit_fields.specs.Reader.{Reader, Extent, Breaks, GoesOn, SpellsTo, Took, StopsReading, Loses, Why, Takes, IsOnly, failed_reader}
use Rattle.bit_fields.proofs.InflowLaws.{Spends-refl, Spends-trans, Spends-none, fails_later}

pub goes_on_both : (a b c : Reader) → GoesOn a b → GoesOn b c → GoesOn a c
goes_on_both a b c p q = Spends-trans a.incoming a.budget b.incoming b.budget c.incoming c.budget p q

pub stops_later : (a b c : Reader) → a.live ≡ true → GoesOn a b → StopsReading b c → StopsReading a c
stops_later a b c was p q = record { was_live = was; failed = q.failed; goes_on = goes_on_both a b c p q.goes_on }

pub loses_later : (a b c : Reader) → a.live ≡ true → GoesOn a b → Loses b c → Loses a c
loses_later a b c was p q = record { was_live = was; failed = q.failed; fails = fails_later a.incoming a.budget b.incoming b.budget c.incoming c.budget p q.fails }

-- a live reader that is made to fail
pub stops_here : (a : Reader) → a.live ≡ true → StopsReading a (failed_reader a)
stops_here a live = record { was_live = live; failed = refl; goes_on = Spends-none a.incoming a.budget a.incoming a.budget (Spends-refl a.incoming a.budget) }

-- ---- bits that spell a value

pub spells_nothing : {A : Type 0} (value : A) (p : ℕ) → SpellsTo (gives value) p value p
spells_nothing value p = ([], (refl, refl), omega arith)

-- what was read
pub spells_read : {A : Type 0} (rule : Grammar A) (p : ℕ) (r : List Bool) (value : A) (q : ℕ) (rest : List Bool) → reading rule p r ≡ Ok (value, q, rest) → SpellsTo rule p value q
spells_read rule p r value q rest read = (let own = is_spelled rule p r value q rest read in (own.0, own.3, own.2))

pub spells_then : {A B : Type 0} (rule : Grammar A) (after : A → Grammar B) (p q n : ℕ) (v : A) (w : B) → SpellsTo rule p v q → SpellsTo (after v) q w n → SpellsTo (rule >>= after) p w n
spells_then rule after p q n v w one two = (
  one.0 ++ two.0,
  (one.0, two.0, v, refl, one.1, subst (λ (k : ℕ). Spells (after v) k two.0 w) one.2 two.1),
  omega (arith, one.2, two.2, length-append one.0 two.0),
)

spells_same : {A : Type 0} (f h : Grammar A) (p : ℕ) (v : A) (q : ℕ) → ((p : ℕ) (r : List Bool) → reading f p r ≡ reading h p r) → SpellsTo f p v q → SpellsTo h p v q
spells_same f h p v q same one =
    let own = spells_read h p (one.0 ++ []) v (p + length one.0) [] (sym (same p (one.0 ++ [])) ∙ reads f p one.0 v [] one.1) in
    (own.0, own.1, one.2 ∙ own.2)

breaks_on : {A B : Type 0} (e : Extent) (first : Result (A × ℕ × List Bool) grammar.Fault) (next : A × ℕ × List Bool → Result (B × ℕ × List Bool) grammar.Fault) (reason : Reason) (bit : ℕ) → Breaks e first reason bit → Breaks e (first and_then next) reason bit
breaks_on e (Ok x) next reason bit b = absurd b
breaks_on e (Err x) next reason bit b = b

-- a call that did not succeed ends all that would follow it
pub fault_then : {A B : Type 0} (rule : Grammar A) (after : A → Grammar B) (a : Reader) (fault : Fault) (b : Reader) → Why rule a fault b → Why (rule >>= after) a fault b
fault_then rule after a (Refused reason bit) b why = (why.0, λ k. breaks_on a.extent (reading rule a.position a.left) (λ x. reading (after x.0) x.1 x.2) reason bit (why.1 k))
fault_then rule after a Read b why = why
fault_then rule after a Memory b why = why
fault_then rule after a Failed b why = why
fault_then rule after a Write b why = why
fault_then rule after a OutputTooLong b why = why

-- a call that succeeded, and what follows it
pub took_then : {A B : Type 0} (rule : Grammar A) (after : A → Grammar B) (a : Reader) (value : A) (b : Reader) (result : Result B Fault) (c : Reader) → Took rule a value b → Takes (after value) b result c → Takes (rule >>= after) a result c
took_then rule after a value b (Ok w) c t u = record {
  was_live = t.was_live;
  live = u.live;
  goes_on = goes_on_both a b c t.goes_on u.goes_on;
  forward = omega (arith, t.forward, u.forward);
  end = u.end ∙ t.end;
  limit = u.limit ∙ t.limit;
  extent = λ k. u.extent (t.goes_on.tells k) ∙ t.extent k;
  reads = λ k. rw (t.reads k) (u.reads (t.goes_on.tells k));
  spells = spells_then rule after a.position b.position c.position value w t.spells u.spells;
}
took_then rule after a value b (Err (Refused reason bit)) c t u = (
  stops_later a b c t.was_live t.goes_on u.0,
  λ k. rw (t.reads k) (subst (λ (e : Extent). Breaks e (reading (after value) b.position b.left) reason bit) (t.extent k) (u.1 (t.goes_on.tells k))),
)
took_then rule after a value b (Err Read) c t u = loses_later a b c t.was_live t.goes_on u
took_then rule after a value b (Err Memory) c t u = stops_later a b c t.was_live t.goes_on u
took_then rule after a value b (Err Failed) c t u = absurd (false≢true (sym u.0 ∙ t.live))
took_then rule after a value b (Err Write) c t u = absurd u
took_then rule after a value b (Err OutputTooLong) c t u = absurd u

-- ---- its position

-- a reader that has failed and is moved
stops_there : (a b : Reader) (place : ℕ) → StopsReading a b → StopsReading a (record b { position = place })
stops_there a b place s = record { was_live = s.was_live; failed = s.failed; goes_on = s.goes_on }

-- a reader that failed in a call is moved to where the call began; why it failed stays the same
pub back_there : {A : Type 0} (rule : Grammar A) (a : Reader) (fault : Fault) (b : Reader) (start : ℕ) (c : Reader) → Why rule a fault b → start ≡ a.position → (b.live ≡ false → c ≡ record b { position = start }) → Why rule a fault c
back_there rule a (Refused reason bit) b start c why here is = rw (is why.0.failed) (stops_there a b start why.0, why.1)
back_there rule a Read b start c why here is = rw (is why.failed) (record { was_live = why.was_live; failed = why.failed; fails = why.fails })
back_there rule a Memory b start c why here is = rw (is why.failed) (stops_there a b start why)
back_there rule a Failed b start c why here is = (why.0, is (ap (λ (r : Reader). r.live) why.1 ∙ why.0) ∙ ap (λ (r : Reader). record r { position = start }) why.1 ∙ ap (λ (p : ℕ). record a { position = p }) here)
back_there rule a Write b start c why here is = absurd why
back_there rule a OutputTooLong b start c why here is = absurd why

-- ---- parts of a rule that take no bits

pub took_nothing : {A : Type 0} (value : A) (a : Reader) → a.live ≡ true → Took (gives value) a value a
took_nothing value a live = record {
  was_live = live;
  live = live;
  goes_on = Spends-refl a.incoming a.budget;
  forward = omega arith;
  end = refl;
  limit = refl;
  extent = λ k. refl;
  reads = λ k. refl;
  spells = spells_nothing value a.position;
}

-- two rules that read the same
pub same_reading : {A : Type 0} (f h : Grammar A) (a : Reader) (result : Result A Fault) (b : Reader) → ((p : ℕ) (r : List Bool) → reading f p r ≡ reading h p r) → Takes f a result b → Takes h a result b
same_reading f h a (Ok value) b same t = record { was_live = t.was_live; live = t.live; goes_on = t.goes_on; forward = t.forward; end = t.end; limit = t.limit; extent = t.extent; reads = λ k. sym (same a.position a.left) ∙ t.reads k; spells = spells_same f h a.position value b.position same t.spells }
same_reading {A} f h a (Err (Refused reason bit)) b same t = (t.0, λ k. subst (λ (x : Result (A × ℕ × List Bool) grammar.Fault). Breaks a.extent x reason bit) (same a.position a.left) (t.1 k))
same_reading f h a (Err Read) b same t = t
same_reading f h a (Err Memory) b same t = t
same_reading f h a (Err Failed) b same t = t
same_reading f h a (Err Write) b same t = t
same_reading f h a (Err OutputTooLong) b same t = t

-- a rule that gets its position
pub from_here : {A : Type 0} (after : ℕ → Grammar A) (a : Reader) (result : Result A Fault) (b : Reader) → Takes (after a.position) a result b → Takes (position >>= after) a result b
from_here after a (Ok value) b t = record { was_live = t.was_live; live = t.live; goes_on = t.goes_on; forward = t.forward; end = t.end; limit = t.limit; extent = t.extent; reads = t.reads; spells = spells_then position after a.position a.position b.position a.position value ([], (refl, refl), omega arith) t.spells }
from_here after a (Err (Refused reason bit)) b t = t
from_here after a (Err Read) b t = t
from_here after a (Err Memory) b t = t
from_here after a (Err Failed) b t = t
from_here after a (Err Write) b t = t
from_here after a (Err OutputTooLong) b t = t

-- a judgement that holds, and what follows it
pub holds_then : {A : Type 0} (holds : Bool) (fault : grammar.Fault) (rule : Grammar A) (a : Reader) (result : Result A Fault) (b : Reader) → holds ≡ true → Takes rule a result b → Takes (test holds fault >> rule) a result b
holds_then holds fault rule a result b is t = same_reading rule (test holds fault >> rule) a result b (λ p r. rw is refl) t

-- which of two rules is read
pub first_chosen : {A : Type 0} (b : Bool) (yes_rule no_rule : Grammar A) (a : Reader) (result : Result A Fault) (c : Reader) → b ≡ true → Takes yes_rule a result c → Takes (choose b yes_rule no_rule) a result c
first_chosen b yes_rule no_rule a result c is t = same_reading yes_rule (choose b yes_rule no_rule) a result c (λ p r. rw is refl) t

pub second_chosen : {A : Type 0} (b : Bool) (yes_rule no_rule : Grammar A) (a : Reader) (result : Result A Fault) (c : Reader) → b ≡ false → Takes no_rule a result c → Takes (choose b yes_rule no_rule) a result c
second_chosen b yes_rule no_rule a result c is t = same_reading no_rule (choose b yes_rule no_rule) a result c (λ p r. rw is refl) t

-- ---- one value

taken_only : {A : Type 0} (rule : Grammar A) (p : ℕ) (left : List Bool) (value : A) (q : ℕ) (after : List Bool) → reading rule p left ≡ Ok (value, q, after) → (more s rest : List Bool) (v : A) → left ++ more ≡ s ++ rest → Spells rule p s v → (q ≡ p + length s) × (v ≡ value)
taken_only rule p left value q after e more s rest v parts spelled =
    let own = is_spelled rule p left value q after e in
    let all : own.0 ++ (after ++ more) ≡ s ++ rest = sym (append_assoc own.0 after more) ∙ ap (λ (t : List Bool). t ++ more) (sym own.1) ∙ parts in
    let one = one_value rule p own.0 s (after ++ more) rest value v all own.3 spelled in
    (own.2 ∙ ap (λ (t : List Bool). p + length t) one.0, sym one.1)

none_taken : {A : Type 0} (rule : Grammar A) (e : Extent) (p : ℕ) (left : List Bool) (reason : Reason) (bit : ℕ) → Breaks e (reading rule p left) reason bit → (s rest : List Bool) (v : A) → left ≡ s ++ rest → Spells rule p s v → ⊥
none_taken {A} rule e p left reason bit breaks s rest v parts spelled =
    subst (λ (x : Result (A × ℕ × List Bool) grammar.Fault). Breaks e x reason bit) (ap (reading rule p) parts ∙ reads rule p s v rest spelled) breaks

-- what a call took is the only value that the rule spells there
pub only : {A : Type 0} (rule : Grammar A) (a : Reader) (result : Result A Fault) (b : Reader) → Takes rule a result b → IsOnly rule a result b
only rule a (Ok value) b t = λ k more s rest v parts spelled. taken_only rule a.position a.left value b.position b.left (t.reads k) more s rest v parts spelled
only rule a (Err (Refused reason bit)) b t = λ k s rest v parts spelled. none_taken rule a.extent a.position a.left reason bit (t.1 k) s rest v parts spelled
only rule a (Err Read) b t = tt
only rule a (Err Memory) b t = tt
only rule a (Err Failed) b t = tt
only rule a (Err Write) b t = tt
only rule a (Err OutputTooLong) b t = tt
