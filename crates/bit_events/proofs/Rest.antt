-- The rest of an input that is read event by event, as it is gathered.
use Rattle.std.proofs.Common.{◌≡◌, ℕ, Bool, true, List, [], Option, Ok, refl, sym, subst}
use Rattle.std.proofs.lemmas.List.{append-nil}
use Rattle.bit_grammar.specs.Blocks.{Limits}
use Rattle.bit_grammar.specs.Machine.{Event}
use Rattle.bit_fields.specs.declared.head.Head.{Head}
use Rattle.bit_fields.specs.Reader.{Reader}
use Rattle.bit_fields.proofs.InflowLaws.{Spends-refl}
use Rattle.bit_events.specs.declared.machine.Machine.{Machine}
use Rattle.bit_events.specs.declared.machine.Step.{Step}
use Rattle.bit_events.specs.Events.{coming_of, IsEvents}
use Rattle.bit_events.specs.Folding.{EndsGathered, GathersRest}

-- all had been gathered before
pub rest_over : {G : Type 0} (gathered : G → List Event → G → Type 0) (fails : G → Option Event → G → Type 0) (is_over : Bool) (limits : Limits) (head : Head) (m : Machine) (vs : List ℕ) (found : Option Step) (place : ℕ) (a : Reader) (g : G) → is_over ≡ true → IsEvents is_over limits m found place a
    → GathersRest gathered fails (coming_of is_over limits head m vs found place a) g (Ok tt) (coming_of is_over limits head m vs found place a) g
rest_over gathered fails is_over limits head m vs found place a g e events =
    let closed = events.closed e in
    subst (λ (x : Bool). EndsGathered gathered (coming_of x limits head m vs found place a) g (coming_of x limits head m vs found place a) g) (sym e) record {
      events = [];
      held_on = λ was. cc;
      ends = refl;
      pays = Spends-refl a.incoming a.budget;
      head = refl;
      none_open = closed.frames;
      told = λ tells. refl;
      over_told = refl;
      none = λ went tells. absurd cc;
      gathers = λ first done was count. subst (λ (es : List Event). gathered first es g) (sym (append-nil done)) was;
    }
