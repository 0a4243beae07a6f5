-- Events that are lent.
use Rattle.std.proofs.Common.{◌≡◌, ◌≤◌, ℕ, List, Option, vec_len, refl, sym, subst, arith}
use Rattle.bit_grammar.specs.declared.op.Op.{Op}
use Rattle.bit_grammar.specs.Blocks.{Limits}
use Rattle.bit_grammar.specs.Machine.{Event, enters, defines, notes, leaves}
use Rattle.bit_grammar.specs.Steps.{open_after}
use Rattle.bit_fields.specs.Reader.{Reader, StopsReading, failed_reader}
use Rattle.bit_fields.proofs.InflowLaws.{Spends-none}
use Rattle.bit_events.specs.declared.machine.Machine.{Machine}
use Rattle.bit_events.specs.declared.machine.Step.{Step}
use Rattle.bit_events.specs.declared.machine.Step.TheVariants as found
use Rattle.bit_events.specs.MachineView.{step_shown, HoldsDefinition, IsDefine}
use Rattle.bit_events.specs.Next.{FindsEvent}

same_event : (n : Machine) (made : Option (List Op)) (list : List ℕ) (step : Step) → step_shown (record n { made = made }) list step ≡ step_shown n list step
same_event n made list (found.Enter body first id width) = refl
same_event n made list (found.Define first after) = refl
same_event n made list (found.Record head) = refl
same_event n made list (found.Leave after) = refl

held_again : (n : Machine) (made : Option (List Op)) (event : Event) → HoldsDefinition n event → HoldsDefinition (record n { made = made }) event
held_again n made (defines mark) h = h
held_again n made (enters opened) h = tt
held_again n made (notes mark) h = tt
held_again n made (leaves after) h = tt

-- an event that was found, and its definition was made anew
pub remade : (limits : Limits) (m : Machine) (a : Reader) (n new : Machine) (list : List ℕ) (step : Step) (b : Reader) → (made : Option (List Op)) × (new ≡ record n { made = made }) → FindsEvent limits m a (step_shown n list step) n b → FindsEvent limits m a (step_shown new list step) new b
remade limits m a n new list step b (made, is) finds =
    let event = step_shown n list step in
    let same : FindsEvent limits m a event (record n { made = made }) b = record {
      was_live = finds.was_live;
      live = finds.live;
      pays = finds.pays;
      leaves = record { stands = finds.leaves.stands; opens = finds.leaves.opens; forward = finds.leaves.forward; aligned = finds.leaves.aligned; holds = held_again n made event finds.leaves.holds };
      position = finds.position;
      told = finds.told;
      leads = record { bits = finds.leads.bits; leads = finds.leads.leads; position = finds.leads.position; end = finds.leads.end; limit = finds.leads.limit };
    } in
    subst (λ (x : Machine). FindsEvent limits m a (step_shown x list step) x b) (sym is) (subst (λ (e : Event). FindsEvent limits m a e (record n { made = made }) b) (sym (same_event n made list step)) same)

-- a definition opens no block
pub none_opened : (m n new : Machine) (list : List ℕ) (step : Step) → IsDefine step → (made : Option (List Op)) × (new ≡ record n { made = made }) → vec_len n.frames ≡ open_after (step_shown n list step) (vec_len m.frames) → vec_len new.frames ≤ vec_len m.frames
none_opened m n new list (found.Enter body first id width) is made opens = absurd is
none_opened m n new list (found.Define first after) is (made, same) opens = rw same (omega (arith, opens))
none_opened m n new list (found.Record head) is made opens = absurd is
none_opened m n new list (found.Leave after) is made opens = absurd is

pub not_lent : (limits : Limits) (m : Machine) (a : Reader) (event : Event) (n : Machine) (b : Reader) → FindsEvent limits m a event n b → StopsReading a (failed_reader b)
not_lent limits m a event n b finds = record { was_live = finds.was_live; failed = refl; goes_on = Spends-none a.incoming a.budget b.incoming b.budget finds.pays }
