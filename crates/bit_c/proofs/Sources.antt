-- The source of the bytes of events.
use Rattle.std.proofs.Common.{◌≡◌, ℕ, ◌+◌, ◌-◌, ◌^◌, ◌<◌, min, List, [], ◌∷◌, length, take, drop, Some, None, ◌++◌, refl, sym, ap, subst, ◌∙◌, arith}
use Rattle.std.proofs.lemmas.List.{take-append-drop, drop-drop, drop_all}
use Rattle.bit_grammar.specs.Blocks.{Limits}
use Rattle.bit_fields.specs.Devices.{Account, GaveUnseen, Incoming, SaysOf}
use Rattle.bit_fields.specs.declared.fault.Fault.{Fault}
use Rattle.bit_fields.specs.declared.fault.Fault.TheVariants as fault
use Rattle.bit_fields.proofs.Words.{front_passed}
use Rattle.bit_events.specs.Events.{DeclinesEvents}
use Rattle.bit_c.specs.Bytes.{ComesBack, account_of}
use Rattle.bit_c.specs.declared.input_bytes.Bytes.{Bytes}
use Rattle.bit_c.specs.declared.input_bytes.Bytes.TheVariants.{Lent, Owned}

-- the next bytes were skipped
pub passed : (bytes rest : List ℕ) (accounts : List Account) (given pulls most count : ℕ) → pulls < 2 ^ 64 - 1 → 0 < most → rest ≡ drop given bytes → count ≡ min most (length rest)
    → GaveUnseen (record { to_come = Some (drop given bytes); pulls = pulls; failures = 0; accounts = accounts }) (record { to_come = Some (drop (given + count) bytes); pulls = pulls + 1; failures = 0; accounts = accounts }) most count
passed bytes rest accounts given pulls most count fresh some is few =
    let left : drop count rest ≡ drop (given + count) bytes = ap (drop count) is ∙ drop-drop count given bytes in
    let split : drop given bytes ≡ take count rest ++ drop (given + count) bytes = sym is ∙ sym (take-append-drop count rest) ∙ ap (λ (s : List ℕ). take count rest ++ s) left in
    front_passed (record { to_come = Some (drop given bytes); pulls = pulls; failures = 0; accounts = accounts }) (record { to_come = Some (drop (given + count) bytes); pulls = pulls + 1; failures = 0; accounts = accounts }) rest most count
    (omega arith) refl refl split (λ none. sym left ∙ drop_all count rest (omega arith)) refl (omega arith) (omega arith)

-- ---- a source that comes back

-- a source that still accounts for owned bytes has them
accounted : (old new : Bytes) → ((n : ℕ) (all : List ℕ) → SaysOf (account_of old ∷ []) n all → SaysOf (account_of new ∷ []) n all) → ComesBack old new
unfolding SaysOf
accounted (Lent old) new h = tt
accounted (Owned old) (Lent new) h =
    let same : None ≡ Some old.items = h 0 old.items (λ _. refl) refl in
    absurd cc
accounted (Owned old) (Owned new) h =
    let same : Some new.items ≡ Some old.items = h 0 old.items (λ _. refl) refl in
    cc

accounts_kept : (limits : Limits) (i now : Incoming) (why : Fault) → DeclinesEvents limits i why now → (n : ℕ) (all : List ℕ) → SaysOf i.accounts n all → SaysOf now.accounts n all
accounts_kept limits i now (fault.Refused reason bit) h = h.0.accounts
accounts_kept limits i now fault.Read h = h.accounts
accounts_kept limits i now fault.Memory h = absurd h
accounts_kept limits i now fault.Failed h = absurd h
accounts_kept limits i now fault.Write h = absurd h
accounts_kept limits i now fault.OutputTooLong h = absurd h

-- owned bytes come back where their events were not begun
pub come_back : (limits : Limits) (i now : Incoming) (why : Fault) (old new : Bytes) → i.accounts ≡ account_of old ∷ [] → now.accounts ≡ account_of new ∷ [] → DeclinesEvents limits i why now → ComesBack old new
come_back limits i now why old new before after h =
    accounted old new (λ n all says. subst (λ (a : List Account). SaysOf a n all) after (accounts_kept limits i now why h n all (subst (λ (a : List Account). SaysOf a n all) (sym before) says)))
