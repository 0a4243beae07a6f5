-- The bytes of events, and what their source tells.
use Rattle.std.specs.Prelude.{◌≡◌, ⊤, true, ℕ, List, Some, None}
use Rattle.bit_fields.specs.Devices.{Account, keeping, Incoming}
use Rattle.bit_c.specs.declared.input_bytes.Bytes.{Bytes}
use Rattle.bit_c.specs.declared.input_bytes.Bytes.TheVariants.{Lent, Owned}

abbrev pub bytes_in : Bytes → List ℕ
bytes_in (Lent bytes) = bytes.now
bytes_in (Owned bytes) = bytes.items

-- Owned bytes are accounted for. Lent ones are not, so owned bytes that went into a source come out of it as owned bytes.
abbrev pub account_of : Bytes → Account
account_of (Lent bytes) = keeping true None
account_of (Owned bytes) = keeping true (Some bytes.items)

-- a source that has given none of its bytes
abbrev pub whole : List ℕ → List Account → Incoming
whole bytes accounts = record { to_come = Some bytes; pulls = 0; failures = 0; accounts = accounts }

-- owned bytes come back
abbrev pub ComesBack : Bytes → Bytes → Type 0
ComesBack (Lent old) new = ⊤
ComesBack (Owned old) (Lent new) = ⊥
ComesBack (Owned old) (Owned new) = new.items ≡ old.items
