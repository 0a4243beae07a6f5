-- A record of few values that is read at once.
use Rattle.std.proofs.Common.{◌≡◌, ℕ, ◌-◌, ◌^◌, ◌<◌, ◌≤◌, List, ◌∷◌, None, length, sym, ap, ◌∙◌, subst, arith}
use Rattle.bit_grammar.proofs.Bits.Numbers.{pow_mono}
use Rattle.bit_grammar.specs.Blocks.{Handed, Limits, entry}
use Rattle.bit_grammar.specs.Fields.{fixed}
use Rattle.bit_grammar.specs.Machine as machine
use Rattle.bit_grammar.specs.Machine.{step_of}
use Rattle.bit_grammar.specs.Terms.{CodeAndValues}
use Rattle.bit_fields.specs.Buffered.{BufferedBits, Reads, beyond, reader_at}
use Rattle.bit_fields.specs.Reader.{Took}
use Rattle.bit_abbrev.proofs.Buffered.{took_at}
use Rattle.bit_events.specs.declared.frame.Frame.{Frame}
use Rattle.bit_events.specs.FrameView.{frame_shown, info_shown}
use Rattle.bit_events.specs.MachineView.{record_of}
use Rattle.bit_events.specs.Runs.{after_record}
use Rattle.bit_events.proofs.PlacedHeads.{field_below}
use Rattle.bit_events.proofs.Runs.{record_seen}

-- the bits after its id have this record, so it is the next step
pub few_seen : (limits : Limits) (f : Frame) (used room width id len code : ℕ) (list : List ℕ) (a fields c : BufferedBits) → f.info ≡ None → 3 ≤ id → width ≡ f.head.width → room ≡ limits.values - used → Reads (fixed width) a id (beyond a width) → fields ≡ beyond a width → c ≡ beyond fields len → Reads (entry room a.position id f.definitions.all) fields (record { code = code; values = list }) (beyond fields len)
    → (outer : List machine.Frame) (handed : Handed) → handed.used ≡ used → Reads (step_of limits (frame_shown f ∷ outer) handed) a (record_of id list a.position (code, c.position), after_record (frame_shown f) outer handed list) c
few_seen limits f used room width id len code list a fields c plain most width_is room_is id_seen fields_is c_is seen = λ outer handed same.
    let value : CodeAndValues = record { code = code; values = list } in
    let here : room ≡ limits.values - handed.used = room_is ∙ ap (λ (u : ℕ). limits.values - u) (sym same) in
    let head : Reads (fixed f.head.width) a id fields = subst (λ (w : ℕ). Reads (fixed w) a id fields) width_is (subst (Reads (fixed width) a id) (sym fields_is) id_seen) in
    let rule = entry room a.position id f.definitions.all in
    let took = took_at rule fields value c (subst (Reads rule fields value) (sym c_is) seen) in
    record_seen limits (frame_shown f) outer handed id code list a fields c (ap info_shown plain) most head (subst (λ (r : ℕ). Took (entry r a.position id f.definitions.all) (reader_at fields) value (reader_at c)) here took)

-- an id fits 32 bits
pub id_fits : (width id : ℕ) (a b : BufferedBits) → width ≤ 32 → width ≤ length a.bits → Reads (fixed width) a id b → id < 2 ^ 32
id_fits width id a b most there seen =
    let wide : 2 ^ width ≤ 2 ^ 32 = pow_mono width 32 most in
    let below : id < 2 ^ width = field_below width id a b there seen in
    omega (arith, wide, below)
