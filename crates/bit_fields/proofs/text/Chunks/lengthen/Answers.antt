use Rattle.std.proofs.Common.{◌≡◌, ◌≤◌, ◌-◌, length, ap, arith, length-append}
use Rattle.std.proofs.Common.{replicate, ℕ}
use Rattle.std.proofs.lemmas.List.{length-replicate}
use Rattle.bit_fields.proofs.Texts.{longer_text, resized}
use Rattle.bit_fields.proofs.text.Chunks.lengthen.Goals as goal

pub returns-in_ok-resize-clause-is : goal.returns-in_ok-resize-clause-is
returns-in_ok-resize-clause-is c =
    let b = c.args.self.now in
    let n = c.max-len.result in
    let new = c.resize.new.self.items in
    let longer : b.last.len ≤ n = omega (arith, c.if-end-len.true, c.len.ensures, c.max-len.ensures) in
    let some : 64 ≤ n = omega (arith, c.max-len.ensures, c.clamp.ensures) in
    let few : n ≤ 1081344 = omega (arith, c.max-len.ensures, c.clamp.ensures, c.requires.few, c.requires.low) in
    let is = resized b.last.items new n b.last.len c.in_ok-resize.ensures.items (omega (arith, b.last.ok.0)) longer in
    let len : length new ≡ n = omega (arith, ap length is, length-append b.last.items (replicate (n - b.last.len) 0), length-replicate {A = ℕ} (n - b.last.len) 0, b.last.ok.0, longer) in
    longer_text b.full.items b.last.items new b.at (n - b.last.len) c.requires.is is (omega (arith, len, some)) (omega (arith, len, few))
