use Rattle.std.proofs.Common.{◌∙◌, ap, ap₂}
use Rattle.std.proofs.lemmas.Result.{IfOk-weaker}
use Rattle.clap.specs.Words.{App, with_subcommand}
use Rattle.bitstool.proofs.Found.{third_denied}
use Rattle.bitstool.proofs.parse.command.Goals as goal

pub returns : goal.returns
returns c =
    let check = c.in_ok-check.ensures in
    let normal = c.in_ok-normal.ensures in
    let same = c.in_ok-same.ensures in
    let analyse = c.in_ok-analyse.ensures in
    let show = c.in_ok-show.ensures in
    let events = c.in_ok-events.ensures in
    let assemble = c.in_ok-assemble.ensures in
    let base = c.in_ok-above.ensures in
    let first = c.in_ok-subcommand.ensures.shape (third_denied _ _ _ _ (ap (λ (a : App). a.top.is_plain) check))
    ∙ ap₂ with_subcommand base (ap (λ (a : App). a.top) check) in
    let second = c.in_ok-subcommand-2.ensures.shape (third_denied _ _ _ _ (ap (λ (a : App). a.top.is_plain) normal))
    ∙ ap₂ with_subcommand first (ap (λ (a : App). a.top) normal) in
    let third = c.in_ok-subcommand-3.ensures.shape (third_denied _ _ _ _ (ap (λ (a : App). a.top.is_plain) same))
    ∙ ap₂ with_subcommand second (ap (λ (a : App). a.top) same) in
    let fourth = c.in_ok-subcommand-4.ensures.shape (third_denied _ _ _ _ (ap (λ (a : App). a.top.is_plain) analyse))
    ∙ ap₂ with_subcommand third (ap (λ (a : App). a.top) analyse) in
    let fifth = c.in_ok-subcommand-5.ensures.shape (third_denied _ _ _ _ (ap (λ (a : App). a.top.is_plain) show))
    ∙ ap₂ with_subcommand fourth (ap (λ (a : App). a.top) show) in
    let sixth = c.in_ok-subcommand-6.ensures.shape (third_denied _ _ _ _ (ap (λ (a : App). a.top.is_plain) events))
    ∙ ap₂ with_subcommand fifth (ap (λ (a : App). a.top) events) in
    IfOk-weaker c.subcommand-7.result _ _ (λ r h. h.shape (third_denied _ _ _ _ (ap (λ (a : App). a.top.is_plain) assemble))
    ∙ ap₂ with_subcommand sixth (ap (λ (a : App). a.top) assemble)) c.subcommand-7.ensures
