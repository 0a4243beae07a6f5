use Rattle.std.proofs.Common.{◌≡◌, ◌∙◌, ap, subst, not}
use Rattle.std.proofs.lemmas.Result.{on_ok_weaker}
use Rattle.bit_grammar.specs.Terms.{defined_at}
use Rattle.bit_abbrev.specs.declared.builder.InfoBuilder.TheInside.{Inside}
use Rattle.bit_abbrev.specs.Ready.{InfoMade, later_list, table_of}
use Rattle.bit_abbrev.proofs.Tables.{none_later, ready_more, later_more}
use Rattle.bit_abbrev.proofs.builder.InfoBuilder.define.Goals as goal
use Rattle.bit_abbrev.proofs.builder.InfoBuilder.define.Goals.{else-is_none-via-then-is_none+else-take, else-is_none-via-else-is_none}

pub returns-then-take-clause-made : goal.returns-then-take-clause-made
returns-then-take-clause-made c =
    let new = c.add_ready.new.groups.items in
    let later = later_list c.self.inside.later in
    let none = none_later c.self.inside.later (c.is_none.ensures ∙ ap not c.if-is_none.true) in
    subst (λ (old : InfoMade). table_of (record { ready = new; later = later }) ≡ defined_at c.args.id c.args.«abbrev» (table_of old.made)) c.self.view_is
    (ready_more c.self.inside.groups.items new later c.args.id c.args.«abbrev» none c.in_ok-self-inside.ensures.ok)

pub returns-clause-made : goal.returns-clause-made
returns-clause-made c =
    let kept : (c.else-is_none.self-inside.groups ≡ c.self.inside.groups) × (c.else-is_none.self-inside.later ≡ c.self.inside.later) = elim c.else-is_none.branch [
      | else-is_none-via-then-is_none+else-take w ↦ (ap (λ (i : Inside). i.groups) w.self-inside-is, ap (λ (i : Inside). i.later) w.self-inside-is)
      | else-is_none-via-else-is_none w ↦ (ap (λ (i : Inside). i.groups) w.self-inside-is, ap (λ (i : Inside). i.later) w.self-inside-is)
    ] in
    on_ok_weaker c.add_later.result (λ more.
    let new = later_list c.add_later.new.later in
    let longer = rw kept.1 at more in
    subst (λ (old : InfoMade). table_of (record { ready = c.else-is_none.self-inside.groups.items; later = new }) ≡ defined_at c.args.id c.args.«abbrev» (table_of old.made)) c.self.view_is
    (rw kept.0 (later_more c.self.inside.groups.items (later_list c.self.inside.later) new c.args.id c.args.«abbrev» longer))) c.add_later.ensures.list
