use Rattle.std.proofs.Common.{◌≡◌, ◌∙◌, List, [], ℕ, refl, sym, codes}
use Rattle.std.proofs.lemmas.Str.Pattern.{ends_text, starts_text}
use Rattle.std.specs.List.{ends_with, starts_with}
use Rattle.std.specs.Prelude.{◌≢◌, nat_eq}
use Rattle.clap.specs.declared.error.kind.ErrorKind.{ErrorKind}
use Rattle.clap.specs.declared.error.kind.ErrorKind.TheVariants.{InvalidSubcommand, UnknownArgument, ValueValidation}
use Rattle.bitstool.specs.Words.{no_number, tip_of}
use Rattle.bitstool.proofs.parse.tip_of.Goals as goal

-- the front of a text about an option
abbrev option : List ℕ
option = codes "error: unexpected argument '--"

-- other kinds have no tip
others : (kind : ErrorKind) (text : List ℕ) → kind ≢ UnknownArgument → kind ≢ InvalidSubcommand → kind ≢ ValueValidation → [] ≡ tip_of kind text
others InvalidSubcommand text a b d = absurd (b refl)
others UnknownArgument text a b d = absurd (a refl)
others ValueValidation text a b d = absurd (d refl)
others kind text a b d = refl

pub returns-else-ends_with : goal.returns-else-ends_with
returns-else-ends_with c =
    let is : ends_with nat_eq c.args.text.now no_number ≡ c.ends_with.result = sym (ends_text c.ends_with.result no_number c.args.text.now c.ends_with.ensures.cases) in
    rw (c.in-ValueValidation.is, is ∙ c.if-ends_with.false) refl

pub returns-else-starts_with : goal.returns-else-starts_with
returns-else-starts_with c =
    let is : starts_with nat_eq c.args.text.now option ≡ c.starts_with.result = sym (starts_text c.starts_with.result option c.args.text.now c.starts_with.ensures.cases) in
    rw (c.in-UnknownArgument.is, is ∙ c.if-starts_with.false) refl
