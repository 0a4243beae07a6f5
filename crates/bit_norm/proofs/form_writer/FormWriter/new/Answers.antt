use Rattle.std.proofs.Common.{◌<◌, ◌^◌, ◌≢◌, ℕ, refl, subst}
use Rattle.bit_grammar.specs.Forest.{wrapper_magic}
use Rattle.bit_norm.proofs.form_writer.FormWriter.new.Goals as goal

pub returns : goal.returns
returns c = record {
  nothing = record {
    first = c.new-builder.result;
    keeps = c.new-builder.ensures.setting;
    limits = c.new-builder.ensures.limits;
    form = c.new-builder.ensures.form;
    place = refl;
    live = refl;
    fit = tt;
    small = subst (λ (n : ℕ). n < 2 ^ 32) c.number_of_magic.ensures.magic c.number_of_magic.ensures.fits;
    bare = subst (λ (n : ℕ). n ≢ wrapper_magic) c.number_of_magic.ensures.magic c.if-number_of_magic-eq-WRAPPER_MAGIC.false;
    capped = c.bytes-bytes.ensures.capped;
  };
  of_magic = refl;
  under = refl;
}
