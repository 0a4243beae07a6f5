use Rattle.bit_text.proofs.Shown.{shown_read, shown_form, shown_never_refused}
use Rattle.bit_text.proofs.laws.shown_assembled.Goals as goal

pub returns : goal.returns
returns c = record { reads = shown_read; form = shown_form; taken = shown_never_refused }
