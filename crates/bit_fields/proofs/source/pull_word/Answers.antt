use Rattle.bit_fields.proofs.Words.{word_unseen}
use Rattle.bit_fields.proofs.source.pull_word.Goals as goal

pub returns-in-Some : goal.returns-in-Some
returns-in-Some g c = word_unseen (g.S.Source.incoming c.args.source.now) (g.S.Source.incoming c.eight_buffered.new.source) (g.S.Source.incoming c.pass.new.self) c.in-Some.eight c.args.room c.word_of.result c.in_ok-count.count
    c.in_ok-eight.ensures.looked (rw c.in-Some.is at c.in_ok-eight.ensures.front) (rw c.in-Some.is at c.in_ok-eight.ensures.long) c.requires.some c.requires.few c.in_ok-count.ensures c.word_of.ensures.below c.word_of.ensures.bits
