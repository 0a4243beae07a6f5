use Rattle.std.proofs.Common.{◌≡◌, ◌≤◌, ℕ, ◌-◌, ◌++◌, List, replicate}
use Rattle.bit_grammar.specs.Blocks.{Limits}
use Rattle.bit_norm.specs.Telling.{Call, ends}
use Rattle.bit_text.specs.Stops.{IsTold}
use Rattle.bit_text.proofs.telling.close.Given as goal

abbrev pub invariant-loop : goal.invariant-loop
invariant-loop l = record {
  told : (limits : Limits) (magic : List ℕ) (calls : List Call) → IsTold limits magic calls l.fn.writer → IsTold limits magic (calls ++ replicate (l.counter - l.level) ends) l.writer;
  start : l.end ≤ l.level → l.counter ≡ l.level;
}
