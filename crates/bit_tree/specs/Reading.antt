-- Facts about a tree that was read.
use Rattle.std.specs.Prelude.{ℕ, List}
use Rattle.bit_grammar.specs.Setting.{Setting}
use Rattle.bit_grammar.specs.Forest.{Tree, Fit}
use Rattle.bit_grammar.specs.Blocks.{Limits}
use Rattle.bit_grammar.specs.Normal.{HasTree}

-- the bytes spell a marked tree with this tree under a setting, and the tree is fit
abbrev pub HasFit : Setting → Limits → List ℕ → Tree → Type 0
HasFit setting limits bytes tree = HasTree setting limits bytes tree × Fit tree
