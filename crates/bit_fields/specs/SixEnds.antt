-- Where numbers in chunks of six bits end, in the low 54 bits of a word: nine whole chunks.
use Rattle.std.specs.Prelude.{◌≡◌, ℕ, zero, suc, ◌+◌, ◌*◌, ◌/◌, ◌%◌, ◌<◌, Bool, true, false, eqb, List, [], ◌∷◌}

-- the top bit of each of k chunks
abbrev pub tops : ℕ → ℕ
tops zero = 0
tops (suc k) = tops k * 64 + 32

-- of the first k chunks of a word, which ones end a number
abbrev pub lasts : (k word : ℕ) → List Bool
lasts zero word = []
lasts (suc k) word = eqb (word / 32 % 2) 0 ∷ lasts k (word / 64)

-- the first `chunks` chunks are `count` numbers
abbrev pub Runs : List Bool → (count chunks : ℕ) → Type 0
Runs ends count zero = count ≡ 0
Runs [] count (suc chunks) = ⊥
Runs (true ∷ ends) count (suc chunks) = (others : ℕ) × (count ≡ suc others) × Runs ends others chunks
Runs (false ∷ ends) count (suc chunks) = (0 < chunks) × Runs ends count chunks

-- this many numbers end in the first chunks of a word, the last one with these bits. The first one may have begun before the word.
pub record EndsWith (word count bits : ℕ) : Type 0 where
  pub chunks : ℕ
  pub is : bits ≡ 6 * chunks
  pub runs : Runs (lasts 9 word) count chunks
