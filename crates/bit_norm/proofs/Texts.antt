-- The parts of a normal form.
use Rattle.std.proofs.Common.{◌≡◌, ℕ, ◌+◌, ◌/◌, ◌%◌, ◌^◌, ◌<◌, ◌≤◌, Bool, true, List, [], ◌∷◌, ◌++◌, length, get_or, drop, Err, refl, sym, ap, ◌∙◌, subst, arith, append_assoc, length-append, drop-cons, add-one}
use Rattle.std.proofs.lemmas.List.{drop_all, append-nil}
use Rattle.bit_grammar.specs.Bits.{bits_of}
use Rattle.bit_grammar.specs.FormatFields.{shortest}
use Rattle.bit_grammar.specs.Forest.{Forest, empty, Tree, AreBlocks}
use Rattle.bit_grammar.specs.Normal.{Text, put, chain, values_bits, head_text, end_text, normal, normal_form}
use Rattle.bit_grammar.specs.Size.{body_length, size_of}
use Rattle.bit_grammar.proofs.NormalForms.Sizes.{body_is, form_end, size_is}
use Rattle.bit_grammar.proofs.NormalForms.Texts.{head_length, body_aligned}
use Rattle.bit_fields.specs.declared.fault.Fault.{Fault}
use Rattle.bit_fields.specs.Writer.{Writer, Wrote, Writes}
use Rattle.bit_tree.specs.TreeView.{put_item, put_block, forest_of_items, forest_of_blocks}
use Rattle.bit_tree.specs.declared.tree.Block.{Block}
use Rattle.bit_tree.specs.declared.tree.Item.{Item}
use Rattle.bit_tree.specs.declared.tree.Record.{Record}
use Rattle.bit_tree.specs.declared.tree.Item.TheVariants as item
use Rattle.bit_tree.proofs.Placing.{item_placed, block_placed}
use Rattle.bit_norm.specs.Writing.{record_text, whole_block, HasRoom}
use Rattle.bit_norm.proofs.Going.{Goes, goes_starts, goes_as, goes_on, goes_wrong, goes_ends, room_for}

-- ---- values

values_next : (vs : List ℕ) (i : ℕ) → i < length vs → values_bits (drop i vs) ≡ shortest 6 (get_or vs i 0) ++ values_bits (drop (i + 1) vs)
values_next vs i h = rw add-one (ap values_bits (drop-cons vs i 0 h))

-- the values from a place on are the one there and those after it
pub next_value : (whole : List Bool) (old now : Writer) (vs : List ℕ) (i : ℕ) → i < length vs → Goes whole old (put (values_bits (drop i vs))) now → Goes whole old (chain (put (shortest 6 (get_or vs i 0))) (put (values_bits (drop (i + 1) vs)))) now
next_value whole old now vs i h g = goes_as whole old (put (values_bits (drop i vs))) _ now (values_next vs i h) g

pub no_value : (vs : List ℕ) (i : ℕ) → length vs ≤ i → values_bits (drop i vs) ≡ []
no_value vs i h = ap values_bits (drop_all i vs h)

-- ---- items

abbrev pub item_text : Item → Text
item_text (item.Block b) = whole_block b.id b.items
item_text (item.Record r) = record_text r.code r.values

normal_put : (x : Item) (rest : Forest) (p : ℕ) → normal (put_item x rest) p ≡ chain (item_text x) (normal rest) p
unfolding normal
normal_put (item.Block b) rest p = refl
normal_put (item.Record r) rest p = refl

normal_block : (b : Block) (rest : Forest) (p : ℕ) → normal (put_block b rest) p ≡ chain (whole_block b.id b.items) (normal rest) p
unfolding normal
normal_block b rest p = refl

nothing : (f : Forest) (p : ℕ) → f ≡ empty → normal f p ≡ []
unfolding normal
nothing f p is = ap (λ (g : Forest). normal g p) is

-- the items from a place on are the one there and those after it
next_item : (whole : List Bool) (old now : Writer) (items : List Item) (i : ℕ) (x : Item) → i < length items → x ≡ get_or items i x → Goes whole old (normal (forest_of_items (drop i items))) now
    → Goes whole old (chain (item_text x) (normal (forest_of_items (drop (i + 1) items)))) now
next_item whole old now items i x h is g =
    let rest = forest_of_items (drop (i + 1) items) in
    goes_as whole old (normal (forest_of_items (drop i items))) (chain (item_text x) (normal rest)) now (ap (λ (f : Forest). normal f now.position) (item_placed items i x h is) ∙ normal_put x rest now.position) g

-- one that is a block
pub next_in_items : (whole : List Bool) (old now : Writer) (items : List Item) (i : ℕ) (x : Item) (b : Block) → i < length items → x ≡ get_or items i x → x ≡ item.Block b → Goes whole old (normal (forest_of_items (drop i items))) now
    → Goes whole old (chain (whole_block b.id b.items) (normal (forest_of_items (drop (i + 1) items)))) now
next_in_items whole old now items i x b h is block g =
    subst (λ (y : Item). Goes whole old (chain (item_text y) (normal (forest_of_items (drop (i + 1) items)))) now) block (next_item whole old now items i x h is g)

-- one that is a record, with this code and these values
pub next_record : (whole : List Bool) (old now : Writer) (items : List Item) (i : ℕ) (x : Item) (r : Record) (code : ℕ) (values : List ℕ) → i < length items → x ≡ get_or items i x → x ≡ item.Record r → code ≡ r.code → values ≡ r.values
    → Goes whole old (normal (forest_of_items (drop i items))) now → Goes whole old (chain (record_text code values) (normal (forest_of_items (drop (i + 1) items)))) now
next_record whole old now items i x r code values h is record_is code_is values_is g =
    rw (code_is, values_is)
    (subst (λ (y : Item). Goes whole old (chain (item_text y) (normal (forest_of_items (drop (i + 1) items)))) now) record_is (next_item whole old now items i x h is g))

pub no_item : (items : List Item) (i p : ℕ) → length items ≤ i → normal (forest_of_items (drop i items)) p ≡ []
no_item items i p h = nothing (forest_of_items (drop i items)) p (ap forest_of_items (drop_all i items h))

-- so are the blocks
pub next_block : (whole : List Bool) (old now : Writer) (blocks : List Block) (i : ℕ) (b : Block) → i < length blocks → b ≡ get_or blocks i b → Goes whole old (normal (forest_of_blocks (drop i blocks))) now
    → Goes whole old (chain (whole_block b.id b.items) (normal (forest_of_blocks (drop (i + 1) blocks)))) now
next_block whole old now blocks i b h is g =
    let rest = forest_of_blocks (drop (i + 1) blocks) in
    goes_as whole old (normal (forest_of_blocks (drop i blocks))) (chain (whole_block b.id b.items) (normal rest)) now (ap (λ (f : Forest). normal f now.position) (block_placed blocks i b h is) ∙ normal_block b rest now.position) g

pub no_block : (blocks : List Block) (i p : ℕ) → length blocks ≤ i → normal (forest_of_blocks (drop i blocks)) p ≡ []
no_block blocks i p h = nothing (forest_of_blocks (drop i blocks)) p (ap forest_of_blocks (drop_all i blocks h))

-- ---- a block

-- what comes before its body
abbrev pub front_text : (id words : ℕ) → Text
front_text id words = chain (put (bits_of 2 1)) (head_text id words)

-- its body
abbrev pub body_text : Forest → Text
body_text inner = chain (normal inner) end_text

-- the body of a block has the same length at any position
body_has : (id : ℕ) (inner : Forest) (q : ℕ) → length (body_text inner (q + length (head_text id 0 q))) ≡ body_length inner
body_has id inner q = let k = body_aligned id q in ap (λ x. length (body_text inner x)) k.1 ∙ body_is inner k.0

-- a block is what comes before its body, with the words of the body, and the body
block_parts : (id : ℕ) (inner : Forest) (p : ℕ) → whole_block id inner p ≡ chain (front_text id (body_length inner / 32)) (body_text inner) p
block_parts id inner p =
    let q = p + length (bits_of 2 1) in
    let body = body_text inner (q + length (head_text id 0 q)) in
    let words = body_length inner / 32 in
    let counted : length body / 32 ≡ words = ap (λ n. n / 32) (body_has id inner q) in
    let place : q + length (head_text id 0 q) ≡ p + length (front_text id words p) = omega (arith, head_length id words q, length-append (bits_of 2 1) (head_text id words q)) in
    ap (λ n. bits_of 2 1 ++ (head_text id n q ++ body)) counted ∙ sym (append_assoc (bits_of 2 1) (head_text id words q) body) ∙ ap (λ n. front_text id words p ++ body_text inner n) place

-- the body of a block that fits the writer's room is short enough
words_fit : (id : ℕ) (inner : Forest) (w : Writer) → HasRoom w (whole_block id inner w.position) → body_length inner < 2 ^ 37
words_fit id inner w room =
    let q = w.position + length (bits_of 2 1) in
    let body = body_text inner (q + length (head_text id 0 q)) in
    let head = head_text id (length body / 32) q in
    omega (arith, room.fits, body_has id inner q, length-append (bits_of 2 1) (head ++ body), length-append head body)

-- a block was begun, with the words of its body counted
block_starts : (id : ℕ) (inner : Forest) (w : Writer) (words : ℕ) → HasRoom w (whole_block id inner w.position) → (body_length inner < 2 ^ 63 → words ≡ body_length inner / 32)
    → Goes (whole_block id inner w.position) w (chain (front_text id words) (body_text inner)) w
block_starts id inner w words room counted =
    let is : words ≡ body_length inner / 32 = counted (omega (arith, words_fit id inner w room)) in
    subst (λ n. Goes (whole_block id inner w.position) w (chain (front_text id n) (body_text inner)) w) (sym is)
    (goes_as (whole_block id inner w.position) w (whole_block id inner) (chain (front_text id (body_length inner / 32)) (body_text inner)) w (block_parts id inner w.position) (goes_starts (whole_block id inner) w room))

module _ (id : ℕ) (inner : Forest) (w : Writer) (words : ℕ) (room : HasRoom w (whole_block id inner w.position)) (counted : body_length inner < 2 ^ 63 → words ≡ body_length inner / 32) where
  pub front_fits : HasRoom w (front_text id words w.position)
  front_fits = room_for (whole_block id inner w.position) w (front_text id words) (body_text inner) w (block_starts id inner w words room counted)

  pub words_fit_field : words < 2 ^ 32
  words_fit_field = omega (arith, words_fit id inner w room, counted (omega (arith, words_fit id inner w room)))

  pub front_lost : (new : Writer) (fault : Fault) → Writes (front_text id words w.position) w (Err fault) new → Writes (whole_block id inner w.position) w (Err fault) new
  front_lost new fault lost = goes_wrong (whole_block id inner w.position) w (front_text id words) (body_text inner) w new fault (block_starts id inner w words room counted) lost

  -- its body is left
  pub after_front : (a : Writer) → Wrote w (front_text id words w.position) a → Goes (whole_block id inner w.position) w (body_text inner) a
  after_front a wrote = goes_on (whole_block id inner w.position) w (front_text id words) (body_text inner) w a (block_starts id inner w words room counted) wrote

-- ---- the whole

pub are_blocks : (blocks : List Block) → AreBlocks (forest_of_blocks blocks)
are_blocks [] = tt
are_blocks (b ∷ blocks) = are_blocks blocks

-- the magic, the blocks, and nothing more
abbrev pub from_blocks : Tree → Text
from_blocks tree = chain (normal tree.blocks) (put [])

form_parts : (tree : Tree) (p : ℕ) → p ≡ 0 → normal_form tree ≡ chain (put (bits_of 32 tree.magic)) (from_blocks tree) p
unfolding normal_form
form_parts tree p begins =
    ap (λ q. chain (put (bits_of 32 tree.magic)) (normal tree.blocks) q) (sym begins)
    ∙ ap (λ (s : List Bool). bits_of 32 tree.magic ++ s) (sym (append-nil (normal tree.blocks (p + length (bits_of 32 tree.magic)))))

form_starts : (tree : Tree) (w : Writer) → w.position ≡ 0 → HasRoom w (normal_form tree) → Goes (normal_form tree) w (chain (put (bits_of 32 tree.magic)) (from_blocks tree)) w
form_starts tree w begins room =
    let same = form_parts tree w.position begins in
    record {
      room = subst (λ (s : List Bool). HasRoom w s) same room;
      completes = λ r new writes. subst (λ (s : List Bool). Writes s w r new) (sym same) writes;
    }

-- the magic is not written
pub magic_lost : (tree : Tree) (w a : Writer) (n : ℕ) (fault : Fault) → n ≡ tree.magic → w.position ≡ 0 → HasRoom w (normal_form tree) → Writes (bits_of 32 n) w (Err fault) a → Writes (normal_form tree) w (Err fault) a
magic_lost tree w a n fault is begins room lost =
    goes_wrong (normal_form tree) w (put (bits_of 32 tree.magic)) (from_blocks tree) w a fault (form_starts tree w begins room) (subst (λ m. Writes (bits_of 32 m) w (Err fault) a) is lost)

-- it is written, and the blocks are left
pub after_magic : (tree : Tree) (w a : Writer) (n : ℕ) → n ≡ tree.magic → w.position ≡ 0 → HasRoom w (normal_form tree) → Wrote w (bits_of 32 n) a → Goes (normal_form tree) w (from_blocks tree) a
after_magic tree w a n is begins room wrote =
    goes_on (normal_form tree) w (put (bits_of 32 tree.magic)) (from_blocks tree) w a (form_starts tree w begins room) (subst (λ m. Wrote w (bits_of 32 m) a) is wrote)

-- the blocks are written too
pub after_blocks : (tree : Tree) (w a b : Writer) (f : Forest) → f ≡ tree.blocks → Goes (normal_form tree) w (from_blocks tree) a → Wrote a (normal f a.position) b → Goes (normal_form tree) w (put []) b
after_blocks tree w a b f is g wrote = goes_on (normal_form tree) w (normal tree.blocks) (put []) a b g (subst (λ (h : Forest). Wrote a (normal h a.position) b) is wrote)

-- a whole form ends at a whole byte
pub form_ends : (tree : Tree) (w now : Writer) → AreBlocks tree.blocks → w.position ≡ 0 → Goes (normal_form tree) w (put []) now → now.position % 8 ≡ 0
form_ends tree w now blocks begins g =
    let wrote : Wrote w (normal_form tree) now = goes_ends (normal_form tree) w (put []) now refl g in
    omega (arith, wrote.position, begins, size_is tree blocks)

pub form_fits : (tree : Tree) (w : Writer) → w.live ≡ true → w.position ≡ 0 → size_of tree ≤ 17179869180 → HasRoom w (normal_form tree)
unfolding size_of
form_fits tree w live begins few = record { live = live; fits = omega (arith, form_end tree) }
