-- The rows of a table kept by columns, in blocks of 64 rows.
--
--   bit      of a word: the bit of weight 2 ^ k
--   block    64 rows that follow one another, or those that are left at the end
--   column   of a block: for one k, the bits of weight 2 ^ k of its rows, as the bits of one word
--   extent   in a block: the rows that contain a set, as the bits of one word
use Rattle.std.specs.Prelude.{◌≡◌, ℕ, ◌*◌, ◌/◌, ◌%◌, ◌^◌, ◌<◌, ◌≤◌, ◌↔◌, List, [], length, take, drop, bit_and, bit_xor, slice_index, slice_index_or, Some, None, Option}
use Rattle.theory.specs.Words.{Sub}

-- the greatest number of rows
abbrev pub max_rows : ℕ
max_rows = 512

-- the rows of a block
abbrev pub block_rows : ℕ
block_rows = 64

-- the bits of a word
abbrev pub word_bits : ℕ
word_bits = 64

-- the bit of weight 2 ^ k of a word
abbrev pub bit_at : (word k : ℕ) → ℕ
bit_at word k = word / 2 ^ k % 2

-- a bit that a word has, with the word of its other bits, or none of the word 0
abbrev pub TakesBit : (word : ℕ) → Option ℕ → (others : ℕ) → Type 0
TakesBit word None others = (word ≡ 0) × (others ≡ word)
TakesBit word (Some k) others = (k < word_bits) × (bit_at word k ≡ 1) × (others ≡ bit_xor word (2 ^ k))

-- the word is the column k of the rows of a block
abbrev pub Column : (rows : List ℕ) (k word : ℕ) → Type 0
Column rows k word = (s : ℕ) → s < length rows → bit_at word s ≡ bit_at (slice_index rows s) k

-- the columns of a block, one for each of m bits
abbrev pub Turned : (m : ℕ) (rows columns : List ℕ) → Type 0
Turned m rows columns = (k : ℕ) → k < m → Column rows k (slice_index columns k)

-- the rows of block b
abbrev pub block : (rows : List ℕ) (b : ℕ) → List ℕ
block rows b = take block_rows (drop (b * block_rows) rows)

-- the columns of the rows, block after block
abbrev pub TurnedBlocks : (m : ℕ) (rows : List ℕ) (blocks : List (List ℕ)) → Type 0
TurnedBlocks m rows blocks = (b : ℕ) → b * block_rows < length rows → Turned m (block rows b) (slice_index_or blocks b [])

-- the rows of a block that contain a set
abbrev pub Extent : (rows : List ℕ) (set extent : ℕ) → Type 0
Extent rows set extent = (s : ℕ) → s < word_bits → (bit_at extent s ≡ 1) ↔ ((s < length rows) × Sub set (slice_index rows s))

-- each row of the extent is in the column
abbrev pub Covered : (extent column : ℕ) → Type 0
Covered extent column = bit_and extent column ≡ extent

-- the word has just those bits of another that pass a test
abbrev pub Sifted : (Passes : ℕ → Type 0) (start word : ℕ) → Type 0
Sifted Passes start word = (k : ℕ) → (bit_at word k ≡ 1) ↔ ((bit_at start k ≡ 1) × Passes k)

-- some rows of an extent are taken, those left not yet: the word has the bits of another that the taken rows all have
pub record Taken (rows : List ℕ) (extent start left word : ℕ) : Type 0 where
  pub most : left ≤ extent
  pub some : (s : ℕ) → bit_at left s ≡ 1 → bit_at extent s ≡ 1
  pub less : Sub word start
  pub inside : (s : ℕ) → bit_at extent s ≡ 1 → bit_at left s ≡ 0 → Sub word (slice_index rows s)
  pub around : (x : ℕ) → Sub x start → ((s : ℕ) → bit_at extent s ≡ 1 → Sub x (slice_index rows s)) → Sub x word
