-- Sets of signals as words.
--
--   signal   an attribute of formal concept analysis; a table of width m has the signals 0 to m - 1
--   width    the number m of signals
--   word     a number below 2 ^ m that stands for a set of signals
--   has      signal i belongs to the set: the bit of weight 2 ^ (m - 1 - i) of its word is 1
--   inside   each signal of the one set is a signal of the other
--   before   the lectic order of sets
use Rattle.std.specs.Prelude.{◌≡◌, ℕ, ◌-◌, ◌/◌, ◌%◌, ◌^◌, ◌<◌, ◌≢◌, ◌↔◌, bit_and}

-- the greatest width of a set
abbrev pub max_signals : ℕ
max_signals = 60

-- the bit of weight 2 ^ (m - 1 - i) of a word
abbrev pub bit_of : (m i word : ℕ) → ℕ
bit_of m i word = word / 2 ^ (m - 1 - i) % 2

-- signal i belongs to the set
abbrev pub Has : (m i word : ℕ) → Type 0
Has m i word = bit_of m i word ≡ 1

-- a lies inside b: what a has in common with b is a itself
pub record Sub (a b : ℕ) : Type 0 where
  pub same : bit_and a b ≡ a

-- a lies inside b and is not b
pub record Proper (a b : ℕ) : Type 0 where
  pub inside : Sub a b
  pub differs : a ≢ b

-- a comes before b: the lowest-numbered signal in which they differ belongs to b
pub record Before (m a b : ℕ) : Type 0 where
  pub at : ℕ
  pub low : at < m
  pub agree : (i : ℕ) → i < at → Has m i a ↔ Has m i b
  pub lacks : Has m at a → ⊥
  pub has : Has m at b
