-- What the calls of sets and rules tell.
--
--   fit        a width and a word that make a set
--   inside     of one width, and each signal of the first is one of the second
--   precedes   of one width, and the first comes before the second in the lectic order
use Rattle.std.specs.Prelude.{◌≡◌, ℕ, ◌^◌, ◌<◌, ◌≤◌}
use Rattle.sets.specs.declared.set.Set.{Set}
use Rattle.theory.specs.Words.{max_signals, Has, Before}

-- the width is at most the limit, and the word has no bit past the width
pub record Fit (width word : ℕ) : Type 0 where
  pub narrow : width ≤ max_signals
  pub below : word < 2 ^ width

-- the signal belongs to the set
pub record HasSignal (s : Set) (signal : ℕ) : Type 0 where
  pub in_width : signal < s.width
  pub has : Has s.width signal s.word

-- every signal of a is one of b
pub record Inside (a b : Set) : Type 0 where
  pub same : a.width ≡ b.width
  pub signals : (i : ℕ) → i < a.width → Has a.width i a.word → Has b.width i b.word

-- a comes before b in the lectic order
pub record Precedes (a b : Set) : Type 0 where
  pub same : a.width ≡ b.width
  pub before : Before a.width a.word b.word
