-- Closure operators on sets of signals, and lists of closed sets.
--
--   closure        an operator c that gives each set one that contains it, larger sets for larger sets, and changes nothing when applied again
--   closed         equal to its own closure
--   least closed   first in the lectic order among the closed sets that do not come before a given set
--   listing        all sets of a kind within bounds, each once, in the lectic order
use Rattle.std.specs.Prelude.{◌≡◌, ℕ, zero, suc, ◌^◌, ◌<◌, ◌≤◌, cond, List, [], ◌∷◌, ◌++◌, ◌==◌}
use mathlib.Core.List.{Memᴰ}
use Rattle.theory.specs.Words.{max_signals, Sub}

-- c is a closure operator on the sets of m signals
pub record Closure (m : ℕ) (c : ℕ → ℕ) : Type 0 where
  pub narrow : m ≤ max_signals
  pub below : (x : ℕ) → x < 2 ^ m → c x < 2 ^ m
  pub extends : (x : ℕ) → x < 2 ^ m → Sub x (c x)
  pub grows : (x y : ℕ) → x < 2 ^ m → y < 2 ^ m → Sub x y → Sub (c x) (c y)
  pub settles : (x : ℕ) → x < 2 ^ m → c (c x) ≡ c x

-- x is its own closure
abbrev pub Closed : (c : ℕ → ℕ) (x : ℕ) → Type 0
Closed c x = c x ≡ x

-- x is the least closed set not before `from`
pub record LeastClosed (m : ℕ) (c : ℕ → ℕ) (from x : ℕ) : Type 0 where
  pub below : x < 2 ^ m
  pub above : from ≤ x
  pub closed : Closed c x
  pub least : (y : ℕ) → y < 2 ^ m → from ≤ y → Closed c y → x ≤ y

-- each word of the list is smaller than all that follow it
abbrev pub Rising : List ℕ → Type 0
Rising [] = Unit {0}
Rising (x ∷ xs) = ((y : ℕ) → Memᴰ y xs → x < y) × Rising xs

-- xs are all words with the property Q that are at least `from` and less than `upto`, each once, rising
pub record Listing (Q : ℕ → Type 0) (from upto : ℕ) (xs : List ℕ) : Type 0 where
  pub rising : Rising xs
  pub above : (x : ℕ) → Memᴰ x xs → from ≤ x
  pub below : (x : ℕ) → Memᴰ x xs → x < upto
  pub sound : (x : ℕ) → Memᴰ x xs → Q x
  pub all : (x : ℕ) → from ≤ x → x < upto → Q x → Memᴰ x xs

-- the closed words below n, in the lectic order
abbrev pub closed_below : (c : ℕ → ℕ) (n : ℕ) → List ℕ
closed_below c zero = []
closed_below c (suc n) = cond (c n == n) (closed_below c n ++ n ∷ []) (closed_below c n)
