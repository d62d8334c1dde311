-- Pseudo-closed sets of a closure operator, and the Duquenne-Guigues base that they give.
--
--   pseudo-closed   said of a set that is not closed, and that contains the closure of each pseudo-closed proper part of it
--   base            the implications from each pseudo-closed set to its closure, in the lectic order of the premises
--   exact           said of a list of implications: it entails just what holds under the operator
use Rattle.std.specs.Prelude.{◌≡◌, ℕ, zero, suc, ◌^◌, ◌<◌, ◌≤◌, Bool, true, cond, not, ◌&&◌, ◌≢◌, ◌↔◌, List, [], ◌∷◌, ◌++◌, map, length, ◌==◌}
use mathlib.Core.List.{Memᴰ}
use Rattle.theory.specs.Words.{Sub, Proper}
use Rattle.theory.specs.Closures.{Listing}
use Rattle.theory.specs.Rules.{Implication, Within, close_s, Entails}

-- p is a set of m signals that is not closed, and contains the closure of each proper part with the property P
pub record PseudoOver (m : ℕ) (c : ℕ → ℕ) (P : ℕ → Type 0) (p : ℕ) : Type 0 where
  pub below : p < 2 ^ m
  pub not_closed : c p ≢ p
  pub parts : (q : ℕ) → P q → Proper q p → Sub (c q) p

-- the definition of pseudo-closed as it is stated, of a property P
abbrev pub PseudoAsStated : (m : ℕ) (c : ℕ → ℕ) (P : ℕ → Type 0) → Type 0
PseudoAsStated m c P = (p : ℕ) → P p ↔ PseudoOver m c P p

-- pseudo-closed among the words below n: the same by recursion, since a proper part is a smaller word
abbrev pub PseudoAt : (m : ℕ) (c : ℕ → ℕ) (n p : ℕ) → Type 0
PseudoAt m c zero p = ⊥
PseudoAt m c (suc n) p = PseudoOver m c (PseudoAt m c n) p

-- p is pseudo-closed
unfoldable pub Pseudo : (m : ℕ) (c : ℕ → ℕ) (p : ℕ) → Type 0
Pseudo m c p = PseudoAt m c (suc p) p

-- pseudo-closed is as it is stated, and no other test of sets is
pub record Textbook (m : ℕ) (c : ℕ → ℕ) : Type 0 where
  pub stated : PseudoAsStated m c (Pseudo m c)
  pub only : (test : ℕ → Bool) → PseudoAsStated m c (λ p. test p ≡ true) → (p : ℕ) → (test p ≡ true) ↔ Pseudo m c p

-- the implication from a set to its closure
abbrev pub rule_of : (c : ℕ → ℕ) (p : ℕ) → Implication
rule_of c p = record { premise = p; conclusion = c p }

-- the premises of a list of implications
abbrev pub premises : List Implication → List ℕ
premises rules = map (λ (rule : Implication). rule.premise) rules

-- the rules are those of all pseudo-closed words below hi, in the lectic order
pub record BaseUpto (m : ℕ) (c : ℕ → ℕ) (hi : ℕ) (rules : List Implication) : Type 0 where
  pub listed : Listing (Pseudo m c) 0 hi (premises rules)
  pub closures : (rule : Implication) → Memᴰ rule rules → rule.conclusion ≡ c rule.premise

-- the rules of the words below n, with that of n where n is closed under S over them and is not closed: the test of a pseudo-closed word
abbrev pub base_step : (m : ℕ) (c : ℕ → ℕ) (n : ℕ) (rules : List Implication) → List Implication
base_step m c n rules = cond (close_s m rules n == n && not (c n == n)) (rules ++ rule_of c n ∷ []) rules

-- the base of the words below n, by a test of each word
abbrev pub base_below : (m : ℕ) (c : ℕ → ℕ) (n : ℕ) → List Implication
base_below m c zero = []
base_below m c (suc n) = base_step m c n (base_below m c n)

-- the implication holds under c: the conclusion lies in the closure of the premise
abbrev pub HoldsUnder : (c : ℕ → ℕ) (premise conclusion : ℕ) → Type 0
HoldsUnder c premise conclusion = Sub conclusion (c premise)

-- the rules entail exactly the implications between sets of m signals that hold under c
abbrev pub Exact : (m : ℕ) (c : ℕ → ℕ) (rules : List Implication) → Type 0
Exact m c rules = (p q : ℕ) → p < 2 ^ m → q < 2 ^ m → Entails m rules p q ↔ HoldsUnder c p q

-- no exact list is shorter
abbrev pub Smallest : (m : ℕ) (c : ℕ → ℕ) (rules : List Implication) → Type 0
Smallest m c rules = (others : List Implication) → Within m others → Exact m c others → length rules ≤ length others
