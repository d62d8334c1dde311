-- Implications between sets, and the closures that a list of them gives.
--
--   implication   a premise and a conclusion, both sets
--   trigger       when an implication fires in a set: where the premise lies inside the set, or where it is a proper part of the set
--   keeps         said of a set in which each implication that fires has its conclusion inside the set
--   entails       said of a list of implications: the conclusion lies in the closure of the premise
use Rattle.std.specs.Prelude.{ℕ, zero, suc, ◌^◌, ◌<◌, Bool, cond, not, ◌&&◌, List, [], ◌∷◌, ◌==◌, bit_and, bit_or}
use mathlib.Core.List.{Memᴰ}
use Rattle.theory.specs.Words.{Sub, Proper}

-- a premise and a conclusion
pub record Implication : Type 0 where
  pub premise : ℕ
  pub conclusion : ℕ

-- an implication fires where its premise lies inside the set, or only where it is a proper part of the set
pub data Trigger : Type 0 where
  inside : Trigger
  proper : Trigger

-- a premise fires in the set y
abbrev pub Fires : Trigger → (premise y : ℕ) → Type 0
Fires inside premise y = Sub premise y
Fires proper premise y = Proper premise y

-- y keeps the implication: where the premise fires in y, the conclusion lies inside y
abbrev pub Keeps : Trigger → Implication → (y : ℕ) → Type 0
Keeps t rule y = Fires t rule.premise y → Sub rule.conclusion y

-- y keeps every implication of the list
abbrev pub KeepsAll : Trigger → List Implication → (y : ℕ) → Type 0
KeepsAll t rules y = (rule : Implication) → Memᴰ rule rules → Keeps t rule y

-- each conclusion is a set of m signals
abbrev pub Within : (m : ℕ) → List Implication → Type 0
Within m rules = (rule : Implication) → Memᴰ rule rules → rule.conclusion < 2 ^ m

-- y is the least set that contains x and keeps every implication
pub record LeastKeeping (t : Trigger) (m : ℕ) (rules : List Implication) (x y : ℕ) : Type 0 where
  pub below : y < 2 ^ m
  pub contains : Sub x y
  pub keeps : KeepsAll t rules y
  pub least : (z : ℕ) → z < 2 ^ m → Sub x z → KeepsAll t rules z → Sub y z

-- the test of Fires
abbrev pub fires : Trigger → (premise y : ℕ) → Bool
fires inside premise y = bit_and premise y == premise
fires proper premise y = bit_and premise y == premise && not (premise == y)

-- y, with the conclusion where the premise fires in y
abbrev pub fire : Trigger → Implication → (y : ℕ) → ℕ
fire t rule y = cond (fires t rule.premise y) (bit_or y rule.conclusion) y

-- every implication of the list once, in order
abbrev pub pass : Trigger → List Implication → (y : ℕ) → ℕ
pass t [] y = y
pass t (rule ∷ rules) y = pass t rules (fire t rule y)

-- n passes
abbrev pub passes : Trigger → List Implication → (n y : ℕ) → ℕ
passes t rules zero y = y
passes t rules (suc n) y = passes t rules n (pass t rules y)

-- the closure of x under the implications: m passes
abbrev pub close : Trigger → (m : ℕ) (rules : List Implication) (x : ℕ) → ℕ
close t m rules x = passes t rules m x

-- the closure R: implications fire where the premise lies inside the set
abbrev pub close_r : (m : ℕ) (rules : List Implication) (x : ℕ) → ℕ
close_r = close inside

-- the closure S: implications fire only where the premise is a proper part of the set
abbrev pub close_s : (m : ℕ) (rules : List Implication) (x : ℕ) → ℕ
close_s = close proper

-- the implications entail the one from premise to conclusion
abbrev pub Entails : (m : ℕ) (rules : List Implication) (premise conclusion : ℕ) → Type 0
Entails m rules premise conclusion = Sub conclusion (close_r m rules premise)
