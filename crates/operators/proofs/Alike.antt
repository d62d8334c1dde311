-- Words that have the same signals above a bit.
use Rattle.std.proofs.Common.{◌≡◌, ℕ, suc, ◌/◌, ◌^◌, ◌<◌, ◌≤◌, List, [], ◌∷◌, ◌++◌, take, drop, Some, None, Option, unwrap_or, sym, refl, ap, ◌∙◌, subst, arith, take-append-drop, pow_mono, MatchOption}
use native.Mathlib.Nat.{div-eq_of_lt}
use lib.Pow.{shr_mono}
use Rattle.operators.specs.Heeded.{of_width}
use Rattle.operators.specs.Trials.{Alike}
use Rattle.operators.proofs.Passes.{of_width_append}
use Rattle.sets.specs.declared.rule.Rule.{Rule}
use Rattle.theory.specs.Rules.{Implication, Trigger, fire, pass}
use Rattle.theory.specs.Words.{Sub}
use Rattle.theory.proofs.Lattice.{sub_le}
use Rattle.theory.proofs.Next.{shr_suc}
use Rattle.theory.proofs.Rules.{pass_extends}

-- above all bits of a word there is none
pub alike_high : (n bit a b : ℕ) → n ≤ suc bit → a < 2 ^ n → b < 2 ^ n → Alike bit a b
alike_high n bit a b h la lb =
    let p : 2 ^ n ≤ 2 ^ suc bit = pow_mono h in
    div-eq_of_lt (omega (arith, p, la)) ∙ sym (div-eq_of_lt (omega (arith, p, lb)))

-- as the code writes it
pub alike_halves : (bit a b : ℕ) → a / 2 ^ bit / 2 ≡ b / 2 ^ bit / 2 → Alike bit a b
alike_halves bit a b e = shr_suc a bit ∙ e ∙ sym (shr_suc b bit)

pub halves_alike : (bit a b : ℕ) → Alike bit a b → a / 2 ^ bit / 2 ≡ b / 2 ^ bit / 2
halves_alike bit a b e = sym (shr_suc a bit) ∙ e ∙ shr_suc b bit

-- what differs above the bit goes on to differ
pub unlike_later : (bit x y z : ℕ) → Sub x y → Sub y z → (Alike bit y x → ⊥) → Alike bit z x → ⊥
unlike_later bit x y z low high differs same = differs (omega (arith, shr_mono (suc bit) (sub_le low), shr_mono (suc bit) (sub_le high)))

-- a pass over the first rules lies inside the whole pass
pass_append : (t : Trigger) (rules more : List Implication) (y : ℕ) → pass t (rules ++ more) y ≡ pass t more (pass t rules y)
pass_append t [] more y = refl
pass_append t (rule ∷ rules) more y = pass_append t rules more (fire t rule y)

pub pass_front : (t : Trigger) (m : ℕ) (rules : List Rule) (i x : ℕ) → Sub (pass t (of_width m (take i rules)) x) (pass t (of_width m rules) x)
pass_front t m rules i x =
    let whole : pass t (of_width m rules) x ≡ pass t (of_width m (drop i rules)) (pass t (of_width m (take i rules)) x) =
    ap (λ rs. pass t (of_width m rs) x) (sym (take-append-drop i rules)) ∙ ap (λ rs. pass t rs x) (of_width_append m (take i rules) (drop i rules))
    ∙ pass_append t (of_width m (take i rules)) (of_width m (drop i rules)) x in
    subst (Sub (pass t (of_width m (take i rules)) x)) (sym whole) (pass_extends t (of_width m (drop i rules)) (pass t (of_width m (take i rules)) x))

-- a closure that brings no signal above the bit is the one found
pub found_value :
    (bit other start closed : ℕ) (found : Option ℕ) → other ≡ start
    → MatchOption found (Alike bit closed start → ⊥) (λ word. (word ≡ closed) × Alike bit word start) → Alike bit closed start
    → unwrap_or found other ≡ closed
found_value bit other start closed None _ told alike = absurd (told alike)
found_value bit other start closed (Some word) _ told alike = told.0
