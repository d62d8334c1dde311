-- The first byte that a name may not have, as the first position at which a test passes.
use Rattle.std.proofs.Common.{Option, ◌≡◌, ℕ, ◌+◌, ◌≤◌, Bool, true, false, not, cond, List, [], ◌∷◌, length, Some, refl, sym, ap, ◌∙◌}
use Rattle.std.specs.Option.{option_map}
use Rattle.std.specs.List.{position, position_from}
use Rattle.std.proofs.lemmas.Bool.{cond-true, and_from, le-leb}
use Rattle.std.proofs.lemmas.Iterator.Adapters.{position_from-zero}
use Rattle.table.specs.Names.{name_byte, wrong_from, wrong_byte_of}

cond_not : {A B : Type 0} (f : A → B) (b : Bool) (x : B) (y z : A) → x ≡ f z → cond b x (f y) ≡ f (cond (not b) y z)
cond_not f true x y z e = e
cond_not f false x y z e = refl

from_position : (n : ℕ) (xs : List ℕ) → wrong_from (n + 1) xs ≡ option_map (λ i. i + 1) (position_from (λ b. not (name_byte b)) n xs)
from_position n [] = refl
from_position n (x ∷ xs) = cond_not (option_map (λ i. i + 1)) (name_byte x) _ (Some n) _ (from_position (n + 1) xs)

-- in bytes that are as many as a name has, its number is one more than its position
pub wrong_counted : (xs : List ℕ) (found : Option ℕ) → found ≡ position (λ b. not (name_byte b)) xs → 1 ≤ length xs → length xs ≤ 40 → wrong_byte_of xs ≡ option_map (λ i. i + 1) found
wrong_counted xs found e some few =
    cond-true _ _ _ (and_from _ _ (le-leb 1 (length xs) some) (le-leb (length xs) 40 few))
    ∙ from_position 0 xs
    ∙ ap (option_map (λ i. i + 1)) (sym (e ∙ position_from-zero (λ b. not (name_byte b)) xs))
