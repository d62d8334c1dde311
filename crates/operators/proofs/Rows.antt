-- The signals common to the rows of a table that is gone through, and what calls tell of them.
use Rattle.std.proofs.Common.{◌≡◌, ℕ, ◌-◌, ◌^◌, ◌<◌, true, false, cond, ◌==◌, ◌⊎◌, List, [], ◌∷◌, ◌++◌, fold, append_assoc, sym, ap, ◌∙◌, inl, inr}
use lib.Bits.{bit_and}
use Rattle.std.proofs.lemmas.List.{append-nil}
use Rattle.std.proofs.lemmas.Bool.{cases_Bool, eq-eqb, eqb-true, true≢false, cond-true, cond-false}
use Rattle.theory.specs.Rows.{common}
use Rattle.theory.proofs.Rows.{common_push_in, common_push_out, signals_in_common, common_lt}
use Rattle.operators.specs.TableClosure.{Shared}

-- ---- the rows that contain a set, and what they have in common

-- what a row leaves of a word: the signals in common where it contains x, else the word
abbrev pub left_by : (x word row : ℕ) → ℕ
left_by x word row = cond (bit_and x row == x) (bit_and word row) word

-- one row more
common_pushed : (m x : ℕ) (done : List ℕ) (r : ℕ) → common m (done ++ r ∷ []) x ≡ left_by x (common m done x) r
common_pushed m x done r = at (cases_Bool (bit_and x r == x))
  where
    at : (bit_and x r == x ≡ true) ⊎ (bit_and x r == x ≡ false) → common m (done ++ r ∷ []) x ≡ left_by x (common m done x) r
    at (inl t) =
        common_push_in m x r done record { same = eqb-true (bit_and x r) x t }
        ∙ sym (cond-true (bit_and x r == x) (bit_and (common m done x) r) (common m done x) t)
    at (inr t) =
        common_push_out m x r done (λ p. true≢false (sym (eq-eqb (bit_and x r) x p.same) ∙ t))
        ∙ sym (cond-false (bit_and x r == x) (bit_and (common m done x) r) (common m done x) t)

-- what the rows that contain x have in common, one row after the other
common_fold : (m x : ℕ) (done rows : List ℕ) → fold (left_by x) (common m done x) rows ≡ common m (done ++ rows) x
common_fold m x done [] = ap (λ l. common m l x) (sym (append-nil done))
common_fold m x done (r ∷ rows) =
    ap (λ word. fold (left_by x) word rows) (sym (common_pushed m x done r))
    ∙ common_fold m x (done ++ r ∷ []) rows ∙ ap (λ l. common m l x) (append_assoc done (r ∷ []) rows)

pub common_folded : (m x : ℕ) (rows : List ℕ) → fold (left_by x) (2 ^ m - 1) rows ≡ common m rows x
common_folded m x rows = common_fold m x [] rows

-- ---- what calls tell of a table

-- the signals of the word that all rows have in common
shared : (m : ℕ) (rows : List ℕ) (x y : ℕ) → y ≡ common m rows x → Shared m rows x y
shared m rows x y e i h = rw e (signals_in_common m rows x i h)

-- the word of the rows' common signals
pub told_lt : {w m k : ℕ} (rows : List ℕ) (x : ℕ) → w ≡ common m rows x → k ≡ m → w < 2 ^ k
told_lt {m = m} rows x e k = rw (e, k) (common_lt m rows x)

pub told_word : {w v : ℕ} (m : ℕ) (rows : List ℕ) (x y : ℕ) → w ≡ v → v ≡ common m rows x → x ≡ y → w ≡ common m rows y
told_word m rows x y p q e = p ∙ q ∙ ap (common m rows) e

pub shared_at : {w k : ℕ} (m : ℕ) (rows : List ℕ) (x : ℕ) → w ≡ common m rows x → k ≡ m → Shared k rows x w
shared_at {w} m rows x e k = rw k (shared m rows x w e)
