-- What calls tell: of a set that is read, and of a word reckoned over the rules that count.
use Rattle.std.proofs.Common.{◌≡◌, ℕ, ◌^◌, ◌<◌, ◌≤◌, Bool, true, false, List, length, get_or, min, take, Decides, sym, refl, ap, ◌∙◌, subst, arith, pow_mono, Option, unwrap_or, MatchOption}
use Rattle.std.proofs.lemmas.Bool.{false≢true}
use Rattle.std.proofs.lemmas.List.{take_all}
use Rattle.std.specs.Bool.{MatchBool}
use Rattle.std.specs.List.{AllWithin, HoldsAt}
use Rattle.sets.specs.declared.rule.Rule.{Rule}
use Rattle.sets.specs.declared.set.Set.{Set}
use Rattle.sets.specs.Set.{Inside}
use Rattle.sets.proofs.Told.{inside_sub, sub_inside}
use Rattle.theory.specs.Rules.{Trigger, LeastKeeping, close, close_r}
use Rattle.theory.proofs.Rules.{close_least}
use Rattle.operators.specs.Entailment.{EntailedBy}
use Rattle.theory.specs.Rows.{Holds}
use Rattle.theory.specs.Words.{Sub, max_signals}
use Rattle.operators.specs.Trials.{Alike}
use Rattle.operators.proofs.Alike.{alike_high, found_value}
use Rattle.theory.proofs.Members.{mem_get_d, mem_place}
use Rattle.operators.specs.Heeded.{max_rules, of_width, of_width_within, heeded}

-- ---- a set that is read

pub word_of : {n : ℕ} {a b : Set} → n ≡ a.word → a ≡ b → n ≡ b.word
word_of e s = e ∙ ap (λ x. x.word) s

pub width_of : {n : ℕ} {a b : Set} → n ≡ a.width → a ≡ b → n ≡ b.width
width_of e s = e ∙ ap (λ x. x.width) s

pub set_below : {n w : ℕ} (set : Set) → n ≡ set.width → w ≡ set.word → w < 2 ^ n
set_below set e k = rw (e, k) set.below

-- ---- the front of a list

pub take_least : {X : Type 0} (most n : ℕ) (xs : List X) → n ≡ min (length xs) most → take n xs ≡ take most xs
take_least most n xs e = grind (arith, take_all)

-- ---- a word that is reckoned

pub set_close :
    (t : Trigger) {w m k x y : ℕ} (rules : List Rule) → w ≡ close t m (of_width m rules) x → m ≡ k → x ≡ y → w ≡ close t k (of_width k rules) y
set_close t rules e a b = cc

-- and the least word that keeps the rules
pub close_told :
    (t : Trigger) {w k y : ℕ} (rules : List Rule) → w ≡ close t k (heeded k rules) y → y < 2 ^ k → LeastKeeping t k (heeded k rules) y w
close_told t {w} {k} {y} rules e h = rw e (close_least t k (heeded k rules) (of_width_within k (take max_rules rules)) y h)

-- no signal is above all bits, so that the word is found
pub least_found :
    (t : Trigger) (rules : List Rule) (set : Set) (other : ℕ) (found : Option ℕ) → other ≡ set.word
    → MatchOption found (Alike max_signals (close t set.width (heeded set.width rules) set.word) set.word → ⊥)
    (λ word. (word ≡ close t set.width (heeded set.width rules) set.word) × Alike max_signals word set.word)
    → unwrap_or found other ≡ close t set.width (heeded set.width rules) set.word
least_found t rules set other found same told =
    let closed = close t set.width (heeded set.width rules) set.word in
    let wide : 2 ^ set.width ≤ 2 ^ max_signals = pow_mono set.narrow in
    let low = (close_least t set.width (heeded set.width rules) (of_width_within set.width (take max_rules rules)) set.word set.below).below in
    found_value 60 other set.word closed found same told
    (alike_high 60 60 closed set.word (omega arith) (omega (arith, low, wide)) (omega (arith, set.below, wide)))

-- the test of the conclusion against the closure of the premise
pub decides_entailed :
    {b : Bool} {m : ℕ} {list : List Rule} (rules : List Rule) (premise conclusion closed : Set) → Decides b (Inside conclusion closed)
    → closed.width ≡ premise.width → m ≡ premise.width → list ≡ rules → closed.word ≡ close_r m (heeded m list) premise.word
    → Decides b (EntailedBy rules premise conclusion)
decides_entailed {m = m} {list = list} rules premise conclusion closed d w k l e =
    let same : closed.word ≡ close_r premise.width (heeded premise.width rules) premise.word =
    e ∙ ap (λ n. close_r n (heeded n list) premise.word) k ∙ ap (λ l. close_r premise.width (heeded premise.width l) premise.word) l in (
      λ t. let i = d.0 t in record { same = sym (i.same ∙ w); entailed = rw same at (inside_sub conclusion closed i) },
      λ f. d.1 (sub_inside conclusion closed (sym f.same ∙ sym w) (rw same f.entailed)),
    )

-- ---- rows that are tested one by one

abbrev pub Passes : (premise conclusion row : ℕ) → Type 0
Passes premise conclusion row = Sub premise row → Sub conclusion row

-- each row passed, or one failed
pub all_hold :
    (rows : List ℕ) (premise conclusion : ℕ) (r : Bool)
    → MatchBool r (AllWithin (Passes premise conclusion) rows 0 (length rows))
    ((k : ℕ) × (k < length rows) × HoldsAt (λ row. Passes premise conclusion row → ⊥) rows k)
    → Decides r (Holds rows premise conclusion)
all_hold rows premise conclusion true all = (
  λ _ r p s. let place = mem_place rows 0 p in
      subst (Sub conclusion) place.2 (all place.0 0 (omega arith) place.1 (subst (Sub premise) (sym place.2) s)),
  λ _. refl,
)
all_hold rows premise conclusion false one =
    (λ e. absurd (false≢true e), λ h. absurd (one.2 0 (h (get_or rows one.0 0) (mem_get_d rows one.0 0 one.1))))
