-- A tray that keeps its memory.
use Rattle.std.proofs.Common.{◌-◌, sym, ap, ◌≡◌, ℕ, ◌+◌, ◌≤◌, List, length, drop, ◌∙◌, arith}
use Rattle.std.proofs.lemmas.List.{drop-drop}
use Rattle.tray.specs.declared.Tray.{Tray}
use Rattle.tray.specs.Tray.{Kept, entries}

-- what is equal from a place on is equal from a later place on
drop_later : {X : Type 0} (n k : ℕ) (xs ys : List X) → n ≤ k → drop n xs ≡ drop n ys → drop k xs ≡ drop k ys
drop_later n k xs ys le e =
    let sum : n + (k - n) ≡ k = omega arith in
    ap (λ i. drop i xs) (sym sum) ∙ sym (drop-drop (k - n) n xs) ∙ ap (drop (k - n)) e ∙ drop-drop (k - n) n ys ∙ ap (λ i. drop i ys) sum

-- one call after another, the later of which takes no entry out
pub kept_later : {T : Type 0} (first middle last : Tray T) → Kept first middle → Kept middle last → length (entries middle) ≤ length (entries last) → Kept first last
kept_later first middle last early late le =
    record {
      size = late.size ∙ early.size;
      past = late.past ∙ drop_later (length (entries middle)) (length (entries last)) middle.memory.now first.memory.now le early.past;
      link = late.link ∙ early.link;
    }

-- a tray that was cleared before
pub kept_cleared :
    {T : Type 0} (before cleared after : Tray T) → cleared.memory.now ≡ before.memory.now → cleared.memory.ghost_name ≡ before.memory.ghost_name
    → Kept cleared after → Kept before after
kept_cleared before cleared after same link kept =
    record {
      size = kept.size ∙ ap length same;
      past = kept.past ∙ ap (drop (length (entries after))) same;
      link = kept.link ∙ link;
    }
