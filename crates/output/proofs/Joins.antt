-- A loop that writes the bytes of one element after another.
use Rattle.std.proofs.Common.{◌≡◌, ℕ, ◌+◌, ◌<◌, ◌≤◌, List, [], ◌∷◌, ◌++◌, length, get_or, take, drop, sym, refl, ap, ◌∙◌, subst, append_assoc, arith, length-append}
use Rattle.std.specs.List.{flat_map}
use Rattle.std.proofs.lemmas.List.{take_more, take_all, flat_map_more, take-append-drop}
use Rattle.output.specs.Puts.{put_at}
use Rattle.output.proofs.Writing.{Wrote, wrote_more, wrote_room}

pub joined_append : {X : Type 0} (f : X → List ℕ) (xs ys : List X) → flat_map f (xs ++ ys) ≡ flat_map f xs ++ flat_map f ys
joined_append f [] ys = refl
joined_append f (x ∷ xs) ys = ap (λ zs. f x ++ zs) (joined_append f xs ys) ∙ sym (append_assoc (f x) (flat_map f xs) (flat_map f ys))

-- one element more
pub joined_step : {X : Type 0} (f : X → List ℕ) (xs : List X) (i : ℕ) (d : X) → i < length xs → flat_map f (take (i + 1) xs) ≡ flat_map f (take i xs) ++ f (get_or xs i d)
joined_step f xs i d lt = ap (flat_map f) (take_more xs i d lt) ∙ sym (flat_map_more f [] (take i xs) (get_or xs i d))

-- what is joined so far is no longer than all
pub joined_front : {X : Type 0} (f : X → List ℕ) (xs : List X) (i : ℕ) → length (flat_map f (take i xs)) ≤ length (flat_map f xs)
joined_front f xs i =
    let all : length (flat_map f xs) ≡ length (flat_map f (take i xs)) + length (flat_map f (drop i xs)) =
    ap (λ ys. length (flat_map f ys)) (sym (take-append-drop i xs)) ∙ ap length (joined_append f (take i xs) (drop i xs)) ∙ length-append (flat_map f (take i xs)) (flat_map f (drop i xs)) in
    omega arith

pub step_front : {X : Type 0} (f : X → List ℕ) (xs : List X) (i : ℕ) (d : X) (from n : ℕ) → i < length xs → from + length (flat_map f xs) ≤ n → from + length (flat_map f (take i xs) ++ f (get_or xs i d)) ≤ n
step_front f xs i d from n lt room = subst (λ ys. from + length ys ≤ n) (joined_step f xs i d lt) (omega (arith, joined_front f xs (i + 1)))

-- there is room for the next element
pub step_room : {X : Type 0} (f : X → List ℕ) (xs : List X) (i : ℕ) (d : X) (from : ℕ) (before after : List ℕ) (end : ℕ) → i < length xs → from + length (flat_map f xs) ≤ length before
    → Wrote from (flat_map f (take i xs)) before after end → end + length (f (get_or xs i d)) ≤ length after
step_room f xs i d from before after end lt room w = wrote_room from (flat_map f (take i xs)) (f (get_or xs i d)) before after end w (step_front f xs i d from _ lt room)

-- the next element is written
pub step_wrote : {X : Type 0} (f : X → List ℕ) (xs : List X) (i : ℕ) (d : X) (from : ℕ) (before after later : List ℕ) (end next : ℕ) → i < length xs → from + length (flat_map f xs) ≤ length before
    → Wrote from (flat_map f (take i xs)) before after end → next ≡ end + length (f (get_or xs i d)) → later ≡ put_at end (f (get_or xs i d)) after
    → Wrote from (flat_map f (take (i + 1) xs)) before later next
step_wrote f xs i d from before after later end next lt room w e put =
    subst (λ ys. Wrote from ys before later next) (sym (joined_step f xs i d lt))
    (wrote_more from (flat_map f (take i xs)) (f (get_or xs i d)) before after later end next w (step_front f xs i d from _ lt room) e put)

-- all are written
pub all_wrote : {X : Type 0} (f : X → List ℕ) (xs : List X) (i : ℕ) (from : ℕ) (before after : List ℕ) (end : ℕ) → length xs ≤ i
    → Wrote from (flat_map f (take i xs)) before after end → Wrote from (flat_map f xs) before after end
all_wrote f xs i from before after end le w = subst (λ ys. Wrote from (flat_map f ys) before after end) (take_all i xs le) w
