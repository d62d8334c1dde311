-- Pages of lists: the lines of the entries one after another, and the page around them.
use Rattle.std.specs.Prelude.{◌≡◌, ℕ, ◌+◌, true, cond, List, [], ◌∷◌, ◌++◌, length, Ok, Err, Result, nat_le}
use Rattle.std.specs.List.{AllByRecursion}
use Rattle.output.specs.declared.faults.OutputFault.TheVariants.{Full}
use Rattle.page.specs.Pages.{Line, fits_before, reserve}
use Rattle.page.specs.declared.faults.PageFault.{PageFault}
use Rattle.page.specs.declared.faults.PageFault.TheVariants.{Output as OfOutput}

-- how an entry is shown: by the names of the signals, at a place of its list
abbrev pub Showing : Type 0 → Type 0
Showing E = E → List (List ℕ) → ℕ → Line

-- every entry is of the width that its page shows
abbrev pub Fits : {E : Type 0} (shown : Showing E) (names : List (List ℕ)) → List E → Type 0
Fits shown names xs = AllByRecursion (λ x. (n : ℕ) → (shown x names n).same_width ≡ true) xs

-- the lines of entries, from a place on
abbrev pub lines_of : {E : Type 0} (shown : Showing E) (names : List (List ℕ)) (place : ℕ) → List E → List ℕ
lines_of shown names place [] = []
lines_of shown names place (x ∷ xs) = (shown x names place).bytes ++ lines_of shown names (place + 1) xs

-- a page: its head, its lines and its foot
abbrev pub page_of : (head lines last : List ℕ) → List ℕ
page_of head lines last = (head ++ lines) ++ last

-- a page at position `at`, if there is room for its head and lines before the bytes that are set aside for its foot
abbrev pub page_at : (at : ℕ) (head lines last : List ℕ) (size : ℕ) → Result (List ℕ) PageFault
page_at at head lines last size = cond (nat_le (at + length (head ++ lines) + reserve) size) (Ok (page_of head lines last)) (Err (OfOutput Full))

-- what is answered of the page: the position behind it
abbrev pub page_answer_of : (at : ℕ) (head lines last : List ℕ) (size : ℕ) → Result ℕ PageFault
page_answer_of at head lines last size = cond (nat_le (at + length (head ++ lines) + reserve) size) (Ok (at + length (page_of head lines last))) (Err (OfOutput Full))

-- what is answered of lines and a foot that a begun page at position `at` is given
abbrev pub end_answer : (at : ℕ) (lines last out : List ℕ) → Result ℕ PageFault
end_answer at lines last out = cond (fits_before at lines out) (Ok (at + length (lines ++ last))) (Err (OfOutput Full))
