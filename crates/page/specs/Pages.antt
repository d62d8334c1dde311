-- Pages: a head, at most 4,096 lines and a foot, each ended by a line feed.
--
--   head     the first line, which names the page
--   foot     the last line, with the number of lines between head and foot
--   letter   what tells the operator that a page is over
--   chosen   the names of the signals that belong to a set, in the order of the signals
--   added    the names of the signals that a rule adds to its premise, in the order of the signals
use Rattle.std.proofs.Common.{arith}
use Rattle.std.specs.Prelude.{◌≡◌, ℕ, ◌+◌, ◌<◌, Bool, true, false, cond, ◌&&◌, List, [], ◌∷◌, ◌++◌, length, Ok, Err, codes, decimal, Result, MatchResult, ◌==◌, nat_le, nat_lt}
use Rattle.std.specs.List.{flat_map}
use Rattle.output.specs.declared.faults.OutputFault.{OutputFault}
use Rattle.output.specs.declared.faults.OutputFault.TheVariants.{Full}
use Rattle.output.specs.Puts.{put_at}
use Rattle.output.specs.Records.{number_fields, record_line}
pub use Rattle.page.specs.Limits.{max_lines, reserve}
use Rattle.page.specs.declared.faults.PageFault.{PageFault}
use Rattle.page.specs.declared.faults.PageFault.TheVariants as fault
use Rattle.page.specs.declared.page.Page.{Page}
use Rattle.sets.specs.declared.faults.SetFault.TheVariants.{OtherWidth}
use Rattle.sets.specs.declared.rule.Rule.{Rule}
use Rattle.sets.specs.declared.set.Set.{Set}
use Rattle.table.specs.declared.place.Place.{Place}
use Rattle.theory.specs.Words.{bit_of}
use Rattle.view.specs.Views.{table_of}

-- the head of a page of closed sets: the operator's letter and the number of signals
abbrev pub closed_head : (letter m : ℕ) → List ℕ
closed_head letter m = record_line (codes "closed," ++ letter ∷ []) (m ∷ [])

-- the head of a page of rules: the number of signals
abbrev pub rules_head : (m : ℕ) → List ℕ
rules_head m = record_line (codes "rules") (m ∷ [])

-- the foot of a page
abbrev pub foot : (lines : ℕ) → List ℕ
foot lines = record_line (codes "end") (lines ∷ [])

-- the names of a table's signals
abbrev pub signal_names : (text words : List ℕ) → List Place → List (List ℕ)
signal_names text words places = (table_of text words places).signal_names

-- of the names of the signals from i on, those of the signals that belong to the set
abbrev pub chosen_from : (m word i : ℕ) → List (List ℕ) → List (List ℕ)
chosen_from m word i [] = []
chosen_from m word i (name ∷ names) = cond (bit_of m i word == 1) (name ∷ chosen_from m word (i + 1) names) (chosen_from m word (i + 1) names)

-- the names of the signals that belong to the set of m signals
abbrev pub chosen : (m word : ℕ) → List (List ℕ) → List (List ℕ)
chosen m word names = chosen_from m word 0 names

-- of the names of the signals from i on, those of the signals that pass the test
abbrev pub names_from : (test : ℕ → Bool) → (i : ℕ) → List (List ℕ) → List (List ℕ)
names_from test i [] = []
names_from test i (name ∷ names) = cond (test i) (name ∷ names_from test (i + 1) names) (names_from test (i + 1) names)

-- the names of the signals that the conclusion of a rule has and the premise lacks
abbrev pub added : (m premise conclusion : ℕ) → List (List ℕ) → List (List ℕ)
added m premise conclusion names = names_from (λ i. (bit_of m i conclusion == 1) && bit_of m i premise == 0) 0 names

-- each name behind a comma, the byte 44
abbrev pub name_fields : List (List ℕ) → List ℕ
name_fields names = flat_map (λ name. 44 ∷ name) names

-- the line of a set whose signals have these names: its place, the number of the names, and the names
abbrev pub names_line : (place : ℕ) → List (List ℕ) → List ℕ
names_line place names = codes "set" ++ (number_fields (place ∷ length names ∷ []) ++ (name_fields names ++ 10 ∷ []))

-- the line of a set, from the names of all signals and the set's word
abbrev pub set_line_of : (names : List (List ℕ)) → (word place : ℕ) → List ℕ
set_line_of names word place = names_line place (chosen (length names) word names)

-- the number of the names, and the names, each behind a comma
abbrev pub counted_names : List (List ℕ) → List ℕ
counted_names names = 44 ∷ (decimal (length names) ++ name_fields names)

-- the line of a rule whose premise and added signals have these names
abbrev pub rule_names_line : (premise more : List (List ℕ)) → List ℕ
rule_names_line premise more = codes "rule" ++ (counted_names premise ++ (counted_names more ++ 10 ∷ []))

-- the line of a rule, from the names of all signals and the words of its sets
abbrev pub rule_line_of : (names : List (List ℕ)) → (premise conclusion : ℕ) → List ℕ
rule_line_of names premise conclusion = rule_names_line (chosen (length names) premise names) (added (length names) premise conclusion names)

-- the bytes fit at position `at` before the bytes set aside for the foot
abbrev pub fits_before : (at : ℕ) → (bytes out : List ℕ) → Bool
fits_before at bytes out = nat_le (at + length bytes + reserve) (length out)

-- the output afterwards: as before where they do not fit
abbrev pub put_before : (at : ℕ) → (bytes out : List ℕ) → List ℕ
put_before at bytes out = cond (fits_before at bytes out) (put_at at bytes out) out

-- a page is begun exactly where its head fits, and has no line yet
abbrev pub Begun : (at : ℕ) → (head out : List ℕ) → Result Page OutputFault → Type 0
Begun at head out r =
    MatchResult r (λ page. (fits_before at head out ≡ true) × (page.at ≡ at + length head) × (page.lines ≡ 0)) (λ refusal. (fits_before at head out ≡ false) × (refusal ≡ Full))

-- the page takes the line
abbrev pub takes_line : Page → (line out : List ℕ) → Bool
takes_line page line out = nat_lt page.lines max_lines && fits_before page.at line out

-- a line that a page is asked to take: whether what it shows is of as many signals as there are names, and its bytes
pub record Line : Type 0 where
  pub same_width : Bool
  pub bytes : List ℕ

-- the line of a set at a place of a listing
abbrev pub line_of_set : (names : List (List ℕ)) → (place : ℕ) → Set → Line
line_of_set names place set = record { same_width = (set.width == length names); bytes = set_line_of names set.word place }

-- the line of a rule
abbrev pub line_of_rule : (names : List (List ℕ)) → Rule → Line
line_of_rule names rule = record { same_width = (rule.premise.width == length names); bytes = rule_line_of names rule.premise.word rule.conclusion.word }

-- a set, as the closed page shows it
abbrev pub shown_set : Set → (names : List (List ℕ)) → (place : ℕ) → Line
shown_set set names place = line_of_set names place set

-- a rule, as the rules page shows it
abbrev pub shown_rule : Rule → (names : List (List ℕ)) → (place : ℕ) → Line
shown_rule rule names place = line_of_rule names rule

-- neither line is empty
pub set_line_some : (set : Set) (names : List (List ℕ)) (place : ℕ) → 0 < length (shown_set set names place).bytes
set_line_some set names place = omega arith

pub rule_line_some : (rule : Rule) (names : List (List ℕ)) (place : ℕ) → 0 < length (shown_rule rule names place).bytes
rule_line_some rule names place = omega arith

-- the page takes the line, and what it shows is of the right width
abbrev pub takes : Page → Line → (out : List ℕ) → Bool
takes page line out = line.same_width && takes_line page line.bytes out

-- what is answered: another width is refused first
abbrev pub line_answer : Page → Line → (out : List ℕ) → Result Unit PageFault
line_answer page line out = cond line.same_width (cond (takes_line page line.bytes out) (Ok tt) (Err (fault.Output Full))) (Err (fault.Set OtherWidth))

-- the output with the line: as before where the line is refused
abbrev pub output_with : Page → Line → (out : List ℕ) → List ℕ
output_with page line out = cond (takes page line out) (put_at page.at line.bytes out) out

-- the position behind the page with the line
abbrev pub at_with : Page → Line → (out : List ℕ) → ℕ
at_with page line out = cond (takes page line out) (page.at + length line.bytes) page.at

-- the number of lines with the line
abbrev pub lines_with : Page → Line → (out : List ℕ) → ℕ
lines_with page line out = cond (takes page line out) (page.lines + 1) page.lines
