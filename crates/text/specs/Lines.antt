-- Lines of a text. A text is a list of bytes, and a line ends at a line feed, the byte 10.
use Rattle.std.specs.Prelude.{ℕ, ◌+◌, cond, List, [], ◌∷◌, drop, Ok, Err, Result, ◌==◌}
use Rattle.text.specs.declared.faults.FieldFault.{FieldFault}
use Rattle.text.specs.declared.faults.FieldFault.TheVariants.{NoLineFeed}

-- where the first line feed stands in bytes that begin at position `at`
abbrev pub feed_from : (line at : ℕ) → List ℕ → Result ℕ FieldFault
feed_from line at [] = Err (NoLineFeed line)
feed_from line at (b ∷ bs) = cond (b == 10) (Ok at) (feed_from line (at + 1) bs)

-- where the line that begins at position `at` of a text ends: the position of its line feed
abbrev pub line_end_of : (line at : ℕ) → List ℕ → Result ℕ FieldFault
line_end_of line at text = feed_from line at (drop at text)
