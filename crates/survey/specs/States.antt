-- The state of a survey, in numbers, and what a survey answers.
use Rattle.std.specs.Prelude.{◌≡◌, ℕ, suc, Result}
use Rattle.sets.specs.declared.faults.SetFault.{SetFault}
use Rattle.survey.specs.declared.call.Granted.{Granted}
use Rattle.survey.specs.declared.state.State.{State}
use Rattle.survey.specs.declared.state.State.TheVariants.{Fresh, Running, Ended}

-- the word from which the next closed set is sought; 0 at the end
abbrev pub sought_from : State → ℕ
sought_from (Fresh start) = start.word
sought_from (Running last serial) = suc last.word
sought_from Ended = 0

-- the number of sets listed since the start; 0 at the end
abbrev pub count_of : State → ℕ
count_of (Fresh start) = 0
count_of (Running last serial) = serial
count_of Ended = 0

-- the width of the state's set; m at the end
abbrev pub span_of : (m : ℕ) → State → ℕ
span_of m (Fresh start) = start.width
span_of m (Running last serial) = last.width
span_of m Ended = m

-- nothing is listed since the start, which is the set of this word
abbrev pub FreshAt : (start : ℕ) → State → Type 0
FreshAt start (Fresh set) = set.word ≡ start
FreshAt start (Running last serial) = ⊥
FreshAt start Ended = ⊥

-- what a survey grants, or why it refuses
abbrev pub Answer : Type 0
Answer = Result Granted SetFault
