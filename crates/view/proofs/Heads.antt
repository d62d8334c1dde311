-- The first five lines of a table text, put by put.
use Rattle.std.proofs.Common.{◌≡◌, ℕ, ◌+◌, ◌≤◌, List, [], ◌∷◌, ◌++◌, length, decimal, Result, sym, subst, append_assoc}
use Rattle.output.specs.declared.faults.OutputFault.{OutputFault}
use Rattle.output.specs.declared.output.Output.{Output}
use Rattle.output.specs.Outputs.{Grows, Puts}
use Rattle.output.proofs.Growing.{grows_last}
use Rattle.output.proofs.Writing.{front_room}
use Rattle.view.specs.Texts.{head_text}

abbrev pub letter : List ℕ
letter = 66 ∷ 10 ∷ 10 ∷ []

-- up to the number of rows, the end of its line, the number of signals
abbrev pub to_rows : ℕ → List ℕ
to_rows g = letter ++ decimal g

abbrev pub to_line : ℕ → List ℕ
to_line g = to_rows g ++ 10 ∷ []

abbrev pub to_signals : (g m : ℕ) → List ℕ
to_signals g m = to_line g ++ decimal m

head_is : (g m : ℕ) → to_signals g m ++ 10 ∷ 10 ∷ [] ≡ head_text g m
head_is g m = simp append_assoc

-- there is room for each step
module _ (g m at n : ℕ) (room : at + length (head_text g m) ≤ n) where
  pub room_all : at + length (to_signals g m ++ 10 ∷ 10 ∷ []) ≤ n
  room_all = subst (λ xs. at + length xs ≤ n) (sym (head_is g m)) room

  pub room_signals : at + length (to_signals g m) ≤ n
  room_signals = front_room at n (to_signals g m) (10 ∷ 10 ∷ []) room_all

  pub room_line : at + length (to_line g) ≤ n
  room_line = front_room at n (to_line g) (decimal m) room_signals

  pub room_rows : at + length (to_rows g) ≤ n
  room_rows = front_room at n (to_rows g) (10 ∷ []) room_line

  pub room_letter : at + length letter ≤ n
  room_letter = front_room at n letter (decimal g) room_rows

-- the last put tells of the head
pub head_puts : (g m : ℕ) (a b c : Output) (r : Result Unit OutputFault) → a.at + length (head_text g m) ≤ length a.bytes.now → Grows (to_signals g m) a b → Puts (10 ∷ 10 ∷ []) b r c → Puts (head_text g m) a r c
head_puts g m a b c r room w p = subst (λ bs. Puts bs a r c) (head_is g m) (grows_last (to_signals g m) (10 ∷ 10 ∷ []) a b c r (room_all g m a.at (length a.bytes.now) room) w p)
