-- A loop that puts a line for one element after another.
use Rattle.std.proofs.Common.{◌≡◌, ℕ, ◌+◌, ◌<◌, ◌≤◌, List, length, get_or, take, Err, Result, sym, subst}
use Rattle.std.specs.List.{flat_map}
use Rattle.output.specs.declared.faults.OutputFault.{OutputFault}
use Rattle.output.specs.declared.output.Output.{Output}
use Rattle.output.specs.Outputs.{Grows, Puts}
use Rattle.output.proofs.Growing.{step_grows, step_refused, step_room}
use Rattle.table.specs.Tables.{line}

-- the lines of the elements before the i-th stand in the output, there is room for all, and these are the bytes of the i-th
pub record NextLine {X : Type 0} (part : X → List ℕ) (xs : List X) (i : ℕ) (before after : Output) (bytes : List ℕ) : Type 0 where
  pub other : X
  pub within : i < length xs
  pub room : before.at + length (flat_map (λ x. line (part x)) xs) ≤ length before.bytes.now
  pub so_far : Grows (flat_map (λ x. line (part x)) (take i xs)) before after
  pub same : bytes ≡ part (get_or xs i other)

module _ {X : Type 0} (part : X → List ℕ) (xs : List X) (i : ℕ) (before after : Output) (bytes : List ℕ) (n : NextLine part xs i before after bytes) where
  pub line_room : after.at + length (line bytes) ≤ length after.bytes.now
  line_room = subst (λ bs. after.at + length (line bs) ≤ length after.bytes.now) (sym n.same) (step_room (λ x. line (part x)) xs i n.other before after n.room n.so_far n.within)

  pub line_grows : (later : Output) (r : Result Unit OutputFault) → Puts (line bytes) after r later → Grows (flat_map (λ x. line (part x)) (take (i + 1) xs)) before later
  line_grows later r p = (step_grows (λ x. line (part x)) xs i n.other before after n.room n.so_far later r n.within (subst (λ bs. Puts (line bs) after r later) n.same p)).1

  pub line_refused : {Y : Type 0} (later : Output) (e : OutputFault) → Puts (line bytes) after (Err e) later → Y
  line_refused later e p = step_refused (λ x. line (part x)) xs i n.other before after n.room n.so_far later e n.within (subst (λ bs. Puts (line bs) after (Err e) later) n.same p)
