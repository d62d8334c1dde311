-- Bytes that are put piece by piece into an output that has room for all of them.
use Rattle.std.proofs.Common.{◌≡◌, ℕ, ◌+◌, ◌≤◌, List, [], ◌++◌, length, Err, Result, sym, refl, ◌∙◌, subst, append_assoc, append-nil, arith}
use Rattle.output.specs.declared.faults.OutputFault.{OutputFault}
use Rattle.output.specs.declared.output.Output.{Output}
use Rattle.output.specs.Outputs.{Grows, Puts}
use Rattle.output.proofs.Growing.{grows_last, grows_none, grows_put, grows_refused, grows_room}
use Rattle.output.proofs.Writing.{front_room}

-- all bytes but those that are left stand in the output
pub record Writing (all left : List ℕ) (before after : Output) : Type 0 where
  pub done : List ℕ
  pub whole : done ++ left ≡ all
  pub grown : Grows done before after
  pub room : before.at + length all ≤ length before.bytes.now

pub start : (all : List ℕ) (before : Output) → before.at + length all ≤ length before.bytes.now → Writing all all before before
start all before room = record { done = []; whole = refl; grown = grows_none before (omega arith); room = room }

module _ (all piece rest : List ℕ) (before after : Output) (w : Writing all (piece ++ rest) before after) where
  with_piece : (w.done ++ piece) ++ rest ≡ all
  with_piece = append_assoc w.done piece rest ∙ w.whole

  front : before.at + length (w.done ++ piece) ≤ length before.bytes.now
  front = front_room before.at (length before.bytes.now) (w.done ++ piece) rest (subst (λ xs. before.at + length xs ≤ length before.bytes.now) (sym with_piece) w.room)

  -- there is room for the next piece
  pub piece_room : after.at + length piece ≤ length after.bytes.now
  piece_room = grows_room w.done piece before after front w.grown

  -- so it is not refused
  pub piece_break : {A : Type 0} (later : Output) (e : OutputFault) → Puts piece after (Err e) later → A
  piece_break later e p = grows_refused w.done piece before after later e front w.grown p

  -- the next piece stands behind
  pub piece_put : (later : Output) (r : Result Unit OutputFault) → Puts piece after r later → Writing all rest before later
  piece_put later r p = record { done = w.done ++ piece; whole = with_piece; grown = (grows_put w.done piece before after later r front w.grown p).1; room = w.room }

-- the last piece
module _ (all piece : List ℕ) (before after : Output) (w : Writing all piece before after) where
  last_front : before.at + length (w.done ++ piece) ≤ length before.bytes.now
  last_front = subst (λ xs. before.at + length xs ≤ length before.bytes.now) (sym w.whole) w.room

  pub last_put : (later : Output) (r : Result Unit OutputFault) → Puts piece after r later → Puts all before r later
  last_put later r p = subst (λ xs. Puts xs before r later) w.whole (grows_last w.done piece before after later r last_front w.grown p)

-- nothing is left
pub all_put : (all : List ℕ) (before after : Output) → Writing all [] before after → Grows all before after
all_put all before after w = subst (λ xs. Grows xs before after) (sym (append-nil w.done) ∙ w.whole) w.grown
