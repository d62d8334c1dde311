-- The head, the names and the rows, put one behind another, are the text.
use Rattle.std.proofs.Common.{◌≡◌, ℕ, ◌+◌, ◌-◌, ◌≤◌, List, ◌++◌, length, Err, Result, arith, sym, ap₂, ◌∙◌, subst, append_assoc}
use Rattle.output.specs.declared.faults.OutputFault.{OutputFault}
use Rattle.output.specs.declared.output.Output.{Output}
use Rattle.output.specs.Outputs.{Grows, Puts}
use Rattle.output.proofs.Growing.{grows_last, grows_put, grows_refused, grows_room, puts_fits}
use Rattle.output.proofs.Writing.{front_room}
use Rattle.view.specs.declared.table_view.TableView.{TableView}
use Rattle.view.specs.Shown.{name_lines, row_lines, signal_count, table_text}
use Rattle.view.specs.Texts.{head_text}
use Rattle.view.proofs.Lengths.{text_parts}

-- the first five lines, and they and the lines of the names
abbrev pub head_lines : TableView → List ℕ
head_lines view = head_text (length view.words.now) (signal_count view)

abbrev pub front_lines : TableView → List ℕ
front_lines view = head_lines view ++ name_lines view

-- there is room for a text that is no longer than the room
pub text_fits : (view : TableView) (a : Output) (size room : ℕ) → size ≡ length (table_text view) → room ≡ length a.bytes.now - a.at → size ≤ room → a.at + length (table_text view) ≤ length a.bytes.now
text_fits view a size room es er le = let some : 1 ≤ length (table_text view) = omega arith in omega arith

module _ (view : TableView) (before : Output) (fits : before.at + length (table_text view) ≤ length before.bytes.now) where
  text_is : table_text view ≡ front_lines view ++ row_lines view
  text_is = text_parts view.text.now view.words.now view.places.now ∙ sym (append_assoc (head_lines view) (name_lines view) (row_lines view))

  room : before.at + length (front_lines view ++ row_lines view) ≤ length before.bytes.now
  room = subst (λ xs. before.at + length xs ≤ length before.bytes.now) text_is fits

  room_names : before.at + length (front_lines view) ≤ length before.bytes.now
  room_names = front_room before.at (length before.bytes.now) (front_lines view) (row_lines view) room

  -- g and n are what the code has for the numbers of rows and signals
  module _ (g n : ℕ) (eg : g ≡ length view.words.now) (en : n ≡ signal_count view) where
    pub head_room : before.at + length (head_text g n) ≤ length before.bytes.now
    head_room = subst (λ xs. before.at + length xs ≤ length before.bytes.now) (sym (ap₂ head_text eg en)) (front_room before.at (length before.bytes.now) (head_lines view) (name_lines view) room_names)

    pub head_grows : (after : Output) (r : Result Unit OutputFault) → Puts (head_text g n) before r after → Grows (head_lines view) before after
    head_grows after r p = subst (λ xs. Grows xs before after) (ap₂ head_text eg en) (puts_fits (head_text g n) before after r head_room p).1

  pub names_room : (after : Output) → Grows (head_lines view) before after → after.at + length (name_lines view) ≤ length after.bytes.now
  names_room after w = grows_room (head_lines view) (name_lines view) before after room_names w

  pub names_grow : (after later : Output) (r : Result Unit OutputFault) → Grows (head_lines view) before after → Puts (name_lines view) after r later → Grows (front_lines view) before later
  names_grow after later r w p = (grows_put (head_lines view) (name_lines view) before after later r room_names w p).1

  pub rows_room : (after : Output) → Grows (front_lines view) before after → after.at + length (row_lines view) ≤ length after.bytes.now
  rows_room after w = grows_room (front_lines view) (row_lines view) before after room w

  -- all is put
  pub text_puts : (after later : Output) (r : Result Unit OutputFault) → Grows (front_lines view) before after → Puts (row_lines view) after r later → Puts (table_text view) before r later
  text_puts after later r w p = subst (λ xs. Puts xs before r later) (sym text_is) (grows_last (front_lines view) (row_lines view) before after later r room w p)

  -- nothing is refused
  pub names_unrefused : {X : Type 0} (after later : Output) (e : OutputFault) → Grows (head_lines view) before after → Puts (name_lines view) after (Err e) later → X
  names_unrefused after later e w p = grows_refused (head_lines view) (name_lines view) before after later e room_names w p
