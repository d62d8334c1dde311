use Rattle.std.proofs.Common.{◌≡◌, ℕ, ◌+◌, ◌≤◌, [], ◌∷◌, ◌++◌, length, codes, decimal, refl, sym, ap, ◌∙◌, subst, arith}
use Rattle.page.specs.Names.{names_of}
use Rattle.page.specs.Pages.{chosen, counted_names, names_line, shown_set}
use Rattle.page.specs.declared.chosen.Chosen.{Chosen}
use Rattle.page.proofs.Entries.{entry_put, entry_room}
use Rattle.page.proofs.NameLists.{length_names, named, same_width}
use Rattle.output.specs.Outputs.{Puts}
use Rattle.page.proofs.Pieces.{last_put, piece_put, start}
use Rattle.page.proofs.SetLines.{set_long, set_pieces, set_whole}
use Rattle.sets.specs.declared.set.Set.{Set}
use Rattle.view.specs.Shown.{signal_count, signal_names}
use Rattle.view.specs.declared.table_view.TableView.{TableView}
use Rattle.page.proofs.entry.set.SetEntry.put_line.Goals as goal

-- the line as the code puts it
module _ (set : Set) (view : TableView) (place : ℕ) (of : Chosen) (wide : set.width ≡ signal_count view) (seen : of.view ≡ view) (is : of.set ≡ set) where
  whole : set_pieces place (names_of of) ≡ (shown_set set (signal_names view) place).bytes
  whole =
      set_whole place (names_of of) ∙ ap (names_line place) (named of view set seen is) ∙ ap (λ m. names_line place (chosen m set.word (signal_names view))) (wide ∙ sym (length_names view))

  long : (digits counted : ℕ) → digits ≡ length (decimal place) → counted ≡ length (counted_names (names_of of)) → 5 + digits + counted ≡ length (shown_set set (signal_names view) place).bytes
  long digits counted ed ec = omega (arith, set_long place (names_of of), ap length whole)

pub returns : goal.returns
returns c =
    let set = c.args.self.now in
    let view = c.args.view.now in
    let out = c.args.out.now in
    let line = shown_set set (signal_names view) c.args.place in
    let told = c.in_ok-names.ensures.answer in
    let of = c.in_ok-names.names in
    let is = whole set view c.args.place of told.0 told.1 told.2 in
    let bytes = long set view c.args.place of told.0 told.1 told.2 c.digits.result c.bytes.result c.digits.ensures.count c.bytes.ensures.count in
    let alike = same_width view set told.0 in
    let all = set_pieces c.args.place (names_of of) in
    let free = c.in_ok-check_room.ensures.answer in
    let room : out.at + length all ≤ length out.bytes.now = subst (λ bs. out.at + length bs ≤ length out.bytes.now) (sym is) (entry_room line c.args.kept out alike _ bytes free) in
    let w1 = piece_put all (codes "set,") (decimal c.args.place ++ (counted_names (names_of of) ++ 10 ∷ [])) out _ (start all out room) c.put.new.self _ c.put.ensures.puts in
    let w2 = piece_put all (decimal c.args.place) (counted_names (names_of of) ++ 10 ∷ []) out _ w1 c.put_number.new.self _ c.put_number.ensures.puts in
    let w3 = piece_put all (counted_names (names_of of)) (10 ∷ []) out _ w2 c.put-2.new.out _ c.put-2.ensures.puts in
    let ended = last_put all (10 ∷ []) out _ w3 c.put-3.new.self _ c.put-3.ensures.puts in
    record { puts = entry_put line c.args.kept out alike _ bytes free _ _ c.put-3.new.self refl (subst (λ bs. Puts bs out c.put-3.result c.put-3.new.self) is ended) }
