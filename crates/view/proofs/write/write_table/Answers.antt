use Rattle.std.proofs.Common.{◌+◌, ◌≤◌, length, arith}
use Rattle.output.specs.Outputs.{Grows}
use Rattle.table.proofs.Agreement.{read_again}
use Rattle.table.specs.Grammar.{ReadAgain}
use Rattle.view.specs.declared.table_view.TableView.{TableView}
use Rattle.view.specs.Shown.{shown, table_text}
use Rattle.view.proofs.Laws.{fit_lawful}
use Rattle.view.proofs.Wholes.{head_lines, head_grows, names_grow, names_room, names_unrefused, rows_room, text_fits, text_puts}
use Rattle.view.proofs.write.write_table.Goals as goal
use Rattle.view.proofs.write.write_table.Goals.{After-room, In_ok-put_head, In_ok-put_names}

again : (view : TableView) → ReadAgain (shown view)
again view = read_again (shown view) (fit_lawful view.text.now view.words.now view.places.now view.fit)

fits : (c : In_ok-put_head) → c.args.out.now.at + length (table_text c.args.view.now) ≤ length c.args.out.now.bytes.now
fits c = text_fits c.args.view.now c.args.out.now c.text_length.result c.room.result c.text_length.ensures.count c.room.ensures.value (omega (arith, c.if-text_length-room.false))

head_put : (c : In_ok-put_head) → Grows (head_lines c.args.view.now) c.args.out.now c.put_head.new.out
head_put c = head_grows c.args.view.now c.args.out.now (fits c) c.rows.result c.signals.result c.rows.ensures.count c.signals.ensures.count c.put_head.new.out _ c.put_head.ensures.puts

pub returns-then-text_length-room-clause-again : goal.returns-then-text_length-room-clause-again
returns-then-text_length-room-clause-again c = again c.args.view.now

pub put_names-requires : goal.put_names-requires
put_names-requires c =
    let k = (goal.at.put_names-requires c).In_ok-put_head in
    record { room = names_room c.args.view.now c.args.out.now (fits k) c.put_head.new.out (head_put k) }

pub returns-in_err-put_names-clause-puts : goal.returns-in_err-put_names-clause-puts
returns-in_err-put_names-clause-puts c =
    let k = (goal.at.returns-in_err-put_names-clause-puts c).In_ok-put_head in
    names_unrefused c.args.view.now c.args.out.now (fits k) c.put_head.new.out c.put_names.new.out _ (head_put k) c.in_err-put_names.ensures.puts

pub returns-in_err-put_names-clause-again : goal.returns-in_err-put_names-clause-again
returns-in_err-put_names-clause-again c = again c.args.view.now

pub put_rows-requires : goal.put_rows-requires
put_rows-requires c =
    let k = (goal.at.put_rows-requires c).In_ok-put_head in
    let w = names_grow c.args.view.now c.args.out.now (fits k) c.put_head.new.out c.put_names.new.out _ (head_put k) c.put_names.ensures.puts in
    record { room = rows_room c.args.view.now c.args.out.now (fits k) c.put_names.new.out w }

pub returns-clause-puts : goal.returns-clause-puts
returns-clause-puts c =
    let k = (goal.at.returns-clause-puts c).In_ok-put_head in
    let w = names_grow c.args.view.now c.args.out.now (fits k) c.put_head.new.out c.put_names.new.out _ (head_put k) c.put_names.ensures.puts in
    text_puts c.args.view.now c.args.out.now (fits k) c.put_names.new.out c.put_rows.new.out _ w c.put_rows.ensures.puts

pub returns-clause-again : goal.returns-clause-again
returns-clause-again c = again c.args.view.now
