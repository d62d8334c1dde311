use Rattle.std.proofs.Common.{◌≡◌, ◌+◌, ◌≤◌, length, take, ap₂, sym, subst}
use Rattle.table.specs.Tables.{cells}
use Rattle.view.specs.Shown.{row_lines}
use Rattle.view.specs.Texts.{rows_text}
use Rattle.view.proofs.LinesPut.{NextLine, line_grows, line_refused, line_room}
use Rattle.view.proofs.write.put_rows.Goals as goal
use Rattle.view.proofs.write.put_rows.Goals.{After-row_cells-row}

next : (c : After-row_cells-row)
    → NextLine (cells c.signals-signals.result) c.words-word-items.result.now c.loop-word.word-index c.args.out.now c.loop-word.out (take c.signals-signals.result c.row_cells-row.result)
next c =
    let same : rows_text c.signals-signals.result c.words-word-items.result.now ≡ row_lines c.args.view.now = ap₂ rows_text c.signals-signals.ensures.count c.words-word-items.ensures.words in
    record {
      other = 0;
      within = c.loop-word-test.true;
      room = subst (λ lines. c.args.out.now.at + length lines ≤ length c.args.out.now.bytes.now) (sym same) c.requires.room;
      so_far = c.loop-word.invariant;
      same = c.row_cells-row.ensures.row;
    }

pub put_line-requires : goal.put_line-requires
put_line-requires c = record { room = line_room _ _ _ _ _ _ (next (goal.at.put_line-requires c).After-row_cells-row) }

pub loop-word-preserved : goal.loop-word-preserved
loop-word-preserved c = line_grows _ _ _ _ _ _ (next (goal.at.loop-word-preserved c).After-row_cells-row) _ _ c.put_line.ensures.puts

pub returns-in_err-put_line : goal.returns-in_err-put_line
returns-in_err-put_line c = line_refused _ _ _ _ _ _ (next (goal.at.returns-in_err-put_line c).After-row_cells-row) _ _ c.in_err-put_line.ensures.puts
