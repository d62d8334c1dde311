use Rattle.std.proofs.Common.{◌+◌, ◌≤◌, length, sym, subst, rules}
use Rattle.table.specs.Names.{part_at}
use Rattle.view.specs.Texts.{names_text}
use Rattle.view.specs.Views.{absent}
use Rattle.view.proofs.LinesPut.{NextLine, line_grows, line_refused, line_room}
use Rattle.view.proofs.write.put_names.Goals as goal
use Rattle.view.proofs.write.put_names.Goals.{After-new}

next : (c : After-new) → NextLine (part_at c.args.view.now.text.now) c.places-place-items.result.now c.loop-place.place-index c.args.out.now c.loop-place.out c.new.result.bytes.now
next c =
    record {
      other = absent;
      within = c.loop-place-test.true;
      room = subst (λ places. c.args.out.now.at + length (names_text c.args.view.now.text.now places) ≤ length c.args.out.now.bytes.now) (sym c.places-place-items.ensures.places) c.requires.room;
      so_far = c.loop-place.invariant;
      same = search rules;
    }

pub put_line-requires : goal.put_line-requires
put_line-requires c = record { room = line_room _ _ _ _ _ _ (next (goal.at.put_line-requires c).After-new) }

pub loop-place-preserved : goal.loop-place-preserved
loop-place-preserved c = line_grows _ _ _ _ _ _ (next (goal.at.loop-place-preserved c).After-new) _ _ c.put_line.ensures.puts

pub returns-in_err-put_line : goal.returns-in_err-put_line
returns-in_err-put_line c = line_refused _ _ _ _ _ _ (next (goal.at.returns-in_err-put_line c).After-new) _ _ c.in_err-put_line.ensures.puts
