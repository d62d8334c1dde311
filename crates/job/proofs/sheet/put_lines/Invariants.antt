use Rattle.view.specs.Shown.{signal_names}
use Rattle.job.proofs.Lines.{Listing}
use Rattle.job.proofs.sheet.put_lines.Given as goal

-- the lines of the entries so far stand in the output
abbrev pub invariant-loop-entry : goal.invariant-loop-entry
invariant-loop-entry g l =
    Listing g.E.Entry.shown (signal_names l.view) l.initial.page.at l.initial.page.lines l.entries l.initial.out l.out l.entry-index l.page.at l.page.lines
