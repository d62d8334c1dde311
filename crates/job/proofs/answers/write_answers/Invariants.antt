use Rattle.std.proofs.Common.{◌≡◌, ◌+◌, ◌≤◌, length}
use Rattle.std.specs.Iterator.Adapters.{enumerate_count, enumerate_source}
use Rattle.std.specs.Slice.Iter.{split_inclusive_rest}
use Rattle.view.specs.Shown.{signal_names}
use Rattle.job.specs.Replies.{answers_of}
use Rattle.job.proofs.Replying.{Answering}
use Rattle.job.proofs.answers.write_answers.Given as goal

-- the answers to the lines so far stand in the output; each line has one byte at least
abbrev pub invariant-loop-index : goal.invariant-loop-index
invariant-loop-index l =
    (goal.iterator-loop-index).can_next l.index-iterator
    × (goal.iterator-loop-index).is_finite l.index-iterator
    × (enumerate_count l.index-iterator + length (split_inclusive_rest (enumerate_source l.index-iterator)) ≤ length l.queries)
    × Answering (signal_names l.view) l.view.words.now l.initial.out.at (answers_of (signal_names l.view) l.view.words.now l.line l.queries) l.initial.out.bytes.now l.out.bytes.now l.out.at l.known.word
    (l.line + enumerate_count l.index-iterator) (split_inclusive_rest (enumerate_source l.index-iterator))
    × (l.out.bytes.ghost_name ≡ l.initial.out.bytes.ghost_name)
