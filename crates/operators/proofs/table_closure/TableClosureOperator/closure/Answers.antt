use Rattle.operators.specs.TableClosure.{signals_of}
use Rattle.operators.proofs.Rows.{told_lt, told_word, shared_at}
use Rattle.operators.proofs.table_closure.TableClosureOperator.closure.Goals as goal

pub with_word-requires : goal.with_word-requires
with_word-requires c =
    told_lt c.args.self.now.view.words.now c.word.result c.common_word.ensures.common (c.spans.ensures.told.0 c.if-not-spans.false)

pub returns : goal.returns
returns c =
    let view = c.args.self.now.view in
    let rows = view.words.now in
    let signals = signals_of rows view.places.now in
    let same =
    told_word signals rows c.word.result c.args.set.word c.with_word.ensures.word c.common_word.ensures.common c.word.ensures.value in
    record {
      width = c.with_word.ensures.width;
      closed = λ _. same;
      other = λ n. absurd (n (c.spans.ensures.told.0 c.if-not-spans.false));
      signals = shared_at signals rows c.args.set.word same;
    }
