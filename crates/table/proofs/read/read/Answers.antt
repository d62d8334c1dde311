use Rattle.std.proofs.Common.{◌≡◌, length, Ok, sym, ap, ◌∙◌, rules}
use Rattle.table.specs.Cursors.{head_at}
use Rattle.table.specs.Reading.{head_of, body_of, bytes_of, answer_of, words_after, places_after}
use Rattle.table.proofs.Agreement.{grammar_held}
use Rattle.table.proofs.Bodies.{read_behind, answer_behind}
use Rattle.table.proofs.NearFaults.{near_answered}
use Rattle.table.proofs.read.read.Goals as goal

pub returns-in_err-counts-clause-grammar : goal.returns-in_err-counts-clause-grammar
returns-in_err-counts-clause-grammar c =
    grammar_held c.args.text.now c.args.words.now c.args.places.now c.from_residual.result c.args.words.now c.args.places.now (search rules) (search rules) (search rules)

pub returns-in_err-counts-clause-near : goal.returns-in_err-counts-clause-near
returns-in_err-counts-clause-near c = near_answered c.args.text.now (length c.args.words.now) (length c.args.places.now) c.from_residual.result (search rules)

pub returns-in_err-read_body-clause-grammar : goal.returns-in_err-read_body-clause-grammar
returns-in_err-read_body-clause-grammar c =
    grammar_held c.args.text.now c.args.words.now c.args.places.now c.from_residual-in_err-read_body.result c.read_body.new.words c.read_body.new.places (search rules) (search rules) (search rules)

pub returns-in_err-read_body-clause-near : goal.returns-in_err-read_body-clause-near
returns-in_err-read_body-clause-near c = near_answered c.args.text.now (length c.args.words.now) (length c.args.places.now) c.from_residual-in_err-read_body.result (search rules)

pub returns : goal.returns
returns c =
    let row_room = length c.args.words.now in
    let place_room = length c.args.places.now in
    let lines = c.read_head.new.lines in
    let head = head_at c.in_ok-counts.counts lines in
    let text : lines.text.now ≡ c.args.text.now = search rules in
    let found : head_of c.args.text.now row_room place_room ≡ Ok head = search rules in
    let whole = read_behind c.args.text.now row_room place_room head (search rules) found ∙ ap (λ bytes. body_of bytes head) (sym text) in
    let end : Ok c.taken.result ≡ bytes_of (body_of lines.text.now head) = search rules in
    let answer = answer_behind lines.text.now head c.taken.result end ∙ sym (ap answer_of whole) in
    let words = c.read_body.ensures.words ∙ sym (ap (λ r. words_after r c.args.words.now) whole) in
    let places = c.read_body.ensures.places ∙ sym (ap (λ r. places_after r c.args.places.now) whole) in
    record {
      answer = answer;
      words = words;
      places = places;
      grammar = grammar_held c.args.text.now c.args.words.now c.args.places.now _ c.read_body.new.words c.read_body.new.places answer words places;
      near = tt;
    }
