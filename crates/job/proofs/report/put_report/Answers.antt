use Rattle.std.proofs.Common.{◌≡◌, List, ℕ, [], ◌∷◌, ◌++◌, length, codes, ap, ap₂, ◌∙◌, sym, rules}
use Rattle.output.specs.Puts.{put_at}
use Rattle.output.specs.Records.{record_line}
use Rattle.output.proofs.Told.{grows_on, puts_grows}
use Rattle.view.specs.Texts.{shown_text}
use Rattle.job.specs.Reports.{report_of}
use Rattle.job.proofs.report.put_report.Goals as goal

pub returns-clause-output : goal.returns-clause-output
returns-clause-output c =
    let view = c.args.view.now in
    let text = shown_text view.text.now view.words.now view.places.now in
    let line = record_line (codes "read") (c.rows.result ∷ c.signals.result ∷ c.args.taken ∷ []) in
    let same : line ++ text ≡ report_of view c.args.taken =
    ap (λ n. record_line (codes "read") (n ∷ c.signals.result ∷ c.args.taken ∷ []) ++ text) c.rows.ensures.count
    ∙ ap (λ n. record_line (codes "read") (length view.words.now ∷ n ∷ c.args.taken ∷ []) ++ text) c.signals.ensures.count in
    let both = grows_on line text c.new-output.result c.put_record.new.self c.write_table.new.out
    (puts_grows line _ _ _ c.in_ok-put_record.was c.put_record.ensures.puts) (puts_grows text _ _ _ c.in_ok-write_table.was c.write_table.ensures.puts) in
    let whole : c.write_table.new.out.bytes.now ≡ put_at 0 (report_of view c.args.taken) c.args.out.now =
    both.whole ∙ ap₂ (λ a o. put_at a (line ++ text) o) c.new-output.ensures.at c.new-output.ensures.bytes ∙ ap (λ bs. put_at 0 bs c.args.out.now) same in
    sym (search rules) ∙ whole
