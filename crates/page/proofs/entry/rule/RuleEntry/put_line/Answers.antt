use Rattle.std.proofs.Common.{◌≡◌, ℕ, ◌+◌, ◌≤◌, Ok, Result, [], ◌∷◌, ◌++◌, length, codes, Err, refl, sym, ap, ◌∙◌, subst, arith}
use Rattle.std.proofs.lemmas.Result.{err_from_is_err_and}
use Rattle.page.specs.Names.{names_of}
use Rattle.page.specs.Pages.{chosen, counted_names, rule_names_line, shown_rule}
use Rattle.page.proofs.Entries.{entry_full, entry_put, entry_room}
use Rattle.page.proofs.NameLists.{named, same_width}
use Rattle.output.specs.declared.faults.OutputFault.{OutputFault}
use Rattle.output.specs.Outputs.{Puts}
use Rattle.output.proofs.Growing.{puts_fits}
use Rattle.page.proofs.Pieces.{last_put, piece_put, start}
use Rattle.page.proofs.RuleLines.{added_fit, rule_bytes, rule_long, rule_width}
use Rattle.view.specs.Shown.{signal_names}
use Rattle.page.proofs.entry.rule.RuleEntry.put_line.Goals as goal

pub returns-in_err-added : goal.returns-in_err-added
returns-in_err-added c = absurd (c.in_err-added.ensures.answer (added_fit c.args.self.now))

pub returns-in_err-check_room : goal.returns-in_err-check_room
returns-in_err-check_room c =
    let rule = c.args.self.now in
    let view = c.args.view.now in
    let names = signal_names view in
    let line = shown_rule rule names c.args._place in
    let premise = c.in_ok-premise.premise in
    let told = c.in_ok-premise.ensures.answer in
    let is_more = c.in_ok-added.ensures.answer in
    let more = c.in_ok-more.more in
    let told_more = c.in_ok-more.ensures.answer in
    let same = same_width view c.premise.result told.0 in
    let wide = rule_width rule c.in_ok-added.field-0 is_more.0 is_more.1 names c.premise.result c.premise.ensures.value same in
    let one = names_of premise in
    let two = names_of more in
    let is : rule_names_line one two ≡ line.bytes =
    ap (λ xs. rule_names_line xs two) (named premise view c.premise.result told.1 told.2) ∙ ap (rule_names_line (chosen c.premise.result.width c.premise.result.word names)) (named more view c.in_ok-added.field-0 told_more.1 told_more.2)
    ∙ rule_bytes rule c.in_ok-added.field-0 is_more.0 is_more.1 names c.premise.result c.premise.ensures.value same in
    let bytes : 5 + c.bytes.result + c.bytes-2.result ≡ length line.bytes = omega (arith, rule_long one two, ap length is, c.bytes.ensures.count, c.bytes-2.ensures.count) in
    let p = err_from_is_err_and c.from_residual-in_err-check_room.result c.from_residual-in_err-check_room.ensures.1 in
    record { puts = entry_full line c.args.kept c.args.out.now wide _ bytes c.from_residual-in_err-check_room.result c.in_err-check_room.field-0.0 (p.1 ∙ ap Err p.2) c.in_err-check_room.ensures.answer }

pub returns : goal.returns
returns c =
    let rule = c.args.self.now in
    let view = c.args.view.now in
    let names = signal_names view in
    let line = shown_rule rule names c.args._place in
    let premise = c.in_ok-premise.premise in
    let told = c.in_ok-premise.ensures.answer in
    let is_more = c.in_ok-added.ensures.answer in
    let more = c.in_ok-more.more in
    let told_more = c.in_ok-more.ensures.answer in
    let same = same_width view c.premise.result told.0 in
    let wide = rule_width rule c.in_ok-added.field-0 is_more.0 is_more.1 names c.premise.result c.premise.ensures.value same in
    let one = names_of premise in
    let two = names_of more in
    let is : rule_names_line one two ≡ line.bytes =
    ap (λ xs. rule_names_line xs two) (named premise view c.premise.result told.1 told.2) ∙ ap (rule_names_line (chosen c.premise.result.width c.premise.result.word names)) (named more view c.in_ok-added.field-0 told_more.1 told_more.2)
    ∙ rule_bytes rule c.in_ok-added.field-0 is_more.0 is_more.1 names c.premise.result c.premise.ensures.value same in
    let bytes : 5 + c.bytes.result + c.bytes-2.result ≡ length line.bytes = omega (arith, rule_long one two, ap length is, c.bytes.ensures.count, c.bytes-2.ensures.count) in
    let all = rule_names_line one two in
    let out = c.args.out.now in
    let free = c.in_ok-check_room.ensures.answer in
    let room : out.at + length all ≤ length out.bytes.now = subst (λ bs. out.at + length bs ≤ length out.bytes.now) (sym is) (entry_room line c.args.kept out wide _ bytes free) in
    let w1 = piece_put all (codes "rule") (counted_names one ++ (counted_names two ++ 10 ∷ [])) out _ (start all out room) c.put.new.self _ c.put.ensures.puts in
    let w2 = piece_put all (counted_names one) (counted_names two ++ 10 ∷ []) out _ w1 c.put-2.new.out _ c.put-2.ensures.puts in
    let w3 = piece_put all (counted_names two) (10 ∷ []) out _ w2 c.put-3.new.out _ c.put-3.ensures.puts in
    let ended = last_put all (10 ∷ []) out _ w3 c.put-4.new.self _ c.put-4.ensures.puts in
    record { puts = entry_put line c.args.kept out wide _ bytes free _ _ c.put-4.new.self refl (subst (λ bs. Puts bs out c.put-4.result c.put-4.new.self) is ended) }

pub returns-in_err-put-4 : goal.returns-in_err-put-4
returns-in_err-put-4 c =
    let rule = c.args.self.now in
    let view = c.args.view.now in
    let names = signal_names view in
    let line = shown_rule rule names c.args._place in
    let premise = c.in_ok-premise.premise in
    let told = c.in_ok-premise.ensures.answer in
    let is_more = c.in_ok-added.ensures.answer in
    let more = c.in_ok-more.more in
    let told_more = c.in_ok-more.ensures.answer in
    let same = same_width view c.premise.result told.0 in
    let wide = rule_width rule c.in_ok-added.field-0 is_more.0 is_more.1 names c.premise.result c.premise.ensures.value same in
    let one = names_of premise in
    let two = names_of more in
    let is : rule_names_line one two ≡ line.bytes =
    ap (λ xs. rule_names_line xs two) (named premise view c.premise.result told.1 told.2) ∙ ap (rule_names_line (chosen c.premise.result.width c.premise.result.word names)) (named more view c.in_ok-added.field-0 told_more.1 told_more.2)
    ∙ rule_bytes rule c.in_ok-added.field-0 is_more.0 is_more.1 names c.premise.result c.premise.ensures.value same in
    let bytes : 5 + c.bytes.result + c.bytes-2.result ≡ length line.bytes = omega (arith, rule_long one two, ap length is, c.bytes.ensures.count, c.bytes-2.ensures.count) in
    let all = rule_names_line one two in
    let out = c.args.out.now in
    let free = c.in_ok-check_room.ensures.answer in
    let room : out.at + length all ≤ length out.bytes.now = subst (λ bs. out.at + length bs ≤ length out.bytes.now) (sym is) (entry_room line c.args.kept out wide _ bytes free) in
    let w1 = piece_put all (codes "rule") (counted_names one ++ (counted_names two ++ 10 ∷ [])) out _ (start all out room) c.put.new.self _ c.put.ensures.puts in
    let w2 = piece_put all (counted_names one) (counted_names two ++ 10 ∷ []) out _ w1 c.put-2.new.out _ c.put-2.ensures.puts in
    let w3 = piece_put all (counted_names two) (10 ∷ []) out _ w2 c.put-3.new.out _ c.put-3.ensures.puts in
    let same = last_put all (10 ∷ []) out _ w3 c.put-4.new.self _ c.in_err-put-4.ensures.puts in
    absurd (let told : ◌≡◌ {A = Result Unit OutputFault} (Err c.in_err-put-4.field-0.0) (Ok tt) = (puts_fits all out c.put-4.new.self _ room same).0 in let z : ◌≡◌ {A = ℕ} 0 1 = cc in omega arith)
