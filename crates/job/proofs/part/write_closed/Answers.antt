use Rattle.std.proofs.Common.{◌≡◌, ℕ, ◌≤◌, min, List, length, Ok, Err, Result, sym, refl, ap, ◌∙◌, subst, rules}
use Rattle.std.proofs.lemmas.Result.{err_from_is_err_and}
use Rattle.survey.specs.Fills.{Filled}
use Rattle.output.specs.Puts.{put_at}
use Rattle.page.specs.Pages.{closed_head, foot, max_lines, shown_set}
use Rattle.page.specs.declared.faults.PageFault.{PageFault}
use Rattle.sets.specs.declared.set.Set.{Set}
use Rattle.tray.specs.Tray.{max_entries}
use Rattle.tray.specs.declared.faults.TrayFault.TheVariants.{Full as NoPlace}
use Rattle.view.specs.Shown.{signal_count, signal_names}
use Rattle.view.specs.declared.table_view.TableView.{TableView}
use Rattle.job.specs.declared.faults.JobFault.{JobFault}
use Rattle.job.specs.declared.faults.JobFault.TheVariants.{Page, Tray}
use Rattle.job.specs.Closed.{closed_words, shown_word}
use Rattle.job.specs.Jobs.{Put, behind, closed_page, common_in}
use Rattle.job.specs.Lists.{Fits, lines_of, page_answer_of, page_of}
use Rattle.job.proofs.Parts.{entries, entries_few, entries_kept, part_full, part_put, sets_fit}
use Rattle.job.proofs.part.write_closed.Goals as goal

-- the page of the entries that were filled in, on the view that the operator hands out
module _
    (view seen : TableView) (is : seen ≡ view) (before after : List Set) (f : Filled (signal_count view) (common_in view) before after)
    (count : ℕ) (all : count ≡ length (closed_words view.words.now view.places.now)) (room : count ≤ min (length before) max_entries) (at size : ℕ) where
  abbrev kept : List Set
  kept = entries shown_set shown_word (λ (s : Set). s.word) (λ x names place. refl) (signal_names view) (closed_words view.words.now view.places.now) f.kept before after f.front f.words at (closed_head 71 (signal_count view)) (Tray NoPlace) size count all room

  fitting : Fits shown_set (signal_names seen) kept
  fitting =
      let of = entries_kept shown_set shown_word (λ (s : Set). s.word) (λ x names place. refl) (signal_names view) (closed_words view.words.now view.places.now) f.kept before after f.front f.words at (closed_head 71 (signal_count view)) (Tray NoPlace) size count all room in
      subst (λ v. Fits shown_set (signal_names v) kept) (sym is) (subst (Fits shown_set (signal_names view)) (sym of) (sets_fit view f.kept f.widths))

  few : length kept ≤ max_lines
  few = entries_few shown_set shown_word (λ (s : Set). s.word) (λ x names place. refl) (signal_names view) (closed_words view.words.now view.places.now) f.kept before after f.front f.words at (closed_head 71 (signal_count view)) (Tray NoPlace) size count all room

  full : (r : Result ℕ JobFault) (refusal : PageFault) (old new : List ℕ) → r ≡ Err (Page refusal)
      → Err refusal ≡ page_answer_of at (closed_head 71 (signal_count seen)) (lines_of shown_set (signal_names seen) 0 kept) (foot (length kept)) size
      → (r ≡ behind at (closed_page view (length before) at size)) × Put at (closed_page view (length before) at size) old new
  full r refusal old new told answer =
      part_full shown_set shown_word (λ (s : Set). s.word) (λ x names place. refl) (signal_names view) (closed_words view.words.now view.places.now) f.kept before after f.front f.words at (closed_head 71 (signal_count view)) (Tray NoPlace) size count all room
      r refusal old new told (subst (λ (v : TableView). Err refusal ≡ page_answer_of at (closed_head 71 (signal_count v)) (lines_of shown_set (signal_names v) 0 kept) (foot (length kept)) size) is answer)

  put : (end : ℕ) (old new : List ℕ)
      → Ok end ≡ page_answer_of at (closed_head 71 (signal_count seen)) (lines_of shown_set (signal_names seen) 0 kept) (foot (length kept)) size
      → new ≡ put_at at (page_of (closed_head 71 (signal_count seen)) (lines_of shown_set (signal_names seen) 0 kept) (foot (length kept))) old
      → (Ok end ≡ behind at (closed_page view (length before) at size)) × Put at (closed_page view (length before) at size) old new
  put end old new answer output =
      part_put shown_set shown_word (λ (s : Set). s.word) (λ x names place. refl) (signal_names view) (closed_words view.words.now view.places.now) f.kept before after f.front f.words at (closed_head 71 (signal_count view)) (Tray NoPlace) size count all room
      end old new
      (subst (λ (v : TableView). Ok end ≡ page_answer_of at (closed_head 71 (signal_count v)) (lines_of shown_set (signal_names v) 0 kept) (foot (length kept)) size) is answer)
      (subst (λ (v : TableView). new ≡ put_at at (page_of (closed_head 71 (signal_count v)) (lines_of shown_set (signal_names v) 0 kept) (foot (length kept))) old) is output)

pub put_closed-requires : goal.put_closed-requires
put_closed-requires c =
    let told = c.in_ok-count.ensures.answer in
    let view = c.args.closure.now.view in
    record {
      widths = fitting view c.view.result c.view.ensures.value c.args.sets.now c.fill_memory.new.memory c.fill_memory.ensures.sets c.in_ok-count.count told.0 told.1 c.args.at (length c.args.out.now);
      few = few view c.view.result c.view.ensures.value c.args.sets.now c.fill_memory.new.memory c.fill_memory.ensures.sets c.in_ok-count.count told.0 told.1 c.args.at (length c.args.out.now);
    }

pub returns-in_err-put_closed : goal.returns-in_err-put_closed
returns-in_err-put_closed c =
    let told = c.in_ok-count.ensures.answer in
    let p = err_from_is_err_and c.from_residual-in_err-put_closed.result c.from_residual-in_err-put_closed.ensures.1 in
    let q = full c.args.closure.now.view c.view.result c.view.ensures.value c.args.sets.now c.fill_memory.new.memory c.fill_memory.ensures.sets c.in_ok-count.count told.0 told.1 c.args.at (length c.args.out.now)
    c.from_residual-in_err-put_closed.result c.in_err-put_closed.field-0.0 c.args.out.now c.put_closed.new.out (p.1 ∙ ap Err p.2) c.in_err-put_closed.ensures.answer in
    record { answer = q.0; output = q.1; sets = c.fill_memory.ensures.sets; inside = search rules }

pub returns : goal.returns
returns c =
    let told = c.in_ok-count.ensures.answer in
    let q = put c.args.closure.now.view c.view.result c.view.ensures.value c.args.sets.now c.fill_memory.new.memory c.fill_memory.ensures.sets c.in_ok-count.count told.0 told.1 c.args.at (length c.args.out.now)
    c.in_ok-put_closed.field-0 c.args.out.now c.put_closed.new.out c.in_ok-put_closed.ensures.answer c.in_ok-put_closed.ensures.output in
    record { answer = q.0; output = q.1; sets = c.fill_memory.ensures.sets; inside = c.in_ok-put_closed.ensures.inside }
