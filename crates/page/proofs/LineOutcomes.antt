-- What a page and its output hold after a line was granted or refused.
use Rattle.std.proofs.Common.{◌≡◌, ℕ, ◌+◌, ◌≤◌, Bool, true, false, Option, None, Some, cond, ◌&&◌, ltb, List, length, Ok, Err, Result, sym, refl, ap, ap₂, ◌∙◌, arith}
use Rattle.std.proofs.lemmas.Bool.{and_from, cond-false, cond-true, leb-true, and_parts}
use Rattle.output.specs.declared.faults.OutputFault.TheVariants.{Full}
use Rattle.output.specs.declared.output.Output.{Output}
use Rattle.output.specs.Puts.{put_at}
use Rattle.page.specs.Lines.{PutsLine, fits_leaving, goes}
use Rattle.output.proofs.Puts.{length_put_at}
use Rattle.page.specs.declared.faults.PageFault.{PageFault}
use Rattle.page.specs.declared.faults.PageFault.TheVariants as fault
use Rattle.page.specs.declared.page.Page.{Page}
use Rattle.page.specs.Pages.{Line, at_with, fits_before, line_answer, lines_with, max_lines, output_with, reserve, takes, takes_line}
use Rattle.sets.specs.declared.faults.SetFault.TheVariants.{OtherWidth}

-- the answer of a line, by the tests of its width and its room
abbrev told : (same fits : Bool) → Result Unit PageFault
told same fits = cond same (cond fits (Ok tt) (Err (fault.Output Full))) (Err (fault.Set OtherWidth))

refused_for : (same fits : Bool) (f : PageFault) → Err f ≡ told same fits → (same && fits) ≡ false
refused_for true true f e = absurd (let z : ◌≡◌ {A = ℕ} 0 1 = cc in omega arith)
refused_for true false f e = refl
refused_for false fits f e = refl

granted_for : (same fits : Bool) → Ok tt ≡ told same fits → (same ≡ true) × (fits ≡ true)
granted_for true true e = (refl, refl)
granted_for true false e = absurd (let z : ◌≡◌ {A = ℕ} 0 1 = cc in omega arith)
granted_for false fits e = absurd (let z : ◌≡◌ {A = ℕ} 0 1 = cc in omega arith)

-- the bytes of the foot are left behind a line that was put
room_left : (at end : ℕ) (bytes out later : List ℕ) → at + length bytes + reserve ≤ length out → end ≡ at + length bytes → later ≡ put_at at bytes out → end + reserve ≤ length later
room_left at end bytes out later fits behind put = omega (arith, ap length put, length_put_at at bytes out (omega arith))

module _ (page : Page) (line : Line) (out : List ℕ) where
  pub record Outcome (r : Result Unit PageFault) (later : List ℕ) (at lines : ℕ) : Type 0 where
    pub answer : r ≡ line_answer page line out
    pub output : later ≡ output_with page line out
    pub behind : at ≡ at_with page line out
    pub number : lines ≡ lines_with page line out
    pub reserved : page.at + reserve ≤ length out → at + reserve ≤ length later

  -- the line is put, and the bytes of the foot are kept free, where the page takes more lines
  module _ (kept : Option ℕ) (is : kept ≡ cond (ltb page.lines max_lines) (Some reserve) None) where
    fits : fits_leaving kept page.at (length line.bytes) (length out) ≡ takes_line page line.bytes out
    fits = ap (λ k. fits_leaving k page.at (length line.bytes) (length out)) is ∙ by_lines (ltb page.lines max_lines)
      where
        by_lines : (free : Bool) → fits_leaving (cond free (Some reserve) None) page.at (length line.bytes) (length out) ≡ (free && fits_before page.at line.bytes out)
        by_lines true = refl
        by_lines false = refl

    module _ (before after : Output) (at : before.at ≡ page.at) (bytes : before.bytes.now ≡ out) (r : Result Unit PageFault) (puts : PutsLine line kept before r after) where
      fits_here : fits_leaving kept before.at (length line.bytes) (length before.bytes.now) ≡ takes_line page line.bytes out
      fits_here = ap₂ (λ a o. fits_leaving kept a (length line.bytes) (length o)) at bytes ∙ fits

      told_here : r ≡ told line.same_width (takes_line page line.bytes out)
      told_here = puts.answer ∙ ap (told line.same_width) fits_here

      goes_here : goes line kept before ≡ takes page line out
      goes_here = ap (λ b. line.same_width && b) fits_here

      whole : after.bytes.now ≡ output_with page line out
      whole = puts.whole ∙ ap (λ b. cond b (put_at before.at line.bytes before.bytes.now) before.bytes.now) goes_here ∙ ap₂ (λ a o. cond (takes page line out) (put_at a line.bytes o) o) at bytes

      pub line_refused : (f : PageFault) → Err f ≡ r → Outcome r after.bytes.now page.at page.lines
      line_refused f e =
          let not = refused_for line.same_width (takes_line page line.bytes out) f (e ∙ told_here) in
          let same : after.bytes.now ≡ out = whole ∙ cond-false _ _ _ not in
          record { answer = told_here; output = whole; behind = sym (cond-false _ _ _ not); number = sym (cond-false _ _ _ not); reserved = λ h. omega (arith, ap length same) }

      pub line_granted : Ok tt ≡ r → Outcome r after.bytes.now after.at (page.lines + 1)
      line_granted e =
          let yes = granted_for line.same_width (takes_line page line.bytes out) (e ∙ told_here) in
          let taken : takes page line out ≡ true = and_from _ _ yes.0 yes.1 in
          let end : after.at ≡ page.at + length line.bytes = puts.at ∙ cond-true _ _ _ (goes_here ∙ taken) ∙ ap (λ a. a + length line.bytes) at in
          record {
            answer = told_here;
            output = whole;
            behind = end ∙ sym (cond-true _ _ _ taken);
            number = sym (cond-true _ _ _ taken);
            reserved = λ h. room_left page.at after.at line.bytes out after.bytes.now (leb-true _ _ (and_parts _ _ yes.1).1) end (whole ∙ cond-true _ _ _ taken);
          }
