-- A line that an entry puts: its width is tested, then the room for its bytes, and then they are put.
use Rattle.std.proofs.Common.{◌≡◌, ℕ, ◌+◌, ◌≤◌, Bool, Option, None, Some, true, false, cond, length, Ok, Err, Result, sym, refl, ap, ◌∙◌, arith}
use Rattle.std.proofs.lemmas.Bool.{and_from, and_right, cond-false, cond-true, leb-true, true≢false}
use Rattle.output.specs.declared.faults.OutputFault.{OutputFault}
use Rattle.output.specs.declared.faults.OutputFault.TheVariants.{Full}
use Rattle.page.specs.declared.faults.PageFault.{PageFault}
use Rattle.page.specs.declared.faults.PageFault.TheVariants as fault
use Rattle.output.specs.declared.output.Output.{Output}
use Rattle.output.specs.Outputs.{Puts}
use Rattle.output.proofs.Growing.{puts_fits}
use Rattle.page.specs.Lines.{PutsLine, fits_leaving}
use Rattle.page.specs.Pages.{Line}

-- what a test was that is answered with a refusal or none
pub passed : {E : Type 0} (test : Bool) (e : E) → ◌≡◌ {A = Result Unit E} (Ok tt) (cond test (Ok tt) (Err e)) → test ≡ true
passed true e is = refl
passed false e is = absurd (let z : ◌≡◌ {A = ℕ} 0 1 = cc in omega arith)

pub failed : {E : Type 0} (test : Bool) (e f : E) → ◌≡◌ {A = Result Unit E} (Err f) (cond test (Ok tt) (Err e)) → (test ≡ false) × (f ≡ e)
failed true e f is = absurd (let z : ◌≡◌ {A = ℕ} 0 1 = cc in omega arith)
failed false e f is = (refl, cc)

-- what fits, fits where no byte is kept
free_behind : (kept : Option ℕ) (at bytes size : ℕ) → fits_leaving kept at bytes size ≡ true → at + bytes ≤ size
free_behind None at bytes size h = absurd (true≢false (sym h))
free_behind (Some kept) at bytes size h = let all = leb-true _ _ h in omega arith

-- `bytes` is what the code has for the line's length
module _ (line : Line) (kept : Option ℕ) (out : Output) (same : line.same_width ≡ true) (bytes : ℕ) (long : bytes ≡ length line.bytes) where
  abbrev room : ℕ → Bool
  room n = fits_leaving kept out.at n (length out.bytes.now)

  -- no room
  pub entry_full : (r : Result Unit PageFault) (f : OutputFault) → r ≡ Err (fault.Output f) → ◌≡◌ {A = Result Unit OutputFault} (Err f) (cond (room bytes) (Ok tt) (Err Full)) → PutsLine line kept out r out
  entry_full r f is e =
      let full = failed (room bytes) Full f e in
      let not : room (length line.bytes) ≡ false = sym (ap room long) ∙ full.0 in
      record {
        answer = is ∙ ap (λ x. Err (fault.Output x)) full.1 ∙ sym (cond-true _ _ _ same ∙ cond-false _ _ _ not);
        at = sym (cond-false _ _ _ (and_right _ _ not));
        whole = sym (cond-false _ _ _ (and_right _ _ not));
        lent = refl;
      }

  module _ (free : ◌≡◌ {A = Result Unit OutputFault} (Ok tt) (cond (room bytes) (Ok tt) (Err Full))) where
    yes : room (length line.bytes) ≡ true
    yes = sym (ap room long) ∙ passed (room bytes) Full free

    -- the room there is
    pub entry_room : out.at + length line.bytes ≤ length out.bytes.now
    entry_room = free_behind kept out.at (length line.bytes) (length out.bytes.now) yes

    -- all is put
    pub entry_put : (r : Result Unit PageFault) (s : Result Unit OutputFault) (later : Output) → r ≡ Ok tt → Puts line.bytes out s later → PutsLine line kept out r later
    entry_put r s later granted put =
        let g = (puts_fits line.bytes out later s entry_room put).1 in
        record {
          answer = granted ∙ sym (cond-true _ _ _ same ∙ cond-true _ _ _ yes);
          at = g.at ∙ sym (cond-true _ _ _ (and_from _ _ same yes));
          whole = g.whole ∙ sym (cond-true _ _ _ (and_from _ _ same yes));
          lent = g.lent;
        }
