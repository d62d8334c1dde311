-- A line put into an output.
use Rattle.std.specs.Prelude.{◌≡◌, ◌+◌, ℕ, Bool, false, Option, None, Some, cond, ◌&&◌, length, Ok, Err, Result, nat_le}
use Rattle.output.specs.declared.faults.OutputFault.TheVariants.{Full}
use Rattle.output.specs.declared.output.Output.{Output}
use Rattle.output.specs.Puts.{put_at}
use Rattle.page.specs.declared.faults.PageFault.{PageFault}
use Rattle.page.specs.declared.faults.PageFault.TheVariants as fault
use Rattle.page.specs.Pages.{Line}
use Rattle.sets.specs.declared.faults.SetFault.TheVariants.{OtherWidth}

-- so many bytes fit at position `at` of an output of `size` bytes, and `kept` bytes stay free behind them; with none to keep, no bytes are taken
abbrev pub fits_leaving : (kept : Option ℕ) → (at bytes size : ℕ) → Bool
fits_leaving None at bytes size = false
fits_leaving (Some kept) at bytes size = nat_le (at + bytes + kept) size

-- the line fits an output, and what it shows is of the right width
abbrev pub goes : (line : Line) → (kept : Option ℕ) → Output → Bool
goes line kept out = line.same_width && fits_leaving kept out.at (length line.bytes) (length out.bytes.now)

-- the output has the line behind what was put, with `kept` bytes free behind it; another width is refused first, and where the line is refused, all is as before
pub record PutsLine (line : Line) (kept : Option ℕ) (before : Output) (r : Result Unit PageFault) (after : Output) : Type 0 where
  pub answer : r ≡ cond line.same_width (cond (fits_leaving kept before.at (length line.bytes) (length before.bytes.now)) (Ok tt) (Err (fault.Output Full))) (Err (fault.Set OtherWidth))
  pub at : after.at ≡ cond (goes line kept before) (before.at + length line.bytes) before.at
  pub whole : after.bytes.now ≡ cond (goes line kept before) (put_at before.at line.bytes before.bytes.now) before.bytes.now
  pub lent : after.bytes.ghost_name ≡ before.bytes.ghost_name
