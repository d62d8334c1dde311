-- What is put into a lent output.
use Rattle.std.specs.Prelude.{◌≡◌, ◌+◌, ◌≤◌, ℕ, cond, List, length, Ok, Err, Result}
use Rattle.output.specs.declared.faults.OutputFault.{OutputFault}
use Rattle.output.specs.declared.faults.OutputFault.TheVariants.{Full}
use Rattle.output.specs.declared.output.Output.{Output}
use Rattle.output.specs.Puts.{after_put, fits_at, put_at}

-- the bytes are put behind what was put; where they do not fit, that is answered and all stays as before
pub record Puts (bytes : List ℕ) (before : Output) (r : Result Unit OutputFault) (after : Output) : Type 0 where
  pub answer : r ≡ cond (fits_at before.at bytes before.bytes.now) (Ok tt) (Err Full)
  pub at : after.at ≡ cond (fits_at before.at bytes before.bytes.now) (before.at + length bytes) before.at
  pub whole : after.bytes.now ≡ after_put before.at bytes before.bytes.now
  pub lent : after.bytes.ghost_name ≡ before.bytes.ghost_name

-- the bytes stand behind what was put, and the rest is as before
pub record Grows (bytes : List ℕ) (before after : Output) : Type 0 where
  pub at : after.at ≡ before.at + length bytes
  pub whole : after.bytes.now ≡ put_at before.at bytes before.bytes.now
  pub room : before.at + length bytes ≤ length before.bytes.now
  pub lent : after.bytes.ghost_name ≡ before.bytes.ghost_name
