-- Refusals, layer by layer: each has the letter of the layer where it arose.
use Rattle.std.specs.Prelude.{ℕ, ◌<◌}
use Rattle.fault.specs.declared.Fault.{Fault}

-- a refusal where no text is concerned: its line and byte are 0
abbrev pub textless : (letter number : ℕ) → Fault
textless l n = record { letter = l; number = n; line = 0; byte = 0 }

-- a refusal of a text, at a line and a byte of that line, both counted from 1
abbrev pub in_text : (letter number line byte : ℕ) → Fault
in_text l n line byte = record { letter = l; number = n; line = line; byte = byte }

-- making sets and rules: `S`
abbrev pub in_sets : ℕ → Fault
in_sets = textless 83

-- trays: `C`
abbrev pub in_trays : ℕ → Fault
in_trays = textless 67

-- lines, fields and numbers: `F`
abbrev pub in_fields : (number line byte : ℕ) → Fault
in_fields = in_text 70

-- the table text: `T`
abbrev pub in_tables : (number line byte : ℕ) → Fault
in_tables = in_text 84

-- output and pages: `P`
abbrev pub in_output : ℕ → Fault
in_output = textless 80

-- drafts: `D`
abbrev pub in_drafts : ℕ → Fault
in_drafts = textless 68

-- queries: `A`
abbrev pub in_query : (number line byte : ℕ) → Fault
in_query = in_text 65

-- the job: `J`
abbrev pub in_jobs : ℕ → Fault
in_jobs = textless 74

-- the line and the byte of a refusal have at most five digits
pub record Near (f : Fault) : Type 0 where
  pub line : f.line < 100000
  pub byte : f.byte < 100000
