-- The limits of a page.
use Rattle.std.specs.Prelude.{ℕ}

-- the bytes behind a begun page that are set aside for its foot
abbrev pub reserve : ℕ
reserve = 9

-- the most lines of a page, besides head and foot
abbrev pub max_lines : ℕ
max_lines = 4096
