-- The names of a line, one by one.
use Rattle.std.proofs.Common.{◌≡◌, ℕ, ◌-◌, ◌*◌, ◌%◌, ◌^◌, ◌≤◌, List, length, Ok, Err, sym, ap, ◌∙◌, arith}
use Rattle.query.specs.declared.faults.QueryFault.TheVariants.{NoName}
use Rattle.query.specs.Fields.{Field}
use Rattle.query.specs.Meaning.{Means, Unmeant}
use Rattle.query.specs.Names.{name_word_of, found_word}
use Rattle.query.proofs.Meant.{meant_found, unmeant_none}
use Rattle.view.proofs.Narrow.{bit_beyond}

-- the set of the signal that was found
pub word_found : (names : List (List ℕ)) (line : ℕ) (f : Field) (m i : ℕ) → m ≡ length names → m ≤ 60 → Means names f.bytes i
    → Ok ((1 * 2 ^ (m - 1 - i)) % 2 ^ 64) ≡ name_word_of names line f
word_found names line f m i is few means =
    ap Ok (bit_beyond (m - 1 - i) (omega arith)) ∙ ap (λ n. Ok (2 ^ (n - 1 - i))) is ∙ ap (found_word (length names) line f.byte) (sym (meant_found names f.bytes i means))

-- no signal was found
pub word_missing : (names : List (List ℕ)) (line : ℕ) (f : Field) → Unmeant names f.bytes → Err (NoName line f.byte) ≡ name_word_of names line f
word_missing names line f none = ap (found_word (length names) line f.byte) (sym (unmeant_none names f.bytes none))
