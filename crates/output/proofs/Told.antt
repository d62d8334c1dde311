-- A put into a lent output, told of its bytes and position alone.
use Rattle.std.proofs.Common.{◌≡◌, ℕ, ◌+◌, Bool, true, false, cond, List, ◌++◌, length, length-append, Ok, Err, Result, refl, ◌∙◌, sym, ap, ◌⊎◌, inl, inr, arith}
use Rattle.std.proofs.lemmas.Bool.{cases_Bool, cond-false, cond-true}
use Rattle.output.specs.declared.faults.OutputFault.{OutputFault}
use Rattle.output.specs.declared.faults.OutputFault.TheVariants.{Full}
use Rattle.output.specs.declared.output.Output.{Output}
use Rattle.output.specs.Outputs.{Grows, Puts}
use Rattle.output.proofs.Growing.{grows_more, grows_size, puts_fits}
use Rattle.output.proofs.Puts.{granted_fits}
use Rattle.output.specs.Puts.{after_put, fits_at, put_answer_of}

module _ (bytes : List ℕ) (a b : Output) where
  abbrev fits : Bool
  fits = fits_at a.at bytes a.bytes.now

  pub puts_told : (r : Result Unit OutputFault) → r ≡ Ok tt → Puts bytes a r b → (Ok b.at ≡ put_answer_of a.at bytes a.bytes.now) × (b.bytes.now ≡ after_put a.at bytes a.bytes.now)
  puts_told r granted p = (by_test (cases_Bool fits), p.whole)
    where
      by_test : (fits ≡ true) ⊎ (fits ≡ false) → Ok b.at ≡ put_answer_of a.at bytes a.bytes.now
      by_test (inl does) = ap Ok (p.at ∙ cond-true _ _ _ does) ∙ sym (cond-true _ _ _ does)
      by_test (inr not) = absurd (let told : ◌≡◌ {A = Result Unit OutputFault} (Ok tt) (Err Full) = sym granted ∙ p.answer ∙ cond-false _ _ _ not in let z : ◌≡◌ {A = ℕ} 0 1 = cc in omega arith)

  pub puts_untold : (f : OutputFault) → Puts bytes a (Err f) b → Err f ≡ put_answer_of a.at bytes a.bytes.now
  puts_untold f p = by_test (cases_Bool fits)
    where
      by_test : (fits ≡ true) ⊎ (fits ≡ false) → Err f ≡ put_answer_of a.at bytes a.bytes.now
      by_test (inl does) = absurd (let told : ◌≡◌ {A = Result Unit OutputFault} (Err f) (Ok tt) = p.answer ∙ cond-true _ _ _ does in let z : ◌≡◌ {A = ℕ} 0 1 = cc in omega arith)
      by_test (inr not) = let told : ◌≡◌ {A = Result Unit OutputFault} (Err f) (Err Full) = p.answer ∙ cond-false _ _ _ not in let same : f ≡ Full = cc in ap Err same ∙ sym (cond-false _ _ _ not)

-- what was granted has grown
pub puts_grows : (bytes : List ℕ) (a b : Output) (r : Result Unit OutputFault) → r ≡ Ok tt → Puts bytes a r b → Grows bytes a b
puts_grows bytes a b r granted p = (puts_fits bytes a b r (granted_fits a.at b.at bytes a.bytes.now (puts_told bytes a b r granted p).0) p).1

-- bytes behind others
pub grows_on : (bytes more : List ℕ) (a b c : Output) → Grows bytes a b → Grows more b c → Grows (bytes ++ more) a c
grows_on bytes more a b c g h = grows_more bytes more a b c (omega (arith, g.at, h.room, grows_size bytes a b g, length-append bytes more)) g h
