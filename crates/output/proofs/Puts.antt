-- Laws of bytes put into an output.
use Rattle.std.proofs.Common.{◌≡◌, ℕ, ◌+◌, ◌-◌, ◌≤◌, true, false, ◌⊎◌, List, [], ◌++◌, length, take, drop, Ok, Err, sym, ap, ◌∙◌, inl, inr, append_assoc, add-zero, add_assoc, arith, length-append}
use borrow.Rule.Slice.PartMut.{put_mid}
use Rattle.std.proofs.lemmas.List.{drop-drop, length-take-le, length-drop, take_at, drop_at, take-append-drop}
use Rattle.std.proofs.lemmas.Bool.{cases_Bool, cond-true, cond-false, le-leb, leb-true}
use Rattle.output.specs.declared.faults.OutputFault.{OutputFault}
use Rattle.output.specs.declared.faults.OutputFault.TheVariants.{Full}
use Rattle.output.specs.Puts.{fits_at, put_at, put_answer_of, after_put}

-- what fits is put, and the position behind it is answered
pub answer_fits : (at : ℕ) (bytes out : List ℕ) → at + length bytes ≤ length out → put_answer_of at bytes out ≡ Ok (at + length bytes)
answer_fits at bytes out le = cond-true _ _ _ (le-leb (at + length bytes) (length out) le)

pub output_fits : (at : ℕ) (bytes out : List ℕ) → at + length bytes ≤ length out → after_put at bytes out ≡ put_at at bytes out
output_fits at bytes out le = cond-true _ _ _ (le-leb (at + length bytes) (length out) le)

-- so it is not refused
pub never_refused : {A : Type 0} (at : ℕ) (bytes out : List ℕ) (fault : OutputFault) → at + length bytes ≤ length out → put_answer_of at bytes out ≡ Err fault → A
never_refused at bytes out fault le e = let f = answer_fits at bytes out le in absurd (let z : ◌≡◌ {A = ℕ} 0 1 = cc in omega arith)

-- what is granted fits
pub granted_fits : (at next : ℕ) (bytes out : List ℕ) → Ok next ≡ put_answer_of at bytes out → at + length bytes ≤ length out
granted_fits at next bytes out e = by_test (cases_Bool (fits_at at bytes out))
  where
    by_test : (fits_at at bytes out ≡ true) ⊎ (fits_at at bytes out ≡ false) → at + length bytes ≤ length out
    by_test (inl fits) = leb-true (at + length bytes) (length out) fits
    by_test (inr full) =
        let f : put_answer_of at bytes out ≡ Err Full = cond-false _ _ _ full in
        absurd (let z : ◌≡◌ {A = ℕ} 0 1 = cc in omega arith)

-- a copy into the part of the output puts the bytes there
pub copied_is_put : (at : ℕ) (bytes out part : List ℕ) → part ≡ bytes → put_mid at (at + length bytes - at) out part ≡ put_at at bytes out
copied_is_put at bytes out part e =
    let n : at + length bytes - at ≡ length bytes = omega arith in
    rw (e, n, drop-drop (length bytes) at out)

-- the output keeps its length
pub length_put_at : (at : ℕ) (bytes out : List ℕ) → at + length bytes ≤ length out → length (put_at at bytes out) ≡ length out
length_put_at at bytes out le =
    let front : length (take at out) ≡ at = length-take-le at out (omega arith) in
    let behind : length (drop (at + length bytes) out) ≡ length out - (at + length bytes) = length-drop (at + length bytes) out in
    let rest : length (bytes ++ drop (at + length bytes) out) ≡ length bytes + length (drop (at + length bytes) out) = length-append bytes _ in
    length-append (take at out) _ ∙ omega arith

-- two puts, the second behind the first, are one put of the bytes of both
pub put_at_put_at : (at : ℕ) (bytes more out : List ℕ) → at + length bytes ≤ length out → put_at (at + length bytes) more (put_at at bytes out) ≡ put_at at (bytes ++ more) out
put_at_put_at at bytes more out le =
    let end : ℕ = at + length bytes in
    let front : List ℕ = take at out ++ bytes in
    let split : put_at at bytes out ≡ front ++ drop end out = sym (append_assoc (take at out) bytes (drop end out)) in
    let long : length front ≡ end = length-append (take at out) bytes ∙ ap (λ n. n + length bytes) (length-take-le at out (omega arith)) in
    let first : take end (put_at at bytes out) ≡ front = ap (take end) split ∙ take_at front (drop end out) end long in
    let last : drop (end + length more) (put_at at bytes out) ≡ drop (end + length more) out =
    sym (drop-drop (length more) end (put_at at bytes out))
    ∙ ap (λ xs. drop (length more) (drop end xs)) split
    ∙ ap (drop (length more)) (drop_at front (drop end out) end long)
    ∙ drop-drop (length more) end out in
    let sum : end + length more ≡ at + length (bytes ++ more) = add_assoc at (length bytes) (length more) ∙ ap (λ n. at + n) (sym (length-append bytes more)) in
    ap (λ xs. xs ++ (more ++ drop (end + length more) (put_at at bytes out))) first
    ∙ ap (λ xs. front ++ (more ++ xs)) last
    ∙ ap (λ n. front ++ (more ++ drop n out)) sum
    ∙ append_assoc (take at out) bytes (more ++ drop (at + length (bytes ++ more)) out)
    ∙ ap (λ xs. take at out ++ xs) (sym (append_assoc bytes more (drop (at + length (bytes ++ more)) out)))

-- nothing put leaves the output as it is
pub put_at_none : (at : ℕ) (out : List ℕ) → out ≡ put_at at [] out
put_at_none at out = sym (ap (λ n. take at out ++ drop n out) (add-zero at) ∙ take-append-drop at out)
