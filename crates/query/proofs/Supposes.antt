-- The supposed names of a line, one by one, and the end of them.
use Rattle.std.proofs.Common.{◌≡◌, ℕ, suc, ◌+◌, ◌<◌, ◌≤◌, Bool, false, cond, ltb, ◌⊎◌, List, ◌∷◌, length, take, drop, Ok, Err, Result, sym, ap, ◌∙◌, inl, inr, arith}
use lib.Bits.{bit_or}
use Rattle.std.proofs.lemmas.Bool.{cases_lt, lt-ltb, le-ltb}
use Rattle.query.specs.declared.faults.QueryFault.{QueryFault}
use Rattle.query.specs.declared.faults.QueryFault.TheVariants.{TooFew}
use Rattle.query.specs.declared.reply.Reply.{Reply}
use Rattle.query.specs.Fields.{Field}
use Rattle.query.specs.Names.{and_then, name_word_of, with_names}
use Rattle.query.specs.Queries.{suppose_reply}
use Rattle.query.specs.Reply.{verdict}
use Rattle.query.specs.Rows.{holds_in_rows}

fewer : (a b : ℕ) → ltb (suc a) (suc b) ≡ ltb a b
fewer a b = at (cases_lt a b)
  where
    at : (a < b) ⊎ (b ≤ a) → ltb (suc a) (suc b) ≡ ltb a b
    at (inl h) = lt-ltb (suc a) (suc b) (omega arith) ∙ sym (lt-ltb a b h)
    at (inr h) = le-ltb (suc a) (suc b) (omega arith) ∙ sym (le-ltb a b h)

module _ (names : List (List ℕ)) (rows : List ℕ) (line size : ℕ) where
  -- what follows once the supposed names and the number of fields are settled
  abbrev after : (asked : List Field) (few : Bool) (premise : ℕ) → Result Reply QueryFault
  after asked few premise =
      and_then (with_names names line 0 asked)
      (λ conclusion. cond few (Err (TooFew line (size + 1))) (Ok (verdict (holds_in_rows rows premise conclusion))))

  module _ (word : ℕ) (f : Field) (fs fields : List Field) (is : fields ≡ f ∷ fs) (k j : ℕ) (more : k ≡ suc j) where
    step : suppose_reply names rows word line size k fields
        ≡ and_then (and_then (name_word_of names line f) (λ bit. with_names names line (bit_or word bit) (take j fs))) (after (drop j fs) (ltb (length fs) j))
    step =
        ap (λ n. suppose_reply names rows word line size n fields) more ∙ ap (suppose_reply names rows word line size (suc j)) is
        ∙ ap (λ few. and_then (and_then (name_word_of names line f) (λ bit. with_names names line (bit_or word bit) (take j fs))) (after (drop j fs) few)) (fewer (length fs) j)

    pub suppose_more : (bit : ℕ) → Ok bit ≡ name_word_of names line f → suppose_reply names rows word line size k fields ≡ suppose_reply names rows (bit_or word bit) line size j fs
    suppose_more bit e = step ∙ ap (λ r. and_then (and_then r (λ b. with_names names line (bit_or word b) (take j fs))) (after (drop j fs) (ltb (length fs) j))) (sym e)

    pub suppose_refused : (e : QueryFault) → Err e ≡ name_word_of names line f → suppose_reply names rows word line size k fields ≡ Err e
    suppose_refused e is-e = step ∙ ap (λ r. and_then (and_then r (λ b. with_names names line (bit_or word b) (take j fs))) (after (drop j fs) (ltb (length fs) j))) (sym is-e)

  module _ (word : ℕ) (fields : List Field) (k : ℕ) (none : k ≡ 0) where
    end : suppose_reply names rows word line size k fields ≡ after fields false word
    end = ap (λ n. suppose_reply names rows word line size n fields) none ∙ ap (λ few. after fields few word) (le-ltb (length fields) 0 (omega arith))

    pub asked_refused : (e : QueryFault) → Err e ≡ with_names names line 0 fields → suppose_reply names rows word line size k fields ≡ Err e
    asked_refused e is = end ∙ ap (λ r. and_then r (λ conclusion. Ok (verdict (holds_in_rows rows word conclusion)))) (sym is)

    pub asked_told : (conclusion : ℕ) → Ok conclusion ≡ with_names names line 0 fields → (told : Bool) → told ≡ holds_in_rows rows word conclusion → suppose_reply names rows word line size k fields ≡ Ok (verdict told)
    asked_told conclusion is told e = end ∙ ap (λ r. and_then r (λ c. Ok (verdict (holds_in_rows rows word c)))) (sym is) ∙ ap (λ t. Ok (verdict t)) (sym e)
