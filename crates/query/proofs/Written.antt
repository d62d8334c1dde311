-- The line of a query and its fields: what is written is read, and what is read is written.
use Rattle.std.proofs.Common.{◌≡◌, ℕ, suc, ◌+◌, ◌-◌, ◌*◌, ◌^◌, ◌<◌, ◌≤◌, true, false, not, ◌&&◌, eqb, ltb, leb, ◌⊎◌, List, [], ◌∷◌, ◌++◌, length, take, drop, None, Ok, Err, decimal, Result, sym, refl, ap, ◌∙◌, inl, inr, arith, lit≤}
use native.Mathlib.Nat.{pow-le-pow_right}
use Rattle.std.specs.Char.{is_ascii_digit}
use Rattle.std.specs.List.{AllByRecursion}
use Rattle.std.specs.Str.{all_ascii_digits}
use Rattle.std.proofs.lemmas.Fmt.{digits_decimal}
use Rattle.std.proofs.lemmas.List.{take_at, drop_at}
use Rattle.std.proofs.lemmas.Bool.{and_parts, cases_Bool, cond-true, cond-false, eqb-true, eqb-false, leb-true, ltb-true, ne_eqb, not-true}
use Rattle.query.specs.Fields.{Field, longer, fields_from, fields_of, rest_from}
use Rattle.query.specs.Meaning.{name_fields}
use Rattle.query.proofs.Meant.{texts}
use Rattle.query.proofs.Splits.{run, first}
use Rattle.table.specs.Names.{Name, name_byte, wrong_from}
use Rattle.table.proofs.Codecs.{Free, not_ok, cond_from}
use Rattle.table.proofs.NameLines.{cond_none}
use Rattle.table.proofs.Sizes.{own, zero_from}
use Rattle.text.specs.declared.faults.FieldFault.{FieldFault}
use Rattle.text.specs.declared.faults.FieldFault.TheVariants.{NoNumber}
use Rattle.text.specs.Numbers.{digits_from, number_of, zero_then}
use Rattle.text.proofs.Decimals.{power_more, digit_small}

-- ---- bytes with neither comma nor line feed

abbrev pub Plain : List ℕ → Type 0
Plain bs = AllByRecursion (λ b. (b ≡ 44 → ⊥) × (b ≡ 10 → ⊥)) bs

bytes_plain : (byte : ℕ) (bs : List ℕ) → wrong_from byte bs ≡ None → Plain bs
bytes_plain byte [] h = tt
bytes_plain byte (b ∷ bs) h =
    let p = cond_none (name_byte b) (wrong_from (byte + 1) bs) byte h in
    let q = and_parts (leb 32 b) (leb b 126 && not (eqb b 44)) p.0 in
    let low : 32 ≤ b = leb-true 32 b q.0 in
    let other = eqb-false b 44 (not-true _ (and_parts (leb b 126) (not (eqb b 44)) q.1).1) in
    ((other, λ e. omega arith), bytes_plain (byte + 1) bs p.1)

pub name_plain : (bs : List ℕ) → Name bs → Plain bs
name_plain bs h = bytes_plain 1 bs (cond_none (leb 1 (length bs) && leb (length bs) 40) (wrong_from 1 bs) 1 h).1

digits_plain : (ds : List ℕ) → all_ascii_digits ds ≡ true → Plain ds
digits_plain [] d = tt
digits_plain (b ∷ ds) d =
    let p = and_parts (is_ascii_digit b) (all_ascii_digits ds) d in
    let low : 48 ≤ b = leb-true 48 b (and_parts (leb 48 b) (leb b 57) p.0).0 in
    (((λ e. omega arith), λ e. omega arith), digits_plain ds p.1)

pub decimal_plain : (n : ℕ) → n < 10000 → Plain (decimal n)
decimal_plain n lt = digits_plain (decimal n) (digits_decimal own n (omega arith))

free_word : (bs rest : List ℕ) → Plain bs → Free rest → Free (bs ++ rest)
free_word [] rest p f = f
free_word (b ∷ bs) rest (p, ps) f = (p.1, free_word bs rest ps f)

free_names : (names : List (List ℕ)) → AllByRecursion Plain names → Free (name_fields names)
free_names [] p = tt
free_names (name ∷ names) (p, ps) = ((λ (e : 44 ≡ 10). omega arith), free_word name (name_fields names) p (free_names names ps))

-- a line of plain bytes and plain names has no line feed
pub line_free : (word : List ℕ) (names : List (List ℕ)) → Plain word → AllByRecursion Plain names → Free (word ++ name_fields names)
line_free word names p ps = free_word word (name_fields names) p (free_names names ps)

-- ---- what is written is read

run_names : (names : List (List ℕ)) → run (name_fields names) ≡ 0
run_names [] = refl
run_names (name ∷ names) = refl

run_word : (word : List ℕ) (names : List (List ℕ)) → Plain word → run (word ++ name_fields names) ≡ length word
run_word [] names p = run_names names
run_word (b ∷ word) names (p, ps) = cond-false _ _ _ (ne_eqb b 44 p.0) ∙ ap suc (run_word word names ps)

word_first : (at : ℕ) (word : List ℕ) (names : List (List ℕ)) → Plain word
    → fields_from (at + 1) (word ++ name_fields names) ≡ record { byte = at + 1; bytes = word } ∷ rest_from (at + length word) (name_fields names)
word_first at word names p =
    first at (word ++ name_fields names)
    ∙ ap (λ n. record { byte = at + 1; bytes = take n (word ++ name_fields names) } ∷ rest_from (at + n) (drop n (word ++ name_fields names))) (run_word word names p)
    ∙ ap (λ bs. record { byte = at + 1; bytes = bs } ∷ rest_from (at + length word) (drop (length word) (word ++ name_fields names))) (take_at word (name_fields names) (length word) refl)
    ∙ ap (λ bs. record { byte = at + 1; bytes = word } ∷ rest_from (at + length word) bs) (drop_at word (name_fields names) (length word) refl)

names_read : (at : ℕ) (names : List (List ℕ)) → AllByRecursion Plain names → texts (rest_from at (name_fields names)) ≡ names
names_read at [] p = refl
names_read at (name ∷ names) (p, ps) =
    let next : at + 2 ≡ at + 1 + 1 = omega arith in
    ap (λ n. texts (fields_from n (name ++ name_fields names))) next ∙ ap texts (word_first (at + 1) name names p)
    ∙ ap (λ ns. name ∷ ns) (names_read (at + 1 + length name) names ps)

-- the fields of a line of a verb and names
pub record Read (line verb : List ℕ) (names : List (List ℕ)) : Type 0 where
  pub first : Field
  pub rest : List Field
  pub fields : fields_of line ≡ first ∷ rest
  pub verb_is : first.bytes ≡ verb
  pub names_are : texts rest ≡ names

pub line_read : (verb : List ℕ) (names : List (List ℕ)) → Plain verb → AllByRecursion Plain names → Read (verb ++ name_fields names) verb names
line_read verb names p ps =
    record {
      first = record { byte = 1; bytes = verb };
      rest = rest_from (0 + length verb) (name_fields names);
      fields = word_first 0 verb names p;
      verb_is = refl;
      names_are = names_read (0 + length verb) names ps;
    }

-- ---- what is read is written

abbrev rejoined : List Field → List ℕ
rejoined [] = []
rejoined (f ∷ fields) = f.bytes ++ name_fields (texts fields)

pub some_field : (at : ℕ) (bs : List ℕ) → (f : Field) × (fs : List Field) × (fields_from at bs ≡ f ∷ fs)
some_field at [] = (record { byte = at; bytes = [] }, [], refl)
some_field at (b ∷ bs) = pick (cases_Bool (eqb b 44)) (some_field (at + 1) bs)
  where
    pick : (eqb b 44 ≡ true) ⊎ (eqb b 44 ≡ false) → (f : Field) × (fs : List Field) × (fields_from (at + 1) bs ≡ f ∷ fs) → (f : Field) × (fs : List Field) × (fields_from at (b ∷ bs) ≡ f ∷ fs)
    pick (inl t) (f, fs, is) = (record { byte = at; bytes = [] }, fields_from (at + 1) bs, cond-true _ _ _ t)
    pick (inr t) (f, fs, is) = (record { byte = at; bytes = b ∷ f.bytes }, fs, cond-false _ _ _ t ∙ ap (longer at b) is)

whole : (at : ℕ) (bs : List ℕ) → rejoined (fields_from at bs) ≡ bs
whole at [] = refl
whole at (b ∷ bs) = pick (cases_Bool (eqb b 44)) (some_field (at + 1) bs) (whole (at + 1) bs)
  where
    pick : (eqb b 44 ≡ true) ⊎ (eqb b 44 ≡ false) → (f : Field) × (fs : List Field) × (fields_from (at + 1) bs ≡ f ∷ fs) → rejoined (fields_from (at + 1) bs) ≡ bs → rejoined (fields_from at (b ∷ bs)) ≡ b ∷ bs
    pick (inl t) (f, fs, is) e =
        ap rejoined (cond-true _ (record { byte = at; bytes = [] } ∷ fields_from (at + 1) bs) _ t) ∙ ap (λ xs. name_fields (texts xs)) is
        ∙ ap (λ xs. 44 ∷ xs) (sym (ap rejoined is) ∙ e) ∙ ap (λ x. x ∷ bs) (sym (eqb-true b 44 t))
    pick (inr t) (f, fs, is) e =
        ap rejoined (cond-false _ _ (longer at b (fields_from (at + 1) bs)) t) ∙ ap (λ xs. rejoined (longer at b xs)) is
        ∙ ap (λ xs. b ∷ xs) (sym (ap rejoined is) ∙ e)

-- a line is its first field, and the others behind commas
pub line_written : (line : List ℕ) (f : Field) (fields : List Field) → fields_of line ≡ f ∷ fields → line ≡ f.bytes ++ name_fields (texts fields)
line_written line f fields is = sym (whole 1 line) ∙ ap rejoined is

-- ---- a number has at most four digits

digits_few : (l v k : ℕ) (ds : List ℕ) (n : ℕ) → digits_from l v k ds ≡ Ok n → v < 10 ^ k → k ≤ 4 → n < 10000
digits_few l v k [] n h small few =
    let same : v ≡ n = cc in
    let most : 10 ^ k ≤ 10 ^ 4 = pow-le-pow_right (lit≤ tt) few in
    omega arith
digits_few l v k (b ∷ ds) n h small few = go (cond_from (ltb k 4 && is_ascii_digit b) (digits_from l (v * 10 + (b - 48)) (k + 1) ds) (Err (NoNumber l (k + 1))) n h) (digits_few l (v * 10 + (b - 48)) (k + 1) ds n)
  where
    go : (((ltb k 4 && is_ascii_digit b) ≡ true) × (digits_from l (v * 10 + (b - 48)) (k + 1) ds ≡ Ok n)) ⊎ (((ltb k 4 && is_ascii_digit b) ≡ false) × (◌≡◌ {A = Result ℕ FieldFault} (Err (NoNumber l (k + 1))) (Ok n)))
        → (digits_from l (v * 10 + (b - 48)) (k + 1) ds ≡ Ok n → v * 10 + (b - 48) < 10 ^ (k + 1) → k + 1 ≤ 4 → n < 10000) → n < 10000
    go (inl p) f =
        let q = and_parts (ltb k 4) (is_ascii_digit b) p.0 in
        let lt : k < 4 = ltb-true k 4 q.0 in
        f p.1 (power_more v (b - 48) k small (digit_small b q.1)) (omega arith)
    go (inr p) f = absurd (not_ok _ n p.1)

pub number_few : (l : ℕ) (bs : List ℕ) (n : ℕ) → number_of l bs ≡ Ok n → n < 10000
number_few l [] n h = absurd (not_ok _ n h)
number_few l (b ∷ bs) n h = go (cond_from (eqb b 48) (zero_then l bs) (digits_from l 0 0 (b ∷ bs)) n h)
  where
    go : ((eqb b 48 ≡ true) × (zero_then l bs ≡ Ok n)) ⊎ ((eqb b 48 ≡ false) × (digits_from l 0 0 (b ∷ bs) ≡ Ok n)) → n < 10000
    go (inl p) = let z = zero_from l bs n p.1 in omega arith
    go (inr p) = digits_few l 0 0 (b ∷ bs) n p.1 (omega arith) (omega arith)
