-- The reply to a query says what it is to say, in names, signals and rows.
use Rattle.std.proofs.Common.{◌≡◌, ℕ, zero, suc, ◌+◌, ◌<◌, ◌≤◌, Bool, true, false, cond, ◌&&◌, ltb, leb, ◌⊎◌, ◌↔◌, List, [], ◌∷◌, ◌++◌, length, get_or, take, drop, Ok, Err, codes, decimal, Result, sym, refl, ap, ◌∙◌, subst, inl, inr, arith}
use Rattle.std.specs.List.{AllByRecursion}
use Rattle.std.specs.Str.{bytes_eq}
use Rattle.std.proofs.lemmas.Slice.Eq.{bytes_eq-Decides}
use Rattle.std.proofs.lemmas.List.{drop_at, drop-map, length-append, length-map, length-take-le, map-append, take-append-drop, take_at, take-map}
use Rattle.std.proofs.lemmas.Bool.{and_parts, cases_Bool, cond-false, cond-true, le-ltb, leb-true, ltb-false, true≢false}
use Rattle.query.specs.declared.faults.QueryFault.{QueryFault}
use Rattle.query.specs.declared.faults.QueryFault.TheVariants as fault
use Rattle.query.specs.declared.reply.Reply.{Reply}
use Rattle.query.specs.declared.reply.Reply.TheVariants.{Done, Yes, No}
use Rattle.query.specs.Fields.{Field, fields_of}
use Rattle.query.specs.Meaning.{Decided, Fitting, Follows, Given, Joined, Meant, Puts, Query, Replies, name_fields, query_line}
use Rattle.query.specs.Names.{and_then, with_names}
use Rattle.query.specs.Queries.{pass_up, at_start, count_of, fields_known, fields_reply, follows_reply, given_known, given_reply, known_after, known_upto, known_by_line, reply_by_line, reply_of, suppose_reply}
use Rattle.query.specs.Reply.{verdict}
use Rattle.query.specs.Rows.{holds_in_rows}
use Rattle.query.proofs.Contained.{holds_tested, tested_holds}
use Rattle.query.proofs.Meant.{names_join, names_meant, texts}
use Rattle.query.proofs.Verbs.{by_given, by_follows}
use Rattle.query.proofs.Written.{Plain, Read, decimal_plain, line_free, line_read, line_written, name_plain, number_few, some_field}
use Rattle.table.specs.Names.{Name}
use Rattle.table.proofs.Codecs.{Fed, Free, feed_found, feed_read_from, not_ok}
use Rattle.table.proofs.Sizes.{number_from, number_reads}
use Rattle.theory.specs.Rows.{Holds}
use Rattle.text.specs.declared.faults.FieldFault.{FieldFault}
use Rattle.text.specs.Lines.{feed_from, line_end_of}
use Rattle.text.specs.Numbers.{number_of}

-- ---- what holds of each

every_at : {X : Type 0} (P : X → Type 0) (xs : List X) (i : ℕ) (d : X) → i < length xs → AllByRecursion P xs → P (get_or xs i d)
every_at P [] i d lt all = absurd (omega arith)
every_at P (x ∷ xs) zero d lt (p, all) = p
every_at P (x ∷ xs) (suc i) d lt (p, all) = every_at P xs i d (omega arith) all

every_join : {X : Type 0} (P : X → Type 0) (xs ys : List X) → AllByRecursion P xs → AllByRecursion P ys → AllByRecursion P (xs ++ ys)
every_join P [] ys p q = q
every_join P (x ∷ xs) ys (p, ps) q = (p, every_join P xs ys ps q)

every_parts : {X : Type 0} (P : X → Type 0) (xs ys : List X) → AllByRecursion P (xs ++ ys) → AllByRecursion P xs × AllByRecursion P ys
every_parts P [] ys q = (tt, q)
every_parts P (x ∷ xs) ys (p, all) = let rest = every_parts P xs ys all in ((p, rest.0), rest.1)

meant_plain : (names : List (List ℕ)) → AllByRecursion Name names → (some : List (List ℕ)) → AllByRecursion (Meant names) some → AllByRecursion Plain some
meant_plain names named [] all = tt
meant_plain names named (bytes ∷ some) ((i, m), all) =
    (name_plain bytes (subst Name m.here (every_at Name names i [] m.within named)), meant_plain names named some all)

-- bytes above the comma and the line feed
abbrev above : List ℕ → Bool
above [] = true
above (b ∷ bs) = leb 45 b && above bs

above_plain : (bs : List ℕ) → above bs ≡ true → Plain bs
above_plain [] e = tt
above_plain (b ∷ bs) e =
    let p = and_parts (leb 45 b) (above bs) e in
    let low : 45 ≤ b = leb-true 45 b p.0 in
    (((λ e. omega arith), λ e. omega arith), above_plain bs p.1)

given_plain : Plain (codes "given")
given_plain = above_plain (codes "given") refl

follows_plain : Plain (codes "follows")
follows_plain = above_plain (codes "follows") refl

-- ---- results

then_from : {X Y E : Type 0} (r : Result X E) (f : X → Result Y E) (y : Y) → and_then r f ≡ Ok y → (x : X) × (r ≡ Ok x) × (f x ≡ Ok y)
then_from (Ok x) f y h = (x, refl, h)
then_from (Err e) f y h = absurd (not_ok e y h)

passed_from : {X : Type 0} (r : Result X FieldFault) (x : X) → pass_up r ≡ Ok x → r ≡ Ok x
passed_from (Ok y) x h = cc
passed_from (Err e) x h = absurd (not_ok _ x h)

started_from : (line byte : ℕ) (r : Result ℕ FieldFault) (k : ℕ) → at_start line byte r ≡ Ok k → r ≡ Ok k
started_from line byte (Ok j) k h = cc
started_from line byte (Err e) k h = absurd (not_ok _ k h)

given_from : (w : Result ℕ QueryFault) (reply : Reply) → given_reply w ≡ Ok reply → (x : ℕ) × (w ≡ Ok x)
given_from (Ok x) reply h = (x, refl)
given_from (Err e) reply h = absurd (not_ok e reply h)

granted_from : (t : Bool) (e : QueryFault) (granted : Result Reply QueryFault) (reply : Reply) → cond t (Err e) granted ≡ Ok reply → t ≡ false
granted_from true e granted reply h = absurd (not_ok e reply h)
granted_from false e granted reply h = refl

verdict_yes : (t : Bool) → ◌≡◌ {A = Result Reply QueryFault} (Ok (verdict t)) (Ok Yes) → t ≡ true
verdict_yes true e = refl
verdict_yes false e = let z : ◌≡◌ {A = ℕ} 0 1 = cc in absurd (omega arith)

verdict_no : (t : Bool) → ◌≡◌ {A = Result Reply QueryFault} (Ok (verdict t)) (Ok No) → t ≡ false
verdict_no true e = let z : ◌≡◌ {A = ℕ} 0 1 = cc in absurd (omega arith)
verdict_no false e = refl

-- a verdict is yes exactly when the test decides so
pub decides : (t : Bool) (P : Type 0) → (t ≡ true → P) → (P → t ≡ true) → (r : Result Reply QueryFault) → r ≡ Ok (verdict t) → ((r ≡ Ok Yes) ↔ P) × ((r ≡ Ok No) ↔ (P → ⊥))
decides t P forth back r is = (
  ((λ e. forth (verdict_yes t (sym is ∙ e))), λ p. is ∙ ap (λ b. Ok (verdict b)) (back p)),
  ((λ e p. true≢false (sym (back p) ∙ verdict_no t (sym is ∙ e))), λ n. is ∙ ap (λ b. Ok (verdict b)) (other n (cases_Bool t))),
)
  where
    other : (P → ⊥) → (t ≡ true) ⊎ (t ≡ false) → t ≡ false
    other n (inl e) = absurd (n (forth e))
    other n (inr e) = e

-- ---- fields with given texts

texts_cons : (fields : List Field) (x : List ℕ) (xs : List (List ℕ)) → texts fields ≡ x ∷ xs → (f : Field) × (fs : List Field) × (fields ≡ f ∷ fs) × (f.bytes ≡ x) × (texts fs ≡ xs)
texts_cons [] x xs e = let z : ◌≡◌ {A = ℕ} 0 1 = cc in absurd (omega arith)
texts_cons (f ∷ fs) x xs e = (f, fs, refl, cc, cc)

texts_take : (fields : List Field) (some more : List (List ℕ)) → texts fields ≡ some ++ more → texts (take (length some) fields) ≡ some
texts_take fields some more e = sym (take-map (λ (f : Field). f.bytes) (length some) fields) ∙ ap (take (length some)) e ∙ take_at some more (length some) refl

texts_drop : (fields : List Field) (some more : List (List ℕ)) → texts fields ≡ some ++ more → texts (drop (length some) fields) ≡ more
texts_drop fields some more e = sym (drop-map (λ (f : Field). f.bytes) (length some) fields) ∙ ap (drop (length some)) e ∙ drop_at some more (length some) refl

-- ---- the first line of a text

module _ (names : List (List ℕ)) (rows : List ℕ) (before number : ℕ) (text : List ℕ) where
  module _ (end : ℕ) (ends : line_end_of number 0 text ≡ Ok end) (line : List ℕ) (is : take end text ≡ line) where
    reply_line : reply_of names rows before number text ≡ reply_by_line names rows before number line
    reply_line = ap (λ r. and_then (pass_up r) (λ n. reply_by_line names rows before number (take n text))) ends ∙ ap (reply_by_line names rows before number) is

    known_line : known_after names before number text ≡ known_by_line names before number line
    known_line = ap (known_upto names before number text) ends ∙ ap (known_by_line names before number) is

  module _ (line rest : List ℕ) (free : Free line) (is : text ≡ line ++ 10 ∷ rest) where
    ends_there : line_end_of number 0 text ≡ Ok (length line)
    ends_there = ap (feed_from number 0) is ∙ feed_found number 0 line rest free ∙ ap Ok (omega arith)

    taken_there : take (length line) text ≡ line
    taken_there = ap (take (length line)) is ∙ take_at line (10 ∷ rest) (length line) refl

  -- names that are given
  given_told : AllByRecursion Name names → (added : List (List ℕ)) → Fitting names (Given added) → Puts text (Given added)
      → (reply_of names rows before number text ≡ Ok Done) × Joined names before added (known_after names before number text)
  given_told named added fit puts = at (names_join names number before read.rest (subst (AllByRecursion (Meant names)) (sym read.names_are) fit))
    where
      plain : AllByRecursion Plain added
      plain = meant_plain names named added fit

      free : Free (query_line (Given added))
      free = line_free (codes "given") added given_plain plain

      read : Read (query_line (Given added)) (codes "given") added
      read = line_read (codes "given") added given_plain plain

      same : bytes_eq read.first.bytes (codes "given") ≡ true
      same = ap (λ bs. bytes_eq bs (codes "given")) read.verb_is

      at : (later : ℕ) × (with_names names number before read.rest ≡ Ok later) × Joined names before (texts read.rest) later
          → (reply_of names rows before number text ≡ Ok Done) × Joined names before added (known_after names before number text)
      at (later, is, joined) =
          let told = by_given names rows before number (query_line (Given added)) read.first read.rest read.fields (given_reply (with_names names number before read.rest)) (given_known before (with_names names number before read.rest)) same refl refl in
          let ends = ends_there (query_line (Given added)) puts.rest free puts.begins in
          let taken = taken_there (query_line (Given added)) puts.rest free puts.begins in
          let reply : reply_of names rows before number text ≡ Ok Done = reply_line (length (query_line (Given added))) ends (query_line (Given added)) taken ∙ sym told.answer ∙ ap given_reply is in
          let known : known_after names before number text ≡ later = known_line (length (query_line (Given added))) ends (query_line (Given added)) taken ∙ sym told.known ∙ ap (given_known before) is in
          (reply, subst (Joined names before added) (sym known) (subst (λ ns. Joined names before ns later) read.names_are joined))

  -- names that are supposed, and names that are asked
  module _ (k : ℕ) (count : Field) (fields : List Field) (counted : count_of number count ≡ Ok k) (enough : k ≤ length fields) (size p q : ℕ)
      (premise : with_names names number before (take k fields) ≡ Ok p) (conclusion : with_names names number 0 (drop k fields) ≡ Ok q) where
    supposed_told : follows_reply names rows before number size (count ∷ fields) ≡ Ok (verdict (holds_in_rows rows p q))
    supposed_told =
        ap (λ r. and_then (pass_up r) (λ n. suppose_reply names rows before number size n fields)) counted
        ∙ ap (λ r. and_then r (λ x. and_then (with_names names number 0 (drop k fields)) (λ y. cond (ltb (length fields) k) (Err (fault.TooFew number (size + 1))) (Ok (verdict (holds_in_rows rows x y)))))) premise
        ∙ ap (λ r. and_then r (λ y. cond (ltb (length fields) k) (Err (fault.TooFew number (size + 1))) (Ok (verdict (holds_in_rows rows p y))))) conclusion
        ∙ cond-false _ _ _ (le-ltb (length fields) k enough)

  follows_told : AllByRecursion Name names → (supposed asked : List (List ℕ)) → Fitting names (Follows supposed asked) → Puts text (Follows supposed asked)
      → Decided names rows before supposed asked (reply_of names rows before number text)
  follows_told named supposed asked (fit, few) puts = by_count (texts_cons read.rest (decimal (length supposed)) (supposed ++ asked) read.names_are)
    where
      plain : AllByRecursion Plain (decimal (length supposed) ∷ (supposed ++ asked))
      plain = (decimal_plain (length supposed) few, meant_plain names named (supposed ++ asked) fit)

      free : Free (query_line (Follows supposed asked))
      free = line_free (codes "follows") (decimal (length supposed) ∷ (supposed ++ asked)) follows_plain plain

      read : Read (query_line (Follows supposed asked)) (codes "follows") (decimal (length supposed) ∷ (supposed ++ asked))
      read = line_read (codes "follows") (decimal (length supposed) ∷ (supposed ++ asked)) follows_plain plain

      same : bytes_eq read.first.bytes (codes "follows") ≡ true
      same = ap (λ bs. bytes_eq bs (codes "follows")) read.verb_is

      other : bytes_eq read.first.bytes (codes "given") ≡ false
      other = ap (λ bs. bytes_eq bs (codes "given")) read.verb_is

      by_count : (f : Field) × (fs : List Field) × (read.rest ≡ f ∷ fs) × (f.bytes ≡ decimal (length supposed)) × (texts fs ≡ supposed ++ asked) → Decided names rows before supposed asked (reply_of names rows before number text)
      by_count (count, fields, is, written, all) = by_names (names_join names number before (take (length supposed) fields) (subst (AllByRecursion (Meant names)) (sym front) parts.0)) (names_join names number 0 (drop (length supposed) fields) (subst (AllByRecursion (Meant names)) (sym back) parts.1))
        where
          parts : AllByRecursion (Meant names) supposed × AllByRecursion (Meant names) asked
          parts = every_parts (Meant names) supposed asked fit

          front : texts (take (length supposed) fields) ≡ supposed
          front = texts_take fields supposed asked all

          back : texts (drop (length supposed) fields) ≡ asked
          back = texts_drop fields supposed asked all

          counted : count_of number count ≡ Ok (length supposed)
          counted = ap (λ bs. at_start number count.byte (number_of number bs)) written ∙ ap (at_start number count.byte) (number_reads number (length supposed) few)

          enough : length supposed ≤ length fields
          enough = omega (arith, length-map fields (λ (f : Field). f.bytes), ap length all, length-append supposed asked)

          by_names : (p : ℕ) × (with_names names number before (take (length supposed) fields) ≡ Ok p) × Joined names before (texts (take (length supposed) fields)) p
              → (q : ℕ) × (with_names names number 0 (drop (length supposed) fields) ≡ Ok q) × Joined names 0 (texts (drop (length supposed) fields)) q
              → Decided names rows before supposed asked (reply_of names rows before number text)
          by_names (p, is_p, joined_p) (q, is_q, joined_q) =
              let size = length (query_line (Follows supposed asked)) in
              let told = by_follows names rows before number (query_line (Follows supposed asked)) read.first read.rest read.fields (follows_reply names rows before number size read.rest) before other refl same refl in
              let ends = ends_there (query_line (Follows supposed asked)) puts.rest free puts.begins in
              let taken = taken_there (query_line (Follows supposed asked)) puts.rest free puts.begins in
              let reply : reply_of names rows before number text ≡ Ok (verdict (holds_in_rows rows p q)) =
              reply_line size ends (query_line (Follows supposed asked)) taken ∙ sym told.answer ∙ ap (follows_reply names rows before number size) is
              ∙ supposed_told (length supposed) count fields counted enough size p q is_p is_q in
              let verdicts = decides (holds_in_rows rows p q) (Holds rows p q) (tested_holds rows p q) (holds_tested rows p q) (reply_of names rows before number text) reply in
              record {
                premise = p;
                conclusion = q;
                premise_is = subst (λ ns. Joined names before ns p) front joined_p;
                conclusion_is = subst (λ ns. Joined names 0 ns q) back joined_q;
                yes = verdicts.0;
                no = verdicts.1;
              }

  -- only a fitting query is granted
  abbrev FittingPut : Type 0
  FittingPut = (query : Query) × Fitting names query × Puts text query

  module _ (line rest : List ℕ) (begins : text ≡ line ++ 10 ∷ rest) (verb : Field) (fields : List Field) (split : fields_of line ≡ verb ∷ fields) where
    given_put : bytes_eq verb.bytes (codes "given") ≡ true → (later : ℕ) → with_names names number before fields ≡ Ok later → FittingPut
    given_put same later is =
        let written : line ≡ query_line (Given (texts fields)) = line_written line verb fields split ∙ ap (λ bs. bs ++ name_fields (texts fields)) ((bytes_eq-Decides verb.bytes (codes "given")).0 same) in
        (Given (texts fields), names_meant names number before fields later is, record { rest = rest; begins = begins ∙ ap (λ bs. bs ++ 10 ∷ rest) written })

    follows_put : bytes_eq verb.bytes (codes "follows") ≡ true → (count : Field) (some : List Field) → fields ≡ count ∷ some → (k : ℕ) → number_of number count.bytes ≡ Ok k → k ≤ length some
        → (p : ℕ) → with_names names number before (take k some) ≡ Ok p → (q : ℕ) → with_names names number 0 (drop k some) ≡ Ok q → FittingPut
    follows_put same count some are k counted enough p is_p q is_q =
        let few = number_few number count.bytes k counted in
        let size : length (texts (take k some)) ≡ k = length-map (take k some) (λ (f : Field). f.bytes) ∙ length-take-le k some enough in
        let number_is : count.bytes ≡ decimal (length (texts (take k some))) = number_from number count.bytes k (omega arith) counted ∙ ap decimal (sym size) in
        let parts : texts some ≡ texts (take k some) ++ texts (drop k some) = ap texts (sym (take-append-drop k some)) ∙ map-append (λ (f : Field). f.bytes) (take k some) (drop k some) in
        let written : line ≡ query_line (Follows (texts (take k some)) (texts (drop k some))) =
        line_written line verb fields split ∙ ap (λ bs. bs ++ name_fields (texts fields)) ((bytes_eq-Decides verb.bytes (codes "follows")).0 same)
        ∙ ap (λ fs. codes "follows" ++ name_fields (texts fs)) are ∙ ap (λ bs. codes "follows" ++ name_fields (bs ∷ texts some)) number_is
        ∙ ap (λ ns. codes "follows" ++ name_fields (decimal (length (texts (take k some))) ∷ ns)) parts in (
          Follows (texts (take k some)) (texts (drop k some)),
          (every_join (Meant names) (texts (take k some)) (texts (drop k some)) (names_meant names number before (take k some) p is_p) (names_meant names number 0 (drop k some) q is_q), omega arith),
          record { rest = rest; begins = begins ∙ ap (λ bs. bs ++ 10 ∷ rest) written },
        )

    module _ (reply : Reply) where
      supposed_put : bytes_eq verb.bytes (codes "follows") ≡ true → (some : List Field) → fields ≡ some → follows_reply names rows before number (length line) some ≡ Ok reply → FittingPut
      supposed_put same [] are e = absurd (not_ok _ reply e)
      supposed_put same (count ∷ some) are e =
          let first = then_from (pass_up (count_of number count)) (λ k. suppose_reply names rows before number (length line) k some) reply e in
          let k : ℕ = first.0 in
          let counted = started_from number count.byte (number_of number count.bytes) k (passed_from (count_of number count) k first.1) in
          let second = then_from (with_names names number before (take k some)) (λ x. and_then (with_names names number 0 (drop k some)) (λ y. cond (ltb (length some) k) (Err (fault.TooFew number (length line + 1))) (Ok (verdict (holds_in_rows rows x y))))) reply first.2 in
          let third = then_from (with_names names number 0 (drop k some)) (λ y. cond (ltb (length some) k) (Err (fault.TooFew number (length line + 1))) (Ok (verdict (holds_in_rows rows second.0 y)))) reply second.2 in
          let enough : ltb (length some) k ≡ false = granted_from (ltb (length some) k) _ _ reply third.2 in
          follows_put same count some are k counted (ltb-false (length some) k enough) second.0 second.1 third.0 third.1

      line_put : reply_by_line names rows before number line ≡ Ok reply → FittingPut
      line_put e = at (cases_Bool (bytes_eq verb.bytes (codes "given"))) (cases_Bool (bytes_eq verb.bytes (codes "follows")))
        where
          reads : fields_reply names rows before number (length line) (verb ∷ fields) ≡ Ok reply
          reads = sym (ap (fields_reply names rows before number (length line)) split) ∙ e

          at : (bytes_eq verb.bytes (codes "given") ≡ true) ⊎ (bytes_eq verb.bytes (codes "given") ≡ false) → (bytes_eq verb.bytes (codes "follows") ≡ true) ⊎ (bytes_eq verb.bytes (codes "follows") ≡ false) → FittingPut
          at (inl t) _ =
              let w = given_from (with_names names number before fields) reply (sym (cond-true _ _ _ t) ∙ reads) in
              given_put t w.0 w.1
          at (inr n) (inl t) = supposed_put t fields refl (sym (cond-false _ _ _ n ∙ cond-true _ _ _ t) ∙ reads)
          at (inr n) (inr o) = absurd (not_ok _ reply (sym (cond-false _ _ _ n ∙ cond-false _ _ _ o) ∙ reads))

  granted_told : (reply : Reply) → reply_of names rows before number text ≡ Ok reply → FittingPut
  granted_told reply e = at (then_from (pass_up (line_end_of number 0 text)) (λ end. reply_by_line names rows before number (take end text)) reply e)
    where
      at : (end : ℕ) × (pass_up (line_end_of number 0 text) ≡ Ok end) × (reply_by_line names rows before number (take end text) ≡ Ok reply) → FittingPut
      at (end, ends, is) =
          let fed : Fed 0 text end = feed_read_from number 0 text end (passed_from (line_end_of number 0 text) end ends) in
          let size : length fed.bytes ≡ end = omega (arith, fed.stop) in
          let taken : take end text ≡ fed.bytes = ap (take end) fed.whole ∙ take_at fed.bytes (10 ∷ fed.rest) end size in
          let some = some_field 1 fed.bytes in
          line_put fed.bytes fed.rest fed.whole some.0 some.1 some.2 reply (ap (reply_by_line names rows before number) (sym taken) ∙ is)

  -- the known set is as before unless the reply is done
  kept_told : (reply_of names rows before number text ≡ Ok Done → ⊥) → known_after names before number text ≡ before
  kept_told undone = at (line_end_of number 0 text) refl
    where
      by_set : (line : List ℕ) (verb : Field) (fields : List Field) → fields_of line ≡ verb ∷ fields → bytes_eq verb.bytes (codes "given") ≡ true → (reply_by_line names rows before number line ≡ Ok Done → ⊥)
          → (w : Result ℕ QueryFault) → with_names names number before fields ≡ w → given_known before w ≡ before
      by_set line verb fields split t n (Ok later) is = absurd (n (ap (fields_reply names rows before number (length line)) split ∙ cond-true _ _ _ t ∙ ap given_reply is))
      by_set line verb fields split t n (Err e) is = refl

      by_verb : (line : List ℕ) (verb : Field) (fields : List Field) → fields_of line ≡ verb ∷ fields → (bytes_eq verb.bytes (codes "given") ≡ true) ⊎ (bytes_eq verb.bytes (codes "given") ≡ false)
          → (reply_by_line names rows before number line ≡ Ok Done → ⊥) → known_by_line names before number line ≡ before
      by_verb line verb fields split (inl t) n =
          ap (fields_known names before number) split ∙ cond-true _ _ _ t ∙ by_set line verb fields split t n (with_names names number before fields) refl
      by_verb line verb fields split (inr o) n = ap (fields_known names before number) split ∙ cond-false _ _ _ o

      at : (r : Result ℕ FieldFault) → line_end_of number 0 text ≡ r → known_after names before number text ≡ before
      at (Err e) is = ap (known_upto names before number text) is
      at (Ok end) is =
          let some = some_field 1 (take end text) in
          known_line end is (take end text) refl
          ∙ by_verb (take end text) some.0 some.1 some.2 (cases_Bool (bytes_eq some.0.bytes (codes "given"))) (λ e. undone (reply_line end is (take end text) refl ∙ e))

  told : AllByRecursion Name names → Replies names rows before (known_after names before number text) text (reply_of names rows before number text)
  told named = record { given = given_told named; follows = follows_told named; granted = granted_told; kept = kept_told }

  pub replies : AllByRecursion Name names → (r : Result Reply QueryFault) (after : ℕ) → r ≡ reply_of names rows before number text → after ≡ known_after names before number text → Replies names rows before after text r
  replies named r after answer known = subst (λ a. Replies names rows before a text r) (sym known) (subst (λ s. Replies names rows before (known_after names before number text) text s) (sym answer) (told named))
