-- Reading a line, and reading many: what was read stands in the text, and what stands in the text is read.
use Rattle.std.proofs.Common.{◌≡◌, ℕ, zero, suc, ◌+◌, ◌-◌, Bool, true, false, cond, eqb, ◌⊎◌, List, [], ◌∷◌, ◌++◌, length, take, drop, Ok, Err, Result, sym, refl, ap, ◌∙◌, subst, inl, inr, arith}
use Rattle.std.specs.List.{flat_map, AllByRecursion}
use Rattle.std.proofs.lemmas.List.{append_assoc, length-append, take_at}
use Rattle.std.proofs.lemmas.Bool.{cond-false, ne_eqb, eqb-true}
use Rattle.text.specs.declared.faults.FieldFault.{FieldFault}
use Rattle.text.specs.Lines.{feed_from, line_end_of}
use Rattle.table.specs.declared.faults.TableFault.{TableFault}
use Rattle.table.specs.Reading.{Taken, and_then, raised, Item, line_at, lines_at, behind}
use Rattle.table.specs.Tables.{line}
use Rattle.table.proofs.Spans.{Span, span_from, span_join, span_front, span_back}

-- a value and a fault are not the same
pub not_ok : {X E : Type 0} (e : E) (x : X) → Err e ≡ Ok x → ⊥
not_ok e x h = let z : ◌≡◌ {A = ℕ} 0 1 = cc in omega arith

-- where a chain gives a value, its first part gave one and the rest went on from it
pub then_from : {X Y : Type 0} (r : Result X TableFault) (f : X → Result Y TableFault) (y : Y) → and_then r f ≡ Ok y → (x : X) × (r ≡ Ok x) × (f x ≡ Ok y)
then_from (Ok x) f y h = (x, refl, h)
then_from (Err e) f y h = absurd (not_ok e y h)

pub then_ok : {X Y : Type 0} (r : Result X TableFault) (f : X → Result Y TableFault) (x : X) → r ≡ Ok x → and_then r f ≡ f x
then_ok r f x h = ap (λ q. and_then q f) h

pub then_reads : {X Y : Type 0} (r : Result X TableFault) (f : X → Result Y TableFault) (x : X) (y : Y) → r ≡ Ok x → f x ≡ Ok y → and_then r f ≡ Ok y
then_reads r f x y h k = then_ok r f x h ∙ k

pub raised_from : {X : Type 0} (r : Result X FieldFault) (x : X) → raised r ≡ Ok x → r ≡ Ok x
raised_from (Ok y) x h = cc
raised_from (Err e) x h = absurd (not_ok _ x h)

-- where a test gives a value, it gave it on one of its two ways
pub cond_from : {X E : Type 0} (b : Bool) (r s : Result X E) (x : X) → cond b r s ≡ Ok x → ((b ≡ true) × (r ≡ Ok x)) ⊎ ((b ≡ false) × (s ≡ Ok x))
cond_from true r s x h = inl (refl, h)
cond_from false r s x h = inr (refl, h)

-- no byte is a line feed
abbrev pub Free : List ℕ → Type 0
Free bs = AllByRecursion (λ b. b ≡ 10 → ⊥) bs

-- the first line feed of bytes that stand before one is that one
pub feed_found : (l at : ℕ) (bs rest : List ℕ) → Free bs → feed_from l at (bs ++ 10 ∷ rest) ≡ Ok (at + length bs)
feed_found l at [] rest f = ap Ok (omega arith)
feed_found l at (b ∷ bs) rest f = cond-false (eqb b 10) _ _ (ne_eqb b 10 f.0) ∙ (feed_found l (at + 1) bs rest f.1 ∙ ap Ok (omega arith))

-- where a line feed is found, the bytes before it are a line
pub record Fed (at : ℕ) (xs : List ℕ) (end : ℕ) : Type 0 where
  pub bytes : List ℕ
  pub rest : List ℕ
  pub whole : xs ≡ bytes ++ 10 ∷ rest
  pub stop : end ≡ at + length bytes

pub feed_read_from : (l at : ℕ) (xs : List ℕ) (end : ℕ) → feed_from l at xs ≡ Ok end → Fed at xs end
feed_read_from l at [] end h = absurd (not_ok _ end h)
feed_read_from l at (b ∷ xs) end h = go (cond_from (eqb b 10) (Ok at) (feed_from l (at + 1) xs) end h) (feed_read_from l (at + 1) xs end)
  where
    more : Fed (at + 1) xs end → Fed at (b ∷ xs) end
    more f = record { bytes = b ∷ f.bytes; rest = f.rest; whole = ap (λ ys. b ∷ ys) f.whole; stop = omega (arith, f.stop) }

    go : ((eqb b 10 ≡ true) × (◌≡◌ {A = Result ℕ FieldFault} (Ok at) (Ok end))) ⊎ ((eqb b 10 ≡ false) × (feed_from l (at + 1) xs ≡ Ok end)) → (feed_from l (at + 1) xs ≡ Ok end → Fed (at + 1) xs end) → Fed at (b ∷ xs) end
    go (inl p) f =
        let same : at ≡ end = cc p.1 in
        record { bytes = []; rest = xs; whole = ap (λ y. y ∷ xs) (eqb-true b 10 p.0); stop = omega arith }
    go (inr p) f = more (f p.1)

-- what was read as a line stands in the text, with its line feed
pub record LineRead {X : Type 0} (item : Item X) (l at : ℕ) (text : List ℕ) (t : Taken X) : Type 0 where
  pub bytes : List ℕ
  pub span : Span text at (line bytes) t.next
  pub read : item l at bytes ≡ Ok t.value

pub line_from : {X : Type 0} (item : Item X) (l at : ℕ) (text : List ℕ) (t : Taken X) → line_at item l at text ≡ Ok t → LineRead item l at text t
line_from {X} item l at text t h =
    let first = then_from (raised (line_end_of l at text)) (λ end. and_then (item l at (take (end - at) (drop at text))) (λ v. Ok (record { value = v; next = end + 1 }))) t h in
    let end : ℕ = first.0 in
    let fed : Fed at (drop at text) end = feed_read_from l at (drop at text) end (raised_from _ end first.1) in
    let second = then_from (item l at (take (end - at) (drop at text))) (λ v. Ok (record { value = v; next = end + 1 })) t first.2 in
    let v : X = second.0 in
    let size : length fed.bytes ≡ end - at = omega (arith, fed.stop) in
    let part : take (end - at) (drop at text) ≡ fed.bytes = ap (take (end - at)) fed.whole ∙ take_at fed.bytes (10 ∷ fed.rest) (end - at) size in
    let whole : drop at text ≡ line fed.bytes ++ fed.rest = fed.whole ∙ sym (append_assoc fed.bytes (10 ∷ []) fed.rest) in
    let taken : ◌≡◌ {A = Taken X} (record { value = v; next = end + 1 }) t = cc second.2 in
    let behind : at + length (line fed.bytes) ≡ t.next = let e : end + 1 ≡ t.next = ap (λ (q : Taken X). q.next) taken in omega (arith, e, fed.stop, length-append fed.bytes (10 ∷ [])) in
    let read : item l at fed.bytes ≡ Ok t.value = ap (item l at) (sym part) ∙ (second.1 ∙ ap (λ (q : Taken X). Ok q.value) taken) in
    record { bytes = fed.bytes; span = subst (λ n. Span text at (line fed.bytes) n) behind (span_from text at (line fed.bytes) fed.rest whole); read = read }

-- a line that stands in the text, without another line feed, is read
pub line_reads : {X : Type 0} (item : Item X) (l at : ℕ) (text bs : List ℕ) (next : ℕ) (v : X)
    → Span text at (line bs) next → Free bs → item l at bs ≡ Ok v → line_at item l at text ≡ Ok (record { value = v; next = next })
line_reads {X} item l at text bs next v s f h =
    let whole : drop at text ≡ bs ++ 10 ∷ drop next text = s.here ∙ append_assoc bs (10 ∷ []) (drop next text) in
    let found : line_end_of l at text ≡ Ok (at + length bs) = ap (feed_from l at) whole ∙ feed_found l at bs (drop next text) f in
    let part : take (at + length bs - at) (drop at text) ≡ bs = ap (take (at + length bs - at)) whole ∙ take_at bs (10 ∷ drop next text) (at + length bs - at) (omega arith) in
    let behind : at + length bs + 1 ≡ next = omega (arith, s.end, length-append bs (10 ∷ [])) in
    then_ok (raised (line_end_of l at text)) (λ end. and_then (item l at (take (end - at) (drop at text))) (λ w. Ok (record { value = w; next = end + 1 }))) (at + length bs) (ap raised found)
    ∙ (then_ok (item l at (take (at + length bs - at) (drop at text))) (λ w. Ok (record { value = w; next = at + length bs + 1 })) v (ap (item l at) part ∙ h)
    ∙ ap (λ n. Ok (record { value = v; next = n })) behind)

-- the lists are as long, and R holds at each place
abbrev pub Both : {X Y : Type 0} → (X → Y → Type 0) → List X → List Y → Type 0
Both R [] [] = Unit {0}
Both R [] (y ∷ ys) = ⊥
Both R (x ∷ xs) [] = ⊥
Both R (x ∷ xs) (y ∷ ys) = R x y × Both R xs ys

pub both_length : {X Y : Type 0} (R : X → Y → Type 0) (xs : List X) (ys : List Y) → Both R xs ys → length xs ≡ length ys
both_length R [] [] b = refl
both_length R [] (y ∷ ys) b = absurd b
both_length R (x ∷ xs) [] b = absurd b
both_length R (x ∷ xs) (y ∷ ys) b = ap suc (both_length R xs ys b.1)

-- how an item reads the lines of a text. A good line has no line feed and is read; what is read of a line is so related to its bytes
pub record Codec (text : List ℕ) {X : Type 0} (item : Item X) (Good : List ℕ → Type 0) (R : X → List ℕ → Type 0) : Type 0 where
  pub free : (bs : List ℕ) → Good bs → Free bs
  pub reads : (l at : ℕ) (bs : List ℕ) → Good bs → (x : X) × (item l at bs ≡ Ok x)
  pub was : (l at : ℕ) (bs : List ℕ) (next : ℕ) (x : X) → Span text at (line bs) next → item l at bs ≡ Ok x → R x bs

-- lines that were read stand in the text, one behind the other
pub record LinesRead (text : List ℕ) {X : Type 0} (R : X → List ℕ → Type 0) (count at : ℕ) (t : Taken (List X)) : Type 0 where
  pub lines : List (List ℕ)
  pub many : length lines ≡ count
  pub span : Span text at (flat_map line lines) t.next
  pub read : Both R t.value lines

pub lines_from : {X : Type 0} (text : List ℕ) (item : Item X) (Good : List ℕ → Type 0) (R : X → List ℕ → Type 0) (codec : Codec text item Good R)
    (count l at : ℕ) (t : Taken (List X)) → lines_at item count l at text ≡ Ok t → LinesRead text R count at t
lines_from {X} text item Good R codec zero l at t h =
    let same : ◌≡◌ {A = Taken (List X)} (record { value = []; next = at }) t = cc h in
    subst (LinesRead text R zero at) same
    (record { lines = []; many = refl; span = record { here = refl; end = omega arith }; read = tt })
lines_from {X} text item Good R codec (suc n) l at t h =
    let one = then_from (line_at item l at text) (λ first. and_then (lines_at item n (l + 1) first.next text) (λ rest. Ok (behind first.value rest))) t h in
    let first : Taken X = one.0 in
    let two = then_from (lines_at item n (l + 1) first.next text) (λ rest. Ok (behind first.value rest)) t one.2 in
    let rest : Taken (List X) = two.0 in
    let a : LineRead item l at text first = line_from item l at text first one.1 in
    let b : LinesRead text R n first.next rest = lines_from text item Good R codec n (l + 1) first.next rest two.1 in
    let same : behind first.value rest ≡ t = cc two.2 in
    subst (LinesRead text R (suc n) at) same
    (record {
      lines = a.bytes ∷ b.lines;
      many = ap suc b.many;
      span = span_join text at first.next rest.next (line a.bytes) (flat_map line b.lines) a.span b.span;
      read = (codec.was l at a.bytes first.next first.value a.span a.read, b.read);
    })

-- good lines that stand in the text, one behind the other, are read
pub lines_reads : {X : Type 0} (text : List ℕ) (item : Item X) (Good : List ℕ → Type 0) (R : X → List ℕ → Type 0) (codec : Codec text item Good R)
    (lines : List (List ℕ)) (l at next : ℕ) → AllByRecursion Good lines → Span text at (flat_map line lines) next
    → (xs : List X) × (lines_at item (length lines) l at text ≡ Ok (record { value = xs; next = next })) × Both R xs lines
lines_reads text item Good R codec [] l at next g s = ([], ap (λ n. Ok (record { value = []; next = n })) (omega (arith, s.end)), tt)
lines_reads {X} text item Good R codec (bs ∷ lines) l at next g s =
    let mid : ℕ = at + length (line bs) in
    let here : Span text at (line bs) mid = span_front text at next (line bs) (flat_map line lines) s in
    let there : Span text mid (flat_map line lines) next = span_back text at next (line bs) (flat_map line lines) s in
    let one = codec.reads l at bs g.0 in
    let x : X = one.0 in
    let more = lines_reads text item Good R codec lines (l + 1) mid next g.1 there in
    let first : line_at item l at text ≡ Ok (record { value = x; next = mid }) = line_reads item l at text bs mid x here (codec.free bs g.0) one.1 in (
      x ∷ more.0,
      then_ok (line_at item l at text) (λ t. and_then (lines_at item (length lines) (l + 1) t.next text) (λ rest. Ok (behind t.value rest))) (record { value = x; next = mid }) first
          ∙ then_ok (lines_at item (length lines) (l + 1) mid text) (λ rest. Ok (behind x rest)) (record { value = more.0; next = next }) more.1,
      (codec.was l at bs mid x here one.1, more.2),
    )
