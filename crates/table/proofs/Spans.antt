-- Parts of a text between two positions, and facts that hold of each element of a list.
use Rattle.std.proofs.Common.{◌≡◌, ℕ, ◌+◌, ◌≤◌, List, [], ◌∷◌, ◌++◌, length, drop, sym, refl, ap, ◌∙◌, arith}
use Rattle.std.specs.List.{AllByRecursion}
use Rattle.std.proofs.lemmas.List.{append_assoc, length-append, length-drop, drop-drop, drop_at}

-- the bytes `bs` stand in the text at position `at`, and `next` is the position behind them
pub record Span (text : List ℕ) (at : ℕ) (bs : List ℕ) (next : ℕ) : Type 0 where
  pub here : drop at text ≡ bs ++ drop next text
  pub end : next ≡ at + length bs

-- the bytes at a position, with anything behind them, are a span
pub span_from : (text : List ℕ) (at : ℕ) (bs rest : List ℕ) → drop at text ≡ bs ++ rest → Span text at bs (at + length bs)
span_from text at bs rest e =
    let behind : drop (at + length bs) text ≡ rest = sym (drop-drop (length bs) at text) ∙ (ap (drop (length bs)) e ∙ drop_at bs rest (length bs) refl) in
    record { here = e ∙ ap (λ xs. bs ++ xs) (sym behind); end = refl }

-- a span and the span behind it are one
pub span_join : (text : List ℕ) (a b c : ℕ) (bs cs : List ℕ) → Span text a bs b → Span text b cs c → Span text a (bs ++ cs) c
span_join text a b c bs cs s t = record {
  here = s.here ∙ (ap (λ xs. bs ++ xs) t.here ∙ sym (append_assoc bs cs (drop c text)));
  end = omega (arith, s.end, t.end, length-append bs cs);
}

-- the first part of a span, and the second
pub span_front : (text : List ℕ) (a c : ℕ) (bs cs : List ℕ) → Span text a (bs ++ cs) c → Span text a bs (a + length bs)
span_front text a c bs cs s = span_from text a bs (cs ++ drop c text) (s.here ∙ append_assoc bs cs (drop c text))

pub span_back : (text : List ℕ) (a c : ℕ) (bs cs : List ℕ) → Span text a (bs ++ cs) c → Span text (a + length bs) cs c
span_back text a c bs cs s =
    let e : drop a text ≡ bs ++ (cs ++ drop c text) = s.here ∙ append_assoc bs cs (drop c text) in
    record {
      here = sym (drop-drop (length bs) a text) ∙ (ap (drop (length bs)) e ∙ drop_at bs (cs ++ drop c text) (length bs) refl);
      end = omega (arith, s.end, length-append bs cs);
    }

-- a span of some bytes ends within the text
pub span_fits : (text : List ℕ) (a c b : ℕ) (bs : List ℕ) → Span text a (bs ++ b ∷ []) c → a + length bs ≤ length text
span_fits text a c b bs s =
    omega (arith, length-drop a text, ap length s.here, length-append (bs ++ b ∷ []) (drop c text), length-append bs (b ∷ []))

-- what holds of each element of two lists holds of each element of both in a row, and back
pub every_append : {X : Type 0} (P : X → Type 0) (xs ys : List X) → AllByRecursion P xs → AllByRecursion P ys → AllByRecursion P (xs ++ ys)
every_append P [] ys h k = k
every_append P (x ∷ xs) ys h k = (h.0, every_append P xs ys h.1 k)

pub every_left : {X : Type 0} (P : X → Type 0) (xs ys : List X) → AllByRecursion P (xs ++ ys) → AllByRecursion P xs
every_left P [] ys h = tt
every_left P (x ∷ xs) ys h = (h.0, every_left P xs ys h.1)

pub every_right : {X : Type 0} (P : X → Type 0) (xs ys : List X) → AllByRecursion P (xs ++ ys) → AllByRecursion P ys
every_right P [] ys h = h
every_right P (x ∷ xs) ys h = every_right P xs ys h.1
