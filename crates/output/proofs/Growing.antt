-- An output into which bytes are put one after another.
use Rattle.std.proofs.Common.{◌≡◌, ℕ, ◌+◌, ◌<◌, ◌≤◌, List, [], ◌++◌, length, get_or, take, Ok, Err, Result, sym, refl, ◌∙◌, subst, arith}
use Rattle.std.specs.List.{flat_map}
use Rattle.std.proofs.lemmas.List.{take_all}
use Rattle.std.proofs.lemmas.Bool.{cond-true, le-leb}
use Rattle.output.specs.declared.faults.OutputFault.{OutputFault}
use Rattle.output.specs.declared.output.Output.{Output}
use Rattle.output.specs.Outputs.{Grows, Puts}
use Rattle.output.proofs.Joins.{joined_step, step_front}
use Rattle.output.proofs.Puts.{output_fits, put_at_none}
use Rattle.output.proofs.Writing.{Wrote, wrote_more, wrote_room, length_wrote}

-- nothing is put yet
pub grows_none : (o : Output) → o.at ≤ length o.bytes.now → Grows [] o o
grows_none o le = record { at = omega arith; whole = put_at_none o.at o.bytes.now; room = omega arith; lent = refl }

abbrev wrote : (bytes : List ℕ) (a b : Output) → Grows bytes a b → Wrote a.at bytes a.bytes.now b.bytes.now b.at
wrote bytes a b g = record { whole = g.whole; behind = g.at; room = g.room }

-- the output keeps its size
pub grows_size : (bytes : List ℕ) (a b : Output) → Grows bytes a b → length b.bytes.now ≡ length a.bytes.now
grows_size bytes a b g = length_wrote a.at bytes a.bytes.now b.bytes.now b.at (wrote bytes a b g)

-- what there is room for is put
pub puts_fits : (more : List ℕ) (b c : Output) (r : Result Unit OutputFault) → b.at + length more ≤ length b.bytes.now → Puts more b r c → (r ≡ Ok tt) × Grows more b c
puts_fits more b c r fits p = (
  p.answer ∙ cond-true _ _ _ (le-leb (b.at + length more) (length b.bytes.now) fits),
  record {
    at = p.at ∙ cond-true _ _ _ (le-leb (b.at + length more) (length b.bytes.now) fits);
    whole = p.whole ∙ output_fits b.at more b.bytes.now fits;
    room = fits;
    lent = p.lent;
  },
)

-- more bytes behind
pub grows_more : (bytes more : List ℕ) (a b c : Output) → a.at + length (bytes ++ more) ≤ length a.bytes.now → Grows bytes a b → Grows more b c → Grows (bytes ++ more) a c
grows_more bytes more a b c room g h =
    let w = wrote_more a.at bytes more a.bytes.now b.bytes.now c.bytes.now b.at c.at (wrote bytes a b g) room h.at h.whole in
    record { at = w.behind; whole = w.whole; room = room; lent = h.lent ∙ g.lent }

-- there is room for them
pub grows_room : (bytes more : List ℕ) (a b : Output) → a.at + length (bytes ++ more) ≤ length a.bytes.now → Grows bytes a b → b.at + length more ≤ length b.bytes.now
grows_room bytes more a b room g = wrote_room a.at bytes more a.bytes.now b.bytes.now b.at (wrote bytes a b g) room

-- so they are put
pub grows_put : (bytes more : List ℕ) (a b c : Output) (r : Result Unit OutputFault) → a.at + length (bytes ++ more) ≤ length a.bytes.now → Grows bytes a b → Puts more b r c
    → (r ≡ Ok tt) × Grows (bytes ++ more) a c
grows_put bytes more a b c r room g p =
    let put = puts_fits more b c r (grows_room bytes more a b room g) p in
    (put.0, grows_more bytes more a b c room g put.1)

-- and are not refused
pub grows_refused : {X : Type 0} (bytes more : List ℕ) (a b c : Output) (e : OutputFault) → a.at + length (bytes ++ more) ≤ length a.bytes.now → Grows bytes a b → Puts more b (Err e) c → X
grows_refused bytes more a b c e room g p = let put = grows_put bytes more a b c (Err e) room g p in absurd (let z : ◌≡◌ {A = ℕ} 0 1 = cc in omega arith)

-- what has grown by all bytes is as after a put of them
pub grows_all : (bytes : List ℕ) (a b : Output) → Grows bytes a b → Puts bytes a (Ok tt) b
grows_all bytes a b g =
    let fits = le-leb (a.at + length bytes) (length a.bytes.now) g.room in
    record { answer = sym (cond-true _ _ _ fits); at = g.at ∙ sym (cond-true _ _ _ fits); whole = g.whole ∙ sym (output_fits a.at bytes a.bytes.now g.room); lent = g.lent }

-- the last put tells of all
pub grows_last : (bytes more : List ℕ) (a b c : Output) (r : Result Unit OutputFault) → a.at + length (bytes ++ more) ≤ length a.bytes.now → Grows bytes a b → Puts more b r c → Puts (bytes ++ more) a r c
grows_last bytes more a b c r room g p =
    let put = grows_put bytes more a b c r room g p in
    subst (λ s. Puts (bytes ++ more) a s c) (sym put.0) (grows_all (bytes ++ more) a c put.1)

-- the bytes of one element after another
module _ {X : Type 0} (f : X → List ℕ) (xs : List X) (i : ℕ) (d : X) (a b : Output) (room : a.at + length (flat_map f xs) ≤ length a.bytes.now) (g : Grows (flat_map f (take i xs)) a b) where
  pub step_room : i < length xs → b.at + length (f (get_or xs i d)) ≤ length b.bytes.now
  step_room lt = grows_room (flat_map f (take i xs)) (f (get_or xs i d)) a b (step_front f xs i d a.at _ lt room) g

  pub step_grows : (c : Output) (r : Result Unit OutputFault) → i < length xs → Puts (f (get_or xs i d)) b r c → (r ≡ Ok tt) × Grows (flat_map f (take (i + 1) xs)) a c
  step_grows c r lt p =
      let put = grows_put (flat_map f (take i xs)) (f (get_or xs i d)) a b c r (step_front f xs i d a.at _ lt room) g p in
      (put.0, subst (λ bs. Grows bs a c) (sym (joined_step f xs i d lt)) put.1)

  pub step_refused : {Y : Type 0} (c : Output) (e : OutputFault) → i < length xs → Puts (f (get_or xs i d)) b (Err e) c → Y
  step_refused c e lt p = grows_refused (flat_map f (take i xs)) (f (get_or xs i d)) a b c e (step_front f xs i d a.at _ lt room) g p

  pub all_puts : length xs ≤ i → Puts (flat_map f xs) a (Ok tt) b
  all_puts le = grows_all (flat_map f xs) a b (subst (λ ys. Grows (flat_map f ys) a b) (take_all i xs le) g)
