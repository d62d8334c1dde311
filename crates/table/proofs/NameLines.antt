-- Lines with a name: where a name is read it stands at the place that was read.
use Rattle.std.proofs.Common.{◌≡◌, ℕ, ◌+◌, ◌*◌, ◌≤◌, Bool, true, false, cond, not, ◌&&◌, eqb, leb, List, [], ◌∷◌, map, length, take, drop, Some, None, Ok, Option, sym, refl, ap, ◌∙◌, subst, arith}
use Rattle.std.specs.List.{flat_map, AllByRecursion}
use Rattle.std.proofs.lemmas.List.{take_at, append_assoc, length-append}
use Rattle.std.proofs.lemmas.Bool.{and_parts, leb-true}
use Rattle.table.specs.declared.place.Place.{Place}
use Rattle.table.specs.Names.{name_byte, wrong_from, wrong_byte_of, part_at, Name}
use Rattle.table.specs.Reading.{placed, name_item}
use Rattle.table.specs.Tables.{line}
use Rattle.table.proofs.Spans.{span_fits}
use Rattle.table.proofs.Codecs.{Free, Both, Codec, not_ok}

-- nothing is not something
pub not_none : {X : Type 0} (x : X) → ◌≡◌ {A = Option X} (Some x) None → ⊥
not_none x h = let z : ◌≡◌ {A = ℕ} 0 1 = cc in omega arith

-- a test that finds nothing took its first way
pub cond_none : {X : Type 0} (b : Bool) (o : Option X) (x : X) → cond b o (Some x) ≡ None → (b ≡ true) × (o ≡ None)
cond_none true o x h = (refl, h)
cond_none false o x h = absurd (not_none x h)

-- the bytes of a name have no line feed
pub bytes_free : (byte : ℕ) (bs : List ℕ) → wrong_from byte bs ≡ None → Free bs
bytes_free byte [] h = tt
bytes_free byte (b ∷ bs) h =
    let p = cond_none (name_byte b) (wrong_from (byte + 1) bs) byte h in
    let q = and_parts (leb 32 b) (leb b 126 && not (eqb b 44)) p.0 in
    let low : 32 ≤ b = leb-true 32 b q.0 in
    ((λ e. omega arith), bytes_free (byte + 1) bs p.1)

-- a name has at most 40 bytes, and no line feed
pub name_short : (bs : List ℕ) → Name bs → length bs ≤ 40
name_short bs h =
    let p = cond_none (leb 1 (length bs) && leb (length bs) 40) (wrong_from 1 bs) 1 h in
    leb-true (length bs) 40 (and_parts (leb 1 (length bs)) (leb (length bs) 40) p.0).1

pub name_free : (bs : List ℕ) → Name bs → Free bs
name_free bs h = bytes_free 1 bs (cond_none (leb 1 (length bs) && leb (length bs) 40) (wrong_from 1 bs) 1 h).1

-- these bytes are a name, and stand in the text at this place
pub record NamedAt (text : List ℕ) (p : Place) (bs : List ℕ) : Type 0 where
  pub «is» : Name bs
  pub stands : part_at text p ≡ bs
  pub fits : p.start + p.length ≤ length text

-- what is placed is no wrong byte's line, and is placed where the line begins
pub placed_from : (l at : ℕ) (bs : List ℕ) (o : Option ℕ) (p : Place) → placed l at bs o ≡ Ok p → (o ≡ None) × (record { start = at; length = length bs } ≡ p)
placed_from l at bs None p h = (refl, cc h)
placed_from l at bs (Some b) p h = absurd (not_ok _ p h)

pub name_codec : (text : List ℕ) → Codec text name_item Name (NamedAt text)
name_codec text = record {
  free = name_free;
  reads = λ l at bs h. (record { start = at; length = length bs }, ap (placed l at bs) h);
  was = λ l at bs next p s h.
      let q = placed_from l at bs (wrong_byte_of bs) p h in
      subst (λ r. NamedAt text r bs) q.1
      (record {
        «is» = q.0;
        stands = ap (take (length bs)) (s.here ∙ append_assoc bs (10 ∷ []) (drop next text)) ∙ take_at bs (10 ∷ drop next text) (length bs) refl;
        fits = span_fits text at next 10 bs s;
      });
}

-- places and the names that stand there
pub named_parts : (text : List ℕ) (ps : List Place) (names : List (List ℕ)) → Both (NamedAt text) ps names → map (part_at text) ps ≡ names
named_parts text [] [] b = refl
named_parts text [] (n ∷ ns) b = absurd b
named_parts text (p ∷ ps) [] b = absurd b
named_parts text (p ∷ ps) (n ∷ ns) b = let e = b.0.stands in let es = named_parts text ps ns b.1 in cc

pub named_names : (text : List ℕ) (ps : List Place) (names : List (List ℕ)) → Both (NamedAt text) ps names → AllByRecursion Name names
named_names text [] [] b = tt
named_names text [] (n ∷ ns) b = absurd b
named_names text (p ∷ ps) [] b = absurd b
named_names text (p ∷ ps) (n ∷ ns) b = (b.0.«is», named_names text ps ns b.1)

-- the place ends within the text, and a name stands there
abbrev pub Placed : List ℕ → Place → Type 0
Placed text p = (p.start + p.length ≤ length text) × Name (part_at text p)

pub named_placed : (text : List ℕ) (ps : List Place) (names : List (List ℕ)) → Both (NamedAt text) ps names → AllByRecursion (Placed text) ps
named_placed text [] ns b = tt
named_placed text (p ∷ ps) [] b = absurd b
named_placed text (p ∷ ps) (n ∷ ns) b = ((b.0.fits, subst Name (sym b.0.stands) b.0.«is»), named_placed text ps ns b.1)

-- lines of names are not long
pub names_long : (names : List (List ℕ)) → AllByRecursion Name names → length (flat_map line names) ≤ length names * 41
names_long [] h = omega arith
names_long (n ∷ ns) h =
    omega (arith, names_long ns h.1, name_short n h.0, length-append (line n) (flat_map line ns), length-append n (10 ∷ []))
