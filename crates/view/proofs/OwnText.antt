-- A text that was read shows its table, whose text is the text's own bytes.
use Rattle.std.proofs.Common.{◌≡◌, ℕ, ◌+◌, true, leb, List, [], ◌∷◌, map, length, take, drop, Ok, sym, refl, ap, ◌∙◌, subst}
use Rattle.std.specs.List.{AllByRecursion, list_all}
use Rattle.std.proofs.lemmas.List.{take_at, drop_at, take-map, drop-map}
use Rattle.std.proofs.lemmas.Bool.{le-leb, and_from}
use Rattle.table.specs.declared.place.Place.{Place}
use Rattle.table.specs.Grammar.{ReadAs}
use Rattle.table.specs.Names.{part_at}
use Rattle.table.specs.Reading.{Contents, read_of}
use Rattle.table.specs.Tables.{Table, Lawful, text_of}
use Rattle.table.proofs.Agreement.{sound, places_long}
use Rattle.table.proofs.NameLines.{Placed}
use Rattle.view.specs.Texts.{shown_text}
use Rattle.view.specs.Views.{fit, table_of}
use Rattle.view.proofs.Laws.{lawful_fit}

-- the table shown of what was read is the table that the text begins with
own_table : (text : List ℕ) (c : Contents) (t : Table) → Lawful t → ReadAs text c t → table_of text c.words c.places ≡ t
own_table text c t lawful read =
    let g : length t.row_names ≡ length c.words = lawful.named ∙ ap length (sym read.words) in
    let rows : map (part_at text) (take (length c.words) c.places) ≡ t.row_names =
    sym (take-map (part_at text) (length c.words) c.places) ∙ ap (take (length c.words)) read.names ∙ take_at t.row_names t.signal_names _ g in
    let signals : map (part_at text) (drop (length c.words) c.places) ≡ t.signal_names =
    sym (drop-map (part_at text) (length c.words) c.places) ∙ ap (drop (length c.words)) read.names ∙ drop_at t.row_names t.signal_names _ g in
    ap (λ ws. record { words = ws; row_names = map (part_at text) (take (length c.words) c.places); signal_names = map (part_at text) (drop (length c.words) c.places) }) read.words
    ∙ ap (λ ns. record { words = t.words; row_names = ns; signal_names = map (part_at text) (drop (length c.words) c.places) }) rows
    ∙ ap (λ ns. record { words = t.words; row_names = t.row_names; signal_names = ns }) signals

all_inside : (text : List ℕ) (ps : List Place) → AllByRecursion (Placed text) ps → list_all (λ p. leb (p.start + p.length) (length text)) ps ≡ true
all_inside text [] all = refl
all_inside text (p ∷ ps) (here, more) = and_from _ _ (le-leb (p.start + p.length) (length text) here.0) (all_inside text ps more)

module _ (text : List ℕ) (rr pr : ℕ) (c : Contents) (is : read_of text rr pr ≡ Ok c) where
  pub own_fit : fit text c.words c.places ≡ true
  own_fit =
      let found = sound text rr pr c is in
      lawful_fit text c.words c.places (all_inside text c.places (places_long text rr pr c is).placed)
      (subst Lawful (sym (own_table text c found.0 found.1.lawful found.2)) found.1.lawful)

  pub own_text : shown_text text c.words c.places ≡ take c.bytes text
  own_text =
      let found = sound text rr pr c is in
      let rest = found.1.begins in
      ap text_of (own_table text c found.0 found.1.lawful found.2)
      ∙ sym (ap (take c.bytes) rest.1 ∙ take_at (text_of found.0) rest.0 c.bytes (sym found.2.bytes))
