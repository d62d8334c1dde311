-- Comparisons of bytes, and the names as a view shows them.
use Rattle.std.proofs.Common.{◌≡◌, ℕ, ◌<◌, List, [], length, get_or, drop, Some, None, Option, MatchOption, ◌≢◌, refl, sym, ap, ◌∙◌, arith, ◌≤◌}
use Rattle.std.proofs.lemmas.List.{get_or-map, length-drop, length-map}
use Rattle.query.specs.Meaning.{Means, Unmeant}
use Rattle.table.specs.declared.place.Place.{Place}
use Rattle.table.specs.Names.{part_at}
use Rattle.view.specs.Shown.{signal_count, signal_names}
use Rattle.view.specs.Views.{absent, signal_place}
use Rattle.view.specs.declared.table_view.TableView.{TableView}

module _ (view : TableView) where
  pub length_names : length (signal_names view) ≡ signal_count view
  length_names = length-map (drop (length view.words.now) view.places.now) (part_at view.text.now) ∙ length-drop (length view.words.now) view.places.now

  -- the name that a view hands out
  pub name_shown : (i : ℕ) → i < length (signal_names view) → (bytes : List ℕ) (place : Place)
      → place ≡ signal_place (length view.words.now) view.places.now i → bytes ≡ part_at view.text.now place → bytes ≡ get_or (signal_names view) i []
  name_shown i lt bytes place ep eb =
      eb ∙ ap (part_at view.text.now) ep
      ∙ sym (get_or-map (part_at view.text.now) (drop (length view.words.now) view.places.now) i absent [] (omega (arith, length-map (drop (length view.words.now) view.places.now) (part_at view.text.now))))

  -- the bytes that the view hands out for signal i
  abbrev pub handed : ℕ → List ℕ
  handed i = part_at view.text.now (signal_place (length view.words.now) view.places.now i)

  handed_is : (i : ℕ) → i < length (signal_names view) → handed i ≡ get_or (signal_names view) i []
  handed_is i lt = name_shown i lt (handed i) (signal_place (length view.words.now) view.places.now i) refl refl

  -- a search of the signals below n finds what is meant
  pub found_is : (n : ℕ) (bytes : List ℕ) (r : Option ℕ) → n ≡ length (signal_names view)
      → MatchOption r ((k : ℕ) → 0 ≤ k → k < n → handed k ≢ bytes)
      (λ i. (0 ≤ i) × (i < n) × (handed i ≡ bytes) × ((k : ℕ) → 0 ≤ k → k < i → handed k ≢ bytes))
      → MatchOption r (Unmeant (signal_names view) bytes) (Means (signal_names view) bytes)
  found_is n bytes None is none = λ i lt same. none i (omega arith) (omega arith) (handed_is i lt ∙ same)
  found_is n bytes (Some i) is (low, within, here, before) =
      record {
        within = omega arith;
        here = sym (handed_is i (omega arith)) ∙ here;
        lowest = λ k lt same. before k (omega arith) lt (handed_is k (omega arith) ∙ same);
      }
