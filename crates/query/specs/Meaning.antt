-- What the reply to a query says, in names, signals and rows.
--
--   query      names that join the known set, or names that are supposed and names that are asked
--   means      said of a name: the lowest-numbered signal that has it
--   joined     said of a set: another one, with the signals that some names mean
--   before     the known set when the query is put
--   after      the known set when it is answered
use Rattle.std.specs.Prelude.{◌≡◌, ℕ, ◌/◌, ◌^◌, ◌<◌, ◌⊎◌, ◌↔◌, List, [], ◌∷◌, ◌++◌, length, get_or, Ok, codes, decimal, Result, ◌≢◌, slice_index_or}
use mathlib.Core.List.{Memᴰ}
use Rattle.std.specs.List.{flat_map, AllByRecursion}
use Rattle.query.specs.declared.faults.QueryFault.{QueryFault}
use Rattle.query.specs.declared.reply.Reply.{Reply}
use Rattle.query.specs.declared.reply.Reply.TheVariants.{Done, Yes, No}
use Rattle.theory.specs.Rows.{Holds}
use Rattle.theory.specs.Words.{Has}

-- names that are given, or names that are supposed and names that are asked
pub data Query : Type 0 where
  Given : (added : List (List ℕ)) → Query
  Follows : (supposed asked : List (List ℕ)) → Query

-- each name behind a comma, the byte 44
abbrev pub name_fields : List (List ℕ) → List ℕ
name_fields names = flat_map (λ name. 44 ∷ name) names

-- the line of a query: its verb, behind `follows` the number of the names that are supposed, and the names
abbrev pub query_line : Query → List ℕ
query_line (Given added) = codes "given" ++ name_fields added
query_line (Follows supposed asked) = codes "follows" ++ name_fields (decimal (length supposed) ∷ (supposed ++ asked))

-- the first line of the text is that of the query
pub record Puts (text : List ℕ) (query : Query) : Type 0 where
  pub rest : List ℕ
  pub begins : text ≡ query_line query ++ 10 ∷ rest

-- the bytes mean signal i: it has them for its name, and no signal of a lower number has
pub record Means (names : List (List ℕ)) (bytes : List ℕ) (i : ℕ) : Type 0 where
  pub within : i < length names
  pub here : get_or names i [] ≡ bytes
  pub lowest : (j : ℕ) → j < i → slice_index_or names j [] ≢ bytes

-- the bytes mean no signal: none has them for its name
abbrev pub Unmeant : (names : List (List ℕ)) → (bytes : List ℕ) → Type 0
Unmeant names bytes = (i : ℕ) → i < length names → slice_index_or names i [] ≢ bytes

-- some signal is meant
abbrev pub Meant : (names : List (List ℕ)) → List ℕ → Type 0
Meant names bytes = (i : ℕ) × Means names bytes i

-- the query can be put to a table with these signals: each name means one, and the number has at most four digits
abbrev pub Fitting : (names : List (List ℕ)) → Query → Type 0
Fitting names (Given added) = AllByRecursion (Meant names) added
Fitting names (Follows supposed asked) = AllByRecursion (Meant names) (supposed ++ asked) × (length supposed < 10000)

-- one of the names means signal i
pub record Named (names some : List (List ℕ)) (i : ℕ) : Type 0 where
  pub bytes : List ℕ
  pub among : Memᴰ bytes some
  pub means : Means names bytes i

-- the word is the set with the signals that the names mean: a signal belongs to it exactly when it belongs to the set or is meant, and nothing else is changed
pub record Joined (names : List (List ℕ)) (set : ℕ) (some : List (List ℕ)) (word : ℕ) : Type 0 where
  pub signals : (i : ℕ) → i < length names → Has (length names) i word ↔ (Has (length names) i set ⊎ Named names some i)
  pub others : word / 2 ^ length names ≡ set / 2 ^ length names

-- the reply is yes exactly when each row that contains the known set and the supposed names contains the asked ones, and no exactly when not
pub record Decided (names : List (List ℕ)) (rows : List ℕ) (before : ℕ) (supposed asked : List (List ℕ)) (r : Result Reply QueryFault) : Type 0 where
  pub premise : ℕ
  pub conclusion : ℕ
  pub premise_is : Joined names before supposed premise
  pub conclusion_is : Joined names 0 asked conclusion
  pub yes : (r ≡ Ok Yes) ↔ Holds rows premise conclusion
  pub no : (r ≡ Ok No) ↔ (Holds rows premise conclusion → ⊥)

-- what is answered on a text: names that are given join the known set, names that are asked follow or not, only a fitting query is granted,
-- and the known set is as before unless the reply is done
pub record Replies (names : List (List ℕ)) (rows : List ℕ) (before after : ℕ) (text : List ℕ) (r : Result Reply QueryFault) : Type 0 where
  pub given : (added : List (List ℕ)) → Fitting names (Given added) → Puts text (Given added) → (r ≡ Ok Done) × Joined names before added after
  pub follows : (supposed asked : List (List ℕ)) → Fitting names (Follows supposed asked) → Puts text (Follows supposed asked) → Decided names rows before supposed asked r
  pub granted : (reply : Reply) → r ≡ Ok reply → (query : Query) × Fitting names query × Puts text query
  pub kept : (r ≢ Ok Done) → after ≡ before
