-- What a tray holds.
--
--   memory     what was lent to the tray, place by place
--   capacity   the number of entries that the tray has place for
--   entries    what was put and not taken out, first to last
use Rattle.std.specs.Prelude.{◌≡◌, ℕ, min, List, length, take, drop}
use Rattle.tray.specs.declared.Tray.{Tray}

-- the most entries of a tray
abbrev pub max_entries : ℕ
max_entries = 4096

-- every place of the memory, up to the limit
abbrev pub capacity : {T : Type 0} → Tray T → ℕ
capacity t = min (length t.memory.now) max_entries

-- the front of the memory, as far as it is counted
abbrev pub entries : {T : Type 0} → Tray T → List T
entries t = take t.count t.memory.now

-- the tray stands on the same memory, of the same length, which is as before behind the entries
pub record Kept {T : Type 0} (before after : Tray T) : Type 0 where
  pub size : length after.memory.now ≡ length before.memory.now
  pub past : drop (length (entries after)) after.memory.now ≡ drop (length (entries after)) before.memory.now
  pub link : after.memory.ghost_name ≡ before.memory.ghost_name
