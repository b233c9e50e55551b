-- Places by offsets: lines and columns count from 1, columns in bytes.
use Rattle.std.specs.Prelude.{◌≡◌, ℕ, ◌+◌, ◌≤◌, ◌==◌, Bool, not, List, length, take, reverse, take_while, count_by}
use Rattle.lq_base_names.specs.declared.place.Place.{Place}
use Rattle.lq_base_names.specs.declared.place.TextKind.{TextKind}
use Rattle.lq_text_lexer.specs.declared.cursor.Cursor.{Cursor}

abbrev pub is_line_feed : ℕ → Bool
is_line_feed b = b == 10

abbrev pub is_in_line : ℕ → Bool
is_in_line b = not (b == 10)

-- one more than the line feeds before the offset
abbrev pub line_of : List ℕ → ℕ → ℕ
line_of text at = count_by is_line_feed (take at text) + 1

-- one more than the bytes between the last line feed before the offset and it
abbrev pub column_of : List ℕ → ℕ → ℕ
column_of text at = length (take_while is_in_line (reverse (take at text))) + 1

abbrev pub place_at : TextKind → List ℕ → ℕ → Place
place_at kind text at = record { text = kind; line = line_of text at; column = column_of text at }

-- the cursor has the line and the column of its offset
pub record StandsAt (text : List ℕ) (cursor : Cursor) : Type 0 where
  pub within : cursor.at ≤ length text
  pub line : cursor.line ≡ line_of text cursor.at
  pub column : cursor.column ≡ column_of text cursor.at
