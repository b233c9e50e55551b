-- Comments: they begin with (*, end with *), and nest. Any other bytes may stand in them.
use Rattle.std.specs.Prelude.{◌≡◌, ℕ, ◌==◌, ◌&&◌, List, [], ◌∷◌, drop, if◌then◌else◌}
use Rattle.lq_text_lexer.specs.declared.comments.Mark.{Mark}
use Rattle.lq_text_lexer.specs.declared.comments.Mark.TheVariants.{Opening, Closing, Other, End}

-- the mark at the front of bytes
unfoldable pub mark_of : List ℕ → Mark
mark_of [] = End
mark_of (a ∷ []) = Other
mark_of (a ∷ b ∷ bytes) = if a == 40 && b == 42 then Opening else if a == 42 && b == 41 then Closing else Other

-- how many bytes a mark has
abbrev pub mark_len : Mark → ℕ
mark_len Opening = 2
mark_len Closing = 2
mark_len Other = 1
mark_len End = 0

-- From inside a comment, these bytes lead to its end, and the rest stands behind it.
pub data EndsComment : List ℕ → List ℕ → Type 0 where
  ends : {bytes rest : List ℕ} → mark_of bytes ≡ Closing → rest ≡ drop 2 bytes → EndsComment bytes rest
  nests : {bytes middle rest : List ℕ} → mark_of bytes ≡ Opening → EndsComment (drop 2 bytes) middle → EndsComment middle rest → EndsComment bytes rest
  passes : {bytes rest : List ℕ} → mark_of bytes ≡ Other → EndsComment (drop 1 bytes) rest → EndsComment bytes rest
