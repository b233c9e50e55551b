-- The program of a text that isn't too long.
use Rattle.std.specs.Prelude.{◌≤◌, length}
use Rattle.lq_text_lexer.specs.Reading.{IsTokens}
use Rattle.lq_text_lexer.specs.declared.limits.TheConstants.{TEXT_LIMIT}
use Rattle.lq_base_names.specs.declared.place.TextKind.TheVariants.{Program}
use Rattle.lq_text_walk.specs.Scoped.Scoping.{Scoping}
use Rattle.lq_sound_readiness.specs.TextPrograms.Laws.{IsOfText}

-- What it was read from are the text's tokens, and the text has at most `TEXT_LIMIT` bytes.
pub record IsOfShortText (s : Scoping) : Type 0 where
  pub of_text : IsOfText s
  pub lexed : IsTokens Program of_text.text of_text.tokens
  pub short : length of_text.text ≤ TEXT_LIMIT
