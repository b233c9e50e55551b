use Rattle.std.specs.Prelude.{map}
use Rattle.std.proofs.Common.{◌≡◌, ◌≤◌, ◌+◌, ◌-◌, length, take}
use Rattle.lq_text_lexer.specs.Reading.{tokens_of}
use Rattle.lq_base_names.specs.NameTable.{IsNameTable}
use Rattle.lq_text_parser.specs.Parse.Trees.{with_names}
use Rattle.lq_text_actions.specs.Views.{lexeme_view}
use Rattle.lq_text_parser.proofs.ParseLemmas.Numbered.{AreLexemes}
use Rattle.lq_text_parser.proofs.parse.lexemes.lexemes_of.Given as goal

abbrev pub invariant-loop-token : goal.invariant-loop-token
invariant-loop-token l = record {
  within : l.at ≤ length (tokens_of l.tokens);
  lexemes : AreLexemes l.names l.text (take l.at (tokens_of l.tokens)) (map lexeme_view l.lexemes.items);
  names : l.names ≡ with_names l.text (take l.at (tokens_of l.tokens)) l.fn.names;
  kept : take (length l.fn.names) l.names ≡ l.fn.names;
  added : length l.names ≤ length l.fn.names + l.at;
  table : IsNameTable l.names;
}

abbrev pub decreases-loop-token : goal.decreases-loop-token
decreases-loop-token l = length (tokens_of l.tokens) - l.at
