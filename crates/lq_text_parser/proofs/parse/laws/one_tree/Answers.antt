use Rattle.std.proofs.Common.{map}
use Rattle.lq_text_parser.specs.Parse.Terminals.{kinds_of}
use Rattle.lq_text_parser.specs.Parse.Trees.{lexeme_of}
use Rattle.lq_text_parser.proofs.parse.laws.one_tree.Goals as goal

pub returns : goal.returns
returns c = λ kind text names tokens v w a b. c.one_value.ensures kind (kinds_of text tokens) (map (lexeme_of names text) tokens) v w a.makes b.makes
