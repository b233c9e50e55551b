use Rattle.std.proofs.lemmas.Str.{IsUtf8-from_ascii}
use Rattle.lq_text_parser.proofs.parse.lexemes.number_of.Goals as goal

pub unreachable-requires : goal.unreachable-requires
unreachable-requires c = c.in_default.ensures.cases.0 (IsUtf8-from_ascii c.args.word.now c.requires.ascii)
