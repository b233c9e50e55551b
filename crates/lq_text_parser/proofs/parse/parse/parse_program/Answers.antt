use Rattle.std.proofs.Common.{sym, ap, subst, List, length, arith}
use Rattle.lq_base_names.specs.declared.place.TextKind.TheVariants as kind
use Rattle.lq_text_tree.specs.Items.{ItemTree, parsed_items}
use Rattle.lq_text_actions.specs.Value.{items}
use Rattle.lq_text_lexer.specs.Reading.{tokens_of}
use Rattle.lq_text_actions.specs.Making.{making_view}
use Rattle.lq_text_parser.specs.Parse.Trees.{IsRead}
use Rattle.lq_text_parser.proofs.ParseLemmas.Lexed.{tokens_within}
use Rattle.lq_text_parser.proofs.ParseLemmas.Outcomes.{still_read}
use Rattle.lq_text_parser.proofs.ParseLemmas.Readings.{made_program_row, made_program_few, made_program_stands}
use Rattle.lq_text_parser.proofs.parse.parse.parse_program.Goals as goal

pub new-requires : goal.new-requires
new-requires c =
    let row = made_program_row c.readings_make_texts.ensures.program c.args.text.now c.built.new.names (tokens_of c.args.tokens.now) (making_view c.in_ok-builder.builder) (parsed_items c.in-Ok.row.items) _ c.requires.tokens c.in_ok-builder.ensures.parsed.ok c.in-Ok.ensures.ok in
    row.0

pub unreachable-requires : goal.unreachable-requires
unreachable-requires c = made_program_stands c.readings_make_texts.ensures.program c.args.text.now c.built.new.names (tokens_of c.args.tokens.now) (making_view c.in_ok-builder.builder) c.requires.tokens c.in_ok-builder.ensures.parsed.ok c.in-Err.ensures.misfit

pub returns-clause-parsed : goal.returns-clause-parsed
returns-clause-parsed c =
    let row = made_program_row c.readings_make_texts.ensures.program c.args.text.now c.built.new.names (tokens_of c.args.tokens.now) (making_view c.in_ok-builder.builder) (parsed_items c.in-Ok.row.items) _ c.requires.tokens c.in_ok-builder.ensures.parsed.ok c.in-Ok.ensures.ok in
    let read = subst (λ (r : List ItemTree). IsRead kind.Program c.args.text.now c.built.new.names (tokens_of c.args.tokens.now) (items r)) (sym c.new.ensures) row.1 in
    still_read kind.Program c.args.text.now c.args.tokens.now c.args.names.now c.built.new.names _ _ c.in_ok-builder.builder c.new.result c.in_ok-builder.ensures.parsed read

pub returns-clause-count : goal.returns-clause-count
returns-clause-count c =
    let few = made_program_few c.readings_make_texts.ensures.program c.few_items.ensures c.args.text.now c.built.new.names (tokens_of c.args.tokens.now) (making_view c.in_ok-builder.builder) (parsed_items c.in-Ok.row.items) _ c.requires.tokens c.in_ok-builder.ensures.parsed.ok c.in-Ok.ensures.ok in
    let tokens = tokens_within kind.Program c.args.text.now (tokens_of c.args.tokens.now) c.requires.tokens in
    let small = c.requires.small in
    let same = ap length c.new.ensures in
    omega (arith, few, tokens, small, same)
