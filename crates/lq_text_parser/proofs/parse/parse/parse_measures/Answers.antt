use Rattle.std.proofs.Common.{sym, subst, List}
use Rattle.lq_base_names.specs.declared.place.TextKind.TheVariants as kind
use Rattle.lq_text_tree.specs.MeasureTrees.{MeasureTree, definitions_view}
use Rattle.lq_text_actions.specs.Value.{measures}
use Rattle.lq_text_lexer.specs.Reading.{tokens_of}
use Rattle.lq_text_actions.specs.Making.{making_view}
use Rattle.lq_text_parser.specs.Parse.Trees.{IsRead}
use Rattle.lq_text_parser.proofs.ParseLemmas.Outcomes.{still_read}
use Rattle.lq_text_parser.proofs.ParseLemmas.Readings.{made_measures_row, made_measures_stands}
use Rattle.lq_text_parser.proofs.parse.parse.parse_measures.Goals as goal

pub new-requires : goal.new-requires
new-requires c =
    let row = made_measures_row c.readings_make_texts.ensures.measures c.args.text.now c.built.new.names (tokens_of c.args.tokens.now) (making_view c.in_ok-builder.builder) (definitions_view c.in-Ok.row.items) _ c.requires.tokens c.in_ok-builder.ensures.parsed.ok c.in-Ok.ensures.ok in
    row.0

pub unreachable-requires : goal.unreachable-requires
unreachable-requires c = made_measures_stands c.readings_make_texts.ensures.measures c.args.text.now c.built.new.names (tokens_of c.args.tokens.now) (making_view c.in_ok-builder.builder) c.requires.tokens c.in_ok-builder.ensures.parsed.ok c.in-Err.ensures.misfit

pub returns : goal.returns
returns c =
    let row = made_measures_row c.readings_make_texts.ensures.measures c.args.text.now c.built.new.names (tokens_of c.args.tokens.now) (making_view c.in_ok-builder.builder) (definitions_view c.in-Ok.row.items) _ c.requires.tokens c.in_ok-builder.ensures.parsed.ok c.in-Ok.ensures.ok in
    let read = subst (λ (r : List MeasureTree). IsRead kind.Measures c.args.text.now c.built.new.names (tokens_of c.args.tokens.now) (measures r)) (sym c.new.ensures) row.1 in
    record { parsed = still_read kind.Measures c.args.text.now c.args.tokens.now c.args.names.now c.built.new.names _ _ c.in_ok-builder.builder c.new.result c.in_ok-builder.ensures.parsed read }
