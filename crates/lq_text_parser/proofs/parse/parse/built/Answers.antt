use Rattle.std.specs.Prelude.{map, IsSome}
use Rattle.std.proofs.Common.{length, arith, ap}
use Rattle.lq_text_actions.specs.Trees.{run, nowhere, nothing_made}
use Rattle.lq_text_lexer.specs.Reading.{tokens_of}
use Rattle.lq_text_actions.specs.Views.{lexeme_view}
use Rattle.lq_text_parser.proofs.ParseLemmas.Lexed.{tokens_within}
use Rattle.lq_text_parser.proofs.ParseLemmas.Readings.{runs_through}
use Rattle.lq_text_parser.proofs.parse.parse.built.Goals as goal

pub run-requires : goal.run-requires
run-requires c =
    let bounded = c.in_ok-events.ensures.bounded in
    let few = tokens_within c.args.kind c.args.text.now (tokens_of c.args.tokens.now) c.requires.tokens in
    let small = c.requires.small in
    let same = ap length c.deref.ensures.value in
    omega arith

pub unreachable-requires : goal.unreachable-requires
unreachable-requires c =
    let some = runs_through c.readings_make_texts.ensures.program c.readings_make_texts.ensures.qualifiers c.readings_make_texts.ensures.measures c.args.kind c.args.text.now c.lexemes_of.new.names (tokens_of c.args.tokens.now) c.in_ok-events.events.items c.requires.tokens c.in_ok-events.ensures.ok in
    let here : IsSome (run c.deref.result.now (map lexeme_view c.deref-2.result.now) nowhere nothing_made) = rw (c.deref.ensures.value, c.deref-2.ensures.value, c.in_ok-lexemes.ensures.ok) some in
    c.in-Err-Misfit.ensures.fits here (cc)
