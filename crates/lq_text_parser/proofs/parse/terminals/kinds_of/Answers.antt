use Rattle.std.specs.Prelude.{slice_get}
use Rattle.std.proofs.Common.{◌≡◌, ◌+◌, ◌∷◌, ◌++◌, [], Some, None, take, arith, ap, sym, ◌∙◌, refl}
use Rattle.std.proofs.lemmas.Option.{slice_get_within}
use Rattle.lq_text_lexer.specs.Reading.{tokens_of}
use Rattle.lq_text_parser.specs.Parse.Terminals.{kind_of, kinds_of}
use Rattle.lq_text_parser.proofs.ParseLemmas.Takes.{one_more, past_all, map-one}
use Rattle.lq_text_parser.proofs.parse.terminals.kinds_of.Goals as goal

pub loop-token-preserved : goal.loop-token-preserved
loop-token-preserved c =
    let got : slice_get (tokens_of c.args.tokens.now) c.loop-token.at ≡ Some c.in-Some.token.now = sym c.in-Some.ensures in
    let within = slice_get_within (tokens_of c.args.tokens.now) c.loop-token.at c.in-Some.token.now got in
    let more : kinds_of c.args.text.now (take (c.loop-token.at + 1) (tokens_of c.args.tokens.now)) ≡ kinds_of c.args.text.now (take c.loop-token.at (tokens_of c.args.tokens.now)) ++ kind_of c.args.text.now c.in-Some.token.now ∷ [] =
    rw (one_more (tokens_of c.args.tokens.now) c.loop-token.at c.in-Some.token.now got) (map-one (kind_of c.args.text.now) (take c.loop-token.at (tokens_of c.args.tokens.now)) c.in-Some.token.now) in
    (omega (arith, within), c.in_ok-push.ensures.items ∙ rw (more, c.loop-token.invariant.1, c.terminal.ensures, c.bytes_of.ensures) refl)

pub returns : goal.returns
returns c =
    let none : slice_get (tokens_of c.args.tokens.now) c.loop-token.at ≡ None = sym c.in_default.ensures in
    c.loop-token.invariant.1 ∙ ap (kinds_of c.args.text.now) (past_all (tokens_of c.args.tokens.now) c.loop-token.at none)
