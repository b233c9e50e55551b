use Rattle.std.specs.Prelude.{slice_get, map}
use Rattle.std.proofs.Common.{◌≡◌, ◌+◌, ◌∷◌, ◌++◌, [], Some, None, take, arith, ap, sym, ◌∙◌, refl, subst, List, ℕ}
use Rattle.std.proofs.lemmas.Option.{slice_get_within}
use Rattle.lq_text_actions.specs.Value.{Lexeme}
use Rattle.lq_text_lexer.specs.Reading.{tokens_of}
use Rattle.lq_text_lexer.specs.declared.token.Token.{Token}
use Rattle.lq_text_parser.specs.Parse.Lexemes.{HasNameBytes, ContentFits}
use Rattle.lq_text_parser.specs.Parse.Terminals.{bytes_of}
use Rattle.lq_text_parser.specs.Parse.Trees.{with_name, with_names}
use Rattle.lq_text_actions.specs.Views.{content_view, lexeme_view}
use Rattle.lq_text_parser.proofs.ParseLemmas.Lexed.{tokens_are, one_token, tokens_within}
use Rattle.lq_text_parser.proofs.ParseLemmas.Numbered.{IsLexeme, AreLexemes, more_lexemes, more_names, kept_names, few_names, lexemes_are}
use Rattle.lq_text_parser.proofs.ParseLemmas.Takes.{past_all, map-one}
use Rattle.lq_text_parser.proofs.parse.lexemes.lexemes_of.Goals as goal

pub content_of-requires-clause-room : goal.content_of-requires-clause-room
content_of-requires-clause-room c =
    let few = tokens_within c.args.kind c.args.text.now (tokens_of c.args.tokens.now) c.requires.tokens in
    let small = c.requires.small in
    let room = c.requires.room in
    let within = c.loop-token.invariant.within in
    let added = c.loop-token.invariant.added in
    omega arith

pub content_of-requires-clause-ascii : goal.content_of-requires-clause-ascii
content_of-requires-clause-ascii c =
    let got : slice_get (tokens_of c.args.tokens.now) c.loop-token.at ≡ Some c.in-Some.token.now = sym c.in-Some.ensures in
    let one = one_token c.args.text.now (tokens_of c.args.tokens.now) c.loop-token.at c.in-Some.token.now (tokens_are c.args.kind c.args.text.now (tokens_of c.args.tokens.now) c.requires.tokens) got in
    subst (λ (w : List ℕ). HasNameBytes c.in-Some.token.now.kind w) (sym c.bytes_of.ensures) one.name

pub returns-in_err-push-clause-added : goal.returns-in_err-push-clause-added
returns-in_err-push-clause-added c =
    let got : slice_get (tokens_of c.args.tokens.now) c.loop-token.at ≡ Some c.in-Some.token.now = sym c.in-Some.ensures in
    let within = slice_get_within (tokens_of c.args.tokens.now) c.loop-token.at c.in-Some.token.now got in
    let few = few_names c.in-Some.token.now.kind c.bytes_of.result.now c.loop-token.names c.content_of.new.names c.in_ok-content.ensures.names in
    let added = c.loop-token.invariant.added in
    omega arith

pub loop-token-smaller : goal.loop-token-smaller
loop-token-smaller c =
    let got : slice_get (tokens_of c.args.tokens.now) c.loop-token.at ≡ Some c.in-Some.token.now = sym c.in-Some.ensures in
    let within = slice_get_within (tokens_of c.args.tokens.now) c.loop-token.at c.in-Some.token.now got in
    omega arith

pub loop-token-preserved : goal.loop-token-preserved
loop-token-preserved c =
    let tokens = tokens_of c.args.tokens.now in
    let t = c.in-Some.token.now in
    let got : slice_get (tokens_of c.args.tokens.now) c.loop-token.at ≡ Some c.in-Some.token.now = sym c.in-Some.ensures in
    let within = slice_get_within (tokens_of c.args.tokens.now) c.loop-token.at c.in-Some.token.now got in
    let word : c.bytes_of.result.now ≡ bytes_of c.args.text.now c.in-Some.token.now = c.bytes_of.ensures in
    let names : c.content_of.new.names ≡ with_name c.in-Some.token.now.kind (bytes_of c.args.text.now c.in-Some.token.now) c.loop-token.names = c.in_ok-content.ensures.names ∙ ap (λ (w : List ℕ). with_name c.in-Some.token.now.kind w c.loop-token.names) word in
    let content : ContentFits c.content_of.new.names c.in-Some.token.now.kind (bytes_of c.args.text.now c.in-Some.token.now) (content_view c.in_ok-content.content) = subst (λ (w : List ℕ). ContentFits c.content_of.new.names c.in-Some.token.now.kind w (content_view c.in_ok-content.content)) word c.in_ok-content.ensures.content in
    let lexeme : Lexeme = record { place = c.in-Some.token.now.place; content = content_view c.in_ok-content.content } in
    let one : IsLexeme c.content_of.new.names c.args.text.now c.in-Some.token.now lexeme = record { place = refl; content = content } in
    let more = more_lexemes c.args.text.now (tokens_of c.args.tokens.now) c.loop-token.at c.in-Some.token.now c.loop-token.names c.content_of.new.names (map lexeme_view c.loop-token.lexemes.items) lexeme got names c.loop-token.invariant.lexemes one in
    let pushed : map lexeme_view c.push.new.self.items ≡ map lexeme_view c.loop-token.lexemes.items ++ lexeme ∷ [] = ap (map lexeme_view) c.in_ok-push.ensures.items ∙ map-one lexeme_view c.loop-token.lexemes.items (record { place = c.in-Some.token.now.place; content = c.in_ok-content.content }) in
    let few = few_names c.in-Some.token.now.kind (bytes_of c.args.text.now c.in-Some.token.now) c.loop-token.names c.content_of.new.names names in
    let added = c.loop-token.invariant.added in
    record {
      within = omega arith;
      lexemes = subst (λ (ls : List Lexeme). AreLexemes c.content_of.new.names c.args.text.now (take (c.loop-token.at + 1) (tokens_of c.args.tokens.now)) ls) (sym pushed) more;
      names = more_names c.args.text.now (tokens_of c.args.tokens.now) c.loop-token.at c.in-Some.token.now c.loop-token.names c.content_of.new.names c.args.names.now got c.loop-token.invariant.names names;
      kept = kept_names c.in-Some.token.now.kind (bytes_of c.args.text.now c.in-Some.token.now) c.args.names.now c.loop-token.names c.content_of.new.names names c.loop-token.invariant.kept;
      added = omega arith;
      table = c.in_ok-content.ensures.table;
    }

pub returns-clause-ok : goal.returns-clause-ok
returns-clause-ok c =
    let none : slice_get (tokens_of c.args.tokens.now) c.loop-token.at ≡ None = sym c.in_default.ensures in
    let all : AreLexemes c.loop-token.names c.args.text.now (tokens_of c.args.tokens.now) (map lexeme_view c.loop-token.lexemes.items) = subst (λ (ts : List Token). AreLexemes c.loop-token.names c.args.text.now ts (map lexeme_view c.loop-token.lexemes.items)) (past_all (tokens_of c.args.tokens.now) c.loop-token.at none) c.loop-token.invariant.lexemes in
    lexemes_are c.loop-token.names c.args.text.now (tokens_of c.args.tokens.now) (map lexeme_view c.loop-token.lexemes.items) c.loop-token.invariant.table.distinct all

pub returns-clause-names : goal.returns-clause-names
returns-clause-names c =
    let none : slice_get (tokens_of c.args.tokens.now) c.loop-token.at ≡ None = sym c.in_default.ensures in
    c.loop-token.invariant.names ∙ ap (λ (ts : List Token). with_names c.args.text.now ts c.args.names.now) (past_all (tokens_of c.args.tokens.now) c.loop-token.at none)
