-- Once its names are bound, a program that was read from tokens has few binders and made names.
use Rattle.std.specs.Prelude.{map}
use Rattle.std.proofs.Common.{◌≡◌, ℕ, List, [], ◌∷◌, length, refl, sym, ap, subst, arith}
use Rattle.std.proofs.lemmas.List.{length-map}
use Rattle.lq_text_actions.specs.Trees.{Makes}
use Rattle.lq_text_actions.specs.Value.{items}
use Rattle.lq_text_lexer.specs.declared.token.Token as lex
use Rattle.lq_base_names.specs.declared.place.TextKind.TheVariants.{Program}
use Rattle.lq_text_parser.specs.Parse.Terminals.{kind_of, kinds_of}
use Rattle.lq_text_parser.specs.Parse.Trees.{IsRead, lexeme_of}
use Rattle.lq_text_front.specs.Trees.Laws.{ParsedProgramsAreSmall}
use Rattle.lq_text_resolve.specs.Binding.Making.{first_frame}
use Rattle.lq_text_resolve.specs.Resolution.Resolution.{scoping_of}
use Rattle.lq_text_parser.specs.Syntax.Texts.{IsProgram, ProgramsAreSame}
use Rattle.lq_text_parser.specs.Syntax.Tokens as syntax
use Rattle.lq_text_tree.specs.Items.{ItemTree}
use Rattle.lq_sound_scope.specs.NameCounts.Laws.{ParsedProgramsMakeFew}
use Rattle.lq_sound_scope.proofs.NameCountsLemmas.Nexts.{items-few}
use Rattle.lq_sound_scope.proofs.NameCountsLemmas.Paying.{items-paid}
use Rattle.lq_sound_scope.proofs.NameCountsLemmas.Resolving.{items-weigh}

-- a token as the lines of the grammar see it
abbrev seen : List ℕ → List (List ℕ) → lex.Token → syntax.Token
seen text names t = record { kind = kind_of text t; place = t.place; content = (lexeme_of names text t).content }

kinds-seen : (text : List ℕ) (names : List (List ℕ)) (ts : List lex.Token) → map syntax.kind_of (map (seen text names) ts) ≡ kinds_of text ts
kinds-seen text names [] = refl
kinds-seen text names (t ∷ ts) = ap (λ ks. kind_of text t ∷ ks) (kinds-seen text names ts)

lexemes-seen : (text : List ℕ) (names : List (List ℕ)) (ts : List lex.Token)
    → map syntax.lexeme_of (map (seen text names) ts) ≡ map (lexeme_of names text) ts
lexemes-seen text names [] = refl
lexemes-seen text names (t ∷ ts) = ap (λ ls. lexeme_of names text t ∷ ls) (lexemes-seen text names ts)

same-items : (is js : List ItemTree) → items is ≡ items js → js ≡ is
same-items is js e = cc

-- the lines of the grammar say what was read
program-of : ProgramsAreSame → (text : List ℕ) (names : List (List ℕ)) (ts : List lex.Token) (is : List ItemTree)
    → IsRead Program text names ts (items is)
    → IsProgram (map (seen text names) ts) is
program-of same text names ts is read =
    let tokens = map (seen text names) ts in
    let moved = subst (λ ks. Makes Program ks (map syntax.lexeme_of tokens) (items is)) (sym (kinds-seen text names ts))
    (subst (λ ls. Makes Program (kinds_of text ts) ls (items is)) (sym (lexemes-seen text names ts)) read.makes) in
    let found = (same tokens (items is)).0 moved in
    subst (IsProgram tokens) (same-items is found.0 found.1) found.2

pub make-few : ProgramsAreSame → ParsedProgramsAreSmall → ParsedProgramsMakeFew
make-few same small text names ts is read known =
    let s = scoping_of known is in
    let paid = items-paid (program-of same text names ts is read).1 in let weighs = items-weigh known is first_frame 0 [] in
    let made = items-few s.items (length s.sources) in let few = small text names ts is read known in
    let long = length-map ts (seen text names) in
    omega (arith, paid, weighs, made, few, long)
