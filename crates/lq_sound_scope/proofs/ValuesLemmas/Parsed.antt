-- In programs of texts each match has an arm once their names are bound.
use Rattle.std.specs.Prelude.{map}
use Rattle.std.proofs.Common.{◌≡◌, ℕ, List, [], ◌∷◌, refl, sym, ap, subst}
use Rattle.lq_text_actions.specs.Trees.{Makes}
use Rattle.lq_text_actions.specs.Value.{items}
use Rattle.lq_text_lexer.specs.declared.token.Token as lex
use Rattle.lq_base_names.specs.declared.place.TextKind.TheVariants.{Program}
use Rattle.lq_text_parser.specs.Parse.Terminals.{kind_of, kinds_of}
use Rattle.lq_text_parser.specs.Parse.Trees.{IsRead, lexeme_of}
use Rattle.lq_text_resolve.specs.Binding.Making.{first_frame}
use Rattle.lq_text_parser.specs.Syntax.Texts.{IsProgram, ProgramsAreSame}
use Rattle.lq_text_parser.specs.Syntax.Tokens as syntax
use Rattle.lq_text_tree.specs.Items.{ItemTree}
use Rattle.lq_sound_scope.specs.Values.Laws.{TextsHaveArms}
use Rattle.lq_sound_scope.proofs.ValuesLemmas.Binding.{items_kept}
use Rattle.lq_sound_scope.proofs.ValuesLemmas.Reading.{items_fit}

-- a token as the lines of the grammar see it
abbrev seen : List ℕ → List (List ℕ) → lex.Token → syntax.Token
seen text names t = record { kind = kind_of text t; place = t.place; content = (lexeme_of names text t).content }

kinds_seen : (text : List ℕ) (names : List (List ℕ)) (ts : List lex.Token) → map syntax.kind_of (map (seen text names) ts) ≡ kinds_of text ts
kinds_seen text names [] = refl
kinds_seen text names (t ∷ ts) = ap (λ ks. kind_of text t ∷ ks) (kinds_seen text names ts)

lexemes_seen : (text : List ℕ) (names : List (List ℕ)) (ts : List lex.Token) → map syntax.lexeme_of (map (seen text names) ts) ≡ map (lexeme_of names text) ts
lexemes_seen text names [] = refl
lexemes_seen text names (t ∷ ts) = ap (λ ls. lexeme_of names text t ∷ ls) (lexemes_seen text names ts)

same_items : (is js : List ItemTree) → items is ≡ items js → js ≡ is
same_items is js e = cc

-- the lines of the grammar say what was read
program_of : ProgramsAreSame → (text : List ℕ) (names : List (List ℕ)) (ts : List lex.Token) (is : List ItemTree) → IsRead Program text names ts (items is)
    → IsProgram (map (seen text names) ts) is
program_of same text names ts is read =
    let tokens = map (seen text names) ts in
    let moved = subst (λ ks. Makes Program ks (map syntax.lexeme_of tokens) (items is)) (sym (kinds_seen text names ts))
    (subst (λ ls. Makes Program (kinds_of text ts) ls (items is)) (sym (lexemes_seen text names ts)) read.makes) in
    let found = (same tokens (items is)).0 moved in
    subst (IsProgram tokens) (same_items is found.0 found.1) found.2

pub texts_armed : ProgramsAreSame → TextsHaveArms
texts_armed same text names ts is read known = items_kept known is (items_fit (program_of same text names ts is read).1 tt) first_frame 0 []
