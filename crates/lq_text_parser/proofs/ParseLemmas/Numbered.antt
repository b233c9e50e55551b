-- Tokens whose names are numbered by a table.
use Rattle.std.specs.Prelude.{map, slice_get}
use Rattle.std.specs.Str.{bytes_eq}
use Rattle.std.proofs.Common.{◌≡◌, ◌≤◌, ◌+◌, ℕ, zero, suc, List, [], ◌∷◌, ◌++◌, Bool, true, false, cond, Some, length, length-append, take, arith, refl, sym, ap, ◌∙◌, subst}
use Rattle.std.proofs.lemmas.List.{length-take, take-append-le}
use Rattle.std.proofs.lemmas.Option.{slice_get_within}
use Rattle.std.proofs.lemmas.Slice.Eq.{bytes_eq-Decides}
use Rattle.lq_base_names.specs.declared.place.Place.{Place}
use Rattle.lq_base_names.specs.NameTable.{HasOneNumberEach}
use Rattle.lq_text_lexer.specs.declared.token.Token.{Token}
use Rattle.lq_text_lexer.specs.declared.token.TokenKind.{TokenKind}
use Rattle.lq_text_lexer.specs.declared.token.TokenKind.TheVariants as of
use Rattle.lq_text_actions.specs.Value.{Content, some_name, Lexeme}
use Rattle.lq_text_parser.specs.Parse.Lexemes.{IsNumbered, ContentFits}
use Rattle.lq_text_parser.specs.Parse.Terminals.{bytes_of}
use Rattle.lq_text_parser.proofs.ParseLemmas.Takes.{one_more}
use Rattle.lq_text_parser.specs.Parse.Trees.{number_in, content_of, lexeme_of, with_name, with_names}

-- a token as actions see it, where the table may have further names
pub record IsLexeme (names : List (List ℕ)) (text : List ℕ) (t : Token) (l : Lexeme) : Type 0 where
  pub place : l.place ≡ t.place
  pub content : ContentFits names t.kind (bytes_of text t) l.content

abbrev pub AreLexemes : List (List ℕ) → List ℕ → List Token → List Lexeme → Type 0
AreLexemes names text [] [] = Unit {0}
AreLexemes names text [] (l ∷ ls) = ⊥
AreLexemes names text (t ∷ ts) [] = ⊥
AreLexemes names text (t ∷ ts) (l ∷ ls) = IsLexeme names text t l × AreLexemes names text ts ls

-- ---- further names
still_there : (names more : List (List ℕ)) (n : ℕ) (word : List ℕ) → slice_get names n ≡ Some word → slice_get (names ++ more) n ≡ Some word
still_there [] more n word e = absurd cc
still_there (x ∷ names) more zero word e = e
still_there (x ∷ names) more (suc n) word e = still_there names more n word e

still_numbered : (names more : List (List ℕ)) (word : List ℕ) (c : Content) → IsNumbered names word c → IsNumbered (names ++ more) word c
still_numbered names more word c (n, is, e) = (n, is, still_there names more n word e)

still_fits : (names more : List (List ℕ)) (k : TokenKind) (word : List ℕ) (c : Content) → ContentFits names k word c → ContentFits (names ++ more) k word c
still_fits names more of.Lower word c e = still_numbered names more word c e
still_fits names more of.Upper word c e = still_numbered names more word c e
still_fits names more of.TypeVar word c e = still_numbered names more word c e
still_fits names more (of.Number v) word c e = e
still_fits names more (of.Keyword k) word c e = e
still_fits names more of.Symbol word c e = e

pub still_lexemes : (names more : List (List ℕ)) (text : List ℕ) (ts : List Token) (ls : List Lexeme) → AreLexemes names text ts ls → AreLexemes (names ++ more) text ts ls
still_lexemes names more text [] [] all = tt
still_lexemes names more text [] (l ∷ ls) all = all
still_lexemes names more text (t ∷ ts) [] all = all
still_lexemes names more text (t ∷ ts) (l ∷ ls) all =
    (record { place = all.0.place; content = still_fits names more t.kind (bytes_of text t) l.content all.0.content }, still_lexemes names more text ts ls all.1)

-- ---- one more
pub one_lexeme : (names : List (List ℕ)) (text : List ℕ) (ts : List Token) (ls : List Lexeme) (t : Token) (l : Lexeme) → AreLexemes names text ts ls → IsLexeme names text t l → AreLexemes names text (ts ++ t ∷ []) (ls ++ l ∷ [])
one_lexeme names text [] [] t l all one = (one, tt)
one_lexeme names text [] (m ∷ ls) t l all one = absurd all
one_lexeme names text (u ∷ ts) [] t l all one = absurd all
one_lexeme names text (u ∷ ts) (m ∷ ls) t l all one = (all.0, one_lexeme names text ts ls t l all.1 one)

pub one_name : (text : List ℕ) (ts : List Token) (t : Token) (names : List (List ℕ)) → with_names text (ts ++ t ∷ []) names ≡ with_name t.kind (bytes_of text t) (with_names text ts names)
one_name text [] t names = refl
one_name text (u ∷ ts) t names = one_name text ts t (with_name u.kind (bytes_of text u) names)

-- a table grows at its end, by one name at most
pub record Grows (names new : List (List ℕ)) : Type 0 where
  pub more : List (List ℕ)
  pub is : new ≡ names ++ more
  pub one : length more ≤ 1

text_grows : (names : List (List ℕ)) (word : List ℕ) (b : Bool) → Grows names (cond b names (names ++ word ∷ []))
text_grows names word true = record { more = []; is = sym (none names); one = omega arith }
  where
    none : (xs : List (List ℕ)) → xs ++ [] ≡ xs
    none [] = refl
    none (x ∷ xs) = ap (λ l. x ∷ l) (none xs)
text_grows names word false = record { more = word ∷ []; is = refl; one = omega arith }

same_grows : (names : List (List ℕ)) → Grows names names
same_grows names = text_grows names [] true

pub name_grows : (k : TokenKind) (word : List ℕ) (names : List (List ℕ)) → Grows names (with_name k word names)
name_grows of.Lower word names = text_grows names word _
name_grows of.Upper word names = text_grows names word _
name_grows of.TypeVar word names = text_grows names word _
name_grows (of.Number v) word names = same_grows names
name_grows (of.Keyword k) word names = same_grows names
name_grows of.Symbol word names = same_grows names

-- ---- one token further
module _ (text : List ℕ) (tokens : List Token) (at : ℕ) (t : Token) (names new : List (List ℕ)) where
  pub more_lexemes : (ls : List Lexeme) (l : Lexeme) → slice_get tokens at ≡ Some t → new ≡ with_name t.kind (bytes_of text t) names → AreLexemes names text (take at tokens) ls → IsLexeme new text t l → AreLexemes new text (take (at + 1) tokens) (ls ++ l ∷ [])
  more_lexemes ls l got is all one =
      let grows = name_grows t.kind (bytes_of text t) names in
      let same : new ≡ names ++ grows.more = is ∙ grows.is in
      let still = subst (λ (n : List (List ℕ)). AreLexemes n text (take at tokens) ls) (sym same) (still_lexemes names grows.more text (take at tokens) ls all) in
      subst (λ (ts : List Token). AreLexemes new text ts (ls ++ l ∷ [])) (sym (one_more tokens at t got)) (one_lexeme new text (take at tokens) ls t l still one)

  pub more_names : (old : List (List ℕ)) → slice_get tokens at ≡ Some t → names ≡ with_names text (take at tokens) old → new ≡ with_name t.kind (bytes_of text t) names → new ≡ with_names text (take (at + 1) tokens) old
  more_names old got so_far is =
      is ∙ ap (with_name t.kind (bytes_of text t)) so_far ∙ sym (one_name text (take at tokens) t old) ∙ ap (λ (ts : List Token). with_names text ts old) (sym (one_more tokens at t got))

pub kept_names : (k : TokenKind) (word : List ℕ) (old names new : List (List ℕ)) → new ≡ with_name k word names → take (length old) names ≡ old → take (length old) new ≡ old
kept_names k word old names new is kept =
    let grows = name_grows k word names in
    let same : new ≡ names ++ grows.more = is ∙ grows.is in
    let within : length old ≤ length names = omega (arith, ap length kept, length-take (length old) names) in
    ap (take (length old)) same ∙ take-append-le (length old) names grows.more within ∙ kept

pub few_names : (k : TokenKind) (word : List ℕ) (names new : List (List ℕ)) → new ≡ with_name k word names → length new ≤ length names + 1
few_names k word names new is =
    let grows = name_grows k word names in
    let one = grows.one in
    omega (arith, ap length (is ∙ grows.is), length-append names grows.more)

-- ---- the number of a word is where it stands
same_bytes : (xs ys : List ℕ) → bytes_eq xs ys ≡ true → xs ≡ ys
same_bytes xs ys e = (bytes_eq-Decides xs ys).0 e

other_bytes : (xs ys : List ℕ) → bytes_eq xs ys ≡ false → xs ≡ ys → ⊥
other_bytes xs ys e same = let yes : bytes_eq xs ys ≡ true = (bytes_eq-Decides xs ys).1 same in absurd cc

found_by : (t : List ℕ) (ts : List (List ℕ)) (word : List ℕ) → ((n : ℕ) → slice_get ts n ≡ Some word → slice_get ts (number_in ts word) ≡ Some word) → (b : Bool) → bytes_eq t word ≡ b → (n : ℕ) → slice_get (t ∷ ts) n ≡ Some word → slice_get (t ∷ ts) (cond b 0 (suc (number_in ts word))) ≡ Some word
found_by t ts word later true is n e = ap (λ x. Some x) (same_bytes t word is)
found_by t ts word later false is zero e = absurd (other_bytes t word is cc)
found_by t ts word later false is (suc n) e = later n e

found : (names : List (List ℕ)) (word : List ℕ) (n : ℕ) → slice_get names n ≡ Some word → slice_get names (number_in names word) ≡ Some word
found [] word n e = absurd cc
found (t ∷ ts) word n e = found_by t ts word (found ts word) (bytes_eq t word) refl n e

pub number_is : (names : List (List ℕ)) (word : List ℕ) (n : ℕ) → HasOneNumberEach names → slice_get names n ≡ Some word → n ≡ number_in names word
number_is names word n one e =
    let f = found names word n e in
    one n (number_in names word) (slice_get_within names n word e) (slice_get_within names (number_in names word) word f) (e ∙ sym f)

numbered_is : (names : List (List ℕ)) (word : List ℕ) (c : Content) → HasOneNumberEach names → IsNumbered names word c → c ≡ some_name (number_in names word)
numbered_is names word c one (n, is, e) = is ∙ ap (λ m. some_name m) (number_is names word n one e)

content_is : (names : List (List ℕ)) (k : TokenKind) (word : List ℕ) (c : Content) → HasOneNumberEach names → ContentFits names k word c → c ≡ content_of names k word
content_is names of.Lower word c one e = numbered_is names word c one e
content_is names of.Upper word c one e = numbered_is names word c one e
content_is names of.TypeVar word c one e = numbered_is names word c one e
content_is names (of.Number v) word c one e = e
content_is names (of.Keyword k) word c one e = e
content_is names of.Symbol word c one e = e

abbrev lexeme : Place → Content → Lexeme
lexeme p c = record { place = p; content = c }

pub lexemes_are : (names : List (List ℕ)) (text : List ℕ) (ts : List Token) (ls : List Lexeme) → HasOneNumberEach names → AreLexemes names text ts ls → ls ≡ map (lexeme_of names text) ts
lexemes_are names text [] [] one all = refl
lexemes_are names text [] (l ∷ ls) one all = absurd all
lexemes_are names text (t ∷ ts) [] one all = absurd all
lexemes_are names text (t ∷ ts) (l ∷ ls) one all =
    let content : l.content ≡ content_of names t.kind (bytes_of text t) = content_is names t.kind (bytes_of text t) l.content one all.0.content in
    let rest = lexemes_are names text ts ls one all.1 in
    let same : l ≡ lexeme_of names text t = ap (λ (p : Place). lexeme p l.content) all.0.place ∙ ap (λ (c : Content). lexeme t.place c) content in
    ap (λ x. x ∷ ls) same ∙ ap (λ r. lexeme_of names text t ∷ r) rest
