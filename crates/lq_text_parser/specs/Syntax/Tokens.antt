-- Tokens as the definition of the trees of texts sees them, and what may be asked of those that come next.
use Rattle.std.specs.Prelude.{◌≡◌, ℕ, List, [], ◌∷◌, IsFalse}
use Rattle.lq_base_names.specs.declared.place.Place.{Place}
use Rattle.lq_text_grammar.specs.declared.kind.Kind.{Kind}
use Rattle.lq_text_grammar.specs.Kinds.{same_kind}
use Rattle.lq_text_actions.specs.Trees.{nowhere}
use Rattle.lq_text_actions.specs.Value.{Content, some_name, some_number, Lexeme}

-- a token: its kind, its place, and what it has beside them, which is a name, a number or neither
pub record Token : Type 0 where
  pub kind : Kind
  pub place : Place
  pub content : Content

abbrev pub kind_of : Token → Kind
kind_of t = t.kind

abbrev pub place_of : Token → Place
place_of t = t.place

abbrev pub lexeme_of : Token → Lexeme
lexeme_of t = record { place = t.place; content = t.content }

-- the token is of this kind
abbrev pub Is : Kind → Token → Type 0
Is k t = t.kind ≡ k

-- the token is of this kind, and has this name
abbrev pub IsName : Kind → ℕ → Token → Type 0
IsName k x t = (t.kind ≡ k) × (t.content ≡ some_name x)

-- the token is of this kind, and has this number
abbrev pub IsNumber : Kind → ℕ → Token → Type 0
IsNumber k v t = (t.kind ≡ k) × (t.content ≡ some_number v)

-- the place of the first token
abbrev pub place_at : List Token → Place
place_at [] = nowhere.place
place_at (t ∷ ts) = place_of t

-- the next token isn't of this kind; there may be none
abbrev pub IsNotNext : Kind → List Token → Type 0
IsNotNext k [] = Unit {0}
IsNotNext k (t ∷ ts) = IsFalse (same_kind k (kind_of t))

-- the next token is of none of these kinds
abbrev pub Stops : List Kind → List Token → Type 0
Stops [] ts = Unit {0}
Stops (k ∷ ks) ts = IsNotNext k ts × Stops ks ts

-- A token that may stand or not: it stands there, and is taken, or nothing is.
pub data Maybe (k : Kind) : List Token → List Token → Type 0 where
  there : {t : Token} {ts : List Token} → Is k t → Maybe k (t ∷ ts) ts
  missing : {ts : List Token} → Maybe k ts ts

-- The same where it is taken if it stands there.
pub data Taken (k : Kind) : List Token → List Token → Type 0 where
  taken : {t : Token} {ts : List Token} → Is k t → Taken k (t ∷ ts) ts
  lacking : {ts : List Token} → Stops (k ∷ []) ts → Taken k ts ts
