-- What the steps of a reading make, and the trees of the three texts.
use Rattle.std.specs.Prelude.{◌≡◌, ℕ, List, [], ◌∷◌, Option, Some, None}
use Rattle.lq_text_grammar.specs.Grammar.{start_of}
use Rattle.lq_text_grammar.specs.Reading.{IsText}
use Rattle.lq_text_grammar.specs.declared.kind.Kind.{Kind}
use Rattle.lq_text_grammar.specs.declared.kind.Kind.TheVariants as kind
use Rattle.lq_text_grammar.specs.declared.symbol.Event.{Event}
use Rattle.lq_text_grammar.specs.declared.symbol.Event.TheVariants.{Take, Make}
use Rattle.lq_base_names.specs.declared.place.TextKind.{TextKind}
use Rattle.lq_base_names.specs.declared.place.TextKind.TheVariants as text
use Rattle.lq_text_actions.specs.Value.{Lexeme, neither, HasName, HasNumberBelow, HasNumberUpTo, Value, Making}
use Rattle.lq_text_actions.specs.Made.{made}

abbrev pub and_then : Option Making → (Making → Option Making) → Option Making
and_then None f = None
and_then (Some m) f = f m

-- The steps one after the other: a token is taken, or an action works on the values and the token taken last.
abbrev pub run : List Event → List Lexeme → Lexeme → Making → Option Making
run [] ls last m = Some m
run (Take ∷ es) [] last m = None
run (Take ∷ es) (l ∷ ls) last m = run es ls l m
run (Make a ∷ es) ls last m = and_then (made a last m) (λ n. run es ls last n)

-- before the first token
abbrev pub nowhere : Lexeme
nowhere = record { place = record { text = text.Program; line = 0; column = 0 }; content = neither }

abbrev pub nothing_made : Making
nothing_made = record { made = 0; values = [] }

-- The reading of these tokens as a text of this kind makes this one value.
pub record Makes (kind : TextKind) (kinds : List Kind) (lexemes : List Lexeme) (v : Value) : Type 0 where
  pub events : List Event
  pub reading : IsText (start_of kind) kinds events
  pub nodes : ℕ
  pub makes : run events lexemes nowhere nothing_made ≡ Some (record { made = nodes; values = v ∷ [] })

-- what a token has fits its kind
abbrev pub FitsKind : Kind → Lexeme → Type 0
FitsKind kind.LowerName l = HasName l.content
FitsKind kind.UpperName l = HasName l.content
FitsKind kind.TypeVariable l = HasName l.content
FitsKind kind.Number l = HasNumberBelow l.content
FitsKind kind.LimitNumber l = HasNumberUpTo l.content
FitsKind _ l = Unit {0}

abbrev pub FitKinds : List Kind → List Lexeme → Type 0
FitKinds [] [] = Unit {0}
FitKinds [] (l ∷ ls) = ⊥
FitKinds (k ∷ ks) [] = ⊥
FitKinds (k ∷ ks) (l ∷ ls) = FitsKind k l × FitKinds ks ls
