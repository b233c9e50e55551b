-- The table is checked once, by computing.
use Rattle.std.specs.Prelude.{if◌then◌else◌}
use Rattle.std.specs.List.{list_any, list_all}
use Rattle.std.proofs.Common.{◌≡◌, ℕ, ◌+◌, refl, Bool, true, false, ◌&&◌, Option, Some, None, List, [], ◌∷◌}
use Rattle.std.proofs.Math.Dec.{ltb}
use Rattle.lq_text_grammar.specs.declared.kind.Kind.{Kind}
use Rattle.lq_text_grammar.specs.declared.rule.Rule.{Rule}
use Rattle.lq_text_grammar.specs.declared.rule.Rule.TheVariants.{InProgram, InType, InBinding, InExpression, InPattern, InEntry, InPred}
use Rattle.lq_text_grammar.specs.declared.rule.ProgramPart.TheVariants.{Program}
use Rattle.lq_text_grammar.specs.declared.rule.TypePart.TheVariants.{WholeType}
use Rattle.lq_text_grammar.specs.declared.rule.BindingPart.TheVariants.{RecBind}
use Rattle.lq_text_grammar.specs.declared.rule.ExpressionPart.TheVariants.{Seq}
use Rattle.lq_text_grammar.specs.declared.rule.PatternPart.TheVariants.{Pattern}
use Rattle.lq_text_grammar.specs.declared.rule.EntryPart.TheVariants.{Quals}
use Rattle.lq_text_grammar.specs.declared.rule.PredPart.TheVariants.{Predicate}
use Rattle.lq_text_grammar.specs.declared.symbol.Symbol.{Symbol}
use Rattle.lq_text_grammar.specs.declared.symbol.Symbol.TheVariants.{Word, Part, Make, Leave}
use Rattle.lq_text_grammar.specs.Grammar.{Alternative, begins, before, otherwise, alternatives}
use Rattle.lq_text_grammar.specs.Levels.{Way, takes, passes, refuses, way}
use Rattle.lq_text_grammar.proofs.Facts.{lead, follow, weight, blocks}
use Rattle.lq_text_grammar.proofs.SameKind.{same_next}

abbrev pub or_next : Option Kind → Option Kind → Option Kind
or_next None n = n
or_next (Some k) n = Some k

-- the kind with which the shortest reading of these symbols begins, where f comes after it
abbrev pub first_then : List Symbol → Option Kind → Option Kind
first_then [] f = f
first_then (Word k ∷ ss) f = Some k
first_then (Part x ∷ ss) f = or_next (lead x) (first_then ss f)
first_then (Make a ∷ ss) f = first_then ss f
first_then (Leave ∷ ss) f = first_then ss f

abbrev pub among : Option Kind → List (Option Kind) → Bool
among f fs = list_any (same_next f) fs

-- each part is followed by what it may be followed by
abbrev pub fine : List Symbol → Option Kind → Bool
fine [] f = true
fine (Word k ∷ ss) f = fine ss f
fine (Part x ∷ ss) f = among (first_then ss f) (follow x) && fine ss f
fine (Make a ∷ ss) f = fine ss f
fine (Leave ∷ ss) f = fine ss f

abbrev pub weigh : List Symbol → ℕ
weigh [] = 0
weigh (Word k ∷ ss) = 1 + weigh ss
weigh (Part x ∷ ss) = weight x + weigh ss
weigh (Make a ∷ ss) = 1 + weigh ss
weigh (Leave ∷ ss) = 1 + weigh ss

-- the next thing that happens is that a token is taken, or that none is
abbrev pub commits : List Symbol → Bool
commits (Word k ∷ ss) = true
commits (Part x ∷ ss) = blocks x
commits _ = false

abbrev pub lighter : Rule → List Symbol → Bool
lighter x b = if blocks x then commits b && ltb (weigh b) (weight x) else if commits b then ltb (weigh b) (40 + weight x) else ltb (weigh b) (weight x)

abbrev pub passes_well : Rule → Option Kind → List Symbol → Bool
passes_well x f b = fine b f && lighter x b

abbrev pub takes_well : Rule → Option Kind → Kind → List Symbol → Bool
takes_well x f k b = fine b f && ltb (weigh b) (40 + weight x)

abbrev pub alternative_well : Rule → Option Kind → Alternative → Bool
alternative_well x f (begins k b) = takes_well x f k b
alternative_well x f (before ks b) = passes_well x f b
alternative_well x f (otherwise b) = passes_well x f b

-- the shortest reading is one
abbrev pub ends_well : Rule → Option Kind → Option Kind → Way → Bool
ends_well x f (Some k) (takes b) = ltb (weigh b) (weight x)
ends_well x f None (takes b) = false
ends_well x f n (passes b) = ltb (weigh b) (weight x) && same_next (first_then b f) n
ends_well x f n refuses = false

abbrev pub ends_here : Rule → Option Kind → Option Kind → Bool
ends_here x f n = ends_well x f n (way n (alternatives x))

abbrev pub follows_well : Rule → Option Kind → Bool
follows_well x f = list_all (alternative_well x f) (alternatives x) && ends_here x f (or_next (lead x) f)

pub checked : (x : Rule) → list_all (follows_well x) (follow x) ≡ true
checked (InProgram Program) = refl
checked (InProgram _) = refl
checked (InType WholeType) = refl
checked (InType _) = refl
checked (InBinding RecBind) = refl
checked (InBinding _) = refl
checked (InExpression Seq) = refl
checked (InExpression _) = refl
checked (InPattern Pattern) = refl
checked (InPattern _) = refl
checked (InEntry Quals) = refl
checked (InEntry _) = refl
checked (InPred Predicate) = refl
checked (InPred _) = refl
