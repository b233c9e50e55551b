-- What actions make of patterns and parameters.
use Rattle.std.specs.Prelude.{List, [], ◌∷◌, ◌++◌, Option, Some, None}
pub use Rattle.lq_base_names.specs.NameTable.{nil_name, cons_name}
use Rattle.lq_base_names.specs.declared.place.Place.{Place}
use Rattle.lq_text_tree.specs.Pattern.{Pattern, pattern, PatternForm, any, bind, nothing, tuple_of, build_of}
use Rattle.lq_text_tree.specs.PatternView.{patterns_of}
use Rattle.lq_text_grammar.specs.declared.symbol.PatternAction.{PatternAction}
use Rattle.lq_text_grammar.specs.declared.symbol.PatternAction.TheVariants.{Bind, Any, UnitPattern, NilPattern, ConsPattern, NoPatterns, TwoPatterns, AppendPattern, TuplePattern, TupleHere, BuildPattern, PatternInside}
use Rattle.lq_text_actions.specs.Value.{Lexeme, by_name, Value, mark, named, pattern_read, patterns}

abbrev pub place_of_pattern : Pattern → Place
place_of_pattern (pattern p f) = p

abbrev pub with_pattern : Place → PatternForm → List Value → Option (List Value)
with_pattern place form vs = Some (pattern_read (pattern place form) ∷ vs)

abbrev pub unit_pattern : List Value → Option (List Value)
unit_pattern (mark p ∷ vs) = with_pattern p nothing vs
unit_pattern vs = None

abbrev pub nil_pattern : List Value → Option (List Value)
nil_pattern (mark p ∷ vs) = with_pattern p (build_of nil_name p (patterns_of [])) vs
nil_pattern vs = None

-- `x :: y`, with the place of the `::` between
abbrev pub cons_pattern : List Value → Option (List Value)
cons_pattern (pattern_read b ∷ mark p ∷ pattern_read a ∷ vs) = with_pattern (place_of_pattern a) (build_of cons_name p (patterns_of (a ∷ b ∷ []))) vs
cons_pattern vs = None

-- a row of two
abbrev pub two_patterns : List Value → Option (List Value)
two_patterns (pattern_read b ∷ pattern_read a ∷ vs) = Some (patterns (a ∷ b ∷ []) (place_of_pattern a) ∷ vs)
two_patterns vs = None

abbrev pub append_pattern : List Value → Option (List Value)
append_pattern (pattern_read b ∷ patterns ps p ∷ vs) = Some (patterns (ps ++ b ∷ []) p ∷ vs)
append_pattern vs = None

-- a tuple, whose parentheses don't belong to it
abbrev pub tuple_pattern : List Value → Option (List Value)
tuple_pattern (patterns ps p ∷ vs) = with_pattern p (tuple_of (patterns_of ps)) vs
tuple_pattern vs = None

-- a tuple as a parameter: its parentheses belong to it
abbrev pub tuple_here : List Value → Option (List Value)
tuple_here (patterns ps q ∷ mark p ∷ vs) = with_pattern p (tuple_of (patterns_of ps)) vs
tuple_here vs = None

abbrev pub build_pattern : List Value → Option (List Value)
build_pattern (patterns ps q ∷ named c p ∷ vs) = with_pattern p (build_of c p (patterns_of ps)) vs
build_pattern vs = None

-- parentheses
abbrev pub pattern_inside : List Value → Option (List Value)
pattern_inside (pattern_read a ∷ mark p ∷ vs) = Some (pattern_read a ∷ vs)
pattern_inside vs = None

abbrev pub pattern_made : PatternAction → Lexeme → List Value → Option (List Value)
pattern_made Bind l vs = by_name l.content (λ x. with_pattern l.place (bind x) vs)
pattern_made Any l vs = with_pattern l.place any vs
pattern_made UnitPattern l vs = unit_pattern vs
pattern_made NilPattern l vs = nil_pattern vs
pattern_made ConsPattern l vs = cons_pattern vs
pattern_made NoPatterns l vs = Some (patterns [] l.place ∷ vs)
pattern_made TwoPatterns l vs = two_patterns vs
pattern_made AppendPattern l vs = append_pattern vs
pattern_made TuplePattern l vs = tuple_pattern vs
pattern_made TupleHere l vs = tuple_here vs
pattern_made BuildPattern l vs = build_pattern vs
pattern_made PatternInside l vs = pattern_inside vs
