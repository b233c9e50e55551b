-- What actions make of types as they are written.
use Rattle.std.specs.Prelude.{ℕ, List, [], ◌∷◌, ◌++◌, Option, Some, None}
use Rattle.lq_base_names.specs.declared.place.Place.{Place}
use Rattle.lq_text_tree.specs.TypeTree.{type_tree, TypeForm, variable, apply, product, arrow}
use Rattle.lq_text_tree.specs.TypeView.{type_trees_of}
use Rattle.lq_text_grammar.specs.declared.symbol.TypingAction.{TypingAction}
use Rattle.lq_text_grammar.specs.declared.symbol.TypingAction.TheVariants.{NoTypes, TwoTypes, AppendType, VariableType, NamedType, ApplyType, ApplyTypes, ProductType, ArrowType, TypeInside}
use Rattle.lq_text_actions.specs.Value.{Lexeme, by_name, Value, mark, type_read, types}

abbrev pub with_type : Place → TypeForm → List Value → Option (List Value)
with_type place form vs = Some (type_read (type_tree place form) place ∷ vs)

-- a row of two
abbrev pub two_types : List Value → Option (List Value)
two_types (type_read b q ∷ type_read a p ∷ vs) = Some (types (a ∷ b ∷ []) p ∷ vs)
two_types vs = None

abbrev pub append_type : List Value → Option (List Value)
append_type (type_read b q ∷ types ts p ∷ vs) = Some (types (ts ++ b ∷ []) p ∷ vs)
append_type vs = None

-- a type name behind one argument
abbrev pub apply_type : ℕ → Place → List Value → Option (List Value)
apply_type x place (type_read a p ∷ vs) = with_type p (apply (type_trees_of (a ∷ [])) x place) vs
apply_type x place vs = None

-- a type name behind a row of arguments in parentheses
abbrev pub apply_types : ℕ → Place → List Value → Option (List Value)
apply_types x place (types ts q ∷ mark p ∷ vs) = with_type p (apply (type_trees_of ts) x place) vs
apply_types x place vs = None

abbrev pub product_type : List Value → Option (List Value)
product_type (types ts p ∷ vs) = with_type p (product (type_trees_of ts)) vs
product_type vs = None

abbrev pub arrow_type : List Value → Option (List Value)
arrow_type (type_read b q ∷ type_read a p ∷ vs) = with_type p (arrow a b) vs
arrow_type vs = None

-- parentheses
abbrev pub type_inside : List Value → Option (List Value)
type_inside (type_read a q ∷ mark p ∷ vs) = Some (type_read a p ∷ vs)
type_inside vs = None

abbrev pub typing_made : TypingAction → Lexeme → List Value → Option (List Value)
typing_made NoTypes l vs = Some (types [] l.place ∷ vs)
typing_made TwoTypes l vs = two_types vs
typing_made AppendType l vs = append_type vs
typing_made VariableType l vs = by_name l.content (λ x. with_type l.place (variable x) vs)
typing_made NamedType l vs = by_name l.content (λ x. with_type l.place (apply (type_trees_of []) x l.place) vs)
typing_made ApplyType l vs = by_name l.content (λ x. apply_type x l.place vs)
typing_made ApplyTypes l vs = by_name l.content (λ x. apply_types x l.place vs)
typing_made ProductType l vs = product_type vs
typing_made ArrowType l vs = arrow_type vs
typing_made TypeInside l vs = type_inside vs
