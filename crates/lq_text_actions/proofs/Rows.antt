-- The actions that make no node of an expression find what they need.
use Rattle.std.specs.Prelude.{max}
use Rattle.std.proofs.Common.{◌≡◌, ℕ, ◌≤◌, refl, Some, [], ◌∷◌, arith}
use Rattle.std.proofs.Math.Nat.{max-le, le_trans}
use Rattle.lq_base_names.specs.declared.place.Place.{Place}
use Rattle.lq_text_tree.specs.Items.{Named, type_of, let_of, let_rec_of}
use Rattle.lq_text_tree.specs.Levels.{type_nesting}
use Rattle.lq_text_tree.specs.Pattern.{pattern, bind, any}
use Rattle.lq_text_tree.specs.TypeTree.{type_tree, variable, apply}
use Rattle.lq_text_tree.specs.TypeView.{type_trees_of}
use Rattle.lq_text_grammar.specs.declared.symbol.ItemAction.{ItemAction}
use Rattle.lq_text_grammar.specs.declared.symbol.ItemAction.TheVariants.{NoItems, AddLet, AddRec, AddType, NoParameters, FirstParameter, AddParameter, NoConstructors, AddConstructor}
use Rattle.lq_text_grammar.specs.declared.symbol.TypingAction.{TypingAction}
use Rattle.lq_text_grammar.specs.declared.symbol.TypingAction.TheVariants.{NoTypes, TwoTypes, AppendType, VariableType, NamedType, ApplyType, ApplyTypes, ProductType, ArrowType, TypeInside}
use Rattle.lq_text_grammar.specs.declared.symbol.PatternAction.{PatternAction}
use Rattle.lq_text_grammar.specs.declared.symbol.PatternAction.TheVariants.{Bind, Any, UnitPattern, NilPattern, ConsPattern, NoPatterns, TwoPatterns, AppendPattern, TuplePattern, TupleHere, BuildPattern, PatternInside}
use Rattle.lq_text_grammar.specs.declared.symbol.Action.TheVariants.{Item, Typing, Pattern}
use Rattle.lq_text_actions.specs.Value.{Lexeme, by_name, Value, mark, named, expression, recursive, pattern_read, patterns, type_read, types, parameters, constructors, items}
use Rattle.lq_text_actions.specs.Items.{add_let, add_rec, add_type, parameter_at, add_parameter, add_constructor, item_made}
use Rattle.lq_text_actions.specs.Types.{with_type, two_types, append_type, apply_type, apply_types, product_type, arrow_type, type_inside, typing_made}
use Rattle.lq_text_actions.specs.Patterns.{with_pattern, unit_pattern, nil_pattern, cons_pattern, two_patterns, append_pattern, tuple_pattern, tuple_here, build_pattern, pattern_inside, pattern_made}
use Rattle.lq_text_actions.proofs.Sorts.{a_mark, a_name, a_tree, a_function, a_pattern, some_patterns, a_type, some_types, some_parameters, some_constructors, some_items, sort_of}
use Rattle.lq_text_actions.proofs.Signatures.{action_signature, keeps, sinks}
use Rattle.lq_text_actions.proofs.Contents.{FitsAfter, on_name}
use Rattle.lq_text_actions.proofs.Nesting.{value_nesting, Gives, types-append, constructors-append, items-append, type-row}

pub leaf_gives : (v : Value) → value_nesting v ≡ 0 → Gives [] (sort_of v) (λ vs. Some (v ∷ vs))
leaf_gives v flat bound vs h = (v, refl, refl, omega arith)

max_none : (a bound : ℕ) → a ≤ bound → max a 0 ≤ bound
max_none a bound h = omega arith

-- items
let_gives : Gives (keeps a_tree ∷ keeps a_pattern ∷ keeps a_mark ∷ keeps some_items ∷ []) some_items add_let
let_gives bound (expression e q c ∷ pattern_read p ∷ mark m ∷ items is ∷ vs) h =
    (_, refl, refl, items-append is (record { place = m; form = let_of p e }) bound h.2.2.2.1 h.1)
let_gives bound vs h = absurd cc

rec_gives : Gives (keeps a_function ∷ keeps a_mark ∷ keeps some_items ∷ []) some_items add_rec
rec_gives bound (recursive f r ∷ mark m ∷ items is ∷ vs) h =
    (_, refl, refl, items-append is (record { place = m; form = let_rec_of f r }) bound h.2.2.1 h.1)
rec_gives bound vs h = absurd cc

type_gives : Gives (keeps some_constructors ∷ keeps a_name ∷ keeps some_parameters ∷ keeps a_mark ∷ keeps some_items ∷ []) some_items add_type
type_gives bound (constructors cs ∷ named x p ∷ parameters ps ∷ mark m ∷ items is ∷ vs) h =
    (_, refl, refl, items-append is (record { place = m; form = type_of (record { name = x; place = p; parameters = ps; constructors = cs }) }) bound h.2.2.2.2.1 h.1)
type_gives bound vs h = absurd cc

parameter_gives : (p : Named) → Gives (keeps some_parameters ∷ []) some_parameters (add_parameter p)
parameter_gives p bound (parameters ps ∷ vs) h = (_, refl, refl, h.1)
parameter_gives p bound vs h = absurd cc

constructor_gives : Gives (keeps some_types ∷ keeps a_name ∷ keeps some_constructors ∷ []) some_constructors add_constructor
constructor_gives bound (types ts q ∷ named c p ∷ constructors cs ∷ vs) h =
    (_, refl, refl, constructors-append cs (record { name = c; place = p; fields = type_trees_of ts }) bound h.2.2.1 h.1)
constructor_gives bound vs h = absurd cc

pub item_gives : (a : ItemAction) (l : Lexeme) → FitsAfter (action_signature (Item a)).after l → Gives (action_signature (Item a)).needs (action_signature (Item a)).gives (item_made a l)
item_gives NoItems l f = leaf_gives (items []) refl
item_gives AddLet l f = let_gives
item_gives AddRec l f = rec_gives
item_gives AddType l f = type_gives
item_gives NoParameters l f = leaf_gives (parameters []) refl
item_gives FirstParameter l f = on_name (λ c. Gives [] some_parameters (λ vs. by_name c (λ x. Some (parameters (parameter_at l.place x ∷ []) ∷ vs)))) l.content f (λ x. leaf_gives (parameters (parameter_at l.place x ∷ [])) refl)
item_gives AddParameter l f = on_name (λ c. Gives (keeps some_parameters ∷ []) some_parameters (λ vs. by_name c (λ x. add_parameter (parameter_at l.place x) vs))) l.content f (λ x. parameter_gives (parameter_at l.place x))
item_gives NoConstructors l f = leaf_gives (constructors []) refl
item_gives AddConstructor l f = constructor_gives

-- types
two_types_give : Gives (keeps a_type ∷ keeps a_type ∷ []) some_types two_types
two_types_give bound (type_read b q ∷ type_read a p ∷ vs) h = (_, refl, refl, types-append (a ∷ []) b bound (types-append [] a bound (omega arith) h.2.1) h.1)
two_types_give bound vs h = absurd cc

append_type_gives : Gives (keeps a_type ∷ keeps some_types ∷ []) some_types append_type
append_type_gives bound (type_read b q ∷ types ts p ∷ vs) h = (_, refl, refl, types-append ts b bound h.2.1 h.1)
append_type_gives bound vs h = absurd cc

apply_type_gives : (x : ℕ) (place : Place) → Gives (keeps a_type ∷ []) a_type (apply_type x place)
apply_type_gives x place bound (type_read a p ∷ vs) h = (_, refl, refl, max_none (type_nesting a) bound h.1)
apply_type_gives x place bound vs h = absurd cc

apply_types_gives : (x : ℕ) (place : Place) → Gives (sinks some_types ∷ keeps a_mark ∷ []) a_type (apply_types x place)
apply_types_gives x place bound (types ts q ∷ mark p ∷ vs) h = (_, refl, refl, le_trans (type-row (type_trees_of ts)) h.1)
apply_types_gives x place bound vs h = absurd cc

product_gives : Gives (keeps some_types ∷ []) a_type product_type
product_gives bound (types ts p ∷ vs) h = (_, refl, refl, h.1)
product_gives bound vs h = absurd cc

arrow_gives : Gives (sinks a_type ∷ keeps a_type ∷ []) a_type arrow_type
arrow_gives bound (type_read b q ∷ type_read a p ∷ vs) h = (_, refl, refl, max-le h.2.1 h.1)
arrow_gives bound vs h = absurd cc

type_inside_gives : Gives (keeps a_type ∷ keeps a_mark ∷ []) a_type type_inside
type_inside_gives bound (type_read a q ∷ mark p ∷ vs) h = (_, refl, refl, h.1)
type_inside_gives bound vs h = absurd cc

pub typing_gives : (a : TypingAction) (l : Lexeme) → FitsAfter (action_signature (Typing a)).after l → Gives (action_signature (Typing a)).needs (action_signature (Typing a)).gives (typing_made a l)
typing_gives NoTypes l f = leaf_gives (types [] l.place) refl
typing_gives TwoTypes l f = two_types_give
typing_gives AppendType l f = append_type_gives
typing_gives VariableType l f = on_name (λ c. Gives [] a_type (λ vs. by_name c (λ x. with_type l.place (variable x) vs))) l.content f (λ x. leaf_gives (type_read (type_tree l.place (variable x)) l.place) refl)
typing_gives NamedType l f = on_name (λ c. Gives [] a_type (λ vs. by_name c (λ x. with_type l.place (apply (type_trees_of []) x l.place) vs))) l.content f (λ x. leaf_gives (type_read (type_tree l.place (apply (type_trees_of []) x l.place)) l.place) refl)
typing_gives ApplyType l f = on_name (λ c. Gives (keeps a_type ∷ []) a_type (λ vs. by_name c (λ x. apply_type x l.place vs))) l.content f (λ x. apply_type_gives x l.place)
typing_gives ApplyTypes l f = on_name (λ c. Gives (sinks some_types ∷ keeps a_mark ∷ []) a_type (λ vs. by_name c (λ x. apply_types x l.place vs))) l.content f (λ x. apply_types_gives x l.place)
typing_gives ProductType l f = product_gives
typing_gives ArrowType l f = arrow_gives
typing_gives TypeInside l f = type_inside_gives

-- patterns, which have no trees in them
unit_gives : Gives (keeps a_mark ∷ []) a_pattern unit_pattern
unit_gives bound (mark p ∷ vs) h = (_, refl, refl, omega arith)
unit_gives bound vs h = absurd cc

nil_gives : Gives (keeps a_mark ∷ []) a_pattern nil_pattern
nil_gives bound (mark p ∷ vs) h = (_, refl, refl, omega arith)
nil_gives bound vs h = absurd cc

cons_gives : Gives (keeps a_pattern ∷ keeps a_mark ∷ keeps a_pattern ∷ []) a_pattern cons_pattern
cons_gives bound (pattern_read b ∷ mark p ∷ pattern_read a ∷ vs) h = (_, refl, refl, omega arith)
cons_gives bound vs h = absurd cc

two_patterns_give : Gives (keeps a_pattern ∷ keeps a_pattern ∷ []) some_patterns two_patterns
two_patterns_give bound (pattern_read b ∷ pattern_read a ∷ vs) h = (_, refl, refl, omega arith)
two_patterns_give bound vs h = absurd cc

append_pattern_gives : Gives (keeps a_pattern ∷ keeps some_patterns ∷ []) some_patterns append_pattern
append_pattern_gives bound (pattern_read b ∷ patterns ps p ∷ vs) h = (_, refl, refl, omega arith)
append_pattern_gives bound vs h = absurd cc

tuple_gives : Gives (keeps some_patterns ∷ []) a_pattern tuple_pattern
tuple_gives bound (patterns ps p ∷ vs) h = (_, refl, refl, omega arith)
tuple_gives bound vs h = absurd cc

tuple_here_gives : Gives (keeps some_patterns ∷ keeps a_mark ∷ []) a_pattern tuple_here
tuple_here_gives bound (patterns ps q ∷ mark p ∷ vs) h = (_, refl, refl, omega arith)
tuple_here_gives bound vs h = absurd cc

build_gives : Gives (keeps some_patterns ∷ keeps a_name ∷ []) a_pattern build_pattern
build_gives bound (patterns ps q ∷ named c p ∷ vs) h = (_, refl, refl, omega arith)
build_gives bound vs h = absurd cc

pattern_inside_gives : Gives (keeps a_pattern ∷ keeps a_mark ∷ []) a_pattern pattern_inside
pattern_inside_gives bound (pattern_read a ∷ mark p ∷ vs) h = (_, refl, refl, omega arith)
pattern_inside_gives bound vs h = absurd cc

pub pattern_gives : (a : PatternAction) (l : Lexeme) → FitsAfter (action_signature (Pattern a)).after l → Gives (action_signature (Pattern a)).needs (action_signature (Pattern a)).gives (pattern_made a l)
pattern_gives Bind l f = on_name (λ c. Gives [] a_pattern (λ vs. by_name c (λ x. with_pattern l.place (bind x) vs))) l.content f (λ x. leaf_gives (pattern_read (pattern l.place (bind x))) refl)
pattern_gives Any l f = leaf_gives (pattern_read (pattern l.place any)) refl
pattern_gives UnitPattern l f = unit_gives
pattern_gives NilPattern l f = nil_gives
pattern_gives ConsPattern l f = cons_gives
pattern_gives NoPatterns l f = leaf_gives (patterns [] l.place) refl
pattern_gives TwoPatterns l f = two_patterns_give
pattern_gives AppendPattern l f = append_pattern_gives
pattern_gives TuplePattern l f = tuple_gives
pattern_gives TupleHere l f = tuple_here_gives
pattern_gives BuildPattern l f = build_gives
pattern_gives PatternInside l f = pattern_inside_gives
