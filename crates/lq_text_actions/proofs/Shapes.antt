-- What stands on top where an action makes something.
use Rattle.std.specs.Prelude.{IsSome, nat_lt}
use Rattle.std.proofs.Common.{◌≡◌, ◌<◌, ◌≤◌, ℕ, List, ◌∷◌, Bool, true, false, cond, Option, Some, None, refl, arith}
use Rattle.std.proofs.lemmas.Bool.Decides.{nat_tests}
use Rattle.lq_base_names.specs.declared.limits.TheConstants.{LITERAL_LIMIT}
use Rattle.lq_base_names.specs.declared.place.Place.{Place}
use Rattle.lq_text_tree.specs.Items.{Named, Construct, ItemTree}
use Rattle.lq_text_tree.specs.MeasureTrees.{EquationTree, MeasureTree}
use Rattle.lq_text_tree.specs.Pattern.{Pattern}
use Rattle.lq_text_tree.specs.PredTree.{PredTree, PredForm}
use Rattle.lq_text_tree.specs.Qualifiers.{QualifierTree}
use Rattle.lq_text_tree.specs.Tree.{Tree, Form}
use Rattle.lq_text_tree.specs.TreeView.{Case, Recursive}
use Rattle.lq_text_tree.specs.TypeTree.{TypeTree}
use Rattle.lq_text_actions.specs.Value.{Content, some_name, some_number, neither, by_name, by_number, Commas, Value, mark, named, expression, expressions, element, arms, recursive, pattern_read, patterns, type_read, types, parameters, constructors, items, predicate, qualifiers, equations, measures, with_values}
use Rattle.lq_text_actions.specs.Types.{two_types, append_type, apply_type, apply_types, product_type, arrow_type, type_inside}
use Rattle.lq_text_actions.specs.Patterns.{unit_pattern, nil_pattern, cons_pattern, two_patterns, append_pattern, tuple_pattern, tuple_here, build_pattern, pattern_inside}
use Rattle.lq_text_actions.specs.Predicates.{pred_of_name, pred_apply, pred_qualified, pred_of_one, pred_of_two, pred_inside, pred_literal, pred_negative}
use Rattle.lq_text_actions.specs.Items.{add_let, add_rec, add_type, add_parameter, add_constructor, add_qualifier, append_equation, add_measure}
use Rattle.lq_text_actions.specs.Expressions.{of_name, at_mark, of_one, of_two, of_row, build_one, enclose, element_of, fetch_of, store_of, function_of, function_here, recursive_of, recursive_here, let_of_all, let_rec_of_all, append_arm, match_of, if_of, if_only, two_trees, append_tree, literal, negative_literal}

pub two_types_shape : (vs : List Value) → IsSome (two_types vs) → (x1 : TypeTree) × (x2 : Place) × (x3 : TypeTree) × (x4 : Place) × (r : List Value) × (vs ≡ type_read x1 x2 ∷ type_read x3 x4 ∷ r)
two_types_shape (type_read x1 x2 ∷ type_read x3 x4 ∷ r) h = (x1, x2, x3, x4, r, refl)
two_types_shape _ h = absurd cc

pub append_type_shape : (vs : List Value) → IsSome (append_type vs) → (x1 : TypeTree) × (x2 : Place) × (x3 : List TypeTree) × (x4 : Place) × (r : List Value) × (vs ≡ type_read x1 x2 ∷ types x3 x4 ∷ r)
append_type_shape (type_read x1 x2 ∷ types x3 x4 ∷ r) h = (x1, x2, x3, x4, r, refl)
append_type_shape _ h = absurd cc

pub apply_type_shape : (x : ℕ) (place : Place) (vs : List Value) → IsSome (apply_type x place vs) → (x1 : TypeTree) × (x2 : Place) × (r : List Value) × (vs ≡ type_read x1 x2 ∷ r)
apply_type_shape x place (type_read x1 x2 ∷ r) h = (x1, x2, r, refl)
apply_type_shape x place _ h = absurd cc

pub apply_types_shape : (x : ℕ) (place : Place) (vs : List Value) → IsSome (apply_types x place vs) → (x1 : List TypeTree) × (x2 : Place) × (x3 : Place) × (r : List Value) × (vs ≡ types x1 x2 ∷ mark x3 ∷ r)
apply_types_shape x place (types x1 x2 ∷ mark x3 ∷ r) h = (x1, x2, x3, r, refl)
apply_types_shape x place _ h = absurd cc

pub product_type_shape : (vs : List Value) → IsSome (product_type vs) → (x1 : List TypeTree) × (x2 : Place) × (r : List Value) × (vs ≡ types x1 x2 ∷ r)
product_type_shape (types x1 x2 ∷ r) h = (x1, x2, r, refl)
product_type_shape _ h = absurd cc

pub arrow_type_shape : (vs : List Value) → IsSome (arrow_type vs) → (x1 : TypeTree) × (x2 : Place) × (x3 : TypeTree) × (x4 : Place) × (r : List Value) × (vs ≡ type_read x1 x2 ∷ type_read x3 x4 ∷ r)
arrow_type_shape (type_read x1 x2 ∷ type_read x3 x4 ∷ r) h = (x1, x2, x3, x4, r, refl)
arrow_type_shape _ h = absurd cc

pub type_inside_shape : (vs : List Value) → IsSome (type_inside vs) → (x1 : TypeTree) × (x2 : Place) × (x3 : Place) × (r : List Value) × (vs ≡ type_read x1 x2 ∷ mark x3 ∷ r)
type_inside_shape (type_read x1 x2 ∷ mark x3 ∷ r) h = (x1, x2, x3, r, refl)
type_inside_shape _ h = absurd cc

pub unit_pattern_shape : (vs : List Value) → IsSome (unit_pattern vs) → (x1 : Place) × (r : List Value) × (vs ≡ mark x1 ∷ r)
unit_pattern_shape (mark x1 ∷ r) h = (x1, r, refl)
unit_pattern_shape _ h = absurd cc

pub nil_pattern_shape : (vs : List Value) → IsSome (nil_pattern vs) → (x1 : Place) × (r : List Value) × (vs ≡ mark x1 ∷ r)
nil_pattern_shape (mark x1 ∷ r) h = (x1, r, refl)
nil_pattern_shape _ h = absurd cc

pub cons_pattern_shape : (vs : List Value) → IsSome (cons_pattern vs) → (x1 : Pattern) × (x2 : Place) × (x3 : Pattern) × (r : List Value) × (vs ≡ pattern_read x1 ∷ mark x2 ∷ pattern_read x3 ∷ r)
cons_pattern_shape (pattern_read x1 ∷ mark x2 ∷ pattern_read x3 ∷ r) h = (x1, x2, x3, r, refl)
cons_pattern_shape _ h = absurd cc

pub two_patterns_shape : (vs : List Value) → IsSome (two_patterns vs) → (x1 : Pattern) × (x2 : Pattern) × (r : List Value) × (vs ≡ pattern_read x1 ∷ pattern_read x2 ∷ r)
two_patterns_shape (pattern_read x1 ∷ pattern_read x2 ∷ r) h = (x1, x2, r, refl)
two_patterns_shape _ h = absurd cc

pub append_pattern_shape : (vs : List Value) → IsSome (append_pattern vs) → (x1 : Pattern) × (x2 : List Pattern) × (x3 : Place) × (r : List Value) × (vs ≡ pattern_read x1 ∷ patterns x2 x3 ∷ r)
append_pattern_shape (pattern_read x1 ∷ patterns x2 x3 ∷ r) h = (x1, x2, x3, r, refl)
append_pattern_shape _ h = absurd cc

pub tuple_pattern_shape : (vs : List Value) → IsSome (tuple_pattern vs) → (x1 : List Pattern) × (x2 : Place) × (r : List Value) × (vs ≡ patterns x1 x2 ∷ r)
tuple_pattern_shape (patterns x1 x2 ∷ r) h = (x1, x2, r, refl)
tuple_pattern_shape _ h = absurd cc

pub tuple_here_shape : (vs : List Value) → IsSome (tuple_here vs) → (x1 : List Pattern) × (x2 : Place) × (x3 : Place) × (r : List Value) × (vs ≡ patterns x1 x2 ∷ mark x3 ∷ r)
tuple_here_shape (patterns x1 x2 ∷ mark x3 ∷ r) h = (x1, x2, x3, r, refl)
tuple_here_shape _ h = absurd cc

pub build_pattern_shape : (vs : List Value) → IsSome (build_pattern vs) → (x1 : List Pattern) × (x2 : Place) × (x3 : ℕ) × (x4 : Place) × (r : List Value) × (vs ≡ patterns x1 x2 ∷ named x3 x4 ∷ r)
build_pattern_shape (patterns x1 x2 ∷ named x3 x4 ∷ r) h = (x1, x2, x3, x4, r, refl)
build_pattern_shape _ h = absurd cc

pub pattern_inside_shape : (vs : List Value) → IsSome (pattern_inside vs) → (x1 : Pattern) × (x2 : Place) × (r : List Value) × (vs ≡ pattern_read x1 ∷ mark x2 ∷ r)
pattern_inside_shape (pattern_read x1 ∷ mark x2 ∷ r) h = (x1, x2, r, refl)
pattern_inside_shape _ h = absurd cc

pub pred_of_name_shape : (form : ℕ → PredForm) (vs : List Value) → IsSome (pred_of_name form vs) → (x1 : ℕ) × (x2 : Place) × (r : List Value) × (vs ≡ named x1 x2 ∷ r)
pred_of_name_shape form (named x1 x2 ∷ r) h = (x1, x2, r, refl)
pred_of_name_shape form _ h = absurd cc

pub pred_apply_shape : (vs : List Value) → IsSome (pred_apply vs) → (x1 : PredTree) × (x2 : Place) × (x3 : ℕ) × (x4 : Place) × (r : List Value) × (vs ≡ predicate x1 x2 ∷ named x3 x4 ∷ r)
pred_apply_shape (predicate x1 x2 ∷ named x3 x4 ∷ r) h = (x1, x2, x3, x4, r, refl)
pred_apply_shape _ h = absurd cc

pub pred_qualified_shape : (vs : List Value) → IsSome (pred_qualified vs) → (x1 : PredTree) × (x2 : Place) × (x3 : ℕ) × (x4 : Place) × (x5 : ℕ) × (x6 : Place) × (r : List Value) × (vs ≡ predicate x1 x2 ∷ named x3 x4 ∷ named x5 x6 ∷ r)
pred_qualified_shape (predicate x1 x2 ∷ named x3 x4 ∷ named x5 x6 ∷ r) h = (x1, x2, x3, x4, x5, x6, r, refl)
pred_qualified_shape _ h = absurd cc

pub pred_of_one_shape : (form : PredTree → PredForm) (vs : List Value) → IsSome (pred_of_one form vs) → (x1 : PredTree) × (x2 : Place) × (x3 : Place) × (r : List Value) × (vs ≡ predicate x1 x2 ∷ mark x3 ∷ r)
pred_of_one_shape form (predicate x1 x2 ∷ mark x3 ∷ r) h = (x1, x2, x3, r, refl)
pred_of_one_shape form _ h = absurd cc

pub pred_of_two_shape : (form : PredTree → PredTree → PredForm) (vs : List Value) → IsSome (pred_of_two form vs) → (x1 : PredTree) × (x2 : Place) × (x3 : PredTree) × (x4 : Place) × (r : List Value) × (vs ≡ predicate x1 x2 ∷ predicate x3 x4 ∷ r)
pred_of_two_shape form (predicate x1 x2 ∷ predicate x3 x4 ∷ r) h = (x1, x2, x3, x4, r, refl)
pred_of_two_shape form _ h = absurd cc

pub pred_inside_shape : (vs : List Value) → IsSome (pred_inside vs) → (x1 : PredTree) × (x2 : Place) × (x3 : Place) × (r : List Value) × (vs ≡ predicate x1 x2 ∷ mark x3 ∷ r)
pred_inside_shape (predicate x1 x2 ∷ mark x3 ∷ r) h = (x1, x2, x3, r, refl)
pred_inside_shape _ h = absurd cc

pub add_let_shape : (vs : List Value) → IsSome (add_let vs) → (x1 : Tree) × (x2 : Place) × (x3 : Commas) × (x4 : Pattern) × (x5 : Place) × (x6 : List ItemTree) × (r : List Value) × (vs ≡ expression x1 x2 x3 ∷ pattern_read x4 ∷ mark x5 ∷ items x6 ∷ r)
add_let_shape (expression x1 x2 x3 ∷ pattern_read x4 ∷ mark x5 ∷ items x6 ∷ r) h = (x1, x2, x3, x4, x5, x6, r, refl)
add_let_shape _ h = absurd cc

pub add_rec_shape : (vs : List Value) → IsSome (add_rec vs) → (x1 : ℕ) × (x2 : Recursive) × (x3 : Place) × (x4 : List ItemTree) × (r : List Value) × (vs ≡ recursive x1 x2 ∷ mark x3 ∷ items x4 ∷ r)
add_rec_shape (recursive x1 x2 ∷ mark x3 ∷ items x4 ∷ r) h = (x1, x2, x3, x4, r, refl)
add_rec_shape _ h = absurd cc

pub add_type_shape : (vs : List Value) → IsSome (add_type vs) → (x1 : List Construct) × (x2 : ℕ) × (x3 : Place) × (x4 : List Named) × (x5 : Place) × (x6 : List ItemTree) × (r : List Value) × (vs ≡ constructors x1 ∷ named x2 x3 ∷ parameters x4 ∷ mark x5 ∷ items x6 ∷ r)
add_type_shape (constructors x1 ∷ named x2 x3 ∷ parameters x4 ∷ mark x5 ∷ items x6 ∷ r) h = (x1, x2, x3, x4, x5, x6, r, refl)
add_type_shape _ h = absurd cc

pub add_parameter_shape : (p : Named) (vs : List Value) → IsSome (add_parameter p vs) → (x1 : List Named) × (r : List Value) × (vs ≡ parameters x1 ∷ r)
add_parameter_shape p (parameters x1 ∷ r) h = (x1, r, refl)
add_parameter_shape p _ h = absurd cc

pub add_constructor_shape : (vs : List Value) → IsSome (add_constructor vs) → (x1 : List TypeTree) × (x2 : Place) × (x3 : ℕ) × (x4 : Place) × (x5 : List Construct) × (r : List Value) × (vs ≡ types x1 x2 ∷ named x3 x4 ∷ constructors x5 ∷ r)
add_constructor_shape (types x1 x2 ∷ named x3 x4 ∷ constructors x5 ∷ r) h = (x1, x2, x3, x4, x5, r, refl)
add_constructor_shape _ h = absurd cc

pub add_qualifier_shape : (vs : List Value) → IsSome (add_qualifier vs) → (x1 : PredTree) × (x2 : Place) × (x3 : ℕ) × (x4 : Place) × (x5 : ℕ) × (x6 : Place) × (x7 : ℕ) × (x8 : Place) × (x9 : Place) × (x10 : List QualifierTree) × (r : List Value) × (vs ≡ predicate x1 x2 ∷ named x3 x4 ∷ named x5 x6 ∷ named x7 x8 ∷ mark x9 ∷ qualifiers x10 ∷ r)
add_qualifier_shape (predicate x1 x2 ∷ named x3 x4 ∷ named x5 x6 ∷ named x7 x8 ∷ mark x9 ∷ qualifiers x10 ∷ r) h = (x1, x2, x3, x4, x5, x6, x7, x8, x9, x10, r, refl)
add_qualifier_shape _ h = absurd cc

pub append_equation_shape : (vs : List Value) → IsSome (append_equation vs) → (x1 : PredTree) × (x2 : Place) × (x3 : Pattern) × (x4 : List EquationTree) × (r : List Value) × (vs ≡ predicate x1 x2 ∷ pattern_read x3 ∷ equations x4 ∷ r)
append_equation_shape (predicate x1 x2 ∷ pattern_read x3 ∷ equations x4 ∷ r) h = (x1, x2, x3, x4, r, refl)
append_equation_shape _ h = absurd cc

pub add_measure_shape : (vs : List Value) → IsSome (add_measure vs) → (x1 : List EquationTree) × (x2 : ℕ) × (x3 : Place) × (x4 : ℕ) × (x5 : Place) × (x6 : List MeasureTree) × (r : List Value) × (vs ≡ equations x1 ∷ named x2 x3 ∷ named x4 x5 ∷ measures x6 ∷ r)
add_measure_shape (equations x1 ∷ named x2 x3 ∷ named x4 x5 ∷ measures x6 ∷ r) h = (x1, x2, x3, x4, x5, x6, r, refl)
add_measure_shape _ h = absurd cc

pub of_name_shape : (form : ℕ → Form) (n : ℕ) (vs : List Value) → IsSome (of_name form n vs) → (x1 : ℕ) × (x2 : Place) × (r : List Value) × (vs ≡ named x1 x2 ∷ r)
of_name_shape form n (named x1 x2 ∷ r) h = (x1, x2, r, refl)
of_name_shape form n _ h = absurd cc

pub at_mark_shape : (form : Form) (n : ℕ) (vs : List Value) → IsSome (at_mark form n vs) → (x1 : Place) × (r : List Value) × (vs ≡ mark x1 ∷ r)
at_mark_shape form n (mark x1 ∷ r) h = (x1, r, refl)
at_mark_shape form n _ h = absurd cc

pub of_one_shape : (form : Tree → Form) (n : ℕ) (vs : List Value) → IsSome (of_one form n vs) → (x1 : Tree) × (x2 : Place) × (x3 : Commas) × (x4 : Place) × (r : List Value) × (vs ≡ expression x1 x2 x3 ∷ mark x4 ∷ r)
of_one_shape form n (expression x1 x2 x3 ∷ mark x4 ∷ r) h = (x1, x2, x3, x4, r, refl)
of_one_shape form n _ h = absurd cc

pub of_two_shape : (form : Tree → Tree → Form) (n : ℕ) (vs : List Value) → IsSome (of_two form n vs) → (x1 : Tree) × (x2 : Place) × (x3 : Commas) × (x4 : Tree) × (x5 : Place) × (x6 : Commas) × (r : List Value) × (vs ≡ expression x1 x2 x3 ∷ expression x4 x5 x6 ∷ r)
of_two_shape form n (expression x1 x2 x3 ∷ expression x4 x5 x6 ∷ r) h = (x1, x2, x3, x4, x5, x6, r, refl)
of_two_shape form n _ h = absurd cc

pub of_row_shape : (form : List Tree → Form) (c : Commas) (n : ℕ) (vs : List Value) → IsSome (of_row form c n vs) → (x1 : List Tree) × (x2 : Place) × (r : List Value) × (vs ≡ expressions x1 x2 ∷ r)
of_row_shape form c n (expressions x1 x2 ∷ r) h = (x1, x2, r, refl)
of_row_shape form c n _ h = absurd cc

pub build_one_shape : (n : ℕ) (vs : List Value) → IsSome (build_one n vs) → (x1 : Tree) × (x2 : Place) × (x3 : Commas) × (x4 : ℕ) × (x5 : Place) × (r : List Value) × (vs ≡ expression x1 x2 x3 ∷ named x4 x5 ∷ r)
build_one_shape n (expression x1 x2 x3 ∷ named x4 x5 ∷ r) h = (x1, x2, x3, x4, x5, r, refl)
build_one_shape n _ h = absurd cc

pub enclose_shape : (f : Commas → Commas) (vs : List Value) → IsSome (enclose f vs) → (x1 : Tree) × (x2 : Place) × (x3 : Commas) × (x4 : Place) × (r : List Value) × (vs ≡ expression x1 x2 x3 ∷ mark x4 ∷ r)
enclose_shape f (expression x1 x2 x3 ∷ mark x4 ∷ r) h = (x1, x2, x3, x4, r, refl)
enclose_shape f _ h = absurd cc

pub element_of_shape : (vs : List Value) → IsSome (element_of vs) → (x1 : Tree) × (x2 : Place) × (x3 : Commas) × (x4 : Tree) × (x5 : Place) × (x6 : Commas) × (r : List Value) × (vs ≡ expression x1 x2 x3 ∷ expression x4 x5 x6 ∷ r)
element_of_shape (expression x1 x2 x3 ∷ expression x4 x5 x6 ∷ r) h = (x1, x2, x3, x4, x5, x6, r, refl)
element_of_shape _ h = absurd cc

pub fetch_of_shape : (n : ℕ) (vs : List Value) → IsSome (fetch_of n vs) → (x1 : Tree) × (x2 : Tree) × (x3 : Place) × (r : List Value) × (vs ≡ element x1 x2 x3 ∷ r)
fetch_of_shape n (element x1 x2 x3 ∷ r) h = (x1, x2, x3, r, refl)
fetch_of_shape n _ h = absurd cc

pub store_of_shape : (n : ℕ) (vs : List Value) → IsSome (store_of n vs) → (x1 : Tree) × (x2 : Place) × (x3 : Commas) × (x4 : Tree) × (x5 : Tree) × (x6 : Place) × (r : List Value) × (vs ≡ expression x1 x2 x3 ∷ element x4 x5 x6 ∷ r)
store_of_shape n (expression x1 x2 x3 ∷ element x4 x5 x6 ∷ r) h = (x1, x2, x3, x4, x5, x6, r, refl)
store_of_shape n _ h = absurd cc

pub function_of_shape : (n : ℕ) (vs : List Value) → IsSome (function_of n vs) → (x1 : Tree) × (x2 : Place) × (x3 : Commas) × (x4 : Pattern) × (r : List Value) × (vs ≡ expression x1 x2 x3 ∷ pattern_read x4 ∷ r)
function_of_shape n (expression x1 x2 x3 ∷ pattern_read x4 ∷ r) h = (x1, x2, x3, x4, r, refl)
function_of_shape n _ h = absurd cc

pub function_here_shape : (n : ℕ) (vs : List Value) → IsSome (function_here n vs) → (x1 : Tree) × (x2 : Place) × (x3 : Commas) × (x4 : Pattern) × (x5 : Place) × (r : List Value) × (vs ≡ expression x1 x2 x3 ∷ pattern_read x4 ∷ mark x5 ∷ r)
function_here_shape n (expression x1 x2 x3 ∷ pattern_read x4 ∷ mark x5 ∷ r) h = (x1, x2, x3, x4, x5, r, refl)
function_here_shape n _ h = absurd cc

pub recursive_of_shape : (n : ℕ) (vs : List Value) → IsSome (recursive_of n vs) → (x1 : Tree) × (x2 : Place) × (x3 : Commas) × (x4 : Pattern) × (x5 : ℕ) × (x6 : Place) × (r : List Value) × (vs ≡ expression x1 x2 x3 ∷ pattern_read x4 ∷ named x5 x6 ∷ r)
recursive_of_shape n (expression x1 x2 x3 ∷ pattern_read x4 ∷ named x5 x6 ∷ r) h = (x1, x2, x3, x4, x5, x6, r, refl)
recursive_of_shape n _ h = absurd cc

pub recursive_here_shape : (n : ℕ) (vs : List Value) → IsSome (recursive_here n vs) → (x1 : Tree) × (x2 : Place) × (x3 : Commas) × (x4 : Pattern) × (x5 : Place) × (x6 : ℕ) × (x7 : Place) × (r : List Value) × (vs ≡ expression x1 x2 x3 ∷ pattern_read x4 ∷ mark x5 ∷ named x6 x7 ∷ r)
recursive_here_shape n (expression x1 x2 x3 ∷ pattern_read x4 ∷ mark x5 ∷ named x6 x7 ∷ r) h = (x1, x2, x3, x4, x5, x6, x7, r, refl)
recursive_here_shape n _ h = absurd cc

pub let_of_all_shape : (n : ℕ) (vs : List Value) → IsSome (let_of_all n vs) → (x1 : Tree) × (x2 : Place) × (x3 : Commas) × (x4 : Tree) × (x5 : Place) × (x6 : Commas) × (x7 : Pattern) × (x8 : Place) × (r : List Value) × (vs ≡ expression x1 x2 x3 ∷ expression x4 x5 x6 ∷ pattern_read x7 ∷ mark x8 ∷ r)
let_of_all_shape n (expression x1 x2 x3 ∷ expression x4 x5 x6 ∷ pattern_read x7 ∷ mark x8 ∷ r) h = (x1, x2, x3, x4, x5, x6, x7, x8, r, refl)
let_of_all_shape n _ h = absurd cc

pub let_rec_of_all_shape : (n : ℕ) (vs : List Value) → IsSome (let_rec_of_all n vs) → (x1 : Tree) × (x2 : Place) × (x3 : Commas) × (x4 : ℕ) × (x5 : Recursive) × (x6 : Place) × (r : List Value) × (vs ≡ expression x1 x2 x3 ∷ recursive x4 x5 ∷ mark x6 ∷ r)
let_rec_of_all_shape n (expression x1 x2 x3 ∷ recursive x4 x5 ∷ mark x6 ∷ r) h = (x1, x2, x3, x4, x5, x6, r, refl)
let_rec_of_all_shape n _ h = absurd cc

pub append_arm_shape : (vs : List Value) → IsSome (append_arm vs) → (x1 : Tree) × (x2 : Place) × (x3 : Commas) × (x4 : Pattern) × (x5 : List Case) × (r : List Value) × (vs ≡ expression x1 x2 x3 ∷ pattern_read x4 ∷ arms x5 ∷ r)
append_arm_shape (expression x1 x2 x3 ∷ pattern_read x4 ∷ arms x5 ∷ r) h = (x1, x2, x3, x4, x5, r, refl)
append_arm_shape _ h = absurd cc

pub match_of_shape : (n : ℕ) (vs : List Value) → IsSome (match_of n vs) → (x1 : List Case) × (x2 : Tree) × (x3 : Place) × (x4 : Commas) × (x5 : Place) × (r : List Value) × (vs ≡ arms x1 ∷ expression x2 x3 x4 ∷ mark x5 ∷ r)
match_of_shape n (arms x1 ∷ expression x2 x3 x4 ∷ mark x5 ∷ r) h = (x1, x2, x3, x4, x5, r, refl)
match_of_shape n _ h = absurd cc

pub if_of_shape : (n : ℕ) (vs : List Value) → IsSome (if_of n vs) → (x1 : Tree) × (x2 : Place) × (x3 : Commas) × (x4 : Tree) × (x5 : Place) × (x6 : Commas) × (x7 : Tree) × (x8 : Place) × (x9 : Commas) × (x10 : Place) × (r : List Value) × (vs ≡ expression x1 x2 x3 ∷ expression x4 x5 x6 ∷ expression x7 x8 x9 ∷ mark x10 ∷ r)
if_of_shape n (expression x1 x2 x3 ∷ expression x4 x5 x6 ∷ expression x7 x8 x9 ∷ mark x10 ∷ r) h = (x1, x2, x3, x4, x5, x6, x7, x8, x9, x10, r, refl)
if_of_shape n _ h = absurd cc

pub if_only_shape : (n : ℕ) (vs : List Value) → IsSome (if_only n vs) → (x1 : Tree) × (x2 : Place) × (x3 : Commas) × (x4 : Tree) × (x5 : Place) × (x6 : Commas) × (x7 : Place) × (r : List Value) × (vs ≡ expression x1 x2 x3 ∷ expression x4 x5 x6 ∷ mark x7 ∷ r)
if_only_shape n (expression x1 x2 x3 ∷ expression x4 x5 x6 ∷ mark x7 ∷ r) h = (x1, x2, x3, x4, x5, x6, x7, r, refl)
if_only_shape n _ h = absurd cc

pub two_trees_shape : (vs : List Value) → IsSome (two_trees vs) → (x1 : Tree) × (x2 : Place) × (x3 : Commas) × (x4 : Tree) × (x5 : Place) × (x6 : Commas) × (r : List Value) × (vs ≡ expression x1 x2 x3 ∷ expression x4 x5 x6 ∷ r)
two_trees_shape (expression x1 x2 x3 ∷ expression x4 x5 x6 ∷ r) h = (x1, x2, x3, x4, x5, x6, r, refl)
two_trees_shape _ h = absurd cc

pub append_tree_shape : (vs : List Value) → IsSome (append_tree vs) → (x1 : Tree) × (x2 : Place) × (x3 : Commas) × (x4 : List Tree) × (x5 : Place) × (r : List Value) × (vs ≡ expression x1 x2 x3 ∷ expressions x4 x5 ∷ r)
append_tree_shape (expression x1 x2 x3 ∷ expressions x4 x5 ∷ r) h = (x1, x2, x3, x4, x5, r, refl)
append_tree_shape _ h = absurd cc

-- ---- literals
below : (v : ℕ) {X : Type 0} (x : X) (b : Bool) → nat_lt v LITERAL_LIMIT ≡ b → IsSome (cond b (Some x) None) → v < LITERAL_LIMIT
below v x true e h = grind (arith, nat_tests)
below v x false e h = absurd cc

up_to : (v : ℕ) {X : Type 0} (x : X) (b : Bool) → nat_lt LITERAL_LIMIT v ≡ b → IsSome (cond b None (Some x)) → v ≤ LITERAL_LIMIT
up_to v x true e h = absurd cc
up_to v x false e h = grind (arith, nat_tests)

pub literal_below : (n v : ℕ) (vs : List Value) (p : Place) → IsSome (literal n v vs p) → v < LITERAL_LIMIT
literal_below n v vs p h = below v _ _ refl h

pub negative_literal_shape : (n v : ℕ) (vs : List Value) → IsSome (negative_literal n v vs) → (p : Place) × (r : List Value) × (vs ≡ mark p ∷ r) × (v ≤ LITERAL_LIMIT)
negative_literal_shape n v (mark p ∷ r) h = (p, r, refl, up_to v _ _ refl h)
negative_literal_shape n v _ h = absurd cc

pub pred_literal_below : (v : ℕ) (place : Place) (vs : List Value) → IsSome (pred_literal v place vs) → v < LITERAL_LIMIT
pred_literal_below v place vs h = below v _ _ refl h

pub pred_negative_shape : (v : ℕ) (vs : List Value) → IsSome (pred_negative v vs) → (p : Place) × (r : List Value) × (vs ≡ mark p ∷ r) × (v ≤ LITERAL_LIMIT)
pred_negative_shape v (mark p ∷ r) h = (p, r, refl, up_to v _ _ refl h)
pred_negative_shape v _ h = absurd cc

pub with_values_some : (n : ℕ) (o : Option (List Value)) → IsSome (with_values n o) → IsSome o
with_values_some n (Some vs) h = refl
with_values_some n None h = absurd cc

pub by_name_some : {X : Type 0} (c : Content) (f : ℕ → Option X) → IsSome (by_name c f) → (x : ℕ) × (c ≡ some_name x) × IsSome (f x)
by_name_some (some_name x) f h = (x, refl, h)
by_name_some (some_number v) f h = absurd cc
by_name_some neither f h = absurd cc

pub by_number_some : {X : Type 0} (c : Content) (f : ℕ → Option X) → IsSome (by_number c f) → (v : ℕ) × (c ≡ some_number v) × IsSome (f v)
by_number_some (some_name x) f h = absurd cc
by_number_some (some_number v) f h = (v, refl, h)
by_number_some neither f h = absurd cc
