-- The type that each operation gives, and what is demanded of its operands. No assignment has a say in them.
use Rattle.std.specs.Prelude.{ℕ, suc, pos, List, [], ◌∷◌, map, Some}
use Rattle.lq_base_names.specs.declared.operation.CompareOp.TheVariants as op
use Rattle.lq_refined_types.specs.Parts.Part.{known, Parts, Scopes, parts_by}
use Rattle.lq_refined_types.specs.Parts.Substitution.{of_sum, swap, Subst, formula_by}
use Rattle.lq_logic_predicates.specs.Formula as f
use Rattle.lq_logic_predicates.specs.Sum as s
use Rattle.lq_logic_predicates.specs.declared.symbol.Symbol.TheVariants.{Value, Position}
use Rattle.lq_refined_types.specs.Types.Context.{name, Context}
use Rattle.lq_refined_types.specs.Types.Operations.{symbol_of, applied, renamed}
use Rattle.lq_refined_types.specs.Types.Refined.{Refined, int_with, bool_with, unit_type, function, tuple_of, array_with, data_with, map_with, type_variable, Refineds, none, more, Kind, number, truth_value, object, other, kind, binder_of, argument_of, result_of, element_of, arguments_of, matrix_of, with_top}
use Rattle.lq_refined_types.specs.Types.Unfolding.{unfolded}
use Rattle.lq_refined_types.specs.Subtyping.Subtype.{fields_of}
use Rattle.lq_refined_rules.specs.Checks.Basis.{Basis}
use Rattle.lq_refined_rules.specs.Checks.Pure.{literal, sum_of, type_of_use, pure_type, pure_types, pure_atom, operands_for}
use Rattle.lq_refined_rules.specs.Checks.Tree.{Use, Pure, Operation, pure, fun, if_else, match_on, call, tuple, build, make, fetch, store, divide, remainder, assert, assert_false, read, print, map_empty, map_add, map_find, Block, last, binding, recursive, last_operation}

abbrev pub value : s.Sum
value = s.var Value

-- ---- what is demanded

abbrev pub in_range : Use → Pure → f.Formula
in_range a i =
    f.conjunction (f.compare op.Le (literal 0) (sum_of i)) (f.compare op.Lt (sum_of i) (s.len (s.var (symbol_of a.name))))

abbrev pub not_zero : Pure → f.Formula
not_zero y = f.compare op.Ne (sum_of y) (literal 0)

abbrev pub not_negative : Pure → f.Formula
not_negative n = f.compare op.Le (literal 0) (sum_of n)

-- ---- what is known of quotients and remainders

-- of a quotient by c + 1: what bounds the dividend x by the quotient, where x isn't below 0 and where it is
abbrev pub quotient_fact : s.Sum → ℕ → f.Formula
quotient_fact x c =
    let product = s.mul (literal (suc c)) value in
    let upwards = f.conjunction (f.compare op.Le (literal 0) x) (f.compare op.Le product x) in
    let downwards = f.conjunction (f.compare op.Lt x (literal 0)) (f.compare op.Le x product) in
    f.disjunction (f.conjunction upwards (f.compare op.Le x (s.add product (literal c))))
    (f.conjunction downwards (f.compare op.Le product (s.add x (literal c))))

-- of a quotient by anything else than a literal above 0 nothing more
abbrev pub quotient_facts : s.Sum → s.Sum → Parts
quotient_facts x (s.whole (pos (suc c))) = known (quotient_fact x c) ∷ []
quotient_facts x _ = []

abbrev pub remainder_fact : s.Sum → s.Sum → f.Formula
remainder_fact x y =
    f.disjunction (f.disjunction (f.compare op.Lt x (literal 0)) (f.compare op.Lt y (literal 1)))
    (f.conjunction (f.compare op.Le (literal 0) value) (f.compare op.Lt value y))

-- ---- datatypes and maps

-- no value: where the type has a shape of which predicates speak, the top `false`
abbrev pub empty_by : Kind → Refined → Refined
empty_by number t = with_top (known f.falsity ∷ []) t
empty_by truth_value t = with_top (known f.falsity ∷ []) t
empty_by object t = with_top (known f.falsity ∷ []) t
empty_by other t = t

abbrev pub empty_type : Refined → Refined
empty_type t = empty_by (kind t) t

abbrev pub empty_types : Refineds → Refineds
empty_types none = none
empty_types (more t ts) = more (empty_type t) (empty_types ts)

-- the arguments of a constructor's value: without a field, of a value of the parameter's type there is none
abbrev pub built_arguments : List Pure → Refineds → Refineds
built_arguments [] ts = empty_types ts
built_arguments (e ∷ es) ts = ts

abbrev pub datatype_of : Refined → ℕ
datatype_of (data_with d ts m p) = d
datatype_of _ = 0

-- a constructor's equations, with something put for `v` and for its fields
abbrev pub equations_by : Basis → ℕ → Subst → Parts
equations_by P c θ = map (λ q. known (formula_by θ q)) (P.equations c)

-- a key for `#0`, but in the elements of an inner map, where `#0` is its own key
module _ (scopes : Scopes) (θ : Subst) where
  abbrev mutual
    pub keyed : Refined → Refined
    keyed (int_with p) = int_with (parts_by scopes θ p)
    keyed (bool_with p) = bool_with (parts_by scopes θ p)
    keyed unit_type = unit_type
    keyed (function x a b) = function x (keyed a) (keyed b)
    keyed (tuple_of ts) = tuple_of (all_keyed ts)
    keyed (array_with e p) = array_with (keyed e) (parts_by scopes θ p)
    keyed (data_with d ts m p) = data_with d (all_keyed ts) m (parts_by scopes θ p)
    keyed (map_with e p) = map_with e (parts_by scopes θ p)
    keyed (type_variable i) = type_variable i

    pub all_keyed : Refineds → Refineds
    all_keyed none = none
    all_keyed (more t ts) = more (keyed t) (all_keyed ts)

-- a map's element at a key
abbrev pub element_at : Scopes → Pure → Refined → Refined
element_at scopes k t = keyed scopes (swap (Position 0) (of_sum (sum_of k)) ∷ []) (element_of t)

-- `option` of a type; `option` is the predeclared type with the number 5
abbrev pub option_of : Refined → Refined
option_of t = data_with 5 (more t none) [] []

-- ---- what operations give

module _ (P : Basis) (Γ : Context) where
  -- the result of a function type with the operand for its name of the argument
  abbrev pub called_type : Refined → Pure → Refined
  called_type t a = applied P.setting.scopes (binder_of t) (pure_atom P Γ a) (result_of t)

  abbrev pub built_type : ℕ → ℕ → List Pure → Refined
  built_type p c es =
      let t = P.template p in
      data_with (datatype_of t) (built_arguments es (arguments_of t)) (matrix_of t) (equations_by P c (operands_for P Γ 0 es))

  abbrev pub type_of : Operation → Refined
  type_of (pure e) = pure_type P Γ e
  type_of (fun p y b) = P.template p
  type_of (if_else p c a b) = P.template p
  type_of (match_on p u arms) = P.template p
  type_of (call g a) = called_type (pure_type P Γ g) a
  type_of (tuple es) = tuple_of (pure_types P Γ es)
  type_of (build p c es) = built_type p c es
  type_of (make p n e) = array_with (P.template p) (known (f.compare op.Eq (s.len value) (sum_of n)) ∷ [])
  type_of (fetch a i) = element_of (type_of_use P Γ a)
  type_of (store a i e) = unit_type
  type_of (divide x y) =
      int_with (known (f.compare op.Eq value (s.div (sum_of x) (sum_of y))) ∷ quotient_facts (sum_of x) (sum_of y))
  type_of (remainder x y) =
      int_with (known (f.compare op.Eq value (s.rem (sum_of x) (sum_of y))) ∷ known (remainder_fact (sum_of x) (sum_of y)) ∷ [])
  type_of (assert e) = unit_type
  type_of (assert_false p) = P.template p
  type_of (read e) = int_with []
  type_of (print e) = unit_type
  type_of (map_empty p) = map_with (empty_type (P.template p)) []
  type_of (map_add p k e m) = P.template p
  type_of (map_find k m) = option_of (element_at P.setting.scopes k (pure_type P Γ m))

  -- the types that a constructor's operands are to have: the fields, unfolded from the template, with the operands for `#k`
  abbrev pub field_types : ℕ → ℕ → List Pure → Refineds
  field_types p c es =
      let t = P.template p in
      unfolded P.setting.scopes (operands_for P Γ 0 es) (datatype_of t) (arguments_of t) (matrix_of t) c
      (fields_of (P.setting.constructors c))

-- ---- environments and types of bodies and blocks

abbrev pub bind : ℕ → Refined → Context → Context
bind x t Γ = name (symbol_of x) t ∷ Γ

-- where a function of a parameter is checked against a type: its body's environment and type
abbrev pub body_context : Context → ℕ → Refined → Context
body_context Γ y t = bind y (argument_of t) Γ

abbrev pub body_type : Scopes → ℕ → Refined → Refined
body_type scopes y t = renamed scopes (binder_of t) (Some y) (kind (argument_of t)) (result_of t)

-- of the body of the recursive function g, with its template at a point and its parameter y
abbrev pub recursive_context : Basis → Context → ℕ → ℕ → ℕ → Context
recursive_context P Γ g p y = body_context (bind g (P.template p) Γ) y (P.template p)

abbrev pub recursive_type : Basis → ℕ → ℕ → Refined
recursive_type P p y = body_type P.setting.scopes y (P.template p)

-- at the end of a block
abbrev pub last_context : Basis → Context → Block → Context
last_context P Γ (last l o) = Γ
last_context P Γ (binding x l o b) = last_context P (bind x (type_of P Γ o) Γ) b
last_context P Γ (recursive g p y b c) = last_context P (bind g (P.template p) Γ) c

abbrev pub last_type : Basis → Context → Block → Refined
last_type P Γ b = type_of P (last_context P Γ b) (last_operation b)
