-- That a program is ready is a proposition.
use Rattle.std.proofs.Common.{ℕ, Bool, true, false, List, [], ◌∷◌}
use Rattle.std.specs.Coded.{×_prop, Π_prop, Unit-prop}
use mathlib.Core.HLevel.{×₃_prop}
use Rattle.lq_generate_reading.specs.Notes.TypeSet.{type_set}
use Rattle.lq_refined_types.specs.Types.Refined.{Refined, erased}
use Rattle.std.proofs.Props.{props}
use Rattle.lq_refined_types.specs.Types.Context.{guard, Context, name, IsNew}
use Rattle.lq_refined_types.specs.Parts.Part.{known}
use Rattle.lq_logic_predicates.specs.Formula.{negation}
use Rattle.lq_logic_predicates.specs.declared.symbol.Symbol.{Symbol}
use Rattle.lq_refined_types.specs.Types.Operations.{symbol_of}
use Rattle.lq_refined_types.specs.Types.Refined.{unit_type, Refineds, argument_of, element_of}
use Rattle.lq_refined_types.specs.Subtyping.Splitting.{first_of, rest_of}
use Rattle.lq_refined_rules.specs.Checks.Basis.{Basis}
use Rattle.lq_refined_rules.specs.Checks.Binders.{AreNewNames}
use Rattle.lq_refined_rules.specs.Checks.Match.{is_data_match, in_arm}
use Rattle.lq_refined_rules.specs.Checks.Operation.{element_at, type_of, field_types, bind, body_context, body_type, recursive_context, recursive_type, last_context, last_type}
use Rattle.lq_refined_rules.specs.Checks.Pure.{formula_of, type_of_use, pure_type}
use Rattle.lq_refined_rules.specs.Checks.Ready.{IsReady, IsReadyBlock, IsReadyCase, IsReadyDefault, IsReadyFirst, IsReadyGiven, IsReadyOperation, IsReadyRecursive, SameType, SameTypes, Where}
use Rattle.lq_refined_rules.specs.Checks.Tree.{Use, Pure, names_of, is_arm_of, takes_all, passes_on, has_template, Operation, pure, fun, if_else, match_on, call, tuple as tuple_of, build, make, fetch, store, divide, remainder, assert, assert_false, read, print, map_empty, map_add, map_find, Block, last, binding, recursive, Arms, no_arms, arm, Program, no_items, define, define_recursive, run_unit, run_any}

same_type : (l r : Refined) → IsProp (SameType l r)
same_type l r = type_set (erased l) (erased r)

where_prop : (b : Bool) (X Y : Type 0) → IsProp X → IsProp Y → IsProp (Where b X Y)
where_prop true X Y p q = p
where_prop false X Y p q = q

-- ---- readiness

quadruple : {A B C D : Type 0} → IsProp A → IsProp B → IsProp C → IsProp D → IsProp (A × B × C × D)
quadruple h k l m u v = λ i. (h u.0 v.0 i, k u.1 v.1 i, l u.2 v.2 i, m u.3 v.3 i)

new_prop : (x : Symbol) (Γ : Context) → IsProp (IsNew x Γ)
new_prop x [] = Unit-prop
new_prop x (name y t ∷ Γ) = ×_prop (Prim.hlevel props) (new_prop x Γ)
new_prop x (guard p ∷ Γ) = new_prop x Γ

names_prop : (xs : List ℕ) (Γ : Context) → IsProp (AreNewNames xs Γ)
names_prop [] Γ = Unit-prop
names_prop (x ∷ xs) Γ = ×_prop (new_prop (symbol_of x) Γ) (names_prop xs (bind x unit_type Γ))

module _ (P : Basis) where
  types_prop : (Γ : Context) (es : List Pure) (ts : Refineds) → IsProp (SameTypes P Γ es ts)
  types_prop Γ [] ts = Unit-prop
  types_prop Γ (e ∷ es) ts = ×_prop (same_type (pure_type P Γ e) (first_of ts)) (types_prop Γ es (rest_of ts))

  mutual
    operation_prop : (Γ : Context) (o : Operation) (t : Refined) → IsProp (IsReadyOperation P Γ o t)
    operation_prop Γ (fun p y b) t =
        ×_prop (new_prop (symbol_of y) Γ) (block_prop (body_context Γ y t) b (body_type P.setting.scopes y t))
    operation_prop Γ (if_else p c a b) t =
        ×_prop (block_prop (guard (known (formula_of c)) ∷ Γ) a t) (block_prop (guard (known (negation (formula_of c))) ∷ Γ) b t)
    operation_prop Γ (match_on p u arms) t =
        where_prop (is_data_match P Γ u) (((c : ℕ) → IsReadyCase P Γ u c t arms) × IsReadyDefault P Γ u arms t) (IsReadyFirst P Γ u arms t)
        (×_prop (Π_prop (λ c. case_prop Γ u c t arms)) (default_prop Γ u arms t)) (first_prop Γ u arms t)
    operation_prop Γ (call g a) t = same_type (pure_type P Γ a) (argument_of (pure_type P Γ g))
    operation_prop Γ (build p c es) t = types_prop Γ es (field_types P Γ p c es)
    operation_prop Γ (make p n e) t = same_type (pure_type P Γ e) (P.template p)
    operation_prop Γ (store u i e) t = same_type (pure_type P Γ e) (element_of (type_of_use P Γ u))
    operation_prop Γ (map_add p k e m) t =
        ×_prop (same_type (pure_type P Γ e) (element_at P.setting.scopes k (P.template p))) (same_type (pure_type P Γ m) (P.template p))
    operation_prop Γ (pure e) t = Unit-prop
    operation_prop Γ (tuple_of es) t = Unit-prop
    operation_prop Γ (fetch u i) t = Unit-prop
    operation_prop Γ (divide x y) t = Unit-prop
    operation_prop Γ (remainder x y) t = Unit-prop
    operation_prop Γ (assert e) t = Unit-prop
    operation_prop Γ (assert_false p) t = Unit-prop
    operation_prop Γ (read e) t = Unit-prop
    operation_prop Γ (print e) t = Unit-prop
    operation_prop Γ (map_empty p) t = Unit-prop
    operation_prop Γ (map_find k m) t = Unit-prop

    block_prop : (Γ : Context) (b : Block) (t : Refined) → IsProp (IsReadyBlock P Γ b t)
    block_prop Γ (last l o) t =
        ×_prop (operation_prop Γ o t) (where_prop (passes_on o) (Unit {0}) (SameType (type_of P Γ o) t) Unit-prop (same_type (type_of P Γ o) t))
    block_prop Γ (binding x l o b) t =
        ×₃_prop (operation_prop Γ o (type_of P Γ o)) (new_prop (symbol_of x) Γ) (block_prop (bind x (type_of P Γ o) Γ) b t)
    block_prop Γ (recursive g p y b c) t =
        ×_prop
        (×₃_prop (new_prop (symbol_of g) Γ) (new_prop (symbol_of y) (bind g (P.template p) Γ)) (block_prop (recursive_context P Γ g p y) b (recursive_type P p y)))
        (block_prop (bind g (P.template p) Γ) c t)

    case_prop : (Γ : Context) (u : Use) (c : ℕ) (t : Refined) (arms : Arms) → IsProp (IsReadyCase P Γ u c t arms)
    case_prop Γ u c t no_arms = Unit-prop
    case_prop Γ u c t (arm q b arms) =
        where_prop (is_arm_of c q) (AreNewNames (names_of q) Γ × IsReadyBlock P (in_arm P Γ u q) b t) (IsReadyCase P Γ u c t arms)
        (×_prop (names_prop (names_of q) Γ) (block_prop (in_arm P Γ u q) b t)) (case_prop Γ u c t arms)

    default_prop : (Γ : Context) (u : Use) (arms : Arms) (t : Refined) → IsProp (IsReadyDefault P Γ u arms t)
    default_prop Γ u no_arms t = Unit-prop
    default_prop Γ u (arm q b arms) t =
        where_prop (takes_all q) (AreNewNames (names_of q) Γ × IsReadyBlock P (in_arm P Γ u q) b t) (IsReadyDefault P Γ u arms t)
        (×_prop (names_prop (names_of q) Γ) (block_prop (in_arm P Γ u q) b t)) (default_prop Γ u arms t)

    first_prop : (Γ : Context) (u : Use) (arms : Arms) (t : Refined) → IsProp (IsReadyFirst P Γ u arms t)
    first_prop Γ u no_arms t = Unit-prop
    first_prop Γ u (arm q b arms) t = ×_prop (names_prop (names_of q) Γ) (block_prop (in_arm P Γ u q) b t)

  recursive_prop : (Γ : Context) (g p y : ℕ) (b : Block) → IsProp (IsReadyRecursive P Γ g p y b)
  recursive_prop Γ g p y b =
      ×₃_prop (new_prop (symbol_of g) Γ) (new_prop (symbol_of y) (bind g (P.template p) Γ)) (block_prop (recursive_context P Γ g p y) b (recursive_type P p y))

  given_prop : (Γ : Context) (b : Block) → IsProp (IsReadyGiven P Γ b)
  given_prop Γ (last l o) = operation_prop Γ o (type_of P Γ o)
  given_prop Γ (binding x l o b) =
      ×₃_prop (operation_prop Γ o (type_of P Γ o)) (new_prop (symbol_of x) Γ) (given_prop (bind x (type_of P Γ o) Γ) b)
  given_prop Γ (recursive g p y b c) = ×_prop (recursive_prop Γ g p y b) (given_prop (bind g (P.template p) Γ) c)

  pub ready_prop : (Γ : Context) (p : Program) → IsProp (IsReady P Γ p)
  ready_prop Γ no_items = Unit-prop
  ready_prop Γ (define x l k b rest) =
      quadruple (given_prop Γ b)
      (where_prop (has_template b) (SameType (last_type P Γ b) (P.template k)) (Unit {0}) (same_type (last_type P Γ b) (P.template k)) Unit-prop)
      (new_prop (symbol_of x) (last_context P Γ b)) (ready_prop (bind x (last_type P Γ b) (last_context P Γ b)) rest)
  ready_prop Γ (define_recursive g p y b rest) = ×_prop (recursive_prop Γ g p y b) (ready_prop (bind g (P.template p) Γ) rest)
  ready_prop Γ (run_unit b rest) = ×_prop (block_prop Γ b unit_type) (ready_prop Γ rest)
  ready_prop Γ (run_any b rest) = ×_prop (given_prop Γ b) (ready_prop Γ rest)
