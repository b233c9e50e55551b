-- What runs of a program need besides the typing rules.
use Rattle.std.specs.Prelude.{◌≡◌, ◌⊎◌, ℕ, false, List, [], ◌∷◌, Some, None}
use Rattle.lq_refined_types.specs.Parts.Assignment.{Assignment}
use Rattle.lq_refined_types.specs.Parts.Part.{known}
use Rattle.lq_logic_predicates.specs.Formula.{negation}
use Rattle.lq_text_tree.specs.Types.{Constructor}
use Rattle.lq_refined_types.specs.Types.Context.{Context, guard}
use Rattle.lq_refined_types.specs.Types.Operations.{symbol_of}
use Rattle.lq_refined_types.specs.Types.Refined.{Refined, int_with, bool_with, unit_type, function, tuple_of, array_with, data_with, map_with, type_variable, argument_of, element_of}
use Rattle.lq_refined_types.specs.Subtyping.Subtype.{IsSubtype}
use Rattle.lq_refined_rules.specs.Checks.Basis.{Basis}
use Rattle.lq_refined_rules.specs.Checks.Match.{is_data_match, matched_constructors, in_arm}
use Rattle.lq_refined_rules.specs.Checks.Operation.{datatype_of, type_of, field_types, bind, body_context, body_type, recursive_context, recursive_type}
use Rattle.lq_refined_rules.specs.Checks.Pure.{formula_of, type_of_use, pure_type}
use Rattle.lq_refined_rules.specs.Checks.Ready.{Where}
use Rattle.lq_refined_rules.specs.Checks.Tree.{passes_on, is_arm_of, takes_all, Use, Pure, Arms, no_arms, arm, Operation, pure, fun, if_else, match_on, call, tuple, build, make, fetch, store, divide, remainder, assert, assert_false, read, print, map_empty, map_add, map_find, Block, last, binding, recursive}
use Rattle.lq_sound_values.specs.Inhabitants.Truth.{Objects}
use Rattle.lq_sound_values.specs.Inhabitants.Inhabits.{Makes}
use Rattle.lq_sound_values.specs.Inclusion.Apart.{Apart}
use Rattle.lq_sound_values.specs.Inclusion.Symbols.{Symbols, TypeOn}
use Rattle.lq_sound_values.specs.Runs.Closed.{names_in, IsClosed, Binds}
use Rattle.lq_sound_forms.specs.Pures.Pures.{scene_of, UseOver, PureOver}
use Rattle.lq_sound_forms.specs.Fields.Fields.{KnowsMeasures, IsDatatypeFor}
use Rattle.lq_sound_forms.specs.Calls.Operands.{IsUsable, IsUsablePure}
use Rattle.lq_sound_forms.specs.Tuples.Tuples.{AreUsable, HasComponentsOver}
use Rattle.lq_sound_forms.specs.Builds.Builds.{ArgumentsApart}

-- a function type that names its argument by this parameter, or doesn't name it and whose result speaks of these symbols alone
abbrev pub NamesArgument : Assignment → Symbols → ℕ → Refined → Type 0
NamesArgument A P y (function None a b) = TypeOn A b P
NamesArgument A P y (function (Some x) a b) = x ≡ y
NamesArgument A P y (int_with p) = ⊥
NamesArgument A P y (bool_with p) = ⊥
NamesArgument A P y unit_type = ⊥
NamesArgument A P y (tuple_of ts) = ⊥
NamesArgument A P y (array_with e p) = ⊥
NamesArgument A P y (data_with d ts m p) = ⊥
NamesArgument A P y (map_with e p) = ⊥
NamesArgument A P y (type_variable i) = ⊥

abbrev pub IsIn : List ℕ → ℕ → Type 0
IsIn [] x = ⊥
IsIn (y ∷ ys) x = (y ≡ x) ⊎ IsIn ys x

-- of each datatype all constructors are listed
abbrev pub ListsConstructors : Basis → Type 0
ListsConstructors P = (c : ℕ) (k : Constructor) → P.setting.constructors c ≡ Some k → IsIn (P.constructors_of k.datatype) c

-- Each use is of a name in scope, and usable; each type that a name gets speaks of names in scope, as the type of each block does; a
-- function's type names its argument by the parameter or not at all; and each subtyping is apart. Where a program makes values of a datatype
-- or matches on them, objects have the values of measures that the equations give, and the type is one for the constructors' values; a match
-- on them finds all constructors listed, and one on another type has an arm. (Of maps nothing is asked.)
module _ (P : Basis) (A : Assignment) (O : Objects) where
  -- an operand, or what is called
  abbrev pub IsOperand : Context → Pure → Type 0
  IsOperand Γ e = PureOver P A Γ e × IsUsablePure P (scene_of P A O) Γ e

  -- the type of a variable that is matched on is a datatype for the values of each of its constructors, and all of these are listed
  abbrev pub AreDatatypesFor : Context → Use → Type 0
  AreDatatypesFor Γ u =
      KnowsMeasures P O × ListsConstructors P
      × ((c : ℕ) (k : Constructor) → Makes P.setting.constructors (datatype_of (type_of_use P Γ u)) c k → IsDatatypeFor (scene_of P A O) P c k (type_of_use P Γ u))

  abbrev mutual
    pub IsScoped : Context → Operation → Refined → Type 0
    IsScoped Γ (pure e) t = IsOperand Γ e
    IsScoped Γ (fun p y b) t =
        NamesArgument A (names_in Γ) y t × Binds (scene_of P A O) (symbol_of y) (argument_of t) Γ
        × IsScopedBlock (body_context Γ y t) b (body_type P.setting.scopes y t)
    IsScoped Γ (if_else p c a b) t =
        PureOver P A Γ c × IsScopedBlock (guard (known (formula_of c)) ∷ Γ) a t
        × IsScopedBlock (guard (known (negation (formula_of c))) ∷ Γ) b t
    IsScoped Γ (call g a) t =
        IsOperand Γ g × IsOperand Γ a
        × ((d : IsSubtype P.setting A Γ (pure_type P Γ a) (argument_of (pure_type P Γ g))) → Apart (scene_of P A O) d)
    IsScoped Γ (divide x y) t = PureOver P A Γ x × PureOver P A Γ y
    IsScoped Γ (remainder x y) t = PureOver P A Γ x × PureOver P A Γ y
    IsScoped Γ (assert e) t = PureOver P A Γ e
    IsScoped Γ (read e) t = PureOver P A Γ e
    IsScoped Γ (print e) t = PureOver P A Γ e
    IsScoped Γ (match_on p u arms) t =
        UseOver P A Γ u × IsUsable (scene_of P A O) Γ (type_of_use P Γ u) × TypeOn A t (names_in Γ)
        × Where (is_data_match P Γ u)
        (AreDatatypesFor Γ u × ((c : ℕ) → IsIn (matched_constructors P Γ u) c → IsScopedCase Γ u c t arms) × IsScopedDefault Γ u t arms)
        (HasComponentsOver A (names_in Γ) (type_of_use P Γ u) × IsScopedFirst Γ u t arms)
    IsScoped Γ (tuple es) t = AreUsable P A O Γ es
    IsScoped Γ (build p c es) t =
        AreUsable P A O Γ es × ArgumentsApart P A O Γ es (field_types P Γ p c es) × KnowsMeasures P O
        × ((k : Constructor) → P.setting.constructors c ≡ Some k → IsDatatypeFor (scene_of P A O) P c k (P.template p))
    IsScoped Γ (make p n e) t =
        PureOver P A Γ n × IsOperand Γ e × ((d : IsSubtype P.setting A Γ (pure_type P Γ e) (P.template p)) → Apart (scene_of P A O) d)
    IsScoped Γ (fetch u i) t = UseOver P A Γ u × PureOver P A Γ i
    IsScoped Γ (store u i e) t =
        UseOver P A Γ u × PureOver P A Γ i × IsOperand Γ e
        × ((d : IsSubtype P.setting A Γ (pure_type P Γ e) (element_of (type_of_use P Γ u))) → Apart (scene_of P A O) d)
    IsScoped Γ (assert_false p) t = Unit {0}
    IsScoped Γ (map_empty p) t = Unit {0}
    IsScoped Γ (map_add p k e m) t = Unit {0}
    IsScoped Γ (map_find k m) t = Unit {0}

    pub IsScopedBlock : Context → Block → Refined → Type 0
    IsScopedBlock Γ (last l o) t =
        IsScoped Γ o t × (passes_on o ≡ false → (d : IsSubtype P.setting A Γ (type_of P Γ o) t) → Apart (scene_of P A O) d)
    IsScopedBlock Γ (binding x l o b) t =
        IsScoped Γ o (type_of P Γ o) × Binds (scene_of P A O) (symbol_of x) (type_of P Γ o) Γ × TypeOn A t (names_in Γ)
        × IsScopedBlock (bind x (type_of P Γ o) Γ) b t
    IsScopedBlock Γ (recursive g p y b c) t =
        IsScopedBlock (recursive_context P Γ g p y) b (recursive_type P p y) × NamesArgument A (names_in Γ) y (P.template p)
        × Binds (scene_of P A O) (symbol_of g) (P.template p) Γ × Binds (scene_of P A O) (symbol_of y) (argument_of (P.template p)) (bind g (P.template p) Γ) × TypeOn A (P.template p) (names_in Γ) × TypeOn A t (names_in Γ)
        × IsScopedBlock (bind g (P.template p) Γ) c t

    -- the first arm of the constructor, the first one that takes all, and the first one
    pub IsScopedCase : Context → Use → ℕ → Refined → Arms → Type 0
    IsScopedCase Γ u c t no_arms = Unit {0}
    IsScopedCase Γ u c t (arm q b arms) =
        Where (is_arm_of c q) (IsClosed (scene_of P A O) (in_arm P Γ u q) × IsScopedBlock (in_arm P Γ u q) b t) (IsScopedCase Γ u c t arms)

    pub IsScopedDefault : Context → Use → Refined → Arms → Type 0
    IsScopedDefault Γ u t no_arms = Unit {0}
    IsScopedDefault Γ u t (arm q b arms) =
        Where (takes_all q) (IsClosed (scene_of P A O) (in_arm P Γ u q) × IsScopedBlock (in_arm P Γ u q) b t) (IsScopedDefault Γ u t arms)

    pub IsScopedFirst : Context → Use → Refined → Arms → Type 0
    IsScopedFirst Γ u t no_arms = ⊥
    IsScopedFirst Γ u t (arm q b arms) = IsClosed (scene_of P A O) (in_arm P Γ u q) × IsScopedBlock (in_arm P Γ u q) b t

  -- a recursive function
  abbrev pub IsScopedRecursive : Context → ℕ → ℕ → ℕ → Block → Type 0
  IsScopedRecursive Γ g p y b =
      IsScopedBlock (recursive_context P Γ g p y) b (recursive_type P p y) × NamesArgument A (names_in Γ) y (P.template p)
      × Binds (scene_of P A O) (symbol_of g) (P.template p) Γ × Binds (scene_of P A O) (symbol_of y) (argument_of (P.template p)) (bind g (P.template p) Γ) × TypeOn A (P.template p) (names_in Γ)
