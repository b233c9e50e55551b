-- What is asked of a program of the typing rules and of its templates, so that it is plain: its forms are scalar, its templates name arguments of
-- functions that are written there alone, and the types that its uses put for variables name none.
use Rattle.std.specs.Prelude.{◌≡◌, ◌⊎◌, ℕ, suc, Bool, true, false, cond, List, [], ◌∷◌, Option, Some, None}
use Rattle.lq_refined_types.specs.Types.Unfolding.{cell}
use Rattle.lq_text_tree.specs.MlType as ml
use Rattle.lq_text_tree.specs.MlType.{MlType, MlTypes}
use Rattle.lq_refined_types.specs.Types.Refined.{Matrix, Refined, Refineds, none, more, erased, all_erased, int_with, bool_with, unit_type, function, tuple_of, array_with, data_with, map_with, type_variable}
use Rattle.lq_refined_rules.specs.Checks.Basis.{Basis}
use Rattle.lq_refined_rules.specs.Checks.Ready.{Where}
use Rattle.lq_refined_rules.specs.Checks.Tree.{has_template, last_operation, Use, Pure, Operation, pure, fun, if_else, match_on, call, tuple, build, make, fetch, store, divide, remainder, assert, assert_false, read, print, map_empty, map_add, map_find, Arms, no_arms, arm, Block, last, binding, recursive, Program, no_items, define, define_recursive, run_unit, run_any}
use Rattle.lq_sound_values.specs.NewNames.NewNames.{HasNoNames, HaveNoNames}
use Rattle.lq_sound_forms.specs.Pures.Pures.{EachUse}
use Rattle.lq_sound_forms.specs.Quiet.Quiet.{IsValueBlock}
use Rattle.lq_sound_scope.specs.Scalars.Scalar.{HasNoTypeVariables}

-- by this parameter, or not at all
abbrev pub IsNamedBy : ℕ → Option ℕ → Type 0
IsNamedBy y None = Unit {0}
IsNamedBy y (Some x) = x ≡ y

-- an argument that is a type variable has no entry in the matrix
abbrev pub LacksEntry : Matrix → ℕ → MlType → Type 0
LacksEntry m i (ml.var a) = (c j : ℕ) → cell m c j i ≡ []
LacksEntry m i _ = Unit {0}

-- of arguments from the i-th on
abbrev pub LackEntries : Matrix → ℕ → MlTypes → Type 0
LackEntries m i ml.no_types = Unit {0}
LackEntries m i (ml.more_types u us) = LacksEntry m i u × LackEntries m (suc i) us

-- A type of numbers, truth values, unit, type variables, tuples of scalar types, and arrays, maps, functions and datatypes of these, whose
-- elements and arguments have no names. In a datatype's matrix nothing is said of arguments that are type variables.
abbrev mutual
  pub IsScalar : Refined → Type 0
  IsScalar (int_with p) = Unit {0}
  IsScalar (bool_with p) = Unit {0}
  IsScalar unit_type = Unit {0}
  IsScalar (function x a b) = IsScalar a × HasNoNames a × IsScalar b
  IsScalar (tuple_of ts) = AreScalar ts
  IsScalar (array_with e p) = IsScalar e × HasNoNames e
  IsScalar (data_with d ts m p) = AreScalar ts × HaveNoNames ts × LackEntries m 0 (all_erased ts)
  IsScalar (map_with e p) = IsScalar e × HasNoNames e
  IsScalar (type_variable i) = Unit {0}

  pub AreScalar : Refineds → Type 0
  AreScalar none = Unit {0}
  AreScalar (more t ts) = IsScalar t × AreScalar ts

-- and no function in it names its argument
abbrev pub IsNameless : Refined → Type 0
IsNameless t = IsScalar t × HasNoNames t

-- A type of a function whose argument is named by this parameter or not at all, and whose result is of these; else one without names.
abbrev pub IsFunctionBy : ℕ → (Refined → Type 0) → Refined → Type 0
IsFunctionBy y result (function x a r) = IsNamedBy y x × IsNameless a × result r
IsFunctionBy y result (int_with p) = IsNameless (int_with p)
IsFunctionBy y result (bool_with p) = IsNameless (bool_with p)
IsFunctionBy y result unit_type = IsNameless unit_type
IsFunctionBy y result (tuple_of ts) = IsNameless (tuple_of ts)
IsFunctionBy y result (array_with e p) = IsNameless (array_with e p)
IsFunctionBy y result (data_with d ts m p) = IsNameless (data_with d ts m p)
IsFunctionBy y result (map_with e p) = IsNameless (map_with e p)
IsFunctionBy y result (type_variable i) = IsNameless (type_variable i)

-- A type for what is written: where that is a function, its type may name its argument by the parameter, and so on where its body is a
-- function; else there are no names.
abbrev mutual
  pub IsBlockFor : Block → Refined → Type 0
  IsBlockFor (last l o) t = IsOperationFor o t
  IsBlockFor (binding x l o b) t = IsNameless t
  IsBlockFor (recursive g p y b c) t = IsNameless t

  pub IsOperationFor : Operation → Refined → Type 0
  IsOperationFor (fun p y b) t = IsFunctionBy y (λ r. IsBlockFor b r) t
  IsOperationFor (pure e) t = IsNameless t
  IsOperationFor (if_else p c a b) t = IsNameless t
  IsOperationFor (match_on p u arms) t = IsNameless t
  IsOperationFor (call g a) t = IsNameless t
  IsOperationFor (tuple es) t = IsNameless t
  IsOperationFor (build p c es) t = IsNameless t
  IsOperationFor (make p n e) t = IsNameless t
  IsOperationFor (fetch u i) t = IsNameless t
  IsOperationFor (store u i e) t = IsNameless t
  IsOperationFor (divide x y) t = IsNameless t
  IsOperationFor (remainder x y) t = IsNameless t
  IsOperationFor (assert e) t = IsNameless t
  IsOperationFor (assert_false p) t = IsNameless t
  IsOperationFor (read e) t = IsNameless t
  IsOperationFor (print e) t = IsNameless t
  IsOperationFor (map_empty p) t = IsNameless t
  IsOperationFor (map_add p k e m) t = IsNameless t
  IsOperationFor (map_find k m) t = IsNameless t

-- of a function of this parameter and body
abbrev pub IsFunctionFor : ℕ → Block → Refined → Type 0
IsFunctionFor y b t = IsFunctionBy y (λ r. IsBlockFor b r) t

-- the types that a use puts for variables are scalar and without names
abbrev pub AreArgumentsNameless : Basis → Option ℕ → Type 0
AreArgumentsNameless P None = Unit {0}
AreArgumentsNameless P (Some i) = AreScalar (P.type_arguments i) × HaveNoNames (P.type_arguments i)

abbrev pub HasNamelessArguments : Basis → Use → Type 0
HasNamelessArguments P u = AreArgumentsNameless P u.type_arguments

-- each use in the expressions is so
abbrev pub EachUseIn : (Use → Type 0) → List Pure → Type 0
EachUseIn C [] = Unit {0}
EachUseIn C (e ∷ es) = EachUse C e × EachUseIn C es

module _ (C : Use → Type 0) where
  -- Forms that are scalar, whatever the templates, where each use is so.
  abbrev mutual
    pub HasForms : Operation → Type 0
    HasForms (pure e) = EachUse C e
    HasForms (fun p y b) = BlockHasForms b
    HasForms (if_else p c a b) = EachUse C c × BlockHasForms a × BlockHasForms b
    HasForms (match_on p u arms) = C u × ArmsHaveForms arms
    HasForms (call g a) = EachUse C g × EachUse C a
    HasForms (tuple es) = EachUseIn C es
    HasForms (build p c es) = EachUseIn C es
    HasForms (make p n e) = EachUse C n × EachUse C e
    HasForms (fetch u i) = C u × EachUse C i
    HasForms (store u i e) = C u × EachUse C i × EachUse C e
    HasForms (divide x y) = EachUse C x × EachUse C y
    HasForms (remainder x y) = EachUse C x × EachUse C y
    HasForms (assert e) = EachUse C e
    HasForms (assert_false p) = Unit {0}
    HasForms (read e) = EachUse C e
    HasForms (print e) = EachUse C e
    HasForms (map_empty p) = ⊥
    HasForms (map_add p k e m) = ⊥
    HasForms (map_find k m) = ⊥

    pub BlockHasForms : Block → Type 0
    BlockHasForms (last l o) = HasForms o
    BlockHasForms (binding x l o b) = HasForms o × BlockHasForms b
    BlockHasForms (recursive f p y b c) = BlockHasForms b × BlockHasForms c

    pub ArmsHaveForms : Arms → Type 0
    ArmsHaveForms no_arms = Unit {0}
    ArmsHaveForms (arm q b arms) = BlockHasForms b × ArmsHaveForms arms

abbrev pub function_point : Operation → ℕ
function_point (fun p y b) = p
function_point _ = 0

-- the point of a definition's type: its own, or that of the function in which it ends
abbrev pub end_point : Block → ℕ → ℕ
end_point b k = cond (has_template b) k (function_point (last_operation b))

-- there is an arm
abbrev pub HasArm : Arms → Type 0
HasArm no_arms = ⊥
HasArm (arm q b arms) = Unit {0}

module _ (P : Basis) where
  -- where no type is expected of a function, a conditional or a match, its template is one of what is written
  abbrev pub IsGivenWritten : Operation → Type 0
  IsGivenWritten (fun p y b) = IsFunctionFor y b (P.template p)
  IsGivenWritten (if_else p c a b) = IsNameless (P.template p)
  IsGivenWritten (match_on p u arms) = IsNameless (P.template p)
  IsGivenWritten _ = Unit {0}

  -- what is written, where each use is so
  module _ (C : Use → Type 0) where
    abbrev mutual
      pub IsOperationWritten : Operation → Type 0
      IsOperationWritten (pure e) = EachUse C e
      IsOperationWritten (fun p y b) = IsBlockWritten true b
      IsOperationWritten (if_else p c a b) = EachUse C c × IsBlockWritten true a × IsBlockWritten true b
      IsOperationWritten (match_on p u arms) = C u × HasArm arms × AreArmsWritten arms
      IsOperationWritten (call g a) = EachUse C g × EachUse C a
      IsOperationWritten (tuple es) = EachUseIn C es
      IsOperationWritten (build p c es) = EachUseIn C es × IsNameless (P.template p)
      IsOperationWritten (make p n e) = EachUse C n × EachUse C e × IsNameless (P.template p)
      IsOperationWritten (fetch u i) = C u × EachUse C i
      IsOperationWritten (store u i e) = C u × EachUse C i × EachUse C e
      IsOperationWritten (divide x y) = EachUse C x × EachUse C y
      IsOperationWritten (remainder x y) = EachUse C x × EachUse C y
      IsOperationWritten (assert e) = EachUse C e
      IsOperationWritten (assert_false p) = IsNameless (P.template p)
      IsOperationWritten (read e) = EachUse C e
      IsOperationWritten (print e) = EachUse C e
      IsOperationWritten (map_empty p) = ⊥
      IsOperationWritten (map_add p k e m) = ⊥
      IsOperationWritten (map_find k m) = ⊥

      -- and whether a type is expected of its last operation
      pub IsBlockWritten : Bool → Block → Type 0
      IsBlockWritten g (last l o) = IsOperationWritten o × Where g (Unit {0}) (IsGivenWritten o)
      IsBlockWritten g (binding x l o b) = IsOperationWritten o × IsGivenWritten o × IsBlockWritten g b
      IsBlockWritten g (recursive f p y b c) = IsFunctionFor y b (P.template p) × IsBlockWritten true b × IsBlockWritten g c

      pub AreArmsWritten : Arms → Type 0
      AreArmsWritten no_arms = Unit {0}
      AreArmsWritten (arm q b arms) = IsBlockWritten true b × AreArmsWritten arms

    abbrev pub AreItemsWritten : Program → Type 0
    AreItemsWritten no_items = Unit {0}
    AreItemsWritten (define x l k b rest) =
        IsBlockWritten false b × (IsValueBlock b ⊎ HasNoTypeVariables (erased (P.template (end_point b k)))) × AreItemsWritten rest
    AreItemsWritten (define_recursive g p y b rest) = IsFunctionFor y b (P.template p) × IsBlockWritten true b × AreItemsWritten rest
    AreItemsWritten (run_unit b rest) = IsBlockWritten true b × AreItemsWritten rest
    AreItemsWritten (run_any b rest) = IsBlockWritten false b × AreItemsWritten rest

-- and each use puts scalar types without names for variables
abbrev pub IsWritten : Basis → Program → Type 0
IsWritten P p = AreItemsWritten P (HasNamelessArguments P) p

-- the template of a definition that has one of its own names no argument
abbrev pub AreDefinitionsNameless : Basis → Program → Type 0
AreDefinitionsNameless P no_items = Unit {0}
AreDefinitionsNameless P (define x l k b rest) = Where (has_template b) (IsNameless (P.template k)) (Unit {0}) × AreDefinitionsNameless P rest
AreDefinitionsNameless P (define_recursive g p y b rest) = AreDefinitionsNameless P rest
AreDefinitionsNameless P (run_unit b rest) = AreDefinitionsNameless P rest
AreDefinitionsNameless P (run_any b rest) = AreDefinitionsNameless P rest
