-- The simple types of what a type is made of.
use Rattle.std.proofs.Common.{◌≡◌, ◌∙◌, ℕ, Bool, true, false, ◌==◌, cond, [], ◌∷◌, Option, Some, None, refl, ap}
use Rattle.lq_refined_rules.specs.Checks.Operation.{body_type}
use Rattle.lq_refined_rules.specs.Checks.Pure.{variable_type, variable_by}
use Rattle.lq_refined_rules.specs.Checks.Typing.{first_type, rest_types}
use Rattle.lq_refined_types.specs.Parts.Part.{Scopes}
use Rattle.lq_refined_types.specs.Parts.Substitution.{swap}
use Rattle.lq_refined_types.specs.Types.Operations.{atom_of, renamed, symbol_of, type_by}
use Rattle.lq_refined_types.specs.Types.Refined.{Refined, int_with, bool_with, unit_type, function, tuple_of, array_with, data_with, map_with, type_variable, Refineds, none, more, Kind, number, truth_value, object, other, kind, argument_of, components_of, arguments_of, erased, all_erased}
use Rattle.lq_refined_types.proofs.TypesLemmas.Erasing.{self_type-erased, twin-erased, type_by-erased}
use Rattle.lq_refined_types.specs.Subtyping.Splitting.{first_of, rest_of}
use Rattle.lq_text_tree.specs.MlType as ml
use Rattle.lq_text_tree.specs.MlType.{MlType, MlTypes}
use Rattle.lq_sound_adequacy.specs.Obligations.Kinds.{name_kind}
use Rattle.lq_sound_adequacy.specs.Programs.Kinds.{simple_kind}

-- a type has the kind of its simple type
pub kind_erased : (t : Refined) → name_kind t ≡ simple_kind (erased t)
kind_erased (int_with p) = refl
kind_erased (bool_with p) = refl
kind_erased unit_type = refl
kind_erased (function x a b) = refl
kind_erased (tuple_of ts) = refl
kind_erased (array_with e p) = refl
kind_erased (data_with d ts m p) = refl
kind_erased (map_with e p) = refl
kind_erased (type_variable i) = refl

-- ---- functions

abbrev from_of : MlType → MlType
from_of (ml.arrow a b) = a
from_of _ = ml.unit

abbrev to_of : MlType → MlType
to_of (ml.arrow a b) = b
to_of _ = ml.unit

pub argument_erased : (t : Refined) (a b : MlType) → erased t ≡ ml.arrow a b → erased (argument_of t) ≡ a
argument_erased (function x c d) a b e = ap from_of e
argument_erased (int_with p) a b e = cc
argument_erased (bool_with p) a b e = cc
argument_erased unit_type a b e = cc
argument_erased (tuple_of ts) a b e = cc
argument_erased (array_with c p) a b e = cc
argument_erased (data_with d ts m p) a b e = cc
argument_erased (map_with c p) a b e = cc
argument_erased (type_variable i) a b e = cc

renamed_erased : (scopes : Scopes) (x : Option ℕ) (y : ℕ) (k : Kind) (t : Refined) → erased (renamed scopes x (Some y) k t) ≡ erased t
renamed_erased scopes None y k t = refl
renamed_erased scopes (Some x) y k t = by (x == y)
  where
    by : (b : Bool) → erased (cond b t (type_by scopes (swap (symbol_of x) (atom_of k (symbol_of y)) ∷ []) t)) ≡ erased t
    by true = refl
    by false = type_by-erased scopes (swap (symbol_of x) (atom_of k (symbol_of y)) ∷ []) t

pub body_erased : (scopes : Scopes) (y : ℕ) (t : Refined) (a b : MlType) → erased t ≡ ml.arrow a b → erased (body_type scopes y t) ≡ b
body_erased scopes y (function x c d) a b e = renamed_erased scopes x y (kind c) d ∙ ap to_of e
body_erased scopes y (int_with p) a b e = cc
body_erased scopes y (bool_with p) a b e = cc
body_erased scopes y unit_type a b e = cc
body_erased scopes y (tuple_of ts) a b e = cc
body_erased scopes y (array_with c p) a b e = cc
body_erased scopes y (data_with d ts m p) a b e = cc
body_erased scopes y (map_with c p) a b e = cc
body_erased scopes y (type_variable i) a b e = cc

-- ---- tuples and datatypes

abbrev components_in : MlType → MlTypes
components_in (ml.tuple ts) = ts
components_in _ = ml.no_types

pub components_erased : (t : Refined) (us : MlTypes) → erased t ≡ ml.tuple us → all_erased (components_of t) ≡ us
components_erased (tuple_of ts) us e = ap components_in e
components_erased (int_with p) us e = cc
components_erased (bool_with p) us e = cc
components_erased unit_type us e = cc
components_erased (function x a b) us e = cc
components_erased (array_with c p) us e = cc
components_erased (data_with d ts m p) us e = cc
components_erased (map_with c p) us e = cc
components_erased (type_variable i) us e = cc

abbrev arguments_in : MlType → MlTypes
arguments_in (ml.named d ts) = ts
arguments_in _ = ml.no_types

pub arguments_erased : (t : Refined) (d : ℕ) (us : MlTypes) → erased t ≡ ml.named d us → all_erased (arguments_of t) ≡ us
arguments_erased (data_with c ts m p) d us e = ap arguments_in e
arguments_erased (int_with p) d us e = cc
arguments_erased (bool_with p) d us e = cc
arguments_erased unit_type d us e = cc
arguments_erased (function x a b) d us e = cc
arguments_erased (tuple_of ts) d us e = cc
arguments_erased (array_with c p) d us e = cc
arguments_erased (map_with c p) d us e = cc
arguments_erased (type_variable i) d us e = cc

pub first_erased : (ts : Refineds) (a : MlType) (us : MlTypes) → all_erased ts ≡ ml.more_types a us → erased (first_of ts) ≡ a
first_erased none a us e = cc
first_erased (more t ts) a us e = ap first_type e

pub rest_erased : (ts : Refineds) (a : MlType) (us : MlTypes) → all_erased ts ≡ ml.more_types a us → all_erased (rest_of ts) ≡ us
rest_erased none a us e = cc
rest_erased (more t ts) a us e = ap rest_types e

-- ---- variables

pub variable_erased : (scopes : Scopes) (x : ℕ) (t : Refined) → erased (variable_type scopes x t) ≡ erased t
variable_erased scopes x t = by (kind t)
  where
    by : (k : Kind) → erased (variable_by scopes k x t) ≡ erased t
    by number = self_type-erased t (atom_of number (symbol_of x))
    by truth_value = self_type-erased t (atom_of truth_value (symbol_of x))
    by object = self_type-erased t (atom_of object (symbol_of x))
    by other = twin-erased scopes t
