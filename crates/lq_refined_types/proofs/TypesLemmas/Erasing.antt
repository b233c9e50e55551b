-- Operations keep simple types.
use Rattle.std.proofs.Common.{◌≡◌, ℕ, zero, suc, ◌+◌, Bool, true, false, ◌==◌, cond, [], ◌∷◌, Option, Some, None, refl, sym, ap, ap₂, ◌∙◌, arith}
use Rattle.std.proofs.lemmas.Bool.{eqb-true, and_parts}
use Rattle.lq_refined_types.specs.Parts.Assignment.{Assignment}
use Rattle.lq_refined_types.specs.Parts.Part.{Parts, Scopes}
use Rattle.lq_refined_types.specs.Parts.Substitution.{Atom, Subst, swap}
use Rattle.lq_text_tree.specs.MlType as ml
use Rattle.lq_text_tree.specs.MlType.{MlType, MlTypes}
use Rattle.lq_text_tree.specs.Types as types
use Rattle.lq_refined_types.specs.Types.Operations.{instantiated, all_instantiated, atom_of, symbol_of, self_by, self_type, type_by, types_by, applied, renamed, twin, twins, twin_binder, under, all_under}
use Rattle.lq_refined_types.specs.Types.Refined.{Matrix, Refined, int_with, bool_with, unit_type, function, tuple_of, array_with, data_with, map_with, type_variable, Refineds, none, more, Kind, number, truth_value, object, other, kind, type_at, count, with_top, erased, all_erased}
use Rattle.lq_refined_types.specs.Types.Unfolding.{bare, all_bare, are_parameters, is_again, pushed, unfolded_from}

pub with_top-erased : (q : Parts) (t : Refined) → erased (with_top q t) ≡ erased t
with_top-erased q (int_with p) = refl
with_top-erased q (bool_with p) = refl
with_top-erased q unit_type = refl
with_top-erased q (function x a b) = refl
with_top-erased q (tuple_of ts) = refl
with_top-erased q (array_with e p) = refl
with_top-erased q (data_with d ts m p) = refl
with_top-erased q (map_with e p) = refl
with_top-erased q (type_variable i) = refl

self_by-erased : (k : Kind) (a : Atom) (t : Refined) → erased (self_by k a t) ≡ erased t
self_by-erased number a t = with_top-erased _ t
self_by-erased truth_value a t = with_top-erased _ t
self_by-erased object a t = with_top-erased _ t
self_by-erased other a t = refl

pub self_type-erased : (t : Refined) (a : Atom) → erased (self_type t a) ≡ erased t
self_type-erased t a = self_by-erased (kind t) a t

module _ (scopes : Scopes) where
  mutual
    pub type_by-erased : (θ : Subst) (t : Refined) → erased (type_by scopes θ t) ≡ erased t
    type_by-erased θ (int_with p) = refl
    type_by-erased θ (bool_with p) = refl
    type_by-erased θ unit_type = refl
    type_by-erased θ (function x a b) = ap₂ ml.arrow (type_by-erased θ a) (type_by-erased θ b)
    type_by-erased θ (tuple_of ts) = ap ml.tuple (types_by-erased θ ts)
    type_by-erased θ (array_with e p) = ap ml.array (type_by-erased θ e)
    type_by-erased θ (data_with d ts m p) = ap (ml.named d) (types_by-erased θ ts)
    type_by-erased θ (map_with e p) = ap ml.map_of (type_by-erased θ e)
    type_by-erased θ (type_variable i) = refl

    types_by-erased : (θ : Subst) (ts : Refineds) → all_erased (types_by scopes θ ts) ≡ all_erased ts
    types_by-erased θ none = refl
    types_by-erased θ (more t ts) = ap₂ ml.more_types (type_by-erased θ t) (types_by-erased θ ts)

  applied-erased : (x : Option ℕ) (a : Atom) (t : Refined) → erased (applied scopes x a t) ≡ erased t
  applied-erased None a t = refl
  applied-erased (Some x) a t = type_by-erased (swap (symbol_of x) a ∷ []) t

  either-erased : (b : Bool) (t u : Refined) → erased u ≡ erased t → erased (cond b t u) ≡ erased t
  either-erased true t u h = refl
  either-erased false t u h = h

  renamed-erased : (x z : Option ℕ) (k : Kind) (t : Refined) → erased (renamed scopes x z k t) ≡ erased t
  renamed-erased None z k t = refl
  renamed-erased (Some x) None k t = refl
  renamed-erased (Some x) (Some z) k t =
      either-erased (x == z) t (applied scopes (Some x) (atom_of k (symbol_of z)) t) (applied-erased (Some x) (atom_of k (symbol_of z)) t)

  mutual
    pub twin-erased : (t : Refined) → erased (twin scopes t) ≡ erased t
    twin-erased (int_with p) = refl
    twin-erased (bool_with p) = refl
    twin-erased unit_type = refl
    twin-erased (function x a b) =
        ap₂ ml.arrow (twin-erased a) (renamed-erased x (twin_binder x) (kind a) (twin scopes b) ∙ twin-erased b)
    twin-erased (tuple_of ts) = ap ml.tuple (twins-erased ts)
    twin-erased (array_with e p) = ap ml.array (twin-erased e)
    twin-erased (data_with d ts m p) = ap (ml.named d) (twins-erased ts)
    twin-erased (map_with e p) = ap ml.map_of (twin-erased e)
    twin-erased (type_variable i) = refl

    twins-erased : (ts : Refineds) → all_erased (twins scopes ts) ≡ all_erased ts
    twins-erased none = refl
    twins-erased (more t ts) = ap₂ ml.more_types (twin-erased t) (twins-erased ts)

module _ (A : Assignment) where
  mutual
    pub under-erased : (t : Refined) → erased (under A t) ≡ erased t
    under-erased (int_with p) = refl
    under-erased (bool_with p) = refl
    under-erased unit_type = refl
    under-erased (function x a b) = ap₂ ml.arrow (under-erased a) (under-erased b)
    under-erased (tuple_of ts) = ap ml.tuple (all_under-erased ts)
    under-erased (array_with e p) = ap ml.array (under-erased e)
    under-erased (data_with d ts m p) = ap (ml.named d) (all_under-erased ts)
    under-erased (map_with e p) = ap ml.map_of (under-erased e)
    under-erased (type_variable i) = refl

    all_under-erased : (ts : Refineds) → all_erased (all_under A ts) ≡ all_erased ts
    all_under-erased none = refl
    all_under-erased (more t ts) = ap₂ ml.more_types (under-erased t) (all_under-erased ts)

-- ---- type variables

at-erased : (ts : Refineds) (i : ℕ) → erased (type_at ts i) ≡ types.type_at (all_erased ts) i
at-erased none i = refl
at-erased (more t ts) zero = refl
at-erased (more t ts) (suc i) = at-erased ts i

module _ (by : Refineds) where
  mutual
    pub instantiated-erased : (t : Refined) → erased (instantiated by t) ≡ types.put (types.type_at (all_erased by)) (erased t)
    instantiated-erased (int_with p) = refl
    instantiated-erased (bool_with p) = refl
    instantiated-erased unit_type = refl
    instantiated-erased (function x a b) = ap₂ ml.arrow (instantiated-erased a) (instantiated-erased b)
    instantiated-erased (tuple_of ts) = ap ml.tuple (all_instantiated-erased ts)
    instantiated-erased (array_with e p) = ap ml.array (instantiated-erased e)
    instantiated-erased (data_with d ts m p) = ap (ml.named d) (all_instantiated-erased ts)
    instantiated-erased (map_with e p) = ap ml.map_of (instantiated-erased e)
    instantiated-erased (type_variable i) = at-erased by i

    all_instantiated-erased : (ts : Refineds) → all_erased (all_instantiated by ts) ≡ types.put_all (types.type_at (all_erased by)) (all_erased ts)
    all_instantiated-erased none = refl
    all_instantiated-erased (more t ts) = ap₂ ml.more_types (instantiated-erased t) (all_instantiated-erased ts)

  mutual
    bare-erased : (f : MlType) → erased (bare by f) ≡ types.put (types.type_at (all_erased by)) f
    bare-erased ml.int = refl
    bare-erased ml.bool = refl
    bare-erased ml.unit = refl
    bare-erased (ml.var i) = at-erased by i
    bare-erased (ml.arrow a b) = ap₂ ml.arrow (bare-erased a) (bare-erased b)
    bare-erased (ml.tuple fs) = ap ml.tuple (all_bare-erased fs)
    bare-erased (ml.array a) = ap ml.array (bare-erased a)
    bare-erased (ml.named d fs) = ap (ml.named d) (all_bare-erased fs)
    bare-erased (ml.map_of a) = ap ml.map_of (bare-erased a)

    all_bare-erased : (fs : MlTypes) → all_erased (all_bare by fs) ≡ types.put_all (types.type_at (all_erased by)) fs
    all_bare-erased ml.no_types = refl
    all_bare-erased (ml.more_types f fs) = ap₂ ml.more_types (bare-erased f) (all_bare-erased fs)

-- ---- unfolding

-- where the variables from i on stand for these, the parameters from i on are these
parameters : (by : ℕ → MlType) (i : ℕ) (ts : Refineds) (fs : MlTypes) → ((k : ℕ) → by (i + k) ≡ types.type_at (all_erased ts) k)
    → are_parameters i (count ts) fs ≡ true → all_erased ts ≡ types.put_all by fs
parameters by i none ml.no_types at h = refl
parameters by i none (ml.more_types f fs) at h = cc
parameters by i (more t ts) ml.no_types at h = cc
parameters by i (more t ts) (ml.more_types (ml.var j) fs) at h =
    let here = and_parts (i == j) (are_parameters (suc i) (count ts) fs) h in
    ap₂ ml.more_types (sym (ap by (sym (eqb-true i j here.0) ∙ sym (past_nothing i)) ∙ at 0))
    (parameters by (suc i) ts fs (λ k. ap by (past_one i k) ∙ at (suc k)) here.1)
  where
    past_nothing : (i : ℕ) → i + 0 ≡ i
    past_nothing i = omega arith

    past_one : (i k : ℕ) → suc i + k ≡ i + suc k
    past_one i k = omega arith
parameters by i (more t ts) (ml.more_types ml.int fs) at h = cc
parameters by i (more t ts) (ml.more_types ml.bool fs) at h = cc
parameters by i (more t ts) (ml.more_types ml.unit fs) at h = cc
parameters by i (more t ts) (ml.more_types (ml.arrow a b) fs) at h = cc
parameters by i (more t ts) (ml.more_types (ml.tuple gs) fs) at h = cc
parameters by i (more t ts) (ml.more_types (ml.array a) fs) at h = cc
parameters by i (more t ts) (ml.more_types (ml.named d gs) fs) at h = cc
parameters by i (more t ts) (ml.more_types (ml.map_of a) fs) at h = cc

module _ (scopes : Scopes) (θ : Subst) where
  pushed-erased : (m : Matrix) (c j i : ℕ) (ts : Refineds) → all_erased (pushed scopes θ m c j i ts) ≡ all_erased ts
  pushed-erased m c j i none = refl
  pushed-erased m c j i (more t ts) = ap₂ ml.more_types (with_top-erased _ t) (pushed-erased m c j (suc i) ts)

  again-erased : (d : ℕ) (ts : Refineds) (m : Matrix) (c j : ℕ) (f : MlType) → is_again d (count ts) f ≡ true
      → erased (data_with d (pushed scopes θ m c j 0 ts) m []) ≡ types.put (types.type_at (all_erased ts)) f
  again-erased d ts m c j (ml.named e fs) h =
      let here = and_parts (d == e) (are_parameters 0 (count ts) fs) h in
      ap₂ ml.named (eqb-true d e here.0)
      (pushed-erased m c j 0 ts ∙ parameters (types.type_at (all_erased ts)) 0 ts fs (λ k. ap (types.type_at (all_erased ts)) (from_nothing k)) here.1)
    where
      from_nothing : (k : ℕ) → 0 + k ≡ k
      from_nothing k = omega arith
  again-erased d ts m c j ml.int h = cc
  again-erased d ts m c j ml.bool h = cc
  again-erased d ts m c j ml.unit h = cc
  again-erased d ts m c j (ml.var i) h = cc
  again-erased d ts m c j (ml.arrow a b) h = cc
  again-erased d ts m c j (ml.tuple gs) h = cc
  again-erased d ts m c j (ml.array a) h = cc
  again-erased d ts m c j (ml.map_of a) h = cc

  field-erased : (d : ℕ) (ts : Refineds) (m : Matrix) (c j : ℕ) (f : MlType) (b : Bool) → is_again d (count ts) f ≡ b
      → erased (cond b (data_with d (pushed scopes θ m c j 0 ts) m []) (bare ts f)) ≡ types.put (types.type_at (all_erased ts)) f
  field-erased d ts m c j f true h = again-erased d ts m c j f h
  field-erased d ts m c j f false h = bare-erased ts f

  pub unfolded-erased : (d : ℕ) (ts : Refineds) (m : Matrix) (c j : ℕ) (fs : MlTypes)
      → all_erased (unfolded_from scopes θ d ts m c j fs) ≡ types.put_all (types.type_at (all_erased ts)) fs
  unfolded-erased d ts m c j ml.no_types = refl
  unfolded-erased d ts m c j (ml.more_types f fs) =
      ap₂ ml.more_types (field-erased d ts m c j f (is_again d (count ts) f) refl) (unfolded-erased d ts m c (suc j) fs)
