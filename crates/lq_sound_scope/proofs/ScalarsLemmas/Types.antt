-- What operations on types keep of scalar types, and of their names of arguments.
use Rattle.std.proofs.Common.{◌≡◌, ℕ, suc, ◌<◌, ◌≤◌, ◌^◌, Bool, true, false, ◌==◌, cond, [], ◌∷◌, Option, Some, None, refl, sym, ap, ap₂, subst, ◌∙◌}
use Rattle.lq_sound_forms.specs.Calls.Operands.{KindsAgree, AllKindsAgree}
use Rattle.lq_sound_values.specs.Inclusion.Symbols.{Symbols, with_symbol}
use Rattle.lq_sound_scope.specs.Scopes.Over.{IsWithin}
use Rattle.lq_sound_values.specs.Instantiation.Instances.{HasNoVariables, HaveNoVariables}
use Rattle.lq_sound_scope.specs.Operations.Puts.{AllNamesAway, NamesAway}
use Rattle.lq_sound_values.specs.NewNames.NewNames.{HasNoNames, HaveNoNames}
use Rattle.lq_refined_types.specs.Parts.Part.{Scopes}
use Rattle.lq_refined_types.specs.Parts.Substitution.{Atom, Subst, swap}
use Rattle.lq_refined_types.specs.Types.Context.{Context, type_in}
use Rattle.lq_refined_types.specs.Types.Operations.{applied, atom_of, renamed, symbol_of, twin, twins, twin_binder, twin_of, type_by, types_by}
use Rattle.lq_refined_types.specs.Types.Refined.{Refined, Refineds, none, more, int_with, bool_with, unit_type, function, tuple_of, array_with, data_with, map_with, type_variable, Kind, kind, count, erased, all_erased}
use Rattle.lq_refined_types.specs.Types.Refined as refined
use Rattle.lq_refined_types.proofs.TypesLemmas.Erasing.{type_by-erased, twin-erased}
use Rattle.lq_sound_values.specs.Twins.Names.{IsNoVariable, TwinsOutside, AllTwinsOutside, with_twins}
use Rattle.lq_sound_values.specs.Runs.Closed.{names_in}
use Rattle.lq_sound_values.proofs.RunsLemmas.Closing.{or_right, or_parts, within_with}
use Rattle.lq_text_tree.specs.MlType as ml
use Rattle.lq_text_tree.specs.MlType.{MlType, MlTypes}
use Rattle.lq_sound_scope.specs.Scalars.Scalar.{HasNoTypeVariables, HaveNoTypeVariables}
use Rattle.lq_sound_scope.specs.Scalars.Written.{IsScalar, AreScalar, LackEntries}
use Rattle.lq_sound_scope.proofs.ScalarsLemmas.NameKinds.{Naming, is_variable, name_kind}
use Rattle.lq_sound_scope.proofs.ScalarsLemmas.Twins.{AreSmall, big_small, clash, false_unless, not_in, twin_big, twin_outside, twin_twin, within_twins}

-- ---- kinds

abbrev kind_of_type : MlType → Kind
kind_of_type ml.int = refined.number
kind_of_type ml.bool = refined.truth_value
kind_of_type ml.unit = refined.other
kind_of_type (ml.var i) = refined.other
kind_of_type (ml.arrow a b) = refined.other
kind_of_type (ml.tuple ts) = refined.other
kind_of_type (ml.array a) = refined.object
kind_of_type (ml.named d ts) = refined.object
kind_of_type (ml.map_of a) = refined.other

own_kind : (t : Refined) → kind t ≡ kind_of_type (erased t)
own_kind (int_with p) = refl
own_kind (bool_with p) = refl
own_kind unit_type = refl
own_kind (function x a b) = refl
own_kind (tuple_of ts) = refl
own_kind (array_with e p) = refl
own_kind (data_with d ts m p) = refl
own_kind (map_with e p) = refl
own_kind (type_variable i) = refl

pub same_kind : (s t : Refined) → erased s ≡ erased t → kind s ≡ kind t
same_kind s t e = own_kind s ∙ ap kind_of_type e ∙ sym (own_kind t)

-- no variable stands in a type whose simple type has none
mutual
  pub none_variable : (t : Refined) → HasNoTypeVariables (erased t) → HasNoVariables t
  none_variable (int_with p) s = tt
  none_variable (bool_with p) s = tt
  none_variable unit_type s = tt
  none_variable (function x a b) s = (none_variable a s.0, none_variable b s.1)
  none_variable (tuple_of ts) s = all_none_variable ts s
  none_variable (array_with e p) s = none_variable e s
  none_variable (data_with d ts m p) s = all_none_variable ts s
  none_variable (map_with e p) s = none_variable e s
  none_variable (type_variable i) s = absurd s

  all_none_variable : (ts : Refineds) → HaveNoTypeVariables (all_erased ts) → HaveNoVariables ts
  all_none_variable none s = tt
  all_none_variable (more t ts) s = (none_variable t s.0, all_none_variable ts s.1)

-- ---- types without names

mutual
  pub apart_nameless : (Q : Symbols) (t : Refined) → IsScalar t → HasNoNames t → NamesAway Q t
  apart_nameless Q (int_with p) s h = tt
  apart_nameless Q (bool_with p) s h = tt
  apart_nameless Q unit_type s h = tt
  apart_nameless Q (function None a b) s h = (apart_nameless Q a s.0 h.0, apart_nameless Q b s.2 h.1)
  apart_nameless Q (function (Some x) a b) s h = absurd h
  apart_nameless Q (tuple_of ts) s h = all_apart_nameless Q ts s h
  apart_nameless Q (array_with e p) s h = apart_nameless Q e s.0 h
  apart_nameless Q (data_with d ts m p) s h = all_apart_nameless Q ts s.0 h
  apart_nameless Q (map_with e p) s h = apart_nameless Q e s.0 s.1
  apart_nameless Q (type_variable i) s h = tt

  all_apart_nameless : (Q : Symbols) (ts : Refineds) → AreScalar ts → HaveNoNames ts → AllNamesAway Q ts
  all_apart_nameless Q none s h = tt
  all_apart_nameless Q (more t ts) s h = (apart_nameless Q t s.0 h.0, all_apart_nameless Q ts s.1 h.1)

mutual
  kinds_nameless : (Γ : Context) (t : Refined) → IsScalar t → HasNoNames t → KindsAgree Γ t
  kinds_nameless Γ (int_with p) s h = tt
  kinds_nameless Γ (bool_with p) s h = tt
  kinds_nameless Γ unit_type s h = tt
  kinds_nameless Γ (function None a b) s h = (kinds_nameless Γ a s.0 h.0, kinds_nameless Γ b s.2 h.1)
  kinds_nameless Γ (function (Some x) a b) s h = absurd h
  kinds_nameless Γ (tuple_of ts) s h = all_kinds_nameless Γ ts s h
  kinds_nameless Γ (array_with e p) s h = kinds_nameless Γ e s.0 h
  kinds_nameless Γ (data_with d ts m p) s h = all_kinds_nameless Γ ts s.0 h
  kinds_nameless Γ (map_with e p) s h = tt
  kinds_nameless Γ (type_variable i) s h = tt

  all_kinds_nameless : (Γ : Context) (ts : Refineds) → AreScalar ts → HaveNoNames ts → AllKindsAgree Γ ts
  all_kinds_nameless Γ none s h = tt
  all_kinds_nameless Γ (more t ts) s h = (kinds_nameless Γ t s.0 h.0, all_kinds_nameless Γ ts s.1 h.1)

-- a scalar type's twins are outside of names that are small
mutual
  pub outside : (Q : Symbols) → AreSmall Q → (t : Refined) → IsScalar t → TwinsOutside Q t
  outside Q small (int_with p) s = tt
  outside Q small (bool_with p) s = tt
  outside Q small unit_type s = tt
  outside Q small (function None a b) s = (outside Q small a s.0, outside Q small b s.2)
  outside Q small (function (Some x) a b) s = (twin_outside Q small x, outside Q small a s.0, outside Q small b s.2)
  outside Q small (tuple_of ts) s = all_outside Q small ts s
  outside Q small (array_with e p) s = outside Q small e s.0
  outside Q small (data_with d ts m p) s = all_outside Q small ts s.0
  outside Q small (map_with e p) s = tt
  outside Q small (type_variable i) s = tt

  all_outside : (Q : Symbols) → AreSmall Q → (ts : Refineds) → AreScalar ts → AllTwinsOutside Q ts
  all_outside Q small none s = tt
  all_outside Q small (more t ts) s = (outside Q small t s.0, all_outside Q small ts s.1)

mutual
  pub apart_less : (Q R : Symbols) → IsWithin Q R → (t : Refined) → IsScalar t → NamesAway R t → NamesAway Q t
  apart_less Q R w (int_with p) s h = tt
  apart_less Q R w (bool_with p) s h = tt
  apart_less Q R w unit_type s h = tt
  apart_less Q R w (function None a b) s h = (apart_less Q R w a s.0 h.0, apart_less Q R w b s.2 h.1)
  apart_less Q R w (function (Some x) a b) s h = (
    not_in Q R w (symbol_of x) h.0,
    not_in Q R w (symbol_of (twin_of x)) h.1,
    apart_less Q R w a s.0 h.2,
    apart_less (with_twins Q x) (with_twins R x) (within_twins Q R w x) b s.2 h.3,
  )
  apart_less Q R w (tuple_of ts) s h = all_apart_less Q R w ts s h
  apart_less Q R w (array_with e p) s h = apart_less Q R w e s.0 h
  apart_less Q R w (data_with d ts m p) s h = all_apart_less Q R w ts s.0 h
  apart_less Q R w (map_with e p) s h = apart_less Q R w e s.0 h
  apart_less Q R w (type_variable i) s h = tt

  all_apart_less : (Q R : Symbols) → IsWithin Q R → (ts : Refineds) → AreScalar ts → AllNamesAway R ts → AllNamesAway Q ts
  all_apart_less Q R w none s h = tt
  all_apart_less Q R w (more t ts) s h = (apart_less Q R w t s.0 h.0, all_apart_less Q R w ts s.1 h.1)

pub name_within : (Q : Symbols) (x : ℕ) → IsWithin (with_symbol Q (symbol_of x)) (with_twins Q x)
name_within Q x = within_with (with_symbol Q (symbol_of x)) (symbol_of (twin_of x))

pub twins_within : (Q : Symbols) (x : ℕ) → IsWithin Q (with_twins Q x)
twins_within Q x y h = name_within Q x y (within_with Q (symbol_of x) y h)

-- ---- names of arguments and kinds

module _ (m : Naming) where
  is_no_variable : (t : Refined) → IsNoVariable t → is_variable t ≡ false
  is_no_variable (int_with p) h = refl
  is_no_variable (bool_with p) h = refl
  is_no_variable unit_type h = refl
  is_no_variable (function x a b) h = refl
  is_no_variable (tuple_of ts) h = refl
  is_no_variable (array_with e p) h = refl
  is_no_variable (data_with d ts n p) h = refl
  is_no_variable (map_with e p) h = refl
  is_no_variable (type_variable i) h = absurd h

  is_none : (t : Refined) → is_variable t ≡ false → IsNoVariable t
  is_none (int_with p) h = tt
  is_none (bool_with p) h = tt
  is_none unit_type h = tt
  is_none (function x a b) h = tt
  is_none (tuple_of ts) h = tt
  is_none (array_with e p) h = tt
  is_none (data_with d ts n p) h = tt
  is_none (map_with e p) h = tt
  is_none (type_variable i) h = cc

  -- a name of an argument that is one of all names has the argument's kind
  abbrev mutual
    pub IsNamed : Refined → Type 0
    IsNamed (function None a b) = IsNamed b
    IsNamed (function (Some x) a b) = (m.all (symbol_of x) ≡ true → m.kinds x ≡ name_kind a) × IsNamed b
    IsNamed (int_with p) = Unit {0}
    IsNamed (bool_with p) = Unit {0}
    IsNamed unit_type = Unit {0}
    IsNamed (tuple_of ts) = AreNamed ts
    IsNamed (array_with e p) = Unit {0}
    IsNamed (data_with d ts n p) = Unit {0}
    IsNamed (map_with e p) = Unit {0}
    IsNamed (type_variable i) = Unit {0}

    pub AreNamed : Refineds → Type 0
    AreNamed none = Unit {0}
    AreNamed (more t ts) = IsNamed t × AreNamed ts

  mutual
    pub named_nameless : (t : Refined) → HasNoNames t → IsNamed t
    named_nameless (int_with p) h = tt
    named_nameless (bool_with p) h = tt
    named_nameless unit_type h = tt
    named_nameless (function None a b) h = named_nameless b h.1
    named_nameless (function (Some x) a b) h = absurd h
    named_nameless (tuple_of ts) h = all_named_nameless ts h
    named_nameless (array_with e p) h = tt
    named_nameless (data_with d ts n p) h = tt
    named_nameless (map_with e p) h = tt
    named_nameless (type_variable i) h = tt

    all_named_nameless : (ts : Refineds) → HaveNoNames ts → AreNamed ts
    all_named_nameless none h = tt
    all_named_nameless (more t ts) h = (named_nameless t h.0, all_named_nameless ts h.1)

  -- of an environment: its names are small and of all names, and their types have their kinds
  abbrev pub HasKinds : Context → Type 0
  HasKinds Γ =
      (z : ℕ) → names_in Γ (symbol_of z) ≡ true
      → (z < 2 ^ 31) × (name_kind (type_in Γ (symbol_of z)) ≡ m.kinds z) × (m.all (symbol_of z) ≡ true)

  mutual
    pub kinds_agree : (Γ : Context) → HasKinds Γ → (t : Refined) → IsScalar t → IsNamed t → KindsAgree Γ t
    kinds_agree Γ f (int_with p) s h = tt
    kinds_agree Γ f (bool_with p) s h = tt
    kinds_agree Γ f unit_type s h = tt
    kinds_agree Γ f (function None a b) s h = (kinds_nameless Γ a s.0 s.1, kinds_agree Γ f b s.2 h)
    kinds_agree Γ f (function (Some x) a b) s h = (
      (λ e v.
          let k = f x e in
          let q = k.1 ∙ h.0 k.2 in
          (ap (λ n. n.0) q, is_none (type_in Γ (symbol_of x)) (ap (λ n. n.1) q ∙ is_no_variable a v))),
      kinds_nameless Γ a s.0 s.1,
      kinds_agree Γ f b s.2 h.1,
    )
    kinds_agree Γ f (tuple_of ts) s h = all_kinds_agree Γ f ts s h
    kinds_agree Γ f (array_with e p) s h = kinds_nameless Γ e s.0 s.1
    kinds_agree Γ f (data_with d ts n p) s h = all_kinds_nameless Γ ts s.0 s.1
    kinds_agree Γ f (map_with e p) s h = tt
    kinds_agree Γ f (type_variable i) s h = tt

    all_kinds_agree : (Γ : Context) → HasKinds Γ → (ts : Refineds) → AreScalar ts → AreNamed ts → AllKindsAgree Γ ts
    all_kinds_agree Γ f none s h = tt
    all_kinds_agree Γ f (more t ts) s h = (kinds_agree Γ f t s.0 h.0, all_kinds_agree Γ f ts s.1 h.1)

-- ---- what is put for names

module _ (scopes : Scopes) where
  mutual
    no_names_put : (θ : Subst) (t : Refined) → HasNoNames t → HasNoNames (type_by scopes θ t)
    no_names_put θ (int_with p) h = tt
    no_names_put θ (bool_with p) h = tt
    no_names_put θ unit_type h = tt
    no_names_put θ (function None a b) h = (no_names_put θ a h.0, no_names_put θ b h.1)
    no_names_put θ (function (Some x) a b) h = absurd h
    no_names_put θ (tuple_of ts) h = all_no_names_put θ ts h
    no_names_put θ (array_with e p) h = no_names_put θ e h
    no_names_put θ (data_with d ts m p) h = all_no_names_put θ ts h
    no_names_put θ (map_with e p) h = tt
    no_names_put θ (type_variable i) h = tt

    all_no_names_put : (θ : Subst) (ts : Refineds) → HaveNoNames ts → HaveNoNames (types_by scopes θ ts)
    all_no_names_put θ none h = tt
    all_no_names_put θ (more t ts) h = (no_names_put θ t h.0, all_no_names_put θ ts h.1)

  put_erased : (θ : Subst) (ts : Refineds) → all_erased ts ≡ all_erased (types_by scopes θ ts)
  put_erased θ none = refl
  put_erased θ (more t ts) = ap₂ ml.more_types (sym (type_by-erased scopes θ t)) (put_erased θ ts)

  twins_erased : (ts : Refineds) → all_erased ts ≡ all_erased (twins scopes ts)
  twins_erased none = refl
  twins_erased (more t ts) = ap₂ ml.more_types (sym (twin-erased scopes t)) (twins_erased ts)

  count_twin : (ts : Refineds) → count (twins scopes ts) ≡ count ts
  count_twin none = refl
  count_twin (more t ts) = ap suc (count_twin ts)

  mutual
    pub scalar_put : (θ : Subst) (t : Refined) → IsScalar t → IsScalar (type_by scopes θ t)
    scalar_put θ (int_with p) h = tt
    scalar_put θ (bool_with p) h = tt
    scalar_put θ unit_type h = tt
    scalar_put θ (function x a b) h = (scalar_put θ a h.0, no_names_put θ a h.1, scalar_put θ b h.2)
    scalar_put θ (tuple_of ts) h = all_scalar_put θ ts h
    scalar_put θ (array_with e p) h = (scalar_put θ e h.0, no_names_put θ e h.1)
    scalar_put θ (data_with d ts m p) h = (
      all_scalar_put θ ts h.0,
      all_no_names_put θ ts h.1,
      subst (λ (us : MlTypes). LackEntries m 0 us) (put_erased θ ts) h.2,
    )
    scalar_put θ (map_with e p) h = (scalar_put θ e h.0, no_names_put θ e h.1)
    scalar_put θ (type_variable i) h = h

    all_scalar_put : (θ : Subst) (ts : Refineds) → AreScalar ts → AreScalar (types_by scopes θ ts)
    all_scalar_put θ none h = tt
    all_scalar_put θ (more t ts) h = (scalar_put θ t h.0, all_scalar_put θ ts h.1)

  kind_put : (θ : Subst) (t : Refined) → name_kind (type_by scopes θ t) ≡ name_kind t
  kind_put θ (int_with p) = refl
  kind_put θ (bool_with p) = refl
  kind_put θ unit_type = refl
  kind_put θ (function x a b) = refl
  kind_put θ (tuple_of ts) = refl
  kind_put θ (array_with e p) = refl
  kind_put θ (data_with d ts m p) = refl
  kind_put θ (map_with e p) = refl
  kind_put θ (type_variable i) = refl

  -- scalar, with names of arguments apart from these
  abbrev pub IsApart : Symbols → Refined → Type 0
  IsApart Q t = IsScalar t × NamesAway Q t

  mutual
    apart_put : (Q : Symbols) (θ : Subst) (t : Refined) → IsScalar t → NamesAway Q t → NamesAway Q (type_by scopes θ t)
    apart_put Q θ (int_with p) s h = tt
    apart_put Q θ (bool_with p) s h = tt
    apart_put Q θ unit_type s h = tt
    apart_put Q θ (function None a b) s h = (apart_put Q θ a s.0 h.0, apart_put Q θ b s.2 h.1)
    apart_put Q θ (function (Some x) a b) s h =
        (h.0, h.1, apart_put Q θ a s.0 h.2, apart_put (with_twins Q x) θ b s.2 h.3)
    apart_put Q θ (tuple_of ts) s h = all_apart_put Q θ ts s h
    apart_put Q θ (array_with e p) s h = apart_put Q θ e s.0 h
    apart_put Q θ (data_with d ts m p) s h = all_apart_put Q θ ts s.0 h
    apart_put Q θ (map_with e p) s h = apart_put Q θ e s.0 h
    apart_put Q θ (type_variable i) s h = tt

    all_apart_put : (Q : Symbols) (θ : Subst) (ts : Refineds) → AreScalar ts → AllNamesAway Q ts → AllNamesAway Q (types_by scopes θ ts)
    all_apart_put Q θ none s h = tt
    all_apart_put Q θ (more t ts) s h = (apart_put Q θ t s.0 h.0, all_apart_put Q θ ts s.1 h.1)

  pub both_put : (Q : Symbols) (θ : Subst) (t : Refined) → IsApart Q t → IsApart Q (type_by scopes θ t)
  both_put Q θ t h = (scalar_put θ t h.0, apart_put Q θ t h.0 h.1)

  mutual
    pub named_put : (m : Naming) (θ : Subst) (t : Refined) → IsNamed m t → IsNamed m (type_by scopes θ t)
    named_put m θ (int_with p) h = tt
    named_put m θ (bool_with p) h = tt
    named_put m θ unit_type h = tt
    named_put m θ (function None a b) h = named_put m θ b h
    named_put m θ (function (Some x) a b) h = ((λ l. h.0 l ∙ sym (kind_put θ a)), named_put m θ b h.1)
    named_put m θ (tuple_of ts) h = all_named_put m θ ts h
    named_put m θ (array_with e p) h = tt
    named_put m θ (data_with d ts n p) h = tt
    named_put m θ (map_with e p) h = tt
    named_put m θ (type_variable i) h = tt

    all_named_put : (m : Naming) (θ : Subst) (ts : Refineds) → AreNamed m ts → AreNamed m (types_by scopes θ ts)
    all_named_put m θ none h = tt
    all_named_put m θ (more t ts) h = (named_put m θ t h.0, all_named_put m θ ts h.1)

  -- what is kept where something is put for a name is kept with another name of an argument, and with an argument for it
  module _ (C : Refined → Type 0) (put : (θ : Subst) (t : Refined) → C t → C (type_by scopes θ t)) where
    pub renamed_keeps : (x z : Option ℕ) (k : Kind) (t : Refined) → C t → C (renamed scopes x z k t)
    renamed_keeps None z k t h = h
    renamed_keeps (Some x) None k t h = h
    renamed_keeps (Some x) (Some z) k t h = by (x == z)
      where
        by : (b : Bool) → C (cond b t (type_by scopes (swap (symbol_of x) (atom_of k (symbol_of z)) ∷ []) t))
        by true = h
        by false = put (swap (symbol_of x) (atom_of k (symbol_of z)) ∷ []) t h

    pub applied_keeps : (x : Option ℕ) (a : Atom) (t : Refined) → C t → C (applied scopes x a t)
    applied_keeps None a t h = h
    applied_keeps (Some x) a t h = put (swap (symbol_of x) a ∷ []) t h

  -- ---- twins

  mutual
    no_names_twin : (t : Refined) → HasNoNames t → HasNoNames (twin scopes t)
    no_names_twin (int_with p) h = tt
    no_names_twin (bool_with p) h = tt
    no_names_twin unit_type h = tt
    no_names_twin (function None a b) h = (no_names_twin a h.0, no_names_twin b h.1)
    no_names_twin (function (Some x) a b) h = absurd h
    no_names_twin (tuple_of ts) h = all_no_names_twin ts h
    no_names_twin (array_with e p) h = no_names_twin e h
    no_names_twin (data_with d ts m p) h = all_no_names_twin ts h
    no_names_twin (map_with e p) h = tt
    no_names_twin (type_variable i) h = tt

    all_no_names_twin : (ts : Refineds) → HaveNoNames ts → HaveNoNames (twins scopes ts)
    all_no_names_twin none h = tt
    all_no_names_twin (more t ts) h = (no_names_twin t h.0, all_no_names_twin ts h.1)

  mutual
    pub scalar_twin : (t : Refined) → IsScalar t → IsScalar (twin scopes t)
    scalar_twin (int_with p) h = tt
    scalar_twin (bool_with p) h = tt
    scalar_twin unit_type h = tt
    scalar_twin (function x a b) h =
        (scalar_twin a h.0, no_names_twin a h.1, renamed_keeps (IsScalar) scalar_put x (twin_binder x) (kind a) (twin scopes b) (scalar_twin b h.2))
    scalar_twin (tuple_of ts) h = all_scalar_twin ts h
    scalar_twin (array_with e p) h = (scalar_twin e h.0, no_names_twin e h.1)
    scalar_twin (data_with d ts m p) h = (
      all_scalar_twin ts h.0,
      all_no_names_twin ts h.1,
      subst (λ (us : MlTypes). LackEntries m 0 us) (twins_erased ts) h.2,
    )
    scalar_twin (map_with e p) h = (scalar_twin e h.0, no_names_twin e h.1)
    scalar_twin (type_variable i) h = h

    all_scalar_twin : (ts : Refineds) → AreScalar ts → AreScalar (twins scopes ts)
    all_scalar_twin none h = tt
    all_scalar_twin (more t ts) h = (scalar_twin t h.0, all_scalar_twin ts h.1)

  mutual
    pub named_twin : (m : Naming) (t : Refined) → IsNamed m (twin scopes t)
    named_twin m (int_with p) = tt
    named_twin m (bool_with p) = tt
    named_twin m unit_type = tt
    named_twin m (function None a b) = named_twin m b
    named_twin m (function (Some x) a b) = (
      (λ l. absurd (big_small (twin_of x) (twin_of x) (m.small (twin_of x) l) (twin_big x) refl)),
      renamed_keeps (IsNamed m) (named_put m) (Some x) (Some (twin_of x)) (kind a) (twin scopes b) (named_twin m b),
    )
    named_twin m (tuple_of ts) = all_named_twin m ts
    named_twin m (array_with e p) = tt
    named_twin m (data_with d ts n p) = tt
    named_twin m (map_with e p) = tt
    named_twin m (type_variable i) = tt

    all_named_twin : (m : Naming) (ts : Refineds) → AreNamed m (twins scopes ts)
    all_named_twin m none = tt
    all_named_twin m (more t ts) = (named_twin m t, all_named_twin m ts)

  -- the big names of the second set are of the first
  abbrev pub HasBig : Symbols → Symbols → Type 0
  HasBig own Q = (z : ℕ) → 2 ^ 31 ≤ z → Q (symbol_of z) ≡ true → own (symbol_of z) ≡ true

  big_twins : (own Q : Symbols) → HasBig own Q → (x : ℕ) → HasBig (with_twins own x) (with_twins Q (twin_of x))
  big_twins own Q big x z l h =
      or_parts (with_twins own x (symbol_of z) ≡ true) (with_symbol Q (symbol_of (twin_of x)) (symbol_of z)) (twin_of (twin_of x) == z) h
      (λ f.
      or_parts (with_twins own x (symbol_of z) ≡ true) (Q (symbol_of z)) (twin_of x == z) f (λ q. twins_within own x (symbol_of z) (big z l q))
      (λ e. last e))
      (λ e. last (subst (λ y. (y == z) ≡ true) (twin_twin x) e))
    where
      last : (twin_of x == z) ≡ true → with_twins own x (symbol_of z) ≡ true
      last e = or_right (with_symbol own (symbol_of x) (symbol_of z)) (twin_of x == z) e

  -- the twin of a type whose names are apart from its own symbols
  mutual
    pub apart_twin : (own Q : Symbols) → HasBig own Q → (t : Refined) → IsScalar t → NamesAway own t → NamesAway Q (twin scopes t)
    apart_twin own Q big (int_with p) s h = tt
    apart_twin own Q big (bool_with p) s h = tt
    apart_twin own Q big unit_type s h = tt
    apart_twin own Q big (function None a b) s h =
        (apart_nameless Q (twin scopes a) (scalar_twin a s.0) (no_names_twin a s.1), apart_twin own Q big b s.2 h.1)
    apart_twin own Q big (function (Some x) a b) s h =
        let free : Q (symbol_of (twin_of x)) ≡ false =
        false_unless (Q (symbol_of (twin_of x))) (λ e. clash (own (symbol_of (twin_of x))) (big (twin_of x) (twin_big x) e) h.1) in (
          free,
          subst (λ y. Q (symbol_of y) ≡ false) (sym (twin_twin x)) free,
          apart_nameless Q (twin scopes a) (scalar_twin a s.0) (no_names_twin a s.1),
          (renamed_keeps (IsApart (with_twins Q (twin_of x))) (both_put (with_twins Q (twin_of x))) (Some x) (Some (twin_of x)) (kind a) (twin scopes b)
              (scalar_twin b s.2, apart_twin (with_twins own x) (with_twins Q (twin_of x)) (big_twins own Q big x) b s.2 h.3)).1,
        )
    apart_twin own Q big (tuple_of ts) s h = all_apart_twin own Q big ts s h
    apart_twin own Q big (array_with e p) s h = apart_nameless Q (twin scopes e) (scalar_twin e s.0) (no_names_twin e s.1)
    apart_twin own Q big (data_with d ts m p) s h =
        all_apart_nameless Q (twins scopes ts) (all_scalar_twin ts s.0) (all_no_names_twin ts s.1)
    apart_twin own Q big (map_with e p) s h = apart_nameless Q (twin scopes e) (scalar_twin e s.0) (no_names_twin e s.1)
    apart_twin own Q big (type_variable i) s h = tt

    all_apart_twin : (own Q : Symbols) → HasBig own Q → (ts : Refineds) → AreScalar ts → AllNamesAway own ts → AllNamesAway Q (twins scopes ts)
    all_apart_twin own Q big none s h = tt
    all_apart_twin own Q big (more t ts) s h = (apart_twin own Q big t s.0 h.0, all_apart_twin own Q big ts s.1 h.1)
