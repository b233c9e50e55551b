-- What is inside types of one simple type.
use Rattle.std.proofs.Common.{◌≡◌, ◌∙◌, ◌⊎◌, inl, inr, ℕ, zero, suc, Option, refl, sym, ap, subst}
use Rattle.lq_logic_predicates.specs.declared.symbol.Symbol.TheVariants.{Position}
use Rattle.lq_refined_types.specs.Types.Refined.{Refined, Refineds, int_with, bool_with, unit_type, function, tuple_of, array_with, data_with, map_with, type_variable, none, more, number, kind, element_of, components_of, arguments_of, matrix_of, type_at, erased, all_erased}
use Rattle.lq_text_qualifiers.specs.Faults.Shapes.{shape_of}
use Rattle.lq_text_tree.specs.MlType as ml
use Rattle.lq_text_tree.specs.MlType.{MlType, MlTypes}
use Rattle.lq_text_tree.specs.Types.{Signature}
use Rattle.lq_refined_templates.specs.Templates.Scopes.{Unknown}
use Rattle.lq_sound_values.specs.Inclusion.Symbols.{Symbols}
use Rattle.lq_sound_scope.specs.Scopes.Over.{CellsOver, ComponentsOver, InsideOver, IsWithin, Names, TopOver, TypeOver, TypesOver, kind_of, with_sort}
use Rattle.lq_sound_scope.proofs.ScopesLemmas.Made.{own_kind}
use Rattle.lq_sound_scope.specs.Splits.Bound.{HasNoBinders, HaveNoBinders, all_arguments_in, arguments_in}

-- ---- kinds

pub same_kind : (l r : Refined) → erased l ≡ erased r → kind l ≡ kind r
same_kind l r e = own_kind l ∙ ap (λ (a : MlType). kind_of (shape_of a)) e ∙ sym (own_kind r)

first_in : MlTypes → MlType
first_in ml.no_types = ml.unit
first_in (ml.more_types t ts) = t

rest_in : MlTypes → MlTypes
rest_in ml.no_types = ml.no_types
rest_in (ml.more_types t ts) = ts

pub same_kinds : (ls rs : Refineds) → all_erased ls ≡ all_erased rs → (i : ℕ) → kind (type_at ls i) ≡ kind (type_at rs i)
same_kinds none none e i = refl
same_kinds none (more r rs) e i = cc
same_kinds (more l ls) none e i = cc
same_kinds (more l ls) (more r rs) e zero = same_kind l r (let k : erased l ≡ erased r = cc in k)
same_kinds (more l ls) (more r rs) e (suc i) = same_kinds ls rs (let k : all_erased ls ≡ all_erased rs = cc in k) i

-- ---- forms

pub data IsFunction : Refined → Type 0 where
  is_function : {x : Option ℕ} {a b : Refined} → IsFunction (function x a b)

pub see_function : (t : Refined) (s u : MlType) → erased t ≡ ml.arrow s u → IsFunction t
see_function (function x a b) s u e = is_function
see_function (int_with p) s u e = cc
see_function (bool_with p) s u e = cc
see_function unit_type s u e = cc
see_function (tuple_of ts) s u e = cc
see_function (array_with a p) s u e = cc
see_function (data_with d ts m p) s u e = cc
see_function (map_with a p) s u e = cc
see_function (type_variable i) s u e = cc

module _ (g : Signature) (unknowns : ℕ → Unknown) (N : Names) where
  -- an array's elements
  pub record Elements (s : MlType) (t : Refined) : Type 0 where
    pub over : TypeOver g unknowns N (element_of t)
    pub shape : erased (element_of t) ≡ s
    pub nameless : HasNoBinders t → HasNoBinders (element_of t)
    pub names : (X : Symbols) → IsWithin (arguments_in t) X → IsWithin (arguments_in (element_of t)) X

  pub elements : (t : Refined) (s : MlType) → erased t ≡ ml.array s → InsideOver g unknowns N t → Elements s t
  elements (array_with a p) s e h = record { over = h; shape = (let k : erased a ≡ s = cc in k); nameless = λ n. n; names = λ X w. w }
  elements (function x a b) s e h = cc
  elements (int_with p) s e h = cc
  elements (bool_with p) s e h = cc
  elements unit_type s e h = cc
  elements (tuple_of ts) s e h = cc
  elements (data_with d ts m p) s e h = cc
  elements (map_with a p) s e h = cc
  elements (type_variable i) s e h = cc

  -- a map's: the top may speak of its key
  pub record Values (s : MlType) (t : Refined) : Type 0 where
    pub inside : InsideOver g unknowns N (element_of t)
    pub top : TopOver unknowns (with_sort N number (Position 0)) (element_of t)
    pub shape : erased (element_of t) ≡ s
    pub nameless : HasNoBinders t → HasNoBinders (element_of t)
    pub names : (X : Symbols) → IsWithin (arguments_in t) X → IsWithin (arguments_in (element_of t)) X

  pub values : (t : Refined) (s : MlType) → erased t ≡ ml.map_of s → InsideOver g unknowns N t → Values s t
  values (map_with a p) s e h = record { inside = h.0; top = h.1; shape = (let k : erased a ≡ s = cc in k); nameless = λ n. n; names = λ X w. w }
  values (function x a b) s e h = cc
  values (int_with p) s e h = cc
  values (bool_with p) s e h = cc
  values unit_type s e h = cc
  values (tuple_of ts) s e h = cc
  values (data_with d ts m p) s e h = cc
  values (array_with a p) s e h = cc
  values (type_variable i) s e h = cc

  -- a tuple's components
  pub record Parts (ss : MlTypes) (t : Refined) : Type 0 where
    pub over : ComponentsOver g unknowns N N 0 (components_of t)
    pub shape : all_erased (components_of t) ≡ ss
    pub nameless : HasNoBinders t → HaveNoBinders (components_of t)
    pub names : (X : Symbols) → IsWithin (arguments_in t) X → IsWithin (all_arguments_in (components_of t)) X

  pub parts : (t : Refined) (ss : MlTypes) → erased t ≡ ml.tuple ss → InsideOver g unknowns N t → Parts ss t
  parts (tuple_of ts) ss e h = record { over = h; shape = (let k : all_erased ts ≡ ss = cc in k); nameless = λ n. n; names = λ X w. w }
  parts (function x a b) ss e h = cc
  parts (int_with p) ss e h = cc
  parts (bool_with p) ss e h = cc
  parts unit_type ss e h = cc
  parts (array_with a p) ss e h = cc
  parts (data_with d ts m p) ss e h = cc
  parts (map_with a p) ss e h = cc
  parts (type_variable i) ss e h = cc

  -- a datatype's arguments and its matrix
  pub record Arguments (d : ℕ) (ss : MlTypes) (t : Refined) : Type 0 where
    pub over : TypesOver g unknowns N (arguments_of t)
    pub cells : CellsOver g unknowns d (arguments_of t) (matrix_of t)
    pub shape : all_erased (arguments_of t) ≡ ss
    pub nameless : HasNoBinders t → HaveNoBinders (arguments_of t)
    pub names : (X : Symbols) → IsWithin (arguments_in t) X → IsWithin (all_arguments_in (arguments_of t)) X

  pub arguments : (t : Refined) (d : ℕ) (ss : MlTypes) → erased t ≡ ml.named d ss → InsideOver g unknowns N t → Arguments d ss t
  arguments (data_with z ts m p) d ss e h =
      let same : z ≡ d = cc in
      record {
        over = h.0;
        cells = subst (λ (y : ℕ). CellsOver g unknowns y ts m) same h.1;
        shape = (let k : all_erased ts ≡ ss = cc in k);
        nameless = λ n. n;
        names = λ X w. w;
      }
  arguments (function x a b) d ss e h = cc
  arguments (int_with p) d ss e h = cc
  arguments (bool_with p) d ss e h = cc
  arguments unit_type d ss e h = cc
  arguments (tuple_of ts) d ss e h = cc
  arguments (array_with a p) d ss e h = cc
  arguments (map_with a p) d ss e h = cc
  arguments (type_variable i) d ss e h = cc

-- ---- one of two

pub either : {A B C D : Type 0} → (A → C) → (B → D) → A ⊎ B → C ⊎ D
either f g (inl a) = inl (f a)
either f g (inr b) = inr (g b)

pub swapped : {A B : Type 0} → A ⊎ B → B ⊎ A
swapped (inl a) = inr a
swapped (inr b) = inl b
