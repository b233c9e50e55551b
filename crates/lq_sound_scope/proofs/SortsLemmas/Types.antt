-- Types over more sorts, with an atom for a name, with twins, and with types for their variables.
use Rattle.std.proofs.Common.{◌≡◌, ◌∙◌, inl, inr, ℕ, suc, Bool, true, false, ◌==◌, cond, [], ◌∷◌, Some, None, refl, sym, ap₂, subst}
use Rattle.lq_refined_types.specs.Parts.Part.{Parts, Scopes, parts_by}
use Rattle.lq_refined_types.specs.Parts.Substitution.{Atom, of_sum, of_formula, Subst, swap, sum_at, flag_at}
use Rattle.lq_logic_predicates.specs.Formula.{flag}
use Rattle.lq_logic_predicates.specs.Sum.{var}
use Rattle.lq_logic_predicates.specs.declared.symbol.Symbol.{Symbol}
use Rattle.lq_logic_predicates.specs.declared.symbol.Symbol.TheVariants.{Value, Position}
use Rattle.lq_refined_types.specs.Types.Operations.{applied, atom_of, renamed, self_type, symbol_of, twin, twin_of, twins, type_by, types_by}
use Rattle.lq_refined_types.specs.Types.Refined.{Matrix, Refined, int_with, bool_with, unit_type, function, tuple_of, array_with, data_with, map_with, type_variable, Refineds, none, more, Kind, number, truth_value, object, other, kind, top, with_top, all_erased}
use Rattle.lq_refined_types.proofs.TypesLemmas.Erasing.{twin-erased, type_by-erased}
use Rattle.lq_refined_templates.specs.Templates.Scopes.{Unknown, symbols_in}
use Rattle.lq_text_tree.specs.MlType as ml
use Rattle.lq_text_tree.specs.MlType.{MlTypes}
use Rattle.lq_text_tree.specs.Types.{Signature}
use Rattle.lq_sound_scope.specs.Sorts.Sorts.{HasName, IsAtomOf, IsNumber, IsObject, IsWellSorted, IsWithin, Sorts, StandsAt, with_kind}
use Rattle.lq_sound_scope.specs.Sorts.Types.{CellsSorted, ComponentsSorted, InsideSorted, PartsSorted, TopSorted, TypeSorted, TypesSorted}
use Rattle.lq_sound_scope.proofs.SortsLemmas.Basics.{IsFor, Stands, atom_within, name_within, others_stand, own_stands, stands_kind, wider_kind, within_kind}
use Rattle.lq_sound_scope.proofs.SortsLemmas.Parts.{parts_put, parts_within}

-- ---- symbols that a substitution leaves

abbrev pub Leaves : Subst → Symbol → Type 0
Leaves θ x = (sum_at θ x ≡ var x) × (flag_at θ x ≡ flag x)

pub left_stands : (N : Sorts) (θ : Subst) (x : Symbol) → Leaves θ x → (k : Kind) → StandsAt N [] k x → StandsAt N θ k x
left_stands N θ x l number h = subst (λ t. IsNumber N t) (sym l.0) h
left_stands N θ x l truth_value h = subst (λ p. IsWellSorted N p) (sym l.1) h
left_stands N θ x l object h = subst (λ t. IsObject N t) (sym l.0) h
left_stands N θ x l other h = tt

-- for more symbols that are left
pub stands_left : (N M : Sorts) (θ : Subst) → Stands N θ M → (k : Kind) (x : Symbol) → Leaves θ x → Stands (with_kind N k x) θ (with_kind M k x)
stands_left N M θ p k x l = stands_kind N M θ p k x (left_stands (with_kind N k x) θ x l k (own_stands N k x))

-- v and positions are left where something is put for a name
pub name_leaves_value : (x : ℕ) (a : Atom) → Leaves (swap (symbol_of x) a ∷ []) Value
name_leaves_value x (of_sum t) = (refl, refl)
name_leaves_value x (of_formula p) = (refl, refl)

pub name_leaves : (x : ℕ) (a : Atom) (i : ℕ) → Leaves (swap (symbol_of x) a ∷ []) (Position i)
name_leaves x (of_sum t) i = (refl, refl)
name_leaves x (of_formula p) i = (refl, refl)

-- ---- kinds

pub kind_by : (scopes : Scopes) (θ : Subst) (t : Refined) → kind (type_by scopes θ t) ≡ kind t
kind_by scopes θ (int_with p) = refl
kind_by scopes θ (bool_with p) = refl
kind_by scopes θ unit_type = refl
kind_by scopes θ (function x a b) = refl
kind_by scopes θ (tuple_of ts) = refl
kind_by scopes θ (array_with e p) = refl
kind_by scopes θ (data_with d ts m p) = refl
kind_by scopes θ (map_with e p) = refl
kind_by scopes θ (type_variable i) = refl

types_by_erased : (scopes : Scopes) (θ : Subst) (ts : Refineds) → all_erased ts ≡ all_erased (types_by scopes θ ts)
types_by_erased scopes θ none = refl
types_by_erased scopes θ (more t ts) = ap₂ ml.more_types (sym (type_by-erased scopes θ t)) (types_by_erased scopes θ ts)

kind_twin : (scopes : Scopes) (t : Refined) → kind (twin scopes t) ≡ kind t
kind_twin scopes (int_with p) = refl
kind_twin scopes (bool_with p) = refl
kind_twin scopes unit_type = refl
kind_twin scopes (function x a b) = refl
kind_twin scopes (tuple_of ts) = refl
kind_twin scopes (array_with e p) = refl
kind_twin scopes (data_with d ts m p) = refl
kind_twin scopes (map_with e p) = refl
kind_twin scopes (type_variable i) = refl

module _ (unknowns : ℕ → Unknown) where
  -- a top at a kind that is its type's
  top_at : (N : Sorts) (t : Refined) (k : Kind) (ps : Parts) → kind t ≡ k → top t ≡ ps → PartsSorted unknowns (with_kind N k Value) ps → TopSorted unknowns N t
  top_at N t k ps e f h =
      subst (λ (j : Kind). PartsSorted unknowns (with_kind N j Value) (top t)) (sym e)
      (subst (λ (qs : Parts). PartsSorted unknowns (with_kind N k Value) qs) (sym f) h)

  -- over more sorts
  pub top_within : (N M : Sorts) → IsWithin N M → (t : Refined) → TopSorted unknowns N t → TopSorted unknowns M t
  top_within N M w t h = parts_within unknowns (with_kind N (kind t) Value) (with_kind M (kind t) Value) (wider_kind N M w (kind t) Value) (top t) h

  -- another top
  pub top_with : (N : Sorts) (q : Parts) (t : Refined) → PartsSorted unknowns (with_kind N (kind t) Value) q → TopSorted unknowns N (with_top q t)
  top_with N q (int_with p) h = h
  top_with N q (bool_with p) h = h
  top_with N q unit_type h = tt
  top_with N q (function x a b) h = tt
  top_with N q (tuple_of ts) h = tt
  top_with N q (array_with e p) h = h
  top_with N q (data_with d ts m p) h = h
  top_with N q (map_with e p) h = h
  top_with N q (type_variable i) h = tt

module _ (g : Signature) (unknowns : ℕ → Unknown) where
  -- ---- over more sorts

  mutual
    pub inside_within : (N M : Sorts) → IsWithin N M → (t : Refined) → InsideSorted g unknowns N t → InsideSorted g unknowns M t
    inside_within N M w (int_with p) h = tt
    inside_within N M w (bool_with p) h = tt
    inside_within N M w unit_type h = tt
    inside_within N M w (function None a b) h =
        (inside_within N M w a h.0, top_within unknowns N M w a h.1, inside_within N M w b h.2, top_within unknowns N M w b h.3)
    inside_within N M w (function (Some x) a b) h =
        (name_within N M w (kind a) x h.0, inside_within N M w a h.1, top_within unknowns N M w a h.2, inside_within N M w b h.3, top_within unknowns N M w b h.4)
    inside_within N M w (tuple_of ts) h = components_within N M N M w w 0 ts h
    inside_within N M w (array_with e p) h = (inside_within N M w e h.0, top_within unknowns N M w e h.1)
    inside_within N M w (data_with d ts m p) h = (types_within N M w ts h.0, h.1)
    inside_within N M w (map_with e p) h =
        (inside_within N M w e h.0, top_within unknowns (with_kind N number (Position 0)) (with_kind M number (Position 0)) (wider_kind N M w number (Position 0)) e h.1)
    inside_within N M w (type_variable i) h = tt

    pub types_within : (N M : Sorts) → IsWithin N M → (ts : Refineds) → TypesSorted g unknowns N ts → TypesSorted g unknowns M ts
    types_within N M w none h = tt
    types_within N M w (more t ts) h = (inside_within N M w t h.0, top_within unknowns N M w t h.1, types_within N M w ts h.2)

    pub components_within : (N M U V : Sorts) → IsWithin N M → IsWithin U V → (k : ℕ) (ts : Refineds) → ComponentsSorted g unknowns N U k ts
        → ComponentsSorted g unknowns M V k ts
    components_within N M U V w v k none h = tt
    components_within N M U V w v k (more t ts) h = (
      inside_within N M w t h.0,
      top_within unknowns U V v t h.1,
      components_within N M (with_kind U (kind t) (Position (suc k))) (with_kind V (kind t) (Position (suc k))) w (wider_kind U V v (kind t) (Position (suc k))) (suc k) ts h.2,
    )

  pub type_within : (N M : Sorts) → IsWithin N M → (t : Refined) → TypeSorted g unknowns N t → TypeSorted g unknowns M t
  type_within N M w t h = (inside_within N M w t h.0, top_within unknowns N M w t h.1)

  pub inside_with : (N : Sorts) (q : Parts) (t : Refined) → InsideSorted g unknowns N t → InsideSorted g unknowns N (with_top q t)
  inside_with N q (int_with p) h = h
  inside_with N q (bool_with p) h = h
  inside_with N q unit_type h = h
  inside_with N q (function x a b) h = h
  inside_with N q (tuple_of ts) h = h
  inside_with N q (array_with e p) h = h
  inside_with N q (data_with d ts m p) h = h
  inside_with N q (map_with e p) h = h
  inside_with N q (type_variable i) h = h

  pub cells_same : (d : ℕ) (us vs : MlTypes) (m : Matrix) → us ≡ vs → CellsSorted g unknowns d us m → CellsSorted g unknowns d vs m
  cells_same d us vs m e h = subst (λ (ws : MlTypes). CellsSorted g unknowns d ws m) e h

  -- ---- an atom for a name

  -- that the value is an atom's
  pub self_sorted : (N : Sorts) (a : Atom) (t : Refined) → IsAtomOf N (kind t) a → TypeSorted g unknowns N t → TypeSorted g unknowns N (self_type t a)
  self_sorted N (of_sum s) (int_with p) o h =
      (tt, ((own_stands N number Value, (atom_within N (with_kind N number Value) (within_kind N number Value) number (of_sum s) o)), tt))
  self_sorted N (of_formula q) (int_with p) o h = absurd o
  self_sorted N (of_sum s) (bool_with p) o h = absurd o
  self_sorted N (of_formula q) (bool_with p) o h =
      (tt, ((own_stands N truth_value Value, (atom_within N (with_kind N truth_value Value) (within_kind N truth_value Value) truth_value (of_formula q) o)), tt))
  self_sorted N a unit_type o h = h
  self_sorted N a (function x b c) o h = h
  self_sorted N a (tuple_of ts) o h = h
  self_sorted N (of_sum s) (array_with e p) o h =
      (h.0, ((own_stands N object Value, (atom_within N (with_kind N object Value) (within_kind N object Value) object (of_sum s) o)), tt))
  self_sorted N (of_formula q) (array_with e p) o h = absurd o
  self_sorted N (of_sum s) (data_with d ts m p) o h =
      (h.0, ((own_stands N object Value, (atom_within N (with_kind N object Value) (within_kind N object Value) object (of_sum s) o)), tt))
  self_sorted N (of_formula q) (data_with d ts m p) o h = absurd o
  self_sorted N a (map_with e p) o h = h
  self_sorted N a (type_variable i) o h = h

  module _ (scopes : Scopes) (agree : (u : ℕ) → scopes u ≡ symbols_in (unknowns u).0) (x : ℕ) (a : Atom) where
    abbrev θ : Subst
    θ = swap (symbol_of x) a ∷ []

    top_put : (N : Sorts) → Stands N θ N → (t : Refined) → TopSorted unknowns N t → TopSorted unknowns N (type_by scopes θ t)
    top_put N p t h =
        top_at unknowns N (type_by scopes θ t) (kind t) (parts_by scopes θ (top t)) (kind_by scopes θ t) (same t)
        (parts_put unknowns scopes agree (with_kind N (kind t) Value) (with_kind N (kind t) Value) θ (stands_left N N θ p (kind t) Value (name_leaves_value x a)) (top t) h)
      where
        same : (t : Refined) → top (type_by scopes θ t) ≡ parts_by scopes θ (top t)
        same (int_with p) = refl
        same (bool_with p) = refl
        same unit_type = refl
        same (function x a b) = refl
        same (tuple_of ts) = refl
        same (array_with e p) = refl
        same (data_with d ts m p) = refl
        same (map_with e p) = refl
        same (type_variable i) = refl

    mutual
      inside_put : (N : Sorts) → Stands N θ N → (t : Refined) → InsideSorted g unknowns N t → InsideSorted g unknowns N (type_by scopes θ t)
      inside_put N p (int_with q) h = tt
      inside_put N p (bool_with q) h = tt
      inside_put N p unit_type h = tt
      inside_put N p (function None b c) h = (inside_put N p b h.0, top_put N p b h.1, inside_put N p c h.2, top_put N p c h.3)
      inside_put N p (function (Some y) b c) h = (
        subst (λ (k : Kind). HasName N k y) (sym (kind_by scopes θ b)) h.0,
        inside_put N p b h.1,
        top_put N p b h.2,
        inside_put N p c h.3,
        top_put N p c h.4,
      )
      inside_put N p (tuple_of ts) h = components_put N N p p 0 ts h
      inside_put N p (array_with e q) h = (inside_put N p e h.0, top_put N p e h.1)
      inside_put N p (data_with d ts m q) h = (types_put N p ts h.0, cells_same d (all_erased ts) (all_erased (types_by scopes θ ts)) m (types_by_erased scopes θ ts) h.1)
      inside_put N p (map_with e q) h =
          (inside_put N p e h.0, top_put (with_kind N number (Position 0)) (stands_left N N θ p number (Position 0) (name_leaves x a 0)) e h.1)
      inside_put N p (type_variable i) h = tt

      types_put : (N : Sorts) → Stands N θ N → (ts : Refineds) → TypesSorted g unknowns N ts → TypesSorted g unknowns N (types_by scopes θ ts)
      types_put N p none h = tt
      types_put N p (more t ts) h = (inside_put N p t h.0, top_put N p t h.1, types_put N p ts h.2)

      components_put : (N M : Sorts) → Stands N θ N → Stands M θ M → (k : ℕ) (ts : Refineds) → ComponentsSorted g unknowns N M k ts
          → ComponentsSorted g unknowns N M k (types_by scopes θ ts)
      components_put N M p q k none h = tt
      components_put N M p q k (more t ts) h = (
        inside_put N p t h.0,
        top_put M q t h.1,
        subst (λ (z : Kind). ComponentsSorted g unknowns N (with_kind M z (Position (suc k))) (suc k) (types_by scopes θ ts)) (sym (kind_by scopes θ t))
            (components_put N (with_kind M (kind t) (Position (suc k))) p (stands_left M M θ q (kind t) (Position (suc k)) (name_leaves x a (suc k))) (suc k) ts h.2),
      )

    -- of each kind that the name has
    pub name_put : (N : Sorts) → IsFor N (symbol_of x) a → (t : Refined) → TypeSorted g unknowns N t → TypeSorted g unknowns N (type_by scopes θ t)
    name_put N o t h =
        let p : Stands N θ N = others_stand N (symbol_of x) a o in
        (inside_put N p t h.0, top_put N p t h.1)

  -- each name stands for values of one kind, and so does its twin
  pub record AreNames (N : Sorts) : Type 0 where
    pub one : (j k : Kind) (x : ℕ) → N j (symbol_of x) ≡ true → N k (symbol_of x) ≡ true → j ≡ k
    pub twins : (k : Kind) (x : ℕ) → N k (symbol_of (twin_of x)) ≡ N k (symbol_of x)

  -- what is of a kind, for a name that has it
  pub name_for : (N : Sorts) → AreNames N → (k : Kind) (x : ℕ) → HasName N k x → (a : Atom) → IsAtomOf N k a → IsFor N (symbol_of x) a
  name_for N names k x (inl h) a o j e = subst (λ (i : Kind). IsAtomOf N i a) (names.one k j x h e) o
  name_for N names k x (inr h) a o j e = subst (λ (i : Kind). IsAtomOf N i a) (names.one other j x h e) tt

  -- an argument for a function's name of it
  pub argument_put : (scopes : Scopes) → ((u : ℕ) → scopes u ≡ symbols_in (unknowns u).0) → (N : Sorts) → AreNames N → (x : ℕ) (k : Kind)
      (a : Atom) → HasName N k x → IsAtomOf N k a → (t : Refined) → TypeSorted g unknowns N t → TypeSorted g unknowns N (applied scopes (Some x) a t)
  argument_put scopes agree N names x k a h o t w = name_put scopes agree x a N (name_for N names k x h a o) t w

  pub name_atom : (N : Sorts) (k : Kind) (x : Symbol) → N k x ≡ true → IsAtomOf N k (atom_of k x)
  name_atom N number x h = h
  name_atom N truth_value x h = h
  name_atom N object x h = h
  name_atom N other x h = tt

  -- another name of the kind for a function's name of its argument
  pub parameter_put : (scopes : Scopes) → ((u : ℕ) → scopes u ≡ symbols_in (unknowns u).0) → (N : Sorts) → AreNames N → (k : Kind) (x z : ℕ)
      → HasName N k x → N k (symbol_of z) ≡ true → (t : Refined) → TypeSorted g unknowns N t
      → TypeSorted g unknowns N (renamed scopes (Some x) (Some z) k t)
  parameter_put scopes agree N names k x z h w t s = by (x == z)
    where
      by : (b : Bool) → TypeSorted g unknowns N (cond b t (applied scopes (Some x) (atom_of k (symbol_of z)) t))
      by true = s
      by false = argument_put scopes agree N names x k (atom_of k (symbol_of z)) h (name_atom N k (symbol_of z) w) t s

  -- ---- twins

  module _ (scopes : Scopes) (agree : (u : ℕ) → scopes u ≡ symbols_in (unknowns u).0) (N : Sorts) (names : AreNames N) where
    twin_name : (k : Kind) (x : ℕ) → HasName N k x → HasName N k (twin_of x)
    twin_name k x (inl h) = inl (names.twins k x ∙ h)
    twin_name k x (inr h) = inr (names.twins other x ∙ h)

    -- the twin for the name
    twin_for : (k : Kind) (x : ℕ) → HasName N k x → IsFor N (symbol_of x) (atom_of k (symbol_of (twin_of x)))
    twin_for k x (inl h) = name_for N names k x (inl h) (atom_of k (symbol_of (twin_of x))) (name_atom N k (symbol_of (twin_of x)) (names.twins k x ∙ h))
    twin_for k x (inr h) = λ j e. subst (λ (i : Kind). IsAtomOf N i (atom_of k (symbol_of (twin_of x)))) (names.one other j x h e) tt

    renamed_sorted : (k : Kind) (x : ℕ) → HasName N k x → (t : Refined) → TypeSorted g unknowns N t
        → TypeSorted g unknowns N (renamed scopes (Some x) (Some (twin_of x)) k t)
    renamed_sorted k x h t s = by (x == twin_of x)
      where
        by : (b : Bool) → TypeSorted g unknowns N (cond b t (applied scopes (Some x) (atom_of k (symbol_of (twin_of x))) t))
        by true = s
        by false = name_put scopes agree x (atom_of k (symbol_of (twin_of x))) N (twin_for k x h) t s

    twin_top : (M : Sorts) (t : Refined) → TopSorted unknowns M t → TopSorted unknowns M (twin scopes t)
    twin_top M (int_with p) h = h
    twin_top M (bool_with p) h = h
    twin_top M unit_type h = h
    twin_top M (function x a b) h = h
    twin_top M (tuple_of ts) h = h
    twin_top M (array_with e p) h = h
    twin_top M (data_with d ts m p) h = h
    twin_top M (map_with e p) h = h
    twin_top M (type_variable i) h = h

    twins_erased : (ts : Refineds) → all_erased ts ≡ all_erased (twins scopes ts)
    twins_erased none = refl
    twins_erased (more t ts) = ap₂ ml.more_types (sym (twin-erased scopes t)) (twins_erased ts)

    mutual
      twin_inside : (t : Refined) → InsideSorted g unknowns N t → InsideSorted g unknowns N (twin scopes t)
      twin_inside (int_with p) h = h
      twin_inside (bool_with p) h = h
      twin_inside unit_type h = h
      twin_inside (function None a b) h = (twin_inside a h.0, twin_top N a h.1, twin_inside b h.2, twin_top N b h.3)
      twin_inside (function (Some x) a b) h =
          let r = renamed_sorted (kind a) x h.0 (twin scopes b) (twin_inside b h.3, twin_top N b h.4) in
          (subst (λ (z : Kind). HasName N z (twin_of x)) (sym (kind_twin scopes a)) (twin_name (kind a) x h.0), twin_inside a h.1, twin_top N a h.2, r.0, r.1)
      twin_inside (tuple_of ts) h = twin_components N 0 ts h
      twin_inside (array_with e p) h = (twin_inside e h.0, twin_top N e h.1)
      twin_inside (data_with d ts m p) h = (twin_types ts h.0, cells_same d (all_erased ts) (all_erased (twins scopes ts)) m (twins_erased ts) h.1)
      twin_inside (map_with e p) h = (twin_inside e h.0, twin_top (with_kind N number (Position 0)) e h.1)
      twin_inside (type_variable i) h = h

      twin_types : (ts : Refineds) → TypesSorted g unknowns N ts → TypesSorted g unknowns N (twins scopes ts)
      twin_types none h = tt
      twin_types (more t ts) h = (twin_inside t h.0, twin_top N t h.1, twin_types ts h.2)

      twin_components : (M : Sorts) (k : ℕ) (ts : Refineds) → ComponentsSorted g unknowns N M k ts → ComponentsSorted g unknowns N M k (twins scopes ts)
      twin_components M k none h = tt
      twin_components M k (more t ts) h = (
        twin_inside t h.0,
        twin_top M t h.1,
        subst (λ (z : Kind). ComponentsSorted g unknowns N (with_kind M z (Position (suc k))) (suc k) (twins scopes ts)) (sym (kind_twin scopes t))
            (twin_components (with_kind M (kind t) (Position (suc k))) (suc k) ts h.2),
      )

    pub twin_sorted : (t : Refined) → TypeSorted g unknowns N t → TypeSorted g unknowns N (twin scopes t)
    twin_sorted t h = (twin_inside t h.0, twin_top N t h.1)
