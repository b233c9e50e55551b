-- Types with something put for a name of which they don't speak.
use Rattle.std.proofs.Common.{◌≡◌, ◌∙◌, ℕ, suc, Bool, true, false, ◌||◌, ◌==◌, cond, [], ◌∷◌, Some, None, refl, sym, ap, subst}
use Rattle.std.proofs.lemmas.Bool.{eqb-true}
use Rattle.lq_logic_predicates.specs.declared.symbol.Symbol.{Symbol}
use Rattle.lq_logic_predicates.specs.declared.symbol.Symbol.TheVariants.{Value, Position}
use Rattle.lq_logic_predicates.specs.Sum.{Sum, var, same_symbol}
use Rattle.lq_refined_types.specs.Parts.Part.{Parts, Scopes}
use Rattle.lq_refined_types.specs.Parts.Substitution.{of_sum, swap, Subst}
use Rattle.lq_refined_types.specs.Types.Operations.{atom_of, renamed, symbol_of, twin, twins, twin_of, type_by, types_by}
use Rattle.lq_refined_types.specs.Types.Refined.{Refined, int_with, bool_with, unit_type, function, tuple_of, array_with, data_with, map_with, type_variable, Refineds, none, more, Kind, number, truth_value, object, other, kind, top}
use Rattle.lq_text_tree.specs.Types.{Signature}
use Rattle.lq_sound_values.specs.Inclusion.Symbols.{Symbols, with_symbol, SumOn}
use Rattle.lq_refined_templates.specs.Templates.Scopes.{Unknown, symbols_in}
use Rattle.lq_sound_scope.specs.Scopes.Over.{Names, with_sort, PartsOver, TopOver, InsideOver, TypesOver, ComponentsOver, TypeOver}
use Rattle.lq_sound_scope.proofs.ScopesLemmas.Symbols.{or_left, same_is}
use Rattle.lq_sound_scope.specs.Operations.Puts.{NamesAway, AllNamesAway}
use Rattle.lq_sound_scope.proofs.OperationsLemmas.Putting.{Stands, cells_same, kind_by, parts_put, top_by, types_by_erased}

pub clash : (b : Bool) → b ≡ true → b ≡ false → ⊥
clash true h k = cc
clash false h k = cc

or_false : (a b : Bool) → a ≡ false → b ≡ false → (a || b) ≡ false
or_false true b h k = cc
or_false false b h k = k

-- ---- names of arguments

-- no function in the type names its argument so
abbrev mutual
  pub NamesNot : ℕ → Refined → Type 0
  NamesNot x (int_with p) = Unit {0}
  NamesNot x (bool_with p) = Unit {0}
  NamesNot x unit_type = Unit {0}
  NamesNot x (function None a b) = NamesNot x a × NamesNot x b
  NamesNot x (function (Some w) a b) = ((w == x) ≡ false) × NamesNot x a × NamesNot x b
  NamesNot x (tuple_of ts) = AllNamesNot x ts
  NamesNot x (array_with e p) = NamesNot x e
  NamesNot x (data_with d ts m p) = AllNamesNot x ts
  NamesNot x (map_with e p) = NamesNot x e
  NamesNot x (type_variable i) = Unit {0}

  pub AllNamesNot : ℕ → Refineds → Type 0
  AllNamesNot x none = Unit {0}
  AllNamesNot x (more t ts) = NamesNot x t × AllNamesNot x ts

module _ (scopes : Scopes) (x : ℕ) where
  mutual
    not_put : (θ : Subst) (t : Refined) → NamesNot x t → NamesNot x (type_by scopes θ t)
    not_put θ (int_with p) h = tt
    not_put θ (bool_with p) h = tt
    not_put θ unit_type h = tt
    not_put θ (function None a b) h = (not_put θ a h.0, not_put θ b h.1)
    not_put θ (function (Some w) a b) h = (h.0, not_put θ a h.1, not_put θ b h.2)
    not_put θ (tuple_of ts) h = all_not_put θ ts h
    not_put θ (array_with e p) h = not_put θ e h
    not_put θ (data_with d ts m p) h = all_not_put θ ts h
    not_put θ (map_with e p) h = not_put θ e h
    not_put θ (type_variable i) h = tt

    all_not_put : (θ : Subst) (ts : Refineds) → AllNamesNot x ts → AllNamesNot x (types_by scopes θ ts)
    all_not_put θ none h = tt
    all_not_put θ (more t ts) h = (not_put θ t h.0, all_not_put θ ts h.1)

  not_renamed : (w z : ℕ) (k : Kind) (t : Refined) → NamesNot x t → NamesNot x (renamed scopes (Some w) (Some z) k t)
  not_renamed w z k t h = by (w == z)
    where
      by : (b : Bool) → NamesNot x (cond b t (type_by scopes (swap (symbol_of w) (atom_of k (symbol_of z)) ∷ []) t))
      by true = h
      by false = not_put (swap (symbol_of w) (atom_of k (symbol_of z)) ∷ []) t h

  -- nor does the twin of a type that is away from it
  apart_from : (Q : Symbols) (y : ℕ) → Q (symbol_of x) ≡ true → Q (symbol_of y) ≡ false → (y == x) ≡ false
  apart_from Q y h k = by (y == x) refl
    where
      by : (b : Bool) → (y == x) ≡ b → b ≡ false
      by true e = absurd (clash (Q (symbol_of x)) h (ap (λ z. Q (symbol_of z)) (sym (eqb-true y x e)) ∙ k))
      by false e = refl

  mutual
    pub not_twin : (Q : Symbols) → Q (symbol_of x) ≡ true → (t : Refined) → NamesAway Q t → NamesNot x (twin scopes t)
    not_twin Q q (int_with p) h = tt
    not_twin Q q (bool_with p) h = tt
    not_twin Q q unit_type h = tt
    not_twin Q q (function None a b) h = (not_twin Q q a h.0, not_twin Q q b h.1)
    not_twin Q q (function (Some w) a b) h =
        let R = with_symbol (with_symbol Q (symbol_of w)) (symbol_of (twin_of w)) in
        let r : R (symbol_of x) ≡ true = or_left (with_symbol Q (symbol_of w) (symbol_of x)) (twin_of w == x) (or_left (Q (symbol_of x)) (w == x) q) in
        (apart_from Q (twin_of w) q h.1, not_twin Q q a h.2, not_renamed w (twin_of w) (kind a) (twin scopes b) (not_twin R r b h.3))
    not_twin Q q (tuple_of ts) h = all_not_twin Q q ts h
    not_twin Q q (array_with e p) h = not_twin Q q e h
    not_twin Q q (data_with d ts m p) h = all_not_twin Q q ts h
    not_twin Q q (map_with e p) h = not_twin Q q e h
    not_twin Q q (type_variable i) h = tt

    all_not_twin : (Q : Symbols) → Q (symbol_of x) ≡ true → (ts : Refineds) → AllNamesAway Q ts → AllNamesNot x (twins scopes ts)
    all_not_twin Q q none h = tt
    all_not_twin Q q (more t ts) h = (not_twin Q q t h.0, all_not_twin Q q ts h.1)

-- ---- a term for the name

module _ (x : ℕ) (s : Sum) where
  abbrev putting : Subst
  putting = swap (symbol_of x) (of_sum s) ∷ []

  -- names without it
  pub record Without (N : Names) : Type 0 where
    pub terms : N.terms (symbol_of x) ≡ false
    pub flags : N.flags (symbol_of x) ≡ false

  stays : (N : Names) → Without N → Stands N putting N
  stays N w = record { terms = λ y h. by y h (same_symbol (symbol_of x) y) refl; flags = λ y h. h }
    where
      by : (y : Symbol) → N.terms y ≡ true → (b : Bool) → same_symbol (symbol_of x) y ≡ b → SumOn N.terms (cond b s (var y))
      by y h true e = absurd (clash (N.terms y) h (ap (λ z. N.terms z) (sym (same_is (symbol_of x) y e)) ∙ w.terms))
      by y h false e = h

  without_sort : (N : Names) → Without N → (k : Kind) (y : Symbol) → same_symbol y (symbol_of x) ≡ false → Without (with_sort N k y)
  without_sort N w number y e = record { terms = or_false (N.terms (symbol_of x)) (same_symbol y (symbol_of x)) w.terms e; flags = w.flags }
  without_sort N w truth_value y e = record { terms = w.terms; flags = or_false (N.flags (symbol_of x)) (same_symbol y (symbol_of x)) w.flags e }
  without_sort N w object y e = record { terms = or_false (N.terms (symbol_of x)) (same_symbol y (symbol_of x)) w.terms e; flags = w.flags }
  without_sort N w other y e = w

  module _ (g : Signature) (unknowns : ℕ → Unknown) (scopes : Scopes) (agree : (u : ℕ) → scopes u ≡ symbols_in (unknowns u).0) where
    abbrev after : Refined → Refined
    after t = type_by scopes putting t

    abbrev all_after : Refineds → Refineds
    all_after ts = types_by scopes putting ts

    same_kind : (t : Refined) → kind (after t) ≡ kind t
    same_kind t = kind_by g unknowns scopes agree putting t

    top_stays : (N : Names) → Without N → (t : Refined) → TopOver unknowns N t → TopOver unknowns N (after t)
    top_stays N w t h =
        let V = with_sort N (kind t) Value in
        subst (λ (k : Kind). PartsOver unknowns (with_sort N k Value) (top (after t))) (sym (same_kind t))
        (subst (λ (qs : Parts). PartsOver unknowns V qs) (sym (top_by g unknowns scopes agree putting t))
        (parts_put unknowns scopes agree V V putting (stays V (without_sort N w (kind t) Value refl)) (top t) h))

    abbrev Both : Names → Refined → Type 0
    Both N t = InsideOver g unknowns N t × TopOver unknowns N t

    mutual
      inside_stays : (N : Names) → Without N → (t : Refined) → NamesNot x t → InsideOver g unknowns N t → InsideOver g unknowns N (after t)
      inside_stays N w (int_with p) n h = tt
      inside_stays N w (bool_with p) n h = tt
      inside_stays N w unit_type n h = tt
      inside_stays N w (function None a b) n h =
          (inside_stays N w a n.0 h.0, top_stays N w a h.1, inside_stays N w b n.1 h.2, top_stays N w b h.3)
      inside_stays N w (function (Some y) a b) n h =
          let V : Names = with_sort N (kind a) (symbol_of y) in
          let v = without_sort N w (kind a) (symbol_of y) n.0 in
          let r : Both V (after b) = (inside_stays V v b n.2 h.2, top_stays V v b h.3) in
          let z : Both (with_sort N (kind (after a)) (symbol_of y)) (after b) =
          subst (λ (k : Kind). Both (with_sort N k (symbol_of y)) (after b)) (sym (same_kind a)) r in
          (inside_stays N w a n.1 h.0, top_stays N w a h.1, z.0, z.1)
      inside_stays N w (tuple_of ts) n h = components_stay N N w w 0 ts n h
      inside_stays N w (array_with e p) n h = (inside_stays N w e n h.0, top_stays N w e h.1)
      inside_stays N w (data_with d ts m p) n h =
          (types_stay N w ts n h.0, cells_same g unknowns d ts (all_after ts) m (types_by_erased g unknowns scopes agree putting ts) h.1)
      inside_stays N w (map_with e p) n h =
          let V = with_sort N number (Position 0) in
          (inside_stays N w e n h.0, top_stays V (without_sort N w number (Position 0) refl) e h.1)
      inside_stays N w (type_variable i) n h = tt

      types_stay : (N : Names) → Without N → (ts : Refineds) → AllNamesNot x ts → TypesOver g unknowns N ts → TypesOver g unknowns N (all_after ts)
      types_stay N w none n h = tt
      types_stay N w (more t ts) n h = (inside_stays N w t n.0 h.0, top_stays N w t h.1, types_stay N w ts n.1 h.2)

      components_stay : (N M : Names) → Without N → Without M → (k : ℕ) (ts : Refineds) → AllNamesNot x ts → ComponentsOver g unknowns N M k ts
          → ComponentsOver g unknowns N M k (all_after ts)
      components_stay N M w v k none n h = tt
      components_stay N M w v k (more t ts) n h = (
        inside_stays N w t n.0 h.0,
        top_stays M v t h.1,
        subst (λ (z : Kind). ComponentsOver g unknowns N (with_sort M z (Position (suc k))) (suc k) (all_after ts)) (sym (same_kind t))
            (components_stay N (with_sort M (kind t) (Position (suc k))) w (without_sort M v (kind t) (Position (suc k)) refl) (suc k) ts n.1 h.2),
      )

    pub type_stays : (N : Names) → Without N → (t : Refined) → NamesNot x t → TypeOver g unknowns N t → TypeOver g unknowns N (type_by scopes putting t)
    type_stays N w t n h = (inside_stays N w t n h.0, top_stays N w t h.1)
