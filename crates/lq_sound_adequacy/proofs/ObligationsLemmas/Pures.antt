-- Names and pure expressions in well sorted environments.
use Rattle.std.proofs.Common.{◌≡◌, ◌∙◌, ◌⊎◌, inl, inr, ℕ, Bool, true, false, ◌==◌, ◌||◌, ◌&&◌, cond, [], ◌∷◌, Option, Some, None, refl, sym, ap, subst}
use Rattle.std.proofs.lemmas.Bool.{eqb-true}
use Rattle.lq_refined_rules.specs.Checks.Basis.{Basis}
use Rattle.lq_refined_rules.specs.Checks.Fitting.{Fits, GiveSimpleTypes}
use Rattle.lq_refined_rules.specs.Checks.Pure.{atom_by, formula_of, instance_of, number_type, pure_atom, pure_type, sum_of, truth_type, type_of_use, variable_by}
use Rattle.lq_refined_rules.specs.Checks.Tree as tree
use Rattle.lq_refined_rules.specs.Checks.Tree.{Use, Pure}
use Rattle.lq_refined_rules.specs.Checks.Typing.{AreTemplates, Points, Types, HasPure, has_whole, has_flag, has_unit, has_use, has_negated, has_add, has_subtract, has_multiply, has_length, has_compare, has_not, has_and, has_or, has_pure}
use Rattle.lq_sound_scope.specs.Scopes.Over.{kind_of}
use Rattle.lq_sound_scope.proofs.ScopesLemmas.Made.{own_kind}
use Rattle.lq_refined_types.specs.Parts.Substitution.{of_sum, of_formula}
use Rattle.lq_logic_predicates.specs.declared.symbol.Symbol.TheVariants.{Value, Bound, Position}
use Rattle.lq_sound_forms.specs.Pures.Pures.{EachUse}
use Rattle.lq_refined_types.specs.Types.Context.{Context, name, guard, type_in}
use Rattle.lq_refined_types.specs.Types.Operations.{atom_of, instantiated, symbol_of}
use Rattle.lq_refined_types.specs.Types.Refined.{Refined, Refineds, int_with, bool_with, unit_type, function, tuple_of, array_with, data_with, map_with, type_variable, Kind, number, truth_value, object, other, kind}
use Rattle.lq_sound_scope.proofs.ScalarsLemmas.Uses.{use_erased}
use Rattle.lq_text_qualifiers.specs.Faults.Shapes.{shape_of}
use Rattle.lq_refined_templates.specs.Templates.Scopes.{Unknown, symbols_in}
use Rattle.lq_text_tree.specs.MlType.{MlType}
use Rattle.lq_sound_scope.specs.Sorts.Sorts.{IsAtomOf, Sorts, is_one}
use Rattle.lq_sound_scope.specs.Sorts.Types.{TypeSorted, TypesSorted}
use Rattle.lq_sound_scope.proofs.SortsLemmas.Basics.{kind_is}
use Rattle.lq_sound_scope.proofs.SortsLemmas.Instances.{instance_sorted}
use Rattle.lq_sound_scope.proofs.SortsLemmas.Types.{AreNames, name_atom, self_sorted, twin_sorted}
use Rattle.lq_sound_adequacy.specs.Obligations.Kinds.{NameKind, is_variable, name_kind}
use Rattle.lq_sound_adequacy.specs.Obligations.Sorted.{ContextSorted, TwinsAlike, is_kind, is_other, sorts_by}

-- ---- sorts of names

both_other : (k j : Kind) → is_other k ≡ true → is_other j ≡ true → k ≡ j
both_other other other h w = refl
both_other number j h w = cc
both_other truth_value j h w = cc
both_other object j h w = cc
both_other other number h w = cc
both_other other truth_value h w = cc
both_other other object h w = cc

pub kind_same : (k j : Kind) → is_kind k j ≡ true → k ≡ j
kind_same k j h = by (is_one k j) (is_other k) (is_other j) h (kind_is k j) (both_other k j)
  where
    by : (a b c : Bool) → (a || (b && c)) ≡ true → (a ≡ true → k ≡ j) → (b ≡ true → c ≡ true → k ≡ j) → k ≡ j
    by true b c h f g = f refl
    by false true true h f g = g refl refl
    by false true false h f g = cc
    by false false c h f g = cc

pub kind_own : (k : Kind) → is_kind k k ≡ true
kind_own number = refl
kind_own truth_value = refl
kind_own object = refl
kind_own other = refl

-- a name has its kind
pub name_has : (K : ℕ → NameKind) (x : ℕ) (t : Refined) → K x ≡ name_kind t → sorts_by K (kind t) (symbol_of x) ≡ true
name_has K x t e = subst (λ (k : NameKind). is_kind k.0 (kind t) ≡ true) (sym e) (kind_own (kind t))

module _ (P : Basis) (unknowns : ℕ → Unknown) (K : ℕ → NameKind) where
  abbrev pub N : Sorts
  N = sorts_by K

  abbrev pub Over : Refined → Type 0
  Over t = TypeSorted P.setting.constructors unknowns N t

  pub are_names : TwinsAlike K → AreNames P.setting.constructors unknowns N
  are_names twins =
      record {
        one = λ j k x h w. sym (kind_same (K x).0 j h) ∙ kind_same (K x).0 k w;
        twins = λ k x. ap (λ (z : NameKind). is_kind z.0 k) (twins x);
      }

  -- ---- environments

  -- each name has the kind of its type
  abbrev pub Kinded : Context → Type 0
  Kinded [] = Unit {0}
  Kinded (name Value t ∷ Γ) = ⊥
  Kinded (name (Bound x) t ∷ Γ) = (K x.0 ≡ name_kind t) × Kinded Γ
  Kinded (name (Position i) t ∷ Γ) = ⊥
  Kinded (guard p ∷ Γ) = Kinded Γ

  abbrev pub Sorted : Context → Type 0
  Sorted Γ = ContextSorted P unknowns N Γ × Kinded Γ

  pub bind_sorted : (Γ : Context) → Sorted Γ → (x : ℕ) (t : Refined) → K x ≡ name_kind t → Over t → Sorted (name (symbol_of x) t ∷ Γ)
  bind_sorted Γ s x t e h = ((name_has K x t e, h, s.0), (e, s.1))

  -- a name that is looked up: its type is well sorted, and has its kind, or there is none
  pub looked_up : (Γ : Context) → Sorted Γ → (x : ℕ) → let t = type_in Γ (symbol_of x) in Over t × ((K x ≡ name_kind t) ⊎ (t ≡ unit_type))
  looked_up [] s x = ((tt, tt), inr refl)
  looked_up (name Value t ∷ Γ) s x = absurd s.1
  looked_up (name (Position i) t ∷ Γ) s x = absurd s.1
  looked_up (guard p ∷ Γ) s x = looked_up Γ (s.0.1, s.1) x
  looked_up (name (Bound y) t ∷ Γ) s x = by (y.0 == x) refl (looked_up Γ (s.0.2, s.1.1) x)
    where
      by : (b : Bool) → (y.0 == x) ≡ b
          → (let u = type_in Γ (symbol_of x) in Over u × ((K x ≡ name_kind u) ⊎ (u ≡ unit_type)))
          → let u = cond b t (type_in Γ (symbol_of x)) in Over u × ((K x ≡ name_kind u) ⊎ (u ≡ unit_type))
      by true e rest = (s.0.1, inl (subst (λ (z : ℕ). K z ≡ name_kind t) (eqb-true y.0 x e) s.1.0))
      by false e rest = rest

  -- ---- uses

  -- types are put for variables of what has no variable's type
  abbrev pub IsFixedAt : Option ℕ → ℕ → Type 0
  IsFixedAt None x = Unit {0}
  IsFixedAt (Some i) x = (K x).1 ≡ false

  abbrev pub IsFixed : Use → Type 0
  IsFixed u = IsFixedAt u.type_arguments u.name

  module _ (twins : TwinsAlike K) (arguments : (i : ℕ) → TypesSorted P.setting.constructors unknowns N (P.type_arguments i))
      (agree : (u : ℕ) → P.setting.scopes u ≡ symbols_in (unknowns u).0) where
    fixed_kind : (Ts : Refineds) (t : Refined) → is_variable t ≡ false → kind (instantiated Ts t) ≡ kind t
    fixed_kind Ts (int_with p) e = refl
    fixed_kind Ts (bool_with p) e = refl
    fixed_kind Ts unit_type e = refl
    fixed_kind Ts (function x a b) e = refl
    fixed_kind Ts (tuple_of ts) e = refl
    fixed_kind Ts (array_with a p) e = refl
    fixed_kind Ts (data_with d ts m p) e = refl
    fixed_kind Ts (map_with a p) e = refl
    fixed_kind Ts (type_variable i) e = cc

    -- a use, as what stands for its value: the name has the kind of the use's type
    pub use_has : (Γ : Context) → Sorted Γ → (u : Use) → IsFixed u → IsAtomOf N (kind (type_of_use P Γ u)) (atom_of (kind (type_of_use P Γ u)) (symbol_of u.name))
    use_has Γ s u f = by u.type_arguments f (looked_up Γ s u.name).1
      where
        t : Refined
        t = type_in Γ (symbol_of u.name)

        at : (k : Kind) → (K u.name).0 ≡ k → IsAtomOf N k (atom_of k (symbol_of u.name))
        at k e =
            name_atom P.setting.constructors unknowns N k (symbol_of u.name)
            (subst (λ (j : Kind). is_kind (K u.name).0 j ≡ true) e (kind_own (K u.name).0))

        none : (a : Option ℕ) (r : Refined) → r ≡ unit_type → IsAtomOf N (kind (instance_of P Γ a r)) (atom_of (kind (instance_of P Γ a r)) (symbol_of u.name))
        none None r e = subst (λ (z : Refined). IsAtomOf N (kind z) (atom_of (kind z) (symbol_of u.name))) (sym e) tt
        none (Some i) r e =
            subst (λ (z : Refined). IsAtomOf N (kind (instantiated (P.type_arguments i) z)) (atom_of (kind (instantiated (P.type_arguments i) z)) (symbol_of u.name)))
            (sym e) tt

        by : (a : Option ℕ) → IsFixedAt a u.name → (K u.name ≡ name_kind t) ⊎ (t ≡ unit_type)
            → IsAtomOf N (kind (instance_of P Γ a t)) (atom_of (kind (instance_of P Γ a t)) (symbol_of u.name))
        by a f (inr e) = none a t e
        by None f (inl e) = at (kind t) (ap (λ (k : NameKind). k.0) e)
        by (Some i) f (inl e) =
            at (kind (instantiated (P.type_arguments i) t))
            (ap (λ (k : NameKind). k.0) e ∙ sym (fixed_kind (P.type_arguments i) t (sym (ap (λ (k : NameKind). k.1) e) ∙ f)))

    pub use_sorted : (Γ : Context) → Sorted Γ → (u : Use) → Over (type_of_use P Γ u)
    use_sorted Γ s u = by u.type_arguments
      where
        by : (a : Option ℕ) → Over (instance_of P Γ a (type_in Γ (symbol_of u.name)))
        by None = (looked_up Γ s u.name).0
        by (Some i) = instance_sorted P.setting.constructors unknowns (P.type_arguments i) N (arguments i) (type_in Γ (symbol_of u.name)) (looked_up Γ s u.name).0

    -- ---- pure expressions

    module _ (Q : Points) (templates : AreTemplates P Q) (give : GiveSimpleTypes P Q) where
      abbrev kind_at : MlType → Kind
      kind_at a = kind_of (shape_of a)

      use_atom : (k : Kind) (u : Use) → IsAtomOf N k (atom_of k (symbol_of u.name)) → IsAtomOf N k (atom_by k (tree.use_of u))
      use_atom number u h = h
      use_atom truth_value u h = h
      use_atom object u h = h
      use_atom other u h = tt

      -- what stands for an expression is of its type's kind
      pub pure_stands : (Δ : Types) (Γ : Context) → Fits Δ Γ → Sorted Γ → {e : Pure} {a : MlType} → HasPure Q Δ e a → EachUse IsFixed e
          → IsAtomOf N (kind_at a) (atom_by (kind_at a) e)
      pure_stands Δ Γ f s has_whole w = tt
      pure_stands Δ Γ f s (has_flag {b = true}) w = tt
      pure_stands Δ Γ f s (has_flag {b = false}) w = tt
      pure_stands Δ Γ f s has_unit w = tt
      pure_stands Δ Γ f s (has_use {u = u}) w =
          subst (λ (k : Kind). IsAtomOf N k (atom_by k (tree.use_of u)))
          (own_kind (type_of_use P Γ u) ∙ ap kind_at (use_erased P Q templates Δ Γ f u))
          (use_atom (kind (type_of_use P Γ u)) u (use_has Γ s u w))
      pure_stands Δ Γ f s (has_negated h) w = pure_stands Δ Γ f s h w
      pure_stands Δ Γ f s (has_add h k) w = (pure_stands Δ Γ f s h w.0, pure_stands Δ Γ f s k w.1)
      pure_stands Δ Γ f s (has_subtract h k) w = (pure_stands Δ Γ f s h w.0, pure_stands Δ Γ f s k w.1)
      pure_stands Δ Γ f s (has_multiply h k) w = (pure_stands Δ Γ f s h w.0, pure_stands Δ Γ f s k w.1)
      pure_stands Δ Γ f s (has_length h) w = pure_stands Δ Γ f s h w
      pure_stands Δ Γ f s (has_compare h k) w = (pure_stands Δ Γ f s h w.0, pure_stands Δ Γ f s k w.1)
      pure_stands Δ Γ f s (has_not h) w = pure_stands Δ Γ f s h w
      pure_stands Δ Γ f s (has_and h k) w = (pure_stands Δ Γ f s h w.0, pure_stands Δ Γ f s k w.1)
      pure_stands Δ Γ f s (has_or h k) w = (pure_stands Δ Γ f s h w.0, pure_stands Δ Γ f s k w.1)

      pub pure_kind : (Δ : Types) (Γ : Context) → Fits Δ Γ → {e : Pure} {a : MlType} → HasPure Q Δ e a → kind (pure_type P Γ e) ≡ kind_at a
      pure_kind Δ Γ f {e = e} {a = a} h = own_kind (pure_type P Γ e) ∙ ap kind_at (give.operations Δ Γ (tree.pure e) a f (has_pure h) tt)

      pub atom_stands : (Δ : Types) (Γ : Context) → Fits Δ Γ → Sorted Γ → {e : Pure} {a : MlType} → HasPure Q Δ e a → EachUse IsFixed e
          → IsAtomOf N (kind (pure_type P Γ e)) (pure_atom P Γ e)
      atom_stands Δ Γ f s {e = e} {a = a} h w =
          subst (λ (k : Kind). IsAtomOf N k (atom_by k e)) (sym (pure_kind Δ Γ f h)) (pure_stands Δ Γ f s h w)

      variable_sorted : (t : Refined) (x : ℕ) → Over t → IsAtomOf N (kind t) (atom_of (kind t) (symbol_of x)) → Over (variable_by P.setting.scopes (kind t) x t)
      variable_sorted t x h o = by t (kind t) refl h o
        where
          by : (t : Refined) (k : Kind) → kind t ≡ k → Over t → IsAtomOf N (kind t) (atom_of (kind t) (symbol_of x)) → Over (variable_by P.setting.scopes k x t)
          by t number e h o = self_sorted P.setting.constructors unknowns N (atom_of number (symbol_of x)) t (subst (λ (k : Kind). IsAtomOf N (kind t) (atom_of k (symbol_of x))) e o) h
          by t truth_value e h o =
              self_sorted P.setting.constructors unknowns N (atom_of truth_value (symbol_of x)) t (subst (λ (k : Kind). IsAtomOf N (kind t) (atom_of k (symbol_of x))) e o) h
          by t object e h o = self_sorted P.setting.constructors unknowns N (atom_of object (symbol_of x)) t (subst (λ (k : Kind). IsAtomOf N (kind t) (atom_of k (symbol_of x))) e o) h
          by t other e h o = twin_sorted P.setting.constructors unknowns P.setting.scopes agree N (are_names twins) t h

      -- the type of the variable that is matched on
      pub use_variable : (Γ : Context) → Sorted Γ → (u : Use) → IsFixed u → Over (variable_by P.setting.scopes (kind (type_of_use P Γ u)) u.name (type_of_use P Γ u))
      use_variable Γ s u w = variable_sorted (type_of_use P Γ u) u.name (use_sorted Γ s u) (use_has Γ s u w)

      number_sorted : (e : Pure) → IsAtomOf N number (of_sum (sum_of e)) → Over (number_type e)
      number_sorted e o = self_sorted P.setting.constructors unknowns N (of_sum (sum_of e)) (int_with []) o (tt, tt)

      truth_sorted : (e : Pure) → IsAtomOf N truth_value (of_formula (formula_of e)) → Over (truth_type e)
      truth_sorted e o = self_sorted P.setting.constructors unknowns N (of_formula (formula_of e)) (bool_with []) o (tt, tt)

      pub pure_sorted : (Δ : Types) (Γ : Context) → Fits Δ Γ → Sorted Γ → {e : Pure} {a : MlType} → HasPure Q Δ e a → EachUse IsFixed e → Over (pure_type P Γ e)
      pure_sorted Δ Γ f s (has_use {u = u}) w = use_variable Γ s u w
      pure_sorted Δ Γ f s has_unit w = (tt, tt)
      pure_sorted Δ Γ f s (has_whole {n = n}) w = number_sorted (tree.whole n) tt
      pure_sorted Δ Γ f s (has_flag {b = b}) w = truth_sorted (tree.flag b) (pure_stands Δ Γ f s (has_flag {b = b}) w)
      pure_sorted Δ Γ f s (has_negated {a = a} h) w = number_sorted (tree.negated a) (pure_stands Δ Γ f s (has_negated h) w)
      pure_sorted Δ Γ f s (has_add {a = a} {b = b} h k) w = number_sorted (tree.add a b) (pure_stands Δ Γ f s (has_add h k) w)
      pure_sorted Δ Γ f s (has_subtract {a = a} {b = b} h k) w = number_sorted (tree.subtract a b) (pure_stands Δ Γ f s (has_subtract h k) w)
      pure_sorted Δ Γ f s (has_multiply {a = a} {b = b} h k) w = number_sorted (tree.multiply a b) (pure_stands Δ Γ f s (has_multiply h k) w)
      pure_sorted Δ Γ f s (has_length {a = a} h) w = number_sorted (tree.length_of a) (pure_stands Δ Γ f s (has_length h) w)
      pure_sorted Δ Γ f s (has_compare {o = o} {a = a} {b = b} h k) w = truth_sorted (tree.compare o a b) (pure_stands Δ Γ f s (has_compare {o = o} h k) w)
      pure_sorted Δ Γ f s (has_not {a = a} h) w = truth_sorted (tree.not_of a) (pure_stands Δ Γ f s (has_not h) w)
      pure_sorted Δ Γ f s (has_and {a = a} {b = b} h k) w = truth_sorted (tree.and_of a b) (pure_stands Δ Γ f s (has_and h k) w)
      pure_sorted Δ Γ f s (has_or {a = a} {b = b} h k) w = truth_sorted (tree.or_of a b) (pure_stands Δ Γ f s (has_or h k) w)
