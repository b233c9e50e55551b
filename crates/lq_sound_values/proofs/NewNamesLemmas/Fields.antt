-- The fields of a datatype may be bound, and its entries are apart.
use Rattle.std.proofs.Common.{◌≡◌, ℕ, zero, suc, ◌<◌, ◌≤◌, ◌==◌, Bool, true, false, cond, ◌||◌, [], ◌∷◌, ◌++◌, refl, ap, subst, arith as numbers}
use Rattle.std.proofs.lemmas.Bool.{eqb-true}
use Rattle.lq_logic_predicates.specs.declared.symbol.Symbol.{Symbol}
use Rattle.lq_logic_predicates.specs.declared.symbol.Symbol.TheVariants as symbol
use Rattle.lq_refined_types.specs.Parts.Assignment.{parts_under}
use Rattle.lq_refined_types.specs.Parts.Part.{parts_by}
use Rattle.lq_refined_types.specs.Parts.Substitution.{swap}
use Rattle.lq_text_tree.specs.MlType as ml
use Rattle.lq_text_tree.specs.MlType.{MlType, MlTypes}
use Rattle.lq_refined_types.specs.Types.Context.{Context, name}
use Rattle.lq_refined_types.specs.Types.Operations.{atom_of}
use Rattle.lq_refined_types.specs.Types.Refined.{Matrix, Refined, Refineds, int_with, bool_with, unit_type, function, tuple_of, array_with, data_with, map_with, type_variable, none, more, number, truth_value, object, other, top, type_at, count}
use Rattle.lq_refined_types.specs.Types.Unfolding.{bare, is_again, unfolded_from}
use Rattle.lq_refined_types.specs.Types.Unfolding as open_types
use Rattle.lq_refined_types.specs.Subtyping.Subtype.{fields_of, facts}
use Rattle.lq_sound_values.specs.Inhabitants.Truth.{Scene}
use Rattle.lq_sound_values.specs.Inclusion.Apart.{MayBind, MayBindFields, CellsOn, AreCellsApart}
use Rattle.lq_sound_values.specs.Inclusion.Laws.{IsScene}
use Rattle.lq_sound_values.specs.Inclusion.Symbols.{Symbols, other_than, with_symbol, Lacks}
use Rattle.lq_sound_values.specs.Runs.Closed.{names_in, IsTypeOver, IsClosed, Binds}
use Rattle.lq_sound_values.proofs.RunsLemmas.Closing.{Within, or_parts, within_with, each_more, closed_bind, may_bind}
use Rattle.lq_sound_values.proofs.RunsLemmas.Lower.{Lower}
use Rattle.lq_sound_values.specs.NewNames.NewNames.{HasNoPositions}
use Rattle.lq_sound_values.proofs.NewNamesLemmas.Wider.{over_more, new_of}

pub both_false : (a b : Bool) → a ≡ false → b ≡ false → a || b ≡ false
both_false true b p q = absurd (cc)
both_false false b p q = q

pub less_apart : (j i : ℕ) → j < i → (j == i) ≡ false
less_apart j i lt = differ (j == i) (λ e. let q = eqb-true j i e in omega (numbers, q, lt))
  where
    differ : (b : Bool) → (b ≡ true → ⊥) → b ≡ false
    differ true f = absurd (f refl)
    differ false f = refl

-- each speaks of these symbols
abbrev pub AllOver : Scene → Symbols → Refineds → Type 0
AllOver S N none = Unit {0}
AllOver S N (more t ts) = IsTypeOver S N t × AllOver S N ts

-- a type of the kind and with the top
abbrev shallow : Refined → Refined
shallow (int_with p) = int_with p
shallow (bool_with p) = bool_with p
shallow unit_type = unit_type
shallow (function x a b) = unit_type
shallow (tuple_of ts) = unit_type
shallow (array_with e p) = array_with unit_type p
shallow (data_with d ts m p) = array_with unit_type p
shallow (map_with e p) = map_with unit_type p
shallow (type_variable i) = unit_type

top-shallow : (t : Refined) → top (shallow t) ≡ top t
top-shallow (int_with p) = refl
top-shallow (bool_with p) = refl
top-shallow unit_type = refl
top-shallow (function x a b) = refl
top-shallow (tuple_of ts) = refl
top-shallow (array_with e p) = refl
top-shallow (data_with d ts m p) = refl
top-shallow (map_with e p) = refl
top-shallow (type_variable i) = refl

shallow_over : (S : Scene) (N : Symbols) (t : Refined) → IsTypeOver S N t → IsTypeOver S N (shallow t)
shallow_over S N (int_with p) o = o
shallow_over S N (bool_with p) o = o
shallow_over S N unit_type o = o
shallow_over S N (function x a e) o = ((tt, tt), tt)
shallow_over S N (tuple_of ts) o = ((tt, tt), tt)
shallow_over S N (array_with e p) o = (((tt, tt), o.0.1), o.1)
shallow_over S N (data_with e ts m p) o = (((tt, tt), o.0.1), o.1)
shallow_over S N (map_with e p) o = ((tt, o.0.1), o.1)
shallow_over S N (type_variable j) o = ((tt, tt), tt)

module _ (law : Lower) (S : Scene) (is : IsScene S) where
  same_facts : (t : Refined) (x : Symbol) (Γ Λ : Context) → facts S.setting Λ ≡ facts S.setting Γ
      → facts S.setting (name x (shallow t) ∷ Λ) ≡ facts S.setting (name x t ∷ Γ)
  same_facts (int_with p) x Γ Λ e = ap (λ h. h ++ parts_by S.setting.scopes (swap symbol.Value (atom_of number x) ∷ []) p) e
  same_facts (bool_with p) x Γ Λ e = ap (λ h. h ++ parts_by S.setting.scopes (swap symbol.Value (atom_of truth_value x) ∷ []) p) e
  same_facts unit_type x Γ Λ e = ap (λ h. h ++ []) e
  same_facts (function y a b) x Γ Λ e = ap (λ h. h ++ []) e
  same_facts (tuple_of ts) x Γ Λ e = ap (λ h. h ++ []) e
  same_facts (array_with c p) x Γ Λ e = ap (λ h. h ++ parts_by S.setting.scopes (swap symbol.Value (atom_of object x) ∷ []) p) e
  same_facts (data_with d ts m p) x Γ Λ e = ap (λ h. h ++ parts_by S.setting.scopes (swap symbol.Value (atom_of object x) ∷ []) p) e
  same_facts (map_with c p) x Γ Λ e = ap (λ h. h ++ parts_by S.setting.scopes (swap symbol.Value (atom_of other x) ∷ []) p) e
  same_facts (type_variable i) x Γ Λ e = ap (λ h. h ++ []) e

  may_shallow : (t : Refined) (x : Symbol) (Γ Λ : Context) → facts S.setting Λ ≡ facts S.setting Γ → MayBind S x (shallow t) Λ → MayBind S x t Γ
  may_shallow t x Γ Λ e m = (
    subst (Lacks S.assignment x) e m.0,
    subst (Lacks S.assignment x) (top-shallow t) m.1,
    m.2,
    subst (Lacks S.assignment symbol.Value) (same_facts t x Γ Λ e) m.3,
  )

  module _ (N : Symbols) (d : ℕ) (Ls : Refineds) (M : Matrix) (c : ℕ) (arguments : AllOver S N Ls) where
    argument_at : (Us : Refineds) → AllOver S N Us → (i : ℕ) → IsTypeOver S N (shallow (type_at Us i))
    argument_at none b i = ((tt, tt), tt)
    argument_at (more t Us) b zero = shallow_over S N t b.0
    argument_at (more t Us) b (suc i) = argument_at Us b.1 i

    bare_over : (f : MlType) → IsTypeOver S N (shallow (bare Ls f))
    bare_over (ml.var i) = argument_at Ls arguments i
    bare_over ml.int = ((tt, tt), tt)
    bare_over ml.bool = ((tt, tt), tt)
    bare_over ml.unit = ((tt, tt), tt)
    bare_over (ml.arrow a b) = ((tt, tt), tt)
    bare_over (ml.tuple ts) = ((tt, tt), tt)
    bare_over (ml.array a) = (((tt, tt), tt), tt)
    bare_over (ml.named e ts) = (((tt, tt), tt), tt)
    bare_over (ml.map_of a) = ((tt, tt), tt)

    field_over : (z : Bool) (Us : Refineds) (f : MlType) → IsTypeOver S N (shallow (cond z (data_with d Us M []) (bare Ls f)))
    field_over true Us f = (((tt, tt), tt), tt)
    field_over false Us f = bare_over f

    fields_may : (fs : MlTypes) (j : ℕ) (Γ Λ : Context) → facts S.setting Λ ≡ facts S.setting Γ → IsClosed S Λ → Within N (names_in Λ)
        → ((i : ℕ) → j ≤ i → names_in Λ (symbol.Position (suc i)) ≡ false)
        → MayBindFields S j (unfolded_from S.setting.scopes [] d Ls M c j fs) Γ
    fields_may ml.no_types j Γ Λ e closed w new = tt
    fields_may (ml.more_types f fs) j Γ Λ e closed w new =
        let x = symbol.Position (suc j) in
        let Us = open_types.pushed S.setting.scopes [] M c j 0 Ls in
        let T : Refined = cond (is_again d (count Ls) f) (data_with d Us M []) (bare Ls f) in
        let o = over_more S N (names_in Λ) w (shallow T) (field_over (is_again d (count Ls) f) Us f) in
        let inner : Binds S x (shallow T) Λ = (refl, new_of Λ x (new j (omega numbers)), o, closed) in (
          may_shallow T x Γ Λ e (may_bind law S is Λ x (shallow T) inner),
          fields_may fs (suc j) (name x T ∷ Γ) (name x (shallow T) ∷ Λ) (same_facts T x Γ Λ e) (closed_bind S x (shallow T) Λ inner)
              (λ y h. within_with (names_in Λ) x y (w y h))
              (λ i le.
              both_false (names_in Λ (symbol.Position (suc i))) (suc j == suc i) (new i (omega (numbers, le)))
              (less_apart (suc j) (suc i) (omega (numbers, le)))),
        )

    tops_lack : HasNoPositions N → (Us : Refineds) → AllOver S N Us → (i j : ℕ) → Lacks S.assignment (symbol.Position (suc j)) (top (type_at Us i))
    tops_lack clean none b i j = tt
    tops_lack clean (more t Us) b zero j =
        each_more (with_symbol N symbol.Value) (other_than (symbol.Position (suc j))) (λ y h. apart y h) (parts_under S.assignment (top t)) b.0.0.1
      where
        clash : (z : Bool) → z ≡ false → z ≡ true → ⊥
        clash true p q = cc
        clash false p q = cc

        apart : (y : Symbol) → with_symbol N symbol.Value y ≡ true → other_than (symbol.Position (suc j)) y ≡ true
        apart symbol.Value h = refl
        apart (symbol.Bound x) h = refl
        apart (symbol.Position i) h =
            or_parts (other_than (symbol.Position (suc j)) (symbol.Position i) ≡ true) (N (symbol.Position i)) false h
            (λ p. absurd (clash (N (symbol.Position i)) (clean i) p)) (λ q. absurd (cc))
    tops_lack clean (more t Us) b (suc i) j = tops_lack clean Us b.1 i j

  -- where arguments speak of names of the environment, and entries of v and of fields
  pub cells_apart : (Γ : Context) → IsClosed S Γ → HasNoPositions (names_in Γ) → (d : ℕ) (Ls : Refineds) (M N : Matrix) → AllOver S (names_in Γ) Ls
      → CellsOn S M → CellsOn S N → AreCellsApart S Γ d Ls M N
  cells_apart Γ closed clean d Ls M N o left right =
      record {
        fields = λ c.
            fields_may (names_in Γ) d Ls M c o (fields_of (S.setting.constructors c)) 0 Γ Γ refl closed (λ y h. h) (λ k le. clean (suc k));
        arguments = λ k e. tops_lack (names_in Γ) d Ls M 0 o clean Ls o k e;
        left_cells = left;
        right_cells = right;
      }
