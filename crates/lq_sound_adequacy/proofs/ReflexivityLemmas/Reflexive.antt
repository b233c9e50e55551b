-- Each part follows from hypotheses that have it, and each type is a subtype of itself.
use Rattle.std.proofs.Common.{◌≡◌, ◌∙◌, inl, inr, ℕ, suc, Bool, true, false, ◌==◌, cond, List, [], ◌∷◌, ◌++◌, append_assoc, map, Some, None, refl, sym, ap, subst}
use Rattle.std.proofs.lemmas.Bool.{eq-eqb}
use Rattle.lq_logic_predicates.specs.ClosedImplication.{MeetsEach}
use Rattle.lq_logic_predicates.specs.Formula.{Formula}
use Rattle.lq_logic_predicates.specs.Points.{Point, Meets}
use Rattle.lq_logic_predicates.specs.Reading.{reading_of}
use Rattle.lq_logic_predicates.specs.declared.symbol.Symbol.TheVariants.{Position}
use Rattle.lq_refined_types.specs.Parts.Assignment.{Assignment, goal_under, part_under, parts_under}
use Rattle.lq_refined_types.specs.Parts.Part.{Part, known, unknown, Parts}
use Rattle.lq_refined_types.specs.Parts.Substitution.{formula_by}
use Rattle.lq_refined_types.proofs.PartsLemmas.Flows.{MeetsSome, some_of}
use Rattle.lq_refined_types.specs.Types.Context.{Context, name}
use Rattle.lq_refined_types.specs.Types.Operations.{applied, atom_of, renamed, symbol_of}
use Rattle.lq_refined_types.specs.Types.Refined.{Matrix, Refined, int_with, bool_with, unit_type, function, tuple_of, array_with, data_with, map_with, type_variable, Refineds, none, more, Kind, kind, top}
use Rattle.lq_refined_types.specs.Subtyping.Implication.{EachImplied}
use Rattle.lq_refined_types.specs.Subtyping.Subtype.{Setting, CellsImplied, cell_context, facts, with_binder, with_key, IsSubtype, sub, IsInside, in_int, in_bool, in_unit, in_variable, in_function, in_tuple, in_array, in_data, in_map, AreSubtypes, sub_none, sub_more, AreComponents, component_none, component_more}
use Rattle.lq_sound_adequacy.specs.Reflexivity.Laws.{AreFound, HasOwnPlaces, HaveOwnPlaces, SubtypingIsReflexive}
use Rattle.lq_sound_adequacy.proofs.ReflexivityLemmas.Exclusive.{exclusive}

meets_first : (p : Point) (ps qs : List Formula) → MeetsEach p (ps ++ qs) → MeetsEach p ps
meets_first p [] qs h = tt
meets_first p (q ∷ ps) qs h = (h.0, meets_first p ps qs h.1)

meets_second : (p : Point) (ps qs : List Formula) → MeetsEach p (ps ++ qs) → MeetsEach p qs
meets_second p [] qs h = h
meets_second p (q ∷ ps) qs h = meets_second p ps qs h.1

meets_not : (p : Point) (qs : List Formula) → MeetsEach p qs → MeetsSome p qs → ⊥
meets_not p [] h k = k
meets_not p (q ∷ qs) h (inl k) = exclusive p q h.0 k
meets_not p (q ∷ qs) h (inr k) = meets_not p qs h.1 k

module _ (A : Assignment) where
  under_append : (ps qs : Parts) → parts_under A (ps ++ qs) ≡ parts_under A ps ++ parts_under A qs
  under_append [] qs = refl
  under_append (p ∷ ps) qs =
      ap (λ l. part_under A p ++ l) (under_append ps qs) ∙ sym (append_assoc (part_under A p) (parts_under A ps) (parts_under A qs))

  goal_not : (p : Point) (q : Part) → MeetsEach p (part_under A q) → Meets p (reading_of false (goal_under A q)) → ⊥
  goal_not p (known f) h k = exclusive p f h.0 k
  goal_not p (unknown u σ) h k = meets_not p (map (formula_by σ) (A u)) h (some_of p (map (formula_by σ) (A u)) k)

  -- parts that hold where the hypotheses do
  each_implied : (hs qs : Parts) → ((p : Point) → MeetsEach p (parts_under A hs) → MeetsEach p (parts_under A qs)) → EachImplied A hs qs
  each_implied hs [] m = tt
  each_implied hs (q ∷ qs) m = (
    (λ p i h k. goal_not p q (meets_first p (part_under A q) (parts_under A qs) (m p h)) k),
    each_implied hs qs (λ p h. meets_second p (part_under A q) (parts_under A qs) (m p h)),
  )

  own_implied : (hs qs : Parts) → EachImplied A (hs ++ qs) qs
  own_implied hs qs =
      each_implied (hs ++ qs) qs
      (λ p h. meets_second p (parts_under A hs) (parts_under A qs) (subst (λ (l : List Formula). MeetsEach p l) (under_append hs qs) h))

  module _ (P : Setting) where
    own_cells : (Γ : Context) (d : ℕ) (ts : Refineds) (m n : Matrix) → AreFound m n → CellsImplied P A Γ d ts m n
    own_cells Γ d ts m [] h = tt
    own_cells Γ d ts m (e ∷ n) h =
        let hs : Parts = facts P (cell_context P Γ d ts m e) in
        (subst (λ (ps : Parts). EachImplied A (hs ++ ps) e.parts) (sym h.0) (own_implied hs e.parts), own_cells Γ d ts m n h.1)

    -- a name for itself
    same_name : (x : ℕ) (k : Kind) (t : Refined) → renamed P.scopes (Some x) (Some x) k t ≡ t
    same_name x k t = by (x == x) (eq-eqb x x refl)
      where
        by : (b : Bool) → b ≡ true → cond b t (applied P.scopes (Some x) (atom_of k (symbol_of x)) t) ≡ t
        by b e = ap (λ c. cond c t (applied P.scopes (Some x) (atom_of k (symbol_of x)) t)) e

    mutual
      own_inside : (Γ : Context) (t : Refined) → HasOwnPlaces t → IsInside P A Γ t t
      own_inside Γ (int_with p) h = in_int
      own_inside Γ (bool_with p) h = in_bool
      own_inside Γ unit_type h = in_unit
      own_inside Γ (function None a b) h =
          in_function (sub (own_implied (facts P Γ) (top a)) (own_inside Γ a h.0)) (sub (own_implied (facts P Γ) (top b)) (own_inside Γ b h.1))
      own_inside Γ (function (Some x) a b) h =
          let Δ : Context = with_binder (Some x) a Γ in
          in_function (sub (own_implied (facts P Γ) (top a)) (own_inside Γ a h.0))
          (subst (λ (c : Refined). IsSubtype P A Δ c b) (sym (same_name x (kind a) b)) (sub (own_implied (facts P Δ) (top b)) (own_inside Δ b h.1)))
      own_inside Γ (tuple_of ts) h = in_tuple (own_components Γ Γ 0 ts h)
      own_inside Γ (array_with e p) h =
          in_array (sub (own_implied (facts P Γ) (top e)) (own_inside Γ e h)) (sub (own_implied (facts P Γ) (top e)) (own_inside Γ e h))
      own_inside Γ (data_with d ts m p) h = in_data (own_arguments Γ ts h.0) (own_cells Γ d ts m m h.1)
      own_inside Γ (map_with e p) h = in_map (sub (own_implied (facts P (with_key Γ)) (top e)) (own_inside (with_key Γ) e h))
      own_inside Γ (type_variable i) h = in_variable

      own_arguments : (Γ : Context) (ts : Refineds) → HaveOwnPlaces ts → AreSubtypes P A Γ ts ts
      own_arguments Γ none h = sub_none
      own_arguments Γ (more t ts) h = sub_more (sub (own_implied (facts P Γ) (top t)) (own_inside Γ t h.0)) (own_arguments Γ ts h.1)

      own_components : (Γ Δ : Context) (k : ℕ) (ts : Refineds) → HaveOwnPlaces ts → AreComponents P A Γ Δ k ts ts
      own_components Γ Δ k none h = component_none
      own_components Γ Δ k (more t ts) h =
          component_more (own_implied (facts P Δ) (top t)) (own_inside Γ t h.0) (own_components Γ (name (Position (suc k)) t ∷ Δ) (suc k) ts h.1)

pub reflexive : SubtypingIsReflexive
reflexive P A Γ t h = sub (own_implied A (facts P Γ) (top t)) (own_inside A P Γ t h)
