-- A datatype's matrix whose entries are implied is entailed.
use Rattle.std.proofs.Common.{◌≡◌, ℕ, zero, suc, ◌+◌, ◌<◌, ◌≤◌, ◌==◌, ◌&&◌, ◌||◌, Bool, true, false, cond, [], ◌∷◌, ◌++◌, ◌⊎◌, inl, inr, Some, refl, sym, ap, ◌∙◌, subst, arith as numbers}
use Rattle.std.proofs.lemmas.Bool.{eqb-true, and_parts, ltb-true}
use Rattle.lq_logic_predicates.specs.declared.symbol.Symbol.{Symbol}
use Rattle.lq_logic_predicates.specs.declared.symbol.Symbol.TheVariants as symbol
use Rattle.lq_logic_predicates.specs.Sum.{same_symbol}
use Rattle.lq_meaning_steps.specs.Model.Core.{Value, Values, no_values, more_values}
use Rattle.lq_refined_types.specs.Parts.Assignment.{IsScoped}
use Rattle.lq_refined_types.specs.Parts.Part.{Parts}
use Rattle.lq_text_tree.specs.MlType as ml
use Rattle.lq_text_tree.specs.MlType.{MlType, MlTypes}
use Rattle.lq_text_tree.specs.Types.{count_types}
use Rattle.lq_refined_types.specs.Types.Context.{Context, name, guard}
use Rattle.lq_refined_types.specs.Types.Refined.{Cell, Matrix, Refined, Refineds, none, more, int_with, bool_with, unit_type, function, tuple_of, array_with, data_with, map_with, type_variable, top, type_at, count}
use Rattle.lq_refined_types.specs.Types.Unfolding.{bare, is_again, cell, unfolded_from}
use Rattle.lq_refined_types.specs.Types.Unfolding as open_types
use Rattle.lq_refined_types.specs.Subtyping.Implication.{EachImplied}
use Rattle.lq_refined_types.specs.Subtyping.Subtype.{fields_of, with_fields, with_guards, facts, CellsImplied}
use Rattle.lq_sound_values.specs.Inhabitants.Truth.{Givens, given, value_at, Scene, AreTrue}
use Rattle.lq_sound_values.specs.Inhabitants.Shut.{shut, Shuts, shut_all, count_shuts, position, field_values, field_by, unfolded}
use Rattle.lq_sound_values.specs.Inhabitants.Datatypes.{TypeHas, HasTops, AllHaveTops, Entails}
use Rattle.lq_sound_values.specs.Inclusion.Symbols.{Symbols, other_than, with_symbol, Lacks, Agree}
use Rattle.lq_sound_values.specs.Inclusion.Apart.{IsKnown, MayBindFields, of_fields, AreCellsApart}
use Rattle.lq_sound_values.proofs.InclusionLemmas.Truths.{Lower, each_implied_true, parts_append, parts_first, parts_rest, parts_same, still_true, at_but, at_self, agree_with, agree_other, agree_back}
use Rattle.lq_sound_values.proofs.InclusionLemmas.Knowing.{known_bind}

-- the fields' values in front, the last one first
abbrev onto : ℕ → Values → Givens → Givens
onto j no_values ρ = ρ
onto j (more_values v vs) ρ = onto (suc j) vs (position j v ρ)

abbrev count_values : Values → ℕ
count_values no_values = 0
count_values (more_values v vs) = suc (count_values vs)

-- ---- the tops of fields, with the arguments read at their own values

module _ (S : Scene) (σ : Givens) (by : Shuts) (Ls : Refineds) where
  count-shut : (Ts : Refineds) → count_shuts (shut_all σ by Ts) ≡ count Ts
  count-shut none = refl
  count-shut (more T Ts) = ap suc (count-shut Ts)

  -- at these values the parts of each argument's top are those that they are at its own
  abbrev Moves : Givens → Type 0
  Moves ρ =
      (i : ℕ) (v : Value) → AreTrue S (given symbol.Value v ∷ σ) (top (type_at Ls i)) → AreTrue S (given symbol.Value v ∷ ρ) (top (type_at Ls i))

  type_tops : (T : Refined) (v : Value) → HasTops S (shut σ by T) v → TypeHas T v × AreTrue S (given symbol.Value v ∷ σ) (top T)
  type_tops (int_with p) v h = (h.0, h.1.0)
  type_tops (bool_with p) v h = (h.0, h.1.0)
  type_tops unit_type v h = (tt, tt)
  type_tops (function x A T) v h = (tt, tt)
  type_tops (tuple_of Ts) v h = (tt, tt)
  type_tops (array_with E p) v h = (h.0, h.1.0)
  type_tops (data_with d As M p) v h = (h.0, h.1.0)
  type_tops (map_with E p) v h = absurd h.0
  type_tops (type_variable a) v h = (tt, tt)

  argument_tops : (Ts : Refineds) (i : ℕ) (v : Value) → HasTops S (shut [] (shut_all σ by Ts) (type_variable i)) v → TypeHas (type_at Ts i) v × AreTrue S (given symbol.Value v ∷ σ) (top (type_at Ts i))
  argument_tops none i v h = (tt, tt)
  argument_tops (more T Ts) zero v h = type_tops T v h
  argument_tops (more T Ts) (suc i) v h = argument_tops Ts i v h

  bare_tops : (ρ : Givens) → Moves ρ → (f : MlType) (v : Value) → HasTops S (field_by false [] 0 (shut_all σ by Ls) [] 0 0 f) v → TypeHas (bare Ls f) v × AreTrue S (given symbol.Value v ∷ ρ) (top (bare Ls f))
  bare_tops ρ m (ml.var i) v h = let r = argument_tops Ls i v h in (r.0, m i v r.1)
  bare_tops ρ m ml.int v h = (h.0, tt)
  bare_tops ρ m ml.bool v h = (h.0, tt)
  bare_tops ρ m ml.unit v h = (tt, tt)
  bare_tops ρ m (ml.arrow a b) v h = (tt, tt)
  bare_tops ρ m (ml.tuple ts) v h = (tt, tt)
  bare_tops ρ m (ml.array a) v h = (h.0, tt)
  bare_tops ρ m (ml.named d ts) v h = (h.0, tt)
  bare_tops ρ m (ml.map_of a) v h = absurd h.0

  field_tops : (ρ τ : Givens) → Moves ρ → (x y : Bool) → x ≡ y → (d : ℕ) (M : Matrix) (c j : ℕ) (f : MlType) (Us : Refineds) (v : Value) → HasTops S (field_by x τ d (shut_all σ by Ls) M c j f) v → TypeHas (cond y (data_with d Us M []) (bare Ls f)) v × AreTrue S (given symbol.Value v ∷ ρ) (top (cond y (data_with d Us M []) (bare Ls f)))
  field_tops ρ τ m true true e d M c j f Us v h = (h.0, tt)
  field_tops ρ τ m false false e d M c j f Us v h = bare_tops ρ m f v h
  field_tops ρ τ m true false e d M c j f Us v h = absurd (cc)
  field_tops ρ τ m false true e d M c j f Us v h = absurd (cc)

  -- ---- the fields bound to their values

  less_or : (p b : Bool) → p ≡ true → p || b ≡ true
  less_or true b h = refl
  less_or false b h = absurd (cc)

  agree_less : (P : Symbols) (x : Symbol) (κ μ : Givens) → Agree (with_symbol P x) κ μ → Agree P κ μ
  agree_less P x κ μ f y h = f y (less_or (P y) (same_symbol x y) h)

  moves_on : (j : ℕ) (w : Value) (ρ : Givens) → ((i : ℕ) → Lacks S.assignment (symbol.Position (suc j)) (top (type_at Ls i))) → Moves ρ → Moves (position j w ρ)
  moves_on j w ρ l m i v h =
      let P = other_than (symbol.Position (suc j)) in
      parts_same S P (given symbol.Value v ∷ ρ) (given symbol.Value v ∷ position j w ρ) (top (type_at Ls i)) (agree_less P symbol.Value (given symbol.Value v ∷ ρ) (given symbol.Value v ∷ position j w ρ) (agree_with P ρ (position j w ρ) symbol.Value v (agree_other ρ (symbol.Position (suc j)) w))) (l i) (m i v h)

  module _ (law : Lower) (scoped : IsScoped S.setting.scopes S.assignment) (lacks : (i j : ℕ) → Lacks S.assignment (symbol.Position (suc j)) (top (type_at Ls i))) (d : ℕ) (M : Matrix) (c : ℕ) (τ : Givens) where
    abbrev opened : ℕ → MlTypes → Refineds
    opened j fs = unfolded_from S.setting.scopes [] d Ls M c j fs

    fields_known : (fs : MlTypes) (vs : Values) (j : ℕ) (Γ : Context) (ρ : Givens) → Moves ρ → AllHaveTops S (unfolded τ d (shut_all σ by Ls) M c j fs) vs → MayBindFields S j (opened j fs) Γ → IsKnown S Γ ρ → IsKnown S (with_fields j (opened j fs) Γ) (onto j vs ρ) × Moves (onto j vs ρ) × (count_values vs ≡ count_types fs)
    fields_known ml.no_types no_values j Γ ρ m h b k = (k, m, refl)
    fields_known ml.no_types (more_values v vs) j Γ ρ m h b k = absurd h
    fields_known (ml.more_types f fs) no_values j Γ ρ m h b k = absurd h
    fields_known (ml.more_types f fs) (more_values v vs) j Γ ρ m h b k =
        let Us = open_types.pushed S.setting.scopes [] M c j 0 Ls in
        let x = is_again d (count Ls) f in
        let T : Refined = cond x (data_with d Us M []) (bare Ls f) in
        let t = field_tops ρ τ m (is_again d (count_shuts (shut_all σ by Ls)) f) x (ap (λ n. is_again d n f) (count-shut Ls)) d M c j f Us v h.0 in
        let r = fields_known fs vs (suc j) (name (symbol.Position (suc j)) T ∷ Γ) (position j v ρ) (moves_on j v ρ (λ i. lacks i j) m) h.1 b.1 (known_bind law S scoped Γ ρ (symbol.Position (suc j)) T v b.0 k t.0 t.1) in
        (r.0, r.1, ap suc r.2)

-- ---- the values of fields

eqb_less : (j k : ℕ) → k < j → (j == k) ≡ false
eqb_less j k lt = differ (j == k) (λ e. omega (numbers, eqb-true j k e, lt))
  where
    differ : (b : Bool) → (b ≡ true → ⊥) → b ≡ false
    differ true f = absurd (f refl)
    differ false f = refl

eqb_more : (j k : ℕ) → j < k → (j == k) ≡ false
eqb_more j k lt = differ (j == k) (λ e. omega (numbers, eqb-true j k e, lt))
  where
    differ : (b : Bool) → (b ≡ true → ⊥) → b ≡ false
    differ true f = absurd (f refl)
    differ false f = refl

onto_below : (vs : Values) (j k : ℕ) (ρ : Givens) → k < j → value_at (onto j vs ρ) (symbol.Position (suc k)) ≡ value_at ρ (symbol.Position (suc k))
onto_below no_values j k ρ lt = refl
onto_below (more_values v vs) j k ρ lt =
    onto_below vs (suc j) k (position j v ρ) (omega (numbers, lt)) ∙ at_but ρ (symbol.Position (suc j)) (symbol.Position (suc k)) v (eqb_less (suc j) (suc k) (omega (numbers, lt)))

same_or : (j k : ℕ) → j ≤ k → (j ≡ k) ⊎ (suc j ≤ k)
same_or zero zero le = inl refl
same_or zero (suc k) le = inr (omega numbers)
same_or (suc j) zero le = absurd (omega (numbers, le))
same_or (suc j) (suc k) le = elim (same_or j k (omega (numbers, le))) [ inl e ↦ inl (ap suc e) | inr l ↦ inr (omega (numbers, l)) ]

onto_at : (vs : Values) (j k : ℕ) (ρ : Givens) → j ≤ k → k < j + count_values vs → value_at (field_values j vs) (symbol.Position (suc k)) ≡ value_at (onto j vs ρ) (symbol.Position (suc k))
onto_at no_values j k ρ le lt = absurd (omega (numbers, le, lt))
onto_at (more_values v vs) j k ρ le lt = elim (same_or j k le) [ inl e ↦ subst (λ i. value_at (field_values j (more_values v vs)) (symbol.Position (suc i)) ≡ value_at (onto j (more_values v vs) ρ) (symbol.Position (suc i))) e (here j) | inr l ↦ at_but (field_values (suc j) vs) (symbol.Position (suc j)) (symbol.Position (suc k)) v (eqb_more (suc j) (suc k) (omega (numbers, l))) ∙ onto_at vs (suc j) k (position j v ρ) l (omega (numbers, lt)) ]
  where
    self : (i : ℕ) (κ : Givens) → value_at (position i v κ) (symbol.Position (suc i)) ≡ Some v
    self i κ = at_self κ (symbol.Position (suc i)) v

    here : (i : ℕ) → value_at (field_values i (more_values v vs)) (symbol.Position (suc i)) ≡ value_at (onto i (more_values v vs) ρ) (symbol.Position (suc i))
    here i = self i (field_values (suc i) vs) ∙ sym (onto_below vs (suc i) i (position i v ρ) (omega numbers) ∙ self i ρ)

fields_agree : (vs : Values) (ρ : Givens) (u : Value) → Agree (of_fields (count_values vs)) (given symbol.Value u ∷ field_values 0 vs) (given symbol.Value u ∷ onto 0 vs ρ)
fields_agree vs ρ u symbol.Value h = refl
fields_agree vs ρ u (symbol.Bound x) h = absurd (cc)
fields_agree vs ρ u (symbol.Position zero) h = absurd (cc)
fields_agree vs ρ u (symbol.Position (suc k)) h = onto_at vs 0 k ρ (omega numbers) (omega (numbers, ltb-true k (count_values vs) h))

-- ---- entries

guards_true : (S : Scene) (ρ : Givens) (qs : Parts) (Γ : Context) → AreTrue S ρ (facts S.setting Γ) → AreTrue S ρ qs → AreTrue S ρ (facts S.setting (with_guards qs Γ))
guards_true S ρ [] Γ h k = h
guards_true S ρ (q ∷ qs) Γ h k =
    guards_true S ρ qs (guard q ∷ Γ) (parts_append S ρ (facts S.setting Γ) (q ∷ []) h (parts_first S ρ q qs k)) (parts_rest S ρ q qs k)

module _ (law : Lower) (S : Scene) (Γ : Context) (d : ℕ) (Ls : Refineds) (M : Matrix) (ρ κ : Givens) where
  abbrev place_facts : ℕ → ℕ → ℕ → Parts
  place_facts c j i =
      facts S.setting (with_guards (top (type_at Ls i)) (with_fields 0 (open_types.unfolded S.setting.scopes [] d Ls M c (fields_of (S.setting.constructors c))) Γ)) ++ cell M c j i

  entry_true : (e : Cell) (c j i : ℕ) → e.constructor ≡ c → e.field ≡ j → e.parameter ≡ i → EachImplied S.assignment (place_facts e.constructor e.field e.parameter) e.parts → AreTrue S ρ (place_facts c j i) → AreTrue S ρ e.parts
  entry_true e c j i p q r v h =
      each_implied_true law S ρ (place_facts e.constructor e.field e.parameter) e.parts v (subst (λ x. AreTrue S ρ (place_facts x e.field e.parameter)) (sym p) (subst (λ x. AreTrue S ρ (place_facts c x e.parameter)) (sym q) (subst (λ x. AreTrue S ρ (place_facts c j x)) (sym r) h)))

  chosen : (b : Bool) (e : Cell) (c j i : ℕ) (rest : Parts) → (b ≡ true → AreTrue S ρ e.parts) → AreTrue S ρ rest → AreTrue S ρ (cond b e.parts rest)
  chosen true e c j i rest f h = f refl
  chosen false e c j i rest f h = h

  cell_true : (N : Matrix) → CellsImplied S.setting S.assignment Γ d Ls M N → (c j i : ℕ) → AreTrue S ρ (place_facts c j i) → AreTrue S ρ (cell N c j i)
  cell_true [] v c j i h = tt
  cell_true (e ∷ N) v c j i h =
      chosen (e.constructor == c && (e.field == j && e.parameter == i)) e c j i (cell N c j i) (λ is.
      let p = and_parts (e.constructor == c) (e.field == j && e.parameter == i) is in
      let q = and_parts (e.field == j) (e.parameter == i) p.1 in
      entry_true e c j i (eqb-true e.constructor c p.0) (eqb-true e.field j q.0) (eqb-true e.parameter i q.1) v.0 h) (cell_true N v.1 c j i h)

pub cells_entail : Lower → (S : Scene) → IsScoped S.setting.scopes S.assignment → (Γ : Context) (σ : Givens) (by : Shuts) (d : ℕ) (Ls : Refineds) (M N : Matrix) → IsKnown S Γ σ → AreCellsApart S Γ d Ls M N → CellsImplied S.setting S.assignment Γ d Ls M N → Entails S d (shut_all σ by Ls) M N
cells_entail law S scoped Γ σ by d Ls M N known a cells c k vs makes tops j i u arg here =
    let e : fields_of (S.setting.constructors c) ≡ k.fields = ap fields_of makes.0 in
    let may : MayBindFields S 0 (open_types.unfolded S.setting.scopes [] d Ls M c k.fields) Γ = subst (λ fs. MayBindFields S 0 (open_types.unfolded S.setting.scopes [] d Ls M c fs) Γ) e (a.fields c) in
    let r = fields_known S σ by Ls law scoped a.arguments d M c (field_values 0 vs) k.fields vs 0 Γ σ (λ z v h. h) tops may known in
    let ρ = given symbol.Value u ∷ onto 0 vs σ in
    let Δ = with_fields 0 (open_types.unfolded S.setting.scopes [] d Ls M c k.fields) Γ in
    let n = count_types (fields_of (S.setting.constructors c)) in
    let count : n ≡ count_values vs = ap count_types e ∙ sym r.2 in
    let forth : Agree (of_fields n) (given symbol.Value u ∷ field_values 0 vs) ρ = subst (λ z. Agree (of_fields z) (given symbol.Value u ∷ field_values 0 vs) ρ) (sym count) (fields_agree vs σ u) in
    let guarded : AreTrue S ρ (facts S.setting (with_guards (top (type_at Ls i)) Δ)) = guards_true S ρ (top (type_at Ls i)) Δ (still_true S (onto 0 vs σ) symbol.Value u (facts S.setting Δ) r.0.lacks_value r.0.true_facts) (r.1 i u (argument_tops S σ by Ls Ls i u arg).1) in
    let left : AreTrue S ρ (cell M c j i) = parts_same S (of_fields n) (given symbol.Value u ∷ field_values 0 vs) ρ (cell M c j i) forth (a.left_cells c j i) here in
    let all : AreTrue S ρ (place_facts law S Γ d Ls M ρ ρ c j i) = parts_append S ρ (facts S.setting (with_guards (top (type_at Ls i)) (with_fields 0 (open_types.unfolded S.setting.scopes [] d Ls M c (fields_of (S.setting.constructors c))) Γ))) (cell M c j i) (subst (λ fs. AreTrue S ρ (facts S.setting (with_guards (top (type_at Ls i)) (with_fields 0 (open_types.unfolded S.setting.scopes [] d Ls M c fs) Γ)))) (sym e) guarded) left in
    parts_same S (of_fields n) ρ (given symbol.Value u ∷ field_values 0 vs) (cell N c j i) (agree_back (of_fields n) (given symbol.Value u ∷ field_values 0 vs) ρ forth) (a.right_cells c j i) (cell_true law S Γ d Ls M ρ ρ N cells c j i all)
