-- A simple type with closed types for its variables, and with types for them.
use Rattle.std.proofs.Common.{ℕ, zero, suc, [], ◌∷◌}
use Rattle.lq_logic_predicates.specs.declared.symbol.Symbol.{Symbol}
use Rattle.lq_logic_predicates.specs.declared.symbol.Symbol.TheVariants as symbol
use Rattle.lq_logic_predicates.specs.Sum.{same_symbol}
use Rattle.lq_meaning_steps.specs.Model.Core.{Value, Values, no_values, more_values}
use Rattle.lq_text_tree.specs.MlType as ml
use Rattle.lq_text_tree.specs.MlType.{MlType, MlTypes}
use Rattle.lq_refined_types.specs.Types.Refined.{Refined, Refineds, int_with, bool_with, unit_type, function, tuple_of, array_with, data_with, map_with, type_variable, none, more, top, type_at}
use Rattle.lq_refined_types.specs.Types.Unfolding.{bare, all_bare}
use Rattle.lq_sound_values.specs.Inhabitants.Truth.{Givens, given, Scene, AreTrue}
use Rattle.lq_sound_values.specs.Inhabitants.Shut.{Tops, read_at, Shuts, shut_all, tops_by, position, components, unrefined, all_unrefined}
use Rattle.lq_sound_values.specs.Inhabitants.Inhabits.{Table, TopsTrue}
use Rattle.lq_sound_values.specs.Inhabitants.Below.{Below, AllBelow}
use Rattle.lq_sound_values.specs.Inhabitants.Datatypes.{AreCovariant, DatatypesFit}
use Rattle.lq_sound_values.proofs.InhabitantsLemmas.Keeping.{AllFit}
use Rattle.lq_sound_values.specs.Inclusion.Symbols.{Symbols, other_than, with_symbol, Lacks, Agree}
use Rattle.lq_sound_values.proofs.InclusionLemmas.Truths.{parts_same, agree_with, agree_other, agree_back}
use Rattle.lq_sound_values.proofs.InclusionLemmas.Forms.{function_below, array_below, map_below, tuple_below}
use Rattle.lq_sound_values.proofs.InclusionLemmas.Subtypes.{data_by}
use Rattle.lq_sound_values.proofs.RunsLemmas.Closing.{or_left}

-- a top read at other values
pub retop : (S : Scene) (at : ℕ → Tops) (σ μ : Givens) (v : Value) (U : Refined) → (AreTrue S (given symbol.Value v ∷ σ) (top U) → AreTrue S (given symbol.Value v ∷ μ) (top U)) → TopsTrue S v (tops_by at σ U) → TopsTrue S v (tops_by at μ U)
retop S at σ μ v (int_with p) f h = (f h.0, tt)
retop S at σ μ v (bool_with p) f h = (f h.0, tt)
retop S at σ μ v unit_type f h = tt
retop S at σ μ v (function x a b) f h = tt
retop S at σ μ v (tuple_of ts) f h = tt
retop S at σ μ v (array_with e p) f h = (f h.0, tt)
retop S at σ μ v (data_with d ts m p) f h = (f h.0, tt)
retop S at σ μ v (map_with e p) f h = tt
retop S at σ μ v (type_variable i) f h = h

agree_less : (P : Symbols) (x : Symbol) (κ μ : Givens) → Agree (with_symbol P x) κ μ → Agree P κ μ
agree_less P x κ μ f y h = f y (or_left (P y) (same_symbol x y) h)

module _ (fit : DatatypesFit) (S : Scene) (cov : AreCovariant S.setting.constructors) (σ : Givens) (by : Shuts) (Ts : Refineds) (lacks : (i j : ℕ) → Lacks S.assignment (symbol.Position (suc j)) (top (type_at Ts i))) where
  abbrev As : Shuts
  As = shut_all σ by Ts

  -- at these values the parts of each argument's top are true where they are at its own, and the other way round
  abbrev pub Moves : Givens → Type 0
  Moves μ =
      (i : ℕ) (v : Value) → (AreTrue S (given symbol.Value v ∷ σ) (top (type_at Ts i)) → AreTrue S (given symbol.Value v ∷ μ) (top (type_at Ts i))) × (AreTrue S (given symbol.Value v ∷ μ) (top (type_at Ts i)) → AreTrue S (given symbol.Value v ∷ σ) (top (type_at Ts i)))

  pub moves_self : Moves σ
  moves_self i v = (λ h. h, λ h. h)

  moves_on : (j : ℕ) (w : Value) (μ : Givens) → Moves μ → Moves (position j w μ)
  moves_on j w μ m i v =
      let P = other_than (symbol.Position (suc j)) in
      let one : Agree P (given symbol.Value v ∷ μ) (given symbol.Value v ∷ position j w μ) = agree_less P symbol.Value (given symbol.Value v ∷ μ) (given symbol.Value v ∷ position j w μ) (agree_with P μ (position j w μ) symbol.Value v (agree_other μ (symbol.Position (suc j)) w)) in (
        λ h. parts_same S P (given symbol.Value v ∷ μ) (given symbol.Value v ∷ position j w μ) (top (type_at Ts i)) one (lacks i j) ((m i v).0 h),
        λ h. (m i v).1 (parts_same S P (given symbol.Value v ∷ position j w μ) (given symbol.Value v ∷ μ) (top (type_at Ts i)) (agree_back P (given symbol.Value v ∷ μ) (given symbol.Value v ∷ position j w μ) one) (lacks i j) h),
      )

  variable_forth : (Us : Refineds) (i : ℕ) (κ μ : Givens) → ((v : Value) → AreTrue S (given symbol.Value v ∷ σ) (top (type_at Us i)) → AreTrue S (given symbol.Value v ∷ μ) (top (type_at Us i))) → Below S (read_at κ [] (shut_all σ by Us) (type_variable i)) (read_at μ σ by (type_at Us i))
  variable_forth none i κ μ f n W v h = h
  variable_forth (more U Us) zero κ μ f n W v h = (h.0, retop S _ σ μ v U (f v) h.1)
  variable_forth (more U Us) (suc i) κ μ f n W v h = variable_forth Us i κ μ f n W v h

  variable_back : (Us : Refineds) (i : ℕ) (κ μ : Givens) → ((v : Value) → AreTrue S (given symbol.Value v ∷ μ) (top (type_at Us i)) → AreTrue S (given symbol.Value v ∷ σ) (top (type_at Us i))) → Below S (read_at μ σ by (type_at Us i)) (read_at κ [] (shut_all σ by Us) (type_variable i))
  variable_back none i κ μ f n W v h = h
  variable_back (more U Us) zero κ μ f n W v h = (h.0, retop S _ μ σ v U (f v) h.1)
  variable_back (more U Us) (suc i) κ μ f n W v h = variable_back Us i κ μ f n W v h

  mutual
    pub bare_forth : (f : MlType) (κ μ : Givens) → Moves μ → Below S (read_at κ [] As (unrefined f)) (read_at μ σ by (bare Ts f))
    bare_forth ml.int κ μ m n W v h = (h.0, (tt, tt))
    bare_forth ml.bool κ μ m n W v h = (h.0, (tt, tt))
    bare_forth ml.unit κ μ m n W v h = h
    bare_forth (ml.var i) κ μ m n W v h = variable_forth Ts i κ μ (λ u. (m i u).0) n W v h
    bare_forth (ml.arrow a b) κ μ m n W v h =
        function_below S κ μ [] σ As by _ _ (unrefined a) (unrefined b) (bare Ts a) (bare Ts b) (bare_back a [] σ moves_self) (λ k Y u fits. bare_forth b [] σ moves_self) n W v h
    bare_forth (ml.tuple ts) κ μ m n W v h =
        tuple_below S κ μ [] σ As by (all_unrefined ts) (all_bare Ts ts) (λ k Y vs q. components_forth ts 0 [] σ moves_self k Y vs q) n W v h
    bare_forth (ml.array a) κ μ m n W v h =
        array_below S κ μ [] σ As by (unrefined a) (bare Ts a) [] [] (λ u has q. tt) (bare_forth a [] σ moves_self) (bare_back a [] σ moves_self) n W v h
    bare_forth (ml.named d ts) κ μ m n W v h =
        data_by fit S cov κ μ [] σ As by d (all_unrefined ts) (all_bare Ts ts) [] [] [] [] (λ c k vs is tops j i u arg x. x) (all_forth ts) (λ u has q. tt) n W v h
    bare_forth (ml.map_of a) κ μ m n W v h = map_below S κ μ [] σ As by (unrefined a) (bare Ts a) [] [] n W v h

    all_forth : (ts : MlTypes) → AllBelow S (shut_all [] As (all_unrefined ts)) (shut_all σ by (all_bare Ts ts))
    all_forth ml.no_types = tt
    all_forth (ml.more_types t ts) = (bare_forth t [] σ moves_self, all_forth ts)

    components_forth : (ts : MlTypes) (k : ℕ) (κ μ : Givens) → Moves μ → (n : ℕ) (W : Table) (vs : Values) → AllFit S n W (components [] As κ k (all_unrefined ts) vs) vs → AllFit S n W (components σ by μ k (all_bare Ts ts) vs) vs
    components_forth ml.no_types k κ μ m n W no_values h = h
    components_forth ml.no_types k κ μ m n W (more_values v vs) h = h
    components_forth (ml.more_types t ts) k κ μ m n W no_values h = absurd h
    components_forth (ml.more_types t ts) k κ μ m n W (more_values v vs) h =
        (bare_forth t κ μ m n W v h.0, components_forth ts (suc k) (position k v κ) (position k v μ) (moves_on k v μ m) n W vs h.1)

    pub bare_back : (f : MlType) (κ μ : Givens) → Moves μ → Below S (read_at μ σ by (bare Ts f)) (read_at κ [] As (unrefined f))
    bare_back ml.int κ μ m n W v h = (h.0, (tt, tt))
    bare_back ml.bool κ μ m n W v h = (h.0, (tt, tt))
    bare_back ml.unit κ μ m n W v h = h
    bare_back (ml.var i) κ μ m n W v h = variable_back Ts i κ μ (λ u. (m i u).1) n W v h
    bare_back (ml.arrow a b) κ μ m n W v h =
        function_below S μ κ σ [] by As _ _ (bare Ts a) (bare Ts b) (unrefined a) (unrefined b) (bare_forth a [] σ moves_self) (λ k Y u fits. bare_back b [] σ moves_self) n W v h
    bare_back (ml.tuple ts) κ μ m n W v h =
        tuple_below S μ κ σ [] by As (all_bare Ts ts) (all_unrefined ts) (λ k Y vs q. components_back ts 0 [] σ moves_self k Y vs q) n W v h
    bare_back (ml.array a) κ μ m n W v h =
        array_below S μ κ σ [] by As (bare Ts a) (unrefined a) [] [] (λ u has q. tt) (bare_back a [] σ moves_self) (bare_forth a [] σ moves_self) n W v h
    bare_back (ml.named d ts) κ μ m n W v h =
        data_by fit S cov μ κ σ [] by As d (all_bare Ts ts) (all_unrefined ts) [] [] [] [] (λ c k vs is tops j i u arg x. x) (all_back ts) (λ u has q. tt) n W v h
    bare_back (ml.map_of a) κ μ m n W v h = map_below S μ κ σ [] by As (bare Ts a) (unrefined a) [] [] n W v h

    all_back : (ts : MlTypes) → AllBelow S (shut_all σ by (all_bare Ts ts)) (shut_all [] As (all_unrefined ts))
    all_back ml.no_types = tt
    all_back (ml.more_types t ts) = (bare_back t [] σ moves_self, all_back ts)

    components_back : (ts : MlTypes) (k : ℕ) (κ μ : Givens) → Moves μ → (n : ℕ) (W : Table) (vs : Values) → AllFit S n W (components σ by μ k (all_bare Ts ts) vs) vs → AllFit S n W (components [] As κ k (all_unrefined ts) vs) vs
    components_back ml.no_types k κ μ m n W no_values h = h
    components_back ml.no_types k κ μ m n W (more_values v vs) h = h
    components_back (ml.more_types t ts) k κ μ m n W no_values h = absurd h
    components_back (ml.more_types t ts) k κ μ m n W (more_values v vs) h =
        (bare_back t κ μ m n W v h.0, components_back ts (suc k) (position k v κ) (position k v μ) (moves_on k v μ m) n W vs h.1)
