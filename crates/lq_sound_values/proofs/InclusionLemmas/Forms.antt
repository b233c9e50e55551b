-- Inclusion form by form.
use Rattle.std.proofs.Common.{ℕ, ◌∷◌, Option}
use Rattle.lq_meaning_steps.specs.Model.Core.{val, call, Value, v_tuple, Values}
use Rattle.lq_refined_types.specs.Parts.Part.{Parts}
use Rattle.lq_refined_types.specs.Types.Refined.{Refined, Refineds, int_with, bool_with, function, tuple_of, array_with, map_with}
use Rattle.lq_logic_predicates.specs.declared.symbol.Symbol.TheVariants as symbol
use Rattle.lq_sound_values.specs.Inhabitants.Truth.{Givens, given, Scene, AreTrue}
use Rattle.lq_sound_values.specs.Inhabitants.Shut.{shut, read_at, Shuts, no_form, tuple_form, with_argument, components}
use Rattle.lq_sound_values.specs.Inhabitants.Inhabits.{Table, CallsBelow, SameBelow, Inhabits}
use Rattle.lq_sound_values.specs.Inhabitants.Runs.{LandsIn}
use Rattle.lq_sound_values.specs.Inhabitants.Below.{Below}
use Rattle.lq_sound_values.specs.Inhabitants.Datatypes.{HasKind}
use Rattle.lq_refined_types.specs.Types.Refined.{number, truth_value, object}
use Rattle.lq_sound_values.proofs.InhabitantsLemmas.Running.{runs_map}
use Rattle.lq_sound_values.proofs.InhabitantsLemmas.Numbers.{calls_at, calls_make}
use Rattle.lq_sound_values.proofs.InhabitantsLemmas.Topped.{form_has, type_has}
use Rattle.lq_sound_values.proofs.InhabitantsLemmas.Keeping.{FormAt, AllFit, function_by, array_by}

-- the parts of the one give those of the other at each value of the kind
abbrev pub PartsGive : Scene → (Value → Type 0) → Givens → Givens → Parts → Parts → Type 0
PartsGive S Has κ μ p q = (v : Value) → Has v → AreTrue S (given symbol.Value v ∷ κ) p → AreTrue S (given symbol.Value v ∷ μ) q

module _ (S : Scene) (κ μ σ τ : Givens) (by to : Shuts) where
  pub int_below : (p q : Parts) → PartsGive S (HasKind number) κ μ p q → Below S (read_at κ σ by (int_with p)) (read_at μ τ to (int_with q))
  int_below p q f n W v h = (h.0, (f v (type_has S (CallsBelow S n) (SameBelow S n) W κ σ by (int_with p) v h) h.1.0, tt))

  pub bool_below : (p q : Parts) → PartsGive S (HasKind truth_value) κ μ p q → Below S (read_at κ σ by (bool_with p)) (read_at μ τ to (bool_with q))
  bool_below p q f n W v h = (h.0, (f v (type_has S (CallsBelow S n) (SameBelow S n) W κ σ by (bool_with p) v h) h.1.0, tt))

  pub function_below : (x y : Option ℕ) (A T U V : Refined) → Below S (shut τ to U) (shut σ by A) → ((m : ℕ) (Y : Table) (a : Value) → Inhabits S m Y (shut τ to U) a → Below S (shut (with_argument x a σ) by T) (shut (with_argument y a τ) to V)) → Below S (read_at κ σ by (function x A T)) (read_at μ τ to (function y U V))
  function_below x y A T U V left right n W v h = (
    function_by S n W σ τ by to x y A T U V (λ g c.
        calls_make S g W τ to y U V n (λ m lt Y a w e fit ag.
        runs_map m (call (val g) (val a)) w (LandsIn S Y (shut (with_argument x a σ) by T)) (LandsIn S Y (shut (with_argument y a τ) to V)) (λ k u z le q. (q.0, q.1, right m Y a fit k q.0 u q.2, q.3)) (calls_at S g W σ by x A T n m lt c Y a w e (left m Y a fit) ag))) v h.0,
    tt,
  )

  pub array_below : (E F : Refined) (p q : Parts) → PartsGive S (HasKind object) κ μ p q → Below S (shut σ by E) (shut τ to F) → Below S (shut τ to F) (shut σ by E) → Below S (read_at κ σ by (array_with E p)) (read_at μ τ to (array_with F q))
  array_below E F p q f l r n W v h =
      (array_by S n W (shut σ by E) (shut τ to F) (λ m V u lt. (l m V u, r m V u)) v h.0, (f v (type_has S (CallsBelow S n) (SameBelow S n) W κ σ by (array_with E p) v h) h.1.0, tt))

  pub map_below : (E F : Refined) (p q : Parts) → Below S (read_at κ σ by (map_with E p)) (read_at μ τ to (map_with F q))
  map_below E F p q n W v h = absurd (form_has S (CallsBelow S n) (SameBelow S n) W no_form v h.0)

module _ (S : Scene) (κ μ σ τ : Givens) (by to : Shuts) (Ls Rs : Refineds) (f : (n : ℕ) (W : Table) (vs : Values) → AllFit S n W (components σ by σ 0 Ls vs) vs → AllFit S n W (components τ to τ 0 Rs vs) vs) where
  tuple_by : (n : ℕ) (W : Table) (v : Value) → FormAt S n W (tuple_form σ by Ls) v → FormAt S n W (tuple_form τ to Rs) v
  tuple_by n W (v_tuple vs) h = f n W vs h
  tuple_by n W _ h = absurd h

  pub tuple_below : Below S (read_at κ σ by (tuple_of Ls)) (read_at μ τ to (tuple_of Rs))
  tuple_below n W v h = (tuple_by n W v h.0, tt)
