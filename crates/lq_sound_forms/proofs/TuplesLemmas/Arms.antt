-- A match steps to an arm's body, with values for the names of its pattern.
use Rattle.std.proofs.Common.{◌≡◌, ℕ, suc, ◌++◌, Some, refl, sym, ap, ◌∙◌, subst}
use Rattle.lq_base_names.specs.declared.place.Place.{Place}
use Rattle.lq_meaning_steps.specs.Model.Core as core
use Rattle.lq_meaning_steps.specs.Model.Core.{Core, val, use_of, match_on, replaced, Value, Pairs, without, variables_of, close, close_arms}
use Rattle.lq_meaning_steps.specs.Model.Operations.{World, fits}
use Rattle.lq_meaning_steps.specs.Model.Step.{goes, first_arm}
use Rattle.lq_meaning_steps.specs.Model.Laws.{ClosesAlike, FitsBinds, SameIn}
use Rattle.lq_refined_types.specs.Types.Context.{Context}
use Rattle.lq_refined_types.specs.Types.Operations.{symbol_of}
use Rattle.lq_refined_types.specs.Types.Refined.{Refined}
use Rattle.lq_sound_values.specs.Inhabitants.Truth.{Givens, value_at, Scene}
use Rattle.lq_sound_values.specs.Inhabitants.Shut.{shut}
use Rattle.lq_sound_values.specs.Inhabitants.Inhabits.{Table, Agrees}
use Rattle.lq_sound_values.specs.Inhabitants.Runs.{RunsWell, LandsIn}
use Rattle.lq_sound_values.proofs.InhabitantsLemmas.Running.{runs_map, runs_step}
use Rattle.lq_sound_values.specs.Inclusion.Laws.{IsScene}
use Rattle.lq_sound_values.specs.Inclusion.Symbols.{TypeOn, Agree}
use Rattle.lq_sound_values.specs.Runs.Closed.{names_in}
use Rattle.lq_sound_values.specs.Runs.Meets.{pairs, Variables, Meets}
use Rattle.lq_sound_values.specs.Runs.Runs.{RunsTo}
use Rattle.lq_sound_values.proofs.RunsLemmas.Lower.{Lower}
use Rattle.lq_sound_forms.proofs.PuresLemmas.Pures.{value_of_pair}

-- what is said of closing by a pattern's pairs
pub record Closings : Type 0 where
  pub alike : ClosesAlike
  pub binds : FitsBinds

-- a match on a variable goes where the first arm that fits its value goes
pub match_goes : (l : Place) (x : ℕ) (arms : core.Arms) (σ : Givens) (v : Value) → value_at σ (symbol_of x) ≡ Some v → (n : ℕ) (w : World) (d : Core) (R : ℕ → Value → World → Type 0) → first_arm l (close_arms (pairs σ) arms) v w ≡ goes d w → ((k : ℕ) → n ≡ suc k → RunsWell k d w R) → RunsWell n (close (pairs σ) (match_on l (use_of x) arms)) w R
match_goes l x arms σ v is n w d R at go =
    subst (λ o. RunsWell n (match_on l (replaced x o) (close_arms (pairs σ) arms)) w R) (sym (value_of_pair σ x ∙ is)) (runs_step n (match_on l (val v) (close_arms (pairs σ) arms)) d w w R refl (ap Some at) go)

module _ (law : Lower) (closings : Closings) (S : Scene) (is : IsScene S) (by : Variables) where
  -- an arm's body runs to a type that speaks of names outside
  pub arm_runs : (Γ Δ : Context) (t : Refined) (b : Core) → RunsTo S by Δ b t → TypeOn S.assignment t (names_in Γ) → (σ τ : Givens) → Agree (names_in Γ) τ σ → (q : core.Pattern) (v : Value) (ps : Pairs) → fits q v ≡ Some ps → SameIn (ps ++ pairs σ) (pairs τ) → (k : ℕ) (W : Table) (w : World) → Meets S by (suc k) W Δ τ → Agrees S k W w → RunsWell k (close ps (close (without (variables_of q) (pairs σ)) b)) w (LandsIn S W (shut σ by.types t))
  arm_runs Γ Δ t b runs on σ τ agree q v ps fit same k W w m ag =
      let e : close ps (close (without (variables_of q) (pairs σ)) b) ≡ close (pairs τ) b = law.behind (variables_of q) ps (pairs σ) b (closings.binds q v ps fit) ∙ closings.alike b (ps ++ pairs σ) (pairs τ) same in
      subst (λ d. RunsWell k d w (LandsIn S W (shut σ by.types t))) (sym e) (runs_map k (close (pairs τ) b) w (LandsIn S W (shut τ by.types t)) (LandsIn S W (shut σ by.types t)) (λ i u z le r.
      (r.0, r.1, law.thin S is t (names_in Γ) on τ σ by.types agree i r.0 u r.2, r.3)) (runs k W τ w m ag))
