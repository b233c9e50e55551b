-- Matches on values of datatypes.
use Rattle.std.specs.Prelude.{◌≡◌, ℕ, Bool, true}
use Rattle.lq_base_names.specs.declared.place.Place.{Place}
use Rattle.lq_logic_predicates.specs.Formula.{falsity}
use Rattle.lq_meaning_steps.specs.Model.Core as core
use Rattle.lq_meaning_steps.specs.Model.Core.{match_on}
use Rattle.lq_refined_types.specs.Parts.Assignment.{Assignment}
use Rattle.lq_text_tree.specs.MlType.{MlType}
use Rattle.lq_text_tree.specs.Types.{Constructor}
use Rattle.lq_refined_types.specs.Types.Context.{Context}
use Rattle.lq_refined_types.specs.Types.Refined.{Refined}
use Rattle.lq_refined_rules.specs.Checks.Basis.{Basis}
use Rattle.lq_refined_rules.specs.Checks.Checks.{Demanded}
use Rattle.lq_refined_rules.specs.Checks.Fitting.{Fits}
use Rattle.lq_refined_rules.specs.Checks.Match.{is_data_match, in_arm, missing_context}
use Rattle.lq_refined_rules.specs.Checks.Operation.{datatype_of}
use Rattle.lq_refined_rules.specs.Checks.Pure as pures
use Rattle.lq_refined_rules.specs.Checks.Ready.{Where}
use Rattle.lq_refined_rules.specs.Checks.Tree.{Use, is_arm_of, takes_all, has_default, Arms, no_arms, arm}
use Rattle.lq_refined_rules.specs.Checks.Typing.{Points, AreTemplates, Types, type_of_use, HaveArms}
use Rattle.lq_sound_values.specs.Inhabitants.Truth.{Objects}
use Rattle.lq_sound_values.specs.Inhabitants.Inhabits.{Makes}
use Rattle.lq_sound_values.specs.Inclusion.Laws.{IsScene}
use Rattle.lq_sound_values.specs.Inclusion.Symbols.{TypeOn}
use Rattle.lq_sound_values.specs.Runs.Closed.{names_in, IsClosed}
use Rattle.lq_sound_values.specs.Runs.Meets.{Variables}
use Rattle.lq_sound_values.specs.Runs.Runs.{RunsTo}
use Rattle.lq_sound_forms.specs.Fields.Fields.{KnowsMeasures, IsDatatypeFor}
use Rattle.lq_sound_forms.specs.Pures.Cores.{block_core, arms_core}
use Rattle.lq_sound_forms.specs.Pures.Pures.{KnowsLengths, scene_of, UseIn}
use Rattle.lq_sound_forms.specs.Calls.Operands.{IsUsable}

module _ (P : Basis) (A : Assignment) (O : Objects) (by : Variables) (Γ : Context) (u : Use) (t : Refined) where
  -- The first arm that names the constructor runs to the type, in a closed environment. Where none does, either some arm takes all, or the
  -- constructor is impossible under its equations.
  abbrev pub CaseRuns : Bool → ℕ → Arms → Type 0
  CaseRuns d c no_arms = Where d (Unit {0}) (Demanded P A (missing_context P Γ u c) falsity)
  CaseRuns d c (arm q b arms) =
      Where (is_arm_of c q) (IsClosed (scene_of P A O) (in_arm P Γ u q) × RunsTo (scene_of P A O) by (in_arm P Γ u q) (block_core b) t) (CaseRuns d c arms)

  -- and so does the first arm that takes all, where there is one
  abbrev pub DefaultRuns : Arms → Type 0
  DefaultRuns no_arms = Unit {0}
  DefaultRuns (arm q b arms) =
      Where (takes_all q) (IsClosed (scene_of P A O) (in_arm P Γ u q) × RunsTo (scene_of P A O) by (in_arm P Γ u q) (block_core b) t) (DefaultRuns arms)

-- a match on a variable of a datatype runs to what these arms run to
abbrev pub MatchRuns : Type 0
MatchRuns =
    (P : Basis) (A : Assignment) (O : Objects) → IsScene (scene_of P A O) → KnowsLengths O → KnowsMeasures P O → (by : Variables) (Q : Points)
    → AreTemplates P Q → (Δ : Types) (Γ : Context) → Fits Δ Γ → IsClosed (scene_of P A O) Γ → (l : Place) (u : Use) (arms : Arms)
    (t : Refined) (a : MlType) → UseIn P A by Γ u → IsUsable (scene_of P A O) Γ (pures.type_of_use P Γ u) → HaveArms P Q Δ (type_of_use Q Δ u) arms a
    → is_data_match P Γ u ≡ true
    → ((c : ℕ) (k : Constructor) → Makes P.setting.constructors (datatype_of (pures.type_of_use P Γ u)) c k
    → IsDatatypeFor (scene_of P A O) P c k (pures.type_of_use P Γ u))
    → TypeOn A t (names_in Γ)
    → ((c : ℕ) (k : Constructor) → Makes P.setting.constructors (datatype_of (pures.type_of_use P Γ u)) c k
    → CaseRuns P A O by Γ u t (has_default arms) c arms)
    → DefaultRuns P A O by Γ u t arms → RunsTo (scene_of P A O) by Γ (match_on l (core.use_of u.name) (arms_core arms)) t
