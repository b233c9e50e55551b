-- A constructor on operands.
use Rattle.std.specs.Prelude.{◌≡◌, ℕ, List, [], ◌∷◌, Some}
use Rattle.lq_meaning_steps.specs.Model.Core as core
use Rattle.lq_meaning_steps.specs.Model.Core.{row}
use Rattle.lq_refined_types.specs.Parts.Assignment.{Assignment}
use Rattle.lq_text_tree.specs.MlType as ml
use Rattle.lq_text_tree.specs.MlType.{MlTypes}
use Rattle.lq_text_tree.specs.Types.{Constructor}
use Rattle.lq_refined_types.specs.Types.Context.{Context}
use Rattle.lq_refined_types.specs.Types.Refined.{Refineds, erased}
use Rattle.lq_refined_types.specs.Subtyping.Splitting.{first_of, rest_of}
use Rattle.lq_refined_types.specs.Subtyping.Subtype.{IsSubtype}
use Rattle.lq_refined_rules.specs.Checks.Basis.{Basis}
use Rattle.lq_refined_rules.specs.Checks.Checks.{AreArguments}
use Rattle.lq_refined_rules.specs.Checks.Fitting.{Fits}
use Rattle.lq_refined_rules.specs.Checks.Operation.{built_type, field_types}
use Rattle.lq_refined_rules.specs.Checks.Pure.{pure_type}
use Rattle.lq_refined_rules.specs.Checks.Tree.{Pure}
use Rattle.lq_refined_rules.specs.Checks.Typing.{Points, AreTemplates, Types, fields_at, HavePures}
use Rattle.lq_sound_values.specs.Inhabitants.Truth.{Objects}
use Rattle.lq_sound_values.specs.Inclusion.Apart.{Apart}
use Rattle.lq_sound_values.specs.Inclusion.Laws.{IsScene}
use Rattle.lq_sound_values.specs.Runs.Closed.{IsClosed}
use Rattle.lq_sound_values.specs.Runs.Meets.{Variables}
use Rattle.lq_sound_values.specs.Runs.Runs.{RunsTo}
use Rattle.lq_sound_forms.specs.Fields.Fields.{KnowsMeasures, IsDatatypeFor}
use Rattle.lq_sound_forms.specs.Pures.Cores.{pure_cores}
use Rattle.lq_sound_forms.specs.Pures.Pures.{KnowsLengths, scene_of}
use Rattle.lq_sound_forms.specs.Tuples.Tuples.{AreUsable, MayUseAll}

-- each subtyping of an operand's type is apart
abbrev pub ArgumentsApart : Basis → Assignment → Objects → Context → List Pure → Refineds → Type 0
ArgumentsApart P A O Γ [] ts = Unit {0}
ArgumentsApart P A O Γ (e ∷ es) ts =
    ((d : IsSubtype P.setting A Γ (pure_type P Γ e) (first_of ts)) → Apart (scene_of P A O) d) × ArgumentsApart P A O Γ es (rest_of ts)

abbrev pub BuildsRun : Type 0
BuildsRun =
    (P : Basis) (A : Assignment) (O : Objects) → IsScene (scene_of P A O) → KnowsLengths O → KnowsMeasures P O → (by : Variables) (Q : Points)
    → AreTemplates P Q → (Δ : Types) (Γ : Context) → Fits Δ Γ → IsClosed (scene_of P A O) Γ → (p c : ℕ) (es : List Pure) (k : Constructor) (us : MlTypes)
    → P.setting.constructors c ≡ Some k → erased (P.template p) ≡ ml.named k.datatype us → HavePures Q Δ es (fields_at us k)
    → AreUsable P A O Γ es → MayUseAll by es → AreArguments P A Γ es (field_types P Γ p c es) → ArgumentsApart P A O Γ es (field_types P Γ p c es)
    → IsDatatypeFor (scene_of P A O) P c k (P.template p)
    → RunsTo (scene_of P A O) by Γ (row (core.build c) (pure_cores es)) (built_type P Γ p c es)
