-- The uses in the normal form of a typed program fit.
use Rattle.std.specs.Prelude.{◌≡◌, ℕ, ◌≤◌, List, [], length, None}
use Rattle.lq_text_tree.specs.MlType.{MlType}
use Rattle.lq_text_tree.specs.Types.{Signature}
use Rattle.lq_text_walk.specs.Scoped.Scoping.{Scoping, IsScoped}
use Rattle.lq_types_rules.specs.Typings.Principal.{IsAnnotation}
use Rattle.lq_meaning_normal_form.specs.Types.Made.{Gives}
use Rattle.lq_meaning_normal_form.specs.Types.Plain.{ItemsArePlain}
use Rattle.lq_meaning_normal_form.specs.Types.Programs.{items_made, normal_items}
use Rattle.lq_refined_templates.specs.Points.Annotation.{Annotation}
use Rattle.lq_sound_readiness.specs.Reading.Laws.{types_of}
use Rattle.lq_sound_readiness.specs.Reading.Uses.{ItemsUsesFit}
use Rattle.lq_sound_readiness.specs.Uses.Fits.{SourceUsesFit}
use Rattle.lq_sound_readiness.specs.Uses.Instances.{AreInstances, Annotates}

-- Where the uses in a plain scoped program fit, and made names have no text and the types of what they stand for, each use in its normal form is
-- of a name in scope, and fits.
abbrev pub NormalUsesFit : Type 0
NormalUsesFit = (g : Signature) (s : Scoping) (n : Annotation) → IsScoped s → let k = length s.sources in ItemsArePlain k s.items
    → SourceUsesFit n s.items → ((x : ℕ) → k ≤ x → n.text x ≡ None) → Gives (types_of n) (items_made g n.types k s.items)
    → ItemsUsesFit n [] (normal_items k s.items)

-- Where an annotation says of a scoped program what its types are, which obey the rules, and what instantiates the uses of its generalised
-- definitions, its uses fit.
abbrev pub TypedUsesFit : Type 0
TypedUsesFit = (s : Scoping) (types : ℕ → MlType) (table : List MlType) (numbers : ℕ → List ℕ) (n : Annotation) → IsScoped s → IsAnnotation s types
    → AreInstances s types table numbers → Annotates s types table numbers n → SourceUsesFit n s.items
