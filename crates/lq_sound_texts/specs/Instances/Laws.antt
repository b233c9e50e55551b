-- Qualifiers of texts are sorted, and so are their instances.
use Rattle.std.specs.Prelude.{◌≡◌, ℕ, List, [], slice_index_or}
use Rattle.lq_sound_scope.specs.Scopes.Over.{AreSorted, unknown_in}
use Rattle.lq_refined_instances.specs.Instances.{all_instances_of}
use Rattle.lq_refined_types.specs.Parts.Flowing.{Selection, assigned}
use Rattle.lq_text_walk.specs.Scoped.Signature.{DataTree}
use Rattle.lq_text_qualifiers.specs.Sorting.Making.{qualifiers_made}
use Rattle.lq_text_qualifiers.specs.Sorting.Sorted.{Qualifier}
use Rattle.lq_text_qualifiers.specs.Faults.Qualifiers.{of_qualifiers}
use Rattle.lq_refined_templates.specs.Templates.Scopes.{Unknown}
use Rattle.lq_text_tree.specs.MeasureTrees.{MeasureTree}
use Rattle.lq_text_tree.specs.Qualifiers.{QualifierTree}
use Rattle.lq_sound_scope.specs.Sorts.Sorts.{AreInstancesSorted}
use Rattle.lq_sound_texts.specs.Instances.Sorts.{AreSortedQualifiers}

-- qualifiers of a text, without complaints
abbrev pub QualifiersAreSorted : Type 0
QualifiersAreSorted =
    (texts : List (List ℕ)) (ds : List DataTree) (ms : List MeasureTree) (qs : List QualifierTree) → of_qualifiers texts ds ms qs ≡ []
    → AreSortedQualifiers (qualifiers_made texts ms qs)

-- Whatever is chosen of the instances of sorted qualifiers speaks of the names of the unknowns' scopes, and of v, at their sorts.
abbrev pub InstancesAreSorted : Type 0
InstancesAreSorted =
    (us : List Unknown) (ms : List ℕ) (qs : List Qualifier) (c : Selection) → AreSortedQualifiers qs
    → AreSorted (unknown_in us) (assigned (λ u. slice_index_or (all_instances_of ms qs us) u []) c)

-- It is well sorted too: objects stand in it as arguments of lengths and measures alone, and each is a variable.
abbrev pub InstancesAreWellSorted : Type 0
InstancesAreWellSorted =
    (us : List Unknown) (ms : List ℕ) (qs : List Qualifier) (c : Selection) → AreSortedQualifiers qs
    → AreInstancesSorted (unknown_in us) (assigned (λ u. slice_index_or (all_instances_of ms qs us) u []) c)
