-- Instances of qualifiers speak of names of their unknowns' scopes alone, and predeclared datatypes have no parameter left of an arrow.
use Rattle.std.specs.Prelude.{ℕ, List, [], slice_index_or}
use Rattle.lq_sound_values.specs.Inhabitants.Datatypes.{AreCovariant}
use Rattle.lq_refined_instances.specs.Instances.{all_instances_of}
use Rattle.lq_refined_types.specs.Parts.Assignment.{IsScoped}
use Rattle.lq_refined_types.specs.Parts.Flowing.{Selection, assigned}
use Rattle.lq_refined_templates.specs.Points.Point.{Point}
use Rattle.lq_refined_templates.specs.Points.Templates.{Datatypes, basis_of, unknowns_of}
use Rattle.lq_logic_predicates.specs.Formula.{Formula}
use Rattle.lq_text_walk.specs.Scoped.Signature.{signature_in}
use Rattle.lq_text_qualifiers.specs.Sorting.Sorted.{Qualifier}
use Rattle.lq_refined_templates.specs.Templates.Scopes.{Unknown}

-- the instances of each unknown, where measures have these names; none of one that isn't there
abbrev pub instances_for : List ℕ → List Qualifier → List Unknown → ℕ → List Formula
instances_for ms qs us u = slice_index_or (all_instances_of ms qs us) u []

-- Whatever is chosen of the instances of a program's unknowns speaks of names of their scopes alone.
abbrev pub InstancesAreScoped : Type 0
InstancesAreScoped =
    (D : Datatypes) (ps : List Point) (ms : List ℕ) (qs : List Qualifier) (c : Selection)
    → IsScoped (basis_of D ps).setting.scopes (assigned (instances_for ms qs (unknowns_of D ps)) c)

-- Where a program defines no datatype, in no type definition a parameter stands left of an arrow or under `array`.
abbrev pub PredeclaredAreCovariant : Type 0
PredeclaredAreCovariant = AreCovariant (signature_in [])
