-- What stands in memory.
use Rattle.std.specs.Prelude.{ℕ, List, [], ◌∷◌, map}
use Rattle.lq_logic_predicates.specs.Formula.{Formula}
use Rattle.lq_logic_predicates.specs.PredView.{formula_of}
use Rattle.lq_text_qualifiers.specs.Faults.Shapes as plain
use Rattle.lq_text_qualifiers.specs.Sorting.Views.{shape_view}
use Rattle.lq_text_qualifiers.specs.declared.sorting.sorted.ScopedMeasure.{ScopedMeasure}
use Rattle.lq_refined_instances.specs.Scopes as scopes
use Rattle.lq_refined_instances.specs.Seen.{visible_view, added_view}
use Rattle.lq_refined_instances.specs.declared.instance.Instance.{Instance}
use Rattle.lq_refined_instances.specs.declared.lists.InstanceList.{InstanceList}
use Rattle.lq_refined_instances.specs.declared.lists.Instances.{Instances}
use Rattle.lq_refined_instances.specs.declared.scope.Scope.{Scope}
use Rattle.lq_refined_instances.specs.declared.scopes.Scopes.{Scopes}
use Rattle.lq_refined_instances.specs.declared.unknowns.Unknown.{Unknown}
use Rattle.lq_refined_instances.specs.declared.unknowns.Unknowns.{Unknowns}

abbrev pub scope_view : Scope → scopes.Scope
scope_view Γ = map visible_view Γ.items.items

-- the scopes of a table, by their numbers; the first is empty
abbrev pub scopes_view : Scopes → List scopes.Scope
scopes_view t = scopes.grown ([] ∷ []) (map added_view t.additions.items)

-- an unknown, where these are the scopes
abbrev pub unknown_view : List scopes.Scope → Unknown → scopes.Scope × plain.Shape
unknown_view all u = (scopes.scope_in all u.scope, shape_view u.shape)

abbrev pub unknowns_view : Unknowns → List (scopes.Scope × plain.Shape)
unknowns_view u = map (unknown_view (scopes_view u.scopes)) u.unknowns.items

abbrev pub measure_name : ScopedMeasure → ℕ
measure_name m = m.name.0

abbrev pub instance_view : Instance → Formula
instance_view i = formula_of i.predicate

abbrev pub list_view : InstanceList → List Formula
list_view l = map instance_view l.instances.keys

abbrev pub instances_view : Instances → List (List Formula)
instances_view all = map list_view all.lists.items
