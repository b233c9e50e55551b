-- Where a pass over a program stands.
use Rattle.std.specs.Prelude.{◌≡◌, ℕ, map, reverse}
use Rattle.lq_text_scope.specs.declared.binders.Binding.{Binding}
use Rattle.lq_text_walk.specs.Scoped.Views.{scoped_items, source_view}
use Rattle.lq_text_resolve.specs.Binding.Machine.{Machine, machine_with}
use Rattle.lq_text_resolve.specs.Binding.Making.{frame_with}
use Rattle.lq_text_resolve.specs.Binding.Views.{values_view}
use Rattle.lq_text_resolve.specs.declared.binding.resolver.Resolver.{Resolver}

abbrev pub machine_of : Resolver → Machine
machine_of r =
    machine_with (frame_with r.variables r.constructors) r.next (map source_view r.sources.items) (reverse r.starts.items) (values_view r.values.items)
    r.taking (scoped_items r.items.items)

abbrev pub binding_name : Binding → ℕ
binding_name b = b.name.0

-- One stands where the other does once this is done, over the same names.
pub record HasDone (old new : Resolver) (m : Machine) : Type 0 where
  pub names : new.names.now ≡ old.names.now
  pub machine : machine_of new ≡ m
