use Rattle.std.proofs.Common.{◌≡◌, ◌++◌, map, drop}
use Rattle.lq_text_walk.specs.Scoped.Views.{source_view}
use Rattle.lq_text_resolve.specs.Binding.Binding.{sources_of}
use Rattle.lq_text_resolve.specs.Binding.States.{binding_name}
use Rattle.lq_text_resolve.proofs.binding.pass.push_sources.Given as goal

abbrev pub invariant-loop-binding : goal.invariant-loop-binding
invariant-loop-binding l =
    map source_view l.sources.items ++ sources_of (map binding_name (drop l.binding-index l.bindings))
    ≡ map source_view l.fn.sources.items ++ sources_of (map binding_name l.bindings)
