use Rattle.std.proofs.Common.{◌∙◌, refl}
use Rattle.lq_text_qualifiers.specs.Faults.Views.{found_view, held, names_in}
use Rattle.lq_text_qualifiers.proofs.FaultsLemmas.Defining.{next_repeated}
use Rattle.lq_text_qualifiers.proofs.FaultsLemmas.Lookups.{one_name_more}
use Rattle.lq_text_qualifiers.proofs.faults.equations.note_repeated.Goals as goal

pub loop-binding-preserved : goal.loop-binding-preserved
loop-binding-preserved c =
    next_repeated (found_view c.loop-binding.least.found) _ (names_in c.loop-binding.before) _ c.args.bindings.now c.loop-binding.binding-index _ _ c.loop-binding-test.true refl
    (one_name_more (held c.loop-binding.before) (held c.add.new.self) _ _ c.in_ok-add.ensures) c.note_again.ensures
    ∙ c.loop-binding.invariant
