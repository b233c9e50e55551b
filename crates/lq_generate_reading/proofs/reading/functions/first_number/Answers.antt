use Rattle.std.proofs.Common.{◌∙◌, Some, None, ap, slice_get}
use Rattle.lq_generate_reading.proofs.ReadingLemmas.BlockForms.{first_binding}
use Rattle.lq_generate_reading.proofs.reading.functions.first_number.Goals as goal

pub returns-in-Some : goal.returns-in-Some
returns-in-Some c =
    first_binding c.args.block.now (Some c.in-Some.binding.now) (c.in-Some.ensures.value ∙ ap (λ l. slice_get l 0) c.deref.ensures.value)

pub returns-in-None : goal.returns-in-None
returns-in-None c = first_binding c.args.block.now None (c.in-None.ensures.value ∙ ap (λ l. slice_get l 0) c.deref.ensures.value)
