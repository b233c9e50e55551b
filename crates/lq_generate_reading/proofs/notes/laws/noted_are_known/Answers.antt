use Rattle.lq_generate_reading.proofs.NotesLemmas.Noting.{arguments_known, binder_known, node_known, text_known}
use Rattle.lq_generate_reading.proofs.notes.laws.noted_are_known.Goals as goal

pub returns : goal.returns
returns c m = record {
  slots = node_known m.program m.types m.unit m.slots.items m.texts.items m.right;
  binders = binder_known m.program m.types m.unit m.slots.items m.texts.items m.right;
  arguments = arguments_known m.program m.types m.unit m.slots.items m.texts.items m.right;
  texts = text_known m.program m.types m.unit m.slots.items m.texts.items m.right;
}
