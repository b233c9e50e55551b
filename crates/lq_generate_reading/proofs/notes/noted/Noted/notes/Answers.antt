use Rattle.std.proofs.Common.{ℕ, ◌-◌, ◌<◌, ◌≤◌, List, All, drop, length, sym, subst}
use Rattle.std.proofs.lemmas.List.Elements.{All-drop, All-take}
use Rattle.lq_types_table.specs.Whole as table
use Rattle.lq_generate_reading.proofs.NotesLemmas.Noting.{rows_low, slots_low, starts_low, unit_is, unit_low}
use Rattle.lq_generate_reading.proofs.notes.noted.Noted.notes.Goals as goal

pub returns-clause-right : goal.returns-clause-right
returns-clause-right c =
    let m = c.args.self.now in
    let IsLow : ℕ → Type 0 = λ t. t < length (table.types_of m.types) in
    let n = c.nodes-nodes.result in
    let slots = c.deref-2.result.now in
    let low = slots_low m.program m.types m.unit m.slots.items m.texts.items m.right in
    let rows = c.rows.result.now in
    record {
      unit = unit_is m.program m.types m.unit m.slots.items m.texts.items m.right;
      unit_there = unit_low m.program m.types m.unit m.slots.items m.texts.items m.right;
      nodes = subst (All IsLow) (sym c.deref.ensures.value) low;
      binders = All-take IsLow (length slots - n) (drop n slots) (All-drop IsLow n slots (subst (All IsLow) (sym c.deref-2.ensures.value) low));
      rows = subst (All IsLow) (sym c.rows.ensures) (rows_low m.program m.types m.unit m.slots.items m.texts.items m.right);
      starts = subst (All (λ s. s ≤ length rows)) (sym c.starts.ensures)
          (subst (λ (l : List ℕ). All (λ s. s ≤ length l) m.program.starts.items) (sym c.rows.ensures)
          (starts_low m.program m.types m.unit m.slots.items m.texts.items m.right));
    }
