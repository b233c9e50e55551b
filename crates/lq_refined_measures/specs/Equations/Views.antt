-- What stands in memory.
use Rattle.std.specs.Prelude.{ℕ}
use Rattle.lq_text_qualifiers.specs.declared.sorting.sorted.ScopedMeasure.{ScopedMeasure}

abbrev pub name_of : ScopedMeasure → ℕ
name_of m = m.name.0
