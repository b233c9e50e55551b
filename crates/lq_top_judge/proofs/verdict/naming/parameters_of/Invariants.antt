use Rattle.std.proofs.Common.{◌≡◌, ℕ, [], drop, map, slice_get}
use Rattle.lq_text_walk.specs.Scoped.Views.{data_view}
use Rattle.lq_top_answers.specs.TypeText.Views.{names_at}
use Rattle.lq_top_judge.specs.Verdict.Names.{parameters_among}
use Rattle.lq_top_judge.proofs.verdict.naming.parameters_of.Given as goal

abbrev pub invariant-loop-datatype : goal.invariant-loop-datatype
invariant-loop-datatype l =
    (d : ℕ) → parameters_among (names_at (slice_get l.rows.items d)) (map data_view (drop l.datatype-index l.datatypes)) d
    ≡ parameters_among [] (map data_view l.datatypes) d
