-- Lists of replacements: a row of few, or rows one behind the other.
use Rattle.std.specs.Prelude.{List, ◌++◌}
use Rattle.lq_refined_substitution.specs.Substitution.Runs.{run_list}
use Rattle.lq_refined_substitution.specs.declared.substitution.listed.Listed.{Listed}
use Rattle.lq_refined_substitution.specs.declared.substitution.listed.Listed.TheVariants.{Few, Many}
use Rattle.lq_refined_substitution.specs.declared.substitution.rows.Rows.{Rows}
use Rattle.lq_refined_substitution.specs.declared.substitution.swaps.Swap.{Swap}

abbrev pub rows_items : Rows → List Swap
rows_items r = run_list r.front.items ++ run_list r.back.items

abbrev pub listed_items : Listed → List Swap
listed_items (Few ss) = ss.items
listed_items (Many r) = rows_items r.value
