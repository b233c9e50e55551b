-- The parsed texts, as lists of what they define.
use Rattle.std.specs.Prelude.{List}
use Rattle.lq_text_tree.specs.Items.{ItemTree, parsed_items}
use Rattle.lq_text_tree.specs.MeasureTrees.{MeasureTree, definitions_view}
use Rattle.lq_text_tree.specs.Qualifiers.{QualifierTree, qualifiers_view}
use Rattle.lq_text_tree.specs.declared.measures.Measures.{Measures}
use Rattle.lq_text_tree.specs.declared.program.Program.{Program}
use Rattle.lq_text_tree.specs.declared.quals.Quals.{Quals}

abbrev pub program_view : Program → List ItemTree
program_view p = parsed_items p.items.items

abbrev pub quals_view : Quals → List QualifierTree
quals_view q = qualifiers_view q.qualifiers.items

abbrev pub measures_view : Measures → List MeasureTree
measures_view m = definitions_view m.measures.items
