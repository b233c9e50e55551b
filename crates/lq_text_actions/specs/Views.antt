-- The values that stand on the stack of a reading, as actions speak of them. The last one of the stack is the first here.
use Rattle.std.specs.Prelude.{List, map, reverse}
use Rattle.lq_base_names.specs.declared.name.Name.{Name}
use Rattle.lq_text_tree.specs.Items.{parameter_view, constructor_view, parsed_items}
use Rattle.lq_text_tree.specs.MeasureTrees.{equation_view, definitions_view}
use Rattle.lq_text_tree.specs.Pattern.{Pattern}
use Rattle.lq_text_tree.specs.PatternView.{pat_view, pats_items}
use Rattle.lq_text_tree.specs.PredView.{pred_view}
use Rattle.lq_text_tree.specs.Qualifiers.{qualifiers_view}
use Rattle.lq_text_tree.specs.Tree.{Tree}
use Rattle.lq_text_tree.specs.TreeView.{Recursive, parsed_view, exprs_items, case_view, arms_items, function_view}
use Rattle.lq_text_tree.specs.TypeTree.{TypeTree}
use Rattle.lq_text_tree.specs.TypeView.{type_view, type_exprs_items}
use Rattle.lq_text_tree.specs.declared.expr.Exprs.{Exprs}
use Rattle.lq_text_tree.specs.declared.expr.Function.{Function}
use Rattle.lq_text_tree.specs.declared.pattern.Pat.{Pat}
use Rattle.lq_text_tree.specs.declared.pattern.Pats.{Pats}
use Rattle.lq_text_tree.specs.declared.type_expr.TypeExprs.{TypeExprs}
use Rattle.lq_text_actions.specs.Value as spec
use Rattle.lq_text_actions.specs.declared.values.Commas.{Commas}
use Rattle.lq_text_actions.specs.declared.values.Commas.TheVariants as commas
use Rattle.lq_text_actions.specs.declared.values.Content.{Content}
use Rattle.lq_text_actions.specs.declared.values.Content.TheVariants as content
use Rattle.lq_text_actions.specs.declared.values.Lexeme.{Lexeme}
use Rattle.lq_text_actions.specs.declared.values.Value.{Value}
use Rattle.lq_text_actions.specs.declared.values.Value.TheVariants as value

abbrev pub content_view : Content → spec.Content
content_view (content.Name x) = spec.some_name x.0
content_view (content.Number v) = spec.some_number v
content_view content.Neither = spec.neither

abbrev pub lexeme_view : Lexeme → spec.Lexeme
lexeme_view l = record { place = l.place; content = content_view l.content }

abbrev pub commas_view : Commas → spec.Commas
commas_view commas.Bare = spec.bare
commas_view commas.Enclosed = spec.enclosed
commas_view commas.Absent = spec.absent

abbrev pub parsed_pattern : Pat Name → Pattern
parsed_pattern = pat_view Name (λ n. n.0)

abbrev pub parsed_function : Function Name → Recursive
parsed_function = function_view Name (λ n. n.0)

-- the trees of a row
abbrev pub rows_view : Exprs Name → List Tree
rows_view es = map parsed_view (exprs_items Name es)

abbrev pub pattern_rows_view : Pats Name → List Pattern
pattern_rows_view ps = map parsed_pattern (pats_items Name ps)

abbrev pub type_rows_view : TypeExprs → List TypeTree
type_rows_view ts = map type_view (type_exprs_items ts)

abbrev pub value_view : Value → spec.Value
value_view (value.Mark p) = spec.mark p
value_view (value.Named x p) = spec.named x.0 p
value_view (value.Expression e) = spec.expression (parsed_view e.tree.value) e.place (commas_view e.commas)
value_view (value.Expressions es p) = spec.expressions (rows_view es) p
value_view (value.Element a i p) = spec.element (parsed_view a.value) (parsed_view i.value) p
value_view (value.Arms cs) = spec.arms (map (case_view Name (λ n. n.0)) (arms_items Name cs))
value_view (value.Recursive f r) = spec.recursive f.0 (parsed_function r)
value_view (value.Pattern p) = spec.pattern_read (parsed_pattern p)
value_view (value.Patterns ps p) = spec.patterns (pattern_rows_view ps) p
value_view (value.Type t p) = spec.type_read (type_view t) p
value_view (value.Types ts p) = spec.types (type_rows_view ts) p
value_view (value.Parameters ps) = spec.parameters (map parameter_view ps.items)
value_view (value.Constructors cs) = spec.constructors (map constructor_view cs.items)
value_view (value.Items is) = spec.items (parsed_items is.items)
value_view (value.Predicate e p) = spec.predicate (pred_view e.value) p
value_view (value.Qualifiers qs) = spec.qualifiers (qualifiers_view qs.items)
value_view (value.Equations es) = spec.equations (map equation_view es.items)
value_view (value.Measures ms) = spec.measures (definitions_view ms.items)

abbrev pub views : List Value → List spec.Value
views items = map value_view (reverse items)
