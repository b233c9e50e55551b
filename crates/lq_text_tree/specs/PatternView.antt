-- The pattern that stands in memory.
use Rattle.std.specs.Prelude.{ℕ, List, [], ◌∷◌}
use Rattle.lq_text_tree.specs.Pattern.{Pattern, pattern, PatternForm, any, bind, nothing, tuple_of, build_of, Patterns, no_patterns, more_patterns}
use Rattle.lq_text_tree.specs.declared.pattern.Pat.{Pat, fold-Pat}
use Rattle.lq_text_tree.specs.declared.pattern.Pats.{Pats, fold-Pats, out-Pats}
use Rattle.lq_text_tree.specs.declared.pattern.PatNode.{PatNode, fold-PatNode}
use Rattle.lq_text_tree.specs.declared.pattern.PatNode.TheOpen.{PatNode-F, Pat-F, Pats-F}

abbrev pub patterns_of : List Pattern → Patterns
patterns_of [] = no_patterns
patterns_of (p ∷ ps) = more_patterns p (patterns_of ps)

-- the patterns of a row
abbrev pub pats_items : (B : Type 0) → Pats B → List (Pat B)
pats_items B ps = (out-Pats B ps).items.items

module _ (B : Type 0) (number : B → ℕ) where
  -- one level, with each pattern inside already seen
  abbrev pub pat_node_step : PatNode-F B PatternForm Pattern Patterns → PatternForm
  pat_node_step PatNode-F.Any = any
  pat_node_step (PatNode-F.Bind x) = bind (number x)
  pat_node_step PatNode-F.Unit = nothing
  pat_node_step (PatNode-F.Tuple ps) = tuple_of ps
  pat_node_step (PatNode-F.Build c p ps) = build_of c.0 p ps

  abbrev pub pat_step : Pat-F B PatternForm Pattern Patterns → Pattern
  pat_step p = pattern p.place p.node

  abbrev pub pats_step : Pats-F B PatternForm Pattern Patterns → Patterns
  pats_step ps = patterns_of ps.items.items

  abbrev pub pat_view : Pat B → Pattern
  pat_view = fold-Pat B PatternForm Pattern Patterns pat_node_step pat_step pats_step

  abbrev pub pat_form_view : PatNode B → PatternForm
  pat_form_view = fold-PatNode B PatternForm Pattern Patterns pat_node_step pat_step pats_step

  abbrev pub pats_view : Pats B → Patterns
  pats_view = fold-Pats B PatternForm Pattern Patterns pat_node_step pat_step pats_step
