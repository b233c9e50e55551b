-- The parts of a row and the arms of a match that are left.
use Rattle.std.specs.Prelude.{List, [], ◌∷◌, drop, Option, Some, None}
use Rattle.lq_base_names.specs.declared.name.Binder.{Binder}
use Rattle.lq_text_tree.specs.Tree.{Tree}
use Rattle.lq_text_tree.specs.TreeView.{Case, trees_view, cases_view}
use Rattle.lq_text_walk.specs.Walk.Shape.{listed, listed_cases}
use Rattle.lq_meaning_normalize.specs.declared.normalize.parts.Cases.{Cases}
use Rattle.lq_meaning_normalize.specs.declared.normalize.parts.Parts.{Parts}

abbrev pub parts_left : Parts → List Tree
parts_left p = drop p.next (listed (trees_view Binder (λ b. b.0) p.all.now))

abbrev pub arms_left : Cases → List Case
arms_left c = drop c.next (listed_cases (cases_view Binder (λ b. b.0) c.all.now))

-- the next one before the others, or nothing
abbrev pub with_rest : {A : Type 0} → Option A → List A → List A
with_rest None xs = []
with_rest (Some x) xs = x ∷ xs
