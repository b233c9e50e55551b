-- What definitions are read as.
use Rattle.std.specs.Prelude.{◌≡◌, ℕ, true, false, cond, List, [], ◌∷◌, ◌++◌}
use Rattle.lq_refined_rules.specs.Checks.Tree as t
use Rattle.lq_refined_rules.specs.Checks.Tree.{has_template, last_operation}
use Rattle.lq_refined_templates.specs.Programs.BlockView.{item_view}
use Rattle.lq_refined_templates.specs.declared.programs.block.Item.{Item}
use Rattle.lq_refined_templates.specs.Points.Annotation.{Annotation}
use Rattle.lq_refined_templates.specs.Points.Point.{whole}
use Rattle.lq_refined_templates.specs.Points.Pure.{Read, after, with_one, without_points}
use Rattle.lq_refined_templates.specs.Points.Reading.{block_of, function_point, own_point, parameter_of, program_from}
use Rattle.lq_refined_templates.specs.Points.Seen.{Seen, seen, scope_at}
use Rattle.lq_text_walk.specs.Scoped.Numbers.{number_of}
use Rattle.lq_text_tree.specs.Items.{ItemForm, ItemTree, type_of, let_of, let_rec_of}
use Rattle.lq_text_tree.specs.Pattern as p
use Rattle.lq_text_tree.specs.Pattern.{pattern}
use Rattle.lq_text_tree.specs.Tree.{Tree}
use Rattle.lq_generate_reading.specs.Visibility.Notes.{annotation_view}
use Rattle.lq_generate_reading.specs.Visibility.Scopes.{Longer}
use Rattle.lq_generate_reading.specs.declared.visibility.notes.Notes.{Notes}
use Rattle.lq_generate_reading.specs.Reading.Blocks.{recursive_of}
use Rattle.lq_generate_reading.specs.Reading.State.{count_of, points_in, scopes_of, seen_of, Stands}
use Rattle.lq_generate_reading.specs.declared.reading.state.State.{State}

-- what a definition makes of the program behind it
abbrev pub Before : Type 0
Before = t.Program → t.Program

module _ (n : Annotation) where
  -- the point of a definition of this block, whose node has this number
  abbrev pub defined_point_of : ℕ → List Seen → ℕ → ℕ → t.Block → Read ℕ
  defined_point_of k Δ x i b = record {
    read = cond (has_template b) k (function_point n (last_operation b));
    points = own_point n (has_template b) (whole (scope_at n Δ i) [] (n.names x));
  }

  abbrev pub value_of : ℕ → List Seen → p.Pattern → Tree → Read Before
  value_of k Δ (pattern l (p.bind x)) e =
      let B = block_of n false k Δ e in
      let P = defined_point_of (after k B) Δ x (number_of e) B.read in
      record { read = λ rest. t.define x l P.read B.read rest; points = B.points ++ P.points }
  value_of k Δ (pattern l p.nothing) e = with_one (block_of n true k Δ e) (λ B rest. t.run_unit B rest)
  value_of k Δ (pattern l f) e = with_one (block_of n false k Δ e) (λ B rest. t.run_any B rest)

  abbrev pub item_of : ℕ → List Seen → ItemForm → Read Before
  item_of k Δ (type_of d) = without_points (λ rest. rest)
  item_of k Δ (let_of q e) = value_of k Δ q e
  item_of k Δ (let_rec_of f r) =
      with_one (recursive_of n k (seen f ∷ Δ) f r.id r.parameter r.body) (λ y rest. t.define_recursive f y.0 (parameter_of r.parameter) y.1 rest)

  -- the names behind a definition
  abbrev pub value_seen : p.Pattern → List Seen → List Seen
  value_seen (pattern l (p.bind x)) Δ = seen x ∷ Δ
  value_seen (pattern l f) Δ = Δ

  abbrev pub item_seen : ItemForm → List Seen → List Seen
  item_seen (type_of d) Δ = Δ
  item_seen (let_of q e) Δ = value_seen q Δ
  item_seen (let_rec_of f r) Δ = seen f ∷ Δ

-- definitions before the program behind them
abbrev pub items_onto : List Item → t.Program → t.Program
items_onto [] rest = rest
items_onto (i ∷ is) rest = item_view i (items_onto is rest)

-- ---- in a state

abbrev pub program_read : Notes → State → List ItemTree → Read t.Program
program_read m s is = program_from (annotation_view m) (count_of s) (seen_of s) is

abbrev pub defined_point_read : Notes → State → ℕ → ℕ → t.Block → Read ℕ
defined_point_read m s x i b = defined_point_of (annotation_view m) (count_of s) (seen_of s) x i b

-- a definition is read, and its name is bound
pub record ItemReads (m : Notes) (old new : State) (f : Before) (i : ItemForm) : Type 0 where
  pub read : (rest : t.Program) → f rest ≡ (item_of (annotation_view m) (count_of old) (seen_of old) i).read rest
  pub points : points_in m new ≡ points_in m old ++ (item_of (annotation_view m) (count_of old) (seen_of old) i).points
  pub seen : seen_of new ≡ item_seen (annotation_view m) i (seen_of old)
  pub scopes : Longer (scopes_of old) (scopes_of new)
  pub stands : Stands m new
