-- How much is left to do.
use Rattle.std.specs.Prelude.{ℕ, suc, ◌+◌, ◌<◌, List, [], ◌∷◌}
use Rattle.lq_text_tree.specs.Tree.{Tree}
use Rattle.lq_text_tree.specs.TreeView.{Case, scoped_view, cases_view}
use Rattle.lq_base_names.specs.declared.name.Binder.{Binder}
use Rattle.lq_text_walk.specs.Walk.Fold.{Arm, Algebra, fold}
use Rattle.lq_text_walk.specs.Walk.Shape.{listed_cases}
use Rattle.lq_meaning_normalize.specs.Normalize.Parts.{parts_left, arms_left}
use Rattle.lq_meaning_normalize.specs.declared.normalize.frames.Frame.{Frame}
use Rattle.lq_meaning_normalize.specs.declared.normalize.frames.Machine.{Machine}
use Rattle.lq_meaning_normalize.specs.declared.normalize.frames.Next.{Next}
use Rattle.lq_meaning_normalize.specs.declared.normalize.frames.Next.TheVariants as next
use Rattle.lq_meaning_normalize.specs.declared.normalize.frames.Step.{Step}
use Rattle.lq_meaning_normalize.specs.declared.normalize.frames.Step.TheVariants as step

abbrev pub in_row : List ℕ → ℕ
in_row [] = 0
in_row (n ∷ ns) = suc (n + in_row ns)

abbrev pub in_arms : List (Arm ℕ) → ℕ
in_arms [] = 0
in_arms (a ∷ as_) = suc (a.body + in_arms as_)

-- the work that a node is
abbrev pub sizing : Algebra ℕ
sizing = record {
  leaf = λ t h. 1;
  one = λ t h a. a + 2;
  two = λ t h a b. a + (b + 3);
  three = λ t h a b c. a + (b + (c + 4));
  row = λ t h as_. suc (in_row as_);
  function = λ t p b. b + 2;
  let_in = λ t p e b. e + (b + 3);
  let_rec = λ t f i q p e b. e + (b + 3);
  match_on = λ t e as_. e + (in_arms as_ + 2);
}

abbrev pub size_of : Tree → ℕ
size_of = fold sizing

abbrev pub sizes : List Tree → ℕ
sizes [] = 0
sizes (t ∷ ts) = suc (size_of t + sizes ts)

abbrev pub case_sizes : List Case → ℕ
case_sizes [] = 0
case_sizes (c ∷ cs) = suc (size_of c.body + case_sizes cs)

-- the work that a frame leaves
abbrev pub weight : Step → ℕ
weight (step.One h a) = 1
weight (step.First h a b) = size_of (scoped_view b.now) + 2
weight (step.Second h x b) = 1
weight (step.Connective h x ls) = 1
weight (step.Three h a b c) = size_of (scoped_view b.now) + (size_of (scoped_view c.now) + 3)
weight (step.Middle h x b c) = size_of (scoped_view c.now) + 2
weight (step.Last h x y c) = 1
weight (step.Then x ls c) = size_of (scoped_view c.now) + 2
weight (step.Else x a ls) = 1
weight (step.Row h e es xs) = suc (sizes (parts_left es))
weight (step.Chain es) = suc (sizes (parts_left es))
weight (step.Body x ls) = 1
weight (step.Bound q b) = size_of (scoped_view b.now) + 2
weight (step.Under x q ls) = 1
weight step.Settle = 1
weight (step.Function f r x ls e) = size_of (scoped_view e.now) + 2
weight (step.Scrutinee e cs) = suc (case_sizes (listed_cases (cases_view Binder (λ b. b.0) cs.now)))
weight (step.Arm x q cs done ls) = suc (case_sizes (arms_left cs))

abbrev pub weights : List Frame → ℕ
weights [] = 0
weights (f ∷ fs) = weight f.step + weights fs

abbrev pub next_weight : Next → ℕ
next_weight (next.Enter e) = size_of (scoped_view e.now)
next_weight (next.Made n) = 0

-- all that is left
abbrev pub work : Machine → Next → ℕ
work M n = weights M.frames.items + next_weight n

-- there is less left than this much and what the frames leave
abbrev pub LeavesLess : Machine → Machine → Next → ℕ → Type 0
LeavesLess M N n w = work N n < weights M.frames.items + w
