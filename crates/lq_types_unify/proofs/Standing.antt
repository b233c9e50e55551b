-- What stands of a solver, whatever the end.
use Rattle.std.proofs.Common.{◌≡◌, ℕ, ◌-◌, ◌<◌, ◌≤◌, List, ◌++◌, Option, length, take, drop, sym, ap, subst, ◌∙◌}
use Rattle.lq_types_unify.specs.declared.arena.Arena.{Arena}
use Rattle.lq_types_unify.specs.declared.arena.Equation.{Equation}
use Rattle.lq_types_unify.specs.declared.solver.Solver.{Solver}
use Rattle.lq_types_unify.specs.Simple.{Simple}
use Rattle.lq_types_unify.specs.Nodes.{Form, form_at}
use Rattle.lq_types_unify.specs.Solution.{Fits, Meets}
use Rattle.lq_types_unify.specs.Classes.{up, root, IsDown, IsSame, IsState, Grows, AreShared, IsKnown, AreBetween}
use Rattle.lq_types_unify.specs.Copying.{AreKept}
use Rattle.lq_types_unify.specs.Knowing.{IsLonger, Knows, IsBetween, IsWidened, KeepsClasses}
use Rattle.lq_types_unify.proofs.Roots.{only, root_up, root_self}
use Rattle.lq_types_unify.proofs.Merging.{met_later, split_solution}
use Rattle.lq_types_unify.proofs.Knowing.{rejoined, sliced}

pub widened_keeps : (s t : Solver) → IsDown s.parents.items → IsWidened s t → KeepsClasses s t
widened_keeps s t down w = record {
  roots = λ i. sym (only t.parents.items (λ j. subst (λ (l : ℕ). l ≤ j) (sym (w.parents j)) (down j)) (root s.parents.items)
      (λ j. root_up s.parents.items down j ∙ ap (root s.parents.items) (sym (w.parents j))) (λ j e. root_self s.parents.items j (sym (w.parents j) ∙ e)) i);
  shapes = w.shapes;
  found = w.found;
}

pub same_keeps : (s t : Solver) → IsSame s.parents.items t.parents.items → t.shapes.items ≡ s.shapes.items → t.found.items ≡ s.found.items → KeepsClasses s t
same_keeps s t same e f = record { roots = same.roots; shapes = λ i. ap (λ l. up l i) e; found = f }

pub keeps_then : (s t u : Solver) → KeepsClasses s t → KeepsClasses t u → KeepsClasses s u
keeps_then s t u p q = record {
  roots = λ i. q.roots i ∙ p.roots i;
  shapes = λ i. q.shapes i ∙ p.shapes i;
  found = q.found ∙ p.found;
}

pub between : (forms : ℕ → Option Form) (n : ℕ) (old new shapes kept : List ℕ) (f h before equations : List Equation) → IsKnown forms n old shapes f before → IsState forms n new kept h → Grows old new f h
    → ((types : ℕ → Simple) → Fits forms types → AreShared old types → Meets types equations → AreShared new types) → AreBetween forms n new kept h before (before ++ equations)
between forms n old new shapes kept f h before equations known state grows shared = record {
  state = state;
  met = met_later old new before grows.coarser known.met;
  follows = λ types s. let p = split_solution forms before equations types s in shared types s.fits (known.follows types p.0) p.1;
}

-- what stands of slices after merging, of the solver that has them
pub merged_between : (a : Arena) (equations : List Equation) (from : ℕ) (s t : Solver) (old new was is : List ℕ) → old ≡ s.parents.items → was ≡ s.shapes.items → t.parents.items ≡ new → t.shapes.items ≡ is
    → t.copies.items ≡ s.copies.items
    → ((before : List Equation) → IsKnown (form_at a) (length a.nodes.items) old was s.found.items before
    → AreBetween (form_at a) (length a.nodes.items) new is t.found.items before (before ++ take (length equations - from) (drop from equations)))
    → Knows a (take from equations) s → IsBetween a (take from equations) equations t
merged_between a equations from s t old new was is e f g h i by k = record {
  classes = subst (λ l. AreBetween (form_at a) (length a.nodes.items) l t.shapes.items t.found.items (take from equations) equations) (sym g)
      (subst (λ l. AreBetween (form_at a) (length a.nodes.items) new l t.found.items (take from equations) equations) (sym h)
      (subst (AreBetween (form_at a) (length a.nodes.items) new is t.found.items (take from equations)) (rejoined from equations)
      (by (take from equations) (sliced a (take from equations) s old was e f k.known))));
  copies_length = ap length i ∙ k.copies_length;
  copies_low = λ j l. subst (λ x. up x j < length a.nodes.items) (sym i) (k.copies_low j l);
}

-- ---- the nodes that there were

pub kept_longer : (old new : Arena) → AreKept old new (length old.nodes.items) → IsLonger old new
kept_longer old new k = record { more = k.more; same = k.kept }
