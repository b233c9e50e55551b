-- What a solver knows, while nodes and equations come.
use Rattle.std.proofs.Common.{◌≡◌, ℕ, ◌<◌, ◌≤◌, List, [], ◌++◌, Option, Some, None, IfSome, IfNone, ◌-◌, take_all, length, take, drop, inl, inr, sym, ap, subst, ◌∙◌, arith}
use Rattle.std.proofs.lemmas.List.{get_or_past, take-append-drop, length-drop}
use Rattle.lq_types_unify.specs.declared.arena.Arena.{Arena}
use Rattle.lq_types_unify.specs.declared.arena.Equation.{Equation}
use Rattle.lq_types_unify.specs.declared.arena.Node.TheVariants.{Open}
use Rattle.lq_types_unify.specs.Nodes.{form_of, form_at}
use Rattle.lq_types_unify.specs.Classes.{up, IsKnown, IsSame}
use Rattle.lq_types_unify.specs.Knowing.{IsLonger, Knows, IsStretched}
use Rattle.lq_types_unify.specs.declared.solver.Solver.{Solver}
use Rattle.lq_types_unify.specs.Solution.{HasNoSolution}
use Rattle.std.proofs.lemmas.Bool.{cases_lt}
use Rattle.lq_types_unify.proofs.Longer.{known}
use Rattle.lq_types_unify.proofs.Roots.{up_past}
use Rattle.lq_types_unify.proofs.Beginning.{first_known, same_known}

-- past the end of the nodes there is no form
pub no_form : (a : Arena) (i : ℕ) → length a.nodes.items ≤ i → form_at a i ≡ None
no_form a i h = ap (form_of a.parts.items) (get_or_past a.nodes.items i Open h)

-- the tables are those of more nodes, and other copies were made since
pub copied_knows : (old new : Arena) (equations : List Equation) (mid t : Solver) (n : ℕ) → n ≡ length new.nodes.items → IsLonger old new
    → IsKnown (form_at old) (length old.nodes.items) mid.parents.items mid.shapes.items mid.found.items equations → length mid.copies.items ≡ length old.nodes.items
    → ((i : ℕ) → i < length old.nodes.items → up mid.copies.items i < length new.nodes.items) → IsStretched mid t n → Knows new equations t
copied_knows old new equations mid t n e l k cl low h =
    let m = l.more in
    let pp = k.state.parents_length in
    let ss = k.state.shapes_length in
    record {
      known = subst (λ fs. IsKnown (form_at new) (length new.nodes.items) t.parents.items t.shapes.items fs equations) (sym h.found_same)
          (known (form_at old) (form_at new) (length old.nodes.items) (length new.nodes.items) mid.parents.items mid.shapes.items t.parents.items t.shapes.items mid.found.items equations
          (record {
            more = l.more;
            same = l.same;
            past = λ i h. no_form old i h;
            parents_length = h.parents_length (omega arith) ∙ e;
            shapes_length = h.shapes_length (omega arith) ∙ e;
            parents_same = h.parents_same;
            shapes_same = h.shapes_same;
          }) k);
      copies_length = h.copies_length (omega arith) ∙ e;
      copies_low = λ i j. subst (λ (x : ℕ). x < length new.nodes.items) (sym (h.copies_same i)) (elim (cases_lt i (length old.nodes.items)) [
        | inl b ↦ low i b
        | inr b ↦ subst (λ (x : ℕ). x < length new.nodes.items) (sym (up_past mid.copies.items i (omega arith))) j
      ]);
    }

pub grown : (old new : Arena) (equations : List Equation) (s t : Solver) (n : ℕ) → n ≡ length new.nodes.items → IsLonger old new → IsStretched s t n → Knows old equations s → Knows new equations t
grown old new equations s t n e l h k = copied_knows old new equations s t n e l k.known k.copies_length
    (λ i b. let x = k.copies_low i b in let m = l.more in omega arith) h

-- nothing is known at first
pub begun : (a : Arena) (s : Solver) (n : ℕ) → n ≡ length a.nodes.items → length s.parents.items ≡ n → ((i : ℕ) → up s.parents.items i ≡ i) → length s.shapes.items ≡ n → ((i : ℕ) → up s.shapes.items i ≡ i)
    → length s.copies.items ≡ n → ((i : ℕ) → up s.copies.items i ≡ i) → s.found.items ≡ [] → Knows a [] s
begun a s n e pl p sl q cl r f = record {
  known = first_known (form_at a) (length a.nodes.items) s.parents.items s.shapes.items s.found.items (pl ∙ e) (sl ∙ e) p q f;
  copies_length = cl ∙ e;
  copies_low = λ i h. subst (λ (j : ℕ). j < length a.nodes.items) (sym (r i)) h;
}

-- the tables of parents, shapes and pairs may be others
pub known_by : (a : Arena) (before equations : List Equation) (s t : Solver) → t.copies.items ≡ s.copies.items → Knows a before s
    → IsKnown (form_at a) (length a.nodes.items) t.parents.items t.shapes.items t.found.items equations → Knows a equations t
known_by a before equations s t e k known = record {
  known = known;
  copies_length = ap length e ∙ k.copies_length;
  copies_low = λ i h. subst (λ l. up l i < length a.nodes.items) (sym e) (k.copies_low i h);
}

-- shorter ways to the same roots
pub known_same : (a : Arena) (equations : List Equation) (s t : Solver) → IsSame s.parents.items t.parents.items → t.shapes.items ≡ s.shapes.items → t.found.items ≡ s.found.items → t.copies.items ≡ s.copies.items
    → Knows a equations s → Knows a equations t
known_same a equations s t h e f g k = known_by a equations equations s t g k
    (subst (λ l. IsKnown (form_at a) (length a.nodes.items) t.parents.items l t.found.items equations) (sym e)
    (subst (λ l. IsKnown (form_at a) (length a.nodes.items) t.parents.items s.shapes.items l equations) (sym f)
    (same_known (form_at a) (length a.nodes.items) s.parents.items t.parents.items s.shapes.items s.found.items equations h k.known)))

pub rejoined : (from : ℕ) (equations : List Equation) → take from equations ++ take (length equations - from) (drop from equations) ≡ equations
rejoined from equations = ap (λ l. take from equations ++ l) (take_all (length equations - from) (drop from equations) (omega (arith, length-drop from equations))) ∙ take-append-drop from equations

pub sliced : (a : Arena) (equations : List Equation) (s : Solver) (old was : List ℕ) → old ≡ s.parents.items → was ≡ s.shapes.items
    → IsKnown (form_at a) (length a.nodes.items) s.parents.items s.shapes.items s.found.items equations → IsKnown (form_at a) (length a.nodes.items) old was s.found.items equations
sliced a equations s old was e f k = subst (λ l. IsKnown (form_at a) (length a.nodes.items) l was s.found.items equations) (sym e)
    (subst (λ l. IsKnown (form_at a) (length a.nodes.items) s.parents.items l s.found.items equations) (sym f) k)

-- what merging says of slices, of the solver that has them
pub merged : (a : Arena) (equations : List Equation) (from : ℕ) (s t : Solver) (old new was is : List ℕ) → old ≡ s.parents.items → was ≡ s.shapes.items → t.parents.items ≡ new → t.shapes.items ≡ is → t.copies.items ≡ s.copies.items
    → ((before : List Equation) → IsKnown (form_at a) (length a.nodes.items) old was s.found.items before
    → IsKnown (form_at a) (length a.nodes.items) new is t.found.items (before ++ take (length equations - from) (drop from equations)))
    → Knows a (take from equations) s → Knows a equations t
merged a equations from s t old new was is e f g h i by k =
    known_by a (take from equations) equations s t i k
    (subst (λ l. IsKnown (form_at a) (length a.nodes.items) l t.shapes.items t.found.items equations) (sym g)
    (subst (λ l. IsKnown (form_at a) (length a.nodes.items) new l t.found.items equations) (sym h)
    (subst (IsKnown (form_at a) (length a.nodes.items) new is t.found.items) (rejoined from equations) (by (take from equations) (sliced a (take from equations) s old was e f k.known)))))

pub clashed : (a : Arena) (equations : List Equation) (from : ℕ) (s : Solver) (old was : List ℕ) → old ≡ s.parents.items → was ≡ s.shapes.items
    → ((before : List Equation) → IsKnown (form_at a) (length a.nodes.items) old was s.found.items before
    → HasNoSolution (form_at a) (before ++ take (length equations - from) (drop from equations)))
    → Knows a (take from equations) s → HasNoSolution (form_at a) equations
clashed a equations from s old was e f by k = subst (HasNoSolution (form_at a)) (rejoined from equations) (by (take from equations) (sliced a (take from equations) s old was e f k.known))

pub none_by : {X : Type 0} (o : Option X) (P Q : Type 0) → (P → Q) → IfNone o P → IfNone o Q
none_by None P Q h p = h p
none_by (Some x) P Q h p = tt

pub some_by : {X : Type 0} (o : Option X) (P Q : X → Type 0) → ((x : X) → P x → Q x) → IfSome o P → IfSome o Q
some_by None P Q h p = tt
some_by (Some x) P Q h p = h x p
