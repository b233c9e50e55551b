-- Solutions of `lq_types_unify` and of the rules.
use Rattle.std.proofs.Common.{◌≡◌, ℕ, zero, suc, ◌≤◌, List, [], ◌∷◌, take, length, refl, sym, ap, ap₂, subst, ◌∙◌, arith}
use Rattle.lq_text_tree.specs.MlType as ml
use Rattle.lq_text_tree.specs.MlType.{MlType, MlTypes}
use Rattle.lq_text_tree.specs.Types.{put, put_all, type_at, count_types}
use Rattle.lq_types_unify.specs.declared.arena.Equation.{Equation}
use Rattle.lq_types_unify.specs.declared.arena.Head.{Head}
use Rattle.lq_types_unify.specs.declared.arena.Head.TheVariants as head
use Rattle.lq_types_unify.specs.Simple as simple
use Rattle.lq_types_unify.specs.Simple.{Simple, Simples, replaced, replaced_all}
use Rattle.lq_types_unify.specs.Solution as solution
use Rattle.lq_types_rules.specs.declared.equations.system.System.{System}
use Rattle.lq_types_rules.specs.Equations.Solutions.{made, each}
use Rattle.lq_types_rules.specs.Equations.Adding.{IsRight, IsSystem, forms_of}
use Rattle.lq_types_rules.specs.Equations.Solved.{read, read_all, written, written_all, Solves, IsPrincipal, IsFirstFailing}
use Rattle.lq_types_rules.proofs.EquationsLemmas.Shaping.{count_of_row}

mutual
  read_written : (t : MlType) → read (written t) ≡ t
  read_written ml.int = refl
  read_written ml.bool = refl
  read_written ml.unit = refl
  read_written (ml.var i) = refl
  read_written (ml.arrow a b) = ap₂ ml.arrow (read_written a) (read_written b)
  read_written (ml.tuple ts) = ap ml.tuple (all_read_written ts)
  read_written (ml.array a) = ap ml.array (read_written a)
  read_written (ml.named d ts) = ap (ml.named d) (all_read_written ts)
  read_written (ml.map_of a) = ap ml.map_of (read_written a)

  all_read_written : (ts : MlTypes) → read_all (written_all ts) ≡ ts
  all_read_written ml.no_types = refl
  all_read_written (ml.more_types t ts) = ap₂ ml.more_types (read_written t) (all_read_written ts)

at_put : (by : ℕ → MlType) (ts : MlTypes) (i : ℕ) → type_at (put_all by ts) i ≡ put by (type_at ts i)
at_put by ml.no_types i = refl
at_put by (ml.more_types t ts) zero = refl
at_put by (ml.more_types t ts) (suc i) = at_put by ts i

made_put : (by : ℕ → MlType) (h : Head) (ts : MlTypes) → made h (put_all by ts) ≡ put by (made h ts)
made_put by head.Whole ts = refl
made_put by head.Flag ts = refl
made_put by head.Unit ts = refl
made_put by head.Arrow ts = ap₂ ml.arrow (at_put by ts 0) (at_put by ts 1)
made_put by head.Tuple ts = refl
made_put by head.Array ts = ap ml.array (at_put by ts 0)
made_put by head.Map ts = ap ml.map_of (at_put by ts 0)
made_put by (head.Named d) ts = refl

mutual
  read_replaced : (by : ℕ → Simple) (s : Simple) → read (replaced by s) ≡ put (λ v. read (by v)) (read s)
  read_replaced by (simple.variable v) = refl
  read_replaced by (simple.made h ts) = ap (made h) (all_read_replaced by ts) ∙ made_put (λ v. read (by v)) h (read_all ts)

  all_read_replaced : (by : ℕ → Simple) (ts : Simples) → read_all (replaced_all by ts) ≡ put_all (λ v. read (by v)) (read_all ts)
  all_read_replaced by simple.none = refl
  all_read_replaced by (simple.more t ts) = ap₂ ml.more_types (read_replaced by t) (all_read_replaced by ts)

written_made : (h : Head) (ts : MlTypes) → IsRight h (count_types ts) → written (made h ts) ≡ simple.made h (written_all ts)
written_made head.Whole ml.no_types r = refl
written_made head.Whole (ml.more_types t ts) r = absurd (omega arith)
written_made head.Flag ml.no_types r = refl
written_made head.Flag (ml.more_types t ts) r = absurd (omega arith)
written_made head.Unit ml.no_types r = refl
written_made head.Unit (ml.more_types t ts) r = absurd (omega arith)
written_made head.Arrow ml.no_types r = absurd (omega arith)
written_made head.Arrow (ml.more_types t ml.no_types) r = absurd (omega arith)
written_made head.Arrow (ml.more_types t (ml.more_types u ml.no_types)) r = refl
written_made head.Arrow (ml.more_types t (ml.more_types u (ml.more_types v ts))) r = absurd (omega arith)
written_made head.Tuple ts r = refl
written_made head.Array ml.no_types r = absurd (omega arith)
written_made head.Array (ml.more_types t ml.no_types) r = refl
written_made head.Array (ml.more_types t (ml.more_types u ts)) r = absurd (omega arith)
written_made head.Map ml.no_types r = absurd (omega arith)
written_made head.Map (ml.more_types t ml.no_types) r = refl
written_made head.Map (ml.more_types t (ml.more_types u ts)) r = absurd (omega arith)
written_made (head.Named d) ts r = refl

read_each : (types : ℕ → Simple) (ps : List ℕ) → read_all (simple.each types ps) ≡ each (λ i. read (types i)) ps
read_each types [] = refl
read_each types (p ∷ ps) = ap (ml.more_types (read (types p))) (read_each types ps)

written_each : (types : ℕ → MlType) (ps : List ℕ) → written_all (each types ps) ≡ simple.each (λ i. written (types i)) ps
written_each types [] = refl
written_each types (p ∷ ps) = ap (simple.more (written (types p))) (written_each types ps)

reads : (s : System) (es : List Equation) (types : ℕ → Simple) → solution.IsSolution (forms_of s) es types → Solves s es (λ i. read (types i))
reads s es types h = record {
  fits = λ i f e. ap read (h.fits i f e) ∙ ap (made f.head) (read_each types f.parts);
  meets = λ k d l. ap read (h.meets k d l);
}

writes : (s : System) (es : List Equation) (types : ℕ → MlType) → IsSystem s → Solves s es types → solution.IsSolution (forms_of s) es (λ i. written (types i))
writes s es types w h = record {
  fits = λ i f e. ap written (h.fits i f e)
      ∙ written_made f.head (each types f.parts) (subst (IsRight f.head) (sym (count_of_row types f.parts)) (w.right i f e)) ∙ ap (simple.made f.head) (written_each types f.parts);
  meets = λ k d l. ap written (h.meets k d l);
}

pub principal_read : (s : System) (es : List Equation) (types : ℕ → Simple) → IsSystem s → es ≡ s.equations.items → solution.IsPrincipal (forms_of s) es types → IsPrincipal s (λ i. read (types i))
principal_read s es types w e p = record {
  solves = subst (λ l. Solves s l (λ i. read (types i))) e (reads s es types p.solves);
  general = λ others h.
      let g = p.general (λ i. written (others i)) (writes s es others w (subst (λ l. Solves s l others) (sym e) h)) in
      (λ v. read (g.0 v), λ i. sym (read_written (others i)) ∙ ap read (g.1 i) ∙ read_replaced g.0 (types i));
}

pub none_read : (s : System) (es : List Equation) → IsSystem s → es ≡ s.equations.items → solution.HasNoSolution (forms_of s) es → (types : ℕ → MlType) → Solves s s.equations.items types → ⊥
none_read s es w e n types h = n (λ i. written (types i)) (writes s es types w (subst (λ l. Solves s l types) (sym e) h))

pub some_read : (s : System) (es : List Equation) → es ≡ s.equations.items → solution.HasSolution (forms_of s) es → (types : ℕ → MlType) × Solves s s.equations.items types
some_read s es e h = (λ i. read (h.0 i), subst (λ l. Solves s l (λ i. read (h.0 i))) e (reads s es h.0 h.1))

pub failing_read : (s : System) (es : List Equation) (k : ℕ) → IsSystem s → es ≡ s.equations.items → solution.IsFirstFailing (forms_of s) es k → IsFirstFailing s k
failing_read s es k w e f = record {
  within = subst (λ (l : List Equation). k ≤ length l) e f.within;
  fails = λ types h. f.fails (λ i. written (types i)) (writes s (take k es) types w (subst (λ l. Solves s (take k l) types) (sym e) h));
  before = λ j l. let b = f.before j l in (λ i. read (b.0 i), subst (λ m. Solves s (take j m) (λ i. read (b.0 i))) e (reads s (take j es) b.0 b.1));
}
