-- Types of `lq_types_unify` and of the rules.
use Rattle.std.proofs.Common.{◌≡◌, ℕ, zero, suc, List, [], ◌∷◌, length, refl, sym, ap, ap₂, subst, ◌∙◌, arith}
use Rattle.lq_text_tree.specs.MlType as ml
use Rattle.lq_text_tree.specs.MlType.{MlType, MlTypes}
use Rattle.lq_text_tree.specs.Types.{put, put_all, type_at, count_types}
use Rattle.lq_types_unify.specs.declared.arena.Equation.{Equation}
use Rattle.lq_types_unify.specs.declared.arena.Head.{Head}
use Rattle.lq_types_unify.specs.declared.arena.Head.TheVariants as head
use Rattle.lq_types_unify.specs.Simple as simple
use Rattle.lq_types_unify.specs.Simple.{Simple, Simples, replaced, replaced_all}
use Rattle.lq_types_unify.specs.Solution as solution
use Rattle.lq_types_unify.specs.Variables as simply
use Rattle.lq_types_rules.specs.declared.equations.system.System.{System}
use Rattle.lq_types_rules.specs.Equations.Solutions.{made, each}
use Rattle.lq_types_rules.specs.Equations.Adding.{IsRight, IsSystem, forms_of}
use Rattle.lq_types_rules.specs.Equations.Solved.{read, read_all, written, written_all, Solves, IsPrincipal}
use Rattle.lq_types_rules.specs.Typings.Uses.{Each, EachIn, Leaves}

count_each : (types : ℕ → MlType) (ps : List ℕ) → count_types (each types ps) ≡ length ps
count_each types [] = refl
count_each types (p ∷ ps) = ap suc (count_each types ps)

mutual
  pub read_written : (t : MlType) → read (written t) ≡ t
  read_written ml.int = refl
  read_written ml.bool = refl
  read_written ml.unit = refl
  read_written (ml.var i) = refl
  read_written (ml.arrow a b) = ap₂ ml.arrow (read_written a) (read_written b)
  read_written (ml.tuple ts) = ap ml.tuple (all_read_written ts)
  read_written (ml.array a) = ap ml.array (read_written a)
  read_written (ml.named d ts) = ap (ml.named d) (all_read_written ts)
  read_written (ml.map_of a) = ap ml.map_of (read_written a)

  all_read_written : (ts : MlTypes) → read_all (written_all ts) ≡ ts
  all_read_written ml.no_types = refl
  all_read_written (ml.more_types t ts) = ap₂ ml.more_types (read_written t) (all_read_written ts)

at_put : (by : ℕ → MlType) (ts : MlTypes) (i : ℕ) → type_at (put_all by ts) i ≡ put by (type_at ts i)
at_put by ml.no_types i = refl
at_put by (ml.more_types t ts) zero = refl
at_put by (ml.more_types t ts) (suc i) = at_put by ts i

pub made_put : (by : ℕ → MlType) (h : Head) (ts : MlTypes) → made h (put_all by ts) ≡ put by (made h ts)
made_put by head.Whole ts = refl
made_put by head.Flag ts = refl
made_put by head.Unit ts = refl
made_put by head.Arrow ts = ap₂ ml.arrow (at_put by ts 0) (at_put by ts 1)
made_put by head.Tuple ts = refl
made_put by head.Array ts = ap ml.array (at_put by ts 0)
made_put by head.Map ts = ap ml.map_of (at_put by ts 0)
made_put by (head.Named d) ts = refl

mutual
  pub read_replaced : (by : ℕ → Simple) (s : Simple) → read (replaced by s) ≡ put (λ v. read (by v)) (read s)
  read_replaced by (simple.variable v) = refl
  read_replaced by (simple.made h ts) = ap (made h) (all_read_replaced by ts) ∙ made_put (λ v. read (by v)) h (read_all ts)

  all_read_replaced : (by : ℕ → Simple) (ts : Simples) → read_all (replaced_all by ts) ≡ put_all (λ v. read (by v)) (read_all ts)
  all_read_replaced by simple.none = refl
  all_read_replaced by (simple.more t ts) = ap₂ ml.more_types (read_replaced by t) (all_read_replaced by ts)

written_made : (h : Head) (ts : MlTypes) → IsRight h (count_types ts) → written (made h ts) ≡ simple.made h (written_all ts)
written_made head.Whole ml.no_types r = refl
written_made head.Whole (ml.more_types t ts) r = absurd (omega arith)
written_made head.Flag ml.no_types r = refl
written_made head.Flag (ml.more_types t ts) r = absurd (omega arith)
written_made head.Unit ml.no_types r = refl
written_made head.Unit (ml.more_types t ts) r = absurd (omega arith)
written_made head.Arrow ml.no_types r = absurd (omega arith)
written_made head.Arrow (ml.more_types t ml.no_types) r = absurd (omega arith)
written_made head.Arrow (ml.more_types t (ml.more_types u ml.no_types)) r = refl
written_made head.Arrow (ml.more_types t (ml.more_types u (ml.more_types v ts))) r = absurd (omega arith)
written_made head.Tuple ts r = refl
written_made head.Array ml.no_types r = absurd (omega arith)
written_made head.Array (ml.more_types t ml.no_types) r = refl
written_made head.Array (ml.more_types t (ml.more_types u ts)) r = absurd (omega arith)
written_made head.Map ml.no_types r = absurd (omega arith)
written_made head.Map (ml.more_types t ml.no_types) r = refl
written_made head.Map (ml.more_types t (ml.more_types u ts)) r = absurd (omega arith)
written_made (head.Named d) ts r = refl

read_each : (types : ℕ → Simple) (ps : List ℕ) → read_all (simple.each types ps) ≡ each (λ i. read (types i)) ps
read_each types [] = refl
read_each types (p ∷ ps) = ap (ml.more_types (read (types p))) (read_each types ps)

written_each : (types : ℕ → MlType) (ps : List ℕ) → written_all (each types ps) ≡ simple.each (λ i. written (types i)) ps
written_each types [] = refl
written_each types (p ∷ ps) = ap (simple.more (written (types p))) (written_each types ps)

pub reads : (s : System) (es : List Equation) (types : ℕ → Simple) → solution.IsSolution (forms_of s) es types → Solves s es (λ i. read (types i))
reads s es types h = record {
  fits = λ i f e. ap read (h.fits i f e) ∙ ap (made f.head) (read_each types f.parts);
  meets = λ k d l. ap read (h.meets k d l);
}

pub writes : (s : System) (es : List Equation) (types : ℕ → MlType) → IsSystem s → Solves s es types → solution.IsSolution (forms_of s) es (λ i. written (types i))
writes s es types w h = record {
  fits = λ i f e. ap written (h.fits i f e)
      ∙ written_made f.head (each types f.parts) (subst (IsRight f.head) (sym (count_each types f.parts)) (w.right i f e)) ∙ ap (simple.made f.head) (written_each types f.parts);
  meets = λ k d l. ap written (h.meets k d l);
}

-- ---- variables

-- a type that stays where types are put for its variables keeps each variable
mutual
  pub leaves_from : (by : ℕ → MlType) (t : MlType) → put by t ≡ t → Leaves by t
  leaves_from by ml.int e = tt
  leaves_from by ml.bool e = tt
  leaves_from by ml.unit e = tt
  leaves_from by (ml.var i) e = e
  leaves_from by (ml.arrow a b) e = (leaves_from by a (cc), leaves_from by b (cc))
  leaves_from by (ml.tuple ts) e = all_leave_from by ts (cc)
  leaves_from by (ml.array a) e = leaves_from by a (cc)
  leaves_from by (ml.named d ts) e = all_leave_from by ts (cc)
  leaves_from by (ml.map_of a) e = leaves_from by a (cc)

  all_leave_from : (by : ℕ → MlType) (ts : MlTypes) → put_all by ts ≡ ts → EachIn (λ i. by i ≡ ml.var i) ts
  all_leave_from by ml.no_types e = tt
  all_leave_from by (ml.more_types t ts) e = (leaves_from by t (cc), all_leave_from by ts (cc))

-- and a type whose variables are kept stays
mutual
  pub leaves_put : (by : ℕ → MlType) (t : MlType) → Leaves by t → put by t ≡ t
  leaves_put by ml.int h = refl
  leaves_put by ml.bool h = refl
  leaves_put by ml.unit h = refl
  leaves_put by (ml.var i) h = h
  leaves_put by (ml.arrow a b) h = ap₂ ml.arrow (leaves_put by a h.0) (leaves_put by b h.1)
  leaves_put by (ml.tuple ts) h = ap ml.tuple (all_leave_put by ts h)
  leaves_put by (ml.array a) h = ap ml.array (leaves_put by a h)
  leaves_put by (ml.named d ts) h = ap (ml.named d) (all_leave_put by ts h)
  leaves_put by (ml.map_of a) h = ap ml.map_of (leaves_put by a h)

  all_leave_put : (by : ℕ → MlType) (ts : MlTypes) → EachIn (λ i. by i ≡ ml.var i) ts → put_all by ts ≡ ts
  all_leave_put by ml.no_types h = refl
  all_leave_put by (ml.more_types t ts) h = ap₂ ml.more_types (leaves_put by t h.0) (all_leave_put by ts h.1)

-- a fact of each variable, of types as they are written
mutual
  pub each_written : (P : ℕ → Type 0) (t : MlType) → Each P t → simply.Each P (written t)
  each_written P ml.int h = tt
  each_written P ml.bool h = tt
  each_written P ml.unit h = tt
  each_written P (ml.var i) h = h
  each_written P (ml.arrow a b) h = (each_written P a h.0, (each_written P b h.1, tt))
  each_written P (ml.tuple ts) h = all_written_each P ts h
  each_written P (ml.array a) h = (each_written P a h, tt)
  each_written P (ml.named d ts) h = all_written_each P ts h
  each_written P (ml.map_of a) h = (each_written P a h, tt)

  all_written_each : (P : ℕ → Type 0) (ts : MlTypes) → EachIn P ts → simply.EachIn P (written_all ts)
  all_written_each P ml.no_types h = tt
  all_written_each P (ml.more_types t ts) h = (each_written P t h.0, all_written_each P ts h.1)

mutual
  pub each_map : (P Q : ℕ → Type 0) (t : MlType) → ((i : ℕ) → P i → Q i) → Each P t → Each Q t
  each_map P Q ml.int f h = tt
  each_map P Q ml.bool f h = tt
  each_map P Q ml.unit f h = tt
  each_map P Q (ml.var i) f h = f i h
  each_map P Q (ml.arrow a b) f h = (each_map P Q a f h.0, each_map P Q b f h.1)
  each_map P Q (ml.tuple ts) f h = each_map_all P Q ts f h
  each_map P Q (ml.array a) f h = each_map P Q a f h
  each_map P Q (ml.named d ts) f h = each_map_all P Q ts f h
  each_map P Q (ml.map_of a) f h = each_map P Q a f h

  each_map_all : (P Q : ℕ → Type 0) (ts : MlTypes) → ((i : ℕ) → P i → Q i) → EachIn P ts → EachIn Q ts
  each_map_all P Q ml.no_types f h = tt
  each_map_all P Q (ml.more_types t ts) f h = (each_map P Q t f h.0, each_map_all P Q ts f h.1)

pub principal_read : (s : System) (types : ℕ → Simple) → IsSystem s → solution.IsPrincipal (forms_of s) s.equations.items types → IsPrincipal s (λ i. read (types i))
principal_read s types w p = record {
  solves = reads s s.equations.items types p.solves;
  general = λ others h.
      let g = p.general (λ i. written (others i)) (writes s s.equations.items others w h) in
      (λ v. read (g.0 v), λ i. sym (read_written (others i)) ∙ ap read (g.1 i) ∙ read_replaced g.0 (types i));
}
