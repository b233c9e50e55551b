-- What facts say of two objects is said of their numbers.
use Rattle.std.proofs.Common.{◌≡◌, inl, inr, ℕ, List, [], ◌∷◌, ◌++◌, Bool, Some, slice_get, refl, sym, subst}
use Rattle.lq_prover_proof_tree.specs.Trees.Path.{Fact, row_fact, flag_fact, objects_fact, never}
use Rattle.lq_prover_case.specs.Objects.Joined.{Says}
use Rattle.lq_prover_case.specs.declared.objects.fact.ObjectFact.{ObjectFact}
use Rattle.lq_logic_predicates.specs.Sum.{Sum}
use Rattle.lq_prover_case.specs.Equations.Naming.{AllTold, IsTold, IsToldOf, SaysMore}
use Rattle.lq_prover_case.proofs.EquationsLemmas.Sides.{push_each}

says_more : (fs : List ObjectFact) (g : ObjectFact) (a b t : ℕ) (one : Bool) → Says fs a b one t → Says (fs ++ g ∷ []) a b one t
says_more [] g a b t one h = absurd h
says_more (f ∷ fs) g a b t one (inl e) = inl e
says_more (f ∷ fs) g a b t one (inr h) = inr (says_more fs g a b t one h)

says_last : (fs : List ObjectFact) (g : ObjectFact) → Says (fs ++ g ∷ []) g.left g.right g.one g.number
says_last [] g = inl refl
says_last (f ∷ fs) g = inr (says_last fs g)

pub more_same : (old new : List ObjectFact) → new ≡ old → SaysMore old new
more_same old new e = subst (SaysMore old) (sym e) (λ a b t one h. h)

pub more_push : (old new : List ObjectFact) (g : ObjectFact) → new ≡ old ++ g ∷ [] → SaysMore old new
more_push old new g e = subst (SaysMore old) (sym e) (λ a b t one h. says_more old g a b t one h)

pub told_push : (objects : List Sum) (old new : List ObjectFact) (g : ObjectFact) (x y : Sum) → new ≡ old ++ g ∷ [] → slice_get objects g.left ≡ Some x → slice_get objects g.right ≡ Some y
    → IsToldOf objects new x y g.one
told_push objects old new g x y e l r =
    record { left = g.left; right = g.right; number = g.number; is_left = l; is_right = r; says = subst (λ fs. Says fs g.left g.right g.one g.number) (sym e) (says_last old g) }

told_still : (objects : List Sum) (old new : List ObjectFact) (f : Fact) → SaysMore old new → IsTold objects old f → IsTold objects new f
told_still objects old new (row_fact r) m h = tt
told_still objects old new (flag_fact x value) m h = tt
told_still objects old new (objects_fact a b one) m h =
    record { left = h.left; right = h.right; number = h.number; is_left = h.is_left; is_right = h.is_right; says = m h.left h.right h.number one h.says }
told_still objects old new never m h = tt

pub all_told_push : (objects : List Sum) (old new : List ObjectFact) (fs : List Fact) (f : Fact) → SaysMore old new → AllTold objects old fs → IsTold objects new f → AllTold objects new (fs ++ f ∷ [])
all_told_push objects old new fs f m h n = λ k g e. push_each (IsTold objects new) fs f g k (λ j z q. told_still objects old new z m (h j z q)) n e

pub all_told_none : (objects : List Sum) (about : List ObjectFact) → AllTold objects about []
all_told_none objects about k f e = cc
