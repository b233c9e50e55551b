-- Equations that come by a step a visit say the visits' rules.
use Rattle.std.proofs.Common.{◌≡◌, ℕ, List, [], ◌∷◌, ◌++◌, Option, Some, None, length, refl, sym, ap, subst, ◌∙◌, arith, append_assoc, append-nil}
use Rattle.lq_text_tree.specs.MlType.{MlType}
use Rattle.lq_text_tree.specs.Types.{Signature}
use Rattle.lq_text_tree.specs.Tree.{Tree, tree}
use Rattle.lq_text_walk.specs.Walk.Shape as shape
use Rattle.lq_text_walk.specs.Walk.Shape.{Leaf, Shape, shape_of}
use Rattle.lq_text_walk.specs.Walk.Visits.{Visit, enter_item, leave_item, enter, leave, leave_function, declare, show, hide, show_name, hide_name}
use Rattle.lq_types_rules.specs.declared.equations.system.System.{System}
use Rattle.lq_types_rules.specs.Equations.Adding.{IsFresh}
use Rattle.lq_types_rules.specs.Equations.Solved.{Solves}
use Rattle.lq_types_rules.specs.Typings.Uses.{Known, GeneralUse, none_known, behind, behind_all, use_at, use_at_tree, use_at_shape, use_at_leaf, use_by, before_in}
use Rattle.lq_types_rules.specs.Visits.Owning.{item_behind, AreOwned}
use Rattle.lq_types_infer.specs.Inference.Gathering.{IsComplete, IsSound, AreSteps, StepsSayRules}
use Rattle.lq_types_infer.proofs.InferenceLemmas.Going.{IsGoing}
use Rattle.lq_types_infer.proofs.InferenceLemmas.Stepping.{IsUseOf, going_more, behind_visit, going_sound}

-- ---- the definition of a use is known

use_by_is : (k : Known) (i x : ℕ) (o : Option (List ℕ)) (u : GeneralUse) → before_in k.general x ≡ o → use_by i x o ≡ Some u → IsUseOf k u
use_by_is k i x None u e q = absurd (cc)
use_by_is k i x (Some ps) u e q = same u (some_same (record { node = i; binder = x; before = ps }) u q)
  where
    some_same : (y z : GeneralUse) → Some y ≡ Some z → y ≡ z
    some_same y z r = cc

    same : (y : GeneralUse) → record { node = i; binder = x; before = ps } ≡ y → IsUseOf k y
    same y r = subst (IsUseOf k) r (record { before_is = e })

use_at_leaf_is : (k : Known) (i : ℕ) (h : Leaf) (u : GeneralUse) → use_at_leaf k i h ≡ Some u → IsUseOf k u
use_at_leaf_is k i (shape.use_of x) u e = use_by_is k i x (before_in k.general x) u refl e
use_at_leaf_is k i (shape.whole m) u e = absurd (cc)
use_at_leaf_is k i (shape.flag b) u e = absurd (cc)
use_at_leaf_is k i shape.unit u e = absurd (cc)
use_at_leaf_is k i (shape.qualified m x) u e = absurd (cc)
use_at_leaf_is k i shape.assert_false u e = absurd (cc)
use_at_leaf_is k i shape.map_empty u e = absurd (cc)

use_at_shape_is : (k : Known) (i : ℕ) (h : Shape) (u : GeneralUse) → use_at_shape k i h ≡ Some u → IsUseOf k u
use_at_shape_is k i (shape.leaf h) u e = use_at_leaf_is k i h u e
use_at_shape_is k i (shape.one h a) u e = absurd (cc)
use_at_shape_is k i (shape.two h a b) u e = absurd (cc)
use_at_shape_is k i (shape.three h a b c) u e = absurd (cc)
use_at_shape_is k i (shape.row h ts) u e = absurd (cc)
use_at_shape_is k i (shape.function p b) u e = absurd (cc)
use_at_shape_is k i (shape.let_in p a b) u e = absurd (cc)
use_at_shape_is k i (shape.let_rec f n q p a b) u e = absurd (cc)
use_at_shape_is k i (shape.match_on a as_) u e = absurd (cc)

use_at_tree_is : (k : Known) (t : Tree) (u : GeneralUse) → use_at_tree k t ≡ Some u → IsUseOf k u
use_at_tree_is k (tree i p f) u e = use_at_shape_is k i (shape_of f) u e

pub use_is : (k : Known) (v : Visit) (u : GeneralUse) → use_at k v ≡ Some u → IsUseOf k u
use_is k (leave t) u e = use_at_tree_is k t u e
use_is k (enter_item i) u e = absurd (cc)
use_is k (leave_item i) u e = absurd (cc)
use_is k (enter t) u e = absurd (cc)
use_is k (leave_function r) u e = absurd (cc)
use_is k (declare q) u e = absurd (cc)
use_is k (show q) u e = absurd (cc)
use_is k (hide q) u e = absurd (cc)
use_is k (show_name x) u e = absurd (cc)
use_is k (hide_name x) u e = absurd (cc)

-- ---- the first equations

fresh_solves : (slots : ℕ) (s : System) → IsFresh slots s → (types : ℕ → MlType) → Solves s s.equations.items types
fresh_solves slots s f types = record {
  fits = λ i form e. absurd (let x = f.none i in cc);
  meets = λ k d l. absurd (let x : length s.equations.items ≡ 0 = ap length f.empty in omega arith);
}

going_none : (g : Signature) (nodes slots : ℕ) (owner : ℕ → ℕ) (s : System) → IsFresh slots s → IsGoing g nodes slots owner 0 none_known [] s
going_none g nodes slots owner s f = record {
  system = f.system;
  longer = let x = f.long in omega arith;
  said = λ types o. (types, (λ i l. refl), fresh_solves slots s f types);
  loose = λ t wanted h e. (wanted, (λ i l. refl), fresh_solves slots s f wanted);
  low = λ i e. absurd (cc);
  generals = λ k d l. absurd (omega arith);
  holds = tt;
}

pub known_more : (k : Known) (vs : List Visit) (v : Visit) → behind_all k (vs ++ v ∷ []) ≡ behind (behind_all k vs) v
known_more k [] v = refl
known_more k (w ∷ vs) v = known_more (behind k w) vs v

-- ---- all steps

module _ (g : Signature) (nodes slots : ℕ) (owner : ℕ → ℕ) where
  steps_say : (now : ℕ) (k : Known) (done left : List Visit) (s last : System) → behind_all none_known done ≡ k → IsGoing g nodes slots owner now k done s → AreOwned nodes slots owner now k left
      → AreSteps g nodes k left s last → IsComplete g nodes slots (done ++ left) last × IsSound g nodes (done ++ left) last
  steps_say now k done [] s last e i o q =
      subst (λ vs. IsComplete g nodes slots vs last × IsSound g nodes vs last) (sym (append-nil done))
      (subst (λ t. IsComplete g nodes slots done t × IsSound g nodes done t) (sym q) (i.said, going_sound g nodes slots owner now k done s i))
  steps_say now k done (v ∷ left) s last e i o (next, step, rest) =
      subst (λ vs. IsComplete g nodes slots vs last × IsSound g nodes vs last) (append_assoc done (v ∷ []) left)
      (steps_say (item_behind now v) (behind k v) (done ++ v ∷ []) left next last (known_more none_known done v ∙ ap (λ j. behind j v) e)
      (behind_visit g nodes slots owner now k (done ++ v ∷ []) next (going_more g nodes slots owner now k done v s next e i (use_is k v) o.0 step) v o.0) o.1 rest)

pub say : StepsSayRules
say g nodes slots visits first last f (owner, o) q = steps_say g nodes slots owner 0 none_known [] visits first last refl (going_none g nodes slots owner first f) o q
