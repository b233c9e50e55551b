-- Definitions in normal form are scalar where their matches have arms, and what they define is a value or has a type without variables.
use Rattle.std.proofs.Common.{List, [], ◌∷◌}
use Rattle.lq_meaning_normal_form.specs.Types.Written.{EachBody}
use Rattle.lq_refined_templates.specs.Points.Annotation.{Annotation}
use Rattle.lq_sound_readiness.specs.Reading.Normal.{IsPure, pure_whole, pure_flag, pure_unit, pure_use, pure_arithmetic, pure_negated, pure_compare, pure_not, pure_and, pure_or, pure_length, ArePure, no_pure, more_pure, IsUse, is_use, IsBlock, block_let, block_let_rec, block_operation, IsOperation, is_pure, is_fun, is_if, is_match, is_tuple, is_build, is_call, is_quotient, is_remainder, is_assert, is_assert_false, is_make, is_fetch, is_store, is_print, is_read, AreArms, no_arms, more_arms, IsItem, item_type, item_name, item_any, item_unit, item_function, AreNormal}
use Rattle.lq_sound_scope.specs.Scalars.Scalar.{AreScalarCases, AreScalarTrees, IsScalarItem, IsScalarProgram, IsScalarTree}
use Rattle.lq_sound_scope.specs.Values.Arms.{HasArms, HaveArms, ItemHasArms, arming}
use Rattle.lq_sound_scope.specs.Values.Settled.{AreSettled, ItemIsSettled}
use Rattle.lq_text_tree.specs.Items.{ItemTree, ItemForm}
use Rattle.lq_text_tree.specs.Tree.{Tree, Trees, Cases}
use Rattle.lq_text_walk.specs.Walk.Fold.{fold_cases}

module _ (n : Annotation) where
  pure_formed : {e : Tree} → IsPure e → IsScalarTree n e
  pure_formed pure_whole = tt
  pure_formed pure_flag = tt
  pure_formed pure_unit = tt
  pure_formed pure_use = tt
  pure_formed (pure_arithmetic r p q) = (pure_formed p, pure_formed q)
  pure_formed (pure_negated p) = pure_formed p
  pure_formed (pure_compare p q) = (pure_formed p, pure_formed q)
  pure_formed (pure_not p) = pure_formed p
  pure_formed (pure_and p q) = (pure_formed p, pure_formed q)
  pure_formed (pure_or p q) = (pure_formed p, pure_formed q)
  pure_formed (pure_length p) = pure_formed p

  pures_formed : {es : Trees} → ArePure es → AreScalarTrees n es
  pures_formed no_pure = tt
  pures_formed (more_pure p ps) = (pure_formed p, pures_formed ps)

  use_formed : {e : Tree} → IsUse e → IsScalarTree n e
  use_formed is_use = tt

  mutual
    block_formed : {e : Tree} → IsBlock e → HasArms e → IsScalarTree n e
    block_formed (block_let m f r) h = (operation_formed f h.0, block_formed r h.1)
    block_formed (block_let_rec m r z) h = (block_formed r h.0, block_formed z h.1)
    block_formed (block_operation f) h = operation_formed f h

    operation_formed : {e : Tree} → IsOperation e → HasArms e → IsScalarTree n e
    operation_formed (is_pure p) h = pure_formed p
    operation_formed (is_fun m r) h = block_formed r h
    operation_formed (is_if p r z) h = (pure_formed p, block_formed r h.1, block_formed z h.2)
    operation_formed (is_match p no_arms) h = absurd h.1
    operation_formed (is_match p (more_arms f r z)) h = (use_formed p, (block_formed r h.1.0, arms_formed z h.1.1))
    operation_formed (is_tuple p) h = pures_formed p
    operation_formed (is_build p) h = pures_formed p
    operation_formed (is_call p q) h = (pure_formed p, pure_formed q)
    operation_formed (is_quotient p q) h = (pure_formed p, pure_formed q)
    operation_formed (is_remainder p q) h = (pure_formed p, pure_formed q)
    operation_formed (is_assert p) h = pure_formed p
    operation_formed is_assert_false h = tt
    operation_formed (is_make p q) h = (pure_formed p, pure_formed q)
    operation_formed (is_fetch p q) h = (use_formed p, pure_formed q)
    operation_formed (is_store p q r) h = (use_formed p, pure_formed q, pure_formed r)
    operation_formed (is_print p) h = pure_formed p
    operation_formed (is_read p) h = pure_formed p

    arms_formed : {cs : Cases} → AreArms cs → EachBody (fold_cases arming cs) → AreScalarCases n cs
    arms_formed no_arms h = tt
    arms_formed (more_arms f r z) h = (block_formed r h.0, arms_formed z h.1)

  item_formed : {i : ItemForm} → IsItem i → ItemHasArms i → ItemIsSettled n i → IsScalarItem n i
  item_formed item_type h s = tt
  item_formed (item_name r) h s = (block_formed r h, s)
  item_formed (item_any r) h s = (block_formed r h, s)
  item_formed (item_unit r) h s = (block_formed r h, s)
  item_formed (item_function m r) h s = block_formed r h

  pub formed : (is : List ItemTree) → AreNormal is → HaveArms is → AreSettled n is → IsScalarProgram n is
  formed [] m h s = tt
  formed (i ∷ is) m h s = (item_formed m.0 h.0 s.0, formed is m.1 h.1 s.1)
