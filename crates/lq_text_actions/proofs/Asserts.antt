-- Assertions of `false`.
use Rattle.std.proofs.Common.{◌≡◌, true, false, refl}
use Rattle.lq_text_tree.specs.Tree.{Tree, tree, flag, assert, assert_false}
use Rattle.lq_text_actions.specs.Expressions.{assert_form}
use Rattle.lq_text_actions.specs.Making.{is_false}

pub asserts_false : (t : Tree) → is_false t ≡ true → assert_form t ≡ assert_false
asserts_false (tree n p (flag false)) e = refl
asserts_false _ e = absurd cc

pub asserts_other : (t : Tree) → is_false t ≡ false → assert_form t ≡ assert t
asserts_other (tree n p (flag false)) e = absurd cc
asserts_other _ e = refl
