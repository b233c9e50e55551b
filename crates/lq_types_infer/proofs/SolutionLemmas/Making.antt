-- Types made by heads while they are inferred, and by heads of a table.
use Rattle.std.proofs.Common.{◌≡◌, ℕ, refl}
use Rattle.lq_text_tree.specs.MlType.{MlTypes}
use Rattle.lq_types_unify.specs.declared.arena.Head.{Head}
use Rattle.lq_types_unify.specs.declared.arena.Head.TheVariants as from
use Rattle.lq_types_rules.specs.Equations.Solutions as rules
use Rattle.lq_types_rules.specs.Equations.Adding as adding
use Rattle.lq_types_table.specs.Heads as table
use Rattle.lq_types_infer.specs.Solution.Heads.{head_of}

pub made_as : (h : Head) (ts : MlTypes) → table.made (head_of h) ts ≡ rules.made h ts
made_as from.Whole ts = refl
made_as from.Flag ts = refl
made_as from.Unit ts = refl
made_as from.Arrow ts = refl
made_as from.Tuple ts = refl
made_as from.Array ts = refl
made_as from.Map ts = refl
made_as (from.Named d) ts = refl

pub right_as : (h : Head) (n : ℕ) → adding.IsRight h n → table.IsRight (head_of h) n
right_as from.Whole n r k e = cc
right_as from.Flag n r k e = cc
right_as from.Unit n r k e = cc
right_as from.Arrow n r k e = cc
right_as from.Tuple n r k e = absurd (cc)
right_as from.Array n r k e = cc
right_as from.Map n r k e = cc
right_as (from.Named d) n r k e = absurd (cc)
