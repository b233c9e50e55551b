use Rattle.std.proofs.Common.{◌∷◌, [], sym, subst, arith}
use Rattle.lq_types_unify.specs.Opens.{IsIn}
use Rattle.lq_types_infer.proofs.InferenceLemmas.Opened.{in_left, in_more}
use Rattle.lq_types_infer.proofs.inference.open.add_places.Goals as goal

pub loop-at-preserved : goal.loop-at-preserved
loop-at-preserved c = record {
  kept = λ j q. subst (λ xs. IsIn xs j) (sym c.in_ok-push.ensures.items) (in_left c.loop-at.places.items (c.loop-at.at ∷ []) j (c.loop-at.invariant.kept j q));
  more = λ j l m. subst (λ xs. IsIn xs j) (sym c.in_ok-push.ensures.items) (in_more c.loop-at.places.items c.loop-at.at j (c.loop-at.invariant.more j l) (omega arith));
}
