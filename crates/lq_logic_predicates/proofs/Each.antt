-- The terms of predicates in a row, one more at a time.
use Rattle.std.proofs.Common.{◌≡◌, ◌+◌, ◌<◌, length, List, [], ◌∷◌, ◌++◌, map, take, get_or, refl, ap, ◌∙◌, ℕ}
use Rattle.std.proofs.lemmas.List.{take_more, map_push}
use Rattle.lq_logic_predicates.specs.Sum.{Sum}
use Rattle.lq_logic_predicates.specs.Formula.{Formula}
use Rattle.lq_logic_predicates.specs.Reading.{formula_numbered}
use Rattle.lq_logic_predicates.specs.ClosedImplication.{each_numbered}
use Rattle.lq_logic_predicates.specs.PredView.{formula_of}
use Rattle.lq_logic_predicates.specs.declared.pred.Pred.{Pred}

each_numbered-push : (terms : List Sum) (ps : List Formula) (p : Formula) → each_numbered terms (ps ++ p ∷ []) ≡ formula_numbered (each_numbered terms ps) p
each_numbered-push terms [] p = refl
each_numbered-push terms (q ∷ ps) p = each_numbered-push (formula_numbered terms q) ps p

pub each_numbered-more : (terms : List Sum) (preds : List Pred) (i : ℕ) (d : Pred) → i < length preds
    → each_numbered terms (map formula_of (take (i + 1) preds)) ≡ formula_numbered (each_numbered terms (map formula_of (take i preds))) (formula_of (get_or preds i d))
each_numbered-more terms preds i d h =
    ap (λ l. each_numbered terms (map formula_of l)) (take_more preds i d h) ∙ ap (each_numbered terms) (map_push formula_of (take i preds) (get_or preds i d))
    ∙ each_numbered-push terms (map formula_of (take i preds)) (formula_of (get_or preds i d))
