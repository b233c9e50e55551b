use Rattle.lq_refined_rules.proofs.checks.laws.typed_list_is_checks.Goals as goal

pub returns : goal.returns
returns c = λ P Q A p are h d. c.list_is_checks.ensures P A p (c.typed_is_ready.ensures P Q p are h d)
