use Rattle.std.proofs.Common.{◌∙◌, ap}
use Rattle.lq_logic_predicates.specs.Table.{numbered}
use Rattle.lq_logic_predicates.specs.TableView.{terms_of}
use Rattle.lq_logic_predicates.specs.TermView.{sum_of}
use Rattle.lq_logic_predicates.specs.Again.{sides_again, turned_again}
use Rattle.lq_logic_predicates.specs.Growing.{Extends-same}
use Rattle.lq_logic_predicates.proofs.tightening.compare.Goals as goal

pub read-requires-clause-numbered : goal.read-requires-clause-numbered
read-requires-clause-numbered c =
    sides_again (terms_of c.args.table.now) (terms_of c.number_terms-2.new.table) (sum_of c.args.left.now) (sum_of c.args.right.now)
    (Extends-same _ _ (c.in_ok-number_terms-2.ensures.numbered ∙ ap (λ l. numbered l (sum_of c.args.right.now)) c.in_ok-number_terms.ensures.numbered))

pub read-requires-clause-turned : goal.read-requires-clause-turned
read-requires-clause-turned c =
    turned_again (terms_of c.args.table.now) (terms_of c.number_terms-2.new.table) (sum_of c.args.left.now) (sum_of c.args.right.now)
    (Extends-same _ _ (c.in_ok-number_terms-2.ensures.numbered ∙ ap (λ l. numbered l (sum_of c.args.right.now)) c.in_ok-number_terms.ensures.numbered))
