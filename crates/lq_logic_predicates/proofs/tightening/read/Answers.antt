use Rattle.std.proofs.Common.{sym, subst}
use Rattle.lq_logic_predicates.specs.NnfView.{nnf_view}
use Rattle.lq_logic_predicates.specs.Reading.{below, apart, Gathers}
use Rattle.lq_logic_predicates.specs.Relation.{relation_reading}
use Rattle.lq_logic_predicates.specs.TableView.{terms_of}
use Rattle.lq_logic_predicates.specs.TermView.{sum_of}
use Rattle.lq_logic_predicates.proofs.Readings.{gathers_either}
use Rattle.lq_logic_predicates.proofs.tightening.read.Goals as goal

pub returns-in_ok-joined-in-Apart-clause-reading : goal.returns-in_ok-joined-in-Apart-clause-reading
returns-in_ok-joined-in-Apart-clause-reading c =
    let a = sum_of c.args.left.now in let b = sum_of c.args.right.now in let terms = terms_of c.args.table.now in
    let first = nnf_view c.in_ok-first-in-Apart.first in let second = nnf_view c.in_ok-second-in-Apart.second in
    subst (λ r. Gathers terms (relation_reading r a b) (nnf_view c.in_ok-joined-in-Apart.field-0)) (sym c.in-Apart.is)
    (subst (λ v. Gathers terms (apart a b) v) (sym c.in_ok-joined-in-Apart.ensures)
    (gathers_either terms (below a b) (below b a) first second c.in_ok-first-in-Apart.ensures.reading
    (subst (λ l. Gathers l (below b a) second) c.in_ok-first-in-Apart.ensures.same c.in_ok-second-in-Apart.ensures.reading)))
