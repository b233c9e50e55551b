use Rattle.std.proofs.Common.{sym, subst}
use Rattle.lq_logic_predicates.specs.RowMeaning.{numbers_at}
use Rattle.lq_logic_predicates.specs.TableView.{terms_of}
use Rattle.lq_solve_facts.specs.Facts.Read.{IsReadOver}
use Rattle.lq_solve_facts.proofs.facts.known.Known.stand_against_read.Goals as goal

pub returns-in-Some-clause-proved : goal.returns-in-Some-clause-proved
returns-in-Some-clause-proved c = λ b h r p k m.
    let ts = terms_of c.args.self.now.table in
    let v = numbers_at ts p in
    let a = c.rows_say_what_comparisons_say.ensures.valuation ts p in
    c.settle.ensures.refuted b v p (k v a) ((c.in-Some.ensures ts h (subst (λ x. IsReadOver ts x h) (sym c.as_ref.ensures) r) v p a).1 m)
