use Rattle.std.proofs.Common.{ap, ◌∙◌}
use Rattle.lq_logic_predicates.specs.Table.{has_term}
use Rattle.lq_logic_predicates.specs.TableView.{terms_of}
use Rattle.lq_logic_predicates.specs.TermView.{sum_of}
use Rattle.lq_logic_predicates.specs.Numbering.{has_term-with_term}
use Rattle.lq_logic_predicates.proofs.Forms.{one_form}
use Rattle.lq_logic_predicates.proofs.gathering.atom.Goals as goal

pub returns-clause-form : goal.returns-clause-form
returns-clause-form c =
    let s = sum_of c.args.term.now in
    one_form (terms_of c.number.new.self) c.in_ok-of_number.field-0 s c.in_ok-number.number
    (ap (λ l. has_term l s) c.in_ok-number.ensures.added ∙ has_term-with_term (terms_of c.args.table.now) s)
    c.in_ok-number.ensures.number c.in_ok-of_number.ensures.constant c.in_ok-of_number.ensures.coefficients c.in_ok-of_number.ensures.fit
