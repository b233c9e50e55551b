use Rattle.std.proofs.Common.{◌∙◌, sym, subst, FitsSigned, rules}
use Rattle.std.proofs.lemmas.Int.{to_z-of_z}
use Rattle.std.specs.Int.{w128}
use Rattle.lq_logic_predicates.specs.Comparison.{comparison, IsRowOf}
use Rattle.lq_logic_predicates.specs.Reading.{row, Gathers, gathers_row}
use Rattle.lq_logic_predicates.specs.TableView.{terms_of}
use Rattle.lq_logic_predicates.specs.TermView.{sum_of}
use Rattle.lq_logic_predicates.proofs.NnfViews.{view-row}
use Rattle.lq_logic_predicates.proofs.tightening.read_row.Goals as goal

pub returns-clause-reading : goal.returns-clause-reading
returns-clause-reading c =
    let a = sum_of c.args.left.now in let b = sum_of c.args.right.now in
    let k = comparison a b c.args.added c.args.equal in
    let added : FitsSigned w128 c.args.added = search rules in
    subst (λ v. Gathers (terms_of c.args.table.now) (row k) v) (sym (view-row c.in_ok-gather.field-0))
    (subst (λ l. Gathers l (row k) (row c.in_ok-gather.field-0)) (c.in_ok-gather.ensures.numbered ∙ c.requires)
    (gathers_row k c.in_ok-gather.field-0
    (subst (λ n. IsRowOf (terms_of c.gather.new.table) (comparison a b n c.args.equal) c.in_ok-gather.field-0) (to_z-of_z w128 c.args.added added) c.in_ok-gather.ensures.row)))
