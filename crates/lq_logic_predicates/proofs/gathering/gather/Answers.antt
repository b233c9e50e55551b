use Rattle.std.proofs.Common.{◌∙◌, IsErrOf, FitsSigned, rules}
use Rattle.std.proofs.lemmas.Int.{to_z-of_z}
use Rattle.std.specs.Int.{w128}
use Rattle.lq_logic_predicates.specs.Comparison.{comparison}
use Rattle.lq_logic_predicates.specs.TableView.{terms_of}
use Rattle.lq_logic_predicates.specs.TermView.{sum_of}
use Rattle.lq_logic_predicates.specs.declared.error.GatherError.TheVariants.{Past}
use Rattle.lq_logic_predicates.proofs.Forms.{row_from_forms, can_from_forms, can_merge}
use Rattle.lq_logic_predicates.proofs.Merging.{plain_constant}
use Rattle.lq_logic_predicates.proofs.gathering.gather.Goals as goal

pub returns-in_err-merge-clause-past : goal.returns-in_err-merge-clause-past
returns-in_err-merge-clause-past c = λ e can.
    let past : IsErrOf c.merge.result Past = search rules in
    c.merge.ensures.past past
    (can_merge (terms_of c.form.new.table) (terms_of c.form-2.new.table) c.in_ok-first.first c.in_ok-second.second
    (comparison (sum_of c.args.left.now) (sum_of c.args.right.now) c.args.added c.args.equal) c.form-2.new.table.distinct
    c.in_ok-first.ensures.form c.in_ok-second.ensures.grows c.in_ok-second.ensures.form can)

pub returns-clause-row : goal.returns-clause-row
returns-clause-row c =
    let added : FitsSigned w128 c.args.added = search rules in
    let k = plain_constant c.in_ok-first.first.constant c.in_ok-second.second.constant c.args.added c.in-Some.constant
    c.in_ok-first.ensures.form.constant_fits c.in_ok-second.ensures.form.constant_fits added (c.in-Some.ensures).0 (c.in-Some.ensures).1 in
    row_from_forms (terms_of c.form.new.table) (terms_of c.form-2.new.table) c.in_ok-first.first c.in_ok-second.second
    (comparison (sum_of c.args.left.now) (sum_of c.args.right.now) c.args.added c.args.equal) c.merge.new.into c.in_ok-row_of.field-0
    c.in_ok-first.ensures.form c.in_ok-second.ensures.grows c.in_ok-second.ensures.form c.in_ok-merge.ensures.combined
    c.in_ok-row_of.ensures.formed (c.in_ok-row_of.ensures.constant ∙ to_z-of_z w128 c.in-Some.constant k.0 ∙ k.1) c.in_ok-row_of.ensures.equal c.in_ok-row_of.ensures.coefficients

pub returns-clause-can : goal.returns-clause-can
returns-clause-can c =
    let added : FitsSigned w128 c.args.added = search rules in
    let k = plain_constant c.in_ok-first.first.constant c.in_ok-second.second.constant c.args.added c.in-Some.constant
    c.in_ok-first.ensures.form.constant_fits c.in_ok-second.ensures.form.constant_fits added (c.in-Some.ensures).0 (c.in-Some.ensures).1 in
    can_from_forms (terms_of c.form.new.table) (terms_of c.form-2.new.table) c.in_ok-first.first c.in_ok-second.second
    (comparison (sum_of c.args.left.now) (sum_of c.args.right.now) c.args.added c.args.equal) c.merge.new.into c.in-Some.constant
    c.in_ok-first.ensures.form c.in_ok-second.ensures.grows c.in_ok-second.ensures.form c.in_ok-merge.ensures.combined c.in_ok-merge.ensures.fit
    c.in_ok-first.ensures.fit c.in_ok-second.ensures.fit k.0 k.1
