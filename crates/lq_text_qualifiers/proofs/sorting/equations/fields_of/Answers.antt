use Rattle.std.proofs.Common.{sym, ap, ◌∙◌, arith}
use Rattle.lq_base_names.specs.declared.name.Name.{Name}
use Rattle.lq_text_tree.specs.PatternView.{pats_view}
use Rattle.lq_text_qualifiers.specs.Faults.Lookups.{first_in}
use Rattle.lq_text_qualifiers.specs.Sorting.Making.{fields_from}
use Rattle.lq_text_qualifiers.specs.Sorting.Views.{seen, variable_view}
use Rattle.lq_text_qualifiers.proofs.SortingLemmas.Fields.{next_field, row_of}
use Rattle.lq_text_qualifiers.proofs.SortingLemmas.Rows.{past}
use Rattle.lq_text_qualifiers.proofs.sorting.equations.fields_of.Goals as goal
use Rattle.lq_text_qualifiers.proofs.sorting.equations.fields_of.Goals.{in-Some+in_ok-add_field, in_default}

pub loop-at-preserved : goal.loop-at-preserved
loop-at-preserved c =
    elim c.match-get.branch [
      | in-Some+in_ok-add_field w ↦
          next_field (row_of c.args.row.now) c.loop-at.at w.in-Some.pattern.now (seen variable_view c.loop-at.fields) (seen variable_view c.match-get.fields)
          (first_in (fields_from 0 (pats_view Name (λ n. n.0) c.args.row.now))) (sym w.in-Some.ensures)
          (λ x. ap (λ t. seen variable_view t x) w.fields-is ∙ w.in_ok-add_field.ensures x)
          c.loop-at.invariant
      | in_default w ↦
          let far = past (row_of c.args.row.now) c.loop-at.at (sym w.in_default.ensures) in
          let less = c.loop-at-test.true in
          let end = c.len-at-end.ensures in
          absurd (omega (arith, far, less, end))
    ]
