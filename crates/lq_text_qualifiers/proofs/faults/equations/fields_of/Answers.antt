use Rattle.std.proofs.Common.{sym, ap, ◌∙◌, arith}
use Rattle.lq_base_names.specs.declared.name.Name.{Name}
use Rattle.lq_text_tree.specs.PatternView.{pats_view}
use Rattle.lq_text_qualifiers.specs.Faults.Equations.{bound_at, fields_in}
use Rattle.lq_text_qualifiers.specs.Faults.Lookups.{first_in, or_else}
use Rattle.lq_text_qualifiers.specs.Faults.Views.{fields_view, seen, shape_view}
use Rattle.lq_text_qualifiers.proofs.FaultsLemmas.Fields.{next_field, row_of, seen_pattern}
use Rattle.lq_text_qualifiers.proofs.FaultsLemmas.Rows.{past}
use Rattle.lq_text_qualifiers.proofs.faults.equations.fields_of.Goals as goal
use Rattle.lq_text_qualifiers.proofs.faults.equations.fields_of.Goals.{in-Some+in_ok-add_field, in_default}

pub loop-at-preserved : goal.loop-at-preserved
loop-at-preserved c =
    elim c.match-get.branch [
      | in-Some+in_ok-add_field w ↦
          next_field (fields_view c.args.made.now.fields) (row_of c.args.row.now) c.loop-at.at w.in-Some.pattern.now (seen shape_view c.loop-at.fields) (seen shape_view c.match-get.fields)
          (first_in (fields_in 0 (fields_view c.args.made.now.fields) (pats_view Name (λ n. n.0) c.args.row.now))) (sym w.in-Some.ensures)
          (λ x. ap (λ t. seen shape_view t x) w.fields-is ∙ w.in_ok-add_field.ensures x
          ∙ ap (λ a. or_else (seen shape_view c.loop-at.fields x) (first_in (bound_at (seen_pattern w.in-Some.pattern.now) a) x)) w.shape_at.ensures)
          c.loop-at.invariant
      | in_default w ↦
          let far = past (row_of c.args.row.now) c.loop-at.at (sym w.in_default.ensures) in
          let less = c.loop-at-test.true in
          let end = c.len-at-end.ensures in
          absurd (omega (arith, far, less, end))
    ]
