use Rattle.std.proofs.Common.{sym, ap, ◌∙◌}
use mathlib.Core.Path.{fun_ext}
use Rattle.std.specs.Option.{option_map}
use Rattle.lq_base_names.specs.declared.name.Name.{Name}
use Rattle.lq_text_tree.specs.PatternView.{pats_view}
use Rattle.lq_text_qualifiers.specs.Faults.Equations.{fields_of, fields_form, fields_made}
use Rattle.lq_text_qualifiers.specs.Faults.Lookups.{first_in}
use Rattle.lq_text_qualifiers.specs.Faults.Views.{made_view}
use Rattle.lq_text_qualifiers.proofs.FaultsLemmas.Fields.{built_seen, pattern_seen}
use Rattle.lq_text_qualifiers.proofs.faults.equations.variables_of.Goals as goal

pub returns-in_ok-fields-in-Some : goal.returns-in_ok-fields-in-Some
returns-in_ok-fields-in-Some c = λ ds is.
    let known = ap (option_map made_view) (sym c.in-Some.is ∙ c.get.ensures) ∙ ap (λ f. f c.in-Build.name.0) is in
    c.in_ok-fields-in-Some.ensures
    ∙ ap first_in (ap (λ o. fields_made o (pats_view Name (λ n. n.0) c.in-Build.row)) known ∙ sym (ap (fields_of ds) (pattern_seen c.args.pattern.now)
    ∙ ap (fields_form ds) (built_seen c.args.pattern.now.node c.in-Build.name _ c.in-Build.row c.in-Build.is)))

pub returns-in-None : goal.returns-in-None
returns-in-None c = λ ds is.
    let known = ap (option_map made_view) (sym c.in-None.is ∙ c.get.ensures) ∙ ap (λ f. f c.in-Build.name.0) is in
    fun_ext (λ x. ap (option_map Rattle.lq_text_qualifiers.specs.Faults.Views.shape_view) (c.new.ensures x))
    ∙ ap first_in (ap (λ o. fields_made o (pats_view Name (λ n. n.0) c.in-Build.row)) known ∙ sym (ap (fields_of ds) (pattern_seen c.args.pattern.now)
    ∙ ap (fields_form ds) (built_seen c.args.pattern.now.node c.in-Build.name _ c.in-Build.row c.in-Build.is)))
