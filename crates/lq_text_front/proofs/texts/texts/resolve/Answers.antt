use Rattle.std.proofs.Common.{List, map, inr, refl, sym, ap, ◌∙◌}
use Rattle.lq_text_walk.specs.Scoped.Scoping.{Scoping}
use Rattle.lq_text_walk.specs.Scoped.Signature.{DataTree}
use Rattle.lq_text_datatypes.specs.Datatypes.{datatypes_in}
use Rattle.lq_text_tree.specs.Texts.{measures_view, program_view, quals_view}
use Rattle.lq_text_qualifiers.specs.Faults.Complaints.{least}
use Rattle.lq_text_qualifiers.specs.Faults.Equations.{of_measures}
use Rattle.lq_text_qualifiers.specs.Faults.Qualifiers.{of_qualifiers}
use Rattle.lq_text_qualifiers.specs.Faults.Views.{complaint_view, found_view}
use Rattle.lq_text_resolve.specs.Resolution.Resolution.{scoping_of}
use Rattle.lq_text_qualifiers.specs.Sorting.Making.{measures_made}
use Rattle.lq_text_qualifiers.specs.Sorting.Views.{measure_view, qualifier_view}
use Rattle.lq_text_front.specs.Texts.Resolution.{in_measures, in_qualifiers, texts}
use Rattle.lq_text_front.proofs.TextsLemmas.Resolutions.{none_told}
use Rattle.lq_text_front.proofs.texts.texts.resolve.Goals as goal

pub returns-in-Some-clause-told : goal.returns-in-Some-clause-told
returns-in-Some-clause-told c =
    let names = c.args.names.now in
    let ms = measures_view c.args.measures.now in
    let bound = c.in_ok-program.ensures.bound in
    let ds = c.datatypes-datatypes.ensures ∙ ap (λ (s : Scoping). s.datatypes) bound.1 in
    let told = sym (ap (λ (l : List DataTree). least (of_measures names l ms)) ds) ∙ sym c.in_ok-complaint.ensures ∙ ap found_view c.in-Some.is in
    inr (in_measures (complaint_view c.in-Some.complaint), refl, (bound.0, told))

pub returns-in-Some-2-clause-told : goal.returns-in-Some-2-clause-told
returns-in-Some-2-clause-told c =
    let names = c.args.names.now in
    let ms = measures_view c.args.measures.now in
    let qs = quals_view c.args.quals.now in
    let bound = c.in_ok-program.ensures.bound in
    let ds = c.datatypes-datatypes.ensures ∙ ap (λ (s : Scoping). s.datatypes) bound.1 in
    let no_measures =
    none_told (of_measures names (datatypes_in (program_view c.args.program.now)) ms)
    (sym (ap (λ (l : List DataTree). least (of_measures names l ms)) ds) ∙ sym c.in_ok-complaint.ensures ∙ ap found_view c.in_default.is)
    in
    let told = sym (ap (λ (l : List DataTree). least (of_qualifiers names l ms qs)) ds) ∙ sym c.in_ok-complaint-2.ensures ∙ ap found_view c.in-Some-2.is in
    inr (in_qualifiers (complaint_view c.in-Some-2.complaint), refl, (bound.0, no_measures, told))

pub returns-clause-resolved : goal.returns-clause-resolved
returns-clause-resolved c =
    let names = c.args.names.now in
    let is = program_view c.args.program.now in
    let ms = measures_view c.args.measures.now in
    let qs = quals_view c.args.quals.now in
    let bound = c.in_ok-program.ensures.bound in
    let ds = c.datatypes-datatypes.ensures ∙ ap (λ (s : Scoping). s.datatypes) bound.1 in
    let no_measures =
    none_told (of_measures names (datatypes_in is) ms)
    (sym (ap (λ (l : List DataTree). least (of_measures names l ms)) ds) ∙ sym c.in_ok-complaint.ensures ∙ ap found_view c.in_default.is)
    in
    let no_qualifiers =
    none_told (of_qualifiers names (datatypes_in is) ms qs)
    (sym (ap (λ (l : List DataTree). least (of_qualifiers names l ms qs)) ds) ∙ sym c.in_ok-complaint-2.ensures ∙ ap found_view c.in_default-2.is)
    in
    let made = map measure_view c.in_ok-bound.bound.items in
    let qualifiers = map qualifier_view c.in_ok-qualifiers.qualifiers.items in (
      bound.0,
      no_measures,
      no_qualifiers,
      ap (λ s. texts s made qualifiers) bound.1 ∙ ap (λ l. texts (scoping_of names is) l qualifiers) (c.in_ok-bound.ensures ∙ ap (λ (l : List DataTree). measures_made l ms) ds)
          ∙ ap (λ l. texts (scoping_of names is) (measures_made (datatypes_in is) ms) l) c.in_ok-qualifiers.ensures,
    )
