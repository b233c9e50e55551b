use Rattle.std.proofs.Common.{◌≤◌, [], IfErr, length, map, refl, sym, ap, subst, ◌∙◌}
use Rattle.std.proofs.lemmas.Result.{err_from_is_err_and}
use Rattle.lq_types_infer.specs.Annotation.Whole as annotated
use Rattle.lq_refined_rules.specs.Checks.Listing.{implications_of}
use Rattle.lq_refined_rules.specs.Checks.Ready.{IsReady}
use Rattle.lq_generate_implications.specs.Generate.Refusing as generate
use Rattle.lq_refined_instances.specs.Instances.{all_instances_of, total_count}
use Rattle.lq_refined_instances.specs.Views.{measure_name}
use Rattle.lq_meaning_normalize.specs.Normalize.Made.{normal_view}
use Rattle.lq_generate_reading.specs.Notes.Noted.{annotation_of}
use Rattle.lq_refined_templates.specs.Programs.BlockView.{program_view}
use Rattle.lq_refined_subtyping.specs.Table.Growing.{Extends-trans}
use Rattle.lq_refined_subtyping.specs.Table.Whole.{Grows}
use Rattle.lq_text_walk.specs.Scoped.Views.{data_view}
use Rattle.lq_refined_copies.specs.Views.{shared_view}
use Rattle.lq_text_qualifiers.specs.Sorting.Views.{measure_view, qualifier_view}
use Rattle.lq_refined_substitution.specs.Substitution.Views.{scopes_view}
use Rattle.lq_generate_problem.specs.Posed.{basis_for, datatypes_of, read_of, unknowns_for}
use Rattle.lq_generate_problem.specs.Refusing.{IsRefused}
use Rattle.lq_generate_problem.proofs.Refused.{refused_as, refused_by_count}
use Rattle.lq_generate_problem.proofs.Standing.{basis_stands, basis_there, declared_same, rows_below, rows_kept, scopes_same, IsMadeFor}
use Rattle.lq_generate_problem.proofs.problem.pose.Goals as goal

pub generate-requires-clause-there : goal.generate-requires-clause-there
generate-requires-clause-there c =
    let m = c.args.noted.now in
    let s = annotated.program_of m.program.annotated in
    let ms = map measure_view c.args.measures.now in
    let n = annotation_of m in
    let is = (normal_view c.args.normal.now).items in
    let t = c.in_ok-program.field-0.templates in
    let rows = c.in_ok-program.field-0.rows.items in
    let D = datatypes_of s.datatypes ms in
    let made : IsMadeFor s.datatypes ms n is t rows = record {
      templates_are = λ S. c.in_ok-program.ensures.templates D refl refl S;
      unknowns_are = c.in_ok-program.ensures.unknowns D refl refl;
      there = c.in_ok-program.ensures.there;
    } in
    let types = c.declare.new.types in
    let grows : Grows t.types types = subst (λ o. Grows o types) c.into_parts-types.ensures.types c.declare.ensures.grows in
    basis_there s.datatypes ms n is t rows made _ types grows c.deref.ensures.value c.in_ok-known.ensures.there

pub generate-requires-clause-ready : goal.generate-requires-clause-ready
generate-requires-clause-ready c =
    let m = c.args.noted.now in
    let s = annotated.program_of m.program.annotated in
    let ms = map measure_view c.args.measures.now in
    let n = annotation_of m in
    let is = (normal_view c.args.normal.now).items in
    let t = c.in_ok-program.field-0.templates in
    let rows = c.in_ok-program.field-0.rows.items in
    let D = datatypes_of s.datatypes ms in
    let made : IsMadeFor s.datatypes ms n is t rows = record {
      templates_are = λ S. c.in_ok-program.ensures.templates D refl refl S;
      unknowns_are = c.in_ok-program.ensures.unknowns D refl refl;
      there = c.in_ok-program.ensures.there;
    } in
    let types = c.declare.new.types in
    let grows : Grows t.types types = subst (λ o. Grows o types) c.into_parts-types.ensures.types c.declare.ensures.grows in
    let scopes = scopes_same s.datatypes ms n is t rows made c.into_parts-types.result.1 (scopes_view c.in_ok-scopes.scopes) c.into_parts-types.ensures.unknowns c.in_ok-scopes.ensures in
    let same =
    c.datatypes-datatypes.ensures ∙ ap (λ r. r.datatypes) (c.scoped.ensures.program ∙ ap annotated.program_of (c.annotated.ensures ∙ ap (λ i. i.annotated) c.program.ensures)) in
    let ds = map data_view c.datatypes-datatypes.result.now in
    let known = c.in_ok-known.ensures in
    let declared =
    declared_same ds s.datatypes ms _ types same c.requires.differ
    (λ h. record { fields = known.fields h; constructors = known.constructors; equations = known.equations h }) in
    let stands = basis_stands s.datatypes ms n is t rows made _ types grows c.deref.ensures.value scopes declared in
    let P = basis_for s.datatypes ms n is in
    (P, stands, subst (IsReady P []) (sym (ap program_view c.deref-2.ensures.value ∙ c.in_ok-program.ensures.program)) c.requires.ready)

pub returns-in_err-found-clause-refused : goal.returns-in_err-found-clause-refused
returns-in_err-found-clause-refused c =
    let m = c.args.noted.now in
    let s = annotated.program_of m.program.annotated in
    let ms = map measure_view c.args.measures.now in
    let n = annotation_of m in
    let is = (normal_view c.args.normal.now).items in
    let t = c.in_ok-program.field-0.templates in
    let rows = c.in_ok-program.field-0.rows.items in
    let D = datatypes_of s.datatypes ms in
    let made : IsMadeFor s.datatypes ms n is t rows = record {
      templates_are = λ S. c.in_ok-program.ensures.templates D refl refl S;
      unknowns_are = c.in_ok-program.ensures.unknowns D refl refl;
      there = c.in_ok-program.ensures.there;
    } in
    let qs = map qualifier_view c.args.qualifiers.now in
    let us = unknowns_for s.datatypes ms n is in
    let all = implications_of (basis_for s.datatypes ms n is) [] (read_of n is) in
    let p = err_from_is_err_and c.from_residual-in_err-found.result c.from_residual-in_err-found.ensures.1 in
    let refused =
    refused_by_count qs _ us all c.in_err-found.field-0.0 (ap shared_view c.into_parts-types.ensures.unknowns ∙ made.unknowns_are)
    c.in_err-found.ensures.past in
    subst (λ r. IfErr r (IsRefused qs us all)) (sym p.1) (subst (IsRefused qs us all) (sym p.2) refused)

pub returns-in_err-generated-clause-refused : goal.returns-in_err-generated-clause-refused
returns-in_err-generated-clause-refused c =
    let m = c.args.noted.now in
    let s = annotated.program_of m.program.annotated in
    let ms = map measure_view c.args.measures.now in
    let n = annotation_of m in
    let is = (normal_view c.args.normal.now).items in
    let t = c.in_ok-program.field-0.templates in
    let rows = c.in_ok-program.field-0.rows.items in
    let D = datatypes_of s.datatypes ms in
    let made : IsMadeFor s.datatypes ms n is t rows = record {
      templates_are = λ S. c.in_ok-program.ensures.templates D refl refl S;
      unknowns_are = c.in_ok-program.ensures.unknowns D refl refl;
      there = c.in_ok-program.ensures.there;
    } in
    let types = c.declare.new.types in
    let grows : Grows t.types types = subst (λ o. Grows o types) c.into_parts-types.ensures.types c.declare.ensures.grows in
    let scopes = scopes_same s.datatypes ms n is t rows made c.into_parts-types.result.1 (scopes_view c.in_ok-scopes.scopes) c.into_parts-types.ensures.unknowns c.in_ok-scopes.ensures in
    let same =
    c.datatypes-datatypes.ensures ∙ ap (λ r. r.datatypes) (c.scoped.ensures.program ∙ ap annotated.program_of (c.annotated.ensures ∙ ap (λ i. i.annotated) c.program.ensures)) in
    let ds = map data_view c.datatypes-datatypes.result.now in
    let known = c.in_ok-known.ensures in
    let declared =
    declared_same ds s.datatypes ms _ types same c.requires.differ
    (λ h. record { fields = known.fields h; constructors = known.constructors; equations = known.equations h }) in
    let stands = basis_stands s.datatypes ms n is t rows made _ types grows c.deref.ensures.value scopes declared in
    let P = basis_for s.datatypes ms n is in
    let p = err_from_is_err_and c.from_residual-in_err-generated.result c.from_residual-in_err-generated.ensures.1 in
    let qs = map qualifier_view c.args.qualifiers.now in
    let us = unknowns_for s.datatypes ms n is in
    let all = implications_of P [] (read_of n is) in
    let within =
    subst (λ l. total_count qs l ≤ 262144) (ap shared_view c.into_parts-types.ensures.unknowns ∙ made.unknowns_are) c.in_ok-found.ensures.within in
    let e = c.in_err-generated.field-0.0 in
    let same_program = ap program_view c.deref-2.ensures.value ∙ c.in_ok-program.ensures.program in
    let refused = subst (λ q. generate.IsRefused (implications_of P [] q) e) same_program (c.in_err-generated.ensures.refused P stands) in
    subst (λ r. IfErr r (IsRefused qs us all)) (sym p.1) (subst (IsRefused qs us all) (sym p.2) (refused_as qs us all e within refused))

pub returns-clause-templates : goal.returns-clause-templates
returns-clause-templates c S =
    let m = c.args.noted.now in
    let s = annotated.program_of m.program.annotated in
    let ms = map measure_view c.args.measures.now in
    let n = annotation_of m in
    let is = (normal_view c.args.normal.now).items in
    let t = c.in_ok-program.field-0.templates in
    let rows = c.in_ok-program.field-0.rows.items in
    let D = datatypes_of s.datatypes ms in
    let made : IsMadeFor s.datatypes ms n is t rows = record {
      templates_are = λ S. c.in_ok-program.ensures.templates D refl refl S;
      unknowns_are = c.in_ok-program.ensures.unknowns D refl refl;
      there = c.in_ok-program.ensures.there;
    } in
    let types = c.declare.new.types in
    let grows : Grows t.types types = subst (λ o. Grows o types) c.into_parts-types.ensures.types c.declare.ensures.grows in
    let last = c.in_ok-generated.generated.types in
    let grown = Extends-trans t.types.rows.items types.rows.items last.rows.items grows c.in_ok-generated.ensures.grows in
    rows_kept S t last rows grown made.there ∙ made.templates_are S

pub returns-clause-there : goal.returns-clause-there
returns-clause-there c =
    let m = c.args.noted.now in
    let s = annotated.program_of m.program.annotated in
    let ms = map measure_view c.args.measures.now in
    let n = annotation_of m in
    let is = (normal_view c.args.normal.now).items in
    let t = c.in_ok-program.field-0.templates in
    let rows = c.in_ok-program.field-0.rows.items in
    let D = datatypes_of s.datatypes ms in
    let made : IsMadeFor s.datatypes ms n is t rows = record {
      templates_are = λ S. c.in_ok-program.ensures.templates D refl refl S;
      unknowns_are = c.in_ok-program.ensures.unknowns D refl refl;
      there = c.in_ok-program.ensures.there;
    } in
    let types = c.declare.new.types in
    let grows : Grows t.types types = subst (λ o. Grows o types) c.into_parts-types.ensures.types c.declare.ensures.grows in
    let last = c.in_ok-generated.generated.types in
    let grown = Extends-trans t.types.rows.items types.rows.items last.rows.items grows c.in_ok-generated.ensures.grows in
    rows_below t last rows grown made.there

pub returns-clause-scopes : goal.returns-clause-scopes
returns-clause-scopes c =
    let m = c.args.noted.now in
    let s = annotated.program_of m.program.annotated in
    let ms = map measure_view c.args.measures.now in
    let n = annotation_of m in
    let is = (normal_view c.args.normal.now).items in
    let t = c.in_ok-program.field-0.templates in
    let rows = c.in_ok-program.field-0.rows.items in
    let D = datatypes_of s.datatypes ms in
    let made : IsMadeFor s.datatypes ms n is t rows = record {
      templates_are = λ S. c.in_ok-program.ensures.templates D refl refl S;
      unknowns_are = c.in_ok-program.ensures.unknowns D refl refl;
      there = c.in_ok-program.ensures.there;
    } in
    scopes_same s.datatypes ms n is t rows made c.into_parts-types.result.1 (scopes_view c.in_ok-scopes.scopes) c.into_parts-types.ensures.unknowns c.in_ok-scopes.ensures

pub returns-clause-instances : goal.returns-clause-instances
returns-clause-instances c =
    let m = c.args.noted.now in
    let s = annotated.program_of m.program.annotated in
    let ms = map measure_view c.args.measures.now in
    let n = annotation_of m in
    let is = (normal_view c.args.normal.now).items in
    let t = c.in_ok-program.field-0.templates in
    let rows = c.in_ok-program.field-0.rows.items in
    let D = datatypes_of s.datatypes ms in
    let made : IsMadeFor s.datatypes ms n is t rows = record {
      templates_are = λ S. c.in_ok-program.ensures.templates D refl refl S;
      unknowns_are = c.in_ok-program.ensures.unknowns D refl refl;
      there = c.in_ok-program.ensures.there;
    } in
    c.in_ok-instances.ensures ∙ c.in_ok-found.ensures.found
    ∙ ap (all_instances_of (map measure_name c.args.measures.now) (map qualifier_view c.args.qualifiers.now))
    (ap shared_view c.into_parts-types.ensures.unknowns ∙ made.unknowns_are)

pub returns-clause-implications : goal.returns-clause-implications
returns-clause-implications c =
    let m = c.args.noted.now in
    let s = annotated.program_of m.program.annotated in
    let ms = map measure_view c.args.measures.now in
    let n = annotation_of m in
    let is = (normal_view c.args.normal.now).items in
    let t = c.in_ok-program.field-0.templates in
    let rows = c.in_ok-program.field-0.rows.items in
    let D = datatypes_of s.datatypes ms in
    let made : IsMadeFor s.datatypes ms n is t rows = record {
      templates_are = λ S. c.in_ok-program.ensures.templates D refl refl S;
      unknowns_are = c.in_ok-program.ensures.unknowns D refl refl;
      there = c.in_ok-program.ensures.there;
    } in
    let types = c.declare.new.types in
    let grows : Grows t.types types = subst (λ o. Grows o types) c.into_parts-types.ensures.types c.declare.ensures.grows in
    let scopes = scopes_same s.datatypes ms n is t rows made c.into_parts-types.result.1 (scopes_view c.in_ok-scopes.scopes) c.into_parts-types.ensures.unknowns c.in_ok-scopes.ensures in
    let same =
    c.datatypes-datatypes.ensures ∙ ap (λ r. r.datatypes) (c.scoped.ensures.program ∙ ap annotated.program_of (c.annotated.ensures ∙ ap (λ i. i.annotated) c.program.ensures)) in
    let ds = map data_view c.datatypes-datatypes.result.now in
    let known = c.in_ok-known.ensures in
    let declared =
    declared_same ds s.datatypes ms _ types same c.requires.differ
    (λ h. record { fields = known.fields h; constructors = known.constructors; equations = known.equations h }) in
    let stands = basis_stands s.datatypes ms n is t rows made _ types grows c.deref.ensures.value scopes declared in
    let P = basis_for s.datatypes ms n is in
    c.in_ok-generated.ensures.implications P stands
    ∙ ap (implications_of P []) (ap program_view c.deref-2.ensures.value ∙ c.in_ok-program.ensures.program)

pub returns-clause-few : goal.returns-clause-few
returns-clause-few c =
    let m = c.args.noted.now in
    let s = annotated.program_of m.program.annotated in
    let ms = map measure_view c.args.measures.now in
    let n = annotation_of m in
    let is = (normal_view c.args.normal.now).items in
    let t = c.in_ok-program.field-0.templates in
    let rows = c.in_ok-program.field-0.rows.items in
    let D = datatypes_of s.datatypes ms in
    let made : IsMadeFor s.datatypes ms n is t rows = record {
      templates_are = λ S. c.in_ok-program.ensures.templates D refl refl S;
      unknowns_are = c.in_ok-program.ensures.unknowns D refl refl;
      there = c.in_ok-program.ensures.there;
    } in
    let types = c.declare.new.types in
    let grows : Grows t.types types = subst (λ o. Grows o types) c.into_parts-types.ensures.types c.declare.ensures.grows in
    let scopes = scopes_same s.datatypes ms n is t rows made c.into_parts-types.result.1 (scopes_view c.in_ok-scopes.scopes) c.into_parts-types.ensures.unknowns c.in_ok-scopes.ensures in
    let same =
    c.datatypes-datatypes.ensures ∙ ap (λ r. r.datatypes) (c.scoped.ensures.program ∙ ap annotated.program_of (c.annotated.ensures ∙ ap (λ i. i.annotated) c.program.ensures)) in
    let ds = map data_view c.datatypes-datatypes.result.now in
    let known = c.in_ok-known.ensures in
    let declared =
    declared_same ds s.datatypes ms _ types same c.requires.differ
    (λ h. record { fields = known.fields h; constructors = known.constructors; equations = known.equations h }) in
    let stands = basis_stands s.datatypes ms n is t rows made _ types grows c.deref.ensures.value scopes declared in
    let P = basis_for s.datatypes ms n is in
    let qs = map qualifier_view c.args.qualifiers.now in
    let us = unknowns_for s.datatypes ms n is in
    let within =
    subst (λ l. total_count qs l ≤ 262144) (ap shared_view c.into_parts-types.ensures.unknowns ∙ made.unknowns_are) c.in_ok-found.ensures.within in
    let same_program = ap program_view c.deref-2.ensures.value ∙ c.in_ok-program.ensures.program in
    (within, subst (λ q. length (implications_of P [] q) ≤ 262144) same_program (c.in_ok-generated.ensures.few P stands))
