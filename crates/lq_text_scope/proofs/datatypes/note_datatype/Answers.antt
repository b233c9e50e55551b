use Rattle.std.proofs.Common.{◌≡◌, length, [], ◌∷◌, ◌++◌, map, reverse, ap, ◌∙◌}
use Rattle.std.proofs.lemmas.List.{append-nil, length-map}
use Rattle.lq_text_tree.specs.Items.{constructor_view, definition_view, parameter_view}
use Rattle.lq_text_scope.specs.Complaints.{least_with}
use Rattle.lq_text_scope.specs.Datatypes.{name_of, of_constructors, parameter_name}
use Rattle.lq_text_scope.specs.Known.{Known, defined}
use Rattle.lq_text_scope.specs.Patterns.{repeated, shown_names}
use Rattle.lq_text_scope.specs.Views.{binding_view, found_view}
use Rattle.lq_text_scope.proofs.Constructing.{framed, shown_known, whole_datatype}
use Rattle.lq_text_scope.proofs.datatypes.note_datatype.Goals as goal

pub returns-clause-found : goal.returns-clause-found
returns-clause-found c = λ variables.
    let k : Known = record { variables = variables; constructors = c.args.constructors.now; types = c.args.types.now } in
    let bound = ap (map binding_view) c.deref-2.ensures.value ∙ c.in_ok-bindings.ensures ∙ ap (map parameter_view) c.deref.ensures.value in
    let count : c.len.result ≡ length (map parameter_view c.args.definition.now.parameters.items) =
    let counted = c.args.definition.now.parameters.ok in let is_length = c.len.ensures in let mapped = length-map c.args.definition.now.parameters.items parameter_view in cc
    in
    whole_datatype k (definition_view c.args.definition.now) _ _ (found_view c.args.least.now.found) _ _ _
    (c.in_ok-show.ensures.shown ∙ ap (λ n. defined c.args.definition.now.name.0 n ∷ c.args.types.now) count)
    (ap (map name_of) (c.in_ok-note_repeated.ensures.shown ∙ ap (λ known. shown_names (map binding_view c.deref-2.result.now) ++ known) c.requires) ∙ shown_known (map binding_view c.deref-2.result.now) []
    ∙ append-nil (reverse (map parameter_name (map binding_view c.deref-2.result.now))) ∙ ap (λ ns. reverse (map parameter_name ns)) bound)
    c.note_again.ensures
    (c.in_ok-note_repeated.ensures.found ∙ ap (λ known. least_with (found_view c.note_again.new.least.found) (repeated (map name_of known) (map binding_view c.deref-2.result.now))) c.requires
    ∙ ap (λ ns. least_with (found_view c.note_again.new.least.found) (repeated [] ns)) bound)
    (c.in_ok-note_constructors.ensures.found
    ∙ ap (λ cs. least_with (found_view c.note_repeated.new.least.found)
    (of_constructors (framed c.show.new.self (map name_of c.note_repeated.new.known) c.args.definition.now.name.0) c.args.constructors.now (map constructor_view cs)))
    c.deref-3.ensures.value)
