use Rattle.std.proofs.Common.{◌∙◌, ◌<◌, ◌++◌, [], map, take, length, sym, ap, subst, arith}
use Rattle.std.proofs.lemmas.List.{append_assoc, take_all}
use Rattle.std.proofs.lemmas.List.Elements.{All-weaker}
use Rattle.lq_generate_operations.specs.Basis.Basis.{items_at}
use Rattle.lq_generate_fresh.specs.Fresh.Defined.{all_constructors}
use Rattle.lq_generate_fresh.proofs.FreshLemmas.Known.{datatypes_longer}
use Rattle.lq_refined_types.specs.Parts.Part.{Scopes}
use Rattle.lq_logic_predicates.specs.PredView.{formula_of}
use Rattle.lq_refined_subtyping.specs.Table.Forms.{row_of}
use Rattle.lq_refined_subtyping.specs.Table.Growing.{length-grown, Extends-trans}
use Rattle.lq_refined_subtyping.specs.Table.Whole.{count_of, types_of}
use Rattle.lq_text_walk.specs.Scoped.Signature.{constructors_in, signature_in, signed}
use Rattle.lq_text_walk.specs.Scoped.Views.{data_view}
use Rattle.lq_text_qualifiers.specs.Sorting.Views.{measure_view}
use Rattle.lq_refined_types.specs.Subtyping.Subtype.{fields_of}
use Rattle.lq_text_tree.specs.Signatures.{predeclared}
use Rattle.lq_generate_datatypes.specs.Views.{Holds}
use Rattle.lq_generate_datatypes.proofs.Among.{equations-one, fields-one, row-plains}
use Rattle.lq_generate_datatypes.proofs.building.declare.Goals as goal

-- whatever the scopes of the unknowns
nowhere : Scopes
nowhere u = []

pub loop-datatype-preserved : goal.loop-datatype-preserved
loop-datatype-preserved c =
    let i = c.loop-datatype.datatype-index in
    let xs = c.args.defined.now in
    let x = c.datatype-item.result in
    let t1 = c.loop-datatype.types in
    let t2 = c.add_datatype.new.types in
    let front = constructors_in (map data_view (take i xs)) in
    record {
      holds = λ scopes.
          subst (Holds (map measure_view c.args.measures.now) (types_of scopes t2) c.add_datatype.new.self)
          (append_assoc predeclared front (map (signed (data_view x)) (data_view x).constructors)
          ∙ ap (λ l. predeclared ++ l) (sym (datatypes_longer xs i x c.datatype-item.is c.loop-datatype-test.true)))
          (c.in_ok-add_datatype.ensures.holds scopes (predeclared ++ front) (c.loop-datatype.invariant.holds scopes));
      grows = Extends-trans c.args.types.now.rows.items t1.rows.items t2.rows.items c.loop-datatype.invariant.grows c.add_datatype.ensures.grows;
    }

pub returns-clause-constructors : goal.returns-clause-constructors
returns-clause-constructors c = λ d.
    let all = ap (λ l. all_constructors (map data_view l)) (take_all c.loop-datatype.datatype-index c.args.defined.now c.loop-datatype-test.false) in
    let h = subst (Holds (map measure_view c.args.measures.now) (types_of nowhere c.loop-datatype.types) c.loop-datatype.building) all
    (c.loop-datatype.invariant.holds nowhere) in
    ap (map (λ n. n.0)) (c.new.ensures.constructors d) ∙ h.names d

pub returns-clause-equations : goal.returns-clause-equations
returns-clause-equations c = λ differ n.
    let ms = map measure_view c.args.measures.now in
    let all = ap (λ l. all_constructors (map data_view l)) (take_all c.loop-datatype.datatype-index c.args.defined.now c.loop-datatype-test.false) in
    let h = subst (Holds ms (types_of nowhere c.loop-datatype.types) c.loop-datatype.building) all (c.loop-datatype.invariant.holds nowhere) in
    ap (map formula_of) (c.new.ensures.equations n) ∙ h.equations n ∙ equations-one ms [] (all_constructors (map data_view c.args.defined.now)) n differ

pub returns-clause-fields : goal.returns-clause-fields
returns-clause-fields c = λ differ scopes.
    let ms = map measure_view c.args.measures.now in
    let ds = map data_view c.args.defined.now in
    let all = ap (λ l. all_constructors (map data_view l)) (take_all c.loop-datatype.datatype-index c.args.defined.now c.loop-datatype-test.false) in
    let h = subst (Holds ms (types_of scopes c.loop-datatype.types) c.loop-datatype.building) all (c.loop-datatype.invariant.holds scopes) in
    record { are = λ n. ap row_of (h.fields n ∙ fields-one (all_constructors ds) n differ) ∙ row-plains (fields_of (signature_in ds n)) }

pub returns-clause-there : goal.returns-clause-there
returns-clause-there c = λ n.
    let h = c.loop-datatype.invariant.holds nowhere in
    let k = length-grown nowhere [] c.loop-datatype.types.rows.items in
    All-weaker (λ p. p < length (types_of nowhere c.loop-datatype.types)) (λ p. p < count_of c.loop-datatype.types) (λ p l. omega arith)
    (items_at c.loop-datatype.building.fields.items n) (h.there n)
