use Rattle.std.proofs.Common.{get_or, refl, pos, false}
use Rattle.std.proofs.lemmas.Option.{slice_get-get_or}
use Rattle.lq_prover_differences.specs.declared.arc.Arc.{Arc}
use Rattle.lq_prover_differences.specs.declared.vertex.Vertex.{Vertex}
use Rattle.lq_prover_differences.proofs.Numbers.{element}
use Rattle.lq_prover_differences.proofs.Linking.{link_step}
use Rattle.lq_prover_differences.proofs.Passing.{set_same_by}
use Rattle.lq_prover_differences.proofs.solve.link.Goals as goal

abbrev none : Arc
none = record { tag = 0; from = 0; to = 0; cost = pos 0; forward = false }

pub returns-clause-linked : goal.returns-clause-linked
returns-clause-linked c =
    let a : Arc = get_or c.args.arcs.now c.args.at none in
    let b = element c.args.arcs.now c.args.at none _ c.requires.at_in (c.requires.in_range c.args.at) in
    link_step c.args.arcs.now c.args.links.now c.args.vertices.now c.args.at _ a _ c.requires.linked (slice_get-get_or c.args.arcs.now c.args.at none c.requires.at_in) b.0 refl refl

pub returns-clause-values : goal.returns-clause-values
returns-clause-values c =
    let b = element c.args.arcs.now c.args.at none _ c.requires.at_in (c.requires.in_range c.args.at) in
    set_same_by (λ (z : Vertex). z.kept.value) c.args.vertices.now (get_or c.args.arcs.now c.args.at none).from _ b.0 refl

pub returns-clause-nexts : goal.returns-clause-nexts
returns-clause-nexts c =
    let b = element c.args.arcs.now c.args.at none _ c.requires.at_in (c.requires.in_range c.args.at) in
    set_same_by (λ (z : Vertex). z.next) c.args.vertices.now (get_or c.args.arcs.now c.args.at none).from _ b.0 refl

pub returns-clause-marks : goal.returns-clause-marks
returns-clause-marks c =
    let b = element c.args.arcs.now c.args.at none _ c.requires.at_in (c.requires.in_range c.args.at) in
    set_same_by (λ (z : Vertex). z.kept.touched) c.args.vertices.now (get_or c.args.arcs.now c.args.at none).from _ b.0 refl
