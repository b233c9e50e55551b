use Rattle.std.proofs.Common.{rules, Err, ◌≡◌, ◌∙◌, ℕ, ◌+◌, arith, sym, ap, subst}
use Rattle.lq_prover_differences.specs.declared.vertex.Kept.{Kept}
use Rattle.lq_prover_differences.specs.Passes.{vertex_at, values, touched}
use Rattle.lq_prover_differences.specs.Links.{kept, HasLinks}
use Rattle.lq_prover_differences.proofs.Placing.{placed_step, placed_large, unnamed_pair, pair_within}
use Rattle.lq_prover_differences.proofs.Passing.{rest_same}
use Rattle.lq_prover_differences.proofs.Trails.{trailed_ends, placing_inside, first_elsewhere, second_elsewhere}
use Rattle.lq_prover_differences.proofs.solve.admit_two.Goals as goal

two_more : (k : ℕ) → (k + 1) + 1 ≡ k + 2
two_more k = omega arith

pub returns-in_err-place-clause-stop : goal.returns-in_err-place-clause-stop
returns-in_err-place-clause-stop c =
    let was : c.from_residual.result ≡ Err c.in_err-place.field-0.0 = search rules in
    rw was (λ n b. c.in_err-place.ensures.stop n (λ past. placed_large c.args.arcs.now c.args.at n (touched (vertex_at c.args.vertices.now)) c.args.arc (values (vertex_at c.args.vertices.now))
    c.requires.placing c.requires.reached.solved b past))

pub link-requires-clause-at_in : goal.link-requires-clause-at_in
link-requires-clause-at_in c = let l = pair_within c.args.arcs.now c.args.at (touched (vertex_at c.args.vertices.now)) c.args.arc c.requires.placing in omega arith

pub link-requires-2-clause-at_in : goal.link-requires-2-clause-at_in
link-requires-2-clause-at_in c = pair_within c.args.arcs.now c.args.at (touched (vertex_at c.args.vertices.now)) c.args.arc c.requires.placing

pub returns-clause-reached : goal.returns-clause-reached
returns-clause-reached c =
    let placing = c.requires.placing in
    let mark = touched (vertex_at c.args.vertices.now) in
    let same : (v : ℕ) → values (vertex_at c.link-2.new.vertices) v ≡ values (vertex_at c.place.new.vertices) v =
    λ v. c.link-2.ensures.values v ∙ c.link.ensures.values v ∙ c.touch.ensures.values v in
    let linked : HasLinks c.args.arcs.now c.link-2.new.links (vertex_at c.link-2.new.vertices) (c.args.at + 2) =
    subst (λ n. HasLinks c.args.arcs.now c.link-2.new.links (vertex_at c.link-2.new.vertices) n) (two_more c.args.at) c.link-2.ensures.linked in
    record {
      solved = placed_step c.args.arcs.now c.args.at mark c.args.arc (values (vertex_at c.args.vertices.now)) (values (vertex_at c.link-2.new.vertices)) placing
          c.requires.reached.solved c.requires.reached.unnamed (same c.args.arc.to ∙ c.in_ok-place.ensures.here) (λ v n. same v ∙ ap (λ (k : Kept). k.value) (c.place.ensures.others v n));
      unnamed = λ v e.
          let t = c.touch.ensures.marks v (sym (c.link-2.ensures.marks v ∙ c.link.ensures.marks v) ∙ e) in
          unnamed_pair c.args.arcs.now c.args.at mark c.args.arc v placing (c.requires.reached.unnamed v (sym (c.place.ensures.marks v) ∙ t.0)) t.1 t.2;
      before = linked.before;
      last = linked.last;
    }

pub returns-clause-rest : goal.returns-clause-rest
returns-clause-rest c = λ order h.
    rest_same (vertex_at c.place.new.vertices) (vertex_at c.link-2.new.vertices) order (λ v. c.link-2.ensures.values v ∙ c.link.ensures.values v ∙ c.touch.ensures.values v)
    (λ v. c.link-2.ensures.nexts v ∙ c.link.ensures.nexts v ∙ c.touch.ensures.nexts v) (c.place.ensures.rest order h)

pub returns-clause-trailed : goal.returns-clause-trailed
returns-clause-trailed c =
    let mark = touched (vertex_at c.args.vertices.now) in
    let placing = c.requires.placing in
    let i = placing_inside c.args.arcs.now c.args.at _ mark c.args.arc placing c.requires.in_range in
    trailed_ends _ c.args.trail.now.items c.note_all.new.trail.items (kept (vertex_at c.args.vertices.now)) (kept (vertex_at c.link-2.new.vertices)) c.args.arc.from c.args.arc.to
    c.note_all.ensures.all i.0 i.1 (λ v f t.
    let a = first_elsewhere c.args.arcs.now c.args.at v mark c.args.arc placing f t in
    let b = second_elsewhere c.args.arcs.now c.args.at v mark c.args.arc placing f t in
    c.link-2.ensures.others b.0 b.1 v b.2 ∙ c.link.ensures.others a.0 a.1 v a.2 ∙ c.touch.ensures.others v f t ∙ c.place.ensures.others v t)
