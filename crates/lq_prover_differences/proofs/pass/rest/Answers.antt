use Rattle.std.proofs.Common.{◌≡◌, ℕ, ◌<◌, length, get_or, arith, refl, sym, subst, ◌∙◌, to_z, of_z, FitsSigned, rules}
use Rattle.std.specs.Int.{w128}
use Rattle.std.proofs.lemmas.Int.{to_z-of_z}
use Rattle.std.proofs.lemmas.List.{get_or-set_same, get_or-set_other}
use Rattle.std.proofs.Math.ListN.{set}
use Rattle.lq_prover_differences.specs.declared.vertex.Vertex.{Vertex}
use Rattle.lq_prover_differences.specs.Passes.{blank, vertex_at, order_at}
use Rattle.lq_prover_differences.proofs.Numbers.{element}
use Rattle.lq_prover_differences.proofs.Passing.{set_same_by}
use Rattle.lq_prover_differences.proofs.Fallen.{rests_at_first, rests_more, rests_at_last}
use Rattle.lq_prover_differences.proofs.pass.rest.Goals as goal

pub loop-place-init : goal.loop-place-init
loop-place-init c = record {
  kept = λ v. refl;
  rest = rests_at_first c.args.fallen.now (vertex_at c.args.vertices.now) (order_at c.args.order.now) c.requires.listed;
}

pub loop-place-preserved : goal.loop-place-preserved
loop-place-preserved c =
    let x : ℕ = get_or c.args.fallen.now c.loop-place.place-index 0 in
    let s = c.loop-place.auto.vertices in let o = c.loop-place.auto.order in let m = c.requires.same in
    let inside : x < length c.loop-place.vertices = (let b = element c.args.fallen.now c.loop-place.place-index 0 _ c.loop-place-test.true (c.requires.inside c.loop-place.place-index) in omega arith) in
    let inside2 : x < length c.loop-place.order = omega arith in
    let y : Vertex = get_or c.loop-place.vertices x blank in
    let fits : FitsSigned w128 y.kept.value = search rules in
    let new : Vertex = record { kept = y.kept; next = to_z w128 (of_z w128 y.kept.value); parent = y.parent } in
    record {
      kept = λ v. set_same_by (λ (z : Vertex). z.kept) c.loop-place.vertices x new inside refl v ∙ c.loop-place.invariant.kept v;
      rest = rests_more c.args.fallen.now (vertex_at c.loop-place.vertices) (vertex_at (set c.loop-place.vertices x new)) (order_at c.loop-place.order) (order_at (set c.loop-place.order x 0)) c.loop-place.place-index x
          c.loop-place-test.true refl c.loop-place.invariant.rest
          (subst (λ (z : Vertex). z.next ≡ z.kept.value) (sym (get_or-set_same c.loop-place.vertices x new blank inside)) (to_z-of_z w128 y.kept.value fits), get_or-set_same c.loop-place.order x 0 0 inside2)
          (λ u n. get_or-set_other c.loop-place.vertices x u new blank n)
          (λ u n. get_or-set_other c.loop-place.order x u 0 0 n);
    }

pub returns-clause-rest : goal.returns-clause-rest
returns-clause-rest c = rests_at_last c.args.fallen.now (vertex_at c.loop-place.vertices) (order_at c.loop-place.order) c.loop-place.place-index c.loop-place-test.false c.loop-place.invariant.rest
