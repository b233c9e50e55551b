use Rattle.std.proofs.Common.{◌≡◌, ℕ, ◌<◌, length, get_or, inl, inr, arith, refl, sym, ap, subst, ◌∙◌, to_z, of_z, FitsSigned, rules, below_more, Some}
use Rattle.std.specs.Int.{w128}
use Rattle.std.proofs.lemmas.Int.{to_z-of_z}
use Rattle.std.proofs.lemmas.List.{get_or-set_other}
use Rattle.std.proofs.lemmas.Option.{slice_get-get_or}
use Rattle.lq_prover_differences.specs.declared.vertex.Vertex.{Vertex}
use Rattle.lq_prover_differences.specs.Passes.{blank, vertex_at, values, nexts}
use Rattle.lq_prover_differences.proofs.Numbers.{element}
use Rattle.lq_prover_differences.proofs.Passing.{set_same_by, done_more, same_or}
use Rattle.lq_prover_differences.proofs.Fallen.{listed_at}
use Rattle.lq_prover_differences.proofs.pass.accept.Goals as goal

pub loop-place-preserved : goal.loop-place-preserved
loop-place-preserved c =
    let x : ℕ = get_or c.args.fallen.now c.loop-place.place-index 0 in
    let s = c.loop-place.auto.vertices in
    let inside : x < length c.loop-place.vertices = (let b = element c.args.fallen.now c.loop-place.place-index 0 _ c.loop-place-test.true (c.requires.inside c.loop-place.place-index) in omega arith) in
    let vertices = c.loop-place.vertices in
    let y : Vertex = get_or vertices x blank in
    let fits : FitsSigned w128 y.next = search rules in
    let new : Vertex = record { kept = record { value = to_z w128 (of_z w128 y.next); last = y.kept.last; touched = y.kept.touched }; next = y.next; parent = y.parent } in
    let value : new.kept.value ≡ y.next = to_z-of_z w128 y.next fits in
    let r = vertex_at c.args.vertices.now in
    record {
      offers = λ v. set_same_by (λ (z : Vertex). z.next) vertices x new inside refl v ∙ c.loop-place.invariant.offers v;
      done = below_more _ _ (λ i l. done_more vertices r x (get_or c.args.fallen.now i 0) new inside value c.loop-place.invariant.offers (inl (c.loop-place.invariant.done i l)))
          (done_more vertices r x x new inside value c.loop-place.invariant.offers (inr refl));
      others = λ v. same_or v x
          (λ e. inl (c.loop-place.place-index, slice_get-get_or c.args.fallen.now c.loop-place.place-index 0 c.loop-place-test.true ∙ ap Some (sym e)))
          (λ n. elim (c.loop-place.invariant.others v) [ inl l ↦ inl l | inr q ↦ inr (get_or-set_other vertices x v new blank n ∙ q) ]);
      last = λ v. set_same_by (λ (z : Vertex). z.kept.last) vertices x new inside refl v ∙ c.loop-place.invariant.last v;
      marks = λ v. set_same_by (λ (z : Vertex). z.kept.touched) vertices x new inside refl v ∙ c.loop-place.invariant.marks v;
    }

pub returns-clause-listed : goal.returns-clause-listed
returns-clause-listed c = λ v l.
    let a = listed_at 0 c.args.fallen.now v (l.0, omega arith, l.1) in
    let end = c.loop-place-test.false in
    let inside : a.0 < c.loop-place.place-index = (let m = a.2 in omega arith) in
    subst (λ w. values (vertex_at c.loop-place.vertices) w ≡ nexts (vertex_at c.args.vertices.now) w) a.3 (c.loop-place.invariant.done a.0 inside)
