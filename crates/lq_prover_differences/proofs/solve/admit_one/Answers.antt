use Rattle.std.proofs.Common.{◌∙◌, ◌≡◌, ℕ, ◌+◌, ◌<◌, length, arith, sym, subst, get_or, pos, false, take, List, ◌++◌, ◌∷◌, [], IfSome, slice_get, Some}
use Rattle.std.proofs.lemmas.List.{take_more}
use Rattle.std.proofs.lemmas.Option.{slice_get-get_or}
use Rattle.lq_prover_differences.specs.declared.arc.Arc.{Arc}
use Rattle.lq_prover_differences.specs.Arcs.{Potentials, falls}
use Rattle.lq_prover_differences.specs.Passes.{vertex_at, order_at, values}
use Rattle.lq_prover_differences.specs.Solving.{IsSolved}
use Rattle.lq_prover_differences.specs.Links.{kept}
use Rattle.lq_prover_differences.specs.Trail.{IsTrailed}
use Rattle.lq_prover_differences.proofs.Numbers.{element}
use Rattle.lq_prover_differences.proofs.Placing.{unnamed_one, one_potential}
use Rattle.lq_prover_differences.proofs.Linking.{links_kept, linked_taken, latest_whole}
use Rattle.lq_prover_differences.proofs.Solving.{taken_all, narrow, stuck_more, solved_more}
use Rattle.lq_prover_differences.proofs.Trails.{trailed_ends, trailed_then, none_of, some_of, err_of}
use Rattle.lq_prover_differences.proofs.solve.admit_one.Goals as goal

abbrev none : Arc
none = record { tag = 0; from = 0; to = 0; cost = pos 0; forward = false }

solved_on : (arcs : List Arc) (p q : Potentials) → ((v : ℕ) → q v ≡ p v) → IsSolved arcs p → IsSolved arcs q
solved_on arcs p q h s = subst (λ r. IsSolved arcs r) (sym (one_potential q p h)) s

pub touch-requires-clause-from_in : goal.touch-requires-clause-from_in
touch-requires-clause-from_in c = (element c.args.arcs.now c.args.at none _ c.requires.at_in (c.requires.in_range c.args.at)).0

pub touch-requires-clause-to_in : goal.touch-requires-clause-to_in
touch-requires-clause-to_in c = (element c.args.arcs.now c.args.at none _ c.requires.at_in (c.requires.in_range c.args.at)).1

pub admit-requires-clause-in_range : goal.admit-requires-clause-in_range
admit-requires-clause-in_range c =
    let n = c.touch.auto.vertices in let m = c.link.auto.vertices in
    let e : length c.link.new.vertices ≡ length c.args.vertices.now = omega arith in
    taken_all (c.args.at + 1) c.args.arcs.now (λ a. (a.from < length c.link.new.vertices) × (a.to < length c.link.new.vertices))
    (subst (λ (n : ℕ). (k : ℕ) → IfSome (slice_get c.args.arcs.now k) (λ (a : Arc). (a.from < n) × (a.to < n))) (sym e) c.requires.in_range)

pub admit-requires-clause-linked : goal.admit-requires-clause-linked
admit-requires-clause-linked c =
    let t = c.requires.at_in in
    linked_taken c.args.arcs.now c.link.new.links (vertex_at c.link.new.vertices) (c.args.at + 1) (omega arith) c.link.ensures.linked

pub admit-requires-clause-last : goal.admit-requires-clause-last
admit-requires-clause-last c = λ v.
    let t = c.requires.at_in in
    latest_whole c.args.arcs.now (c.args.at + 1) v _ (omega arith) (c.link.ensures.linked.last v)

pub returns-clause-reached : goal.returns-clause-reached
returns-clause-reached c =
    let arcs = c.args.arcs.now in
    let k = c.args.at in
    let front : List Arc = take k arcs in
    let last : Arc = get_or arcs k none in
    let e : take (k + 1) arcs ≡ front ++ last ∷ [] = take_more arcs k none c.requires.at_in in
    let same : (v : ℕ) → values (vertex_at c.link.new.vertices) v ≡ values (vertex_at c.args.vertices.now) v = λ v. c.link.ensures.values v ∙ c.touch.ensures.values v in
    let s : IsSolved front (values (vertex_at c.link.new.vertices)) = solved_on front (values (vertex_at c.args.vertices.now)) (values (vertex_at c.link.new.vertices)) same c.requires.reached.solved in
    none_of c.admit.result _ _ _ _ c.admit.ensures.next c.admit.ensures.lasts c.admit.ensures.marks (λ next lasts marks.
    let linked = links_kept arcs c.link.new.links (vertex_at c.link.new.vertices) (vertex_at c.admit.new.vertices) (k + 1) c.link.ensures.linked lasts in
    record {
      solved = solved_more (take (k + 1) arcs) front last (values (vertex_at c.link.new.vertices)) (values (vertex_at c.admit.new.vertices)) e s (next front last e s.greatest.meets);
      unnamed = λ v f. let t = c.touch.ensures.marks v (sym (marks v ∙ c.link.ensures.marks v) ∙ f) in
          unnamed_one arcs k last v (slice_get-get_or arcs k none c.requires.at_in) (c.requires.reached.unnamed v t.0) t.1 t.2;
      before = linked.before;
      last = linked.last;
    })

pub returns-clause-ended : goal.returns-clause-ended
returns-clause-ended c =
    let arcs = c.args.arcs.now in
    let k = c.args.at in
    let front : List Arc = take k arcs in
    let last : Arc = get_or arcs k none in
    let e : take (k + 1) arcs ≡ front ++ last ∷ [] = take_more arcs k none c.requires.at_in in
    let same : (v : ℕ) → values (vertex_at c.link.new.vertices) v ≡ values (vertex_at c.args.vertices.now) v = λ v. c.link.ensures.values v ∙ c.touch.ensures.values v in
    let s : IsSolved front (values (vertex_at c.link.new.vertices)) = solved_on front (values (vertex_at c.args.vertices.now)) (values (vertex_at c.link.new.vertices)) same c.requires.reached.solved in
    some_of c.admit.result _ _ (λ closing stuck. (
      last.from,
      stuck_more arcs (k + 1) last.from closing (vertex_at c.admit.new.vertices) (order_at c.admit.new.order)
          (stuck front last e s.greatest.meets),
    )) c.admit.ensures.stuck

pub returns-clause-trailed : goal.returns-clause-trailed
returns-clause-trailed c =
    let a : Arc = get_or c.args.arcs.now c.args.at none in
    let b = element c.args.arcs.now c.args.at none _ c.requires.at_in (c.requires.in_range c.args.at) in
    let at : slice_get c.args.arcs.now c.args.at ≡ Some a = slice_get-get_or c.args.arcs.now c.args.at none c.requires.at_in in
    trailed_then (length c.args.vertices.now) c.args.trail.now.items c.note_all.new.trail.items c.admit.new.trail.items (kept (vertex_at c.args.vertices.now)) (kept (vertex_at c.link.new.vertices)) (kept (vertex_at c.admit.new.vertices))
    (trailed_ends _ c.args.trail.now.items c.note_all.new.trail.items (kept (vertex_at c.args.vertices.now)) (kept (vertex_at c.link.new.vertices)) a.from a.to
    c.note_all.ensures.all b.0 b.1 (λ v f t. c.link.ensures.others a at v f ∙ c.touch.ensures.others v f t))
    (subst (λ n. IsTrailed n c.note_all.new.trail.items c.admit.new.trail.items (kept (vertex_at c.link.new.vertices)) (kept (vertex_at c.admit.new.vertices))) (c.link.auto.vertices ∙ c.touch.auto.vertices)
    c.admit.ensures.trailed)

pub returns-clause-stop : goal.returns-clause-stop
returns-clause-stop c =
    let arcs = c.args.arcs.now in
    let k = c.args.at in
    let front : List Arc = take k arcs in
    let last : Arc = get_or arcs k none in
    let e : take (k + 1) arcs ≡ front ++ last ∷ [] = take_more arcs k none c.requires.at_in in
    let same : (v : ℕ) → values (vertex_at c.link.new.vertices) v ≡ values (vertex_at c.args.vertices.now) v = λ v. c.link.ensures.values v ∙ c.touch.ensures.values v in
    let s : IsSolved front (values (vertex_at c.link.new.vertices)) = solved_on front (values (vertex_at c.args.vertices.now)) (values (vertex_at c.link.new.vertices)) same c.requires.reached.solved in
    err_of c.admit.result _ _ (λ stop h n b. h front last (falls front) n e (narrow s.placed arcs front last (k + 1) n (values (vertex_at c.link.new.vertices)) e s.greatest b)) c.admit.ensures.stop
