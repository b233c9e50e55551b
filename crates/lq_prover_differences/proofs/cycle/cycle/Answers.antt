use Rattle.std.proofs.Common.{◌≡◌, ℕ, ◌<◌, length, vec_len, arith, sym, ap, subst, ◌∙◌, get_or, pos, false, inl, inr, rules, ◌++◌, ◌∷◌, []}
use Rattle.std.proofs.lemmas.Option.{slice_get_within, get_or_from_slice_get}
use Rattle.lq_prover_differences.specs.declared.arc.Arc.{Arc}
use Rattle.lq_prover_differences.specs.Passes.{vertex_at, order_at}
use Rattle.lq_prover_differences.proofs.Numbers.{element}
use Rattle.lq_prover_differences.proofs.Walking.{Walks, WalksOn, walk_starts, walk_on, walk_closes, walk_next}
use Rattle.lq_prover_differences.proofs.cycle.cycle.Goals as goal

abbrev none : Arc
none = record { tag = 0; from = 0; to = 0; cost = pos 0; forward = false }

pub steps-init : goal.steps-init
steps-init c =
    let stuck = c.requires.stuck in
    record {
      walk = (stuck.0, (stuck.1, rw c.clear.ensures.items (walk_starts c.args.arcs.now stuck.0 c.args.closing (vertex_at c.args.vertices.now) (order_at c.args.order.now) stuck.1)));
      room = let e = ap length c.clear.ensures.items in let r = c.requires.room (get_or c.args.arcs.now c.args.closing none).from in let k = c.clear.ensures.capacity in omega arith;
      capacity = c.clear.ensures.capacity;
    }

pub bounds-arcs-at : goal.bounds-arcs-at
bounds-arcs-at c = let w = c.steps.invariant.walk.1.1 in slice_get_within c.args.arcs.now c.steps.at w.arc w.is_arc

pub offset_bounds-arcs-at : goal.offset_bounds-arcs-at
offset_bounds-arcs-at c = let w = c.steps.invariant.walk.1.1 in
    let l : c.steps.at < length c.args.arcs.now = slice_get_within c.args.arcs.now c.steps.at w.arc w.is_arc in search rules

pub bounds-order-arc : goal.bounds-order-arc
bounds-order-arc c = let w = c.steps.invariant.walk.1.1 in
    let l : c.steps.at < length c.args.arcs.now = slice_get_within c.args.arcs.now c.steps.at w.arc w.is_arc in
    let b = element c.args.arcs.now c.steps.at none _ l (c.requires.in_range c.steps.at) in let s = c.requires.same in omega arith

pub offset_bounds-order-arc : goal.offset_bounds-order-arc
offset_bounds-order-arc c = let w = c.steps.invariant.walk.1.1 in
    let l : c.steps.at < length c.args.arcs.now = slice_get_within c.args.arcs.now c.steps.at w.arc w.is_arc in
    let b = element c.args.arcs.now c.steps.at none _ l (c.requires.in_range c.steps.at) in
    let s = c.requires.same in
    let m : (get_or c.args.arcs.now c.steps.at none).from < length c.args.order.now = omega arith in search rules

pub returns-then-order-arc-eq0-clause-cycle : goal.returns-then-order-arc-eq0-clause-cycle
returns-then-order-arc-eq0-clause-cycle c =
    let top : ℕ = c.steps.invariant.walk.0 in
    let stuck = c.steps.invariant.walk.1.0 in
    let w = c.steps.invariant.walk.1.1 in
    let arcs = c.args.arcs.now in
    let s = vertex_at c.args.vertices.now in
    let order = order_at c.args.order.now in
    let e : get_or arcs c.steps.at none ≡ w.arc = get_or_from_slice_get arcs c.steps.at w.arc none w.is_arc in
    let z : order w.arc.from ≡ 0 = ap (λ (a : Arc). order a.from) (sym e) ∙ c.if-order-arc-eq0.true in
    let on : WalksOn arcs top s order c.push_reserved.new.self.items w.arc = walk_on arcs top s order c.steps.found.items c.push_reserved.new.self.items c.steps.at c.requires.paired stuck.top_out w
    (c.push_reserved.ensures.items ∙ ap (λ (a : Arc). c.steps.found.items ++ (a.tag, a.forward) ∷ []) e) in
    walk_closes arcs top c.args.closing s order c.push_reserved.new.self.items w.arc on (elim w.source [ inl f ↦ f | inr h ↦ absurd (omega arith) ])

pub steps-smaller : goal.steps-smaller
steps-smaller c =
    let top : ℕ = c.steps.invariant.walk.0 in
    let stuck = c.steps.invariant.walk.1.0 in
    let w = c.steps.invariant.walk.1.1 in
    let arcs = c.args.arcs.now in
    let s = vertex_at c.args.vertices.now in
    let order = order_at c.args.order.now in
    let e : get_or arcs c.steps.at none ≡ w.arc = get_or_from_slice_get arcs c.steps.at w.arc none w.is_arc in
    let z : 0 < order w.arc.from = (let f = c.if-order-arc-eq0.false in let g : order w.arc.from ≡ order (get_or arcs c.steps.at none).from = ap (λ (a : Arc). order a.from) (sym e) in omega arith) in
    let on : WalksOn arcs top s order c.push_reserved.new.self.items w.arc = walk_on arcs top s order c.steps.found.items c.push_reserved.new.self.items c.steps.at c.requires.paired stuck.top_out w
    (c.push_reserved.ensures.items ∙ ap (λ (a : Arc). c.steps.found.items ++ (a.tag, a.forward) ∷ []) e) in
    let n = walk_next arcs top c.args.closing s order c.push_reserved.new.self.items w.arc stuck on z in
    let f : get_or arcs (s (get_or arcs c.steps.at none).from).parent none ≡ n.0.arc =
    ap (λ (a : Arc). get_or arcs (s a.from).parent none) e ∙ get_or_from_slice_get arcs (s w.arc.from).parent n.0.arc none n.0.is_arc in
    let g : order (get_or arcs (s (get_or arcs c.steps.at none).from).parent none).from ≡ order n.0.arc.from = ap (λ (a : Arc). order a.from) f in
    let h : order (get_or arcs c.steps.at none).from ≡ order w.arc.from = ap (λ (a : Arc). order a.from) e in
    subst (λ x. x < order (get_or arcs c.steps.at none).from) (sym g) (subst (λ x. order n.0.arc.from < x) (sym h) n.1)

pub steps-preserved : goal.steps-preserved
steps-preserved c =
    let top : ℕ = c.steps.invariant.walk.0 in
    let stuck = c.steps.invariant.walk.1.0 in
    let w = c.steps.invariant.walk.1.1 in
    let arcs = c.args.arcs.now in
    let s = vertex_at c.args.vertices.now in
    let order = order_at c.args.order.now in
    let e : get_or arcs c.steps.at none ≡ w.arc = get_or_from_slice_get arcs c.steps.at w.arc none w.is_arc in
    let z : 0 < order w.arc.from = (let f = c.if-order-arc-eq0.false in let g : order w.arc.from ≡ order (get_or arcs c.steps.at none).from = ap (λ (a : Arc). order a.from) (sym e) in omega arith) in
    let on : WalksOn arcs top s order c.push_reserved.new.self.items w.arc = walk_on arcs top s order c.steps.found.items c.push_reserved.new.self.items c.steps.at c.requires.paired stuck.top_out w
    (c.push_reserved.ensures.items ∙ ap (λ (a : Arc). c.steps.found.items ++ (a.tag, a.forward) ∷ []) e) in
    let n = walk_next arcs top c.args.closing s order c.push_reserved.new.self.items w.arc stuck on z in
    let f : get_or arcs (s (get_or arcs c.steps.at none).from).parent none ≡ n.0.arc =
    ap (λ (a : Arc). get_or arcs (s a.from).parent none) e ∙ get_or_from_slice_get arcs (s w.arc.from).parent n.0.arc none n.0.is_arc in
    let g : order (get_or arcs (s (get_or arcs c.steps.at none).from).parent none).from ≡ order n.0.arc.from = ap (λ (a : Arc). order a.from) f in
    let h : order (get_or arcs c.steps.at none).from ≡ order w.arc.from = ap (λ (a : Arc). order a.from) e in
    let la : vec_len c.steps.found ≡ length c.steps.found.items = c.steps.found.ok.0 in
    let lb : vec_len c.push_reserved.new.self ≡ length c.push_reserved.new.self.items = c.push_reserved.new.self.ok.0 in
    record {
      walk = (top, (stuck, subst (λ (a : Arc). Walks arcs top s order c.push_reserved.new.self.items (s a.from).parent) (sym e) n.0));
      room = let r = c.steps.invariant.room in let m = n.1 in omega (arith, la, lb, g, h, c.push_reserved.ensures.len, c.push_reserved.ensures.capacity);
      capacity = c.push_reserved.ensures.capacity ∙ c.steps.invariant.capacity;
    }

pub push_reserved-requires : goal.push_reserved-requires
push_reserved-requires c =
    let la : vec_len c.steps.found ≡ length c.steps.found.items = c.steps.found.ok.0 in
    omega (arith, la, c.steps.invariant.room)
