use Rattle.std.proofs.Common.{Err, IfSome, slice_get, refl, ◌≡◌, ℕ, ◌<◌, ◌-◌, length, pos, ◌+ℤ◌, ◌-ℤ◌, ◌<ℤ◌, to_z, of_z, FitsSigned, arith, rules, get_or, sym, ap, subst, ◌∙◌, false, List, [], ◌∷◌, ◌++◌, ◌⊎◌, inl, inr}
use Rattle.std.specs.Int.{w128}
use Rattle.std.proofs.Math.IntN.{ℤ}
use Rattle.std.proofs.lemmas.Int.{ints, to_z-of_z}
use borrow.Author.Differences.{up}
use Rattle.lq_prover_differences.proofs.Rooms.{room_most}
use Rattle.lq_prover_differences.proofs.Passing.{last_is, starts, holds_already, stuck_at_once, first_large, narrow_sized, next_cast, next_before}
use Rattle.lq_prover_differences.proofs.Fallen.{listed_none, front_none, accepted, accepted_listed}
use Rattle.lq_prover_differences.proofs.Numbers.{element, sum_read}
use Rattle.lq_prover_differences.specs.declared.arc.Arc.{Arc}
use Rattle.lq_prover_differences.specs.declared.vertex.Kept.{Kept}
use Rattle.lq_prover_differences.specs.declared.vertex.Vertex.{Vertex}
use Rattle.lq_prover_differences.specs.Links.{kept, IsLatest}
use Rattle.lq_prover_differences.proofs.Trails.{trailed_same, trailed_all, trailed_before}
use Rattle.lq_prover_differences.specs.Arcs.{Meets}
use Rattle.lq_prover_differences.specs.Passes.{AllBelow, AreListed, IsListed, blank, vertex_at, order_at, values, nexts, IsStuck, IsNarrow}
use Rattle.lq_prover_differences.proofs.pass.admit.Goals as goal

abbrev none : Arc
none = record { tag = 0; from = 0; to = 0; cost = pos 0; forward = false }

abbrev end : List Arc → Arc
end arcs = get_or arcs (length arcs - 1) none

again : (front : List Arc) (last : Arc) (arcs : List Arc) → arcs ≡ front ++ last ∷ [] → arcs ≡ front ++ end arcs ∷ []
again front last arcs e = e ∙ ap (λ x. front ++ x ∷ []) (sym (last_is front last arcs none e))

pub bounds-vertices-last-2 : goal.bounds-vertices-last-2
bounds-vertices-last-2 c = let s = c.requires.some in let b = element c.args.arcs.now (length c.args.arcs.now - 1) none _ (omega arith) (c.requires.in_range (length c.args.arcs.now - 1)) in omega arith

pub offset_bounds-vertices-last-2 : goal.offset_bounds-vertices-last-2
offset_bounds-vertices-last-2 c =
    let s = c.requires.some in
    let b = element c.args.arcs.now (length c.args.arcs.now - 1) none _ (omega arith) (c.requires.in_range (length c.args.arcs.now - 1)) in
    let l : (end c.args.arcs.now).to < length c.args.vertices.now = omega arith in
    search rules

pub fall-requires-clause-at_in : goal.fall-requires-clause-at_in
fall-requires-clause-at_in c =
    let s = c.requires.some in
    let b = element c.args.arcs.now (length c.args.arcs.now - 1) none _ (omega arith) (c.requires.in_range (length c.args.arcs.now - 1)) in omega arith

pub fall-requires-clause-inside : goal.fall-requires-clause-inside
fall-requires-clause-inside c = λ i. subst (λ l. IfSome (slice_get l i) (λ v. v < length c.args.vertices.now)) (sym c.requires.empty) tt

pub fall-requires-clause-below : goal.fall-requires-clause-below
fall-requires-clause-below c =
    let a : Arc = end c.args.arcs.now in
    let y : Vertex = get_or c.args.vertices.now a.to blank in
    let fy : FitsSigned w128 y.kept.value = search rules in
    let fo : FitsSigned w128 c.in_ok-offer.offer = search rules in
    let t = c.if-vertices-last.false in
    let less : c.in_ok-offer.offer <ℤ y.kept.value = omega (arith, ints) in
    subst (λ z. z <ℤ nexts (vertex_at c.args.vertices.now) a.to) (sym (to_z-of_z w128 c.in_ok-offer.offer fo))
    (subst (λ z. c.in_ok-offer.offer <ℤ z) (sym (c.requires.rest a.to).0) less)

pub fall-requires-clause-room : goal.fall-requires-clause-room
fall-requires-clause-room c =
    let e = ap length c.requires.empty in let r = c.requires.room in omega (arith, room_most c.args.vertices.now)

pub settle-requires-clause-last : goal.settle-requires-clause-last
settle-requires-clause-last c = λ v. subst (λ (q : Kept). IsLatest c.args.arcs.now v (length c.args.arcs.now) q.last) (sym (c.fall.ensures.kept v)) (c.requires.last v)

pub settle-requires-clause-unsettled : goal.settle-requires-clause-unsettled
settle-requires-clause-unsettled c = λ v. (c.requires.rest v).1

pub settle-requires-clause-listed : goal.settle-requires-clause-listed
settle-requires-clause-listed c =
    let fallen = c.args.fallen.now.items in
    let s = vertex_at c.args.vertices.now in
    let order = order_at c.args.order.now in
    (c.fall.ensures.front order 0 (front_none fallen s order (listed_none fallen s order c.requires.rest))).listed

pub settle-requires-clause-top_in : goal.settle-requires-clause-top_in
settle-requires-clause-top_in c =
    let s = c.requires.some in
    let u = c.fall.auto.vertices in
    let b = element c.args.arcs.now (length c.args.arcs.now - 1) none _ (omega arith) (c.requires.in_range (length c.args.arcs.now - 1)) in omega arith

pub returns-in_err-offer-clause-stop : goal.returns-in_err-offer-clause-stop
returns-in_err-offer-clause-stop c =
    let a : Arc = end c.args.arcs.now in
    let x : Vertex = get_or c.args.vertices.now a.from blank in
    let fx : FitsSigned w128 x.kept.value = search rules in
    let fc : FitsSigned w128 a.cost = search rules in
    let was : c.from_residual.result ≡ Err c.in_err-offer.field-0.0 = search rules in
    rw was (λ front last m n e h. c.in_err-offer.ensures.stop n (λ past.
    first_large front last (values (vertex_at c.args.vertices.now)) m n h
    (subst (λ (b : Arc). ¬ (FitsSigned w128 (values (vertex_at c.args.vertices.now) b.from +ℤ b.cost))) (last_is front last c.args.arcs.now none e)
    (subst (λ z. ¬ (FitsSigned w128 z)) (sum_read x.kept.value a.cost fx fc) past))))

pub returns-then-vertices-last-clause-next : goal.returns-then-vertices-last-clause-next
returns-then-vertices-last-clause-next c = λ front last e meets.
    let a : Arc = end c.args.arcs.now in
    let x : Vertex = get_or c.args.vertices.now a.from blank in
    let y : Vertex = get_or c.args.vertices.now a.to blank in
    let fx : FitsSigned w128 x.kept.value = search rules in
    let fy : FitsSigned w128 y.kept.value = search rules in
    let fc : FitsSigned w128 a.cost = search rules in
    let fo : FitsSigned w128 c.in_ok-offer.offer = search rules in
    let value : c.in_ok-offer.offer ≡ x.kept.value +ℤ a.cost = c.in_ok-offer.ensures.value ∙ sum_read x.kept.value a.cost fx fc in
    let t = c.if-vertices-last.true in
    holds_already front a c.args.arcs.now (values (vertex_at c.args.vertices.now)) (again front last c.args.arcs.now e) meets (omega (arith, ints))

pub returns-then-last-clause-stuck : goal.returns-then-last-clause-stuck
returns-then-last-clause-stuck c = λ front last e meets.
    let a : Arc = end c.args.arcs.now in
    let x : Vertex = get_or c.args.vertices.now a.from blank in
    let y : Vertex = get_or c.args.vertices.now a.to blank in
    let fx : FitsSigned w128 x.kept.value = search rules in
    let fy : FitsSigned w128 y.kept.value = search rules in
    let fc : FitsSigned w128 a.cost = search rules in
    let fo : FitsSigned w128 c.in_ok-offer.offer = search rules in
    let value : c.in_ok-offer.offer ≡ x.kept.value +ℤ a.cost = c.in_ok-offer.ensures.value ∙ sum_read x.kept.value a.cost fx fc in
    let t = c.if-vertices-last.false in
    let less : c.in_ok-offer.offer <ℤ y.kept.value = omega (arith, ints) in
    subst (λ (b : Arc). IsStuck c.args.arcs.now b.from (length c.args.arcs.now - 1) (vertex_at c.args.vertices.now) (order_at c.args.order.now)) (last_is front last c.args.arcs.now none e)
    (stuck_at_once front a c.args.arcs.now (vertex_at c.args.vertices.now) (vertex_at c.args.vertices.now) (order_at c.args.order.now) c.in_ok-offer.offer
    (again front last c.args.arcs.now e) (λ v. (c.requires.rest v).1) (λ v. refl) (λ v. (c.requires.rest v).0) value less c.if-last.true)

pub returns-in_err-settle-clause-stop : goal.returns-in_err-settle-clause-stop
returns-in_err-settle-clause-stop c =
    let a : Arc = end c.args.arcs.now in
    let x : Vertex = get_or c.args.vertices.now a.from blank in
    let y : Vertex = get_or c.args.vertices.now a.to blank in
    let fx : FitsSigned w128 x.kept.value = search rules in
    let fy : FitsSigned w128 y.kept.value = search rules in
    let fc : FitsSigned w128 a.cost = search rules in
    let fo : FitsSigned w128 c.in_ok-offer.offer = search rules in
    let value : c.in_ok-offer.offer ≡ x.kept.value +ℤ a.cost = c.in_ok-offer.ensures.value ∙ sum_read x.kept.value a.cost fx fc in
    let t = c.if-vertices-last.false in
    let less : c.in_ok-offer.offer <ℤ y.kept.value = omega (arith, ints) in
    let o : ℤ = to_z w128 (of_z w128 c.in_ok-offer.offer) in
    let oe : o ≡ c.in_ok-offer.offer = to_z-of_z w128 c.in_ok-offer.offer fo in
    let r = vertex_at c.args.vertices.now in
    let s = vertex_at c.fall.new.vertices in
    let same : (v : ℕ) → values s v ≡ values r v = c.fall.ensures.falls.kept in
    let gap : ℕ = up (y.kept.value -ℤ o) in
    let was : c.from_residual-in_err-settle.result ≡ Err c.in_err-settle.field-0.0 = search rules in
    rw was (λ front last m n e h.
    let meets : Meets (values r) front = h.meets in
    let narrow : IsNarrow m n front a (values r) = subst (λ (w : Arc). IsNarrow m n front w (values r)) (sym (last_is front last c.args.arcs.now none e)) h in
    c.in_err-settle.ensures.stop gap n
    (starts front a c.args.arcs.now r r s (order_at c.args.order.now) o (again front last c.args.arcs.now e) meets (λ v. (c.requires.rest v).1) (λ v. refl) (λ v. (c.requires.rest v).0)
    c.fall.ensures.falls (oe ∙ value) (subst (λ z. z <ℤ y.kept.value) (sym oe) less) c.if-last.false)
    (narrow_sized front a c.args.arcs.now r s m n o (again front last c.args.arcs.now e) narrow same (oe ∙ value)))

pub returns-in-None-clause-next : goal.returns-in-None-clause-next
returns-in-None-clause-next c = λ front last e meets.
    let a : Arc = end c.args.arcs.now in
    let x : Vertex = get_or c.args.vertices.now a.from blank in
    let y : Vertex = get_or c.args.vertices.now a.to blank in
    let fx : FitsSigned w128 x.kept.value = search rules in
    let fy : FitsSigned w128 y.kept.value = search rules in
    let fc : FitsSigned w128 a.cost = search rules in
    let fo : FitsSigned w128 c.in_ok-offer.offer = search rules in
    let value : c.in_ok-offer.offer ≡ x.kept.value +ℤ a.cost = c.in_ok-offer.ensures.value ∙ sum_read x.kept.value a.cost fx fc in
    let t = c.if-vertices-last.false in
    let less : c.in_ok-offer.offer <ℤ y.kept.value = omega (arith, ints) in
    let o : ℤ = to_z w128 (of_z w128 c.in_ok-offer.offer) in
    let oe : o ≡ c.in_ok-offer.offer = to_z-of_z w128 c.in_ok-offer.offer fo in
    let r = vertex_at c.args.vertices.now in
    let s = vertex_at c.fall.new.vertices in
    let same : (v : ℕ) → values s v ≡ values r v = c.fall.ensures.falls.kept in
    let gap : ℕ = up (y.kept.value -ℤ o) in
    let next = rw c.in-None.is at c.in_ok-settle.ensures.next in
    next_cast c.args.arcs.now (values r) (values (vertex_at c.rest.new.vertices)) (nexts (vertex_at c.settle.new.vertices))
    (λ v. ap (λ (q : Kept). q.value) (c.rest.ensures.kept v) ∙ accepted c.as_slice-listed.result.now (vertex_at c.settle.new.vertices) (vertex_at c.accept.new.vertices) (order_at c.settle.new.order)
    (subst (λ l. AreListed l (vertex_at c.settle.new.vertices) (order_at c.settle.new.order)) (sym c.as_slice-listed.ensures.value) c.in_ok-settle.ensures.listed) c.accept.ensures.listed c.accept.ensures.others v)
    (next_before c.args.arcs.now (values r) (values s) (nexts (vertex_at c.settle.new.vertices)) same (next gap
    (starts front a c.args.arcs.now r r s (order_at c.args.order.now) o (again front last c.args.arcs.now e) meets (λ v. (c.requires.rest v).1) (λ v. refl) (λ v. (c.requires.rest v).0)
    c.fall.ensures.falls (oe ∙ value) (subst (λ z. z <ℤ y.kept.value) (sym oe) less) c.if-last.false)))

pub returns-in-Some-clause-stuck : goal.returns-in-Some-clause-stuck
returns-in-Some-clause-stuck c = λ front last e meets.
    let a : Arc = end c.args.arcs.now in
    let x : Vertex = get_or c.args.vertices.now a.from blank in
    let y : Vertex = get_or c.args.vertices.now a.to blank in
    let fx : FitsSigned w128 x.kept.value = search rules in
    let fy : FitsSigned w128 y.kept.value = search rules in
    let fc : FitsSigned w128 a.cost = search rules in
    let fo : FitsSigned w128 c.in_ok-offer.offer = search rules in
    let value : c.in_ok-offer.offer ≡ x.kept.value +ℤ a.cost = c.in_ok-offer.ensures.value ∙ sum_read x.kept.value a.cost fx fc in
    let t = c.if-vertices-last.false in
    let less : c.in_ok-offer.offer <ℤ y.kept.value = omega (arith, ints) in
    let o : ℤ = to_z w128 (of_z w128 c.in_ok-offer.offer) in
    let oe : o ≡ c.in_ok-offer.offer = to_z-of_z w128 c.in_ok-offer.offer fo in
    let r = vertex_at c.args.vertices.now in
    let s = vertex_at c.fall.new.vertices in
    let same : (v : ℕ) → values s v ≡ values r v = c.fall.ensures.falls.kept in
    let gap : ℕ = up (y.kept.value -ℤ o) in
    let stuck = rw c.in-Some.is at c.in_ok-settle.ensures.stuck in
    subst (λ (w : Arc). IsStuck c.args.arcs.now w.from c.in-Some.closing (vertex_at c.settle.new.vertices) (order_at c.settle.new.order)) (last_is front last c.args.arcs.now none e)
    (stuck gap
    (starts front a c.args.arcs.now r r s (order_at c.args.order.now) o (again front last c.args.arcs.now e) meets (λ v. (c.requires.rest v).1) (λ v. refl) (λ v. (c.requires.rest v).0)
    c.fall.ensures.falls (oe ∙ value) (subst (λ z. z <ℤ y.kept.value) (sym oe) less) c.if-last.false))

pub accept-requires : goal.accept-requires
accept-requires c = record { inside = subst (λ l. AllBelow l (length c.settle.new.vertices)) (sym c.as_slice-listed.ensures.value) c.settle.ensures.inside }

pub rest-requires-clause-listed : goal.rest-requires-clause-listed
rest-requires-clause-listed c =
    accepted_listed c.as_slice-listed.result.now (vertex_at c.settle.new.vertices) (vertex_at c.accept.new.vertices) (order_at c.settle.new.order)
    (subst (λ l. AreListed l (vertex_at c.settle.new.vertices) (order_at c.settle.new.order)) (sym c.as_slice-listed.ensures.value) c.in_ok-settle.ensures.listed) c.accept.ensures.others

pub returns-in-None-clause-lasts : goal.returns-in-None-clause-lasts
returns-in-None-clause-lasts c = λ v. ap (λ (q : Kept). q.last) (c.rest.ensures.kept v) ∙ c.accept.ensures.last v ∙ ap (λ (q : Kept). q.last) (c.settle.ensures.kept v ∙ c.fall.ensures.kept v)

pub note_all-requires : goal.note_all-requires
note_all-requires c = record {
  inside = subst (λ l. AllBelow l (length c.settle.new.vertices)) (sym c.as_slice-listed.ensures.value) c.settle.ensures.inside;
  room =
      let l = ap length c.as_slice-listed.ensures.value in
      let r = c.settle.ensures.room in let k = c.settle.ensures.capacity in let m = c.fall.ensures.capacity in
      let n = c.requires.notable in omega arith;
}

pub rest-requires-clause-inside : goal.rest-requires-clause-inside
rest-requires-clause-inside c = subst (λ l. AllBelow l (length c.accept.new.vertices)) (sym c.as_slice-listed.ensures.value) (subst (λ n. AllBelow c.settle.new.fallen.items n) (sym c.accept.auto.vertices) c.settle.ensures.inside)

pub returns-in_err-settle-clause-trailed : goal.returns-in_err-settle-clause-trailed
returns-in_err-settle-clause-trailed c =
    trailed_same (length c.args.vertices.now) c.args.trail.now.items (kept (vertex_at c.args.vertices.now)) (kept (vertex_at c.settle.new.vertices)) (λ v. c.settle.ensures.kept v ∙ c.fall.ensures.kept v)

pub returns-in-Some-clause-trailed : goal.returns-in-Some-clause-trailed
returns-in-Some-clause-trailed c =
    trailed_same (length c.args.vertices.now) c.args.trail.now.items (kept (vertex_at c.args.vertices.now)) (kept (vertex_at c.settle.new.vertices)) (λ v. c.settle.ensures.kept v ∙ c.fall.ensures.kept v)

pub returns-in-None-clause-trailed : goal.returns-in-None-clause-trailed
returns-in-None-clause-trailed c =
    let s = kept (vertex_at c.settle.new.vertices) in
    let t = kept (vertex_at c.rest.new.vertices) in
    let listed = c.as_slice-listed.result.now in
    let all = c.note_all.ensures.all in
    trailed_before (length c.args.vertices.now) c.args.trail.now.items c.note_all.new.trail.items (kept (vertex_at c.args.vertices.now)) s t (λ v. c.settle.ensures.kept v ∙ c.fall.ensures.kept v)
    (trailed_all (length c.args.vertices.now) c.args.trail.now.items c.note_all.new.trail.items s t listed all
    (let n = c.settle.auto.vertices in let m = c.fall.auto.vertices in
    subst (λ n. AllBelow listed n) (n ∙ m) (subst (λ l. AllBelow l (length c.settle.new.vertices)) (sym c.as_slice-listed.ensures.value) c.settle.ensures.inside))
    (λ v. by v (c.accept.ensures.others v)))
  where
    by : (v : ℕ) → IsListed c.as_slice-listed.result.now v ⊎ (vertex_at c.accept.new.vertices v ≡ vertex_at c.settle.new.vertices v)
        → IsListed c.as_slice-listed.result.now v ⊎ (kept (vertex_at c.rest.new.vertices) v ≡ kept (vertex_at c.settle.new.vertices) v)
    by v (inl l) = inl l
    by v (inr e) = inr (c.rest.ensures.kept v ∙ ap (λ (x : Vertex). x.kept) e)

pub returns-in-None-clause-marks : goal.returns-in-None-clause-marks
returns-in-None-clause-marks c =
    λ v. ap (λ (q : Kept). q.touched) (c.rest.ensures.kept v) ∙ c.accept.ensures.marks v ∙ ap (λ (q : Kept). q.touched) (c.settle.ensures.kept v ∙ c.fall.ensures.kept v)
