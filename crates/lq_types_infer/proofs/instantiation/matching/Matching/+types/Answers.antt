use Rattle.std.specs.Prelude.{slice_index_or}
use Rattle.std.proofs.Common.{◌≡◌, ℕ, ◌<◌, ◌≤◌, subst, Some, false, length, refl, sym, ap, ◌∙◌, arith, set, get_or}
use Rattle.std.proofs.lemmas.List.{length-map, get_or_read_under}
use Rattle.std.proofs.Math.Logic.{∥∥₁_map}
use Rattle.lq_text_tree.specs.MlType.{MlType}
use Rattle.lq_types_table.specs.Nodes.{at}
use Rattle.lq_types_table.specs.Whole.{types_of}
use Rattle.lq_types_rules.specs.Typings.Principal.{is_open}
use Rattle.lq_types_infer.specs.Annotation.Bounds.{bound_of}
use Rattle.lq_types_infer.specs.Annotation.Numbering.{variable_in}
use Rattle.lq_types_infer.specs.Instantiation.Matching.{Becomes, IsNoted}
use Rattle.lq_types_infer.proofs.InstantiationLemmas.Parts.{closed_each}
use Rattle.lq_types_infer.proofs.InstantiationLemmas.Walking.{as_many_merely, parts_become, part_bound, parts_next, parts_done, variable_low, stays_noted, noted_there, met_more, closed_at}
use Rattle.lq_types_infer.proofs.instantiation.matching.Matching.+types.Goals as goal

pub enter-returns-in-Some-clause-walked : goal.enter-returns-in-Some-clause-walked
enter-returns-in-Some-clause-walked t c = λ by b m.
    let all = types_of c.args.table.now in
    let d = c.args.definition in
    let r = c.args.used in
    let v = c.in-Some.variable in
    let found = c.args.self.now.found.items in
    let is : variable_in (at all d) ≡ Some v =
    sym (ap variable_in c.node.ensures.types) ∙ sym (c.variable_in.ensures all) ∙ c.in-Some.is in
    let low : v < length found = variable_low (at all d) v (length found) is c.requires.room in
    let goes = stays_noted all by found d r v is low b in (
      record { met = met_more all by c.args.self.now.stamps.items found (set found v r) c.args.self.now.turn goes m; kept = goes },
      noted_there all by found d r v is low b,
    )

pub walk-returns-then-not-index-clause-walked : goal.walk-returns-then-not-index-clause-walked
walk-returns-then-not-index-clause-walked t c = λ by b m.
    let all = types_of c.args.table.now in
    let d = c.args.definition in
    let opens = c.args.self.now.with_variables.items in
    let low : d < length opens =
    let e = ap length c.requires.matching.opens in
    let n = length-map all is_open in
    let l = c.requires.definition in
    omega (arith, e, n, l) in
    let is : slice_index_or opens d false ≡ false =
    sym (get_or_read_under opens d (length opens) c.index.result.now false c.index.ensures low refl) ∙ c.if-not-index.true in (
      record { met = m; kept = λ v h. h },
      closed_each (IsNoted all by c.args.self.now.found.items) (at all d)
          (closed_at all opens d c.requires.matching.opens c.requires.definition is),
    )

pub walk_parts-bounds-others-at : goal.walk_parts-bounds-others-at
walk_parts-bounds-others-at t c =
    let l = c.loop-at-test.true in
    let n = as_many_merely (types_of c.args.table.now) c.args.definition c.args.used c.parts-parts.result.now c.parts-others.result.now
    c.parts-parts.ensures.over c.parts-others.ensures.over c.requires.other c.requires.becomes in omega (arith, n, l)

pub walk_parts-walk-requires : goal.walk_parts-walk-requires
walk_parts-walk-requires t c =
    let all = types_of c.args.table.now in
    let d = c.args.definition in
    let r = c.args.used in
    let i = c.loop-at.at in
    let ps = c.parts-parts.result.now in
    let qs = c.parts-others.result.now in
    let over_d = c.parts-parts.ensures.over in
    let over_r = c.parts-others.ensures.over in
    let l = c.loop-at-test.true in
    let n = as_many_merely all d r ps qs over_d over_r c.requires.other c.requires.becomes in
    let low : get_or ps i 0 < d = c.parts-parts.ensures.earlier i 0 l in
    let less : get_or qs i 0 < r = c.parts-others.ensures.earlier i 0 (omega (arith, n, l)) in
    let room : bound_of (at all d) ≤ length c.loop-at.self.found.items =
    subst (λ (k : ℕ). bound_of (at all d) ≤ k) (sym c.loop-at.invariant.same.room) c.requires.room in
    let h = c.requires.definition in
    let k = c.requires.used in
    let bounded = part_bound all d ps (length c.loop-at.self.found.items) over_d room i l in
    let become : ∥ ((by : ℕ → MlType) × Becomes all by (get_or ps i 0) (get_or qs i 0)) ∥₁ =
    ∥∥₁_map c.requires.becomes (λ b. (b.0, parts_become all b.0 d r ps qs over_d over_r c.requires.other b.1 i l)) in (
      (let e = c.decreases in omega (arith, low, e)),
      (omega (arith, low, h), (omega (arith, less, k), (c.loop-at.invariant.matching, (bounded, become)))),
    )

pub walk_parts-loop-at-preserved : goal.walk_parts-loop-at-preserved
walk_parts-loop-at-preserved t c =
    let all = types_of c.args.table.now in
    let d = c.args.definition in
    let r = c.args.used in
    let i = c.loop-at.at in
    let ps = c.parts-parts.result.now in
    let qs = c.parts-others.result.now in
    let over_d = c.parts-parts.ensures.over in
    record {
      matching = c.walk.ensures.matching;
      same = record {
        turn = c.walk.ensures.same.turn ∙ c.loop-at.invariant.same.turn;
        room = c.walk.ensures.same.room ∙ c.loop-at.invariant.same.room;
      };
      walked = λ by b m.
          let before = c.loop-at.invariant.walked by b m in
          parts_next all by c.args.self.now c.loop-at.self c.walk.new.self d ps over_d c.requires.other i (get_or ps i 0) refl before
          (c.walk.ensures.walked by
          (parts_become all by d r ps qs over_d c.parts-others.ensures.over c.requires.other b i c.loop-at-test.true) before.stays.met);
    }

pub walk_parts-returns-clause-walked : goal.walk_parts-returns-clause-walked
walk_parts-returns-clause-walked t c = λ by b m.
    parts_done (types_of c.args.table.now) by c.args.self.now c.loop-at.self c.loop-at.self c.args.definition c.parts-parts.result.now
    c.parts-parts.ensures.over c.requires.other c.loop-at.at c.loop-at-test.false (c.loop-at.invariant.walked by b m)
