use Rattle.std.proofs.Common.{◌≡◌, ◌+◌, ◌-◌, ◌<◌, Some, arith, length, map, slice_get, subst, sym}
use Rattle.std.proofs.lemmas.List.{length-map}
use Rattle.lq_solve_facts.proofs.FactsLemmas.Holding.{keeps_self, keeps_then}
use Rattle.lq_solve_facts.proofs.FactsLemmas.Members.{item_here}
use Rattle.lq_solve_facts.specs.Nearest.Reading.{AreRead}
use Rattle.lq_refined_types.specs.Parts.Assignment.{part_under}
use Rattle.lq_logic_predicates.specs.ClosedImplication.{MeetsEach}
use Rattle.lq_solve_fixpoint.specs.Questions.Assigned.{assignment_of}
use Rattle.lq_refined_substitution.specs.Substitution.Views.{part_view}
use Rattle.lq_refined_substitution.specs.declared.substitution.parts.Part as code
use Rattle.lq_solve_facts.proofs.StoreLemmas.Standing.{get_mapped}
use Rattle.lq_solve_facts.proofs.StoreLemmas.Ways.{part_met, read_all, read_next, read_none}
use Rattle.lq_solve_facts.proofs.store.left.add_parts.Goals as goal

pub loop-part-init : goal.loop-part-init
loop-part-init c = record {
  behind = omega arith;
  held = λ F a s p h m. h;
  keeps = keeps_self _;
  read = λ F a s. read_none c.args.known.now;
  stored = λ F a s. a;
}

pub loop-part-preserved : goal.loop-part-preserved
loop-part-preserved c =
    let A = assignment_of c.args.instances.now c.args.chosen.now in
    let parts = c.args.parts.now in
    let i = c.loop-part.part-index in
    let q = c.part-item.result in
    let before = c.loop-part.invariant in
    let w = before.behind in
    let inside : i < length parts = c.loop-part-test.true in
    let n = length-map parts part_view in
    let here : slice_get (map part_view parts) i ≡ Some (part_view q) = get_mapped part_view parts i q (item_here parts i q inside c.part-item.is) in
    let last : i + (c.loop-part.behind - 1) + 1 ≡ length (map part_view parts) = omega (arith, w, inside, n) in
    record {
      behind = omega (arith, w, inside);
      held = λ F a s p h m.
          c.in_ok-add_part.ensures.held F (before.stored F a s) (s i (c.loop-part.behind - 1) (part_view q) here last) p (before.held F a s p h m)
          (subst (λ (x : code.Part). MeetsEach p (part_under A (part_view x))) (sym c.part-item.is) (part_met A p parts i q inside m));
      keeps = keeps_then _ _ _ before.keeps c.in_ok-add_part.ensures.keeps;
      read = λ F a s. read_next A c.args.known.now c.loop-part.known c.add_part.new.known parts i q inside c.in_ok-add_part.ensures.keeps (before.read F a s)
          (subst (λ (x : code.Part). AreRead c.loop-part.known c.add_part.new.known (part_under A (part_view x))) c.part-item.is
          (c.in_ok-add_part.ensures.read F (before.stored F a s) (s i (c.loop-part.behind - 1) (part_view q) here last)));
      stored = λ F a s. c.add_part.ensures.stored F (before.stored F a s) (s i (c.loop-part.behind - 1) (part_view q) here last);
    }

pub returns-clause-read : goal.returns-clause-read
returns-clause-read c = λ F a s.
    read_all (assignment_of c.args.instances.now c.args.chosen.now) c.args.known.now c.loop-part.known c.args.parts.now c.loop-part.part-index c.loop-part-test.false (c.loop-part.invariant.read F a s)

pub returns-in_err-add_part-clause-keeps : goal.returns-in_err-add_part-clause-keeps
returns-in_err-add_part-clause-keeps c = keeps_then _ _ _ c.loop-part.invariant.keeps c.add_part.ensures.keeps

pub returns-in_err-add_part-clause-stored : goal.returns-in_err-add_part-clause-stored
returns-in_err-add_part-clause-stored c = λ F a s.
    let parts = c.args.parts.now in
    let i = c.loop-part.part-index in
    let q = c.part-item.result in
    let before = c.loop-part.invariant in
    let w = before.behind in
    let inside : i < length parts = c.loop-part-test.true in
    let n = length-map parts part_view in
    let here : slice_get (map part_view parts) i ≡ Some (part_view q) = get_mapped part_view parts i q (item_here parts i q inside c.part-item.is) in
    let last : i + (c.loop-part.behind - 1) + 1 ≡ length (map part_view parts) = omega (arith, w, inside, n) in
    c.add_part.ensures.stored F (before.stored F a s) (s i (c.loop-part.behind - 1) (part_view q) here last)
