use Rattle.std.proofs.Common.{◌≡◌, ◌<◌, ◌≤◌, ℕ, true, All, length, take, get_or, sym, ap, subst, ◌∙◌, arith, rules, take_all, length-append}
use Rattle.std.proofs.lemmas.List.{get_or_read}
use Rattle.lq_types_unify.specs.Nodes.{form_at}
use Rattle.lq_types_unify.specs.Classes.{up, root}
use Rattle.lq_types_unify.specs.Value.{inner, parts_of}
use Rattle.lq_types_unify.specs.Reaching.{IsMet}
use Rattle.lq_types_unify.proofs.Roots.{read_up}
use Rattle.lq_types_unify.proofs.Rows.{one_more}
use Rattle.lq_types_unify.proofs.Same.{same_then}
use Rattle.lq_types_unify.proofs.Listing.{listed_back, met_still, met_by, seen_by, on_still, seen_none}
use Rattle.lq_types_unify.proofs.reaching.reach.Goals as goal

pub classes-init : goal.classes-init
classes-init c =
    let e = c.in_ok-meet_all.ensures in
    record {
      same = c.meet_all.ensures.classes;
      within = omega arith;
      listed = e.listed;
      begins = e.met;
      goes_on = λ k d h. absurd (omega arith);
      only = λ seen inherited nodes. e.among seen (seen_none c.new-classes.result.items seen c.new-classes.ensures.items) nodes;
    }

pub classes-preserved : goal.classes-preserved
classes-preserved c =
    let a = c.args.arena.now in
    let forms = form_at a in
    let n = length a.nodes.items in
    let shapes = c.args.shapes.now in
    let weak = c.args.weak.now in
    let old = c.args.parents.now in
    let i = c.classes.invariant in
    let e = c.in_ok-meet_parts.ensures in
    let at : ℕ = c.classes.at in
    let classes = c.classes.classes.items in
    let longer = c.meet_parts.new.classes.items in
    let more = c.meet_parts.new.copies in
    let class = c.index.result.now in
    let here : at < length classes = search rules in
    let is : class ≡ get_or classes at class = c.index.ensures in
    let low : class < n = subst (λ (j : ℕ). j < n) (sym (get_or_read classes at class here is 0)) (i.listed.inside at here) in
    let shape : get_or shapes class 0 ≡ up shapes class = read_up shapes class (let m = c.requires.shapes_length in omega arith) in
    let met = subst (λ j. All (λ p. IsMet forms n shapes weak more (root c.classes.parents p)) (parts_of (forms j))) shape e.met in
    record {
      same = same_then old c.classes.parents c.meet_parts.new.parents i.same c.meet_parts.ensures.classes;
      within = let l = ap length e.lists.longer_is in omega (arith, length-append classes e.lists.added);
      listed = e.listed;
      begins = met_still forms n old shapes weak c.classes.copies more classes longer c.args.nodes.now e.lists i.begins;
      goes_on = one_more (λ r. All (λ p. IsMet forms n shapes weak more (root old p)) (inner forms shapes r)) classes longer e.lists.added at class e.lists.longer_is here is
          (on_still forms n old shapes weak c.classes.copies more classes longer (take at classes) e.lists i.goes_on)
          (met_by forms n old c.classes.parents shapes weak more (inner forms shapes class) i.same met);
      only = λ seen inherited nodes.
          let before = i.only seen inherited nodes in
          e.among seen before (subst (λ j. All (λ p. seen (root c.classes.parents p) ≡ true) (parts_of (forms j))) (sym shape)
          (seen_by old c.classes.parents (inner forms shapes class) seen i.same (inherited class (ap seen is ∙ before at class here))));
    }

pub returns-clause-reached : goal.returns-clause-reached
returns-clause-reached c =
    let forms = form_at c.args.arena.now in
    let n = length c.args.arena.now.nodes.items in
    let i = c.classes.invariant in
    let past : length c.classes.classes.items ≤ c.classes.at = search rules in
    record {
      listed = listed_back forms n c.args.parents.now c.classes.parents c.args.shapes.now c.args.weak.now c.classes.copies c.classes.classes.items i.same i.listed;
      begins = i.begins;
      goes_on = subst (All (λ r. All (λ p. IsMet forms n c.args.shapes.now c.args.weak.now c.classes.copies (root c.args.parents.now p)) (inner forms c.args.shapes.now r)))
          (take_all c.classes.at c.classes.classes.items past) i.goes_on;
      only = i.only;
    }
