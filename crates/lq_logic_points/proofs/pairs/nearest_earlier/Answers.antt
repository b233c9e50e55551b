use Rattle.std.proofs.Common.{◌≡◌, ◌∙◌, ◌+◌, [], ◌∷◌, ◌++◌, length, length-append, ap}
use Rattle.lq_logic_predicates.specs.TableView.{terms_of}
use Rattle.lq_logic_predicates.specs.TermView.{sum_of}
use Rattle.lq_logic_points.proofs.Earlier.{latest_more, earlier_more}
use Rattle.lq_logic_points.proofs.pairs.nearest_earlier.Goals as goal

pub loop-at-preserved : goal.loop-at-preserved
loop-at-preserved c =
    let terms = terms_of c.args.terms.now in let n = c.loop-at.at in let t = sum_of c.term.result.now in
    let made : c.push.new.self.items ≡ c.loop-at.earlier.items ++ c.in_ok-before.before ∷ [] = c.in_ok-push.ensures.items in
    let one : length c.loop-at.earlier.items ≡ n = c.loop-at.invariant.length in
    record {
      length = ap length made ∙ length-append c.loop-at.earlier.items (c.in_ok-before.before ∷ []) ∙ ap (λ k. k + 1) one;
      latest = latest_more terms n t c.loop-at.latest.entries c.replace.new.latest.entries c.term.ensures c.loop-at.invariant.latest c.in_ok-before.ensures.new;
      earlier =
          earlier_more terms n t c.loop-at.latest.entries c.loop-at.earlier.items c.push.new.self.items c.in_ok-before.before c.term.ensures c.loop-at.invariant.latest c.in_ok-before.ensures.old
          one made c.loop-at.invariant.earlier;
    }
