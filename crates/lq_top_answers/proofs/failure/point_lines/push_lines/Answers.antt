use Rattle.std.proofs.Common.{◌≡◌, ℕ, List, [], sym, subst, arith, rules}
use Rattle.std.proofs.lemmas.List.{length-map}
use Rattle.lq_logic_text.specs.Views.{calling_view}
use Rattle.lq_logic_points.specs.Values.{point_of_values}
use Rattle.lq_top_answers.specs.Failure.Adding.{ShowsFirst}
use Rattle.lq_top_answers.specs.Failure.Collected.{valued_view, valued_views}
use Rattle.lq_top_answers.proofs.FailureLemmas.Lines.{all_added, none_shown, one_more}
use Rattle.lq_top_answers.proofs.failure.point_lines.push_lines.Goals as goal

pub loop-at-init : goal.loop-at-init
loop-at-init c =
    let calling = calling_view c.args.calling.now in
    let p = point_of_values c.args.values.now in
    let xs = valued_views c.args.seen.now.keys in
    let none : c.new-classes.result.keys ≡ [] = search rules in
    subst (λ (l : List ℕ). ShowsFirst calling p xs 0 c.args.line.now.items c.args.line.now.items l) (sym none) (none_shown calling p xs c.args.line.now.items)

pub loop-at-preserved : goal.loop-at-preserved
loop-at-preserved c =
    one_more (calling_view c.args.calling.now) (point_of_values c.args.values.now) (valued_views c.args.seen.now.keys) c.loop-at.at (valued_view c.valued_at-valued.result)
    c.args.line.now.items c.loop-at.line.items c.push_value_line.new.line.items c.loop-at.classes.keys c.push_value_line.new.classes.keys
    c.valued_at-valued.ensures c.loop-at.invariant c.in_ok-push_value_line.ensures

pub returns : goal.returns
returns c =
    let n = length-map c.args.seen.now.keys valued_view in
    all_added (calling_view c.args.calling.now) (point_of_values c.args.values.now) (valued_views c.args.seen.now.keys) c.loop-at.at c.args.line.now.items c.loop-at.line.items c.loop-at.classes.keys
    (omega (arith, n)) c.loop-at.invariant
