use Rattle.std.proofs.Common.{◌∙◌, is_ok, length, sym, ap}
use Rattle.lq_refined_instances.specs.Views.{unknowns_view}
use Rattle.lq_refined_copies.specs.Longer.{Longer}
use Rattle.lq_refined_copies.specs.Views.{patterns_of, table_of}
use Rattle.lq_refined_copies.proofs.Longer.{inside_kept, longer_same, longer_seen, runs_kept}
use Rattle.lq_refined_copies.proofs.unknowns.SharedUnknowns.add_pattern.Goals as goal
use Rattle.std.specs.Prelude.{map}

pub invariant_of-self : goal.invariant_of-self
invariant_of-self c =
    let self = c.args.self.now in
    let Γs = table_of self in
    let old = patterns_of self in
    let new = c.push.new.self.items in
    let l : Longer old (map unknowns_view new) = longer_seen unknowns_view (is_ok c.push.result) self.patterns.items new c.args.pattern c.push.ensures.items in
    record {
      inside = inside_kept Γs Γs old (map unknowns_view new) (longer_same Γs) l self.runs.items self.inside;
      counted = self.counted ∙ ap length (sym (runs_kept Γs Γs old (map unknowns_view new) (longer_same Γs) l self.runs.items self.inside));
    }

pub returns-clause-unknowns : goal.returns-clause-unknowns
returns-clause-unknowns c =
    let self = c.args.self.now in
    let Γs = table_of self in
    let old = patterns_of self in
    let new = c.push.new.self.items in
    let l : Longer old (map unknowns_view new) = longer_seen unknowns_view (is_ok c.push.result) self.patterns.items new c.args.pattern c.push.ensures.items in
    runs_kept Γs Γs old (map unknowns_view new) (longer_same Γs) l self.runs.items self.inside
