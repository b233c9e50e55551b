use Rattle.std.proofs.Common.{length, ◌∙◌, rules}
use Rattle.lq_refined_substitution.specs.Environments.Whole.{environments_of}
use Rattle.lq_refined_substitution.specs.Substitution.Numbered.{numbered-either}
use Rattle.lq_refined_substitution.proofs.ImplicationsLemmas.Environments.{lists_of, lists-added, lists-kept, lists-more, length-more, placed-more, implications-more}
use Rattle.lq_refined_substitution.proofs.implications.list.Implications.add_env.Goals as goal

pub invariant_of-self-2 : goal.invariant_of-self-2
invariant_of-self-2 c =
    let self = c.args.self.now in
    let all = environments_of self.environments in
    let new = environments_of c.add.new.self in
    let number = c.len-number.ensures ∙ self.parts.ok.0 in
    record {
      numbered = numbered-either self.parts.items c.push.new.self.items c.args.part all new c.args.parent c.len-number.result number
          c.in_ok-push.ensures.items self.numbered c.add.result c.add.ensures.added c.add.ensures.kept;
      placed = placed-more (length all) (length new) self.items.items
          (length-more self.parts.items c.push.new.self.items c.args.part all new c.args.parent c.len-number.result number
          c.in_ok-push.ensures.items self.numbered c.add.result c.add.ensures.added c.add.ensures.kept)
          self.placed;
      counted = self.counted;
      small = self.small;
    }

pub returns-clause-added : goal.returns-clause-added
returns-clause-added c =
    let self = c.args.self.now in
    lists-added self.parts.items c.push.new.self.items c.args.part (environments_of self.environments) (environments_of c.add.new.self)
    c.args.parent c.len-number.result (c.len-number.ensures ∙ self.parts.ok.0) c.in_ok-push.ensures.items self.numbered c.in_ok-added.ensures.added

pub returns-in_err-added-clause-kept : goal.returns-in_err-added-clause-kept
returns-in_err-added-clause-kept c =
    let self = c.args.self.now in
    let kept = lists-kept self.parts.items c.push.new.self.items c.args.part (environments_of self.environments) (environments_of c.add.new.self)
    c.args.parent c.len-number.result (c.len-number.ensures ∙ self.parts.ok.0) c.in_ok-push.ensures.items self.numbered c.in_err-added.ensures.kept in search rules

pub returns-clause-implications : goal.returns-clause-implications
returns-clause-implications c =
    let self = c.args.self.now in
    let all = environments_of self.environments in
    implications-more self.parts.items all (lists_of c.push.new.self.items (environments_of c.add.new.self)) self.items.items
    (lists-more self.parts.items c.push.new.self.items c.args.part all (environments_of c.add.new.self) c.args.parent c.len-number.result
    (c.len-number.ensures ∙ self.parts.ok.0) c.in_ok-push.ensures.items self.numbered c.add.result c.add.ensures.added c.add.ensures.kept)
    self.placed

pub returns-in_err-added-clause-implications : goal.returns-in_err-added-clause-implications
returns-in_err-added-clause-implications c =
    let self = c.args.self.now in
    let all = environments_of self.environments in
    let same = implications-more self.parts.items all (lists_of c.push.new.self.items (environments_of c.add.new.self)) self.items.items
    (lists-more self.parts.items c.push.new.self.items c.args.part all (environments_of c.add.new.self) c.args.parent c.len-number.result
    (c.len-number.ensures ∙ self.parts.ok.0) c.in_ok-push.ensures.items self.numbered c.add.result c.add.ensures.added c.add.ensures.kept)
    self.placed in search rules
