use Rattle.std.proofs.Common.{◌≡◌, ◌<◌, length, vec_len, arith, rules}
use Rattle.lq_refined_substitution.specs.Environments.Whole.{environments_of}
use Rattle.lq_refined_substitution.specs.Substitution.Numbered.{last-numbered}
use Rattle.lq_refined_substitution.proofs.ImplicationsLemmas.Environments.{empty-left, last-left}
use Rattle.lq_refined_substitution.proofs.implications.hypotheses.Hypotheses.take_outer.Goals as goal

pub returns-in_err-last : goal.returns-in_err-last
returns-in_err-last c =
    let self = c.args.self.now in
    let all = self.all.now in
    let e = empty-left all.parts.items (environments_of all.environments) self.env self.left.now c.requires c.in_err-last.ensures.hypotheses in search rules

pub index-requires : goal.index-requires
index-requires c =
    let self = c.args.self.now in
    let all = self.all.now in
    let v : vec_len all.parts ≡ length all.parts.items = all.parts.ok.0 in
    let h : c.in_ok-last.last.part < length all.parts.items =
    last-numbered (length all.parts.items) (environments_of all.environments) self.env c.in_ok-last.last.parent c.in_ok-last.last.part all.numbered
    c.in_ok-last.ensures.hypotheses in omega arith

pub returns : goal.returns
returns c =
    let self = c.args.self.now in
    let all = self.all.now in
    let E = environments_of all.environments in
    last-left all.parts.items E self.env c.in_ok-last.last.parent c.in_ok-last.last.part self.left.now c.index.result.now c.requires
    c.in_ok-last.ensures.hypotheses
    (last-numbered (length all.parts.items) E self.env c.in_ok-last.last.parent c.in_ok-last.last.part all.numbered c.in_ok-last.ensures.hypotheses)
    c.index.ensures
