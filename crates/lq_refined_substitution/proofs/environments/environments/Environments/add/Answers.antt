use Rattle.std.proofs.Common.{◌≡◌, length, vec_len, [], ◌∷◌, arith, ◌∙◌, ap, is_ok}
use Rattle.lq_refined_substitution.specs.Environments.Entries.{grown}
use Rattle.lq_refined_substitution.proofs.EnvironmentsLemmas.Entries.{length-grown, grown-push, below-push}
use Rattle.lq_refined_substitution.proofs.environments.environments.Environments.add.Goals as goal

pub invariant_of-self : goal.invariant_of-self
invariant_of-self c =
    let old = c.args.self.now.entries.items in
    let k = length-grown ([] ∷ []) old in
    let r = c.requires in
    record { parents = below-push (is_ok c.push.result) old c.push.new.self.items record { parent = c.args.parent; part = c.args.part } c.push.ensures.items c.args.self.now.parents (omega arith) }

pub returns-clause-added : goal.returns-clause-added
returns-clause-added c =
    ap (grown ([] ∷ [])) c.in_ok-push.ensures.items ∙ grown-push ([] ∷ []) c.args.self.now.entries.items record { parent = c.args.parent; part = c.args.part }

pub returns-clause-number : goal.returns-clause-number
returns-clause-number c =
    let v : vec_len c.args.self.now.entries ≡ length c.args.self.now.entries.items = c.args.self.now.entries.ok.0 in
    let k = length-grown ([] ∷ []) c.args.self.now.entries.items in
    let n = c.len.ensures in omega arith
