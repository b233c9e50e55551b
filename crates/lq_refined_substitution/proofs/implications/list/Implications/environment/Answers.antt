use Rattle.std.proofs.Common.{◌≡◌, ◌∙◌, ◌<◌, ◌++◌, ◌∷◌, [], ap, length, vec_len, arith, sym, refl}
use Rattle.std.proofs.lemmas.List.{append-nil}
use Rattle.lq_refined_substitution.specs.Environments.Whole.{environments_of}
use Rattle.lq_refined_substitution.specs.Implications.Views.{environment_at}
use Rattle.lq_refined_substitution.specs.Substitution.Views.{part_view}
use Rattle.lq_refined_substitution.specs.Substitution.Numbered.{last-numbered}
use Rattle.lq_refined_substitution.proofs.ImplicationsLemmas.Environments.{empty-left, last-left}
use Rattle.lq_refined_substitution.proofs.implications.list.Implications.environment.Goals as goal

pub returns-in-None-clause-hypotheses : goal.returns-in-None-clause-hypotheses
returns-in-None-clause-hypotheses c =
    let all = c.args.self.now in
    sym (append-nil (environment_at all c.args.at)) ∙ empty-left all.parts.items (environments_of all.environments) c.args.at [] refl c.in-None.ensures.hypotheses

pub index-requires : goal.index-requires
index-requires c =
    let all = c.args.self.now in
    let v : vec_len all.parts ≡ length all.parts.items = all.parts.ok.0 in
    let h : c.in-Some.last.part < length all.parts.items =
    last-numbered (length all.parts.items) (environments_of all.environments) c.args.at c.in-Some.last.parent c.in-Some.last.part all.numbered
    c.in-Some.ensures.hypotheses in omega arith

pub returns-in-Some-clause-hypotheses : goal.returns-in-Some-clause-hypotheses
returns-in-Some-clause-hypotheses c =
    let all = c.args.self.now in
    let E = environments_of all.environments in
    let h = last-numbered (length all.parts.items) E c.args.at c.in-Some.last.parent c.in-Some.last.part all.numbered c.in-Some.ensures.hypotheses in
    sym (append-nil (environment_at all c.args.at)) ∙ last-left all.parts.items E c.args.at c.in-Some.last.parent c.in-Some.last.part [] c.index.result.now refl c.in-Some.ensures.hypotheses h c.index.ensures
    ∙ ap (λ l. l ++ part_view c.index.result.now ∷ []) (append-nil (environment_at all c.in-Some.last.parent))
