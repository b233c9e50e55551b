use Rattle.std.proofs.Common.{◌≡◌, List, IfSome, MatchOption, sym, ap, ap₂, subst, ◌∙◌}
use Rattle.std.proofs.lemmas.Result.{IfOk-weaker}
use Rattle.lq_refined_types.specs.Parts.Part.{Scopes}
use Rattle.lq_refined_types.specs.Types.Refined.{Refined}
use Rattle.lq_refined_subtyping.specs.Table.Changes.{changed}
use Rattle.lq_refined_subtyping.specs.Table.Whole.{refined_at, types_of, IsNode}
use Rattle.lq_refined_subtyping.specs.declared.table.changes.Change.{Change}
use Rattle.lq_refined_subtyping.specs.declared.table.table.Delay.{Delay}
use Rattle.lq_refined_subtyping.proofs.TableLemmas.Entries.{pushed_type}
use Rattle.lq_refined_subtyping.proofs.table.table.RefinedTypes.share.Goals as goal

pub returns-in-Some-2-clause-refined : goal.returns-in-Some-2-clause-refined
returns-in-Some-2-clause-refined c =
    let old = c.args.self.now in
    let d = c.in-Some.delay in
    let told = subst (λ o. MatchOption o (IsNode old c.args.at) (λ (x : Delay). (scopes : Scopes)
    → refined_at scopes old c.args.at ≡ changed scopes (types_of scopes old) x.change.value (refined_at scopes old x.at))) c.in-Some.is c.in_ok-delay.ensures.refined in
    let both = subst (λ o. IfSome o (λ (x : Change). (scopes : Scopes) (all : List Refined) (t : Refined)
    → changed scopes all x t ≡ changed scopes all c.deref-in-Some.result.now (changed scopes all c.as_ref-in-Some.result.now t))) c.in-Some-2.is c.in_ok-both.ensures.same in
    IfOk-weaker c.add.result _ _
    (λ n e scopes. pushed_type scopes old.rows.items c.add.new.self.rows.items _ e.1 n e.0
    ∙ ap (λ k. changed scopes (types_of scopes old) k (refined_at scopes old d.at)) c.in_ok-both-2.ensures.ok
    ∙ both scopes (types_of scopes old) (refined_at scopes old d.at)
    ∙ ap₂ (λ k l. changed scopes (types_of scopes old) k (changed scopes (types_of scopes old) l (refined_at scopes old d.at)))
    c.deref-in-Some.ensures c.as_ref-in-Some.ensures
    ∙ ap (changed scopes (types_of scopes old) c.args.change.now.value) (sym (told scopes)))
    c.add.ensures.added

pub returns-clause-refined : goal.returns-clause-refined
returns-clause-refined c =
    let old = c.args.self.now in
    IfOk-weaker c.add-2.result _ _
    (λ n e scopes. pushed_type scopes old.rows.items c.add-2.new.self.rows.items _ e.1 n e.0
    ∙ ap (λ d. changed scopes (types_of scopes old) d (refined_at scopes old c.args.at)) c.in_ok-change.ensures.cases) c.add-2.ensures.added
