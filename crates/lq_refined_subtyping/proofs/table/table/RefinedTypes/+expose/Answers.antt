use Rattle.std.proofs.Common.{◌≡◌, ◌<◌, ◌∷◌, All, MatchOption, IfSome, Some, sym, ap, subst, ◌∙◌, arith}
use Rattle.std.proofs.lemmas.List.Elements.{All-tail, All-weaker}
use Rattle.std.proofs.lemmas.Result.{IfOk-weaker}
use Rattle.lq_refined_types.specs.Parts.Part.{Scopes}
use Rattle.lq_refined_subtyping.specs.declared.table.table.Delay.{Delay}
use Rattle.lq_refined_subtyping.specs.Table.Changes.{changed, change_rows, replaced}
use Rattle.lq_refined_subtyping.specs.Table.Growing.{extends-there}
use Rattle.lq_refined_subtyping.specs.Table.Whole.{count_of, refined_at, types_of, IsNode}
use Rattle.lq_refined_subtyping.proofs.TableLemmas.Changing.{replaced-some, replaced-earlier}
use Rattle.lq_refined_subtyping.proofs.TableLemmas.Entries.{changed-grown}
use Rattle.lq_refined_substitution.specs.Substitution.Views.{scopes_view}
use Rattle.lq_refined_subtyping.proofs.table.table.RefinedTypes.+expose.Goals as goal

pub expose-requires : goal.expose-requires
expose-requires t c =
    let self = c.args.self.now in
    let d = c.in-Some.delay in
    let S = scopes_view c.args.scopes.now in
    let chosen = subst (λ e. Some c.in-Some-chosen.chosen ≡ replaced e (refined_at S self d.at)) c.as_ref.ensures (c.in-Some-chosen.ensures S) in
    let low : All (λ p. p < c.args.at) (d.at ∷ change_rows d.change.value) =
    subst (λ o. IfSome o (λ (x : Delay). All (λ p. p < c.args.at) (x.at ∷ change_rows x.change.value))) c.in-Some.is c.in_ok-delay.ensures.earlier in
    let below : c.in-Some-chosen.chosen < c.args.at =
    replaced-earlier d.change.value (refined_at S self d.at) c.in-Some-chosen.chosen c.args.at (sym chosen)
    (All-tail (λ p. p < c.args.at) d.at (change_rows d.change.value) low) in
    let m : c.args.at ≡ t = c.decreases in
    let n : c.args.at < count_of self = c.requires in
    (omega arith, omega arith)

pub returns-in-Some-chosen-clause-refined : goal.returns-in-Some-chosen-clause-refined
returns-in-Some-chosen-clause-refined t c =
    let self = c.args.self.now in
    let d = c.in-Some.delay in
    let S = scopes_view c.args.scopes.now in
    let all = types_of S self in
    let chosen = subst (λ e. Some c.in-Some-chosen.chosen ≡ replaced e (refined_at S self d.at)) c.as_ref.ensures (c.in-Some-chosen.ensures S) in
    let told = subst (λ o. MatchOption o (IsNode self c.args.at) (λ (x : Delay). (scopes : Scopes)
    → refined_at scopes self c.args.at ≡ changed scopes (types_of scopes self) x.change.value (refined_at scopes self x.at))) c.in-Some.is c.in_ok-delay.ensures.refined in
    IfOk-weaker c.expose.result _ _
    (λ n h. h ∙ sym (replaced-some S all d.change.value (refined_at S self d.at) c.in-Some-chosen.chosen (sym chosen)) ∙ sym (told S))
    c.expose.ensures.refined

pub changed-requires-clause-types : goal.changed-requires-clause-types
changed-requires-clause-types t c =
    let self = c.args.self.now in
    let new = c.expose-in-None.new.self in
    let d = c.in-Some.delay in
    let low : All (λ p. p < c.args.at) (d.at ∷ change_rows d.change.value) =
    subst (λ o. IfSome o (λ (x : Delay). All (λ p. p < c.args.at) (x.at ∷ change_rows x.change.value))) c.in-Some.is c.in_ok-delay.ensures.earlier in
    let n : c.args.at < count_of self = c.requires in
    All-weaker (λ p. p < c.args.at) (λ p. p < count_of new)
    (λ p l. extends-there self.rows.items new.rows.items p c.expose-in-None.ensures.grows (omega arith)) (change_rows d.change.value)
    (All-tail (λ p. p < c.args.at) d.at (change_rows d.change.value) low)

pub returns-clause-refined : goal.returns-clause-refined
returns-clause-refined t c =
    let self = c.args.self.now in
    let new = c.expose-in-None.new.self in
    let d = c.in-Some.delay in
    let S = scopes_view c.args.scopes.now in
    let n : c.args.at < count_of self = c.requires in
    let told = subst (λ o. MatchOption o (IsNode self c.args.at) (λ (x : Delay). (scopes : Scopes)
    → refined_at scopes self c.args.at ≡ changed scopes (types_of scopes self) x.change.value (refined_at scopes self x.at))) c.in-Some.is c.in_ok-delay.ensures.refined in
    let low : All (λ p. p < c.args.at) (d.at ∷ change_rows d.change.value) =
    subst (λ o. IfSome o (λ (x : Delay). All (λ p. p < c.args.at) (x.at ∷ change_rows x.change.value))) c.in-Some.is c.in_ok-delay.ensures.earlier in
    let inside : All (λ p. p < count_of self) (change_rows d.change.value) =
    All-weaker (λ p. p < c.args.at) (λ p. p < count_of self) (λ p l. omega arith) (change_rows d.change.value)
    (All-tail (λ p. p < c.args.at) d.at (change_rows d.change.value) low) in
    IfOk-weaker c.changed.result _ _
    (λ k h. h ∙ ap (changed S (types_of S new) d.change.value) c.in_ok-exposed-in-None.ensures.refined
    ∙ changed-grown S self.rows.items new.rows.items d.change.value (refined_at S self d.at) c.expose-in-None.ensures.grows inside ∙ sym (told S))
    c.changed.ensures.refined
