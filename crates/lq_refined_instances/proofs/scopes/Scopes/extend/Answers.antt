use Rattle.std.proofs.Common.{◌≡◌, length, vec_len, map, [], ◌∷◌, arith, ◌∙◌, ap, is_ok}
use Rattle.std.proofs.lemmas.List.{length-map, map-append}
use Rattle.lq_refined_instances.specs.Scopes.{grown}
use Rattle.lq_refined_instances.specs.Seen.{added_view}
use Rattle.lq_refined_instances.proofs.Hiding.{counted-pushed}
use Rattle.lq_refined_instances.proofs.Tables.{length-grown, grown-push, below-pushed}
use Rattle.lq_refined_instances.proofs.scopes.Scopes.extend.Goals as goal

pub invariant_of-self : goal.invariant_of-self
invariant_of-self c =
    let old = c.args.self.now.additions.items in
    let new = c.push.new.self.items in
    let m = length-map old added_view in
    let k = length-grown ([] ∷ []) (map added_view old) in
    let r = c.requires.parent in
    record {
      parents = below-pushed added_view (is_ok c.push.result) old new c.args.addition c.push.ensures.items c.args.self.now.parents (omega arith);
      counted = counted-pushed added_view (is_ok c.push.result) old new c.args.addition c.push.ensures.items c.args.self.now.parents c.args.self.now.counted (omega arith) c.requires.counted;
    }

pub returns-clause-added : goal.returns-clause-added
returns-clause-added c =
    let old = c.args.self.now.additions.items in
    ap (λ l. grown ([] ∷ []) (map added_view l)) c.in_ok-push.ensures.items
    ∙ ap (grown ([] ∷ [])) (map-append added_view old (c.args.addition ∷ []))
    ∙ grown-push ([] ∷ []) (map added_view old) (added_view c.args.addition)

pub returns-clause-number : goal.returns-clause-number
returns-clause-number c =
    let items = c.args.self.now.additions.items in
    let v : vec_len c.args.self.now.additions ≡ length items = c.args.self.now.additions.ok.0 in
    let m = length-map items added_view in
    let k = length-grown ([] ∷ []) (map added_view items) in
    let n = c.len.ensures in omega arith
