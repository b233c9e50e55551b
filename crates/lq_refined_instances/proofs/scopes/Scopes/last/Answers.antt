use Rattle.std.proofs.Common.{◌≡◌, ℕ, zero, suc, ◌<◌, ◌+◌, ◌-◌, ◌++◌, map, List, [], ◌∷◌, Option, Some, None, slice_get, refl, arith, ◌∙◌, ap, sym, MatchOption, IfSome}
use Rattle.std.specs.Option.{option_map}
use Rattle.std.proofs.lemmas.List.{length-map}
use Rattle.lq_refined_instances.specs.Scopes.{scope_in, without, grown, AreBelow}
use Rattle.lq_refined_instances.specs.Seen.{added_view, hidden_view, visible_view}
use Rattle.lq_refined_instances.specs.Views.{scopes_view}
use Rattle.lq_refined_instances.specs.declared.scopes.Addition.{Addition}
use Rattle.lq_refined_instances.proofs.Tables.{length-grown, grown-keeps, grown-entry, get-map, in-past, get-none}
use Rattle.lq_refined_instances.proofs.scopes.Scopes.last.Goals as goal

number-of : (at : ℕ) → ¬ (at ≡ 0) → at ≡ 1 + (at - 1)
number-of zero z = absurd (z refl)
number-of (suc at) z = omega arith

last-is : (items : List Addition) (at : ℕ) (r : Option Addition) → ¬ (at ≡ 0) → AreBelow (map added_view items) → r ≡ slice_get items (at - 1)
    → let all = grown ([] ∷ []) (map added_view items) in
    MatchOption r (scope_in all at ≡ []) (λ a. scope_in all at ≡ without (hidden_view a.hidden) (scope_in all a.parent) ++ visible_view a.visible ∷ []) × IfSome r (λ a. a.parent < at)
last-is items at (Some a) z below is =
    let i : at ≡ 1 + (at - 1) = number-of at z in
    let g : slice_get (map added_view items) (at - 1) ≡ Some (added_view a) = get-map added_view items (at - 1) ∙ ap (option_map added_view) (sym is) in
    let b = below (at - 1) (added_view a) g in
    (ap (scope_in (grown ([] ∷ []) (map added_view items))) i ∙ grown-entry (map added_view items) ([] ∷ []) (at - 1) (added_view a) g (omega arith), omega arith)
last-is items at None z below is =
    let i : at ≡ 1 + (at - 1) = number-of at z in
    let p = get-none items (at - 1) (sym is) in
    let m = length-map items added_view in
    let k = length-grown ([] ∷ []) (map added_view items) in
    (in-past (grown ([] ∷ []) (map added_view items)) at (omega arith), tt)

pub returns-then-at-eq0-clause-visible : goal.returns-then-at-eq0-clause-visible
returns-then-at-eq0-clause-visible c =
    ap (scope_in (scopes_view c.args.self.now)) c.if-at-eq0.true ∙ grown-keeps ([] ∷ []) (map added_view c.args.self.now.additions.items) 0 (omega arith)

pub returns-clause-visible : goal.returns-clause-visible
returns-clause-visible c =
    let items = c.args.self.now.additions.items in
    let is : c.addition.result ≡ slice_get items (c.args.at - 1) =
    c.addition.ensures
    in
    (last-is items c.args.at c.addition.result c.if-at-eq0.false c.args.self.now.parents is).0

pub returns-clause-earlier : goal.returns-clause-earlier
returns-clause-earlier c =
    let items = c.args.self.now.additions.items in
    let is : c.addition.result ≡ slice_get items (c.args.at - 1) =
    c.addition.ensures
    in
    (last-is items c.args.at c.addition.result c.if-at-eq0.false c.args.self.now.parents is).1
