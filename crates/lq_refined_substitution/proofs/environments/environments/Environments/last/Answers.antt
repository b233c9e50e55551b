use Rattle.std.proofs.Common.{◌≡◌, ℕ, zero, suc, ◌<◌, ◌+◌, ◌-◌, length, vec_len, [], ◌∷◌, slice_get, Some, refl, arith, ◌∙◌, ap}
use Rattle.std.proofs.lemmas.Option.{slice_get_read}
use Rattle.lq_refined_substitution.specs.Environments.Entries.{at}
use Rattle.lq_refined_substitution.specs.Environments.Whole.{environments_of}
use Rattle.lq_refined_substitution.proofs.EnvironmentsLemmas.Entries.{length-grown, grown-keeps, grown-entry}
use Rattle.lq_refined_substitution.proofs.environments.environments.Environments.last.Goals as goal

entry_within : (a n : ℕ) → ¬ (a ≡ 0) → a < n + 1 → a - 1 < n
entry_within zero n z h = absurd (z refl)
entry_within (suc a) n z h = omega arith

entry_number : (a : ℕ) → ¬ (a ≡ 0) → a ≡ 1 + (a - 1)
entry_number zero z = absurd (z refl)
entry_number (suc a) z = omega arith

pub returns-then-at-eq0-clause-hypotheses : goal.returns-then-at-eq0-clause-hypotheses
returns-then-at-eq0-clause-hypotheses c =
    ap (at (environments_of c.args.self.now)) c.if-at-eq0.true ∙ grown-keeps ([] ∷ []) c.args.self.now.entries.items 0 (omega arith)

pub index-requires : goal.index-requires
index-requires c =
    let v : vec_len c.args.self.now.entries ≡ length c.args.self.now.entries.items = c.args.self.now.entries.ok.0 in
    let k = length-grown ([] ∷ []) c.args.self.now.entries.items in
    let r = c.requires in
    let n : ¬ (c.args.at ≡ 0) = c.if-at-eq0.false in
    entry_within c.args.at (vec_len c.args.self.now.entries) n (omega arith)

pub returns-clause-hypotheses : goal.returns-clause-hypotheses
returns-clause-hypotheses c =
    let items = c.args.self.now.entries.items in
    let e = c.index.result.now in
    let v : vec_len c.args.self.now.entries ≡ length items = c.args.self.now.entries.ok.0 in
    let k = length-grown ([] ∷ []) items in
    let r = c.requires in
    let n : ¬ (c.args.at ≡ 0) = c.if-at-eq0.false in
    let g : slice_get items (c.args.at - 1) ≡ Some e = slice_get_read items (vec_len c.args.self.now.entries) (c.args.at - 1) e v (entry_within c.args.at (vec_len c.args.self.now.entries) n (omega arith)) c.index.ensures in
    let b = c.args.self.now.parents (c.args.at - 1) e g in
    let i : c.args.at ≡ 1 + (c.args.at - 1) = entry_number c.args.at n in
    ap (at (environments_of c.args.self.now)) i ∙ grown-entry items ([] ∷ []) (c.args.at - 1) e g (omega arith)

pub returns-clause-earlier : goal.returns-clause-earlier
returns-clause-earlier c =
    let items = c.args.self.now.entries.items in
    let e = c.index.result.now in
    let v : vec_len c.args.self.now.entries ≡ length items = c.args.self.now.entries.ok.0 in
    let k = length-grown ([] ∷ []) items in
    let r = c.requires in
    let n : ¬ (c.args.at ≡ 0) = c.if-at-eq0.false in
    let g : slice_get items (c.args.at - 1) ≡ Some e = slice_get_read items (vec_len c.args.self.now.entries) (c.args.at - 1) e v (entry_within c.args.at (vec_len c.args.self.now.entries) n (omega arith)) c.index.ensures in
    let b = c.args.self.now.parents (c.args.at - 1) e g in
    let i : c.args.at ≡ 1 + (c.args.at - 1) = entry_number c.args.at n in
    omega arith
