use Rattle.std.proofs.Common.{◌≡◌, ◌+◌, ℕ, ◌<◌, ◌≤◌, inl, inr, List, length, get_or, set, sym, ap, subst, ◌∙◌, arith, rules, below_more}
use Rattle.std.proofs.lemmas.Bool.{cases_eq, cases_lt}
use Rattle.lq_types_unify.specs.Classes.{up, root, IsDown, IsSame}
use Rattle.lq_types_unify.proofs.Roots.{root_self, root_up, halved, read_up, read_over, up_set_same, up_set_other, up_past}
use Rattle.lq_types_unify.proofs.Same.{same_self, same_then}
use Rattle.lq_types_unify.proofs.merge.flatten.Goals as goal

inside : (ps : List ℕ) → IsDown ps → (i : ℕ) → i < length ps → get_or ps i 0 < length ps
inside ps d i h = let e = read_up ps i h in let l : up ps i ≤ i = d i in omega arith

-- the parent of the parent is the root, where the nodes below are done
over_root : (old ps : List ℕ) (at : ℕ) → IsSame old ps → ((i : ℕ) → i < at → up ps i ≡ root old i) → up ps (up ps at) ≡ root old at
over_root old ps at s flat = elim (cases_eq (up ps at) at) [
  | inl e ↦ ap (up ps) e ∙ e ∙ sym (root_self ps at e) ∙ s.roots at
  | inr e ↦ flat (up ps at) (let l : up ps at ≤ at = s.down at in omega arith) ∙ sym (s.roots (up ps at)) ∙ sym (root_up ps s.down at) ∙ s.roots at
]

flat_more : (old ps : List ℕ) (at x : ℕ) → at < length ps → x ≡ root old at → ((i : ℕ) → i < at → up ps i ≡ root old i) → (i : ℕ) → i < at + 1 → up (set ps at x) i ≡ root old i
flat_more old ps at x h e flat = below_more (λ i. up (set ps at x) i ≡ root old i) at
    (λ i l. up_set_other ps at x i (λ f. omega arith) ∙ flat i l) (up_set_same ps at x h ∙ e)

pub loop-at-init : goal.loop-at-init
loop-at-init c = record { classes = same_self _ c.requires; flat = λ i h. absurd (omega arith) }

pub bounds-parents-parents : goal.bounds-parents-parents
bounds-parents-parents c = let here : c.loop-at.at < length c.loop-at.parents = search rules in inside c.loop-at.parents c.loop-at.invariant.classes.down c.loop-at.at here

pub loop-at-preserved : goal.loop-at-preserved
loop-at-preserved c =
    let ps = c.loop-at.parents in let at : ℕ = c.loop-at.at in let i = c.loop-at.invariant in
    let here : c.loop-at.at < length c.loop-at.parents = search rules in
    let goes : (x : ℕ) → x ≡ up ps (up ps at) → record {
      classes : IsSame c.args.parents.now (set ps at x);
      flat : (i : ℕ) → i < at + 1 → up (set ps at x) i ≡ root c.args.parents.now i;
    } = λ x e. record {
      classes = subst (λ y. IsSame c.args.parents.now (set ps at y)) (sym e) (same_then c.args.parents.now ps (set ps at (up ps (up ps at))) i.classes (halved ps i.classes.down at here));
      flat = flat_more c.args.parents.now ps at x here (e ∙ over_root c.args.parents.now ps at i.classes i.flat) i.flat;
    } in
    goes _ (read_over ps i.classes.down at here)

flat_all : (old ps : List ℕ) (at : ℕ) → IsSame old ps → length ps ≤ at → ((i : ℕ) → i < at → up ps i ≡ root old i) → (i : ℕ) → up ps i ≡ root old i
flat_all old ps at s h flat i = elim (cases_lt i at) [
  | inl l ↦ flat i l
  | inr l ↦ let e = up_past ps i (omega arith) in e ∙ sym (root_self ps i e) ∙ s.roots i
]

pub returns-clause-flat : goal.returns-clause-flat
returns-clause-flat c = let past : length c.loop-at.parents ≤ c.loop-at.at = search rules in flat_all c.args.parents.now c.loop-at.parents c.loop-at.at c.loop-at.invariant.classes past c.loop-at.invariant.flat
