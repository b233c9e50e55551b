use Rattle.std.proofs.Common.{◌≡◌, ◌≢◌, ℕ, ◌<◌, ◌≤◌, List, length, get_or, set, refl, sym, subst, ◌∙◌, arith, length-set}
use Rattle.lq_types_unify.specs.Classes.{up, root, IsDown, IsSame}
use Rattle.lq_types_unify.proofs.Roots.{root_self, root_up, halved, read_up, read_over}
use Rattle.lq_types_unify.proofs.Same.{same_self, same_then}
use Rattle.lq_types_unify.proofs.classes.find.Goals as goal

-- the loop goes on at the node above the one above, and that is another
above : (ps : List ℕ) → IsDown ps → (i : ℕ) → i < length ps → get_or ps i 0 ≢ i → (up ps i ≢ i) × (up ps (up ps i) < i)
above ps d i h n =
    let e = read_up ps i h in
    let m : up ps i ≢ i = λ f. n (e ∙ f) in
    (m, let l : up ps i ≤ i = d i in let k : up ps (up ps i) ≤ up ps i = d (up ps i) in omega arith)

pub climb-init : goal.climb-init
climb-init c = record { inside = c.requires.inside; way = refl; classes = same_self _ c.requires.down }

pub climb-smaller : goal.climb-smaller
climb-smaller c =
    let ps = c.climb.parents in let i = c.climb.invariant in
    subst (λ (j : ℕ). j < c.climb.at) (sym (read_over ps i.classes.down c.climb.at i.inside)) (above ps i.classes.down c.climb.at i.inside c.climb-test.true).1

pub climb-preserved : goal.climb-preserved
climb-preserved c =
    let ps = c.climb.parents in let at : ℕ = c.climb.at in let i = c.climb.invariant in let d = i.classes.down in
    let a = above ps d at i.inside c.climb-test.true in
    let over = up ps (up ps at) in
    let goes : (x : ℕ) → x ≡ over → record {
      inside : x < length (set ps at x);
      way : root c.args.parents.now x ≡ root c.args.parents.now c.args.node;
      classes : IsSame c.args.parents.now (set ps at x);
    } = λ x e. rw e (record {
      inside = let low = a.1 in omega (arith, length-set ps at over);
      way = sym (i.classes.roots over) ∙ sym (root_up ps d at ∙ root_up ps d (up ps at)) ∙ i.classes.roots at ∙ i.way;
      classes = same_then c.args.parents.now ps (set ps at over) i.classes (halved ps d at i.inside);
    }) in
    goes _ (read_over ps d at i.inside)

pub returns-clause-value : goal.returns-clause-value
returns-clause-value c =
    let ps = c.climb.parents in let at : ℕ = c.climb.at in let i = c.climb.invariant in
    let e : up ps at ≡ at = sym (read_up ps at i.inside) ∙ c.climb-test.false in
    sym (root_self ps at e) ∙ i.classes.roots at ∙ i.way
