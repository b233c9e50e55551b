-- What is safe keeps that by the same outcomes.
use Rattle.std.proofs.Common.{◌≡◌, List, [], ◌∷◌, ◌++◌, refl, sym, ap, subst, ◌∙◌}
use Rattle.std.specs.Coded.{Π_prop, Unit-prop}
use Rattle.lq_meaning_steps.specs.Model.FromTree.{items_of, with_item}
use Rattle.lq_meaning_steps.specs.Model.Laws.{IsOver}
use Rattle.lq_meaning_steps.specs.Model.Outcomes.{HaveSameOutcomes, SafeWithoutFaults}
use Rattle.lq_meaning_steps.specs.Model.Program.{Ending, running, finished, input_ended, fault, stuck, Item, Outcome, outcome, IsCalm, IsNeverStuck, IsSafe}
use Rattle.lq_meaning_normal_form.specs.Types.Programs.{HaveTypes}
use Rattle.lq_text_tree.specs.Items.{ItemTree, ItemForm, type_of, let_of, let_rec_of}
use Rattle.lq_meaning_steps.specs.Progress.Programs.{AnnotatedIsNeverStuck}

calm_prop : (e : Ending) → IsProp (IsCalm e)
calm_prop running = Unit-prop
calm_prop finished = Unit-prop
calm_prop (input_ended p) = Unit-prop
calm_prop (fault k p) = λ a b. absurd a
calm_prop stuck = λ a b. absurd a

pub safe_prop : (is : List Item) → IsProp (IsSafe is)
safe_prop is = Π_prop (λ input. Π_prop (λ n. calm_prop (outcome is input n).ending))

-- a program that never gets stuck is safe where one with the same outcomes is
pub safe_by_outcomes : SafeWithoutFaults → (is js : List Item) → IsNeverStuck is → HaveSameOutcomes is js → IsSafe js → IsSafe is
safe_by_outcomes without is js never same safe =
    (without is never).1
    (λ input n k p e.
    let there = (same.over input (outcome is input n) (subst (λ (f : Ending). IsOver f) (sym e) tt)).0 (n, refl) in
    subst IsCalm e (subst (λ (o : Outcome). IsCalm o.ending) there.1 (safe input there.0)))

-- definitions of types run as nothing
items_append : (ts is : List ItemTree) → items_of (ts ++ is) ≡ items_of ts ++ items_of is
items_append [] is = refl
items_append (t ∷ ts) is = ap (with_item t.form) (items_append ts is) ∙ by_form t.form
  where
    by_form : (f : ItemForm) → with_item f (items_of ts ++ items_of is) ≡ with_item f (items_of ts) ++ items_of is
    by_form (type_of d) = refl
    by_form (let_of q e) = refl
    by_form (let_rec_of f r) = refl

pub never_stuck : AnnotatedIsNeverStuck → (is : List ItemTree) → HaveTypes is → IsNeverStuck (items_of is)
never_stuck typed is types =
    subst IsNeverStuck (items_append types.1 is ∙ ap (λ (l : List Item). l ++ items_of is) types.2) (typed types.0 (types.1 ++ is) types.3)
