-- What is seen of a solution at the slots alone is as good as the solution.
use Rattle.std.specs.Prelude.{not, ◌&&◌, if◌then◌else◌}
use Rattle.std.proofs.Common.{◌≡◌, ℕ, Bool, List, [], ◌∷◌, Option, Some, None, refl, sym, ap, ap₂, subst, ◌∙◌}
use Rattle.lq_base_names.specs.declared.place.Place.{Place}
use Rattle.lq_text_tree.specs.Items.{ItemTree, ItemForm, type_of, let_of, let_rec_of}
use Rattle.lq_text_tree.specs.MlType as ml
use Rattle.lq_text_tree.specs.MlType.{MlType}
use Rattle.lq_text_walk.specs.Walk.Visits.{leave_item, visits_of_form, visits_of_item, visits_of_items}
use Rattle.lq_types_rules.specs.Equations.Adding.{Agree}
use Rattle.lq_types_rules.specs.Equations.Gathered.{VisitIn}
use Rattle.lq_types_rules.specs.Equations.Rows.{number_of}
use Rattle.lq_types_rules.specs.Equations.Within.{ItemIn}
use Rattle.lq_text_walk.specs.Scoped.Scoping.{Scoping, IsScoped}
use Rattle.lq_types_rules.specs.Typings.Inference.{weak, IsInference}
use Rattle.lq_types_rules.specs.Typings.Principal.{node_count, IsPrincipalAnnotation, is_open, is_weak, weak_place, first_weak, variables_of}
use Rattle.lq_types_rules.specs.Typings.Renaming.{RenamedArePrincipal}
use Rattle.lq_types_rules.specs.Typings.Uses.{is_value}
use Rattle.lq_types_rules.specs.Visits.Laws.{slot_count, OwnSlots, ScopedItemsOwnSlots, ScopedVisitsAreIn}
use Rattle.lq_types_infer.specs.Annotation.Laws.{IsIn, SolvedIsPrincipal, AreVariablesApart, SolvedVariablesAreApart}
use Rattle.lq_types_infer.specs.Annotation.Seen.{IsSeen}
use Rattle.lq_types_infer.proofs.AnnotationLemmas.Solved.{items_instance}
use Rattle.lq_types_infer.proofs.AnnotationLemmas.Types.{AllOf, from_all, left_part, right_part, put_same}

module _ (nodes n : ℕ) (types seen : ℕ → MlType) (same : Agree n types seen) where
  weak_same : (f : ItemForm) → ItemIn nodes n f → is_weak seen f ≡ is_weak types f
  weak_same (type_of d) h = refl
  weak_same (let_of q e) h = ap (λ (a : MlType). not (is_value e) && is_open a) (same (number_of e) h.1)
  weak_same (let_rec_of f r) h = refl

  first_same : (is : List ItemTree) → AllOf (VisitIn nodes n) (visits_of_items is) → first_weak seen is ≡ first_weak types is
  first_same [] h = refl
  first_same (i ∷ is) h =
      let own = (left_part (VisitIn nodes n) (visits_of_item i) (visits_of_items is) h).1 in
      let last = (right_part (VisitIn nodes n) (visits_of_form i.form) (leave_item i ∷ []) own).0 in
      ap₂ (λ (b : Bool) (o : Option Place). if b then Some (weak_place i.form i.place) else o) (weak_same i.form last)
      (first_same is (right_part (VisitIn nodes n) (visits_of_item i) (visits_of_items is) h))

module _ (ranges : ScopedVisitsAreIn) (s : Scoping) (types seen : ℕ → MlType) (scoped : IsScoped s) (same : Agree (slot_count s) types seen) where
  pub first_weak_seen : first_weak seen s.items ≡ first_weak types s.items
  first_weak_seen =
      first_same (node_count s) (slot_count s) types seen same s.items
      (from_all (VisitIn (node_count s) (slot_count s)) (visits_of_items s.items) (ranges s scoped))

  pub seen_is_principal : RenamedArePrincipal → ScopedItemsOwnSlots → IsPrincipalAnnotation s types → first_weak seen s.items ≡ None
      → IsPrincipalAnnotation s seen
  seen_is_principal renamed owners is none =
      let own = owners s scoped in
      renamed s types seen is (sym first_weak_seen ∙ none)
      (items_instance (node_count s) (slot_count s) own.0 types seen ml.var (λ j low. same j low ∙ sym (put_same (types j))) 0 s.items own.1)
      (items_instance (node_count s) (slot_count s) own.0 seen types ml.var (λ j low. sym (same j low) ∙ sym (put_same (seen j))) 0 s.items own.1)

pub seen_are_principal : RenamedArePrincipal → ScopedItemsOwnSlots → ScopedVisitsAreIn → SolvedIsPrincipal → (s : Scoping) (seen : ℕ → MlType)
    → IsScoped s → IsSeen s seen → first_weak seen s.items ≡ None → IsPrincipalAnnotation s seen
seen_are_principal renamed owners ranges principal s seen scoped is none =
    seen_is_principal ranges s is.types seen scoped is.same renamed owners (principal s is.equations is.types scoped is.solved) none

pub seen_are_weak : ScopedVisitsAreIn → SolvedIsPrincipal → (s : Scoping) (seen : ℕ → MlType) (p : Place) → IsScoped s → IsSeen s seen
    → first_weak seen s.items ≡ Some p → IsInference s (weak p)
seen_are_weak ranges principal s seen p scoped is at_it =
    (is.types, principal s is.equations is.types scoped is.solved, sym (first_weak_seen ranges s is.types seen scoped is.same) ∙ at_it)

pub seen_variables_are_apart : ScopedVisitsAreIn → SolvedVariablesAreApart → (s : Scoping) (seen : ℕ → MlType) → IsScoped s → IsSeen s seen
    → first_weak seen s.items ≡ None → (owner : ℕ → ℕ) → OwnSlots (node_count s) (slot_count s) owner 0 s.items → AreVariablesApart s seen owner
seen_variables_are_apart ranges apart s seen scoped is none owner own j k v low less there also =
    let stands : MlType → Type 0 = λ a. IsIn (variables_of a) v in
    apart s is.equations is.types scoped is.solved (sym (first_weak_seen ranges s is.types seen scoped is.same) ∙ none) owner own j k v low less
    (subst stands (is.same j low) there) (subst stands (is.same k less) also)
