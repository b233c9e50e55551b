-- The most general solution is a principal annotation.
use Rattle.std.specs.Prelude.{All}
use Rattle.std.proofs.Common.{◌≡◌, ℕ, suc, ◌+◌, ◌<◌, List, [], ◌∷◌, sym, ◌∙◌}
use Rattle.std.proofs.lemmas.List.Elements.{All-nil, All-cons, All-weaker}
use Rattle.lq_text_tree.specs.Items.{ItemTree}
use Rattle.lq_text_tree.specs.MlType.{MlType}
use Rattle.lq_text_tree.specs.Types.{put}
use Rattle.lq_text_walk.specs.Walk.Visits.{visits_of_item}
use Rattle.lq_types_rules.specs.declared.equations.system.System.{System}
use Rattle.lq_text_walk.specs.Scoped.Numbers.{nodes_of_form, binders_in}
use Rattle.lq_text_walk.specs.Scoped.Scoping.{Scoping, IsScoped}
use Rattle.lq_text_walk.specs.Scoped.Signature.{signature_in}
use Rattle.lq_types_rules.specs.Typings.Laws.{VisitsAreRules}
use Rattle.lq_types_rules.specs.Typings.Principal.{node_count, IsAnnotation, IsItemInstance, IsPrincipalAnnotation}
use Rattle.lq_types_rules.specs.Visits.Laws.{slot_count, IsOf, OwnSlots, ScopedItemsOwnSlots}
use Rattle.lq_types_infer.specs.Inference.Inferring.{IsSolved}

-- an item's own types become others by a replacement that serves all slots
module _ (nodes slots : ℕ) (owner : ℕ → ℕ) (types others by : ℕ → MlType) (same : (j : ℕ) → j < slots → others j ≡ put by (types j)) where
  pub items_instance : (n : ℕ) (is : List ItemTree) → OwnSlots nodes slots owner n is → All (IsItemInstance nodes types others) is
  items_instance n [] own = All-nil (IsItemInstance nodes types others)
  items_instance n (i ∷ is) own =
      let Own : ℕ → Type 0 = IsOf slots owner n in
      All-cons (IsItemInstance nodes types others) i is (
        by,
        All-weaker Own (λ k. others k ≡ put by (types k)) (λ k o. same k o.0) (nodes_of_form i.form) own.0,
        All-weaker (λ x. Own (nodes + x)) (λ x. others (nodes + x) ≡ put by (types (nodes + x))) (λ x o. same (nodes + x) o.0)
            (binders_in (visits_of_item i)) own.1,
      ) (items_instance (suc n) is own.3)

-- one replacement of variables makes all types of an annotation of those of the most general solution
abbrev pub OneReplacement : Scoping → (ℕ → MlType) → (ℕ → MlType) → Type 0
OneReplacement s types others = (by : ℕ → MlType) × ((j : ℕ) → j < slot_count s → others j ≡ put by (types j))

module _ (rules : VisitsAreRules) (s : Scoping) (equations : System) (types : ℕ → MlType) (scoped : IsScoped s)
    (solved : IsSolved s equations types) where
  pub one_replacement : (others : ℕ → MlType) → IsAnnotation s others → OneReplacement s types others
  one_replacement others h =
      let obeys = (rules (signature_in s.datatypes) (node_count s) others s scoped).visits_obey h in
      let full = solved.complete others obeys in
      let general = solved.principal.general full.0 full.2 in
      (general.0, λ j low. sym (full.1 j low) ∙ general.1 j)

  pub solved_obeys : IsAnnotation s types
  solved_obeys = (rules (signature_in s.datatypes) (node_count s) types s scoped).items_obey (solved.sound types solved.principal)

pub solved_is_principal : VisitsAreRules → ScopedItemsOwnSlots → (s : Scoping) (equations : System) (types : ℕ → MlType) → IsScoped s
    → IsSolved s equations types
    → IsPrincipalAnnotation s types
solved_is_principal rules owners s equations types scoped solved =
    let own = owners s scoped in
    record {
      obeys = solved_obeys rules s equations types scoped solved;
      general = λ others h.
          let one = one_replacement rules s equations types scoped solved others h in
          items_instance (node_count s) (slot_count s) own.0 types others one.0 one.1 0 s.items own.1;
    }
