-- Types that agree with an annotation's at all slots of a program obey the rules as it does.
use Rattle.std.proofs.Common.{◌≡◌, ℕ, suc, ◌+◌, ◌<◌, List, [], ◌∷◌, All, refl, sym, ap, ap₂, ◌∙◌}
use Rattle.std.proofs.lemmas.List.Elements.{All-cons, All-nil, All-weaker}
use Rattle.lq_types_rules.specs.Visits.Laws.{slot_count, IsOf, OwnSlots, ScopedItemsOwnSlots}
use Rattle.lq_text_walk.specs.Scoped.Numbers.{nodes_of_form, binders_in}
use Rattle.lq_text_walk.specs.Scoped.Scoping.{Scoping, IsScoped}
use Rattle.lq_text_tree.specs.Items.{ItemTree}
use Rattle.lq_text_tree.specs.MlType as ml
use Rattle.lq_text_tree.specs.MlType.{MlType, MlTypes}
use Rattle.lq_text_tree.specs.Types.{put, put_all}
use Rattle.lq_types_rules.specs.Typings.Inference.{typed, IsInference}
use Rattle.lq_types_rules.specs.Typings.Principal.{node_count, IsAnnotation, IsItemInstance}
use Rattle.lq_types_rules.specs.Typings.Renaming.{RenamedArePrincipal}
use Rattle.lq_text_walk.specs.Walk.Visits.{visits_of_item}

mutual
  put_same : (a : MlType) → put ml.var a ≡ a
  put_same ml.int = refl
  put_same ml.bool = refl
  put_same ml.unit = refl
  put_same (ml.var i) = refl
  put_same (ml.arrow a b) = ap₂ ml.arrow (put_same a) (put_same b)
  put_same (ml.tuple ts) = ap ml.tuple (put_same_all ts)
  put_same (ml.array a) = ap ml.array (put_same a)
  put_same (ml.named d ts) = ap (ml.named d) (put_same_all ts)
  put_same (ml.map_of a) = ap ml.map_of (put_same a)

  put_same_all : (ts : MlTypes) → put_all ml.var ts ≡ ts
  put_same_all ml.no_types = refl
  put_same_all (ml.more_types t ts) = ap₂ ml.more_types (put_same t) (put_same_all ts)

module _ (nodes slots : ℕ) (owner : ℕ → ℕ) (types others : ℕ → MlType) (same : (j : ℕ) → j < slots → others j ≡ types j) where
  at_slot : (j : ℕ) → j < slots → others j ≡ put ml.var (types j)
  at_slot j low = same j low ∙ sym (put_same (types j))

  instances : (n : ℕ) (is : List ItemTree) → OwnSlots nodes slots owner n is → All (IsItemInstance nodes types others) is
  instances n [] own = All-nil (IsItemInstance nodes types others)
  instances n (i ∷ is) own =
      let Own : ℕ → Type 0 = IsOf slots owner n in
      All-cons (IsItemInstance nodes types others) i is (
        ml.var,
        All-weaker Own (λ k. others k ≡ put ml.var (types k)) (λ k o. at_slot k o.0) (nodes_of_form i.form) own.0,
        All-weaker (λ x. Own (nodes + x)) (λ x. others (nodes + x) ≡ put ml.var (types (nodes + x))) (λ x o. at_slot (nodes + x) o.0)
            (binders_in (visits_of_item i)) own.1,
      ) (instances (suc n) is own.3)

pub seen_obeys : RenamedArePrincipal → ScopedItemsOwnSlots → (s : Scoping) (types others : ℕ → MlType) → IsScoped s
    → ((j : ℕ) → j < slot_count s → others j ≡ types j) → IsInference s (typed types) → IsAnnotation s others
seen_obeys renamed owners s types others scoped same inference =
    let own = owners s scoped in
    let n = node_count s in
    let m = slot_count s in
    let principal =
    renamed s types others inference.0 inference.1 (instances n m own.0 types others same 0 s.items own.1)
    (instances n m own.0 others types (λ j low. sym (same j low)) 0 s.items own.1) in principal.obeys
