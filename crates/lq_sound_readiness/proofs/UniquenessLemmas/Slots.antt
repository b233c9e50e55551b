-- The slots of a scoped program are those of its items' nodes and binders.
use Rattle.std.specs.List.{AllByRecursion}
use Rattle.std.proofs.Common.{◌≡◌, ◌⊎◌, inl, inr, ℕ, ◌+◌, ◌-◌, ◌<◌, ◌≤◌, List, [], ◌∷◌, ◌++◌, All, length, sym, subst, arith}
use Rattle.std.proofs.lemmas.Bool.{cases_lt}
use Rattle.std.proofs.lemmas.List.Elements.{recursion_from_All}
use Rattle.lq_types_rules.specs.Visits.Laws.{slot_count}
use Rattle.lq_generate_reading.specs.GeneralNames.Defined.{IsDefined}
use Rattle.lq_text_walk.specs.Scoped.Numbers.{binders_at, binders_in, binders_of_items, nodes_of_form, nodes_of_items}
use Rattle.lq_text_walk.specs.Scoped.Scoping.{Scoping, IsScoped}
use Rattle.lq_text_tree.specs.Items.{ItemTree}
use Rattle.lq_text_tree.specs.MlType.{MlType}
use Rattle.lq_types_rules.specs.Typings.OneAnswer.{AreSameIn}
use Rattle.lq_types_rules.specs.Typings.Principal.{node_count}
use Rattle.lq_text_walk.specs.Walk.Visits.{Visit, visits_of_item, visits_of_items}
use Rattle.lq_sound_readiness.proofs.UniquenessLemmas.Lists.{all_both, all_left, all_right, from_on_all, from_on_at}
use Rattle.lq_sound_readiness.proofs.UniquenessLemmas.Names.{names_hold}

-- a name that an item defines is a binder
pub name_low : (s : Scoping) → IsScoped s → (x : ℕ) → IsDefined s.items x → x < length s.sources
name_low s scoped x d =
    let Low : ℕ → Type 0 = λ y. y < length s.sources in
    let all = from_on_all Low 0 (length (binders_of_items s.items)) (λ k above below. let same = scoped.named in omega (arith, below, same)) in
    names_hold Low s.items (subst (AllByRecursion Low) (sym scoped.binders) all) x d

binders_both : (P : ℕ → Type 0) (us vs : List Visit) → AllByRecursion P (binders_in us) → AllByRecursion P (binders_in vs) → AllByRecursion P (binders_in (us ++ vs))
binders_both P [] vs h l = l
binders_both P (u ∷ us) vs h l =
    all_both P (binders_at u) (binders_in (us ++ vs)) (all_left P (binders_at u) (binders_in us) h)
    (binders_both P us vs (all_right P (binders_at u) (binders_in us) h) l)

module _ (nodes : ℕ) (types others : ℕ → MlType) where
  abbrev AtNode : ℕ → Type 0
  AtNode k = types k ≡ others k

  abbrev AtBinder : ℕ → Type 0
  AtBinder x = types (nodes + x) ≡ others (nodes + x)

  nodes_same : (is : List ItemTree) → AllByRecursion (AreSameIn nodes types others) is → AllByRecursion AtNode (nodes_of_items is)
  nodes_same [] h = tt
  nodes_same (i ∷ is) h =
      all_both AtNode (nodes_of_form i.form) (nodes_of_items is) (recursion_from_All AtNode (nodes_of_form i.form) h.0.0) (nodes_same is h.1)

  binders_same : (is : List ItemTree) → AllByRecursion (AreSameIn nodes types others) is → AllByRecursion AtBinder (binders_of_items is)
  binders_same [] h = tt
  binders_same (i ∷ is) h =
      binders_both AtBinder (visits_of_item i) (visits_of_items is) (recursion_from_All AtBinder (binders_in (visits_of_item i)) h.0.1) (binders_same is h.1)

module _ (s : Scoping) (scoped : IsScoped s) (types others : ℕ → MlType) (same : All (AreSameIn (node_count s) types others) s.items) where
  abbrev nodes : ℕ
  nodes = node_count s

  all_same : AllByRecursion (AreSameIn nodes types others) s.items
  all_same = recursion_from_All (AreSameIn nodes types others) s.items same

  node_same : (k : ℕ) → k < nodes → types k ≡ others k
  node_same k low =
      let At : ℕ → Type 0 = λ j. types j ≡ others j in
      let is : 0 + k ≡ k = omega arith in
      subst At is (from_on_at At 0 nodes (subst (AllByRecursion At) scoped.nodes (nodes_same nodes types others s.items all_same)) k low)

  binder_same : (x : ℕ) → x < length s.sources → types (nodes + x) ≡ others (nodes + x)
  binder_same x low =
      let At : ℕ → Type 0 = λ y. types (nodes + y) ≡ others (nodes + y) in
      let is : 0 + x ≡ x = omega arith in
      let many = scoped.named in
      subst At is
      (from_on_at At 0 (length (binders_of_items s.items)) (subst (AllByRecursion At) scoped.binders (binders_same nodes types others s.items all_same)) x
      (omega (arith, low, many)))

  either_same : (k : ℕ) → k < slot_count s → (k < nodes) ⊎ (nodes ≤ k) → types k ≡ others k
  either_same k low (inl less) = node_same k less
  either_same k low (inr above) =
      let is : nodes + (k - nodes) ≡ k = omega (arith, above) in
      subst (λ (j : ℕ). types j ≡ others j) is (binder_same (k - nodes) (omega (arith, low, above)))

  -- types that are the same in each item are at each slot
  pub slot_same : (k : ℕ) → k < slot_count s → types k ≡ others k
  slot_same k low = either_same k low (cases_lt k nodes)
