-- A variable that stood in the types of two items could have another name in the one alone, which no replacement for all items gives.
use Rattle.std.specs.Prelude.{All, ◌==◌, if◌then◌else◌}
use Rattle.std.proofs.Common.{◌≡◌, ℕ, suc, ◌+◌, Bool, true, false, List, [], ◌∷◌, None, inl, inr, refl, sym, ap, subst, ◌∙◌, arith}
use Rattle.std.proofs.lemmas.Bool.{cases_eq, eq-eqb, ne_eqb}
use Rattle.std.proofs.lemmas.List.Elements.{All-nil, All-cons, All-weaker}
use Rattle.lq_text_tree.specs.Items.{ItemTree}
use Rattle.lq_text_tree.specs.MlType as ml
use Rattle.lq_text_tree.specs.MlType.{MlType}
use Rattle.lq_text_tree.specs.Types.{put}
use Rattle.lq_text_walk.specs.Walk.Visits.{visits_of_item}
use Rattle.lq_types_rules.specs.declared.equations.system.System.{System}
use Rattle.lq_text_walk.specs.Scoped.Numbers.{nodes_of_form, binders_in}
use Rattle.lq_text_walk.specs.Scoped.Scoping.{Scoping, IsScoped}
use Rattle.lq_types_rules.specs.Typings.Laws.{VisitsAreRules}
use Rattle.lq_types_rules.specs.Typings.Principal.{node_count, IsItemInstance, first_weak, variables_of}
use Rattle.lq_types_rules.specs.Typings.Renaming.{RenamedArePrincipal}
use Rattle.lq_types_rules.specs.Visits.Laws.{slot_count, IsOf, OwnSlots}
use Rattle.lq_types_infer.specs.Inference.Inferring.{IsSolved}
use Rattle.lq_types_infer.specs.Annotation.Laws.{IsIn, SolvedIsPrincipal, AreVariablesApart}
use Rattle.lq_types_infer.proofs.AnnotationLemmas.Solved.{one_replacement}
use Rattle.lq_types_infer.proofs.AnnotationLemmas.Types.{all_at, put_same, IsSame, same_at, name_of, up, down, down_up}

to_case : (b : Bool) (a : MlType) → (if b then put up a else a) ≡ put (if b then up else ml.var) a
to_case true a = refl
to_case false a = sym (put_same a)

back_case : (b : Bool) (a : MlType) → a ≡ put (if b then down else ml.var) (if b then put up a else a)
back_case true a = sym (down_up a)
back_case false a = sym (put_same a)

-- the types of one item with other names for its variables
module _ (nodes slots n : ℕ) (owner : ℕ → ℕ) (types : ℕ → MlType) where
  abbrev pub moved : ℕ → MlType
  moved j = if owner j == n then put up (types j) else types j

  moved_to : (m j : ℕ) → owner j ≡ m → moved j ≡ put (if m == n then up else ml.var) (types j)
  moved_to m j e = subst (λ o. moved j ≡ put (if o == n then up else ml.var) (types j)) e (to_case (owner j == n) (types j))

  moved_back : (m j : ℕ) → owner j ≡ m → types j ≡ put (if m == n then down else ml.var) (moved j)
  moved_back m j e = subst (λ o. types j ≡ put (if o == n then down else ml.var) (moved j)) e (back_case (owner j == n) (types j))

  items_to : (m : ℕ) (is : List ItemTree) → OwnSlots nodes slots owner m is → All (IsItemInstance nodes types moved) is
  items_to m [] own = All-nil (IsItemInstance nodes types moved)
  items_to m (i ∷ is) own =
      let by : ℕ → MlType = if m == n then up else ml.var in
      let Own : ℕ → Type 0 = IsOf slots owner m in
      All-cons (IsItemInstance nodes types moved) i is (
        by,
        All-weaker Own (λ k. moved k ≡ put by (types k)) (λ k o. moved_to m k o.1) (nodes_of_form i.form) own.0,
        All-weaker (λ x. Own (nodes + x)) (λ x. moved (nodes + x) ≡ put by (types (nodes + x))) (λ x o. moved_to m (nodes + x) o.1)
            (binders_in (visits_of_item i)) own.1,
      ) (items_to (suc m) is own.3)

  items_back : (m : ℕ) (is : List ItemTree) → OwnSlots nodes slots owner m is → All (IsItemInstance nodes moved types) is
  items_back m [] own = All-nil (IsItemInstance nodes moved types)
  items_back m (i ∷ is) own =
      let by : ℕ → MlType = if m == n then down else ml.var in
      let Own : ℕ → Type 0 = IsOf slots owner m in
      All-cons (IsItemInstance nodes moved types) i is (
        by,
        All-weaker Own (λ k. types k ≡ put by (moved k)) (λ k o. moved_back m k o.1) (nodes_of_form i.form) own.0,
        All-weaker (λ x. Own (nodes + x)) (λ x. types (nodes + x) ≡ put by (moved (nodes + x))) (λ x o. moved_back m (nodes + x) o.1)
            (binders_in (visits_of_item i)) own.1,
      ) (items_back (suc m) is own.3)

  -- what the replacement puts for the variables of that item, and of others
  moved_there : (by : ℕ → MlType) (j v : ℕ) → owner j ≡ n → moved j ≡ put by (types j) → IsIn (variables_of (types j)) v → up v ≡ by v
  moved_there by j v e h seen =
      let is : put up (types j) ≡ put by (types j) = subst (λ b. (if b then put up (types j) else types j) ≡ put by (types j))
      (eq-eqb (owner j) n e) h in
      all_at (IsSame up by) (variables_of (types j)) v (same_at up by (types j) is) seen

  stayed_there : (by : ℕ → MlType) (k v : ℕ) → (owner k ≡ n → ⊥) → moved k ≡ put by (types k) → IsIn (variables_of (types k)) v → ml.var v ≡ by v
  stayed_there by k v other h seen =
      let is : types k ≡ put by (types k) = subst (λ b. (if b then put up (types k) else types k) ≡ put by (types k)) (ne_eqb (owner k) n other) h in
      all_at (IsSame ml.var by) (variables_of (types k)) v (same_at ml.var by (types k) (put_same (types k) ∙ is)) seen

not_both : (by : ℕ → MlType) (v : ℕ) → up v ≡ by v → ml.var v ≡ by v → ⊥
not_both by v a b = let e : suc v ≡ v = ap name_of (a ∙ sym b) in omega (arith, e)

pub solved_variables_are_apart : VisitsAreRules → RenamedArePrincipal → SolvedIsPrincipal → (s : Scoping) (equations : System) (types : ℕ → MlType)
    → IsScoped s
    → IsSolved s equations types → first_weak types s.items ≡ None → (owner : ℕ → ℕ) → OwnSlots (node_count s) (slot_count s) owner 0 s.items
    → AreVariablesApart s types owner
solved_variables_are_apart rules renamed principal s equations types scoped solved none owner own j k v low less there also =
    let nodes = node_count s in
    let slots = slot_count s in
    let n = owner j in
    let others = moved nodes slots n owner types in
    let is = renamed s types others (principal s equations types scoped solved) none (items_to nodes slots n owner types 0 s.items own)
    (items_back nodes slots n owner types 0 s.items own) in
    let one = one_replacement rules s equations types scoped solved others is.obeys in
    elim (cases_eq (owner k) n) as (λ _. n ≡ owner k) [
      | inl e ↦ sym e
      | inr other ↦
          absurd (not_both one.0 v (moved_there nodes slots n owner types one.0 j v refl (one.1 j low) there)
          (stayed_there nodes slots n owner types one.0 k v other (one.1 k less) also))
    ]
