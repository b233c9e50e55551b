-- What is read of what has been found.
use Rattle.std.specs.Prelude.{All}
use Rattle.std.proofs.Common.{◌≡◌, ℕ, suc, ◌+◌, ◌-◌, ◌<◌, List, [], length, take, drop, get_or, sym, ap, subst, ◌∙◌, arith}
use Rattle.std.proofs.lemmas.List.Elements.{All-take, All-drop}
use Rattle.std.proofs.Math.Logic.{∥∥₁_elim, ∥∥₁_map}
use Rattle.std.proofs.Props.{props}
use Rattle.lq_text_tree.specs.MlType.{MlType}
use Rattle.lq_types_rules.specs.Typings.Uses.{GeneralUse}
use Rattle.lq_types_infer.specs.Instantiation.Instances.{start_of, rows_of, AreParts, AreFound}
use Rattle.lq_types_infer.specs.Instantiation.Uses.{IsCounted, Instantiates}

one_more : (i : ℕ) → i + 1 ≡ suc i
one_more i = omega arith

pub read_is : (rows starts whole : List ℕ) (i from to : ℕ) → whole ≡ rows → from ≡ start_of starts i → to ≡ start_of starts (i + 1)
    → take (to - from) (drop from whole) ≡ rows_of rows starts i
read_is rows starts whole i from to is begins ends =
    ap (λ (l : List ℕ). take (to - from) (drop from l)) is
    ∙ ap (λ (n : ℕ). take (n - from) (drop from rows)) (ends ∙ ap (start_of starts) (one_more i))
    ∙ ap (λ (n : ℕ). take (start_of starts (suc i) - n) (drop n rows)) begins

module _ (all : List MlType) (nodes : ℕ) (types : ℕ → MlType) (uses : List GeneralUse) (rows starts : List ℕ) (count : ℕ)
    (found : ∥ AreFound all nodes types uses rows starts count ∥₁) where
  pub parts_merely : AreParts rows starts count
  parts_merely = ∥∥₁_elim found (Prim.hlevel props) (λ f. f.parts)

  module _ (i : ℕ) (xs : List ℕ) (same : xs ≡ rows_of rows starts i) where
    pub inside_is : All (λ r. r < length all) xs
    inside_is =
        ∥∥₁_elim found (Prim.hlevel props)
        (λ f. subst (All (λ r. r < length all)) (sym same)
        (All-take (λ r. r < length all) (start_of starts (suc i) - start_of starts i) (drop (start_of starts i) rows)
        (All-drop (λ r. r < length all) (start_of starts i) rows f.inside)))

    there : (u : GeneralUse) → u.node ≡ i → rows_of rows starts u.node ≡ xs
    there u e = ap (rows_of rows starts) e ∙ sym same

    pub counted_is : All (λ u. u.node ≡ i → IsCounted nodes types u xs) uses
    counted_is =
        ∥∥₁_elim found (Prim.hlevel props)
        (λ f k d low e. subst (IsCounted nodes types (get_or uses k d)) (there (get_or uses k d) e) (f.used k d low).counted)

    pub instance_is : ∥ All (λ u. u.node ≡ i → Instantiates all nodes types u xs) uses ∥₁
    instance_is =
        ∥∥₁_map found
        (λ f k d low e. subst (Instantiates all nodes types (get_or uses k d)) (there (get_or uses k d) e) (f.used k d low).instance)

    pub unused_is : i < count → All (λ u. u.node ≡ i → ⊥) uses → xs ≡ []
    unused_is low none = ∥∥₁_elim found (Prim.hlevel props) (λ f. same ∙ f.unused i low none)
