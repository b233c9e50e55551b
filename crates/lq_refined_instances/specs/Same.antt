-- Whether two predicates are one, and that this is equality.
use Rattle.std.proofs.Common.{◌≡◌, ℕ, refl, sym, ap, ap₂, ◌∙◌, Bool, true, false, ◌&&◌, ◌==◌, arith}
use Rattle.std.specs.Cmp.{IsEquivalence, IsPartialEquivalence, partial_equiv_from_equiv}
use Rattle.std.proofs.lemmas.Bool.{eqb-true, eq-eqb, and_parts, and_from}
use Rattle.lq_base_names.specs.declared.operation.CompareOp.{CompareOp}
use Rattle.lq_base_names.specs.declared.operation.CompareOp.TheVariants.{Eq, Ne, Lt, Le, Gt, Ge}
use Rattle.lq_logic_predicates.specs.Sum.{var, same, same_symbol}
use Rattle.lq_logic_predicates.specs.SameLaws.{same-is, same-refl}
use Rattle.lq_logic_predicates.specs.Formula.{Formula, truth, falsity, flag, compare, objects, negation, conjunction, disjunction, equivalence}
use Rattle.lq_logic_predicates.specs.PredView.{formula_of}
use Rattle.lq_refined_instances.specs.declared.instance.Instance.{Instance}

abbrev pub comparison_number : CompareOp → ℕ
comparison_number Eq = 0
comparison_number Ne = 1
comparison_number Lt = 2
comparison_number Le = 3
comparison_number Gt = 4
comparison_number Ge = 5

abbrev pub same_formula : Formula → Formula → Bool
same_formula truth truth = true
same_formula falsity falsity = true
same_formula (flag x) (flag y) = same_symbol x y
same_formula (compare o a b) (compare p c d) = (comparison_number o == comparison_number p) && (same a c && same b d)
same_formula (objects a b) (objects c d) = same a c && same b d
same_formula (negation p) (negation q) = same_formula p q
same_formula (conjunction p q) (conjunction r s) = same_formula p r && same_formula q s
same_formula (disjunction p q) (disjunction r s) = same_formula p r && same_formula q s
same_formula (equivalence p q) (equivalence r s) = same_formula p r && same_formula q s
same_formula _ _ = false

comparison-is : (o p : CompareOp) → comparison_number o ≡ comparison_number p → o ≡ p
comparison-is Eq Eq h = refl
comparison-is Ne Ne h = refl
comparison-is Lt Lt h = refl
comparison-is Le Le h = refl
comparison-is Gt Gt h = refl
comparison-is Ge Ge h = refl
comparison-is _ _ h = absurd (omega arith)

two : {A B C : Type 0} (f : A → B → C) (e : A → A → Bool) (g : B → B → Bool) (a c : A) (b d : B) → (e a c ≡ true → a ≡ c) → (g b d ≡ true → b ≡ d) → (e a c && g b d) ≡ true → f a b ≡ f c d
two f e g a c b d p q h = let both = and_parts (e a c) (g b d) h in ap₂ f (p both.0) (q both.1)

pub same_formula-is : (p q : Formula) → same_formula p q ≡ true → p ≡ q
same_formula-is truth truth h = refl
same_formula-is truth _ h = cc
same_formula-is falsity falsity h = refl
same_formula-is falsity _ h = cc
same_formula-is (flag x) (flag y) h = let e : var x ≡ var y = same-is (var x) (var y) h in cc
same_formula-is (flag x) _ h = cc
same_formula-is (compare o a b) (compare p c d) h =
    let parts = and_parts (comparison_number o == comparison_number p) (same a c && same b d) h in
    let o-is : o ≡ p = comparison-is o p (eqb-true (comparison_number o) (comparison_number p) parts.0) in
    let sums = and_parts (same a c) (same b d) parts.1 in
    let a-is : a ≡ c = same-is a c sums.0 in
    let b-is : b ≡ d = same-is b d sums.1 in cc
same_formula-is (compare o a b) _ h = cc
same_formula-is (objects a b) (objects c d) h = two objects same same a c b d (same-is a c) (same-is b d) h
same_formula-is (objects a b) _ h = cc
same_formula-is (negation p) (negation q) h = ap negation (same_formula-is p q h)
same_formula-is (negation p) _ h = cc
same_formula-is (conjunction p q) (conjunction r s) h = two conjunction same_formula same_formula p r q s (same_formula-is p r) (same_formula-is q s) h
same_formula-is (conjunction p q) _ h = cc
same_formula-is (disjunction p q) (disjunction r s) h = two disjunction same_formula same_formula p r q s (same_formula-is p r) (same_formula-is q s) h
same_formula-is (disjunction p q) _ h = cc
same_formula-is (equivalence p q) (equivalence r s) h = two equivalence same_formula same_formula p r q s (same_formula-is p r) (same_formula-is q s) h
same_formula-is (equivalence p q) _ h = cc

pub same_formula-refl : (p : Formula) → same_formula p p ≡ true
same_formula-refl truth = refl
same_formula-refl falsity = refl
same_formula-refl (flag x) = same-refl (var x)
same_formula-refl (compare o a b) =
    and_from (comparison_number o == comparison_number o) (same a a && same b b) (eq-eqb (comparison_number o) (comparison_number o) refl)
    (and_from (same a a) (same b b) (same-refl a) (same-refl b))
same_formula-refl (objects a b) = and_from (same a a) (same b b) (same-refl a) (same-refl b)
same_formula-refl (negation p) = same_formula-refl p
same_formula-refl (conjunction p q) = and_from (same_formula p p) (same_formula q q) (same_formula-refl p) (same_formula-refl q)
same_formula-refl (disjunction p q) = and_from (same_formula p p) (same_formula q q) (same_formula-refl p) (same_formula-refl q)
same_formula-refl (equivalence p q) = and_from (same_formula p p) (same_formula q q) (same_formula-refl p) (same_formula-refl q)

same_formula-from : (p q : Formula) → p ≡ q → same_formula p q ≡ true
same_formula-from p q e = ap (same_formula p) (sym e) ∙ same_formula-refl p

both : (b c : Bool) → (b ≡ true → c ≡ true) → (c ≡ true → b ≡ true) → b ≡ c
both true c f g = sym (f refl)
both false true f g = g refl
both false false f g = refl

same_formula-symm : (p q : Formula) → same_formula p q ≡ same_formula q p
same_formula-symm p q =
    both (same_formula p q) (same_formula q p) (λ h. same_formula-from q p (sym (same_formula-is p q h))) (λ h. same_formula-from p q (sym (same_formula-is q p h)))

pub same_laws : IsEquivalence (λ (a b : Instance). same_formula (formula_of a.predicate) (formula_of b.predicate))
same_laws = record {
  refl = λ a. same_formula-refl (formula_of a.predicate);
  symm = λ a b. same_formula-symm (formula_of a.predicate) (formula_of b.predicate);
  congr = λ a b c h. ap (λ u. same_formula u (formula_of c.predicate)) (same_formula-is (formula_of a.predicate) (formula_of b.predicate) h);
}

pub same_partial_laws : IsPartialEquivalence (λ (a b : Instance). same_formula (formula_of a.predicate) (formula_of b.predicate))
same_partial_laws = partial_equiv_from_equiv same_laws
