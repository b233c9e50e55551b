-- Operations and their arguments.
use Rattle.std.proofs.Common.{◌≡◌, ℤ, List, [], ◌∷◌, Option, Some, None, true, All, refl, sym, ap, subst, ◌∙◌}
use Rattle.std.proofs.lemmas.List.Elements.{All-head, All-tail}
use Rattle.lq_prover_proof_tree.specs.Trees.Proves.{AreNoLiterals, ApplyTwo, products, quotients, remainders}
use Rattle.lq_logic_points.specs.Arguments.{HasArguments}
use Rattle.lq_logic_predicates.specs.Comparison.{CanGather}
use Rattle.lq_logic_predicates.specs.Literals.{below_row, equal_row, condition_rows, pair_rows}
use Rattle.lq_logic_predicates.specs.Numbering.{with_term-present}
use Rattle.lq_logic_predicates.specs.Sum.{Sum, whole, var, neg, add, sub, mul, div, rem, len, measure}
use Rattle.lq_logic_predicates.specs.Table.{by_factors, has_term, literal_of, numbered, with_term}
use Rattle.lq_prover_search.specs.Search.Operations.{operation_of}
use Rattle.lq_prover_search.specs.Search.Pairs.{CanPair, IsNumbered}
use Rattle.lq_prover_search.specs.declared.search.applied.Operator.{Operator}
use Rattle.lq_prover_search.specs.declared.search.applied.Operator.TheVariants.{Times, Over, Remainder}

-- the operation of this operator on two arguments
pub data IsApplied : Operator → Sum → Sum → Sum → Type 0 where
  times : (a b : Sum) → AreNoLiterals a b → IsApplied Times (mul a b) a b
  over : (a b : Sum) → IsApplied Over (div a b) a b
  remainder : (a b : Sum) → IsApplied Remainder (rem a b) a b

abbrev pub operates : Operator → Sum → Sum → Option (Operator × Sum × Sum)
operates o a b = Some (o, a, b)

abbrev chosen : Option ℤ → Option ℤ → Sum → Sum → Option (Operator × Sum × Sum)
chosen x y a b = by_factors x y None (operates Times a b)

once : (x y : Operator × Sum × Sum) → Some x ≡ Some y → x ≡ y
once x y e = cc

-- an operation by what it is
turned : (o p : Operator) (s a b c d : Sum) → IsApplied p s c d → operates p c d ≡ operates o a b → IsApplied o s a b
turned o p s a b c d h e =
    let x : Operator × Sum × Sum = (p, c, d) in let y : Operator × Sum × Sum = (o, a, b) in
    let same : x ≡ y = once x y e in
    let f : p ≡ o = ap (λ (z : Operator × Sum × Sum). z.0) same in
    let g : c ≡ a = ap (λ (z : Operator × Sum × Sum). z.1) same in
    let k : d ≡ b = ap (λ (z : Operator × Sum × Sum). z.2) same in
    subst (λ z. IsApplied z s a b) f (subst (λ z. IsApplied p s z b) g (subst (λ z. IsApplied p s c z) k h))

pub applied_is : (s : Sum) (o : Operator) (a b : Sum) → operation_of s ≡ Some (o, a, b) → IsApplied o s a b
applied_is (mul c d) o a b e = by (literal_of c) (literal_of d) refl refl e
  where
    by : (x y : Option ℤ) → literal_of c ≡ x → literal_of d ≡ y → chosen x y c d ≡ Some (o, a, b) → IsApplied o (mul c d) a b
    by None None p q e = turned o Times (mul c d) a b c d (times c d (p, q)) e
    by (Some n) y p q e = cc
    by None (Some n) p q e = cc
applied_is (div c d) o a b e = turned o Over (div c d) a b c d (over c d) e
applied_is (rem c d) o a b e = turned o Remainder (rem c d) a b c d (remainder c d) e
applied_is (whole n) o a b e = cc
applied_is (var x) o a b e = cc
applied_is (neg c) o a b e = cc
applied_is (add c d) o a b e = cc
applied_is (sub c d) o a b e = cc
applied_is (len c) o a b e = cc
applied_is (measure f c) o a b e = cc

pub is_applied : (o : Operator) (s a b : Sum) → IsApplied o s a b → operation_of s ≡ Some (o, a, b)
is_applied _ _ _ _ (times a b h) = ap (λ x. chosen x (literal_of b) a b) h.0 ∙ ap (λ y. chosen None y a b) h.1
is_applied _ _ _ _ (over a b) = refl
is_applied _ _ _ _ (remainder a b) = refl

-- two of one operator
pub apply_two : (o : Operator) (s a b t c d : Sum) → IsApplied o s a b → IsApplied o t c d → ApplyTwo s a b t c d
apply_two _ _ _ _ _ _ _ (times a b h) (times c d k) = products a b c d h k
apply_two _ _ _ _ _ _ _ (over a b) (over c d) = quotients a b c d
apply_two _ _ _ _ _ _ _ (remainder a b) (remainder c d) = remainders a b c d

-- what is applied by both
pub record OneOperator (s a b t c d : Sum) : Type 0 where
  pub operator : Operator
  pub one : operation_of s ≡ Some (operator, a, b)
  pub other : operation_of t ≡ Some (operator, c, d)

pub one_operator : (s a b t c d : Sum) → ApplyTwo s a b t c d → OneOperator s a b t c d
one_operator _ _ _ _ _ _ (products a b c d h k) = record { operator = Times; one = is_applied Times (mul a b) a b (times a b h); other = is_applied Times (mul c d) c d (times c d k) }
one_operator _ _ _ _ _ _ (quotients a b c d) = record { operator = Over; one = refl; other = refl }
one_operator _ _ _ _ _ _ (remainders a b c d) = record { operator = Remainder; one = refl; other = refl }

pub applied_numbered : (terms : List Sum) (o : Operator) (s a b : Sum) → IsApplied o s a b → has_term terms s ≡ true → HasArguments terms s → IsNumbered terms s a b
applied_numbered terms _ _ _ _ (times a b h) k n = record {
  whole = ap (λ x. by_factors x (literal_of b) (numbered (numbered terms a) b) (with_term (numbered (numbered terms a) b) (mul a b))) h.0
      ∙ ap (λ y. by_factors None y (numbered (numbered terms a) b) (with_term (numbered (numbered terms a) b) (mul a b))) h.1
      ∙ ap (λ l. with_term (numbered l b) (mul a b)) n.0 ∙ ap (λ l. with_term l (mul a b)) n.1 ∙ with_term-present terms (mul a b) k;
  left = n.0;
  right = n.1;
}
applied_numbered terms _ _ _ _ (over a b) k n = record {
  whole = ap (λ l. with_term (numbered l b) (div a b)) n.0 ∙ ap (λ l. with_term l (div a b)) n.1 ∙ with_term-present terms (div a b) k;
  left = n.0;
  right = n.1;
}
applied_numbered terms _ _ _ _ (remainder a b) k n = record {
  whole = ap (λ l. with_term (numbered l b) (rem a b)) n.0 ∙ ap (λ l. with_term l (rem a b)) n.1 ∙ with_term-present terms (rem a b) k;
  left = n.0;
  right = n.1;
}

fits_each : (s a b t c d : Sum) → All CanGather (condition_rows s a b t c d) → CanPair s a b t c d
fits_each s a b t c d h0 =
    let r6 = below_row d b ∷ [] in let r5 = below_row b d ∷ r6 in let r4 = below_row c a ∷ r5 in let r3 = below_row a c ∷ r4 in let r2 = equal_row s t ∷ r3 in let r1 = equal_row b d ∷ r2 in
    let h1 = All-tail CanGather (equal_row a c) r1 h0 in let h2 = All-tail CanGather (equal_row b d) r2 h1 in let h3 = All-tail CanGather (equal_row s t) r3 h2 in
    let h4 = All-tail CanGather (below_row a c) r4 h3 in let h5 = All-tail CanGather (below_row c a) r5 h4 in let h6 = All-tail CanGather (below_row b d) r6 h5 in record {
      equal_left = All-head CanGather (equal_row a c) r1 h0;
      equal_right = All-head CanGather (equal_row b d) r2 h1;
      equal_results = All-head CanGather (equal_row s t) r3 h2;
      left_below = All-head CanGather (below_row a c) r4 h3;
      left_above = All-head CanGather (below_row c a) r5 h4;
      right_below = All-head CanGather (below_row b d) r6 h5;
      right_above = All-head CanGather (below_row d b) [] h6;
    }

pub two_fit : (o : Operator) (s a b t c d : Sum) → IsApplied o s a b → IsApplied o t c d → All CanGather (pair_rows s t) → CanPair s a b t c d
two_fit _ _ _ _ _ _ _ (times a b h) (times c d k) f = fits_each (mul a b) a b (mul c d) c d f
two_fit _ _ _ _ _ _ _ (over a b) (over c d) f = fits_each (div a b) a b (div c d) c d f
two_fit _ _ _ _ _ _ _ (remainder a b) (remainder c d) f = fits_each (rem a b) a b (rem c d) c d f

-- one operator and the same arguments
pub operators_one : (o p r : Operator) (a b c d e f g h : Sum) → operates o a b ≡ operates r c d → operates p e f ≡ operates r g h → o ≡ p
operators_one o p r a b c d e f g h m n =
    let x : Operator × Sum × Sum = (o, a, b) in let y : Operator × Sum × Sum = (r, c, d) in
    let z : Operator × Sum × Sum = (p, e, f) in let w : Operator × Sum × Sum = (r, g, h) in
    ap (λ (v : Operator × Sum × Sum). v.0) (once x y m) ∙ sym (ap (λ (v : Operator × Sum × Sum). v.0) (once z w n))
