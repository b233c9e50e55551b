-- What can be gathered of two applications one way round can be gathered the other way round.
use Rattle.std.specs.Prelude.{ℤ, pos, ◌+ℤ◌, ◌-ℤ◌, FitsSigned}
use Rattle.std.specs.Int.{w128}
use Rattle.std.proofs.Common.{◌≡◌, Bool, true, false, List, [], ◌∷◌, None, All, ◌==◌, if◌then◌else◌, refl, sym, ap, subst, ◌∙◌, arith}
use Rattle.std.proofs.lemmas.Int.{ints}
use Rattle.std.proofs.lemmas.List.Elements.{All-nil, All-cons}
use Rattle.lq_prover_proof_tree.specs.Trees.Proves.{AreNoLiterals}
use Rattle.lq_prover_case.proofs.EquationsLemmas.Plain.{IsPlain}
use Rattle.lq_base_names.specs.declared.name.Name.{Name}
use Rattle.lq_logic_predicates.specs.Comparison.{CanGather, Comparison}
use Rattle.lq_logic_predicates.specs.LinearForm.{HasFit, IsFit, OnFactors, coefficient, constant_of, one_at, scaled}
use Rattle.lq_logic_predicates.specs.Literals.{below_row, condition_rows, equal_row, pair_rows}
use Rattle.lq_logic_predicates.specs.Sum.{Sum, whole, var, neg, add, sub, mul, div, rem, len, measure, same}
use Rattle.lq_logic_predicates.specs.Table.{literal_of}

constant_turns : (x y : ℤ) → FitsSigned w128 (x -ℤ y +ℤ pos 1) → FitsSigned w128 (y -ℤ x +ℤ pos 1) → FitsSigned w128 (y -ℤ x +ℤ pos 0)
constant_turns x y p q = omega (arith, ints)

-- two terms that can be below one another can be equal either way
equal_turns : (a c : Sum) → CanGather (below_row a c) → CanGather (below_row c a) → CanGather (equal_row c a)
equal_turns a c up down = record {
  left = down.left;
  right = down.right;
  constant = constant_turns (constant_of a) (constant_of c) up.constant down.constant;
  coefficients = down.coefficients;
}

-- the form of the term is the term
record IsOne (s : Sum) : Type 0 where
  fit : IsFit s
  constant : constant_of s ≡ pos 0
  coefficients : (t : Sum) → coefficient s t ≡ one_at s t

product_is_one : (a b : Sum) → AreNoLiterals a b → IsOne (mul a b)
product_is_one a b h =
    record {
      fit = subst (λ x. OnFactors x (literal_of b) (IsFit a × IsFit b × HasFit (mul a b))) (sym h.0) (subst (λ y. OnFactors None y (IsFit a × IsFit b × HasFit (mul a b))) (sym h.1) tt);
      constant = ap (λ x. scaled x (literal_of b) (constant_of a) (constant_of b) (pos 0)) h.0 ∙ ap (λ y. scaled None y (constant_of a) (constant_of b) (pos 0)) h.1;
      coefficients = λ t. ap (λ x. scaled x (literal_of b) (coefficient a t) (coefficient b t) (one_at (mul a b) t)) h.0 ∙ ap (λ y. scaled None y (coefficient a t) (coefficient b t) (one_at (mul a b) t)) h.1;
    }

no_constant : FitsSigned w128 (pos 0 -ℤ pos 0 +ℤ pos 0)
no_constant = omega (arith, ints)

abbrev unit_of : Bool → ℤ
unit_of b = if b then pos 1 else pos 0

units_apart : (b c : Bool) → FitsSigned w128 (unit_of b -ℤ unit_of c)
units_apart true true = omega (arith, ints)
units_apart true false = omega (arith, ints)
units_apart false true = omega (arith, ints)
units_apart false false = omega (arith, ints)

ones_gather : (s t : Sum) → IsOne s → IsOne t → CanGather (equal_row s t)
ones_gather s t p q = record {
  left = p.fit;
  right = q.fit;
  constant = subst (λ x. FitsSigned w128 (x -ℤ constant_of t +ℤ pos 0)) (sym p.constant) (subst (λ y. FitsSigned w128 (pos 0 -ℤ y +ℤ pos 0)) (sym q.constant) no_constant);
  coefficients = λ u. subst (λ x. FitsSigned w128 (x -ℤ coefficient t u)) (sym (p.coefficients u)) (subst (λ y. FitsSigned w128 (one_at s u -ℤ y)) (sym (q.coefficients u)) (units_apart (same s u) (same t u)));
}

condition_turns : (s a b t c d : Sum) → IsOne s → IsOne t → All CanGather (condition_rows s a b t c d) → All CanGather (condition_rows t c d s a b)
condition_turns s a b t c d p q h =
    let left_below : CanGather (below_row a c) = h 3 (below_row a c) (omega arith) in
    let left_above : CanGather (below_row c a) = h 4 (below_row a c) (omega arith) in
    let right_below : CanGather (below_row b d) = h 5 (below_row a c) (omega arith) in
    let right_above : CanGather (below_row d b) = h 6 (below_row a c) (omega arith) in
    let r6 : List Comparison = below_row b d ∷ [] in
    let r5 : List Comparison = below_row d b ∷ r6 in
    let r4 : List Comparison = below_row a c ∷ r5 in
    let r3 : List Comparison = below_row c a ∷ r4 in
    let r2 : List Comparison = equal_row t s ∷ r3 in
    let r1 : List Comparison = equal_row d b ∷ r2 in
    All-cons CanGather (equal_row c a) r1 (equal_turns a c left_below left_above)
    (All-cons CanGather (equal_row d b) r2 (equal_turns b d right_below right_above)
    (All-cons CanGather (equal_row t s) r3 (ones_gather t s q p)
    (All-cons CanGather (below_row c a) r4 left_above
    (All-cons CanGather (below_row a c) r5 left_below
    (All-cons CanGather (below_row d b) r6 right_above
    (All-cons CanGather (below_row b d) [] right_below (All-nil CanGather)))))))

alone : (s t : Sum) → IsOne s → IsOne t → All CanGather (equal_row s t ∷ [])
alone s t p q = All-cons CanGather (equal_row s t) [] (ones_gather s t p q) (All-nil CanGather)

measures_alone : (f g : Name) (a b : Sum) (x : Bool) → All CanGather (if x then equal_row (measure g b) (measure f a) ∷ [] else [])
measures_alone f g a b true = alone (measure g b) (measure f a) (record { fit = tt; constant = refl; coefficients = λ t. refl }) (record { fit = tt; constant = refl; coefficients = λ t. refl })
measures_alone f g a b false = All-nil CanGather

pub pair_turns : (s t : Sum) → IsPlain s → IsPlain t → All CanGather (pair_rows s t) → All CanGather (pair_rows t s)
pair_turns (mul a b) (mul c d) p q h =
    condition_turns (mul a b) a b (mul c d) c d (product_is_one a b p) (product_is_one c d q) h
pair_turns (mul a b) _ p q h = All-nil CanGather
pair_turns (div a b) (div c d) p q h =
    condition_turns (div a b) a b (div c d) c d (record { fit = tt; constant = refl; coefficients = λ t. refl }) (record { fit = tt; constant = refl; coefficients = λ t. refl }) h
pair_turns (div a b) _ p q h = All-nil CanGather
pair_turns (rem a b) (rem c d) p q h =
    condition_turns (rem a b) a b (rem c d) c d (record { fit = tt; constant = refl; coefficients = λ t. refl }) (record { fit = tt; constant = refl; coefficients = λ t. refl }) h
pair_turns (rem a b) _ p q h = All-nil CanGather
pair_turns (len a) (len b) p q h =
    alone (len b) (len a) (record { fit = tt; constant = refl; coefficients = λ t. refl }) (record { fit = tt; constant = refl; coefficients = λ t. refl })
pair_turns (len a) _ p q h = All-nil CanGather
pair_turns (measure f a) (measure g b) p q h = measures_alone f g a b (g.0 == f.0)
pair_turns (measure f a) _ p q h = All-nil CanGather
pair_turns (whole n) (mul c d) p q h = All-nil CanGather
pair_turns (whole n) _ p q h = All-nil CanGather
pair_turns (var x) (mul c d) p q h = All-nil CanGather
pair_turns (var x) _ p q h = All-nil CanGather
pair_turns (neg a) (mul c d) p q h = All-nil CanGather
pair_turns (neg a) _ p q h = All-nil CanGather
pair_turns (add a b) (mul c d) p q h = All-nil CanGather
pair_turns (add a b) _ p q h = All-nil CanGather
pair_turns (sub a b) (mul c d) p q h = All-nil CanGather
pair_turns (sub a b) _ p q h = All-nil CanGather
