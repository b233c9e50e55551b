-- The row that two applications of one function are equal.
use Rattle.std.proofs.Common.{◌≡◌, ◌≢◌, ℕ, pos, negsuc, ◌-ℤ◌, ◌+ℤ◌, ◌<◌, ◌≤◌, List, [], ◌∷◌, Bool, true, false, Option, Some, None, ◌==◌, if◌then◌else◌, length, refl, sym, ap, ap₂, ◌∙◌, arith, slice_get}
use Rattle.std.proofs.lemmas.Bool.{eq-eqb, ne_eqb}
use Rattle.std.proofs.lemmas.List.Elements.{All-nil, All-cons}
use Rattle.std.proofs.lemmas.Option.{slice_get_within}
use Rattle.lq_logic_rows.specs.Row.{IsRow}
use Rattle.lq_base_names.specs.declared.name.Name.{Name}
use Rattle.lq_logic_predicates.specs.Comparison.{IsRowOf}
use Rattle.lq_logic_predicates.specs.LinearForm.{coefficient, constant_of, one_at}
use Rattle.lq_logic_predicates.specs.Literals.{equal_row}
use Rattle.lq_logic_predicates.specs.Numbering.{index_of-absent, index_of-slice_get, slice_get-index_of}
use Rattle.lq_logic_predicates.specs.SameLaws.{same-is, same-from}
use Rattle.lq_logic_predicates.specs.Sum.{Sum, same}
use Rattle.lq_logic_predicates.specs.Table.{all_differ, has_term, index_of}
use Rattle.lq_prover_case.specs.Equations.Equating.{applied}

-- a term's place is its number alone
place_tells : (terms : List Sum) (i : ℕ) (s u : Sum) → all_differ terms ≡ true → slice_get terms i ≡ Some s → (i == index_of terms u) ≡ same s u
place_tells terms i s u d h = by (same s u) refl
  where
    none : same s u ≡ false → (b : Bool) → has_term terms u ≡ b → i ≡ index_of terms u → ⊥
    none e true t k = let g = slice_get-index_of terms u t in let w : Some s ≡ Some u = sym h ∙ ap (slice_get terms) k ∙ g in let x : s ≡ u = cc in let y = same-from s u x in cc
    none e false t k = let g = index_of-absent terms u t in let w = slice_get_within terms i s h in omega (arith, g, w, k)

    by : (b : Bool) → same s u ≡ b → (i == index_of terms u) ≡ b
    by true e = eq-eqb i (index_of terms u) (sym (index_of-slice_get terms i s d h) ∙ ap (index_of terms) (same-is s u e))
    by false e = ne_eqb i (index_of terms u) (none e (has_term terms u) refl)

coefficient_is : (m : Option Name) (a u : Sum) → coefficient (applied m a) u ≡ one_at (applied m a) u
coefficient_is None a u = refl
coefficient_is (Some f) a u = refl

constant_is : (m : Option Name) (a : Sum) → constant_of (applied m a) ≡ pos 0
constant_is None a = refl
constant_is (Some f) a = refl

-- one less the other, where the two aren't one
less : (x y : Bool) → (x ≡ true → y ≡ true → ⊥) → (if x then pos 1 else (if y then negsuc 0 else pos 0)) ≡ (if x then pos 1 else pos 0) -ℤ (if y then pos 1 else pos 0)
less true true apart = absurd (apart refl refl)
less true false apart = refl
less false true apart = refl
less false false apart = refl

pub is_row : (i j : ℕ) → i < j → IsRow (record { parts = (i, pos 1) ∷ (j, negsuc 0) ∷ []; constant = pos 0; equal = true })
is_row i j l = record {
  ascending = (omega arith, (l, tt));
  nonzero = All-cons (λ part. part.1 ≢ pos 0) (i, pos 1) ((j, negsuc 0) ∷ []) (λ e. cc) (All-cons (λ part. part.1 ≢ pos 0) (j, negsuc 0) [] (λ e. cc) (All-nil (λ part. part.1 ≢ pos 0)));
}

pub is_row_of : (terms : List Sum) (i j : ℕ) (s t : Sum) (m : Option Name) (a b : Sum) → all_differ terms ≡ true → slice_get terms i ≡ Some s → slice_get terms j ≡ Some t
    → i < j → s ≡ applied m a → t ≡ applied m b → IsRowOf terms (equal_row s t) (record { parts = (i, pos 1) ∷ (j, negsuc 0) ∷ []; constant = pos 0; equal = true })
is_row_of terms i j s t m a b d g h l es et = record {
  formed = is_row i j l;
  constant = sym (ap₂ (λ x y. x -ℤ y +ℤ pos 0) (ap constant_of es ∙ constant_is m a) (ap constant_of et ∙ constant_is m b));
  equal = refl;
  coefficients = λ u.
      ap₂ (λ x y. if x then pos 1 else (if y then negsuc 0 else pos 0)) (place_tells terms i s u d g) (place_tells terms j t u d h) ∙ less (same s u) (same t u) (apart u)
      ∙ sym (ap₂ (λ x y. x -ℤ y) (ap (λ w. coefficient w u) es ∙ coefficient_is m a u ∙ ap (λ w. one_at w u) (sym es)) (ap (λ w. coefficient w u) et ∙ coefficient_is m b u ∙ ap (λ w. one_at w u) (sym et)));
  within = λ q w. ap₂ (λ x y. if x then pos 1 else (if y then negsuc 0 else pos 0)) (far i s q g w) (far j t q h w);
}
  where
    far : (k : ℕ) (s : Sum) (q : ℕ) → slice_get terms k ≡ Some s → length terms ≤ q → (k == q) ≡ false
    far k s q e w = let x = slice_get_within terms k s e in ne_eqb k q (λ y. omega (arith, x, w, y))

    apart : (u : Sum) → same s u ≡ true → same t u ≡ true → ⊥
    apart u x y =
        let e : s ≡ t = same-is s u x ∙ sym (same-is t u y) in
        let p = index_of-slice_get terms i s d g in let q = index_of-slice_get terms j t d h in let r = ap (index_of terms) e in omega (arith, p, q, r, l)
