-- A substitution that is restricted to a scope does the same to predicates over it.
use Rattle.std.proofs.Common.{◌≡◌, Bool, true, false, not, ◌&&◌, ◌||◌, cond, List, [], ◌∷◌, refl, sym, ap, ap₂, ◌∙◌}
use Rattle.lq_logic_predicates.specs.declared.symbol.Symbol.{Symbol}
use Rattle.lq_logic_predicates.specs.declared.symbol.Symbol.TheVariants.{Value}
use Rattle.lq_logic_predicates.specs.SameLaws.{same-is}
use Rattle.lq_logic_predicates.specs.Sum.{Sum, whole, var, neg, add, sub, mul, div, rem, len, measure, same_symbol}
use Rattle.lq_logic_predicates.specs.Formula.{Formula, truth, falsity, flag, compare, objects, negation, conjunction, disjunction, equivalence}
use Rattle.lq_refined_types.specs.Parts.Names.{IsSumOver, IsOver}
use Rattle.lq_refined_types.specs.Parts.Substitution.{of_sum, of_formula, swap, Subst, sum_at, flag_at, sum_by, formula_by, is_in, is_new, kept, restricted}

abbrev named : Sum → Symbol
named (var x) = x
named _ = Value

var-is : (x y : Symbol) → var x ≡ var y → x ≡ y
var-is x y h = ap named h

symbol-is : (x y : Symbol) → same_symbol x y ≡ true → x ≡ y
symbol-is x y h = var-is x y (same-is (var x) (var y) h)

new_there : (scope done : List Symbol) (x : Symbol) → is_in scope x ≡ true → is_in done x ≡ false → is_new scope done x ≡ true
new_there scope done x h k = ap₂ (λ a b. a && not b) h k

-- a name that isn't there is not there either behind another one
not_there : (done : List Symbol) (y x : Symbol) → same_symbol y x ≡ false → is_in done x ≡ false → is_in (y ∷ done) x ≡ false
not_there done y x h k = ap₂ (λ a b. a || b) h k

true_false : true ≡ false → ⊥
true_false h = cc

module _ (scope : List Symbol) (x : Symbol) (inside : is_in scope x ≡ true) where
  sum_put : (terms flags : List Symbol) (y : Symbol) (t : Sum) (σ : Subst)
      → (is_in (y ∷ terms) x ≡ false → sum_at (kept scope (y ∷ terms) flags σ) x ≡ sum_at σ x) → (sum_at (kept scope terms flags σ) x ≡ sum_at σ x)
      → is_in terms x ≡ false → (b : Bool) → is_new scope terms y ≡ b → (c : Bool) → same_symbol y x ≡ c
      → sum_at (cond b (swap y (of_sum t) ∷ kept scope (y ∷ terms) flags σ) (kept scope terms flags σ)) x ≡ cond c t (sum_at σ x)
  sum_put terms flags y t σ more same k true h true e = ap (λ c. cond c t (sum_at (kept scope (y ∷ terms) flags σ) x)) e
  sum_put terms flags y t σ more same k true h false e =
      ap (λ c. cond c t (sum_at (kept scope (y ∷ terms) flags σ) x)) e ∙ more (not_there terms y x e k)
  sum_put terms flags y t σ more same k false h true e =
      absurd (true_false (sym (new_there scope terms x inside k) ∙ ap (is_new scope terms) (sym (symbol-is y x e)) ∙ h))
  sum_put terms flags y t σ more same k false h false e = same

  flag_put : (terms flags : List Symbol) (y : Symbol) (p : Formula) (σ : Subst)
      → (is_in (y ∷ flags) x ≡ false → flag_at (kept scope terms (y ∷ flags) σ) x ≡ flag_at σ x) → (flag_at (kept scope terms flags σ) x ≡ flag_at σ x)
      → is_in flags x ≡ false → (b : Bool) → is_new scope flags y ≡ b → (c : Bool) → same_symbol y x ≡ c
      → flag_at (cond b (swap y (of_formula p) ∷ kept scope terms (y ∷ flags) σ) (kept scope terms flags σ)) x ≡ cond c p (flag_at σ x)
  flag_put terms flags y p σ more same k true h true e = ap (λ c. cond c p (flag_at (kept scope terms (y ∷ flags) σ) x)) e
  flag_put terms flags y p σ more same k true h false e =
      ap (λ c. cond c p (flag_at (kept scope terms (y ∷ flags) σ) x)) e ∙ more (not_there flags y x e k)
  flag_put terms flags y p σ more same k false h true e =
      absurd (true_false (sym (new_there scope flags x inside k) ∙ ap (is_new scope flags) (sym (symbol-is y x e)) ∙ h))
  flag_put terms flags y p σ more same k false h false e = same

  sum_past : (terms flags : List Symbol) (y : Symbol) (p : Formula) (σ : Subst) → sum_at (kept scope terms (y ∷ flags) σ) x ≡ sum_at σ x
      → sum_at (kept scope terms flags σ) x ≡ sum_at σ x → (b : Bool)
      → sum_at (cond b (swap y (of_formula p) ∷ kept scope terms (y ∷ flags) σ) (kept scope terms flags σ)) x ≡ sum_at σ x
  sum_past terms flags y p σ more same true = more
  sum_past terms flags y p σ more same false = same

  flag_past : (terms flags : List Symbol) (y : Symbol) (t : Sum) (σ : Subst) → flag_at (kept scope (y ∷ terms) flags σ) x ≡ flag_at σ x
      → flag_at (kept scope terms flags σ) x ≡ flag_at σ x → (b : Bool)
      → flag_at (cond b (swap y (of_sum t) ∷ kept scope (y ∷ terms) flags σ) (kept scope terms flags σ)) x ≡ flag_at σ x
  flag_past terms flags y t σ more same true = more
  flag_past terms flags y t σ more same false = same

  sum-kept : (terms flags : List Symbol) (σ : Subst) → is_in terms x ≡ false → sum_at (kept scope terms flags σ) x ≡ sum_at σ x
  sum-kept terms flags [] k = refl
  sum-kept terms flags (swap y (of_sum t) ∷ σ) k =
      sum_put terms flags y t σ (sum-kept (y ∷ terms) flags σ) (sum-kept terms flags σ k) k (is_new scope terms y) refl (same_symbol y x) refl
  sum-kept terms flags (swap y (of_formula p) ∷ σ) k =
      sum_past terms flags y p σ (sum-kept terms (y ∷ flags) σ k) (sum-kept terms flags σ k) (is_new scope flags y)

  flag-kept : (terms flags : List Symbol) (σ : Subst) → is_in flags x ≡ false → flag_at (kept scope terms flags σ) x ≡ flag_at σ x
  flag-kept terms flags [] k = refl
  flag-kept terms flags (swap y (of_sum t) ∷ σ) k =
      flag_past terms flags y t σ (flag-kept (y ∷ terms) flags σ k) (flag-kept terms flags σ k) (is_new scope terms y)
  flag-kept terms flags (swap y (of_formula p) ∷ σ) k =
      flag_put terms flags y p σ (flag-kept terms (y ∷ flags) σ) (flag-kept terms flags σ k) k (is_new scope flags y) refl (same_symbol y x) refl

module _ (scope : List Symbol) (σ : Subst) where
  sum-restricted : (a : Sum) → IsSumOver scope a → sum_by (restricted scope σ) a ≡ sum_by σ a
  sum-restricted (whole n) h = refl
  sum-restricted (var x) h = sum-kept scope x h [] [] σ refl
  sum-restricted (neg a) h = ap neg (sum-restricted a h)
  sum-restricted (add a b) h = ap₂ add (sum-restricted a h.0) (sum-restricted b h.1)
  sum-restricted (sub a b) h = ap₂ sub (sum-restricted a h.0) (sum-restricted b h.1)
  sum-restricted (mul a b) h = ap₂ mul (sum-restricted a h.0) (sum-restricted b h.1)
  sum-restricted (div a b) h = ap₂ div (sum-restricted a h.0) (sum-restricted b h.1)
  sum-restricted (rem a b) h = ap₂ rem (sum-restricted a h.0) (sum-restricted b h.1)
  sum-restricted (len a) h = ap len (sum-restricted a h)
  sum-restricted (measure f a) h = ap (measure f) (sum-restricted a h)

  pub formula-restricted : (p : Formula) → IsOver scope p → formula_by (restricted scope σ) p ≡ formula_by σ p
  formula-restricted truth h = refl
  formula-restricted falsity h = refl
  formula-restricted (flag x) h = flag-kept scope x h [] [] σ refl
  formula-restricted (compare o a b) h = ap₂ (compare o) (sum-restricted a h.0) (sum-restricted b h.1)
  formula-restricted (objects a b) h = ap₂ objects (sum-restricted a h.0) (sum-restricted b h.1)
  formula-restricted (negation p) h = ap negation (formula-restricted p h)
  formula-restricted (conjunction p q) h = ap₂ conjunction (formula-restricted p h.0) (formula-restricted q h.1)
  formula-restricted (disjunction p q) h = ap₂ disjunction (formula-restricted p h.0) (formula-restricted q h.1)
  formula-restricted (equivalence p q) h = ap₂ equivalence (formula-restricted p h.0) (formula-restricted q h.1)
