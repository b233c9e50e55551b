-- Two substitutions one after the other are one, also where each is restricted to a scope.
use Rattle.std.proofs.Common.{◌≡◌, Bool, true, false, cond, List, [], ◌∷◌, ◌++◌, map, refl, sym, ap, ap₂, ◌∙◌}
use Rattle.lq_logic_predicates.specs.declared.symbol.Symbol.{Symbol}
use Rattle.lq_logic_predicates.specs.Sum.{Sum, whole, var, neg, add, sub, mul, div, rem, len, measure, same_symbol}
use Rattle.lq_logic_predicates.specs.Formula.{Formula, truth, falsity, flag, compare, objects, negation, conjunction, disjunction, equivalence}
use Rattle.lq_refined_types.specs.Parts.Assignment.{Assignment, IsScoped, part_under, parts_under}
use Rattle.lq_refined_types.specs.Parts.Names.{AreOver}
use Rattle.lq_refined_types.specs.Parts.Part.{Part, known, unknown, Parts, Scopes, part_by, parts_by}
use Rattle.lq_refined_types.specs.Parts.Substitution.{Atom, of_sum, of_formula, atom_by, swap, Subst, sum_at, flag_at, sum_by, formula_by, after, is_new, kept, restricted}
use Rattle.lq_refined_types.proofs.PartsLemmas.Restricting.{formula-restricted}

sum_either : (θ : Subst) (b : Bool) (s t : Sum) → cond b (sum_by θ s) (sum_by θ t) ≡ sum_by θ (cond b s t)
sum_either θ true s t = refl
sum_either θ false s t = refl

formula_either : (θ : Subst) (b : Bool) (p q : Formula) → cond b (formula_by θ p) (formula_by θ q) ≡ formula_by θ (cond b p q)
formula_either θ true p q = refl
formula_either θ false p q = refl

sum_at-after : (θ σ : Subst) (x : Symbol) → sum_at (after θ σ) x ≡ sum_by θ (sum_at σ x)
sum_at-after θ [] x = refl
sum_at-after θ (swap y (of_sum t) ∷ σ) x =
    ap (λ s. cond (same_symbol y x) (sum_by θ t) s) (sum_at-after θ σ x) ∙ sum_either θ (same_symbol y x) t (sum_at σ x)
sum_at-after θ (swap y (of_formula p) ∷ σ) x = sum_at-after θ σ x

flag_at-after : (θ σ : Subst) (x : Symbol) → flag_at (after θ σ) x ≡ formula_by θ (flag_at σ x)
flag_at-after θ [] x = refl
flag_at-after θ (swap y (of_sum t) ∷ σ) x = flag_at-after θ σ x
flag_at-after θ (swap y (of_formula p) ∷ σ) x =
    ap (λ q. cond (same_symbol y x) (formula_by θ p) q) (flag_at-after θ σ x) ∙ formula_either θ (same_symbol y x) p (flag_at σ x)

pub sum-after : (θ σ : Subst) (t : Sum) → sum_by (after θ σ) t ≡ sum_by θ (sum_by σ t)
sum-after θ σ (whole n) = refl
sum-after θ σ (var x) = sum_at-after θ σ x
sum-after θ σ (neg a) = ap neg (sum-after θ σ a)
sum-after θ σ (add a b) = ap₂ add (sum-after θ σ a) (sum-after θ σ b)
sum-after θ σ (sub a b) = ap₂ sub (sum-after θ σ a) (sum-after θ σ b)
sum-after θ σ (mul a b) = ap₂ mul (sum-after θ σ a) (sum-after θ σ b)
sum-after θ σ (div a b) = ap₂ div (sum-after θ σ a) (sum-after θ σ b)
sum-after θ σ (rem a b) = ap₂ rem (sum-after θ σ a) (sum-after θ σ b)
sum-after θ σ (len a) = ap len (sum-after θ σ a)
sum-after θ σ (measure f a) = ap (measure f) (sum-after θ σ a)

pub formula-after : (θ σ : Subst) (p : Formula) → formula_by (after θ σ) p ≡ formula_by θ (formula_by σ p)
formula-after θ σ truth = refl
formula-after θ σ falsity = refl
formula-after θ σ (flag x) = flag_at-after θ σ x
formula-after θ σ (compare o a b) = ap₂ (compare o) (sum-after θ σ a) (sum-after θ σ b)
formula-after θ σ (objects a b) = ap₂ objects (sum-after θ σ a) (sum-after θ σ b)
formula-after θ σ (negation p) = ap negation (formula-after θ σ p)
formula-after θ σ (conjunction p q) = ap₂ conjunction (formula-after θ σ p) (formula-after θ σ q)
formula-after θ σ (disjunction p q) = ap₂ disjunction (formula-after θ σ p) (formula-after θ σ q)
formula-after θ σ (equivalence p q) = ap₂ equivalence (formula-after θ σ p) (formula-after θ σ q)

-- of a substitution that is restricted first, as much is kept behind another one
module _ (scope : List Symbol) (θ : Subst) where
  abbrev Same : List Symbol → List Symbol → Subst → Type 0
  Same terms flags σ = kept scope terms flags (after θ (kept scope terms flags σ)) ≡ kept scope terms flags (after θ σ)

  with_term : (terms flags : List Symbol) (x : Symbol) (t : Sum) (σ : Subst) → Same (x ∷ terms) flags σ → Same terms flags σ → (b : Bool)
      → is_new scope terms x ≡ b
      → kept scope terms flags (after θ (cond b (swap x (of_sum t) ∷ kept scope (x ∷ terms) flags σ) (kept scope terms flags σ)))
      ≡ cond b (swap x (of_sum (sum_by θ t)) ∷ kept scope (x ∷ terms) flags (after θ σ)) (kept scope terms flags (after θ σ))
  with_term terms flags x t σ more same true h =
      ap (λ c. cond c (swap x (of_sum (sum_by θ t)) ∷ kept scope (x ∷ terms) flags (after θ (kept scope (x ∷ terms) flags σ))) (kept scope terms flags (after θ (kept scope (x ∷ terms) flags σ)))) h
      ∙ ap (λ l. swap x (of_sum (sum_by θ t)) ∷ l) more
  with_term terms flags x t σ more same false h = same

  with_flag : (terms flags : List Symbol) (x : Symbol) (p : Formula) (σ : Subst) → Same terms (x ∷ flags) σ → Same terms flags σ → (b : Bool)
      → is_new scope flags x ≡ b
      → kept scope terms flags (after θ (cond b (swap x (of_formula p) ∷ kept scope terms (x ∷ flags) σ) (kept scope terms flags σ)))
      ≡ cond b (swap x (of_formula (formula_by θ p)) ∷ kept scope terms (x ∷ flags) (after θ σ)) (kept scope terms flags (after θ σ))
  with_flag terms flags x p σ more same true h =
      ap (λ c. cond c (swap x (of_formula (formula_by θ p)) ∷ kept scope terms (x ∷ flags) (after θ (kept scope terms (x ∷ flags) σ))) (kept scope terms flags (after θ (kept scope terms (x ∷ flags) σ)))) h
      ∙ ap (λ l. swap x (of_formula (formula_by θ p)) ∷ l) more
  with_flag terms flags x p σ more same false h = same

  kept-after : (terms flags : List Symbol) (σ : Subst) → Same terms flags σ
  kept-after terms flags [] = refl
  kept-after terms flags (swap x (of_sum t) ∷ σ) =
      with_term terms flags x t σ (kept-after (x ∷ terms) flags σ) (kept-after terms flags σ) (is_new scope terms x) refl
  kept-after terms flags (swap x (of_formula p) ∷ σ) =
      with_flag terms flags x p σ (kept-after terms (x ∷ flags) σ) (kept-after terms flags σ) (is_new scope flags x) refl

-- an assignment of a part with something put for its names is that of the part, with it put for their names
each-restricted : (scope : List Symbol) (θ σ : Subst) (ps : List Formula) → AreOver scope ps
    → map (formula_by (restricted scope (after θ σ))) ps ≡ map (formula_by θ) (map (formula_by σ) ps)
each-restricted scope θ σ [] h = refl
each-restricted scope θ σ (p ∷ ps) h =
    ap₂ (λ q qs. q ∷ qs) (formula-restricted scope (after θ σ) p h.0 ∙ formula-after θ σ p) (each-restricted scope θ σ ps h.1)

part-under : (scopes : Scopes) (A : Assignment) (θ : Subst) (q : Part) → IsScoped scopes A → part_under A (part_by scopes θ q) ≡ map (formula_by θ) (part_under A q)
part-under scopes A θ (known p) s = refl
part-under scopes A θ (unknown u σ) s = each-restricted (scopes u) θ σ (A u) (s u)

map-append : (f : Formula → Formula) (ps qs : List Formula) → map f (ps ++ qs) ≡ map f ps ++ map f qs
map-append f [] qs = refl
map-append f (p ∷ ps) qs = ap (λ l. f p ∷ l) (map-append f ps qs)

pub parts-under : (scopes : Scopes) (A : Assignment) (θ : Subst) (qs : Parts) → IsScoped scopes A → parts_under A (parts_by scopes θ qs) ≡ map (formula_by θ) (parts_under A qs)
parts-under scopes A θ [] s = refl
parts-under scopes A θ (q ∷ qs) s =
    ap₂ (λ l m. l ++ m) (part-under scopes A θ q s) (parts-under scopes A θ qs s) ∙ sym (map-append (formula_by θ) (part_under A q) (parts_under A qs))

atom-after : (θ σ : Subst) (a : Atom) → atom_by (after θ σ) a ≡ atom_by θ (atom_by σ a)
atom-after θ σ (of_sum t) = ap of_sum (sum-after θ σ t)
atom-after θ σ (of_formula p) = ap of_formula (formula-after θ σ p)

after-after : (θ σ ρ : Subst) → after (after θ σ) ρ ≡ after θ (after σ ρ)
after-after θ σ [] = refl
after-after θ σ (swap x a ∷ ρ) = ap₂ (λ b l. swap x b ∷ l) (atom-after θ σ a) (after-after θ σ ρ)

part-after : (scopes : Scopes) (θ σ : Subst) (q : Part) → part_by scopes (after θ σ) q ≡ part_by scopes θ (part_by scopes σ q)
part-after scopes θ σ (known p) = ap known (formula-after θ σ p)
part-after scopes θ σ (unknown u ρ) =
    ap (λ τ. unknown u (restricted (scopes u) τ)) (after-after θ σ ρ) ∙ ap (unknown u) (sym (kept-after (scopes u) θ [] [] (after σ ρ)))

pub parts-after : (scopes : Scopes) (θ σ : Subst) (qs : Parts) → parts_by scopes (after θ σ) qs ≡ parts_by scopes θ (parts_by scopes σ qs)
parts-after scopes θ σ [] = refl
parts-after scopes θ σ (q ∷ qs) = ap₂ (λ r l. r ∷ l) (part-after scopes θ σ q) (parts-after scopes θ σ qs)
