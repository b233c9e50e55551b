-- Parts with something put for their symbols.
use Rattle.std.proofs.Common.{◌≡◌, ◌↔◌, map, ℕ, pos, ◌+ℤ◌, ◌-ℤ◌, ◌*ℤ◌, ◌==◌, ◌&&◌, ◌||◌, not, true, List, [], ◌∷◌, refl, sym, ap, ap₂, ◌∙◌, subst}
use Rattle.lq_base_names.specs.declared.name.Name.{Name}
use Rattle.lq_logic_predicates.specs.declared.symbol.Symbol.{Symbol}
use Rattle.lq_logic_predicates.specs.ClosedImplication.{EachTrueIn}
use Rattle.lq_logic_predicates.specs.Formula.{Formula, truth, falsity, flag, compare, objects, negation, conjunction, disjunction, equivalence}
use Rattle.lq_logic_predicates.specs.Sum.{Sum, whole, var, neg, add, sub, mul, div, rem, len, measure}
use Rattle.lq_logic_predicates.specs.Truth.{Meaning, object_of, term_value, truth_of, quotient, remainder, compares, same_truth}
use Rattle.lq_refined_types.specs.Parts.Assignment.{IsScoped, parts_under}
use Rattle.lq_refined_types.specs.Parts.Part.{Parts, known, parts_by}
use Rattle.lq_refined_types.specs.Parts.Substitution.{Subst, formula_by}
use Rattle.lq_refined_types.specs.Parts.Values.{meaning_by}
use Rattle.lq_sound_values.specs.Inhabitants.Truth.{Givens, meaning_of, Scene, AreTrue}
use Rattle.lq_sound_values.specs.Inclusion.Symbols.{Symbols, SumOn}
use Rattle.lq_sound_values.proofs.InclusionLemmas.Truths.{Lower}
use Rattle.lq_sound_values.specs.Runs.Closed.{SortedOn, EachSorted}
use Rattle.lq_sound_forms.specs.Fields.Standing.{StandsOn}

-- two meanings that are one on these terms and on these flags
pub record SameSorted (P Q : Symbols) (m o : Meaning) : Type 0 where
  pub number : (x : Symbol) → P x ≡ true → m.number x ≡ o.number x
  pub object : (x : Symbol) → P x ≡ true → m.object x ≡ o.object x
  pub holds : (x : Symbol) → Q x ≡ true → m.holds x ≡ o.holds x
  pub length : (i : ℕ) → m.length i ≡ o.length i
  pub measured : (f : Name) (i : ℕ) → m.measured f i ≡ o.measured f i

module _ (P Q : Symbols) (m o : Meaning) (s : SameSorted P Q m o) where
  object_same : (t : Sum) → SumOn P t → object_of m t ≡ object_of o t
  object_same (var x) h = s.object x h
  object_same (whole n) h = refl
  object_same (neg a) h = refl
  object_same (add a b) h = refl
  object_same (sub a b) h = refl
  object_same (mul a b) h = refl
  object_same (div a b) h = refl
  object_same (rem a b) h = refl
  object_same (len a) h = refl
  object_same (measure f a) h = refl

  value_same : (t : Sum) → SumOn P t → term_value m t ≡ term_value o t
  value_same (whole n) h = refl
  value_same (var x) h = s.number x h
  value_same (neg a) h = ap (λ n. pos 0 -ℤ n) (value_same a h)
  value_same (add a b) h = ap₂ (λ k n. k +ℤ n) (value_same a h.0) (value_same b h.1)
  value_same (sub a b) h = ap₂ (λ k n. k -ℤ n) (value_same a h.0) (value_same b h.1)
  value_same (mul a b) h = ap₂ (λ k n. k *ℤ n) (value_same a h.0) (value_same b h.1)
  value_same (div a b) h = ap₂ quotient (value_same a h.0) (value_same b h.1)
  value_same (rem a b) h = ap₂ remainder (value_same a h.0) (value_same b h.1)
  value_same (len a) h = s.length (object_of m a) ∙ ap o.length (object_same a h)
  value_same (measure f a) h = s.measured f (object_of m a) ∙ ap (o.measured f) (object_same a h)

  truth_same : (p : Formula) → SortedOn P Q p → truth_of m p ≡ truth_of o p
  truth_same truth h = refl
  truth_same falsity h = refl
  truth_same (flag x) h = s.holds x h
  truth_same (compare c a b) h = ap₂ (compares c) (value_same a h.0) (value_same b h.1)
  truth_same (objects a b) h = ap₂ (λ k n. k == n) (object_same a h.0) (object_same b h.1)
  truth_same (negation p) h = ap not (truth_same p h)
  truth_same (conjunction p q) h = ap₂ (λ a b. a && b) (truth_same p h.0) (truth_same q h.1)
  truth_same (disjunction p q) h = ap₂ (λ a b. a || b) (truth_same p h.0) (truth_same q h.1)
  truth_same (equivalence p q) h = ap₂ same_truth (truth_same p h.0) (truth_same q h.1)

module _ (law : Lower) (S : Scene) (θ : Subst) (P Q : Symbols) (σ τ : Givens) (s : StandsOn S.objects θ P Q σ τ) where
  sorted : SameSorted P Q (meaning_by (meaning_of S.objects σ) θ) (meaning_of S.objects τ)
  sorted = record { number = s.number; object = s.object; holds = s.holds; length = λ i. refl; measured = λ f i. refl }

  formula_put : (p : Formula) → SortedOn P Q p → truth_of (meaning_of S.objects σ) (formula_by θ p) ≡ truth_of (meaning_of S.objects τ) p
  formula_put p o =
      law.truth-by (meaning_of S.objects σ) θ p ∙ truth_same P Q (meaning_by (meaning_of S.objects σ) θ) (meaning_of S.objects τ) sorted p o

  each_forth : (ps : List Formula) → EachSorted P Q ps → EachTrueIn (meaning_of S.objects σ) (map (formula_by θ) ps) → EachTrueIn (meaning_of S.objects τ) ps
  each_forth [] o h = tt
  each_forth (p ∷ ps) o h = (sym (formula_put p o.0) ∙ h.0, each_forth ps o.1 h.1)

  each_back : (ps : List Formula) → EachSorted P Q ps → EachTrueIn (meaning_of S.objects τ) ps → EachTrueIn (meaning_of S.objects σ) (map (formula_by θ) ps)
  each_back [] o h = tt
  each_back (p ∷ ps) o h = (formula_put p o.0 ∙ h.0, each_back ps o.1 h.1)

  pub parts_put : IsScoped S.setting.scopes S.assignment → (ps : Parts) → EachSorted P Q (parts_under S.assignment ps) → AreTrue S σ (parts_by S.setting.scopes θ ps) ↔ AreTrue S τ ps
  parts_put scoped ps o =
      let e = law.under-by S.setting.scopes S.assignment θ ps scoped in (
        λ h. each_forth (parts_under S.assignment ps) o (subst (EachTrueIn (meaning_of S.objects σ)) e h),
        λ h. subst (EachTrueIn (meaning_of S.objects σ)) (sym e) (each_back (parts_under S.assignment ps) o h),
      )

  pub known_back : (ps : List Formula) → EachSorted P Q ps → EachTrueIn (meaning_of S.objects τ) ps → AreTrue S σ (map (λ q. known (formula_by θ q)) ps)
  known_back [] o h = tt
  known_back (p ∷ ps) o h = (formula_put p o.0 ∙ h.0, known_back ps o.1 h.1)
