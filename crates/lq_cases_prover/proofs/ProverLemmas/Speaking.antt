-- The readings of an implication speak of its terms, flags and objects.
use Rattle.std.proofs.Common.{◌≡◌, ◌∙◌, ℕ, suc, zero, ◌<◌, List, [], ◌∷◌, ◌++◌, Bool, true, false, arith, get_or, length, map, subst, sym}
use Rattle.std.proofs.lemmas.List.Elements.{All-push}
use Rattle.lq_logic_rows.specs.Row.{Row}
use Rattle.lq_logic_predicates.specs.ClosedImplication.{ClosedImplication, terms_in}
use Rattle.lq_logic_predicates.specs.Formula.{Formula}
use Rattle.lq_logic_predicates.specs.NnfView.{nnf_view}
use Rattle.lq_logic_predicates.specs.PredView.{formula_of}
use Rattle.lq_logic_predicates.specs.Reading.{Gathers, Reading, reading_of}
use Rattle.lq_logic_predicates.specs.Sum.{Sum}
use Rattle.lq_logic_predicates.specs.declared.nnf.Nnf.{Nnf}
use Rattle.lq_logic_predicates.specs.declared.pred.Pred.{Pred}
use Rattle.lq_prover_valid.proofs.Naming.{EachHasNames, HasNames, ImplicationHasNames, RowsAreWithin, implication_names, reading_within}
use Rattle.lq_prover_search.specs.Search.Scope.{IsWithin, Scope}
use Rattle.lq_cases_prover.specs.Prover.Speaking.{IsScopeOf, SpeakOf}

-- a reading speaks of these alone
abbrev pub Speaks : ClosedImplication → Reading Row → Type 0
Speaks i r = (s : Scope) → IsScopeOf s i → IsWithin s r

names_of : (s : Scope) (i : ClosedImplication) → IsScopeOf s i → ImplicationHasNames s i
names_of s i h = implication_names s i h.flags h.objects

within_scope : RowsAreWithin → (s : Scope) (i : ClosedImplication) (terms : List Sum) (sign : Bool) (p : Formula) (r : Reading Row) → IsScopeOf s i → terms ≡ terms_in i → HasNames s p
    → Gathers terms (reading_of sign p) r → IsWithin s r
within_scope w s i terms sign p r h e n g = reading_within w s sign p r n (subst (λ ts. Gathers ts (reading_of sign p) r) (e ∙ sym h.terms) g)

names_at : (s : Scope) (preds : List Pred) (k : ℕ) (d : Pred) → k < length preds → EachHasNames s (map formula_of preds) → HasNames s (formula_of (get_or preds k d))
names_at s [] k d l h = absurd (omega (arith, l))
names_at s (p ∷ preds) zero d l h = h.0
names_at s (p ∷ preds) (suc k) d l h = names_at s preds k d (omega (arith, l)) h.1

pub hypothesis_speaks : RowsAreWithin → (i : ClosedImplication) (preds : List Pred) (terms : List Sum) (k : ℕ) (d : Pred) (r : Reading Row) → i.hypotheses ≡ map formula_of preds → terms ≡ terms_in i
    → k < length preds → Gathers terms (reading_of true (formula_of (get_or preds k d))) r → Speaks i r
hypothesis_speaks w i preds terms k d r is e l g = λ s h.
    within_scope w s i terms true (formula_of (get_or preds k d)) r h e (names_at s preds k d l (subst (EachHasNames s) is (names_of s i h).hypotheses)) g

pub goal_speaks : RowsAreWithin → (i : ClosedImplication) (terms : List Sum) (r : Reading Row) → terms ≡ terms_in i → Gathers terms (reading_of false i.goal) r → Speaks i r
goal_speaks w i terms r e g = λ s h. within_scope w s i terms false i.goal r h e (names_of s i h).goal g

pub speak_more : (i : ClosedImplication) (readings : List Nnf) (r : Nnf) → SpeakOf i readings → Speaks i (nnf_view r) → SpeakOf i (readings ++ r ∷ [])
speak_more i readings r f g = λ s h. All-push (λ x. IsWithin s (nnf_view x)) readings r (f s h) (g s h)
