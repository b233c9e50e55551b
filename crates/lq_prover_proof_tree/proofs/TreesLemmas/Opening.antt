-- A point meets the opening path of an implication exactly where it meets the hypotheses and the negated goal.
use Rattle.std.proofs.Common.{◌≡◌, ◌↔◌, List, [], ◌∷◌, Bool, true, false, sym, subst, inl, inr, if◌then◌else◌, ◌||◌}
use Rattle.std.specs.List.{filter}
use Rattle.std.proofs.lemmas.Bool.{or_left, or_right, or_cases}
use Rattle.lq_logic_rows.specs.Row.{Row, Valuation}
use Rattle.lq_logic_predicates.specs.ClosedImplication.{ClosedImplication, IsPoint, MeetsEach, terms_in}
use Rattle.lq_logic_predicates.specs.Comparison.{Comparison}
use Rattle.lq_logic_predicates.specs.Formula.{Formula}
use Rattle.lq_logic_predicates.specs.Points.{Point, Meets}
use Rattle.lq_logic_predicates.specs.Reading.{Reading, reading_of, Gathers}
use Rattle.lq_logic_predicates.specs.RowMeaning.{MeetsRows}
use Rattle.lq_logic_predicates.specs.Sum.{Sum, same}
use Rattle.lq_logic_predicates.specs.Table.{has_term}
use Rattle.lq_prover_proof_tree.specs.Literals.Parts.{is_application, applications_in}
use Rattle.lq_prover_proof_tree.specs.Trees.Met.{MeetsPath, EachAgree}
use Rattle.lq_prover_proof_tree.specs.Trees.Path.{Path, nothing, taken, list_taken, AreReadings, IsOpening}
use Rattle.lq_prover_proof_tree.proofs.TreesLemmas.Meeting.{meets_taken, taken_meets}

-- readings of rows that gather one of comparisons say the same
abbrev pub SaysTheSame : List Sum → Valuation → Point → Type 0
SaysTheSame terms v p = (reading : Reading Comparison) (rows : Reading Row) → Gathers terms reading rows → MeetsRows v p rows ↔ Meets p reading

list_met : (terms : List Sum) (v : Valuation) (p : Point) → SaysTheSame terms v p → (path : Path) (ps : List Formula) (rs : List (Reading Row)) → AreReadings terms ps rs
    → MeetsPath v p (list_taken path rs) → MeetsPath v p path × MeetsEach p ps
list_met terms v p says path [] [] a m = (m, tt)
list_met terms v p says path (q ∷ ps) (r ∷ rs) a m =
    let k = list_met terms v p says (taken path r) ps rs a.1 m in
    let l = taken_meets v p path r k.0 in (l.0, ((says (reading_of true q) r a.0).0 l.1, k.1))
list_met terms v p says path [] (r ∷ rs) a m = absurd a
list_met terms v p says path (q ∷ ps) [] a m = absurd a

met_list : (terms : List Sum) (v : Valuation) (p : Point) → SaysTheSame terms v p → (path : Path) (ps : List Formula) (rs : List (Reading Row)) → AreReadings terms ps rs
    → MeetsPath v p path → MeetsEach p ps → MeetsPath v p (list_taken path rs)
met_list terms v p says path [] [] a m h = m
met_list terms v p says path (q ∷ ps) (r ∷ rs) a m h =
    met_list terms v p says (taken path r) ps rs a.1 (meets_taken v p path r m ((says (reading_of true q) r a.0).1 h.0)) h.1
met_list terms v p says path [] (r ∷ rs) a m h = absurd a
met_list terms v p says path (q ∷ ps) [] a m h = absurd a

meets_nothing : (v : Valuation) (p : Point) → MeetsPath v p nothing
meets_nothing v p = record { facts = tt; choices = tt }

pub opening_met : (terms : List Sum) (v : Valuation) (p : Point) → SaysTheSame terms v p → (i : ClosedImplication) (path : Path) → IsOpening terms i path
    → MeetsPath v p path ↔ (MeetsEach p i.hypotheses × Meets p (reading_of false i.goal))
opening_met terms v p says i path o = (
  λ m.
      let l = taken_meets v p (list_taken nothing o.hypotheses) o.goal (subst (MeetsPath v p) o.is m) in
      ((list_met terms v p says nothing i.hypotheses o.hypotheses o.are_hypotheses l.0).1, (says (reading_of false i.goal) o.goal o.is_goal).0 l.1),
  λ h.
      subst (MeetsPath v p) (sym o.is)
      (meets_taken v p (list_taken nothing o.hypotheses) o.goal
      (met_list terms v p says nothing i.hypotheses o.hypotheses o.are_hypotheses (meets_nothing v p) h.0)
      ((says (reading_of false i.goal) o.goal o.is_goal).1 h.1)),
)

-- applications are terms
filter_by : (terms : List Sum) (u t : Sum) → (has_term (filter is_application terms) t ≡ true → has_term terms t ≡ true) → (b : Bool)
    → has_term (if b then u ∷ filter is_application terms else filter is_application terms) t ≡ true → (same t u || has_term terms t) ≡ true
filter_by terms u t rest true k =
    elim (or_cases (same t u) (has_term (filter is_application terms) t) k) [ inl e ↦ or_left (same t u) (has_term terms t) e | inr e ↦ or_right (same t u) (has_term terms t) (rest e) ]
filter_by terms u t rest false k = or_right (same t u) (has_term terms t) (rest k)

filter_has : (terms : List Sum) (t : Sum) → has_term (filter is_application terms) t ≡ true → has_term terms t ≡ true
filter_has [] t h = h
filter_has (u ∷ terms) t h = filter_by terms u t (filter_has terms t) (is_application u) h

pub applications_agree : (i : ClosedImplication) (p : Point) → IsPoint i p → EachAgree p (applications_in i)
applications_agree i p h = λ s t a b. h s t (filter_has (terms_in i) s a) (filter_has (terms_in i) t b)
