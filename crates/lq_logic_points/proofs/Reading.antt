-- Readings of rows that gather readings of comparisons, and their evaluation.
use Rattle.std.proofs.Common.{◌≡◌, inl, inr, ◌<◌, length, List, [], ◌∷◌, ◌++◌, All, refl, sym, subst, lit<}
use Rattle.std.specs.List.{Contains}
use Rattle.std.proofs.lemmas.List.Elements.{Contains-append_left, Contains-append_right}
use Rattle.lq_base_numbers.specs.declared.fractions.frac.Frac.{Frac}
use Rattle.lq_base_numbers.specs.declared.fractions.past.NumberPast.{NumberPast}
use Rattle.lq_logic_rows.specs.Row.{Row}
use Rattle.lq_logic_rows.specs.Steps.{valuation_of}
use Rattle.lq_logic_predicates.specs.Sum.{Sum}
use Rattle.lq_logic_predicates.specs.Comparison.{Comparison, CanGather, IsRowOf}
use Rattle.lq_logic_predicates.specs.Literals.{comparisons_of, comparisons_in}
use Rattle.lq_logic_predicates.specs.Reading.{Reading, Readings, yes, no, row, flag_is, objects_are, all_of, any_of, none, more, Gathers, AllGather, gathers_yes, gathers_no, gathers_row, gathers_flag, gathers_objects, gathers_all, gathers_any, gather_none, gather_more, AllFitIn, EachFits}
use Rattle.lq_logic_points.specs.Evaluation.{CanEvaluateRow, CanEvaluate, CanEvaluateEach, Evaluates, EvaluatesEach, HasAllValues, HasEachValue, IsStepIn, IsStepInAny, IsStepOf}

-- a comparison has one row
abbrev pub OneRow : List Sum → Type 0
OneRow terms = (c : Comparison) (r s : Row) → IsRowOf terms c r → IsRowOf terms c s → r ≡ s

mutual
  pub gathered_evaluates : (terms : List Sum) (values : List Frac) → OneRow terms → (c : Reading Comparison) (r : Reading Row) → Gathers terms c r → Evaluates terms values c → CanEvaluate values r
  gathered_evaluates terms values u _ _ gathers_yes e = tt
  gathered_evaluates terms values u _ _ gathers_no e = tt
  gathered_evaluates terms values u _ _ (gathers_row c r h) e = subst (CanEvaluateRow values) (u c e.0 r e.1 h) e.2
  gathered_evaluates terms values u _ _ (gathers_flag x sign) e = tt
  gathered_evaluates terms values u _ _ (gathers_objects a b sign) e = tt
  gathered_evaluates terms values u _ _ (gathers_all cs rs h) e = each_evaluates terms values u cs rs h e
  gathered_evaluates terms values u _ _ (gathers_any cs rs h) e = each_evaluates terms values u cs rs h e

  each_evaluates : (terms : List Sum) (values : List Frac) → OneRow terms → (cs : Readings Comparison) (rs : Readings Row) → AllGather terms cs rs → EvaluatesEach terms values cs → CanEvaluateEach values rs
  each_evaluates terms values u _ _ gather_none e = tt
  each_evaluates terms values u _ _ (gather_more c cs r rs h hs) e = (gathered_evaluates terms values u c r h e.0, each_evaluates terms values u cs rs hs e.1)

-- and back: what was evaluated row by row
mutual
  pub evaluated : (terms : List Sum) (values : List Frac) (c : Reading Comparison) (r : Reading Row) → Gathers terms c r → CanEvaluate values r → Evaluates terms values c
  evaluated terms values _ _ gathers_yes e = tt
  evaluated terms values _ _ gathers_no e = tt
  evaluated terms values _ _ (gathers_row c r h) e = (r, h, e)
  evaluated terms values _ _ (gathers_flag x sign) e = tt
  evaluated terms values _ _ (gathers_objects a b sign) e = tt
  evaluated terms values _ _ (gathers_all cs rs h) e = each_evaluated terms values cs rs h e
  evaluated terms values _ _ (gathers_any cs rs h) e = each_evaluated terms values cs rs h e

  each_evaluated : (terms : List Sum) (values : List Frac) (cs : Readings Comparison) (rs : Readings Row) → AllGather terms cs rs → CanEvaluateEach values rs → EvaluatesEach terms values cs
  each_evaluated terms values _ _ gather_none e = tt
  each_evaluated terms values _ _ (gather_more c cs r rs h hs) e = (evaluated terms values c r h e.0, each_evaluated terms values cs rs hs e.1)

-- each term of a row has a value where each term of the list has one
abbrev pub Within : List Sum → Type 0
Within terms = (c : Comparison) (r : Row) → IsRowOf terms c r → All (λ part. part.0 < length terms) r.parts

mutual
  pub has_values : (terms : List Sum) (values : List Frac) → length values ≡ length terms → Within terms → (c : Reading Comparison) (r : Reading Row) → Gathers terms c r → HasAllValues values r
  has_values terms values l w _ _ gathers_yes = tt
  has_values terms values l w _ _ gathers_no = tt
  has_values terms values l w _ _ (gathers_row c r h) = subst (λ n. All (λ part. part.0 < n) r.parts) (sym l) (w c r h)
  has_values terms values l w _ _ (gathers_flag x sign) = tt
  has_values terms values l w _ _ (gathers_objects a b sign) = tt
  has_values terms values l w _ _ (gathers_all cs rs h) = has_each_value terms values l w cs rs h
  has_values terms values l w _ _ (gathers_any cs rs h) = has_each_value terms values l w cs rs h

  has_each_value : (terms : List Sum) (values : List Frac) → length values ≡ length terms → Within terms → (cs : Readings Comparison) (rs : Readings Row) → AllGather terms cs rs → HasEachValue values rs
  has_each_value terms values l w _ _ gather_none = tt
  has_each_value terms values l w _ _ (gather_more c cs r rs h hs) = (has_values terms values l w c r h, has_each_value terms values l w cs rs hs)

-- an operation of a row in the reading is one of a literal
pub widened : (ls ms : List Comparison) (terms : List Sum) (values : List Frac) (e : NumberPast) → ((c : Comparison) → Contains ls c → Contains ms c) → IsStepOf ls terms values e → IsStepOf ms terms values e
widened ls ms terms values e f s = record { literal = s.literal; its_row = s.its_row; among = f s.literal s.among; is = s.is; step = s.step }

contains_only : (c : Comparison) → Contains (c ∷ []) c
contains_only c = (0, lit< tt, refl)

pub contains_first : (a b c : Comparison) → Contains (a ∷ []) c → Contains (a ∷ (b ∷ [])) c
contains_first a b c h = Contains-append_left (a ∷ []) (b ∷ []) c h

pub contains_second : (a b c : Comparison) → Contains (b ∷ []) c → Contains (a ∷ (b ∷ [])) c
contains_second a b c h = Contains-append_right (a ∷ []) (b ∷ []) c h

mutual
  pub step_of : (terms : List Sum) (values : List Frac) (e : NumberPast) (c : Reading Comparison) (r : Reading Row) → Gathers terms c r → IsStepIn (valuation_of values) r e → IsStepOf (comparisons_of c) terms values e
  step_of terms values e _ _ gathers_yes s = absurd s
  step_of terms values e _ _ gathers_no s = absurd s
  step_of terms values e _ _ (gathers_row c r h) s = record { literal = c; its_row = r; among = contains_only c; is = h; step = s }
  step_of terms values e _ _ (gathers_flag x sign) s = absurd s
  step_of terms values e _ _ (gathers_objects a b sign) s = absurd s
  step_of terms values e _ _ (gathers_all cs rs h) s = step_of_any terms values e cs rs h s
  step_of terms values e _ _ (gathers_any cs rs h) s = step_of_any terms values e cs rs h s

  step_of_any : (terms : List Sum) (values : List Frac) (e : NumberPast) (cs : Readings Comparison) (rs : Readings Row) → AllGather terms cs rs → IsStepInAny (valuation_of values) rs e → IsStepOf (comparisons_in cs) terms values e
  step_of_any terms values e _ _ gather_none s = absurd s
  step_of_any terms values e _ _ (gather_more c cs r rs h hs) (inl s) =
      widened (comparisons_of c) (comparisons_of c ++ comparisons_in cs) terms values e (λ d k. Contains-append_left (comparisons_of c) (comparisons_in cs) d k) (step_of terms values e c r h s)
  step_of_any terms values e _ _ (gather_more c cs r rs h hs) (inr s) =
      widened (comparisons_in cs) (comparisons_of c ++ comparisons_in cs) terms values e (λ d k. Contains-append_right (comparisons_of c) (comparisons_in cs) d k) (step_of_any terms values e cs rs hs s)

-- where each comparison of a reading can be gathered, the reading can
mutual
  pub all_fit : (r : Reading Comparison) → ((c : Comparison) → Contains (comparisons_of r) c → CanGather c) → AllFitIn r
  all_fit yes h = tt
  all_fit no h = tt
  all_fit (row c) h = h c (contains_only c)
  all_fit (flag_is x sign) h = tt
  all_fit (objects_are a b sign) h = tt
  all_fit (all_of rs) h = each_fits rs h
  all_fit (any_of rs) h = each_fits rs h

  each_fits : (rs : Readings Comparison) → ((c : Comparison) → Contains (comparisons_in rs) c → CanGather c) → EachFits rs
  each_fits none h = tt
  each_fits (more r rs) h =
      (all_fit r (λ c k. h c (Contains-append_left (comparisons_of r) (comparisons_in rs) c k)), each_fits rs (λ c k. h c (Contains-append_right (comparisons_of r) (comparisons_in rs) c k)))
