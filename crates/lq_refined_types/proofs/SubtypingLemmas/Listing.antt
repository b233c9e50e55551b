-- Lists of implications that hold, and the implications of parts on the right.
use Rattle.std.proofs.Common.{◌≡◌, ℕ, Bool, true, false, cond, List, [], ◌∷◌, ◌++◌, refl}
use Rattle.lq_logic_predicates.specs.Formula.{truth}
use Rattle.lq_refined_types.specs.Parts.Assignment.{Assignment, Implied}
use Rattle.lq_refined_types.specs.Parts.Part.{Part, known, Parts, is_truth}
use Rattle.lq_refined_types.specs.Types.Context.{Context}
use Rattle.lq_refined_types.specs.Types.Refined.{Matrix, Refineds}
use Rattle.lq_refined_types.specs.Types.Unfolding.{cell}
use Rattle.lq_refined_types.specs.Subtyping.Implication.{Origin, Implication, AllHold, EachImplied, goals}
use Rattle.lq_refined_types.specs.Subtyping.Splitting.{cells}
use Rattle.lq_refined_types.specs.Subtyping.Subtype.{Setting, cell_context, facts, CellsImplied}

pub hold_append : (A : Assignment) (is js : List Implication) → AllHold A is → AllHold A js → AllHold A (is ++ js)
hold_append A [] js m n = n
hold_append A (i ∷ is) js m n = (m.0, hold_append A is js m.1 n)

pub hold_first : (A : Assignment) (is js : List Implication) → AllHold A (is ++ js) → AllHold A is
hold_first A [] js m = tt
hold_first A (i ∷ is) js m = (m.0, hold_first A is js m.1)

pub hold_rest : (A : Assignment) (is js : List Implication) → AllHold A (is ++ js) → AllHold A js
hold_rest A [] js m = m
hold_rest A (i ∷ is) js m = hold_rest A is js m.1

-- what is written `true` follows from anything
truth_implied : (A : Assignment) (hs : Parts) (q : Part) → is_truth q ≡ true → Implied A hs q
truth_implied A hs (known truth) e = λ p is h n. n
truth_implied A hs _ e = absurd (cc)

module _ (A : Assignment) (o : Origin) where
  goals_by : (hs ls qs : Parts) (q : Part) (b : Bool) → Implied A (hs ++ ls) q → AllHold A (goals hs ls qs o)
      → AllHold A (cond b (goals hs ls qs o) (record { hypotheses = hs; left = ls; goal = q; origin = o } ∷ goals hs ls qs o))
  goals_by hs ls qs q true h m = m
  goals_by hs ls qs q false h m = (h, m)

  pub goals_met : (hs ls qs : Parts) → EachImplied A (hs ++ ls) qs → AllHold A (goals hs ls qs o)
  goals_met hs ls [] h = tt
  goals_met hs ls (q ∷ qs) h = goals_by hs ls qs q (is_truth q) h.0 (goals_met hs ls qs h.1)

  hold_by : (hs ls qs : Parts) (q : Part) (b : Bool) → is_truth q ≡ b
      → AllHold A (cond b (goals hs ls qs o) (record { hypotheses = hs; left = ls; goal = q; origin = o } ∷ goals hs ls qs o))
      → Implied A (hs ++ ls) q × AllHold A (goals hs ls qs o)
  hold_by hs ls qs q true e m = (truth_implied A (hs ++ ls) q e, m)
  hold_by hs ls qs q false e m = (m.0, m.1)

  pub goals_hold : (hs ls qs : Parts) → AllHold A (goals hs ls qs o) → EachImplied A (hs ++ ls) qs
  goals_hold hs ls [] m = tt
  goals_hold hs ls (q ∷ qs) m =
      let both : Implied A (hs ++ ls) q × AllHold A (goals hs ls qs o) = hold_by hs ls qs q (is_truth q) refl m in
      (both.0, goals_hold hs ls qs both.1)

  module _ (P : Setting) (Γ : Context) (d : ℕ) (ts : Refineds) (m : Matrix) where
    pub cells_met : (n : Matrix) → CellsImplied P A Γ d ts m n → AllHold A (cells P o Γ d ts m n)
    cells_met [] h = tt
    cells_met (e ∷ n) h =
        hold_append A (goals (facts P (cell_context P Γ d ts m e)) (cell m e.constructor e.field e.parameter) e.parts o) (cells P o Γ d ts m n)
        (goals_met (facts P (cell_context P Γ d ts m e)) (cell m e.constructor e.field e.parameter) e.parts h.0) (cells_met n h.1)

    pub cells_hold : (n : Matrix) → AllHold A (cells P o Γ d ts m n) → CellsImplied P A Γ d ts m n
    cells_hold [] h = tt
    cells_hold (e ∷ n) h =
        let first = goals (facts P (cell_context P Γ d ts m e)) (cell m e.constructor e.field e.parameter) e.parts o in (
          goals_hold (facts P (cell_context P Γ d ts m e)) (cell m e.constructor e.field e.parameter) e.parts (hold_first A first (cells P o Γ d ts m n) h),
          cells_hold n (hold_rest A first (cells P o Γ d ts m n) h),
        )
