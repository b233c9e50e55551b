-- Whole texts, worked out by hand.
use Rattle.std.specs.Prelude.{◌≡◌, ℕ, ◌==◌, pos, true, List, [], ◌∷◌, Some, None, codes, if◌then◌else◌}
use Rattle.lq_base_numbers.specs.Rationals.Rational.{ratio}
use Rattle.lq_base_names.specs.declared.operation.CompareOp.TheVariants.{Eq, Gt}
use Rattle.lq_base_names.specs.declared.place.Place.{Place}
use Rattle.lq_base_names.specs.declared.place.TextKind.TheVariants.{Program}
use Rattle.lq_refined_types.specs.Parts.Part.{known, unknown}
use Rattle.lq_logic_predicates.specs.ClosedImplication.{ClosedImplication}
use Rattle.lq_logic_predicates.specs.Formula.{falsity, compare}
use Rattle.lq_logic_predicates.specs.Points.{Point}
use Rattle.lq_logic_predicates.specs.PredView.{formula_of}
use Rattle.lq_logic_predicates.specs.Sum.{Sum, whole, var, add, len}
use Rattle.lq_logic_predicates.specs.declared.pred.Pred.{Pred}
use Rattle.lq_logic_predicates.specs.declared.pred.Stop.TheVariants.{Gather}
use Rattle.lq_logic_predicates.specs.declared.symbol.Symbol.TheVariants.{Bound}
use Rattle.lq_logic_text.specs.Calling.{Calling}
use Rattle.lq_refined_types.specs.Subtyping.Implication.{Implication, of_assertion, of_flow}
use Rattle.lq_top_answers.specs.Failure.Failures.{IsExplained, IsFailure, undecided_lines}

-- binder 0 is x and binder 1 is a; binder 2 is a tuple parameter, the second made name
abbrev pub example : Calling
example =
    record {
      names = codes "x" ∷ codes "a" ∷ [];
      sources = Some 0 ∷ Some 1 ∷ None ∷ [];
      made = λ b. if b == 2 then Some 2 else None;
      told_apart = true;
    }

abbrev pub bound : ℕ → Sum
bound b = var (Bound record { 0 = b })

abbrev pub place_at : ℕ → ℕ → Place
place_at line column = record { text = Program; line = line; column = column }

abbrev pub demand_at : ℕ → ℕ → Implication
demand_at line column =
    record { hypotheses = []; left = []; goal = known falsity; origin = record { place = place_at line column; reason = of_assertion } }

abbrev pub flow_at : ℕ → ℕ → Implication
flow_at line column =
    record { hypotheses = []; left = []; goal = unknown 0 []; origin = record { place = place_at line column; reason = of_flow } }

-- ---- twice x is 1

abbrev pub half : ClosedImplication
half = record { hypotheses = compare Eq (add (bound 0) (bound 0)) (whole (pos 1)) ∷ []; goal = falsity }

abbrev pub HalfExample : Type 0
HalfExample =
    (p : Point) (text : List ℕ) → p.number (bound 0) ≡ ratio (pos 1) 2 → IsExplained example (demand_at 1 48 ∷ []) 0 half p text
    → text ≡ codes "rejected\ndemand 1 at 1:48: assertion\nx = 1/2\ngiven x + x = 1\ngoal false\n"

-- ---- an array, its length and a made name; the flow is no demand

abbrev pub lengths : ClosedImplication
lengths = record { hypotheses = compare Eq (len (bound 1)) (whole (pos 3)) ∷ []; goal = compare Gt (bound 2) (len (bound 1)) }

abbrev pub LengthExample : Type 0
LengthExample =
    (p : Point) (text : List ℕ) → p.number (len (bound 1)) ≡ ratio (pos 3) 1 → p.number (bound 2) ≡ ratio (pos 0) 1
    → IsFailure example (demand_at 1 1 ∷ flow_at 2 1 ∷ demand_at 2 5 ∷ demand_at 3 1 ∷ demand_at 4 10 ∷ []) 4 lengths p text
    → text ≡ codes "rejected\ndemand 4 at 4:10: assertion\na = object 1\nArray.length a = 3\n%2 = 0\n"

-- ---- a number past 128 bits

abbrev pub LargeExample : Type 0
LargeExample =
    (pred : Pred) → formula_of pred ≡ compare Gt (bound 0) (whole (pos 170141183460469231731687303715884105727))
    → undecided_lines example (demand_at 1 1 ∷ demand_at 2 7 ∷ []) 1 (Gather pred)
    ≡ codes "undecided\ndemand 2 at 2:7: assertion\nnumber past in x > 170141183460469231731687303715884105727\n"
