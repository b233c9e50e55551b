-- What lists of implications of the code stand for.
use Rattle.std.specs.Prelude.{ℕ, List, [], ◌++◌, map, slice_index_or}
use Rattle.lq_base_names.specs.declared.place.Place.{Place}
use Rattle.lq_refined_substitution.specs.Environments.Whole.{environments_of}
use Rattle.lq_refined_types.specs.Parts.Part.{known, Parts}
use Rattle.lq_logic_predicates.specs.Formula.{truth}
use Rattle.lq_refined_types.specs.Subtyping.Implication as sub
use Rattle.lq_refined_types.specs.Subtyping.Implication.{of_assertion, of_index, of_divisor, of_length, of_case, of_argument, of_flow, Origin}
use Rattle.lq_refined_substitution.specs.Substitution.Numbered.{lists_at}
use Rattle.lq_refined_substitution.specs.Substitution.Views.{part_view, parts_view}
use Rattle.lq_refined_substitution.specs.declared.implications.hypotheses.Hypotheses.{Hypotheses}
use Rattle.lq_refined_substitution.specs.declared.implications.implication.Implication.{Implication}
use Rattle.lq_refined_substitution.specs.declared.implications.implication.Reason.{Reason}
use Rattle.lq_refined_substitution.specs.declared.implications.implication.Reason.TheVariants as reason
use Rattle.lq_refined_substitution.specs.declared.implications.list.Implications.{Implications}

abbrev pub reason_view : Reason → sub.Reason
reason_view reason.Assertion = of_assertion
reason_view reason.Index = of_index
reason_view reason.Divisor = of_divisor
reason_view reason.Length = of_length
reason_view reason.Case = of_case
reason_view reason.Argument = of_argument
reason_view reason.Flow = of_flow

abbrev pub origin_view : Place → Reason → Origin
origin_view p r = record { place = p; reason = reason_view r }

-- the hypotheses of each environment, by its number
abbrev pub environment_lists : Implications → List Parts
environment_lists all = lists_at (known truth) (map part_view all.parts.items) (environments_of all.environments)

abbrev pub environment_in : List Parts → ℕ → Parts
environment_in es i = slice_index_or es i []

abbrev pub environment_at : Implications → ℕ → Parts
environment_at all i = environment_in (environment_lists all) i

-- an implication, where the environments have these hypotheses
abbrev pub implication_view : List Parts → Implication → sub.Implication
implication_view es i = record { hypotheses = environment_in es i.env; left = parts_view i.left; goal = part_view i.goal; origin = origin_view i.place i.reason }

abbrev pub implication_items : Implications → List Implication
implication_items all = all.items.items

abbrev pub implications_of : Implications → List sub.Implication
implications_of all = map (implication_view (environment_lists all)) (implication_items all)

-- how many implications there would be without a limit
abbrev pub count_of : Implications → ℕ
count_of all = all.count

-- the hypotheses that are still to be taken
abbrev pub hypotheses_left : Hypotheses → Parts
hypotheses_left h = environment_at h.all.now h.env ++ map part_view h.left.now
