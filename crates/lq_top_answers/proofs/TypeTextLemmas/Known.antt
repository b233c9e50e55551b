-- Parts without unknowns.
use Rattle.std.proofs.Common.{◌≡◌, List, [], ◌∷◌, Box, Global, Option, map, refl, ap, rules}
use Rattle.lq_base_names.specs.declared.name.Binder.{Binder}
use Rattle.lq_refined_types.specs.Parts.Part.{known}
use Rattle.lq_logic_predicates.specs.Formula.{Formula}
use Rattle.lq_top_answers.specs.TypeText.Types.{formulas}
use Rattle.lq_refined_types.specs.Types.Refined.{function}
use Rattle.lq_refined_subtyping.specs.Table.Forms.{binder_view}
use Rattle.lq_top_answers.specs.TypeText.ShownView.{shown_view}
use Rattle.lq_top_answers.specs.declared.type_text.tree.Shown.{Shown, Function, the_lemmas}

pub formulas_known : (ps : List Formula) → formulas (map known ps) ≡ ps
formulas_known [] = refl
formulas_known (p ∷ ps) = ap (λ qs. p ∷ qs) (formulas_known ps)

pub function_seen : (x : Option Binder) (a b : Box Shown Global) → shown_view (Function x a b) ≡ function (binder_view x) (shown_view a.value) (shown_view b.value)
function_seen x a b = search (rules, the_lemmas)

pub ruleset known_views = (formulas_known, the_lemmas)
