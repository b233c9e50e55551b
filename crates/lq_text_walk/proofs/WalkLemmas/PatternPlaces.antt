-- The place of a pattern in memory.
use Rattle.std.proofs.Common.{◌≡◌, ℕ, rules}
use Rattle.lq_text_tree.specs.PatternView.{pat_view}
use Rattle.lq_text_tree.specs.declared.pattern.Pat.{Pat, out-Pat}
use Rattle.lq_text_tree.specs.declared.pattern.PatNode.{the_lemmas}
use Rattle.lq_text_walk.specs.Walk.Visits.{place_of_pattern}

pub pattern_place : (B : Type 0) (number : B → ℕ) (p : Pat B) → place_of_pattern (pat_view B number p) ≡ (out-Pat B p).place
pattern_place B number p = search (rules, the_lemmas)
