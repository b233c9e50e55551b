-- A pattern, level by level.
use Rattle.std.proofs.Common.{◌≡◌, ℕ, ◌≤◌, List, map, take, length, sym, ap, ◌∙◌}
use Rattle.std.specs.declared.alloc.Global.{Global}
use Rattle.std.specs.declared.vec.Vec.{Vec}
use Rattle.std.proofs.lemmas.List.{take_all}
use Rattle.lq_text_tree.specs.Pattern.{Pattern, PatternForm, Patterns}
use Rattle.lq_text_tree.specs.PatternView.{patterns_of, pat_view, pats_view, pat_node_step, pat_step, pats_step}
use Rattle.lq_text_tree.specs.declared.pattern.Pat.{Pat}
use Rattle.lq_text_tree.specs.declared.pattern.Pats.{Pats, out-Pats, roll-Pats, fold-roll-Pats, fold_out-Pats}

module _ (B : Type 0) (number : B → ℕ) where
  pub pats_view-roll : (v : Vec (Pat B) Global) → pats_view B number (roll-Pats B record { items = v }) ≡ patterns_of (map (pat_view B number) v.items)
  pats_view-roll v =
      fold-roll-Pats B PatternForm Pattern Patterns (pat_node_step B number) (pat_step B number) (pats_step B number) record { items = v }

  pub pats_view-out : (ps : Pats B) → pats_view B number ps ≡ patterns_of (map (pat_view B number) (out-Pats B ps).items.items)
  pats_view-out ps =
      fold_out-Pats B PatternForm Pattern Patterns (pat_node_step B number) (pat_step B number) (pats_step B number) ps

module _ (B : Type 0) (number : B → ℕ) where
  pub pats_copied : (v : Vec (Pat B) Global) (ps : Pats B) (xs : List (Pat B)) (i : ℕ) → map (pat_view B number) v.items ≡ map (pat_view B number) (take i xs) → length xs ≤ i → xs ≡ (out-Pats B ps).items.items → pats_view B number (roll-Pats B record { items = v }) ≡ pats_view B number ps
  pats_copied v ps xs i same past is =
      pats_view-roll B number v
      ∙ ap patterns_of (same ∙ ap (map (pat_view B number)) (take_all i xs past ∙ is))
      ∙ sym (pats_view-out B number ps)
