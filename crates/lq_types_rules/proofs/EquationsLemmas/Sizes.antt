-- How large patterns are.
use Rattle.std.proofs.Common.{◌≡◌, ℕ, zero, suc, ◌+◌, ◌<◌, List, [], ◌∷◌, map, Some, slice_get, sym, ap, subst, ◌∙◌, arith}
use Rattle.lq_base_names.specs.declared.name.Binder.{Binder}
use Rattle.lq_base_names.specs.declared.name.Name.{Name}
use Rattle.lq_base_names.specs.declared.place.Place.{Place}
use Rattle.lq_text_tree.specs.Pattern.{Pattern, pattern, PatternForm, any, bind, nothing, tuple_of, build_of, Patterns, no_patterns, more_patterns}
use Rattle.lq_text_tree.specs.PatternView.{pat_view, pat_form_view, pats_view, pats_items, patterns_of}
use Rattle.lq_text_tree.specs.declared.pattern.Pat.{Pat, out-Pat}
use Rattle.lq_text_tree.specs.declared.pattern.Pats.{Pats}
use Rattle.lq_text_tree.specs.declared.pattern.PatNode.{PatNode, Tuple, Build}
use Rattle.lq_types_rules.proofs.EquationsLemmas.Seen.{pattern_seen, tuple_seen, build_seen, pats_listed}

abbrev mutual
  pub size : Pattern → ℕ
  size (pattern p f) = suc (form_size f)

  pub form_size : PatternForm → ℕ
  form_size any = 0
  form_size (bind x) = 0
  form_size nothing = 0
  form_size (tuple_of ps) = suc (row_size ps)
  form_size (build_of c p ps) = suc (row_size ps)

  pub row_size : Patterns → ℕ
  row_size no_patterns = 0
  row_size (more_patterns p ps) = suc (size p + row_size ps)

one_smaller : (seen : Pat Binder → Pattern) (xs : List (Pat Binder)) (at : ℕ) (x : Pat Binder) → slice_get xs at ≡ Some x → size (seen x) < row_size (patterns_of (map seen xs))
one_smaller seen [] at x e = absurd (cc)
one_smaller seen (y ∷ ys) zero x e = let f : y ≡ x = cc in subst (λ z. size (seen z) < row_size (patterns_of (map seen (y ∷ ys)))) f (omega arith)
one_smaller seen (y ∷ ys) (suc at) x e = let r = one_smaller seen ys at x e in omega arith

pub item_smaller : (ps : Pats Binder) (at : ℕ) (x : Pat Binder) (t : ℕ) → row_size (pats_view Binder (λ b. b.0) ps) ≡ t → slice_get (pats_items Binder ps) at ≡ Some x → size (pat_view Binder (λ b. b.0) x) < t
item_smaller ps at x t d e =
    subst (λ (m : ℕ). size (pat_view Binder (λ b. b.0) x) < m) (sym (ap row_size (pats_listed ps)) ∙ d) (one_smaller (pat_view Binder (λ b. b.0)) (pats_items Binder ps) at x e)

pub form_smaller : (p : Pat Binder) (t : ℕ) → size (pat_view Binder (λ b. b.0) p) ≡ t → form_size (pat_form_view Binder (λ b. b.0) (out-Pat Binder p).node) < t
form_smaller p t d = let e : suc (form_size (pat_form_view Binder (λ b. b.0) (out-Pat Binder p).node)) ≡ t = sym (ap size (pattern_seen p)) ∙ d in omega arith

pub tuple_smaller : (f : PatNode Binder) (ps : Pats Binder) (t : ℕ) → f ≡ Tuple ps → form_size (pat_form_view Binder (λ b. b.0) f) ≡ t → row_size (pats_view Binder (λ b. b.0) ps) < t
tuple_smaller f ps t e d = let x : suc (row_size (pats_view Binder (λ b. b.0) ps)) ≡ t = sym (ap form_size (ap (pat_form_view Binder (λ b. b.0)) e ∙ tuple_seen ps)) ∙ d in omega arith
