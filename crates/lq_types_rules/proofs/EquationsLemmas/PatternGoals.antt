-- What the passes over patterns have to show.
use Rattle.std.proofs.Common.{◌≡◌, ℕ, ◌+◌, ◌<◌, ◌≤◌, List, [], ◌∷◌, ◌++◌, map, take, Some, All, length, slice_get, get_or, sym, ap, subst, ◌∙◌, arith, length-take-le}
use Rattle.std.proofs.lemmas.List.{take_more, map-append, length-map}
use Rattle.lq_base_names.specs.declared.name.Binder.{Binder}
use Rattle.lq_base_names.specs.declared.name.Name.{Name}
use Rattle.lq_base_names.specs.declared.place.Place.{Place}
use Rattle.lq_text_tree.specs.MlType as ml
use Rattle.lq_text_tree.specs.MlType.{MlType, MlTypes}
use Rattle.lq_text_tree.specs.Pattern.{Pattern, tuple_of, build_of, bound_in_form}
use Rattle.lq_text_tree.specs.PatternView.{pat_view, pat_form_view, pats_items}
use Rattle.lq_text_tree.specs.declared.pattern.Pat.{Pat}
use Rattle.lq_text_tree.specs.declared.pattern.Pats.{Pats}
use Rattle.lq_text_tree.specs.declared.pattern.PatNode.{PatNode, Any, Tuple, Build}
use Rattle.lq_text_tree.specs.Types.{Signature, Builds, count_types}
use Rattle.lq_text_tree.specs.TypingRules.{PatternIs, PatternFormIs}
use Rattle.lq_types_rules.specs.declared.equations.system.System.{System}
use Rattle.lq_types_rules.specs.Equations.Adding.{IsSystem, IsLonger, Adds, Offers, count_of}
use Rattle.lq_types_rules.specs.declared.equations.template.Constructors.{Constructors}
use Rattle.lq_types_rules.specs.Equations.Templates.{HasSignature}
use Rattle.lq_types_rules.specs.Equations.Rows.{annotation_of, PatternsFit}
use Rattle.lq_types_rules.specs.Equations.Within.{PatternIn}
use Rattle.lq_types_rules.proofs.EquationsLemmas.Composing.{after, adds_as, adds_nothing}
use Rattle.lq_types_rules.proofs.EquationsLemmas.Patterning.{pattern_at_depends, fit_more, fit_less}
use Rattle.lq_types_rules.proofs.EquationsLemmas.Seen.{pats_listed, tuple_seen, build_seen, any_form, taken_more, tuple_names, build_names, listed_names}
use Rattle.lq_types_rules.proofs.EquationsLemmas.Shaping.{tuple_adds, fields_adds, never_adds}

pub wider : (nodes n m : ℕ) (xs : List ℕ) → n ≤ m → All (λ x. nodes + x < n) xs → All (λ x. nodes + x < m) xs
wider nodes n m xs le a k d l = let x = a k d l in omega arith

-- the patterns before a place of a row are seen
pub record IsStep (old new : System) (cs : Constructors) (nodes : ℕ) (row : Pats Binder) (roots : List ℕ) (at : ℕ) : Type 0 where
  pub longer : IsLonger old new
  pub adds : (g : Signature) → HasSignature cs g → Adds old new (PatternsFit g nodes (map (pat_view Binder (λ b. b.0)) (take at (pats_items Binder row))) (take at roots))

abbrev row_of : Pats Binder → List Pattern
row_of ps = map (pat_view Binder (λ b. b.0)) (pats_items Binder ps)

row_long : (ps : Pats Binder) → length (row_of ps) ≡ length (pats_items Binder ps)
row_long ps = length-map (pats_items Binder ps) (pat_view Binder (λ b. b.0))

module _ (g : Signature) (nodes : ℕ) where
  pub any_goal : (s : System) (f : PatNode Binder) (slot : ℕ) → IsSystem s → f ≡ Any → Adds s s (λ t. PatternFormIs g (annotation_of nodes t) (pat_form_view Binder (λ b. b.0) f) (t slot))
  any_goal s f slot h e = subst (λ q. Adds s s (λ t. PatternFormIs g (annotation_of nodes t) q (t slot))) (sym (ap (pat_form_view Binder (λ b. b.0)) e ∙ any_form)) (adds_nothing s h)

  pub tuple_goal : (old mid new : System) (f : PatNode Binder) (ps : Pats Binder) (roots read : List ℕ) (slot n : ℕ) → f ≡ Tuple ps → n ≡ length (pats_items Binder ps) → read ≡ roots
      → All (λ x. nodes + x < count_of old) (bound_in_form (pat_form_view Binder (λ b. b.0) f)) → Offers old mid roots (λ t ts. (count_types ts ≡ n) × (t slot ≡ ml.tuple ts))
      → Adds mid new (PatternsFit g nodes (map (pat_view Binder (λ b. b.0)) (pats_items Binder ps)) read) → Adds old new (λ t. PatternFormIs g (annotation_of nodes t) (pat_form_view Binder (λ b. b.0) f) (t slot))
  tuple_goal old mid new f ps roots read slot n e l r names o a =
      let P : ℕ → Type 0 = λ x. nodes + x < count_of old in
      subst (λ q. Adds old new (λ t. PatternFormIs g (annotation_of nodes t) q (t slot))) (sym (ap (pat_form_view Binder (λ b. b.0)) e ∙ tuple_seen ps ∙ ap tuple_of (pats_listed ps)))
      (tuple_adds g nodes old mid new roots (row_of ps) slot n (l ∙ sym (row_long ps)) (listed_names ps P (tuple_names f ps P e names)) o (subst (λ (rs : List ℕ). Adds mid new (PatternsFit g nodes (row_of ps) rs)) r a))

  pub build_goal : (old mid new : System) (f : PatNode Binder) (c : Name) (p : Place) (ps : Pats Binder) (roots read : List ℕ) (slot : ℕ) → f ≡ Build c p ps → read ≡ roots
      → All (λ x. nodes + x < count_of old) (bound_in_form (pat_form_view Binder (λ b. b.0) f)) → Offers old mid roots (λ t ts. Builds g c.0 ts (t slot))
      → Adds mid new (PatternsFit g nodes (map (pat_view Binder (λ b. b.0)) (pats_items Binder ps)) read) → Adds old new (λ t. PatternFormIs g (annotation_of nodes t) (pat_form_view Binder (λ b. b.0) f) (t slot))
  build_goal old mid new f c p ps roots read slot e r names o a =
      let P : ℕ → Type 0 = λ x. nodes + x < count_of old in
      subst (λ q. Adds old new (λ t. PatternFormIs g (annotation_of nodes t) q (t slot))) (sym (ap (pat_form_view Binder (λ b. b.0)) e ∙ build_seen c p ps ∙ ap (build_of c.0 p) (pats_listed ps)))
      (fields_adds g nodes old mid new roots (row_of ps) slot c.0 p (listed_names ps P (build_names f c p ps P e names)) o (subst (λ (rs : List ℕ). Adds mid new (PatternsFit g nodes (row_of ps) rs)) r a))

  pub never_goal : (old new : System) (f : PatNode Binder) (c : Name) (p : Place) (ps : Pats Binder) (slot n : ℕ) → f ≡ Build c p ps → n ≡ length (pats_items Binder ps)
      → ((ts : MlTypes) (a : MlType) → count_types ts ≡ n → Builds g c.0 ts a → ⊥) → Adds old new (λ t. ⊥) → Adds old new (λ t. PatternFormIs g (annotation_of nodes t) (pat_form_view Binder (λ b. b.0) f) (t slot))
  never_goal old new f c p ps slot n e l h a =
      subst (λ q. Adds old new (λ t. PatternFormIs g (annotation_of nodes t) q (t slot))) (sym (ap (pat_form_view Binder (λ b. b.0)) e ∙ build_seen c p ps ∙ ap (build_of c.0 p) (pats_listed ps)))
      (never_adds g nodes old new (row_of ps) slot c.0 n p (l ∙ sym (row_long ps)) h a)

  pub row_goal : (old mid new : System) (xs : List (Pat Binder)) (roots : List ℕ) (at : ℕ) (x : Pat Binder) → slice_get xs at ≡ Some x → at < length roots → length roots ≡ length xs
      → PatternIn nodes (count_of old) (pat_view Binder (λ b. b.0) x) → All (λ r. r < count_of old) roots
      → Adds old mid (PatternsFit g nodes (map (pat_view Binder (λ b. b.0)) (take at xs)) (take at roots))
      → Adds mid new (λ t. PatternIs g (annotation_of nodes t) (pat_view Binder (λ b. b.0) x) (t (get_or roots at 0)))
      → Adds old new (PatternsFit g nodes (map (pat_view Binder (λ b. b.0)) (take (at + 1) xs)) (take (at + 1) roots))
  row_goal old mid new xs roots at x is lt long names inside a b =
      let seen = pat_view Binder (λ b. b.0) in
      let q = seen x in
      let r = get_or roots at 0 in
      let qs = map seen (take at xs) in
      let rs = take at roots in
      let short : length rs ≡ length qs = omega (arith, length-take-le at roots (omega arith), length-take-le at xs (omega arith), length-map (take at xs) seen) in
      let more_patterns : map seen (take (at + 1) xs) ≡ qs ++ q ∷ [] = ap (map seen) (taken_more xs at x is) ∙ map-append seen (take at xs) (x ∷ []) in
      let more_roots : take (at + 1) roots ≡ rs ++ r ∷ [] = take_more roots at 0 lt in
      subst (λ ps. Adds old new (PatternsFit g nodes ps (take (at + 1) roots))) (sym more_patterns)
      (subst (λ (ss : List ℕ). Adds old new (PatternsFit g nodes (qs ++ q ∷ []) ss)) (sym more_roots)
      (adds_as old new (λ t. PatternsFit g nodes qs rs t × PatternIs g (annotation_of nodes t) q (t r)) (PatternsFit g nodes (qs ++ q ∷ []) (rs ++ r ∷ []))
      (after old mid new (PatternsFit g nodes qs rs) (λ t. PatternIs g (annotation_of nodes t) q (t r)) a b (pattern_at_depends g nodes (count_of old) q r names (inside at 0 lt)))
      (λ t e. fit_more g nodes t qs rs q r short e.0 e.1) (λ t e. fit_less g nodes t qs rs q r short e)))
