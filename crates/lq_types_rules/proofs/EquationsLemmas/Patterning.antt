-- Patterns, and rows of them.
use Rattle.std.proofs.Common.{◌≡◌, ℕ, zero, suc, ◌+◌, ◌<◌, List, [], ◌∷◌, ◌++◌, map, Some, All, length, slice_get, refl, sym, ap, subst, ◌∙◌, arith}
use Rattle.lq_text_tree.specs.MlType.{MlType, MlTypes}
use Rattle.lq_text_tree.specs.Pattern.{Pattern, pattern, PatternForm, any, bind, nothing, tuple_of, build_of, Patterns, no_patterns, more_patterns, bound_in, bound_in_form, bound_in_all}
use Rattle.lq_text_tree.specs.PatternView.{patterns_of}
use Rattle.lq_text_tree.specs.Types.{Signature, count_types}
use Rattle.lq_text_tree.specs.TypingRules.{Annotation, PatternIs, PatternFormIs, PatternsAre}
use Rattle.lq_types_rules.specs.Equations.Solutions.{each}
use Rattle.lq_types_rules.specs.Equations.Adding.{Depends}
use Rattle.lq_types_rules.specs.Equations.Rows.{annotation_of, PatternsFit}
use Rattle.lq_types_rules.specs.Equations.Within.{PatternIn}
use Rattle.lq_types_rules.proofs.EquationsLemmas.Growing.{all_left, all_right}

module _ (g : Signature) (nodes n : ℕ) where
  mutual
    pub pattern_depends : (q : Pattern) → PatternIn nodes n q → (a : MlType) → Depends n (λ t. PatternIs g (annotation_of nodes t) q a)
    pattern_depends (pattern p f) h a = form_depends f h a

    pub form_depends : (f : PatternForm) → All (λ x. nodes + x < n) (bound_in_form f) → (a : MlType) → Depends n (λ t. PatternFormIs g (annotation_of nodes t) f a)
    form_depends any h a t later ag e = tt
    form_depends (bind x) h a t later ag e = ag (nodes + x) (h 0 0 (omega arith)) ∙ e
    form_depends nothing h a t later ag e = e
    form_depends (tuple_of qs) h a t later ag e = (e.0, e.1, all_depends qs h e.0 t later ag e.2)
    form_depends (build_of c p qs) h a t later ag e = (e.0, e.1, all_depends qs h e.0 t later ag e.2)

    pub all_depends : (qs : Patterns) → All (λ x. nodes + x < n) (bound_in_all qs) → (ts : MlTypes) → Depends n (λ t. PatternsAre g (annotation_of nodes t) qs ts)
    all_depends no_patterns h ts t later ag e = e
    all_depends (more_patterns q qs) h ts t later ag e =
        (e.0, e.1, e.2, pattern_depends q (all_left (λ (x : ℕ). nodes + x < n) (bound_in q) (bound_in_all qs) h) e.0 t later ag e.3, all_depends qs (all_right (λ (x : ℕ). nodes + x < n) (bound_in q) (bound_in_all qs) h) e.1 t later ag e.4)

  pub pattern_at_depends : (q : Pattern) (slot : ℕ) → PatternIn nodes n q → slot < n → Depends n (λ t. PatternIs g (annotation_of nodes t) q (t slot))
  pattern_at_depends q slot h l t later ag e = subst (PatternIs g (annotation_of nodes later) q) (sym (ag slot l)) (pattern_depends q h (t slot) t later ag e)

module _ (g : Signature) (nodes : ℕ) (t : ℕ → MlType) where
  pub to_are : (qs : List Pattern) (rs : List ℕ) → PatternsFit g nodes qs rs t → PatternsAre g (annotation_of nodes t) (patterns_of qs) (each t rs)
  to_are [] [] h = refl
  to_are [] (r ∷ rs) h = absurd h
  to_are (q ∷ qs) [] h = absurd h
  to_are (q ∷ qs) (r ∷ rs) h = (t r, each t rs, refl, h.0, to_are qs rs h.1)

  pub from_are : (qs : List Pattern) (rs : List ℕ) → PatternsAre g (annotation_of nodes t) (patterns_of qs) (each t rs) → PatternsFit g nodes qs rs t
  from_are [] [] h = tt
  from_are [] (r ∷ rs) h = absurd (cc)
  from_are (q ∷ qs) [] h = absurd (let e = h.2 in cc)
  from_are (q ∷ qs) (r ∷ rs) h =
      let first : h.0 ≡ t r = let e = h.2 in cc in
      let others : h.1 ≡ each t rs = let e = h.2 in cc in
      (subst (PatternIs g (annotation_of nodes t) q) first h.3, from_are qs rs (subst (PatternsAre g (annotation_of nodes t) (patterns_of qs)) others h.4))

  pub fit_more : (qs : List Pattern) (rs : List ℕ) (q : Pattern) (r : ℕ) → length rs ≡ length qs → PatternsFit g nodes qs rs t → PatternIs g (annotation_of nodes t) q (t r) → PatternsFit g nodes (qs ++ q ∷ []) (rs ++ r ∷ []) t
  fit_more [] [] q r e h i = (i, tt)
  fit_more [] (s ∷ rs) q r e h i = absurd h
  fit_more (p ∷ qs) [] q r e h i = absurd h
  fit_more (p ∷ qs) (s ∷ rs) q r e h i = (h.0, fit_more qs rs q r (omega arith) h.1 i)

  pub fit_less : (qs : List Pattern) (rs : List ℕ) (q : Pattern) (r : ℕ) → length rs ≡ length qs → PatternsFit g nodes (qs ++ q ∷ []) (rs ++ r ∷ []) t → PatternsFit g nodes qs rs t × PatternIs g (annotation_of nodes t) q (t r)
  fit_less [] [] q r e h = (tt, h.0)
  fit_less [] (s ∷ rs) q r e h = absurd (omega arith)
  fit_less (p ∷ qs) [] q r e h = absurd (omega arith)
  fit_less (p ∷ qs) (s ∷ rs) q r e h = let x = fit_less qs rs q r (omega arith) h.1 in ((h.0, x.0), x.1)

pub are_count : (g : Signature) (n : Annotation) (qs : List Pattern) (ts : MlTypes) → PatternsAre g n (patterns_of qs) ts → count_types ts ≡ length qs
are_count g n [] ts h = ap count_types h
are_count g n (q ∷ qs) ts h = ap count_types h.2 ∙ ap suc (are_count g n qs h.1 h.4)

-- the names of one pattern of a row
pub names_of : {X : Type 0} (P : ℕ → Type 0) (seen : X → Pattern) (xs : List X) (at : ℕ) (x : X) → slice_get xs at ≡ Some x → All P (bound_in_all (patterns_of (map seen xs))) → All P (bound_in (seen x))
names_of P seen [] at x e h = absurd (cc)
names_of P seen (y ∷ ys) zero x e h = let f : y ≡ x = cc in subst (λ z. All P (bound_in (seen z))) f (all_left P (bound_in (seen y)) (bound_in_all (patterns_of (map seen ys))) h)
names_of P seen (y ∷ ys) (suc at) x e h = names_of P seen ys at x e (all_right P (bound_in (seen y)) (bound_in_all (patterns_of (map seen ys))) h)
