-- Patterns with made names fit the types that they fitted.
use Rattle.std.proofs.Common.{◌≡◌, ℕ, ◌<◌, List, [], ◌∷◌, ◌++◌, sym, ◌∙◌, subst}
use Rattle.lq_text_tree.specs.MlType.{MlType, MlTypes}
use Rattle.lq_text_tree.specs.Pattern.{Pattern, pattern, PatternForm, any, bind, nothing, tuple_of, build_of, Patterns, no_patterns, more_patterns, bound_in, bound_in_form, bound_in_all}
use Rattle.lq_text_tree.specs.Types.{Signature}
use Rattle.lq_text_tree.specs.TypingRules.{Annotation, PatternIs, PatternFormIs, PatternsAre}
use Rattle.lq_meaning_normal_form.specs.Outcomes.Naming.{parameter, named_part, named_form, named_parts, named_pattern}
use Rattle.lq_meaning_normal_form.specs.Types.Made.{Gives, components, fields_at, fields_of, part_made, part_form_made, parts_made, pattern_made, parameter_made}
use Rattle.lq_meaning_normal_form.specs.Types.Plain.{AreBelow}
use Rattle.lq_meaning_normal_form.specs.Types.Written.{Takes}
use Rattle.lq_meaning_normal_form.proofs.TypesLemmas.Parts.{gives-both}

pub below-both : (b : ℕ) (xs ys : List ℕ) → AreBelow b (xs ++ ys) → AreBelow b xs × AreBelow b ys
below-both b [] ys h = (tt, h)
below-both b (x ∷ xs) ys h = let both = below-both b xs ys h.1 in ((h.0, both.0), both.1)

-- the annotation of the source, and that of the normal form, which agree on names below a number
module _ (g : Signature) (n m : Annotation) (b : ℕ) (agree : (x : ℕ) → x < b → m.binders x ≡ n.binders x) where
  mutual
    part-fits : (q : Pattern) (k : ℕ) (a : MlType) → PatternIs g n q a → AreBelow b (bound_in q) → Gives m (part_made g k q a)
        → PatternIs g m (named_part k q).pattern a
    part-fits (pattern p f) k a h low given = form-fits f k a h low given

    form-fits : (f : PatternForm) (k : ℕ) (a : MlType) → PatternFormIs g n f a → AreBelow b (bound_in_form f) → Gives m (part_form_made g k f a)
        → PatternFormIs g m (named_form k f).form a
    form-fits any k a h low given = given.0
    form-fits (bind x) k a h low given = agree x low.0 ∙ h
    form-fits nothing k a h low given = h
    form-fits (tuple_of qs) k a h low given =
        (h.0, h.1, parts-fit qs k h.0 h.2 low (subst (λ (c : MlType). Gives m (parts_made g k qs (components c))) h.1 given))
    form-fits (build_of c o qs) k a h low given =
        let B = h.1 in
        let there = subst (λ (d : MlType). Gives m (parts_made g k qs (fields_at (g c) d))) B.3 given in
        let known = subst (λ d. Gives m (parts_made g k qs (fields_of d B.1))) B.2 there in
        (h.0, B, parts-fit qs k h.0 h.2 low (subst (λ ts. Gives m (parts_made g k qs ts)) (sym B.4) known))

    parts-fit : (qs : Patterns) (k : ℕ) (ts : MlTypes) → PatternsAre g n qs ts → AreBelow b (bound_in_all qs) → Gives m (parts_made g k qs ts)
        → PatternsAre g m (named_parts k qs).parts ts
    parts-fit no_patterns k ts h low given = h
    parts-fit (more_patterns q qs) k ts h low given =
        let given = subst (λ us. Gives m (parts_made g k (more_patterns q qs) us)) h.2 given in
        let both = gives-both m (part_made g k q h.0) (parts_made g (named_part k q).next qs h.1) given in
        let lows = below-both b (bound_in q) (bound_in_all qs) low in
        (h.0, h.1, h.2, part-fits q k h.0 h.3 lows.0 both.0, parts-fit qs (named_part k q).next h.1 h.4 lows.1 both.1)

  pub pattern-fits : (q : Pattern) (k : ℕ) (a : MlType) → PatternIs g n q a → AreBelow b (bound_in q) → Gives m (pattern_made g k q a)
      → PatternIs g m (named_pattern k q).pattern a
  pattern-fits (pattern p any) k a h low given = h
  pattern-fits (pattern p (bind x)) k a h low given = agree x low.0 ∙ h
  pattern-fits (pattern p nothing) k a h low given = h
  pattern-fits (pattern p (tuple_of qs)) k a h low given = form-fits (tuple_of qs) k a h low given
  pattern-fits (pattern p (build_of c o qs)) k a h low given = form-fits (build_of c o qs) k a h low given

  pub parameter-fits : (q : Pattern) (k : ℕ) (a : MlType) → Takes q → PatternIs g n q a → AreBelow b (bound_in q) → Gives m (parameter_made g k q a)
      → PatternIs g m (parameter k q) a
  parameter-fits (pattern p any) k a takes h low given = given.0
  parameter-fits (pattern p (bind x)) k a takes h low given = agree x low.0 ∙ h
  parameter-fits (pattern p nothing) k a takes h low given = given.0
  parameter-fits (pattern p (tuple_of qs)) k a takes h low given = cc
  parameter-fits (pattern p (build_of c o qs)) k a takes h low given = cc
