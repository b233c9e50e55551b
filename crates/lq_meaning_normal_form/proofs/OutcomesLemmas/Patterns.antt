-- Patterns whose `_` are made names.
use Rattle.std.proofs.Common.{◌≡◌, ℕ, ◌+◌, ◌<◌, ◌≤◌, Bool, true, false, not, ◌==◌, if◌then◌else◌, [], ◌++◌, Option, Some, None, refl, arith}
use Rattle.std.specs.Prelude.{nat_lt}
use Rattle.std.proofs.lemmas.Bool.{ltb-true, eq-eqb, eqb-true}
use Rattle.lq_text_tree.specs.Pattern.{Pattern, pattern, PatternForm, any, bind, nothing, tuple_of, build_of, Patterns, no_patterns, more_patterns}
use Rattle.lq_meaning_steps.specs.Model.Core.{Value, Values, Pairs}
use Rattle.lq_meaning_steps.specs.Model.Operations.{World, both_pairs, fits, fits_all}
use Rattle.lq_meaning_steps.specs.Model.FromTree.{pattern_of, pattern_form, patterns_of}
use Rattle.lq_meaning_steps.specs.Model.Meaning.{Answer, fitting}
use Rattle.lq_meaning_normal_form.specs.Outcomes.Naming.{named_part, named_form, named_parts, named_pattern, behind}
use Rattle.lq_meaning_normal_form.specs.Outcomes.Alike.{CodeRelation, Alike, alike_unit, alike_tuple, alike_build, AllAlike, none_alike, more_alike, AlikePairs, no_pairs, both_have, one_has, alike_answers}
use Rattle.lq_meaning_normal_form.specs.Outcomes.Named.{from}
use Rattle.lq_meaning_normal_form.proofs.OutcomesLemmas.Alikes.{pairs_append}

-- ---- names

pub self_is : (k : ℕ) → (k == k) ≡ true
self_is k = eq-eqb k k refl

pub not_same : (k x : ℕ) → x < k → (k == x) ≡ false
not_same k x h = by (k == x) refl
  where
    by : (b : Bool) → (k == x) ≡ b → b ≡ false
    by false e = refl
    by true e = let same : k ≡ x = eqb-true k x e in absurd (omega arith)

pub is_from : (base k : ℕ) → base ≤ k → from base k ≡ true
is_from base k h = by (nat_lt k base) refl
  where
    by : (b : Bool) → nat_lt k base ≡ b → not b ≡ true
    by false e = refl
    by true e = let lt : k < base = ltb-true k base e in absurd (omega arith)

pub is_before : (base x : ℕ) → from base x ≡ false → x < base
is_before base x h = by (nat_lt x base) refl h
  where
    by : (b : Bool) → nat_lt x base ≡ b → not b ≡ false → x < base
    by true e k = ltb-true x base e
    by false e k = cc

-- ---- the next made name

mutual
  pub part_later : (q : Pattern) (k : ℕ) → k ≤ (named_part k q).next
  part_later (pattern p f) k = form_later f k

  pub form_later : (f : PatternForm) (k : ℕ) → k ≤ (named_form k f).next
  form_later any k = omega arith
  form_later (bind x) k = omega arith
  form_later nothing k = omega arith
  form_later (tuple_of qs) k = parts_later qs k
  form_later (build_of c p qs) k = parts_later qs k

  pub parts_later : (qs : Patterns) (k : ℕ) → k ≤ (named_parts k qs).next
  parts_later no_patterns k = omega arith
  parts_later (more_patterns q qs) k =
      let a = part_later q k in let b = parts_later qs (named_part k q).next in omega (arith, a, b)

pub pattern_later : (q : Pattern) (k : ℕ) → k ≤ (named_pattern k q).next
pattern_later (pattern p any) k = omega arith
pattern_later (pattern p f) k = part_later (pattern p f) k

pub behind_later : (q : Pattern) (k : ℕ) → k ≤ behind k q
behind_later (pattern p (bind x)) k = omega arith
behind_later (pattern p f) k = let a = pattern_later (pattern p f) (k + 1) in omega (arith, a)

-- ---- what fits

module _ (Code : CodeRelation) where
  -- both fit, with values that are alike, or none does
  abbrev pub FitBoth : (ℕ → Bool) → Option Pairs → Option Pairs → Type 0
  FitBoth hidden (Some d) (Some g) = AlikePairs Code hidden d g
  FitBoth hidden None None = Unit {0}
  FitBoth hidden _ _ = ⊥

  pub fit_pairs : (hidden : ℕ → Bool) (o r l m : Option Pairs) → FitBoth hidden o r → FitBoth hidden l m → FitBoth hidden (both_pairs o l) (both_pairs r m)
  fit_pairs hidden None None l m h k = tt
  fit_pairs hidden (Some d) (Some g) None None h k = tt
  fit_pairs hidden (Some d) (Some g) (Some ps) (Some qs) h k = pairs_append Code hidden d g ps qs h k
  fit_pairs hidden (Some d) (Some g) None (Some qs) h k = absurd k
  fit_pairs hidden (Some d) (Some g) (Some ps) None h k = absurd k
  fit_pairs hidden None (Some g) l m h k = absurd h
  fit_pairs hidden (Some d) None l m h k = absurd h

  pub fit_if : (hidden : ℕ → Bool) (b : Bool) (o r : Option Pairs) → FitBoth hidden o r → FitBoth hidden (if b then o else None) (if b then r else None)
  fit_if hidden true o r h = h
  fit_if hidden false o r h = tt

  pub fitting_alike : (hidden : ℕ → Bool) (o r : Option Pairs) (d g : Pairs) (go to : Pairs → World → Answer) (other last : World → Answer) (w t : World)
      → FitBoth hidden o r → AlikePairs Code hidden d g → ((e f : Pairs) → AlikePairs Code hidden e f → alike_answers Code (go e w) (to f t)) → alike_answers Code (other w) (last t)
      → alike_answers Code (fitting o d go other w) (fitting r g to last t)
  fitting_alike hidden None None d g go to other last w t h rel k l = l
  fitting_alike hidden (Some ps) (Some qs) d g go to other last w t h rel k l = k (ps ++ d) (qs ++ g) (pairs_append Code hidden ps qs d g h rel)
  fitting_alike hidden None (Some qs) d g go to other last w t h rel k l = absurd h
  fitting_alike hidden (Some ps) None d g go to other last w t h rel k l = absurd h

  module _ (base : ℕ) where
    mutual
      pub part_fits : (q : Pattern) (k : ℕ) → base ≤ k → (v u : Value) → Alike Code v u → FitBoth (from base) (fits (pattern_of q) v) (fits (pattern_of (named_part k q).pattern) u)
      part_fits (pattern p f) k le v u h = form_fits f k le v u h

      pub form_fits : (f : PatternForm) (k : ℕ) → base ≤ k → (v u : Value) → Alike Code v u → FitBoth (from base) (fits (pattern_form f) v) (fits (pattern_form (named_form k f).form) u)
      form_fits any k le v u h = one_has (from base) k u [] [] (is_from base k le) (no_pairs (from base))
      form_fits (bind x) k le v u h = both_have (from base) x v u [] [] h (no_pairs (from base))
      form_fits nothing k le v u alike_unit = no_pairs (from base)
      form_fits nothing k le v u _ = tt
      form_fits (tuple_of qs) k le v u (alike_tuple vs us h) = parts_fit qs k le vs us h
      form_fits (tuple_of qs) k le v u _ = tt
      form_fits (build_of c p qs) k le v u (alike_build d vs us h) =
          fit_if (from base) (c == d) (fits_all (patterns_of qs) vs) (fits_all (patterns_of (named_parts k qs).parts) us) (parts_fit qs k le vs us h)
      form_fits (build_of c p qs) k le v u _ = tt

      pub parts_fit : (qs : Patterns) (k : ℕ) → base ≤ k → (vs us : Values) → AllAlike Code vs us → FitBoth (from base) (fits_all (patterns_of qs) vs) (fits_all (patterns_of (named_parts k qs).parts) us)
      parts_fit no_patterns k le vs us none_alike = no_pairs (from base)
      parts_fit no_patterns k le vs us (more_alike v u xs ys h r) = tt
      parts_fit (more_patterns q qs) k le vs us none_alike = tt
      parts_fit (more_patterns q qs) k le vs us (more_alike v u xs ys h r) =
          let Q = named_part k q in
          let l = part_later q k in
          let m : base ≤ Q.next = omega (arith, l, le) in
          fit_pairs (from base) (fits (pattern_of q) v) (fits (pattern_of Q.pattern) u) (fits_all (patterns_of qs) xs) (fits_all (patterns_of (named_parts Q.next qs).parts) ys) (part_fits q k le v u h) (parts_fit qs Q.next m xs ys r)

    pub pattern_fits : (q : Pattern) (k : ℕ) → base ≤ k → (v u : Value) → Alike Code v u → FitBoth (from base) (fits (pattern_of q) v) (fits (pattern_of (named_pattern k q).pattern) u)
    pattern_fits (pattern p any) k le v u h = no_pairs (from base)
    pattern_fits (pattern p f) k le v u h = part_fits (pattern p f) k le v u h
