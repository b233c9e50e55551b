-- Pure expressions and patterns that are read run as they do.
use Rattle.std.proofs.Common.{◌≡◌, ℕ, List, Option, Some, None, refl, ap, ap₂}
use Rattle.lq_base_names.specs.declared.operation.ArithOp.{ArithOp}
use Rattle.lq_text_tree.specs.MlType.{MlTypes}
use Rattle.lq_text_tree.specs.Pattern as p
use Rattle.lq_text_tree.specs.Pattern.{pattern, Patterns}
use Rattle.lq_text_tree.specs.Tree.{Tree, Trees}
use Rattle.lq_base_names.specs.declared.place.Place.{Place}
use Rattle.lq_refined_rules.specs.Checks.Tree as t
use Rattle.lq_meaning_steps.specs.Model.Core as core
use Rattle.lq_meaning_steps.specs.Model.FromTree.{arithmetic_at, core_of, cores_of, pattern_of, patterns_of, parameter_of}
use Rattle.lq_sound_forms.specs.Pures.Cores.{arm_pattern, name_patterns, pure_core, pure_cores}
use Rattle.lq_refined_templates.specs.Points.Annotation.{Annotation, arguments_at}
use Rattle.lq_refined_templates.specs.Points.Pure.{after, arithmetic_of, pure_of, pures_of, use_at, use_with, variable_of}
use Rattle.lq_refined_templates.specs.Points.Reading as reading
use Rattle.lq_refined_templates.specs.Points.Seen.{Seen}
use Rattle.lq_sound_readiness.specs.Reading.Normal.{IsName, is_name, AreNames, no_names, more_names, IsArm, arm_any, arm_name, arm_unit, arm_tuple, arm_build, IsRing, ring_add, ring_subtract, ring_multiply, IsPure, pure_whole, pure_flag, pure_unit, pure_use, pure_arithmetic, pure_negated, pure_compare, pure_not, pure_and, pure_or, pure_length, ArePure, no_pure, more_pure, IsUse, is_use}

-- ---- patterns

names_read : {qs : Patterns} → AreNames qs → name_patterns (p.bound_in_all qs) ≡ patterns_of qs
names_read no_names = refl
names_read (more_names (is_name {x = x}) h) = ap (core.more_patterns (core.bind x)) (names_read h)

pub arm_read : {q : p.Pattern} → IsArm q → arm_pattern (reading.pattern_of q) ≡ pattern_of q
arm_read arm_any = refl
arm_read arm_name = refl
arm_read arm_unit = refl
arm_read (arm_tuple h) = ap core.tuple_of (names_read h)
arm_read (arm_build {c = c} h) = ap (core.build_of c) (names_read h)

pub parameter_read : {q : p.Pattern} → IsName q → core.variable (reading.parameter_of q) ≡ parameter_of q
parameter_read is_name = refl

-- ---- pure expressions

arithmetic_read : (l : Place) {o : ArithOp} (a b : t.Pure) (c d : core.Core) → IsRing o → pure_core a ≡ c → pure_core b ≡ d
    → pure_core (arithmetic_of o a b) ≡ core.two (core.arithmetic (arithmetic_at l o)) c d
arithmetic_read l a b c d ring_add e f = ap₂ (core.two (core.arithmetic core.sum)) e f
arithmetic_read l a b c d ring_subtract e f = ap₂ (core.two (core.arithmetic core.difference)) e f
arithmetic_read l a b c d ring_multiply e f = ap₂ (core.two (core.arithmetic core.product)) e f

module _ (n : Annotation) (Δ : List Seen) where
  used_by : (k i x : ℕ) (ts : Option MlTypes) → (use_with n Δ k i x ts).read.name ≡ x
  used_by k i x None = refl
  used_by k i x (Some ts) = refl

  use_read : (k i x : ℕ) → (use_at n Δ k i x).read.name ≡ x
  use_read k i x = used_by k i x (arguments_at n i x)

  pub variable_read : (k : ℕ) {e : Tree} → IsUse e → core.use_of (variable_of n Δ k e).read.name ≡ core_of e
  variable_read k (is_use {i = i} {x = x}) = ap core.use_of (use_read k i x)

  pub pure_read : (k : ℕ) {e : Tree} → IsPure e → pure_core (pure_of n Δ k e).read ≡ core_of e
  pure_read k pure_whole = refl
  pure_read k pure_flag = refl
  pure_read k pure_unit = refl
  pure_read k (pure_use {i = i} {x = x}) = ap core.use_of (use_read k i x)
  pure_read k (pure_arithmetic {l = l} {a = a} {b = b} r h w) =
      arithmetic_read l (pure_of n Δ k a).read (pure_of n Δ (after k (pure_of n Δ k a)) b).read (core_of a) (core_of b) r (pure_read k h)
      (pure_read (after k (pure_of n Δ k a)) w)
  pure_read k (pure_negated h) = ap (core.one core.negate) (pure_read k h)
  pure_read k (pure_compare {o = o} {a = a} h w) = ap₂ (core.two (core.comparison o)) (pure_read k h) (pure_read (after k (pure_of n Δ k a)) w)
  pure_read k (pure_not h) = ap (core.one core.invert) (pure_read k h)
  pure_read k (pure_and {a = a} h w) = ap₂ core.and_of (pure_read k h) (pure_read (after k (pure_of n Δ k a)) w)
  pure_read k (pure_or {a = a} h w) = ap₂ core.or_of (pure_read k h) (pure_read (after k (pure_of n Δ k a)) w)
  pure_read k (pure_length h) = ap (core.one core.length_of) (pure_read k h)

  pub pures_read : (k : ℕ) {es : Trees} → ArePure es → pure_cores (pures_of n Δ k es).read ≡ cores_of es
  pures_read k no_pure = refl
  pures_read k (more_pure {e = e} h w) = ap₂ core.more (pure_read k h) (pures_read (after k (pure_of n Δ k e)) w)
