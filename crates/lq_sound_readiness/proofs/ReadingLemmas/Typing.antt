-- Pure expressions and operations that are read are simply typed.
use Rattle.std.proofs.Common.{◌≡◌, ◌∙◌, ℕ, List, Option, Some, None, refl, sym, ap, subst}
use Rattle.lq_base_names.specs.declared.operation.ArithOp.{ArithOp}
use Rattle.lq_text_tree.specs.MlType as ml
use Rattle.lq_text_tree.specs.MlType.{MlType, MlTypes}
use Rattle.lq_text_tree.specs.Tree.{Tree, Trees}
use Rattle.lq_text_tree.specs.Types.{put, type_at}
use Rattle.lq_text_walk.specs.Walk.Fold.{fold_all}
use Rattle.lq_meaning_normal_form.specs.Outcomes.Naming.{id_of}
use Rattle.lq_meaning_normal_form.specs.Types.Typing.{EachObeys, Typed, Uses, row_types, typing, typing_of}
use Rattle.lq_refined_rules.specs.Checks.Tree as t
use Rattle.lq_refined_rules.specs.Checks.Typing.{Types, type_of_use, simple_type_in, HasPure, has_whole, has_flag, has_unit, has_use, has_negated, has_add, has_subtract, has_multiply, has_length, has_compare, has_not, has_and, has_or, HavePures, have_none, have_more}
use Rattle.lq_refined_templates.specs.Points.Annotation.{Annotation, arguments_at}
use Rattle.lq_refined_templates.specs.Points.Point.{Point}
use Rattle.lq_refined_templates.specs.Points.Pure.{after, arithmetic_of, pure_of, pures_of, use_with, variable_of}
use Rattle.lq_refined_templates.specs.Points.Seen.{Seen}
use Rattle.lq_refined_templates.specs.Points.Templates.{Datatypes, points_of}
use Rattle.lq_sound_readiness.specs.Reading.Laws.{types_of}
use Rattle.lq_sound_readiness.specs.Reading.Normal.{IsRing, ring_add, ring_subtract, ring_multiply, IsPure, pure_whole, pure_flag, pure_unit, pure_use, pure_arithmetic, pure_negated, pure_compare, pure_not, pure_and, pure_or, pure_length, ArePure, no_pure, more_pure, IsUse, is_use}
use Rattle.lq_sound_readiness.specs.Reading.Uses.{AllUsesFit, UsesFit, instance_by}
use Rattle.lq_sound_readiness.proofs.ReadingLemmas.Numbered.{HasAt, at_first, at_second}
use Rattle.lq_sound_readiness.proofs.ReadingLemmas.Named.{AreNamed, Holds, type_there}

module _ (D : Datatypes) (n : Annotation) (used : Uses) (all : List Point) where
  abbrev pub typed : Tree → Typed
  typed = typing_of D.constructors (types_of n) used

  -- a pure expression has the type of its node
  pub own_type : {e : Tree} → IsPure e → (typed e).type ≡ n.types (id_of e)
  own_type pure_whole = refl
  own_type pure_flag = refl
  own_type pure_unit = refl
  own_type pure_use = refl
  own_type (pure_arithmetic r h w) = refl
  own_type (pure_negated h) = refl
  own_type (pure_compare h w) = refl
  own_type (pure_not h) = refl
  own_type (pure_and h w) = refl
  own_type (pure_or h w) = refl
  own_type (pure_length h) = refl

  module _ (S : List Seen) (xs : List ℕ) (Δ : Types) (named : AreNamed n Δ) (holds : Holds n xs Δ) where
    -- a use has the type of its node
    used_as : (k i x : ℕ) (ts : Option MlTypes) → simple_type_in Δ x ≡ n.names x → HasAt all k (use_with n S k i x ts).points
        → type_of_use (points_of all) Δ (use_with n S k i x ts).read ≡ instance_by ts (n.names x)
    used_as k i x None e h = e
    used_as k i x (Some ts) e h = ap (λ (us : MlTypes). put (type_at us) (simple_type_in Δ x)) h.0 ∙ ap (put (type_at ts)) e

    pub use_typed : (k : ℕ) {e : Tree} → IsUse e → UsesFit n xs e → HasAt all k (variable_of n S k e).points
        → type_of_use (points_of all) Δ (variable_of n S k e).read ≡ n.types (id_of e)
    use_typed k (is_use {i = i} {x = x}) u h =
        used_as k i x (arguments_at n i x) (type_there n Δ x named (holds x u.0)) h ∙ sym u.1

    abbrev pub Has : t.Pure → MlType → Type 0
    Has = HasPure (points_of all) Δ

    -- the same of another type that is equal
    at_type : (e : t.Pure) {a b c : MlType} → Has e a → b ≡ a → b ≡ c → Has e c
    at_type e h f g = subst (Has e) (sym f ∙ g) h

    ring_typed : {o : ArithOp} (a b : t.Pure) → IsRing o → Has a ml.int → Has b ml.int → Has (arithmetic_of o a b) ml.int
    ring_typed a b ring_add h w = has_add h w
    ring_typed a b ring_subtract h w = has_subtract h w
    ring_typed a b ring_multiply h w = has_multiply h w

    pub pure_typed : (k : ℕ) {e : Tree} → IsPure e → UsesFit n xs e → (typed e).obeys → HasAt all k (pure_of n S k e).points → Has (pure_of n S k e).read (n.types (id_of e))
    pure_typed k pure_whole u o h = subst (Has _) (sym o) has_whole
    pure_typed k pure_flag u o h = subst (Has _) (sym o) has_flag
    pure_typed k pure_unit u o h = subst (Has _) (sym o) has_unit
    pure_typed k (pure_use {i = i} {l = l} {x = x}) u o h = subst (Has _) (use_typed k (is_use {i = i} {l = l} {x = x}) u h) has_use
    pure_typed k (pure_arithmetic {a = a} {b = b} r p q) u o h =
        let A = pure_of n S k a in
        let f : Has A.read ml.int = at_type A.read (pure_typed k p u.0 o.1 (at_first all k A.points _ h)) (own_type p) o.0.0 in
        let g : Has (pure_of n S (after k A) b).read ml.int = at_type _ (pure_typed (after k A) q u.1 o.2 (at_second all k A.points _ h)) (own_type q) o.0.1 in
        subst (Has _) (sym o.0.2) (ring_typed A.read (pure_of n S (after k A) b).read r f g)
    pure_typed k (pure_negated p) u o h = subst (Has _) (sym o.0.1) (has_negated (at_type _ (pure_typed k p u o.1 h) (own_type p) o.0.0))
    pure_typed k (pure_compare {a = a} {b = b} p q) u o h =
        let A = pure_of n S k a in
        let f : Has A.read ml.int = at_type A.read (pure_typed k p u.0 o.1 (at_first all k A.points _ h)) (own_type p) o.0.0 in
        let g : Has (pure_of n S (after k A) b).read ml.int = at_type _ (pure_typed (after k A) q u.1 o.2 (at_second all k A.points _ h)) (own_type q) o.0.1 in
        subst (Has _) (sym o.0.2) (has_compare f g)
    pure_typed k (pure_not p) u o h = subst (Has _) (sym o.0.1) (has_not (at_type _ (pure_typed k p u o.1 h) (own_type p) o.0.0))
    pure_typed k (pure_and {a = a} {b = b} p q) u o h =
        let A = pure_of n S k a in
        let f : Has A.read ml.bool = at_type A.read (pure_typed k p u.0 o.1 (at_first all k A.points _ h)) (own_type p) o.0.0 in
        let g : Has (pure_of n S (after k A) b).read ml.bool = at_type _ (pure_typed (after k A) q u.1 o.2 (at_second all k A.points _ h)) (own_type q) o.0.1 in
        subst (Has _) (sym o.0.2) (has_and f g)
    pure_typed k (pure_or {a = a} {b = b} p q) u o h =
        let A = pure_of n S k a in
        let f : Has A.read ml.bool = at_type A.read (pure_typed k p u.0 o.1 (at_first all k A.points _ h)) (own_type p) o.0.0 in
        let g : Has (pure_of n S (after k A) b).read ml.bool = at_type _ (pure_typed (after k A) q u.1 o.2 (at_second all k A.points _ h)) (own_type q) o.0.1 in
        subst (Has _) (sym o.0.2) (has_or f g)
    pure_typed k (pure_length p) u o h = subst (Has _) (sym o.0.2) (has_length (at_type _ (pure_typed k p u o.1 h) (own_type p) o.0.1))

    -- as an operand, at the type that the rules give it
    pub operand : (k : ℕ) {e : Tree} → IsPure e → UsesFit n xs e → (typed e).obeys → HasAt all k (pure_of n S k e).points → Has (pure_of n S k e).read (typed e).type
    operand k {e} p u o h = subst (Has (pure_of n S k e).read) (sym (own_type p)) (pure_typed k p u o h)

    pub operands : (k : ℕ) {es : Trees} → ArePure es → AllUsesFit n xs es → EachObeys (fold_all (typing D.constructors (types_of n) used) es)
        → HasAt all k (pures_of n S k es).points
        → HavePures (points_of all) Δ (pures_of n S k es).read (row_types (fold_all (typing D.constructors (types_of n) used) es))
    operands k no_pure u o h = have_none
    operands k (more_pure {e = e} {es = es} p ps) u o h =
        let A = pure_of n S k e in
        have_more (operand k p u.0 o.0 (at_first all k A.points _ h)) (operands (after k A) ps u.1 o.1 (at_second all k A.points _ h))
