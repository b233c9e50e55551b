-- Each stage has one answer, and so have all of them.
use Rattle.std.proofs.Common.{◌≡◌, ◌⊎◌, inl, inr, ℕ, ◌<◌, ◌≤◌, length, Some, None, Result, Ok, Err, refl, sym, ap, subst, ◌∙◌, arith}
use Rattle.std.proofs.Math.Logic.{∥∥₁_elim}
use Rattle.lq_text_front.specs.Bytes.Stages.{BindsTo, Bound}
use Rattle.lq_refined_instances.specs.Instances.{told}
use Rattle.lq_base_names.specs.declared.place.Place.{Place}
use Rattle.lq_sound_readiness.specs.Uniqueness.Annotated.{IsAnnotationOf}
use Rattle.lq_sound_readiness.specs.Uniqueness.Laws.{OneAnnotation}
use Rattle.lq_refined_templates.specs.Points.Annotation.{Annotation}
use Rattle.lq_text_refusal.specs.Stages.{HasOneAnswer, one_then}
use Rattle.lq_text_refusal.specs.declared.refused.Refused.{Refused}
use Rattle.lq_text_refusal.specs.declared.refused.Refused.TheVariants.{At, Nodes, Counted}
use Rattle.lq_text_walk.specs.Scoped.Scoping.{Scoping, IsScoped}
use Rattle.lq_types_rules.specs.Typings.Inference.{Answer, typed, ill_typed, weak, past, IsInference}
use Rattle.lq_types_rules.specs.Typings.OneAnswer.{AreSame, OneInference}
use Rattle.lq_top_pose.specs.Stages.{ArePosed, AreTyped, PosesTo, Typed, TypesTo, implications_in, replacements_in, type_refusal, typed_by}

-- the laws of the stages
pub record Laws : Type 0 where
  pub binding : HasOneAnswer BindsTo
  pub types : OneInference
  pub annotation : OneAnnotation

-- answers that are one are refused alike
refused_alike : (s : Scoping) (a b : Answer) → AreSame s a b → type_refusal a ≡ type_refusal b
refused_alike s (typed t) (typed u) same = refl
refused_alike s (ill_typed p) (ill_typed q) same = ap (λ (l : Place). Some (At 12 l)) same
refused_alike s (weak p) (weak q) same = ap (λ (l : Place). Some (At 13 l)) same
refused_alike s (past p n) (past q m) same = ap (λ (l : Place). Some (Nodes 14 l n)) same.0 ∙ ap (λ (k : ℕ). Some (Nodes 14 q k)) same.1
refused_alike s (typed t) (ill_typed q) same = absurd same
refused_alike s (typed t) (weak q) same = absurd same
refused_alike s (typed t) (past q m) same = absurd same
refused_alike s (ill_typed p) (typed u) same = absurd same
refused_alike s (ill_typed p) (weak q) same = absurd same
refused_alike s (ill_typed p) (past q m) same = absurd same
refused_alike s (weak p) (typed u) same = absurd same
refused_alike s (weak p) (ill_typed q) same = absurd same
refused_alike s (weak p) (past q m) same = absurd same
refused_alike s (past p n) (typed u) same = absurd same
refused_alike s (past p n) (ill_typed q) same = absurd same
refused_alike s (past p n) (weak q) same = absurd same

module _ (laws : Laws) where
  -- a program that has an annotation isn't refused
  not_refused : (b : Bound) (n : Annotation) (r : Refused) → IsScoped b.texts.program → IsAnnotationOf b.texts.program n
      → ((a : Answer) × IsInference b.texts.program a × (type_refusal a ≡ Some r)) → ⊥
  not_refused b n r scoped known why =
      ∥∥₁_elim known (λ a c. absurd a) (λ has. let same : None ≡ Some r = refused_alike b.texts.program (typed has.0) why.0
      (laws.types b.texts.program scoped (typed has.0) why.0 has.1 why.1) ∙ why.2 in cc)

  one_typed : HasOneAnswer AreTyped
  one_typed b (Ok t) (Ok u) p q =
      let bound : t.bound ≡ u.bound = p.0 ∙ sym q.0 in
      let annotation : t.annotation ≡ u.annotation =
      laws.annotation b.texts.program t.annotation u.annotation p.1 p.2 q.2 (p.3 ∙ sym q.3) in
      let same : t ≡ u = ap (λ (c : Bound). typed_by c t.annotation) bound ∙ ap (typed_by u.bound) annotation in
      ap (λ (x : Typed). Ok x) same
  one_typed b (Ok t) (Err e) p q = absurd (not_refused b t.annotation e p.1 p.2 q.1)
  one_typed b (Err e) (Ok t) p q = absurd (not_refused b t.annotation e q.1 q.2 p.1)
  one_typed b (Err e) (Err f) p q =
      let alike = refused_alike b.texts.program p.1.0 q.1.0 (laws.types b.texts.program p.0 p.1.0 q.1.0 p.1.1 q.1.1) in
      let same : Some e ≡ Some f = sym p.1.2 ∙ alike ∙ q.1.2 in
      cc

  one_posed : HasOneAnswer ArePosed
  one_posed t (Ok a) (Ok b) p q = ap (λ (x : Typed). Ok x) (p.0 ∙ sym q.0)
  one_posed t (Ok a) (Err e) p (inl q) = absurd (omega (arith, p.1, q.0))
  one_posed t (Ok a) (Err e) p (inr q) = absurd (omega (arith, p.2, q.1))
  one_posed t (Err e) (Ok a) (inl p) q = absurd (omega (arith, q.1, p.0))
  one_posed t (Err e) (Ok a) (inr p) q = absurd (omega (arith, q.2, p.1))
  one_posed t (Err e) (Err f) (inl p) (inl q) = ap (λ (x : Refused). Err x) (p.1 ∙ sym q.1)
  one_posed t (Err e) (Err f) (inl p) (inr q) = absurd (omega (arith, p.0, q.0))
  one_posed t (Err e) (Err f) (inr p) (inl q) = absurd (omega (arith, q.0, p.0))
  one_posed t (Err e) (Err f) (inr p) (inr q) = ap (λ (x : Refused). Err x) (p.2 ∙ sym q.2)

  pub one_problem : HasOneAnswer PosesTo
  one_problem = one_then TypesTo ArePosed (one_then BindsTo AreTyped laws.binding one_typed) one_posed
