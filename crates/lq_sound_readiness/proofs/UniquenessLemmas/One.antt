-- A program has at most one annotation, by the laws on its types and on its uses.
use mathlib.Core.Path.{fun_ext}
use Rattle.std.specs.List.{AllByRecursion}
use Rattle.std.proofs.Common.{◌≡◌, ◌⊎◌, inl, inr, ℕ, ◌+◌, ◌<◌, ◌≤◌, List, [], ◌∷◌, sym, ap, subst, ◌∙◌, arith}
use Rattle.std.proofs.Math.Logic.{∥∥₁_elim}
use Rattle.std.proofs.Props.{props}
use Rattle.std.proofs.lemmas.Bool.{cases_eq, cases_lt}
use Rattle.std.proofs.lemmas.List.Elements.{All-from_recursion, recursion_from_All}
use Rattle.lq_types_infer.specs.Annotation.Bounds.{bound_of}
use Rattle.lq_types_rules.specs.Visits.Laws.{slot_count}
use Rattle.lq_generate_reading.specs.GeneralNames.Defined.{IsDefined}
use Rattle.lq_generate_reading.specs.GeneralNames.Laws.{GeneralUsesAreDefined}
use Rattle.lq_types_infer.specs.Instantiation.Uses.{uses_of}
use Rattle.lq_generate_reading.specs.Notes.TypeSet.{coded_types, type_set}
use Rattle.lq_refined_templates.specs.Points.Annotation.{Annotation}
use Rattle.lq_text_walk.specs.Scoped.Scoping.{Scoping, IsScoped}
use Rattle.lq_text_walk.specs.Scoped.Signature.{signature_in}
use Rattle.lq_text_tree.specs.MlType.{MlType}
use Rattle.lq_text_tree.specs.Types.{put, type_at}
use Rattle.lq_types_rules.specs.Typings.Inference.{typed, IsInference}
use Rattle.lq_types_rules.specs.Typings.OneAnswer.{OneInference}
use Rattle.lq_types_rules.specs.Typings.Principal.{node_count, variables_of, AreNumbered, IsNumbered}
use Rattle.lq_types_rules.specs.Typings.Uses.{GeneralUse}
use Rattle.lq_sound_readiness.specs.Uniqueness.Annotated.{if_any, Annotates, HasArguments, IsAnnotationOf}
use Rattle.lq_sound_readiness.specs.Uniqueness.Laws.{OneAnnotation}
use Rattle.lq_sound_readiness.proofs.UniquenessLemmas.Arguments.{arguments_same}
use Rattle.lq_sound_readiness.proofs.UniquenessLemmas.Names.{names_numbered}
use Rattle.lq_sound_readiness.proofs.UniquenessLemmas.Slots.{name_low, slot_same}

module _ (one : OneInference) (defined : GeneralUsesAreDefined) (s : Scoping) (n o : Annotation) (scoped : IsScoped s) where
  module _ (types others : ℕ → MlType) (inference : IsInference s (typed types)) (other : IsInference s (typed others)) (a : Annotates s types n) (b : Annotates s others o) where
    abbrev nodes : ℕ
    nodes = node_count s

    type_by : (k : ℕ) → (k < slot_count s) ⊎ (slot_count s ≤ k) → n.types k ≡ o.types k
    type_by k (inl low) =
        a.slots k low ∙ slot_same s scoped types others (one s scoped (typed types) (typed others) inference other) k low ∙ sym (b.slots k low)
    type_by k (inr above) = a.past k above ∙ sym (b.past k above)

    pub type_at_same : (k : ℕ) → n.types k ≡ o.types k
    type_at_same k = type_by k (cases_lt k (slot_count s))

    pub name_at_same : (x : ℕ) → n.names x ≡ o.names x
    name_at_same x = a.binders x ∙ type_at_same (nodes + x) ∙ sym (b.binders x)

    abbrev HasNumbered : MlType → Type 0
    HasNumbered c = AreNumbered 0 (variables_of c)

    numbered : (x : ℕ) → IsDefined s.items x → HasNumbered (n.names x)
    numbered x d =
        let low = name_low s scoped x d in
        subst HasNumbered (sym (a.binders x ∙ a.slots (nodes + x) (omega (arith, low))))
        (names_numbered (signature_in s.datatypes) nodes types s.items [] inference.0.obeys
        (recursion_from_All (IsNumbered nodes types) s.items inference.3) x d)

    use_same : (u : GeneralUse) → IsDefined s.items u.binder → HasArguments n u → HasArguments o u → n.arguments u.node ≡ o.arguments u.node
    use_same u d h l =
        let name = sym (name_at_same u.binder) in
        let same = arguments_same (n.names u.binder) (numbered u.binder d) h.0 l.0 h.1.counted (l.1.counted ∙ ap bound_of name)
        (sym h.1.instance ∙ type_at_same u.node ∙ l.1.instance ∙ ap (put (type_at l.0)) name) in
        h.2 ∙ ap if_any same ∙ sym l.2

    abbrev IsOther : ℕ → GeneralUse → Type 0
    IsOther k u = u.node ≡ k → ⊥

    abbrev IsIn : GeneralUse → Type 0
    IsIn u = IsDefined s.items u.binder

    -- at a node the arguments are the same, or it is none of these uses
    first_same : (k : ℕ) (u : GeneralUse) (us : List GeneralUse) → n.arguments u.node ≡ o.arguments u.node → (u.node ≡ k) ⊎ (u.node ≡ k → ⊥)
        → (n.arguments k ≡ o.arguments k) ⊎ AllByRecursion (IsOther k) us
        → (n.arguments k ≡ o.arguments k) ⊎ AllByRecursion (IsOther k) (u ∷ us)
    first_same k u us same (inl is) rest = inl (subst (λ (j : ℕ). n.arguments j ≡ o.arguments j) is same)
    first_same k u us same (inr none) (inl e) = inl e
    first_same k u us same (inr none) (inr all) = inr (none, all)

    uses_same : (k : ℕ) (us : List GeneralUse) → AllByRecursion IsIn us → AllByRecursion (HasArguments n) us → AllByRecursion (HasArguments o) us
        → (n.arguments k ≡ o.arguments k) ⊎ AllByRecursion (IsOther k) us
    uses_same k [] d h l = inr tt
    uses_same k (u ∷ us) d h l = first_same k u us (use_same u d.0 h.0 l.0) (cases_eq u.node k) (uses_same k us d.1 h.1 l.1)

    argument_by : (k : ℕ) → (n.arguments k ≡ o.arguments k) ⊎ AllByRecursion (IsOther k) (uses_of s) → n.arguments k ≡ o.arguments k
    argument_by k (inl same) = same
    argument_by k (inr none) =
        let all = All-from_recursion (IsOther k) (uses_of s) none in a.unused k all ∙ sym (b.unused k all)

    pub argument_at_same : (k : ℕ) → n.arguments k ≡ o.arguments k
    argument_at_same k =
        let us = uses_of s in
        argument_by k
        (uses_same k us (recursion_from_All IsIn us (defined s)) (recursion_from_All (HasArguments n) us a.used) (recursion_from_All (HasArguments o) us b.used))

    pub text_at_same : (x : ℕ) → n.text x ≡ o.text x
    text_at_same x = a.texts x ∙ sym (b.texts x)

  module _ (h : IsAnnotationOf s n) (l : IsAnnotationOf s o) where
    types_same : n.types ≡ o.types
    types_same =
        fun_ext (λ (k : ℕ).
        let prop = type_set (n.types k) (o.types k) in
        ∥∥₁_elim h prop (λ a. ∥∥₁_elim l prop (λ b. type_at_same a.0 b.0 a.1 b.1 a.2 b.2 k)))

    names_same : n.names ≡ o.names
    names_same =
        fun_ext (λ (x : ℕ).
        let prop = type_set (n.names x) (o.names x) in
        ∥∥₁_elim h prop (λ a. ∥∥₁_elim l prop (λ b. name_at_same a.0 b.0 a.1 b.1 a.2 b.2 x)))

    arguments_are_same : n.arguments ≡ o.arguments
    arguments_are_same =
        fun_ext (λ (k : ℕ).
        let prop : IsProp (n.arguments k ≡ o.arguments k) = Prim.hlevel (props, coded_types) in
        ∥∥₁_elim h prop (λ a. ∥∥₁_elim l prop (λ b. argument_at_same a.0 b.0 a.1 b.1 a.2 b.2 k)))

    texts_same : n.text ≡ o.text
    texts_same =
        fun_ext (λ (x : ℕ).
        let prop : IsProp (n.text x ≡ o.text x) = Prim.hlevel props in
        ∥∥₁_elim h prop (λ a. ∥∥₁_elim l prop (λ b. text_at_same a.0 b.0 a.1 b.1 a.2 b.2 x)))

    pub annotation_same : n.value ≡ o.value → n ≡ o
    annotation_same value = λ i. record { types = types_same i; names = names_same i; arguments = arguments_are_same i; text = texts_same i; value = value i }

pub one_annotation : OneInference → GeneralUsesAreDefined → OneAnnotation
one_annotation one defined s n o scoped h l value = annotation_same one defined s n o scoped h l value
