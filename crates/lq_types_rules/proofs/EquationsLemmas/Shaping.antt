-- Rules of nodes and patterns, put together from what was added for them.
use Rattle.std.proofs.Common.{◌≡◌, ℕ, zero, suc, ◌+◌, ◌-◌, ◌<◌, List, [], ◌∷◌, ◌++◌, All, length, get_or, refl, sym, ap, subst, ◌∙◌, arith}
use Rattle.lq_base_names.specs.declared.place.Place.{Place}
use Rattle.lq_text_tree.specs.MlType as ml
use Rattle.lq_text_tree.specs.MlType.{MlType, MlTypes}
use Rattle.lq_text_tree.specs.Pattern.{Pattern, tuple_of, build_of, bound_in_all}
use Rattle.lq_text_tree.specs.PatternView.{patterns_of}
use Rattle.lq_text_tree.specs.Types.{Signature, count_types, type_at, AreAll, Lists, Builds}
use Rattle.lq_text_tree.specs.TypingRules.{PatternIs, PatternFormIs, PatternsAre}
use Rattle.lq_text_tree.specs.TreeView.{Case}
use Rattle.lq_types_rules.specs.declared.equations.system.System.{System}
use Rattle.lq_types_rules.specs.Equations.Solutions.{each}
use Rattle.lq_types_rules.specs.Equations.Adding.{Adds, Offers, count_of}
use Rattle.lq_types_rules.specs.Equations.Rows.{annotation_of, last_of, ChainIs, PatternsFit, FunIs, ArmsFit}
use Rattle.lq_types_rules.specs.Equations.Within.{PatternIn, CaseIn}
use Rattle.lq_types_rules.proofs.EquationsLemmas.Growing.{agree_each}
use Rattle.lq_types_rules.proofs.EquationsLemmas.Composing.{after, adds_as, close, offer_then}
use Rattle.lq_types_rules.proofs.EquationsLemmas.Patterning.{pattern_depends, all_depends, to_are, from_are, are_count}
use Rattle.lq_types_rules.proofs.EquationsLemmas.Resting.{arms_depends}
use Rattle.lq_types_rules.proofs.EquationsLemmas.RowRules.{last_is}

pub type_at_each : (t : ℕ → MlType) (rs : List ℕ) (k : ℕ) → k < length rs → type_at (each t rs) k ≡ t (get_or rs k 0)
type_at_each t [] k h = absurd (omega arith)
type_at_each t (r ∷ rs) zero h = refl
type_at_each t (r ∷ rs) (suc k) h = type_at_each t rs k (omega arith)

one_type : (ts : MlTypes) → count_types ts ≡ 1 → ts ≡ ml.more_types (type_at ts 0) ml.no_types
one_type ml.no_types h = absurd (omega arith)
one_type (ml.more_types a ml.no_types) h = refl
one_type (ml.more_types a (ml.more_types b ts)) h = absurd (omega arith)

-- ---- rows

pub list_adds : (old mid new : System) (roots parts : List ℕ) (at : ℕ) → length roots ≡ 1 → All (λ p. p < count_of old) parts
    → Offers old mid roots (λ t ts. (count_types ts ≡ 1) × (t at ≡ ml.named 4 ts)) → Adds mid new (λ t. AreAll (t (get_or roots 0 0)) (each t parts)) → Adds old new (λ t. Lists (each t parts) (t at))
list_adds old mid new roots parts at l inside o a =
    let P : (ℕ → MlType) → MlTypes → Type 0 = λ t ts. (count_types ts ≡ 1) × (t at ≡ ml.named 4 ts) in
    let Q : (ℕ → MlType) → MlTypes → Type 0 = λ t ts. AreAll (type_at ts 0) (each t parts) in
    let first : (t : ℕ → MlType) → type_at (each t roots) 0 ≡ t (get_or roots 0 0) = λ t. type_at_each t roots 0 (omega arith) in
    adds_as old new (λ t. (ts : MlTypes) × (P t ts × Q t ts)) (λ t. Lists (each t parts) (t at))
    (close old new roots (λ t ts. P t ts × Q t ts) (offer_then old mid new roots P Q o
    (adds_as mid new (λ t. AreAll (t (get_or roots 0 0)) (each t parts)) (λ t. Q t (each t roots)) a
    (λ t e. subst (λ b. AreAll b (each t parts)) (sym (first t)) e) (λ t e. subst (λ b. AreAll b (each t parts)) (first t) e))
    (λ ts t later g e. subst (AreAll (type_at ts 0)) (sym (agree_each (count_of old) t later g parts inside)) e)))
    (λ t e. (type_at e.0 0, e.1.0.1 ∙ ap (ml.named 4) (one_type e.0 e.1.0.0), e.1.1))
    (λ t e. (ml.more_types e.0 ml.no_types, ((refl, e.1), e.2)))

pub build_adds : (g : Signature) (c : ℕ) (old mid new : System) (roots parts : List ℕ) (at : ℕ) → All (λ p. p < count_of old) parts
    → Offers old mid roots (λ t ts. Builds g c ts (t at)) → Adds mid new (λ t. each t parts ≡ each t roots) → Adds old new (λ t. Builds g c (each t parts) (t at))
build_adds g c old mid new roots parts at inside o a =
    let P : (ℕ → MlType) → MlTypes → Type 0 = λ t ts. Builds g c ts (t at) in
    let Q : (ℕ → MlType) → MlTypes → Type 0 = λ t ts. each t parts ≡ ts in
    adds_as old new (λ t. (ts : MlTypes) × (P t ts × Q t ts)) (λ t. Builds g c (each t parts) (t at))
    (close old new roots (λ t ts. P t ts × Q t ts) (offer_then old mid new roots P Q o a
    (λ ts t later g e. agree_each (count_of old) t later g parts inside ∙ e)))
    (λ t e. subst (λ ts. Builds g c ts (t at)) (sym e.1.1) e.1.0) (λ t e. (each t parts, (e, refl)))

pub count_of_row : (t : ℕ → MlType) (ps : List ℕ) → count_types (each t ps) ≡ length ps
count_of_row t [] = refl
count_of_row t (p ∷ ps) = ap suc (count_of_row t ps)

chain_empty : (ps : List ℕ) (at : ℕ) → length ps ≡ 0 → (t : ℕ → MlType) → (t at ≡ ml.unit → ChainIs ps at t) × (ChainIs ps at t → t at ≡ ml.unit)
chain_empty [] at h t = (λ e. e, λ e. e)
chain_empty (p ∷ ps) at h t = absurd (omega arith)

chain_full : (ps : List ℕ) (at : ℕ) → (length ps ≡ 0 → ⊥) → (t : ℕ → MlType) → (t at ≡ t (get_or ps (length ps - 1) 0) → ChainIs ps at t) × (ChainIs ps at t → t at ≡ t (get_or ps (length ps - 1) 0))
chain_full [] at h t = absurd (h refl)
chain_full (p ∷ ps) at h t =
    let same : last_of p ps ≡ get_or (p ∷ ps) (length (p ∷ ps) - 1) 0 = last_is p ps ∙ ap (λ (k : ℕ). get_or (p ∷ ps) k 0) (let e : length ps ≡ length (p ∷ ps) - 1 = omega arith in e) in
    (λ e. e ∙ sym (ap t same), λ e. e ∙ ap t same)

pub chain_unit : (old new : System) (ps : List ℕ) (at : ℕ) → length ps ≡ 0 → Adds old new (λ t. t at ≡ ml.unit) → Adds old new (ChainIs ps at)
chain_unit old new ps at h a = adds_as old new (λ t. t at ≡ ml.unit) (ChainIs ps at) a (λ t. (chain_empty ps at h t).0) (λ t. (chain_empty ps at h t).1)

pub chain_last : (old new : System) (ps : List ℕ) (at : ℕ) → (length ps ≡ 0 → ⊥) → Adds old new (λ t. t at ≡ t (get_or ps (length ps - 1) 0)) → Adds old new (ChainIs ps at)
chain_last old new ps at h a = adds_as old new (λ t. t at ≡ t (get_or ps (length ps - 1) 0)) (ChainIs ps at) a (λ t. (chain_full ps at h t).0) (λ t. (chain_full ps at h t).1)

-- ---- patterns

module _ (g : Signature) (nodes : ℕ) where
  row_adds : (old mid new : System) (roots : List ℕ) (qs : List Pattern) (P : (ℕ → MlType) → MlTypes → Type 0) → All (λ x. nodes + x < count_of old) (bound_in_all (patterns_of qs))
      → Offers old mid roots P → Adds mid new (PatternsFit g nodes qs roots) → Adds old new (λ t. (ts : MlTypes) × (P t ts × PatternsAre g (annotation_of nodes t) (patterns_of qs) ts))
  row_adds old mid new roots qs P names o a =
      let Q : (ℕ → MlType) → MlTypes → Type 0 = λ t ts. PatternsAre g (annotation_of nodes t) (patterns_of qs) ts in
      close old new roots (λ t ts. P t ts × Q t ts) (offer_then old mid new roots P Q o
      (adds_as mid new (PatternsFit g nodes qs roots) (λ t. Q t (each t roots)) a (λ t. to_are g nodes t qs roots) (λ t. from_are g nodes t qs roots))
      (λ ts. all_depends g nodes (count_of old) (patterns_of qs) names ts))

  pub tuple_adds : (old mid new : System) (roots : List ℕ) (qs : List Pattern) (slot n : ℕ) → n ≡ length qs → All (λ x. nodes + x < count_of old) (bound_in_all (patterns_of qs))
      → Offers old mid roots (λ t ts. (count_types ts ≡ n) × (t slot ≡ ml.tuple ts)) → Adds mid new (PatternsFit g nodes qs roots)
      → Adds old new (λ t. PatternFormIs g (annotation_of nodes t) (tuple_of (patterns_of qs)) (t slot))
  tuple_adds old mid new roots qs slot n l names o a =
      let P : (ℕ → MlType) → MlTypes → Type 0 = λ t ts. (count_types ts ≡ n) × (t slot ≡ ml.tuple ts) in
      adds_as old new (λ t. (ts : MlTypes) × (P t ts × PatternsAre g (annotation_of nodes t) (patterns_of qs) ts)) (λ t. PatternFormIs g (annotation_of nodes t) (tuple_of (patterns_of qs)) (t slot))
      (row_adds old mid new roots qs P names o a)
      (λ t e. (e.0, e.1.0.1, e.1.1))
      (λ t e. (e.0, ((are_count g (annotation_of nodes t) qs e.0 e.2 ∙ sym l, e.1), e.2)))

  pub fields_adds : (old mid new : System) (roots : List ℕ) (qs : List Pattern) (slot c : ℕ) (p : Place) → All (λ x. nodes + x < count_of old) (bound_in_all (patterns_of qs))
      → Offers old mid roots (λ t ts. Builds g c ts (t slot)) → Adds mid new (PatternsFit g nodes qs roots)
      → Adds old new (λ t. PatternFormIs g (annotation_of nodes t) (build_of c p (patterns_of qs)) (t slot))
  fields_adds old mid new roots qs slot c p names o a =
      adds_as old new (λ t. (ts : MlTypes) × (Builds g c ts (t slot) × PatternsAre g (annotation_of nodes t) (patterns_of qs) ts)) (λ t. PatternFormIs g (annotation_of nodes t) (build_of c p (patterns_of qs)) (t slot))
      (row_adds old mid new roots qs (λ t ts. Builds g c ts (t slot)) names o a)
      (λ t e. (e.0, e.1.0, e.1.1)) (λ t e. (e.0, (e.1, e.2)))

  pub never_adds : (old new : System) (qs : List Pattern) (slot c n : ℕ) (p : Place) → n ≡ length qs → ((ts : MlTypes) (a : MlType) → count_types ts ≡ n → Builds g c ts a → ⊥)
      → Adds old new (λ t. ⊥) → Adds old new (λ t. PatternFormIs g (annotation_of nodes t) (build_of c p (patterns_of qs)) (t slot))
  never_adds old new qs slot c n p l h a =
      adds_as old new (λ t. ⊥) (λ t. PatternFormIs g (annotation_of nodes t) (build_of c p (patterns_of qs)) (t slot)) a
      (λ t e. absurd e) (λ t e. h e.0 (t slot) (are_count g (annotation_of nodes t) qs e.0 e.2 ∙ sym l) e.1)

  pub function_adds : (old first new : System) (sides : List ℕ) (q : Pattern) (b at : ℕ) → length sides ≡ 2 → b < count_of old → PatternIn nodes (count_of old) q
      → Offers old first sides (λ t ts. (count_types ts ≡ 2) × (t at ≡ ml.arrow (type_at ts 0) (type_at ts 1)))
      → Adds first new (λ t. (t (get_or sides 1 0) ≡ t b) × PatternIs g (annotation_of nodes t) q (t (get_or sides 0 0))) → Adds old new (FunIs g nodes q b at)
  function_adds old first new sides q b at l lb names o a =
      let P : (ℕ → MlType) → MlTypes → Type 0 = λ t ts. (count_types ts ≡ 2) × (t at ≡ ml.arrow (type_at ts 0) (type_at ts 1)) in
      let Q : (ℕ → MlType) → MlTypes → Type 0 = λ t ts. (type_at ts 1 ≡ t b) × PatternIs g (annotation_of nodes t) q (type_at ts 0) in
      let from : (t : ℕ → MlType) → type_at (each t sides) 0 ≡ t (get_or sides 0 0) = λ t. type_at_each t sides 0 (omega arith) in
      let to : (t : ℕ → MlType) → type_at (each t sides) 1 ≡ t (get_or sides 1 0) = λ t. type_at_each t sides 1 (omega arith) in
      adds_as old new (λ t. (ts : MlTypes) × (P t ts × Q t ts)) (FunIs g nodes q b at)
      (close old new sides (λ t ts. P t ts × Q t ts)
      (offer_then old first new sides P Q o
      (adds_as first new (λ t. (t (get_or sides 1 0) ≡ t b) × PatternIs g (annotation_of nodes t) q (t (get_or sides 0 0))) (λ t. Q t (each t sides)) a
      (λ t e. (to t ∙ e.0, subst (PatternIs g (annotation_of nodes t) q) (sym (from t)) e.1)) (λ t e. (sym (to t) ∙ e.0, subst (PatternIs g (annotation_of nodes t) q) (from t) e.1)))
      (λ ts t later f e. (e.0 ∙ sym (f b lb), pattern_depends g nodes (count_of old) q names (type_at ts 0) t later f e.1))))
      (λ t e. (type_at e.0 0, e.1.0.1 ∙ ap (ml.arrow (type_at e.0 0)) e.1.1.0, e.1.1.1))
      (λ t e. (ml.more_types e.0 (ml.more_types (t b) ml.no_types), ((refl, e.1), (refl, e.2))))

  -- ---- arms

  arms_more : (t : ℕ → MlType) (cs : List Case) (c : Case) (m at : ℕ) → ArmsFit g nodes cs m at t → ArmsFit g nodes (c ∷ []) m at t → ArmsFit g nodes (cs ++ c ∷ []) m at t
  arms_more t [] c m at h e = e
  arms_more t (d ∷ cs) c m at h e = (h.0, h.1, arms_more t cs c m at h.2 e)

  arms_less : (t : ℕ → MlType) (cs : List Case) (c : Case) (m at : ℕ) → ArmsFit g nodes (cs ++ c ∷ []) m at t → ArmsFit g nodes cs m at t × ArmsFit g nodes (c ∷ []) m at t
  arms_less t [] c m at e = (tt, e)
  arms_less t (d ∷ cs) c m at e = let x = arms_less t cs c m at e.2 in ((e.0, e.1, x.0), x.1)

  pub arm_then : (old mid new : System) (cs longer : List Case) (c : Case) (m at : ℕ) → at < count_of old → m < count_of old → CaseIn nodes (count_of old) c → longer ≡ cs ++ c ∷ []
      → Adds old mid (ArmsFit g nodes cs m at) → Adds mid new (ArmsFit g nodes (c ∷ []) m at) → Adds old new (ArmsFit g nodes longer m at)
  arm_then old mid new cs longer c m at la lm inside is a b =
      subst (λ ds. Adds old new (ArmsFit g nodes ds m at)) (sym is)
      (adds_as old new (λ t. ArmsFit g nodes cs m at t × ArmsFit g nodes (c ∷ []) m at t) (ArmsFit g nodes (cs ++ c ∷ []) m at)
      (after old mid new (ArmsFit g nodes cs m at) (ArmsFit g nodes (c ∷ []) m at) a b (arms_depends g nodes (count_of old) (c ∷ []) m at la (one_case inside) lm))
      (λ t e. arms_more t cs c m at e.0 e.1) (λ t e. arms_less t cs c m at e))
    where
      one_case : CaseIn nodes (count_of old) c → All (CaseIn nodes (count_of old)) (c ∷ [])
      one_case h zero d l = h
      one_case h (suc k) d l = absurd (omega arith)
