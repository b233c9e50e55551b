-- What a pattern gives where a value of its type fits it, and what a function's body is.
use Rattle.std.proofs.Common.{◌≡◌, ℕ, Bool, true, false, ◌==◌, if◌then◌else◌, [], ◌∷◌, ◌++◌, Option, Some, None, refl, sym, ap, subst, ◌∙◌}
use Rattle.std.proofs.lemmas.Bool.{eqb-true}
use Rattle.lq_text_tree.specs.MlType as ml
use Rattle.lq_text_tree.specs.MlType.{MlType, MlTypes}
use Rattle.lq_meaning_steps.specs.Model.Core.{Pattern, any, bind, nothing, tuple_of, build_of, Patterns, no_patterns, more_patterns, Parameter, ignored, variable, empty, matched, build, Core, no_arms, more_arms, Value, v_unit, v_tuple, v_build, Values, no_values, more_values, Pairs}
use Rattle.lq_meaning_steps.specs.Model.Operations.{both_pairs, fits, fits_all}
use Rattle.lq_meaning_steps.specs.Model.Step.{applied}
use Rattle.lq_text_tree.specs.Types.{put_all, type_at, Signature, plain, Names, IsInstance}
use Rattle.lq_meaning_steps.specs.Progress.Typing.{Table, RowHas, PatternHas, PatternsHave, ParameterHas, Has, ValueHas, ValuesHave}
use Rattle.lq_meaning_steps.specs.Progress.Laws.{Agrees}
use Rattle.lq_meaning_steps.proofs.ProgressLemmas.Closing.{agrees_more, agrees_none, closes, arms_close}

module _ (g : Signature) (t : Table) where
  -- each value has the types at which its name may be used
  abbrev pub ArePaired : Pairs → Names → Type 0
  ArePaired [] [] = Unit {0}
  ArePaired (p ∷ ps) (n ∷ ns) = (p.0 ≡ n.0) × ((a : MlType) → IsInstance n.1 a → ValueHas g t p.1 a) × ArePaired ps ns
  ArePaired _ _ = ⊥

  pub paired_append : (ps qs : Pairs) (ns ms : Names) → ArePaired ps ns → ArePaired qs ms → ArePaired (ps ++ qs) (ns ++ ms)
  paired_append [] qs [] ms h k = k
  paired_append [] qs (n ∷ ns) ms h k = absurd h
  paired_append (p ∷ ps) qs [] ms h k = absurd h
  paired_append (p ∷ ps) qs (n ∷ ns) ms h k = (h.0, h.1, paired_append ps qs ns ms h.2 k)

  pub paired_agree : (ps : Pairs) (ns ms : Names) → ArePaired ps ns → Agrees g t ps (ns ++ ms) ms
  paired_agree [] [] ms h = agrees_none g t ms
  paired_agree [] (n ∷ ns) ms h = absurd h
  paired_agree (p ∷ ps) [] ms h = absurd h
  paired_agree (p ∷ ps) (n ∷ ns) ms h =
      subst (λ x. Agrees g t (p ∷ ps) ((x, n.1) ∷ ns ++ ms) ms) h.0 (agrees_more g t p.0 p.1 n.1 ps (ns ++ ms) ms h.1 (paired_agree ps ns ms h.2))

  both_from : (o r : Option Pairs) (ps : Pairs) → both_pairs o r ≡ Some ps → (qs : Pairs) × (rs : Pairs) × (o ≡ Some qs) × (r ≡ Some rs) × (ps ≡ qs ++ rs)
  both_from None r ps h = cc
  both_from (Some qs) None ps h = cc
  both_from (Some qs) (Some rs) ps h = (qs, rs, refl, refl, cc)

  none_paired : (ns : Names) (ps : Pairs) → ns ≡ [] → Some [] ≡ Some ps → ArePaired ps ns
  none_paired ns ps h k = let e : [] ≡ ps = cc in subst (λ x. ArePaired ps x) (sym h) (subst (λ x. ArePaired x []) e tt)

  one_paired : (x : ℕ) (v : Value) (a : MlType) (ns : Names) (ps : Pairs) → ValueHas g t v a → ns ≡ (x, plain a) ∷ [] → Some ((x, v) ∷ []) ≡ Some ps → ArePaired ps ns
  one_paired x v a ns ps h k m =
      let e : (x, v) ∷ [] ≡ ps = cc in
      subst (λ y. ArePaired ps y) (sym k) (subst (λ y. ArePaired y ((x, plain a) ∷ [])) e (refl, (λ b i. subst (λ y. ValueHas g t v y) (sym i) h), tt))

  if_some : (b : Bool) (o : Option Pairs) (ps : Pairs) → (if b then o else None) ≡ Some ps → (b ≡ true) × (o ≡ Some ps)
  if_some true o ps h = (refl, h)
  if_some false o ps h = cc

  tuple_parts : (ts us : MlTypes) (vs : Values) → ml.tuple ts ≡ ml.tuple us → ValuesHave g t vs ts → ValuesHave g t vs us
  tuple_parts ts us vs h k = let e : ts ≡ us = cc in subst (λ x. ValuesHave g t vs x) e k

  -- one constructor has one row of fields at a type
  same_fields : (c d : ℕ) (ts us : MlTypes) (a : MlType) → c ≡ d → RowHas g (build c) ts a → RowHas g (build d) us a → ts ≡ us
  same_fields c d ts us a e h k =
      let one : g d ≡ Some h.0 = subst (λ x. g x ≡ Some h.0) e h.2 in
      let same : h.0 ≡ k.0 = cc (one, k.2) in
      let arguments : h.1 ≡ k.1 = cc (h.3, k.3) in
      h.4 ∙ ap (λ x. put_all (type_at x) (h.0).fields) arguments ∙ ap (λ x. put_all (type_at k.1) x.fields) same ∙ sym k.4

  mutual
    pub matches : (q : Pattern) (v : Value) (a : MlType) (ns : Names) (ps : Pairs) → PatternHas g q a ns → ValueHas g t v a → fits q v ≡ Some ps → ArePaired ps ns
    matches any v a ns ps h k m = none_paired ns ps h m
    matches (bind x) v a ns ps h k m = one_paired x v a ns ps k h m
    matches nothing v_unit a ns ps h k m = none_paired ns ps h.1 m
    matches nothing _ a ns ps h k m = cc
    matches (tuple_of qs) (v_tuple vs) a ns ps h k m =
        all_match qs vs h.0 ns ps h.2 (tuple_parts k.0 h.0 vs (sym k.2 ∙ h.1) k.1) m
    matches (tuple_of qs) _ a ns ps h k m = cc
    matches (build_of c qs) (v_build d vs) a ns ps h k m =
        let b = if_some (c == d) (fits_all qs vs) ps m in
        all_match qs vs h.0 ns ps h.2 (subst (λ x. ValuesHave g t vs x) (sym (same_fields c d h.0 k.0 a (eqb-true c d b.0) h.1 k.2)) k.1) b.1
    matches (build_of c qs) _ a ns ps h k m = cc

    all_match : (qs : Patterns) (vs : Values) (ts : MlTypes) (ns : Names) (ps : Pairs) → PatternsHave g qs ts ns → ValuesHave g t vs ts → fits_all qs vs ≡ Some ps → ArePaired ps ns
    all_match no_patterns no_values ts ns ps h k m = none_paired ns ps h.1 m
    all_match no_patterns (more_values v vs) ts ns ps h k m = cc
    all_match (more_patterns q qs) no_values ts ns ps h k m = cc
    all_match (more_patterns q qs) (more_values v vs) ts ns ps h k m =
        let b = both_from (fits q v) (fits_all qs vs) ps m in
        let e : ml.more_types k.0 k.1 ≡ ml.more_types h.0 h.1 = sym k.2 ∙ h.4 in
        let first : k.0 ≡ h.0 = cc in
        let rest : k.1 ≡ h.1 = cc in
        subst (λ x. ArePaired x ns) (sym b.4)
        (subst (λ x. ArePaired (b.0 ++ b.1) x) (sym h.5)
        (paired_append b.0 b.1 h.2 h.3 (matches q v h.0 h.2 b.0 h.6 (subst (λ x. ValueHas g t v x) first k.3) b.2)
        (all_match qs vs h.1 h.3 b.1 h.7 (subst (λ x. ValuesHave g t vs x) rest k.4) b.3)))

  -- the body of a function, and what follows a definition, with a value for the pattern
  pub applies : (q : Parameter) (b : Core) (v : Value) (self : Pairs) (ns ms : Names) (from a : MlType) → ParameterHas g q from ms → Has g t (ms ++ ns) b a → ValueHas g t v from
      → Agrees g t self ns [] → Has g t [] (applied self q b v) a
  applies ignored b v self ns ms from a h k m s =
      closes g t b self ns [] a s (subst (λ x. Has g t (x ++ ns) b a) h k)
  applies empty b v self ns ms from a h k m s =
      closes g t b self ns [] a s (subst (λ x. Has g t (x ++ ns) b a) h.1 k)
  applies (variable x) b v self ns ms from a h k m s =
      closes g t b ((x, v) ∷ self) ((x, plain from) ∷ ns) [] a
      (agrees_more g t x v (plain from) self ns [] (λ c i. subst (λ y. ValueHas g t v y) (sym i) m) s) (subst (λ y. Has g t (y ++ ns) b a) h k)
  applies (matched p q) b v self ns ms from a h k m s =
      (from, m, arms_close g t (more_arms q b no_arms) self ns [] from a s (ms, h, k, tt))
