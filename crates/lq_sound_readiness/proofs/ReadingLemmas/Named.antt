-- Names with their types.
use Rattle.std.proofs.Common.{◌≡◌, ◌∙◌, ◌⊎◌, inl, inr, ℕ, suc, Bool, true, false, cond, ◌==◌, List, [], ◌∷◌, ◌++◌, length, refl, sym, ap, subst}
use Rattle.std.proofs.lemmas.Bool.{eqb-true, eq-eqb}
use Rattle.lq_text_tree.specs.MlType as ml
use Rattle.lq_text_tree.specs.MlType.{MlType, MlTypes}
use Rattle.lq_text_tree.specs.Pattern as p
use Rattle.lq_text_tree.specs.Pattern.{pattern, Patterns, bound_in}
use Rattle.lq_text_tree.specs.Types.{count_types, put_all, type_at}
use Rattle.lq_text_tree.specs.TypingRules.{PatternIs, PatternsAre}
use Rattle.lq_refined_rules.specs.Checks.Tree.{pattern_unit, pattern_tuple, pattern_build}
use Rattle.lq_refined_rules.specs.Checks.Typing.{Types, simple_type_in, with_types, first_type, rest_types, fields_at, HasPattern, has_any, has_name, has_nothing, has_components, has_fields}
use Rattle.lq_refined_templates.specs.Points.Annotation.{Annotation}
use Rattle.lq_refined_templates.specs.Points.Reading as reading
use Rattle.lq_refined_templates.specs.Points.Templates.{Datatypes, basis_of}
use Rattle.lq_refined_templates.specs.Points.Point.{Point}
use Rattle.lq_sound_readiness.specs.Reading.Laws.{types_of}
use Rattle.lq_sound_readiness.specs.Reading.Normal.{is_name, AreNames, no_names, more_names, IsArm, arm_any, arm_name, arm_unit, arm_tuple, arm_build}
use Rattle.lq_sound_readiness.specs.Reading.Uses.{IsAmong}

abbrev pub HasName : Types → ℕ → Type 0
HasName [] x = ⊥
HasName (d ∷ Δ) x = (d.0 ≡ x) ⊎ HasName Δ x

module _ (n : Annotation) where
  -- each name has the annotation's type
  abbrev pub AreNamed : Types → Type 0
  AreNamed [] = Unit {0}
  AreNamed (d ∷ Δ) = (d.1 ≡ n.names d.0) × AreNamed Δ

  pub type_there : (Δ : Types) (x : ℕ) → AreNamed Δ → HasName Δ x → simple_type_in Δ x ≡ n.names x
  type_there [] x h w = elim w [ ]
  type_there (d ∷ Δ) x h w = by (d.0 == x) refl w (λ k. type_there Δ x h.1 k)
    where
      by : (b : Bool) → (d.0 == x) ≡ b → (d.0 ≡ x) ⊎ HasName Δ x → (HasName Δ x → simple_type_in Δ x ≡ n.names x) → cond b d.1 (simple_type_in Δ x) ≡ n.names x
      by true e v rest = h.0 ∙ ap n.names (eqb-true d.0 x e)
      by false e (inl k) rest = absurd (no (sym e ∙ eq-eqb d.0 x k))
        where
          no : false ≡ true → ⊥
          no z = cc
      by false e (inr k) rest = rest k

  -- names in scope are among these
  abbrev pub Holds : List ℕ → Types → Type 0
  Holds xs Δ = (x : ℕ) → IsAmong xs x → HasName Δ x

  pub holds_one : (xs : List ℕ) (Δ : Types) (x : ℕ) (a : MlType) → Holds xs Δ → Holds (x ∷ xs) ((x, a) ∷ Δ)
  holds_one xs Δ x a h y (inl e) = inl e
  holds_one xs Δ x a h y (inr k) = inr (h y k)

  -- names of a pattern with their types
  record NamesTyped (Δ : Types) (ys : List ℕ) (ts : MlTypes) : Type 0 where
    many : length ys ≡ count_types ts
    named : AreNamed (with_types ys ts Δ)
    holds : (xs : List ℕ) → Holds xs Δ → Holds (ys ++ xs) (with_types ys ts Δ)

  module _ (D : Datatypes) where
    -- the names behind stay
    kept : (ys : List ℕ) (ts : MlTypes) (Δ : Types) (x : ℕ) → HasName Δ x → HasName (with_types ys ts Δ) x
    kept [] ts Δ x h = h
    kept (y ∷ ys) ts Δ x h = kept ys (rest_types ts) ((y, first_type ts) ∷ Δ) x (inr h)

    names_typed : {qs : Patterns} → AreNames qs → (ts : MlTypes) (Δ : Types) → PatternsAre D.constructors (types_of n) qs ts → AreNamed Δ
        → NamesTyped Δ (p.bound_in_all qs) ts
    names_typed no_names ts Δ e h =
        record {
          many = subst (λ (us : MlTypes). 0 ≡ count_types us) (sym e) refl;
          named = h;
          holds = λ xs w. w;
        }
    names_typed (more_names {qs = qs} (is_name {x = x}) w) ts Δ (a, rest, e, i, is) h =
        let ns : NamesTyped ((x, a) ∷ Δ) (p.bound_in_all qs) rest = names_typed w rest ((x, a) ∷ Δ) is (sym i, h) in
        subst (NamesTyped Δ (x ∷ p.bound_in_all qs)) (sym e)
        (record {
          many = ap suc ns.many;
          named = ns.named;
          holds = λ xs k y z. by xs k ns y z;
        })
      where
        by : (xs : List ℕ) → Holds xs Δ → NamesTyped ((x, a) ∷ Δ) (p.bound_in_all qs) rest → (y : ℕ) → (x ≡ y) ⊎ IsAmong (p.bound_in_all qs ++ xs) y
            → HasName (with_types (p.bound_in_all qs) rest ((x, a) ∷ Δ)) y
        by xs k ns y (inl f) = kept (p.bound_in_all qs) rest ((x, a) ∷ Δ) y (inl f)
        by xs k ns y (inr z) = ns.holds xs (λ v u. inr (k v u)) y z

    count_put : (by : ℕ → MlType) (ts : MlTypes) → count_types (put_all by ts) ≡ count_types ts
    count_put by ml.no_types = refl
    count_put by (ml.more_types t ts) = ap suc (count_put by ts)

    -- a pattern takes values of the type
    pub record ArmTyped (ps : List Point) (Δ : Types) (q : p.Pattern) (a : MlType) : Type 0 where
      pub inside : Types
      pub has : HasPattern (basis_of D ps) Δ a (reading.pattern_of q) inside
      pub named : AreNamed inside
      pub holds : (xs : List ℕ) → Holds xs Δ → Holds (bound_in q ++ xs) inside

    pub arm_typed : (ps : List Point) {q : p.Pattern} → IsArm q → (Δ : Types) (a : MlType) → PatternIs D.constructors (types_of n) q a → AreNamed Δ → ArmTyped ps Δ q a
    arm_typed ps arm_any Δ a i h = record { inside = Δ; has = has_any; named = h; holds = λ xs w. w }
    arm_typed ps (arm_name {x = x}) Δ a i h =
        record { inside = (x, a) ∷ Δ; has = has_name; named = (sym i, h); holds = λ xs w. holds_one xs Δ x a w }
    arm_typed ps arm_unit Δ a i h = record { inside = Δ; has = subst (λ (b : MlType). HasPattern (basis_of D ps) Δ b pattern_unit Δ) (sym i) has_nothing; named = h; holds = λ xs w. w }
    arm_typed ps (arm_tuple {qs = qs} w) Δ a (ts, e, is) h =
        let ns : NamesTyped Δ (p.bound_in_all qs) ts = names_typed w ts Δ is h in
        record {
          inside = with_types (p.bound_in_all qs) ts Δ;
          has = subst (λ (b : MlType). HasPattern (basis_of D ps) Δ b (pattern_tuple (p.bound_in_all qs)) (with_types (p.bound_in_all qs) ts Δ)) (sym e) (has_components ns.many);
          named = ns.named;
          holds = ns.holds;
        }
    arm_typed ps (arm_build {c = c} {qs = qs} w) Δ a (ts, (k, us, g, e, f, m), is) h =
        let ns : NamesTyped Δ (p.bound_in_all qs) ts = names_typed w ts Δ is h in
        let fs : NamesTyped Δ (p.bound_in_all qs) (fields_at us k) = subst (NamesTyped Δ (p.bound_in_all qs)) f ns in
        record {
          inside = with_types (p.bound_in_all qs) (fields_at us k) Δ;
          has =
              subst (λ (b : MlType). HasPattern (basis_of D ps) Δ b (pattern_build c (p.bound_in_all qs)) (with_types (p.bound_in_all qs) (fields_at us k) Δ)) (sym e)
              (has_fields {k = k} g m (fs.many ∙ count_put (type_at us) k.fields));
          named = fs.named;
          holds = fs.holds;
        }
