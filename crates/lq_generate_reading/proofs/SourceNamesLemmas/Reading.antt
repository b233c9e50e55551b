-- Operations, blocks and programs are read alike under both annotations.
use Rattle.std.proofs.Common.{◌≡◌, ◌∙◌, ℕ, zero, suc, ◌+◌, Bool, true, false, cond, List, [], ◌∷◌, ◌++◌, length, refl, ap, ap₂}
use Rattle.lq_refined_instances.specs.Scopes.{Scope}
use Rattle.lq_base_names.specs.declared.place.Place.{Place}
use Rattle.lq_text_walk.specs.Scoped.Numbers.{number_of}
use Rattle.lq_text_tree.specs.Items.{ItemTree, ItemForm, type_of, let_of, let_rec_of}
use Rattle.lq_text_tree.specs.MlType.{MlType}
use Rattle.lq_text_tree.specs.Pattern as p
use Rattle.lq_text_tree.specs.Pattern.{Pattern, pattern}
use Rattle.lq_text_tree.specs.Tree as form
use Rattle.lq_text_tree.specs.Tree.{Tree, tree, Form, Cases, no_cases, more_cases}
use Rattle.lq_text_walk.specs.Walk.Fold.{fold_cases}
use Rattle.lq_text_walk.specs.Walk.Visits.{place_of}
use Rattle.lq_meaning_normal_form.specs.Types.Written.{EachBody}
use Rattle.lq_refined_rules.specs.Checks.Tree as t
use Rattle.lq_refined_rules.specs.Checks.Tree.{Arms, Block, Operation, Program, has_template, last_operation, names_of}
use Rattle.lq_refined_templates.specs.Points.Annotation as annotation
use Rattle.lq_refined_templates.specs.Points.Annotation.{Annotation, element_type, type_of_form}
use Rattle.lq_refined_templates.specs.Points.Point.{Point, whole, empty}
use Rattle.lq_refined_templates.specs.Points.Pure.{Read, after, pure_of, variable_of}
use Rattle.lq_refined_templates.specs.Points.Reading.{Rest, all_idled, arms_of, block_form, block_of, built, defined, expecting, function_names, function_point, is_checked, item, let_item, only, operation_form, own_point, parameter_of, pattern_of, program_from, quotient_of}
use Rattle.lq_refined_templates.specs.Points.Seen.{Seen, all_seen, scope_at, seen, seen_until}
use Rattle.lq_generate_reading.specs.SourceNames.Laws.{AgreesOnTexts, MadeNamesAreNotRead}
use Rattle.lq_generate_reading.specs.SourceNames.Texts.{DefinesTexts, FunctionsHaveTexts, HasText, ItemHasTexts, NameHasText, having_texts}
use Rattle.lq_generate_reading.proofs.SourceNamesLemmas.Pures as pures
use Rattle.lq_generate_reading.proofs.SourceNamesLemmas.Pures.{one_same, then_same, three_same, two_same}

-- what has a point of its own before those of its parts
abbrev with_point : {A : Type 0} → Point → Read A → Read A
with_point q x = record { read = x.read; points = q ∷ x.points }

pointed_same : {A : Type 0} {q r : Point} {x y : Read A} → q ≡ r → x ≡ y → with_point q x ≡ with_point r y
pointed_same e h = ap₂ (λ (q : Point) (x : Read _). with_point q x) e h

module _ (n : Annotation) (names : ℕ → MlType) (agree : AgreesOnTexts n names) where
  abbrev m : Annotation
  m = pures.m n names agree

  scope_same : (Δ : List Seen) (i : ℕ) → scope_at m Δ i ≡ scope_at n Δ i
  scope_same = pures.scope_same n names agree

  variable_same : (Δ : List Seen) (k : ℕ) (e : Tree) → variable_of m Δ k e ≡ variable_of n Δ k e
  variable_same = pures.variable_same n names agree

  pure_same : (Δ : List Seen) (k : ℕ) (e : Tree) → pure_of m Δ k e ≡ pure_of n Δ k e
  pure_same = pures.pure_same n names agree

  -- a point of a scope
  point_same : (point : Scope → Point) (Δ : List Seen) (i : ℕ) → point (scope_at m Δ i) ≡ point (scope_at n Δ i)
  point_same point Δ i = ap point (scope_same Δ i)

  mutual
    type_same : (e : Tree) → annotation.type_of m e ≡ annotation.type_of n e
    type_same (tree i l f) = type_of_form_same i f

    type_of_form_same : (i : ℕ) (f : Form) → type_of_form m i f ≡ type_of_form n i f
    type_of_form_same zero (form.match_on e (more_cases q b cs)) = type_same b
    type_of_form_same i f = refl

  operation_same : (k : ℕ) (Δ : List Seen) (i : ℕ) (f : Form) → operation_form m k Δ i f ≡ operation_form n k Δ i f
  operation_same k Δ i (form.tuple es) = one_same t.tuple (pures.pures_same n names agree Δ k es)
  operation_same k Δ i (form.build c w es) =
      pointed_same (point_same (λ Γ. built Γ (n.types i) es) Δ i) (one_same (t.build k c) (pures.pures_same n names agree Δ (suc k) es))
  operation_same k Δ i (form.call f a) = two_same k t.call (pure_same Δ k f) (λ j. pure_same Δ j a)
  operation_same k Δ i (form.arithmetic o a b) = two_same k (quotient_of o) (pure_same Δ k a) (λ j. pure_same Δ j b)
  operation_same k Δ i (form.assert e) = one_same t.assert (pure_same Δ k e)
  operation_same k Δ i form.assert_false = pointed_same (point_same (λ Γ. whole Γ [] (n.types i)) Δ i) refl
  operation_same k Δ i (form.make a b) =
      pointed_same (point_same (λ Γ. whole Γ [] (element_type (n.types i))) Δ i)
      (two_same (suc k) (t.make k) (pure_same Δ (suc k) a) (λ j. pure_same Δ j b))
  operation_same k Δ i (form.fetch a b) = two_same k t.fetch (variable_same Δ k a) (λ j. pure_same Δ j b)
  operation_same k Δ i (form.store a b c) =
      three_same k t.store (variable_same Δ k a) (λ j. pure_same Δ j b) (λ j. pure_same Δ j c)
  operation_same k Δ i (form.print e) = one_same t.print (pure_same Δ k e)
  operation_same k Δ i (form.read e) = one_same t.read (pure_same Δ k e)
  operation_same k Δ i form.map_empty = pointed_same (point_same (λ Γ. empty Γ (element_type (n.types i))) Δ i) refl
  operation_same k Δ i (form.map_add a b c) =
      pointed_same (point_same (λ Γ. whole Γ [] (n.types i)) Δ i)
      (three_same (suc k) (t.map_add k) (pure_same Δ (suc k) a) (λ j. pure_same Δ j b)
      (λ j. pure_same Δ j c))
  operation_same k Δ i (form.map_find a b) = two_same k t.map_find (pure_same Δ k a) (λ j. pure_same Δ j b)
  operation_same k Δ i f = one_same t.pure (pures.pure_form_same n names agree Δ k i f)

  mutual
    block_same : (g : Bool) (k : ℕ) (Δ : List Seen) (e : Tree) → FunctionsHaveTexts n.text e → block_of m g k Δ e ≡ block_of n g k Δ e
    block_same g k Δ (tree i l f) h = block_form_same g k Δ i l f h

    block_form_same : (g : Bool) (k : ℕ) (Δ : List Seen) (i : ℕ) (l : Place) (f : Form) → FunctionsHaveTexts n.text (tree i l f)
        → block_form m g k Δ i l f ≡ block_form n g k Δ i l f
    block_form_same g k Δ i l (form.let_in q e b) h =
        two_same k (λ (o c : Block). t.binding (parameter_of q) (place_of e) (last_operation o) c) (block_same false k Δ e h.0)
        (λ j. block_same g j (seen_until i (parameter_of q) ∷ Δ) b h.1)
    block_form_same g k Δ i l (form.let_rec f j r q b e) h =
        let x = parameter_of q in
        let Θ : List Seen = seen_until i f ∷ Δ in
        pointed_same (ap₂ (λ (Γ : Scope) (a : MlType). whole Γ (function_names n q b) a) (scope_same Θ j) (agree f h.0.0 h.0.1))
        (two_same (suc k) (t.recursive f k x) (block_same true (suc k) (seen x ∷ Θ) b h.1) (λ j. block_same g j Θ e h.2))
    block_form_same g k Δ i l (form.fun q b) h =
        let x = parameter_of q in
        ap (only l)
        (pointed_same (point_same (λ Γ. expecting g (whole Γ (function_names n q b) (n.types i))) Δ i)
        (one_same (t.fun k x) (block_same true (suc k) (seen x ∷ Δ) b h)))
    block_form_same g k Δ i l (form.if_else c a b) h =
        ap (only l)
        (pointed_same (point_same (λ Γ. expecting g (whole Γ [] (n.types i))) Δ i)
        (three_same (suc k) (t.if_else k) (pure_same Δ (suc k) c) (λ j. block_same true j Δ a h.1) (λ j. block_same true j Δ b h.2)))
    block_form_same g k Δ i l (form.match_on e cs) h =
        ap (only l)
        (pointed_same (ap₂ (λ (Γ : Scope) (a : MlType). expecting g (whole Γ [] a)) (scope_same Δ i) (type_of_form_same i (form.match_on e cs)))
        (two_same (suc k) (t.match_on k) (variable_same Δ (suc k) e) (λ j. arms_same j Δ [] cs h.1)))
    block_form_same g k Δ i l f h = ap (only l) (operation_same k Δ i f)

    arms_same : (k : ℕ) (Δ : List Seen) (qs : List t.Pattern) (cs : Cases) → EachBody (fold_cases (having_texts n.text) cs)
        → arms_of m k Δ qs cs ≡ arms_of n k Δ qs cs
    arms_same k Δ qs no_cases h = refl
    arms_same k Δ qs (more_cases r b cs) h =
        let q = pattern_of r in
        then_same (after k)
        (λ (B : Read Block) (R : Read Arms). record { read = t.arm q B.read R.read; points = cond (is_checked qs q) B.points (all_idled B.points) ++ R.points })
        (block_same true k (all_seen (names_of q) Δ) b h.0) (λ j. arms_same j Δ (qs ++ q ∷ []) cs h.1)

  -- ---- programs

  -- a definition, from its own point, its block, which is read from the point k on, and what comes behind it
  abbrev behind_definition : ℕ → Point → Read Block → ℕ
  behind_definition k q B = after k B + length (own_point n (has_template B.read) q)

  abbrev with_definition : ℕ → Place → ℕ → Point → Read Block → Read Program → Read Program
  with_definition k l x q B R =
      record {
        read = t.define x l (cond (has_template B.read) (after k B) (function_point n (last_operation B.read))) B.read R.read;
        points = B.points ++ (own_point n (has_template B.read) q ++ R.points);
      }

  abbrev RestSame : Rest n → Rest n → Type 0
  RestSame r s = (k : ℕ) (Δ : List Seen) → r k Δ ≡ s k Δ

  defined_same : (k : ℕ) (Δ : List Seen) (l : Place) (x : ℕ) (e : Tree) (r s : Rest n) → HasText n.text x → FunctionsHaveTexts n.text e → RestSame r s
      → defined m k Δ l x e r ≡ defined n k Δ l x e s
  defined_same k Δ l x e r s h w rest =
      let B : Read Block = block_of m false k Δ e in
      let Θ : List Seen = seen x ∷ Δ in
      let point : Scope → MlType → Point = λ Γ a. whole Γ [] a in
      let q : Point = point (scope_at n Δ (number_of e)) (n.names x) in
      ap (λ (p : Point). with_definition k l x p B (r (behind_definition k p B) Θ)) (ap₂ point (scope_same Δ (number_of e)) (agree x h.0 h.1))
      ∙ then_same (behind_definition k q) (with_definition k l x q) (block_same false k Δ e w) (λ j. rest j Θ)

  let_same : (k : ℕ) (Δ : List Seen) (q : Pattern) (e : Tree) (r s : Rest n) → NameHasText n.text q → FunctionsHaveTexts n.text e → RestSame r s
      → let_item m k Δ q e r ≡ let_item n k Δ q e s
  let_same k Δ (pattern l (p.bind x)) e r s h w rest = defined_same k Δ l x e r s h w rest
  let_same k Δ (pattern l p.nothing) e r s h w rest = two_same k t.run_unit (block_same true k Δ e w) (λ j. rest j Δ)
  let_same k Δ (pattern l f) e r s h w rest = two_same k t.run_any (block_same false k Δ e w) (λ j. rest j Δ)

  item_same : (k : ℕ) (Δ : List Seen) (i : ItemForm) (r s : Rest n) → ItemHasTexts n.text i → RestSame r s → item m k Δ i r ≡ item n k Δ i s
  item_same k Δ (type_of d) r s h rest = rest k Δ
  item_same k Δ (let_of q e) r s h rest = let_same k Δ q e r s h.0 h.1 rest
  item_same k Δ (let_rec_of f c) r s h rest =
      let x = parameter_of c.parameter in
      let Θ : List Seen = seen f ∷ Δ in
      pointed_same (ap₂ (λ (Γ : Scope) (a : MlType). whole Γ (function_names n c.parameter c.body) a) (scope_same Θ c.id) (agree f h.0.0 h.0.1))
      (two_same (suc k) (t.define_recursive f k x) (block_same true (suc k) (seen x ∷ Θ) c.body h.1) (λ j. rest j Θ))

  program_same : (k : ℕ) (Δ : List Seen) (is : List ItemTree) → DefinesTexts n.text is → program_from m k Δ is ≡ program_from n k Δ is
  program_same k Δ [] h = refl
  program_same k Δ (i ∷ is) h = item_same k Δ i.form (λ j Θ. program_from m j Θ is) (λ j Θ. program_from n j Θ is) h.0 (λ j Θ. program_same j Θ is h.1)

pub programs_same : MadeNamesAreNotRead
programs_same n names is agree h = program_same n names agree 0 [] is h
