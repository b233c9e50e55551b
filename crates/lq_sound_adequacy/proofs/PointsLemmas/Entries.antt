-- Entries of the matrices of templates have places of their own.
use Rattle.std.proofs.Common.{◌≡◌, ◌∙◌, ℕ, suc, ◌+◌, ◌≤◌, arith, Bool, true, false, ◌&&◌, ◌==◌, cond, List, [], ◌∷◌, ◌++◌, length, refl, sym, ap, ap₂, subst}
use Rattle.std.proofs.lemmas.Bool.{eqb-true, eq-eqb}
use Rattle.lq_refined_instances.specs.Scopes.{Scope}
use Rattle.lq_refined_types.specs.Types.Refined.{Cell, Matrix}
use Rattle.lq_refined_types.specs.Types.Unfolding.{cell, is_again}
use Rattle.lq_text_qualifiers.specs.Faults.Shapes.{Shape, int, bool, array, data_of, other, shape_of}
use Rattle.lq_refined_types.specs.Subtyping.Subtype.{fields_of}
use Rattle.lq_refined_rules.specs.Checks.Binders.{AllDiffer, IsNotIn}
use Rattle.lq_refined_templates.specs.Templates.Cells.{Cells, cell_of_shape, constructor_cells, field_cells, field_scope, no_cells, parameter_cells}
use Rattle.lq_text_tree.specs.MlType as ml
use Rattle.lq_text_tree.specs.MlType.{MlTypes}
use Rattle.lq_text_tree.specs.Types.{Signature, count_types}
use Rattle.lq_sound_adequacy.specs.Reflexivity.Laws.{AreFound}

abbrev is_at : Cell → Cell → Bool
is_at e f = e.constructor == f.constructor && (e.field == f.field && e.parameter == f.parameter)

abbrev NoneAt : Cell → Matrix → Type 0
NoneAt e [] = Unit {0}
NoneAt e (f ∷ m) = (is_at e f ≡ false) × NoneAt e m

abbrev pub Differ : Matrix → Type 0
Differ [] = Unit {0}
Differ (e ∷ m) = NoneAt e m × Differ m

found_behind : (e : Cell) (m n : Matrix) → NoneAt e n → AreFound m n → AreFound (e ∷ m) n
found_behind e m [] h w = tt
found_behind e m (f ∷ n) h w =
    (ap (λ (b : Bool). cond b e.parts (cell m f.constructor f.field f.parameter)) h.0 ∙ w.0, found_behind e m n h.1 w.1)

pub found : (m : Matrix) → Differ m → AreFound m m
found [] h = tt
found (e ∷ m) h = (ap (λ (b : Bool). cond b e.parts (cell m e.constructor e.field e.parameter)) own, found_behind e m m h.0 (found m h.1))
  where
    own : is_at e e ≡ true
    own =
        ap₂ (λ (a b : Bool). a && b) (eq-eqb e.constructor e.constructor refl)
        (ap₂ (λ (a b : Bool). a && b) (eq-eqb e.field e.field refl) (eq-eqb e.parameter e.parameter refl))

-- ---- one matrix behind another

none_joined : (e : Cell) (a b : Matrix) → NoneAt e a → NoneAt e b → NoneAt e (a ++ b)
none_joined e [] b h w = w
none_joined e (f ∷ a) b h w = (h.0, none_joined e a b h.1 w)

abbrev Each : (Cell → Type 0) → Matrix → Type 0
Each P [] = Unit {0}
Each P (e ∷ m) = P e × Each P m

each_joined : (P : Cell → Type 0) (a b : Matrix) → Each P a → Each P b → Each P (a ++ b)
each_joined P [] b h w = w
each_joined P (e ∷ a) b h w = (h.0, each_joined P a b h.1 w)

each_by : (P Q : Cell → Type 0) → ((e : Cell) → P e → Q e) → (m : Matrix) → Each P m → Each Q m
each_by P Q f [] h = tt
each_by P Q f (e ∷ m) h = (f e h.0, each_by P Q f m h.1)

none_by : (P : Cell → Type 0) (e : Cell) → ((f : Cell) → P f → is_at e f ≡ false) → (m : Matrix) → Each P m → NoneAt e m
none_by P e g [] h = tt
none_by P e g (f ∷ m) h = (g f h.0, none_by P e g m h.1)

differ_joined : (P Q : Cell → Type 0) → ((e f : Cell) → P e → Q f → is_at e f ≡ false) → (a b : Matrix) → Each P a → Each Q b → Differ a → Differ b → Differ (a ++ b)
differ_joined P Q g [] b h w x y = y
differ_joined P Q g (e ∷ a) b h w x y = (none_joined e a b x.0 (none_by Q e (λ f k. g e f h.0 k) b w), differ_joined P Q g a b h.1 w x.1 y)

-- ---- tests

false_by : (b : Bool) → (b ≡ true → ⊥) → b ≡ false
false_by true h = absurd (h refl)
false_by false h = refl

not_both : (a b : Bool) → a ≡ false → (a && b) ≡ false
not_both a b h = ap (λ (c : Bool). c && b) h

and_false : (a b : Bool) → b ≡ false → (a && b) ≡ false
and_false true b h = h
and_false false b h = refl

below_not : (x y : ℕ) → suc x ≤ y → (x == y) ≡ false
below_not x y h = false_by (x == y) (λ e. no (eqb-true x y e))
  where
    no : x ≡ y → ⊥
    no e = omega arith

-- ---- places

abbrev AtPlace : ℕ → ℕ → ℕ → Cell → Type 0
AtPlace c j i e = (e.constructor ≡ c) × (e.field ≡ j) × (e.parameter ≡ i)

abbrev FromParameter : ℕ → ℕ → ℕ → Cell → Type 0
FromParameter c j i e = (e.constructor ≡ c) × (e.field ≡ j) × (i ≤ e.parameter)

abbrev FromField : ℕ → ℕ → Cell → Type 0
FromField c j e = (e.constructor ≡ c) × (j ≤ e.field)

abbrev OfConstructors : List ℕ → Cell → Type 0
OfConstructors cs e = (x : ℕ) → IsNotIn cs x → (x == e.constructor) ≡ false

one_place : (n : ℕ) (Γ : Scope) (c j i : ℕ) (s : Shape) → Each (AtPlace c j i) (cell_of_shape n Γ c j i s).matrix × Differ (cell_of_shape n Γ c j i s).matrix
one_place n Γ c j i int = (((refl, refl, refl), tt), (tt, tt))
one_place n Γ c j i bool = (((refl, refl, refl), tt), (tt, tt))
one_place n Γ c j i array = (((refl, refl, refl), tt), (tt, tt))
one_place n Γ c j i (data_of d) = (((refl, refl, refl), tt), (tt, tt))
one_place n Γ c j i other = (tt, tt)

parameters_apart : (c j i : ℕ) (e f : Cell) → AtPlace c j i e → FromParameter c j (suc i) f → is_at e f ≡ false
parameters_apart c j i e f p q =
    let k : suc e.parameter ≤ f.parameter = subst (λ (z : ℕ). suc z ≤ f.parameter) (sym p.2) q.2 in
    and_false (e.constructor == f.constructor) (e.field == f.field && e.parameter == f.parameter)
    (and_false (e.field == f.field) (e.parameter == f.parameter) (below_not e.parameter f.parameter k))

parameter_places : (n : ℕ) (Γ : Scope) (c j i : ℕ) (us : MlTypes)
    → Each (FromParameter c j i) (parameter_cells n Γ c j i us).matrix × Differ (parameter_cells n Γ c j i us).matrix
parameter_places n Γ c j i ml.no_types = (tt, tt)
parameter_places n Γ c j i (ml.more_types u us) =
    let a : Cells = cell_of_shape n Γ c j i (shape_of u) in
    let b : Cells = parameter_cells (n + length a.unknowns) Γ c j (suc i) us in
    let x : Each (AtPlace c j i) a.matrix × Differ a.matrix = one_place n Γ c j i (shape_of u) in
    let y : Each (FromParameter c j (suc i)) b.matrix × Differ b.matrix = parameter_places (n + length a.unknowns) Γ c j (suc i) us in (
      each_joined (FromParameter c j i) a.matrix b.matrix
          (each_by (AtPlace c j i) (FromParameter c j i) (λ e p. (p.0, p.1, same i e.parameter p.2)) a.matrix x.0)
          (each_by (FromParameter c j (suc i)) (FromParameter c j i) (λ e p. (p.0, p.1, less i e.parameter p.2)) b.matrix y.0),
      differ_joined (AtPlace c j i) (FromParameter c j (suc i)) (parameters_apart c j i) a.matrix b.matrix x.0 y.0 x.1 y.1,
    )
  where
    same : (i p : ℕ) → p ≡ i → i ≤ p
    same i p e = omega arith

    less : (i p : ℕ) → suc i ≤ p → i ≤ p
    less i p e = omega arith

fields_apart : (c j : ℕ) (e f : Cell) → FromParameter c j 0 e → FromField c (suc j) f → is_at e f ≡ false
fields_apart c j e f p q =
    let k : suc e.field ≤ f.field = subst (λ (z : ℕ). suc z ≤ f.field) (sym p.1) q.1 in
    and_false (e.constructor == f.constructor) (e.field == f.field && e.parameter == f.parameter)
    (not_both (e.field == f.field) (e.parameter == f.parameter) (below_not e.field f.field k))

field_places : (n : ℕ) (Γ : Scope) (d c : ℕ) (us : MlTypes) (j : ℕ) (fs : MlTypes)
    → Each (FromField c j) (field_cells n Γ d c us j fs).matrix × Differ (field_cells n Γ d c us j fs).matrix
field_places n Γ d c us j ml.no_types = (tt, tt)
field_places n Γ d c us j (ml.more_types f fs) =
    let a : Cells = cond (is_again d (count_types us) f) (parameter_cells n Γ c j 0 us) no_cells in
    let b : Cells = field_cells (n + length a.unknowns) Γ d c us (suc j) fs in
    let x : Each (FromParameter c j 0) a.matrix × Differ a.matrix = by (is_again d (count_types us) f) in
    let y : Each (FromField c (suc j)) b.matrix × Differ b.matrix = field_places (n + length a.unknowns) Γ d c us (suc j) fs in (
      each_joined (FromField c j) a.matrix b.matrix
          (each_by (FromParameter c j 0) (FromField c j) (λ e p. (p.0, same j e.field p.1)) a.matrix x.0)
          (each_by (FromField c (suc j)) (FromField c j) (λ e p. (p.0, less j e.field p.1)) b.matrix y.0),
      differ_joined (FromParameter c j 0) (FromField c (suc j)) (fields_apart c j) a.matrix b.matrix x.0 y.0 x.1 y.1,
    )
  where
    by : (b : Bool) → Each (FromParameter c j 0) (cond b (parameter_cells n Γ c j 0 us) no_cells).matrix × Differ (cond b (parameter_cells n Γ c j 0 us) no_cells).matrix
    by true = parameter_places n Γ c j 0 us
    by false = (tt, tt)

    same : (i p : ℕ) → p ≡ i → i ≤ p
    same i p e = omega arith

    less : (i p : ℕ) → suc i ≤ p → i ≤ p
    less i p e = omega arith

constructors_apart : (c : ℕ) (cs : List ℕ) → IsNotIn cs c → (e f : Cell) → FromField c 0 e → OfConstructors cs f → is_at e f ≡ false
constructors_apart c cs h e f p q =
    not_both (e.constructor == f.constructor) (e.field == f.field && e.parameter == f.parameter)
    (ap (λ (z : ℕ). z == f.constructor) p.0 ∙ q c h)

pub constructor_places : (g : Signature) (n d : ℕ) (us : MlTypes) (cs : List ℕ) → AllDiffer cs
    → Each (OfConstructors cs) (constructor_cells g n d us cs).matrix × Differ (constructor_cells g n d us cs).matrix
constructor_places g n d us [] h = (tt, tt)
constructor_places g n d us (c ∷ cs) h =
    let fs : MlTypes = fields_of (g c) in
    let a : Cells = field_cells n (field_scope d us 0 fs []) d c us 0 fs in
    let b : Cells = constructor_cells g (n + length a.unknowns) d us cs in
    let x : Each (FromField c 0) a.matrix × Differ a.matrix = field_places n (field_scope d us 0 fs []) d c us 0 fs in
    let y : Each (OfConstructors cs) b.matrix × Differ b.matrix = constructor_places g (n + length a.unknowns) d us cs h.1 in (
      each_joined (OfConstructors (c ∷ cs)) a.matrix b.matrix
          (each_by (FromField c 0) (OfConstructors (c ∷ cs)) (λ e p z k. apart e p.0 z k.0) a.matrix x.0)
          (each_by (OfConstructors cs) (OfConstructors (c ∷ cs)) (λ e p z k. p z k.1) b.matrix y.0),
      differ_joined (FromField c 0) (OfConstructors cs) (constructors_apart c cs h.0) a.matrix b.matrix x.0 y.0 x.1 y.1,
    )
  where
    apart : (e : Cell) → e.constructor ≡ c → (z : ℕ) → (c == z) ≡ false → (z == e.constructor) ≡ false
    apart e p z k = false_by (z == e.constructor) (λ t. no (sym k ∙ eq-eqb c z (sym (eqb-true z e.constructor t ∙ p))))
      where
        no : false ≡ true → ⊥
        no w = cc
