-- In the matrices of templates arguments that are type variables have no entries.
use Rattle.std.proofs.Common.{◌≡◌, ◌∙◌, ℕ, zero, suc, ◌+◌, Bool, true, false, ◌&&◌, ◌==◌, cond, List, [], ◌∷◌, ◌++◌, length, Option, refl, sym, ap}
use Rattle.std.proofs.lemmas.Bool.{eqb-true}
use Rattle.lq_refined_instances.specs.Scopes.{Scope}
use Rattle.lq_refined_types.specs.Parts.Part.{Parts}
use Rattle.lq_refined_types.specs.Types.Refined.{Matrix, Refined, int_with, bool_with, unit_type, function, tuple_of, array_with, data_with, map_with, type_variable, Refineds, none, more, type_at, with_top, erased, all_erased}
use Rattle.lq_refined_types.specs.Types.Unfolding.{cell, is_again}
use Rattle.lq_text_qualifiers.specs.Faults.Shapes.{Shape, int, bool, array, data_of, other, shape_of}
use Rattle.lq_refined_types.specs.Subtyping.Splitting.{first_of}
use Rattle.lq_refined_types.specs.Subtyping.Subtype.{fields_of}
use Rattle.lq_refined_rules.specs.Checks.Operation.{empty_type}
use Rattle.lq_refined_templates.specs.Templates.Cells.{Cells, cell_of_shape, constructor_cells, field_cells, field_scope, no_cells, one_unknown, parameter_cells}
use Rattle.lq_refined_templates.specs.Templates.Fresh.{Made, AllMade, arguments, inside, topped}
use Rattle.lq_refined_templates.specs.Templates.Laws.{TemplatesErase}
use Rattle.lq_refined_templates.specs.Templates.Scopes.{Unknown}
use Rattle.lq_text_tree.specs.MlType as ml
use Rattle.lq_text_tree.specs.MlType.{MlType, MlTypes}
use Rattle.lq_text_tree.specs.Types as types
use Rattle.lq_text_tree.specs.Types.{Signature, count_types}
use Rattle.lq_refined_templates.specs.Points.Point.{Point, whole, inner, constant, empty, each, idle}
use Rattle.lq_refined_templates.specs.Points.Templates.{Datatypes, plain, all_emptied, made_constant, made_at, templates_from, templates_at}
use Rattle.lq_sound_scope.proofs.ScopesLemmas.Made.{arguments_erased}
use Rattle.lq_sound_scope.proofs.ScopesLemmas.Points.{all_emptied_erased}
use Rattle.lq_sound_scope.specs.Matrices.Laws.{HasNoVariableEntries, VariablesHaveNoEntries}

-- predicates speak of the shape
abbrev pub is_spoken : Shape → Bool
is_spoken int = true
is_spoken bool = true
is_spoken array = true
is_spoken (data_of d) = true
is_spoken other = false

and_first : (a b : Bool) → (a && b) ≡ true → a ≡ true
and_first true b h = refl
and_first false b h = h

and_second : (a b : Bool) → (a && b) ≡ true → b ≡ true
and_second true b h = h
and_second false b h = absurd (no h)
  where
    no : false ≡ true → ⊥
    no z = cc

-- of the parameters from the i-th on, whether predicates speak of each
module _ (V : ℕ → Bool) where
  abbrev pub AreSpoken : ℕ → MlTypes → Type 0
  AreSpoken i ml.no_types = Unit {0}
  AreSpoken i (ml.more_types u us) = (V i ≡ is_spoken (shape_of u)) × AreSpoken (suc i) us

  abbrev pub Spoken : Matrix → Type 0
  Spoken [] = Unit {0}
  Spoken (e ∷ m) = (V e.parameter ≡ true) × Spoken m

  joined : (a b : Matrix) → Spoken a → Spoken b → Spoken (a ++ b)
  joined [] b h w = w
  joined (e ∷ a) b h w = (h.0, joined a b h.1 w)

  one : (n : ℕ) (Γ : Scope) (c j i : ℕ) (s : Shape) → V i ≡ is_spoken s → Spoken (cell_of_shape n Γ c j i s).matrix
  one n Γ c j i int h = (h, tt)
  one n Γ c j i bool h = (h, tt)
  one n Γ c j i array h = (h, tt)
  one n Γ c j i (data_of d) h = (h, tt)
  one n Γ c j i other h = tt

  parameters_spoken : (n : ℕ) (Γ : Scope) (c j i : ℕ) (us : MlTypes) → AreSpoken i us → Spoken (parameter_cells n Γ c j i us).matrix
  parameters_spoken n Γ c j i ml.no_types h = tt
  parameters_spoken n Γ c j i (ml.more_types u us) h =
      let a : Cells = cell_of_shape n Γ c j i (shape_of u) in
      joined a.matrix (parameter_cells (n + length a.unknowns) Γ c j (suc i) us).matrix (one n Γ c j i (shape_of u) h.0)
      (parameters_spoken (n + length a.unknowns) Γ c j (suc i) us h.1)

  fields_spoken : (n : ℕ) (Γ : Scope) (d c : ℕ) (us : MlTypes) (j : ℕ) (fs : MlTypes) → AreSpoken 0 us → Spoken (field_cells n Γ d c us j fs).matrix
  fields_spoken n Γ d c us j ml.no_types h = tt
  fields_spoken n Γ d c us j (ml.more_types f fs) h =
      let a : Cells = cond (is_again d (count_types us) f) (parameter_cells n Γ c j 0 us) no_cells in
      joined a.matrix (field_cells (n + length a.unknowns) Γ d c us (suc j) fs).matrix (by (is_again d (count_types us) f))
      (fields_spoken (n + length a.unknowns) Γ d c us (suc j) fs h)
    where
      by : (b : Bool) → Spoken (cond b (parameter_cells n Γ c j 0 us) no_cells).matrix
      by true = parameters_spoken n Γ c j 0 us h
      by false = tt

  pub constructors_spoken : (g : Signature) (n d : ℕ) (us : MlTypes) (cs : List ℕ) → AreSpoken 0 us → Spoken (constructor_cells g n d us cs).matrix
  constructors_spoken g n d us [] h = tt
  constructors_spoken g n d us (c ∷ cs) h =
      let fs : MlTypes = fields_of (g c) in
      let a : Cells = field_cells n (field_scope d us 0 fs []) d c us 0 fs in
      joined a.matrix (constructor_cells g (n + length a.unknowns) d us cs).matrix (fields_spoken n (field_scope d us 0 fs []) d c us 0 fs h)
      (constructors_spoken g (n + length a.unknowns) d us cs h)

  pub no_entry : (m : Matrix) (c j i : ℕ) → Spoken m → V i ≡ false → cell m c j i ≡ []
  no_entry [] c j i h w = refl
  no_entry (e ∷ m) c j i h w = by (e.constructor == c && (e.field == j && e.parameter == i)) refl (no_entry m c j i h.1 w)
    where
      by : (b : Bool) → (e.constructor == c && (e.field == j && e.parameter == i)) ≡ b → cell m c j i ≡ [] → cond b e.parts (cell m c j i) ≡ []
      by false f k = k
      by true f k =
          absurd (no (sym w ∙ sym (ap V (eqb-true e.parameter i
          (and_second (e.field == j) (e.parameter == i) (and_second (e.constructor == c) (e.field == j && e.parameter == i) f)))) ∙ h.0))
        where
          no : false ≡ true → ⊥
          no z = cc

spoken_later : (V : ℕ → Bool) (i : ℕ) (us : MlTypes) → AreSpoken (λ k. V (suc k)) i us → AreSpoken V (suc i) us
spoken_later V i ml.no_types h = tt
spoken_later V i (ml.more_types u us) h = (h.0, spoken_later V (suc i) us h.1)

pub own_spoken : (us : MlTypes) → AreSpoken (λ i. is_spoken (shape_of (types.type_at us i))) 0 us
own_spoken ml.no_types = tt
own_spoken (ml.more_types u us) = (refl, spoken_later (λ i. is_spoken (shape_of (types.type_at (ml.more_types u us) i))) 0 us (own_spoken us))

erased_there : (ts : Refineds) (i : ℕ) → erased (type_at ts i) ≡ types.type_at (all_erased ts) i
erased_there none i = refl
erased_there (more t ts) zero = refl
erased_there (more t ts) (suc i) = erased_there ts i

-- the matrix of a datatype whose arguments have these types
data_entries : (g : Signature) (n d : ℕ) (us : MlTypes) (cs : List ℕ) (ts : Refineds) → all_erased ts ≡ us → (c j i a : ℕ) → type_at ts i ≡ type_variable a
    → cell (constructor_cells g n d us cs).matrix c j i ≡ []
data_entries g n d us cs ts e c j i a h =
    no_entry (λ k. is_spoken (shape_of (types.type_at us k))) (constructor_cells g n d us cs).matrix c j i
    (constructors_spoken (λ k. is_spoken (shape_of (types.type_at us k))) g n d us cs (own_spoken us))
    (ap (λ (vs : MlTypes). is_spoken (shape_of (types.type_at vs i))) (sym e) ∙ ap (λ (t : MlType). is_spoken (shape_of t)) (sym (erased_there ts i))
    ∙ ap (λ (t : Refined). is_spoken (shape_of (erased t))) h)

with_top_entries : (q : Parts) (t : Refined) → HasNoVariableEntries t → HasNoVariableEntries (with_top q t)
with_top_entries q (int_with p) h = h
with_top_entries q (bool_with p) h = h
with_top_entries q unit_type h = h
with_top_entries q (function x a b) h = h
with_top_entries q (tuple_of ts) h = h
with_top_entries q (array_with e p) h = h
with_top_entries q (data_with d ts m p) h = h
with_top_entries q (map_with e p) h = h
with_top_entries q (type_variable i) h = h

topped_entries : (n : ℕ) (Γ : Scope) (s : Shape) (m : Made) → HasNoVariableEntries m.type → HasNoVariableEntries (topped n Γ s m).type
topped_entries n Γ int m h = with_top_entries (one_unknown (n + length m.unknowns)) m.type h
topped_entries n Γ bool m h = with_top_entries (one_unknown (n + length m.unknowns)) m.type h
topped_entries n Γ array m h = with_top_entries (one_unknown (n + length m.unknowns)) m.type h
topped_entries n Γ (data_of d) m h = with_top_entries (one_unknown (n + length m.unknowns)) m.type h
topped_entries n Γ other m h = h

empty_entries : (t : Refined) → HasNoVariableEntries t → HasNoVariableEntries (empty_type t)
empty_entries (int_with p) h = h
empty_entries (bool_with p) h = h
empty_entries unit_type h = h
empty_entries (function x a b) h = h
empty_entries (tuple_of ts) h = h
empty_entries (array_with e p) h = h
empty_entries (data_with d ts m p) h = h
empty_entries (map_with e p) h = h
empty_entries (type_variable i) h = h

plain_entries : (t : MlType) → HasNoVariableEntries (plain t)
plain_entries ml.int = tt
plain_entries ml.bool = tt
plain_entries ml.unit = tt
plain_entries (ml.var i) = tt
plain_entries (ml.arrow a b) = tt
plain_entries (ml.tuple ts) = tt
plain_entries (ml.array a) = tt
plain_entries (ml.named d ts) = λ c j i a h. refl
plain_entries (ml.map_of a) = tt

module _ (erases : TemplatesErase) (D : Datatypes) (all : ℕ → Unknown) where
  inside_entries : (n : ℕ) (Γ : Scope) (xs : List (Option ℕ)) (t : MlType) → HasNoVariableEntries (inside D.constructors D.ordered n Γ xs t).type
  inside_entries n Γ xs ml.int = tt
  inside_entries n Γ xs ml.bool = tt
  inside_entries n Γ xs ml.unit = tt
  inside_entries n Γ xs (ml.var i) = tt
  inside_entries n Γ xs (ml.arrow a b) = tt
  inside_entries n Γ xs (ml.tuple ts) = tt
  inside_entries n Γ xs (ml.array a) = tt
  inside_entries n Γ xs (ml.named d ts) =
      let m : AllMade = arguments D.constructors D.ordered n Γ ts in
      λ c j i a h. data_entries D.constructors (n + length m.unknowns) d ts (D.ordered d) m.types (arguments_erased D.constructors all erases D.ordered n Γ ts) c j i a h
  inside_entries n Γ xs (ml.map_of a) = tt

  constant_entries : (n : ℕ) (Γ : Scope) (t : MlType) → HasNoVariableEntries (made_constant D n Γ t).type
  constant_entries n Γ ml.int = tt
  constant_entries n Γ ml.bool = tt
  constant_entries n Γ ml.unit = tt
  constant_entries n Γ (ml.var i) = tt
  constant_entries n Γ (ml.arrow a b) = tt
  constant_entries n Γ (ml.tuple ts) = tt
  constant_entries n Γ (ml.array a) = tt
  constant_entries n Γ (ml.named d ts) =
      let m : AllMade = all_emptied D n Γ ts in
      λ c j i a h. data_entries D.constructors (n + length m.unknowns) d ts (D.ordered d) m.types (all_emptied_erased erases D all n Γ ts) c j i a h
  constant_entries n Γ (ml.map_of a) = tt

  fresh_entries : (n : ℕ) (Γ : Scope) (xs : List (Option ℕ)) (t : MlType) → HasNoVariableEntries (topped n Γ (shape_of t) (inside D.constructors D.ordered n Γ xs t)).type
  fresh_entries n Γ xs t = topped_entries n Γ (shape_of t) (inside D.constructors D.ordered n Γ xs t) (inside_entries n Γ xs t)

  first_entries : (n : ℕ) (q : Point) → HasNoVariableEntries (first_of (made_at D n q).types)
  first_entries n (whole Γ xs t) = fresh_entries n Γ xs t
  first_entries n (inner Γ t) = inside_entries n Γ [] t
  first_entries n (constant Γ t) = constant_entries n Γ t
  first_entries n (empty Γ t) = empty_entries (inside D.constructors D.ordered n Γ [] t).type (inside_entries n Γ [] t)
  first_entries n (each Γ ml.no_types) = tt
  first_entries n (each Γ (ml.more_types t ts)) = fresh_entries n Γ [] t
  first_entries n (idle ml.no_types) = tt
  first_entries n (idle (ml.more_types t ts)) = plain_entries t

  all_entries : (n : ℕ) (ps : List Point) (p : ℕ) → HasNoVariableEntries (first_of (templates_at (templates_from D n ps) p))
  all_entries n [] p = tt
  all_entries n (q ∷ ps) zero = first_entries n q
  all_entries n (q ∷ ps) (suc p) = all_entries (n + length (made_at D n q).unknowns) ps p

pub no_variable_entries : TemplatesErase → VariablesHaveNoEntries
no_variable_entries erases D ps p = all_entries erases D (λ u. ([], other)) 0 ps p
