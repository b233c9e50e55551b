-- What is done to types, one level down.
use Rattle.std.proofs.Common.{◌≡◌, ℕ, zero, suc, ◌<◌, All, List, [], ◌∷◌, ◌++◌, map, slice_get, Option, Some, None, refl, sym, ap, subst, ◌∙◌}
use Rattle.std.specs.declared.alloc.Global.{Global}
use Rattle.std.specs.declared.vec.Vec.{Vec}
use Rattle.lq_refined_types.specs.Parts.Part.{Parts, Scopes}
use Rattle.lq_refined_types.specs.Parts.Substitution.{Subst}
use Rattle.lq_refined_types.specs.Types.Operations.{type_by, twin, instantiated}
use Rattle.lq_refined_types.specs.Types.Refined.{Matrix, Refined, int_with, bool_with, unit_type, function, tuple_of, array_with, data_with, map_with, type_variable, Refineds, more, kind, strengthened, type_at, with_top}
use Rattle.lq_refined_types.specs.Renumbering.Renumbered.{renumbered}
use Rattle.lq_refined_substitution.specs.Substitution.Views.{subst_view}
use Rattle.lq_refined_subtyping.specs.declared.table.changes.Change.{Change}
use Rattle.lq_refined_subtyping.specs.declared.table.changes.Change.TheVariants.{Put, Twin, Twinned, Instantiated, Renumbered}
use Rattle.lq_refined_subtyping.specs.Table.Changes.{changed, all_changed, matrix_changed, parts_changed, change_rows, variable_of, number_in, replaced}
use Rattle.lq_refined_subtyping.specs.declared.table.forms.Form.{Form}
use Rattle.lq_refined_subtyping.specs.declared.table.forms.Form.TheVariants as form
use Rattle.lq_refined_subtyping.specs.Table.Forms.{at, each, form_type, row_of}
use Rattle.lq_refined_subtyping.proofs.TableLemmas.Entries.{number-in}
use Rattle.std.proofs.lemmas.List.Elements.{All-tail}

-- ---- kinds and variables

pub is-variable : (t : Refined) (i : ℕ) → variable_of t ≡ Some i → t ≡ type_variable i
is-variable (int_with p) j h = cc
is-variable (bool_with p) j h = cc
is-variable unit_type j h = cc
is-variable (function x a b) j h = cc
is-variable (tuple_of ts) j h = cc
is-variable (array_with e p) j h = cc
is-variable (data_with d ts m p) j h = cc
is-variable (map_with e p) j h = cc
is-variable (type_variable i) j h = cc

-- a type that is a variable becomes what is put for it
pub at-variable : (by : Refineds) (t : Refined) (i : ℕ) → variable_of t ≡ Some i → instantiated by t ≡ type_at by i
at-variable by t i h = ap (instantiated by) (is-variable t i h)

pub type_at-some : (all : List Refined) (is : List ℕ) (i r : ℕ) → slice_get is i ≡ Some r → type_at (each all is) i ≡ at all r
type_at-some all [] i r h = cc
type_at-some all (x ∷ is) zero r h = let same : x ≡ r = cc in ap (at all) same
type_at-some all (x ∷ is) (suc i) r h = type_at-some all is i r h

pub type_at-none : (all : List Refined) (is : List ℕ) (i : ℕ) → slice_get is i ≡ None → type_at (each all is) i ≡ unit_type
type_at-none all [] i h = refl
type_at-none all (x ∷ is) zero h = cc
type_at-none all (x ∷ is) (suc i) h = type_at-none all is i h

-- ---- one level

module _ (scopes : Scopes) (all : List Refined) where
  pub replaced-some : (c : Change) (t : Refined) (r : ℕ) → replaced c t ≡ Some r → changed scopes all c t ≡ at all r
  replaced-some (Put θ) t r h = cc
  replaced-some Twin t r h = cc
  replaced-some (Twinned θ) t r h = cc
  replaced-some (Renumbered n) t r h = cc
  replaced-some (Instantiated by) t r h = chosen (variable_of t) refl h
    where
      chosen : (v : Option ℕ) → variable_of t ≡ v → number_in by.items v ≡ Some r → instantiated (each all by.items) t ≡ at all r
      chosen None e k = cc
      chosen (Some i) e k = at-variable (each all by.items) t i e ∙ type_at-some all by.items i r k

  all_changed-row : (c : Change) (ts : List Refined) → all_changed scopes all c (row_of ts) ≡ row_of (map (changed scopes all c) ts)
  all_changed-row (Put θ) [] = refl
  all_changed-row Twin [] = refl
  all_changed-row (Twinned θ) [] = refl
  all_changed-row (Instantiated by) [] = refl
  all_changed-row (Renumbered n) [] = refl
  all_changed-row (Put θ) (t ∷ ts) = ap (more (type_by scopes (subst_view θ) t)) (all_changed-row (Put θ) ts)
  all_changed-row Twin (t ∷ ts) = ap (more (twin scopes t)) (all_changed-row Twin ts)
  all_changed-row (Twinned θ) (t ∷ ts) = ap (more (type_by scopes (subst_view θ) (twin scopes t))) (all_changed-row (Twinned θ) ts)
  all_changed-row (Instantiated by) (t ∷ ts) = ap (more (instantiated (each all by.items) t)) (all_changed-row (Instantiated by) ts)
  all_changed-row (Renumbered n) (t ∷ ts) = ap (more (renumbered n t)) (all_changed-row (Renumbered n) ts)

  changed-tuple : (c : Change) (ts : Refineds) → tuple_of (all_changed scopes all c ts) ≡ changed scopes all c (tuple_of ts)
  changed-tuple (Put θ) ts = refl
  changed-tuple Twin ts = refl
  changed-tuple (Twinned θ) ts = refl
  changed-tuple (Instantiated by) ts = refl
  changed-tuple (Renumbered n) ts = refl

  changed-data : (c : Change) (d : ℕ) (ts : Refineds) (m : Matrix) (p : Parts)
      → data_with d (all_changed scopes all c ts) (matrix_changed c m) (parts_changed scopes c p) ≡ changed scopes all c (data_with d ts m p)
  changed-data (Put θ) d ts m p = refl
  changed-data Twin d ts m p = refl
  changed-data (Twinned θ) d ts m p = refl
  changed-data (Instantiated by) d ts m p = refl
  changed-data (Renumbered n) d ts m p = refl

  -- rows of types, each changed
  changed-each : (c : Change) (new : List Refined) (made is : List ℕ) → map (at new) made ≡ map (λ p. changed scopes all c (at all p)) is
      → each new made ≡ all_changed scopes all c (each all is)
  changed-each c new made is h = ap row_of (h ∙ sym (twice is)) ∙ sym (all_changed-row c (map (at all) is))
    where
      twice : (xs : List ℕ) → map (changed scopes all c) (map (at all) xs) ≡ map (λ p. changed scopes all c (at all p)) xs
      twice [] = refl
      twice (x ∷ xs) = ap (λ ys. changed scopes all c (at all x) ∷ ys) (twice xs)

  pub changed-tuples : (c : Change) (new : List Refined) (made is : List ℕ) → map (at new) made ≡ map (λ p. changed scopes all c (at all p)) is
      → tuple_of (each new made) ≡ changed scopes all c (tuple_of (each all is))
  changed-tuples c new made is h = ap tuple_of (changed-each c new made is h) ∙ changed-tuple c (each all is)

  pub changed-datas : (c : Change) (new : List Refined) (made is : List ℕ) (d : ℕ) (m : Matrix) (p : Parts)
      → map (at new) made ≡ map (λ p. changed scopes all c (at all p)) is
      → data_with d (each new made) (matrix_changed c m) (parts_changed scopes c p) ≡ changed scopes all c (data_with d (each all is) m p)
  changed-datas c new made is d m p h =
      ap (λ us. data_with d us (matrix_changed c m) (parts_changed scopes c p)) (changed-each c new made is h) ∙ changed-data c d (each all is) m p

  -- a variable for which there is no type
  pub changed-outside : (c : Change) (v : ℕ) (by : Vec ℕ Global) → c ≡ Instantiated by → replaced c (type_variable v) ≡ None
      → unit_type ≡ changed scopes all c (type_variable v)
  changed-outside c v by e h =
      sym (type_at-none all by.items v (ap (λ d. replaced d (type_variable v)) (sym e) ∙ h)) ∙ ap (λ d. changed scopes all d (type_variable v)) (sym e)

-- ---- what a row that puts types for variables makes of a variable

pub chosen-earlier : (c : Change) (n inner v chosen : ℕ) (types : Vec ℕ Global) → c ≡ Instantiated types → All (λ p. p < n) (inner ∷ change_rows c)
    → Some chosen ≡ slice_get types.items v → chosen < n
chosen-earlier c n inner v chosen types e h s =
    number-in (λ p. p < n) types.items v chosen s
    (All-tail (λ p. p < n) inner types.items (subst (λ d. All (λ p. p < n) (inner ∷ change_rows d)) e h))

pub chosen-type : (scopes : Scopes) (all : List Refined) (t : Refined) (c : Change) (inner v chosen : ℕ) (types : Vec ℕ Global)
    → t ≡ changed scopes all c (at all inner) → c ≡ Instantiated types → Some v ≡ variable_of (at all inner) → Some chosen ≡ slice_get types.items v
    → t ≡ at all chosen
chosen-type scopes all t c inner v chosen types h e k s =
    h ∙ ap (λ d. changed scopes all d (at all inner)) e ∙ at-variable (each all types.items) (at all inner) v (sym k)
    ∙ type_at-some all types.items v chosen (sym s)

pub missing-type : (scopes : Scopes) (all : List Refined) (t : Refined) (c : Change) (inner v : ℕ) (types : Vec ℕ Global)
    → t ≡ changed scopes all c (at all inner) → c ≡ Instantiated types → Some v ≡ variable_of (at all inner) → None ≡ slice_get types.items v
    → t ≡ unit_type
missing-type scopes all t c inner v types h e k s =
    h ∙ ap (λ d. changed scopes all d (at all inner)) e ∙ at-variable (each all types.items) (at all inner) v (sym k)
    ∙ type_at-none all types.items v (sym s)

pub replaced-earlier : (c : Change) (t : Refined) (r n : ℕ) → replaced c t ≡ Some r → All (λ p. p < n) (change_rows c) → r < n
replaced-earlier (Put θ) t r n e h = absurd (none e)
  where
    none : None ≡ Some r → ⊥
    none k = cc
replaced-earlier Twin t r n e h = absurd (none e)
  where
    none : None ≡ Some r → ⊥
    none k = cc
replaced-earlier (Twinned θ) t r n e h = absurd (none e)
  where
    none : None ≡ Some r → ⊥
    none k = cc
replaced-earlier (Renumbered m) t r n e h = absurd (none e)
  where
    none : None ≡ Some r → ⊥
    none k = cc
replaced-earlier (Instantiated by) t r n e h = chosen (variable_of t) e
  where
    chosen : (v : Option ℕ) → number_in by.items v ≡ Some r → r < n
    chosen None k = absurd (none k)
      where
        none : None ≡ Some r → ⊥
        none k = cc
    chosen (Some i) k = number-in (λ p. p < n) by.items i r (sym k) h

-- whether a type is a variable that is put for is told by its form
variable-form : (all bll : List Refined) (f : Form) (p q : Parts) → variable_of (form_type all f p) ≡ variable_of (form_type bll f q)
variable-form all bll form.Int p q = refl
variable-form all bll form.Bool p q = refl
variable-form all bll form.Unit p q = refl
variable-form all bll (form.Function x a b) p q = refl
variable-form all bll (form.Tuple ts) p q = refl
variable-form all bll (form.Array e) p q = refl
variable-form all bll (form.Data d ts m) p q = refl
variable-form all bll (form.Map e) p q = refl
variable-form all bll (form.Variable i) p q = refl

pub replaced-form : (c : Change) (all bll : List Refined) (f : Form) (p q : Parts) → replaced c (form_type all f p) ≡ replaced c (form_type bll f q)
replaced-form (Put θ) all bll f p q = refl
replaced-form Twin all bll f p q = refl
replaced-form (Twinned θ) all bll f p q = refl
replaced-form (Renumbered n) all bll f p q = refl
replaced-form (Instantiated by) all bll f p q = ap (number_in by.items) (variable-form all bll f p q)
