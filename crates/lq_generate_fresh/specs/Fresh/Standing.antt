-- What a basis of the typing rules wants of templates that were made, by their points and unknowns.
use Rattle.std.proofs.Common.{◌≡◌, ◌∙◌, ℕ, zero, suc, ◌<◌, List, [], ◌∷◌, ◌++◌, All, length, map, slice_index_or, refl, ap}
use Rattle.std.proofs.lemmas.List.Elements.{All-head, All-nil, All-tail}
use Rattle.std.specs.declared.alloc.Global.{Global}
use Rattle.std.specs.declared.vec.Vec.{Vec}
use Rattle.lq_generate_fresh.specs.Fresh.Views.{all_types, unknowns_of, IsMade}
use Rattle.lq_generate_fresh.specs.declared.fresh.templates.Templates.{Templates}
use Rattle.lq_refined_instances.specs.Scopes.{scope_in}
use Rattle.lq_refined_types.specs.Parts.Part.{Scopes}
use Rattle.lq_refined_templates.specs.Points.Point.{Point}
use Rattle.lq_refined_templates.specs.Points.Templates.{Datatypes, basis_of, scopes_of, templates_at, unknowns_from}
use Rattle.lq_refined_subtyping.specs.Table.Forms.{each}
use Rattle.lq_refined_subtyping.specs.Table.Whole.{count_of}
use Rattle.lq_refined_templates.specs.Templates.Scopes.{symbols_in, Unknown}
use Rattle.lq_generate_fresh.specs.Fresh.Wanted.{rows_types, AreRows, Rows}

-- the numbers of the types of a point
abbrev pub rows_at : Rows → ℕ → List ℕ
rows_at rows p = slice_index_or (map (λ row. row.items) rows) p []

-- its types are those that were made for it
pub types_at-rows : (S : Scopes) (t : Templates) (rows : Rows) (p : ℕ)
    → each (all_types S t) (rows_at rows p) ≡ templates_at (rows_types S t rows) p
types_at-rows S t [] p = refl
types_at-rows S t (v ∷ rows) zero = refl
types_at-rows S t (v ∷ rows) (suc p) = types_at-rows S t rows p

-- they stand in the table
pub rows_at-below : (t : Templates) (rows : Rows) (p : ℕ) → AreRows t rows → All (λ r. r < count_of t.types) (rows_at rows p)
rows_at-below t [] p h = All-nil (λ r. r < count_of t.types)
rows_at-below t (v ∷ rows) zero h = All-head (λ (row : Vec ℕ Global). All (λ r. r < count_of t.types) row.items) v rows h
rows_at-below t (v ∷ rows) (suc p) h =
    rows_at-below t rows p (All-tail (λ (row : Vec ℕ Global). All (λ r. r < count_of t.types) row.items) v rows h)
