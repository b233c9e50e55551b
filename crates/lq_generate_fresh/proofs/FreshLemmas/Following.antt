-- The templates of points: what was made so far, and what is left.
use Rattle.std.proofs.Common.{◌≡◌, ◌∙◌, ℕ, suc, ◌+◌, ◌<◌, ◌≤◌, List, [], ◌∷◌, ◌++◌, All, drop, get_or, length, map, refl, sym, ap, ap₂, subst, append_assoc, arith}
use Rattle.std.proofs.Math.Seq.{drop-cons}
use Rattle.std.proofs.lemmas.List.{append-nil, drop_all, map_push}
use Rattle.std.proofs.lemmas.List.Elements.{All-head, All-nil, All-push, All-tail, All-weaker}
use Rattle.std.specs.declared.alloc.Global.{Global}
use Rattle.std.specs.declared.vec.Vec.{Vec}
use Rattle.lq_generate_fresh.specs.Fresh.Growing.{made_both, made_count, made_nothing, scope_kept}
use Rattle.lq_generate_fresh.specs.Fresh.Views.{all_types, unknowns_of, Describes, IsGrown, IsMade, Longer}
use Rattle.lq_generate_fresh.specs.Fresh.Walking.{AreTemplates}
use Rattle.lq_generate_fresh.specs.declared.fresh.fields.Datatypes as known
use Rattle.lq_generate_fresh.specs.declared.fresh.templates.Templates.{Templates}
use Rattle.lq_generate_fresh.proofs.FreshLemmas.Walked.{grown_both, grown_none, rows_kept, rows_there}
use Rattle.lq_refined_instances.specs.Scopes.{Scope}
use Rattle.lq_refined_types.specs.Parts.Part.{Scopes}
use Rattle.lq_refined_templates.specs.Programs.PointView.{name_view, point_view, points_view}
use Rattle.lq_refined_templates.specs.declared.programs.point.Point.{Point}
use Rattle.lq_refined_templates.specs.declared.programs.point.Point.TheVariants as held
use Rattle.lq_refined_templates.specs.Points.Point as p
use Rattle.lq_refined_templates.specs.Points.Templates.{Datatypes, all_emptied, alone, followed, emptied, made_at, made_constant, templates_from, unknowns_from}
use Rattle.lq_refined_types.specs.Types.Refined.{Refineds, data_with}
use Rattle.lq_refined_subtyping.specs.Table.Forms.{each}
use Rattle.lq_refined_subtyping.specs.Table.Whole.{count_of}
use Rattle.lq_refined_templates.specs.Templates.Cells.{constructor_cells}
use Rattle.lq_refined_templates.specs.Templates.Fresh.{AllMade, Made}
use Rattle.lq_refined_templates.specs.Templates.Scopes.{Unknown}
use Rattle.lq_text_tree.specs.MlType as ml
use Rattle.lq_text_tree.specs.MlType.{MlType, MlTypes}
use Rattle.lq_types_table.specs.Heads as heads
use Rattle.lq_types_table.specs.Nodes.{at}
use Rattle.lq_generate_fresh.specs.Fresh.There.{IsThere}
use Rattle.lq_generate_fresh.specs.Fresh.Wanted.{point_wanted, rows_types, unmeasured, AreRows, Rows}

-- ---- no template speaks of equations

module _ (P : Datatypes) where
  abbrev without : Datatypes
  without = unmeasured P.constructors P.ordered

  all_emptied_same : (n : ℕ) (Γ : Scope) (ts : MlTypes) → all_emptied without n Γ ts ≡ all_emptied P n Γ ts
  all_emptied_same n Γ ml.no_types = refl
  all_emptied_same n Γ (ml.more_types t ts) =
      let m : Made = emptied P n Γ t in ap (followed m) (all_emptied_same (n + length m.unknowns) Γ ts)

  constant_same : (n : ℕ) (Γ : Scope) (t : MlType) → made_constant without n Γ t ≡ made_constant P n Γ t
  constant_same n Γ (ml.named d ts) =
      ap (λ (m : AllMade).
      let c = constructor_cells P.constructors (n + length m.unknowns) d ts (P.ordered d) in
      let made : Made = record { type = data_with d m.types c.matrix []; unknowns = m.unknowns ++ c.unknowns } in made) (all_emptied_same n Γ ts)
  constant_same n Γ ml.int = refl
  constant_same n Γ ml.bool = refl
  constant_same n Γ ml.unit = refl
  constant_same n Γ (ml.var i) = refl
  constant_same n Γ (ml.arrow a b) = refl
  constant_same n Γ (ml.tuple ts) = refl
  constant_same n Γ (ml.array a) = refl
  constant_same n Γ (ml.map_of a) = refl

  pub point_same : (n : ℕ) (q : p.Point) → point_wanted n q P.constructors P.ordered ≡ made_at P n q
  point_same n (p.whole Γ xs t) = refl
  point_same n (p.inner Γ t) = refl
  point_same n (p.constant Γ t) = ap alone (constant_same n Γ t)
  point_same n (p.empty Γ t) = refl
  point_same n (p.each Γ ts) = refl
  point_same n (p.idle ts) = refl

-- ---- a point stays where scopes are added

pub point_kept : (old new : List Scope) (types : List MlType) (n : ℕ) (q : Point) → Longer old new → IsThere (length old) n q
    → point_view new types q ≡ point_view old types q
point_kept old new types n (held.Whole Γ xs t) l h =
    ap (λ (Δ : Scope). p.whole Δ (map name_view xs.items) (at types t)) (scope_kept old new Γ l h.0)
point_kept old new types n (held.Inner Γ t) l h = ap (λ (Δ : Scope). p.inner Δ (at types t)) (scope_kept old new Γ l h.0)
point_kept old new types n (held.Constant Γ t) l h = ap (λ (Δ : Scope). p.constant Δ (at types t)) (scope_kept old new Γ l h.0)
point_kept old new types n (held.Empty Γ t) l h = ap (λ (Δ : Scope). p.empty Δ (at types t)) (scope_kept old new Γ l h.0)
point_kept old new types n (held.Each Γ ts) l h = ap (λ (Δ : Scope). p.each Δ (heads.each (at types) ts.items)) (scope_kept old new Γ l h.0)
point_kept old new types n (held.Idle ts) l h = refl

-- ---- the loop over points

module _ (scopes : List Scope) (types : List MlType) (points : List Point) (i : ℕ) where
  pub rest_of : (point : Point) → i < length points → point ≡ get_or points i point
      → points_view scopes types (drop i points) ≡ point_view scopes types point ∷ points_view scopes types (drop (i + 1) points)
  rest_of point h is =
      ap (points_view scopes types) (drop-cons points i point h)
      ∙ ap₂ (λ q k. point_view scopes types q ∷ points_view scopes types (drop k points)) (sym is) one_more
    where
      one_more : suc i ≡ i + 1
      one_more = omega arith

  pub none_left : length points ≤ i → points_view scopes types (drop i points) ≡ []
  none_left h = ap (points_view scopes types) (drop_all i points h)

-- the rows and the unknowns that were made, where the whole is finished by what is left
pub record PointsPart (P : Datatypes) (old new : Templates) (rows : Rows) (whole rest : List p.Point) : Type 0 where
  pub unknowns : List Unknown
  pub made : IsMade old new unknowns
  pub all : unknowns_from P (length (unknowns_of old)) whole ≡ unknowns ++ unknowns_from P (length (unknowns_of new)) rest
  pub types : (S : Scopes) → templates_from P (length (unknowns_of old)) whole ≡ rows_types S new rows ++ templates_from P (length (unknowns_of new)) rest

pub record PointsDone (D : known.Datatypes) (old new : Templates) (rows : Rows) (all rest : List p.Point) : Type 0 where
  pub there : AreRows new rows
  pub grown : IsGrown old new
  pub part : (P : Datatypes) → Describes D P.constructors P.ordered → PointsPart P old new rows all rest

rows_mapped : (S : Scopes) (a b : Templates) (rows : Rows) → IsGrown a b → AreRows a rows → rows_types S b rows ≡ rows_types S a rows
rows_mapped S a b [] g h = refl
rows_mapped S a b (v ∷ rows) g h =
    ap₂ (λ x xs. x ∷ xs) (rows_kept S a b v.items g (All-head (λ (row : Vec ℕ Global). All (λ r. r < count_of a.types) row.items) v rows h))
    (rows_mapped S a b rows g (All-tail (λ (row : Vec ℕ Global). All (λ r. r < count_of a.types) row.items) v rows h))

module _ (D : known.Datatypes) where
  pub points_begin : (old : Templates) (all : List p.Point) → PointsDone D old old [] all all
  points_begin old all = record {
    there = All-nil (λ (row : Vec ℕ Global). All (λ r. r < count_of old.types) row.items);
    grown = grown_none old;
    part = λ P d. record { unknowns = []; made = made_nothing old; all = refl; types = λ S. refl };
  }

  pub points_next : (old mid new : Templates) (rows longer : Rows) (v : Vec ℕ Global) (all left rest : List p.Point) (q r : p.Point)
      → PointsDone D old mid rows all left → left ≡ q ∷ rest → r ≡ q
      → AreTemplates D mid new v.items (point_wanted (length (unknowns_of mid)) r) → longer ≡ rows ++ v ∷ []
      → PointsDone D old new longer all rest
  points_next old mid new rows longer v all left rest q r h is same one e =
      subst (λ (l : Rows). PointsDone D old new l all rest) (sym e)
      record {
        there = All-push (λ (row : Vec ℕ Global). All (λ i. i < count_of new.types) row.items) rows v
            (All-weaker (λ (row : Vec ℕ Global). All (λ i. i < count_of mid.types) row.items)
            (λ (row : Vec ℕ Global). All (λ i. i < count_of new.types) row.items) (λ row k. rows_there mid new row.items one.grown k) rows h.there)
            one.there;
        grown = grown_both old mid new h.grown one.grown;
        part = λ P d.
            let k : ℕ = length (unknowns_of mid) in
            let x : PointsPart P old mid rows all left = h.part P d in
            let m : AllMade = made_at P k q in
            let to : point_wanted k r P.constructors P.ordered ≡ m =
            ap (λ (z : p.Point). point_wanted k z P.constructors P.ordered) same ∙ point_same P k q in
            let added : IsMade mid new m.unknowns =
            subst (λ (z : AllMade). IsMade mid new z.unknowns) to (one.made P.constructors P.ordered d) in
            let count : k + length m.unknowns ≡ length (unknowns_of new) = sym (made_count mid new m.unknowns added) in
            record {
              unknowns = x.unknowns ++ m.unknowns;
              made = made_both old mid new x.unknowns m.unknowns x.made added;
              all =
                  x.all
                  ∙ (ap (λ l. x.unknowns ++ unknowns_from P k l) is
                  ∙ (ap (λ i. x.unknowns ++ (m.unknowns ++ unknowns_from P i rest)) count
                  ∙ sym (append_assoc x.unknowns m.unknowns (unknowns_from P (length (unknowns_of new)) rest))));
              types = λ S.
                  let now : each (all_types S new) v.items ≡ m.types =
                  one.refined P.constructors P.ordered d S ∙ ap (λ (z : AllMade). z.types) to in
                  let before : rows_types S new rows ≡ rows_types S mid rows = rows_mapped S mid new rows one.grown h.there in
                  let last : List Refineds = templates_from P (length (unknowns_of new)) rest in
                  x.types S
                  ∙ (ap (λ l. rows_types S mid rows ++ templates_from P k l) is
                  ∙ (ap (λ i. rows_types S mid rows ++ (m.types ∷ templates_from P i rest)) count
                  ∙ (ap₂ (λ (a : List Refineds) (b : Refineds). a ++ (b ∷ last)) (sym before) (sym now)
                  ∙ (sym (append_assoc (rows_types S new rows) (each (all_types S new) v.items ∷ []) last)
                  ∙ ap (λ a. a ++ last) (sym (map_push (λ (row : Vec ℕ Global). each (all_types S new) row.items) rows v))))));
            };
      }

  module _ (old new : Templates) (rows : Rows) (all rest : List p.Point) (h : PointsDone D old new rows all rest) (end : rest ≡ [])
      (P : Datatypes) (d : Describes D P.constructors P.ordered) where
    pub points_types : (S : Scopes) → rows_types S new rows ≡ templates_from P (length (unknowns_of old)) all
    points_types S =
        let x : PointsPart P old new rows all rest = h.part P d in
        sym (x.types S
        ∙ (ap (λ l. rows_types S new rows ++ templates_from P (length (unknowns_of new)) l) end ∙ append-nil (rows_types S new rows)))

    pub points_made : IsMade old new (unknowns_from P (length (unknowns_of old)) all)
    points_made =
        let x : PointsPart P old new rows all rest = h.part P d in
        subst (IsMade old new)
        (sym (x.all ∙ (ap (λ l. x.unknowns ++ unknowns_from P (length (unknowns_of new)) l) end ∙ append-nil x.unknowns))) x.made
