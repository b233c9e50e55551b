-- What the walk over a simple type makes, of what it made inside.
use Rattle.std.proofs.Common.{◌≡◌, ◌∙◌, ℕ, ◌+◌, ◌<◌, List, [], ◌∷◌, ◌++◌, All, length, map, Option, Some, None, refl, ap, ap₂, subst, arith}
use Rattle.std.proofs.lemmas.List.{append-nil}
use Rattle.std.proofs.lemmas.List.Elements.{All-cons, All-head, All-nil, All-tail, All-weaker}
use Rattle.std.specs.declared.alloc.Global.{Global}
use Rattle.std.specs.declared.vec.Vec.{Vec}
use Rattle.lq_refined_instances.specs.Scopes.{Scope}
use Rattle.lq_base_names.specs.declared.name.Binder.{Binder}
use Rattle.lq_base_names.specs.declared.name.Name.{Name}
use Rattle.lq_refined_types.specs.Parts.Part.{Parts, Scopes}
use Rattle.lq_logic_predicates.specs.declared.symbol.Symbol.TheVariants.{Position}
use Rattle.lq_refined_types.specs.Types.Refined as refined
use Rattle.lq_refined_types.specs.Types.Refined.{Refined, function, tuple_of, array_with, data_with, map_with, with_top}
use Rattle.lq_refined_subtyping.specs.Table.Forms.{at, binder_view, each, form_type, matrix_view, row_of}
use Rattle.lq_refined_subtyping.specs.Table.Growing.{extends-at, extends-there, Extends-refl, Extends-trans}
use Rattle.lq_refined_subtyping.specs.Table.Whole.{count_of, refined_at}
use Rattle.lq_refined_subtyping.specs.declared.table.forms.Form.{Form}
use Rattle.lq_refined_subtyping.specs.declared.table.forms.Form.TheVariants as form
use Rattle.lq_refined_subtyping.specs.declared.table.forms.Matrix.{Matrix}
use Rattle.lq_text_qualifiers.specs.declared.sorting.shape.Shape.{Shape}
use Rattle.lq_text_qualifiers.specs.declared.sorting.shape.Shape.TheVariants as kind
use Rattle.lq_text_qualifiers.specs.Faults.Shapes as shapes
use Rattle.lq_text_qualifiers.specs.Faults.Shapes.{shape_of}
use Rattle.lq_refined_templates.specs.Templates.Cells.{Cells, constructor_cells}
use Rattle.lq_refined_templates.specs.Templates.Fresh.{Made, first_name, inside, later_names, topped}
use Rattle.lq_refined_templates.specs.Templates.Scopes.{Unknown, with_argument, with_symbol}
use Rattle.lq_text_tree.specs.MlType as ml
use Rattle.lq_text_tree.specs.MlType.{MlType, MlTypes}
use Rattle.lq_text_tree.specs.Types.{Signature}
use Rattle.lq_generate_fresh.specs.Fresh.Fields.{Field, cells_of_constructors, shapes_of}
use Rattle.lq_generate_fresh.specs.Fresh.Growing.{Longer-refl, Longer-trans, made_both, made_count, made_nothing, top_parts, top_unknowns}
use Rattle.lq_generate_fresh.specs.Fresh.Views.{all_types, constructors_of, patterns_of, scopes_of, shape_if, unknowns_of, Describes, IsGrown, IsMade}
use Rattle.lq_generate_fresh.specs.Fresh.Walking.{arguments_wanted, components_wanted, form_wanted, template_wanted, AllWanted, AreTemplates, IsForm, IsTemplate, Wanted}
use Rattle.lq_generate_fresh.specs.declared.fresh.fields.Datatypes.{Datatypes}
use Rattle.lq_generate_fresh.specs.declared.fresh.templates.Templates.{Templates}
use Rattle.lq_generate_fresh.proofs.FreshLemmas.Cells.{constructors_same}

-- ---- tables that grow

pub grown_none : (a : Templates) → IsGrown a a
grown_none a = record { types = Extends-refl a.types.rows.items; scopes = Longer-refl (scopes_of a); patterns = Longer-refl (patterns_of a) }

pub grown_both : (a b c : Templates) → IsGrown a b → IsGrown b c → IsGrown a c
grown_both a b c p q = record {
  types = Extends-trans a.types.rows.items b.types.rows.items c.types.rows.items p.types q.types;
  scopes = Longer-trans (scopes_of a) (scopes_of b) (scopes_of c) p.scopes q.scopes;
  patterns = Longer-trans (patterns_of a) (patterns_of b) (patterns_of c) p.patterns q.patterns;
}

pub grown_made : (a b : Templates) (us : List Unknown) → IsMade a b us → IsGrown a b
grown_made a b us p = record { types = p.types; scopes = p.scopes; patterns = p.patterns }

pub row_there : (a b : Templates) (r : ℕ) → IsGrown a b → r < count_of a.types → r < count_of b.types
row_there a b r p h = extends-there a.types.rows.items b.types.rows.items r p.types h

pub row_kept : (S : Scopes) (a b : Templates) (r : ℕ) → IsGrown a b → r < count_of a.types → refined_at S b.types r ≡ refined_at S a.types r
row_kept S a b r p h = extends-at S a.types.rows.items b.types.rows.items r p.types h

pub rows_there : (a b : Templates) (rs : List ℕ) → IsGrown a b → All (λ r. r < count_of a.types) rs → All (λ r. r < count_of b.types) rs
rows_there a b rs p h = All-weaker (λ r. r < count_of a.types) (λ r. r < count_of b.types) (λ r k. row_there a b r p k) rs h

-- the types that numbers stand for stay
pub rows_mapped : (S : Scopes) (a b : Templates) (rs : List ℕ) → IsGrown a b → All (λ r. r < count_of a.types) rs
    → map (at (all_types S b)) rs ≡ map (at (all_types S a)) rs
rows_mapped S a b [] p h = refl
rows_mapped S a b (r ∷ rs) p h =
    ap₂ (λ x xs. x ∷ xs) (row_kept S a b r p (All-head (λ k. k < count_of a.types) r rs h))
    (rows_mapped S a b rs p (All-tail (λ k. k < count_of a.types) r rs h))

pub rows_kept : (S : Scopes) (a b : Templates) (rs : List ℕ) → IsGrown a b → All (λ r. r < count_of a.types) rs
    → each (all_types S b) rs ≡ each (all_types S a) rs
rows_kept S a b rs p h = ap row_of (rows_mapped S a b rs p h)

-- what was made afterwards, or before, made no unknown
pub made_before : (a b c : Templates) (us : List Unknown) → IsMade a b us → IsMade b c [] → IsMade a c us
made_before a b c us p q = subst (IsMade a c) (append-nil us) (made_both a b c us [] p q)

pub made_after : (a b c : Templates) (us : List Unknown) → IsMade a b [] → IsMade b c us → IsMade a c us
made_after a b c us p q = made_both a b c [] us p q

pub count_kept : (a b : Templates) → IsMade a b [] → length (unknowns_of b) ≡ length (unknowns_of a)
count_kept a b p = ap length (p.unknowns ∙ append-nil (unknowns_of a))

-- ---- tops

pub put_top : (all : List Refined) (f : Form) (p : Parts) → form_type all f p ≡ with_top p (form_type all f [])
put_top all form.Int p = refl
put_top all form.Bool p = refl
put_top all form.Unit p = refl
put_top all (form.Function x a b) p = refl
put_top all (form.Tuple ts) p = refl
put_top all (form.Array e) p = refl
put_top all (form.Data d ts m) p = refl
put_top all (form.Map e) p = refl
put_top all (form.Variable i) p = refl

-- nothing is at the top yet
bare : (g : Signature) (ordered : ℕ → List ℕ) (n : ℕ) (Γ : Scope) (xs : List (Option ℕ)) (t : MlType)
    → with_top [] (inside g ordered n Γ xs t).type ≡ (inside g ordered n Γ xs t).type
bare g ordered n Γ xs ml.int = refl
bare g ordered n Γ xs ml.bool = refl
bare g ordered n Γ xs ml.unit = refl
bare g ordered n Γ xs (ml.var i) = refl
bare g ordered n Γ xs (ml.arrow a b) = refl
bare g ordered n Γ xs (ml.tuple ts) = refl
bare g ordered n Γ xs (ml.array a) = refl
bare g ordered n Γ xs (ml.named d ts) = refl
bare g ordered n Γ xs (ml.map_of a) = refl

topped_type : (n : ℕ) (Δ : Scope) (s : Option Shape) (m : Made) → with_top [] m.type ≡ m.type
    → with_top (top_parts (n + length m.unknowns) s) m.type ≡ (topped n Δ (shape_if s) m).type
topped_type n Δ None m e = e
topped_type n Δ (Some kind.Int) m e = refl
topped_type n Δ (Some kind.Bool) m e = refl
topped_type n Δ (Some kind.Array) m e = refl
topped_type n Δ (Some (kind.Data d)) m e = refl

topped_unknowns : (n : ℕ) (Δ : Scope) (s : Option Shape) (m : Made) → m.unknowns ++ top_unknowns Δ s ≡ (topped n Δ (shape_if s) m).unknowns
topped_unknowns n Δ None m = append-nil m.unknowns
topped_unknowns n Δ (Some kind.Int) m = refl
topped_unknowns n Δ (Some kind.Bool) m = refl
topped_unknowns n Δ (Some kind.Array) m = refl
topped_unknowns n Δ (Some (kind.Data d)) m = refl

pub template_made : (D : Datatypes) (old mid new : Templates) (f : Form) (r : ℕ) (s : Option Shape) (Γ Δ Later : Scope) (xs : List (Option ℕ)) (t : MlType)
    → IsForm D old mid f (form_wanted (length (unknowns_of old)) Γ xs t) → shape_if s ≡ shape_of t → Later ≡ Δ
    → ((S : Scopes) → refined_at S new.types r ≡ form_type (all_types S mid) f (top_parts (length (unknowns_of mid)) s))
    → r < count_of new.types → IsMade mid new (top_unknowns Later s)
    → IsTemplate D old new r (template_wanted (length (unknowns_of old)) Γ Δ xs t)
template_made D old mid new f r s Γ Δ Later xs t h shape top refined there made =
    let n : ℕ = length (unknowns_of old) in
    record {
      there = there;
      grown = grown_both old mid new h.grown (grown_made mid new (top_unknowns Later s) made);
      refined = λ g ordered d S.
          let m : Made = inside g ordered n Γ xs t in
          refined S
          ∙ (put_top (all_types S mid) f (top_parts (length (unknowns_of mid)) s)
          ∙ (ap₂ (λ k (x : Refined). with_top (top_parts k s) x) (made_count old mid m.unknowns (h.made g ordered d)) (h.refined g ordered d S)
          ∙ (topped_type n Δ s m (bare g ordered n Γ xs t) ∙ ap (λ (z : shapes.Shape). (topped n Δ z m).type) shape)));
      made = λ g ordered d.
          let m : Made = inside g ordered n Γ xs t in
          subst (IsMade old new)
          (ap (λ (E : Scope). m.unknowns ++ top_unknowns E s) top
          ∙ (topped_unknowns n Δ s m ∙ ap (λ (z : shapes.Shape). (topped n Δ z m).unknowns) shape))
          (made_both old mid new m.unknowns (top_unknowns Later s) (h.made g ordered d) made);
    }

-- ---- forms

module _ (D : Datatypes) where
  pub function_made : (old one two new : Templates) (a b : ℕ) (x : Option Binder) (Γ Δ : Scope) (s t : MlType) (names later : List (Option ℕ))
      → IsTemplate D old one a (template_wanted (length (unknowns_of old)) Γ Γ [] s) → IsMade one two []
      → IsTemplate D two new b (template_wanted (length (unknowns_of two)) Δ Δ later t) → binder_view x ≡ first_name names
      → later ≡ later_names names → Δ ≡ with_argument (first_name names) (shape_of s) Γ
      → IsForm D old new (form.Function x a b) (form_wanted (length (unknowns_of old)) Γ names (ml.arrow s t))
  function_made old one two new a b x Γ Δ s t names later p q r first rest scope =
      let n : ℕ = length (unknowns_of old) in
      let E : Scope = with_argument (first_name names) (shape_of s) Γ in
      let left : Signature → (ℕ → List ℕ) → Made = template_wanted n Γ Γ [] s in
      let right : Signature → (ℕ → List ℕ) → Made = template_wanted (length (unknowns_of two)) Δ Δ later t in
      let same : (g : Signature) (ordered : ℕ → List ℕ) (d : Describes D g ordered)
      → right g ordered ≡ template_wanted (n + length (left g ordered).unknowns) E E (later_names names) t g ordered =
      λ g ordered d.
      ap (λ k. template_wanted k Δ Δ later t g ordered) (count_kept one two q ∙ made_count old one (left g ordered).unknowns (p.made g ordered d))
      ∙ ap₂ (λ (F : Scope) ys. template_wanted (n + length (left g ordered).unknowns) F F ys t g ordered) scope rest in
      let later_grown : IsGrown one new = grown_both one two new (grown_made one two [] q) r.grown in
      record {
        there = All-cons (λ k. k < count_of new.types) a (b ∷ []) (row_there one new a later_grown p.there)
            (All-cons (λ k. k < count_of new.types) b [] r.there (All-nil (λ k. k < count_of new.types)));
        grown = grown_both old one new p.grown later_grown;
        refined = λ g ordered d S.
            ap (λ y. function y (at (all_types S new) a) (at (all_types S new) b)) first
            ∙ ap₂ (function (first_name names)) (row_kept S one new a later_grown p.there ∙ p.refined g ordered d S)
            (r.refined g ordered d S ∙ ap (λ (m : Made). m.type) (same g ordered d));
        made = λ g ordered d.
            made_both old two new (left g ordered).unknowns
            (template_wanted (n + length (left g ordered).unknowns) E E (later_names names) t g ordered).unknowns
            (made_before old one two (left g ordered).unknowns (p.made g ordered d) q)
            (subst (λ (m : Made). IsMade two new m.unknowns) (same g ordered d) (r.made g ordered d));
      }

  pub map_made : (old mid new : Templates) (e : ℕ) (Γ Δ E : Scope) (xs : List (Option ℕ)) (t : MlType) → IsMade old mid []
      → IsTemplate D mid new e (template_wanted (length (unknowns_of mid)) Δ E [] t) → Δ ≡ Γ → E ≡ with_symbol (Position 0) shapes.int Γ
      → IsForm D old new (form.Map e) (form_wanted (length (unknowns_of old)) Γ xs (ml.map_of t))
  map_made old mid new e Γ Δ E xs t q p inner outer =
      let n : ℕ = length (unknowns_of old) in
      let F : Scope = with_symbol (Position 0) shapes.int Γ in
      let same : (g : Signature) (ordered : ℕ → List ℕ)
      → template_wanted (length (unknowns_of mid)) Δ E [] t g ordered ≡ template_wanted n Γ F [] t g ordered =
      λ g ordered.
      ap (λ k. template_wanted k Δ E [] t g ordered) (count_kept old mid q)
      ∙ ap₂ (λ (G : Scope) (H : Scope). template_wanted n G H [] t g ordered) inner outer in
      record {
        there = All-cons (λ k. k < count_of new.types) e [] p.there (All-nil (λ k. k < count_of new.types));
        grown = grown_both old mid new (grown_made old mid [] q) p.grown;
        refined = λ g ordered d S. ap (λ x. map_with x []) (p.refined g ordered d S ∙ ap (λ (m : Made). m.type) (same g ordered));
        made = λ g ordered d.
            subst (λ (m : Made). IsMade old new m.unknowns) (same g ordered)
            (made_after old mid new (template_wanted (length (unknowns_of mid)) Δ E [] t g ordered).unknowns q (p.made g ordered d));
      }

  -- a datatype's template, where its arguments are made
  abbrev pub data_wanted : ℕ → ℕ → MlTypes → AllWanted → Wanted
  data_wanted n c ts w = λ g ordered.
      let a = w g ordered in
      let e = constructor_cells g (n + length a.unknowns) c ts (ordered c) in
      record { type = data_with c a.types e.matrix []; unknowns = a.unknowns ++ e.unknowns }

  pub data_of : (old mid new : Templates) (c : Name) (v : Vec ℕ Global) (m : Matrix) (w : AllWanted) (ts : MlTypes)
      (ss : List shapes.Shape) (ks : List (ℕ × List Field)) → AreTemplates D old mid v.items w
      → ss ≡ shapes_of ts → ks ≡ constructors_of D c.0 → matrix_view m ≡ (cells_of_constructors (length (unknowns_of mid)) c.0 ss ks).matrix
      → IsMade mid new (cells_of_constructors (length (unknowns_of mid)) c.0 ss ks).unknowns
      → IsForm D old new (form.Data c v m) (data_wanted (length (unknowns_of old)) c.0 ts w)
  data_of old mid new c v m w ts ss ks p shape described matrix made =
      let n : ℕ = length (unknowns_of old) in
      let k : ℕ = length (unknowns_of mid) in
      let us : Signature → (ℕ → List ℕ) → List Unknown = λ g ordered. (w g ordered).unknowns in
      let later : IsGrown mid new = grown_made mid new (cells_of_constructors k c.0 ss ks).unknowns made in
      let same : (g : Signature) (ordered : ℕ → List ℕ) (d : Describes D g ordered)
      → cells_of_constructors k c.0 ss ks ≡ constructor_cells g (n + length (us g ordered)) c.0 ts (ordered c.0) =
      λ g ordered d.
      ap₂ (cells_of_constructors k c.0) shape described
      ∙ (constructors_same c.0 ts g k (ordered c.0) (constructors_of D c.0) (d c.0)
      ∙ ap (λ i. constructor_cells g i c.0 ts (ordered c.0)) (made_count old mid (us g ordered) (p.made g ordered d))) in
      record {
        there = rows_there mid new v.items later p.there;
        grown = grown_both old mid new p.grown later;
        refined = λ g ordered d S.
            ap₂ (λ x (y : refined.Matrix). data_with c.0 x y []) (rows_kept S mid new v.items later p.there ∙ p.refined g ordered d S)
            (matrix ∙ ap (λ (a : Cells). a.matrix) (same g ordered d));
        made = λ g ordered d.
            made_both old mid new (us g ordered) (constructor_cells g (n + length (us g ordered)) c.0 ts (ordered c.0)).unknowns
            (p.made g ordered d) (subst (λ (a : Cells). IsMade mid new a.unknowns) (same g ordered d) made);
      }

  pub data_made : (old mid new : Templates) (c : Name) (v : Vec ℕ Global) (m : Matrix) (Γ : Scope) (xs : List (Option ℕ)) (ts : MlTypes)
      (ss : List shapes.Shape) (ks : List (ℕ × List Field)) → AreTemplates D old mid v.items (arguments_wanted (length (unknowns_of old)) Γ ts)
      → ss ≡ shapes_of ts → ks ≡ constructors_of D c.0 → matrix_view m ≡ (cells_of_constructors (length (unknowns_of mid)) c.0 ss ks).matrix
      → IsMade mid new (cells_of_constructors (length (unknowns_of mid)) c.0 ss ks).unknowns
      → IsForm D old new (form.Data c v m) (form_wanted (length (unknowns_of old)) Γ xs (ml.named c.0 ts))
  data_made old mid new c v m Γ xs ts ss ks = data_of old mid new c v m (arguments_wanted (length (unknowns_of old)) Γ ts) ts ss ks
