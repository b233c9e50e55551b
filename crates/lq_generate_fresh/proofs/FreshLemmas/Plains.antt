-- Types without parts.
use Rattle.std.proofs.Common.{◌≡◌, ◌∙◌, ℕ, ◌+◌, ◌<◌, List, [], ◌∷◌, ◌++◌, None, drop, get_or, length, ap, ap₂}
use Rattle.std.proofs.lemmas.List.Elements.{All-cons, All-nil}
use Rattle.std.specs.declared.alloc.Global.{Global}
use Rattle.std.specs.declared.vec.Vec.{Vec}
use Rattle.lq_generate_fresh.specs.Fresh.Growing.{made_both}
use Rattle.lq_generate_fresh.specs.Fresh.Walking.{AllWanted, AreTemplates, IsForm, IsTemplate}
use Rattle.lq_generate_fresh.specs.declared.fresh.fields.Datatypes.{Datatypes}
use Rattle.lq_generate_fresh.specs.declared.fresh.templates.Templates.{Templates}
use Rattle.lq_generate_fresh.proofs.FreshLemmas.Rows.{parts_rest, rows_next, Rest, RowsDone}
use Rattle.lq_generate_fresh.proofs.FreshLemmas.Walked.{grown_both, row_kept, row_there}
use Rattle.lq_base_names.specs.declared.name.Name.{Name}
use Rattle.lq_refined_templates.specs.Points.Templates.{all_plain}
use Rattle.lq_refined_types.specs.Types.Refined as refined
use Rattle.lq_refined_types.specs.Types.Refined.{Refineds, array_with, data_with, function, map_with, tuple_of}
use Rattle.lq_refined_subtyping.specs.Table.Forms.{matrix_view}
use Rattle.lq_refined_subtyping.specs.Table.Whole.{count_of}
use Rattle.lq_refined_subtyping.specs.declared.table.forms.Form.TheVariants as form
use Rattle.lq_refined_subtyping.specs.declared.table.forms.Matrix.{Matrix}
use Rattle.lq_text_tree.specs.MlType as ml
use Rattle.lq_text_tree.specs.MlType.{MlType, MlTypes}
use Rattle.lq_types_table.specs.Heads as types
use Rattle.lq_generate_fresh.specs.Fresh.Wanted.{all_plain_wanted, plain_wanted}

module _ (D : Datatypes) where
  pub plain_function : (old one new : Templates) (a b : ℕ) (s t : MlType) → IsTemplate D old one a (plain_wanted s)
      → IsTemplate D one new b (plain_wanted t) → IsForm D old new (form.Function None a b) (plain_wanted (ml.arrow s t))
  plain_function old one new a b s t p q = record {
    there = All-cons (λ k. k < count_of new.types) a (b ∷ []) (row_there one new a q.grown p.there)
        (All-cons (λ k. k < count_of new.types) b [] q.there (All-nil (λ k. k < count_of new.types)));
    grown = grown_both old one new p.grown q.grown;
    refined = λ g o d S. ap₂ (function None) (row_kept S one new a q.grown p.there ∙ p.refined g o d S) (q.refined g o d S);
    made = λ g o d. made_both old one new [] [] (p.made g o d) (q.made g o d);
  }

  pub plain_array : (old new : Templates) (e : ℕ) (t : MlType) → IsTemplate D old new e (plain_wanted t)
      → IsForm D old new (form.Array e) (plain_wanted (ml.array t))
  plain_array old new e t p = record {
    there = All-cons (λ k. k < count_of new.types) e [] p.there (All-nil (λ k. k < count_of new.types));
    grown = p.grown;
    refined = λ g o d S. ap (λ x. array_with x []) (p.refined g o d S);
    made = p.made;
  }

  pub plain_map : (old new : Templates) (e : ℕ) (t : MlType) → IsTemplate D old new e (plain_wanted t)
      → IsForm D old new (form.Map e) (plain_wanted (ml.map_of t))
  plain_map old new e t p = record {
    there = All-cons (λ k. k < count_of new.types) e [] p.there (All-nil (λ k. k < count_of new.types));
    grown = p.grown;
    refined = λ g o d S. ap (λ x. map_with x []) (p.refined g o d S);
    made = p.made;
  }

  pub plain_tuple : (old new : Templates) (v : Vec ℕ Global) (ts : MlTypes) → AreTemplates D old new v.items (all_plain_wanted ts)
      → IsForm D old new (form.Tuple v) (plain_wanted (ml.tuple ts))
  plain_tuple old new v ts p =
      record { there = p.there; grown = p.grown; refined = λ g o d S. ap tuple_of (p.refined g o d S); made = p.made }

  pub plain_data : (old new : Templates) (c : Name) (v : Vec ℕ Global) (m : Matrix) (ts : MlTypes)
      → AreTemplates D old new v.items (all_plain_wanted ts) → matrix_view m ≡ []
      → IsForm D old new (form.Data c v m) (plain_wanted (ml.named c.0 ts))
  plain_data old new c v m ts p empty = record {
    there = p.there;
    grown = p.grown;
    refined = λ g o d S. ap₂ (λ x (y : refined.Matrix). data_with c.0 x y []) (p.refined g o d S) empty;
    made = p.made;
  }

  -- ---- the loop over types

  module _ (F : ℕ → MlType) (ps : List ℕ) where
    abbrev pub plain_rest : ℕ → Rest
    plain_rest i = λ g o k. record { types = all_plain (types.each F (drop i ps)); unknowns = [] }

    pub plain_next : (old mid new : Templates) (rs longer : List ℕ) (r : ℕ) (whole : AllWanted) (i : ℕ)
        → RowsDone D old mid rs whole (plain_rest i) → i < length ps → IsTemplate D mid new r (plain_wanted (F (get_or ps i 0)))
        → longer ≡ rs ++ r ∷ [] → RowsDone D old new longer whole (plain_rest (i + 1))
    plain_next old mid new rs longer r whole i h l p e =
        rows_next D old mid new rs longer r whole (plain_rest i) (plain_rest (i + 1)) (plain_wanted (F (get_or ps i 0))) h p e
        (λ g o. ap (λ (ts : MlTypes). all_plain_wanted ts g o) (parts_rest F ps i l))
