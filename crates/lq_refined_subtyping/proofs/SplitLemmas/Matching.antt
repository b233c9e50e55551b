-- Types of forms with nothing inside.
use Rattle.std.proofs.Common.{◌≡◌, ℕ, List, [], Option, Vec, Global, refl, sym, ap, ◌∙◌}
use Rattle.lq_base_names.specs.declared.name.Binder.{Binder}
use Rattle.lq_base_names.specs.declared.name.Name.{Name}
use Rattle.lq_refined_types.specs.Parts.Part.{Parts}
use Rattle.lq_refined_types.specs.Types.Context.{Context}
use Rattle.lq_refined_types.specs.Types.Refined.{Refined, erased}
use Rattle.lq_refined_subtyping.specs.declared.table.forms.Form.{Form}
use Rattle.lq_refined_subtyping.specs.declared.table.forms.Form.TheVariants as form
use Rattle.lq_refined_subtyping.specs.declared.table.forms.Matrix.{Matrix}
use Rattle.lq_refined_subtyping.specs.Table.Forms.{form_type}
use Rattle.lq_refined_types.specs.Subtyping.Implication.{Origin}
use Rattle.lq_refined_types.specs.Subtyping.Splitting.{inside}
use Rattle.lq_refined_types.specs.Subtyping.Subtype.{Setting}
use Rattle.lq_refined_subtyping.proofs.SplitLemmas.Erasing.{erased-top}

module _ (P : Setting) (o : Origin) (Γ : Context) (all : List Refined) where
  pub nothing-inside : (f g : Form) (p q : Parts) → erased (form_type all f []) ≡ erased (form_type all g [])
      → ((x : Option Binder) (a b : ℕ) → f ≡ form.Function x a b → ⊥) → ((ts : Vec ℕ Global) → f ≡ form.Tuple ts → ⊥)
      → ((e : ℕ) → f ≡ form.Array e → ⊥) → ((d : Name) (ts : Vec ℕ Global) (m : Matrix) → f ≡ form.Data d ts m → ⊥)
      → ((e : ℕ) → f ≡ form.Map e → ⊥)
      → inside P o (erased (form_type all g q)) Γ (form_type all f p) (form_type all g q) ≡ []
  nothing-inside form.Int g p q e _ _ _ _ _ = ap (λ s. inside P o s Γ (form_type all form.Int p) (form_type all g q)) (erased-top all g q [] ∙ sym e)
  nothing-inside form.Bool g p q e _ _ _ _ _ = ap (λ s. inside P o s Γ (form_type all form.Bool p) (form_type all g q)) (erased-top all g q [] ∙ sym e)
  nothing-inside form.Unit g p q e _ _ _ _ _ = ap (λ s. inside P o s Γ (form_type all form.Unit p) (form_type all g q)) (erased-top all g q [] ∙ sym e)
  nothing-inside (form.Variable i) g p q e _ _ _ _ _ =
      ap (λ s. inside P o s Γ (form_type all (form.Variable i) p) (form_type all g q)) (erased-top all g q [] ∙ sym e)
  nothing-inside (form.Function x a b) g p q e functions _ _ _ _ = absurd (functions x a b refl)
  nothing-inside (form.Tuple ts) g p q e _ tuples _ _ _ = absurd (tuples ts refl)
  nothing-inside (form.Array t) g p q e _ _ arrays _ _ = absurd (arrays t refl)
  nothing-inside (form.Data d ts m) g p q e _ _ _ datatypes _ = absurd (datatypes d ts m refl)
  nothing-inside (form.Map t) g p q e _ _ _ _ maps = absurd (maps t refl)
