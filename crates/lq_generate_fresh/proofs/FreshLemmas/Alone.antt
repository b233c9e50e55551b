-- Templates without an unknown at their tops.
use denote.Bor.{Bor}
use Rattle.std.proofs.Common.{◌≡◌, ◌∙◌, ℕ, ◌+◌, ◌<◌, ◌⊎◌, inl, inr, List, [], ◌∷◌, ◌++◌, drop, get_or, length, refl, sym, ap, subst}
use Rattle.lq_refined_rules.specs.Checks.Operation.{empty_by, empty_type}
use Rattle.lq_generate_fresh.specs.Fresh.Views.{all_types, unknowns_of, IsMade}
use Rattle.lq_generate_fresh.specs.Fresh.Walking.{form_wanted, AllWanted, IsForm, IsTemplate, Wanted}
use Rattle.lq_generate_fresh.specs.declared.fresh.fields.Datatypes.{Datatypes}
use Rattle.lq_generate_fresh.specs.declared.fresh.templates.Templates.{Templates}
use Rattle.lq_generate_fresh.proofs.FreshLemmas.Rows.{parts_rest, rows_next, Rest, RowsDone}
use Rattle.lq_generate_fresh.proofs.FreshLemmas.Walked.{grown_both, grown_made, made_before, put_top}
use Rattle.lq_refined_instances.specs.Scopes.{Scope}
use Rattle.lq_refined_types.specs.Parts.Part.{Parts, Scopes}
use Rattle.lq_refined_templates.specs.Points.Templates.{all_emptied}
use Rattle.lq_refined_types.specs.Types.Refined.{Kind, Refined, kind, number, object, other, truth_value, with_top}
use Rattle.lq_refined_subtyping.specs.Table.Forms.{form_type}
use Rattle.lq_refined_subtyping.specs.Table.Whole.{count_of, refined_at}
use Rattle.lq_refined_subtyping.specs.declared.table.forms.Form.{Form}
use Rattle.lq_text_tree.specs.MlType.{MlType}
use Rattle.lq_types_table.specs.Heads as types
use Rattle.lq_types_table.specs.Seen.{node_type}
use Rattle.lq_types_table.specs.declared.type_node.TypeNode.{TypeNode}
use Rattle.lq_types_table.specs.declared.type_node.TypeNode.TheVariants as node
use Rattle.lq_generate_fresh.specs.Fresh.Wanted.{constant_wanted, emptied_wanted, empty_parts, unmeasured}

-- ---- of a type that is no datatype

module _ (n : ℕ) (Γ : Scope) (all : List MlType) where
  abbrev pub AreSame : TypeNode → Type 0
  AreSame x = form_wanted n Γ [] (node_type all x) ≡ constant_wanted n Γ (node_type all x)

  pub constant_other : (x : TypeNode)
      → (x ≡ node.Int) ⊎ ((x ≡ node.Bool) ⊎ ((x ≡ node.Unit) ⊎ (((v : ℕ) × (x ≡ node.Var v))
      ⊎ (((a : ℕ) × (b : ℕ) × (x ≡ node.Arrow a b)) ⊎ (((ts : Bor (List ℕ)) × (x ≡ node.Tuple ts))
      ⊎ (((a : ℕ) × (x ≡ node.Array a)) ⊎ ((a : ℕ) × (x ≡ node.Map a))))))))
      → AreSame x
  constant_other x (inl e) = subst AreSame (sym e) refl
  constant_other x (inr (inl e)) = subst AreSame (sym e) refl
  constant_other x (inr (inr (inl e))) = subst AreSame (sym e) refl
  constant_other x (inr (inr (inr (inl h)))) = subst AreSame (sym h.1) refl
  constant_other x (inr (inr (inr (inr (inl h))))) = subst AreSame (sym h.2) refl
  constant_other x (inr (inr (inr (inr (inr (inl h)))))) = subst AreSame (sym h.1) refl
  constant_other x (inr (inr (inr (inr (inr (inr (inl h))))))) = subst AreSame (sym h.1) refl
  constant_other x (inr (inr (inr (inr (inr (inr (inr h))))))) = subst AreSame (sym h.1) refl

-- ---- with nothing or `false` at the top

empty_top : (k : Kind) (t : Refined) → with_top [] t ≡ t → with_top (empty_parts k) t ≡ empty_by k t
empty_top number t e = refl
empty_top truth_value t e = refl
empty_top object t e = refl
empty_top other t e = e

module _ (D : Datatypes) where
  -- the type of a form with nothing at its top
  pub bare_template : (old mid new : Templates) (f : Form) (r : ℕ) (p : Parts) (m : Wanted) → IsForm D old mid f m
      → ((S : Scopes) → refined_at S new.types r ≡ form_type (all_types S mid) f p) → p ≡ [] → r < count_of new.types → IsMade mid new []
      → IsTemplate D old new r m
  bare_template old mid new f r p m h refined bare there made = record {
    there = there;
    grown = grown_both old mid new h.grown (grown_made mid new [] made);
    refined = λ g ordered d S. refined S ∙ (ap (form_type (all_types S mid) f) bare ∙ h.refined g ordered d S);
    made = λ g ordered d. made_before old mid new (m g ordered).unknowns (h.made g ordered d) made;
  }

  -- the same with `false` at the top
  pub emptied_template : (old mid new : Templates) (f : Form) (r : ℕ) (p : Parts) (k : Kind) (Γ : Scope) (t : MlType)
      → IsForm D old mid f (form_wanted (length (unknowns_of old)) Γ [] t) → p ≡ empty_parts k
      → ((all : List Refined) (q : Parts) → k ≡ kind (form_type all f q))
      → ((S : Scopes) → refined_at S new.types r ≡ form_type (all_types S mid) f p) → r < count_of new.types → IsMade mid new []
      → IsTemplate D old new r (emptied_wanted (length (unknowns_of old)) Γ t)
  emptied_template old mid new f r p k Γ t h top kinds refined there made = record {
    there = there;
    grown = grown_both old mid new h.grown (grown_made mid new [] made);
    refined = λ g ordered d S.
        let all : List Refined = all_types S mid in
        let bare : Refined = form_type all f [] in
        refined S
        ∙ (put_top all f p
        ∙ (ap (λ q. with_top q bare) top
        ∙ (empty_top k bare (sym (put_top all f []))
        ∙ (ap (λ z. empty_by z bare) (kinds all []) ∙ ap empty_type (h.refined g ordered d S)))));
    made = λ g ordered d.
        made_before old mid new (form_wanted (length (unknowns_of old)) Γ [] t g ordered).unknowns (h.made g ordered d) made;
  }

  -- ---- the loop over the arguments of a constructor without a field

  module _ (F : ℕ → MlType) (ps : List ℕ) (Γ : Scope) where
    abbrev pub emptied_rest : ℕ → Rest
    emptied_rest i = λ g ordered k. all_emptied (unmeasured g ordered) k Γ (types.each F (drop i ps))

    pub emptied_next : (old mid new : Templates) (rs longer : List ℕ) (r : ℕ) (Δ : Scope) (whole : AllWanted) (i : ℕ)
        → RowsDone D old mid rs whole (emptied_rest i) → i < length ps
        → IsTemplate D mid new r (emptied_wanted (length (unknowns_of mid)) Δ (F (get_or ps i 0))) → Δ ≡ Γ → longer ≡ rs ++ r ∷ []
        → RowsDone D old new longer whole (emptied_rest (i + 1))
    emptied_next old mid new rs longer r Δ whole i h l p scope e =
        let n : ℕ = length (unknowns_of mid) in
        let t : MlType = F (get_or ps i 0) in
        rows_next D old mid new rs longer r whole (emptied_rest i) (emptied_rest (i + 1)) (emptied_wanted n Γ t) h
        (subst (λ (E : Scope). IsTemplate D mid new r (emptied_wanted n E t)) scope p) e
        (λ g ordered. ap (all_emptied (unmeasured g ordered) n Γ) (parts_rest F ps i l))
