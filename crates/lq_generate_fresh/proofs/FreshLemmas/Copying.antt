-- Patterns, and the templates that are copies of them.
use Rattle.std.proofs.Common.{◌≡◌, ◌∙◌, ℕ, ◌<◌, List, [], ◌∷◌, ◌++◌, All, get_or, length, sym, ap, ap₂, subst, append-nil, arith}
use Rattle.std.proofs.Math.Seq.{get_or-append_seam}
use Rattle.std.proofs.lemmas.List.{get_or_append_left, length-append}
use Rattle.std.proofs.lemmas.List.Elements.{All-push, All-weaker}
use Rattle.lq_refined_instances.specs.Scopes.{scope_in, Scope}
use Rattle.lq_refined_types.specs.Parts.Part.{Scopes}
use Rattle.lq_refined_subtyping.specs.Table.Whole.{count_of, refined_at, Grows}
use Rattle.lq_refined_types.specs.Renumbering.Renumbered.{renumbered}
use Rattle.lq_refined_copies.specs.Completed.{all_completed, mark}
use Rattle.lq_generate_fresh.specs.Copies.Laws.{TemplatesComplete, TemplatesRenumber}
use Rattle.lq_refined_templates.specs.Templates.Fresh.{fresh, Made}
use Rattle.lq_refined_templates.specs.Templates.Scopes.{Unknown}
use Rattle.lq_text_tree.specs.MlType.{MlType}
use Rattle.lq_text_tree.specs.Types.{Signature}
use Rattle.lq_types_table.specs.Nodes.{at}
use Rattle.lq_generate_fresh.specs.Fresh.Patterns.{pattern_wanted, ArePatterns, IsPattern}
use Rattle.lq_generate_fresh.specs.Fresh.Views.{patterns_of, scopes_of, unknowns_of, Describes, IsGrown, IsMade, Longer}
use Rattle.lq_generate_fresh.specs.Fresh.Walking.{template_wanted, IsTemplate}
use Rattle.lq_generate_fresh.specs.declared.fresh.fields.Datatypes.{Datatypes}
use Rattle.lq_generate_fresh.specs.declared.fresh.patterns.Pattern.{Pattern}
use Rattle.lq_generate_fresh.specs.declared.fresh.patterns.Patterns.{Patterns}
use Rattle.lq_generate_fresh.specs.declared.fresh.templates.Templates.{Templates}
use Rattle.lq_generate_fresh.proofs.FreshLemmas.Walked.{count_kept, grown_both, grown_made, made_after, row_kept, row_there}

longer_there : {A : Type 0} (old new : List A) (i : ℕ) → Longer old new → i < length old → i < length new
longer_there old new i l h =
    let e : length new ≡ length (old ++ l.added) = ap length l.is in let k = length-append old l.added in omega (arith, e, k, h)

longer_at : {A : Type 0} (old new : List A) (d : A) (i : ℕ) → Longer old new → i < length old → get_or new i d ≡ get_or old i d
longer_at old new d i l h = ap (λ k. get_or k i d) l.is ∙ get_or_append_left old l.added d i h

pub same_longer : {A : Type 0} (old new : List A) → new ≡ old → Longer old new
same_longer old new e = record { added = []; is = e ∙ sym (append-nil old) }

-- the scope that is made first is that of the mark alone
pub marked_scope : (all first new : List Scope) (k : ℕ) → first ≡ [] ∷ [] → new ≡ first ++ (scope_in first 0 ++ mark ∷ []) ∷ [] → k ≡ length first
    → all ≡ new → scope_in all k ≡ mark ∷ []
marked_scope all first new k empty added number same =
    ap₂ scope_in (same ∙ (added ∙ ap (λ (l : List Scope). l ++ (scope_in l 0 ++ mark ∷ []) ∷ []) empty)) (number ∙ ap length empty)

module _ (D : Datatypes) (types : List MlType) where
  -- ---- patterns stay

  pattern_kept : (old new : Templates) (p : Pattern) → IsGrown old new → IsPattern D types old p → IsPattern D types new p
  pattern_kept old new p grown h = record {
    there = row_there old new p.row grown h.there;
    number = longer_there (patterns_of old) (patterns_of new) p.number grown.patterns h.number;
    refined = λ g ordered d S. row_kept S old new p.row grown h.there ∙ h.refined g ordered d S;
    made = λ g ordered d. longer_at (patterns_of old) (patterns_of new) [] p.number grown.patterns h.number ∙ h.made g ordered d;
  }

  pub patterns_kept : (old new : Templates) (ps qs : Patterns) → IsGrown old new → qs.made.items ≡ ps.made.items → ArePatterns D types old ps
      → ArePatterns D types new qs
  patterns_kept old new ps qs grown same h =
      subst (All (IsPattern D types new)) (sym same)
      (All-weaker (IsPattern D types old) (IsPattern D types new) (λ p k. pattern_kept old new p grown k) ps.made.items h)

  pub patterns_pushed : (t : Templates) (ps qs : Patterns) (p : Pattern) → qs.made.items ≡ ps.made.items ++ p ∷ [] → ArePatterns D types t ps
      → IsPattern D types t p → ArePatterns D types t qs
  patterns_pushed t ps qs p more h k = subst (All (IsPattern D types t)) (sym more) (All-push (IsPattern D types t) ps.made.items p h k)

  -- ---- a pattern that was made by itself

  pub pattern_made : (old alone full new : Templates) (p : Pattern) (Γ : Scope) (us : List Unknown) → unknowns_of alone ≡ [] → Γ ≡ mark ∷ []
      → ((g : Signature) (ordered : ℕ → List ℕ) → Describes D g ordered → (S : Scopes)
      → refined_at S full.types p.row ≡ (fresh g ordered (length (unknowns_of alone)) Γ [] (at types p.at)).type)
      → p.row < count_of full.types
      → ((g : Signature) (ordered : ℕ → List ℕ) → Describes D g ordered
      → IsMade alone full (fresh g ordered (length (unknowns_of alone)) Γ [] (at types p.at)).unknowns)
      → new.types ≡ full.types → us ≡ unknowns_of full → patterns_of new ≡ patterns_of old ++ us ∷ [] → p.number ≡ length (patterns_of old)
      → IsPattern D types new p
  pattern_made old alone full new p Γ us none scope refined there made same flat more number =
      let t : MlType = at types p.at in
      let to : (g : Signature) (ordered : ℕ → List ℕ) → fresh g ordered (length (unknowns_of alone)) Γ [] t ≡ pattern_wanted t g ordered =
      λ g ordered. ap₂ (λ n (E : Scope). fresh g ordered n E [] t) (ap length none) scope in
      record {
        there = subst (λ x. p.row < count_of x) (sym same) there;
        number = let e : length (patterns_of new) ≡ length (patterns_of old ++ us ∷ []) = ap length more in
            let k = length-append (patterns_of old) (us ∷ []) in omega (arith, e, k, number);
        refined = λ g ordered d S. ap (λ x. refined_at S x p.row) same ∙ (refined g ordered d S ∙ ap (λ (m : Made). m.type) (to g ordered));
        made = λ g ordered d.
            let m : Made = fresh g ordered (length (unknowns_of alone)) Γ [] t in
            ap₂ (λ (l : List (List Unknown)) n. get_or l n []) more number
            ∙ (get_or-append_seam (patterns_of old) us [] []
            ∙ (flat
            ∙ ((made g ordered d).unknowns
            ∙ (ap (λ (l : List Unknown). l ++ m.unknowns) none ∙ ap (λ (z : Made). z.unknowns) (to g ordered)))));
      }

  -- ---- a template that is made behind what made no unknown

  pub template_after : (old mid new : Templates) (r : ℕ) (Γ Δ : Scope) (t s : MlType) → IsMade old mid [] → Δ ≡ Γ → s ≡ t
      → IsTemplate D mid new r (template_wanted (length (unknowns_of mid)) Δ Δ [] s)
      → IsTemplate D old new r (template_wanted (length (unknowns_of old)) Γ Γ [] t)
  template_after old mid new r Γ Δ t s made scope same h =
      let n : ℕ = length (unknowns_of old) in
      let k : IsTemplate D mid new r (template_wanted n Γ Γ [] t) =
      subst (λ i. IsTemplate D mid new r (template_wanted i Γ Γ [] t)) (count_kept old mid made)
      (subst (λ (E : Scope). IsTemplate D mid new r (template_wanted (length (unknowns_of mid)) E E [] t)) scope
      (subst (λ (u : MlType). IsTemplate D mid new r (template_wanted (length (unknowns_of mid)) Δ Δ [] u)) same h)) in
      record {
        there = k.there;
        grown = grown_both old mid new (grown_made old mid [] made) k.grown;
        refined = k.refined;
        made = λ g ordered d. made_after old mid new (template_wanted n Γ Γ [] t g ordered).unknowns made (k.made g ordered d);
      }
