-- Templates that grow: what is there stays.
use Rattle.std.proofs.Common.{◌≡◌, ◌∙◌, ℕ, zero, suc, ◌+◌, ◌<◌, List, [], ◌∷◌, ◌++◌, length, Option, Some, None, refl, sym, ap, append_assoc, arith}
use Rattle.std.proofs.lemmas.List.{append-nil, length-append}
use Rattle.lq_refined_instances.specs.Scopes as instances
use Rattle.lq_refined_instances.specs.Scopes.{scope_in}
use Rattle.lq_refined_types.specs.Parts.Part.{Parts}
use Rattle.lq_refined_subtyping.specs.Table.Growing.{Extends-refl, Extends-trans}
use Rattle.lq_text_qualifiers.specs.Sorting.Views.{shape_view}
use Rattle.lq_text_qualifiers.specs.declared.sorting.shape.Shape.{Shape}
use Rattle.lq_refined_templates.specs.Templates.Cells.{one_unknown}
use Rattle.lq_refined_templates.specs.Templates.Scopes.{Unknown}
use Rattle.lq_generate_fresh.specs.Fresh.Views.{patterns_of, scopes_of, unknowns_of, Longer, IsMade}
use Rattle.lq_generate_fresh.specs.declared.fresh.templates.Templates.{Templates}

-- the parts of a top with the unknown of this number, where predicates speak of the shape
abbrev pub top_parts : ℕ → Option Shape → Parts
top_parts n None = []
top_parts n (Some s) = one_unknown n

abbrev pub top_unknowns : instances.Scope → Option Shape → List Unknown
top_unknowns Γ None = []
top_unknowns Γ (Some s) = (Γ, shape_view s) ∷ []

-- ---- scopes

pub scope_kept : (old new : List instances.Scope) (i : ℕ) → Longer old new → i < length old → scope_in new i ≡ scope_in old i
scope_kept old new i l h = ap (λ k. scope_in k i) l.is ∙ left old l.added i h
  where
    left : (a b : List instances.Scope) (i : ℕ) → i < length a → scope_in (a ++ b) i ≡ scope_in a i
    left [] b i h = absurd (omega arith)
    left (x ∷ a) b zero h = refl
    left (x ∷ a) b (suc i) h = left a b i (omega arith)

pub scope_there : (old new : List instances.Scope) (i : ℕ) → Longer old new → i < length old → i < length new
scope_there old new i l h =
    let e : length new ≡ length (old ++ l.added) = ap length l.is in let k = length-append old l.added in omega (arith, e, k, h)

pub Longer-refl : {A : Type 0} (a : List A) → Longer a a
Longer-refl a = record { added = []; is = sym (append-nil a) }

pub Longer-trans : {A : Type 0} (a b c : List A) → Longer a b → Longer b c → Longer a c
Longer-trans a b c p q = record { added = p.added ++ q.added; is = q.is ∙ (ap (λ l. l ++ q.added) p.is ∙ append_assoc a p.added q.added) }

-- the last scope of a longer table
pub scope_pushed : (all : List instances.Scope) (Γ : instances.Scope) → scope_in (all ++ Γ ∷ []) (length all) ≡ Γ
scope_pushed [] Γ = refl
scope_pushed (x ∷ all) Γ = scope_pushed all Γ

-- ---- templates

pub made_nothing : (a : Templates) → IsMade a a []
made_nothing a =
    record {
      types = Extends-refl a.types.rows.items;
      scopes = Longer-refl (scopes_of a);
      patterns = Longer-refl (patterns_of a);
      unknowns = sym (append-nil (unknowns_of a));
    }

pub made_both : (a b c : Templates) (us vs : List Unknown) → IsMade a b us → IsMade b c vs → IsMade a c (us ++ vs)
made_both a b c us vs p q = record {
  types = Extends-trans a.types.rows.items b.types.rows.items c.types.rows.items p.types q.types;
  scopes = Longer-trans (scopes_of a) (scopes_of b) (scopes_of c) p.scopes q.scopes;
  patterns = Longer-trans (patterns_of a) (patterns_of b) (patterns_of c) p.patterns q.patterns;
  unknowns = q.unknowns ∙ (ap (λ l. l ++ vs) p.unknowns ∙ append_assoc (unknowns_of a) us vs);
}

-- how many unknowns there are afterwards
pub made_count : (a b : Templates) (us : List Unknown) → IsMade a b us → length (unknowns_of b) ≡ length (unknowns_of a) + length us
made_count a b us p = ap length p.unknowns ∙ length-append (unknowns_of a) us
