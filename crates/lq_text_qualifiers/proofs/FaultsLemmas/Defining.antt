-- Datatypes and measures, one after another.
use mathlib.Core.Path.{fun_ext}
use Rattle.std.proofs.Common.{◌≡◌, ℕ, ◌+◌, ◌<◌, List, [], ◌∷◌, ◌++◌, map, drop, length, get_or, Option, sym, ap, ◌∙◌, refl}
use Rattle.lq_text_scope.specs.Views.{binding_view}
use Rattle.lq_text_scope.specs.declared.binders.Binding.{Binding}
use Rattle.lq_text_qualifiers.specs.Faults.Complaints.{Complaint, least_with}
use Rattle.lq_text_qualifiers.specs.Faults.Equations.{again, repeated}
use Rattle.lq_text_qualifiers.specs.Faults.Lookups.{Names, with_name}
use Rattle.lq_text_qualifiers.proofs.FaultsLemmas.Rows.{drop_or, noted}
use Rattle.std.proofs.lemmas.List.{append_assoc}
use Rattle.lq_text_walk.specs.Scoped.Signature.{DataTree}
use Rattle.lq_text_qualifiers.specs.Faults.Datatypes.{Made, entry_of, constructors_in}

-- the names that are defined again, one after another
pub next_repeated : (best new : Option Complaint) (old now : Names) (bs : List Binding) (at : ℕ) (b d : Binding) → at < length bs → b ≡ get_or bs at d
    → ((x : ℕ) → now x ≡ with_name b.name.0 old x) → new ≡ least_with best (again old b.place b.name.0)
    → least_with new (repeated now (map binding_view (drop (at + 1) bs))) ≡ least_with best (repeated old (map binding_view (drop at bs)))
next_repeated best new old now bs at b d less is more found =
    let names : now ≡ with_name b.name.0 old = fun_ext more in
    ap (λ (f : Names). least_with new (repeated f (map binding_view (drop (at + 1) bs)))) names
    ∙ noted best new (again old b.place b.name.0) (repeated (with_name b.name.0 old) (map binding_view (drop (at + 1) bs))) found
    ∙ ap (λ (l : List Binding). least_with best (repeated old (map binding_view l))) (sym (drop_or bs at b d less is))
