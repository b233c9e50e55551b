-- What operations without branches ask for.
use Rattle.std.proofs.Common.{◌≡◌, ℕ, suc, ◌+◌, ◌<◌, List, [], ◌∷◌, ◌++◌, length, take, get_or, refl, sym, ap, ◌∙◌, arith}
use Rattle.std.proofs.lemmas.List.{length-map, length-take-le, map-append, take_more}
use Rattle.lq_refined_rules.specs.Checks.Basis.{Basis}
use Rattle.lq_refined_rules.specs.Checks.Listing.{from}
use Rattle.lq_refined_rules.specs.Checks.Operation.{not_zero}
use Rattle.lq_refined_rules.specs.Checks.Pure.{pure_type}
use Rattle.lq_refined_rules.specs.Checks.Tree as t
use Rattle.lq_base_names.specs.declared.place.Place.{Place}
use Rattle.lq_refined_rules.specs.Obligations.Obligations.{demand, of_operation, operands, subtyping}
use Rattle.lq_refined_templates.specs.Programs.BlockView.{quotient_view}
use Rattle.lq_refined_templates.specs.Programs.PureView.{pure_view, pures_view}
use Rattle.lq_refined_templates.specs.declared.programs.pure.Pure.{Pure}
use Rattle.lq_refined_templates.specs.declared.programs.block.Quotient.{Quotient}
use Rattle.lq_refined_templates.specs.declared.programs.block.Quotient.TheVariants as quotient
use Rattle.lq_refined_types.specs.Types.Context.{Context}
use Rattle.lq_refined_types.specs.Types.Refined.{Refined, type_at, Refineds, none, more}
use Rattle.lq_refined_types.specs.Subtyping.Implication.{of_divisor, Origin}
use Rattle.lq_refined_types.specs.Subtyping.Splitting.{first_of, rest_of}

pub of_quotient : (P : Basis) (Γ : Context) (l : Place) (q : Quotient) (x y : t.Pure) (s : Refined)
    → of_operation P Γ l (quotient_view q x y) s ≡ demand P Γ (not_zero y) (from l of_divisor)
of_quotient P Γ l quotient.Div x y s = refl
of_quotient P Γ l quotient.Mod x y s = refl

-- ---- operands, one more each time

type-first : (ts : Refineds) → first_of ts ≡ type_at ts 0
type-first none = refl
type-first (more t ts) = refl

type-rest : (ts : Refineds) (n : ℕ) → type_at (rest_of ts) n ≡ type_at ts (suc n)
type-rest none n = refl
type-rest (more t ts) n = refl

pub operands-push : (P : Basis) (Γ : Context) (es : List t.Pure) (e : t.Pure) (ts : Refineds) (o : Origin)
    → operands P Γ (es ++ e ∷ []) ts o ≡ operands P Γ es ts o ++ subtyping P Γ (pure_type P Γ e) (type_at ts (length es)) o
operands-push P Γ [] e ts o = ap (λ r. subtyping P Γ (pure_type P Γ e) r o) (type-first ts)
operands-push P Γ (a ∷ es) e ts o =
    ap (λ l. subtyping P Γ (pure_type P Γ a) (first_of ts) o ++ l)
    (operands-push P Γ es e (rest_of ts) o ∙ ap (λ r. operands P Γ es (rest_of ts) o ++ subtyping P Γ (pure_type P Γ e) r o) (type-rest ts (length es)))

-- the operand of a place, which are pure expressions in memory
pub operands-more : (P : Basis) (Γ : Context) (es : List Pure) (i : ℕ) (d : Pure) (ts : Refineds) (o : Origin) → i < length es
    → operands P Γ (pures_view (take i es)) ts o ++ subtyping P Γ (pure_type P Γ (pure_view (get_or es i d))) (type_at ts i) o
    ≡ operands P Γ (pures_view (take (i + 1) es)) ts o
operands-more P Γ es i d ts o h =
    let n : length (pures_view (take i es)) ≡ i = length-map (take i es) pure_view ∙ length-take-le i es (omega arith) in
    let e : pures_view (take (i + 1) es) ≡ pures_view (take i es) ++ pure_view (get_or es i d) ∷ [] =
    ap pures_view (take_more es i d h) ∙ map-append pure_view (take i es) (get_or es i d ∷ []) in
    sym (ap (λ l. operands P Γ l ts o) e ∙ operands-push P Γ (pures_view (take i es)) (pure_view (get_or es i d)) ts o
    ∙ ap (λ k. operands P Γ (pures_view (take i es)) ts o ++ subtyping P Γ (pure_type P Γ (pure_view (get_or es i d))) (type_at ts k) o) n)
