-- Names that become visible, are visible no longer, and are looked at, by the bindings of a pattern.
use Rattle.std.proofs.Common.{◌≡◌, ℕ, zero, suc, List, [], ◌∷◌, ◌++◌, map, drop, reverse, length, Option, refl, sym, ap, ◌∙◌}
use Rattle.std.proofs.lemmas.List.{length-map, length-reverse, drop_at}
use Rattle.lq_text_tree.specs.Items.{Named}
use Rattle.lq_text_tree.specs.Pattern.{Pattern, bound_in}
use Rattle.lq_text_scope.specs.Complaints.{Complaint, least_with}
use Rattle.lq_text_scope.specs.Datatypes.{name_of, parameter_name}
use Rattle.lq_text_scope.specs.Known.{Arity, known_with}
use Rattle.lq_text_scope.specs.Patterns.{binders_in, built_in, of_pattern, repeated, shown_name, shown_names}
use Rattle.lq_text_scope.specs.Views.{binding_view}
use Rattle.lq_text_scope.specs.declared.binders.Binding.{Binding}
use Rattle.lq_text_scope.proofs.Constructing.{shown_known}
use Rattle.lq_text_scope.proofs.PatternRows.{names_bound}
use Rattle.lq_text_scope.proofs.Rows.{least_acts}

pub dropped : {X Y : Type 0} (f : X → Y) (n : ℕ) (xs : List X) → map f (drop n xs) ≡ drop n (map f xs)
dropped f zero xs = refl
dropped f (suc n) [] = refl
dropped f (suc n) (x ∷ xs) = dropped f n xs

-- the bindings of a pattern, as they stand in memory, and their number
pub bound_count : (p : Pattern) (bs : List Binding) → map binding_view bs ≡ binders_in p → length bs ≡ length (bound_in p)
bound_count p bs are = sym (length-map bs binding_view) ∙ ap length are ∙ sym (length-map (binders_in p) parameter_name) ∙ ap length (names_bound p)

pub hidden : (p : Pattern) (bs : List Binding) (n : ℕ) (vs ws : List Arity) → map binding_view bs ≡ binders_in p → n ≡ length bs → ws ≡ drop n vs
    → map name_of ws ≡ drop (length (bound_in p)) (map name_of vs)
hidden p bs n vs ws are count is = ap (map name_of) is ∙ dropped name_of n vs ∙ ap (λ (m : ℕ). drop m (map name_of vs)) (count ∙ bound_count p bs are)

pub shown : (p : Pattern) (bs : List Binding) (vs ws : List Arity) → map binding_view bs ≡ binders_in p → ws ≡ shown_names (map binding_view bs) ++ vs
    → map name_of ws ≡ reverse (bound_in p) ++ map name_of vs
shown p bs vs ws are is =
    ap (map name_of) is ∙ shown_known (map binding_view bs) vs
    ∙ ap (λ (ns : List ℕ). reverse ns ++ map name_of vs) (ap (map parameter_name) are ∙ names_bound p)

-- what was shown is hidden again
pub back : (ns : List Named) (n : ℕ) (seen shown : List Arity) → n ≡ length ns → seen ≡ [] → shown ≡ shown_names ns ++ seen → drop n shown ≡ []
back ns n seen shown count none is =
    ap (drop n) is ∙ drop_at (shown_names ns) seen n (length-reverse (map shown_name ns) ∙ length-map ns shown_name ∙ sym count) ∙ none

pub declared : (known : List Arity) (p : Pattern) (ns : List Named) (seen : List Arity) (best built found : Option Complaint) → ns ≡ binders_in p → seen ≡ []
    → built ≡ least_with best (built_in known p) → found ≡ least_with built (repeated (map name_of seen) ns) → found ≡ least_with best (of_pattern known p)
declared known p ns seen best built found are none builds repeats =
    repeats ∙ ap (λ (l : List Arity). least_with built (repeated (map name_of l) ns)) none ∙ ap (λ (l : List Named). least_with built (repeated [] l)) are
    ∙ ap (λ (b : Option Complaint). least_with b (repeated [] (binders_in p))) builds
    ∙ sym (least_acts best (built_in known p) (repeated [] (binders_in p)))

pub known_same : (vs ws : List ℕ) (cs : List Arity) (ts : List Arity) → vs ≡ ws → known_with vs cs ts ≡ known_with ws cs ts
known_same vs ws cs ts is = ap (λ (l : List ℕ). known_with l cs ts) is
