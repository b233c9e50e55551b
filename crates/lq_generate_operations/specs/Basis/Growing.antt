-- A basis and the types of names where the table of types grows, and where names are bound and let go.
use Rattle.std.proofs.Common.{◌≡◌, ℕ, ◌-◌, ◌<◌, ◌==◌, Bool, true, false, cond, List, [], ◌∷◌, ◌++◌, All, length, drop, Option, Some, refl, sym, ap, ap₂, subst, append_assoc, ◌∙◌, arith}
use Rattle.std.proofs.lemmas.List.{drop_at, length-append}
use Rattle.std.proofs.lemmas.List.Elements.{All-cons, All-head, All-same, All-tail, All-weaker}
use Rattle.lq_refined_rules.specs.Checks.Basis as checks
use Rattle.lq_refined_types.specs.Parts.Part.{Part, Scopes}
use Rattle.lq_logic_predicates.specs.declared.symbol.Symbol.TheVariants.{Position}
use Rattle.lq_refined_types.specs.Types.Context.{name, guard, Context}
use Rattle.lq_refined_types.specs.Types.Operations.{symbol_of}
use Rattle.lq_refined_types.specs.Types.Refined.{Refined, more}
use Rattle.lq_refined_subtyping.specs.Table.Forms.{at, each}
use Rattle.lq_refined_subtyping.specs.Table.Growing.{extends-at, extends-there}
use Rattle.lq_refined_subtyping.specs.Table.Rows.{grown, Extends}
use Rattle.lq_refined_subtyping.specs.Table.Whole.{count_of, refined_at, Grows}
use Rattle.lq_refined_subtyping.specs.declared.table.table.RefinedTypes.{RefinedTypes}
use Rattle.lq_refined_subtyping.specs.declared.table.table.Row.{Row}
use Rattle.lq_refined_subtyping.specs.Split.Fields.{fields_at}
use Rattle.lq_refined_subtyping.specs.Split.Growing.{all-grown, there-grown}
use Rattle.lq_refined_types.specs.Subtyping.Splitting.{first_of}
use Rattle.lq_generate_operations.specs.Basis.Basis.{rows_at, scopes_of, types_in, IsThere, Stands}
use Rattle.lq_generate_operations.specs.Basis.Knowing.{type_by, type_named, AreBelow, Knows}
use Rattle.lq_generate_operations.specs.Basis.Names.{bound, IsLonger}
use Rattle.lq_generate_operations.specs.Basis.Undoing.{row_in}
use Rattle.lq_generate_operations.specs.declared.basis.basis.Basis.{Basis}
use Rattle.lq_generate_operations.specs.declared.basis.names.Names.{Names}

-- ---- the table of types grows

-- types of these numbers stay
pub each-grown : (scopes : Scopes) (old new : List Row) (is : List ℕ) → Extends old new → All (λ p. p < length old) is
    → each (grown scopes [] new) is ≡ each (grown scopes [] old) is
each-grown scopes old new [] e h = refl
each-grown scopes old new (i ∷ is) e h =
    ap₂ more (extends-at scopes old new i e (All-head (λ p. p < length old) i is h))
    (each-grown scopes old new is e (All-tail (λ p. p < length old) i is h))

pub is_there-grown : (old new : RefinedTypes) (b : Basis) → Grows old new → IsThere (count_of old) b → IsThere (count_of new) b
is_there-grown old new b g h = record {
  fields = there-grown old.rows.items new.rows.items b.fields.now g h.fields;
  templates = λ p. all-grown old.rows.items new.rows.items (rows_at b.templates.now p) g (h.templates p);
}

pub stands-grown : (P : checks.Basis) (b : Basis) (old new : RefinedTypes) → Grows old new → IsThere (count_of old) b → Stands P b old → Stands P b new
stands-grown P b old new g h s =
    let same = λ (is : List ℕ) (k : All (λ r. r < count_of old) is). each-grown (scopes_of b) old.rows.items new.rows.items is g k in
    record {
      scopes = s.scopes;
      fields = record { are = λ c. same (fields_at b.fields.now c) (h.fields c) ∙ s.fields.are c };
      constructors = s.constructors;
      equations = s.equations;
      template = λ p. ap first_of (same (rows_at b.templates.now p) (h.templates p)) ∙ s.template p;
      type_arguments = λ i. same (rows_at b.templates.now i) (h.templates i) ∙ s.type_arguments i;
    }

pub are_below-grown : (old new : RefinedTypes) (names : Names) → Grows old new → AreBelow (count_of old) names → AreBelow (count_of new) names
are_below-grown old new names g h =
    All-weaker (λ p. p.1 < count_of old) (λ p. p.1 < count_of new) (λ p l. extends-there old.rows.items new.rows.items p.1 g l) (bound names) h

-- ---- the type of a name

pub by-cond : (all : List Refined) (b : Bool) (r : ℕ) (o : Option ℕ) → type_by all (cond b (Some r) o) ≡ cond b (at all r) (type_by all o)
by-cond all true r o = refl
by-cond all false r o = refl

row-below-by : (n k r : ℕ) (b : Bool) (o : Option ℕ) → cond b (Some k) o ≡ Some r → k < n → (o ≡ Some r → r < n) → r < n
row-below-by n k r true o e l h = let s : k ≡ r = cc in subst (λ j. j < n) s l
row-below-by n k r false o e l h = h e

-- the number of a name's type is one of those that were bound
pub row-below : (n : ℕ) (ps : List (ℕ × ℕ)) (x r : ℕ) → row_in ps x ≡ Some r → All (λ p. p.1 < n) ps → r < n
row-below n [] x r e h = absurd (cc)
row-below n (p ∷ ps) x r e h =
    row-below-by n p.1 r (p.0 == x) (row_in ps x) e (All-head (λ q. q.1 < n) p ps h)
    (λ q. row-below n ps x r q (All-tail (λ q. q.1 < n) p ps h))

named-grown : (scopes : Scopes) (old new : List Row) (ps : List (ℕ × ℕ)) (x : ℕ) → Extends old new → All (λ p. p.1 < length old) ps
    → type_named (grown scopes [] new) ps x ≡ type_named (grown scopes [] old) ps x
named-grown scopes old new [] x e h = refl
named-grown scopes old new (p ∷ ps) x e h =
    let was = grown scopes [] old in
    let now = grown scopes [] new in
    by-cond now (p.0 == x) p.1 (row_in ps x)
    ∙ ap₂ (cond (p.0 == x)) (extends-at scopes old new p.1 e (All-head (λ q. q.1 < length old) p ps h))
    (named-grown scopes old new ps x e (All-tail (λ q. q.1 < length old) p ps h))
    ∙ sym (by-cond was (p.0 == x) p.1 (row_in ps x))

pub knows-grown : (Γ : Context) (names : Names) (b : Basis) (old new : RefinedTypes) → Grows old new → AreBelow (count_of old) names
    → Knows Γ names b old → Knows Γ names b new
knows-grown Γ names b old new g h k =
    record { are = λ x. named-grown (scopes_of b) old.rows.items new.rows.items (bound names) x g h ∙ k.are x }

-- ---- names are bound and let go

pub knows-nothing : (names : Names) (b : Basis) (types : RefinedTypes) → bound names ≡ [] → Knows [] names b types
knows-nothing names b types e = record { are = λ x. ap (λ ps. type_named (types_in b types) ps x) e }

pub knows-bound : (Γ : Context) (names new : Names) (b : Basis) (types : RefinedTypes) (x r : ℕ) → bound new ≡ (x, r) ∷ bound names
    → Knows Γ names b types → Knows (name (symbol_of x) (refined_at (scopes_of b) types r) ∷ Γ) new b types
knows-bound Γ names new b types x r e k =
    let all = types_in b types in
    record {
      are = λ y. ap (λ ps. type_named all ps y) e ∙ by-cond all (x == y) r (row_in (bound names) y)
          ∙ ap (cond (x == y) (at all r)) (k.are y);
    }

pub knows-guarded : (Γ : Context) (names : Names) (b : Basis) (types : RefinedTypes) (p : Part) → Knows Γ names b types → Knows (guard p ∷ Γ) names b types
knows-guarded Γ names b types p k = record { are = k.are }

pub knows-same : (Γ : Context) (names new : Names) (b : Basis) (types : RefinedTypes) → bound new ≡ bound names → Knows Γ names b types → Knows Γ new b types
knows-same Γ names new b types e k = record { are = λ x. ap (λ ps. type_named (types_in b types) ps x) e ∙ k.are x }

pub are_below-nothing : (n : ℕ) (names : Names) → bound names ≡ [] → AreBelow n names
are_below-nothing n names e = All-same (λ p. p.1 < n) (bound names) [] e (λ i d h. absurd (omega arith))

pub are_below-bound : (n : ℕ) (names new : Names) (x r : ℕ) → bound new ≡ (x, r) ∷ bound names → r < n → AreBelow n names → AreBelow n new
are_below-bound n names new x r e l h =
    All-same (λ p. p.1 < n) (bound new) ((x, r) ∷ bound names) e (All-cons (λ p. p.1 < n) (x, r) (bound names) l h)

pub are_below-same : (n : ℕ) (names new : Names) → bound new ≡ bound names → AreBelow n names → AreBelow n new
are_below-same n names new e h = All-same (λ p. p.1 < n) (bound new) (bound names) e h

-- ---- names that are bound behind others

pub longer-same : (old new : Names) → bound new ≡ bound old → IsLonger old new
longer-same old new e = record { added = []; is = e }

pub longer-bound : (old new : Names) (x r : ℕ) → bound new ≡ (x, r) ∷ bound old → IsLonger old new
longer-bound old new x r e = record { added = (x, r) ∷ []; is = e }

pub longer-trans : (old mid new : Names) → IsLonger old mid → IsLonger mid new → IsLonger old new
longer-trans old mid new p q =
    record { added = q.added ++ p.added; is = q.is ∙ ap (λ l. q.added ++ l) p.is ∙ sym (append_assoc q.added p.added (bound old)) }

-- they are let go again
pub longer-back : (old mid new : Names) (len : ℕ) → IsLonger old mid → len ≡ length (bound old)
    → bound new ≡ drop (length (bound mid) - len) (bound mid) → bound new ≡ bound old
longer-back old mid new len p e h =
    let k = length-append p.added (bound old) in
    let m : length (bound mid) ≡ length (p.added ++ bound old) = ap length p.is in
    let n : length p.added ≡ length (bound mid) - len = omega arith in
    h ∙ ap (drop (length (bound mid) - len)) p.is ∙ drop_at p.added (bound old) (length (bound mid) - len) n

-- what a further call asks
pub ruleset checking = (is_there-grown, are_below-grown)
