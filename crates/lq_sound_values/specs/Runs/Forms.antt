-- Each form runs well where its parts do.
use Rattle.std.specs.Prelude.{ℕ, suc, ◌∷◌, [], Option, Some}
use Rattle.lq_base_names.specs.declared.place.Place.{Place}
use Rattle.lq_logic_predicates.specs.Formula.{Formula, negation}
use Rattle.lq_logic_predicates.specs.Sum.{Sum}
use Rattle.lq_refined_types.specs.Parts.Assignment.{Implied}
use Rattle.lq_refined_types.specs.Parts.Part.{known}
use Rattle.lq_refined_types.specs.Types.Context.{Context, guard}
use Rattle.lq_refined_types.specs.Types.Operations.{symbol_of}
use Rattle.lq_refined_types.specs.Types.Refined.{Refined, int_with, unit_type, function}
use Rattle.lq_refined_types.specs.Subtyping.Subtype.{facts, IsSubtype}
use Rattle.lq_meaning_steps.specs.Model.Core.{Core, variable, one, assert, print, read, let_in, let_rec, fun, call, if_else, Value, v_rec, without, close}
use Rattle.lq_meaning_steps.specs.Model.Operations.{World}
use Rattle.lq_sound_values.specs.Inhabitants.Truth.{Givens, Scene}
use Rattle.lq_sound_values.specs.Inhabitants.Shut.{shut, with_argument}
use Rattle.lq_sound_values.specs.Inhabitants.Inhabits.{Table, Inhabits, Agrees}
use Rattle.lq_sound_values.specs.Inhabitants.Runs.{RunsWell, LandsIn}
use Rattle.lq_sound_values.specs.Inhabitants.Below.{Below}
use Rattle.lq_sound_values.specs.Inclusion.Apart.{IsKnown, Turns, Apart}
use Rattle.lq_sound_values.specs.Inclusion.Laws.{IsScene}
use Rattle.lq_sound_values.specs.Inclusion.Symbols.{TypeOn}
use Rattle.lq_sound_values.specs.Runs.Closed.{names_in, bound, IsClosed, Binds}
use Rattle.lq_sound_values.specs.Runs.Meets.{pairs, Variables, Meets}
use Rattle.lq_sound_values.specs.Runs.Runs.{RunsTo, RunsToValue, Exactly, RunsToTruth, RunsToNumber, RunsToUnit}

-- an expression of a type has its supertypes
abbrev pub SubtypeRuns : Type 0
SubtypeRuns =
    (S : Scene) → IsScene S → (by : Variables) (Γ : Context) (e : Core) (t u : Refined) (d : IsSubtype S.setting S.assignment Γ t u) → Apart S d
    → RunsTo S by Γ e t → RunsTo S by Γ e u

-- `let`, where the result's type doesn't speak of the name
abbrev pub LetRuns : Type 0
LetRuns =
    (S : Scene) → IsScene S → (by : Variables) (Γ : Context) (x : ℕ) (e b : Core) (t u : Refined) → Binds S (symbol_of x) t Γ
    → TypeOn S.assignment u (names_in Γ) → RunsTo S by Γ e t → RunsTo S by (bound x t Γ) b u → RunsTo S by Γ (let_in (variable x) e b) u

abbrev pub ReadRuns : Type 0
ReadRuns = (S : Scene) (by : Variables) (Γ : Context) (p : Place) (c : Core) → RunsToUnit S by Γ c → RunsTo S by Γ (one (read p) c) (int_with [])

-- `if`, whose branches run under the condition and under its negation
abbrev pub IfRuns : Type 0
IfRuns =
    (S : Scene) → IsScene S → (by : Variables) (Γ : Context) (c a b : Core) (p : Formula) (t : Refined) → IsClosed S (guard (known p) ∷ Γ)
    → IsClosed S (guard (known (negation p)) ∷ Γ) → RunsToTruth S by Γ c p → RunsTo S by (guard (known p) ∷ Γ) a t
    → RunsTo S by (guard (known (negation p)) ∷ Γ) b t → RunsTo S by Γ (if_else c a b) t

-- `assert`, of what follows from the hypotheses
abbrev pub AssertRuns : Type 0
AssertRuns =
    (S : Scene) (by : Variables) (Γ : Context) (l : Place) (c : Core) (p : Formula) → RunsToTruth S by Γ c p
    → Implied S.assignment (facts S.setting Γ) (known p) → RunsTo S by Γ (one (assert l) c) unit_type

abbrev pub PrintRuns : Type 0
PrintRuns = (S : Scene) (by : Variables) (Γ : Context) (c : Core) (n : Sum) → RunsToNumber S by Γ c n → RunsTo S by Γ (one print c) unit_type

-- a function, whose body runs to a type that turns into the result's where the argument is read by the function type's own name
abbrev pub FunctionRuns : Type 0
FunctionRuns =
    (S : Scene) → IsScene S → (by : Variables) (Γ : Context) (y : ℕ) (b : Core) (x : Option ℕ) (t u r : Refined) → Binds S (symbol_of y) t Γ
    → Turns S t (Some y) r x u → RunsTo S by (bound y t Γ) b r → RunsTo S by Γ (fun (variable y) b) (function x t u)

-- a recursive function, in whose body its own name has its type, and what follows it
abbrev pub RecursionRuns : Type 0
RecursionRuns =
    (S : Scene) → IsScene S → (by : Variables) (Γ : Context) (f y : ℕ) (b : Core) (x : Option ℕ) (t u r : Refined)
    → Binds S (symbol_of f) (function x t u) Γ → Binds S (symbol_of y) t (bound f (function x t u) Γ) → TypeOn S.assignment (function x t u) (names_in Γ) → Turns S t (Some y) r x u
    → RunsTo S by (bound y t (bound f (function x t u) Γ)) b r → (e : Core) (v : Refined) → TypeOn S.assignment v (names_in Γ)
    → RunsTo S by (bound f (function x t u) Γ) e v → RunsTo S by Γ (let_rec f (variable y) b e) v

-- and such a function inhabits its type, as long as the names' values are good
abbrev pub RecursiveValuesFit : Type 0
RecursiveValuesFit =
    (S : Scene) → IsScene S → (by : Variables) (Γ : Context) (f y : ℕ) (b : Core) (x : Option ℕ) (t u r : Refined)
    → Binds S (symbol_of f) (function x t u) Γ → Binds S (symbol_of y) t (bound f (function x t u) Γ) → TypeOn S.assignment (function x t u) (names_in Γ) → Turns S t (Some y) r x u
    → RunsTo S by (bound y t (bound f (function x t u) Γ)) b r → (n : ℕ) (W : Table) (σ : Givens) → Meets S by n W Γ σ
    → Inhabits S n W (shut σ by.types (function x t u)) (v_rec f (variable y) (close (without (f ∷ y ∷ []) (pairs σ)) b))

-- a call on an operand that runs to this value: the result has its type where the function type's own name has the value
abbrev pub CallRuns : Type 0
CallRuns =
    (S : Scene) (by : Variables) (Γ : Context) (e c : Core) (x : Option ℕ) (t u r : Refined) → RunsToValue S by Γ e (function x t r)
    → ((σ : Givens) → IsKnown S Γ σ → Below S (shut σ by.types u) (shut σ by.types t)) → (n : ℕ) (W : Table) (σ : Givens) (w : World)
    → Meets S by (suc n) W Γ σ → Agrees S n W w → (a : Value) → Inhabits S (suc n) W (shut σ by.types u) a
    → ((k : ℕ) (z : World) → RunsWell k (close (pairs σ) c) z (Exactly a z))
    → RunsWell n (close (pairs σ) (call e c)) w (LandsIn S W (shut (with_argument x a σ) by.types r))
