-- Equations that come visit by visit: what stays true of those that there were.
use Rattle.std.proofs.Common.{◌≡◌, ◌⊎◌, inl, inr, ℕ, suc, ◌+◌, ◌<◌, ◌≤◌, Bool, true, false, not, ◌&&◌, nat_lt, List, [], ◌∷◌, ◌++◌, Option, Some, None, All, get_or, sym, ap, subst, ◌∙◌, arith}
use Rattle.std.proofs.lemmas.Bool.{le-ltb}
use Rattle.std.proofs.lemmas.List.Elements.{All-append}
use Rattle.lq_text_tree.specs.MlType.{MlType}
use Rattle.lq_text_tree.specs.Types.{Signature}
use Rattle.lq_types_unify.specs.declared.arena.Equation.{Equation}
use Rattle.lq_text_walk.specs.Walk.Visits.{Visit}
use Rattle.lq_types_rules.specs.declared.equations.system.System.{System}
use Rattle.lq_types_rules.specs.Equations.Solutions.{Meets}
use Rattle.lq_types_rules.specs.Equations.Adding.{IsSystem, Agree, Adds, count_of}
use Rattle.lq_types_rules.specs.Equations.Gathered.{VisitRule}
use Rattle.lq_types_rules.specs.Equations.Solved.{Solves}
use Rattle.lq_types_rules.proofs.EquationsLemmas.Growing.{fits_before, meets_later}
use Rattle.lq_types_rules.specs.Typings.Uses.{Known, General, GeneralUse, none_known, behind, behind_all, use_at, ObeysFrom}
use Rattle.lq_types_rules.specs.Visits.Owning.{binder_slots, visit_slots, slots_by, is_slot_of, IsOwn}
use Rattle.lq_types_infer.specs.Inference.Copying.{AddsCopy, AddsSame}
use Rattle.lq_types_infer.specs.Inference.Gathering.{StepBy, IsComplete}
use Rattle.lq_types_infer.proofs.InferenceLemmas.Naming.{all_left, all_right, all_first, all_rest, visit_rests}
use Rattle.lq_types_infer.proofs.InferenceLemmas.Using.{keeps, copy_local}
use Rattle.lq_types_infer.proofs.InferenceLemmas.Sharing.{same_longer, same_system, same_keeps, same_local}

abbrev pub IsSolved : System → (ℕ → MlType) → Type 0
IsSolved s types = Solves s s.equations.items types

-- ---- one step rests on the slots that it names

-- other types of the old nodes that solve the old equations go on to the new ones, where they have the same types of these slots
pub record IsLocal (old new : System) (names : List ℕ) : Type 0 where
  pub keeps_solved : (types : ℕ → MlType) → IsSolved new types → IsSolved old types
  pub goes_on : (types t : ℕ → MlType) → IsSolved new types → IsSolved old t → All (λ i. t i ≡ types i) names → (later : ℕ → MlType) × Agree (count_of old) t later × IsSolved new later

module _ (g : Signature) (nodes : ℕ) (v : Visit) (old new : System) (sound : IsSystem old) (b : Adds old new (VisitRule g nodes v)) where
  rule_keeps : (types : ℕ → MlType) → IsSolved new types → IsSolved old types
  rule_keeps types h = record {
    fits = fits_before old new b.more b.grows types h.fits;
    meets = all_left (λ (e : Equation). types e.left ≡ types e.right) old.equations.items b.more (subst (Meets types) b.grows.equations_are h.meets);
  }

  pub rule_says : (types : ℕ → MlType) → IsSolved new types → VisitRule g nodes v types
  rule_says types h = b.says types h.fits (all_right (λ (e : Equation). types e.left ≡ types e.right) old.equations.items b.more (subst (Meets types) b.grows.equations_are h.meets))

  pub rule_said : (t : ℕ → MlType) → IsSolved old t → VisitRule g nodes v t → (later : ℕ → MlType) × Agree (count_of old) t later × IsSolved new later
  rule_said t s r =
      let x = b.said t s.fits r in (
        x.later,
        x.agree,
        record {
          fits = x.fits;
          meets = subst (Meets x.later) (sym b.grows.equations_are)
              (All-append (λ (e : Equation). x.later e.left ≡ x.later e.right) old.equations.items b.more (meets_later (count_of old) old.equations.items t x.later sound.nodes x.agree s.meets) x.meets);
        },
      )

  pub rule_local : IsLocal old new (visit_slots nodes v)
  rule_local = record {
    keeps_solved = rule_keeps;
    goes_on = λ types t h s e. rule_said t s (visit_rests nodes types t g v e (rule_says types h));
  }

module _ (nodes : ℕ) (u : GeneralUse) (old new : System) (sound : IsSystem old) (c : AddsCopy old new (binder_slots nodes u.before) (nodes + u.binder) u.node) where
  pub copy_is_local : IsLocal old new (u.node ∷ binder_slots nodes u.before)
  copy_is_local = record {
    keeps_solved = keeps old new (binder_slots nodes u.before) (nodes + u.binder) u.node sound c c.definition_in c.node_in c.fixed_in;
    goes_on = λ types t h s e. copy_local old new (binder_slots nodes u.before) (nodes + u.binder) u.node sound c c.definition_in c.node_in c.fixed_in types t h s
        (all_first (λ i. t i ≡ types i) u.node (binder_slots nodes u.before) e) (all_rest (λ i. t i ≡ types i) u.node (binder_slots nodes u.before) e);
  }

module _ (nodes : ℕ) (u : GeneralUse) (old new : System) (c : AddsSame old new (binder_slots nodes u.before) (nodes + u.binder) u.node) where
  pub same_is_local : IsLocal old new (u.node ∷ binder_slots nodes u.before)
  same_is_local = record {
    keeps_solved = same_keeps old new (binder_slots nodes u.before) (nodes + u.binder) u.node c;
    goes_on = λ types t h s e. same_local old new (binder_slots nodes u.before) (nodes + u.binder) u.node c types t h s
        (all_first (λ i. t i ≡ types i) u.node (binder_slots nodes u.before) e) (all_rest (λ i. t i ≡ types i) u.node (binder_slots nodes u.before) e);
  }

pub step_local_by : (g : Signature) (nodes : ℕ) (v : Visit) (old new : System) → IsSystem old → (o : Option GeneralUse) → StepBy g nodes o v old new → IsLocal old new (slots_by nodes o (visit_slots nodes v))
step_local_by g nodes v old new s None b = rule_local g nodes v old new s b
step_local_by g nodes v old new s (Some u) (inl c) = copy_is_local nodes u old new s c
step_local_by g nodes v old new s (Some u) (inr c) = same_is_local nodes u old new c

pub step_system_by : (g : Signature) (nodes : ℕ) (v : Visit) (old new : System) → IsSystem old → (o : Option GeneralUse) → StepBy g nodes o v old new → IsSystem new × (count_of old ≤ count_of new)
step_system_by g nodes v old new s None b = (b.grows.system, b.grows.longer)
step_system_by g nodes v old new s (Some u) (inl c) = (c.system, c.longer)
step_system_by g nodes v old new s (Some u) (inr c) = (
  same_system old new (binder_slots nodes u.before) (nodes + u.binder) u.node c s,
  same_longer old new (binder_slots nodes u.before) (nodes + u.binder) u.node c,
)

-- ---- slots that are of the items up to one, but for those of definitions before that aren't generalised

abbrev pub is_private : ℕ → (ℕ → ℕ) → ℕ → List ℕ → ℕ → Bool
is_private nodes owner n before i = nat_lt (owner i) (suc n) && not (is_slot_of nodes before i)

-- a generalised definition of an earlier item, whose private slots aren't those of definitions that aren't generalised
pub record IsPast (nodes slots : ℕ) (owner : ℕ → ℕ) (now : ℕ) (plain : List ℕ) (binder : ℕ) (before : List ℕ) (n : ℕ) : Type 0 where
  pub past : n < now
  pub inside : nodes + binder < slots
  pub before_in : (i : ℕ) → is_slot_of nodes before i ≡ true → i < slots
  pub apart : (i : ℕ) → is_slot_of nodes plain i ≡ true → is_private nodes owner n before i ≡ false

-- the same types of what isn't private
abbrev pub IsOff : ℕ → ℕ → (ℕ → ℕ) → ℕ → List ℕ → (ℕ → MlType) → (ℕ → MlType) → Type 0
IsOff nodes slots owner n before types t = (i : ℕ) → i < slots → is_private nodes owner n before i ≡ false → t i ≡ types i

-- The definition's type can be that of any solution, and what isn't private stays, where the types of the definitions before that aren't
-- generalised are the same.
abbrev pub CanChange : ℕ → ℕ → (ℕ → ℕ) → System → General → ℕ → Type 0
CanChange nodes slots owner s d n = (types t : ℕ → MlType) → IsSolved s types → IsSolved s t → All (λ i. t i ≡ types i) (binder_slots nodes d.before)
    → (other : ℕ → MlType) × IsSolved s other × (other (nodes + d.binder) ≡ t (nodes + d.binder)) × IsOff nodes slots owner n d.before types other

abbrev pub IsGeneral : ℕ → ℕ → (ℕ → ℕ) → ℕ → List ℕ → System → General → Type 0
IsGeneral nodes slots owner now plain s d = (n : ℕ) × IsPast nodes slots owner now plain d.binder d.before n × CanChange nodes slots owner s d n

-- In each solution the definition's type can be that of the use, and what isn't private stays.
abbrev pub CanBeUsed : ℕ → ℕ → (ℕ → ℕ) → System → GeneralUse → ℕ → Type 0
CanBeUsed nodes slots owner s u n = (types : ℕ → MlType) → IsSolved s types
    → (other : ℕ → MlType) × IsSolved s other × (other (nodes + u.binder) ≡ types u.node) × IsOff nodes slots owner n u.before types other

abbrev pub HoldsBy : Signature → ℕ → ℕ → (ℕ → ℕ) → ℕ → List ℕ → System → Option GeneralUse → Visit → Type 0
HoldsBy g nodes slots owner now plain s None v = (types : ℕ → MlType) → IsSolved s types → VisitRule g nodes v types
HoldsBy g nodes slots owner now plain s (Some u) v = (n : ℕ) × IsPast nodes slots owner now plain u.binder u.before n × CanBeUsed nodes slots owner s u n

abbrev pub HoldsFrom : Signature → ℕ → ℕ → (ℕ → ℕ) → ℕ → List ℕ → System → Known → List Visit → Type 0
HoldsFrom g nodes slots owner now plain s k [] = Unit {0}
HoldsFrom g nodes slots owner now plain s k (v ∷ vs) = HoldsBy g nodes slots owner now plain s (use_at k v) v × HoldsFrom g nodes slots owner now plain s (behind k v) vs

-- What no item up to this one names can have any types.
abbrev pub IsLoose : ℕ → (ℕ → ℕ) → ℕ → System → Type 0
IsLoose slots owner now s = (t wanted : ℕ → MlType) → IsSolved s t → ((i : ℕ) → i < slots → owner i ≤ now → wanted i ≡ t i)
    → (other : ℕ → MlType) × Agree slots wanted other × IsSolved s other

-- the equations of the visits that came, in the item with this number
pub record IsGoing (g : Signature) (nodes slots : ℕ) (owner : ℕ → ℕ) (now : ℕ) (k : Known) (done : List Visit) (s : System) : Type 0 where
  pub system : IsSystem s
  pub longer : slots ≤ count_of s
  pub said : IsComplete g nodes slots done s
  pub loose : IsLoose slots owner now s
  pub low : (i : ℕ) → is_slot_of nodes k.plain i ≡ true → (i < slots) × (owner i ≤ now)
  pub generals : All (IsGeneral nodes slots owner now k.plain s) k.general
  pub holds : HoldsFrom g nodes slots owner now k.plain s none_known done

-- ---- lists that get one more

pub obeys_append : (g : Signature) (nodes : ℕ) (k : Known) (vs ws : List Visit) (types : ℕ → MlType) → ObeysFrom g nodes k (vs ++ ws) types → ObeysFrom g nodes k vs types × ObeysFrom g nodes (behind_all k vs) ws types
obeys_append g nodes k [] ws types h = (tt, h)
obeys_append g nodes k (v ∷ vs) ws types h = let x = obeys_append g nodes (behind k v) vs ws types h.1 in ((h.0, x.0), x.1)

module _ (g : Signature) (nodes slots : ℕ) (owner : ℕ → ℕ) where
  pub holds_more : (now : ℕ) (plain : List ℕ) (s : System) (k : Known) (vs : List Visit) (v : Visit) → HoldsFrom g nodes slots owner now plain s k vs
      → HoldsBy g nodes slots owner now plain s (use_at (behind_all k vs) v) v → HoldsFrom g nodes slots owner now plain s k (vs ++ v ∷ [])
  holds_more now plain s k [] v h x = (x, tt)
  holds_more now plain s k (w ∷ vs) v h x = (h.0, holds_more now plain s (behind k w) vs v h.1 x)

  -- ---- a step keeps what there was

  module _ (now : ℕ) (k : Known) (old new : System) (names : List ℕ) (own : All (IsOwn nodes slots owner now k) names) (longer : slots ≤ count_of old) (l : IsLocal old new names) where
    off_one : (n binder : ℕ) (before : List ℕ) → IsPast nodes slots owner now k.plain binder before n → (i : ℕ) → IsOwn nodes slots owner now k i → is_private nodes owner n before i ≡ false
    off_one n binder before p i (inside, inl e) = ap (λ b. b && not (is_slot_of nodes before i)) (le-ltb (owner i) (suc n) (let x = p.past in omega arith))
    off_one n binder before p i (inside, inr e) = p.apart i e

    pub off_names : (n binder : ℕ) (before : List ℕ) → IsPast nodes slots owner now k.plain binder before n → (types t : ℕ → MlType) → IsOff nodes slots owner n before types t → All (λ i. t i ≡ types i) names
    off_names n binder before p types t f j d h = let o = own j d h in f (get_or names j d) o.0 (off_one n binder before p (get_or names j d) o)

    pub general_goes : (d : General) → IsGeneral nodes slots owner now k.plain old d → IsGeneral nodes slots owner now k.plain new d
    general_goes d (n, p, change) = (
      n,
      p,
      λ types t h s e.
          let x = change types t (l.keeps_solved types h) (l.keeps_solved t s) e in
          let y = l.goes_on types x.0 h x.1 (off_names n d.binder d.before p types x.0 x.3) in
          (y.0, y.2, y.1 (nodes + d.binder) (let i = p.inside in omega arith) ∙ x.2, λ i m q. y.1 i (omega arith) ∙ x.3 i m q),
    )

    holds_goes_by : (o : Option GeneralUse) (v : Visit) → HoldsBy g nodes slots owner now k.plain old o v → HoldsBy g nodes slots owner now k.plain new o v
    holds_goes_by None v h = λ types s. h types (l.keeps_solved types s)
    holds_goes_by (Some u) v (n, p, taken) = (
      n,
      p,
      λ types h.
          let x = taken types (l.keeps_solved types h) in
          let y = l.goes_on types x.0 h x.1 (off_names n u.binder u.before p types x.0 x.3) in
          (y.0, y.2, y.1 (nodes + u.binder) (let i = p.inside in omega arith) ∙ x.2, λ i m q. y.1 i (omega arith) ∙ x.3 i m q),
    )

    pub holds_goes : (j : Known) (vs : List Visit) → HoldsFrom g nodes slots owner now k.plain old j vs → HoldsFrom g nodes slots owner now k.plain new j vs
    holds_goes j [] h = tt
    holds_goes j (v ∷ vs) h = (holds_goes_by (use_at j v) v h.0, holds_goes (behind j v) vs h.1)

    pub loose_goes : ((i : ℕ) → is_slot_of nodes k.plain i ≡ true → (i < slots) × (owner i ≤ now)) → IsLoose slots owner now old → IsLoose slots owner now new
    loose_goes low loose t wanted h e =
        let x = loose t wanted (l.keeps_solved t h) e in
        let y = l.goes_on t x.0 h x.2 (λ j d i. named (get_or names j d) (own j d i) x.0 x.1) in
        (y.0, (λ i m. y.1 i (omega arith) ∙ x.1 i m), y.2)
      where
        of_now : (i : ℕ) → (owner i ≡ now) ⊎ (is_slot_of nodes k.plain i ≡ true) → owner i ≤ now
        of_now i (inl q) = omega arith
        of_now i (inr q) = (low i q).1

        named : (i : ℕ) → IsOwn nodes slots owner now k i → (other : ℕ → MlType) → Agree slots wanted other → other i ≡ t i
        named i o other a = a i o.0 ∙ e i o.0 (of_now i o.1)
