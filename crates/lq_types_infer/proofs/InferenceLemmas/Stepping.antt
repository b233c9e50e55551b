-- The equations with one visit more.
use Rattle.std.proofs.Common.{◌≡◌, ◌==◌, ◌⊎◌, inl, inr, ℕ, zero, suc, ◌+◌, ◌<◌, ◌≤◌, Bool, true, false, not, ◌&&◌, ◌||◌, nat_lt, List, [], ◌∷◌, ◌++◌, Option, Some, None, All, get_or, refl, sym, ap, ap₂, subst, ◌∙◌, arith, if◌then◌else◌}
use Rattle.std.proofs.lemmas.Bool.{cases_eq, eq-eqb, ne_eqb, lt-ltb, le-ltb}
use Rattle.lq_text_tree.specs.MlType.{MlType}
use Rattle.lq_text_tree.specs.Items.{ItemForm, type_of, let_of, let_rec_of}
use Rattle.lq_text_tree.specs.Pattern.{Pattern, pattern, any, bind, nothing, tuple_of, build_of}
use Rattle.lq_text_tree.specs.Types.{Signature, put}
use Rattle.lq_text_walk.specs.Walk.Visits.{Visit, enter_item, leave_item, enter, leave, leave_function, declare, show, hide, show_name, hide_name}
use Rattle.lq_types_rules.specs.declared.equations.system.System.{System}
use Rattle.lq_types_rules.specs.Equations.Adding.{IsSystem, Agree, count_of}
use Rattle.lq_types_rules.specs.Equations.Gathered.{VisitRule}
use Rattle.lq_types_rules.specs.Equations.Solved.{IsPrincipal}
use Rattle.lq_types_rules.proofs.EquationsLemmas.Growing.{agree_after}
use Rattle.lq_types_rules.specs.Typings.Uses.{Known, General, GeneralUse, none_known, with_general, with_plain, with_name, behind_let, behind_form, behind, behind_all, is_value, use_at, before_in, Leaves, RuleBy, UseRule, ObeysFrom}
use Rattle.lq_types_rules.specs.Visits.Owning.{binder_slots, pattern_slots, visit_slots, item_slots, slots_by, slots_at, is_slot_of, item_behind, IsOwn}
use Rattle.lq_types_infer.specs.Inference.Copying.{AddsUse}
use Rattle.lq_types_infer.specs.Inference.Gathering.{StepBy, IsStep, IsComplete, IsSound}
use Rattle.lq_types_infer.proofs.InferenceLemmas.Naming.{all_first, all_rest, visit_rests}
use Rattle.lq_types_infer.proofs.InferenceLemmas.Reading.{leaves_from}
use Rattle.lq_types_infer.proofs.InferenceLemmas.Using.{copy_free, copy_said}
use Rattle.lq_types_infer.proofs.InferenceLemmas.Sharing.{same_free, same_said}
use Rattle.lq_types_infer.proofs.InferenceLemmas.Going.{IsSolved, IsLocal, rule_says, rule_said, step_local_by, step_system_by, is_private, IsPast, CanChange, IsGeneral, HoldsBy, HoldsFrom, IsLoose, IsGoing, obeys_append, holds_more, off_names, general_goes, holds_goes, loose_goes}

-- ---- the definition of a use

same_from : (a b : ℕ) → (a == b) ≡ true → a ≡ b
same_from a b e = elim (cases_eq a b) [ inl h ↦ h | inr h ↦ absurd (let f = ne_eqb a b h in cc) ]

some_same : {X : Type 0} (y z : X) → Some y ≡ Some z → y ≡ z
some_same y z q = cc

found_by : (P : General → Type 0) (d : General) (ds : List General) (x : ℕ) (before : List ℕ) → P d
    → (before_in ds x ≡ Some before → (f : General) × P f × (f.binder ≡ x) × (f.before ≡ before)) → (b : Bool) → (d.binder == x) ≡ b
    → before_in (d ∷ ds) x ≡ Some before → (f : General) × P f × (f.binder ≡ x) × (f.before ≡ before)
found_by P d ds x before h f true q e = (d, h, same_from d.binder x q, some_same d.before before (sym (ap (λ (c : Bool). if c then Some d.before else before_in ds x) q) ∙ e))
found_by P d ds x before h f false q e = f (sym (ap (λ (c : Bool). if c then Some d.before else before_in ds x) q) ∙ e)

-- what holds of all definitions holds of that of a use
found_in : (P : General → Type 0) (ds : List General) (x : ℕ) (before : List ℕ) → All P ds → before_in ds x ≡ Some before → (d : General) × P d × (d.binder ≡ x) × (d.before ≡ before)
found_in P [] x before a e = absurd (cc)
found_in P (d ∷ ds) x before a e = found_by P d ds x before (a 0 d (omega arith)) (found_in P ds x before (λ k f l. a (suc k) f (omega arith))) (d.binder == x) refl e

-- ---- what a use adds

module _ (old new : System) (fixed : List ℕ) (definition node : ℕ) (sound : IsSystem old) where
  -- types of the old nodes by which the definition has the type of the use, and the fixed slots have theirs
  use_free : AddsUse old new fixed definition node → (types : ℕ → MlType) → IsSolved new types → (t : ℕ → MlType) × IsSolved old t × (t definition ≡ types node) × All (λ i. t i ≡ types i) fixed
  use_free (inl c) = copy_free old new fixed definition node sound c c.definition_in c.node_in c.fixed_in
  use_free (inr c) = same_free old new fixed definition node c

  -- a use with other types for the variables that aren't fixed
  use_said : AddsUse old new fixed definition node → (later by : ℕ → MlType) → IsSolved old later → All (λ i. Leaves by (later i)) fixed → later node ≡ put by (later definition)
      → (types : ℕ → MlType) × Agree (count_of old) later types × IsSolved new types
  use_said (inl c) later by s leaves e = copy_said old new fixed definition node sound c c.definition_in c.node_in c.fixed_in later by s leaves e
  use_said (inr c) later by s leaves e = same_said old new fixed definition node c later by s leaves e

-- a use is of one that is known
pub record IsUseOf (k : Known) (u : GeneralUse) : Type 0 where
  pub before_is : before_in k.general u.binder ≡ Some u.before

module _ (g : Signature) (nodes slots : ℕ) (owner : ℕ → ℕ) (now : ℕ) (k : Known) (done : List Visit) (v : Visit) (old new : System) (known_is : behind_all none_known done ≡ k)
    (i : IsGoing g nodes slots owner now k done old) where
  -- ---- the rule of the visit, of types of the slots

  said_by : (o : Option GeneralUse) → ((u : GeneralUse) → o ≡ Some u → IsUseOf k u) → All (IsOwn nodes slots owner now k) (slots_by nodes o (visit_slots nodes v)) → StepBy g nodes o v old new
      → (types later : ℕ → MlType) → IsSolved old later → Agree slots types later → RuleBy nodes o types (VisitRule g nodes v types) → (more : ℕ → MlType) × Agree (count_of old) later more × IsSolved new more
  said_by None us own b types later s a r =
      rule_said g nodes v old new i.system b later s (visit_rests nodes types later g v (λ j d l. a (get_or (visit_slots nodes v) j d) (own j d l).0) r)
  said_by (Some u) us own c types later s a (by, leaves, is) =
      let d = found_in (IsGeneral nodes slots owner now k.plain old) k.general u.binder u.before i.generals (us u refl).before_is in
      let in_ : nodes + u.binder < slots = subst (λ (x : ℕ). nodes + x < slots) d.2 d.1.1.inside in
      use_said old new (binder_slots nodes u.before) (nodes + u.binder) u.node i.system c later by s
      (slots_leave u.before leaves (all_rest (IsOwn nodes slots owner now k) u.node (binder_slots nodes u.before) own))
      (a u.node (all_first (IsOwn nodes slots owner now k) u.node (binder_slots nodes u.before) own).0 ∙ is ∙ ap (put by) (sym (a (nodes + u.binder) in_)))
    where
      slots_leave : (ps : List ℕ) → All (λ p. Leaves by (types (nodes + p))) ps → All (IsOwn nodes slots owner now k) (binder_slots nodes ps) → All (λ j. Leaves by (later j)) (binder_slots nodes ps)
      slots_leave [] h q j d l = absurd (omega arith)
      slots_leave (p ∷ ps) h q zero d l = subst (Leaves by) (sym (a (nodes + p) (q 0 (nodes + p) (omega arith)).0)) (h 0 p (omega arith))
      slots_leave (p ∷ ps) h q (suc j) d l = slots_leave ps (λ m e f. h (suc m) e (omega arith)) (all_rest (IsOwn nodes slots owner now k) (nodes + p) (binder_slots nodes ps) q) j d (omega arith)

  holds_by : (o : Option GeneralUse) → ((u : GeneralUse) → o ≡ Some u → IsUseOf k u) → (own : All (IsOwn nodes slots owner now k) (slots_by nodes o (visit_slots nodes v))) → StepBy g nodes o v old new
      → IsLocal old new (slots_by nodes o (visit_slots nodes v)) → HoldsBy g nodes slots owner now k.plain new o v
  holds_by None us own b l = λ types h. rule_says g nodes v old new i.system b types h
  holds_by (Some u) us own c l =
      let d = found_in (IsGeneral nodes slots owner now k.plain old) k.general u.binder u.before i.generals (us u refl).before_is in
      let p : IsPast nodes slots owner now k.plain u.binder u.before d.1.0 =
      subst (λ (x : ℕ). IsPast nodes slots owner now k.plain x u.before d.1.0) d.2 (subst (λ (ps : List ℕ). IsPast nodes slots owner now k.plain d.0.binder ps d.1.0) d.3 d.1.1) in
      let change : CanChange nodes slots owner old (record { binder = u.binder; before = u.before }) d.1.0 =
      subst (λ (x : ℕ). CanChange nodes slots owner old (record { binder = x; before = u.before }) d.1.0) d.2
      (subst (λ (ps : List ℕ). CanChange nodes slots owner old (record { binder = d.0.binder; before = ps }) d.1.0) d.3 d.1.2) in (
        d.1.0,
        p,
        λ types h.
            let f = use_free old new (binder_slots nodes u.before) (nodes + u.binder) u.node i.system c types h in
            let x = change types f.0 (l.keeps_solved types h) f.1 f.3 in
            let y = l.goes_on types x.0 h x.1 (off_names g nodes slots owner now k old new (u.node ∷ binder_slots nodes u.before) own i.longer l d.1.0 u.binder u.before p types x.0 x.3) in
            let longer = i.longer in
            (y.0, y.2, y.1 (nodes + u.binder) (let m = p.inside in omega arith) ∙ x.2 ∙ f.2, λ j m q. y.1 j (omega arith) ∙ x.3 j m q),
      )

  module _ (uses : (u : GeneralUse) → use_at k v ≡ Some u → IsUseOf k u) (own : All (IsOwn nodes slots owner now k) (slots_at nodes k v)) (step : IsStep g nodes k v old new) where
    local : IsLocal old new (slots_at nodes k v)
    local = step_local_by g nodes v old new i.system (use_at k v) step

    pub said_more : IsComplete g nodes slots (done ++ v ∷ []) new
    said_more types o =
        let both = obeys_append g nodes none_known done (v ∷ []) types o in
        let rule : UseRule g nodes k v types = subst (λ (j : Known). UseRule g nodes j v types) known_is both.1.0 in
        let x = i.said types both.0 in
        let y = said_by (use_at k v) uses own step types x.0 x.2 x.1 rule in
        (y.0, agree_after slots (count_of old) types x.0 y.0 i.longer x.1 y.1, y.2)

    pub going_more : IsGoing g nodes slots owner now k (done ++ v ∷ []) new
    going_more =
        let s = step_system_by g nodes v old new i.system (use_at k v) step in
        record {
          system = s.0;
          longer = let a = i.longer in let b = s.1 in omega arith;
          said = said_more;
          loose = loose_goes g nodes slots owner now k old new (slots_at nodes k v) own i.longer local i.low i.loose;
          low = i.low;
          generals = λ j d l. general_goes g nodes slots owner now k old new (slots_at nodes k v) own i.longer local (get_or k.general j d) (i.generals j d l);
          holds = holds_more g nodes slots owner now k.plain new none_known done v (holds_goes g nodes slots owner now k old new (slots_at nodes k v) own i.longer local none_known done i.holds)
              (subst (λ (j : Known). HoldsBy g nodes slots owner now k.plain new (use_at j v) v) (sym known_is) (holds_by (use_at k v) uses own step local));
        }

-- ---- behind an item

or_cases : (a b : Bool) → (a || b) ≡ true → (a ≡ true) ⊎ (b ≡ true)
or_cases true b e = inl refl
or_cases false b e = inr e

module _ (g : Signature) (nodes slots : ℕ) (owner : ℕ → ℕ) (now : ℕ) where
  -- a slot of one binder more
  slot_cases : (x : ℕ) (ps : List ℕ) (i : ℕ) → is_slot_of nodes (x ∷ ps) i ≡ true → (nodes + x ≡ i) ⊎ (is_slot_of nodes ps i ≡ true)
  slot_cases x ps i e = elim (or_cases (nodes + x == i) (is_slot_of nodes ps i) e) [ inl h ↦ inl (same_from (nodes + x) i h) | inr h ↦ inr h ]

  past_later : (plain : List ℕ) (binder : ℕ) (before : List ℕ) (n : ℕ) → IsPast nodes slots owner now plain binder before n → IsPast nodes slots owner (suc now) plain binder before n
  past_later plain binder before n p = record { past = let x = p.past in omega arith; inside = p.inside; before_in = p.before_in; apart = p.apart }

  past_plain : (k : Known) (x binder : ℕ) (before : List ℕ) (n : ℕ) → IsOwn nodes slots owner now k (nodes + x) → IsPast nodes slots owner now k.plain binder before n
      → IsPast nodes slots owner (suc now) (x ∷ k.plain) binder before n
  past_plain k x binder before n o p = record {
    past = let y = p.past in omega arith;
    inside = p.inside;
    before_in = p.before_in;
    apart = λ i e. elim (slot_cases x k.plain i e) [ inl q ↦ subst (λ (j : ℕ). is_private nodes owner n before j ≡ false) q (here o.1) | inr q ↦ p.apart i q ];
  }
    where
      here : (owner (nodes + x) ≡ now) ⊎ (is_slot_of nodes k.plain (nodes + x) ≡ true) → is_private nodes owner n before (nodes + x) ≡ false
      here (inl q) = ap (λ b. b && not (is_slot_of nodes before (nodes + x))) (le-ltb (owner (nodes + x)) (suc n) (let y = p.past in omega arith))
      here (inr q) = p.apart (nodes + x) q

  general_by : (plain other : List ℕ) (s : System) (d : General)
      → ((n : ℕ) → IsPast nodes slots owner now plain d.binder d.before n → IsPast nodes slots owner (suc now) other d.binder d.before n)
      → IsGeneral nodes slots owner now plain s d → IsGeneral nodes slots owner (suc now) other s d
  general_by plain other s d f (n, p, change) = (n, f n p, change)

  holds_of : (plain other : List ℕ) (s : System)
      → ((binder : ℕ) (before : List ℕ) (n : ℕ) → IsPast nodes slots owner now plain binder before n → IsPast nodes slots owner (suc now) other binder before n) → (o : Option GeneralUse) (v : Visit)
      → HoldsBy g nodes slots owner now plain s o v → HoldsBy g nodes slots owner (suc now) other s o v
  holds_of plain other s f None v h = h
  holds_of plain other s f (Some u) v (n, p, taken) = (n, f u.binder u.before n p, taken)

  holds_all : (plain other : List ℕ) (s : System)
      → ((binder : ℕ) (before : List ℕ) (n : ℕ) → IsPast nodes slots owner now plain binder before n → IsPast nodes slots owner (suc now) other binder before n) → (k : Known) (vs : List Visit)
      → HoldsFrom g nodes slots owner now plain s k vs → HoldsFrom g nodes slots owner (suc now) other s k vs
  holds_all plain other s f k [] h = tt
  holds_all plain other s f k (v ∷ vs) h = (holds_of plain other s f (use_at k v) v h.0, holds_all plain other s f (behind k v) vs h.1)

  loose_later : (s : System) → IsLoose slots owner now s → IsLoose slots owner (suc now) s
  loose_later s l t wanted h e = l t wanted h (λ i m q. e i m (omega arith))

  -- ---- a definition that is generalised from here on

  chosen : Bool → MlType → MlType → MlType
  chosen true a b = a
  chosen false a b = b

  -- own types of what is private
  mixed : ℕ → List ℕ → (ℕ → MlType) → (ℕ → MlType) → ℕ → MlType
  mixed n before t types i = chosen (is_private nodes owner n before i) (t i) (types i)

  mixed_private : (n : ℕ) (before : List ℕ) (t types : ℕ → MlType) (i : ℕ) → is_private nodes owner n before i ≡ true → mixed n before t types i ≡ t i
  unfolding mixed chosen
  mixed_private n before t types i e = ap (λ b. chosen b (t i) (types i)) e

  mixed_other : (n : ℕ) (before : List ℕ) (t types : ℕ → MlType) (i : ℕ) → is_private nodes owner n before i ≡ false → mixed n before t types i ≡ types i
  unfolding mixed chosen
  mixed_other n before t types i e = ap (λ b. chosen b (t i) (types i)) e

  slot_same : (t types : ℕ → MlType) (ps : List ℕ) (i : ℕ) → All (λ j. t j ≡ types j) (binder_slots nodes ps) → is_slot_of nodes ps i ≡ true → types i ≡ t i
  slot_same t types [] i a e = absurd (cc)
  slot_same t types (p ∷ ps) i a e = elim (slot_cases p ps i e) [
    | inl q ↦ subst (λ (j : ℕ). types j ≡ t j) q (sym (a 0 (nodes + p) (omega arith)))
    | inr q ↦ slot_same t types ps i (all_rest (λ j. t j ≡ types j) (nodes + p) (binder_slots nodes ps) a) q
  ]

  -- what the items up to this one name is the other's
  mixed_named : (before : List ℕ) (t types : ℕ → MlType) → All (λ j. t j ≡ types j) (binder_slots nodes before) → (i : ℕ) → owner i ≤ now → mixed now before t types i ≡ t i
  mixed_named before t types a i l = by (is_slot_of nodes before i) refl
    where
      low : nat_lt (owner i) (suc now) ≡ true
      low = lt-ltb (owner i) (suc now) (omega arith)

      by : (b : Bool) → is_slot_of nodes before i ≡ b → mixed now before t types i ≡ t i
      by true q = mixed_other now before t types i (ap₂ (λ x y. x && not y) low q) ∙ slot_same t types before i a q
      by false q = mixed_private now before t types i (ap₂ (λ x y. x && not y) low q)

  new_general : (k : Known) (s : System) (x : ℕ) → IsLoose slots owner now s → ((i : ℕ) → is_slot_of nodes k.plain i ≡ true → (i < slots) × (owner i ≤ now)) → IsOwn nodes slots owner now k (nodes + x)
      → IsGeneral nodes slots owner (suc now) k.plain s (record { binder = x; before = k.plain })
  new_general k s x loose low o = (
    now,
    record {
      past = omega arith;
      inside = o.0;
      before_in = λ i e. (low i e).0;
      apart = λ i e. ap₂ (λ a b. a && not b) (lt-ltb (owner i) (suc now) (let y = (low i e).1 in omega arith)) e;
    },
    λ types t h r a.
        let y = loose t (mixed now k.plain t types) r (λ i m l. mixed_named k.plain t types a i l) in (
          y.0,
          y.2,
          y.1 (nodes + x) o.0 ∙ mixed_named k.plain t types a (nodes + x) (own_low o.1),
          λ i m q. y.1 i m ∙ mixed_other now k.plain t types i q,
        ),
  )
    where
      own_low : (owner (nodes + x) ≡ now) ⊎ (is_slot_of nodes k.plain (nodes + x) ≡ true) → owner (nodes + x) ≤ now
      own_low (inl q) = omega arith
      own_low (inr q) = (low (nodes + x) q).1

  module _ (k : Known) (done : List Visit) (s : System) (i : IsGoing g nodes slots owner now k done s) where
    behind_same : IsGoing g nodes slots owner (suc now) k done s
    behind_same = record {
      system = i.system;
      longer = i.longer;
      said = i.said;
      loose = loose_later s i.loose;
      low = λ j e. ((i.low j e).0, let x = (i.low j e).1 in omega arith);
      generals = λ j d l. general_by k.plain k.plain s (get_or k.general j d) (λ n. past_later k.plain (get_or k.general j d).binder (get_or k.general j d).before n) (i.generals j d l);
      holds = holds_all k.plain k.plain s (past_later k.plain) none_known done i.holds;
    }

    behind_general : (x : ℕ) → IsOwn nodes slots owner now k (nodes + x) → IsGoing g nodes slots owner (suc now) (with_general k x) done s
    behind_general x o = record {
      system = i.system;
      longer = i.longer;
      said = i.said;
      loose = loose_later s i.loose;
      low = behind_same.low;
      generals = more;
      holds = behind_same.holds;
    }
      where
        more : All (IsGeneral nodes slots owner (suc now) k.plain s) (record { binder = x; before = k.plain } ∷ k.general)
        more zero d l = new_general k s x i.loose i.low o
        more (suc j) d l = behind_same.generals j d (omega arith)

    behind_plain : (x : ℕ) → IsOwn nodes slots owner now k (nodes + x) → IsGoing g nodes slots owner (suc now) (with_plain k x) done s
    behind_plain x o = record {
      system = i.system;
      longer = i.longer;
      said = i.said;
      loose = loose_later s i.loose;
      low = λ j e. elim (slot_cases x k.plain j e) [ inl q ↦ (subst (λ (m : ℕ). m < slots) q o.0, low_here o.1 j q) | inr q ↦ ((i.low j q).0, let y = (i.low j q).1 in omega arith) ];
      generals = λ j d l. general_by k.plain (x ∷ k.plain) s (get_or k.general j d) (λ n. past_plain k x (get_or k.general j d).binder (get_or k.general j d).before n o) (i.generals j d l);
      holds = holds_all k.plain (x ∷ k.plain) s (λ binder before n. past_plain k x binder before n o) none_known done i.holds;
    }
      where
        low_here : (owner (nodes + x) ≡ now) ⊎ (is_slot_of nodes k.plain (nodes + x) ≡ true) → (j : ℕ) → nodes + x ≡ j → owner j ≤ suc now
        low_here (inl q) j e = let f : owner (nodes + x) ≡ owner j = ap owner e in omega arith
        low_here (inr q) j e = let f : owner (nodes + x) ≡ owner j = ap owner e in let y = (i.low (nodes + x) q).1 in omega arith

    behind_name : (x : ℕ) (value : Bool) → IsOwn nodes slots owner now k (nodes + x) → IsGoing g nodes slots owner (suc now) (with_name k x value) done s
    behind_name x true o = behind_general x o
    behind_name x false o = behind_plain x o

    behind_pattern : (q : Pattern) (value : Bool) → All (IsOwn nodes slots owner now k) (pattern_slots nodes q) → IsGoing g nodes slots owner (suc now) (behind_let k q value) done s
    behind_pattern (pattern p any) value o = behind_same
    behind_pattern (pattern p (bind x)) value o = behind_name x value (o 0 (nodes + x) (omega arith))
    behind_pattern (pattern p nothing) value o = behind_same
    behind_pattern (pattern p (tuple_of qs)) value o = behind_same
    behind_pattern (pattern p (build_of c m qs)) value o = behind_same

    behind_item : (f : ItemForm) → All (IsOwn nodes slots owner now k) (item_slots nodes f) → IsGoing g nodes slots owner (suc now) (behind_form k f) done s
    behind_item (type_of d) o = behind_same
    behind_item (let_of q e) o = behind_pattern q (is_value e) (all_rest (IsOwn nodes slots owner now k) _ (pattern_slots nodes q) o)
    behind_item (let_rec_of f r) o = behind_general f (o 0 (nodes + f) (omega arith))

    pub behind_visit : (v : Visit) → All (IsOwn nodes slots owner now k) (slots_at nodes k v) → IsGoing g nodes slots owner (item_behind now v) (behind k v) done s
    behind_visit (enter_item t) o = i
    behind_visit (leave_item t) o = behind_item t.form o
    behind_visit (enter t) o = i
    behind_visit (leave t) o = i
    behind_visit (leave_function r) o = i
    behind_visit (declare q) o = i
    behind_visit (show q) o = i
    behind_visit (hide q) o = i
    behind_visit (show_name x) o = i
    behind_visit (hide_name x) o = i

-- ---- the most general solution obeys the rules

module _ (g : Signature) (nodes slots : ℕ) (owner : ℕ → ℕ) (now : ℕ) (plain : List ℕ) (s : System) (types : ℕ → MlType) (p : IsPrincipal s types) where
  slot_off : (n : ℕ) (before : List ℕ) (i : ℕ) → is_slot_of nodes before i ≡ true → is_private nodes owner n before i ≡ false
  slot_off n before i e = by (nat_lt (owner i) (suc n)) refl
    where
      by : (b : Bool) → nat_lt (owner i) (suc n) ≡ b → is_private nodes owner n before i ≡ false
      by true q = ap₂ (λ x y. x && not y) q e
      by false q = ap₂ (λ x y. x && not y) q e

  or_right : (a b : Bool) → b ≡ true → (a || b) ≡ true
  or_right true b e = refl
  or_right false b e = e

  slot_in : (ps : List ℕ) → All (λ q. is_slot_of nodes ps (nodes + q) ≡ true) ps
  slot_in [] k d l = absurd (omega arith)
  slot_in (q ∷ qs) zero d l = ap (λ b. b || is_slot_of nodes qs (nodes + q)) (eq-eqb (nodes + q) (nodes + q) refl)
  slot_in (q ∷ qs) (suc k) d l = or_right (nodes + q == nodes + get_or qs k d) (is_slot_of nodes qs (nodes + get_or qs k d)) (slot_in qs k d (omega arith))

  rule_obeyed : (o : Option GeneralUse) (v : Visit) → HoldsBy g nodes slots owner now plain s o v → RuleBy nodes o types (VisitRule g nodes v types)
  rule_obeyed None v h = h types p.solves
  rule_obeyed (Some u) v (n, past, taken) =
      let x = taken types p.solves in
      let by = p.general x.0 x.1 in (
        by.0,
        λ k d l. let q = get_or u.before k d in
            leaves_from by.0 (types (nodes + q)) (sym (by.1 (nodes + q)) ∙ x.3 (nodes + q) (past.before_in (nodes + q) (slot_in u.before k d l)) (slot_off n u.before (nodes + q) (slot_in u.before k d l))),
        sym x.2 ∙ by.1 (nodes + u.binder),
      )

  obeyed : (k : Known) (vs : List Visit) → HoldsFrom g nodes slots owner now plain s k vs → ObeysFrom g nodes k vs types
  obeyed k [] h = tt
  obeyed k (v ∷ vs) h = (rule_obeyed (use_at k v) v h.0, obeyed (behind k v) vs h.1)

pub going_sound : (g : Signature) (nodes slots : ℕ) (owner : ℕ → ℕ) (now : ℕ) (k : Known) (done : List Visit) (s : System) → IsGoing g nodes slots owner now k done s → IsSound g nodes done s
going_sound g nodes slots owner now k done s i types p = obeyed g nodes slots owner now k.plain s types p none_known done i.holds
