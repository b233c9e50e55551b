-- New nodes of which nothing is known.
use Rattle.std.proofs.Common.{◌≡◌, inl, inr, ℕ, zero, suc, ◌+◌, ◌-◌, ◌<◌, ◌≤◌, List, [], ◌∷◌, ◌++◌, None, All, length, refl, sym, ap, ap₂, subst, ◌∙◌, arith, append-nil, add-zero}
use Rattle.std.proofs.lemmas.Bool.{cases_lt}
use Rattle.std.proofs.lemmas.List.{get_or_past}
use Rattle.lq_text_tree.specs.MlType as ml
use Rattle.lq_text_tree.specs.MlType.{MlType, MlTypes}
use Rattle.lq_text_tree.specs.Types.{type_at, count_types}
use Rattle.lq_types_unify.specs.declared.arena.Arena.{Arena}
use Rattle.lq_types_unify.specs.declared.arena.Equation.{Equation}
use Rattle.lq_types_unify.specs.declared.arena.Node.TheVariants.{Open}
use Rattle.lq_types_unify.specs.Nodes.{form_of, form_at, IsArena, HasAdded}
use Rattle.lq_types_unify.specs.Solution.{AreNodes}
use Rattle.lq_types_rules.specs.declared.equations.system.System.{System}
use Rattle.lq_types_rules.specs.Equations.Solutions.{made, each, Fits}
use Rattle.lq_types_rules.specs.Equations.Templates.{upto}
use Rattle.lq_types_rules.specs.Equations.Adding.{IsSystem, IsFresh, Agree, Offers, count_of, forms_of}
use Rattle.lq_types_rules.proofs.EquationsLemmas.Growing.{all_none, agree_each, some_inside, parts_inside}

pub upto_more : (n first last : ℕ) → last ≡ first + n → upto first n ++ last ∷ [] ≡ upto first (suc n)
upto_more zero first last e = ap (λ (k : ℕ). k ∷ []) (omega arith)
upto_more (suc n) first last e = ap (λ (l : List ℕ). first ∷ l) (upto_more n (suc first) last (omega arith))

pub upto_inside : (n first m : ℕ) → first + n ≤ m → All (λ r. r < m) (upto first n)
upto_inside zero first m h k d l = absurd (omega arith)
upto_inside (suc n) first m h zero d l = omega arith
upto_inside (suc n) first m h (suc k) d l = upto_inside n (suc first) m (omega arith) k d (omega arith)

pub count_each : (t : ℕ → MlType) (n first : ℕ) → count_types (each t (upto first n)) ≡ n
count_each t zero first = refl
count_each t (suc n) first = ap suc (count_each t n (suc first))

pub each_run : (t : ℕ → MlType) (n first : ℕ) (ts : MlTypes) → count_types ts ≡ n → ((k : ℕ) → k < n → t (first + k) ≡ type_at ts k) → each t (upto first n) ≡ ts
each_run t zero first ml.no_types c h = refl
each_run t zero first (ml.more_types a ts) c h = absurd (cc)
each_run t (suc n) first ml.no_types c h = absurd (cc)
each_run t (suc n) first (ml.more_types a ts) c h = ap₂ ml.more_types (ap t (sym (add-zero first)) ∙ h 0 (omega arith))
    (each_run t n (suc first) ts (omega arith) (λ k l. ap t (omega arith) ∙ h (suc k) (omega arith)))

pub record IsOpened (old new : System) (first count : ℕ) (roots : List ℕ) : Type 0 where
  pub first_is : first ≡ count_of old
  pub long : count_of new ≡ first + count
  pub forms : (i : ℕ) → forms_of new i ≡ forms_of old i
  pub arena : IsArena new.arena
  pub equations_are : new.equations.items ≡ old.equations.items
  pub roots_are : roots ≡ upto first count

pub opened_none : (s : System) → IsSystem s → IsOpened s s (count_of s) 0 []
opened_none s h = record { first_is = refl; long = omega arith; forms = λ i. refl; arena = h.arena; equations_are = refl; roots_are = refl }

pub past_none : (a : Arena) (i : ℕ) → length a.nodes.items ≤ i → form_at a i ≡ None
past_none a i h = ap (form_of a.parts.items) (get_or_past a.nodes.items i Open h)

pub opened_more : (old mid new : System) (first count node : ℕ) (roots : List ℕ) → IsOpened old mid first count roots → HasAdded mid.arena new.arena node None
    → new.equations.items ≡ mid.equations.items → IsOpened old new first (count + 1) (roots ++ node ∷ [])
opened_more old mid new first count node roots o a q = record {
  first_is = o.first_is;
  long = let x = a.count in let y = a.next in let z = o.long in omega arith;
  forms = λ i. elim (cases_lt i node) [
    | inl l ↦ a.others i l ∙ o.forms i
    | inr l ↦ last i l ∙ sym (past_none mid.arena i (let y = a.next in omega arith)) ∙ o.forms i
  ];
  arena = a.arena;
  equations_are = q ∙ o.equations_are;
  roots_are = ap (λ (l : List ℕ). l ++ node ∷ []) o.roots_are ∙ upto_more count first node (let y = a.next in let z = o.long in omega arith)
      ∙ ap (upto first) (let e : suc count ≡ count + 1 = omega arith in e);
}
  where
    last : (i : ℕ) → node ≤ i → forms_of new i ≡ None
    last i l = elim (cases_lt node i) [
      | inl k ↦ past_none new.arena i (let x = a.count in omega arith)
      | inr k ↦ ap (forms_of new) (let e : i ≡ node = omega arith in e) ∙ a.formed
    ]

filled : ℕ → MlTypes → (ℕ → MlType) → ℕ → MlType
filled n ts types i = elim (cases_lt i n) [ inl h ↦ types i | inr h ↦ type_at ts (i - n) ]

filled_before : (n : ℕ) (ts : MlTypes) (types : ℕ → MlType) → Agree n types (filled n ts types)
unfolding filled
filled_before n ts types i h = elim (cases_lt i n) as (λ c. elim c as (λ d. MlType) [ inl k ↦ types i | inr k ↦ type_at ts (i - n) ] ≡ types i) [ inl k ↦ refl | inr k ↦ absurd (omega arith) ]

filled_behind : (n : ℕ) (ts : MlTypes) (types : ℕ → MlType) (k : ℕ) → filled n ts types (n + k) ≡ type_at ts k
unfolding filled
filled_behind n ts types k = elim (cases_lt (n + k) n) as (λ c. elim c as (λ d. MlType) [ inl h ↦ types (n + k) | inr h ↦ type_at ts (n + k - n) ] ≡ type_at ts k) [
  | inl h ↦ absurd (omega arith)
  | inr h ↦ ap (type_at ts) (let e : n + k - n ≡ k = omega arith in e)
]

forms_fit : (old new : System) → IsSystem old → ((i : ℕ) → forms_of new i ≡ forms_of old i) → (types later : ℕ → MlType) → Agree (count_of old) types later → Fits (forms_of old) types → Fits (forms_of new) later
forms_fit old new s h types later g f i form e =
    let before = sym (h i) ∙ e in
    g i (some_inside old.arena i form before) ∙ f i form before ∙ ap (made form.head) (sym (agree_each (count_of old) types later g form.parts (parts_inside old.arena s.arena i form before)))

pub nodes_further : (n m : ℕ) (es : List Equation) → n ≤ m → AreNodes n es → AreNodes m es
nodes_further n m es le a k d l = (let x = (a k d l).0 in omega arith, let x = (a k d l).1 in omega arith)

pub opened_offers : (old new : System) (first count : ℕ) (roots : List ℕ) → IsSystem old → IsOpened old new first count roots → Offers old new roots (λ t ts. count_types ts ≡ count)
opened_offers old new first count roots s o = record {
  more = [];
  grows = record {
    system = record {
      arena = o.arena;
      nodes = subst (λ es. AreNodes (count_of new) es) (sym o.equations_are) (nodes_further (count_of old) (count_of new) old.equations.items (let x = o.long in let y = o.first_is in omega arith) s.nodes);
      right = λ i f e. s.right i f (sym (o.forms i) ∙ e);
    };
    longer = let x = o.long in let y = o.first_is in omega arith;
    kept = λ i l. o.forms i;
    equations_are = o.equations_are ∙ sym (append-nil old.equations.items);
    free = λ types f. (types, λ i l. refl, forms_fit old new s o.forms types types (λ i l. refl) f);
  };
  inside = subst (λ (l : List ℕ). All (λ r. r < count_of new) l) (sym o.roots_are) (upto_inside count first (count_of new) (let x = o.long in omega arith));
  says = λ t f m. ap (λ (l : List ℕ). count_types (each t l)) o.roots_are ∙ count_each t count first;
  said = λ t ts f c.
      let later = filled (count_of old) ts t in
      let before = filled_before (count_of old) ts t in
      record {
        later = later;
        agree = before;
        fits = forms_fit old new s o.forms t later before f;
        meets = all_none (λ (e : Equation). later e.left ≡ later e.right);
        roots_are = ap (each later) (o.roots_are ∙ ap (λ (k : ℕ). upto k count) o.first_is) ∙ each_run later count (count_of old) ts c (λ k l. filled_behind (count_of old) ts t k);
      };
}

pub none_more : (old new : Arena) (node : ℕ) → HasAdded old new node None → ((i : ℕ) → form_at old i ≡ None) → (i : ℕ) → form_at new i ≡ None
none_more old new node a h i = elim (cases_lt i node) [
  | inl l ↦ a.others i l ∙ h i
  | inr l ↦ elim (cases_lt node i) [
    | inl k ↦ past_none new i (let x = a.count in omega arith)
    | inr k ↦ ap (form_at new) (let e : i ≡ node = omega arith in e) ∙ a.formed
  ]
]

pub fresh_system : (s : System) (count : ℕ) → IsArena s.arena → count_of s ≡ count → ((i : ℕ) → forms_of s i ≡ None) → s.equations.items ≡ [] → IsFresh count s
fresh_system s count a l h e = record {
  system = record { arena = a; nodes = subst (λ es. AreNodes (count_of s) es) (sym e) (all_none (λ (q : Equation). (q.left < count_of s) × (q.right < count_of s))); right = λ i f g. absurd (let n = h i in cc) };
  long = l;
  none = h;
  empty = e;
}
