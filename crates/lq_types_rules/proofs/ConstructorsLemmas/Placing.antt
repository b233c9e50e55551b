-- Nodes that stand for types, one after another.
use Rattle.std.proofs.Common.{◌≡◌, ◌≢◌, ◌==◌, ℕ, zero, suc, ◌+◌, ◌-◌, ◌<◌, ◌≤◌, inl, inr, Bool, if◌then◌else◌, List, [], ◌∷◌, ◌++◌, Option, Some, None, All, map, take, drop, length, get_or, refl, sym, ap, ap₂, subst, ◌∙◌, arith, take_all, length-append, length-drop, length-take-le}
use Rattle.std.proofs.lemmas.Bool.{cases_eq, cases_lt, eq-eqb, ne_eqb}
use Rattle.std.proofs.lemmas.List.{get_or_past, map-append, length-map}
use Rattle.std.proofs.lemmas.List.Elements.{All-append}
use Rattle.lq_text_tree.specs.MlType as ml
use Rattle.lq_text_tree.specs.MlType.{MlType, MlTypes}
use Rattle.lq_text_tree.specs.SimpleTypeView.{types_of}
use Rattle.lq_text_tree.specs.Types.{type_at, count_types}
use Rattle.lq_types_unify.specs.declared.arena.Arena.{Arena}
use Rattle.lq_types_unify.specs.declared.arena.Head.{Head}
use Rattle.lq_types_unify.specs.declared.arena.Node.TheVariants.{Open}
use Rattle.lq_types_unify.specs.Nodes.{Form, form_of, form_at, IsArena, HasAdded}
use Rattle.lq_types_rules.specs.Equations.Adding.{IsRight}
use Rattle.lq_types_rules.specs.Equations.Solutions.{made, each, Fits}
use Rattle.lq_types_rules.specs.Equations.Templates.{upto}
use Rattle.lq_types_rules.specs.Constructors.Building.{IsBase, by_nodes, AreIn, IsMore, IsMade, IsOver}
use Rattle.lq_types_rules.specs.Constructors.Tasks.{parts_of, made_of, last_of, rest_of}

no_some : {X : Type 0} (o : Option X) (x : X) → o ≡ None → o ≡ Some x → ⊥
no_some o x e f = cc

pub no_form : (a : Arena) (i : ℕ) → length a.nodes.items ≤ i → form_at a i ≡ None
no_form a i h = ap (form_of a.parts.items) (get_or_past a.nodes.items i Open h)

-- ---- rows of types

each_agree : (f g : ℕ → MlType) (ps : List ℕ) → All (λ p. f p ≡ g p) ps → each f ps ≡ each g ps
each_agree f g [] h = refl
each_agree f g (p ∷ ps) h = ap₂ ml.more_types (h 0 p (omega arith)) (each_agree f g ps (λ k d l. h (suc k) d (omega arith)))

pub each_listed : (t : ℕ → MlType) (ps : List ℕ) → each t ps ≡ types_of (map t ps)
each_listed t [] = refl
each_listed t (p ∷ ps) = ap (ml.more_types (t p)) (each_listed t ps)

upto_in : (first n : ℕ) → All (λ p. p < first + n) (upto first n)
upto_in first zero k d h = absurd (omega arith)
upto_in first (suc n) zero d h = omega arith
upto_in first (suc n) (suc k) d h = let x = upto_in (suc first) n k d (omega arith) in omega arith

pub at_upto : (t : ℕ → MlType) (first n k : ℕ) → k < n → type_at (each t (upto first n)) k ≡ t (first + k)
at_upto t first zero k h = absurd (omega arith)
at_upto t first (suc n) zero h = ap t (omega arith)
at_upto t first (suc n) (suc k) h = at_upto t (suc first) n k (omega arith) ∙ ap t (omega arith)

pub past_upto : (t : ℕ → MlType) (first n k : ℕ) → n ≤ k → type_at (each t (upto first n)) k ≡ ml.unit
past_upto t first zero k h = refl
past_upto t first (suc n) zero h = absurd (omega arith)
past_upto t first (suc n) (suc k) h = past_upto t (suc first) n k (omega arith)

filled : (arguments : MlTypes) (t : ℕ → MlType) (first n : ℕ) → count_types arguments ≡ n → ((k : ℕ) → t (first + k) ≡ type_at arguments k) → each t (upto first n) ≡ arguments
filled ml.no_types t first zero e h = refl
filled ml.no_types t first (suc n) e h = absurd (omega arith)
filled (ml.more_types a as_) t first zero e h = absurd (omega arith)
filled (ml.more_types a as_) t first (suc n) e h = ap₂ ml.more_types (ap t (omega arith) ∙ h 0) (filled as_ t (suc first) n (omega arith) (λ k. ap t (omega arith) ∙ h (suc k)))

-- ---- open nodes

pub record AreAllOpen (a : Arena) (count : ℕ) : Type 0 where
  pub arena : IsArena a
  pub long : length a.nodes.items ≡ count
  pub none : (i : ℕ) → form_at a i ≡ None

pub open_none : (a : Arena) → IsArena a → length a.nodes.items ≡ 0 → AreAllOpen a 0
open_none a w e = record { arena = w; long = e; none = λ i. no_form a i (omega arith) }

pub open_more : (old new : Arena) (count node : ℕ) → AreAllOpen old count → HasAdded old new node None → AreAllOpen new (count + 1)
open_more old new count node o h = record {
  arena = h.arena;
  long = let a = h.next in let b = h.count in let c = o.long in omega arith;
  none = λ i. elim (cases_lt i node) [
    | inl m ↦ h.others i m ∙ o.none i
    | inr m ↦ elim (cases_eq i node) [
      | inl e ↦ ap (form_at new) e ∙ h.formed
      | inr e ↦ no_form new i (let b = h.count in omega arith)
    ]
  ];
}

pub open_base : (a : Arena) (n : ℕ) → AreAllOpen a n → IsBase a n
open_base a n o = record {
  store = record {
    arena = o.arena;
    right = λ i f e. absurd (no_some (form_at a i) f (o.none i) e);
    lower = λ i f e. absurd (no_some (form_at a i) f (o.none i) e);
  };
  room = let l = o.long in omega arith;
  fills = λ arguments c. (type_at arguments, (λ i f e. absurd (no_some (form_at a i) f (o.none i) e)), filled arguments (type_at arguments) 0 n c (λ k. ap (type_at arguments) (omega arith)));
}

-- ---- one node more

pub more_same : (a : Arena) (n : ℕ) → IsBase a n → IsMore a a n
more_same a n b = record { base = b; longer = omega arith; fits = λ t f. f }

pub more_then : (a b c : Arena) (n : ℕ) → IsMore a b n → IsMore b c n → IsMore a c n
more_then a b c n s t = record { base = t.base; longer = let x = s.longer in let y = t.longer in omega arith; fits = λ u f. s.fits u (t.fits u f) }

-- another type at one node
set_type : ℕ → MlType → (ℕ → MlType) → ℕ → MlType
set_type node x types i = if i == node then x else types i

set_same : (node : ℕ) (x : MlType) (types : ℕ → MlType) (i : ℕ) → i ≡ node → set_type node x types i ≡ x
unfolding set_type
set_same node x types i e = ap (λ (b : Bool). if b then x else types i) (eq-eqb i node e)

set_other : (node : ℕ) (x : MlType) (types : ℕ → MlType) (i : ℕ) → i ≢ node → set_type node x types i ≡ types i
unfolding set_type
set_other node x types i e = ap (λ (b : Bool). if b then x else types i) (ne_eqb i node e)

set_each : (node : ℕ) (x : MlType) (types : ℕ → MlType) (ps : List ℕ) → All (λ p. p < node) ps → each (set_type node x types) ps ≡ each types ps
set_each node x types ps a = each_agree (set_type node x types) types ps (λ k d h. set_other node x types (get_or ps k d) (λ e. let l : get_or ps k d < node = a k d h in omega arith))

same_form : (o : Option Form) (f g : Form) → o ≡ Some f → o ≡ Some g → g ≡ f
same_form o f g e h = cc

-- by what a form of a node is: one that there was, or the new one
by_node : (old new : Arena) (node : ℕ) (form : Form) → HasAdded old new node (Some form) → (P : ℕ → Form → Type 0) → ((i : ℕ) (f : Form) → i < node → form_at old i ≡ Some f → P i f) → P node form
    → (i : ℕ) (f : Form) → form_at new i ≡ Some f → P i f
by_node old new node form h P before here i f e = elim (cases_lt i node) [
  | inl m ↦ before i f m (sym (h.others i m) ∙ e)
  | inr m ↦ elim (cases_eq i node) [
    | inl q ↦ subst (λ j. P j f) (sym q) (subst (P node) (sym (same_form (form_at new node) form f h.formed (ap (form_at new) (sym q) ∙ e))) here)
    | inr q ↦ absurd (no_some (form_at new i) f (no_form new i (let b = h.count in omega arith)) e)
  ]
]

pub old_fits : (old new : Arena) (node : ℕ) (o : Option Form) → HasAdded old new node o → (t : ℕ → MlType) → Fits (form_at new) t → Fits (form_at old) t
old_fits old new node o h t fits i f e = elim (cases_lt i node) [
  | inl m ↦ fits i f (h.others i m ∙ e)
  | inr m ↦ absurd (no_some (form_at old i) f (no_form old i (let a = h.next in omega arith)) e)
]

pub more_added : (old new : Arena) (n node : ℕ) (form : Form) → IsBase old n → HasAdded old new node (Some form) → IsRight form.head (length form.parts) → All (λ p. p < length old.nodes.items) form.parts → IsMore old new n
more_added old new n node form b h right inside = record {
  base = record {
    store = record {
      arena = h.arena;
      right = by_node old new node form h (λ i f. IsRight f.head (length f.parts)) (λ i f l e. b.store.right i f e) right;
      lower = by_node old new node form h (λ i f. All (λ p. p < i) f.parts) (λ i f l e. b.store.lower i f e) low;
    };
    room = let r = b.room in let a = h.next in let c = h.count in omega arith;
    fills = λ arguments c. fill (b.fills arguments c);
  };
  longer = let a = h.next in let c = h.count in omega arith;
  fits = old_fits old new node (Some form) h;
}
  where
    low : All (λ p. p < node) form.parts
    low = subst (λ m. All (λ p. p < m) form.parts) (sym h.next) inside

    fill : {arguments : MlTypes} → (types : ℕ → MlType) × Fits (form_at old) types × (each types (upto 0 n) ≡ arguments) → (types : ℕ → MlType) × Fits (form_at new) types × (each types (upto 0 n) ≡ arguments)
    fill (types, fits, e) =
        let x = made form.head (each types form.parts) in (
          set_type node (made form.head (each types form.parts)) types,
          by_node old new node form h (λ i f. set_type node (made form.head (each types form.parts)) types i ≡ made f.head (each (set_type node (made form.head (each types form.parts)) types) f.parts))
              (λ i f l g. set_other node x types i (λ q. omega arith) ∙ fits i f g ∙ ap (made f.head) (sym (set_each node x types f.parts (λ k d m. let y = b.store.lower i f g k d m in omega arith))))
              (set_same node x types node refl ∙ ap (made form.head) (sym (set_each node x types form.parts low))),
          set_each node x types (upto 0 n) (λ k d l. let y = upto_in 0 n k d l in let r = b.room in let a = h.next in omega arith) ∙ e,
        )

-- ---- a node over the last of a stack

map_take : (f : ℕ → MlType) (k : ℕ) (xs : List ℕ) → map f (take k xs) ≡ take k (map f xs)
map_take f zero xs = refl
map_take f (suc k) [] = refl
map_take f (suc k) (x ∷ xs) = ap (λ l. f x ∷ l) (map_take f k xs)

map_drop : (f : ℕ → MlType) (k : ℕ) (xs : List ℕ) → map f (drop k xs) ≡ drop k (map f xs)
map_drop f zero xs = refl
map_drop f (suc k) [] = refl
map_drop f (suc k) (x ∷ xs) = map_drop f k xs

All_front : (P : ℕ → Type 0) (k : ℕ) (xs : List ℕ) → All P xs → All P (take k xs)
All_front P zero xs a j d h = absurd (omega arith)
All_front P (suc k) [] a j d h = absurd (omega arith)
All_front P (suc k) (x ∷ xs) a zero d h = a 0 d (omega arith)
All_front P (suc k) (x ∷ xs) a (suc j) d h = All_front P k xs (λ i e l. a (suc i) e (omega arith)) j d (omega arith)

pub All_rest : (P : ℕ → Type 0) (k : ℕ) (xs : List ℕ) → All P xs → All P (drop k xs)
All_rest P zero xs a j d h = a j d h
All_rest P (suc k) [] a j d h = absurd (omega arith)
All_rest P (suc k) (x ∷ xs) a j d h = All_rest P k xs (λ i e l. a (suc i) e (omega arith)) j d h

one : (P : ℕ → Type 0) (x : ℕ) → P x → All P (x ∷ [])
one P x p zero d h = p
one P x p (suc k) d h = absurd (omega arith)

-- a stack with a node more
pub pushed_in : (old new : Arena) (stack : List ℕ) (node : ℕ) → length old.nodes.items ≤ length new.nodes.items → node < length new.nodes.items → AreIn old stack → AreIn new (stack ++ node ∷ [])
pushed_in old new stack node l h a = All-append (λ i. i < length new.nodes.items) stack (node ∷ []) (λ k d m. let x = a k d m in omega arith) (one (λ i. i < length new.nodes.items) node h)

pub rest_read : (read stack : List ℕ) (from : ℕ) → read ≡ stack → take (length read - from) (drop from read) ≡ drop from stack
rest_read read stack from e = take_all (length read - from) (drop from read) (omega (arith, length-drop from read)) ∙ ap (drop from) e

pub is_over : (old new : Arena) (n : ℕ) (stack later parts : List ℕ) (head : Head) (count from node : ℕ) → IsBase old n → AreIn old stack → from ≡ length stack - count → count ≤ length stack → IsRight head count
    → parts ≡ drop from stack → length parts ≡ count → HasAdded old new node (Some (record { head = head; parts = parts })) → later ≡ take from stack ++ node ∷ [] → IsOver old new n stack later head count
is_over old new n stack later parts head count from node b a ef le right ep el h elater = record {
  more = more;
  inside = subst (AreIn new) (sym elater) (pushed_in old new (take from stack) node more.longer (let x = h.count in omega arith) (All_front (λ i. i < length old.nodes.items) from stack a));
  long = let x = ap length elater in let y = length-append (take from stack) (node ∷ []) in let z = length-take-le from stack (omega arith) in omega arith;
  over = λ t fits.
      ap (map t) elater ∙ map-append t (take from stack) (node ∷ [])
      ∙ ap₂ (λ (l : List MlType) (x : MlType). l ++ x ∷ []) (map_take t from stack)
      (fits node (record { head = head; parts = parts }) h.formed ∙ ap (made head) (each_listed t parts ∙ ap types_of (ap (map t) ep ∙ map_drop t from stack)))
      ∙ ap (λ (k : ℕ). take k (map t stack) ++ made head (types_of (drop k (map t stack))) ∷ []) ef;
}
  where
    more : IsMore old new n
    more = more_added old new n node (record { head = head; parts = parts }) b h (subst (IsRight head) (sym el) right) (subst (All (λ p. p < length old.nodes.items)) (sym ep) (All_rest (λ p. p < length old.nodes.items) from stack a))

-- what a node over the last of a stack makes, where the type has this head over its parts
pub made_over : (old new : Arena) (n : ℕ) (stack later : List ℕ) (head : Head) (count : ℕ) (source : MlType) → IsOver old new n stack later head count → count ≡ length (parts_of source)
    → ((by : ℕ → MlType) (us : List MlType) → made head (types_of us) ≡ made_of by source us) → IsMade old new n stack later source
made_over old new n stack later head count source o e h = record {
  more = o.more;
  inside = o.inside;
  long = let x = o.long in omega arith;
  made = λ t fits. o.over t fits ∙ ap (λ (k : ℕ). take k (map t stack) ++ made head (types_of (drop k (map t stack))) ∷ []) (let l = length-map stack t in omega arith)
      ∙ ap (λ x. rest_of (length (parts_of source)) (map t stack) ++ x ∷ []) (h (by_nodes n t) (last_of (length (parts_of source)) (map t stack)));
}

pub made_variable : (old new : Arena) (n : ℕ) (stack later : List ℕ) (v node : ℕ) → IsMore old new n → AreIn old stack → node < length new.nodes.items → ((t : ℕ → MlType) → Fits (form_at new) t → t node ≡ by_nodes n t v)
    → later ≡ stack ++ node ∷ [] → IsMade old new n stack later (ml.var v)
made_variable old new n stack later v node more inside h is e = record {
  more = more;
  inside = subst (AreIn new) (sym e) (pushed_in old new stack node more.longer h inside);
  long = let x = ap length e in let y = length-append stack (node ∷ []) in omega arith;
  made = λ t fits. ap (map t) e ∙ map-append t stack (node ∷ [])
      ∙ ap₂ (λ (l : List MlType) (x : MlType). l ++ x ∷ []) (sym (take_all (length (map t stack) - 0) (map t stack) (omega arith))) (is t fits);
}
