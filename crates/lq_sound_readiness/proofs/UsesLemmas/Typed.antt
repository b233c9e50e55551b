-- The uses in a typed program fit, visit by visit.
use Rattle.std.specs.Prelude.{All}
use Rattle.std.specs.Option.{is_some}
use Rattle.std.proofs.Common.{◌≡◌, ℕ, zero, suc, ◌+◌, ◌<◌, ◌≤◌, ◌==◌, Bool, true, false, if◌then◌else◌, List, [], ◌∷◌, ◌++◌, length, Option, Some, None, refl, sym, ap, ap₂, subst, ◌∙◌, arith}
use Rattle.std.proofs.lemmas.Bool.Decides.{Decides-eqb}
use Rattle.std.proofs.lemmas.List.Elements.{All-nil, All-cons, All-head, All-tail}
use Rattle.lq_base_names.specs.declared.place.Place.{Place}
use Rattle.lq_text_tree.specs.MlType.{MlType, MlTypes}
use Rattle.lq_text_tree.specs.Tree as form
use Rattle.lq_text_tree.specs.Tree.{tree, Form}
use Rattle.lq_text_tree.specs.Types.{Signature, Scheme, plain, IsInstance, IsUsedAt}
use Rattle.lq_text_walk.specs.Walk.Shape.{shape_of}
use Rattle.lq_text_walk.specs.Walk.Visits.{Visit, leave, leave_function, visits_of_items}
use Rattle.lq_text_walk.specs.Scoped.Numbers.{from_on, nodes_of_items}
use Rattle.lq_text_walk.specs.Scoped.Scoping.{Scoping}
use Rattle.lq_text_walk.specs.Scoped.Signature.{signature_in}
use Rattle.lq_types_rules.specs.Equations.Gathered.{VisitIn}
use Rattle.lq_types_rules.specs.Equations.Rows.{TreeRule}
use Rattle.lq_types_rules.specs.Equations.Within.{ShapeIn}
use Rattle.lq_types_rules.specs.Visits.Laws.{slot_count, ScopedVisitsAreIn}
use Rattle.lq_types_rules.specs.Typings.Fronts.{left_in}
use Rattle.lq_types_rules.specs.Typings.Laws.{VisitsAreRules}
use Rattle.lq_types_rules.specs.Typings.Principal.{node_count}
use Rattle.lq_types_rules.specs.Typings.Uses.{Known, GeneralUse, none_known, behind, before_in, use_by, use_at_shape, RuleBy, ObeysFrom}
use Rattle.lq_types_infer.proofs.InferenceLemmas.Leaving.{items_left}
use Rattle.lq_types_infer.specs.Instantiation.Uses.{IsCounted, Instantiates, listed_use, uses_from, uses_of}
use Rattle.lq_refined_templates.specs.Points.Annotation.{Annotation, of_source, arguments_at}
use Rattle.lq_sound_readiness.specs.Reading.Uses.{instance_by}
use Rattle.lq_sound_readiness.specs.Uses.Fits.{FormFits, VisitFits}
use Rattle.lq_sound_readiness.specs.Uses.Instances.{Annotates, types_if}
use Rattle.lq_sound_readiness.specs.Uses.Laws.{TypedUsesFit}
use Rattle.lq_sound_readiness.proofs.UsesLemmas.Tables.{instance_is}

-- ---- lists

abbrev AllOf : {A : Type 0} → (A → Type 0) → List A → Type 0
AllOf P [] = Unit {0}
AllOf P (x ∷ xs) = P x × AllOf P xs

from_all : {A : Type 0} (P : A → Type 0) (xs : List A) → All P xs → AllOf P xs
from_all P [] h = tt
from_all P (x ∷ xs) h = (All-head P x xs h, from_all P xs (All-tail P x xs h))

to_all : {A : Type 0} (P : A → Type 0) (xs : List A) → AllOf P xs → All P xs
to_all P [] h = All-nil P
to_all P (x ∷ xs) h = All-cons P x xs h.0 (to_all P xs h.1)

all_weaker : {A : Type 0} (P Q : A → Type 0) → ((x : A) → P x → Q x) → (xs : List A) → AllOf P xs → AllOf Q xs
all_weaker P Q f [] h = tt
all_weaker P Q f (x ∷ xs) h = (f x h.0, all_weaker P Q f xs h.1)

-- the numbers from one on
abbrev Follow : ℕ → List ℕ → Type 0
Follow c [] = Unit {0}
Follow c (x ∷ xs) = (x ≡ c) × Follow (suc c) xs

follow_from : (c m : ℕ) → Follow c (from_on c m)
follow_from c zero = tt
follow_from c (suc m) = (refl, follow_from (suc c) m)

-- ---- uses

abbrev node_or : ℕ → Option GeneralUse → ℕ
node_or i None = i
node_or i (Some u) = u.node

-- a use has the number of its node
by_node : (i x : ℕ) (o : Option (List ℕ)) (u : GeneralUse) → use_by i x o ≡ Some u → u.node ≡ i
by_node i x None u e = absurd (cc)
by_node i x (Some ps) u e = sym (ap (node_or i) e)

form_node : (k : Known) (i : ℕ) (f : Form) (u : GeneralUse) → use_at_shape k i (shape_of f) ≡ Some u → u.node ≡ i
form_node k i (form.use_of x) u e = by_node i x (before_in k.general x) u e
form_node k i f u e = absurd (cc)

abbrev From : ℕ → GeneralUse → Type 0
From c u = c ≤ u.node

use_from : (c i : ℕ) (o : Option GeneralUse) (us : List GeneralUse) → ((u : GeneralUse) → o ≡ Some u → u.node ≡ i) → i ≡ c → AllOf (From (suc c)) us
    → AllOf (From c) (listed_use o ++ us)
use_from c i None us own here h = all_weaker (From (suc c)) (From c) (λ u low. omega (arith, low)) us h
use_from c i (Some u) us own here h =
    let same = own u refl in (omega (arith, same, here), all_weaker (From (suc c)) (From c) (λ u low. omega (arith, low)) us h)

-- uses have the numbers of nodes that are left
uses_above : (vs : List Visit) (k : Known) (c : ℕ) → Follow c (left_in vs) → AllOf (From c) (uses_from k vs)
uses_above [] k c h = tt
uses_above (leave (tree i p f) ∷ vs) k c h =
    use_from c i (use_at_shape k i (shape_of f)) (uses_from k vs) (form_node k i f) h.0 (uses_above vs k (suc c) h.1)
uses_above (leave_function r ∷ vs) k c h =
    all_weaker (From (suc c)) (From c) (λ u low. omega (arith, low)) (uses_from k vs) (uses_above vs k (suc c) h.1)
uses_above (v ∷ vs) k c h = uses_above vs (behind k v) c h

all_behind : (P : GeneralUse → Type 0) (o : Option GeneralUse) (us : List GeneralUse) → AllOf P (listed_use o ++ us) → AllOf P us
all_behind P None us h = h
all_behind P (Some u) us h = h.1

-- ---- names

named_at : (b : Bool) (s : Scheme) (a : MlType) → b ≡ true → IsUsedAt (if b then Some s else None) a → IsInstance s a
named_at true s a e h = h
named_at false s a e h = absurd h

source_none : (o : Option ℕ) → of_source o None ≡ None
source_none None = refl
source_none (Some x) = refl

source_some : (o : Option ℕ) (ts : Option MlTypes) → is_some o ≡ true → of_source o ts ≡ ts
source_some None ts e = absurd (cc)
source_some (Some x) ts e = refl

module _ (g : Signature) (s : Scoping) (types : ℕ → MlType) (table : List MlType) (numbers : ℕ → List ℕ) (n : Annotation) (says : Annotates s types table numbers n) where
  -- what is known of a use at a node
  abbrev IsAt : ℕ → GeneralUse → Type 0
  IsAt i u = IsCounted (node_count s) types u (numbers i) × Instantiates table (node_count s) types u (numbers i)

  abbrev Is : GeneralUse → Type 0
  Is u = ((i : ℕ) → i < node_count s → u.node ≡ i → IsAt i u) × (is_some (n.text u.binder) ≡ true)

  -- a node from this number on has no numbers where it is none of the uses
  abbrev Free : ℕ → List GeneralUse → Type 0
  Free c us = (i : ℕ) → c ≤ i → i < node_count s → AllOf (λ u. u.node ≡ i → ⊥) us → numbers i ≡ []

  free_behind : (c i : ℕ) (o : Option GeneralUse) (us : List GeneralUse) → ((u : GeneralUse) → o ≡ Some u → u.node ≡ i) → i ≡ c → Free c (listed_use o ++ us)
      → Free (suc c) us
  free_behind c i None us own here free j low less none = free j (omega (arith, low)) less none
  free_behind c i (Some u) us own here free j low less none =
      let same = own u refl in free j (omega (arith, low)) less ((λ e. omega (arith, e, same, here, low)), none)

  -- a name that isn't generalised
  plain_fits : (i x : ℕ) → i < node_count s → x < length s.sources → types i ≡ types (node_count s + x) → numbers i ≡ []
      → n.types i ≡ instance_by (arguments_at n i x) (n.names x)
  plain_fits i x less low same none =
      let arguments = ap (of_source (n.text x)) (says.arguments i less ∙ ap (types_if table) none) ∙ source_none (n.text x) in
      says.nodes i less ∙ same ∙ sym (says.binders x low) ∙ sym (ap (λ o. instance_by o (n.names x)) arguments)

  general_fits : (i x : ℕ) (ps : List ℕ) → i < node_count s → x < length s.sources → Is (record { node = i; binder = x; before = ps })
      → n.types i ≡ instance_by (arguments_at n i x) (n.names x)
  general_fits i x ps less low is =
      let arguments = source_some (n.text x) (n.arguments i) is.1 ∙ says.arguments i less in let here = is.0 i less refl in
      says.nodes i less ∙ here.1 ∙ instance_is table (numbers i) (types (node_count s + x)) here.0
      ∙ sym (ap₂ (λ o a. instance_by o a) arguments (says.binders x low))

  use_fits : (o : Option (List ℕ)) (i x : ℕ) (p : Place) (us : List GeneralUse) → i < node_count s → x < length s.sources
      → RuleBy (node_count s) (use_by i x o) types (TreeRule g (node_count s) (tree i p (form.use_of x)) types) → AllOf Is (listed_use (use_by i x o) ++ us)
      → Free i (listed_use (use_by i x o) ++ us) → AllOf (From (suc i)) us → n.types i ≡ instance_by (arguments_at n i x) (n.names x)
  use_fits None i x p us less low rule known free later =
      plain_fits i x less low
      (named_at (x == x) (plain (types (node_count s + x))) (types i) ((Decides-eqb x x).1 refl) rule)
      (free i (omega arith) less (all_weaker (From (suc i)) (λ u. u.node ≡ i → ⊥) (λ u above e. omega (arith, above, e)) us later))
  use_fits (Some ps) i x p us less low rule known free later = general_fits i x ps less low known.0

  form_fits : (f : Form) (i : ℕ) (p : Place) (k : Known) (us : List GeneralUse) → i < node_count s → ShapeIn (node_count s) (slot_count s) (shape_of f)
      → RuleBy (node_count s) (use_at_shape k i (shape_of f)) types (TreeRule g (node_count s) (tree i p f) types)
      → AllOf Is (listed_use (use_at_shape k i (shape_of f)) ++ us) → Free i (listed_use (use_at_shape k i (shape_of f)) ++ us) → AllOf (From (suc i)) us
      → FormFits n i f
  form_fits (form.use_of x) i p k us less within rule known free later =
      use_fits (before_in k.general x) i x p us less (omega (arith, within)) rule known free later
  form_fits f i p k us less within rule known free later = tt

  -- the visits that are left fit, where the next node has this number
  visits_fit : (vs : List Visit) (k : Known) (c : ℕ) → ObeysFrom g (node_count s) k vs types → AllOf (VisitIn (node_count s) (slot_count s)) vs
      → Follow c (left_in vs) → c + length (left_in vs) ≤ node_count s → AllOf Is (uses_from k vs) → Free c (uses_from k vs) → AllOf (VisitFits n) vs
  visits_fit [] k c obeys within follow long known free = tt
  visits_fit (leave (tree i p f) ∷ vs) k c obeys within follow long known free =
      let o = use_at_shape k i (shape_of f) in let us = uses_from k vs in
      let here = follow.0 in
      let free_here : Free i (listed_use o ++ us) = subst (λ j. Free j (listed_use o ++ us)) (sym here) free in
      let later : AllOf (From (suc i)) us = subst (λ j. AllOf (From (suc j)) us) (sym here) (uses_above vs k (suc c) follow.1) in (
        form_fits f i p k us (omega (arith, here, long)) within.0.1 obeys.0 known free_here later,
        visits_fit vs k (suc c) obeys.1 within.1 follow.1 (omega (arith, long)) (all_behind Is o us known) (free_behind c i o us (form_node k i f) here free),
      )
  visits_fit (leave_function r ∷ vs) k c obeys within follow long known free =
      (tt, visits_fit vs k (suc c) obeys.1 within.1 follow.1 (omega (arith, long)) known (λ j low less none. free j (omega (arith, low)) less none))
  visits_fit (v ∷ vs) k c obeys within follow long known free = (tt, visits_fit vs (behind k v) c obeys.1 within.1 follow long known free)

  all_known : (us : List GeneralUse) → ((i : ℕ) → i < node_count s → All (λ u. u.node ≡ i → IsCounted (node_count s) types u (numbers i)) us)
      → ((i : ℕ) → i < node_count s → All (λ u. u.node ≡ i → Instantiates table (node_count s) types u (numbers i)) us)
      → All (λ u. is_some (n.text u.binder) ≡ true) us → AllOf Is us
  all_known [] counted instance texts = tt
  all_known (u ∷ us) counted instance texts =
      let A : ℕ → GeneralUse → Type 0 = λ i u. u.node ≡ i → IsCounted (node_count s) types u (numbers i) in
      let B : ℕ → GeneralUse → Type 0 = λ i u. u.node ≡ i → Instantiates table (node_count s) types u (numbers i) in
      let C : GeneralUse → Type 0 = λ u. is_some (n.text u.binder) ≡ true in (
        ((λ i less same. (All-head (A i) u us (counted i less) same, All-head (B i) u us (instance i less) same)), All-head C u us texts),
        all_known us (λ i less. All-tail (A i) u us (counted i less)) (λ i less. All-tail (B i) u us (instance i less)) (All-tail C u us texts),
      )

pub typed_fit : VisitsAreRules → ScopedVisitsAreIn → TypedUsesFit
typed_fit rules ranges s types table numbers n scoped is instances says =
    let g = signature_in s.datatypes in let vs = visits_of_items s.items in
    let left : left_in vs ≡ nodes_of_items s.items = items_left s.items in
    let count : length (left_in vs) ≡ node_count s = ap length left in
    let follow : Follow 0 (left_in vs) = subst (Follow 0) (sym (left ∙ scoped.nodes)) (follow_from 0 (length (nodes_of_items s.items))) in
    let within = from_all (VisitIn (node_count s) (slot_count s)) vs (ranges s scoped) in
    let known = all_known g s types table numbers n says (uses_of s) (λ i less. (instances i less).counted) (λ i less. (instances i less).instance) says.texts in
    to_all (VisitFits n) vs
    (visits_fit g s types table numbers n says vs none_known 0 ((rules g (node_count s) types s scoped).visits_obey is) within follow
    (omega (arith, count)) known
    (λ i low less none. (instances i less).unused (to_all (λ u. u.node ≡ i → ⊥) (uses_of s) none)))
