-- In a typed program types for variables stand at uses of names that earlier items defined alone.
use Rattle.std.specs.Prelude.{All, ◌||◌}
use Rattle.std.proofs.Common.{◌≡◌, ℕ, zero, suc, ◌+◌, ◌<◌, ◌≤◌, ◌==◌, Bool, true, false, if◌then◌else◌, List, [], ◌∷◌, ◌++◌, length, Option, Some, None, refl, sym, ap, subst, ◌∙◌, append_assoc, arith}
use Rattle.std.proofs.Math.Logic.{∥∥₁_elim}
use Rattle.std.proofs.lemmas.Bool.{eqb-true}
use Rattle.std.proofs.lemmas.Bool.Decides.{Decides-eqb}
use Rattle.std.proofs.lemmas.List.Elements.{All-nil, All-cons}
use Rattle.lq_text_tree.specs.Items.{ItemTree, ItemForm, type_of, let_of, let_rec_of}
use Rattle.lq_text_tree.specs.MlType.{MlType, MlTypes}
use Rattle.lq_text_tree.specs.Pattern.{pattern, any, bind, nothing, tuple_of, build_of}
use Rattle.lq_text_tree.specs.Tree as form
use Rattle.lq_text_tree.specs.Tree.{tree, Form}
use Rattle.lq_text_walk.specs.Walk.Shape.{shape_of}
use Rattle.lq_text_walk.specs.Walk.Visits.{Visit, leave_item, leave, leave_function, visits_of_form, visits_of_items}
use Rattle.lq_text_walk.specs.Scoped.Numbers.{from_on, nodes_of_items}
use Rattle.lq_logic_predicates.specs.Sum.{same_symbol}
use Rattle.lq_refined_types.specs.Types.Operations.{symbol_of}
use Rattle.lq_sound_values.specs.Inclusion.Symbols.{Symbols, with_symbol}
use Rattle.lq_types_rules.specs.Typings.Fronts.{left_in}
use Rattle.lq_types_rules.specs.Typings.Principal.{node_count}
use Rattle.lq_types_rules.specs.Typings.Uses.{General, Known, GeneralUse, none_known, with_name, behind_form, behind, before_in, use_by, use_at_shape, is_value}
use Rattle.lq_types_infer.proofs.InferenceLemmas.Leaving.{items_left}
use Rattle.lq_types_infer.specs.Annotation.Whole.{program_of, table_of}
use Rattle.lq_types_infer.specs.Instantiation.Instances.{rows_of}
use Rattle.lq_types_infer.specs.Instantiation.Uses.{listed_use, uses_from, uses_of}
use Rattle.lq_generate_reading.specs.Visibility.Notes.{types_if_any}
use Rattle.lq_refined_templates.specs.Points.Annotation.{Annotation, of_source, arguments_at}
use Rattle.lq_sound_scope.specs.GeneralUses.Laws.{NotedProgramsUseBefore}
use Rattle.lq_sound_scope.specs.GeneralUses.Trees.{IsInstanceOf, with_item, ItemsUseBefore}
use Rattle.lq_sound_scope.proofs.GeneralUsesLemmas.Quiet.{AllStay, form_stays}
use Rattle.lq_sound_scope.proofs.GeneralUsesLemmas.Visits.{FormUses, AllUse, form_uses}

-- ---- numbers of nodes

-- the numbers from one on
abbrev Follow : ℕ → List ℕ → Type 0
Follow c [] = Unit {0}
Follow c (x ∷ xs) = (x ≡ c) × Follow (suc c) xs

follow_from : (c m : ℕ) → Follow c (from_on c m)
follow_from c zero = tt
follow_from c (suc m) = (refl, follow_from (suc c) m)

-- ---- uses

abbrev AllOf : (GeneralUse → Type 0) → List GeneralUse → Type 0
AllOf P [] = Unit {0}
AllOf P (x ∷ xs) = P x × AllOf P xs

to_all : (P : GeneralUse → Type 0) (xs : List GeneralUse) → AllOf P xs → All P xs
to_all P [] h = All-nil P
to_all P (x ∷ xs) h = All-cons P x xs h.0 (to_all P xs h.1)

all_weaker : (P Q : GeneralUse → Type 0) → ((x : GeneralUse) → P x → Q x) → (xs : List GeneralUse) → AllOf P xs → AllOf Q xs
all_weaker P Q f [] h = tt
all_weaker P Q f (x ∷ xs) h = (f x h.0, all_weaker P Q f xs h.1)

abbrev node_or : ℕ → Option GeneralUse → ℕ
node_or i None = i
node_or i (Some u) = u.node

-- a use has the number of its node
by_node : (i x : ℕ) (o : Option (List ℕ)) (u : GeneralUse) → use_by i x o ≡ Some u → u.node ≡ i
by_node i x None u e = absurd (cc)
by_node i x (Some ps) u e = sym (ap (node_or i) e)

form_node : (k : Known) (i : ℕ) (f : Form) (u : GeneralUse) → use_at_shape k i (shape_of f) ≡ Some u → u.node ≡ i
form_node k i (form.use_of x) u e = by_node i x (before_in k.general x) u e
form_node k i f u e = absurd (cc)

abbrev From : ℕ → GeneralUse → Type 0
From c u = c ≤ u.node

use_from : (c i : ℕ) (o : Option GeneralUse) (us : List GeneralUse) → ((u : GeneralUse) → o ≡ Some u → u.node ≡ i) → i ≡ c → AllOf (From (suc c)) us
    → AllOf (From c) (listed_use o ++ us)
use_from c i None us own here h = all_weaker (From (suc c)) (From c) (λ u low. omega (arith, low)) us h
use_from c i (Some u) us own here h =
    let same = own u refl in (omega (arith, same, here), all_weaker (From (suc c)) (From c) (λ u low. omega (arith, low)) us h)

-- uses have the numbers of nodes that are left
uses_above : (vs : List Visit) (k : Known) (c : ℕ) → Follow c (left_in vs) → AllOf (From c) (uses_from k vs)
uses_above [] k c h = tt
uses_above (leave (tree i p f) ∷ vs) k c h =
    use_from c i (use_at_shape k i (shape_of f)) (uses_from k vs) (form_node k i f) h.0 (uses_above vs k (suc c) h.1)
uses_above (leave_function r ∷ vs) k c h =
    all_weaker (From (suc c)) (From c) (λ u low. omega (arith, low)) (uses_from k vs) (uses_above vs k (suc c) h.1)
uses_above (v ∷ vs) k c h = uses_above vs (behind k v) c h

-- ---- names

-- each generalised definition that is known has one of these names
abbrev AllKnown : Symbols → List General → Type 0
AllKnown S [] = Unit {0}
AllKnown S (d ∷ ds) = (S (symbol_of d.binder) ≡ true) × AllKnown S ds

known_weaker : (S T : Symbols) → ((x : ℕ) → S (symbol_of x) ≡ true → T (symbol_of x) ≡ true) → (ds : List General) → AllKnown S ds → AllKnown T ds
known_weaker S T f [] h = tt
known_weaker S T f (d ∷ ds) h = (f d.binder h.0, known_weaker S T f ds h.1)

or_left : (a b : Bool) → a ≡ true → (a || b) ≡ true
or_left true b h = refl
or_left false b h = absurd (cc)

or_right : (a b : Bool) → b ≡ true → (a || b) ≡ true
or_right true b h = refl
or_right false b h = h

added : (S : Symbols) (x : ℕ) → with_symbol S (symbol_of x) (symbol_of x) ≡ true
added S x = or_right (S (symbol_of x)) (same_symbol (symbol_of x) (symbol_of x)) ((Decides-eqb x x).1 refl)

kept : (S : Symbols) (x : ℕ) (ds : List General) → AllKnown S ds → AllKnown (with_symbol S (symbol_of x)) ds
kept S x ds h =
    known_weaker S (with_symbol S (symbol_of x)) (λ y there. or_left (S (symbol_of y)) (same_symbol (symbol_of x) (symbol_of y)) there) ds h

behind_name : (S : Symbols) (k : Known) (x : ℕ) (value : Bool) → AllKnown S k.general → AllKnown (with_symbol S (symbol_of x)) (with_name k x value).general
behind_name S k x true ds = (added S x, kept S x k.general ds)
behind_name S k x false ds = kept S x k.general ds

known_behind : (S : Symbols) (k : Known) (f : ItemForm) → AllKnown S k.general → AllKnown (with_item S f) (behind_form k f).general
known_behind S k (type_of d) ds = ds
known_behind S k (let_of (pattern p any) e) ds = ds
known_behind S k (let_of (pattern p (bind x)) e) ds = behind_name S k x (is_value e) ds
known_behind S k (let_of (pattern p nothing) e) ds = ds
known_behind S k (let_of (pattern p (tuple_of qs)) e) ds = ds
known_behind S k (let_of (pattern p (build_of c m qs)) e) ds = ds
known_behind S k (let_rec_of f r) ds = (added S f, kept S f k.general ds)

first_known : (S : Symbols) (x : ℕ) (b : Bool) (d : General) (o : Option (List ℕ)) (ps : List ℕ) → (b ≡ true → d.binder ≡ x)
    → S (symbol_of d.binder) ≡ true → (o ≡ Some ps → S (symbol_of x) ≡ true) → (if b then Some d.before else o) ≡ Some ps → S (symbol_of x) ≡ true
first_known S x true d o ps same own later e = subst (λ (y : ℕ). S (symbol_of y) ≡ true) (same refl) own
first_known S x false d o ps same own later e = later e

-- a name that is found among them is one of these
found_known : (S : Symbols) (x : ℕ) (ds : List General) (ps : List ℕ) → AllKnown S ds → before_in ds x ≡ Some ps → S (symbol_of x) ≡ true
found_known S x [] ps h e = absurd (cc)
found_known S x (d ∷ ds) ps h e =
    first_known S x (d.binder == x) d (before_in ds x) ps (eqb-true d.binder x) h.0 (found_known S x ds ps h.1) e

instance_known : (S : Symbols) (x : ℕ) (o : Option MlTypes) → S (symbol_of x) ≡ true → IsInstanceOf S x o
instance_known S x None h = tt
instance_known S x (Some ts) h = h

source_none : (o : Option ℕ) → of_source o None ≡ None
source_none None = refl
source_none (Some x) = refl

module _ (n : Annotation) (numbers : ℕ → List ℕ) (table : List MlType) (count : ℕ)
    (arguments : (i : ℕ) → i < count → n.arguments i ≡ types_if_any table (numbers i)) where
  -- a node from this number on has no numbers where it is none of the uses
  abbrev Free : ℕ → List GeneralUse → Type 0
  Free c us = (i : ℕ) → c ≤ i → i < count → AllOf (λ u. u.node ≡ i → ⊥) us → numbers i ≡ []

  free_behind : (c i : ℕ) (o : Option GeneralUse) (us : List GeneralUse) → ((u : GeneralUse) → o ≡ Some u → u.node ≡ i) → i ≡ c → Free c (listed_use o ++ us)
      → Free (suc c) us
  free_behind c i None us own here free j low less none = free j (omega (arith, low)) less none
  free_behind c i (Some u) us own here free j low less none =
      let same = own u refl in free j (omega (arith, low)) less ((λ e. omega (arith, e, same, here, low)), none)

  no_arguments : (S : Symbols) (i x : ℕ) → i < count → numbers i ≡ [] → IsInstanceOf S x (arguments_at n i x)
  no_arguments S i x less none =
      let given = ap (of_source (n.text x)) (arguments i less ∙ ap (types_if_any table) none) ∙ source_none (n.text x) in
      subst (IsInstanceOf S x) (sym given) tt

  use_uses : (S : Symbols) (k : Known) (o : Option (List ℕ)) (i x : ℕ) (us : List GeneralUse) → o ≡ before_in k.general x → AllKnown S k.general → i < count
      → Free i (listed_use (use_by i x o) ++ us) → AllOf (From (suc i)) us → IsInstanceOf S x (arguments_at n i x)
  use_uses S k None i x us found known less free later =
      no_arguments S i x less
      (free i (omega arith) less (all_weaker (From (suc i)) (λ u. u.node ≡ i → ⊥) (λ u above e. omega (arith, above, e)) us later))
  use_uses S k (Some ps) i x us found known less free later =
      instance_known S x (arguments_at n i x) (found_known S x k.general ps known (sym found))

  visit_uses : (S : Symbols) (k : Known) (i : ℕ) (f : Form) (us : List GeneralUse) → AllKnown S k.general → i < count
      → Free i (listed_use (use_at_shape k i (shape_of f)) ++ us) → AllOf (From (suc i)) us → FormUses n S i f
  visit_uses S k i (form.use_of x) us known less free later = use_uses S k (before_in k.general x) i x us refl known less free later
  visit_uses S k i f us known less free later = tt

  -- where the next node has this number, and these visits are left
  record At (k : Known) (c : ℕ) (vs : List Visit) : Type 0 where
    follow : Follow c (left_in vs)
    long : c + length (left_in vs) ≤ count
    free : Free c (uses_from k vs)

  -- visits inside of an item use names that were defined before, and the rest goes on behind them
  visits_use : (S : Symbols) (k : Known) → AllKnown S k.general → (vs ws : List Visit) (c : ℕ) → AllStay vs → At k c (vs ++ ws)
      → AllUse n S vs × ((d : ℕ) × At k d ws)
  visits_use S k known [] ws c stay at = (tt, (c, at))
  visits_use S k known (leave (tree i p f) ∷ vs) ws c stay at =
      let o = use_at_shape k i (shape_of f) in let us = uses_from k (vs ++ ws) in
      let here = at.follow.0 in let long = at.long in
      let free_here : Free i (listed_use o ++ us) = subst (λ j. Free j (listed_use o ++ us)) (sym here) at.free in
      let later : AllOf (From (suc i)) us = subst (λ j. AllOf (From (suc j)) us) (sym here) (uses_above (vs ++ ws) k (suc c) at.follow.1) in
      let rest =
      visits_use S k known vs ws (suc c) stay.1
      (record { follow = at.follow.1; long = omega (arith, long); free = free_behind c i o us (form_node k i f) here at.free }) in
      ((visit_uses S k i f us known (omega (arith, here, long)) free_here later, rest.0), rest.1)
  visits_use S k known (leave_function r ∷ vs) ws c stay at =
      let long = at.long in
      let rest =
      visits_use S k known vs ws (suc c) stay.1
      (record { follow = at.follow.1; long = omega (arith, long); free = λ j low less none. at.free j (omega (arith, low)) less none }) in
      ((tt, rest.0), rest.1)
  visits_use S k known (leave_item i ∷ vs) ws c stay at = absurd stay.0
  visits_use S k known (v ∷ vs) ws c stay at =
      let rest = visits_use S k known vs ws c stay.1 (record { follow = at.follow; long = at.long; free = at.free }) in ((tt, rest.0), rest.1)

  items_use : (is : List ItemTree) (S : Symbols) (k : Known) (c : ℕ) → AllKnown S k.general → At k c (visits_of_items is) → ItemsUseBefore n S is
  items_use [] S k c known at = tt
  items_use (i ∷ is) S k c known at =
      let vs = visits_of_form i.form in let ws = visits_of_items is in
      let inside : At k c (vs ++ (leave_item i ∷ ws)) =
      subst (At k c) (append_assoc vs (leave_item i ∷ []) ws) (record { follow = at.follow; long = at.long; free = at.free }) in
      let first = visits_use S k known vs (leave_item i ∷ ws) c (form_stays i.form) inside in
      let there = first.1.1 in (
        form_uses n S i.form first.0,
        items_use is (with_item S i.form) (behind_form k i.form) first.1.0 (known_behind S k i.form known)
            (record { follow = there.follow; long = there.long; free = there.free }),
      )

-- ---- programs

no_rows : (rows : List ℕ) → ∥ rows ≡ [] ∥₁ → rows ≡ []
no_rows [] h = refl
no_rows (r ∷ rs) h = absurd (∥∥₁_elim h (λ a b. absurd a) (λ e. absurd (cc)))

pub programs_use : NotedProgramsUseBefore
programs_use i n knows =
    let s = program_of i.annotated in let vs = visits_of_items s.items in
    let scoped = i.annotated.program.scoped in
    let numbers : ℕ → List ℕ = λ j. rows_of i.rows.items i.starts.items j in
    let left : left_in vs ≡ nodes_of_items s.items = items_left s.items in
    let count : length (left_in vs) ≡ node_count s = ap length left in
    let follow : Follow 0 (left_in vs) = subst (Follow 0) (sym (left ∙ scoped.nodes)) (follow_from 0 (length (nodes_of_items s.items))) in
    let free : Free n numbers (table_of i.annotated) (node_count s) knows.arguments 0 (uses_of s) =
    (λ j low less none.
    no_rows (numbers j) (∥∥₁_elim i.found squash₁ (λ found. ∣ found.unused j less (to_all (λ u. u.node ≡ j → ⊥) (uses_of s) none) ∣₁))) in
    items_use n numbers (table_of i.annotated) (node_count s) knows.arguments s.items (λ y. false) none_known 0 tt
    (record { follow = follow; long = omega (arith, count); free = free })
