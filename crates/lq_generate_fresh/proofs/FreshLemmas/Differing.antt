-- Where a program has no complaint, no two constructors have one name.
use Rattle.std.proofs.Common.{◌≡◌, ◌∙◌, ℕ, Bool, true, false, ◌||◌, ◌==◌, if◌then◌else◌, List, [], ◌∷◌, ◌++◌, map, refl, sym, ap, subst}
use Rattle.std.proofs.lemmas.List.{map-append}
use Rattle.std.specs.List.{AllByRecursion, IsDistinct}
use Rattle.lq_text_datatypes.specs.Datatypes.{datatypes_in}
use Rattle.lq_text_scope.specs.Complaints.{at, twice}
use Rattle.lq_text_scope.specs.Datatypes.{Frame, arity_of, frame_of, name_of, named_of, of_constructors, of_types, with_constructors}
use Rattle.lq_text_scope.specs.Known.{Arity, Known, has, predeclared_known}
use Rattle.lq_text_scope.specs.Patterns.{again, repeated}
use Rattle.lq_text_scope.specs.Uses.{behind, of_item, of_items, of_program}
use Rattle.lq_text_walk.specs.Scoped.Signature.{constructor_tree, constructors_in, data_tree, signed}
use Rattle.lq_text_tree.specs.Items.{Construct, Datatype, ItemForm, ItemTree, type_of, let_of, let_rec_of}
use Rattle.lq_generate_fresh.specs.Fresh.Defined.{names_of, ConstructorsDiffer}

-- none of these is among the ones before it
abbrev AreNew : List ℕ → List ℕ → Type 0
AreNew before [] = Unit {0}
AreNew before (n ∷ ns) = (has before n ≡ false) × AreNew (n ∷ before) ns

none_first : {X : Type 0} (xs ys : List X) → xs ++ ys ≡ [] → xs ≡ []
none_first [] ys h = refl
none_first (x ∷ xs) ys h = absurd (cc)

none_second : {X : Type 0} (xs ys : List X) → xs ++ ys ≡ [] → ys ≡ []
none_second [] ys h = h
none_second (x ∷ xs) ys h = absurd (cc)

not_again : (before : List ℕ) (c : Construct) → again before (named_of c) ≡ [] → has before c.name ≡ false
not_again before c h = by (has before c.name) h
  where
    by : (b : Bool) → (if b then at c.place (twice c.name) ∷ [] else []) ≡ [] → b ≡ false
    by true e = absurd (cc)
    by false e = refl

abbrev constructor_names : List Construct → List ℕ
constructor_names cs = map (λ c. c.name) cs

-- those of a datatype are new, and so are others behind them
new_constructors : (r : Frame) (known : List Arity) (cs : List Construct) (ns : List ℕ) → of_constructors r known cs ≡ []
    → AreNew (map name_of (with_constructors known cs)) ns → AreNew (map name_of known) (constructor_names cs ++ ns)
new_constructors r known [] ns h rest = rest
new_constructors r known (c ∷ cs) ns h rest =
    let own = again (map name_of known) (named_of c) in
    let types = of_types r false c.fields in
    let later = of_constructors r (arity_of c ∷ known) cs in (
      not_again (map name_of known) c (none_first own (types ++ later) h),
      new_constructors r (arity_of c ∷ known) cs ns (none_second types later (none_second own (types ++ later) h)) rest,
    )

signed_names : (d : Datatype) (cs : List Construct) → names_of (map (signed (data_tree d)) (map (constructor_tree d) cs)) ≡ constructor_names cs
signed_names d [] = refl
signed_names d (c ∷ cs) = ap (λ (l : List ℕ). c.name ∷ l) (signed_names d cs)

module _ (names : List (List ℕ)) where
  new_items : (k : Known) (is : List ItemTree) → of_items names k is ≡ [] → AreNew (map name_of k.constructors) (names_of (constructors_in (datatypes_in is)))
  new_items k [] h = tt
  new_items k (i ∷ is) h = by i.form (none_first (of_item names k i.form) (of_items names (behind k i.form) is) h)
      (new_items (behind k i.form) is (none_second (of_item names k i.form) (of_items names (behind k i.form) is) h))
    where
      by : (f : ItemForm) → of_item names k f ≡ []
          → AreNew (map name_of (behind k f).constructors) (names_of (constructors_in (datatypes_in is)))
          → AreNew (map name_of k.constructors) (names_of (constructors_in (datatypes_in (record { place = i.place; form = f } ∷ is))))
      by (let_of p e) q r = r
      by (let_rec_of f e) q r = r
      by (type_of d) q r =
          let own = again (map name_of k.types) (record { name = d.name; place = d.place }) in
          let inner = of_constructors (frame_of k d) k.constructors d.constructors in
          let left = map (signed (data_tree d)) (map (constructor_tree d) d.constructors) in
          let right = constructors_in (datatypes_in is) in
          subst (AreNew (map name_of k.constructors)) (sym (map-append (λ c. c.0) left right ∙ ap (λ l. l ++ names_of right) (signed_names d d.constructors)))
          (new_constructors (frame_of k d) k.constructors d.constructors (names_of right)
          (none_second (repeated [] d.parameters) inner (none_second own (repeated [] d.parameters ++ inner) q)) r)

-- ---- what is new differs

or_first : (a b : Bool) → (a || b) ≡ false → a ≡ false
or_first true b h = h
or_first false b h = refl

or_second : (a b : Bool) → (a || b) ≡ false → b ≡ false
or_second true b h = absurd (cc)
or_second false b h = h

other : (front before : List ℕ) (x y : ℕ) → has (front ++ x ∷ before) y ≡ false → (x == y) ≡ false
other [] before x y h = or_first (x == y) (has before y) h
other (z ∷ front) before x y h = other front before x y (or_second (z == y) (has (front ++ x ∷ before) y) h)

others : (front before : List ℕ) (x : ℕ) (ns : List ℕ) → AreNew (front ++ x ∷ before) ns → AllByRecursion (λ y. (x == y) ≡ false) ns
others front before x [] h = tt
others front before x (n ∷ ns) h = (other front before x n h.0, others (n ∷ front) before x ns h.1)

distinct : (before ns : List ℕ) → AreNew before ns → IsDistinct (λ a b. a == b) ns
unfolding IsDistinct
distinct before [] h = tt
distinct before (n ∷ ns) h = (others [] before n ns h.1, distinct (n ∷ before) ns h.1)

pub constructors_differ : (names : List (List ℕ)) (is : List ItemTree) → of_program names is ≡ [] → ConstructorsDiffer (datatypes_in is)
constructors_differ names is h =
    distinct [] (7 ∷ 8 ∷ 9 ∷ 10 ∷ names_of (constructors_in (datatypes_in is)))
    (refl, (refl, (refl, (refl, new_items names predeclared_known is h))))
