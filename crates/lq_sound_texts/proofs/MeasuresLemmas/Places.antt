-- The places of constructors in the definitions of their datatypes.
use Rattle.std.proofs.Common.{◌≡◌, ◌∙◌, ℕ, suc, Bool, true, false, cond, List, [], ◌∷◌, ◌++◌, length, map, Option, Some, None, slice_get, unwrap_or, if◌then◌else◌, refl, sym, ap, subst}
use Rattle.std.specs.Prelude.{◌==◌}
use Rattle.std.proofs.lemmas.Bool.{eqb-true, eq-eqb}
use Rattle.std.proofs.lemmas.List.{append_assoc, map-append}
use Rattle.std.proofs.lemmas.List.Elements.{filter-append}
use Rattle.lq_generate_datatypes.specs.Equations.{place_among, place_in}
use Rattle.lq_generate_fresh.specs.Fresh.Defined.{all_constructors, made_by, names_of, ordered_in}
use Rattle.lq_sound_programs.specs.Safety.Scoped.{IsIn}
use Rattle.lq_text_walk.specs.Scoped.Signature.{ConstructorTree, DataTree, constructors_in, signature_in, signed}
use Rattle.lq_text_qualifiers.specs.Sorting.Making.{constructor_name, constructors_named, constructors_of}
use Rattle.lq_text_qualifiers.specs.Faults.Datatypes as sorts
use Rattle.lq_text_qualifiers.specs.Faults.Datatypes.{Made, constructor, entry_of, makes, predeclared}
use Rattle.lq_text_qualifiers.specs.Faults.Lookups.{first_in, or_else}
use Rattle.lq_text_tree.specs.Signatures.{constructor_in}
use Rattle.lq_text_tree.specs.Types.{Constructor}
use Rattle.lq_sound_texts.proofs.MeasuresLemmas.Lists.{got_behind, got_front, got_in, same_some}

-- ---- in a row of constructors

names_joined : (xs ys : List (ℕ × Constructor)) → names_of (xs ++ ys) ≡ names_of xs ++ names_of ys
names_joined xs ys = map-append (λ k. k.0) xs ys

names_length : (xs : List (ℕ × Constructor)) → length (names_of xs) ≡ length xs
names_length [] = refl
names_length (x ∷ xs) = ap suc (names_length xs)

-- at its place among those of its datatype stands the constructor
at_place : (before ks : List (ℕ × Constructor)) (c : ℕ) (k : Constructor) → constructor_in ks c ≡ Some k
    → slice_get (names_of (made_by k.datatype (before ++ ks))) (place_among before ks c) ≡ Some c
at_place before [] c k e = absurd (let w = e in cc)
at_place before (h ∷ ks) c k e = by (h.0 == c) refl e (λ g. at_place (before ++ h ∷ []) ks c k g)
  where
    Goal : ℕ → Type 0
    Goal n = slice_get (names_of (made_by k.datatype (before ++ h ∷ ks))) n ≡ Some c

    here : (h.0 == c) ≡ true → h.1 ≡ k → Goal (length (made_by h.1.datatype before))
    here t same =
        let d = k.datatype in
        let own : (h.1.datatype == d) ≡ true = eq-eqb h.1.datatype d (ap (λ (z : Constructor). z.datatype) same) in
        let front = made_by d before in
        let back = made_by d ks in
        let there : made_by d (h ∷ ks) ≡ h ∷ back = ap (λ (b : Bool). if b then h ∷ back else back) own in
        let all : names_of (made_by d (before ++ h ∷ ks)) ≡ names_of front ++ h.0 ∷ names_of back =
        ap names_of (filter-append (λ z. z.1.datatype == d) before (h ∷ ks) ∙ ap (λ l. front ++ l) there) ∙ names_joined front (h ∷ back) in
        let size : length (made_by h.1.datatype before) ≡ length (names_of front) =
        ap (λ (z : Constructor). length (made_by z.datatype before)) same ∙ sym (names_length front) in
        subst Goal (sym size)
        (subst (λ l. slice_get l (length (names_of front)) ≡ Some c) (sym all)
        (got_behind (names_of front) h.0 (names_of back) ∙ ap Some (eqb-true h.0 c t)))

    by : (b : Bool) → (h.0 == c) ≡ b → (if b then Some h.1 else constructor_in ks c) ≡ Some k
        → (constructor_in ks c ≡ Some k → slice_get (names_of (made_by k.datatype ((before ++ h ∷ []) ++ ks))) (place_among (before ++ h ∷ []) ks c) ≡ Some c)
        → Goal (cond b (length (made_by h.1.datatype before)) (place_among (before ++ h ∷ []) ks c))
    by true t g later = here t (same_some h.1 k g)
    by false t g later =
        subst (λ l. slice_get (names_of (made_by k.datatype l)) (place_among (before ++ h ∷ []) ks c) ≡ Some c) (append_assoc before (h ∷ []) ks)
        (later g)

-- ---- in definitions

made_all : (d : ℕ) (t : DataTree) (cs : List ConstructorTree) → (t.name == d) ≡ true → made_by d (map (signed t) cs) ≡ map (signed t) cs
made_all d t [] h = refl
made_all d t (c ∷ cs) h =
    ap (λ (b : Bool). if b then signed t c ∷ made_by d (map (signed t) cs) else made_by d (map (signed t) cs)) h
    ∙ ap (λ l. signed t c ∷ l) (made_all d t cs h)

made_none : (d : ℕ) (t : DataTree) (cs : List ConstructorTree) → (t.name == d) ≡ false → made_by d (map (signed t) cs) ≡ []
made_none d t [] h = refl
made_none d t (c ∷ cs) h =
    ap (λ (b : Bool). if b then signed t c ∷ made_by d (map (signed t) cs) else made_by d (map (signed t) cs)) h ∙ made_none d t cs h

signed_names : (t : DataTree) (cs : List ConstructorTree) → names_of (map (signed t) cs) ≡ map constructor_name cs
signed_names t [] = refl
signed_names t (c ∷ cs) = ap (λ l. c.name ∷ l) (signed_names t cs)

-- those of the first definition of a name come first
named_first : (d : ℕ) (ts : List DataTree) (xs : List ℕ) → first_in (map constructors_of ts) d ≡ Some xs
    → (rest : List ℕ) × (names_of (made_by d (constructors_in ts)) ≡ xs ++ rest)
named_first d [] xs e = absurd (let w = e in cc)
named_first d (t ∷ ts) xs e = by (t.name == d) refl e (λ g. named_first d ts xs g)
  where
    own : List (ℕ × Constructor)
    own = map (signed t) t.constructors

    rest : List (ℕ × Constructor)
    rest = made_by d (constructors_in ts)

    joined : made_by d (own ++ constructors_in ts) ≡ made_by d own ++ rest
    joined = filter-append (λ z. z.1.datatype == d) own (constructors_in ts)

    by : (b : Bool) → (t.name == d) ≡ b
        → or_else (if b then Some (map constructor_name t.constructors) else None) (first_in (map constructors_of ts) d) ≡ Some xs
        → (first_in (map constructors_of ts) d ≡ Some xs → (r : List ℕ) × (names_of (made_by d (constructors_in ts)) ≡ xs ++ r))
        → (r : List ℕ) × (names_of (made_by d (constructors_in (t ∷ ts))) ≡ xs ++ r)
    by true h g later =
        let same = same_some (map constructor_name t.constructors) xs g in (
          names_of rest,
          ap names_of (joined ∙ ap (λ l. l ++ rest) (made_all d t t.constructors h)) ∙ names_joined own rest
              ∙ ap (λ l. l ++ names_of rest) (signed_names t t.constructors ∙ same),
        )
    by false h g later = at_rest (later g)
      where
        at_rest : (r : List ℕ) × (names_of (made_by d (constructors_in ts)) ≡ xs ++ r)
            → (r : List ℕ) × (names_of (made_by d (constructors_in (t ∷ ts))) ≡ xs ++ r)
        at_rest (r, k) = (r, ap names_of (joined ∙ ap (λ l. l ++ rest) (made_none d t t.constructors h)) ∙ k)

-- what stands at a constructor's place in the definition of its datatype is the constructor
pub named_there : (ds : List DataTree) (c : ℕ) (k : Constructor) → signature_in ds c ≡ Some k → (x : ℕ)
    → slice_get (constructors_named ds k.datatype) (place_in ds c) ≡ Some x → x ≡ c
named_there ds c k e x g = by (first_in (map constructors_of (predeclared ++ ds)) k.datatype) refl g
  where
    all : List ℕ
    all = names_of (made_by k.datatype (constructors_in (predeclared ++ ds)))

    here : slice_get all (place_in ds c) ≡ Some c
    here = at_place [] (all_constructors ds) c k e

    by : (o : Option (List ℕ)) → first_in (map constructors_of (predeclared ++ ds)) k.datatype ≡ o → slice_get (unwrap_or o []) (place_in ds c) ≡ Some x
        → x ≡ c
    by None f h = absurd (let w = h in cc)
    by (Some xs) f h = at_first (named_first k.datatype (predeclared ++ ds) xs f)
      where
        at_first : (r : List ℕ) × (names_of (made_by k.datatype (constructors_in (predeclared ++ ds))) ≡ xs ++ r) → x ≡ c
        at_first (r, q) =
            same_some x c (sym (subst (λ l. slice_get l (place_in ds c) ≡ Some x) (sym q) (got_front xs r (place_in ds c) x h)) ∙ here)

pub listed : (ds : List DataTree) (c : ℕ) (k : Constructor) → signature_in ds c ≡ Some k → IsIn (ordered_in ds k.datatype) c
listed ds c k e = got_in (ordered_in ds k.datatype) (place_in ds c) c (at_place [] (all_constructors ds) c k e)

-- ---- the same constructors by their fields

abbrev view : ℕ × Constructor → ℕ × Made
view p = (p.0, makes p.1.datatype p.1.fields)

view_tree : (t : DataTree) (cs : List ConstructorTree) → map view (map (signed t) cs) ≡ map (entry_of t.name) cs
view_tree t [] = refl
view_tree t (c ∷ cs) = ap (λ l. entry_of t.name c ∷ l) (view_tree t cs)

view_all : (ts : List DataTree) → map view (constructors_in ts) ≡ sorts.constructors_in ts
view_all [] = refl
view_all (t ∷ ts) =
    map-append view (map (signed t) t.constructors) (constructors_in ts) ∙ ap (λ l. l ++ map view (constructors_in ts)) (view_tree t t.constructors)
    ∙ ap (λ l. map (entry_of t.name) t.constructors ++ l) (view_all ts)

view_first : (ks : List (ℕ × Constructor)) (c : ℕ) (k : Constructor) → constructor_in ks c ≡ Some k → first_in (map view ks) c ≡ Some (makes k.datatype k.fields)
view_first [] c k e = absurd (let w = e in cc)
view_first (h ∷ ks) c k e = by (h.0 == c) e (λ g. view_first ks c k g)
  where
    by : (b : Bool) → (if b then Some h.1 else constructor_in ks c) ≡ Some k
        → (constructor_in ks c ≡ Some k → first_in (map view ks) c ≡ Some (makes k.datatype k.fields))
        → or_else (if b then Some (makes h.1.datatype h.1.fields) else None) (first_in (map view ks) c) ≡ Some (makes k.datatype k.fields)
    by true g later = ap (λ (z : Constructor). Some (makes z.datatype z.fields)) (same_some h.1 k g)
    by false g later = later g

pub made_there : (ds : List DataTree) (c : ℕ) (k : Constructor) → signature_in ds c ≡ Some k → constructor ds c ≡ Some (makes k.datatype k.fields)
made_there ds c k e = ap (λ l. first_in l c) (sym (view_all (predeclared ++ ds))) ∙ view_first (constructors_in (predeclared ++ ds)) c k e
