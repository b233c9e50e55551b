-- What is known of constructors once those of datatypes are added one by one.
use Rattle.std.proofs.Common.{◌≡◌, ◌≢◌, ◌∙◌, ℕ, zero, suc, ◌+◌, ◌<◌, ◌≤◌, Bool, true, false, ◌&&◌, ◌==◌, cond, if◌then◌else◌, List, [], ◌∷◌, ◌++◌, length, map, drop, take, slice_get, slice_index_or, get_or, set, Some, None, refl, sym, ap, subst, inl, inr, arith, rules, append-nil, get_or-set_same, get_or-set_other}
use Rattle.std.proofs.Math.Dec.{eqb-suc-suc, eqb-suc-zero, eqb-zero-suc}
use Rattle.std.proofs.lemmas.Bool.{cases_eq, eq-eqb, ne_eqb}
use Rattle.std.proofs.lemmas.List.{append_assoc, length-map, map-append, map-set, get_or-map, take_all, take_more}
use Rattle.std.proofs.lemmas.List.Elements.{filter-append}
use Rattle.std.specs.List.{AllByRecursion, IsDistinct, filter}
use Rattle.lq_refined_types.specs.Types.Unfolding.{are_parameters}
use Rattle.lq_text_qualifiers.specs.Faults.Shapes.{other, shape_of}
use Rattle.lq_text_tree.specs.MlType as ml
use Rattle.lq_text_tree.specs.MlType.{MlType, MlTypes}
use Rattle.lq_text_tree.specs.SimpleTypeView.{simple_type_step, simple_types_step, simple_type_view, simple_types_items, simple_types_view, types_of}
use Rattle.lq_text_tree.specs.Signatures.{constructor_in}
use Rattle.lq_text_tree.specs.Types.{Constructor as Kind, Signature, list_type, type_at}
use Rattle.lq_text_tree.specs.declared.simple_type.SimpleType.{SimpleType, Var, the_lemmas}
use Rattle.lq_text_tree.specs.declared.simple_type.SimpleTypes.{SimpleTypes, fold_out-SimpleTypes}
use Rattle.lq_refined_types.specs.Subtyping.Subtype.{fields_of}
use Rattle.std.specs.Global.{Vec}
use Rattle.lq_generate_fresh.specs.Fresh.Defined.{is_variable, made_by, names_of, AreKnown, Holds}
use Rattle.lq_generate_fresh.specs.Fresh.Fields.{AreConstructors, AreFields, Field, IsField, parameter, shapes_of}
use Rattle.lq_generate_fresh.specs.Fresh.Views.{constructor_view, constructors_of, field_view, Describes}
use Rattle.lq_generate_fresh.specs.declared.fresh.fields.Constructor.{Constructor}
use Rattle.lq_generate_fresh.specs.declared.fresh.fields.Field as fields
use Rattle.lq_generate_fresh.specs.declared.fresh.fields.Field.TheVariants as field
use Rattle.lq_generate_fresh.specs.declared.fresh.fields.Datatypes.{Datatypes}
use Rattle.lq_generate_fresh.proofs.FreshLemmas.Loops.{one_more}
use Rattle.lq_text_walk.specs.Scoped.Signature.{DataTree, constructors_in, signed}
use Rattle.lq_text_walk.specs.Scoped.Views.{data_view}
use Rattle.lq_text_walk.specs.declared.scoped.datatype.DataType.{DataType}

-- ---- rows of types

pub row_seen : (ts : SimpleTypes) → simple_types_view ts ≡ types_of (map simple_type_view (simple_types_items ts))
row_seen ts = fold_out-SimpleTypes MlType MlTypes simple_type_step simple_types_step ts

some_same : {X : Type 0} (a b : X) → Some a ≡ Some b → a ≡ b
some_same a b e = cc

-- an element that is found is the next one
pub found_rest : {X Y : Type 0} (f : X → Y) (xs : List X) (i : ℕ) (x : X) → slice_get xs i ≡ Some x
    → drop i (map f xs) ≡ f x ∷ drop (i + 1) (map f xs)
found_rest {X} f xs i x h = subst (λ k. drop i (map f xs) ≡ f x ∷ drop k (map f xs)) (one_more i) (from xs i h)
  where
    from : (ys : List X) (k : ℕ) → slice_get ys k ≡ Some x → drop k (map f ys) ≡ f x ∷ drop (suc k) (map f ys)
    from [] k h = absurd (cc)
    from (y ∷ ys) zero h = ap (λ z. f z ∷ map f ys) (some_same y x h)
    from (y ∷ ys) (suc k) h = from ys k h

pub found_front : {X Y : Type 0} (f : X → Y) (xs : List X) (i : ℕ) (x : X) → slice_get xs i ≡ Some x
    → take (i + 1) (map f xs) ≡ take i (map f xs) ++ f x ∷ []
found_front {X} f xs i x h = subst (λ k. take k (map f xs) ≡ take i (map f xs) ++ f x ∷ []) (one_more i) (from xs i h)
  where
    from : (ys : List X) (k : ℕ) → slice_get ys k ≡ Some x → take (suc k) (map f ys) ≡ take k (map f ys) ++ f x ∷ []
    from [] k h = absurd (cc)
    from (y ∷ ys) zero h = ap (λ z. f z ∷ []) (some_same y x h)
    from (y ∷ ys) (suc k) h = ap (λ l. f y ∷ l) (from ys k h)

pub all_front : {X Y : Type 0} (f : X → Y) (xs : List X) (i : ℕ) → length xs ≤ i → take i (map f xs) ≡ map f xs
all_front f xs i h = take_all i (map f xs) (subst (λ n. n ≤ i) (sym (length-map xs f)) h)

pub is_found : {X : Type 0} (xs : List X) (i : ℕ) → i < length xs → None ≡ slice_get xs i → ⊥
is_found [] i h e = omega arith
is_found (x ∷ xs) zero h e = absurd (cc)
is_found (x ∷ xs) (suc i) h e = is_found xs i (omega arith) e

-- ---- parameters in their order

abbrev pub in_order : ℕ → List MlType → Bool
in_order i [] = true
in_order i (t ∷ ts) = is_variable i t && in_order (suc i) ts

and_swap : (a b v : Bool) → (a && (b && v)) ≡ (b && (a && v))
and_swap true true v = refl
and_swap true false v = refl
and_swap false true v = refl
and_swap false false v = refl

and_false : (a : Bool) → false ≡ (a && false)
and_false true = refl
and_false false = refl

none_of : (m : ℕ) (b : Bool) → false ≡ (suc m == 0 && b)
none_of m b = ap (λ e. e && b) (sym (eqb-suc-zero m))

parameters_listed : (i n : ℕ) (ts : List MlType) → are_parameters i n (types_of ts) ≡ (length ts == n && in_order i ts)
parameters_listed i zero [] = refl
parameters_listed i (suc n) [] = ap (λ e. e && true) (sym (eqb-zero-suc n))
parameters_listed i zero (ml.int ∷ ts) = none_of (length ts) false
parameters_listed i zero (ml.bool ∷ ts) = none_of (length ts) false
parameters_listed i zero (ml.unit ∷ ts) = none_of (length ts) false
parameters_listed i zero (ml.var j ∷ ts) = none_of (length ts) (i == j && in_order (suc i) ts)
parameters_listed i zero (ml.arrow a b ∷ ts) = none_of (length ts) false
parameters_listed i zero (ml.tuple us ∷ ts) = none_of (length ts) false
parameters_listed i zero (ml.array a ∷ ts) = none_of (length ts) false
parameters_listed i zero (ml.named d us ∷ ts) = none_of (length ts) false
parameters_listed i zero (ml.map_of a ∷ ts) = none_of (length ts) false
parameters_listed i (suc n) (ml.int ∷ ts) = and_false (suc (length ts) == suc n)
parameters_listed i (suc n) (ml.bool ∷ ts) = and_false (suc (length ts) == suc n)
parameters_listed i (suc n) (ml.unit ∷ ts) = and_false (suc (length ts) == suc n)
parameters_listed i (suc n) (ml.arrow a b ∷ ts) = and_false (suc (length ts) == suc n)
parameters_listed i (suc n) (ml.tuple us ∷ ts) = and_false (suc (length ts) == suc n)
parameters_listed i (suc n) (ml.array a ∷ ts) = and_false (suc (length ts) == suc n)
parameters_listed i (suc n) (ml.named d us ∷ ts) = and_false (suc (length ts) == suc n)
parameters_listed i (suc n) (ml.map_of a ∷ ts) = and_false (suc (length ts) == suc n)
parameters_listed i (suc n) (ml.var j ∷ ts) =
    ap (λ b. i == j && b) (parameters_listed (suc i) n ts)
    ∙ (and_swap (i == j) (length ts == n) (in_order (suc i) ts)
    ∙ ap (λ e. e && (i == j && in_order (suc i) ts)) (sym (eqb-suc-suc (length ts) n)))

pub parameters_known : (ts : SimpleTypes) (b : Bool) → in_order 0 (map simple_type_view (simple_types_items ts)) ≡ b → (n : ℕ)
    → are_parameters 0 n (simple_types_view ts) ≡ (length (simple_types_items ts) == n && b)
parameters_known ts b h n =
    let items = simple_types_items ts in
    ap (are_parameters 0 n) (row_seen ts)
    ∙ (parameters_listed 0 n (map simple_type_view items)
    ∙ (ap (λ k. k == n && in_order 0 (map simple_type_view items)) (length-map items simple_type_view) ∙ ap (λ v. length items == n && v) h))

-- ---- fields

pub var_seen : (t : SimpleType) (i : ℕ) → t ≡ Var i → simple_type_view t ≡ ml.var i
var_seen t i e = ap simple_type_view e ∙ search (rules, the_lemmas)

pub parameter_is : (d i : ℕ) → IsField d (ml.var i) (parameter i)
parameter_is d i = record { again = λ n. refl; shape = λ us. at us i }
  where
    at : (us : MlTypes) (k : ℕ) → shape_of (type_at us k) ≡ slice_index_or (shapes_of us) k other
    at ml.no_types k = refl
    at (ml.more_types u us) zero = refl
    at (ml.more_types u us) (suc k) = at us k

-- ---- rows of fields

pub fields_more : (d : ℕ) (ts : List MlType) (xs : List Field) (t : MlType) (x : Field) → AreFields d (types_of ts) xs → IsField d t x
    → AreFields d (types_of (ts ++ t ∷ [])) (xs ++ x ∷ [])
fields_more d [] [] t x h i = (i, tt)
fields_more d (u ∷ ts) (y ∷ xs) t x h i = (h.0, fields_more d ts xs t x h.1 i)
fields_more d [] (y ∷ xs) t x h i = absurd h
fields_more d (u ∷ ts) [] t x h i = absurd h

-- ---- constructors by their datatypes

abbrev pub row_view : Vec Constructor → List (ℕ × List Field)
row_view row = map constructor_view row.items

pub row_other : (rows : List (Vec Constructor)) (w d : ℕ) (y : Vec Constructor) → d ≢ w
    → slice_index_or (map row_view (set rows w y)) d [] ≡ slice_index_or (map row_view rows) d []
row_other rows w d y n = ap (λ l. slice_index_or l d []) (map-set row_view rows w y) ∙ get_or-set_other (map row_view rows) w d (row_view y) [] n

pub row_longer : (rows : List (Vec Constructor)) (w : ℕ) (row y : Vec Constructor) (x : Constructor) → w < length rows → row ≡ get_or rows w row
    → y.items ≡ row.items ++ x ∷ []
    → slice_index_or (map row_view (set rows w y)) w [] ≡ slice_index_or (map row_view rows) w [] ++ constructor_view x ∷ []
row_longer rows w row y x h r q =
    let inside : w < length (map row_view rows) = subst (λ n. w < n) (sym (length-map rows row_view)) h in
    ap (λ l. slice_index_or l w []) (map-set row_view rows w y)
    ∙ (get_or-set_same (map row_view rows) w (row_view y) [] inside
    ∙ (ap (map constructor_view) q
    ∙ (map-append constructor_view row.items (x ∷ [])
    ∙ ap (λ l. l ++ constructor_view x ∷ []) (ap row_view r ∙ sym (get_or-map row_view rows w row [] h)))))

known_more : (d : ℕ) (ks : List (ℕ × Kind)) (xs : List (ℕ × List Field)) (n : ℕ) (k : Kind) (fs : List Field) → AreKnown d ks xs
    → AreFields d k.fields fs → AreKnown d (ks ++ (n, k) ∷ []) (xs ++ (n, fs) ∷ [])
known_more d [] [] n k fs h a = (refl, a, tt)
known_more d (l ∷ ks) (x ∷ xs) n k fs h a = (h.0, h.1, known_more d ks xs n k fs h.2 a)
known_more d [] (x ∷ xs) n k fs h a = absurd h
known_more d (l ∷ ks) [] n k fs h a = absurd h

pub none_held : (D : Datatypes) → D.rows.items ≡ [] → Holds D []
none_held D e d = subst (AreKnown d []) (sym (ap (λ l. slice_index_or (map row_view l) d []) e)) tt

-- those of a datatype, where one more stands behind the others
made_more : (d : ℕ) (ks : List (ℕ × Kind)) (n : ℕ) (k : Kind) (b : Bool) → (k.datatype == d) ≡ b
    → made_by d (ks ++ (n, k) ∷ []) ≡ made_by d ks ++ cond b ((n, k) ∷ []) []
made_more d ks n k b e =
    filter-append (λ l. l.1.datatype == d) ks ((n, k) ∷ []) ∙ ap (λ v. made_by d ks ++ cond v ((n, k) ∷ []) []) e

pub held_more : (D E : Datatypes) (ks : List (ℕ × Kind)) (w n : ℕ) (k : Kind) (fs : List Field) → k.datatype ≡ w → AreFields w k.fields fs
    → ((d : ℕ) → d ≢ w → constructors_of E d ≡ constructors_of D d) → constructors_of E w ≡ constructors_of D w ++ (n, fs) ∷ []
    → Holds D ks → Holds E (ks ++ (n, k) ∷ [])
held_more D E ks w n k fs q a others here h d = elim (cases_eq d w) [
  | inl e ↦ subst (λ v. AreKnown v (made_by v (ks ++ (n, k) ∷ [])) (constructors_of E v)) (sym e) own
  | inr m ↦ subst (AreKnown d (made_by d (ks ++ (n, k) ∷ []))) (sym (others d m))
      (subst (λ l. AreKnown d l (constructors_of D d))
      (sym (made_more d ks n k false (ne_eqb k.datatype d (λ e. m (sym e ∙ q))) ∙ append-nil (made_by d ks))) (h d))
]
  where
    own : AreKnown w (made_by w (ks ++ (n, k) ∷ [])) (constructors_of E w)
    own =
        subst (AreKnown w (made_by w (ks ++ (n, k) ∷ []))) (sym here)
        (subst (λ l. AreKnown w l (constructors_of D w ++ (n, fs) ∷ [])) (sym (made_more w ks n k true (eq-eqb k.datatype w q)))
        (known_more w (made_by w ks) (constructors_of D w) n k fs (h w) a))

-- ---- constructors by their names

-- each constructor is the one of its name
abbrev AreFound : Signature → List (ℕ × Kind) → Type 0
AreFound g [] = Unit {0}
AreFound g (k ∷ ks) = (g k.0 ≡ Some k.1) × AreFound g ks

found_among : (g : Signature) (p : ℕ × Kind → Bool) (ks : List (ℕ × Kind)) → AreFound g ks → AreFound g (filter p ks)
found_among g p [] h = tt
found_among g p (k ∷ ks) h = by (p k) (found_among g p ks h.1)
  where
    by : (b : Bool) → AreFound g (filter p ks) → AreFound g (cond b (k ∷ filter p ks) (filter p ks))
    by true r = (h.0, r)
    by false r = r

found_behind : (k : ℕ × Kind) (all ks : List (ℕ × Kind)) → AreFound (constructor_in all) ks → AllByRecursion (λ n. (k.0 == n) ≡ false) (names_of ks)
    → AreFound (constructor_in (k ∷ all)) ks
found_behind k all [] h a = tt
found_behind k all (l ∷ ks) h a =
    (ap (λ (b : Bool). if b then Some k.1 else constructor_in all l.0) a.0 ∙ h.0, found_behind k all ks h.1 a.1)

all_found : (ks : List (ℕ × Kind)) → IsDistinct (λ a b. a == b) (names_of ks) → AreFound (constructor_in ks) ks
unfolding IsDistinct
all_found [] h = tt
all_found (k ∷ ks) h =
    (ap (λ (b : Bool). if b then Some k.1 else constructor_in ks k.0) (eq-eqb k.0 k.0 refl), found_behind k ks ks (all_found ks h.1) h.0)

known_found : (g : Signature) (d : ℕ) (ks : List (ℕ × Kind)) (xs : List (ℕ × List Field)) → AreFound g ks → AreKnown d ks xs
    → AreConstructors g d (names_of ks) xs
known_found g d [] [] f h = tt
known_found g d (k ∷ ks) (x ∷ xs) f h =
    (h.0, subst (λ o. AreFields d (fields_of o) x.1) (sym f.0) h.1, known_found g d ks xs f.1 h.2)
known_found g d [] (x ∷ xs) f h = absurd h
known_found g d (k ∷ ks) [] f h = absurd h

pub described : (D : Datatypes) (ks : List (ℕ × Kind)) → Holds D ks → IsDistinct (λ a b. a == b) (names_of ks)
    → Describes D (constructor_in ks) (λ d. names_of (made_by d ks))
described D ks h differ d =
    known_found (constructor_in ks) d (made_by d ks) (constructors_of D d)
    (found_among (constructor_in ks) (λ k. k.1.datatype == d) ks (all_found ks differ)) (h d)

-- ---- loops

pub one_longer : {X Y Z : Type 0} (f : Y → Z) (g : X → Y) (xs : List X) (i : ℕ) (x : X) → x ≡ get_or xs i x → i < length xs
    → map f (map g (take (i + 1) xs)) ≡ map f (map g (take i xs)) ++ f (g x) ∷ []
one_longer f g xs i x e h =
    ap (λ l. map f (map g l)) (take_more xs i x h ∙ ap (λ y. take i xs ++ y ∷ []) (sym e))
    ∙ (ap (map f) (map-append g (take i xs) (x ∷ [])) ∙ map-append f (map g (take i xs)) (g x ∷ []))

joined : (ds es : List DataTree) → constructors_in (ds ++ es) ≡ constructors_in ds ++ constructors_in es
joined [] es = refl
joined (d ∷ ds) es =
    ap (λ l. map (signed d) d.constructors ++ l) (joined ds es)
    ∙ sym (append_assoc (map (signed d) d.constructors) (constructors_in ds) (constructors_in es))

pub datatypes_longer : (xs : List DataType) (i : ℕ) (x : DataType) → x ≡ get_or xs i x → i < length xs
    → constructors_in (map data_view (take (i + 1) xs))
    ≡ constructors_in (map data_view (take i xs)) ++ map (signed (data_view x)) (data_view x).constructors
datatypes_longer xs i x e h =
    ap (λ l. constructors_in (map data_view l)) (take_more xs i x h ∙ ap (λ y. take i xs ++ y ∷ []) (sym e))
    ∙ (ap constructors_in (map-append data_view (take i xs) (x ∷ []))
    ∙ (joined (map data_view (take i xs)) (data_view x ∷ [])
    ∙ ap (λ ks. constructors_in (map data_view (take i xs)) ++ ks) (append-nil (map (signed (data_view x)) (data_view x).constructors))))

-- ---- the fields of predeclared constructors

abbrev pub element : fields.Field
element = field.Parameter 0

abbrev pub kind : ℕ → MlTypes → Kind
kind d fs = record { datatype = d; parameters = 1; fields = fs }

pub no_fields : (d : ℕ) (xs : List fields.Field) → xs ≡ [] → AreFields d ml.no_types (map field_view xs)
no_fields d xs e = subst (λ l. AreFields d ml.no_types (map field_view l)) (sym e) tt

pub some_fields : (d : ℕ) (xs : List fields.Field) → xs ≡ element ∷ [] → AreFields d (ml.more_types (ml.var 0) ml.no_types) (map field_view xs)
some_fields d xs e =
    subst (λ l. AreFields d (ml.more_types (ml.var 0) ml.no_types) (map field_view l)) (sym e) (parameter_is d 0, tt)

pub filled_fields : (xs : List fields.Field) → xs ≡ element ∷ field.Again 1 ∷ []
    → AreFields 4 (ml.more_types (ml.var 0) (ml.more_types (list_type (ml.var 0)) ml.no_types)) (map field_view xs)
filled_fields xs e =
    subst (λ l. AreFields 4 (ml.more_types (ml.var 0) (ml.more_types (list_type (ml.var 0)) ml.no_types)) (map field_view l)) (sym e)
    (parameter_is 4 0, (record { again = λ n. parameters_listed 0 n (ml.var 0 ∷ []) ∙ and_true (1 == n); shape = λ us. refl }, tt))
  where
    and_true : (b : Bool) → (b && true) ≡ b
    and_true true = refl
    and_true false = refl
