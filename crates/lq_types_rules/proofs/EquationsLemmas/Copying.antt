-- Nodes of a store once more.
use Rattle.std.proofs.Common.{◌≡◌, inl, inr, ℕ, zero, suc, ◌+◌, ◌-◌, ◌<◌, ◌≤◌, List, [], ◌∷◌, map, Option, Some, None, All, take, drop, length, get_or, refl, sym, ap, ap₂, subst, ◌∙◌, arith, append-nil, add-zero}
use Rattle.std.proofs.lemmas.Bool.{cases_lt}
use Rattle.std.proofs.lemmas.List.{length-map}
use Rattle.lq_text_tree.specs.MlType as ml
use Rattle.lq_text_tree.specs.MlType.{MlType, MlTypes}
use Rattle.lq_text_tree.specs.Types.{type_at, put_all, count_types, Constructor, Signature, Builds}
use Rattle.lq_types_unify.specs.declared.arena.Arena.{Arena}
use Rattle.lq_types_unify.specs.declared.arena.Equation.{Equation}
use Rattle.lq_types_unify.specs.declared.arena.Node.{Node}
use Rattle.lq_types_unify.specs.declared.arena.Node.TheVariants.{Open}
use Rattle.lq_types_unify.specs.Nodes.{Form, form_of, form_at, HasAdded}
use Rattle.lq_types_unify.specs.Solution.{AreNodes}
use Rattle.lq_types_rules.specs.declared.equations.system.System.{System}
use Rattle.lq_types_rules.specs.declared.equations.template.Template.{Template}
use Rattle.lq_types_rules.specs.declared.equations.template.Constructors.{Constructors}
use Rattle.lq_types_rules.specs.Equations.Solutions.{made, each, Fits}
use Rattle.lq_types_rules.specs.Equations.Adding.{IsRight, IsSystem, Agree, Grows, Offers, Adds, count_of, forms_of}
use Rattle.lq_types_rules.specs.Equations.Templates.{upto, entry, shifted, IsStore, IsWhole, IsTemplate, IsEntry, HasSignature, Makes, IsCopied}
use Rattle.lq_types_rules.proofs.EquationsLemmas.Growing.{all_none, agree_each, some_inside, parts_inside, fits_before}
use Rattle.lq_types_rules.proofs.EquationsLemmas.Opening.{upto_inside, count_each, nodes_further}
use Rattle.lq_types_rules.proofs.EquationsLemmas.Composing.{offer_then, offers_as}

pub copied_none : (s : System) (types : Arena) → IsSystem s → IsCopied s s types (count_of s) 0
copied_none s types h = record { base_is = refl; long = omega arith; arena = h.arena; kept = λ i l. refl; copies = λ i l. absurd (omega arith); equations_are = refl }

pub copied_more : (old mid new : System) (types : Arena) (base at : ℕ) → IsCopied old mid types base at → HasAdded mid.arena new.arena (base + at) (shifted base (form_at types at))
    → new.equations.items ≡ mid.equations.items → IsCopied old new types base (at + 1)
copied_more old mid new types base at c a q = record {
  base_is = c.base_is;
  long = let x = a.count in omega arith;
  arena = a.arena;
  kept = λ i l. a.others i (omega arith) ∙ c.kept i l;
  copies = λ i l. elim (cases_lt i at) [
    | inl k ↦ a.others (base + i) (omega arith) ∙ c.copies i k
    | inr k ↦ let e : i ≡ at = omega arith in ap (λ (j : ℕ). forms_of new (base + j)) e ∙ a.formed ∙ ap (λ (j : ℕ). shifted base (form_at types j)) (sym e)
  ];
  equations_are = q ∙ c.equations_are;
}

each_map : (t : ℕ → MlType) (base : ℕ) (ps : List ℕ) → each t (map (λ p. base + p) ps) ≡ each (λ i. t (base + i)) ps
each_map t base [] = refl
each_map t base (p ∷ ps) = ap (ml.more_types (t (base + p))) (each_map t base ps)

each_upto : (t types : ℕ → MlType) (base n first : ℕ) → ((i : ℕ) → t (base + i) ≡ types i) → each t (upto (base + first) n) ≡ each types (upto first n)
each_upto t types base zero first h = refl
each_upto t types base (suc n) first h = ap₂ ml.more_types (h first) (ap (λ (k : ℕ). each t (upto k n)) (let e : suc (base + first) ≡ base + suc first = omega arith in e) ∙ each_upto t types base n (suc first) h)

each_from : (t types : ℕ → MlType) (base n : ℕ) → ((i : ℕ) → t (base + i) ≡ types i) → each t (upto base n) ≡ each types (upto 0 n)
each_from t types base n h = ap (λ (k : ℕ). each t (upto k n)) (sym (add-zero base)) ∙ each_upto t types base n 0 h

-- ---- types of the nodes and of the copies

pub joined : ℕ → (ℕ → MlType) → (ℕ → MlType) → ℕ → MlType
joined n types copies i = elim (cases_lt i n) [ inl h ↦ types i | inr h ↦ copies (i - n) ]

joined_before : (n : ℕ) (types copies : ℕ → MlType) → Agree n types (joined n types copies)
unfolding joined
joined_before n types copies i h = elim (cases_lt i n) as (λ c. elim c as (λ d. MlType) [ inl k ↦ types i | inr k ↦ copies (i - n) ] ≡ types i) [ inl k ↦ refl | inr k ↦ absurd (omega arith) ]

joined_behind : (n : ℕ) (types copies : ℕ → MlType) (k : ℕ) → joined n types copies (n + k) ≡ copies k
unfolding joined
joined_behind n types copies k = elim (cases_lt (n + k) n) as (λ c. elim c as (λ d. MlType) [ inl h ↦ types (n + k) | inr h ↦ copies (n + k - n) ] ≡ copies k) [
  | inl h ↦ absurd (omega arith)
  | inr h ↦ ap copies (let e : n + k - n ≡ k = omega arith in e)
]

-- what a shifted form comes of
record IsShifted (base : ℕ) (o : Option Form) (f : Form) : Type 0 where
  origin : Form
  is : o ≡ Some origin
  head : f.head ≡ origin.head
  parts : f.parts ≡ map (λ p. base + p) origin.parts

shifted_form : (base : ℕ) (o : Option Form) (f : Form) → shifted base o ≡ Some f → IsShifted base o f
shifted_form base None f e = absurd (cc)
shifted_form base (Some g) f e = record {
  origin = g;
  is = refl;
  head = sym (let x : (record { head = g.head; parts = map (λ (p : ℕ). base + p) g.parts }) ≡ f = cc in ap (λ (y : Form). y.head) x);
  parts = sym (let x : (record { head = g.head; parts = map (λ (p : ℕ). base + p) g.parts }) ≡ f = cc in ap (λ (y : Form). y.parts) x);
}

module _ (old new : System) (types : Arena) (base : ℕ) (s : IsSystem old) (st : IsStore types) (c : IsCopied old new types base (length types.nodes.items)) where
  copy_at : (i : ℕ) (f : Form) → base ≤ i → forms_of new i ≡ Some f → IsShifted base (form_at types (i - base)) f
  copy_at i f h e =
      let l = some_inside new.arena i f e in
      let back : base + (i - base) ≡ i = omega arith in
      shifted_form base (form_at types (i - base)) f (sym (c.copies (i - base) (let x = c.long in omega arith)) ∙ ap (forms_of new) back ∙ e)

  pub copied_right : (i : ℕ) (f : Form) → forms_of new i ≡ Some f → IsRight f.head (length f.parts)
  copied_right i f e = elim (cases_lt i base) [
    | inl l ↦ s.right i f (sym (c.kept i l) ∙ e)
    | inr l ↦
        let o = copy_at i f l e in
        let long : length f.parts ≡ length o.origin.parts = ap length o.parts ∙ length-map o.origin.parts (λ p. base + p) in
        subst (λ h. IsRight h (length f.parts)) (sym o.head) (subst (λ n. IsRight o.origin.head n) (sym long) (st.right (i - base) o.origin o.is))
  ]

  pub copies_fit : (t copies : ℕ → MlType) → Fits (forms_of old) t → Fits (form_at types) copies → Fits (forms_of new) (joined base t copies)
  copies_fit t copies f g i form e = elim (cases_lt i base) [
    | inl l ↦
        let before = sym (c.kept i l) ∙ e in
        joined_before base t copies i l ∙ f i form before
        ∙ ap (made form.head) (sym (agree_each base t (joined base t copies) (joined_before base t copies) form.parts
        (subst (λ n. All (λ p. p < n) form.parts) (sym c.base_is) (parts_inside old.arena s.arena i form before))))
    | inr l ↦
        let o = copy_at i form l e in
        let back : i ≡ base + (i - base) = omega arith in
        ap (joined base t copies) back ∙ joined_behind base t copies (i - base) ∙ g (i - base) o.origin o.is
        ∙ ap (made o.origin.head) (sym (each_alike_map copies t o.origin.parts)) ∙ ap₂ (λ h ps. made h (each (joined base t copies) ps)) (sym o.head) (sym o.parts)
  ]
    where
      each_alike_map : (copies t : ℕ → MlType) (ps : List ℕ) → each (joined base t copies) (map (λ p. base + p) ps) ≡ each copies ps
      each_alike_map copies t [] = refl
      each_alike_map copies t (p ∷ ps) = ap₂ ml.more_types (joined_behind base t copies p) (each_alike_map copies t ps)

  pub copies_read : (t : ℕ → MlType) → Fits (forms_of new) t → Fits (form_at types) (λ i. t (base + i))
  copies_read t f i g e =
      let l = some_inside types i g e in
      f (base + i) (record { head = g.head; parts = map (λ p. base + p) g.parts }) (c.copies i l ∙ ap (shifted base) e) ∙ ap (made g.head) (each_map t base g.parts)

  pub copied_system : IsSystem new
  copied_system = record {
    arena = c.arena;
    nodes = subst (λ es. AreNodes (count_of new) es) (sym c.equations_are) (nodes_further (count_of old) (count_of new) old.equations.items (let x = c.long in let y = c.base_is in omega arith) s.nodes);
    right = copied_right;
  }

  pub copied_grows : (copies : ℕ → MlType) → Fits (form_at types) copies → Grows old new []
  copied_grows copies g = record {
    system = copied_system;
    longer = let x = c.long in let y = c.base_is in omega arith;
    kept = λ i l. c.kept i (let y = c.base_is in omega arith);
    equations_are = c.equations_are ∙ sym (append-nil old.equations.items);
    free = λ t f. (joined base t copies, λ i l. joined_before base t copies i (let y = c.base_is in omega arith), copies_fit t copies f g);
  }

units : ℕ → MlTypes
units zero = ml.no_types
units (suc n) = ml.more_types ml.unit (units n)

units_count : (n : ℕ) → count_types (units n) ≡ n
unfolding units
units_count zero = refl
units_count (suc n) = ap suc (units_count n)

-- the copies of the parameters may have any types
parameters_offered : (old mid : System) (t : Template) (k : Constructor) (base : ℕ) → IsSystem old → IsWhole t → IsTemplate t k → IsCopied old mid t.types base (length t.types.nodes.items)
    → Offers old mid (upto base t.parameters) (λ types ts. count_types ts ≡ t.parameters)
parameters_offered old mid t k base s w h c = record {
  more = [];
  grows = copied_grows old mid t.types base s w.store c (h.fills (units k.parameters) (units_count k.parameters)).0 (h.fills (units k.parameters) (units_count k.parameters)).1;
  inside = upto_inside t.parameters base (count_of mid) (let x = c.long in let y = w.room in omega arith);
  says = λ types f m. count_each types t.parameters base;
  said = λ types ts f e.
      let x = h.fills ts (e ∙ h.parameters) in
      let later = joined base types x.0 in
      record {
        later = later;
        agree = λ i l. joined_before base types x.0 i (let y = c.base_is in omega arith);
        fits = copies_fit old mid t.types base s w.store c types x.0 f x.1;
        meets = all_none (λ (e : Equation). later e.left ≡ later e.right);
        roots_are = each_from later x.0 base t.parameters (joined_behind base types x.0) ∙ x.2;
      };
}

-- roots whose types follow from those of others
other_roots : (old new : System) (roots others : List ℕ) (P : (ℕ → MlType) → MlTypes → Type 0) (to : MlTypes → MlTypes) → Offers old new roots P → All (λ r. r < count_of new) others
    → ((t : ℕ → MlType) → Fits (forms_of new) t → each t others ≡ to (each t roots)) → Offers old new others (λ t ts. (us : MlTypes) × P t us × (ts ≡ to us))
other_roots old new roots others P to o inside reads = record {
  more = o.more;
  grows = o.grows;
  inside = inside;
  says = λ t f m. (each t roots, o.says t f m, reads t f);
  said = λ t ts f p.
      let x = o.said t p.0 f p.1 in
      record { later = x.later; agree = x.agree; fits = x.fits; meets = x.meets; roots_are = reads x.later x.fits ∙ ap to x.roots_are ∙ sym p.2 };
}

pub raised_inside : (n m base : ℕ) (ps : List ℕ) → base + n ≤ m → All (λ p. p < n) ps → All (λ r. r < m) (map (λ p. base + p) ps)
raised_inside n m base [] h a k d l = absurd (omega arith)
raised_inside n m base (p ∷ ps) h a zero d l = let x = a 0 0 (omega arith) in omega arith
raised_inside n m base (p ∷ ps) h a (suc k) d l = raised_inside n m base ps h (λ j e i. a (suc j) e (omega arith)) k d (omega arith)

pub instance_offers : (old mid new : System) (t : Template) (k : Constructor) (base slot : ℕ) (parameters roots : List ℕ) → IsSystem old → IsWhole t → IsTemplate t k
    → IsCopied old mid t.types base (length t.types.nodes.items) → slot < count_of old → parameters ≡ upto base t.parameters → roots ≡ map (λ p. base + p) t.fields.items
    → Adds mid new (λ types. types slot ≡ ml.named t.datatype (each types parameters)) → Offers old new roots (λ types ts. Makes k ts (types slot))
instance_offers old mid new t k base slot parameters roots s w h c inside are is b =
    let P : (ℕ → MlType) → MlTypes → Type 0 = λ types ts. count_types ts ≡ t.parameters in
    let Q : (ℕ → MlType) → MlTypes → Type 0 = λ types ts. types slot ≡ ml.named t.datatype ts in
    let first = parameters_offered old mid t k base s w h c in
    let second = offer_then old mid new (upto base t.parameters) P Q first
    (subst (λ ps. Adds mid new (λ types. types slot ≡ ml.named t.datatype (each types ps))) are b) (λ ts types later g e. g slot inside ∙ e) in
    let to : MlTypes → MlTypes = λ us. put_all (type_at us) k.fields in
    let third = other_roots old new (upto base t.parameters) roots (λ types ts. P types ts × Q types ts) to second
    (subst (λ rs. All (λ r. r < count_of new) rs) (sym is)
    (raised_inside (length t.types.nodes.items) (count_of new) base t.fields.items (let x = c.long in let y = b.grows.longer in omega arith) w.fields_in))
    (λ types f.
    let g = fits_before mid new b.more b.grows types f in
    ap (each types) is ∙ each_map types base t.fields.items ∙ h.reads (λ i. types (base + i)) (copies_read old mid t.types base s w.store c types g)
    ∙ ap to (sym (each_from types (λ i. types (base + i)) base t.parameters (λ i. refl)))) in
    offers_as old new roots (λ types ts. (us : MlTypes) × (P types us × Q types us) × (ts ≡ to us)) (λ types ts. Makes k ts (types slot)) third
    (λ types ts p. (p.0, p.1.1 ∙ ap (λ d. ml.named d p.0) h.datatype, p.2, p.1.0 ∙ h.parameters))
    (λ types ts p. (p.0, (p.3 ∙ sym h.parameters, p.1 ∙ ap (λ d. ml.named d p.0) (sym h.datatype)), p.2))

-- ---- the node that is copied

same_default : {X : Type 0} (xs : List X) (k : ℕ) (d e : X) → k < length xs → get_or xs k d ≡ get_or xs k e
same_default [] k d e h = absurd (omega arith)
same_default (x ∷ xs) zero d e h = refl
same_default (x ∷ xs) (suc k) d e h = same_default xs k d e (omega arith)

pub form_here : (types : Arena) (at : ℕ) (n m : Node) → at < length types.nodes.items → n ≡ get_or types.nodes.items at n → n ≡ m → form_at types at ≡ form_of types.parts.items m
form_here types at n m h e f = ap (form_of types.parts.items) (same_default types.nodes.items at Open n h ∙ sym e ∙ f)

pub slice_parts : (xs ys : List ℕ) (first count : ℕ) → ys ≡ xs → take (first + count - first) (drop first ys) ≡ take count (drop first xs)
slice_parts xs ys first count e = ap₂ (λ (k : ℕ) (l : List ℕ). take k (drop first l)) (let f : first + count - first ≡ count = omega arith in f) e

-- ---- the table of constructors

put_count : (by : ℕ → MlType) (ts : MlTypes) → count_types (put_all by ts) ≡ count_types ts
put_count by ml.no_types = refl
put_count by (ml.more_types t ts) = ap suc (put_count by ts)

row_count : (t : ℕ → MlType) (ps : List ℕ) → count_types (each t ps) ≡ length ps
row_count t [] = refl
row_count t (p ∷ ps) = ap suc (row_count t ps)

pub field_count : (t : Template) (k : Constructor) → IsTemplate t k → length t.fields.items ≡ count_types k.fields
field_count t k h =
    let x = h.fills (units k.parameters) (units_count k.parameters) in
    sym (row_count x.0 t.fields.items) ∙ ap count_types (h.reads x.0 x.1) ∙ put_count (type_at (each x.0 (upto 0 t.parameters))) k.fields

entry_some : (o : Option Template) (p : Option Constructor) (t : Template) (k : Constructor) → IsEntry o p → o ≡ Some t → p ≡ Some k → IsTemplate t k
entry_some None p t k h e f = absurd (cc)
entry_some (Some u) None t k h e f = absurd h
entry_some (Some u) (Some j) t k h e f =
    let x : u ≡ t = cc in
    let y : j ≡ k = cc in
    subst (λ v. IsTemplate v k) x (subst (IsTemplate u) y h)

entry_known : (o : Option Template) (p : Option Constructor) (t : Template) → IsEntry o p → o ≡ Some t → (k : Constructor) × (p ≡ Some k)
entry_known None p t h e = absurd (cc)
entry_known (Some u) None t h e = absurd h
entry_known (Some u) (Some k) t h e = (k, refl)

entry_none : (o : Option Template) (p : Option Constructor) (k : Constructor) → IsEntry o p → o ≡ None → p ≡ Some k → ⊥
entry_none None None k h e f = cc
entry_none None (Some j) k h e f = h
entry_none (Some u) p k h e f = cc

pub built_offers : (cs : Constructors) (g : Signature) (c : ℕ) (t : Template) (old new : System) (roots : List ℕ) (slot : ℕ) → HasSignature cs g → Some t ≡ entry cs c
    → ((k : Constructor) → IsTemplate t k → Offers old new roots (λ types ts. Makes k ts (types slot))) → Offers old new roots (λ types ts. Builds g c ts (types slot))
built_offers cs g c t old new roots slot h e o =
    let x = entry_known (entry cs c) (g c) t (h c) (sym e) in
    let k = x.0 in
    offers_as old new roots (λ types ts. Makes k ts (types slot)) (λ types ts. Builds g c ts (types slot)) (o k (entry_some (entry cs c) (g c) t k (h c) (sym e) x.1))
    (λ types ts m. (k, m.0, x.1, m.1, m.2, m.3))
    (λ types ts b. let same : b.0 ≡ k = let y = b.2 in let z = x.1 in cc in subst (λ j. Makes j ts (types slot)) same (b.1, b.3, b.4, b.5))

pub not_built : (cs : Constructors) (g : Signature) (c : ℕ) → HasSignature cs g → entry cs c ≡ None → (ts : MlTypes) (a : MlType) → Builds g c ts a → ⊥
not_built cs g c h e ts a b = entry_none (entry cs c) (g c) b.0 (h c) e b.2

pub not_so_many : (cs : Constructors) (g : Signature) (c n : ℕ) (t : Template) → HasSignature cs g → Some t ≡ entry cs c → (length t.fields.items ≡ n → ⊥) → (ts : MlTypes) (a : MlType) → count_types ts ≡ n → Builds g c ts a → ⊥
not_so_many cs g c n t h e apart ts a l b =
    let k = entry_some (entry cs c) (g c) t b.0 (h c) (sym e) b.2 in
    apart (field_count t b.0 k ∙ sym (put_count (type_at b.1) b.0.fields) ∙ sym (ap count_types b.4) ∙ l)
