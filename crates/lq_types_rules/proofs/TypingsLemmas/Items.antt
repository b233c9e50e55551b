-- The rules of items hold under names exactly where those of their visits do, where what is known is that of the names.
use Rattle.std.specs.Prelude.{◌||◌, ◌==◌, if◌then◌else◌, All}
use Rattle.std.proofs.Common.{◌≡◌, ℕ, suc, ◌+◌, ◌<◌, ◌≤◌, Bool, true, false, List, [], ◌∷◌, ◌++◌, Some, refl, sym, ap, subst, ◌∙◌, arith, append_assoc}
use Rattle.std.proofs.lemmas.List.{append-nil}
use Rattle.std.proofs.lemmas.Bool.{and_parts, eqb-true, false≢true}
use Rattle.std.proofs.lemmas.List.Elements.{All-cons, All-head, All-tail, All-weaker}
use Rattle.lq_text_tree.specs.MlType as ml
use Rattle.lq_text_tree.specs.MlType.{MlType}
use Rattle.lq_text_tree.specs.Items.{ItemTree, ItemForm, type_of, let_of, let_rec_of}
use Rattle.lq_text_tree.specs.Pattern.{pattern, any, bind, nothing, tuple_of, build_of}
use Rattle.lq_text_tree.specs.Tree.{Tree}
use Rattle.lq_text_tree.specs.TreeView.{Recursive}
use Rattle.lq_text_tree.specs.Types.{Signature, Names, Scheme, plain, general, scheme_in, IsUsedAt, Fixes, put}
use Rattle.lq_text_tree.specs.TypingRules.{type_in, Every, IsWithin, Covers, DefinesBy, ItemIs, ItemsAre}
use Rattle.lq_text_walk.specs.Walk.Visits.{Visit, enter_item, leave_item, enter, leave, leave_function, declare, show, hide, show_name, hide_name, in_function, visits_of, visits_of_form, visits_of_item, visits_of_items}
use Rattle.lq_text_walk.specs.Scoped.Numbers.{binders_at, binders_in}
use Rattle.lq_text_walk.specs.Scoped.Uses.{is_visible, is_scoped_form, visible_behind, are_scoped}
use Rattle.lq_types_rules.specs.Equations.Rows.{annotation_of, ItemRule}
use Rattle.lq_types_rules.specs.Typings.Uses.{Known, with_general, with_plain, with_name, behind_form, behind, before_in, use_by, is_value, Leaves, RuleBy, ObeysFrom}
use Rattle.lq_types_rules.specs.Typings.Fronts.{NodesAre}
use Rattle.lq_types_rules.specs.Typings.Principal.{variables_of}
use Rattle.lq_types_rules.proofs.TypingsLemmas.Lists.{AllOf, all_left, all_right, all_weaker}
use Rattle.lq_types_rules.proofs.TypingsLemmas.Numbers.{Rising, above, rising_left, rising_right, rising_in, not_above, binders_append, Below, local, below_more}
use Rattle.lq_types_rules.proofs.TypingsLemmas.Trees.{Inner, Wanted, Kept, Fresh, IsLocal, AgreeTo, AgreeBack, agree_to_one, agree_back_one, nodes_go}
use Rattle.lq_types_rules.proofs.TypingsLemmas.Values.{value_true, value_is, IsIn, in_left, in_right, within, within_more, within_leaves, each_at, either_way}

-- ---- visits of an item among others

still : (k : Known) (v : Visit) → Inner v → behind k v ≡ k
still k (enter_item i) h = absurd h
still k (leave_item i) h = absurd h
still k (enter e) h = refl
still k (leave e) h = refl
still k (leave_function r) h = refl
still k (declare q) h = refl
still k (show q) h = refl
still k (hide q) h = refl
still k (show_name x) h = refl
still k (hide_name x) h = refl

-- ---- binders

-- the visits of an item's form have the binders of its names, and of what is inside
abbrev pub form_binders : ItemForm → List ℕ
form_binders f = binders_in (visits_of_form f)

-- those behind the name of a recursive definition
abbrev pub form_binders_behind : ℕ → Recursive → List ℕ
form_binders_behind f r = binders_in (in_function r (visits_of r.body))

-- the binders of an item's visits, and of those behind it
abbrev pub item_binders : ItemTree → List ItemTree → List ℕ
item_binders i is = form_binders i.form ++ binders_in (visits_of_items is)

pub split_binders : (i : ItemTree) (is : List ItemTree) → binders_in (visits_of_items (i ∷ is)) ≡ item_binders i is
split_binders i is =
    binders_append (visits_of_item i) (visits_of_items is)
    ∙ ap (λ (xs : List ℕ). xs ++ binders_in (visits_of_items is)) (binders_append (visits_of_form i.form) (leave_item i ∷ []) ∙ append-nil (form_binders i.form))

-- where every node is wanted, each visit is
pub always : (v : Visit) → Wanted Every v
always (enter_item i) = tt
always (leave_item i) = tt
always (enter e) = tt
always (leave e) = tt
always (leave_function r) = tt
always (declare q) = tt
always (show q) = tt
always (hide q) = tt
always (show_name x) = tt
always (hide_name x) = tt

module _ (g : Signature) (nodes : ℕ) (t : ℕ → MlType) where
  -- what is known stays inside of an item
  pub inner_both : (k : Known) (us ws : List Visit) → AllOf Inner us → AllOf (Kept g nodes t Every k) us → ObeysFrom g nodes k ws t
      → ObeysFrom g nodes k (us ++ ws) t
  inner_both k [] ws inner kept rest = rest
  inner_both k (v ∷ us) ws inner kept rest =
      (kept.0 (always v), subst (λ j. ObeysFrom g nodes j (us ++ ws) t) (sym (still k v inner.0)) (inner_both k us ws inner.1 kept.1 rest))

  pub inner_front : (k : Known) (us ws : List Visit) → AllOf Inner us → ObeysFrom g nodes k (us ++ ws) t → AllOf (Kept g nodes t Every k) us
  inner_front k [] ws inner h = tt
  inner_front k (v ∷ us) ws inner h =
      (λ _. h.0, inner_front k us ws inner.1 (subst (λ j. ObeysFrom g nodes j (us ++ ws) t) (still k v inner.0) h.1))

  pub inner_rest : (k : Known) (us ws : List Visit) → AllOf Inner us → ObeysFrom g nodes k (us ++ ws) t → ObeysFrom g nodes k ws t
  inner_rest k [] ws inner h = h
  inner_rest k (v ∷ us) ws inner h = inner_rest k us ws inner.1 (subst (λ j. ObeysFrom g nodes j (us ++ ws) t) (still k v inner.0) h.1)

  -- ---- uses of a definition that was generalised

  -- what fixes these variables leaves the types of these binders, and the other way round
  abbrev pub Enough : List ℕ → List ℕ → Type 0
  Enough fixed ps = (by : ℕ → MlType) → Fixes fixed by → All (λ p. Leaves by (t (nodes + p))) ps

  abbrev pub Least : List ℕ → List ℕ → Type 0
  Least fixed ps = (by : ℕ → MlType) → All (λ p. Leaves by (t (nodes + p))) ps → Fixes fixed by

  general_at_to : (x y i : ℕ) (ns : Names) (vs : List ℕ) (k : Known) (fixed : List ℕ) (b : Bool) → (b ≡ true → x ≡ y) → Enough fixed k.plain
      → AgreeTo g nodes t Every k ns vs → (b || is_visible vs y) ≡ true
      → IsUsedAt (if b then Some (general fixed (t (nodes + x))) else scheme_in ns y) (t i)
      → RuleBy nodes (use_by i y (if b then Some k.plain else before_in k.general y)) t (IsUsedAt (scheme_in ((y, plain (t (nodes + y))) ∷ []) y) (t i))
  general_at_to x y i ns vs k fixed true same enough agree seen h =
      (h.0, enough h.0 h.1, subst (λ z. t i ≡ put h.0 (t (nodes + z))) (same refl) h.2)
  general_at_to x y i ns vs k fixed false same enough agree seen h = agree y i seen h

  general_at_back : (x y i : ℕ) (ns : Names) (vs : List ℕ) (k : Known) (fixed : List ℕ) (b : Bool) → (b ≡ true → x ≡ y) → Least fixed k.plain
      → AgreeBack g nodes t Every k ns vs → (b || is_visible vs y) ≡ true
      → RuleBy nodes (use_by i y (if b then Some k.plain else before_in k.general y)) t (IsUsedAt (scheme_in ((y, plain (t (nodes + y))) ∷ []) y) (t i))
      → IsUsedAt (if b then Some (general fixed (t (nodes + x))) else scheme_in ns y) (t i)
  general_at_back x y i ns vs k fixed true same least agree seen h =
      (h.0, least h.0 h.1, subst (λ z. t i ≡ put h.0 (t (nodes + z))) (sym (same refl)) h.2)
  general_at_back x y i ns vs k fixed false same least agree seen h = agree y i seen h

  -- ---- names and what is known, from the rules of items to those of visits

  pub record StateTo (k : Known) (ns : Names) (vs : List ℕ) (b : ℕ) : Type 0 where
    pub agree : AgreeTo g nodes t Every k ns vs
    pub covered : (fixed : List ℕ) → Covers fixed ns → All (λ p. IsWithin fixed (t (nodes + p))) k.plain
    pub below : Below b k.general

  enough_from : (k : Known) (ns : Names) (vs : List ℕ) (b : ℕ) → StateTo k ns vs b → (fixed : List ℕ) → Covers fixed ns → Enough fixed k.plain
  enough_from k ns vs b s fixed covers by fixes =
      All-weaker (λ p. IsWithin fixed (t (nodes + p))) (λ p. Leaves by (t (nodes + p))) (λ p w. within_leaves fixed by (t (nodes + p)) fixes w) k.plain (s.covered fixed covers)

  to_moved : (k : Known) (ns : Names) (vs : List ℕ) (b c : ℕ) → b ≤ c → StateTo k ns vs b → StateTo k ns vs c
  to_moved k ns vs b c low s = record { agree = s.agree; covered = s.covered; below = below_more b c k.general low s.below }

  to_general : (k : Known) (ns : Names) (vs : List ℕ) (b c x : ℕ) (fixed : List ℕ) → b ≤ x → x < c → Covers fixed ns → StateTo k ns vs b
      → StateTo (with_general k x) ((x, general fixed (t (nodes + x))) ∷ ns) (x ∷ vs) c
  to_general k ns vs b c x fixed low less covers s = record {
    agree = λ y i seen h. general_at_to x y i ns vs k fixed (x == y) (eqb-true x y) (enough_from k ns vs b s fixed covers) s.agree seen h;
    covered = λ f h. s.covered f h.1;
    below = (less, below_more b c k.general (let l = low in let m = less in omega (arith, l, m)) s.below);
  }

  to_plain : (k : Known) (ns : Names) (vs : List ℕ) (b c x : ℕ) → b ≤ x → x < c → StateTo k ns vs b
      → StateTo (with_plain k x) ((x, plain (t (nodes + x))) ∷ ns) (x ∷ vs) c
  to_plain k ns vs b c x low less s = record {
    agree = agree_to_one g nodes t Every k x ns vs (local b x k.general s.below low) s.agree;
    covered = λ f h. All-cons (λ p. IsWithin f (t (nodes + p))) x k.plain h.0 (s.covered f h.1);
    below = below_more b c k.general (let l = low in let m = less in omega (arith, l, m)) s.below;
  }

  -- the other way round

  -- the variables of the types of these binders
  abbrev pub fixed_of : List ℕ → List ℕ
  fixed_of [] = []
  fixed_of (p ∷ ps) = variables_of (t (nodes + p)) ++ fixed_of ps

  least_of : (ps : List ℕ) → Least (fixed_of ps) ps
  least_of [] by h i m = absurd (false≢true m)
  least_of (p ∷ ps) by h i m =
      let each : ℕ → Type 0 = λ q. Leaves by (t (nodes + q)) in
      either_way (λ j. by j ≡ ml.var j) i (variables_of (t (nodes + p))) (fixed_of ps)
      (λ l. each_at (λ j. by j ≡ ml.var j) (t (nodes + p)) i (All-head each p ps h) l) (λ r. least_of ps by (All-tail each p ps h) i r) m

  covers_more : (fixed more_fixed : List ℕ) (ns : Names) → ((i : ℕ) → IsIn fixed i → IsIn more_fixed i) → Covers fixed ns → Covers more_fixed ns
  covers_more fixed more_fixed [] f h = tt
  covers_more fixed more_fixed ((x, plain a) ∷ ns) f h = (within_more fixed more_fixed a f h.0, covers_more fixed more_fixed ns f h.1)
  covers_more fixed more_fixed ((x, general earlier a) ∷ ns) f h = (λ i m. f i (h.0 i m), covers_more fixed more_fixed ns f h.1)

  pub record StateBack (k : Known) (ns : Names) (vs : List ℕ) (b : ℕ) : Type 0 where
    pub agree : AgreeBack g nodes t Every k ns vs
    pub covers : Covers (fixed_of k.plain) ns
    pub below : Below b k.general

  back_moved : (k : Known) (ns : Names) (vs : List ℕ) (b c : ℕ) → b ≤ c → StateBack k ns vs b → StateBack k ns vs c
  back_moved k ns vs b c low s = record { agree = s.agree; covers = s.covers; below = below_more b c k.general low s.below }

  back_general : (k : Known) (ns : Names) (vs : List ℕ) (b c x : ℕ) → b ≤ x → x < c → StateBack k ns vs b
      → StateBack (with_general k x) ((x, general (fixed_of k.plain) (t (nodes + x))) ∷ ns) (x ∷ vs) c
  back_general k ns vs b c x low less s = record {
    agree = λ y i seen h. general_at_back x y i ns vs k (fixed_of k.plain) (x == y) (eqb-true x y) (least_of k.plain) s.agree seen h;
    covers = (λ i m. m, s.covers);
    below = (less, below_more b c k.general (let l = low in let m = less in omega (arith, l, m)) s.below);
  }

  back_plain : (k : Known) (ns : Names) (vs : List ℕ) (b c x : ℕ) → b ≤ x → x < c → StateBack k ns vs b
      → StateBack (with_plain k x) ((x, plain (t (nodes + x))) ∷ ns) (x ∷ vs) c
  back_plain k ns vs b c x low less s =
      let own = variables_of (t (nodes + x)) in
      record {
        agree = agree_back_one g nodes t Every k x ns vs (local b x k.general s.below low) s.agree;
        covers = (
          within (own ++ fixed_of k.plain) (t (nodes + x)) (λ i m. in_left i own (fixed_of k.plain) m),
          covers_more (fixed_of k.plain) (own ++ fixed_of k.plain) ns (λ i m. in_right i own (fixed_of k.plain) m) s.covers,
        );
        below = below_more b c k.general (let l = low in let m = less in omega (arith, l, m)) s.below;
      }

  -- ---- an item

  -- under the names that an item leaves, what is known is that of the names
  abbrev pub IsLeftTo : Known → ItemForm → List ℕ → ℕ → (Names → Type 0) → Type 0
  IsLeftTo k f vs b rest = (ms : Names) × StateTo (behind_form k f) ms (visible_behind vs f) (above b (form_binders f)) × rest ms

  name_to : (k : Known) (ns : Names) (vs : List ℕ) (b c x : ℕ) (e : Tree) (s : Scheme) (value : Bool) → is_value e ≡ value → b ≤ x → x < c
      → t (nodes + x) ≡ type_in (annotation_of nodes t) e → DefinesBy ns e (type_in (annotation_of nodes t) e) s → StateTo k ns vs b
      → StateTo (with_name k x value) ((x, s) ∷ ns) (x ∷ vs) c
  name_to k ns vs b c x e (plain a) true is low less at d s = absurd (d.1 (value_is e is))
  name_to k ns vs b c x e (plain a) false is low less at d s =
      subst (λ o. StateTo (with_plain k x) ((x, plain o) ∷ ns) (x ∷ vs) c) (at ∙ sym d.0) (to_plain k ns vs b c x low less s)
  name_to k ns vs b c x e (general fixed a) true is low less at d s =
      subst (λ o. StateTo (with_general k x) ((x, general fixed o) ∷ ns) (x ∷ vs) c) (at ∙ sym d.0) (to_general k ns vs b c x fixed low less d.2 s)
  name_to k ns vs b c x e (general fixed a) false is low less at d s = absurd (false≢true (sym is ∙ value_true e d.1))

  -- the rules of an item hold exactly where its nodes obey theirs, it itself does, and what follows holds
  pub item_to : (f : ItemForm) (k : Known) (ns : Names) (vs : List ℕ) (b : ℕ) → StateTo k ns vs b → Rising b (form_binders f)
      → is_scoped_form vs f ≡ true
      → (rest : Names → Type 0) → ItemIs g (annotation_of nodes t) ns f rest
      → NodesAre g (annotation_of nodes t) Every ns f × ItemRule nodes f t × IsLeftTo k f vs b rest
  item_to (type_of d) k ns vs b s rising scoped rest h = absurd (false≢true scoped)
  item_to (let_of (pattern p any) e) k ns vs b s rising scoped rest h =
      (h.3, h.2, (ns, to_moved k ns vs b (above b (form_binders (let_of (pattern p any) e))) (not_above b (form_binders (let_of (pattern p any) e)) rising) s, h.4))
  item_to (let_of (pattern p nothing) e) k ns vs b s rising scoped rest h =
      (h.3, h.2, (ns, to_moved k ns vs b (above b (form_binders (let_of (pattern p nothing) e))) (not_above b (form_binders (let_of (pattern p nothing) e)) rising) s, h.4))
  item_to (let_of (pattern p (bind x)) e) k ns vs b s rising scoped rest h =
      let inside = binders_in (visits_of e ++ show (pattern p (bind x)) ∷ []) in
      (h.3, h.2, ((x, h.0) ∷ ns, name_to k ns vs b (above (suc x) inside) x e h.0 (is_value e) refl rising.0 (not_above (suc x) inside rising.1) h.2 h.1 s, h.4))
  item_to (let_of (pattern p (tuple_of qs)) e) k ns vs b s rising scoped rest h = absurd h.2
  item_to (let_of (pattern p (build_of c m qs)) e) k ns vs b s rising scoped rest h = absurd h.2
  item_to (let_rec_of f r) k ns vs b s rising scoped rest h =
      let last = above b (form_binders (let_rec_of f r)) in (
        (λ _. (h.1, h.3 ∙ h.4, h.5), h.6),
        h.3,
        ((f, general h.0 (t (nodes + f))) ∷ ns, to_general k ns vs b last f h.0 rising.0 (not_above (suc f) (form_binders_behind f r) rising.1) h.2 s, h.7),
      )

  name_back : (k : Known) (ns : Names) (vs : List ℕ) (b c x : ℕ) (e : Tree) (value : Bool) → is_value e ≡ value → b ≤ x → x < c
      → t (nodes + x) ≡ type_in (annotation_of nodes t) e → StateBack k ns vs b
      → (s : Scheme) × DefinesBy ns e (type_in (annotation_of nodes t) e) s × StateBack (with_name k x value) ((x, s) ∷ ns) (x ∷ vs) c
  name_back k ns vs b c x e true is low less at s =
      (general (fixed_of k.plain) (t (nodes + x)), (at, value_is e is, s.covers), back_general k ns vs b c x low less s)
  name_back k ns vs b c x e false is low less at s =
      (plain (t (nodes + x)), (at, λ v. false≢true (sym is ∙ value_true e v)), back_plain k ns vs b c x low less s)

  -- the scheme of a definition without a name
  scheme_back : (k : Known) (ns : Names) (e : Tree) (value : Bool) → is_value e ≡ value → Covers (fixed_of k.plain) ns
      → (s : Scheme) × DefinesBy ns e (type_in (annotation_of nodes t) e) s
  scheme_back k ns e true is covers = (general (fixed_of k.plain) (type_in (annotation_of nodes t) e), (refl, value_is e is, covers))
  scheme_back k ns e false is covers = (plain (type_in (annotation_of nodes t) e), (refl, λ v. false≢true (sym is ∙ value_true e v)))

  pub item_back : (f : ItemForm) (k : Known) (ns : Names) (vs : List ℕ) (b : ℕ) → StateBack k ns vs b → Rising b (form_binders f)
      → is_scoped_form vs f ≡ true
      → (rest : Names → Type 0) → NodesAre g (annotation_of nodes t) Every ns f → ItemRule nodes f t
      → ((ms : Names) → StateBack (behind_form k f) ms (visible_behind vs f) (above b (form_binders f)) → rest ms)
      → ItemIs g (annotation_of nodes t) ns f rest
  item_back (type_of d) k ns vs b s rising scoped rest inside rule behind_it = absurd (false≢true scoped)
  item_back (let_of (pattern p any) e) k ns vs b s rising scoped rest inside rule behind_it =
      let by = scheme_back k ns e (is_value e) refl s.covers in let f = let_of (pattern p any) e in
      (by.0, by.1, rule, inside, behind_it ns (back_moved k ns vs b (above b (form_binders f)) (not_above b (form_binders f) rising) s))
  item_back (let_of (pattern p nothing) e) k ns vs b s rising scoped rest inside rule behind_it =
      let by = scheme_back k ns e (is_value e) refl s.covers in let f = let_of (pattern p nothing) e in
      (by.0, by.1, rule, inside, behind_it ns (back_moved k ns vs b (above b (form_binders f)) (not_above b (form_binders f) rising) s))
  item_back (let_of (pattern p (bind x)) e) k ns vs b s rising scoped rest inside rule behind_it =
      let others = binders_in (visits_of e ++ show (pattern p (bind x)) ∷ []) in
      let by = name_back k ns vs b (above (suc x) others) x e (is_value e) refl rising.0 (not_above (suc x) others rising.1) rule s in
      (by.0, by.1, rule, inside, behind_it ((x, by.0) ∷ ns) by.2)
  item_back (let_of (pattern p (tuple_of qs)) e) k ns vs b s rising scoped rest inside rule behind_it = absurd rule
  item_back (let_of (pattern p (build_of c m qs)) e) k ns vs b s rising scoped rest inside rule behind_it = absurd rule
  item_back (let_rec_of f r) k ns vs b s rising scoped rest inside rule behind_it =
      let last = above b (form_binders (let_rec_of f r)) in let function = inside.0 tt in let fixed = fixed_of k.plain in (
        fixed,
        function.0,
        s.covers,
        rule,
        sym rule ∙ function.1,
        function.2,
        inside.1,
        behind_it ((f, general fixed (t (nodes + f))) ∷ ns) (back_general k ns vs b last f rising.0 (not_above (suc f) (form_binders_behind f r) rising.1) s),
      )

  -- ---- items

  pub fresh_all : (k : Known) (b : ℕ) (us : List Visit) → Below b k.general → AllOf (λ x. b ≤ x) (binders_in us) → AllOf (Fresh g nodes t Every k) us
  fresh_all k b [] below h = tt
  fresh_all k b (v ∷ us) below h = (
    all_weaker (λ x. b ≤ x) (IsLocal g nodes t Every k) (λ x low. local b x k.general below low) (binders_at v) (all_left (λ x. b ≤ x) (binders_at v) (binders_in us) h),
    fresh_all k b us below (all_right (λ x. b ≤ x) (binders_at v) (binders_in us) h),
  )

  -- an item's visits among others
  abbrev pub Around : Known → ItemTree → List Visit → List Visit → Type 0
  Around k i us ws = ObeysFrom g nodes k ((enter_item i ∷ (us ++ leave_item i ∷ [])) ++ ws) t

  pub around_to : (k : Known) (i : ItemTree) (us ws : List Visit) → AllOf Inner us → AllOf (Kept g nodes t Every k) us → ItemRule nodes i.form t
      → ObeysFrom g nodes (behind_form k i.form) ws t → Around k i us ws
  around_to k i us ws inner kept rule rest =
      (tt, subst (λ vs. ObeysFrom g nodes k vs t) (sym (append_assoc us (leave_item i ∷ []) ws)) (inner_both k us (leave_item i ∷ ws) inner kept (rule, rest)))

  pub around_back : (k : Known) (i : ItemTree) (us ws : List Visit) → AllOf Inner us → Around k i us ws
      → AllOf (Kept g nodes t Every k) us × ItemRule nodes i.form t × ObeysFrom g nodes (behind_form k i.form) ws t
  around_back k i us ws inner h =
      let all = subst (λ vs. ObeysFrom g nodes k vs t) (append_assoc us (leave_item i ∷ []) ws) h.1 in
      let rest = inner_rest k us (leave_item i ∷ ws) inner all in
      (inner_front k us (leave_item i ∷ ws) inner all, rest.0, rest.1)

  pub items_to : (is : List ItemTree) (k : Known) (ns : Names) (vs : List ℕ) (b : ℕ) → StateTo k ns vs b → are_scoped vs is ≡ true
      → Rising b (binders_in (visits_of_items is))
      → ItemsAre g (annotation_of nodes t) ns is → ObeysFrom g nodes k (visits_of_items is) t
  items_to [] k ns vs b s scoped rising h = tt
  items_to (i ∷ is) k ns vs b s scoped rising h =
      let us = visits_of_form i.form in
      let both = and_parts (is_scoped_form vs i.form) (are_scoped (visible_behind vs i.form) is) scoped in
      let rises = subst (λ xs. Rising b xs) (split_binders i is) rising in
      let own = rising_left b (form_binders i.form) (binders_in (visits_of_items is)) rises in
      let later = rising_right b (form_binders i.form) (binders_in (visits_of_items is)) rises in
      let out = item_to i.form k ns vs b s own both.0 (λ ms. ItemsAre g (annotation_of nodes t) ms is) h in
      let goes = nodes_go g nodes t Every k i.form in
      let kept = goes.to ns vs s.agree both.0 (fresh_all k b us s.below (rising_in b (form_binders i.form) own)) out.0 in
      around_to k i us (visits_of_items is) goes.inner kept out.1
      (items_to is (behind_form k i.form) out.2.0 (visible_behind vs i.form) (above b (form_binders i.form)) out.2.1 both.1 later out.2.2)

  pub items_back : (is : List ItemTree) (k : Known) (ns : Names) (vs : List ℕ) (b : ℕ) → StateBack k ns vs b → are_scoped vs is ≡ true
      → Rising b (binders_in (visits_of_items is))
      → ObeysFrom g nodes k (visits_of_items is) t → ItemsAre g (annotation_of nodes t) ns is
  items_back [] k ns vs b s scoped rising h = tt
  items_back (i ∷ is) k ns vs b s scoped rising h =
      let us = visits_of_form i.form in
      let both = and_parts (is_scoped_form vs i.form) (are_scoped (visible_behind vs i.form) is) scoped in
      let rises = subst (λ xs. Rising b xs) (split_binders i is) rising in
      let own = rising_left b (form_binders i.form) (binders_in (visits_of_items is)) rises in
      let later = rising_right b (form_binders i.form) (binders_in (visits_of_items is)) rises in
      let goes = nodes_go g nodes t Every k i.form in
      let parts = around_back k i us (visits_of_items is) goes.inner h in
      let inside = goes.back ns vs s.agree both.0 (fresh_all k b us s.below (rising_in b (form_binders i.form) own)) parts.0 in
      item_back i.form k ns vs b s own both.0 (λ ms. ItemsAre g (annotation_of nodes t) ms is) inside parts.1
      (λ ms more_s. items_back is (behind_form k i.form) ms (visible_behind vs i.form) (above b (form_binders i.form)) more_s both.1 later parts.2)
