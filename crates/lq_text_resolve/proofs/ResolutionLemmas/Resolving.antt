-- What a program without complaints becomes is what the rules say.
use Rattle.std.specs.Prelude.{if◌then◌else◌}
use Rattle.std.proofs.Common.{◌≡◌, ℕ, suc, ◌-◌, Bool, true, false, List, [], ◌∷◌, ◌++◌, length, map, Option, Some, None, refl, sym, ap, subst, ◌∙◌, arith}
use Rattle.lq_base_names.specs.declared.place.Place.{Place}
use Rattle.lq_text_tree.specs.declared.expr.Arguments.TheVariants.{Apart, Listed}
use Rattle.lq_text_tree.specs.Items.{ItemTree, ItemForm, type_of, let_of, let_rec_of}
use Rattle.lq_text_tree.specs.Pattern.{Pattern, pattern, bind, bound_in}
use Rattle.lq_text_tree.specs.Tree as form
use Rattle.lq_text_tree.specs.Tree.{Tree, tree, Form, Trees, no_trees, more_trees, Cases, no_cases, more_cases}
use Rattle.lq_text_tree.specs.TreeView.{trees_of}
use Rattle.lq_text_walk.specs.Walk.Fold.{Arm, fold_all, fold_cases}
use Rattle.lq_text_walk.specs.Walk.Shape as shape
use Rattle.lq_text_walk.specs.Walk.Shape.{Leaf, One, Two, Three, Row, listed}
use Rattle.lq_text_walk.specs.Walk.Visits.{has_let, place_of}
use Rattle.lq_text_scope.specs.Complaints.{Cause, unknown, unknown_in}
use Rattle.lq_text_scope.specs.Datatypes.{name_of, with_constructors, with_datatype}
use Rattle.lq_text_scope.specs.Known as known
use Rattle.lq_text_scope.specs.Known.{Arity, Known, arity_in, counted, has, predeclared_known, text_of}
use Rattle.lq_text_scope.specs.Patterns.{of_pattern}
use Rattle.lq_text_scope.specs.Uses.{Complaining, behind, complaining, complaints_of, handed_on, of_all, of_arms, of_item, of_items, of_leaf, of_match, own}
use Rattle.lq_text_resolve.specs.Binding.Binding.{is_tuple, numbered, place_of_pattern, sources_of}
use Rattle.lq_text_resolve.specs.Binding.Heads as heads
use Rattle.lq_text_resolve.specs.Binding.Heads.{Head, read, print, length_of, make, make_of, find, find_of, add, add_of, add_to, Given, done, lacking, given}
use Rattle.lq_text_resolve.specs.Binding.Making.{Frame, Value, whole, partly, Made, of_primitive, of_use, with_given, part, called, joined, row_of, of_tuple, of_listed, takes_more, named, shown, two_form, first_frame, frame_with, Making, making, leaf_made, made, all_made, arms_made, match_made, taken, taken_pattern, taken_body, matched, next_before, source_before, Taken, item_made, items_made}
use Rattle.lq_text_resolve.specs.Resolution.Bare.{bare, bare_items, bare_value, baring, cases_in}
use Rattle.lq_text_resolve.specs.Resolution.Resolves.{Rule, Sources, IsNode, IsGiven, IsPrimitive, IsUse, IsCall, Joins, InRow, arguments_in, parts_in, row_form, Under, IsFunction, InArms, Matches, IsLeaf, ruling, Becomes, ItemsBecome, ItemBecomes, MadeResolves, with_names}
use Rattle.lq_text_resolve.proofs.ResolutionLemmas.Fitting.{IsFresh, Lacks, Ties, lacks_some, leaf_fitting, none_both, tied, tied_in}
use Rattle.lq_text_resolve.proofs.ResolutionLemmas.Nodes.{one_folds, two_folds, three_folds}
use Rattle.lq_text_resolve.proofs.ResolutionLemmas.Spanning.{count_of, finds, one_more, sees_all}
use Rattle.lq_text_resolve.proofs.ResolutionLemmas.Taking.{agree_named, agree_under}

-- What is made is what the rule says, and lacks as many arguments as it is given.
pub record Suits (o : ℕ) (a : Rule) (k : Frame) (s : Sources) (v : Value) (r : Sources) : Type 0 where
  pub lack : Lacks o v
  pub rule : a k s (bare_value v) r

abbrev pub Suiting : Making → Complaining → Rule → Type 0
Suiting make_it complain a =
    (w : Known) (k : Frame) (o n : ℕ) (s : Sources) → w.variables ≡ map name_of k.variables → complain w o ≡ [] → (let x = make_it k n s in Suits o a k s x.value x.sources)

-- a part is a whole tree
part_bare : (p : Place) (v : Value) → Lacks 0 v → bare_value v ≡ whole (bare (part p v))
part_bare p (whole t) is = refl
part_bare p (partly h) is = absurd (lacks_some h is)

rule_part : (a : Rule) (p : Place) (k : Frame) (s : Sources) (v : Value) (r : Sources) → Suits 0 a k s v r → a k s (whole (bare (part p v))) r
rule_part a p k s v r is = subst (λ (u : Value). a k s u r) (part_bare p v is.lack) is.rule

-- ---- calls

call_lacks : (p : Place) (o : ℕ) (v : Value) (a : Tree) (n : ℕ) (s : Sources) → Lacks (suc o) v → Lacks o (called v a p n s).value
call_lacks p o (whole f) a n s is = tt
call_lacks p o (partly read) a n s is = tt
call_lacks p o (partly print) a n s is = tt
call_lacks p o (partly length_of) a n s is = tt
call_lacks p o (partly make) a n s is = omega (arith, is)
call_lacks p o (partly (make_of e)) a n s is = tt
call_lacks p o (partly find) a n s is = omega (arith, is)
call_lacks p o (partly (find_of e)) a n s is = tt
call_lacks p o (partly add) a n s is = omega (arith, is)
call_lacks p o (partly (add_of e)) a n s is = omega (arith, is)
call_lacks p o (partly (add_to e f)) a n s is = tt

call_is : (p : Place) (v : Value) (a : Tree) (n : ℕ) (s : Sources) → IsCall p (bare_value v) (bare a) (bare_value (called v a p n s).value)
call_is p (whole f) a n s = refl
call_is p (partly read) a n s = refl
call_is p (partly print) a n s = refl
call_is p (partly length_of) a n s = refl
call_is p (partly make) a n s = refl
call_is p (partly (make_of e)) a n s = refl
call_is p (partly find) a n s = refl
call_is p (partly (find_of e)) a n s = refl
call_is p (partly add) a n s = refl
call_is p (partly (add_of e)) a n s = refl
call_is p (partly (add_to e f)) a n s = refl

call_sources : (p : Place) (v : Value) (a : Tree) (n : ℕ) (s : Sources) → s ≡ (called v a p n s).sources
call_sources p (whole f) a n s = refl
call_sources p (partly read) a n s = refl
call_sources p (partly print) a n s = refl
call_sources p (partly length_of) a n s = refl
call_sources p (partly make) a n s = refl
call_sources p (partly (make_of e)) a n s = refl
call_sources p (partly find) a n s = refl
call_sources p (partly (find_of e)) a n s = refl
call_sources p (partly add) a n s = refl
call_sources p (partly (add_of e)) a n s = refl
call_sources p (partly (add_to e f)) a n s = refl

call_suits : (p : Place) (a b : Rule) (o : ℕ) (k : Frame) (s : Sources) (v : Value) (m : Sources) (e : Tree) (n : ℕ) (r : Sources) → Suits (suc o) a k s v m → b k m (whole (bare e)) r
    → (let x = called v e p n r in Suits o (Joins p shape.call a b) k s x.value x.sources)
call_suits p a b o k s v m e n r is more = record {
  lack = call_lacks p o v e n r is.lack;
  rule = subst (λ (l : Sources). Joins p shape.call a b k s (bare_value (called v e p n r).value) l) (call_sources p v e n r) (bare_value v, bare e, m, is.rule, more, call_is p v e n r);
}

-- what is no call
pair_rule : (p : Place) (h : Two) (a b : Rule) (k : Frame) (s : Sources) (v : Value) (m : Sources) (e : Tree) (n : ℕ) (r : Sources) → Suits 0 a k s v m → b k m (whole (bare e)) r
    → (d : Tree) × (f : Tree) × (l : Sources) × a k s (whole d) l × b k l (whole f) r × IsNode p (two_form h d f) (bare_value (whole (tree n p (two_form h (part p v) e))))
pair_rule p h a b k s v m e n r is more =
    (bare (part p v), bare e, m, rule_part a p k s v m is, more, ap (λ (t : Tree). whole t) (two_folds baring n p h (part p v) e))

joined_suits : (p : Place) (h : Two) (a b : Rule) (o : ℕ) (k : Frame) (s : Sources) (v : Value) (m : Sources) (e : Tree) (n : ℕ) (r : Sources) → Suits (handed_on h o) a k s v m
    → b k m (whole (bare e)) r → (let x = joined h v e p n r in Suits o (Joins p h a b) k s x.value x.sources)
joined_suits p shape.call a b o k s v m e n r is more = call_suits p a b o k s v m e n r is more
joined_suits p (shape.arithmetic q) a b o k s v m e n r is more = record { lack = tt; rule = pair_rule p (shape.arithmetic q) a b k s v m e n r is more }
joined_suits p (shape.compare q) a b o k s v m e n r is more = record { lack = tt; rule = pair_rule p (shape.compare q) a b k s v m e n r is more }
joined_suits p shape.and_of a b o k s v m e n r is more = record { lack = tt; rule = pair_rule p shape.and_of a b k s v m e n r is more }
joined_suits p shape.or_of a b o k s v m e n r is more = record { lack = tt; rule = pair_rule p shape.or_of a b k s v m e n r is more }
joined_suits p shape.make a b o k s v m e n r is more = record { lack = tt; rule = pair_rule p shape.make a b k s v m e n r is more }
joined_suits p shape.fetch a b o k s v m e n r is more = record { lack = tt; rule = pair_rule p shape.fetch a b k s v m e n r is more }
joined_suits p shape.map_find a b o k s v m e n r is more = record { lack = tt; rule = pair_rule p shape.map_find a b k s v m e n r is more }

-- ---- rows

bare_row : (ts : List Tree) → fold_all baring (trees_of ts) ≡ map bare ts
bare_row [] = refl
bare_row (t ∷ ts) = ap (λ (us : List Tree). bare t ∷ us) (bare_row ts)

listed_back : (ts : List Tree) → listed (trees_of ts) ≡ ts
listed_back [] = refl
listed_back (t ∷ ts) = ap (λ (us : List Tree). t ∷ us) (listed_back ts)

-- a constructor's node, of what its parts are
built : (n : ℕ) (p : Place) (c : ℕ) (ts : List Tree) → bare (tree n p (form.build c Apart (trees_of ts))) ≡ tree 0 p (form.build c Apart (trees_of (map bare ts)))
built n p c ts = ap (λ (us : List Tree). tree 0 p (form.build c Apart (trees_of us))) (bare_row ts)

record SuitsRow (p : Place) (f : Form) (o : ℕ) (s : Sources) (x : Made) : Type 0 where
  pub lack : Lacks o x.value
  pub is : IsNode p f (bare_value x.value)
  pub sources : s ≡ x.sources

spread_suits : (p : Place) (c o : ℕ) (t : Tree) (n : ℕ) (s : Sources) → SuitsRow p (form.build c Apart (trees_of (parts_in (bare t)))) o s (of_tuple p c t n s)
spread_suits p c o (tree i q (form.tuple us)) n s = record {
  lack = tt;
  is = ap (λ (ts : List Tree). whole (tree 0 p (form.build c Apart (trees_of ts)))) (sym (listed_back (fold_all baring us)));
  sources = refl;
}
spread_suits p c o (tree i q f) n s = record { lack = tt; is = refl; sources = refl }

listed_suits : (more : Bool) (p : Place) (c o : ℕ) (ts : List Tree) (n : ℕ) (s : Sources)
    → SuitsRow p (form.build c Apart (trees_of (arguments_in more (map bare ts)))) o s (of_listed more p c ts n s)
listed_suits true p c o [] n s = record { lack = tt; is = refl; sources = refl }
listed_suits true p c o (t ∷ []) n s = spread_suits p c o t n s
listed_suits true p c o (t ∷ (u ∷ ts)) n s = record { lack = tt; is = ap (λ (e : Tree). whole e) (built n p c (t ∷ u ∷ ts)); sources = refl }
listed_suits false p c o ts n s = record { lack = tt; is = ap (λ (e : Tree). whole e) (built n p c ts); sources = refl }

row_suits : (p : Place) (h : Row) (o : ℕ) (cs : List Arity) (ts : List Tree) (n : ℕ) (s : Sources) → SuitsRow p (row_form h cs (map bare ts)) o s (row_of h cs ts p n s)
row_suits p shape.tuple o cs ts n s = record { lack = tt; is = ap (λ (us : List Tree). whole (tree 0 p (form.tuple (trees_of us)))) (bare_row ts); sources = refl }
row_suits p (shape.build c Apart) o cs ts n s = record { lack = tt; is = ap (λ (e : Tree). whole e) (built n p c ts); sources = refl }
row_suits p (shape.build c Listed) o cs ts n s = listed_suits (takes_more (arity_in cs c)) p c o ts n s
row_suits p shape.list_of o cs ts n s = record { lack = tt; is = ap (λ (us : List Tree). whole (tree 0 p (form.list_of (trees_of us)))) (bare_row ts); sources = refl }
row_suits p shape.chain o cs ts n s = record { lack = tt; is = ap (λ (us : List Tree). whole (tree 0 p (form.chain (trees_of us)))) (bare_row ts); sources = refl }

abbrev RowSuiting : Place → List Making → List Complaining → List Rule → Type 0
RowSuiting p as_ cs rs =
    (w : Known) (k : Frame) (n : ℕ) (s : Sources) → w.variables ≡ map name_of k.variables → of_all w cs ≡ []
    → (let x = all_made p as_ k n s in InRow rs k s (map bare x.trees) x.sources)

more_suiting : (p : Place) (a : Making) (c : Complaining) (b : Rule) (as_ : List Making) (cs : List Complaining) (rs : List Rule) → Suiting a c b → RowSuiting p as_ cs rs
    → RowSuiting p (a ∷ as_) (c ∷ cs) (b ∷ rs)
more_suiting p a c b as_ cs rs first others w k n s agree none =
    let x = a k n s in let y = all_made p as_ k x.next x.sources in let nones = none_both (c w 0) (of_all w cs) none in (
      bare (part p x.value),
      map bare y.trees,
      x.sources,
      rule_part b p k s x.value x.sources (first w k 0 n s agree nones.0),
      others w k x.next x.sources agree nones.1,
      refl,
    )

-- ---- patterns

under_rule : (p : Place) (q : Pattern) (a : Making) (c : Complaining) (b : Rule) → Suiting a c b → (w : Known) (k : Frame) (n : ℕ) (before s : Sources)
    → w.variables ≡ map name_of k.variables → c (known.under q w) 0 ≡ []
    → (let x = a (shown (length before) q k) n s in Under b q before k s (bare (part p x.value)) x.sources)
under_rule p q a c b fits w k n before s agree none =
    let start = length before in let x = a (shown start q k) n s in
    rule_part b p (shown start q k) s x.value x.sources (fits (known.under q w) (shown start q k) 0 n s (agree_under q w k start agree) none)

abbrev taken_by : Bool → Place → Pattern → Making → Frame → ℕ → Sources → Taken
taken_by t p q b k n s =
    let start = length (source_before t s) in
    let body = b (shown start q k) (next_before t n) (source_before t s ++ sources_of (bound_in q)) in
    record {
      parameter = taken_pattern t start q;
      body = taken_body t start q (matched (length s) q n) (part p body.value) body.next;
      next = next_before t body.next;
      sources = body.sources;
    }

function_rule : (tupled : Bool) (p : Place) (q : Pattern) (a : Making) (c : Complaining) (b : Rule) → Suiting a c b → (w : Known) (k : Frame) (n : ℕ) (s : Sources)
    → w.variables ≡ map name_of k.variables → c (known.under q w) 0 ≡ []
    → (let x = taken_by tupled p q a k n s in IsFunction tupled q b k s x.parameter (bare x.body) x.sources)
function_rule false p q a c b fits w k n s agree none = (under_rule p q a c b fits w k n s (with_names s q) agree none, refl)
function_rule true p (pattern o f) a c b fits w k n s agree none =
    let q = pattern o f in let made_s = s ++ None ∷ [] in let start = length made_s in let x = a (shown start q k) (suc n) (with_names made_s q) in
    let more = one_more s None in let same : start - 1 ≡ length s = omega (arith, more) in (
      bare (part p x.value),
      under_rule p q a c b fits w k (suc n) made_s (with_names made_s q) agree none,
      ap (λ (m : ℕ). pattern (place_of_pattern q) (bind m)) same,
      ap (λ (m : ℕ). tree 0 (place_of_pattern q) (form.match_on (tree 0 (place_of_pattern q) (form.use_of (length s))) (more_cases (numbered m q) (bare (part p x.value)) no_cases))) more,
    )

abbrev ArmsSuiting : Place → List (Arm Making) → List (Arm Complaining) → List (Arm Rule) → Type 0
ArmsSuiting p as_ cs rs =
    (w : Known) (k : Frame) (n : ℕ) (s : Sources) → w.variables ≡ map name_of k.variables → of_arms w cs ≡ []
    → (let x = arms_made p as_ k n s in InArms rs k s (cases_in (fold_cases baring x.cases)) x.sources)

abbrev arm : {A : Type 0} → Pattern → A → Arm A
arm q a = record { pattern = q; body = a }

abbrev rule_arm : Pattern → Rule → Arm Rule
rule_arm q a = record { pattern = q; body = a }

arm_suiting : (p : Place) (q : Pattern) (a : Making) (c : Complaining) (b : Rule) (as_ : List (Arm Making)) (cs : List (Arm Complaining)) (rs : List (Arm Rule)) → Suiting a c b
    → ArmsSuiting p as_ cs rs → ArmsSuiting p (arm q a ∷ as_) (arm q c ∷ cs) (rule_arm q b ∷ rs)
arm_suiting p q a c b as_ cs rs fits others w k n s agree none =
    let s1 = with_names s q in let x = a (shown (length s) q k) n s1 in let y = arms_made p as_ k x.next x.sources in
    let nones = none_both (of_pattern w.constructors q) (c (known.under q w) 0 ++ of_arms w cs) none in
    let both = none_both (c (known.under q w) 0) (of_arms w cs) nones.1 in (
      bare (part p x.value),
      cases_in (fold_cases baring y.cases),
      x.sources,
      under_rule p q a c b fits w k n s s1 agree both.0,
      others w k x.next x.sources agree both.1,
      refl,
    )

match_suits : (p : Place) (a : Making) (c : Complaining) (b : Rule) → Suiting a c b → (as_ : List (Arm Making)) (cs : List (Arm Complaining)) (rs : List (Arm Rule))
    → ArmsSuiting p as_ cs rs → (w : Known) (k : Frame) (o n : ℕ) (s : Sources) → w.variables ≡ map name_of k.variables → of_match false w (c w 0) cs ≡ []
    → (let x = match_made false p a as_ k n s in Suits o (Matches false p b rs) k s x.value x.sources)
match_suits p a c b first as_ cs rs others w k o n s agree none =
    let x = a k n s in let y = arms_made p as_ k x.next x.sources in let nones = none_both (c w 0) (of_arms w cs) none in
    record {
      lack = tt;
      rule = (
        bare (part p x.value),
        cases_in (fold_cases baring y.cases),
        x.sources,
        rule_part b p k s x.value x.sources (first w k 0 n s agree nones.0),
        others w k x.next x.sources agree nones.1,
        refl,
      );
    }

let_match_suits : (p : Place) (a : Making) (c : Complaining) (b : Rule) (q : Pattern) (d : Making) (e : Complaining) (f : Rule) (as_ : List (Arm Making)) (cs : List (Arm Complaining)) (rs : List (Arm Rule))
    → Suiting a c b → Suiting d e f → ArmsSuiting p as_ cs rs → (w : Known) (k : Frame) (o n : ℕ) (s : Sources) → w.variables ≡ map name_of k.variables
    → of_match true w (c w 0) (arm q e ∷ cs) ≡ []
    → (let x = match_made true p a (arm q d ∷ as_) k n s in Suits o (Matches true p b (rule_arm q f ∷ rs)) k s x.value x.sources)
let_match_suits p a c b q d e f as_ cs rs first second others w k o n s agree none =
    let s1 = with_names s q in let x = a k n s1 in let y = d (shown (length s) q k) x.next x.sources in let z = arms_made p as_ k y.next y.sources in
    let nones = none_both (of_pattern w.constructors q) (c w 0 ++ (e (known.under q w) 0 ++ of_arms w cs)) none in
    let both = none_both (c w 0) (e (known.under q w) 0 ++ of_arms w cs) nones.1 in
    let rest = none_both (e (known.under q w) 0) (of_arms w cs) both.1 in
    record {
      lack = tt;
      rule = (
        bare (part p x.value),
        bare (part p y.value),
        cases_in (fold_cases baring z.cases),
        x.sources,
        y.sources,
        rule_part b p k s1 x.value x.sources (first w k 0 n s1 agree both.0),
        under_rule p q d e f second w k x.next s x.sources agree rest.0,
        others w k y.next y.sources agree rest.1,
        refl,
      );
    }

-- ---- leaves

fresh_rule : (p : Place) (g : Given) (n : ℕ) (s : Sources) → IsFresh g → IsGiven p g (bare_value (with_given g p n s).value) × (s ≡ (with_given g p n s).sources)
fresh_rule p (done f) n s fresh = (subst (λ (h : Form). IsGiven p (done h) (bare_value (whole (tree n p h)))) (sym fresh) refl, refl)
fresh_rule p (lacking read) n s fresh = (refl, refl)
fresh_rule p (lacking print) n s fresh = (refl, refl)
fresh_rule p (lacking length_of) n s fresh = (refl, refl)
fresh_rule p (lacking make) n s fresh = (refl, refl)
fresh_rule p (lacking (make_of e)) n s fresh = absurd (let it = fresh in cc)
fresh_rule p (lacking find) n s fresh = (refl, refl)
fresh_rule p (lacking (find_of e)) n s fresh = absurd (let it = fresh in cc)
fresh_rule p (lacking add) n s fresh = (refl, refl)
fresh_rule p (lacking (add_of e)) n s fresh = absurd (let it = fresh in cc)
fresh_rule p (lacking (add_to e f)) n s fresh = absurd (let it = fresh in cc)

primitive_rule : (p : Place) (o n : ℕ) (s : Sources) (w : Option ℕ) (g : Option Given) (c : Cause) → Ties w g → counted p w c o ≡ []
    → IsPrimitive p g (bare_value (of_primitive g p n s).value) × (s ≡ (of_primitive g p n s).sources)
primitive_rule p o n s None g c ties is = absurd (let it = is in cc)
primitive_rule p o n s (Some w) None c ties is = absurd ties
primitive_rule p o n s (Some w) (Some g) c ties is = fresh_rule p g n s ties.1

module _ (names : List (List ℕ)) where
  leaf_rule : (p : Place) (h : Leaf) (w : Known) (k : Frame) (o n : ℕ) (s : Sources) → w.variables ≡ map name_of k.variables → of_leaf names p h w o ≡ []
      → (let x = leaf_made names p h k n s in IsLeaf names p h k (bare_value x.value) × (s ≡ x.sources))
  leaf_rule p (shape.use_of x) w k o n s agree none = by_found (arity_in k.variables x) refl
    where
      by_found : (f : Option ℕ) → arity_in k.variables x ≡ f
          → (let y = of_use f (heads.primitive_named (text_of names x)) p n s in IsUse p f (heads.primitive_named (text_of names x)) (bare_value y.value) × (s ≡ y.sources))
      by_found (Some b) is = (refl, refl)
      by_found None is =
          let unseen : has w.variables x ≡ false = ap (λ (xs : List ℕ). has xs x) agree ∙ finds k.variables x is in
          primitive_rule p o n s (known.primitive (text_of names x)) (heads.primitive_named (text_of names x)) (unknown x) (tied (text_of names x))
          (subst (λ (t : Bool). (if t then [] else counted p (known.primitive (text_of names x)) (unknown x) o) ≡ []) unseen none)
  leaf_rule p (shape.qualified m x) w k o n s agree none =
      primitive_rule p o n s (known.primitive_in (text_of names m) (text_of names x)) (heads.primitive_in (text_of names m) (text_of names x)) (unknown_in m x)
      (tied_in (text_of names m) (text_of names x)) none
  leaf_rule p (shape.whole m) w k o n s agree none = (refl, refl)
  leaf_rule p (shape.flag b) w k o n s agree none = (refl, refl)
  leaf_rule p shape.unit w k o n s agree none = (refl, refl)
  leaf_rule p shape.assert_false w k o n s agree none = (refl, refl)
  leaf_rule p shape.map_empty w k o n s agree none = (refl, refl)

  abbrev LeafRule : Place → Leaf → Rule
  LeafRule p h k s v r = IsLeaf names p h k v × (s ≡ r)

  leaf_suits : (p : Place) (h : Leaf) → Suiting (leaf_made names p h) (of_leaf names p h) (LeafRule p h)
  leaf_suits p h w k o n s agree none =
      let fits = leaf_fitting names p h [] w k (map count_of k.variables) o n s agree (sees_all k.variables) none refl in
      record { lack = fits.lack; rule = leaf_rule p h w k o n s agree none }

  -- ---- nodes

  one_suits : (t : Tree) (h : One) (a : Making) (c : Complaining) (b : Rule) → Suiting a c b → Suiting ((making names).one t h a) ((complaining names).one t h c) ((ruling names).one t h b)
  one_suits t h a c b first w k o n s agree none =
      let p = place_of t in let x = a k n s in
      record {
        lack = tt;
        rule = (bare (part p x.value), rule_part b p k s x.value x.sources (first w k 0 n s agree none), ap (λ (e : Tree). whole e) (one_folds baring x.next p h (part p x.value)));
      }

  two_suits : (t : Tree) (h : Two) (a d : Making) (c e : Complaining) (b f : Rule) → Suiting a c b → Suiting d e f
      → Suiting ((making names).two t h a d) ((complaining names).two t h c e) ((ruling names).two t h b f)
  two_suits t h a d c e b f first second w k o n s agree none =
      let p = place_of t in let x = a k n s in let y = d k x.next x.sources in let nones = none_both (c w (handed_on h o)) (e w 0) none in
      joined_suits p h b f o k s x.value x.sources (part p y.value) y.next y.sources (first w k (handed_on h o) n s agree nones.0)
      (rule_part f p k x.sources y.value y.sources (second w k 0 x.next x.sources agree nones.1))

  three_suits : (t : Tree) (h : Three) (a d g : Making) (c e i : Complaining) (b f j : Rule) → Suiting a c b → Suiting d e f → Suiting g i j
      → Suiting ((making names).three t h a d g) ((complaining names).three t h c e i) ((ruling names).three t h b f j)
  three_suits t h a d g c e i b f j first second third w k o n s agree none =
      let p = place_of t in let x = a k n s in let y = d k x.next x.sources in let z = g k y.next y.sources in
      let nones = none_both (c w 0) (e w 0 ++ i w 0) none in let both = none_both (e w 0) (i w 0) nones.1 in
      record {
        lack = tt;
        rule = (
          bare (part p x.value),
          bare (part p y.value),
          bare (part p z.value),
          x.sources,
          y.sources,
          rule_part b p k s x.value x.sources (first w k 0 n s agree nones.0),
          rule_part f p k x.sources y.value y.sources (second w k 0 x.next x.sources agree both.0),
          rule_part j p k y.sources z.value z.sources (third w k 0 y.next y.sources agree both.1),
          ap (λ (u : Tree). whole u) (three_folds baring z.next p h (part p x.value) (part p y.value) (part p z.value)),
        );
      }

  row_node_suits : (t : Tree) (h : Row) (own_of : Complaining) (as_ : List Making) (cs : List Complaining) (rs : List Rule) → RowSuiting (place_of t) as_ cs rs
      → Suiting ((making names).row t h as_) (λ w o. own_of w o ++ of_all w cs) ((ruling names).row t h rs)
  row_node_suits t h own_of as_ cs rs others w k o n s agree none =
      let p = place_of t in let x = all_made p as_ k n s in
      let parts = others w k n s agree (none_both (own_of w o) (of_all w cs) none).1 in
      let is = row_suits p h o k.constructors x.trees x.next x.sources in
      let y = row_of h k.constructors x.trees p x.next x.sources in
      record {
        lack = is.lack;
        rule = subst (λ (r : Sources). (ruling names).row t h rs k s (bare_value y.value) r) is.sources (map bare x.trees, parts, is.is);
      }

  function_suits : (t : Tree) (q : Pattern) (a : Making) (c : Complaining) (b : Rule) → Suiting a c b
      → Suiting ((making names).function t q a) ((complaining names).function t q c) ((ruling names).function t q b)
  function_suits t q a c b fits w k o n s agree none =
      let p = place_of t in let x = taken p q a k n s in let nones = none_both (of_pattern w.constructors q) (c (known.under q w) 0) none in
      record { lack = tt; rule = (x.parameter, bare x.body, function_rule (is_tuple q) p q a c b fits w k n s agree nones.1, refl) }

  let_suits : (t : Tree) (q : Pattern) (a d : Making) (c e : Complaining) (b f : Rule) → Suiting a c b → Suiting d e f
      → Suiting ((making names).let_in t q a d) ((complaining names).let_in t q c e) ((ruling names).let_in t q b f)
  let_suits t q a d c e b f first second w k o n s agree none =
      let p = place_of t in let s1 = with_names s q in let x = a k n s1 in let y = d (shown (length s) q k) x.next x.sources in
      let nones = none_both (of_pattern w.constructors q) (c w 0 ++ e (known.under q w) 0) none in let both = none_both (c w 0) (e (known.under q w) 0) nones.1 in
      record {
        lack = tt;
        rule = (
          bare (part p x.value),
          bare (part p y.value),
          x.sources,
          rule_part b p k s1 x.value x.sources (first w k 0 n s1 agree both.0),
          under_rule p q d e f second w k x.next s x.sources agree both.1,
          refl,
        );
      }

  let_rec_suits : (t : Tree) (f i : ℕ) (l : Place) (q : Pattern) (a d : Making) (c e : Complaining) (b g : Rule) → Suiting a c b → Suiting d e g
      → Suiting ((making names).let_rec t f i l q a d) ((complaining names).let_rec t f i l q c e) ((ruling names).let_rec t f i l q b g)
  let_rec_suits t f i l q a d c e b g first second w k o n s agree none =
      let p = place_of t in let s1 = s ++ Some f ∷ [] in let k1 = named (length s) f k in let w1 = known.named f w in
      let x = taken l q a k1 n s1 in let y = d k1 (suc x.next) x.sources in
      let nones = none_both (of_pattern w.constructors q) (c (known.under q w1) 0 ++ e w1 0) none in let both = none_both (c (known.under q w1) 0) (e w1 0) nones.1 in
      let agree1 = agree_named f w k (length s) agree in
      record {
        lack = tt;
        rule = (
          x.parameter,
          bare x.body,
          bare (part p y.value),
          x.sources,
          function_rule (is_tuple q) l q a c b first w1 k1 n s1 agree1 both.0,
          rule_part g p k1 x.sources y.value y.sources (second w1 k1 0 (suc x.next) x.sources agree1 both.1),
          refl,
        );
      }

  abbrev SuitingTree : Tree → Type 0
  SuitingTree t = Suiting (made names t) (complaints_of names t) (Becomes names t)

  abbrev SuitingRow : Place → Trees → Type 0
  SuitingRow p es = RowSuiting p (fold_all (making names) es) (fold_all (complaining names) es) (fold_all (ruling names) es)

  abbrev SuitingArms : Place → Cases → Type 0
  SuitingArms p cs = ArmsSuiting p (fold_cases (making names) cs) (fold_cases (complaining names) cs) (fold_cases (ruling names) cs)

  abbrev SuitingBodies : Cases → Type 0
  SuitingBodies no_cases = Unit {0}
  SuitingBodies (more_cases q b cs) = SuitingTree b × SuitingBodies cs

  arms_suit : (p : Place) (cs : Cases) → SuitingBodies cs → SuitingArms p cs
  arms_suit p no_cases fits = λ w k n s agree none. (refl, refl)
  arms_suit p (more_cases q b cs) fits =
      arm_suiting p q (made names b) (complaints_of names b) (Becomes names b) (fold_cases (making names) cs) (fold_cases (complaining names) cs) (fold_cases (ruling names) cs) fits.0
      (arms_suit p cs fits.1)

  match_suiting : (written : Bool) (p : Place) (e : Tree) (cs : Cases) → has_let e cs ≡ written → SuitingTree e → SuitingBodies cs
      → Suiting (match_made written p (made names e) (fold_cases (making names) cs)) (λ w o. of_match written w (complaints_of names e w 0) (fold_cases (complaining names) cs))
      (Matches written p (Becomes names e) (fold_cases (ruling names) cs))
  match_suiting false p e cs is first fits =
      match_suits p (made names e) (complaints_of names e) (Becomes names e) first (fold_cases (making names) cs) (fold_cases (complaining names) cs) (fold_cases (ruling names) cs)
      (arms_suit p cs fits)
  match_suiting true p e no_cases is first fits = absurd (let it = is in cc)
  match_suiting true p e (more_cases q b cs) is first fits =
      let_match_suits p (made names e) (complaints_of names e) (Becomes names e) q (made names b) (complaints_of names b) (Becomes names b) (fold_cases (making names) cs)
      (fold_cases (complaining names) cs) (fold_cases (ruling names) cs) first fits.0 (arms_suit p cs fits.1)

  one_node_suits : (t : Tree) (h : One) (a : Tree) → SuitingTree a → Suiting ((making names).one t h (made names a)) ((complaining names).one t h (complaints_of names a)) ((ruling names).one t h (Becomes names a))
  one_node_suits t h a first = one_suits t h (made names a) (complaints_of names a) (Becomes names a) first

  two_node_suits : (t : Tree) (h : Two) (a b : Tree) → SuitingTree a → SuitingTree b
      → Suiting ((making names).two t h (made names a) (made names b)) ((complaining names).two t h (complaints_of names a) (complaints_of names b)) ((ruling names).two t h (Becomes names a) (Becomes names b))
  two_node_suits t h a b first second = two_suits t h (made names a) (made names b) (complaints_of names a) (complaints_of names b) (Becomes names a) (Becomes names b) first second

  three_node_suits : (t : Tree) (h : Three) (a b c : Tree) → SuitingTree a → SuitingTree b → SuitingTree c
      → Suiting ((making names).three t h (made names a) (made names b) (made names c)) ((complaining names).three t h (complaints_of names a) (complaints_of names b) (complaints_of names c))
      ((ruling names).three t h (Becomes names a) (Becomes names b) (Becomes names c))
  three_node_suits t h a b c first second third =
      three_suits t h (made names a) (made names b) (made names c) (complaints_of names a) (complaints_of names b) (complaints_of names c) (Becomes names a) (Becomes names b) (Becomes names c)
      first second third

  row_suiting : (t : Tree) (h : Row) (es : Trees) → SuitingRow (place_of t) es
      → Suiting ((making names).row t h (fold_all (making names) es)) ((complaining names).row t h (fold_all (complaining names) es)) ((ruling names).row t h (fold_all (ruling names) es))
  row_suiting t h es others = row_node_suits t h (own names t) (fold_all (making names) es) (fold_all (complaining names) es) (fold_all (ruling names) es) others

  mutual
    tree_suits : (t : Tree) → SuitingTree t
    tree_suits (tree i p f) = form_suits i p f

    form_suits : (i : ℕ) (p : Place) (f : Form) → SuitingTree (tree i p f)
    form_suits i p (form.whole m) = leaf_suits p (shape.whole m)
    form_suits i p (form.flag b) = leaf_suits p (shape.flag b)
    form_suits i p form.unit = leaf_suits p shape.unit
    form_suits i p (form.use_of x) = leaf_suits p (shape.use_of x)
    form_suits i p (form.qualified m x) = leaf_suits p (shape.qualified m x)
    form_suits i p form.assert_false = leaf_suits p shape.assert_false
    form_suits i p form.map_empty = leaf_suits p shape.map_empty
    form_suits i p (form.fun q b) = function_suits (tree i p (form.fun q b)) q (made names b) (complaints_of names b) (Becomes names b) (tree_suits b)
    form_suits i p (form.tuple es) = row_suiting (tree i p (form.tuple es)) shape.tuple es (all_suit p es)
    form_suits i p (form.build c w es) = row_suiting (tree i p (form.build c w es)) (shape.build c w) es (all_suit p es)
    form_suits i p (form.list_of es) = row_suiting (tree i p (form.list_of es)) shape.list_of es (all_suit p es)
    form_suits i p (form.chain es) = row_suiting (tree i p (form.chain es)) shape.chain es (all_suit p es)
    form_suits i p (form.let_in q e b) =
        let_suits (tree i p (form.let_in q e b)) q (made names e) (made names b) (complaints_of names e) (complaints_of names b) (Becomes names e) (Becomes names b) (tree_suits e) (tree_suits b)
    form_suits i p (form.let_rec f j r q e b) =
        let_rec_suits (tree i p (form.let_rec f j r q e b)) f j r q (made names e) (made names b) (complaints_of names e) (complaints_of names b) (Becomes names e) (Becomes names b)
        (tree_suits e) (tree_suits b)
    form_suits i p (form.call a b) = two_node_suits (tree i p (form.call a b)) shape.call a b (tree_suits a) (tree_suits b)
    form_suits i p (form.arithmetic o a b) = two_node_suits (tree i p (form.arithmetic o a b)) (shape.arithmetic o) a b (tree_suits a) (tree_suits b)
    form_suits i p (form.compare o a b) = two_node_suits (tree i p (form.compare o a b)) (shape.compare o) a b (tree_suits a) (tree_suits b)
    form_suits i p (form.and_of a b) = two_node_suits (tree i p (form.and_of a b)) shape.and_of a b (tree_suits a) (tree_suits b)
    form_suits i p (form.or_of a b) = two_node_suits (tree i p (form.or_of a b)) shape.or_of a b (tree_suits a) (tree_suits b)
    form_suits i p (form.make a b) = two_node_suits (tree i p (form.make a b)) shape.make a b (tree_suits a) (tree_suits b)
    form_suits i p (form.fetch a b) = two_node_suits (tree i p (form.fetch a b)) shape.fetch a b (tree_suits a) (tree_suits b)
    form_suits i p (form.map_find a b) = two_node_suits (tree i p (form.map_find a b)) shape.map_find a b (tree_suits a) (tree_suits b)
    form_suits i p (form.negated a) = one_node_suits (tree i p (form.negated a)) shape.negated a (tree_suits a)
    form_suits i p (form.not_of a) = one_node_suits (tree i p (form.not_of a)) shape.not_of a (tree_suits a)
    form_suits i p (form.assert a) = one_node_suits (tree i p (form.assert a)) shape.assert a (tree_suits a)
    form_suits i p (form.length_of a) = one_node_suits (tree i p (form.length_of a)) shape.length_of a (tree_suits a)
    form_suits i p (form.print a) = one_node_suits (tree i p (form.print a)) shape.print a (tree_suits a)
    form_suits i p (form.read a) = one_node_suits (tree i p (form.read a)) shape.read a (tree_suits a)
    form_suits i p (form.if_else a b c) = three_node_suits (tree i p (form.if_else a b c)) shape.if_else a b c (tree_suits a) (tree_suits b) (tree_suits c)
    form_suits i p (form.store a b c) = three_node_suits (tree i p (form.store a b c)) shape.store a b c (tree_suits a) (tree_suits b) (tree_suits c)
    form_suits i p (form.map_add a b c) = three_node_suits (tree i p (form.map_add a b c)) shape.map_add a b c (tree_suits a) (tree_suits b) (tree_suits c)
    form_suits i p (form.match_on e cs) = match_suiting (has_let e cs) p e cs refl (tree_suits e) (bodies_suit cs)

    all_suit : (p : Place) (es : Trees) → SuitingRow p es
    all_suit p no_trees = λ w k n s agree none. (refl, refl)
    all_suit p (more_trees e es) =
        more_suiting p (made names e) (complaints_of names e) (Becomes names e) (fold_all (making names) es) (fold_all (complaining names) es) (fold_all (ruling names) es) (tree_suits e)
        (all_suit p es)

    bodies_suit : (cs : Cases) → SuitingBodies cs
    bodies_suit no_cases = tt
    bodies_suit (more_cases q b cs) = (tree_suits b, bodies_suit cs)

  -- ---- items

  abbrev AllSuit : List ItemTree → Type 0
  AllSuit is =
      (w : Known) (k : Frame) (n : ℕ) (s : Sources) → w.variables ≡ map name_of k.variables → of_items names w is ≡ []
      → (let x = items_made names k n s is in ItemsBecome names is k s (bare_items x.items) x.sources)

  item_suits : (p : Place) (f : ItemForm) (is : List ItemTree) → AllSuit is → (w : Known) (k : Frame) (n : ℕ) (s : Sources) → w.variables ≡ map name_of k.variables
      → of_item names w f ++ of_items names (behind w f) is ≡ []
      → (let x = item_made names p f k n s (λ l m r. items_made names l m r is) in ItemBecomes names p f (ItemsBecome names is) k s (bare_items x.items) x.sources)
  item_suits p (type_of d) is rest w k n s agree none =
      rest (with_datatype w d) (frame_with k.variables (with_constructors k.constructors d.constructors)) n s agree
      (none_both (of_item names w (type_of d)) (of_items names (with_datatype w d) is) none).1
  item_suits p (let_of q e) is rest w k n s agree none =
      let s1 = with_names s q in let l = shown (length s) q k in let x = made names e k n s1 in let y = items_made names l x.next x.sources is in
      let nones = none_both (of_item names w (let_of q e)) (of_items names (known.under q w) is) none in
      let own_none = none_both (of_pattern w.constructors q) (complaints_of names e w 0) nones.0 in (
        bare (part p x.value),
        bare_items y.items,
        x.sources,
        rule_part (Becomes names e) p k s1 x.value x.sources (tree_suits e w k 0 n s1 agree own_none.1),
        rest (known.under q w) l x.next x.sources (agree_under q w k (length s) agree) nones.1,
        refl,
      )
  item_suits p (let_rec_of f r) is rest w k n s agree none =
      let q = r.parameter in let e = r.body in
      let s1 = s ++ Some f ∷ [] in let l = named (length s) f k in let w1 = known.named f w in
      let x = taken r.place q (made names e) l n s1 in let y = items_made names l (suc x.next) x.sources is in
      let nones = none_both (of_item names w (let_rec_of f r)) (of_items names w1 is) none in
      let own_none = none_both (of_pattern w.constructors q) (complaints_of names e (known.under q w1) 0) nones.0 in
      let agree1 = agree_named f w k (length s) agree in (
        x.parameter,
        bare x.body,
        bare_items y.items,
        x.sources,
        function_rule (is_tuple q) r.place q (made names e) (complaints_of names e) (Becomes names e) (tree_suits e) w1 l n s1 agree1 own_none.1,
        rest w1 l (suc x.next) x.sources agree1 nones.1,
        refl,
      )

  all_items_suit : (is : List ItemTree) → AllSuit is
  all_items_suit [] w k n s agree none = (refl, refl)
  all_items_suit (i ∷ is) w k n s agree none = item_suits i.place i.form is (all_items_suit is) w k n s agree none

pub made_resolves : MadeResolves
made_resolves names is none = all_items_suit names is predeclared_known first_frame 0 [] refl none
