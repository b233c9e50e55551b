-- Functions, lets and matches without complaints.
use Rattle.std.specs.Prelude.{nat_lt, ◌==◌, ◌&&◌, ◌||◌, reverse}
use Rattle.std.proofs.Common.{◌≡◌, ℕ, suc, ◌-◌, Bool, true, false, List, [], ◌∷◌, ◌++◌, length, map, Option, Some, None, refl, sym, ap, subst, ◌∙◌, arith}
use Rattle.std.proofs.lemmas.Bool.{and_parts}
use Rattle.std.proofs.lemmas.Bool.Decides.{Decides-ltb}
use Rattle.lq_base_names.specs.declared.place.Place.{Place}
use Rattle.lq_text_tree.specs.Pattern.{Pattern, pattern, PatternForm, any, bind, nothing, tuple_of, build_of, bound_in}
use Rattle.lq_text_tree.specs.Tree as form
use Rattle.lq_text_tree.specs.Tree.{Tree, tree, Form, Cases, no_cases, more_cases}
use Rattle.lq_text_tree.specs.TreeView.{Recursive}
use Rattle.lq_text_walk.specs.Walk.Fold.{Arm}
use Rattle.lq_text_walk.specs.Walk.Visits.{Visit, leave_function, declare, hide, show_name, hide_name, place_of, place_of_pattern, under, in_arms, in_match, in_function, has_let, is_before, visiting}
use Rattle.lq_text_scope.specs.Datatypes.{name_of}
use Rattle.lq_text_scope.specs.Known as known
use Rattle.lq_text_scope.specs.Known.{Arity, Known, defined}
use Rattle.lq_text_scope.specs.Patterns.{of_pattern}
use Rattle.lq_text_scope.specs.Uses.{Complaining, of_arms, of_match, complaining}
use Rattle.lq_text_walk.specs.Scoped.Uses.{is_parameter, is_scoped_tree, is_visible}
use Rattle.lq_text_resolve.specs.Binding.Binding.{is_tuple, numbered, sources_of}
use Rattle.lq_text_resolve.specs.Binding.Making.{Frame, part, Making, making, Taken, taken, taken_pattern, taken_body, matched, next_before, source_before, shown, named, arms_made, match_made}
use Rattle.lq_text_resolve.specs.Resolution.Parameters.{all_stand, is_taken}
use Rattle.lq_text_resolve.proofs.ResolutionLemmas.Fitting.{Fitting, FitsMade, fits_whole, none_both, stand_both, stand_inside, part_of, place_is}
use Rattle.lq_text_resolve.proofs.ResolutionLemmas.Nodes.{binders_of, Part, ArmParts, Function, let_node, match_node, let_match_node, function_node, let_rec_node}
use Rattle.lq_text_resolve.proofs.ResolutionLemmas.Spanning.{Spans, Sees, sees_more, sees_pattern, bound_names, pattern_spans, sees_behind, visible_here, one_more, spans_append}

-- ---- what is known

pub agree_under : (q : Pattern) (w : Known) (k : Frame) (n : ℕ) → w.variables ≡ map name_of k.variables → (known.under q w).variables ≡ map name_of (shown n q k).variables
agree_under q w k n agree = ap (λ (xs : List ℕ). reverse (bound_in q) ++ xs) agree ∙ sym (bound_names n (bound_in q) k.variables)

pub agree_named : (f : ℕ) (w : Known) (k : Frame) (n : ℕ) → w.variables ≡ map name_of k.variables → (known.named f w).variables ≡ map name_of (named n f k).variables
agree_named f w k n agree = ap (λ (xs : List ℕ). f ∷ xs) agree

-- a body under a pattern whose binders begin at this number
under_fits : (p q : Place) (a : Making) (c : Complaining) (us : List Visit) (pt : Pattern) (start : ℕ) → Fitting q a c us
    → (w : Known) (k : Frame) (vs : List ℕ) (n : ℕ) (s : List (Option ℕ)) → w.variables ≡ map name_of k.variables → Sees k.variables vs → c (known.under pt w) 0 ≡ []
    → all_stand us ≡ true
    → (let x = a (shown start pt k) n s in Part (bound_in (numbered start pt) ++ vs) n (length s) (part p x.value) x.next (length x.sources))
under_fits p q a c us pt start fits w k vs n s agree sees none stand =
    let x = a (shown start pt k) n s in
    part_of (bound_in (numbered start pt) ++ vs) q p n (length s) x.value x.next (length x.sources)
    (fits (known.under pt w) (shown start pt k) (bound_in (numbered start pt) ++ vs) 0 n s (agree_under pt w k start agree) (sees_pattern pt vs k.variables start sees) none stand)

pub stand_under : (q : Pattern) (us : List Visit) → all_stand (under q us) ≡ true → all_stand us ≡ true
stand_under q us is = (stand_both us (hide q ∷ []) is).0

-- ---- functions

before_itself : (p : Place) → is_before p p ≡ false
before_itself p = by_tests (nat_lt p.line p.line) (nat_lt p.column p.column) (p.line == p.line) refl refl
  where
    by_tests : (t u e : Bool) → nat_lt p.line p.line ≡ t → nat_lt p.column p.column ≡ u → (t || (e && u)) ≡ false
    by_tests true u e a b = let less = (Decides-ltb p.line p.line).0 a in absurd (omega (arith, less))
    by_tests false true e a b = let less = (Decides-ltb p.column p.column).0 b in absurd (omega (arith, less))
    by_tests false false true a b = refl
    by_tests false false false a b = refl

pub numbered_parameter : (n : ℕ) (q : Pattern) → is_parameter (numbered n q) ≡ is_parameter q
numbered_parameter n (pattern p any) = refl
numbered_parameter n (pattern p (bind x)) = refl
numbered_parameter n (pattern p nothing) = refl
numbered_parameter n (pattern p (tuple_of ps)) = refl
numbered_parameter n (pattern p (build_of c r ps)) = refl

-- a function whose parameter is a tuple or not
abbrev taken_by : Bool → Place → Pattern → Making → Frame → ℕ → List (Option ℕ) → Taken
taken_by t p q b k n s =
    let start = length (source_before t s) in
    let body = b (shown start q k) (next_before t n) (source_before t s ++ sources_of (bound_in q)) in
    record {
      parameter = taken_pattern t start q;
      body = taken_body t start q (matched (length s) q n) (part p body.value) body.next;
      next = next_before t body.next;
      sources = body.sources;
    }

abbrev pub TakenFits : List ℕ → ℕ → ℕ → Taken → Type 0
TakenFits vs n b x = Function vs n b x.parameter x.body x.next (length x.sources)

plain_fits : (p q : Place) (a : Making) (c : Complaining) (us : List Visit) (pt : Pattern) → Fitting q a c us
    → (w : Known) (k : Frame) (vs : List ℕ) (n : ℕ) (s : List (Option ℕ)) → w.variables ≡ map name_of k.variables → Sees k.variables vs → c (known.under pt w) 0 ≡ []
    → all_stand us ≡ true → is_parameter pt ≡ true → TakenFits vs n (length s) (taken_by false p pt a k n s)
plain_fits p q a c us pt fits w k vs n s agree sees none stand plain =
    let s1 = s ++ sources_of (bound_in pt) in let x = a (shown (length s) pt k) n s1 in
    let is = under_fits p q a c us pt (length s) fits w k vs n s1 agree sees none stand in
    record {
      parameter = numbered_parameter (length s) pt ∙ plain;
      nodes = is.nodes;
      binders = spans_append (length s) (length s1) (length x.sources) (bound_in (numbered (length s) pt)) (binders_of (part p x.value)) (pattern_spans s pt) is.binders;
      scoped = is.scoped;
    }

tuple_fits : (p q : Place) (a : Making) (c : Complaining) (us : List Visit) (r : Place) (f : PatternForm) → Fitting q a c us
    → (w : Known) (k : Frame) (vs : List ℕ) (n : ℕ) (s : List (Option ℕ)) → w.variables ≡ map name_of k.variables → Sees k.variables vs → c (known.under (pattern r f) w) 0 ≡ []
    → all_stand us ≡ true → TakenFits vs n (length s) (taken_by true p (pattern r f) a k n s)
tuple_fits p q a c us r f fits w k vs n s agree sees none stand =
    let pt = pattern r f in let s1 = s ++ None ∷ [] in let start = length s1 in let s2 = s1 ++ sources_of (bound_in pt) in
    let x = a (shown start pt k) (suc n) s2 in let t = part p x.value in let e = matched (length s) pt n in
    let made = length s in let more = one_more s None in
    let same : start - 1 ≡ made = omega (arith, more) in
    let us1 = made ∷ vs in
    let sees1 : Sees k.variables us1 = sees_behind k.variables vs made sees in
    let is = under_fits p q a c us pt start fits w k us1 (suc n) s2 agree sees1 none stand in
    let here : is_visible us1 made ≡ true = visible_here made vs in
    let first : Part us1 n start e (suc n) start = record { nodes = (refl, refl); binders = refl; scoped = here } in
    let arm : ArmParts us1 (suc n) start (more_cases (numbered start pt) t no_cases) x.next (length x.sources) =
    (length s2, x.next, length x.sources, pattern_spans s1 pt, is, (refl, refl)) in
    let whole = match_node us1 n start (suc n) start x.next (length x.sources) r e (more_cases (numbered start pt) t no_cases) (before_itself r) first arm in
    let match_on_it = tree x.next r (form.match_on e (more_cases (numbered start pt) t no_cases)) in
    record {
      parameter = refl;
      nodes = whole.nodes;
      binders = (same, subst (λ (m : ℕ). Spans m (binders_of (match_on_it)) (length x.sources)) more whole.binders);
      scoped = subst (λ (m : ℕ). is_scoped_tree (m ∷ vs) (match_on_it) ≡ true) (sym same) whole.scoped;
    }

-- by whether the parameter is a tuple
taken_fits_by : (tupled : Bool) (p q : Place) (a : Making) (c : Complaining) (us : List Visit) (pt : Pattern) → (tupled ≡ false → is_parameter pt ≡ true) → Fitting q a c us
    → (w : Known) (k : Frame) (vs : List ℕ) (n : ℕ) (s : List (Option ℕ)) → w.variables ≡ map name_of k.variables → Sees k.variables vs → c (known.under pt w) 0 ≡ []
    → all_stand us ≡ true → TakenFits vs n (length s) (taken_by tupled p pt a k n s)
taken_fits_by false p q a c us pt plain fits w k vs n s agree sees none stand = plain_fits p q a c us pt fits w k vs n s agree sees none stand (plain refl)
taken_fits_by true p q a c us (pattern r f) plain fits w k vs n s agree sees none stand = tuple_fits p q a c us r f fits w k vs n s agree sees none stand

taken_plain : (q : Pattern) → is_taken q ≡ true → is_tuple q ≡ false → is_parameter q ≡ true
taken_plain (pattern p any) is no_tuple = refl
taken_plain (pattern p (bind x)) is no_tuple = refl
taken_plain (pattern p nothing) is no_tuple = refl
taken_plain (pattern p (tuple_of ps)) is no_tuple = absurd (let e = no_tuple in cc)
taken_plain (pattern p (build_of c r ps)) is no_tuple = absurd (let e = is in cc)

pub taken_fits : (p q : Place) (a : Making) (c : Complaining) (us : List Visit) (pt : Pattern) → is_taken pt ≡ true → Fitting q a c us
    → (w : Known) (k : Frame) (vs : List ℕ) (n : ℕ) (s : List (Option ℕ)) → w.variables ≡ map name_of k.variables → Sees k.variables vs → c (known.under pt w) 0 ≡ []
    → all_stand us ≡ true → TakenFits vs n (length s) (taken p pt a k n s)
taken_fits p q a c us pt well fits w k vs n s agree sees none stand =
    taken_fits_by (is_tuple pt) p q a c us pt (taken_plain pt well) fits w k vs n s agree sees none stand

-- ---- arms

abbrev pub ArmsFitting : Place → List (Arm Making) → List (Arm Complaining) → List (Arm (List Visit)) → Type 0
ArmsFitting p as_ cs uss =
    (w : Known) (k : Frame) (vs : List ℕ) (n : ℕ) (s : List (Option ℕ)) → w.variables ≡ map name_of k.variables → Sees k.variables vs → of_arms w cs ≡ []
    → all_stand (in_arms uss) ≡ true → (let x = arms_made p as_ k n s in ArmParts vs n (length s) x.cases x.next (length x.sources))

abbrev pub arm : {A : Type 0} → Pattern → A → Arm A
arm q a = record { pattern = q; body = a }

pub arm_fitting : (p q : Place) (pt : Pattern) (a : Making) (c : Complaining) (us : List Visit) (as_ : List (Arm Making)) (cs : List (Arm Complaining)) (uss : List (Arm (List Visit)))
    → Fitting q a c us → ArmsFitting p as_ cs uss → ArmsFitting p (arm pt a ∷ as_) (arm pt c ∷ cs) (arm pt us ∷ uss)
arm_fitting p q pt a c us as_ cs uss fits others w k vs n s agree sees none stand =
    let start = length s in let s1 = s ++ sources_of (bound_in pt) in let x = a (shown start pt k) n s1 in
    let nones = none_both (of_pattern w.constructors pt) (c (known.under pt w) 0 ++ of_arms w cs) none in
    let both = none_both (c (known.under pt w) 0) (of_arms w cs) nones.1 in
    let stands = stand_both (under pt us) (in_arms uss) stand in (
      length s1,
      x.next,
      length x.sources,
      pattern_spans s pt,
      under_fits p q a c us pt start fits w k vs n s1 agree sees both.0 (stand_under pt us stands.0),
      others w k vs x.next x.sources agree sees both.1 stands.1,
    )

-- a match whose first pattern stands before what is matched has one arm, and so has what it becomes
pub let_same : (e f : Tree) (q : Pattern) (n : ℕ) (t u : Tree) → place_of f ≡ place_of e → has_let f (more_cases (numbered n q) u no_cases) ≡ has_let e (more_cases q t no_cases)
let_same e f (pattern p o) n t u same = ap (λ (r : Place). is_before p r) same

module _ (names : List (List ℕ)) where
  pub function_fitting : (t : Tree) (pt : Pattern) (q : Place) (a : Making) (c : Complaining) (us : List Visit) → is_taken pt ≡ true → Fitting q a c us
      → Fitting (place_of t) ((making names).function t pt a) ((complaining names).function t pt c) (visiting.function t pt us)
  function_fitting t pt q a c us well fits w k vs o n s agree sees none stand =
      let p = place_of t in let x = taken p pt a k n s in
      let nones = none_both (of_pattern w.constructors pt) (c (known.under pt w) 0) none in
      let inner = stand_under pt us (stand_inside t (declare pt ∷ under pt us) stand) in
      let is = taken_fits p q a c us pt well fits w k vs n s agree sees nones.1 inner in
      fits_whole vs p o n (length s) (tree x.next p (form.fun x.parameter x.body)) (suc x.next) (length x.sources)
      (function_node vs n (length s) x.next (length x.sources) p x.parameter x.body is) refl

  pub let_fitting : (t : Tree) (pt : Pattern) (q r : Place) (a b : Making) (c d : Complaining) (us ts : List Visit) → Fitting q a c us → Fitting r b d ts
      → Fitting (place_of t) ((making names).let_in t pt a b) ((complaining names).let_in t pt c d) (visiting.let_in t pt us ts)
  let_fitting t pt q r a b c d us ts first second w k vs o n s agree sees none stand =
      let p = place_of t in let start = length s in let s1 = s ++ sources_of (bound_in pt) in
      let x = a k n s1 in let y = b (shown start pt k) x.next x.sources in
      let nones = none_both (of_pattern w.constructors pt) (c w 0 ++ d (known.under pt w) 0) none in
      let both = none_both (c w 0) (d (known.under pt w) 0) nones.1 in
      let stands = stand_both us (under pt ts) (stand_inside t (declare pt ∷ (us ++ under pt ts)) stand) in
      let is = part_of vs q p n (length s1) x.value x.next (length x.sources) (first w k vs 0 n s1 agree sees both.0 stands.0) in
      let more = under_fits p r b d ts pt start second w k vs x.next x.sources agree sees both.1 (stand_under pt ts stands.1) in
      fits_whole vs p o n start (tree y.next p (form.let_in (numbered start pt) (part p x.value) (part p y.value))) (suc y.next) (length y.sources)
      (let_node vs n start (length s1) x.next (length x.sources) y.next (length y.sources) p (numbered start pt) (part p x.value) (part p y.value) (pattern_spans s pt) is more) refl

  pub let_rec_fitting : (i : ℕ) (p : Place) (f j : ℕ) (l : Place) (pt : Pattern) (e o2 : Tree) (q r : Place) (a b : Making) (c d : Complaining) (us ts : List Visit)
      → Fitting q a c us → Fitting r b d ts
      → Fitting p ((making names).let_rec (tree i p (form.let_rec f j l pt e o2)) f j l pt a b) ((complaining names).let_rec (tree i p (form.let_rec f j l pt e o2)) f j l pt c d)
      (visiting.let_rec (tree i p (form.let_rec f j l pt e o2)) f j l pt us ts)
  let_rec_fitting i p f j l pt e o2 q r a b c d us ts first second w k vs o n s agree sees none stand =
      let t = tree i p (form.let_rec f j l pt e o2) in
      let g : Recursive = record { id = j; place = l; parameter = pt; body = e } in
      let start = length s in let s1 = s ++ Some f ∷ [] in let k1 = named start f k in let w1 = known.named f w in let vs1 = start ∷ vs in
      let x = taken l pt a k1 n s1 in let y = b k1 (suc x.next) x.sources in
      let nones = none_both (of_pattern w.constructors pt) (c (known.under pt w1) 0 ++ d w1 0) none in
      let both = none_both (c (known.under pt w1) 0) (d w1 0) nones.1 in
      let function = in_function g us in let rest = ts ++ hide_name f ∷ [] in
      let stands = stand_both function rest (stand_inside t (show_name f ∷ (function ++ rest)) stand) in
      let behind = stand_both (under pt us) (leave_function g ∷ []) stands.0 in
      let well = (and_parts (is_taken pt) true behind.1).0 in
      let agree1 = agree_named f w k start agree in let sees1 = sees_more k.variables vs f start sees in
      let is = taken_fits l q a c us pt well first w1 k1 vs1 n s1 agree1 sees1 both.0 (stand_under pt us behind.0) in
      let function_is : Function vs1 n (suc start) x.parameter x.body x.next (length x.sources) =
      subst (λ (m : ℕ). Function vs1 n m x.parameter x.body x.next (length x.sources)) (one_more s (Some f)) is in
      let more = part_of vs1 r p (suc x.next) (length x.sources) y.value y.next (length y.sources)
      (second w1 k1 vs1 0 (suc x.next) x.sources agree1 sees1 both.1 (stand_both ts (hide_name f ∷ []) stands.1).0) in
      fits_whole vs p o n start (tree y.next p (form.let_rec start x.next l x.parameter x.body (part p y.value))) (suc y.next) (length y.sources)
      (let_rec_node vs n start x.next (length x.sources) y.next (length y.sources) p l x.parameter x.body (part p y.value) function_is more) refl

-- ---- matches

-- arms behind what is matched
pub plain_match : (p : Place) (e : Tree) (a : Making) (c : Complaining) (us : List Visit) (as_ : List (Arm Making)) (ds : List (Arm Complaining)) (uss : List (Arm (List Visit)))
    → ((k : Frame) (n : ℕ) (s : List (Option ℕ)) (f : Tree) → place_of f ≡ place_of e → has_let f (arms_made p as_ k n s).cases ≡ false)
    → Fitting (place_of e) a c us → ArmsFitting p as_ ds uss
    → (w : Known) (k : Frame) (vs : List ℕ) (o n : ℕ) (s : List (Option ℕ)) → w.variables ≡ map name_of k.variables → Sees k.variables vs → c w 0 ++ of_arms w ds ≡ []
    → all_stand (us ++ in_arms uss) ≡ true → FitsMade vs p o n (length s) (match_made false p a as_ k n s)
plain_match p e a c us as_ ds uss written first others w k vs o n s agree sees none stand =
    let x = a k n s in let y = arms_made p as_ k x.next x.sources in
    let nones = none_both (c w 0) (of_arms w ds) none in let stands = stand_both us (in_arms uss) stand in
    let fits = first w k vs 0 n s agree sees nones.0 stands.0 in
    let is = part_of vs (place_of e) p n (length s) x.value x.next (length x.sources) fits in
    let at = place_is vs (place_of e) p n (length s) x.value x.next (length x.sources) fits in
    let arms = others w k vs x.next x.sources agree sees nones.1 stands.1 in
    fits_whole vs p o n (length s) (tree y.next p (form.match_on (part p x.value) y.cases)) (suc y.next) (length y.sources)
    (match_node vs n (length s) x.next (length x.sources) y.next (length y.sources) p (part p x.value) y.cases (written k x.next x.sources (part p x.value) at) is arms) refl

-- one arm whose pattern stands before what is matched
pub let_match : (p : Place) (e t : Tree) (pt : Pattern) (r : Place) (a b : Making) (c d : Complaining) (us ts : List Visit) → has_let e (more_cases pt t no_cases) ≡ true
    → Fitting (place_of e) a c us → Fitting r b d ts
    → (w : Known) (k : Frame) (vs : List ℕ) (o n : ℕ) (s : List (Option ℕ)) → w.variables ≡ map name_of k.variables → Sees k.variables vs
    → of_match true w (c w 0) (arm pt d ∷ []) ≡ [] → all_stand (in_match true us (arm pt ts ∷ [])) ≡ true
    → FitsMade vs p o n (length s) (match_made true p a (arm pt b ∷ []) k n s)
let_match p e t pt r a b c d us ts written first second w k vs o n s agree sees none stand =
    let start = length s in let s1 = s ++ sources_of (bound_in pt) in
    let x = a k n s1 in let y = b (shown start pt k) x.next x.sources in
    let nones = none_both (of_pattern w.constructors pt) (c w 0 ++ (d (known.under pt w) 0 ++ [])) none in
    let both = none_both (c w 0) (d (known.under pt w) 0 ++ []) nones.1 in
    let last = none_both (d (known.under pt w) 0) [] both.1 in
    let stands = stand_both us (under pt ts ++ []) stand in let inner = stand_both (under pt ts) [] stands.1 in
    let fits = first w k vs 0 n s1 agree sees both.0 stands.0 in
    let is = part_of vs (place_of e) p n (length s1) x.value x.next (length x.sources) fits in
    let at = place_is vs (place_of e) p n (length s1) x.value x.next (length x.sources) fits in
    let more = under_fits p r b d ts pt start second w k vs x.next x.sources agree sees last.0 (stand_under pt ts inner.0) in
    let written1 = let_same e (part p x.value) pt start t (part p y.value) at ∙ written in
    fits_whole vs p o n start (tree y.next p (form.match_on (part p x.value) (more_cases (numbered start pt) (part p y.value) no_cases))) (suc y.next) (length y.sources)
    (let_match_node vs n start (length s1) x.next (length x.sources) y.next (length y.sources) p (numbered start pt) (part p x.value) (part p y.value) written1 (pattern_spans s pt) is more) refl
