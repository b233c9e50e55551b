-- What holds of the path of a search, as it grows and goes back.
use Rattle.std.proofs.Common.{◌≡◌, ℕ, zero, suc, pos, inl, inr, ◌⊎◌, List, [], ◌∷◌, ◌++◌, All, Bool, true, false, Some, map, set, slice_get, refl, sym, ap, ap₂, subst, ◌∙◌}
use Rattle.std.proofs.lemmas.List.Elements.{All-append, All-cons, All-head, All-nil, All-tail}
use Rattle.std.proofs.lemmas.List.{map-append}
use Rattle.lq_prover_case.specs.State.PathState.{PathState, facts_by, facts_in, facts_of as steps_facts, objects_by, objects_from, objects_in}
use Rattle.lq_prover_case.specs.declared.state.state.Kind.{Kind}
use Rattle.lq_prover_case.specs.declared.state.state.Kind.TheVariants.{Row as row_kind, Flag, Same}
use Rattle.lq_prover_case.specs.declared.state.state.Step.{Step}
use Rattle.lq_prover_proof_tree.specs.Trees.Met.{AllChosen, AllHold, MeetsPath}
use Rattle.lq_prover_proof_tree.specs.Trees.Path.{Fact, row_fact, flag_fact, objects_fact, never, Path, nothing, taken}
use Rattle.lq_prover_proof_tree.proofs.TreesLemmas.Meeting.{taken_meets}
use Rattle.lq_prover_case.specs.Equations.Equating.{AddsEquations, equation_fact}
use Rattle.lq_prover_case.specs.Equations.Naming.{AllTold, IsTold, name_in}
use Rattle.lq_logic_rows.specs.Contradiction.{Tagged}
use Rattle.lq_logic_rows.specs.Row.{Row, Valuation}
use Rattle.lq_prover_case.specs.declared.objects.fact.ObjectFact.{ObjectFact}
use Rattle.lq_prover_search.specs.Path.SearchPath.{SameLimits, choices_of}
use Rattle.lq_prover_search.specs.declared.path.choice.Choice.{Choice}
use Rattle.lq_logic_predicates.specs.NnfView.{nnfs_view}
use Rattle.lq_logic_predicates.specs.Points.{Point}
use Rattle.lq_logic_predicates.specs.Reading.{Reading, Readings}
use Rattle.lq_logic_predicates.specs.RowMeaning.{MeetsAnyRow, MeetsRows}
use Rattle.lq_logic_predicates.specs.Sum.{Sum, whole}
use Rattle.lq_prover_search.proofs.PruningLemmas.Taking as taking
use Rattle.lq_prover_search.specs.Search.Parts.{AddsOpen, facts_of as part_facts, path_by}
use Rattle.lq_prover_search.specs.Search.Scope.{AllMayHold, AreWithin, IsWithin, Scope}
use Rattle.lq_prover_search.specs.Search.SearchPath.{AreAllOpen, AreMet, IsBack, IsCovered, IsMet, IsReady, IsReadyFor, IsReadyForAny, IsReadyWhen, IsTaken, facts_of, path_of}
use Rattle.lq_prover_search.specs.Search.Splits.{IsDoneOrMet}
use Rattle.lq_prover_search.specs.declared.search.pair.Pair.{Pair}
use Rattle.lq_prover_search.specs.declared.search.parts.Part.{Part}
use Rattle.lq_prover_search.specs.declared.search.search_path.SearchPath.{SearchPath}
use Rattle.lq_prover_search.proofs.SearchLemmas.Weights.{with_done}
use Rattle.lq_prover_search.proofs.SearchLemmas.Within.{All-left, All-right, All-unmap, choices_within, may_hold-append}

-- ---- facts about objects are read off the facts, over a naming of objects by their numbers

number_name : ℕ → Sum
number_name k = whole (pos k)

abbrev number_of : Sum → ℕ
number_of (whole (pos k)) = k
number_of _ = 0

abbrev told_by : Fact → ℕ → List ObjectFact → List ObjectFact
told_by (objects_fact a b one) n others = record { left = number_of a; right = number_of b; one = one; number = n } ∷ others
told_by (row_fact r) n others = others
told_by (flag_fact x value) n others = others
told_by never n others = others

abbrev told_from : ℕ → List Fact → List ObjectFact
told_from n [] = []
told_from n (f ∷ fs) = told_by f n (told_from (suc n) fs)

objects_read : (n : ℕ) (steps : List Step) (rows : Tagged) → told_from n (steps_facts number_name steps rows) ≡ objects_from n steps
unfolding number_name
objects_read n [] rows = refl
objects_read n (s ∷ steps) rows = by s.kind rows (objects_read (suc n) steps)
  where
    by : (k : Kind) (rows : Tagged) → ((rows : Tagged) → told_from (suc n) (steps_facts number_name steps rows) ≡ objects_from (suc n) steps)
        → told_from n (facts_by number_name k (steps_facts number_name steps) rows) ≡ objects_by k n (objects_from (suc n) steps)
    by (Flag x value) rows h = h rows
    by (Same a b one) rows h = ap (λ l. record { left = a; right = b; one = one; number = n } ∷ l) (h rows)
    by row_kind [] h = h []
    by row_kind (r ∷ rows) h = h rows

pub objects_back : (s t : PathState) → ((name : ℕ → Sum) → facts_in name t ≡ facts_in name s) → objects_in t ≡ objects_in s
objects_back s t h = sym (objects_read 1 t.steps t.rows.rows) ∙ ap (told_from 1) (h number_name) ∙ objects_read 1 s.steps s.rows.rows

-- ---- back

pub ready_back : (given : Valuation → Point → Type 0) (s : Scope) (pairs : List Pair) (p q : SearchPath) → IsReadyWhen given s pairs p → IsBack p q → IsReadyWhen given s pairs q
ready_back given s pairs p q r b =
    let facts : facts_of s q ≡ facts_of s p = b.facts (name_in s.objects) in
    let about : objects_in q.state ≡ objects_in p.state = objects_back p.state q.state b.facts in record {
      terms_are = b.limits.0 ∙ r.terms_are;
      count = b.limits.2 ∙ r.count;
      may_hold = subst AllMayHold (sym facts) r.may_hold;
      choices_in = subst (All (λ (c : Choice). AreWithin s (nnfs_view c.members.now))) (sym b.choices_are) r.choices_in;
      pairs_are = ap choices_of b.pairs_are ∙ r.pairs_are;
      told = subst (λ l. AllTold s.objects l (facts_of s q)) (sym about) (subst (AllTold s.objects (objects_in p.state)) (sym facts) r.told);
      covered = subst (λ l. IsCovered given l q.choices.items q.pairs.items) (sym facts)
          (subst (λ l. IsCovered given (facts_of s p) l q.pairs.items) (sym b.choices_are) (subst (IsCovered given (facts_of s p) p.choices.items) (sym b.pairs_are) r.covered));
    }

-- ---- more facts

pub hold-left : (v : Valuation) (p : Point) (xs ys : List Fact) → AllHold v p (xs ++ ys) → AllHold v p xs
hold-left v p [] ys h = tt
hold-left v p (x ∷ xs) ys h = (h.0, hold-left v p xs ys h.1)

pub hold-right : (v : Valuation) (p : Point) (xs ys : List Fact) → AllHold v p (xs ++ ys) → AllHold v p ys
hold-right v p [] ys h = h
hold-right v p (x ∷ xs) ys h = hold-right v p xs ys h.1

equations_hold : (pairs : List (ℕ × ℕ)) → AllMayHold (map equation_fact pairs)
equations_hold [] = tt
equations_hold (p ∷ pairs) = (tt, equations_hold pairs)

equations_told : (objects : List Sum) (about : List ObjectFact) (fs : List Fact) (pairs : List (ℕ × ℕ)) → AllTold objects about fs → AllTold objects about (fs ++ map equation_fact pairs)
equations_told objects about [] [] h k f e = cc
equations_told objects about [] (p ∷ pairs) h zero f e = let same : equation_fact p ≡ f = cc in subst (IsTold objects about) same tt
equations_told objects about [] (p ∷ pairs) h (suc k) f e = equations_told objects about [] pairs h k f e
equations_told objects about (x ∷ fs) pairs h zero f e = h zero f e
equations_told objects about (x ∷ fs) pairs h (suc k) f e = equations_told objects about fs pairs (λ j. h (suc j)) k f e

-- equations of lengths and measures are put behind the facts
pub record IsEquatedFrom (s : Scope) (p q : SearchPath) : Type 0 where
  pub adds : AddsEquations s.terms (facts_of s p) (facts_of s q)
  pub about : objects_in q.state ≡ objects_in p.state
  pub limits : SameLimits q.state p.state
  pub choices_are : q.choices.items ≡ p.choices.items
  pub pairs_are : q.pairs.items ≡ p.pairs.items

pub ready_equated : (s : Scope) (pairs : List Pair) (p q : SearchPath) → IsReady s pairs p → IsEquatedFrom s p q → IsReady s pairs q
ready_equated s pairs p q r e = record {
  terms_are = e.limits.0 ∙ r.terms_are;
  count = e.limits.2 ∙ r.count;
  may_hold = subst AllMayHold (sym e.adds.is) (may_hold-append (facts_of s p) (map equation_fact e.adds.pairs) r.may_hold (equations_hold e.adds.pairs));
  choices_in = subst (All (λ (c : Choice). AreWithin s (nnfs_view c.members.now))) (sym e.choices_are) r.choices_in;
  pairs_are = ap choices_of e.pairs_are ∙ r.pairs_are;
  told = subst (λ l. AllTold s.objects l (facts_of s q)) (sym e.about)
      (subst (AllTold s.objects (objects_in p.state)) (sym e.adds.is) (equations_told s.objects (objects_in p.state) (facts_of s p) e.adds.pairs r.told));
  covered = λ v x g h. subst (λ l. All (IsDoneOrMet v x) l → All (IsDoneOrMet v x) q.pairs.items → AreMet v x l q.pairs.items) (sym e.choices_are)
      (subst (λ l. All (IsDoneOrMet v x) p.choices.items → All (IsDoneOrMet v x) l → AreMet v x p.choices.items l) (sym e.pairs_are)
      (r.covered v x g (hold-left v x (facts_of s p) (map equation_fact e.adds.pairs) (subst (AllHold v x) e.adds.is h))));
}

-- ---- a choice is marked

some_same : {X : Type 0} (x y : X) → Some x ≡ Some y → x ≡ y
some_same {X} x y e = cc

-- who meets a member is where the choice needn't be marked
pub unmarked : (v : Valuation) (p : Point) (cs : List Choice) (at : ℕ) (c : Choice) (b : Bool) → slice_get cs at ≡ Some c → IsMet v p c
    → All (IsDoneOrMet v p) (set cs at (with_done c b)) → All (IsDoneOrMet v p) cs
unmarked v p [] at c b e m h = cc
unmarked v p (d ∷ cs) zero c b e m h =
    All-cons (IsDoneOrMet v p) d cs (inr (subst (IsMet v p) (some_same c d (sym e)) m)) (All-tail (IsDoneOrMet v p) (with_done c b) cs h)
unmarked v p (d ∷ cs) (suc at) c b e m h =
    All-cons (IsDoneOrMet v p) d cs (All-head (IsDoneOrMet v p) d (set cs at (with_done c b)) h)
    (unmarked v p cs at c b e m (All-tail (IsDoneOrMet v p) d (set cs at (with_done c b)) h))

-- a mark changes no members
pub marked_members : (cs : List Choice) (at : ℕ) (c : Choice) (b : Bool) → slice_get cs at ≡ Some c → choices_of (set cs at (with_done c b)) ≡ choices_of cs
marked_members [] at c b e = cc
marked_members (d ∷ cs) zero c b e = ap (λ (x : Choice). nnfs_view x.members.now ∷ choices_of cs) (some_same c d (sym e))
marked_members (d ∷ cs) (suc at) c b e = ap (λ l. nnfs_view d.members.now ∷ l) (marked_members cs at c b e)

-- what is said of members alone
pub by_members : (P : Readings Row → Type 0) (xs ys : List Choice) → choices_of ys ≡ choices_of xs → All (λ (c : Choice). P (nnfs_view c.members.now)) xs
    → All (λ (c : Choice). P (nnfs_view c.members.now)) ys
by_members P [] [] e h = All-nil (λ (c : Choice). P (nnfs_view c.members.now))
by_members P [] (y ∷ ys) e h = cc
by_members P (x ∷ xs) [] e h = cc
by_members P (x ∷ xs) (y ∷ ys) e h =
    All-cons (λ (c : Choice). P (nnfs_view c.members.now)) y ys
    (subst P (sym (heads (nnfs_view y.members.now) (nnfs_view x.members.now) (choices_of ys) (choices_of xs) e)) (All-head (λ (c : Choice). P (nnfs_view c.members.now)) x xs h))
    (by_members P xs ys (tails (nnfs_view y.members.now) (nnfs_view x.members.now) (choices_of ys) (choices_of xs) e) (All-tail (λ (c : Choice). P (nnfs_view c.members.now)) x xs h))
  where
    heads : (a b : Readings Row) (ls ms : List (Readings Row)) → (a ∷ ls) ≡ (b ∷ ms) → a ≡ b
    heads a b ls ms e = cc

    tails : (a b : Readings Row) (ls ms : List (Readings Row)) → (a ∷ ls) ≡ (b ∷ ms) → ls ≡ ms
    tails a b ls ms e = cc

-- the same facts, and the choice at a place is marked
pub ready_marked : (s : Scope) (pairs : List Pair) (p q : SearchPath) (at : ℕ) (c : Choice) → IsReady s pairs p → q.state ≡ p.state → slice_get p.choices.items at ≡ Some c
    → q.choices.items ≡ set p.choices.items at (with_done c true) → q.pairs.items ≡ p.pairs.items → IsReadyForAny (nnfs_view c.members.now) s pairs q
ready_marked s pairs p q at c r st here is same = record {
  terms_are = ap (λ (x : PathState). x.rows.distances.terms) st ∙ r.terms_are;
  count = ap (λ (x : PathState). x.objects.count) st ∙ r.count;
  may_hold = subst (λ x. AllMayHold (facts_in (name_in s.objects) x)) (sym st) r.may_hold;
  choices_in = by_members (AreWithin s) p.choices.items q.choices.items members r.choices_in;
  pairs_are = ap choices_of same ∙ r.pairs_are;
  told = subst (λ x. AllTold s.objects (objects_in x) (facts_in (name_in s.objects) x)) (sym st) r.told;
  covered = λ v x m h d e.
      let hold = subst (λ y. AllHold v x (facts_in (name_in s.objects) y)) st h in
      let met = r.covered v x tt hold (unmarked v x p.choices.items at c true here m (subst (All (IsDoneOrMet v x)) is d)) (subst (All (IsDoneOrMet v x)) same e) in
      record { choices_are = by_members (MeetsAnyRow v x) p.choices.items q.choices.items members met.choices_are; pairs_are = subst (All (IsMet v x)) (sym same) met.pairs_are };
}
  where
    members : choices_of q.choices.items ≡ choices_of p.choices.items
    members = ap choices_of is ∙ marked_members p.choices.items at c true here

pub ready_pair_marked : (s : Scope) (pairs : List Pair) (p q : SearchPath) (at : ℕ) (c : Choice) → IsReady s pairs p → q.state ≡ p.state → slice_get p.pairs.items at ≡ Some c
    → q.pairs.items ≡ set p.pairs.items at (with_done c true) → q.choices.items ≡ p.choices.items → IsReadyForAny (nnfs_view c.members.now) s pairs q
ready_pair_marked s pairs p q at c r st here is same = record {
  terms_are = ap (λ (x : PathState). x.rows.distances.terms) st ∙ r.terms_are;
  count = ap (λ (x : PathState). x.objects.count) st ∙ r.count;
  may_hold = subst (λ x. AllMayHold (facts_in (name_in s.objects) x)) (sym st) r.may_hold;
  choices_in = subst (All (λ (c : Choice). AreWithin s (nnfs_view c.members.now))) (sym same) r.choices_in;
  pairs_are = members ∙ r.pairs_are;
  told = subst (λ x. AllTold s.objects (objects_in x) (facts_in (name_in s.objects) x)) (sym st) r.told;
  covered = λ v x m h d e.
      let hold = subst (λ y. AllHold v x (facts_in (name_in s.objects) y)) st h in
      let met = r.covered v x tt hold (subst (All (IsDoneOrMet v x)) same d) (unmarked v x p.pairs.items at c true here m (subst (All (IsDoneOrMet v x)) is e)) in
      record { choices_are = subst (All (IsMet v x)) (sym same) met.choices_are; pairs_are = by_members (MeetsAnyRow v x) p.pairs.items q.pairs.items members met.pairs_are };
}
  where
    members : choices_of q.pairs.items ≡ choices_of p.pairs.items
    members = ap choices_of is ∙ marked_members p.pairs.items at c true here

-- a mark that is taken back
pub set_back : (cs : List Choice) (at : ℕ) (c d : Choice) → slice_get cs at ≡ Some c → slice_get (set cs at (with_done c true)) at ≡ Some d → c.is_done ≡ false
    → set (set cs at (with_done c true)) at (with_done d false) ≡ cs
set_back [] at c d e f h = cc
set_back (x ∷ cs) zero c d e f h =
    ap (λ (y : Choice). y ∷ cs) (ap (λ (y : Choice). with_done y false) (some_same d (with_done c true) (sym f)) ∙ sym (ap (with_done c) h) ∙ some_same c x (sym e))
set_back (x ∷ cs) (suc at) c d e f h = ap (λ l. x ∷ l) (set_back cs at c d e f h)

-- ---- a reading is taken

-- what a reading added to a path
pub record IsTakenFrom (s : Scope) (r : Reading Row) (p q : SearchPath) : Type 0 where
  pub parts : List Part
  pub facts : facts_of s q ≡ facts_of s p ++ part_facts parts
  pub may_hold : AllMayHold (part_facts parts)
  pub path : path_by parts q.choices.items ≡ taken (path_by [] p.choices.items) r
  pub adds : AddsOpen p.choices.items q.choices.items
  pub pairs_are : q.pairs.items ≡ p.pairs.items
  pub told : AllTold s.objects (objects_in q.state) (facts_of s q)
  pub limits : SameLimits q.state p.state

cancel : {X : Type 0} (xs ys zs : List X) → xs ++ ys ≡ xs ++ zs → ys ≡ zs
cancel {X} [] ys zs e = e
cancel {X} (x ∷ xs) ys zs e = cancel xs ys zs (let h : (x ∷ (xs ++ ys)) ≡ (x ∷ (xs ++ zs)) = e in cc)

pub taken_facts : (s : Scope) (r : Reading Row) (p q : SearchPath) (t : IsTakenFrom s r p q) → part_facts t.parts ≡ taking.facts_of r
taken_facts s r p q t = ap (λ (x : Path). x.facts) (t.path ∙ taking.taken_is (path_by [] p.choices.items) r)

pub taken_choices : (s : Scope) (r : Reading Row) (p q : SearchPath) (t : IsTakenFrom s r p q) → choices_of t.adds.more ≡ taking.choices_of r
taken_choices s r p q t =
    cancel (choices_of p.choices.items) (choices_of t.adds.more) (taking.choices_of r)
    (sym (map-append (λ (c : Choice). nnfs_view c.members.now) p.choices.items t.adds.more) ∙ ap choices_of (sym t.adds.is)
    ∙ ap (λ (x : Path). x.choices) (t.path ∙ taking.taken_is (path_by [] p.choices.items) r))

pub taken_path : (s : Scope) (r : Reading Row) (p q : SearchPath) → IsTakenFrom s r p q → path_of s q ≡ taken (path_of s p) r
taken_path s r p q t =
    ap₂ (λ f c. record { facts = f; choices = c }) (t.facts ∙ ap (λ l. facts_of s p ++ l) (taken_facts s r p q t))
    (ap choices_of t.adds.is ∙ map-append (λ (c : Choice). nnfs_view c.members.now) p.choices.items t.adds.more ∙ ap (λ l. choices_of p.choices.items ++ l) (taken_choices s r p q t))
    ∙ sym (taking.taken_is (path_of s p) r)

pub is_taken : (s : Scope) (r : Reading Row) (p q : SearchPath) → IsTakenFrom s r p q → IsTaken s r p q
is_taken s r p q t = record { path = taken_path s r p q t; adds = t.adds; pairs_are = t.pairs_are; limits = t.limits }

pub new_facts : (s : Scope) (r : Reading Row) (p q : SearchPath) → IsTaken s r p q → facts_of s q ≡ facts_of s p ++ taking.facts_of r
new_facts s r p q t = ap (λ (x : Path). x.facts) (t.path ∙ taking.taken_is (path_of s p) r)

pub new_choices : (s : Scope) (r : Reading Row) (p q : SearchPath) (t : IsTaken s r p q) → choices_of t.adds.more ≡ taking.choices_of r
new_choices s r p q t =
    cancel (choices_of p.choices.items) (choices_of t.adds.more) (taking.choices_of r)
    (sym (map-append (λ (c : Choice). nnfs_view c.members.now) p.choices.items t.adds.more) ∙ ap choices_of (sym t.adds.is)
    ∙ ap (λ (x : Path). x.choices) (t.path ∙ taking.taken_is (path_of s p) r))

pub open_met : (v : Valuation) (p : Point) (cs : List Choice) → All (λ (c : Choice). c.is_done ≡ false) cs → All (IsDoneOrMet v p) cs → All (IsMet v p) cs
open_met v p [] o h = All-nil (IsMet v p)
open_met v p (c ∷ cs) o h =
    All-cons (IsMet v p) c cs (by c.is_done (All-head (λ (x : Choice). x.is_done ≡ false) c cs o) (All-head (IsDoneOrMet v p) c cs h))
    (open_met v p cs (All-tail (λ (x : Choice). x.is_done ≡ false) c cs o) (All-tail (IsDoneOrMet v p) c cs h))
  where
    by : (b : Bool) → b ≡ false → (b ≡ true) ⊎ IsMet v p c → IsMet v p c
    by true e d = cc
    by false e (inl f) = cc
    by false e (inr m) = m

pub chosen : (v : Valuation) (p : Point) (cs : List Choice) → All (IsMet v p) cs → AllChosen v p (choices_of cs)
chosen v p [] h = tt
chosen v p (c ∷ cs) h = (All-head (IsMet v p) c cs h, chosen v p cs (All-tail (IsMet v p) c cs h))

pub ready_taken : (s : Scope) (pairs : List Pair) (r : Reading Row) (p q : SearchPath) → IsReadyFor r s pairs p → IsWithin s r → IsTakenFrom s r p q → IsReady s pairs q
ready_taken s pairs r p q ready within t = record {
  terms_are = t.limits.0 ∙ ready.terms_are;
  count = t.limits.2 ∙ ready.count;
  may_hold = subst AllMayHold (sym t.facts) (may_hold-append (facts_of s p) (part_facts t.parts) ready.may_hold t.may_hold);
  choices_in = subst (All (λ (c : Choice). AreWithin s (nnfs_view c.members.now))) (sym t.adds.is)
      (All-append (λ (c : Choice). AreWithin s (nnfs_view c.members.now)) p.choices.items t.adds.more ready.choices_in
      (All-unmap (AreWithin s) (λ (c : Choice). nnfs_view c.members.now) t.adds.more (subst (All (AreWithin s)) (sym (taken_choices s r p q t)) (choices_within s r within))));
  pairs_are = ap choices_of t.pairs_are ∙ ready.pairs_are;
  told = t.told;
  covered = λ v x g h d e.
      let hold = subst (AllHold v x) t.facts h in
      let parts_hold = subst (AllHold v x) (taken_facts s r p q t) (hold-right v x (facts_of s p) (part_facts t.parts) hold) in
      let done = subst (All (IsDoneOrMet v x)) t.adds.is d in
      let more_met = open_met v x t.adds.more t.adds.open_still (All-right (IsDoneOrMet v x) p.choices.items t.adds.more done) in
      let more_chosen = subst (AllChosen v x) (taken_choices s r p q t) (chosen v x t.adds.more more_met) in
      let path : MeetsPath v x (taking.path_with nothing (taking.facts_of r) (taking.choices_of r)) = record { facts = parts_hold; choices = more_chosen } in
      let reading : MeetsRows v x r = (taken_meets v x nothing r (subst (MeetsPath v x) (sym (taking.taken_is nothing r)) path)).1 in
      let met = ready.covered v x reading (hold-left v x (facts_of s p) (part_facts t.parts) hold) (All-left (IsDoneOrMet v x) p.choices.items t.adds.more done)
      (subst (All (IsDoneOrMet v x)) t.pairs_are e) in
      record {
        choices_are = subst (All (IsMet v x)) (sym t.adds.is) (All-append (IsMet v x) p.choices.items t.adds.more met.choices_are more_met);
        pairs_are = subst (All (IsMet v x)) (sym t.pairs_are) met.pairs_are;
      };
}

-- ---- what was taken is open again

-- the facts are as before, the choices and pairs have the same members, and none was taken
pub record IsReopened (p q : SearchPath) : Type 0 where
  pub facts : (name : ℕ → Sum) → facts_in name q.state ≡ facts_in name p.state
  pub choices_are : choices_of q.choices.items ≡ choices_of p.choices.items
  pub pairs_are : choices_of q.pairs.items ≡ choices_of p.pairs.items
  pub open_still : AreAllOpen q
  pub limits : SameLimits q.state p.state

pub ready_reopened : (s : Scope) (pairs : List Pair) (p q : SearchPath) → IsReady s pairs p → IsReopened p q → IsReady s pairs q
ready_reopened s pairs p q r b =
    let facts : facts_of s q ≡ facts_of s p = b.facts (name_in s.objects) in
    let about : objects_in q.state ≡ objects_in p.state = objects_back p.state q.state b.facts in record {
      terms_are = b.limits.0 ∙ r.terms_are;
      count = b.limits.2 ∙ r.count;
      may_hold = subst AllMayHold (sym facts) r.may_hold;
      choices_in = by_members (AreWithin s) p.choices.items q.choices.items b.choices_are r.choices_in;
      pairs_are = b.pairs_are ∙ r.pairs_are;
      told = subst (λ l. AllTold s.objects l (facts_of s q)) (sym about) (subst (AllTold s.objects (objects_in p.state)) (sym facts) r.told);
      covered = λ v x g h d e.
          record { choices_are = open_met v x q.choices.items b.open_still.choices_are d; pairs_are = open_met v x q.pairs.items b.open_still.pairs_are e };
    }
