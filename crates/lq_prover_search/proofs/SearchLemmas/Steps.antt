-- The steps of a search, from one path to the next.
use Rattle.std.proofs.Common.{◌≡◌, ◌∙◌, ℕ, zero, suc, ◌+◌, ◌<◌, ◌≤◌, Result, Ok, Err, Option, Some, None, IfOk, OnSome, List, [], ◌∷◌, ◌++◌, All, true, false, get_or, length, set, slice_get, take, refl, sym, ap, ap₂, subst, arith}
use Rattle.std.proofs.lemmas.List.Elements.{All-head, All-tail}
use Rattle.std.proofs.lemmas.List.{take_all}
use Rattle.lq_prover_case.specs.State.PathState.{facts_in}
use Rattle.lq_prover_proof_tree.specs.Trees.Path.{Path, taken}
use Rattle.lq_prover_proof_tree.specs.Trees.Proves.{Numbering, Proves, ProvesEach}
use Rattle.lq_prover_proof_tree.specs.Trees.Tree.{Tree, Trees}
use Rattle.lq_prover_case.specs.Equations.Equating.{Grows}
use Rattle.lq_prover_case.specs.Equations.Naming.{AllBelow, HasAllSides, name_in}
use Rattle.lq_logic_rows.specs.Row.{Row, Valuation}
use Rattle.lq_prover_search.specs.Path.SearchPath.{IsLeafOf, choices_of}
use Rattle.lq_prover_search.specs.declared.path.choice.Choice.{Choice}
use Rattle.lq_prover_search.proofs.PathLemmas.Leaves.{begins_then, taken_begins}
use Rattle.lq_prover_search.proofs.PathLemmas.Readings.{row_of, some_met, view_items}
use Rattle.lq_logic_predicates.specs.NnfView.{nnf_items, nnf_view, nnfs_view}
use Rattle.lq_logic_predicates.specs.Points.{Point}
use Rattle.lq_logic_predicates.specs.Reading.{Reading, Readings}
use Rattle.lq_logic_predicates.specs.RowMeaning.{MeetsAnyRow, MeetsRows}
use Rattle.lq_logic_predicates.specs.Sum.{Sum}
use Rattle.lq_logic_predicates.specs.declared.nnf.Nnf.{Nnf}
use Rattle.lq_logic_predicates.specs.declared.nnf.Nnfs.{Nnfs}
use Rattle.lq_prover_search.proofs.PruningLemmas.Taking as taking
use Rattle.lq_prover_search.specs.Search.Parts.{facts_of as part_facts, path_by, path_with}
use Rattle.lq_prover_search.specs.Search.Scope.{IsWithin, Scope}
use Rattle.lq_prover_search.specs.Search.SearchPath.{EndsMet, IsBack, IsLonger, IsReadyFor, IsReadyForAny, IsReadyWhen, IsTaken, SetsDone, path_of, ways_of}
use Rattle.lq_prover_search.specs.declared.search.pair.Pair.{Pair}
use Rattle.lq_prover_search.specs.declared.search.parts.Part.{Part}
use Rattle.lq_prover_search.specs.declared.search.search_path.SearchPath.{SearchPath}
use Rattle.lq_prover_search.proofs.SearchLemmas.Nodes.{leaf_proves}
use Rattle.lq_prover_search.proofs.SearchLemmas.Ready.{marked_members, new_choices, ready_back, set_back}
use Rattle.lq_prover_search.proofs.SearchLemmas.Weights.{added_weight, all_weights, item_weight, left, total, total-append, total-open, weight, weights, with_done}
use Rattle.lq_prover_search.proofs.SearchLemmas.Within.{all_below, all_sides, facts_within}

-- ---- back

pub back_itself : (p : SearchPath) → IsBack p p
back_itself p = record { facts = λ name. refl; choices_are = refl; pairs_are = refl; limits = (refl, refl, refl) }

pub back_then : (p q r : SearchPath) → IsBack p q → IsBack q r → IsBack p r
back_then p q r a b = record {
  facts = λ name. b.facts name ∙ a.facts name;
  choices_are = b.choices_are ∙ a.choices_are;
  pairs_are = b.pairs_are ∙ a.pairs_are;
  limits = (b.limits.0 ∙ a.limits.0, b.limits.1 ∙ a.limits.1, b.limits.2 ∙ a.limits.2);
}

pub path_back : (s : Scope) (p q : SearchPath) → IsBack p q → path_of s q ≡ path_of s p
path_back s p q b = ap₂ (λ f c. record { facts = f; choices = c }) (b.facts (name_in s.objects)) (ap choices_of b.choices_are)

pub left_back : (p q : SearchPath) → IsBack p q → left q ≡ left p
left_back p q b = ap₂ (λ x y. total x + total y) b.choices_are b.pairs_are

pub ends_at : (s : Scope) (pairs : List Pair) (p q : Path) (r : SearchPath) → p ≡ q → EndsMet s pairs p r → EndsMet s pairs q r
ends_at s pairs p q r e h = subst (λ x. EndsMet s pairs x r) e h

pub ends_before : (s : Scope) (pairs : List Pair) (p : Path) (r : Reading Row) (q : SearchPath) → EndsMet s pairs (taken p r) q → EndsMet s pairs p q
ends_before s pairs p r q h = record { begins = begins_then p (taken p r) (path_of s q) (taken_begins p r) h.begins; settled = h.settled }

-- ---- a member

pub ready_given : (given other : Valuation → Point → Type 0) (s : Scope) (pairs : List Pair) (p : SearchPath) → ((v : Valuation) (q : Point) → other v q → given v q)
    → IsReadyWhen given s pairs p → IsReadyWhen other s pairs p
ready_given given other s pairs p f r = record {
  terms_are = r.terms_are;
  count = r.count;
  may_hold = r.may_hold;
  choices_in = r.choices_in;
  pairs_are = r.pairs_are;
  told = r.told;
  covered = λ v q h. r.covered v q (f v q h);
}

pub member_inside : (members : Nnfs) (items : List Nnf) (i : ℕ) → items ≡ nnf_items members → i < length items → i < length (nnf_items members)
member_inside members items i e l = subst (λ x. i < length x) e l

pub member_is : (members : Nnfs) (items : List Nnf) (i : ℕ) (n : Nnf) → items ≡ nnf_items members → n ≡ get_or items i n → n ≡ get_or (nnf_items members) i n
member_is members items i n e is = is ∙ ap (λ l. get_or l i n) e

pub member_weight : (members : Nnfs) (items : List Nnf) (i : ℕ) (n : Nnf) → items ≡ nnf_items members → i < length items → n ≡ get_or items i n
    → weight (nnf_view n) ≤ weights (nnfs_view members)
member_weight members items i n e l is =
    subst (λ m. weight (nnf_view m) ≤ weights (nnfs_view members)) (sym (member_is members items i n e is))
    (subst (λ r. weight (nnf_view (get_or (nnf_items members) i n)) ≤ weights r) (sym (view_items members)) (item_weight (nnf_items members) i n (member_inside members items i e l)))

pub ready_member : (s : Scope) (pairs : List Pair) (p q : SearchPath) (members : Nnfs) (items : List Nnf) (i : ℕ) (n : Nnf) → items ≡ nnf_items members → i < length items
    → n ≡ get_or items i n → IsReadyForAny (nnfs_view members) s pairs p → IsBack p q → IsReadyFor (nnf_view n) s pairs q
ready_member s pairs p q members items i n e l is r b =
    ready_back (λ v x. MeetsRows v x (nnf_view n)) s pairs p q
    (ready_given (λ v x. MeetsAnyRow v x (nnfs_view members)) (λ v x. MeetsRows v x (nnf_view n)) s pairs p
    (λ v x h. subst (MeetsAnyRow v x) (sym (view_items members))
    (some_met v x (nnf_items members) i n (member_inside members items i e l) (subst (λ m. MeetsRows v x (nnf_view m)) (member_is members items i n e is) h)))
    r) b

pub all_members : (n : Numbering) (p : Path) (members : Nnfs) (items : List Nnf) (i : ℕ) (trees : Trees) → items ≡ nnf_items members → length items ≤ i
    → ProvesEach n p (row_of (take i items)) trees → ProvesEach n p (nnfs_view members) trees
all_members n p members items i trees e l h =
    subst (λ rs. ProvesEach n p rs trees) (ap row_of (take_all i items l ∙ e) ∙ sym (view_items members)) h

-- ---- a reading is taken

pub left_taken : (s : Scope) (r : Reading Row) (p q : SearchPath) → IsTaken s r p q → left q ≡ left p + weight r
left_taken s r p q t =
    let a = ap total t.adds.is in
    let b = total-append p.choices.items t.adds.more in
    let c = total-open t.adds.more t.adds.open_still in
    let d = ap all_weights (new_choices s r p q t) in
    let e = added_weight r in
    let f = ap total t.pairs_are in omega (arith, a, b, c, d, e, f)

-- the literals that a reading adds
pub parts_are : (r : Reading Row) (start parts : List Part) (old new : List Choice) → start ≡ [] → path_by parts new ≡ taken (path_by start old) r → part_facts parts ≡ taking.facts_of r
parts_are r start parts old new e h = ap (λ (x : Path). x.facts) (h ∙ ap (λ l. taken (path_by l old) r) e ∙ taking.taken_is (path_by [] old) r)

pub parts_sides : (s : Scope) (r : Reading Row) (parts : List Part) → IsWithin s r → part_facts parts ≡ taking.facts_of r → HasAllSides s.objects (part_facts parts)
parts_sides s r parts w e = subst (HasAllSides s.objects) (sym e) (all_sides s (taking.facts_of r) (facts_within s r w))

pub parts_below : (s : Scope) (r : Reading Row) (parts : List Part) (n : ℕ) → n ≡ length s.terms → IsWithin s r → part_facts parts ≡ taking.facts_of r → AllBelow n (part_facts parts)
parts_below s r parts n k w e = subst (λ m. AllBelow m (part_facts parts)) (sym k) (subst (AllBelow (length s.terms)) (sym e) (all_below s (taking.facts_of r) (facts_within s r w)))

pub leaf_taken : (n : Numbering) (p : Path) (r : Reading Row) (parts : List Part) (t : Tree) → part_facts parts ≡ taking.facts_of r
    → ((choices : List (Readings Row)) → IsLeafOf (path_with (p.facts ++ part_facts parts) choices) t) → Proves n (taken p r) t
leaf_taken n p r parts t e h =
    leaf_proves n (taken p r) t
    (subst (λ x. IsLeafOf x t) (sym (taking.taken_is p r))
    (subst (λ f. IsLeafOf (path_with (p.facts ++ f) (p.choices ++ taking.choices_of r)) t) e (h (p.choices ++ taking.choices_of r))))

pub longer_back : (s : Scope) (r : Reading Row) (p q x : SearchPath) → IsTaken s r p q → ((name : ℕ → Sum) → Grows (facts_in name p.state) (facts_in name q.state)) → IsBack q x → IsLonger p x
longer_back s r p q x t g b = record {
  facts = λ name. subst (Grows (facts_in name p.state)) (sym (b.facts name)) (g name);
  more = t.adds.more;
  choices_are = b.choices_are ∙ t.adds.is;
  pairs_are = b.pairs_are ∙ t.pairs_are;
  limits = (b.limits.0 ∙ t.limits.0, b.limits.1 ∙ t.limits.1, b.limits.2 ∙ t.limits.2);
}

pub if_ok_some : {X E : Type 0} {P Q : Type 0} (r : Result (Option X) E) → (P → Q) → IfOk r (λ found. OnSome found P) → IfOk r (λ found. OnSome found Q)
if_ok_some {X} {E} {P} {Q} (Ok (Some x)) f h = f h
if_ok_some {X} {E} {P} {Q} (Ok None) f h = tt
if_ok_some {X} {E} {P} {Q} (Err e) f h = tt

-- ---- a mark

pub choice_at : (P : Choice → Type 0) (cs : List Choice) (at : ℕ) (c : Choice) → All P cs → slice_get cs at ≡ Some c → P c
choice_at P [] at c h e = cc
choice_at P (x ∷ cs) zero c h e = let same : x ≡ c = cc in subst P same (All-head P x cs h)
choice_at P (x ∷ cs) (suc at) c h e = choice_at P cs at c (All-tail P x cs h) e

pub members_at : (cs : List Choice) (at : ℕ) (c : Choice) → slice_get cs at ≡ Some c → slice_get (choices_of cs) at ≡ Some (nnfs_view c.members.now)
members_at [] at c e = cc
members_at (x ∷ cs) zero c e = let same : x ≡ c = cc in ap (λ (y : Choice). Some (nnfs_view y.members.now)) same
members_at (x ∷ cs) (suc at) c e = members_at cs at c e

pub same_item : (cs : List Choice) (at : ℕ) (c d : Choice) → slice_get cs at ≡ Some c → slice_get cs at ≡ Some d → c ≡ d
same_item cs at c d e f = let h : Some c ≡ Some d = sym e ∙ f in cc

pub set_length : (cs : List Choice) (at : ℕ) (c : Choice) → length (set cs at c) ≡ length cs
set_length [] at c = refl
set_length (x ∷ cs) zero c = refl
set_length (x ∷ cs) (suc at) c = ap suc (set_length cs at c)

pub marked_path : (s : Scope) (p q : SearchPath) (at : ℕ) (c : Choice) → q.state ≡ p.state → slice_get p.choices.items at ≡ Some c
    → q.choices.items ≡ set p.choices.items at (with_done c true) → path_of s q ≡ path_of s p
marked_path s p q at c st here is =
    ap₂ (λ f k. record { facts = f; choices = k }) (ap (λ x. facts_in (name_in s.objects) x) st) (ap choices_of is ∙ marked_members p.choices.items at c true here)

-- the mark of a choice is taken back
pub unmarked_is : (cs deref new : List Choice) (at : ℕ) (c : Choice) → slice_get cs at ≡ Some c → c.is_done ≡ false → deref ≡ set cs at (with_done c true) → SetsDone deref at false new → new ≡ cs
unmarked_is cs deref new at c here is_open e d =
    d.is ∙ ap (λ l. set l at (with_done d.choice false)) e ∙ set_back cs at c d.choice here (ap (λ l. slice_get l at) (sym e) ∙ d.here) is_open

-- a choice is marked
pub marks : (cs new : List Choice) (at : ℕ) (c : Choice) → slice_get cs at ≡ Some c → SetsDone cs at true new → new ≡ set cs at (with_done c true)
marks cs new at c here d = d.is ∙ ap (λ x. set cs at (with_done x true)) (same_item cs at d.choice c d.here here)

-- the members of a pair's choice are its ways
pub ways_at : (pairs : List Pair) (cs : List Choice) (at : ℕ) (c : Choice) (pair : Pair) → choices_of cs ≡ ways_of pairs → slice_get cs at ≡ Some c → pair ≡ get_or pairs at pair
    → nnfs_view c.members.now ≡ nnfs_view pair.ways
ways_at pairs [] at c pair e here is = cc
ways_at [] (x ∷ cs) at c pair e here is = cc
ways_at (y ∷ pairs) (x ∷ cs) zero c pair e here is =
    let same : x ≡ c = cc in
    ap (λ (z : Choice). nnfs_view z.members.now) (sym same) ∙ heads (nnfs_view x.members.now) (nnfs_view y.ways) (choices_of cs) (ways_of pairs) e ∙ ap (λ (z : Pair). nnfs_view z.ways) (sym is)
  where
    heads : (a b : Readings Row) (ls ms : List (Readings Row)) → (a ∷ ls) ≡ (b ∷ ms) → a ≡ b
    heads a b ls ms h = cc
ways_at (y ∷ pairs) (x ∷ cs) (suc at) c pair e here is = ways_at pairs cs at c pair (tails (nnfs_view x.members.now) (nnfs_view y.ways) (choices_of cs) (ways_of pairs) e) here is
  where
    tails : (a b : Readings Row) (ls ms : List (Readings Row)) → (a ∷ ls) ≡ (b ∷ ms) → ls ≡ ms
    tails a b ls ms h = cc

pub pair_at : (P : Pair → Type 0) (pairs : List Pair) (at : ℕ) (pair : Pair) → All P pairs → at < length pairs → pair ≡ get_or pairs at pair → P pair
pair_at P pairs at pair h l is = subst P (sym is) (h at pair l)

pub ways_length : (pairs : List Pair) (cs : List Choice) → choices_of cs ≡ ways_of pairs → length cs ≡ length pairs
ways_length [] [] e = refl
ways_length [] (x ∷ cs) e = cc
ways_length (y ∷ pairs) [] e = cc
ways_length (y ∷ pairs) (x ∷ cs) e = ap suc (ways_length pairs cs (tails (nnfs_view x.members.now) (nnfs_view y.ways) (choices_of cs) (ways_of pairs) e))
  where
    tails : (a b : Readings Row) (ls ms : List (Readings Row)) → (a ∷ ls) ≡ (b ∷ ms) → ls ≡ ms
    tails a b ls ms h = cc
