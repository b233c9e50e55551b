-- A path that goes back to what stood on it, and what a question on it comes to.
use Rattle.std.proofs.Common.{◌≡◌, ◌∙◌, ℕ, zero, suc, ◌≤◌, List, [], ◌∷◌, ◌++◌, All, false, length, take, refl, sym, ap, subst, arith}
use Rattle.std.proofs.Math.Seq.{take-append_seam}
use Rattle.std.proofs.lemmas.List.{length-append}
use Rattle.std.proofs.lemmas.List.Elements.{All-append, All-nil}
use Rattle.lq_prover_case.specs.State.PathState.{facts_in}
use Rattle.lq_prover_proof_tree.specs.Trees.Path.{Fact, Path}
use Rattle.lq_logic_rows.specs.Row.{Row}
use Rattle.lq_logic_rows.specs.declared.engine.LinearStop.{LinearStop}
use Rattle.lq_prover_search.specs.Path.SearchPath.{SameLimits, choices_of}
use Rattle.lq_prover_search.specs.declared.path.choice.Choice.{Choice}
use Rattle.lq_logic_predicates.specs.NnfView.{nnfs_view}
use Rattle.lq_logic_predicates.specs.Reading.{Reading, Readings}
use Rattle.lq_logic_predicates.specs.RowMeaning.{MeetsRows}
use Rattle.lq_logic_predicates.specs.Sum.{Sum}
use Rattle.lq_prover_search.specs.Search.Scope.{Scope}
use Rattle.lq_prover_search.specs.Search.SearchPath.{Always, AreAllOpen, IsBack, IsLonger, IsReady, IsReadyFor, IsTaken, KeepsFacts}
use Rattle.lq_prover_search.specs.Search.Stopping.{MayReach, MayTake, StopsSearch}
use Rattle.lq_prover_search.specs.declared.search.pair.Pair.{Pair}
use Rattle.lq_prover_search.specs.declared.search.search_path.SearchPath.{SearchPath}
use Rattle.lq_prover_search.proofs.SearchLemmas.Ready.{IsReopened}
use Rattle.lq_prover_search.proofs.SearchLemmas.Steps.{ready_given}
use Rattle.lq_prover_search.proofs.SearchLemmas.Stops.{TakesNoMore, reached_before, stops_before}

take_first : {X : Type 0} (n : ℕ) (xs ys zs : List X) → n ≡ length xs → ys ≡ xs ++ zs → take n ys ≡ xs
take_first {X} n xs ys zs e is = ap (λ k. take k ys) e ∙ ap (take (length xs)) is ∙ take-append_seam xs zs

-- of a longer path so many facts and choices are kept as there were
pub record IsCut (p q r : SearchPath) : Type 0 where
  pub facts : ℕ
  pub choices : ℕ
  pub facts_are : (name : ℕ → Sum) → facts ≡ length (facts_in name p.state)
  pub choices_are : choices ≡ length p.choices.items
  pub kept_facts : (name : ℕ → Sum) → facts_in name r.state ≡ take facts (facts_in name q.state)
  pub kept_choices : r.choices.items ≡ take choices q.choices.items
  pub pairs : r.pairs.items ≡ q.pairs.items
  pub limits : SameLimits r.state q.state

pub cut_back : (p q r : SearchPath) → IsLonger p q → IsCut p q r → IsBack p r
cut_back p q r l c = record {
  facts = λ name. c.kept_facts name ∙ take_first c.facts (facts_in name p.state) (facts_in name q.state) (l.facts name).more (c.facts_are name) (l.facts name).is;
  choices_are = c.kept_choices ∙ take_first c.choices p.choices.items q.choices.items l.more c.choices_are l.choices_are;
  pairs_are = c.pairs ∙ l.pairs_are;
  limits = (c.limits.0 ∙ l.limits.0, c.limits.1 ∙ l.limits.1, c.limits.2 ∙ l.limits.2);
}

pub kept_facts : (p q : SearchPath) (n : ℕ) → KeepsFacts p.state q.state → ((name : ℕ → Sum) → n ≡ length (facts_in name p.state)) → (name : ℕ → Sum) → n ≤ length (facts_in name q.state)
kept_facts p q n l e name =
    let k = e name in let a = ap length (l.facts name).is in let b = length-append (facts_in name p.state) (l.facts name).more in omega (arith, k, a, b)

pub longer_facts : (p q : SearchPath) (n : ℕ) → IsLonger p q → ((name : ℕ → Sum) → n ≡ length (facts_in name p.state)) → (name : ℕ → Sum) → n ≤ length (facts_in name q.state)
longer_facts p q n l e = kept_facts p q n (record { facts = l.facts; limits = l.limits }) e

pub ready_for : (r : Reading Row) (s : Scope) (pairs : List Pair) (p : SearchPath) → IsReady s pairs p → IsReadyFor r s pairs p
ready_for r s pairs p h = ready_given Always (λ v q. MeetsRows v q r) s pairs p (λ v q m. tt) h

-- ---- what was open stays open, and what was taken is open again

pub open_back : (p q : SearchPath) → IsBack p q → AreAllOpen p → AreAllOpen q
open_back p q b o = record {
  choices_are = subst (All (λ (c : Choice). c.is_done ≡ false)) (sym b.choices_are) o.choices_are;
  pairs_are = subst (All (λ (c : Choice). c.is_done ≡ false)) (sym b.pairs_are) o.pairs_are;
}

pub open_taken : (s : Scope) (r : Reading Row) (p q : SearchPath) → IsTaken s r p q → AreAllOpen p → AreAllOpen q
open_taken s r p q t o = record {
  choices_are = subst (All (λ (c : Choice). c.is_done ≡ false)) (sym t.adds.is)
      (All-append (λ (c : Choice). c.is_done ≡ false) p.choices.items t.adds.more o.choices_are t.adds.open_still);
  pairs_are = subst (All (λ (c : Choice). c.is_done ≡ false)) (sym t.pairs_are) o.pairs_are;
}

take_members : (n : ℕ) (cs : List Choice) → choices_of (take n cs) ≡ take n (choices_of cs)
take_members zero cs = refl
take_members (suc n) [] = refl
take_members (suc n) (c ∷ cs) = ap (λ l. nnfs_view c.members.now ∷ l) (take_members n cs)

members_length : (cs : List Choice) → length (choices_of cs) ≡ length cs
members_length [] = refl
members_length (c ∷ cs) = ap suc (members_length cs)

-- of a path that begins with another one so many facts and choices are kept as that one has, and all is open again
pub goes_back : (p q r : SearchPath) (facts choices : ℕ) → ((name : ℕ → Sum) → facts ≡ length (facts_in name p.state)) → choices ≡ length p.choices.items
    → KeepsFacts p.state q.state → (more : List (Readings Row)) → choices_of q.choices.items ≡ choices_of p.choices.items ++ more → choices_of q.pairs.items ≡ choices_of p.pairs.items
    → ((name : ℕ → Sum) → facts_in name r.state ≡ take facts (facts_in name q.state)) → choices_of r.choices.items ≡ choices_of (take choices q.choices.items)
    → choices_of r.pairs.items ≡ choices_of q.pairs.items → AreAllOpen r → SameLimits r.state q.state → IsReopened p r
goes_back p q r facts choices f c k more m w kf kc kp o l = record {
  facts = λ name. kf name ∙ take_first facts (facts_in name p.state) (facts_in name q.state) (k.facts name).more (f name) (k.facts name).is;
  choices_are = kc ∙ take_members choices q.choices.items
      ∙ take_first choices (choices_of p.choices.items) (choices_of q.choices.items) more (c ∙ sym (members_length p.choices.items)) m;
  pairs_are = kp ∙ w;
  open_still = o;
  limits = (l.0 ∙ k.limits.0, l.1 ∙ k.limits.1, l.2 ∙ k.limits.2);
}

-- ---- one path, and as large a sum at least

same_takes : (ts : List Sum) (ways : List (Readings Row)) (p q : Path) → p ≡ q → TakesNoMore ts ways p q
same_takes ts ways p q e = subst (TakesNoMore ts ways p) e (λ r m. m)

pub reached_more : (ts : List Sum) (ways : List (Readings Row)) (p q : Path) (m n : ℕ) (facts : List Fact) → p ≡ q → m ≤ n → MayReach ts p ways m facts → MayReach ts q ways n facts
reached_more ts ways p q m n facts e le h = reached_before ts ways p q m n facts (same_takes ts ways p q e) le h

pub stops_more : (ts : List Sum) (terms limit : ℕ) (ways : List (Readings Row)) (p q : Path) (m n : ℕ) (stop : LinearStop) → TakesNoMore ts ways p q → m ≤ n
    → StopsSearch ts terms limit [] p ways m stop → StopsSearch ts terms limit [] q ways n stop
stops_more ts terms limit ways p q m n stop takes le h =
    stops_before ts terms limit terms limit [] [] ways p q m n stop refl refl takes (All-nil (MayTake ts q ways)) le h

pub stops_same : (ts : List Sum) (terms limit : ℕ) (ways : List (Readings Row)) (p q : Path) (m n : ℕ) (stop : LinearStop) → p ≡ q → m ≤ n
    → StopsSearch ts terms limit [] p ways m stop → StopsSearch ts terms limit [] q ways n stop
stops_same ts terms limit ways p q m n stop e le h = stops_more ts terms limit ways p q m n stop (same_takes ts ways p q e) le h
