-- What holds as the applications of a case are gone through.
use Rattle.std.proofs.Common.{◌≡◌, ◌∙◌, ℕ, suc, ◌+◌, ◌<◌, ◌↔◌, List, [], Option, Some, slice_get, slice_index, refl, sym, ap, subst, arith}
use Rattle.lq_prover_case.specs.State.PathState.{KeepsHanded, PathState, facts_in, objects_in}
use Rattle.lq_prover_case.specs.State.RowState.{terms_of as row_terms}
use Rattle.lq_prover_proof_tree.specs.Trees.Path.{Path}
use Rattle.lq_prover_case.specs.Equations.Equating.{AddsEquations, AreFirsts, EachEquated, Wraps, applied, numbering_by}
use Rattle.lq_prover_case.specs.Equations.Naming.{name_in}
use Rattle.lq_prover_case.specs.declared.equations.application.Application.{Application}
use Rattle.lq_prover_case.specs.declared.equations.application.FunctionAt.{FunctionAt}
use Rattle.lq_prover_case.specs.declared.equations.chain.Joint.{Joint}
use Rattle.lq_prover_case.proofs.EquationsLemmas.Equated.{each_none, each_skip}
use Rattle.lq_prover_case.proofs.EquationsLemmas.Equations.{adds_none, adds_then}
use Rattle.lq_prover_case.proofs.EquationsLemmas.Firsts.{firsts_more}
use Rattle.lq_prover_case.proofs.EquationsLemmas.Joining.{second, third}
use Rattle.lq_prover_case.specs.Objects.Joined.{AreOne}
use Rattle.lq_prover_proof_tree.specs.Literals.Parts.{places_from}
use Rattle.lq_base_names.specs.declared.name.Name.{Name}
use Rattle.lq_prover_case.specs.declared.objects.fact.ObjectFact.{ObjectFact}
use Rattle.lq_logic_rows.specs.Row.{Row}
use Rattle.lq_logic_predicates.specs.Reading.{Readings}
use Rattle.lq_logic_predicates.specs.Sum.{Sum}

-- after the first n applications, where one state became another
pub record IsAlong (objects terms : List Sum) (classes : List ℕ) (start s : PathState) (joints : List Joint) (entries : List (FunctionAt × Application)) (n : ℕ) : Type 0 where
  pub firsts : AreFirsts objects terms classes n entries
  pub equated : EachEquated objects terms classes n entries (facts_in (name_in objects) s)
  pub adds : (name : ℕ → Sum) → AddsEquations terms (facts_in name start) (facts_in name s)
  pub wraps : (whole : Path) (choices : List (Readings Row)) → Wraps (numbering_by terms) whole choices [] (facts_in (name_in objects) start) → Wraps (numbering_by terms) whole choices joints (facts_in (name_in objects) s)
  pub objects_are : objects_in s ≡ objects_in start
  pub terms_are : row_terms s.rows ≡ row_terms start.rows
  pub pivots : s.rows.pivots ≡ start.rows.pivots
  pub count : s.objects.count ≡ start.objects.count
  pub handed : KeepsHanded start s

-- what one application does
pub record IsStep (objects terms : List Sum) (classes : List ℕ) (s t : PathState) (joints more : List Joint) (entries new : List (FunctionAt × Application)) (n : ℕ) : Type 0 where
  pub firsts : AreFirsts objects terms classes (suc n) new
  pub equated : EachEquated objects terms classes n entries (facts_in (name_in objects) s) → EachEquated objects terms classes (suc n) new (facts_in (name_in objects) t)
  pub adds : (name : ℕ → Sum) → AddsEquations terms (facts_in name s) (facts_in name t)
  pub wraps : (whole : Path) (choices : List (Readings Row)) → Wraps (numbering_by terms) whole choices joints (facts_in (name_in objects) s) → Wraps (numbering_by terms) whole choices more (facts_in (name_in objects) t)
  pub objects_are : objects_in t ≡ objects_in s
  pub limits : (row_terms t.rows ≡ row_terms s.rows) × (t.rows.pivots ≡ s.rows.pivots) × (t.objects.count ≡ s.objects.count)
  pub handed : KeepsHanded s t

pub along_step : (objects terms : List Sum) (classes given : List ℕ) (start s t : PathState) (joints more : List Joint) (entries new : List (FunctionAt × Application)) (k n m : ℕ) → given ≡ classes
    → k ≡ n → m ≡ n + 1 → IsAlong objects terms classes start s joints entries n → IsStep objects terms given s t joints more entries new k
    → IsAlong objects terms classes start t more new m
along_step objects terms classes given start s t joints more entries new k n m q e f a d =
    let b = subst (λ l. IsStep objects terms l s t joints more entries new k) q d in
    let g : suc k ≡ m = omega (arith, e, f) in record {
      firsts = subst (λ i. AreFirsts objects terms classes i new) g b.firsts;
      equated = subst (λ i. EachEquated objects terms classes i new (facts_in (name_in objects) t)) g
          (b.equated (subst (λ i. EachEquated objects terms classes i entries (facts_in (name_in objects) s)) (sym e) a.equated));
      adds = λ name. adds_then terms (facts_in name start) (facts_in name s) (facts_in name t) (a.adds name) (b.adds name);
      wraps = λ whole choices w. b.wraps whole choices (a.wraps whole choices w);
      objects_are = b.objects_are ∙ a.objects_are;
      terms_are = b.limits.0 ∙ a.terms_are;
      pivots = second b.limits ∙ a.pivots;
      count = third b.limits ∙ a.count;
      handed = λ ever h. b.handed ever (a.handed ever h);
    }

-- objects that facts join have one class, also where equations came after the classes were read
pub classes_one : (n count : ℕ) (classes given : List ℕ) (old new : List ObjectFact) → count ≡ n → classes ≡ given → new ≡ old
    → ((a b : ℕ) → a < count → b < count → (slice_index given a ≡ slice_index given b) ↔ AreOne old a b) → (i j : ℕ) → i < n → j < n → AreOne new i j
    → slice_index classes i ≡ slice_index classes j
classes_one n count classes given old new e f g one i j l r o =
    let h = (one i j (subst (λ m. i < m) (sym e) l) (subst (λ m. j < m) (sym e) r)).1 (subst (λ about. AreOne about i j) g o) in
    ap (λ c. slice_index c i) f ∙ h ∙ ap (λ c. slice_index c j) (sym f)

pub along_start : (objects terms : List Sum) (classes : List ℕ) (s : PathState) (joints : List Joint) (entries : List (FunctionAt × Application)) → joints ≡ [] → entries ≡ []
    → IsAlong objects terms classes s s joints entries 0
along_start objects terms classes s joints entries e f = record {
  firsts = subst (AreFirsts objects terms classes 0) (sym f) tt;
  equated = each_none objects terms classes entries (facts_in (name_in objects) s);
  adds = λ name. adds_none terms (facts_in name s);
  wraps = λ whole choices w. subst (λ l. Wraps (numbering_by terms) whole choices l (facts_in (name_in objects) s)) (sym e) w;
  objects_are = refl;
  terms_are = refl;
  pivots = refl;
  count = refl;
  handed = λ ever h. h;
}

-- an application that is neither a length nor a measure
pub along_skip : (objects terms : List Sum) (classes : List ℕ) (start s : PathState) (joints : List Joint) (entries : List (FunctionAt × Application)) (n t : ℕ)
    → slice_get (places_from 0 terms) n ≡ Some t → ((m : Option Name) (a : Sum) → slice_get terms t ≡ Some (applied m a) → ⊥) → IsAlong objects terms classes start s joints entries n
    → IsAlong objects terms classes start s joints entries (n + 1)
along_skip objects terms classes start s joints entries n t place none a =
    let g : suc n ≡ n + 1 = omega arith in record {
      firsts = firsts_more objects terms classes n (n + 1) entries (omega arith) a.firsts;
      equated = subst (λ i. EachEquated objects terms classes i entries (facts_in (name_in objects) s)) g (each_skip objects terms classes n t entries (facts_in (name_in objects) s) place none a.equated);
      adds = a.adds;
      wraps = a.wraps;
      objects_are = a.objects_are;
      terms_are = a.terms_are;
      pivots = a.pivots;
      count = a.count;
      handed = a.handed;
    }
