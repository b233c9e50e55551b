-- What is found of one node more.
use Rattle.std.specs.Prelude.{All}
use Rattle.std.proofs.Common.{◌≡◌, ℕ, suc, ◌+◌, ◌-◌, ◌<◌, ◌≤◌, List, [], ◌∷◌, ◌++◌, length, take, drop, get_or, Option, Some, None, ◌⊎◌, inl, inr, refl, sym, ap, subst, ◌∙◌, arith, length-drop}
use Rattle.std.proofs.lemmas.Bool.{cases_eq}
use Rattle.std.proofs.lemmas.List.{append-nil, length-append, get_or_append_left, get_or_push, take-append-le, drop-append-le}
use Rattle.std.proofs.lemmas.List.Elements.{All-append, All-nil, All-cons}
use Rattle.std.proofs.Math.Seq.{drop-append_seam, take-length}
use Rattle.lq_text_tree.specs.MlType.{MlType}
use Rattle.lq_types_infer.proofs.InferenceLemmas.Naming.{all_first, all_left, all_right}
use Rattle.lq_types_rules.specs.Typings.Uses.{GeneralUse}
use Rattle.lq_types_infer.specs.Instantiation.Instances.{start_of, rows_of, AreParts, HasInstance, AreFound}
use Rattle.lq_types_infer.specs.Instantiation.Uses.{listed_use, IsCounted, Instantiates}
use Rattle.lq_types_infer.specs.Instantiation.Visiting.{InstantiatesIf}

same_count : (n m : ℕ) → n + m - n ≡ m
same_count n m = omega arith

-- a node with these rows comes behind the others
module _ (rows more starts : List ℕ) (count : ℕ) (parts : AreParts rows starts count) where
  abbrev new_rows : List ℕ
  new_rows = rows ++ more

  abbrev new_starts : List ℕ
  new_starts = starts ++ length new_rows ∷ []

  old_start : (i : ℕ) → i ≤ count → start_of new_starts i ≡ start_of starts i
  old_start i low = get_or_append_left starts (length new_rows ∷ []) 0 i (let l = parts.long in omega (arith, l, low))

  new_start : start_of new_starts (suc count) ≡ length new_rows
  new_start = get_or_push starts (length new_rows) 0 (suc count) parts.long

  longer : length rows ≤ length new_rows
  longer = let l = length-append rows more in omega (arith, l)

  rises : (i : ℕ) → (i ≡ count) ⊎ (i ≡ count → ⊥) → i < suc count → start_of new_starts i ≤ start_of new_starts (suc i)
  rises i (inl same) low =
      let a = old_start i (omega (arith, same)) in
      let b = ap (λ (n : ℕ). start_of new_starts (suc n)) same ∙ new_start in
      let c = parts.inside i (omega (arith, same)) in
      let l = longer in omega (arith, a, b, c, l)
  rises i (inr other) low =
      let a = old_start i (omega (arith, low)) in
      let b = old_start (suc i) (omega (arith, low, other)) in
      let c = parts.rising i (omega (arith, low, other)) in omega (arith, a, b, c)

  ends : (i : ℕ) → (i ≡ suc count) ⊎ (i ≡ suc count → ⊥) → i ≤ suc count → start_of new_starts i ≤ length new_rows
  ends i (inl same) low = let b = ap (start_of new_starts) same ∙ new_start in omega (arith, b)
  ends i (inr other) low =
      let a = old_start i (omega (arith, low, other)) in
      let c = parts.inside i (omega (arith, low, other)) in
      let l = longer in omega (arith, a, c, l)

  pub parts_more : AreParts new_rows new_starts (suc count)
  parts_more = record {
    long = let l = length-append starts (length new_rows ∷ []) in let n = parts.long in omega (arith, l, n);
    rising = λ i low. rises i (cases_eq i count) low;
    inside = λ i low. ends i (cases_eq i (suc count)) low;
    last = new_start;
  }

  pub old_rows : (i : ℕ) → i < count → rows_of new_rows new_starts i ≡ rows_of rows starts i
  old_rows i low =
      let from = start_of starts i in
      let to = start_of starts (suc i) in
      let a = old_start i (omega (arith, low)) in
      let b = old_start (suc i) (omega (arith, low)) in
      let near : from ≤ length rows = parts.inside i (omega (arith, low)) in
      let far : to ≤ length rows = parts.inside (suc i) (omega (arith, low)) in
      let rest : to - from ≤ length (drop from rows) = let d = length-drop from rows in omega (arith, d, far) in
      ap (λ (n : ℕ). take (start_of new_starts (suc i) - n) (drop n new_rows)) a
      ∙ ap (λ (n : ℕ). take (n - from) (drop from new_rows)) b
      ∙ ap (take (to - from)) (drop-append-le from rows more near)
      ∙ take-append-le (to - from) (drop from rows) more rest

  pub own_rows : rows_of new_rows new_starts count ≡ more
  own_rows =
      let a = old_start count (omega arith) ∙ parts.last in
      let size : length new_rows - length rows ≡ length more =
      ap (λ (n : ℕ). n - length rows) (length-append rows more) ∙ same_count (length rows) (length more) in
      ap (λ (n : ℕ). take (start_of new_starts (suc count) - n) (drop n new_rows)) a
      ∙ ap (λ (n : ℕ). take (n - length rows) (drop (length rows) new_rows)) new_start
      ∙ ap (λ (n : ℕ). take n (drop (length rows) new_rows)) size
      ∙ ap (take (length more)) (drop-append_seam rows more) ∙ take-length more

module _ (all : List MlType) (nodes : ℕ) (types : ℕ → MlType) (done : List GeneralUse) (rows more starts : List ℕ) (count : ℕ)
    (found : AreFound all nodes types done rows starts count) where
  abbrev rows_then : List ℕ
  rows_then = rows ++ more

  abbrev starts_then : List ℕ
  starts_then = starts ++ length (rows ++ more) ∷ []

  still : (u : GeneralUse) → HasInstance all nodes types rows starts count u
      → HasInstance all nodes types rows_then starts_then (suc count) u
  still u h =
      let same = sym (old_rows rows more starts count found.parts u.node h.low) in
      let low = h.low in
      record {
        low = omega (arith, low);
        counted = subst (IsCounted nodes types u) same h.counted;
        instance = subst (Instantiates all nodes types u) same h.instance;
      }

  own : (u : GeneralUse) → u.node ≡ count → IsCounted nodes types u more × Instantiates all nodes types u more
      → HasInstance all nodes types rows_then starts_then (suc count) u
  own u at_it h =
      let same = sym (ap (rows_of rows_then starts_then) at_it ∙ own_rows rows more starts count found.parts) in
      record {
        low = omega (arith, at_it);
        counted = subst (IsCounted nodes types u) same h.0;
        instance = subst (Instantiates all nodes types u) same h.1;
      }

  abbrev Then : GeneralUse → Type 0
  Then = HasInstance all nodes types rows_then starts_then (suc count)

  listed_then : (o : Option GeneralUse) → ((u : GeneralUse) → o ≡ Some u → u.node ≡ count) → InstantiatesIf all nodes types o more
      → All Then (listed_use o)
  listed_then None at_it h = All-nil Then
  listed_then (Some u) at_it h = All-cons Then u [] (own u (at_it u refl) h) (All-nil Then)

  none_there : (o : Option GeneralUse) → ((u : GeneralUse) → o ≡ Some u → u.node ≡ count) → InstantiatesIf all nodes types o more
      → All (λ u. u.node ≡ count → ⊥) (listed_use o) → more ≡ []
  none_there None at_it h none = h
  none_there (Some u) at_it h none = absurd (all_first (λ (u : GeneralUse). u.node ≡ count → ⊥) u [] none (at_it u refl))

  module _ (o : Option GeneralUse) (at_it : (u : GeneralUse) → o ≡ Some u → u.node ≡ count)
      (inst : InstantiatesIf all nodes types o more) where
    unused_at : (i : ℕ) → (i ≡ count) ⊎ (i ≡ count → ⊥) → i < suc count → All (λ u. u.node ≡ i → ⊥) (done ++ listed_use o)
        → rows_of rows_then starts_then i ≡ []
    unused_at i (inl same) low none =
        ap (rows_of rows_then starts_then) same ∙ own_rows rows more starts count found.parts
        ∙ none_there o at_it inst (subst (λ (n : ℕ). All (λ u. u.node ≡ n → ⊥) (listed_use o)) same
        (all_right (λ (u : GeneralUse). u.node ≡ i → ⊥) done (listed_use o) none))
    unused_at i (inr other) low none =
        let less : i < count = omega (arith, low, other) in
        old_rows rows more starts count found.parts i less
        ∙ found.unused i less (all_left (λ (u : GeneralUse). u.node ≡ i → ⊥) done (listed_use o) none)

    pub found_more : All (λ r. r < length all) more → AreFound all nodes types (done ++ listed_use o) rows_then starts_then (suc count)
    found_more inside = record {
      parts = parts_more rows more starts count found.parts;
      inside = All-append (λ r. r < length all) rows more found.inside inside;
      used = All-append Then done (listed_use o) (λ k d low. still (get_or done k d) (found.used k d low)) (listed_then o at_it inst);
      unused = λ i low none. unused_at i (cases_eq i count) low none;
    }

  -- what is left here is no node
  pub found_same : (o : Option GeneralUse) → o ≡ None → InstantiatesIf all nodes types o more
      → AreFound all nodes types (done ++ listed_use o) (rows ++ more) starts count
  found_same o none inst =
      let empty : more ≡ [] = subst (λ (p : Option GeneralUse). InstantiatesIf all nodes types p more) none inst in
      let uses : done ≡ done ++ listed_use o = sym (append-nil done) ∙ ap (λ (p : Option GeneralUse). done ++ listed_use p) (sym none) in
      let same : rows ≡ rows ++ more = sym (append-nil rows) ∙ ap (λ (l : List ℕ). rows ++ l) (sym empty) in
      subst (λ (us : List GeneralUse). AreFound all nodes types us (rows ++ more) starts count) uses
      (subst (λ (rs : List ℕ). AreFound all nodes types done rs starts count) same found)
