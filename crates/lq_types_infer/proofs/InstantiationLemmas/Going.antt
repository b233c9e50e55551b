-- The state of a walk behind one visit more.
use Rattle.std.specs.Prelude.{All}
use Rattle.std.proofs.Common.{◌≡◌, ℕ, zero, suc, ◌+◌, ◌<◌, ◌≤◌, List, [], ◌∷◌, ◌++◌, length, map, Option, Some, None, ◌⊎◌, inl, inr, refl, sym, ap, subst, ◌∙◌, arith, append_assoc}
use Rattle.std.proofs.lemmas.List.{append-nil}
use Rattle.std.proofs.lemmas.List.Elements.{All-nil}
use Rattle.std.proofs.Math.Logic.{∥∥₁_elim, ∥∥₁_map}
use Rattle.std.proofs.Props.{props}
use Rattle.std.specs.Option.{option_map}
use Rattle.lq_text_tree.specs.MlType.{MlType}
use Rattle.lq_text_tree.specs.Types.{put}
use Rattle.lq_types_table.specs.Nodes.{at}
use Rattle.lq_text_walk.specs.Scoped.Scoping.{Scoping}
use Rattle.lq_text_walk.specs.Walk.Visits.{Visit, visits_of_items}
use Rattle.lq_types_rules.specs.Typings.Fronts.{left_at, left_in}
use Rattle.lq_types_rules.specs.Typings.Principal.{node_count}
use Rattle.lq_types_rules.specs.Typings.Uses.{Known, GeneralUse, none_known, behind, use_at}
use Rattle.lq_types_infer.specs.declared.annotation.annotated.Annotated.{Annotated}
use Rattle.lq_types_infer.specs.Annotation.Whole.{program_of, table_of, types_of}
use Rattle.lq_types_infer.specs.declared.instantiation.visiting.Pass.{Pass}
use Rattle.lq_types_infer.specs.declared.instantiation.general.Generalised.{Generalised}
use Rattle.lq_types_infer.specs.declared.instantiation.general.Use.{Use}
use Rattle.lq_types_infer.specs.Instantiation.General.{HasGeneral, use_view, place_in}
use Rattle.lq_types_infer.specs.Instantiation.Instances.{start_of, HasInstance, AreFound}
use Rattle.lq_types_infer.specs.Instantiation.Matching.{Becomes, IsMatching}
use Rattle.lq_types_infer.specs.Instantiation.Uses.{listed_use, uses_from, uses_of}
use Rattle.lq_types_infer.specs.Instantiation.Visiting.{IsUse, IsUseIf, InstantiatesIf, IsAhead, IsAt}
use Rattle.lq_types_infer.proofs.InstantiationLemmas.Ahead.{first_or, node_left, left_cases, ahead_none, ahead_one, next_is, is_use}
use Rattle.lq_types_infer.proofs.InstantiationLemmas.Finding.{found_more, found_same}

no_use : (k : Known) (v : Visit) → left_at v ≡ [] → (o : Option GeneralUse) → use_at k v ≡ o → o ≡ None
no_use k v none None e = refl
no_use k v none (Some u) e =
    absurd (let n : length {A = ℕ} [] ≡ length (u.node ∷ []) = ap length (sym none ∙ node_left k u v e) in omega (arith, n))

module _ (a : Annotated) (k : Known) (v : Visit) (vs : List Visit) (old new : Pass) (more : List ℕ) (at_it : IsAt a k (v ∷ vs) old)
    (rows : new.rows.items ≡ old.rows.items ++ more)
    (starts : new.starts.items ≡ old.starts.items ++ map (λ i. length new.rows.items) (left_at v))
    (inside : All (λ r. r < length (table_of a)) more)
    (instance : InstantiatesIf (table_of a) (node_count (program_of a)) (types_of a) (use_at k v) more)
    (matching : IsMatching (table_of a) new.matching) (general : HasGeneral new.definitions (behind k v)) where
  abbrev Found : List GeneralUse → List ℕ → List ℕ → ℕ → Type 0
  Found = AreFound (table_of a) (node_count (program_of a)) (types_of a)

  abbrev done_then : List GeneralUse
  done_then = at_it.done ++ listed_use (use_at k v)

  whole_then : done_then ++ uses_from (behind k v) vs ≡ uses_of (program_of a)
  whole_then = append_assoc at_it.done (listed_use (use_at k v)) (uses_from (behind k v) vs) ∙ at_it.whole

  by_cases : (left_at v ≡ []) ⊎ ((j : ℕ) × (left_at v ≡ j ∷ [])) → IsAt a (behind k v) vs new
  by_cases (inl none) =
      let o = no_use k v none (use_at k v) refl in
      let same : new.starts.items ≡ old.starts.items =
      starts ∙ ap (λ (l : List ℕ). old.starts.items ++ map (λ i. length new.rows.items) l) none ∙ append-nil old.starts.items in
      record {
        matching = matching;
        general = general;
        count = at_it.count;
        ahead = ahead_none (program_of a) (types_of a) k v vs at_it.count at_it.ahead none;
        done = done_then;
        whole = whole_then;
        found = subst (λ (ss : List ℕ). Found done_then new.rows.items ss at_it.count) (sym same)
            (subst (λ (rs : List ℕ). Found done_then rs old.starts.items at_it.count) (sym rows)
            (found_same (table_of a) (node_count (program_of a)) (types_of a) at_it.done old.rows.items more old.starts.items
            at_it.count at_it.found
            (use_at k v) o instance));
      }
  by_cases (inr (j, one)) =
      let here = next_is (program_of a) (types_of a) k v vs at_it.count at_it.ahead j one in
      let same : new.starts.items ≡ old.starts.items ++ length (old.rows.items ++ more) ∷ [] =
      starts ∙ ap (λ (l : List ℕ). old.starts.items ++ map (λ i. length new.rows.items) l) one
      ∙ ap (λ (rs : List ℕ). old.starts.items ++ length rs ∷ []) rows in
      record {
        matching = matching;
        general = general;
        count = suc at_it.count;
        ahead = ahead_one (program_of a) (types_of a) k v vs at_it.count at_it.ahead j one;
        done = done_then;
        whole = whole_then;
        found = subst (λ (ss : List ℕ). Found done_then new.rows.items ss (suc at_it.count)) (sym same)
            (subst (λ (rs : List ℕ). Found done_then rs (old.starts.items ++ length (old.rows.items ++ more) ∷ []) (suc at_it.count))
            (sym rows)
            (found_more (table_of a) (node_count (program_of a)) (types_of a) at_it.done old.rows.items more old.starts.items
            at_it.count at_it.found
            (use_at k v) (λ u e. ap first_or (sym (node_left k u v e) ∙ one) ∙ here) instance inside));
      }

  pub gone : IsAt a (behind k v) vs new
  gone = by_cases (left_cases v)

pub found_none : (all : List MlType) (nodes : ℕ) (types : ℕ → MlType) → AreFound all nodes types [] [] (0 ∷ []) 0
found_none all nodes types = record {
  parts = record {
    long = refl;
    rising = λ i low. absurd (omega (arith, low));
    inside = λ i low. first_starts i low;
    last = refl;
  };
  inside = All-nil (λ r. r < length all);
  used = All-nil (HasInstance all nodes types [] (0 ∷ []) 0);
  unused = λ i low none. absurd (omega (arith, low));
}
  where
    first_starts : (i : ℕ) → i ≤ 0 → start_of (0 ∷ []) i ≤ 0
    first_starts zero low = omega arith
    first_starts (suc i) low = absurd (omega (arith, low))

pub at_end : (a : Annotated) (k : Known) (vs : List Visit) (p : Pass) → vs ≡ [] → IsAt a k vs p
    → AreFound (table_of a) (node_count (program_of a)) (types_of a) (uses_of (program_of a)) p.rows.items p.starts.items
    (node_count (program_of a))
at_end a k vs p none at_it =
    let uses : at_it.done ≡ uses_of (program_of a) =
    sym (append-nil at_it.done) ∙ ap (λ (l : List Visit). at_it.done ++ uses_from k l) (sym none) ∙ at_it.whole in
    let left : length (left_in vs) ≡ 0 = ap (λ (l : List Visit). length (left_in l)) none in
    let total = at_it.ahead.total in
    let count : at_it.count ≡ node_count (program_of a) = omega (arith, left, total) in
    subst (λ (n : ℕ). AreFound (table_of a) (node_count (program_of a)) (types_of a) (uses_of (program_of a)) p.rows.items p.starts.items n)
    count
    (subst (λ (us : List GeneralUse). AreFound (table_of a) (node_count (program_of a)) (types_of a) us p.rows.items p.starts.items
    at_it.count) uses
    at_it.found)

pub begun : (a : Annotated) (p : Pass) → p.rows.items ≡ [] → p.starts.items ≡ 0 ∷ [] → IsMatching (table_of a) p.matching
    → HasGeneral p.definitions none_known → IsAhead (program_of a) (types_of a) none_known (visits_of_items (program_of a).items) 0
    → IsAt a none_known (visits_of_items (program_of a).items) p
begun a p rows starts matching general ahead = record {
  matching = matching;
  general = general;
  count = 0;
  ahead = ahead;
  done = [];
  whole = refl;
  found = subst (λ (rs : List ℕ). AreFound (table_of a) (node_count (program_of a)) (types_of a) [] rs p.starts.items 0) (sym rows)
      (subst (λ (ss : List ℕ). AreFound (table_of a) (node_count (program_of a)) (types_of a) [] [] ss 0) (sym starts)
      (found_none (table_of a) (node_count (program_of a)) (types_of a)));
}

-- ---- what the calls of a walk ask for

pub matching_merely : (a : Annotated) (v : Visit) (p : Pass) → ∥ ((k : Known) × (vs : List Visit) × IsAt a k (v ∷ vs) p) ∥₁
    → IsMatching (table_of a) p.matching
matching_merely a v p there = ∥∥₁_elim there (Prim.hlevel props) (λ h. h.2.matching)

pub use_merely : (a : Annotated) (v : Visit) (p : Pass) → ∥ ((k : Known) × (vs : List Visit) × IsAt a k (v ∷ vs) p) ∥₁
    → ∥ ((k : Known) × HasGeneral p.definitions k × IsUseIf (program_of a) (types_of a) (use_at k v)) ∥₁
use_merely a v p there =
    ∥∥₁_map there (λ h. (h.0, h.2.general, is_use (program_of a) (types_of a) h.0 v h.1 h.2.count h.2.ahead))

abbrev places : Option (ℕ × ℕ) → ℕ × ℕ
places None = (0, 0)
places (Some p) = p

use_there : (s : Scoping) (types : ℕ → MlType) (o : Option GeneralUse) (u : Use) → Some (use_view u) ≡ option_map place_in o
    → IsUseIf s types o → IsUse s types u.node u.binder
use_there s types None u e h = absurd (cc)
use_there s types (Some g) u e h =
    let same : (u.node, u.binder) ≡ (g.node, g.binder) = ap places e in
    subst (λ (p : ℕ × ℕ). IsUse s types p.0 p.1) (sym same) h

pub use_found : (s : Scoping) (types : ℕ → MlType) (d : Generalised) (v : Visit) (u : Use)
    → ((k : Known) → HasGeneral d k → Some (use_view u) ≡ option_map place_in (use_at k v))
    → ∥ ((k : Known) × HasGeneral d k × IsUseIf s types (use_at k v)) ∥₁ → ∥ IsUse s types u.node u.binder ∥₁
use_found s types d v u same used =
    ∥∥₁_map used (λ h. use_there s types (use_at h.0 v) u (same h.0 h.1) h.2)

pub becomes_merely : (s : Scoping) (all others : List MlType) (types : ℕ → MlType) (node binder d r : ℕ) → others ≡ all
    → at all r ≡ types node → at all d ≡ types (node_count s + binder) → ∥ IsUse s types node binder ∥₁ → ∥ ((by : ℕ → MlType) × Becomes others by d r) ∥₁
becomes_merely s all others types node binder d r same node_is binder_is used =
    ∥∥₁_map used
    (λ u. (
      u.copied.0,
      subst (λ (l : List MlType). Becomes l u.copied.0 d r) (sym same)
          (node_is ∙ u.copied.1 ∙ sym (ap (put u.copied.0) binder_is)),
    ))
