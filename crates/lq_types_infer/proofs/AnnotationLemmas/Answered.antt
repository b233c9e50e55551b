-- What is answered of a program by the types of its slots.
use Rattle.std.specs.Option.{option_map}
use Rattle.std.specs.Prelude.{All, slice_index_or}
use Rattle.std.proofs.Common.{◌≡◌, ℕ, ◌<◌, List, length, map, Option, None, Some, sym, ap, subst, ◌∙◌}
use Rattle.std.proofs.lemmas.List.{length-map}
use Rattle.lq_base_names.specs.declared.place.Place.{Place}
use Rattle.lq_text_tree.specs.MlType as ml
use Rattle.lq_text_tree.specs.MlType.{MlType}
use Rattle.lq_text_tree.specs.Types.{put}
use Rattle.lq_text_walk.specs.Walk.Visits.{visits_of_items}
use Rattle.lq_types_rules.specs.declared.equations.system.System.{System}
use Rattle.lq_types_infer.specs.Solution.Slots.{AreTypesOf}
use Rattle.lq_text_walk.specs.Scoped.Scoping.{Scoping, IsScoped}
use Rattle.lq_types_rules.specs.Visits.Laws.{slot_count, OwnSlots}
use Rattle.lq_types_infer.specs.Inference.Inferring.{IsSolved}
use Rattle.lq_types_rules.specs.Typings.Inference.{typed, weak, past, IsInference}
use Rattle.lq_types_rules.specs.Typings.Principal.{node_count, first_weak, first_past, placed_in}
use Rattle.lq_types_infer.specs.Annotation.Laws.{AreVariablesApart}
use Rattle.lq_types_infer.specs.Annotation.Naming.{names_in, NumbersItem, NamedIsInference}
use Rattle.lq_types_infer.specs.Annotation.Refusing.{large_view}
use Rattle.lq_types_infer.specs.Annotation.Seen.{IsSeen, SeenArePrincipal, SeenAreWeak, SeenVariablesAreApart}
use Rattle.lq_types_infer.specs.Annotation.Slots.{slot_types, AreRows}
use Rattle.lq_types_infer.specs.declared.annotation.refusals.Large.{Large}
use Rattle.lq_types_infer.proofs.AnnotationLemmas.Renamed.{renamed_table}

-- ---- a table for the slots

module _ (s : Scoping) (all : List MlType) (rows : List ℕ) where
  module _ (slots : ℕ) (types : ℕ → MlType) (count : slots ≡ slot_count s) (h : AreTypesOf all rows slots types) where
    pub rows_of_table : AreRows all rows (slot_count s)
    rows_of_table = record { long = h.long ∙ count; inside = h.inside }

    pub seen_in_table : (equations : System) → IsSolved s equations types → IsSeen s (slot_types all rows)
    seen_in_table equations solved = record {
      equations = equations;
      types = types;
      solved = solved;
      same = λ j low. h.same j (subst (λ (n : ℕ). j < n) (sym count) low);
    }

  -- ---- the answers

  module _ (scoped : IsScoped s) (seen : IsSeen s (slot_types all rows)) where
    pub weak_answer : SeenAreWeak → (near : List ℕ) (found : Option Place) (p : Place) → near ≡ rows → found ≡ Some p
        → found ≡ first_weak (slot_types all near) s.items → IsInference s (weak p)
    weak_answer law near found p same is e =
        law s (slot_types all rows) p scoped seen (sym (sym is ∙ e ∙ ap (λ (rs : List ℕ). first_weak (slot_types all rs) s.items) same))

    module _ (near : List ℕ) (found : Option Place) (same : near ≡ rows) (none : found ≡ None)
        (e : found ≡ first_weak (slot_types all near) s.items) where
      no_weak : first_weak (slot_types all rows) s.items ≡ None
      no_weak = sym (sym none ∙ e ∙ ap (λ (rs : List ℕ). first_weak (slot_types all rs) s.items) same)

      pub apart_here : SeenVariablesAreApart → (owner : ℕ → ℕ) → OwnSlots (node_count s) (slot_count s) owner 0 s.items
          → AreVariablesApart s (slot_types all rows) owner
      apart_here law owner own = law s (slot_types all rows) scoped seen no_weak owner own

      module _ (principal : SeenArePrincipal) (last : List ℕ) (large : Option Large) (as_before : last ≡ rows)
          (sizes : option_map large_view large ≡ first_past (slot_types all last) (placed_in (visits_of_items s.items))) where
        past_is : option_map large_view large ≡ first_past (slot_types all rows) (placed_in (visits_of_items s.items))
        past_is = sizes ∙ ap (λ (rs : List ℕ). first_past (slot_types all rs) (placed_in (visits_of_items s.items))) as_before

        pub past_answer : (l : Large) → large ≡ Some l → IsInference s (past l.place l.size)
        past_answer l is =
            (slot_types all rows, principal s (slot_types all rows) scoped seen no_weak, no_weak, sym past_is ∙ ap (option_map large_view) is)

        pub typed_answer : NamedIsInference → (renamed : List MlType) (mine ns given : List ℕ) → large ≡ None → mine ≡ rows → given ≡ ns
            → All (NumbersItem (node_count s) (slot_types all mine) (names_in ns)) s.items
            → renamed ≡ map (put (λ v. ml.var (slice_index_or given v v))) all
            → IsInference s (typed (slot_types renamed rows))
        typed_answer law renamed mine ns given small are is_given numbers is =
            renamed_table law s all renamed rows ns
            (is ∙ ap (λ (ms : List ℕ). map (put (λ v. ml.var (slice_index_or ms v v))) all) is_given)
            (principal s (slot_types all rows) scoped seen no_weak) no_weak (sym past_is ∙ ap (option_map large_view) small)
            (subst (λ (rs : List ℕ). All (NumbersItem (node_count s) (slot_types all rs) (names_in ns)) s.items) are numbers)

-- the rows stay in range where the table is renamed
pub renamed_rows : (all renamed : List MlType) (rows ns : List ℕ) (slots : ℕ)
    → renamed ≡ map (put (λ v. ml.var (slice_index_or ns v v))) all → AreRows all rows slots → AreRows renamed rows slots
renamed_rows all renamed rows ns slots is h = record {
  long = h.long;
  inside =
      let same : length renamed ≡ length all = ap length is ∙ length-map all (put (λ v. ml.var (slice_index_or ns v v))) in
      subst (λ (n : ℕ). All (λ r. r < n) rows) (sym same) h.inside;
}
