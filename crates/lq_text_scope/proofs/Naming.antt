-- Names that become visible one after another, and those that are defined again.
use Rattle.std.proofs.Common.{◌≡◌, ℕ, ◌+◌, List, [], ◌∷◌, ◌++◌, map, take, reverse, Option, sym, ap, ◌∙◌}
use Rattle.std.proofs.lemmas.List.{append_assoc, append-nil, map-append, reverse-append}
use Rattle.lq_text_tree.specs.Items.{Named}
use Rattle.lq_text_tree.specs.Pattern.{Pattern}
use Rattle.lq_text_tree.specs.PatternView.{patterns_of}
use Rattle.lq_text_scope.specs.Complaints.{Complaint, least_with}
use Rattle.lq_text_scope.specs.Datatypes.{name_of}
use Rattle.lq_text_scope.specs.Known.{Arity}
use Rattle.lq_text_scope.specs.Patterns.{again, repeated, shown_name, shown_names, binders_in, binders_in_all, built_in, built_in_all}
use Rattle.lq_text_scope.specs.Views.{binding_view}
use Rattle.lq_text_scope.specs.declared.binders.Binding.{Binding}
use Rattle.lq_text_scope.proofs.Rows.{least_acts}

-- names that become visible before those that are
pub shows : List Arity → List Named → List Arity
shows known ns = shown_names ns ++ known

pub shown_first : (ns : List Named) (n : Named) → shown_names (ns ++ n ∷ []) ≡ shown_name n ∷ shown_names ns
shown_first ns n = ap reverse (map-append shown_name ns (n ∷ [])) ∙ reverse-append (map shown_name ns) (shown_name n ∷ [])

shown_last : (n : Named) (ns : List Named) (known : List Arity) → shown_names (n ∷ ns) ++ known ≡ shown_names ns ++ (shown_name n ∷ known)
shown_last n ns known =
    ap (λ (l : List Arity). l ++ known) (reverse-append (shown_name n ∷ []) (map shown_name ns)) ∙ append_assoc (shown_names ns) (shown_name n ∷ []) known

pub repeated_more : (known : List Arity) (ns : List Named) (n : Named)
    → repeated (map name_of known) (ns ++ n ∷ []) ≡ repeated (map name_of known) ns ++ again (map name_of (shown_names ns ++ known)) n
repeated_more known [] n = append-nil (again (map name_of known) n)
repeated_more known (m ∷ ns) n =
    ap (λ (l : List Complaint). again (map name_of known) m ++ l) (repeated_more (shown_name m ∷ known) ns n)
    ∙ sym (append_assoc (again (map name_of known) m) (repeated (map name_of (shown_name m ∷ known)) ns) (again (map name_of (shown_names ns ++ (shown_name m ∷ known))) n))
    ∙ ap (λ (l : List Arity). repeated (map name_of known) (m ∷ ns) ++ again (map name_of l) n) (sym (shown_last m ns known))

pub binders_more : (ps : List Pattern) (p : Pattern) → binders_in_all (patterns_of (ps ++ p ∷ [])) ≡ binders_in_all (patterns_of ps) ++ binders_in p
binders_more [] p = append-nil (binders_in p)
binders_more (q ∷ ps) p =
    ap (λ (l : List Named). binders_in q ++ l) (binders_more ps p) ∙ sym (append_assoc (binders_in q) (binders_in_all (patterns_of ps)) (binders_in p))

pub built_more : (known : List Arity) (ps : List Pattern) (p : Pattern) → built_in_all known (patterns_of (ps ++ p ∷ [])) ≡ built_in_all known (patterns_of ps) ++ built_in known p
built_more known [] p = append-nil (built_in known p)
built_more known (q ∷ ps) p =
    ap (λ (l : List Complaint). built_in known q ++ l) (built_more known ps p)
    ∙ sym (append_assoc (built_in known q) (built_in_all known (patterns_of ps)) (built_in known p))

pub repeats : (known now later : List Arity) (bs : List Binding) (at : ℕ) (x : Binding) (base old new : Option Complaint) → take (at + 1) bs ≡ take at bs ++ x ∷ []
    → now ≡ shown_names (map binding_view (take at bs)) ++ known → later ≡ shown_name (binding_view x) ∷ now
    → old ≡ least_with base (repeated (map name_of known) (map binding_view (take at bs))) → new ≡ least_with old (again (map name_of now) (binding_view x))
    → (later ≡ shown_names (map binding_view (take (at + 1) bs)) ++ known) × (new ≡ least_with base (repeated (map name_of known) (map binding_view (take (at + 1) bs))))
repeats known now later bs at x base old new longer shown next found then =
    let ns = map binding_view (take at bs) in
    let more : map binding_view (take (at + 1) bs) ≡ ns ++ binding_view x ∷ [] = ap (map binding_view) longer ∙ map-append binding_view (take at bs) (x ∷ []) in (
      next ∙ ap (λ (l : List Arity). shown_name (binding_view x) ∷ l) shown ∙ sym (ap (λ (l : List Arity). l ++ known) (ap shown_names more ∙ shown_first ns (binding_view x))),
      then ∙ ap (λ (b : Option Complaint). least_with b (again (map name_of now) (binding_view x))) found
          ∙ sym (least_acts base (repeated (map name_of known) ns) (again (map name_of now) (binding_view x)))
          ∙ ap (λ (l : List Arity). least_with base (repeated (map name_of known) ns ++ again (map name_of l) (binding_view x))) shown
          ∙ sym (ap (least_with base) (ap (repeated (map name_of known)) more ∙ repeated_more known ns (binding_view x))),
    )
