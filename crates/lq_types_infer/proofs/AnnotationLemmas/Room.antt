-- Room for the variables of the types of a table, row by row.
use Rattle.std.specs.Prelude.{All, IfSome, slice_index_or}
use Rattle.std.proofs.Common.{◌≡◌, ℕ, zero, suc, ◌+◌, ◌<◌, ◌≤◌, Bool, false, List, [], ◌∷◌, ◌++◌, Option, Some, ◌⊎◌, inl, inr, refl, sym, ap, subst, ◌∙◌, arith}
use Rattle.std.proofs.lemmas.Bool.{cases_eq}
use Rattle.std.proofs.lemmas.Option.{same_Some}
use Rattle.lq_text_tree.specs.MlType.{MlType}
use Rattle.lq_types_table.specs.declared.type_node.TypeHead.TheVariants as head
use Rattle.lq_types_table.specs.declared.type_node.TypeNode.{TypeNode}
use Rattle.lq_types_table.specs.declared.type_node.TypeNode.TheVariants as node
use Rattle.lq_types_table.specs.Nodes.{at}
use Rattle.lq_types_table.specs.Seen.{node_type, node_parts, IsOver}
use Rattle.lq_types_rules.specs.Typings.Uses.{Each}
use Rattle.lq_types_infer.specs.Annotation.Numbering.{variable_in}
use Rattle.lq_types_infer.proofs.AnnotationLemmas.Naming.{each_over, each_weaker}

-- no type is done
pub clear_push : (xs : List Bool) → ((r : ℕ) → slice_index_or xs r false ≡ false) → (r : ℕ) → slice_index_or (xs ++ false ∷ []) r false ≡ false
clear_push [] clear zero = refl
clear_push [] clear (suc r) = refl
clear_push (x ∷ xs) clear zero = clear 0
clear_push (x ∷ xs) clear (suc r) = clear_push xs (λ k. clear (suc k)) r

-- one level of a type stands over its parts
node_over : (all : List MlType) (i : ℕ) (n : TypeNode) → node_type all n ≡ at all i → IsOver all i (node_parts n)
node_over all i node.Int is = inr (head.Int, sym is, λ k e. same_Some 0 k e)
node_over all i node.Bool is = inr (head.Bool, sym is, λ k e. same_Some 0 k e)
node_over all i node.Unit is = inr (head.Unit, sym is, λ k e. same_Some 0 k e)
node_over all i (node.Var v) is = inl (v, sym is, refl)
node_over all i (node.Arrow a b) is = inr (head.Arrow, sym is, λ k e. same_Some 2 k e)
node_over all i (node.Tuple ps) is = inr (head.Tuple, sym is, λ k e. absurd (let h = e in cc))
node_over all i (node.Array a) is = inr (head.Array, sym is, λ k e. same_Some 1 k e)
node_over all i (node.Named d ps) is = inr (head.Named d, sym is, λ k e. absurd (let h = e in cc))
node_over all i (node.Map a) is = inr (head.Map, sym is, λ k e. same_Some 1 k e)

-- room for the variables of one more row
pub room_with_row : (all : List MlType) (row : ℕ) (n : TypeNode) (found : Option ℕ) (count old new : ℕ) → node_type all n ≡ at all row
    → All (λ p. p < row) (node_parts n) → found ≡ variable_in (node_type all n) → IfSome found (λ v. v < count) → count ≤ new → old ≤ new
    → ((r : ℕ) → r < row → Each (λ v. v < old) (at all r)) → (r : ℕ) → r < row + 1 → Each (λ v. v < new) (at all r)
room_with_row all row n found count old new is earlier one counted long longer before r low = by_cases (cases_eq r row)
  where
    widened : (k : ℕ) → k < row → Each (λ v. v < new) (at all k)
    widened k less = each_weaker (λ v. v < old) (λ v. v < new) (λ v h. omega (arith, h, longer)) (at all k) (before k less)

    own : (v : ℕ) → variable_in (at all row) ≡ Some v → v < new
    own v e =
        let found_is : found ≡ Some v = one ∙ ap variable_in is ∙ e in
        let small : v < count = subst (λ (o : Option ℕ). IfSome o (λ w. w < count)) found_is counted in
        omega (arith, small, long)

    by_cases : (r ≡ row) ⊎ (r ≡ row → ⊥) → Each (λ v. v < new) (at all r)
    by_cases (inl e) =
        subst (λ (k : ℕ). Each (λ v. v < new) (at all k)) (sym e)
        (each_over (λ v. v < new) all row (node_parts n) (node_over all row n is) earlier widened own)
    by_cases (inr other) = widened r (omega (arith, low, other))
