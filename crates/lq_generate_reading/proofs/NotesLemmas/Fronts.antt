-- A type over the first types of a table is the same over all of them.
use Rattle.std.proofs.Common.{◌≡◌, ℕ, suc, ◌+◌, ◌<◌, List, [], ◌∷◌, ◌++◌, All, length, take, refl, sym, ap, ap₂, ◌∙◌, arith}
use Rattle.std.proofs.lemmas.List.{get_or-take, take_more}
use Rattle.lq_text_tree.specs.MlType as ml
use Rattle.lq_text_tree.specs.MlType.{MlType}
use Rattle.lq_types_table.specs.Heads.{each}
use Rattle.lq_types_table.specs.Nodes.{at}
use Rattle.lq_types_table.specs.Seen.{node_parts, node_type}
use Rattle.lq_types_table.specs.declared.type_node.TypeNode.{TypeNode}
use Rattle.lq_types_table.specs.declared.type_node.TypeNode.TheVariants as node

at_front : (all : List MlType) (n p : ℕ) → p < n → at (take n all) p ≡ at all p
at_front all n p h = get_or-take n all p ml.unit h

each_front : (all : List MlType) (n : ℕ) (ps : List ℕ) → All (λ p. p < n) ps → each (at (take n all)) ps ≡ each (at all) ps
each_front all n [] h = refl
each_front all n (p ∷ ps) h =
    ap₂ ml.more_types (at_front all n p (h 0 0 (omega arith))) (each_front all n ps (λ k d l. h (suc k) d (omega arith)))

node_front : (all : List MlType) (n : ℕ) (t : TypeNode) → All (λ p. p < n) (node_parts t) → node_type (take n all) t ≡ node_type all t
node_front all n node.Int h = refl
node_front all n node.Bool h = refl
node_front all n node.Unit h = refl
node_front all n (node.Var v) h = refl
node_front all n (node.Arrow a b) h = ap₂ ml.arrow (at_front all n a (h 0 0 (omega arith))) (at_front all n b (h 1 0 (omega arith)))
node_front all n (node.Tuple ps) h = ap ml.tuple (each_front all n ps.now h)
node_front all n (node.Array a) h = ap ml.array (at_front all n a (h 0 0 (omega arith)))
node_front all n (node.Named d ps) h = ap (ml.named d.0) (each_front all n ps.now h)
node_front all n (node.Map a) h = ap ml.map_of (at_front all n a (h 0 0 (omega arith)))

-- the first types and the next one
pub one_more : (all copy : List MlType) (n : ℕ) (t : TypeNode) → n < length all → copy ≡ take n all → node_type all t ≡ at all n
    → All (λ p. p < n) (node_parts t) → copy ++ node_type copy t ∷ [] ≡ take (n + 1) all
one_more all copy n t low same is parts =
    ap (λ c. c ++ node_type c t ∷ []) same ∙ ap (λ a. take n all ++ a ∷ []) (node_front all n t parts ∙ is) ∙ sym (take_more all n ml.unit low)
