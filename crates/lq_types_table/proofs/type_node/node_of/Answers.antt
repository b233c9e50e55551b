use Rattle.std.proofs.Common.{◌≡◌, ℕ, [], ◌∷◌, length, Some, get_or, refl, sym, ap, ◌∙◌, arith}
use Rattle.lq_types_table.specs.declared.type_node.TypeHead.{TypeHead}
use Rattle.lq_types_table.specs.Heads.{made, each, arity, IsRight}
use Rattle.lq_types_table.specs.Nodes.{at}
use Rattle.lq_types_table.proofs.Heads.{none_there, one_there, two_there}
use Rattle.lq_types_table.proofs.type_node.node_of.Goals as goal

many : (h g : TypeHead) (n k : ℕ) → h ≡ g → arity g ≡ Some k → IsRight h n → n ≡ k
many h g n k e a right = right k (ap arity e ∙ a)

pub bounds-parts-0 : goal.bounds-parts-0
bounds-parts-0 c = let n = many c.args.head _ (length c.args.parts.now) 2 c.in-Arrow.is refl c.requires in omega arith

pub bounds-parts-1 : goal.bounds-parts-1
bounds-parts-1 c = let n = many c.args.head _ (length c.args.parts.now) 2 c.in-Arrow.is refl c.requires in omega arith

pub bounds-parts-0-in-Array : goal.bounds-parts-0-in-Array
bounds-parts-0-in-Array c = let n = many c.args.head _ (length c.args.parts.now) 1 c.in-Array.is refl c.requires in omega arith

pub bounds-parts-0-in-Map : goal.bounds-parts-0-in-Map
bounds-parts-0-in-Map c = let n = many c.args.head _ (length c.args.parts.now) 1 c.in-Map.is refl c.requires in omega arith

pub returns-in-Int-clause-parts : goal.returns-in-Int-clause-parts
returns-in-Int-clause-parts c = none_there c.args.parts.now (many c.args.head _ (length c.args.parts.now) 0 c.in-Int.is refl c.requires)

pub returns-in-Bool-clause-parts : goal.returns-in-Bool-clause-parts
returns-in-Bool-clause-parts c = none_there c.args.parts.now (many c.args.head _ (length c.args.parts.now) 0 c.in-Bool.is refl c.requires)

pub returns-in-Unit-clause-parts : goal.returns-in-Unit-clause-parts
returns-in-Unit-clause-parts c = none_there c.args.parts.now (many c.args.head _ (length c.args.parts.now) 0 c.in-Unit.is refl c.requires)

pub returns-in-Arrow-clause-parts : goal.returns-in-Arrow-clause-parts
returns-in-Arrow-clause-parts c = two_there c.args.parts.now (many c.args.head _ (length c.args.parts.now) 2 c.in-Arrow.is refl c.requires)

pub returns-in-Array-clause-parts : goal.returns-in-Array-clause-parts
returns-in-Array-clause-parts c = one_there c.args.parts.now (many c.args.head _ (length c.args.parts.now) 1 c.in-Array.is refl c.requires)

pub returns-in-Map-clause-parts : goal.returns-in-Map-clause-parts
returns-in-Map-clause-parts c = one_there c.args.parts.now (many c.args.head _ (length c.args.parts.now) 1 c.in-Map.is refl c.requires)

pub returns-in-Arrow-clause-types : goal.returns-in-Arrow-clause-types
returns-in-Arrow-clause-types c = λ all.
    let there = two_there c.args.parts.now (many c.args.head _ (length c.args.parts.now) 2 c.in-Arrow.is refl c.requires) in
    ap (λ h. made h (each (at all) (get_or c.args.parts.now 0 0 ∷ get_or c.args.parts.now 1 0 ∷ []))) (sym c.in-Arrow.is)
    ∙ ap (λ l. made c.args.head (each (at all) l)) there

pub returns-in-Array-clause-types : goal.returns-in-Array-clause-types
returns-in-Array-clause-types c = λ all.
    let there = one_there c.args.parts.now (many c.args.head _ (length c.args.parts.now) 1 c.in-Array.is refl c.requires) in
    ap (λ h. made h (each (at all) (get_or c.args.parts.now 0 0 ∷ []))) (sym c.in-Array.is) ∙ ap (λ l. made c.args.head (each (at all) l)) there

pub returns-in-Map-clause-types : goal.returns-in-Map-clause-types
returns-in-Map-clause-types c = λ all.
    let there = one_there c.args.parts.now (many c.args.head _ (length c.args.parts.now) 1 c.in-Map.is refl c.requires) in
    ap (λ h. made h (each (at all) (get_or c.args.parts.now 0 0 ∷ []))) (sym c.in-Map.is) ∙ ap (λ l. made c.args.head (each (at all) l)) there
