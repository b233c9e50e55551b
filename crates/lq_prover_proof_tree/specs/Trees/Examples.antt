-- Small implications with the trees that prove them.
use Rattle.std.specs.Prelude.{true, false, List, [], ◌∷◌}
use Rattle.lq_logic_rows.specs.Row.{Row}
use Rattle.lq_prover_proof_tree.specs.Literals.Parts.{applications_in}
use Rattle.lq_logic_predicates.specs.ClosedImplication.{ClosedImplication}
use Rattle.lq_logic_predicates.specs.Formula.{Formula, flag, conjunction}
use Rattle.lq_logic_predicates.specs.Reading.{Readings, flag_is, none, more}
use Rattle.lq_logic_predicates.specs.declared.symbol.Symbol.{Symbol}
use Rattle.lq_prover_proof_tree.specs.Trees.Path.{flag_fact, Path, nothing, with_fact, with_choice, IsOpening}
use Rattle.lq_prover_proof_tree.specs.Trees.Proves.{Numbering, Proves}
use Rattle.lq_prover_proof_tree.specs.Trees.Tree as tree
use Rattle.lq_prover_proof_tree.specs.Trees.Tree.{Tree, leaf, any, flags}

abbrev pub implication : List Formula → Formula → ClosedImplication
implication hs g = record { hypotheses = hs; goal = g }

-- no terms, and the applications of the implication
abbrev pub numbering_of : ClosedImplication → Numbering
numbering_of i = record { terms = []; applications = applications_in i }

-- the tree proves the implication, whose opening path is this one
abbrev pub IsProvedBy : ClosedImplication → Path → Tree → Type 0
IsProvedBy i path t = IsOpening [] i path × Proves (numbering_of i) path t

-- A flag follows from itself: the first fact and the second give it two values.
abbrev pub itself : Symbol → ClosedImplication
itself x = implication (flag x ∷ []) (flag x)

abbrev pub itself_path : Symbol → Path
itself_path x = with_fact (with_fact nothing (flag_fact x true)) (flag_fact x false)

-- Two flags follow from both: the negated goal is a choice, and each of its members clashes with a fact.
abbrev pub both : Symbol → Symbol → ClosedImplication
both x y = implication (flag x ∷ (flag y ∷ [])) (conjunction (flag x) (flag y))

abbrev pub one_is_false : Symbol → Symbol → Readings Row
one_is_false x y = more (flag_is x false) (more (flag_is y false) none)

abbrev pub both_path : Symbol → Symbol → Path
both_path x y = with_choice (with_fact (with_fact nothing (flag_fact x true)) (flag_fact y true)) (one_is_false x y)

abbrev pub both_tree : Tree
both_tree = any 1 (tree.more (leaf (flags 1 3)) (tree.more (leaf (flags 2 3)) tree.none))
