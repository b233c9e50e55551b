-- What a walk over a program meets may add to the weight of what the program becomes.
use Rattle.std.proofs.Common.{◌≡◌, ℕ, ◌+◌, List, [], ◌∷◌, ◌++◌, arith}
use Rattle.lq_text_tree.specs.Pattern.{Pattern}
use Rattle.lq_text_tree.specs.Tree.{Tree}
use Rattle.lq_text_tree.specs.TreeView.{Recursive}
use Rattle.lq_text_walk.specs.Walk.Visits.{Visit, enter_item, leave_item, enter, leave, leave_function, declare, show, hide, show_name, hide_name, under, in_function}
use Rattle.lq_sound_scope.proofs.NameCountsLemmas.Weights.{blanks}

-- A parameter that is a tuple becomes a match of its own.
abbrev pub cost : Visit → ℕ
cost (enter t) = 2
cost (declare q) = 5 + blanks q
cost (show_name f) = 0
cost (leave_function r) = 0
cost (leave t) = 0
cost (show q) = 0
cost (hide q) = 0
cost (hide_name f) = 0
cost (enter_item i) = 0
cost (leave_item i) = 0

abbrev pub costs : List Visit → ℕ
costs [] = 0
costs (v ∷ vs) = cost v + costs vs

pub costs-append : (vs ws : List Visit) → costs (vs ++ ws) ≡ costs vs + costs ws
costs-append [] ws = omega arith
costs-append (v ∷ vs) ws = let more = costs-append vs ws in omega (arith, more)

pub costs-under : (q : Pattern) (vs : List Visit) → costs (under q vs) ≡ costs vs
costs-under q vs = let more = costs-append vs (hide q ∷ []) in omega (arith, more)

-- a node with the visits of its parts
pub around-costs : (t : Tree) (vs : List Visit) → costs (enter t ∷ (vs ++ leave t ∷ [])) ≡ 2 + costs vs
around-costs t vs = let more = costs-append vs (leave t ∷ []) in omega (arith, more)

pub function-costs : (r : Recursive) (vs : List Visit) → costs (in_function r vs) ≡ 5 + (blanks r.parameter + costs vs)
function-costs r vs =
    let both = costs-append (under r.parameter vs) (leave_function r ∷ []) in let same = costs-under r.parameter vs in omega (arith, both, same)

pub recursive-costs : (t : Tree) (f : ℕ) (r : Recursive) (vs ws : List Visit)
    → costs (enter t ∷ ((show_name f ∷ (in_function r vs ++ (ws ++ hide_name f ∷ []))) ++ leave t ∷ [])) ≡ 7 + (blanks r.parameter + (costs vs + costs ws))
recursive-costs t f r vs ws =
    let all = around-costs t (show_name f ∷ (in_function r vs ++ (ws ++ hide_name f ∷ []))) in
    let both = costs-append (in_function r vs) (ws ++ hide_name f ∷ []) in let end = costs-append ws (hide_name f ∷ []) in
    let function = function-costs r vs in
    omega (arith, all, both, end, function)
