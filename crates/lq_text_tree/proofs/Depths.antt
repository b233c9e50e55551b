-- The depth of trees in a row, one more at a time.
use Rattle.std.proofs.Common.{◌≡◌, ℕ, ◌+◌, ◌<◌, max, List, map, drop, get_or, length, ap, arith}
use Rattle.std.proofs.lemmas.List.{at_drop_more}
use Rattle.lq_text_tree.specs.Depth.{depth_of, greatest_depth, greatest_case_depth}
use Rattle.lq_text_tree.specs.Tree.{Tree}
use Rattle.lq_text_tree.specs.TreeView.{Case, cases_of, trees_of}

pub greatest_depth_more : {X : Type 0} (f : X → Tree) (xs : List X) (i : ℕ) (d : X) (m v r total : ℕ) → i < length xs → d ≡ get_or xs i d → v ≡ depth_of (f d) → r ≡ max v m → max m (greatest_depth (trees_of (map f (drop i xs)))) ≡ total → max r (greatest_depth (trees_of (map f (drop (i + 1) xs)))) ≡ total
greatest_depth_more f xs i d m v r total within is at best so_far =
    let a = at_drop_more (λ l. greatest_depth (trees_of (map f l))) xs i d within in
    let b = ap (λ x. depth_of (f x)) is in
    omega (arith, a, b)

pub greatest_case_depth_more : {X : Type 0} (f : X → Case) (xs : List X) (i : ℕ) (d : X) (m v r total : ℕ) → i < length xs → d ≡ get_or xs i d → v ≡ depth_of (f d).body → r ≡ max v m → max m (greatest_case_depth (cases_of (map f (drop i xs)))) ≡ total → max r (greatest_case_depth (cases_of (map f (drop (i + 1) xs)))) ≡ total
greatest_case_depth_more f xs i d m v r total within is at best so_far =
    let a = at_drop_more (λ l. greatest_case_depth (cases_of (map f l))) xs i d within in
    let b = ap (λ x. depth_of (f x).body) is in
    omega (arith, a, b)
