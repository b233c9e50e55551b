-- Where the binders of a program differ, each is new where it is bound, over the names of environments alone.
use Rattle.std.proofs.Common.{◌≡◌, ℕ, Bool, true, false, ◌==◌, List, [], ◌∷◌, ◌++◌, refl, sym, ◌∙◌, subst, append_assoc}
use Rattle.std.proofs.lemmas.Bool.{eqb-true, eq-eqb}
use Rattle.lq_refined_rules.specs.Checks.Binders.{IsNotIn, AllDiffer, operation_binders, block_binders, arms_binders, binders}
use Rattle.lq_refined_rules.specs.Checks.Tree.{names_of, Operation, fun, if_else, match_on, Block, last, binding, recursive, Arms, no_arms, arm, Program, no_items, define, define_recursive, run_unit, run_any}

abbrev pub AreNotIn : List ℕ → List ℕ → Type 0
AreNotIn ns [] = Unit {0}
AreNotIn ns (x ∷ xs) = IsNotIn ns x × AreNotIn (x ∷ ns) xs

abbrev pub with_names : List ℕ → List ℕ → List ℕ
with_names [] ns = ns
with_names (x ∷ xs) ns = with_names xs (x ∷ ns)

abbrev mutual
  pub NewInOperation : List ℕ → Operation → Type 0
  NewInOperation ns (fun p y b) = IsNotIn ns y × NewInBlock (y ∷ ns) b
  NewInOperation ns (if_else p c a b) = NewInBlock ns a × NewInBlock ns b
  NewInOperation ns (match_on p u arms) = NewInArms ns arms
  NewInOperation ns _ = Unit {0}

  pub NewInBlock : List ℕ → Block → Type 0
  NewInBlock ns (last l o) = NewInOperation ns o
  NewInBlock ns (binding x l o b) = NewInOperation ns o × IsNotIn ns x × NewInBlock (x ∷ ns) b
  NewInBlock ns (recursive g p y b c) = IsNotIn ns g × IsNotIn (g ∷ ns) y × NewInBlock (y ∷ g ∷ ns) b × NewInBlock (g ∷ ns) c

  pub NewInArms : List ℕ → Arms → Type 0
  NewInArms ns no_arms = Unit {0}
  NewInArms ns (arm q b arms) = AreNotIn ns (names_of q) × NewInBlock (with_names (names_of q) ns) b × NewInArms ns arms

abbrev pub last_names : List ℕ → Block → List ℕ
last_names ns (last l o) = ns
last_names ns (binding x l o b) = last_names (x ∷ ns) b
last_names ns (recursive g p y b c) = last_names (g ∷ ns) c

abbrev pub NewInProgram : List ℕ → Program → Type 0
NewInProgram ns no_items = Unit {0}
NewInProgram ns (define x l k b rest) = NewInBlock ns b × IsNotIn (last_names ns b) x × NewInProgram (x ∷ last_names ns b) rest
NewInProgram ns (define_recursive g p y b rest) = IsNotIn ns g × IsNotIn (g ∷ ns) y × NewInBlock (y ∷ g ∷ ns) b × NewInProgram (g ∷ ns) rest
NewInProgram ns (run_unit b rest) = NewInBlock ns b × NewInProgram ns rest
NewInProgram ns (run_any b rest) = NewInBlock ns b × NewInProgram ns rest

-- none of the second list is in the first
abbrev Apart : List ℕ → List ℕ → Type 0
Apart ns [] = Unit {0}
Apart ns (x ∷ xs) = IsNotIn ns x × Apart ns xs

true_not : true ≡ false → ⊥
true_not h = cc

same_back : (x y : ℕ) → (y == x) ≡ false → (x == y) ≡ false
same_back x y h = by (x == y) refl
  where
    by : (b : Bool) → (x == y) ≡ b → (x == y) ≡ false
    by false e = e
    by true e = absurd (true_not (sym (eq-eqb y x (sym (eqb-true x y e))) ∙ h))

not_first : (x : ℕ) (xs ys : List ℕ) → IsNotIn (xs ++ ys) x → IsNotIn xs x
not_first x [] ys n = tt
not_first x (y ∷ xs) ys n = (n.0, not_first x xs ys n.1)

not_rest : (x : ℕ) (xs ys : List ℕ) → IsNotIn (xs ++ ys) x → IsNotIn ys x
not_rest x [] ys n = n
not_rest x (y ∷ xs) ys n = not_rest x xs ys n.1

apart_first : (ns xs ys : List ℕ) → Apart ns (xs ++ ys) → Apart ns xs
apart_first ns [] ys a = tt
apart_first ns (x ∷ xs) ys a = (a.0, apart_first ns xs ys a.1)

apart_rest : (ns xs ys : List ℕ) → Apart ns (xs ++ ys) → Apart ns ys
apart_rest ns [] ys a = a
apart_rest ns (x ∷ xs) ys a = apart_rest ns xs ys a.1

differ_first : (xs ys : List ℕ) → AllDiffer (xs ++ ys) → AllDiffer xs
differ_first [] ys d = tt
differ_first (x ∷ xs) ys d = (not_first x xs ys d.0, differ_first xs ys d.1)

differ_rest : (xs ys : List ℕ) → AllDiffer (xs ++ ys) → AllDiffer ys
differ_rest [] ys d = d
differ_rest (x ∷ xs) ys d = differ_rest xs ys d.1

-- one more name that the list lacks
apart_more : (x : ℕ) (ns xs : List ℕ) → IsNotIn xs x → Apart ns xs → Apart (x ∷ ns) xs
apart_more x ns [] n a = tt
apart_more x ns (y ∷ xs) n a = ((same_back x y n.0, a.0), apart_more x ns xs n.1 a.1)

apart_names : (xs ns ys : List ℕ) → AllDiffer (xs ++ ys) → Apart ns ys → Apart (with_names xs ns) ys
apart_names [] ns ys d a = a
apart_names (x ∷ xs) ns ys d a = apart_names xs (x ∷ ns) ys d.1 (apart_more x ns ys (not_rest x xs ys d.0) a)

new_names : (xs ns : List ℕ) → AllDiffer xs → Apart ns xs → AreNotIn ns xs
new_names [] ns d a = tt
new_names (x ∷ xs) ns d a = (a.0, new_names xs (x ∷ ns) d.1 (apart_more x ns xs d.0 a.1))

mutual
  new_operation : (ns : List ℕ) (o : Operation) → AllDiffer (operation_binders o) → Apart ns (operation_binders o) → NewInOperation ns o
  new_operation ns (fun p y b) d a = (a.0, new_block (y ∷ ns) b d.1 (apart_more y ns (block_binders b) d.0 a.1))
  new_operation ns (if_else p c e b) d a =
      let es = block_binders e in
      let bs = block_binders b in
      (new_block ns e (differ_first es bs d) (apart_first ns es bs a), new_block ns b (differ_rest es bs d) (apart_rest ns es bs a))
  new_operation ns (match_on p u arms) d a = new_arms ns arms d a
  new_operation ns _ d a = tt

  new_block : (ns : List ℕ) (b : Block) → AllDiffer (block_binders b) → Apart ns (block_binders b) → NewInBlock ns b
  new_block ns (last l o) d a = new_operation ns o d a
  new_block ns (binding x l o b) d a =
      let os = operation_binders o in
      let bs = block_binders b in
      let e = differ_rest os (x ∷ bs) d in
      let r = apart_rest ns os (x ∷ bs) a in
      let first = new_operation ns o (differ_first os (x ∷ bs) d) (apart_first ns os (x ∷ bs) a) in
      (first, r.0, new_block (x ∷ ns) b e.1 (apart_more x ns bs e.0 r.1))
  new_block ns (recursive g p y b c) d a =
      let bs = block_binders b in
      let cs = block_binders c in
      let m = apart_more g ns (y ∷ (bs ++ cs)) d.0 a.1 in
      let k = apart_more y (g ∷ ns) bs (not_first y bs cs d.1.0) (apart_first (g ∷ ns) bs cs m.1) in
      let rest = new_block (g ∷ ns) c (differ_rest bs cs d.1.1) (apart_rest (g ∷ ns) bs cs m.1) in
      (a.0, m.0, new_block (y ∷ g ∷ ns) b (differ_first bs cs d.1.1) k, rest)

  new_arms : (ns : List ℕ) (arms : Arms) → AllDiffer (arms_binders arms) → Apart ns (arms_binders arms) → NewInArms ns arms
  new_arms ns no_arms d a = tt
  new_arms ns (arm q b arms) d a =
      let xs = names_of q in
      let bs = block_binders b in
      let e = differ_first (xs ++ bs) (arms_binders arms) d in
      let r = apart_first ns (xs ++ bs) (arms_binders arms) a in
      let body = new_block (with_names xs ns) b (differ_rest xs bs e) (apart_names xs ns bs e (apart_rest ns xs bs r)) in
      let rest = new_arms ns arms (differ_rest (xs ++ bs) (arms_binders arms) d) (apart_rest ns (xs ++ bs) (arms_binders arms) a) in
      (new_names xs ns (differ_first xs bs e) (apart_first ns xs bs r), body, rest)

-- what a list and a block's binders lack, the names at the block's end lack
apart_last : (b : Block) (ns ys : List ℕ) → AllDiffer (block_binders b ++ ys) → Apart ns ys → Apart (last_names ns b) ys
apart_last (last l o) ns ys d a = a
apart_last (binding x l o b) ns ys d a =
    let os = operation_binders o in
    let bs = block_binders b in
    let e : AllDiffer (x ∷ (bs ++ ys)) = differ_rest os (x ∷ (bs ++ ys)) (subst AllDiffer (append_assoc os (x ∷ bs) ys) d) in
    apart_last b (x ∷ ns) ys e.1 (apart_more x ns ys (not_rest x bs ys e.0) a)
apart_last (recursive g p y b c) ns ys d a =
    let bs = block_binders b in
    let cs = block_binders c in
    let e : AllDiffer (cs ++ ys) = differ_rest bs (cs ++ ys) (subst AllDiffer (append_assoc bs cs ys) d.1.1) in
    apart_last c (g ∷ ns) ys e (apart_more g ns ys (not_rest g (bs ++ cs) ys d.0.1) a)

new_program : (ns : List ℕ) (p : Program) → AllDiffer (binders p) → Apart ns (binders p) → NewInProgram ns p
new_program ns no_items d a = tt
new_program ns (define x l k b rest) d a =
    let bs = block_binders b in
    let ps = binders rest in
    let e = differ_rest bs (x ∷ ps) d in
    let r = apart_last b ns (x ∷ ps) d (apart_rest ns bs (x ∷ ps) a) in
    let first = new_block ns b (differ_first bs (x ∷ ps) d) (apart_first ns bs (x ∷ ps) a) in
    (first, r.0, new_program (x ∷ last_names ns b) rest e.1 (apart_more x (last_names ns b) ps e.0 r.1))
new_program ns (define_recursive g p y b rest) d a =
    let bs = block_binders b in
    let ps = binders rest in
    let m = apart_more g ns (y ∷ (bs ++ ps)) d.0 a.1 in
    let k = apart_more y (g ∷ ns) bs (not_first y bs ps d.1.0) (apart_first (g ∷ ns) bs ps m.1) in
    let others = new_program (g ∷ ns) rest (differ_rest bs ps d.1.1) (apart_rest (g ∷ ns) bs ps m.1) in
    (a.0, m.0, new_block (y ∷ g ∷ ns) b (differ_first bs ps d.1.1) k, others)
new_program ns (run_unit b rest) d a =
    let bs = block_binders b in
    let ps = binders rest in
    (new_block ns b (differ_first bs ps d) (apart_first ns bs ps a), new_program ns rest (differ_rest bs ps d) (apart_rest ns bs ps a))
new_program ns (run_any b rest) d a =
    let bs = block_binders b in
    let ps = binders rest in
    (new_block ns b (differ_first bs ps d) (apart_first ns bs ps a), new_program ns rest (differ_rest bs ps d) (apart_rest ns bs ps a))

apart_nothing : (xs : List ℕ) → Apart [] xs
apart_nothing [] = tt
apart_nothing (x ∷ xs) = (tt, apart_nothing xs)

pub all_new : (p : Program) → AllDiffer (binders p) → NewInProgram [] p
all_new p d = new_program [] p d (apart_nothing (binders p))
