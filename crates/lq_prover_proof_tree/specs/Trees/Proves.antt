-- When a proof tree proves a path: a constructor for each form of tree.
use Rattle.std.specs.Prelude.{◌≡◌, ℕ, suc, Bool, true, false, not, List, [], ◌∷◌, Some, None}
use Rattle.lq_logic_rows.specs.Contradiction.{Tagged, IsContradiction}
use Rattle.lq_logic_rows.specs.Row.{Row}
use Rattle.lq_base_numbers.specs.Rationals.Rational.{ℚ}
use Rattle.lq_base_names.specs.declared.name.Name.{Name}
use Rattle.lq_logic_predicates.specs.Comparison.{Comparison, IsRowOf}
use Rattle.lq_logic_predicates.specs.Literals.{equal_row, below_row}
use Rattle.lq_logic_predicates.specs.Reading as reading
use Rattle.lq_logic_predicates.specs.Reading.{Reading, Readings}
use Rattle.lq_logic_predicates.specs.Sum.{Sum, mul, div, rem, len, measure}
use Rattle.lq_logic_predicates.specs.Table.{literal_of}
use Rattle.lq_logic_predicates.specs.declared.symbol.Symbol.{Symbol}
use Rattle.lq_prover_proof_tree.specs.Trees.Path.{Fact, row_fact, flag_fact, objects_fact, never, Path, with_fact, with_rows, taken, numbered_at}
use Rattle.lq_prover_proof_tree.specs.Trees.Tree.{Clash, rows, flags, merges, Tree, any, apart, equal, absurdity, leaf, Trees, none, more}

-- the terms by which rows number theirs, and the applications that trees number from 1
pub record Numbering : Type 0 where
  pub terms : List Sum
  pub applications : List Sum

-- a product with a literal is no application
abbrev pub AreNoLiterals : Sum → Sum → Type 0
AreNoLiterals a b = (literal_of a ≡ None) × (literal_of b ≡ None)

-- The first and the fourth are applications of one of `*`, `/` and `mod`, each to the two behind it.
pub data ApplyTwo : Sum → Sum → Sum → Sum → Sum → Sum → Type 0 where
  products : (a b c d : Sum) → AreNoLiterals a b → AreNoLiterals c d → ApplyTwo (mul a b) a b (mul c d) c d
  quotients : (a b c d : Sum) → ApplyTwo (div a b) a b (div c d) c d
  remainders : (a b c d : Sum) → ApplyTwo (rem a b) a b (rem c d) c d

-- The first and the third are lengths or values of one measure, each of the object behind it.
pub data ApplyOne : Sum → Sum → Sum → Sum → Type 0 where
  lengths : (a b : Sum) → ApplyOne (len a) a (len b) b
  measures : (f : Name) (a b : Sum) → ApplyOne (measure f a) a (measure f b) b

-- Two objects are joined by the facts of these numbers: each says of two objects that they are one, and they form a chain from the
-- one to the other. No facts join an object to itself.
pub data AreJoined (facts : List Fact) : List ℕ → Sum → Sum → Type 0 where
  itself : (a : Sum) → AreJoined facts [] a a
  onward : (t : ℕ) (ts : List ℕ) (a b c : Sum) → numbered_at facts t ≡ Some (objects_fact a b true) → AreJoined facts ts b c
      → AreJoined facts (t ∷ ts) a c
  backward : (t : ℕ) (ts : List ℕ) (a b c : Sum) → numbered_at facts t ≡ Some (objects_fact b a true) → AreJoined facts ts b c
      → AreJoined facts (t ∷ ts) a c

-- the rows among the facts, each under its number, where the first fact has the number n
abbrev pub rows_from : ℕ → List Fact → Tagged
rows_from n [] = []
rows_from n (row_fact r ∷ fs) = (n, r) ∷ rows_from (suc n) fs
rows_from n (flag_fact x sign ∷ fs) = rows_from (suc n) fs
rows_from n (objects_fact a b sign ∷ fs) = rows_from (suc n) fs
rows_from n (never ∷ fs) = rows_from (suc n) fs

abbrev pub rows_among : List Fact → Tagged
rows_among facts = rows_from 1 facts

-- Two facts are rows that sum to a contradiction, give one flag two values, or say of two objects that others join that they differ.
pub data Clashes (facts : List Fact) : Clash → Type 0 where
  rows_clash : (ms : List (ℕ × ℚ)) → IsContradiction (rows_among facts) ms → Clashes facts (rows ms)
  flags_clash : (t u : ℕ) (x : Symbol) (sign : Bool) → numbered_at facts t ≡ Some (flag_fact x sign)
      → numbered_at facts u ≡ Some (flag_fact x (not sign)) → Clashes facts (flags t u)
  merges_clash : (t : ℕ) (ts : List ℕ) (a b : Sum) → numbered_at facts t ≡ Some (objects_fact a b false) → AreJoined facts ts a b
      → Clashes facts (merges t ts)

-- the rows of these comparisons
abbrev pub AreRowsOf : List Sum → List Comparison → List Row → Type 0
AreRowsOf terms [] [] = Unit {0}
AreRowsOf terms (c ∷ cs) (r ∷ rs) = IsRowOf terms c r × AreRowsOf terms cs rs
AreRowsOf terms [] (r ∷ rs) = ⊥
AreRowsOf terms (c ∷ cs) [] = ⊥

-- The five ways in which two applications s of a, b and t of c, d stand: the arguments and the results are equal, or a first argument
-- plus 1 is at most the other, one way round or the other, or a second one.
abbrev pub five_ways : Sum → Sum → Sum → Sum → Sum → Sum → List (List Comparison)
five_ways s a b t c d =
    (equal_row a c ∷ (equal_row b d ∷ (equal_row s t ∷ [])))
    ∷ ((below_row a c ∷ []) ∷ ((below_row c a ∷ []) ∷ ((below_row b d ∷ []) ∷ ((below_row d b ∷ []) ∷ []))))

mutual
  pub data Proves (n : Numbering) : Path → Tree → Type 0 where
    by_any : (p : Path) (k : ℕ) (members : Readings Row) (trees : Trees) → numbered_at p.choices k ≡ Some members
        → ProvesEach n p members trees → Proves n p (any k trees)
    by_apart : (p : Path) (i j : ℕ) (s a b t c d : Sum) (trees : Trees) → numbered_at n.applications i ≡ Some s
        → numbered_at n.applications j ≡ Some t → ApplyTwo s a b t c d → ProvesWays n p (five_ways s a b t c d) trees
        → Proves n p (apart i j trees)
    by_equal : (p : Path) (i j : ℕ) (tags : List ℕ) (s a t b : Sum) (r : Row) (tree : Tree) → numbered_at n.applications i ≡ Some s
        → numbered_at n.applications j ≡ Some t → ApplyOne s a t b → AreJoined p.facts tags a b → IsRowOf n.terms (equal_row s t) r
        → Proves n (with_fact p (row_fact r)) tree → Proves n p (equal i j tags tree)
    by_absurdity : (p : Path) (t : ℕ) → numbered_at p.facts t ≡ Some never → Proves n p (absurdity t)
    by_clash : (p : Path) (c : Clash) → Clashes p.facts c → Proves n p (leaf c)

  -- one tree for each of some readings: it proves the path with that reading taken
  pub data ProvesEach (n : Numbering) : Path → Readings Row → Trees → Type 0 where
    each_none : (p : Path) → ProvesEach n p reading.none none
    each_more : (p : Path) (r : Reading Row) (rs : Readings Row) (tree : Tree) (trees : Trees) → Proves n (taken p r) tree
        → ProvesEach n p rs trees → ProvesEach n p (reading.more r rs) (more tree trees)

  -- one tree for each of some lists of comparisons: it proves the path with their rows as its next facts
  pub data ProvesWays (n : Numbering) : Path → List (List Comparison) → Trees → Type 0 where
    ways_none : (p : Path) → ProvesWays n p [] none
    ways_more : (p : Path) (cs : List Comparison) (ways : List (List Comparison)) (rs : List Row) (tree : Tree) (trees : Trees)
        → AreRowsOf n.terms cs rs → Proves n (with_rows p rs) tree → ProvesWays n p ways trees → ProvesWays n p (cs ∷ ways) (more tree trees)
