-- Lets of a normal form, and what becomes of patterns.
use Rattle.std.proofs.Common.{◌≡◌, ℕ, ◌+◌, Bool, true, false, if◌then◌else◌, List, [], ◌∷◌, ◌++◌, refl}
use Rattle.lq_base_names.specs.declared.place.Place.{Place}
use Rattle.lq_text_tree.specs.Pattern as p
use Rattle.lq_text_tree.specs.Pattern.{Pattern, pattern, Patterns}
use Rattle.lq_text_tree.specs.Tree.{Tree}
use Rattle.lq_meaning_normal_form.specs.Outcomes.Flattening.{Let, let_one, let_function, put_in}
use Rattle.lq_meaning_normal_form.specs.Outcomes.Naming.{stands, id_of, place_of, parameter, named_part, named_parts, named_pattern}
use Rattle.lq_meaning_normal_form.specs.Outcomes.Naming as naming
use Rattle.lq_meaning_normal_form.specs.Outcomes.OnePass.{Normal, tree_of, with_name, as_operand, as_scrutinee, body_under}
use Rattle.lq_meaning_normal_form.specs.Types.Written.{Takes}
use Rattle.lq_sound_readiness.specs.Reading.Normal.{IsName, is_name, AreNames, no_names, more_names, IsArm, arm_any, arm_name, arm_unit, arm_tuple, arm_build, IsPure, pure_use, IsUse, is_use, IsBlock, block_let, block_let_rec, block_operation, IsOperation}
use Rattle.lq_sound_readiness.specs.NormalReading.Suits.{AreParts, CanBeIndexed, IsFlat}

abbrev pub AreLets : List Let → Type 0
AreLets [] = Unit {0}
AreLets (let_one i l q e ∷ ls) = IsName q × IsOperation e × AreLets ls
AreLets (let_function i l f j m q b ∷ ls) = IsName q × IsBlock b × AreLets ls

pub lets_both : (ls ms : List Let) → AreLets ls → AreLets ms → AreLets (ls ++ ms)
lets_both [] ms h k = k
lets_both (let_one i l q e ∷ ls) ms h k = (h.0, h.1, lets_both ls ms h.2 k)
lets_both (let_function i l f j m q b ∷ ls) ms h k = (h.0, h.1, lets_both ls ms h.2 k)

pub block_of_lets : (ls : List Let) (t : Tree) → AreLets ls → IsOperation t → IsBlock (put_in ls t)
block_of_lets [] t h o = block_operation o
block_of_lets (let_one i l q e ∷ ls) t h o = block_let h.0 h.1 (block_of_lets ls t h.2 o)
block_of_lets (let_function i l f j m q b ∷ ls) t h o = block_let_rec h.0 h.1 (block_of_lets ls t h.2 o)

-- what a tree became
pub record IsNormal (t : Tree) (N : Normal) : Type 0 where
  pub lets : AreLets N.lets
  pub last : IsOperation N.last
  pub pure : stands t ≡ true → IsPure N.last
  pub used : naming.is_use t ≡ true → IsUse N.last

-- what an operand became
pub record IsOperand (t : Tree) (N : Normal) : Type 0 where
  pub lets : AreLets N.lets
  pub pure : IsPure N.last
  pub indexed : CanBeIndexed t → IsUse N.last

pub block_is : (t : Tree) (N : Normal) → IsNormal t N → IsBlock (tree_of N)
block_is t N h = block_of_lets N.lets N.last h.lets h.last

-- bound to the next made name
named_lets : (i : ℕ) (l : Place) (N : Normal) → AreLets N.lets → IsOperation N.last → AreLets (with_name i l N).lets
named_lets i l N h o = lets_both N.lets (let_one i l (pattern l (p.bind N.next)) N.last ∷ []) h (is_name, o, tt)

pub item_is : (i : ℕ) (l : Place) (t : Tree) (N : Normal) → IsNormal t N → IsOperand t (with_name i l N)
item_is i l t N h = record { lets = named_lets i l N h.lets h.last; pure = pure_use; indexed = λ c. is_use }

pub operand_is : (t : Tree) (N : Normal) → IsNormal t N → IsOperand t (as_operand t N)
operand_is t N h = by (stands t) refl
  where
    by : (b : Bool) → stands t ≡ b → IsOperand t (if b then N else with_name (id_of t) (place_of t) N)
    by true e = record { lets = h.lets; pure = h.pure e; indexed = λ c. h.used (c e) }
    by false e = item_is (id_of t) (place_of t) t N h

-- a scrutinee is a variable
pub record IsScrutinee (N : Normal) : Type 0 where
  pub lets : AreLets N.lets
  pub used : IsUse N.last

pub scrutinee_is : (t : Tree) (N : Normal) → IsNormal t N → IsScrutinee (as_scrutinee t N)
scrutinee_is t N h = by (naming.is_use t) refl
  where
    by : (b : Bool) → naming.is_use t ≡ b → IsScrutinee (if b then N else with_name (id_of t) (place_of t) N)
    by true e = record { lets = h.lets; used = h.used e }
    by false e = record { lets = named_lets (id_of t) (place_of t) N h.lets h.last; used = is_use }

-- ---- patterns

pub parameter_is : (k : ℕ) (q : Pattern) → IsName (parameter k q)
parameter_is k (pattern l p.any) = is_name
parameter_is k (pattern l (p.bind x)) = is_name
parameter_is k (pattern l p.nothing) = is_name
parameter_is k (pattern l (p.tuple_of qs)) = is_name
parameter_is k (pattern l (p.build_of c m qs)) = is_name

pub under_same : (q : Pattern) (k : ℕ) (N : Normal) → Takes q → body_under k q N ≡ N
under_same (pattern l p.any) k N takes = refl
under_same (pattern l (p.bind x)) k N takes = refl
under_same (pattern l p.nothing) k N takes = refl
under_same (pattern l (p.tuple_of qs)) k N takes = cc
under_same (pattern l (p.build_of c m qs)) k N takes = cc

parts_are : (k : ℕ) (qs : Patterns) → AreParts qs → AreNames (named_parts k qs).parts
parts_are k p.no_patterns h = no_names
parts_are k (p.more_patterns (pattern l p.any) qs) h = more_names is_name (parts_are (k + 1) qs h.1)
parts_are k (p.more_patterns (pattern l (p.bind x)) qs) h = more_names is_name (parts_are k qs h.1)
parts_are k (p.more_patterns (pattern l p.nothing) qs) h = elim h.0 [ ]
parts_are k (p.more_patterns (pattern l (p.tuple_of ps)) qs) h = elim h.0 [ ]
parts_are k (p.more_patterns (pattern l (p.build_of c m ps)) qs) h = elim h.0 [ ]

pub arm_is : (k : ℕ) (q : Pattern) → IsFlat q → IsArm (named_pattern k q).pattern
arm_is k (pattern l p.any) h = arm_any
arm_is k (pattern l (p.bind x)) h = arm_name
arm_is k (pattern l p.nothing) h = arm_unit
arm_is k (pattern l (p.tuple_of qs)) h = arm_tuple (parts_are k qs h)
arm_is k (pattern l (p.build_of c m qs)) h = arm_build (parts_are k qs h)
