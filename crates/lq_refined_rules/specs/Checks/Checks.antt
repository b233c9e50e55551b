-- The typing rules as a judgement: a program checks under an assignment. A constructor is a row.
use Rattle.std.specs.Prelude.{◌≡◌, ℕ, Bool, true, false, List, [], ◌∷◌}
use Rattle.lq_base_names.specs.declared.place.Place.{Place}
use Rattle.lq_refined_types.specs.Parts.Assignment.{Assignment, Implied}
use Rattle.lq_refined_types.specs.Parts.Part.{known}
use Rattle.lq_logic_predicates.specs.Formula.{Formula, falsity, negation}
use Rattle.lq_refined_types.specs.Types.Context.{guard, Context}
use Rattle.lq_refined_types.specs.Types.Refined.{Refined, unit_type, Refineds, argument_of, element_of}
use Rattle.lq_refined_types.specs.Subtyping.Splitting.{first_of, rest_of}
use Rattle.lq_refined_types.specs.Subtyping.Subtype.{facts, IsSubtype}
use Rattle.lq_refined_rules.specs.Checks.Basis.{Basis}
use Rattle.lq_refined_rules.specs.Checks.Binders.{IsNewName, AreNewNames}
use Rattle.lq_refined_rules.specs.Checks.Match.{is_data_match, matched_constructors, in_arm, missing_context}
use Rattle.lq_refined_rules.specs.Checks.Operation.{in_range, not_zero, not_negative, element_at, type_of, field_types, bind, body_context, body_type, recursive_context, recursive_type, last_context, last_type}
use Rattle.lq_refined_rules.specs.Checks.Pure.{formula_of, type_of_use, pure_type}
use Rattle.lq_refined_rules.specs.Checks.Tree.{Use, Pure, Pattern, names_of, is_arm_of, takes_all, has_default, passes_on, has_template, Operation, pure, fun, if_else, match_on, call, tuple, build, make, fetch, store, divide, remainder, assert, assert_false, read, print, map_empty, map_add, map_find, Block, last, binding, recursive, Arms, no_arms, arm, Program, no_items, define, define_recursive, run_unit, run_any}

-- a demand: the environment implies the predicate
abbrev pub Demanded : Basis → Assignment → Context → Formula → Type 0
Demanded P A Γ p = Implied A (facts P.setting Γ) (known p)

-- each operand has a subtype of its type
abbrev pub AreArguments : Basis → Assignment → Context → List Pure → Refineds → Type 0
AreArguments P A Γ [] ts = Unit {0}
AreArguments P A Γ (e ∷ es) ts = IsSubtype P.setting A Γ (pure_type P Γ e) (first_of ts) × AreArguments P A Γ es (rest_of ts)

mutual
  -- The operation obeys its row. The branches of `if` and `match`, and the body of `fun`, are against the type, which is idle in the
  -- other rows.
  pub data Obeys (P : Basis) (A : Assignment) : Context → Operation → Refined → Type 0 where
    obeys_pure : {Γ : Context} {e : Pure} {t : Refined} → Obeys P A Γ (pure e) t
    obeys_fun : {Γ : Context} {p y : ℕ} {b : Block} {t : Refined} → IsNewName y Γ
        → Against P A (body_context Γ y t) b (body_type P.setting.scopes y t) → Obeys P A Γ (fun p y b) t
    -- the branches under the condition and under its negation
    obeys_if : {Γ : Context} {p : ℕ} {c : Pure} {a b : Block} {t : Refined} → Against P A (guard (known (formula_of c)) ∷ Γ) a t
        → Against P A (guard (known (negation (formula_of c))) ∷ Γ) b t → Obeys P A Γ (if_else p c a b) t
    -- on a datatype: its constructors, and then the first arm that takes all
    obeys_data_match : {Γ : Context} {p : ℕ} {u : Use} {arms : Arms} {t : Refined} → is_data_match P Γ u ≡ true
        → AreCases P A Γ u arms t (matched_constructors P Γ u) → IsDefault P A Γ u arms t → Obeys P A Γ (match_on p u arms) t
    -- on another type: the first arm alone
    obeys_other_match : {Γ : Context} {p : ℕ} {u : Use} {arms : Arms} {t : Refined} → is_data_match P Γ u ≡ false
        → IsFirst P A Γ u arms t → Obeys P A Γ (match_on p u arms) t
    obeys_call : {Γ : Context} {g a : Pure} {t : Refined} → IsSubtype P.setting A Γ (pure_type P Γ a) (argument_of (pure_type P Γ g))
        → Obeys P A Γ (call g a) t
    obeys_tuple : {Γ : Context} {es : List Pure} {t : Refined} → Obeys P A Γ (tuple es) t
    obeys_build : {Γ : Context} {p c : ℕ} {es : List Pure} {t : Refined} → AreArguments P A Γ es (field_types P Γ p c es)
        → Obeys P A Γ (build p c es) t
    obeys_make : {Γ : Context} {p : ℕ} {n e : Pure} {t : Refined} → Demanded P A Γ (not_negative n)
        → IsSubtype P.setting A Γ (pure_type P Γ e) (P.template p) → Obeys P A Γ (make p n e) t
    obeys_fetch : {Γ : Context} {u : Use} {i : Pure} {t : Refined} → Demanded P A Γ (in_range u i) → Obeys P A Γ (fetch u i) t
    obeys_store : {Γ : Context} {u : Use} {i e : Pure} {t : Refined} → Demanded P A Γ (in_range u i)
        → IsSubtype P.setting A Γ (pure_type P Γ e) (element_of (type_of_use P Γ u)) → Obeys P A Γ (store u i e) t
    obeys_divide : {Γ : Context} {x y : Pure} {t : Refined} → Demanded P A Γ (not_zero y) → Obeys P A Γ (divide x y) t
    obeys_remainder : {Γ : Context} {x y : Pure} {t : Refined} → Demanded P A Γ (not_zero y) → Obeys P A Γ (remainder x y) t
    obeys_assert : {Γ : Context} {e : Pure} {t : Refined} → Demanded P A Γ (formula_of e) → Obeys P A Γ (assert e) t
    obeys_assert_false : {Γ : Context} {p : ℕ} {t : Refined} → Demanded P A Γ falsity → Obeys P A Γ (assert_false p) t
    obeys_read : {Γ : Context} {e : Pure} {t : Refined} → Obeys P A Γ (read e) t
    obeys_print : {Γ : Context} {e : Pure} {t : Refined} → Obeys P A Γ (print e) t
    obeys_map_empty : {Γ : Context} {p : ℕ} {t : Refined} → Obeys P A Γ (map_empty p) t
    -- the value at the key, and then the map
    obeys_map_add : {Γ : Context} {p : ℕ} {k e m : Pure} {t : Refined}
        → IsSubtype P.setting A Γ (pure_type P Γ e) (element_at P.setting.scopes k (P.template p))
        → IsSubtype P.setting A Γ (pure_type P Γ m) (P.template p) → Obeys P A Γ (map_add p k e m) t
    obeys_map_find : {Γ : Context} {k m : Pure} {t : Refined} → Obeys P A Γ (map_find k m) t

  -- the block against a type
  pub data Against (P : Basis) (A : Assignment) : Context → Block → Refined → Type 0 where
    against_last : {Γ : Context} {l : Place} {o : Operation} {t : Refined} → Obeys P A Γ o t
        → (passes_on o ≡ false → IsSubtype P.setting A Γ (type_of P Γ o) t) → Against P A Γ (last l o) t
    against_binding : {Γ : Context} {x : ℕ} {l : Place} {o : Operation} {b : Block} {t : Refined} → Obeys P A Γ o (type_of P Γ o)
        → IsNewName x Γ → Against P A (bind x (type_of P Γ o) Γ) b t → Against P A Γ (binding x l o b) t
    against_recursive : {Γ : Context} {g p y : ℕ} {b c : Block} {t : Refined} → IsRecursive P A Γ g p y b
        → Against P A (bind g (P.template p) Γ) c t → Against P A Γ (recursive g p y b c) t

  -- the function g of the parameter y against its template, in which it is itself known by it
  pub data IsRecursive (P : Basis) (A : Assignment) : Context → ℕ → ℕ → ℕ → Block → Type 0 where
    is_recursive : {Γ : Context} {g p y : ℕ} {b : Block} → IsNewName g Γ → IsNewName y (bind g (P.template p) Γ)
        → Against P A (recursive_context P Γ g p y) b (recursive_type P p y)
        → IsRecursive P A Γ g p y b

  pub data AreCases (P : Basis) (A : Assignment) : Context → Use → Arms → Refined → List ℕ → Type 0 where
    cases_none : {Γ : Context} {u : Use} {arms : Arms} {t : Refined} → AreCases P A Γ u arms t []
    cases_more : {Γ : Context} {u : Use} {arms : Arms} {t : Refined} {c : ℕ} {cs : List ℕ} → IsCase P A Γ u (has_default arms) c t arms
        → AreCases P A Γ u arms t cs → AreCases P A Γ u arms t (c ∷ cs)

  -- the first arm that names the constructor; where none does, and no arm takes all, the constructor is impossible
  pub data IsCase (P : Basis) (A : Assignment) : Context → Use → Bool → ℕ → Refined → Arms → Type 0 where
    case_here : {Γ : Context} {u : Use} {d : Bool} {c : ℕ} {t : Refined} {q : Pattern} {b : Block} {arms : Arms} → is_arm_of c q ≡ true
        → AreNewNames (names_of q) Γ → Against P A (in_arm P Γ u q) b t → IsCase P A Γ u d c t (arm q b arms)
    case_later : {Γ : Context} {u : Use} {d : Bool} {c : ℕ} {t : Refined} {q : Pattern} {b : Block} {arms : Arms} → is_arm_of c q ≡ false
        → IsCase P A Γ u d c t arms → IsCase P A Γ u d c t (arm q b arms)
    case_default : {Γ : Context} {u : Use} {c : ℕ} {t : Refined} → IsCase P A Γ u true c t no_arms
    case_missing : {Γ : Context} {u : Use} {c : ℕ} {t : Refined}
        → Demanded P A (missing_context P Γ u c) falsity → IsCase P A Γ u false c t no_arms

  -- the first arm that takes all, where there is one
  pub data IsDefault (P : Basis) (A : Assignment) : Context → Use → Arms → Refined → Type 0 where
    default_none : {Γ : Context} {u : Use} {t : Refined} → IsDefault P A Γ u no_arms t
    default_here : {Γ : Context} {u : Use} {t : Refined} {q : Pattern} {b : Block} {arms : Arms} → takes_all q ≡ true
        → AreNewNames (names_of q) Γ → Against P A (in_arm P Γ u q) b t → IsDefault P A Γ u (arm q b arms) t
    default_later : {Γ : Context} {u : Use} {t : Refined} {q : Pattern} {b : Block} {arms : Arms} → takes_all q ≡ false
        → IsDefault P A Γ u arms t → IsDefault P A Γ u (arm q b arms) t

  pub data IsFirst (P : Basis) (A : Assignment) : Context → Use → Arms → Refined → Type 0 where
    first_none : {Γ : Context} {u : Use} {t : Refined} → IsFirst P A Γ u no_arms t
    first_arm : {Γ : Context} {u : Use} {t : Refined} {q : Pattern} {b : Block} {arms : Arms} → AreNewNames (names_of q) Γ
        → Against P A (in_arm P Γ u q) b t → IsFirst P A Γ u (arm q b arms) t

-- a block of which no type is expected
pub data Gives (P : Basis) (A : Assignment) : Context → Block → Type 0 where
  gives_last : {Γ : Context} {l : Place} {o : Operation} → Obeys P A Γ o (type_of P Γ o) → Gives P A Γ (last l o)
  gives_binding : {Γ : Context} {x : ℕ} {l : Place} {o : Operation} {b : Block} → Obeys P A Γ o (type_of P Γ o) → IsNewName x Γ
      → Gives P A (bind x (type_of P Γ o) Γ) b → Gives P A Γ (binding x l o b)
  gives_recursive : {Γ : Context} {g p y : ℕ} {b c : Block} → IsRecursive P A Γ g p y b → Gives P A (bind g (P.template p) Γ) c
      → Gives P A Γ (recursive g p y b c)

-- the program checks in the environment under the assignment
pub data Checks (P : Basis) (A : Assignment) : Context → Program → Type 0 where
  checks_none : {Γ : Context} → Checks P A Γ no_items
  checks_define : {Γ : Context} {x k : ℕ} {l : Place} {b : Block} {rest : Program} → Gives P A Γ b
      → (has_template b ≡ true → IsSubtype P.setting A (last_context P Γ b) (last_type P Γ b) (P.template k))
      → IsNewName x (last_context P Γ b) → Checks P A (bind x (last_type P Γ b) (last_context P Γ b)) rest
      → Checks P A Γ (define x l k b rest)
  checks_recursive : {Γ : Context} {g p y : ℕ} {b : Block} {rest : Program} → IsRecursive P A Γ g p y b
      → Checks P A (bind g (P.template p) Γ) rest → Checks P A Γ (define_recursive g p y b rest)
  checks_unit : {Γ : Context} {b : Block} {rest : Program} → Against P A Γ b unit_type → Checks P A Γ rest
      → Checks P A Γ (run_unit b rest)
  checks_any : {Γ : Context} {b : Block} {rest : Program} → Gives P A Γ b → Checks P A Γ rest → Checks P A Γ (run_any b rest)
