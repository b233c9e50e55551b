-- Which arm of a match is checked: what is asked for of it.
use Rattle.std.specs.Prelude.{◌≡◌, ℕ, ◌<◌, Bool, true, false, cond, List, [], Option, MatchOption, get_or, length}
use Rattle.lq_refined_rules.specs.Checks.Basis as checks
use Rattle.lq_refined_rules.specs.Checks.Match.{in_arm, is_data_match, matched_constructors, missing_context}
use Rattle.lq_refined_rules.specs.Checks.Listing.{from}
use Rattle.lq_refined_rules.specs.Checks.Tree as t
use Rattle.lq_base_names.specs.declared.name.Name.{Name}
use Rattle.lq_base_names.specs.declared.place.Place.{Place}
use Rattle.lq_refined_rules.specs.Obligations.Obligation.{Obligation}
use Rattle.lq_refined_rules.specs.Obligations.Obligations.{demand, of_block, of_constructor, of_default}
use Rattle.lq_refined_templates.specs.Programs.BlockView.{arms_view, block_view, pattern_view}
use Rattle.lq_refined_templates.specs.declared.programs.block.Arm.{Arm}
use Rattle.lq_logic_predicates.specs.Formula.{falsity}
use Rattle.lq_refined_types.specs.Types.Context.{Context}
use Rattle.lq_refined_types.specs.Types.Refined.{Refined}
use Rattle.lq_refined_types.specs.Subtyping.Implication.{of_case}
use Rattle.lq_generate_operations.specs.Basis.Basis.{constructors_at}
use Rattle.lq_generate_operations.specs.declared.basis.basis.Basis.{Basis}
use Rattle.lq_generate_implications.specs.Walk.Asking.{Asks, InContext}
use Rattle.lq_generate_implications.specs.declared.walk.walk.Walk.{Walk}

-- what an arm asks for
abbrev pub of_arm : checks.Basis → Context → t.Use → Arm → Refined → List Obligation
of_arm P Γ u a t = of_block P (in_arm P Γ u (pattern_view a.pattern)) (block_view a.body) t

-- what is asked for where no arm names a constructor
abbrev pub of_missing : checks.Basis → Context → Place → t.Use → Bool → ℕ → List Obligation
of_missing P Γ l u d c = cond d [] (demand P (missing_context P Γ u c) falsity (from l of_case))

-- by the number of the arm that names a constructor
pub record IsArmOf (c : ℕ) (arms : List Arm) (at : ℕ) : Type 0 where
  pub inside : at < length arms
  pub same : (P : checks.Basis) (Γ : Context) (l : Place) (u : t.Use) (d : Bool) (t : Refined) (a : Arm)
      → of_constructor P Γ l u d c t (arms_view arms) ≡ of_arm P Γ u (get_or arms at a) t

abbrev pub HasNoArmOf : ℕ → List Arm → Type 0
HasNoArmOf c arms = (P : checks.Basis) (Γ : Context) (l : Place) (u : t.Use) (d : Bool) (t : Refined)
    → of_constructor P Γ l u d c t (arms_view arms) ≡ of_missing P Γ l u d c

-- and of the first arm that takes all values
pub record IsDefault (arms : List Arm) (at : ℕ) : Type 0 where
  pub inside : at < length arms
  pub same : (P : checks.Basis) (Γ : Context) (u : t.Use) (t : Refined) (a : Arm) → of_default P Γ u (arms_view arms) t ≡ of_arm P Γ u (get_or arms at a) t

abbrev pub HasNoDefault : List Arm → Type 0
HasNoDefault arms = (P : checks.Basis) (Γ : Context) (u : t.Use) (t : Refined) → of_default P Γ u (arms_view arms) t ≡ []

-- the constructors of a match's variable are those of this datatype; where there is none, it is of no datatype
abbrev pub IsMatched : checks.Basis → Context → Basis → t.Use → Option Name → Type 0
IsMatched P Γ b u found =
    MatchOption found (is_data_match P Γ u ≡ false)
    (λ name. (is_data_match P Γ u ≡ true) × (matched_constructors P Γ u ≡ constructors_at b.declared.now name.0))

pub record Matches (b : Basis) (old new : Walk) (env : ℕ) (u : t.Use) (found : Option Name) : Type 0 where
  pub asks : Asks b old new env (λ P Γ. [])
  pub matched : (P : checks.Basis) (Γ : Context) → InContext P Γ b old env → IsMatched P Γ b u found
