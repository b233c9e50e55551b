-- What a match asks for, and what clauses on results give.
use Rattle.std.proofs.Common.{Result, Ok, Err, IfOk, ◌≡◌, ℕ, ◌<◌, Bool, true, false, cond, List, [], ◌∷◌, ◌++◌, length, get_or, Option, Some, None, refl, sym, ap, subst, ◌∙◌, arith}
use Rattle.lq_refined_rules.specs.Checks.Basis.{Basis}
use Rattle.lq_refined_rules.specs.Checks.Match.{is_data_match, matched_constructors}
use Rattle.lq_refined_rules.specs.Checks.Operation.{body_context, body_type}
use Rattle.lq_refined_rules.specs.Checks.Tree as t
use Rattle.lq_refined_rules.specs.Checks.Tree.{has_default}
use Rattle.lq_base_names.specs.declared.name.Name.{Name}
use Rattle.lq_base_names.specs.declared.place.Place.{Place}
use Rattle.lq_refined_rules.specs.Obligations.Obligation.{Obligation}
use Rattle.lq_refined_rules.specs.Obligations.Obligations.{each, of_block, of_constructor, of_default, of_first, of_operation}
use Rattle.lq_refined_types.specs.Parts.Part.{Scopes}
use Rattle.lq_refined_templates.specs.Programs.BlockView.{arms_view}
use Rattle.lq_refined_templates.specs.declared.programs.block.Arm.{Arm}
use Rattle.lq_refined_types.specs.Types.Context.{Context}
use Rattle.lq_refined_types.specs.Types.Refined.{Refined}
use Rattle.lq_generate_operations.specs.Basis.Basis.{constructors_at}
use Rattle.lq_generate_operations.specs.declared.basis.basis.Basis as held
use Rattle.lq_generate_implications.specs.Walk.Choosing.{of_arm, IsMatched}
use Rattle.lq_generate_implications.proofs.WalkLemmas.Chosen.{arms-cons}

-- what a clause on a result gives
pub if-ok : {T E : Type 0} {P Q : T → Type 0} (r : Result T E) → IfOk r P → ((x : T) → P x → Q x) → IfOk r Q
if-ok (Ok x) p f = f x p
if-ok (Err e) p f = tt

-- ---- a match

by-cond : (d : Bool) (xs ys : List Obligation) → d ≡ true → xs ≡ cond d xs ys
by-cond true xs ys e = refl
by-cond false xs ys e = absurd (cc)

by-other : (d : Bool) (xs ys : List Obligation) → d ≡ false → ys ≡ cond d xs ys
by-other true xs ys e = absurd (cc)
by-other false xs ys e = refl

module _ (P : Basis) (Γ : Context) (l : Place) (p : ℕ) (u : t.Use) (arms : t.Arms) (r : Refined) where
  pub match-first : is_data_match P Γ u ≡ false → of_first P Γ u arms r ≡ of_operation P Γ l (t.match_on p u arms) r
  match-first e = by-other (is_data_match P Γ u) _ (of_first P Γ u arms r) e

  pub match-data : (cs : List ℕ) → is_data_match P Γ u ≡ true → matched_constructors P Γ u ≡ cs
      → each (λ c. of_constructor P Γ l u (has_default arms) c r arms) cs ++ of_default P Γ u arms r ≡ of_operation P Γ l (t.match_on p u arms) r
  match-data cs e f =
      ap (λ k. each (λ c. of_constructor P Γ l u (has_default arms) c r arms) k ++ of_default P Γ u arms r) (sym f)
      ∙ by-cond (is_data_match P Γ u) _ (of_first P Γ u arms r) e

-- what is known of a match's variable, by what was found
pub matched-none : (P : Basis) (Γ : Context) (b : held.Basis) (u : t.Use) (o : Option Name) → o ≡ None → IsMatched P Γ b u o → is_data_match P Γ u ≡ false
matched-none P Γ b u None e h = h
matched-none P Γ b u (Some n) e h = absurd (cc)

pub matched-some : (P : Basis) (Γ : Context) (b : held.Basis) (u : t.Use) (o : Option Name) (n : Name) → o ≡ Some n → IsMatched P Γ b u o
    → (is_data_match P Γ u ≡ true) × (matched_constructors P Γ u ≡ constructors_at b.declared.now n.0)
matched-some P Γ b u None n e h = absurd (cc)
matched-some P Γ b u (Some m) n e h = let s : m ≡ n = cc in subst (λ k. (is_data_match P Γ u ≡ true) × (matched_constructors P Γ u ≡ constructors_at b.declared.now k.0)) s h

-- ---- a function

pub fun-asks : (P : Basis) (Γ : Context) (l : Place) (p y : ℕ) (b : t.Block) (r : Refined) (S : Scopes) → P.setting.scopes ≡ S
    → of_block P (body_context Γ y r) b (body_type S y r) ≡ of_operation P Γ l (t.fun p y b) r
fun-asks P Γ l p y b r S e = sym (ap (λ z. of_block P (body_context Γ y r) b (body_type z y r)) e)
