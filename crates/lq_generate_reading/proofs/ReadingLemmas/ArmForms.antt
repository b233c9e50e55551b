-- Arms, one after another.
use Rattle.std.proofs.Common.{◌≡◌, ◌∙◌, ℕ, ◌+◌, Bool, true, false, cond, List, [], ◌∷◌, ◌++◌, length, take, drop, refl, sym, ap, ap₂, subst, arith, rules}
use Rattle.std.proofs.lemmas.List.{map-append}
use Rattle.lq_meaning_normal_tree.specs.BlockView.{block_view, branch_view}
use Rattle.lq_meaning_normal_tree.specs.declared.block.Branch.{Branch, out-Branch}
use Rattle.lq_meaning_normal_tree.specs.declared.block.OperationNode.{the_lemmas}
use Rattle.lq_refined_rules.specs.Checks.Tree as t
use Rattle.lq_refined_rules.specs.Checks.Tree.{names_of}
use Rattle.lq_base_names.specs.declared.name.Binder.{Binder}
use Rattle.lq_refined_templates.specs.Programs.BlockView as made
use Rattle.lq_refined_templates.specs.declared.programs.block.Arm.{Arm, roll-Arm}
use Rattle.lq_refined_templates.specs.declared.programs.block.Binding.{the_lemmas as made_lemmas}
use Rattle.lq_refined_templates.specs.declared.programs.block.Block.{Block}
use Rattle.lq_refined_templates.specs.declared.programs.block.Pattern.{Pattern}
use Rattle.lq_refined_templates.specs.Points.Annotation.{Annotation}
use Rattle.lq_refined_templates.specs.Points.Point.{Point}
use Rattle.lq_refined_templates.specs.Points.Pure.{Read, after, with_two}
use Rattle.lq_refined_templates.specs.Points.Reading.{all_idled, arms_of, block_of, is_checked, pattern_of}
use Rattle.lq_refined_templates.specs.Points.Seen.{Seen, all_seen}
use Rattle.lq_text_tree.specs.Pattern as pattern
use Rattle.lq_text_tree.specs.PatternView.{pat_view}
use Rattle.lq_text_tree.specs.Tree.{Tree, Cases, more_cases}
use Rattle.lq_generate_reading.specs.Visibility.Growing.{Longer-trans}
use Rattle.lq_generate_reading.specs.declared.visibility.notes.Notes.{Notes}
use Rattle.lq_generate_reading.specs.Reading.Blocks.{arm_of, patterns_view}
use Rattle.lq_generate_reading.specs.Reading.Names.{Idles}
use Rattle.lq_generate_reading.specs.Reading.State.{points_in, scopes_of, Reads}
use Rattle.lq_generate_reading.specs.declared.reading.state.State.{State}

length-idled : (qs : List Point) → length (all_idled qs) ≡ length qs
length-idled [] = refl
length-idled (q ∷ qs) = let h = length-idled qs in omega arith

length-settled : (b : Bool) (qs : List Point) → length (cond b qs (all_idled qs)) ≡ length qs
length-settled true qs = refl
length-settled false qs = length-idled qs

-- what follows an arm behind what it is read as
pub arms_next : (n : Annotation) (k : ℕ) (Δ : List Seen) (qs : List t.Pattern) (r : pattern.Pattern) (b : Tree) (cs : Cases)
    → arms_of n k Δ qs (more_cases r b cs)
    ≡ with_two (arm_of n k Δ qs r b) (arms_of n (after k (arm_of n k Δ qs r b)) Δ (qs ++ pattern_of r ∷ []) cs) (λ a as_. t.arm a.pattern a.body as_)
arms_next n k Δ qs r b cs =
    let q = pattern_of r in
    let B = block_of n true k (all_seen (names_of q) Δ) b in
    ap
    (λ j. let rest = arms_of n j Δ (qs ++ q ∷ []) cs in
    record { read = t.arm q B.read rest.read; points = cond (is_checked qs q) B.points (all_idled B.points) ++ rest.points })
    (ap (λ j. k + j) (sym (length-settled (is_checked qs q) B.points)))

pub branch_seen : (b : Branch) → branch_view b ≡ record { pattern = pat_view Binder (λ x. x.0) (out-Branch b).pattern; body = block_view (out-Branch b).body }
branch_seen b = search (rules, the_lemmas)

pub made_arm : (q : Pattern) (b : Block) → made.arm_view (roll-Arm record { pattern = q; body = b }) ≡ record { pattern = made.pattern_view q; body = made.block_view b }
made_arm q b = search (rules, made_lemmas)

-- arms around those that follow
abbrev pub arms_onto : List Arm → t.Arms → t.Arms
arms_onto [] rest = rest
arms_onto (a ∷ as_) rest = t.arm (made.arm_view a).pattern (made.arm_view a).body (arms_onto as_ rest)

pub arms_onto-push : (xs : List Arm) (x : Arm) (rest : t.Arms) → arms_onto (xs ++ x ∷ []) rest ≡ arms_onto xs (t.arm (made.arm_view x).pattern (made.arm_view x).body rest)
arms_onto-push [] x rest = refl
arms_onto-push (y ∷ xs) x rest = ap (t.arm (made.arm_view y).pattern (made.arm_view y).body) (arms_onto-push xs x rest)

pub arms_onto-all : (xs : List Arm) → arms_onto xs t.no_arms ≡ made.arms_view xs
arms_onto-all [] = refl
arms_onto-all (x ∷ xs) = ap (t.arm (made.arm_view x).pattern (made.arm_view x).body) (arms_onto-all xs)

pub patterns-push : (xs : List Arm) (x : Arm) → patterns_view (xs ++ x ∷ []) ≡ patterns_view xs ++ (made.arm_view x).pattern ∷ []
patterns-push xs x = map-append (λ a. (made.arm_view a).pattern) xs (x ∷ [])

parts : {X : Type 0} (xs ys : List X) (k : ℕ) → k ≡ length xs → (take k (xs ++ ys) ≡ xs) × (drop k (xs ++ ys) ≡ ys)
parts {X} xs ys k e = (ap (λ j. take j (xs ++ ys)) e ∙ front xs, ap (λ j. drop j (xs ++ ys)) e ∙ back xs)
  where
    front : (zs : List X) → take (length zs) (zs ++ ys) ≡ zs
    front [] = refl
    front (z ∷ zs) = ap (λ l. z ∷ l) (front zs)

    back : (zs : List X) → drop (length zs) (zs ++ ys) ≡ ys
    back [] = refl
    back (z ∷ zs) = back zs

module _ (m : Notes) where
  -- the points of a part stay or are idle
  pub settled : {A : Type 0} (old mid new : State) (y : A) (r : Read A) (mark : ℕ) (stay : Bool) → mark ≡ length (points_in m old) → Reads m old mid y r
      → Idles m mid new mark stay → Reads m old new y (record { read = r.read; points = cond stay r.points (all_idled r.points) })
  settled old mid new y r mark stay e d s = record {
    read = d.read;
    points = s.points ∙ by stay;
    seen = s.seen ∙ d.seen;
    scopes = Longer-trans (scopes_of old) (scopes_of mid) (scopes_of new) d.scopes s.scopes;
    stands = s.stands;
  }
    where
      halves : (take mark (points_in m old ++ r.points) ≡ points_in m old) × (drop mark (points_in m old ++ r.points) ≡ r.points)
      halves = parts (points_in m old) r.points mark e

      by : (b : Bool) → cond b (points_in m mid) (take mark (points_in m mid) ++ all_idled (drop mark (points_in m mid))) ≡ points_in m old ++ cond b r.points (all_idled r.points)
      by true = d.points
      by false = ap (λ l. take mark l ++ all_idled (drop mark l)) d.points ∙ ap₂ (λ a b. a ++ all_idled b) halves.0 halves.1

-- an arm is done, with the points of its body
pub arm_done : (m : Notes) (old new : State) (n : Annotation) (k : ℕ) (Δ : List Seen) (qs : List t.Pattern) (q : t.Pattern) (r : pattern.Pattern) (y : t.Block)
    (e : Tree) (b : Bool) → q ≡ pattern_of r → b ≡ is_checked qs q
    → Reads m old new y (let B = block_of n true k (all_seen (names_of q) Δ) e in record { read = B.read; points = cond b B.points (all_idled B.points) })
    → Reads {A = made.Branch} m old new (record { pattern = q; body = y }) (arm_of n k Δ qs r e)
arm_done m old new n k Δ qs q r y e b p h d = subst (λ (w : t.Pattern). Reads m old new branch (arm_read_as w (is_checked qs w))) p
    (subst (λ (c : Bool). Reads m old new branch (arm_read_as q c)) h
    (record { read = ap body_as d.read; points = d.points; seen = d.seen; scopes = d.scopes; stands = d.stands }))
  where
    branch : made.Branch
    branch = record { pattern = q; body = y }

    body_as : t.Block → made.Branch
    body_as c = record { pattern = q; body = c }

    arm_read_as : t.Pattern → Bool → Read made.Branch
    arm_read_as w c = let B = block_of n true k (all_seen (names_of w) Δ) e in record { read = record { pattern = w; body = B.read }; points = cond c B.points (all_idled B.points) }
