-- The state of a path: one more fact, and the first ones.
use Rattle.std.proofs.Common.{◌≡◌, ℕ, zero, suc, ◌+◌, ◌≤◌, ◌<◌, List, [], ◌∷◌, ◌++◌, Option, Some, None, Bool, true, ◌⊎◌, inl, inr, refl, sym, ap, subst, ◌∙◌, arith, length, take, slice_get, get_or}
use Rattle.std.specs.Prelude.{pos}
use Rattle.std.specs.Option.{IfSome, IfNone}
use Rattle.std.proofs.lemmas.List.{take-take, take_all, take_at, take-append-le, length-take-le, length-append, append-nil}
use Rattle.std.proofs.lemmas.Option.{slice_get_within, slice_get-get_or}
use Rattle.lq_logic_rows.specs.Contradiction.{Tagged, IsContradiction, Solves}
use Rattle.lq_logic_rows.specs.Row.{Row as LinearRow}
use Rattle.lq_logic_predicates.specs.Sum.{Sum, whole}
use Rattle.lq_logic_predicates.specs.declared.symbol.Symbol.{Symbol}
use Rattle.lq_prover_proof_tree.specs.Trees.Path.{Fact, row_fact, flag_fact, objects_fact, never}
use Rattle.lq_prover_proof_tree.specs.Trees.Proves.{Clashes, rows_clash, flags_clash, rows_from, rows_among}
use Rattle.lq_prover_proof_tree.specs.Trees.Tree.{flags}
use Rattle.lq_prover_proof_tree.specs.Trees.TreeView.{clash_of, multiplier_items, multiplier_views}
use Rattle.lq_prover_proof_tree.specs.declared.trees.tree.CaseProof.{CaseProof}
use Rattle.lq_prover_proof_tree.specs.declared.trees.tree.Multipliers.{Multipliers}
use Rattle.lq_prover_case.specs.State.Flags.{AreFlagsOf, GivenNow, first, again, other, IsFlagClash, clash_after}
use Rattle.lq_prover_case.specs.State.PathState.{facts_of, AreNumbered, IsPast, HasPasts, IsPathState, IsByRows, IsByFlags}
use Rattle.lq_prover_case.specs.State.RowState.{RowState, is_solved, row_point}
use Rattle.lq_prover_case.specs.declared.state.flags.FlagClash.{FlagClash}
use Rattle.lq_prover_case.specs.declared.state.flags.Given.{Given}
use Rattle.lq_prover_case.specs.declared.state.state.Kind.TheVariants.{Row, Flag, Same}
use Rattle.lq_prover_case.specs.declared.state.state.Step.{Step}
use Rattle.lq_prover_case.proofs.StateLemmas.Facts.{facts-length, flag-push, same-push, row-push, rows_numbered, flag_numbered, same_numbered, row_numbered, take_numbered, take-facts}
use Rattle.lq_prover_case.proofs.StateLemmas.Giving.{with_row, with_same, with_flag, clash_now}

-- some naming of objects, for what is said of each
pub any_name : ℕ → Sum
any_name n = whole (pos 0)

-- ---- clashes
pub some_rows : (name : ℕ → Sum) (steps : List Step) (rows : Tagged) (found : Option Multipliers) (answer : Option CaseProof) → AreNumbered 1 steps rows → IsByRows found answer
    → IfSome found (λ ms. IsContradiction rows (multiplier_views (multiplier_items ms))) → IfSome answer (λ p. Clashes (facts_of name steps rows) (clash_of p))
some_rows name steps rows None None n b h = tt
some_rows name steps rows None (Some p) n b h = absurd b
some_rows name steps rows (Some ms) None n b h = absurd b
some_rows name steps rows (Some ms) (Some p) n b h =
    subst (Clashes (facts_of name steps rows)) (sym b)
    (rows_clash (multiplier_views (multiplier_items ms)) (subst (λ l. IsContradiction l (multiplier_views (multiplier_items ms))) (rows_numbered name 1 steps rows n) h))

-- what is said of an answer at each naming
pub some_name : (answer : Option CaseProof) (steps : List Step) (rows : Tagged) → ((name : ℕ → Sum) → IfSome answer (λ p. Clashes (facts_of name steps rows) (clash_of p)))
    → IfSome answer (λ p. (name : ℕ → Sum) → Clashes (facts_of name steps rows) (clash_of p))
some_name None steps rows h = tt
some_name (Some p) steps rows h = λ name. h name

pub none_rows : (P : Type 0) (found : Option Multipliers) (answer : Option CaseProof) → IsByRows found answer → IfNone found P → IfNone answer P
none_rows P None None b h = h
none_rows P None (Some p) b h = absurd b
none_rows P (Some ms) None b h = absurd b
none_rows P (Some ms) (Some p) b h = tt

pub solved_name : (found : Option Multipliers) (steps : List Step) (t : RowState) → AreNumbered 1 steps t.rows → IfNone found ((is_solved t ≡ true) × Solves (row_point t) t.rows)
    → IfNone found ((is_solved t ≡ true) × ((name : ℕ → Sum) → Solves (row_point t) (rows_among (facts_of name steps t.rows))))
solved_name None steps t n h = (h.0, λ name. subst (Solves (row_point t)) (rows_numbered name 1 steps t.rows n) h.1)
solved_name (Some ms) steps t n h = tt

pub clash_known : (facts : List Fact) (c : FlagClash) → IsFlagClash facts c → Clashes facts (flags c.first c.second)
clash_known facts c h = flags_clash c.first c.second h.flag h.value h.is_first h.is_second

pub some_flags : (fs : List Fact) (es new : List (Symbol × Given)) (clash : Option FlagClash) (x : Symbol) (value : Bool) (n : ℕ) (o : Option ℕ) (answer : Option CaseProof)
    → AreFlagsOf fs es clash → n ≡ suc (length fs) → GivenNow es new x value n o → IsByFlags o n answer → IfSome answer (λ p. Clashes (fs ++ flag_fact x value ∷ []) (clash_of p))
some_flags fs es new clash x value n None None a e g b = tt
some_flags fs es new clash x value n None (Some p) a e g b = absurd b
some_flags fs es new clash x value n (Some m) None a e g b = absurd b
some_flags fs es new clash x value n (Some m) (Some p) a e g b =
    subst (Clashes (fs ++ flag_fact x value ∷ [])) (sym b) (clash_known _ (record { first = m; second = n }) (clash_now fs es new clash x value n m a e g))

-- ---- what stood before each fact
pub step_push : (steps : List Step) (s y : Step) (k : ℕ) → slice_get (steps ++ s ∷ []) k ≡ Some y → (slice_get steps k ≡ Some y) ⊎ ((k ≡ length steps) × (s ≡ y))
step_push [] s y zero h = inr (refl, (cc))
step_push [] s y (suc k) h = inl h
step_push (g ∷ steps) s y zero h = inl h
step_push (g ∷ steps) s y (suc k) h = elim (step_push steps s y k h) [ inl p ↦ inl p | inr p ↦ inr (ap suc p.0, p.1) ]

pub pasts_push : (fs : List Fact) (f : Fact) (steps : List Step) (s : Step) (es extra : List (Symbol × Given)) (clash : Option FlagClash) → length fs ≡ length steps → HasPasts fs steps es
    → AreFlagsOf fs es clash → s.rows ≡ length (rows_among fs) → s.flags ≡ length es → s.clash ≡ clash → HasPasts (fs ++ f ∷ []) (steps ++ s ∷ []) (es ++ extra)
pasts_push fs f steps s es extra clash same h a r l c = record {
  each = λ k y e. elim (step_push steps s y k e) [ inl p ↦ old k y p | inr p ↦ subst (IsPast (fs ++ f ∷ []) (es ++ extra) k) p.1 (last k (p.0 ∙ sym same)) ];
  rises = λ j k y z lt e g. elim (step_push steps s y j e) [
    | inl p ↦ elim (step_push steps s z k g) [ inl q ↦ h.rises j k y z lt p q | inr q ↦ subst (λ (w : Step). y.flags ≤ w.flags) q.1 (let i = (h.each j y p).within in omega arith) ]
    | inr p ↦ elim (step_push steps s z k g) [
      | inl q ↦ (let m = slice_get_within steps k z q in let p0 = p.0 in absurd (omega arith))
      | inr q ↦ (let p0 = p.0 in let q0 = q.0 in absurd (omega arith))
    ]
  ];
}
  where
    old : (k : ℕ) (y : Step) → slice_get steps k ≡ Some y → IsPast (fs ++ f ∷ []) (es ++ extra) k y
    old k y e =
        let i = h.each k y e in let m : k ≤ length fs = (let w = slice_get_within steps k y e in omega arith) in
        let t : take k (fs ++ f ∷ []) ≡ take k fs = take-append-le k fs (f ∷ []) m in
        let u : take y.flags (es ++ extra) ≡ take y.flags es = take-append-le y.flags es extra i.within in
        record {
          rows = i.rows ∙ ap (λ (l : List Fact). length (rows_among l)) (sym t);
          within = (let n = length-append es extra in let w = i.within in omega arith);
          flags = subst (λ (l : List Fact). AreFlagsOf l (take y.flags (es ++ extra)) y.clash) (sym t) (subst (λ (l : List (Symbol × Given)). AreFlagsOf (take k fs) l y.clash) (sym u) i.flags);
        }

    last : (k : ℕ) → k ≡ length fs → IsPast (fs ++ f ∷ []) (es ++ extra) k s
    last k e =
        let t : take k (fs ++ f ∷ []) ≡ fs = take_at fs (f ∷ []) k (sym e) in
        let u : take s.flags (es ++ extra) ≡ es = take_at es extra s.flags (sym l) in
        record {
          rows = r ∙ ap (λ (l : List Fact). length (rows_among l)) (sym t);
          within = (let n = length-append es extra in omega arith);
          flags = subst (λ (l : List Fact). AreFlagsOf l (take s.flags (es ++ extra)) s.clash) (sym t)
              (subst (λ (l : List (Symbol × Given)). AreFlagsOf fs l s.clash) (sym u) (subst (AreFlagsOf fs es) (sym c) a));
        }

entries_grow : (es new : List (Symbol × Given)) (x : Symbol) (value : Bool) (n : ℕ) (o : Option ℕ) → GivenNow es new x value n o → (extra : List (Symbol × Given)) × (new ≡ es ++ extra)
entries_grow es new x value n _ (first none is) = ((x, record { number = n; value = value }) ∷ [], is)
entries_grow es new x value n _ (again g found v is) = ([], is ∙ sym (append-nil es))
entries_grow es new x value n _ (other g found v is) = ([], is ∙ sym (append-nil es))

-- a step that says what stands
pub record IsStep (rows : Tagged) (es : List (Symbol × Given)) (clash : Option FlagClash) (s : Step) : Type 0 where
  pub rows_are : s.rows ≡ length rows
  pub flags_are : s.flags ≡ length es
  pub clash_is : s.clash ≡ clash

pub state_row : (name : ℕ → Sum) (steps new : List Step) (rows more : Tagged) (es : List (Symbol × Given)) (clash : Option FlagClash) (s : Step) (t : ℕ) (row : LinearRow) → IsPathState name steps rows es clash
    → IsStep rows es clash s → s.kind ≡ Row → t ≡ 1 + length steps → new ≡ steps ++ s ∷ [] → more ≡ rows ++ (t, row) ∷ []
    → IsPathState name new more es clash × (facts_of name new more ≡ facts_of name steps rows ++ row_fact row ∷ [])
state_row name steps new rows more es clash s t row h i kind e is more_is =
    let facts : facts_of name (steps ++ s ∷ []) (rows ++ (t, row) ∷ []) ≡ facts_of name steps rows ++ row_fact row ∷ [] = row-push name 1 t steps s row rows kind h.numbered in
    let count : s.rows ≡ length (rows_among (facts_of name steps rows)) = i.rows_are ∙ ap length (rows_numbered name 1 steps rows h.numbered) in
    let pasts = pasts_push (facts_of name steps rows) (row_fact row) steps s es [] clash (facts-length name steps rows) h.pasts h.flags count i.flags_are i.clash_is in
    let all : IsPathState name (steps ++ s ∷ []) (rows ++ (t, row) ∷ []) es clash = record {
      numbered = row_numbered 1 t steps s row rows kind e h.numbered;
      flags = subst (λ (l : List Fact). AreFlagsOf l es clash) (sym facts) (with_row (facts_of name steps rows) es clash row h.flags);
      pasts = subst (λ (l : List Fact). HasPasts l (steps ++ s ∷ []) es) (sym facts) (subst (HasPasts (facts_of name steps rows ++ row_fact row ∷ []) (steps ++ s ∷ [])) (append-nil es) pasts);
    } in (
      subst (λ (l : List Step). IsPathState name l more es clash) (sym is) (subst (λ (l : Tagged). IsPathState name (steps ++ s ∷ []) l es clash) (sym more_is) all),
      ap (λ (l : List Step). facts_of name l more) is ∙ ap (facts_of name (steps ++ s ∷ [])) more_is ∙ facts,
    )

pub state_flag : (name : ℕ → Sum) (steps new : List Step) (rows : Tagged) (es after : List (Symbol × Given)) (clash : Option FlagClash) (s : Step) (x : Symbol) (value : Bool) (n : ℕ) (o : Option ℕ)
    → IsPathState name steps rows es clash → IsStep rows es clash s → s.kind ≡ Flag x value → n ≡ 1 + length steps → new ≡ steps ++ s ∷ [] → GivenNow es after x value n o
    → IsPathState name new rows after (clash_after clash o n) × (facts_of name new rows ≡ facts_of name steps rows ++ flag_fact x value ∷ [])
state_flag name steps new rows es after clash s x value n o h i kind e is g =
    let facts : facts_of name (steps ++ s ∷ []) rows ≡ facts_of name steps rows ++ flag_fact x value ∷ [] = flag-push name steps s x value rows kind in
    let count : s.rows ≡ length (rows_among (facts_of name steps rows)) = i.rows_are ∙ ap length (rows_numbered name 1 steps rows h.numbered) in
    let grow = entries_grow es after x value n o g in
    let number : n ≡ suc (length (facts_of name steps rows)) = (let m = facts-length name steps rows in omega arith) in
    let pasts = pasts_push (facts_of name steps rows) (flag_fact x value) steps s es grow.0 clash (facts-length name steps rows) h.pasts h.flags count i.flags_are i.clash_is in
    let all : IsPathState name (steps ++ s ∷ []) rows after (clash_after clash o n) = record {
      numbered = flag_numbered 1 steps s x value rows kind h.numbered;
      flags = subst (λ (l : List Fact). AreFlagsOf l after (clash_after clash o n)) (sym facts) (with_flag (facts_of name steps rows) es after clash x value n o h.flags number g);
      pasts = subst (λ (l : List Fact). HasPasts l (steps ++ s ∷ []) after) (sym facts) (subst (HasPasts (facts_of name steps rows ++ flag_fact x value ∷ []) (steps ++ s ∷ [])) (sym grow.1) pasts);
    } in (
      subst (λ (l : List Step). IsPathState name l rows after (clash_after clash o n)) (sym is) all,
      ap (λ (l : List Step). facts_of name l rows) is ∙ facts,
    )

pub state_same : (name : ℕ → Sum) (steps new : List Step) (rows : Tagged) (es : List (Symbol × Given)) (clash : Option FlagClash) (s : Step) (a b : ℕ) (one : Bool)
    → IsPathState name steps rows es clash → IsStep rows es clash s → s.kind ≡ Same a b one → new ≡ steps ++ s ∷ []
    → IsPathState name new rows es clash × (facts_of name new rows ≡ facts_of name steps rows ++ objects_fact (name a) (name b) one ∷ [])
state_same name steps new rows es clash s a b one h i kind is =
    let facts : facts_of name (steps ++ s ∷ []) rows ≡ facts_of name steps rows ++ objects_fact (name a) (name b) one ∷ [] = same-push name steps s a b one rows kind in
    let count : s.rows ≡ length (rows_among (facts_of name steps rows)) = i.rows_are ∙ ap length (rows_numbered name 1 steps rows h.numbered) in
    let pasts = pasts_push (facts_of name steps rows) (objects_fact (name a) (name b) one) steps s es [] clash (facts-length name steps rows) h.pasts h.flags count i.flags_are i.clash_is in
    let all : IsPathState name (steps ++ s ∷ []) rows es clash = record {
      numbered = same_numbered 1 steps s a b one rows kind h.numbered;
      flags = subst (λ (l : List Fact). AreFlagsOf l es clash) (sym facts) (with_same (facts_of name steps rows) es clash (name a) (name b) one h.flags);
      pasts = subst (λ (l : List Fact). HasPasts l (steps ++ s ∷ []) es) (sym facts)
          (subst (HasPasts (facts_of name steps rows ++ objects_fact (name a) (name b) one ∷ []) (steps ++ s ∷ [])) (append-nil es) pasts);
    } in (
      subst (λ (l : List Step). IsPathState name l rows es clash) (sym is) all,
      ap (λ (l : List Step). facts_of name l rows) is ∙ facts,
    )

pub rows_after : (name : ℕ → Sum) (steps : List Step) (rows : Tagged) (t : ℕ) (row : LinearRow) → AreNumbered 1 steps rows → t ≡ 1 + length steps
    → rows ++ (t, row) ∷ [] ≡ rows_among (facts_of name steps rows ++ row_fact row ∷ [])
rows_after name steps rows t row h e =
    let s : Step = record { kind = Row; rows = 0; flags = 0; objects = 0; clash = None } in
    rows_numbered name 1 (steps ++ s ∷ []) (rows ++ (t, row) ∷ []) (row_numbered 1 t steps s row rows refl e h) ∙ ap rows_among (row-push name 1 t steps s row rows refl h)

-- ---- the first facts
pub get_take : (k j : ℕ) (steps : List Step) (y : Step) → slice_get (take k steps) j ≡ Some y → (j < k) × (slice_get steps j ≡ Some y)
get_take zero j steps y h = absurd (cc)
get_take (suc k) j [] y h = absurd (cc)
get_take (suc k) zero (s ∷ steps) y h = (omega arith, h)
get_take (suc k) (suc j) (s ∷ steps) y h = let p = get_take k j steps y h in ((let p0 = p.0 in omega arith), p.1)

pub used_fits : (n k : ℕ) (facts : List Fact) → length (rows_from n (take k facts)) ≤ length (rows_from n facts)
used_fits n zero facts = omega arith
used_fits n (suc k) [] = omega arith
used_fits n (suc k) (row_fact r ∷ fs) = let h = used_fits (suc n) k fs in omega arith
used_fits n (suc k) (flag_fact x b ∷ fs) = used_fits (suc n) k fs
used_fits n (suc k) (objects_fact x y b ∷ fs) = used_fits (suc n) k fs
used_fits n (suc k) (never ∷ fs) = used_fits (suc n) k fs

pub step_within : (name : ℕ → Sum) (steps : List Step) (rows : Tagged) (es : List (Symbol × Given)) (clash : Option FlagClash) (k : ℕ) (s : Step) → IsPathState name steps rows es clash → slice_get steps k ≡ Some s
    → s.rows ≤ length rows
step_within name steps rows es clash k s h at =
    let r = (h.pasts.each k s at).rows in let e = ap length (rows_numbered name 1 steps rows h.numbered) in let u = used_fits 1 k (facts_of name steps rows) in omega arith

pub state_first : (name : ℕ → Sum) (steps new : List Step) (rows less : Tagged) (es after : List (Symbol × Given)) (clash now : Option FlagClash) (k : ℕ) (s : Step) → IsPathState name steps rows es clash
    → slice_get steps k ≡ Some s → new ≡ take k steps → less ≡ take s.rows rows → after ≡ take s.flags es → now ≡ s.clash
    → IsPathState name new less after now × (facts_of name new less ≡ take k (facts_of name steps rows))
state_first name steps new rows less es after clash now k s h at is less_is after_is now_is =
    let p = h.pasts.each k s at in
    let l : less ≡ take (length (rows_from 1 (take k (facts_of name steps rows)))) rows = less_is ∙ ap (λ n. take n rows) p.rows in
    let facts : facts_of name new less ≡ take k (facts_of name steps rows) = ap (λ (x : List Step). facts_of name x less) is ∙ ap (facts_of name (take k steps)) l ∙ take-facts name 1 k steps rows h.numbered in (
      record {
        numbered = subst (λ (x : List Step). AreNumbered 1 x less) (sym is) (subst (AreNumbered 1 (take k steps)) (sym l) (take_numbered name 1 k steps rows h.numbered));
        flags = subst (λ (x : List Fact). AreFlagsOf x after now) (sym facts) (subst (λ (x : List (Symbol × Given)). AreFlagsOf (take k (facts_of name steps rows)) x now) (sym after_is)
            (subst (AreFlagsOf (take k (facts_of name steps rows)) (take s.flags es)) (sym now_is) p.flags));
        pasts = subst (λ (x : List Fact). HasPasts x new after) (sym facts) (subst (λ (x : List Step). HasPasts (take k (facts_of name steps rows)) x after) (sym is)
            (subst (HasPasts (take k (facts_of name steps rows)) (take k steps)) (sym after_is) (first_pasts (facts_of name steps rows) steps es k s h.pasts at)));
      },
      facts,
    )
  where
    first_pasts : (fs : List Fact) (steps : List Step) (es : List (Symbol × Given)) (k : ℕ) (s : Step) → HasPasts fs steps es → slice_get steps k ≡ Some s
        → HasPasts (take k fs) (take k steps) (take s.flags es)
    first_pasts fs steps es k s h at = record {
      each = λ j y e.
          let p = get_take k j steps y e in let i = h.each j y p.1 in let m = h.rises j k y s p.0 p.1 at in
          let t : take j (take k fs) ≡ take j fs = take-take j k fs (let p0 = p.0 in omega arith) in
          let u : take y.flags (take s.flags es) ≡ take y.flags es = take-take y.flags s.flags es m in
          record {
            rows = i.rows ∙ ap (λ (l : List Fact). length (rows_among l)) (sym t);
            within = (let w = length-take-le s.flags es (h.each k s at).within in omega arith);
            flags = subst (λ (l : List Fact). AreFlagsOf l (take y.flags (take s.flags es)) y.clash) (sym t) (subst (λ (l : List (Symbol × Given)). AreFlagsOf (take j fs) l y.clash) (sym u) i.flags);
          };
      rises = λ i j y z lt e g. h.rises i j y z lt (get_take k i steps y e).1 (get_take k j steps z g).1;
    }

pub step_at : (l steps : List Step) (k : ℕ) (s : Step) → l ≡ steps → k < length l → s ≡ get_or l k s → slice_get steps k ≡ Some s
step_at l steps k s e h is = subst (λ x. slice_get x k ≡ Some s) e (slice_get-get_or l k s h ∙ ap Some (sym is))

pub all_first : (name : ℕ → Sum) (steps : List Step) (rows : Tagged) (k : ℕ) → length steps ≤ k → facts_of name steps rows ≡ take k (facts_of name steps rows)
all_first name steps rows k h = sym (take_all k (facts_of name steps rows) (let n = facts-length name steps rows in omega arith))
