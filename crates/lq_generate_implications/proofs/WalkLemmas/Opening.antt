-- Environments that are entered, and left again.
use Rattle.std.proofs.Common.{◌≡◌, ℕ, ◌-◌, ◌<◌, List, [], ◌++◌, length, drop, refl, subst, ◌∙◌}
use Rattle.lq_refined_rules.specs.Checks.Basis as checks
use Rattle.lq_refined_substitution.specs.Implications.Views.{environment_lists}
use Rattle.lq_refined_rules.specs.Obligations.Obligation.{Obligation}
use Rattle.lq_refined_types.specs.Types.Context.{Context}
use Rattle.lq_refined_types.specs.Types.Refined.{Refined}
use Rattle.lq_refined_subtyping.specs.Table.Growing.{Extends-refl, Extends-trans}
use Rattle.lq_refined_subtyping.specs.Table.Whole.{count_of, refined_at}
use Rattle.lq_refined_subtyping.specs.Split.Growing.{HasMore-refl, HasMore-trans, environment-there}
use Rattle.lq_generate_operations.specs.Basis.Basis.{scopes_of}
use Rattle.lq_generate_operations.specs.Basis.Growing.{are_below-grown, are_below-same, is_there-grown, longer-back, longer-same, longer-trans, stands-grown}
use Rattle.lq_generate_operations.specs.Basis.Knowing.{AreBelow}
use Rattle.lq_generate_operations.specs.Basis.Names.{bound, IsLonger}
use Rattle.lq_generate_operations.specs.declared.basis.basis.Basis.{Basis}
use Rattle.lq_generate_operations.specs.declared.basis.names.Names.{Names}
use Rattle.lq_generate_implications.specs.Walk.Asking.{Adds, Asks, Finds, InContext, IsSound, Moves}
use Rattle.lq_generate_implications.specs.Walk.Through.{Enters, Opens, StandsAs}
use Rattle.lq_generate_implications.specs.declared.walk.walk.Walk.{Walk}
use Rattle.lq_generate_implications.proofs.WalkLemmas.Walks.{adds-as, adds-before, adds-behind, adds-none, adds-same, adds-trans, asked-same, in_context-moved, Grown}

-- ---- names that are let go again

pub let-go : (old mid new last : Names) (len : ℕ) → IsLonger old mid → bound new ≡ bound mid → len ≡ length (bound old)
    → bound last ≡ drop (length (bound new) - len) (bound new) → bound last ≡ bound old
let-go old mid new last len l s e f = longer-back old new last len (longer-trans old mid new l (longer-same mid new s)) e f

-- the same walk with other names
abbrev pub named : Walk → Names → Walk
named w n = record { types = w.types; list = w.list; names = n; asked = w.asked }

module _ (b : Basis) where
  pub opens-trans : (w0 w1 w2 : Walk) (e1 e2 : ℕ) → Opens b w0 w1 e1 → Opens b w1 w2 e2 → Opens b w0 w2 e2
  opens-trans w0 w1 w2 e1 e2 p q = record {
    types = Extends-trans w0.types.rows.items w1.types.rows.items w2.types.rows.items p.types q.types;
    environments = HasMore-trans (environment_lists w0.list) (environment_lists w1.list) (environment_lists w2.list) p.environments q.environments;
    implications = q.implications ∙ p.implications;
    count = q.count ∙ p.count;
    names = longer-trans w0.names w1.names w2.names p.names q.names;
    sound = q.sound;
  }

  pub opens-moves : (w v : Walk) (env : ℕ) → Moves b w v env → Opens b w v env
  opens-moves w v env m = record {
    types = m.types;
    environments = m.environments;
    implications = m.implications;
    count = m.count;
    names = longer-same w.names v.names m.names;
    sound = m.sound;
  }

  -- an environment that is entered
  pub enters-with : (w v : Walk) (from env : ℕ) (within : checks.Basis → Context → Context) → IsSound b w from → Grown w v
      → IsLonger w.names v.names → AreBelow (count_of v.types) v.names
      → v.asked.items ≡ w.asked.items → env < length (environment_lists v.list)
      → ((P : checks.Basis) (Γ : Context) → InContext P Γ b w from → StandsAs (within P Γ) b v env) → Enters b w v from env within (λ P Γ. [])
  enters-with w v from env within s g l k e h f = record {
    opens = record {
      types = g.types;
      environments = g.environments;
      implications = g.implications;
      count = g.count;
      names = l;
      sound = record { there = is_there-grown w.types v.types b g.types s.there; names = k; asked = asked-same b w v from s g e; inside = h };
    };
    added = λ P Γ c. adds-none b P w v (adds-same b w v from s g e);
    stands = f;
  }

  pub in_context-entered : (P : checks.Basis) (Γ Δ : Context) (w v : Walk) (from env : ℕ) → IsSound b w from → Opens b w v env → InContext P Γ b w from
      → StandsAs Δ b v env → InContext P Δ b v env
  in_context-entered P Γ Δ w v from env s o h k = (stands-grown P b w.types v.types o.types s.there h.0, k)

  module _ (w : Walk) (from : ℕ) (s : IsSound b w from) where
    -- names are let go: what was sound in the first environment is so again
    pub sound-left : (v : Walk) (n : Names) (env : ℕ) → Opens b w v env → bound n ≡ bound w.names → IsSound b (named v n) from
    sound-left v n env o e = record {
      there = o.sound.there;
      names = are_below-same (count_of v.types) w.names n e (are_below-grown w.types v.types w.names o.types s.names);
      asked = o.sound.asked;
      inside = environment-there (environment_lists w.list) (environment_lists v.list) from o.environments s.inside;
    }

    pub moves-left : (v : Walk) (n : Names) (env : ℕ) → Opens b w v env → bound n ≡ bound w.names → Moves b w (named v n) from
    moves-left v n env o e = record {
      types = o.types;
      environments = o.environments;
      implications = o.implications;
      count = o.count;
      names = e;
      sound = sound-left v n env o e;
    }

    -- something is asked in an environment that is entered, and left again
    pub asks-entered : (v u : Walk) (n : Names) (env : ℕ) (within : checks.Basis → Context → Context) (os F : checks.Basis → Context → List Obligation)
        → Enters b w v from env within os → Asks b v u env F → bound n ≡ bound w.names
        → Asks b w (named u n) from (λ P Γ. os P Γ ++ F P (within P Γ))
    asks-entered v u n env within os F e a k = record {
      moves = moves-left u n env (opens-trans w v u env env e.opens (opens-moves v u env a.moves)) k;
      added = λ P Γ h.
          adds-trans b P w v u (os P Γ) (F P (within P Γ)) (e.added P Γ h)
          (a.added P (within P Γ) (in_context-entered P Γ (within P Γ) w v from env s e.opens h (e.stands P Γ h)));
    }

    -- a type that is found, and then an environment with it
    pub finds-enters : (v u : Walk) (env r : ℕ) (T : checks.Basis → Context → Refined) (within : checks.Basis → Context → Refined → Context)
        (os : checks.Basis → Context → Refined → List Obligation) → Finds b w v from r T
        → Enters b v u from env (λ P Γ. within P Γ (refined_at (scopes_of b) v.types r)) (λ P Γ. os P Γ (refined_at (scopes_of b) v.types r))
        → Enters b w u from env (λ P Γ. within P Γ (T P Γ)) (λ P Γ. os P Γ (T P Γ))
    finds-enters v u env r T within os f e = record {
      opens = opens-trans w v u from env (opens-moves w v from f.moves) e.opens;
      added = λ P Γ h.
          adds-behind b P w v u (os P Γ (T P Γ)) (f.added P)
          (subst (λ t. Adds P b v u (os P Γ t)) (f.refined P Γ h) (e.added P Γ (in_context-moved b P Γ w v from s f.moves h)));
      stands = λ P Γ h.
          subst (λ t. StandsAs (within P Γ t) b u env) (f.refined P Γ h) (e.stands P Γ (in_context-moved b P Γ w v from s f.moves h));
    }

    -- something is asked, and then an environment is entered
    pub asks-enters : (v u : Walk) (env : ℕ) (within : checks.Basis → Context → Context) (F : checks.Basis → Context → List Obligation) → Asks b w v from F
        → Enters b v u from env within (λ P Γ. []) → Enters b w u from env within F
    asks-enters v u env within F a e = record {
      opens = opens-trans w v u from env (opens-moves w v from a.moves) e.opens;
      added = λ P Γ h. adds-before b P w v u (F P Γ) (a.added P Γ h) (e.added P Γ (in_context-moved b P Γ w v from s a.moves h));
      stands = λ P Γ h. e.stands P Γ (in_context-moved b P Γ w v from s a.moves h);
    }

    -- something is asked in an environment that is entered, and not left
    pub enters-asks : (v u : Walk) (env : ℕ) (within : checks.Basis → Context → Context) (F : checks.Basis → Context → List Obligation)
        → Enters b w v from env within (λ P Γ. []) → Asks b v u env F → Enters b w u from env within (λ P Γ. F P (within P Γ))
    enters-asks v u env within F e a = record {
      opens = opens-trans w v u env env e.opens (opens-moves v u env a.moves);
      added = λ P Γ h.
          adds-behind b P w v u (F P (within P Γ)) (e.added P Γ h)
          (a.added P (within P Γ) (in_context-entered P Γ (within P Γ) w v from env s e.opens h (e.stands P Γ h)));
      stands = λ P Γ h.
          (in_context-moved b P (within P Γ) v u env e.opens.sound a.moves
          (in_context-entered P Γ (within P Γ) w v from env s e.opens h (e.stands P Γ h))).1;
    }

    pub enters-as : (v : Walk) (env : ℕ) (within : checks.Basis → Context → Context) (os ps : checks.Basis → Context → List Obligation)
        → ((P : checks.Basis) (Γ : Context) → InContext P Γ b w from → os P Γ ≡ ps P Γ) → Enters b w v from env within os → Enters b w v from env within ps
    enters-as v env within os ps f e = record {
      opens = e.opens;
      added = λ P Γ h. adds-as b P w v (os P Γ) (ps P Γ) (f P Γ h) (e.added P Γ h);
      stands = e.stands;
    }
