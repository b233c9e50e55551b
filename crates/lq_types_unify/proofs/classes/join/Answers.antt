use Rattle.std.proofs.Common.{◌≡◌, ℕ, ◌<◌, List, sym, ap, ◌∙◌, arith}
use Rattle.lq_types_unify.specs.Simple.{Simple}
use Rattle.lq_types_unify.specs.Classes.{up, root, IsDown, IsSame, AreShared}
use Rattle.lq_types_unify.proofs.Roots.{at_root, root_fixed, root_low}
use Rattle.lq_types_unify.proofs.Same.{same_then, same_state, same_grows, same_shared, grows_later}
use Rattle.lq_types_unify.proofs.classes.join.Goals as goal

-- the root that the first search found is a root after the second
root_later : (old mid new : List ℕ) (node r : ℕ) → IsDown old → IsSame old mid → IsSame mid new → r ≡ root old node → up new r ≡ r
root_later old mid new node r d s t e = (t.selves r).1 ((s.selves r).1 (ap (up old) e ∙ root_fixed old d node ∙ sym e))

root_now : (mid new : List ℕ) (node r : ℕ) → IsDown mid → IsSame mid new → r ≡ root mid node → up new r ≡ r
root_now mid new node r d s e = (s.selves r).1 (ap (up mid) e ∙ root_fixed mid d node ∙ sym e)

low_in : (ps : List ℕ) (node r n : ℕ) → IsDown ps → r ≡ root ps node → node < n → r < n
low_in ps node r n d e h = let l = root_low ps d node in omega arith

types_at : (ps : List ℕ) (types : ℕ → Simple) (node r : ℕ) → AreShared ps types → r ≡ root ps node → types r ≡ types node
types_at ps types node r h e = ap types e ∙ sym (at_root types ps h node)

pub link-requires-clause-state : goal.link-requires-clause-state
link-requires-clause-state c = same_state _ _ _ _ _ _ (same_then _ _ _ c.find-one.ensures.classes c.find-other.ensures.classes) c.requires.state

pub link-requires-clause-inside : goal.link-requires-clause-inside
link-requires-clause-inside c = low_in _ _ _ _ c.find-one.ensures.classes.down c.find-other.ensures.value c.requires.right_in

pub link-requires-clause-low_root : goal.link-requires-clause-low_root
link-requires-clause-low_root c = root_later _ _ _ _ _ c.requires.state.down c.find-one.ensures.classes c.find-other.ensures.classes c.find-one.ensures.value

pub link-requires-clause-high_root : goal.link-requires-clause-high_root
link-requires-clause-high_root c = root_now _ _ _ _ c.find-one.ensures.classes.down c.find-other.ensures.classes c.find-other.ensures.value

pub link-requires-then-other-one-clause-state : goal.link-requires-then-other-one-clause-state
link-requires-then-other-one-clause-state c = same_state _ _ _ _ _ _ (same_then _ _ _ c.find-one.ensures.classes c.find-other.ensures.classes) c.requires.state

pub link-requires-then-other-one-clause-inside : goal.link-requires-then-other-one-clause-inside
link-requires-then-other-one-clause-inside c = low_in _ _ _ _ c.requires.state.down c.find-one.ensures.value c.requires.left_in

pub link-requires-then-other-one-clause-low_root : goal.link-requires-then-other-one-clause-low_root
link-requires-then-other-one-clause-low_root c = root_now _ _ _ _ c.find-one.ensures.classes.down c.find-other.ensures.classes c.find-other.ensures.value

pub link-requires-then-other-one-clause-high_root : goal.link-requires-then-other-one-clause-high_root
link-requires-then-other-one-clause-high_root c = root_later _ _ _ _ _ c.requires.state.down c.find-one.ensures.classes c.find-other.ensures.classes c.find-one.ensures.value

pub returns-then-one-other-clause-grows : goal.returns-then-one-other-clause-grows
returns-then-one-other-clause-grows c = grows_later _ _ _ _ _ (same_then _ _ _ c.find-one.ensures.classes c.find-other.ensures.classes) c.link.ensures.grows

pub returns-then-other-one-clause-grows : goal.returns-then-other-one-clause-grows
returns-then-other-one-clause-grows c = grows_later _ _ _ _ _ (same_then _ _ _ c.find-one.ensures.classes c.find-other.ensures.classes) c.link-then-other-one.ensures.grows

pub returns-clause-state : goal.returns-clause-state
returns-clause-state c = same_state _ _ _ _ _ _ (same_then _ _ _ c.find-one.ensures.classes c.find-other.ensures.classes) c.requires.state

pub returns-clause-grows : goal.returns-clause-grows
returns-clause-grows c = same_grows _ _ _ c.requires.state.down (same_then _ _ _ c.find-one.ensures.classes c.find-other.ensures.classes)

pub returns-clause-shared : goal.returns-clause-shared
returns-clause-shared c = λ types h e. same_shared _ _ types (same_then _ _ _ c.find-one.ensures.classes c.find-other.ensures.classes) h

abbrev Sharing : List ℕ → List ℕ → ℕ → ℕ → Type 0
Sharing old new x y = (types : ℕ → Simple) → AreShared old types → types x ≡ types y → AreShared new types

-- the types at the two roots
shared_step : (old mid new : List ℕ) (left right x y : ℕ) → IsSame old mid → ((types : ℕ → Simple) → AreShared old types → types left ≡ types right → types x ≡ types y)
    → Sharing mid new x y → Sharing old new left right
shared_step old mid new left right x y s e f types h g = f types (same_shared old mid types s h) (e types h g)

pub returns-then-one-other-clause-shared : goal.returns-then-one-other-clause-shared
returns-then-one-other-clause-shared c =
    shared_step _ _ _ c.args.left c.args.right _ _ (same_then _ _ _ c.find-one.ensures.classes c.find-other.ensures.classes)
    (λ types h e. types_at _ types c.args.left _ h c.find-one.ensures.value ∙ e ∙ sym (types_at _ types c.args.right _ (same_shared _ _ types c.find-one.ensures.classes h) c.find-other.ensures.value))
    c.link.ensures.shared

pub returns-then-other-one-clause-shared : goal.returns-then-other-one-clause-shared
returns-then-other-one-clause-shared c =
    shared_step _ _ _ c.args.left c.args.right _ _ (same_then _ _ _ c.find-one.ensures.classes c.find-other.ensures.classes)
    (λ types h e. types_at _ types c.args.right _ (same_shared _ _ types c.find-one.ensures.classes h) c.find-other.ensures.value ∙ sym e ∙ sym (types_at _ types c.args.left _ h c.find-one.ensures.value))
    c.link-then-other-one.ensures.shared
