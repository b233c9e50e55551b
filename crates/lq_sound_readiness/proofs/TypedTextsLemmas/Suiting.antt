-- What is as texts have it, and has types, suits.
use Rattle.std.proofs.Common.{◌≡◌, ℕ, true, List, [], ◌∷◌, ◌++◌, refl}
use Rattle.lq_base_names.specs.declared.place.Place.{Place}
use Rattle.lq_text_tree.specs.Items.{ItemTree, ItemForm, type_of, let_of, let_rec_of}
use Rattle.lq_text_tree.specs.MlType as ml
use Rattle.lq_text_tree.specs.MlType.{MlType}
use Rattle.lq_text_tree.specs.Pattern as p
use Rattle.lq_text_tree.specs.Pattern.{Pattern, pattern, bound_in}
use Rattle.lq_text_tree.specs.Tree as form
use Rattle.lq_text_tree.specs.Tree.{Tree, tree, Form, Trees, no_trees, more_trees, Cases, no_cases, more_cases}
use Rattle.lq_text_tree.specs.Types.{Signature, plain, general, Names}
use Rattle.lq_text_tree.specs.TypingRules.{Annotation, TreeIs, TreesAre, CasesAre, RuleIs, PartsAre, Every, ItemIs, ItemsAre, ItemPatternIs, plain_names, named, type_in}
use Rattle.lq_text_walk.specs.Walk.Fold.{fold_all, fold_cases}
use Rattle.lq_meaning_normal_form.specs.Outcomes.Naming.{is_use_form, stands_form}
use Rattle.lq_meaning_normal_form.specs.Types.Written.{Each, EachBody, IsWritten, Takes, being_written, ItemIsWritten, ItemsAreWritten}
use Rattle.lq_sound_readiness.specs.NormalReading.Suits.{CanBeIndexed, EachArmSuits, ItemSuits, ItemsSuit, Suits, being_suited}
use Rattle.lq_sound_readiness.specs.TypedTexts.Flat.{HasFlat, ItemHasFlat, ItemsAreFlat, being_flat}
use Rattle.lq_sound_readiness.specs.TypedTexts.Laws.{TypedProgramsSuit}

-- an item binds a name, `_` or `()`
item_takes : (n : Annotation) (q : Pattern) (a : MlType) → ItemPatternIs n q a → Takes q
item_takes n (pattern l p.any) a h = refl
item_takes n (pattern l (p.bind x)) a h = refl
item_takes n (pattern l p.nothing) a h = refl
item_takes n (pattern l (p.tuple_of qs)) a h = absurd h
item_takes n (pattern l (p.build_of c m qs)) a h = absurd h

module _ (g : Signature) (n : Annotation) where
  -- of what stands as an operand only a variable has the type of an array
  array_form : (ns : Names) (f : Form) (a b : MlType) → RuleIs g n ns f b → b ≡ ml.array a → stands_form f ≡ true → is_use_form f ≡ true
  array_form ns (form.use_of x) a b r e s = refl
  array_form ns f a b r e s = cc

  indexed : (ns : Names) (d : Tree) (a : MlType) → TreeIs g n Every ns d → type_in n d ≡ ml.array a → CanBeIndexed d
  indexed ns (tree i l f) a t e s = array_form ns f a (n.nodes i) (t.0 tt) e s

  abbrev Fits : Tree → Type 0
  Fits t = (ns : Names) → IsWritten t → HasFlat Takes t → TreeIs g n Every ns t → Suits t

  abbrev AllFit : Trees → Type 0
  AllFit es = (ns : Names) → Each (fold_all being_written es) → Each (fold_all (being_flat Takes) es) → TreesAre g n Every ns es → Each (fold_all being_suited es)

  mutual
    fits : (t : Tree) → Fits t
    fits (tree i l f) ns w k t = form_fits i l f ns w k (t.0 tt) t.1

    form_fits : (i : ℕ) (l : Place) (f : Form) (ns : Names) → IsWritten (tree i l f) → HasFlat Takes (tree i l f) → RuleIs g n ns f (n.nodes i) → PartsAre g n Every ns f
        → Suits (tree i l f)
    form_fits i l (form.whole m) ns w k r t = tt
    form_fits i l (form.flag b) ns w k r t = tt
    form_fits i l form.unit ns w k r t = tt
    form_fits i l (form.use_of x) ns w k r t = tt
    form_fits i l (form.qualified m x) ns w k r t = absurd r
    form_fits i l (form.fun q b) ns w k r t = (k.0, fits b (plain_names n (bound_in q) ++ ns) w k.1 t)
    form_fits i l (form.tuple es) ns w k r t = (tt, all_fit es ns w.1 k t)
    form_fits i l (form.build c m es) ns w k r t = (tt, all_fit es ns w.1 k t)
    form_fits i l (form.list_of es) ns w k r t = (tt, all_fit es ns w.1 k t)
    form_fits i l (form.let_in q e b) ns w k r t = (w.0, fits e ns w.1 k.0 t.0, fits b (plain_names n (bound_in q) ++ ns) w.2 k.1 t.1)
    form_fits i l (form.let_rec f j m q b e) ns w k r t = (
      k.0,
      fits b (plain_names n (bound_in q) ++ (f, plain (n.binders f)) ∷ ns) w.0 k.1 t.1,
      fits e ((f, plain (n.binders f)) ∷ ns) w.1 k.2 t.2,
    )
    form_fits i l (form.call a b) ns w k r t = (tt, fits a ns w.0 k.0 t.0, fits b ns w.1 k.1 t.1)
    form_fits i l (form.arithmetic o a b) ns w k r t = (tt, fits a ns w.0 k.0 t.0, fits b ns w.1 k.1 t.1)
    form_fits i l (form.negated a) ns w k r t = (tt, fits a ns w k t)
    form_fits i l (form.compare o a b) ns w k r t = (tt, fits a ns w.0 k.0 t.0, fits b ns w.1 k.1 t.1)
    form_fits i l (form.not_of a) ns w k r t = (tt, fits a ns w k t)
    form_fits i l (form.and_of a b) ns w k r t = (tt, fits a ns w.0 k.0 t.0, fits b ns w.1 k.1 t.1)
    form_fits i l (form.or_of a b) ns w k r t = (tt, fits a ns w.0 k.0 t.0, fits b ns w.1 k.1 t.1)
    form_fits i l (form.if_else a b c) ns w k r t = (tt, fits a ns w.0 k.0 t.0, fits b ns w.1 k.1 t.1, fits c ns w.2 k.2 t.2)
    form_fits i l (form.match_on e cs) ns w k r t = (fits e ns w.0 k.0 t.0, arms_fit cs ns w.1 k.1 t.1)
    form_fits i l (form.chain no_trees) ns w k r t = absurd w.0
    form_fits i l (form.chain (more_trees e es)) ns w k r t = (tt, all_fit (more_trees e es) ns w.1 k t)
    form_fits i l (form.assert a) ns w k r t = (tt, fits a ns w k t)
    form_fits i l form.assert_false ns w k r t = tt
    form_fits i l (form.make a b) ns w k r t = (tt, fits a ns w.0 k.0 t.0, fits b ns w.1 k.1 t.1)
    form_fits i l (form.length_of a) ns w k r t = (tt, fits a ns w k t)
    form_fits i l (form.fetch a b) ns w k r t = (indexed ns a (n.nodes i) t.0 r.0, fits a ns w.0 k.0 t.0, fits b ns w.1 k.1 t.1)
    form_fits i l (form.store a b c) ns w k r t = (indexed ns a (type_in n c) t.0 r.0, fits a ns w.0 k.0 t.0, fits b ns w.1 k.1 t.1, fits c ns w.2 k.2 t.2)
    form_fits i l (form.print a) ns w k r t = (tt, fits a ns w k t)
    form_fits i l (form.read a) ns w k r t = (tt, fits a ns w k t)
    form_fits i l form.map_empty ns w k r t = absurd r
    form_fits i l (form.map_add a b c) ns w k r t = absurd r
    form_fits i l (form.map_find a b) ns w k r t = absurd r

    all_fit : (es : Trees) → AllFit es
    all_fit no_trees ns w k t = tt
    all_fit (more_trees e es) ns w k t = (fits e ns w.0 k.0 t.0, all_fit es ns w.1 k.1 t.1)

    arms_fit : (cs : Cases) (ns : Names) → EachBody (fold_cases being_written cs) → EachArmSuits (fold_cases (being_flat Takes) cs) → CasesAre g n Every ns cs
        → EachArmSuits (fold_cases being_suited cs)
    arms_fit no_cases ns w k t = tt
    arms_fit (more_cases q b cs) ns w k t = (k.0, fits b (plain_names n (bound_in q) ++ ns) w.0 k.1 t.0, arms_fit cs ns w.1 k.2 t.1)

  -- an item, where what follows obeys the rules under some names
  item_fits : (f : ItemForm) (ns : Names) (rest : Names → Type 0) → ItemIsWritten f → ItemHasFlat Takes f → ItemIs g n ns f rest
      → ItemSuits f × ((ms : Names) × rest ms)
  item_fits (type_of d) ns rest w k t = absurd w
  item_fits (let_of q e) ns rest w k t = ((item_takes n q (type_in n e) t.2, fits e ns w k t.3), (named q t.0 ns, t.4))
  item_fits (let_rec_of f r) ns rest w k t = (
    (k.0, fits r.body (plain_names n (bound_in r.parameter) ++ (f, plain (n.binders f)) ∷ ns) w k.1 t.6),
    ((f, general t.0 (n.binders f)) ∷ ns, t.7),
  )

  items_fit : (is : List ItemTree) (ns : Names) → ItemsAreWritten is → ItemsAreFlat is → ItemsAre g n ns is → ItemsSuit is
  items_fit [] ns w k t = tt
  items_fit (i ∷ is) ns w k t =
      let both = item_fits i.form ns (λ ms. ItemsAre g n ms is) w.0 k.0 t in (both.0, items_fit is both.1.0 w.1 k.1 both.1.1)

pub they_suit : TypedProgramsSuit
they_suit g n is w k t = items_fit g n is [] w k t
