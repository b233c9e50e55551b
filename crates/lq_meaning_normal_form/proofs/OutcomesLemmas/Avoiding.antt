-- Trees that avoid names.
use Rattle.std.proofs.Common.{◌≡◌, ℕ, ◌<◌, Bool, true, false, ◌&&◌, ◌||◌, ◌==◌, subst}
use Rattle.std.proofs.lemmas.Bool.{eqb-true}
use Rattle.lq_text_tree.specs.Pattern.{bound_in}
use Rattle.lq_text_tree.specs.Tree as form
use Rattle.lq_text_tree.specs.Tree.{Tree, tree, Form, Trees, no_trees, more_trees, Cases, no_cases, more_cases}
use Rattle.lq_meaning_normal_form.specs.Outcomes.Naming.{is_pure_operator, is_pure, is_pure_form}
use Rattle.lq_meaning_normal_form.specs.Outcomes.Named.{Avoids, AvoidsForm, AvoidsAll, AvoidsCases}
use Rattle.lq_meaning_normal_form.specs.Outcomes.Flattened.{Clear, ClearForm}
use Rattle.lq_meaning_normal_form.specs.Outcomes.Apart.{is_in, lets, lets_form, lets_all, Apart, ApartForm, ApartAll}
use Rattle.lq_meaning_normal_form.proofs.OutcomesLemmas.Flat.{or_cases}
use Rattle.lq_meaning_normal_form.proofs.OutcomesLemmas.Pure.{both_true}

module _ (H K L M : ℕ → Bool) (is : (x : ℕ) → H x ≡ false → K x ≡ false → L x ≡ false → M x ≡ false) where
  mutual
    pub avoids_by : (t : Tree) → Avoids H t → Avoids K t → Avoids L t → Avoids M t
    avoids_by (tree i p f) h k l = form_by f h k l

    pub form_by : (f : Form) → AvoidsForm H f → AvoidsForm K f → AvoidsForm L f → AvoidsForm M f
    form_by (form.use_of x) h k l = is x h k l
    form_by (form.fun q b) h k l = avoids_by b h k l
    form_by (form.tuple es) h k l = all_by es h k l
    form_by (form.build c w es) h k l = all_by es h k l
    form_by (form.list_of es) h k l = all_by es h k l
    form_by (form.let_in q e b) h k l = (avoids_by e h.0 k.0 l.0, avoids_by b h.1 k.1 l.1)
    form_by (form.let_rec f j n q b e) h k l = (avoids_by b h.0 k.0 l.0, avoids_by e h.1 k.1 l.1)
    form_by (form.call a b) h k l = (avoids_by a h.0 k.0 l.0, avoids_by b h.1 k.1 l.1)
    form_by (form.arithmetic o a b) h k l = (avoids_by a h.0 k.0 l.0, avoids_by b h.1 k.1 l.1)
    form_by (form.negated e) h k l = avoids_by e h k l
    form_by (form.compare o a b) h k l = (avoids_by a h.0 k.0 l.0, avoids_by b h.1 k.1 l.1)
    form_by (form.not_of e) h k l = avoids_by e h k l
    form_by (form.and_of a b) h k l = (avoids_by a h.0 k.0 l.0, avoids_by b h.1 k.1 l.1)
    form_by (form.or_of a b) h k l = (avoids_by a h.0 k.0 l.0, avoids_by b h.1 k.1 l.1)
    form_by (form.if_else c a b) h k l = (avoids_by c h.0 k.0 l.0, avoids_by a h.1 k.1 l.1, avoids_by b h.2 k.2 l.2)
    form_by (form.match_on e cs) h k l = (avoids_by e h.0 k.0 l.0, cases_by cs h.1 k.1 l.1)
    form_by (form.chain es) h k l = all_by es h k l
    form_by (form.assert e) h k l = avoids_by e h k l
    form_by (form.make a b) h k l = (avoids_by a h.0 k.0 l.0, avoids_by b h.1 k.1 l.1)
    form_by (form.length_of e) h k l = avoids_by e h k l
    form_by (form.fetch a b) h k l = (avoids_by a h.0 k.0 l.0, avoids_by b h.1 k.1 l.1)
    form_by (form.store a b c) h k l = (avoids_by a h.0 k.0 l.0, avoids_by b h.1 k.1 l.1, avoids_by c h.2 k.2 l.2)
    form_by (form.print e) h k l = avoids_by e h k l
    form_by (form.read e) h k l = avoids_by e h k l
    form_by _ h k l = tt

    pub all_by : (es : Trees) → AvoidsAll H es → AvoidsAll K es → AvoidsAll L es → AvoidsAll M es
    all_by no_trees h k l = tt
    all_by (more_trees e es) h k l = (avoids_by e h.0 k.0 l.0, all_by es h.1 k.1 l.1)

    pub cases_by : (cs : Cases) → AvoidsCases H cs → AvoidsCases K cs → AvoidsCases L cs → AvoidsCases M cs
    cases_by no_cases h k l = tt
    cases_by (more_cases q b cs) h k l = (avoids_by b h.0 k.0 l.0, cases_by cs h.1 k.1 l.1)

-- what is pure has no let
mutual
  pub pure_clear : (t : Tree) (H : ℕ → Bool) → is_pure t ≡ true → Avoids H t → Clear H t
  pure_clear (tree i p f) H is av = pure_form_clear f H is av

  pure_form_clear : (f : Form) (H : ℕ → Bool) → is_pure_form f ≡ true → AvoidsForm H f → ClearForm H f
  pure_form_clear (form.whole n) H is av = tt
  pure_form_clear (form.flag b) H is av = tt
  pure_form_clear form.unit H is av = tt
  pure_form_clear (form.use_of x) H is av = av
  pure_form_clear (form.arithmetic o a b) H is av =
      let h = both_true (is_pure_operator o) (is_pure a && is_pure b) is in let l = both_true (is_pure a) (is_pure b) h.1 in
      (pure_clear a H l.0 av.0, pure_clear b H l.1 av.1)
  pure_form_clear (form.negated e) H is av = pure_clear e H is av
  pure_form_clear (form.compare o a b) H is av = let l = both_true (is_pure a) (is_pure b) is in (pure_clear a H l.0 av.0, pure_clear b H l.1 av.1)
  pure_form_clear (form.not_of e) H is av = pure_clear e H is av
  pure_form_clear (form.and_of a b) H is av = let l = both_true (is_pure a) (is_pure b) is in (pure_clear a H l.0 av.0, pure_clear b H l.1 av.1)
  pure_form_clear (form.or_of a b) H is av = let l = both_true (is_pure a) (is_pure b) is in (pure_clear a H l.0 av.0, pure_clear b H l.1 av.1)
  pure_form_clear (form.length_of e) H is av = pure_clear e H is av
  pure_form_clear _ H is av = cc

-- names of lets are below
mutual
  pub lets_low : (t : Tree) (base : ℕ) → Apart base t → (x : ℕ) → lets t x ≡ true → x < base
  lets_low (tree i p f) base ap_ x h = form_low f base ap_ x h

  form_low : (f : Form) (base : ℕ) → ApartForm base f → (x : ℕ) → lets_form f x ≡ true → x < base
  form_low (form.tuple es) base ap_ x h = all_low es base ap_ x h
  form_low (form.build c w es) base ap_ x h = all_low es base ap_ x h
  form_low (form.list_of es) base ap_ x h = all_low es base ap_ x h
  form_low (form.chain es) base ap_ x h = all_low es base ap_ x h
  form_low (form.let_in q e b) base ap_ x h =
      or_cases (is_in (bound_in q) x) (lets e x || lets b x) (x < base) h (λ l. ap_.0 x l) (λ l. or_cases (lets e x) (lets b x) (x < base) l (λ m. lets_low e base ap_.1 x m) (λ m. lets_low b base ap_.3 x m))
  form_low (form.let_rec f j n q b e) base ap_ x h =
      or_cases (f == x) (lets e x) (x < base) h (λ l. let same : f ≡ x = eqb-true f x l in subst (λ m. m < base) same ap_.0) (λ l. lets_low e base ap_.2 x l)
  form_low (form.call a b) base ap_ x h = or_cases (lets a x) (lets b x) (x < base) h (λ m. lets_low a base ap_.0 x m) (λ m. lets_low b base ap_.2 x m)
  form_low (form.arithmetic o a b) base ap_ x h = or_cases (lets a x) (lets b x) (x < base) h (λ m. lets_low a base ap_.0 x m) (λ m. lets_low b base ap_.2 x m)
  form_low (form.compare o a b) base ap_ x h = or_cases (lets a x) (lets b x) (x < base) h (λ m. lets_low a base ap_.0 x m) (λ m. lets_low b base ap_.2 x m)
  form_low (form.make a b) base ap_ x h = or_cases (lets a x) (lets b x) (x < base) h (λ m. lets_low a base ap_.0 x m) (λ m. lets_low b base ap_.2 x m)
  form_low (form.fetch a b) base ap_ x h = or_cases (lets a x) (lets b x) (x < base) h (λ m. lets_low a base ap_.0 x m) (λ m. lets_low b base ap_.2 x m)
  form_low (form.store a b c) base ap_ x h =
      or_cases (lets a x) (lets b x || lets c x) (x < base) h (λ m. lets_low a base ap_.0 x m) (λ l. or_cases (lets b x) (lets c x) (x < base) l (λ m. lets_low b base ap_.3 x m) (λ m. lets_low c base ap_.5 x m))
  form_low (form.negated e) base ap_ x h = lets_low e base ap_ x h
  form_low (form.not_of e) base ap_ x h = lets_low e base ap_ x h
  form_low (form.length_of e) base ap_ x h = lets_low e base ap_ x h
  form_low (form.assert e) base ap_ x h = lets_low e base ap_ x h
  form_low (form.print e) base ap_ x h = lets_low e base ap_ x h
  form_low (form.read e) base ap_ x h = lets_low e base ap_ x h
  form_low (form.and_of a b) base ap_ x h = lets_low a base ap_.0 x h
  form_low (form.or_of a b) base ap_ x h = lets_low a base ap_.0 x h
  form_low (form.if_else c a b) base ap_ x h = lets_low c base ap_.0 x h
  form_low (form.match_on e cs) base ap_ x h = lets_low e base ap_.0 x h
  form_low _ base ap_ x h = cc

  pub all_low : (es : Trees) (base : ℕ) → ApartAll base es → (x : ℕ) → lets_all es x ≡ true → x < base
  all_low no_trees base ap_ x h = cc
  all_low (more_trees e es) base ap_ x h = or_cases (lets e x) (lets_all es x) (x < base) h (λ m. lets_low e base ap_.0 x m) (λ m. all_low es base ap_.3 x m)
