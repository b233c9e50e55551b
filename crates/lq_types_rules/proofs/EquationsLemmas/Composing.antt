-- Rules one after another.
use Rattle.std.proofs.Common.{◌≡◌, ℕ, ◌<◌, List, [], ◌++◌, All, refl, sym, ap, subst, ◌∙◌, arith}
use Rattle.std.proofs.lemmas.List.Elements.{All-append}
use Rattle.lq_text_tree.specs.MlType as ml
use Rattle.lq_text_tree.specs.MlType.{MlType, MlTypes}
use Rattle.lq_types_unify.specs.declared.arena.Equation.{Equation}
use Rattle.lq_types_rules.specs.declared.equations.system.System.{System}
use Rattle.lq_types_unify.specs.declared.arena.Head.{Head}
use Rattle.lq_types_rules.specs.Equations.Solutions.{made, each}
use Rattle.lq_types_rules.specs.Equations.Adding.{IsSystem, IsLonger, Depends, Grows, Offers, Adds, Extends, count_of}
use Rattle.lq_types_rules.proofs.EquationsLemmas.Growing.{all_left, all_right, all_none, agree_each, agree_after, meets_later, fits_before, more_nodes, grows_after, grows_none}

-- types of more nodes, and then of still more
then_extends : (old mid new : System) (before since : List Equation) (roots : List ℕ) (types : ℕ → MlType) (ts : MlTypes) → Grows old mid before → All (λ r. r < count_of mid) roots
    → (x : Extends old mid before roots types ts) → Extends mid new since [] x.later ml.no_types → Extends old new (before ++ since) roots types ts
then_extends old mid new before since roots types ts g inside x y = record {
  later = y.later;
  agree = agree_after (count_of old) (count_of mid) types x.later y.later g.longer x.agree y.agree;
  fits = y.fits;
  meets = All-append (λ (e : Equation). y.later e.left ≡ y.later e.right) before since (meets_later (count_of mid) before x.later y.later (more_nodes old mid before g) y.agree x.meets) y.meets;
  roots_are = agree_each (count_of mid) x.later y.later y.agree roots inside ∙ x.roots_are;
}

pub offer_then : (old mid new : System) (roots : List ℕ) (P Q : (ℕ → MlType) → MlTypes → Type 0) → Offers old mid roots P → Adds mid new (λ t. Q t (each t roots))
    → ((ts : MlTypes) → Depends (count_of old) (λ t. Q t ts)) → Offers old new roots (λ t ts. P t ts × Q t ts)
offer_then old mid new roots P Q a b d = record {
  more = a.more ++ b.more;
  grows = grows_after old mid new a.more b.more a.grows b.grows;
  inside = λ k e l. let x = a.inside k e l in let y = b.grows.longer in omega arith;
  says = λ t f m. let E : Equation → Type 0 = λ e. t e.left ≡ t e.right in
      (a.says t (fits_before mid new b.more b.grows t f) (all_left E a.more b.more m), b.says t f (all_right E a.more b.more m));
  said = λ t ts f pq.
      let x = a.said t ts f pq.0 in
      let q : Q x.later ts = d ts t x.later x.agree pq.1 in
      then_extends old mid new a.more b.more roots t ts a.grows a.inside x (b.said x.later x.fits (subst (Q x.later) (sym x.roots_are) q));
}

pub close : (old new : System) (roots : List ℕ) (P : (ℕ → MlType) → MlTypes → Type 0) → Offers old new roots P → Adds old new (λ t. (ts : MlTypes) × P t ts)
close old new roots P o = record {
  more = o.more;
  grows = o.grows;
  says = λ t f m. (each t roots, o.says t f m);
  said = λ t f p. let x = o.said t p.0 f p.1 in record { later = x.later; agree = x.agree; fits = x.fits; meets = x.meets; roots_are = refl };
}

pub after : (old mid new : System) (P Q : (ℕ → MlType) → Type 0) → Adds old mid P → Adds mid new Q → Depends (count_of old) Q → Adds old new (λ t. P t × Q t)
after old mid new P Q a b d = record {
  more = a.more ++ b.more;
  grows = grows_after old mid new a.more b.more a.grows b.grows;
  says = λ t f m. let E : Equation → Type 0 = λ e. t e.left ≡ t e.right in
      (a.says t (fits_before mid new b.more b.grows t f) (all_left E a.more b.more m), b.says t f (all_right E a.more b.more m));
  said = λ t f pq.
      let x = a.said t f pq.0 in
      then_extends old mid new a.more b.more [] t ml.no_types a.grows (all_none (λ r. r < count_of mid)) x (b.said x.later x.fits (d t x.later x.agree pq.1));
}

pub adds_as : (old new : System) (P Q : (ℕ → MlType) → Type 0) → Adds old new P → ((t : ℕ → MlType) → P t → Q t) → ((t : ℕ → MlType) → Q t → P t) → Adds old new Q
adds_as old new P Q a to back = record { more = a.more; grows = a.grows; says = λ t f m. to t (a.says t f m); said = λ t f q. a.said t f (back t q) }

pub offers_as : (old new : System) (roots : List ℕ) (P Q : (ℕ → MlType) → MlTypes → Type 0) → Offers old new roots P → ((t : ℕ → MlType) (ts : MlTypes) → P t ts → Q t ts)
    → ((t : ℕ → MlType) (ts : MlTypes) → Q t ts → P t ts) → Offers old new roots Q
offers_as old new roots P Q a to back =
    record { more = a.more; grows = a.grows; inside = a.inside; says = λ t f m. to t (each t roots) (a.says t f m); said = λ t ts f q. a.said t ts f (back t ts q) }

pub adds_nothing : (s : System) → IsSystem s → Adds s s (λ t. Unit {0})
adds_nothing s h = record {
  more = [];
  grows = grows_none s h;
  says = λ t f m. tt;
  said = λ t f p. record { later = t; agree = λ i l. refl; fits = f; meets = all_none (λ (e : Equation). t e.left ≡ t e.right); roots_are = refl };
}

-- ---- what facts rest on

pub depends_alike : (n a b : ℕ) → a < n → b < n → Depends n (λ t. t a ≡ t b)
depends_alike n a b ha hb types later g e = g a ha ∙ e ∙ sym (g b hb)

pub depends_plain : (n slot : ℕ) (a : MlType) → slot < n → Depends n (λ t. t slot ≡ a)
depends_plain n slot a l types later g e = g slot l ∙ e

pub longer_of : (old new : System) (P : (ℕ → MlType) → Type 0) → Adds old new P → IsLonger old new
longer_of old new P a = record { system = a.grows.system; longer = a.grows.longer }

pub longer_after : (old mid new : System) → IsLonger old mid → IsLonger mid new → IsLonger old new
longer_after old mid new a b = record { system = b.system; longer = let x = a.longer in let y = b.longer in omega arith }

pub longer_none : (s : System) → IsSystem s → IsLonger s s
longer_none s h = record { system = h; longer = omega arith }
