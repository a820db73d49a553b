-- The order of the worked projects is an order.
use Rattle.std.proofs.Common.{◌≡◌, ◌≤◌, ◌⊎◌, ℕ, true, ◌&&◌, List, nat_le, inl, inr, refl, ap, sym, ◌∙◌, subst, arith, nat_cmp, Ordering, Less, Equal, Greater, is_lt}
use Rattle.std.specs.Prelude.{bytes_eq}
use Rattle.std.specs.Cmp.{nat_cmp_total, tied_itself}
use Rattle.std.specs.Cmp.Lexicographic.{slice_cmp, lists_total}
use Rattle.std.proofs.lemmas.Bool.Decides.{nat_tests}
use Rattle.std.proofs.lemmas.Slice.Eq.{bytes_eq-Decides}
use Rattle.vk_spec.specs.Versions.{Class, dot, date, text, Version, IsOrder}
use Rattle.vk_resolution.specs.Examples.{numbers, at_most_dots, at_most_texts, at_most_by, at_most}
use Rattle.vk_resolution.proofs.Members.{or_true, or_left, or_right, both_true, and_true}

abbrev bytes_cmp : List ℕ → List ℕ → Ordering
bytes_cmp = slice_cmp nat_cmp

less_is : (o : Ordering) → is_lt o ≡ true → o ≡ Less
less_is Less e = refl
less_is Equal e = (cc)
less_is Greater e = (cc)

-- the same text, and no greater port-version
abbrev SameText : Version → Version → Type 0
SameText v w = (v.text ≡ w.text) × (v.port ≤ w.port)

texts_are : (v w : Version) → at_most_texts v w ≡ true → SameText v w
texts_are v w e =
    let parts = both_true (bytes_eq v.text w.text) (nat_le v.port w.port) e in
    let below : nat_le v.port w.port ≡ true = parts.1 in
    ((bytes_eq-Decides v.text w.text).0 parts.0, grind (arith, nat_tests, below))

are_texts : (v w : Version) → SameText v w → at_most_texts v w ≡ true
are_texts v w s =
    let below : v.port ≤ w.port = s.1 in
    and_true (bytes_eq v.text w.text) (nat_le v.port w.port) ((bytes_eq-Decides v.text w.text).1 s.0) (grind (arith, nat_tests, below))

abbrev Lower : Version → Version → Type 0
Lower v w = bytes_cmp (numbers v.text) (numbers w.text) ≡ Less

dots_are : (v w : Version) → at_most_dots v w ≡ true → Lower v w ⊎ SameText v w
dots_are v w e =
    elim (or_true (is_lt (bytes_cmp (numbers v.text) (numbers w.text))) (bytes_eq v.text w.text && nat_le v.port w.port) e) [
      | inl less ↦ inl (less_is (bytes_cmp (numbers v.text) (numbers w.text)) less)
      | inr same ↦ inr (texts_are v w same)
    ]

lower_dots : (v w : Version) → Lower v w → at_most_dots v w ≡ true
lower_dots v w lower = or_left (is_lt (bytes_cmp (numbers v.text) (numbers w.text))) (bytes_eq v.text w.text && nat_le v.port w.port) (ap is_lt lower)

same_dots : (v w : Version) → SameText v w → at_most_dots v w ≡ true
same_dots v w s = or_right (is_lt (bytes_cmp (numbers v.text) (numbers w.text))) (bytes_eq v.text w.text && nat_le v.port w.port) (are_texts v w s)

itself : (v : Version) → SameText v v
itself v = (refl, omega arith)

same_then : (u v w : Version) → SameText u v → SameText v w → SameText u w
same_then u v w one two = let a : u.port ≤ v.port = one.1 in let b : v.port ≤ w.port = two.1 in (one.0 ∙ two.0, omega arith)

same_port : (v w : Version) → SameText v w → SameText w v → v.port ≡ w.port
same_port v w one two = let a : v.port ≤ w.port = one.1 in let b : w.port ≤ v.port = two.1 in omega arith

dots_then : (u v w : Version) → at_most_dots u v ≡ true → at_most_dots v w ≡ true → at_most_dots u w ≡ true
dots_then u v w one two =
    elim (dots_are u v one) [
      | inl lower ↦ elim (dots_are v w two) [
        | inl more ↦ lower_dots u w ((lists_total nat_cmp_total).trans (numbers u.text) (numbers v.text) (numbers w.text) lower more)
        | inr same ↦ lower_dots u w (subst (λ t. bytes_cmp (numbers u.text) (numbers t) ≡ Less) same.0 lower)
      ]
      | inr same ↦ elim (dots_are v w two) [
        | inl more ↦ lower_dots u w (subst (λ t. bytes_cmp (numbers t) (numbers w.text) ≡ Less) (sym same.0) more)
        | inr again ↦ same_dots u w (same_then u v w same again)
      ]
    ]

not_below_itself : (t : List ℕ) → bytes_cmp t t ≡ Less → ⊥
not_below_itself t e = let clash : Equal ≡ Less = sym (tied_itself (lists_total nat_cmp_total) t) ∙ e in (cc)

dots_both : (v w : Version) → at_most_dots v w ≡ true → at_most_dots w v ≡ true → (v.text ≡ w.text) × (v.port ≡ w.port)
dots_both v w one two =
    elim (dots_are v w one) [
      | inl lower ↦ elim (dots_are w v two) [
        | inl more ↦ absurd (not_below_itself (numbers v.text) ((lists_total nat_cmp_total).trans (numbers v.text) (numbers w.text) (numbers v.text) lower more))
        | inr same ↦ absurd (not_below_itself (numbers v.text) (subst (λ t. bytes_cmp (numbers v.text) (numbers t) ≡ Less) same.0 lower))
      ]
      | inr same ↦ elim (dots_are w v two) [
        | inl more ↦ absurd (not_below_itself (numbers w.text) (subst (λ t. bytes_cmp (numbers w.text) (numbers t) ≡ Less) same.0 more))
        | inr again ↦ (same.0, same_port v w same again)
      ]
    ]

by_itself : (c : Class) (v : Version) → at_most_by c c v v ≡ true
by_itself dot v = same_dots v v (itself v)
by_itself date v = same_dots v v (itself v)
by_itself text v = are_texts v v (itself v)

by_then : (a b c : Class) (u v w : Version) → at_most_by a b u v ≡ true → at_most_by b c v w ≡ true → at_most_by a c u w ≡ true
by_then dot dot dot u v w one two = dots_then u v w one two
by_then dot dot date u v w one two = (cc)
by_then dot dot text u v w one two = (cc)
by_then dot date c u v w one two = (cc)
by_then dot text c u v w one two = (cc)
by_then date dot c u v w one two = (cc)
by_then date date dot u v w one two = (cc)
by_then date date date u v w one two = dots_then u v w one two
by_then date date text u v w one two = (cc)
by_then date text c u v w one two = (cc)
by_then text dot c u v w one two = (cc)
by_then text date c u v w one two = (cc)
by_then text text dot u v w one two = (cc)
by_then text text date u v w one two = (cc)
by_then text text text u v w one two = are_texts u w (same_then u v w (texts_are u v one) (texts_are v w two))

by_both : (a b : Class) (v w : Version) → at_most_by a b v w ≡ true → at_most_by b a w v ≡ true → (a ≡ b) × (v.text ≡ w.text) × (v.port ≡ w.port)
by_both dot dot v w one two = let r = dots_both v w one two in (refl, r.0, r.1)
by_both dot date v w one two = (cc)
by_both dot text v w one two = (cc)
by_both date dot v w one two = (cc)
by_both date date v w one two = let r = dots_both v w one two in (refl, r.0, r.1)
by_both date text v w one two = (cc)
by_both text dot v w one two = (cc)
by_both text date v w one two = (cc)
by_both text text v w one two =
    let s = texts_are v w one in
    (refl, s.0, same_port v w s (texts_are w v two))

pub at_most_is_order : IsOrder at_most
at_most_is_order = record {
  reflexive = λ v. by_itself v.class v;
  transitive = λ u v w one two. by_then u.class v.class w.class u v w one two;
  antisymmetric = λ v w one two. (let r = by_both v.class w.class v w one two in λ k. record { class = r.0 k; text = r.1 k; port = r.2 k });
}
