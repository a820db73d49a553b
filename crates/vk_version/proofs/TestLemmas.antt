-- The order and its test say the same, and what each answer of the test says.
use Rattle.std.proofs.Common.{◌≡◌, ◌≤◌, ◌↔◌, ℕ, true, false, List, Option, Some, None, inl, inr}
use Rattle.std.proofs.Common.{refl, ap, sym, ◌∙◌, arith}
use Rattle.std.specs.Prelude.{nat_eq}
use Rattle.std.specs.declared.cmp.Ordering.{Ordering}
use Rattle.std.specs.declared.cmp.Ordering.TheVariants.{Less, Equal, Greater}
use Rattle.std.specs.Bool.{Decides}
use Rattle.std.specs.Ordering.{nat_cmp, ordering_reverse, is_some_and, is_le}
use Rattle.std.specs.Cmp.Lexicographic.{pointwise}
use Rattle.std.proofs.lemmas.Bool.{cases_Bool, cases_order}
use Rattle.std.proofs.lemmas.Bool.Decides.{Decides-eqb, nat_tests}
use Rattle.std.proofs.lemmas.Cmp.{tied_back}
use Rattle.std.proofs.lemmas.Slice.Eq.{slice_eq-Decides}
use Rattle.vk_spec.specs.Versions.{Class, Version, same_class, IsOrder}
use Rattle.vk_spec.proofs.VersionLemmas.{class_decides}
use Rattle.vk_version.specs.Orders.{AtMost, Below, Unrelated, rank_cmp, tie_cmp, unless_tied}
use Rattle.vk_version.specs.Orders.{order_of, at_most}
use Rattle.vk_version.proofs.OrderLemmas.{Ordered, lower, tied, ordered_from, ordered_to}
use Rattle.vk_version.proofs.OrderLemmas.{rank_total, AtMost-refl, AtMost-trans}

-- ---- antisymmetry

same_version : (v w : Version) → v.class ≡ w.class → v.text ≡ w.text → v.port ≡ w.port → v ≡ w
same_version v w c t p = λ i. record { class = c i; text = t i; port = p i }

ordered_anti : (v w : Version) → Ordered v w → Ordered w v → v ≡ w
ordered_anti v w (lower c r) (lower d s) =
    (let clash : Less ≡ Greater = sym r ∙ rank_total.antisymm v w ∙ ap ordering_reverse s in (cc))
ordered_anti v w (lower c r) (tied d s t le) =
    (let clash : Less ≡ Equal = sym r ∙ rank_total.antisymm v w ∙ ap ordering_reverse s in (cc))
ordered_anti v w (tied c r t le) (lower d s) =
    (let clash : Equal ≡ Greater = sym r ∙ rank_total.antisymm v w ∙ ap ordering_reverse s in (cc))
ordered_anti v w (tied c r t le) (tied d s t2 le2) = same_version v w c t (omega arith)

pub AtMost-antisym : (v w : Version) → AtMost v w → AtMost w v → v ≡ w
AtMost-antisym v w h k = ordered_anti v w (ordered_from v w h) (ordered_from w v k)

-- ---- what the test says

-- what each answer means
abbrev pub Says : Version → Version → Option Ordering → Type 0
Says v w (Some Less) = AtMost v w × (AtMost w v → ⊥)
Says v w (Some Equal) = AtMost v w × AtMost w v
Says v w (Some Greater) = (AtMost v w → ⊥) × AtMost w v
Says v w None = Unrelated v w

class_false : (c d : Class) → same_class c d ≡ false → c ≡ d → ⊥
class_false c d e same = let clash : true ≡ false = sym ((class_decides c d).1 same) ∙ e in (cc)

pub ordered_class : (v w : Version) → Ordered v w → v.class ≡ w.class
ordered_class v w (lower c r) = c
ordered_class v w (tied c r t le) = c

-- one that comes later isn't ordered first
not_later : (v w : Version) → rank_cmp v w ≡ Greater → Ordered v w → ⊥
not_later v w g (lower c r) = (let clash : Greater ≡ Less = sym g ∙ r in (cc))
not_later v w g (tied c r t le) = (let clash : Greater ≡ Equal = sym g ∙ r in (cc))

texts_decide : (xs ys : List ℕ) → Decides (pointwise nat_eq xs ys) (xs ≡ ys)
texts_decide xs ys = slice_eq-Decides Decides-eqb xs ys (pointwise nat_eq xs ys) refl

tied_false : (v w : Version) → pointwise nat_eq v.text w.text ≡ false → v.text ≡ w.text → ⊥
tied_false v w e same =
    (let clash : true ≡ false = sym ((texts_decide v.text w.text).1 same) ∙ e in (cc))

-- ordered first, of one rank: the same text, and the port-version isn't greater
pub of_one_rank : (v w : Version) → rank_cmp v w ≡ Equal → Ordered v w → (v.text ≡ w.text)
    × (v.port ≤ w.port)
of_one_rank v w r (lower c s) = (let clash : Equal ≡ Less = sym r ∙ s in (cc))
of_one_rank v w r (tied c s t le) = (t, le)

says_tied : (v w : Version) → v.class ≡ w.class → rank_cmp v w ≡ Equal → v.text ≡ w.text
    → Says v w (Some (nat_cmp v.port w.port))
says_tied v w c r t =
    let back = tied_back rank_total v w r in
    let t_back = sym t in
    elim (cases_order v.port w.port) [
      | inl same ↦
          let e : nat_cmp v.port w.port ≡ Equal = grind (arith, nat_tests) in
          rw e (
            ordered_to v w (tied c r t (omega arith)),
            ordered_to w v (tied (sym c) back t_back (omega arith)),
          )
      | inr other ↦ elim other [
        | inl lt ↦
            let e : nat_cmp v.port w.port ≡ Less = grind (arith, nat_tests) in
            rw e (
              ordered_to v w (tied c r t (omega arith)),
              (λ h. let le =
                  (of_one_rank w v back (ordered_from w v h)).1 in absurd (omega arith)),
            )
        | inr gt ↦
            let e : nat_cmp v.port w.port ≡ Greater = grind (arith, nat_tests) in
            rw e (
              (λ h. let le =
                  (of_one_rank v w r (ordered_from v w h)).1 in absurd (omega arith)),
              ordered_to w v (tied (sym c) back t_back (omega arith)),
            )
      ]
    ]

says_tie : (v w : Version) → v.class ≡ w.class → rank_cmp v w ≡ Equal → Says v w (tie_cmp v w)
says_tie v w c r =
    elim (cases_Bool (pointwise nat_eq v.text w.text)) [
      | inl tie ↦ rw tie (says_tied v w c r ((texts_decide v.text w.text).0 tie))
      | inr none ↦
          let back = tied_back rank_total v w r in
          rw none (
            (λ h. tied_false v w none (of_one_rank v w r (ordered_from v w h)).0),
            (λ h. tied_false v w none (sym (of_one_rank w v back (ordered_from w v h)).0)),
          )
    ]

says_rank : (o : Ordering) (v w : Version) → v.class ≡ w.class → rank_cmp v w ≡ o
    → Says v w (unless_tied o (tie_cmp v w))
says_rank Less v w c r =
    let back : rank_cmp w v ≡ Greater = rank_total.antisymm w v ∙ ap ordering_reverse r in
    (ordered_to v w (lower c r), (λ h. not_later w v back (ordered_from w v h)))
says_rank Equal v w c r = says_tie v w c r
says_rank Greater v w c r =
    let back : rank_cmp w v ≡ Less = rank_total.antisymm w v ∙ ap ordering_reverse r in
    ((λ h. not_later v w r (ordered_from v w h)), ordered_to w v (lower (sym c) back))

pub says : (v w : Version) → Says v w (order_of v w)
says v w =
    elim (cases_Bool (same_class v.class w.class)) [
      | inl same ↦
          rw same (says_rank (rank_cmp v w) v w ((class_decides v.class w.class).0 same) refl)
      | inr other ↦ rw other (
        (λ h. class_false v.class w.class other (ordered_class v w (ordered_from v w h))),
        (λ h. class_false v.class w.class other (sym (ordered_class w v (ordered_from w v h)))),
      )
    ]

-- ---- the test and the relation

test_says : (v w : Version) (answer : Option Ordering) → Says v w answer
    → (is_some_and is_le answer ≡ true) ↔ AtMost v w
test_says v w (Some Less) s = ((λ e. s.0), (λ h. refl))
test_says v w (Some Equal) s = ((λ e. s.0), (λ h. refl))
test_says v w (Some Greater) s = ((λ e. (cc)), (λ h. absurd (s.0 h)))
test_says v w None s = ((λ e. (cc)), (λ h. absurd (s.0 h)))

pub at_most_is : (v w : Version) → (at_most v w ≡ true) ↔ AtMost v w
at_most_is v w = test_says v w (order_of v w) (says v w)

AtMost-same : (v w : Version) → v ≡ w → AtMost v w
AtMost-same v w e = rw e (AtMost-refl w)

-- each answer comes exactly where its meaning holds
pub record Answers (v w : Version) (answer : Option Ordering) : Type 0 where
  pub less : (answer ≡ Some Less) ↔ Below v w
  pub equal : (answer ≡ Some Equal) ↔ (v ≡ w)
  pub greater : (answer ≡ Some Greater) ↔ Below w v
  pub none : (answer ≡ None) ↔ Unrelated v w

answers_says : (v w : Version) (answer : Option Ordering) → Says v w answer → Answers v w answer
answers_says v w (Some Less) s = record {
  less = ((λ e. (s.0, (λ same. s.1 (AtMost-same w v (sym same))))), (λ b. refl));
  equal = ((λ e. (cc)), (λ same. absurd (s.1 (AtMost-same w v (sym same)))));
  greater = ((λ e. (cc)), (λ b. absurd (s.1 b.0)));
  none = ((λ e. (cc)), (λ u. absurd (u.0 s.0)));
}
answers_says v w (Some Equal) s = record {
  less = ((λ e. (cc)), (λ b. absurd (b.1 (AtMost-antisym v w s.0 s.1))));
  equal = ((λ e. AtMost-antisym v w s.0 s.1), (λ same. refl));
  greater = ((λ e. (cc)), (λ b. absurd (b.1 (AtMost-antisym w v s.1 s.0))));
  none = ((λ e. (cc)), (λ u. absurd (u.0 s.0)));
}
answers_says v w (Some Greater) s = record {
  less = ((λ e. (cc)), (λ b. absurd (s.0 b.0)));
  equal = ((λ e. (cc)), (λ same. absurd (s.0 (AtMost-same v w same))));
  greater = ((λ e. (s.1, (λ same. s.0 (AtMost-same v w (sym same))))), (λ b. refl));
  none = ((λ e. (cc)), (λ u. absurd (u.1 s.1)));
}
answers_says v w None s = record {
  less = ((λ e. (cc)), (λ b. absurd (s.0 b.0)));
  equal = ((λ e. (cc)), (λ same. absurd (s.0 (AtMost-same v w same))));
  greater = ((λ e. (cc)), (λ b. absurd (s.1 b.0)));
  none = ((λ e. s), (λ u. refl));
}

pub answers : (v w : Version) (answer : Option Ordering) → answer ≡ order_of v w
    → Answers v w answer
answers v w answer e = rw e (answers_says v w (order_of v w) (says v w))

-- ---- an order on all plain versions

pub at_most-IsOrder : IsOrder at_most
at_most-IsOrder = record {
  reflexive = λ v. (at_most_is v v).1 (AtMost-refl v);
  transitive =
      λ u v w one two. (at_most_is u w).1
      (AtMost-trans u v w ((at_most_is u v).0 one) ((at_most_is v w).0 two));
  antisymmetric =
      λ v w one two. AtMost-antisym v w ((at_most_is v w).0 one) ((at_most_is w v).0 two);
}
