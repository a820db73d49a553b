-- Asks are the same where their texts and port-versions are, and are found in a list; versions are where their classes are too.
use Rattle.std.proofs.Common.{◌≡◌, Bool, true, false, ◌&&◌, ◌||◌, eqb, bytes_eq, List, [], ◌∷◌, inl, inr, refl, ap, sym, subst, ◌∙◌, arith}
use Rattle.std.specs.List.{Contains, list_any}
use Rattle.std.proofs.lemmas.Bool.Decides.{nat_tests}
use Rattle.std.proofs.lemmas.Slice.Eq.{bytes_eq-Decides}
use Rattle.std.specs.Bool.{Decides}
use Rattle.vk_spec.specs.Versions as plain
use Rattle.vk_spec.specs.Versions.{Class, Version, Ask, ask_of, same_ask, same_class, same_version}
use Rattle.vk_spec.proofs.ListLemmas.{contains_nothing, contains_first, contains_later, contains_cases}

by_tests : (a b : Ask) (text port : Bool) → bytes_eq a.text b.text ≡ text → eqb a.port b.port ≡ port → (text && port) ≡ true → a ≡ b
by_tests a b true true text port e =
    let one = (bytes_eq-Decides a.text b.text).0 text in
    let other : a.port ≡ b.port = grind (arith, nat_tests) in
    λ i. record { text = one i; port = other i }
by_tests a b true false text port e = (cc)
by_tests a b false port text is e = (cc)

pub asks_equal : (a b : Ask) → same_ask a b ≡ true → a ≡ b
asks_equal a b e = by_tests a b (bytes_eq a.text b.text) (eqb a.port b.port) refl refl e

pub ask_itself : (a : Ask) → same_ask a a ≡ true
ask_itself a =
    let text = (bytes_eq-Decides a.text a.text).1 refl in
    let port : eqb a.port a.port ≡ true = grind (arith, nat_tests) in
    rw (text, port) refl

or_true : (b : Bool) → (b || true) ≡ true
or_true true = refl
or_true false = refl

-- an ask that is there is found
pub is_there : (asks : List Ask) (ask : Ask) → Contains asks ask → list_any (same_ask ask) asks ≡ true
is_there [] ask h = absurd (contains_nothing ask h)
is_there (one ∷ asks) ask h =
    elim (contains_cases one ask asks h) [
      | inl same ↦ rw (same, ask_itself ask) refl
      | inr later ↦ rw (is_there asks ask later) (or_true (same_ask ask one))
    ]

pub is_new : (asks : List Ask) (ask : Ask) → list_any (same_ask ask) asks ≡ false → Contains asks ask → ⊥
is_new asks ask none h = let clash : true ≡ false = sym (is_there asks ask h) ∙ none in (cc)

-- one that is found is there
pub is_found : (asks : List Ask) (ask : Ask) → list_any (same_ask ask) asks ≡ true → Contains asks ask
is_found [] ask e = (cc)
is_found (one ∷ asks) ask e = by (same_ask ask one) refl e (is_found asks ask)
  where
    by : (b : Bool) → same_ask ask one ≡ b → (b || list_any (same_ask ask) asks) ≡ true → (list_any (same_ask ask) asks ≡ true → Contains asks ask) → Contains (one ∷ asks) ask
    by true same h f = subst (λ a. Contains (one ∷ asks) a) (sym (asks_equal ask one same)) (contains_first one asks)
    by false same h f = contains_later one ask asks (f h)

-- two tests decide two facts together
pub both_decide : {P Q : Type 0} (a b : Bool) → Decides a P → Decides b Q → Decides (a && b) (P × Q)
both_decide true true p q = (λ e. (p.0 refl, q.0 refl), λ e. refl)
both_decide true false p q = (λ e. (cc), λ e. q.1 e.1)
both_decide false b p q = (λ e. (cc), λ e. p.1 e.0)

-- the tests decide whether classes and versions are one
pub class_decides : (c d : Class) → Decides (same_class c d) (c ≡ d)
class_decides plain.dot plain.dot = (λ e. refl, λ e. refl)
class_decides plain.dot plain.date = (λ e. (cc), λ e. (cc))
class_decides plain.dot plain.text = (λ e. (cc), λ e. (cc))
class_decides plain.date plain.dot = (λ e. (cc), λ e. (cc))
class_decides plain.date plain.date = (λ e. refl, λ e. refl)
class_decides plain.date plain.text = (λ e. (cc), λ e. (cc))
class_decides plain.text plain.dot = (λ e. (cc), λ e. (cc))
class_decides plain.text plain.date = (λ e. (cc), λ e. (cc))
class_decides plain.text plain.text = (λ e. refl, λ e. refl)

ask_decides : (a b : Ask) → Decides (same_ask a b) (a ≡ b)
ask_decides a b = (asks_equal a b, λ e. subst (λ x. same_ask a x ≡ true) e (ask_itself a))

pub version_decides : (v w : Version) → Decides (same_version v w) (v ≡ w)
version_decides v w =
    let d = both_decide (same_class v.class w.class) (same_ask (ask_of v) (ask_of w)) (class_decides v.class w.class) (ask_decides (ask_of v) (ask_of w)) in (
      λ e. let p = d.0 e in λ i. record { class = p.0 i; text = (p.1 i).text; port = (p.1 i).port },
      λ e. d.1 (ap (λ x. x.class) e, ap ask_of e),
    )
