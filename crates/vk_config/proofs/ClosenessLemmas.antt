-- The closest pattern is one that none beats.
use Rattle.std.proofs.Common.{◌≡◌, ◌+◌, ◌<◌, ◌≤◌, ℕ, Bool, true, false, List, [], ◌∷◌, ◌++◌, length}
use Rattle.std.proofs.Common.{take, drop, max, bytes_eq, inl, inr, refl, ap, sym, ◌∙◌, append_assoc}
use Rattle.std.proofs.Common.{arith}
use Rattle.std.specs.Prelude.{Option, Some, None, if◌then◌else◌}
use Rattle.std.specs.List.{Contains}
use Rattle.std.proofs.lemmas.Bool.{cases_lt}
use Rattle.std.proofs.Math.Seq.{take-append_seam}
use Rattle.std.proofs.lemmas.List.{length-append, take-append-drop, append-nil}
use Rattle.std.proofs.lemmas.List.Elements.{Contains-push, Contains-push_cases}
use Rattle.std.proofs.lemmas.List.Elements.{Contains-append_left}
use Rattle.std.proofs.lemmas.Slice.Eq.{bytes_eq-Decides}
use Rattle.vk_spec.proofs.ListLemmas.{contains_nothing}
use Rattle.vk_config.specs.Configs.{Pattern, exact, starting}
use Rattle.vk_config.specs.Serving.{Takes, Beats}
use Rattle.vk_config.specs.Closeness.{closeness, closer, closest_from, closest}

max_right : (k n : ℕ) → k < n → max k n ≡ n
max_right k n less = omega (arith, less)

max_left : (k n : ℕ) → n ≤ k → max k n ≡ k
max_left k n most = omega (arith, most)

-- ---- one pattern

-- a pattern takes a port so closely
abbrev pub IsClose : List ℕ → Pattern → ℕ → Type 0
IsClose port (exact name) n = (name ≡ port) × (n ≡ length port + 1)
IsClose port (starting text) n = ((rest : List ℕ) × (port ≡ text ++ rest)) × (n ≡ length text)

if_some : (test : Bool) (x n : ℕ) → (if test then Some x else None) ≡ Some n → (test ≡ true)
    × (n ≡ x)
if_some true x n e = (refl, (cc))
if_some false x n e = (cc)

pub close_is : (port : List ℕ) (pattern : Pattern) (n : ℕ) → closeness port pattern ≡ Some n
    → IsClose port pattern n
close_is port (exact name) n e =
    let s = if_some (bytes_eq name port) (length port + 1) n e in
    ((bytes_eq-Decides name port).0 s.0, s.1)
close_is port (starting text) n e =
    let s = if_some (bytes_eq text (take (length text) port)) (length text) n e in
    let front = (bytes_eq-Decides text (take (length text) port)).0 s.0 in (
      (
        drop (length text) port,
        sym (take-append-drop (length text) port)
            ∙ ap (λ l. l ++ drop (length text) port) (sym front),
      ),
      s.1,
    )

-- a pattern that takes a port does so closely
pub takes_close : (port : List ℕ) (pattern : Pattern) → Takes pattern port → (n : ℕ)
    × (closeness port pattern ≡ Some n)
takes_close port (exact name) takes =
    (length port + 1, rw ((bytes_eq-Decides name port).1 takes) refl)
takes_close port (starting text) takes =
    let front : text ≡ take (length text) port =
    sym (ap (take (length text)) takes.1 ∙ take-append_seam text takes.0) in
    (length text, rw ((bytes_eq-Decides text (take (length text) port)).1 front) refl)

pub takes_is : (port : List ℕ) (pattern : Pattern) (n : ℕ) → IsClose port pattern n
    → Takes pattern port
takes_is port (exact name) n close = close.0
takes_is port (starting text) n close = close.0

-- the closer of two beats the other
pub close_beats : (port : List ℕ) (pattern rival : Pattern) (n m : ℕ) → IsClose port pattern n
    → IsClose port rival m → n < m → Beats rival pattern
close_beats port (exact name) (exact other) n m one two less =
    absurd (omega (arith, one.1, two.1, less))
close_beats port (exact name) (starting text) n m one two less =
    let long = ap length two.0.1 ∙ length-append text two.0.0 in
    absurd (omega (arith, one.1, two.1, less, long))
close_beats port (starting text) (exact name) n m one two less = tt
close_beats port (starting text) (starting other) n m one two less =
    omega (arith, one.1, two.1, less)

-- what beats another is closer
pub beats_close : (port : List ℕ) (pattern rival : Pattern) (n m : ℕ) → IsClose port pattern n
    → IsClose port rival m → Beats rival pattern → n < m
beats_close port (exact name) (exact other) n m one two beats = absurd beats
beats_close port (exact name) (starting text) n m one two beats = absurd beats
beats_close port (starting text) (exact name) n m one two beats =
    let long = ap length one.0.1 ∙ length-append text one.0.0 in
    omega (arith, one.1, two.1, long)
beats_close port (starting text) (starting other) n m one two beats =
    omega (arith, one.1, two.1, beats)

-- ---- the patterns of a registry

abbrev pub IsClosest : List ℕ → List Pattern → Option ℕ → Type 0
IsClosest port patterns None = (pattern : Pattern) → Contains patterns pattern
    → closeness port pattern ≡ None
IsClosest port patterns (Some n) =
    ((pattern : Pattern) × Contains patterns pattern × (closeness port pattern ≡ Some n))
    × ((rival : Pattern) (m : ℕ) → Contains patterns rival → closeness port rival ≡ Some m → m ≤ n)

no_closest : (port : List ℕ) → IsClosest port [] None
no_closest port pattern at = absurd (contains_nothing pattern at)

-- one pattern more, of this closeness
one_closer : (port : List ℕ) (patterns : List Pattern) (pattern : Pattern) (found next : Option ℕ)
    → closeness port pattern ≡ next → IsClosest port patterns found
    → IsClosest port (patterns ++ pattern ∷ []) (closer found next)
one_closer port patterns pattern None None is known =
    λ one at. elim (Contains-push_cases patterns pattern one at) [
      | inl old ↦
          known one old
      | inr same ↦ rw (← same) is
    ]
one_closer port patterns pattern None (Some n) is known = (
  (pattern, Contains-push patterns pattern, is),
  λ rival m at close. elim (Contains-push_cases patterns pattern rival at) [
    | inl old ↦ (let none = known rival old in let clash : None ≡ Some m = sym none ∙ close in (cc))
    | inr same ↦
        (let e : Some n ≡ Some m = sym is
        ∙ rw same close in let equal : n ≡ m = (cc) in omega (arith, equal))
  ],
)
one_closer port patterns pattern (Some k) None is known = (
  (known.0.0, Contains-append_left patterns (pattern ∷ []) known.0.0 known.0.1, known.0.2),
  λ rival m at close. elim (Contains-push_cases patterns pattern rival at) [
    | inl old ↦ known.1 rival m old close
    | inr same ↦ (let clash : None ≡ Some m = sym is ∙ rw same close in (cc))
  ],
)
one_closer port patterns pattern (Some k) (Some n) is known = (
  elim (cases_lt k n) [
    | inl less ↦ (pattern, Contains-push patterns pattern, is ∙ ap Some (sym (max_right k n less)))
    | inr most ↦ (
      known.0.0,
      Contains-append_left patterns (pattern ∷ []) known.0.0 known.0.1,
      known.0.2
          ∙ ap Some (sym (max_left k n most)),
    )
  ],
  λ rival m at close. elim (Contains-push_cases patterns pattern rival at) [
    | inl old ↦ (let few = known.1 rival m old close in omega (arith, few))
    | inr same ↦
        (let e : Some n ≡ Some m = sym is
        ∙ rw same close in let equal : n ≡ m = (cc) in omega (arith, equal))
  ],
)

closest_after : (port : List ℕ) (before patterns : List Pattern) (found : Option ℕ)
    → IsClosest port before found
    → IsClosest port (before ++ patterns) (closest_from port found patterns)
closest_after port before [] found known = rw (append-nil before) known
closest_after port before (pattern ∷ patterns) found known =
    rw (sym (append_assoc before (pattern ∷ []) patterns))
    (closest_after port (before ++ pattern ∷ []) patterns
    (closer found (closeness port pattern))
    (one_closer port before pattern found (closeness port pattern) refl known))

pub closest_is : (port : List ℕ) (patterns : List Pattern)
    → IsClosest port patterns (closest port patterns)
closest_is port patterns = closest_after port [] patterns None (no_closest port)
