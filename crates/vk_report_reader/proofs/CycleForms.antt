-- Cycles are read instance by instance.
use Rattle.std.proofs.Common.{◌≡◌, ◌⊎◌, ◌++◌, ◌∷◌, ◌<◌, ℕ, List, [], length, length-append, inl, inr, refl, ap, sym, ◌∙◌, subst, append_assoc, arith, codes}
use Rattle.std.specs.Prelude.{Some, None}
use Rattle.std.specs.List.{All, flat_map}
use Rattle.std.proofs.lemmas.List.{append-nil}
use Rattle.std.proofs.lemmas.Grind.{flat_map-append}
use Rattle.std.proofs.lemmas.List.Elements.{All-nil, All-cons, All-append, All-head, All-tail}
use Rattle.vk_spec.specs.Settings.{Instance}
use Rattle.vk_base.specs.Names.{IsName, port_rule, word_rule}
use Rattle.vk_base.specs.Paths.{Lacks}
use Rattle.vk_base.specs.Tokens.{token_of}
use Rattle.vk_base.proofs.PathLemmas.{lacks_byte}
use Rattle.vk_resolution.specs.Settings.{inst}
use Rattle.vk_resolution.specs.Faults.{Fault, conflicts, differs, has_cycle, isnt_supported, lacks_baseline, lacks_feature, lacks_registry, lacks_version, troubled, unreadable}
use Rattle.vk_resolution.specs.Lines.{fault_line, who_text}
use Rattle.vk_forms.specs.Choices.{either_text, IsRightEither}
use Rattle.vk_report_reader.specs.Cycles.{CycleParts, IsWalk, cycle_fault, walk_text}
use Rattle.vk_report_reader.specs.Faults.{IsCycle, IsRightAnd, IsRightFault}
use Rattle.vk_forms.specs.Forms.{ReadsAs, pair_text, IsRightPair}
use Rattle.vk_forms.specs.Names.{IsRightInstance, instance_of}
use Rattle.vk_forms.specs.Words.{Any}
use Rattle.vk_forms.proofs.NameForms.{name_lacks, name_token}
use Rattle.vk_forms.proofs.PairForms.{lacks_none, same_pair}
use Rattle.vk_report_reader.proofs.Spaced.{spaced2}
use Rattle.vk_forms.proofs.Through.{AreParts}

-- an instance and more, or the last instance
abbrev pub Next : Type 0
Next = (List ℕ × (List ℕ × List ℕ)) ⊎ (List ℕ × List ℕ)

abbrev pub next_text : Next → List ℕ
next_text = either_text (pair_text 32 token_of (pair_text 32 token_of (λ t. t))) (pair_text 32 token_of token_of)

abbrev pub IsNext : Next → Type 0
IsNext = IsRightEither (IsRightPair 32 token_of (IsName port_rule) (IsRightPair 32 token_of (IsName word_rule) (λ t. Unit {0}))) (IsRightPair 32 token_of (IsName port_rule) (IsName word_rule))

abbrev pub walked : List Instance → List ℕ
walked walk = flat_map (λ i. who_text (inst i) ++ 32 ∷ []) walk

pub record WalksAlong (text rest : List ℕ) (walk : List Instance) : Type 0 where
  pub done : text ≡ walked walk ++ rest
  pub right : All IsRightInstance walk
  pub on : (is : List Instance) → IsWalk is → text ≡ walk_text is → (js : List Instance) × (IsWalk js × (rest ≡ walk_text js))

pub walk_from : (text rest : List ℕ) (walk : List Instance) → rest ≡ text → walk ≡ [] → WalksAlong text rest walk
walk_from text rest walk same none = subst (λ w. WalksAlong text rest w) (sym none) record {
  done = sym same;
  right = All-nil IsRightInstance;
  on = λ is right e. (is, (right, same ∙ e));
}

port_blank : (i : Instance) → IsRightInstance i → Lacks 32 (token_of i.port)
port_blank i right = name_lacks port_rule 32 i.port refl right.0

triplet_blank : (i : Instance) → IsRightInstance i → Lacks 32 (token_of i.triplet)
triplet_blank i right = name_lacks word_rule 32 i.triplet refl right.1

-- the first instance of a walk, and what follows
pub two_text : (i j : Instance) (is : List Instance) → walk_text (i ∷ j ∷ is) ≡ token_of i.port ++ 32 ∷ (token_of i.triplet ++ 32 ∷ walk_text (j ∷ is))
two_text i j is = append_assoc (token_of i.port ++ 32 ∷ []) (token_of i.triplet) (32 ∷ walk_text (j ∷ is)) ∙ spaced2 (token_of i.port) (token_of i.triplet ++ 32 ∷ walk_text (j ∷ is))

pub one_text : (i : Instance) → walk_text (i ∷ []) ≡ token_of i.port ++ 32 ∷ token_of i.triplet
one_text i = spaced2 (token_of i.port) (token_of i.triplet)

-- what is left of a walk after an instance that more follows
later_walk : (p t more rest : List ℕ) → rest ≡ token_of p ++ 32 ∷ (token_of t ++ 32 ∷ more) → Lacks 32 (token_of p) → Lacks 32 (token_of t) → (js : List Instance) → IsWalk js → rest ≡ walk_text js → (ks : List Instance) × (IsWalk ks × (more ≡ walk_text ks))
later_walk p t more rest is port triplet [] right e = absurd right
later_walk p t more rest is port triplet (j ∷ []) right e =
    let one = All-head IsRightInstance j [] right in
    let same = same_pair 32 (token_of p) (token_of j.port) (token_of t ++ 32 ∷ more) (token_of j.triplet) port (port_blank j one) (sym is ∙ e ∙ one_text j) in
    absurd (lacks_none 32 (token_of t) more (subst (Lacks 32) (sym same.1) (triplet_blank j one)))
later_walk p t more rest is port triplet (j ∷ k ∷ ks) right e =
    let one = All-head IsRightInstance j (k ∷ ks) right in
    let same = same_pair 32 (token_of p) (token_of j.port) (token_of t ++ 32 ∷ more) (token_of j.triplet ++ 32 ∷ walk_text (k ∷ ks)) port (port_blank j one) (sym is ∙ e ∙ two_text j k ks) in
    let rest_same = same_pair 32 (token_of t) (token_of j.triplet) more (walk_text (k ∷ ks)) triplet (triplet_blank j one) same.1 in
    (k ∷ ks, (All-tail IsRightInstance j (k ∷ ks) right, rest_same.1))

instance_is : (i j : Instance) → i.port ≡ j.port → i.triplet ≡ j.triplet → i ≡ j
instance_is i j port triplet = ap (λ p. instance_of p i.triplet) port ∙ ap (instance_of j.port) triplet

pub instance_apart : (i j : Instance) → IsRightInstance i → IsRightInstance j → token_of i.port ≡ token_of j.port → token_of i.triplet ≡ token_of j.triplet → i ≡ j
instance_apart i j one other port triplet = instance_is i j
    (sym (name_token port_rule i.port one.0) ∙ port ∙ name_token port_rule j.port other.0)
    (sym (name_token word_rule i.triplet one.1) ∙ triplet ∙ name_token word_rule j.triplet other.1)

-- one instance isn't two
one_not_two : (i j k : Instance) (ks : List Instance) → IsRightInstance i → IsRightInstance j → walk_text (i ∷ []) ≡ walk_text (j ∷ k ∷ ks) → ⊥
one_not_two i j k ks one other e =
    let same = same_pair 32 (token_of i.port) (token_of j.port) (token_of i.triplet) (token_of j.triplet ++ 32 ∷ walk_text (k ∷ ks)) (port_blank i one) (port_blank j other) (sym (one_text i) ∙ e ∙ two_text j k ks) in
    lacks_none 32 (token_of j.triplet) (walk_text (k ∷ ks)) (subst (Lacks 32) same.1 (triplet_blank i one))

-- no two walks have one text
pub walk_apart : (x y : List Instance) → IsWalk x → IsWalk y → walk_text x ≡ walk_text y → x ≡ y
walk_apart [] y left right e = absurd left
walk_apart (i ∷ is) [] left right e = absurd right
walk_apart (i ∷ []) (j ∷ []) left right e =
    let one = All-head IsRightInstance i [] left in
    let other = All-head IsRightInstance j [] right in
    let same = same_pair 32 (token_of i.port) (token_of j.port) (token_of i.triplet) (token_of j.triplet) (port_blank i one) (port_blank j other) (sym (one_text i) ∙ e ∙ one_text j) in
    ap (λ x. x ∷ []) (instance_apart i j one other same.0 same.1)
walk_apart (i ∷ []) (j ∷ k ∷ ks) left right e = absurd (one_not_two i j k ks (All-head IsRightInstance i [] left) (All-head IsRightInstance j (k ∷ ks) right) e)
walk_apart (i ∷ k ∷ ks) (j ∷ []) left right e = absurd (one_not_two j i k ks (All-head IsRightInstance j [] right) (All-head IsRightInstance i (k ∷ ks) left) (sym e))
walk_apart (i ∷ k ∷ ks) (j ∷ l ∷ ls) left right e =
    let one = All-head IsRightInstance i (k ∷ ks) left in
    let other = All-head IsRightInstance j (l ∷ ls) right in
    let same = same_pair 32 (token_of i.port) (token_of j.port) _ _ (port_blank i one) (port_blank j other) (sym (two_text i k ks) ∙ e ∙ two_text j l ls) in
    let later = same_pair 32 (token_of i.triplet) (token_of j.triplet) _ _ (triplet_blank i one) (triplet_blank j other) same.1 in
    let rest = walk_apart (k ∷ ks) (l ∷ ls) (All-tail IsRightInstance i (k ∷ ks) left) (All-tail IsRightInstance j (l ∷ ls) right) later.1 in
    rw (instance_apart i j one other same.0 later.0) (ap (λ x. j ∷ x) rest)

put_walk : (walk : List Instance) (i : Instance) → walked (walk ++ i ∷ []) ≡ walked walk ++ (who_text (inst i) ++ 32 ∷ [])
put_walk walk i = flat_map-append (λ i. who_text (inst i) ++ 32 ∷ []) walk (i ∷ []) ∙ ap (λ l. walked walk ++ l) (append-nil (who_text (inst i) ++ 32 ∷ []))

pub walk_more : (text rest more p t : List ℕ) (walk now : List Instance) → WalksAlong text rest walk → ReadsAs next_text IsNext rest (Some (inl (p, (t, more)))) → now ≡ walk ++ instance_of p t ∷ [] → WalksAlong text more now
walk_more text rest more p t walk now along read put = subst (λ w. WalksAlong text more w) (sym put) record {
  done =
      along.done ∙ ap (λ l. walked walk ++ l) (read.0 ∙ sym (append_assoc (token_of p ++ 32 ∷ []) (token_of t) (32 ∷ more) ∙ spaced2 (token_of p) (token_of t ++ 32 ∷ more)) ∙ sym (append_assoc (who_text (inst (instance_of p t))) (32 ∷ []) more))
      ∙ sym (append_assoc (walked walk) (who_text (inst (instance_of p t)) ++ 32 ∷ []) more)
      ∙ ap (λ l. l ++ more) (sym (put_walk walk (instance_of p t)));
  right = All-append IsRightInstance walk (instance_of p t ∷ []) along.right (All-cons IsRightInstance (instance_of p t) [] (read.1.0, read.1.2.0) (All-nil IsRightInstance));
  on = λ is right e.
      let js = along.on is right e in
      later_walk p t more rest read.0 read.1.1 read.1.2.1 js.0 js.1.0 js.1.1;
}

-- less is left
pub walk_less : (rest more p t : List ℕ) → ReadsAs next_text IsNext rest (Some (inl (p, (t, more)))) → length more < length rest
walk_less rest more p t read =
    let whole = ap length read.0 in
    let one = length-append (token_of p) (32 ∷ (token_of t ++ 32 ∷ more)) in
    let two = length-append (token_of t) (32 ∷ more) in
    omega (arith, whole, one, two)

walk_end : (walk : List Instance) (i : Instance) → walked walk ++ who_text (inst i) ≡ walk_text (walk ++ i ∷ [])
walk_end [] i = refl
walk_end (x ∷ []) i = ap (λ l. l ++ who_text (inst i)) (append-nil (who_text (inst x) ++ 32 ∷ [])) ∙ spaced2 (who_text (inst x)) (who_text (inst i))
walk_end (x ∷ y ∷ walk) i =
    append_assoc (who_text (inst x) ++ 32 ∷ []) (walked (y ∷ walk)) (who_text (inst i))
    ∙ ap (λ l. (who_text (inst x) ++ 32 ∷ []) ++ l) (walk_end (y ∷ walk) i)
    ∙ spaced2 (who_text (inst x)) (walk_text (y ∷ (walk ++ i ∷ [])))

walk_right : (walk : List Instance) (i : Instance) → All IsRightInstance (walk ++ i ∷ []) → IsWalk (walk ++ i ∷ [])
walk_right [] i all = all
walk_right (x ∷ walk) i all = all

pub walk_ends : (text rest p t : List ℕ) (walk now : List Instance) → WalksAlong text rest walk → ReadsAs next_text IsNext rest (Some (inr (p, t))) → now ≡ walk ++ instance_of p t ∷ [] → ReadsAs walk_text IsWalk text (Some now)
walk_ends text rest p t walk now along read put = subst (λ w. (text ≡ walk_text w) × IsWalk w) (sym put) (
  along.done ∙ ap (λ l. walked walk ++ l) (read.0 ∙ sym (spaced2 (token_of p) (token_of t))) ∙ walk_end walk (instance_of p t),
  walk_right walk (instance_of p t) (All-append IsRightInstance walk (instance_of p t ∷ []) along.right (All-cons IsRightInstance (instance_of p t) [] (read.1.0, read.1.2) (All-nil IsRightInstance))),
)

no_walk : (rest : List ℕ) → ReadsAs next_text IsNext rest None → (js : List Instance) → IsWalk js → rest ≡ walk_text js → ⊥
no_walk rest none [] right e = right
no_walk rest none (j ∷ []) right e =
    let one = All-head IsRightInstance j [] right in
    none (inr (j.port, j.triplet)) (one.0, port_blank j one, one.1) (e ∙ one_text j)
no_walk rest none (j ∷ k ∷ ks) right e =
    let one = All-head IsRightInstance j (k ∷ ks) right in
    none (inl (j.port, (j.triplet, walk_text (k ∷ ks)))) (one.0, port_blank j one, (one.1, triplet_blank j one, tt)) (e ∙ two_text j k ks)

pub walk_none : (text rest : List ℕ) (walk : List Instance) → WalksAlong text rest walk → ReadsAs next_text IsNext rest None → ReadsAs walk_text IsWalk text None
walk_none text rest walk along none = λ is right e. let js = along.on is right e in no_walk rest none js.0 js.1.0 js.1.1

-- ---- the line

steps_text : (i : Instance) (is : List Instance) → flat_map (λ j. codes " " ++ who_text (inst j)) (i ∷ is) ≡ 32 ∷ walk_text (i ∷ is)
steps_text i [] = ap (λ l. 32 ∷ l) (append-nil (who_text (inst i)))
steps_text i (j ∷ is) = ap (λ l. 32 ∷ (who_text (inst i) ++ l)) (steps_text j is)

abbrev pub cycle_text : CycleParts → List ℕ
cycle_text = either_text (λ u. codes "cycle") (pair_text 32 (λ u. codes "cycle") walk_text)

abbrev pub AreCycleParts : CycleParts → Type 0
AreCycleParts = IsRightEither Any (IsRightPair 32 (λ u. codes "cycle") Any IsWalk)

walk_same : (walk : List Instance) → IsWalk walk → codes "cycle" ++ 32 ∷ walk_text walk ≡ fault_line (has_cycle walk)
walk_same [] right = absurd right
walk_same (i ∷ is) right = ap (λ l. codes "cycle" ++ l) (sym (steps_text i is))

walk_all : (walk : List Instance) → IsWalk walk → All IsRightInstance walk
walk_all [] right = absurd right
walk_all (i ∷ is) right = right

cycle_made : (p : CycleParts) → AreCycleParts p → (cycle_text p ≡ fault_line (cycle_fault p)) × IsRightAnd IsCycle (cycle_fault p)
cycle_made (inl u) right = (refl, (tt, All-nil IsRightInstance))
cycle_made (inr p) right = (walk_same p.1 right.2, (tt, walk_all p.1 right.2))

cycle_of : (x : Fault) → IsCycle x → IsRightFault x → (p : CycleParts) × (AreCycleParts p × (fault_line x ≡ cycle_text p) × (x ≡ cycle_fault p))
cycle_of (has_cycle []) is right = (inl tt, (tt, refl, refl))
cycle_of (has_cycle (i ∷ walk)) is right = (inr (tt, i ∷ walk), ((tt, lacks_byte 32 (codes "cycle") refl, right), sym (walk_same (i ∷ walk) right), refl))
cycle_of (troubled (lacks_registry p) n) is right = absurd is
cycle_of (troubled (lacks_baseline p) n) is right = absurd is
cycle_of (troubled (unreadable path place word) n) is right = absurd is
cycle_of (troubled (lacks_version p ask) n) is right = absurd is
cycle_of (troubled (differs path field row manifest) n) is right = absurd is
cycle_of (conflicts p v n w m) is right = absurd is
cycle_of (lacks_feature who f v n) is right = absurd is
cycle_of (isnt_supported who f v n) is right = absurd is

pub cycle_parts_are : AreParts cycle_text AreCycleParts fault_line (IsRightAnd IsCycle) cycle_fault
cycle_parts_are = record { made = cycle_made; parts = λ x fine. cycle_of x fine.0 fine.1 }
