-- Two paths with one text are one path.
use Rattle.std.proofs.Common.{◌≡◌, ◌≢◌, ◌++◌, ◌∷◌, ℕ, zero, suc, Bool, true, false, List, [], refl, ap, sym, ◌∙◌}
use Rattle.std.specs.List.{All, join_with_byte}
use Rattle.std.proofs.lemmas.List.{append-nil}
use Rattle.std.proofs.lemmas.List.Elements.{All-head}
use Rattle.vk_spec.specs.Paths.{Path, anchor, steps_up}
use Rattle.vk_base.specs.Parts.{parts_in}
use Rattle.vk_base.specs.Paths.{IsPart, IsPath, IsPathOf, steps_of, text_of_path}
use Rattle.vk_base.specs.PathReading.{segments}
use Rattle.vk_base.proofs.PartLemmas.{parts_join}
use Rattle.vk_base.proofs.PathLaws.{segments_joined, text_down, text_root}

-- so many times `..`
abbrev climbs : ℕ → Path
climbs zero = []
climbs (suc n) = (46 ∷ 46 ∷ []) ∷ climbs n

-- the segments of the text of a path that isn't rooted
abbrev segments_of : ℕ → Path → Path
segments_of zero [] = (46 ∷ []) ∷ []
segments_of zero (part ∷ parts) = part ∷ parts
segments_of (suc n) parts = climbs (suc n) ++ parts

after_steps : (n : ℕ) (rest : List ℕ) → segments (steps_of n ++ rest) ≡ climbs n ++ segments rest
after_steps zero rest = refl
after_steps (suc n) rest = ap (λ l. (46 ∷ 46 ∷ []) ∷ l) (after_steps n rest)

all_steps : (n : ℕ) → segments (steps_up n) ≡ climbs (suc n)
all_steps zero = refl
all_steps (suc n) = ap (λ l. (46 ∷ 46 ∷ []) ∷ l) (all_steps n)

climbing_down : (n : ℕ) (part : List ℕ) (parts : Path) → All IsPart (part ∷ parts) → segments (text_of_path (anchor false n ∷ (part ∷ parts))) ≡ climbs n ++ part ∷ parts
climbing_down n part parts each =
    ap segments (text_down n part parts)
    ∙ after_steps n (join_with_byte 47 (part ∷ parts))
    ∙ ap (λ l. climbs n ++ l) (segments_joined part parts each)

text_segments : (n : ℕ) (parts : Path) → All IsPart parts → segments (text_of_path (anchor false n ∷ parts)) ≡ segments_of n parts
text_segments zero [] each = refl
text_segments zero (part ∷ parts) each = climbing_down zero part parts each
text_segments (suc n) [] each = all_steps n ∙ sym (append-nil (climbs (suc n)))
text_segments (suc n) (part ∷ parts) each = climbing_down (suc n) part parts each

no_climb : (part : List ℕ) (parts : Path) → All IsPart (part ∷ parts) → part ≢ 46 ∷ 46 ∷ []
no_climb part parts each = (All-head IsPart part parts each).not_above

same_climbs : (n m : ℕ) (one other : Path) → All IsPart one → All IsPart other → climbs n ++ one ≡ climbs m ++ other → (n ≡ m) × (one ≡ other)
same_climbs zero zero one other first second e = (refl, e)
same_climbs zero (suc m) [] other first second e = absurd (cc)
same_climbs zero (suc m) (part ∷ parts) other first second e = absurd (no_climb part parts first (cc))
same_climbs (suc n) zero one [] first second e = absurd (cc)
same_climbs (suc n) zero one (part ∷ parts) first second e = absurd (no_climb part parts second (cc))
same_climbs (suc n) (suc m) one other first second e =
    let later = same_climbs n m one other first second (cc) in
    (ap (λ k. suc k) later.0, later.1)

dots_apart : (dot dots : List ℕ) → dot ≡ 46 ∷ [] → dots ≡ 46 ∷ 46 ∷ [] → dot ≡ dots → ⊥
dots_apart dot dots one two e = (cc)

same_segments : (n m : ℕ) (one other : Path) → All IsPart one → All IsPart other → segments_of n one ≡ segments_of m other → (n ≡ m) × (one ≡ other)
same_segments zero zero [] [] first second e = (refl, refl)
same_segments zero zero [] (part ∷ parts) first second e = absurd ((All-head IsPart part parts second).not_here (cc))
same_segments zero zero (part ∷ parts) [] first second e = absurd ((All-head IsPart part parts first).not_here (cc))
same_segments zero zero (part ∷ parts) (other ∷ others) first second e = (refl, e)
same_segments zero (suc m) [] other first second e = absurd (dots_apart (46 ∷ []) (46 ∷ 46 ∷ []) refl refl (cc))
same_segments zero (suc m) (part ∷ parts) other first second e = absurd (no_climb part parts first (cc))
same_segments (suc n) zero one [] first second e = absurd (dots_apart (46 ∷ []) (46 ∷ 46 ∷ []) refl refl (cc))
same_segments (suc n) zero one (part ∷ parts) first second e = absurd (no_climb part parts second (cc))
same_segments (suc n) (suc m) one other first second e = same_climbs (suc n) (suc m) one other first second e

-- the first segment of a path that isn't rooted has bytes
some_first : (n : ℕ) (parts rest : Path) → All IsPart parts → segments_of n parts ≡ [] ∷ rest → ⊥
some_first zero [] rest each e = (cc)
some_first zero (part ∷ parts) rest each e = (All-head IsPart part parts each).some (cc)
some_first (suc n) parts rest each e = (cc)

rooted_text : (ups : ℕ) (parts : Path) → text_of_path (anchor true ups ∷ parts) ≡ 47 ∷ join_with_byte 47 parts
rooted_text ups [] = refl
rooted_text ups (part ∷ parts) = text_root ups part parts

rooted_apart : (ups n : ℕ) (one other : Path) → All IsPart other → text_of_path (anchor true ups ∷ one) ≡ text_of_path (anchor false n ∷ other) → ⊥
rooted_apart ups n one other each e =
    some_first n other (segments (join_with_byte 47 one)) each (sym (text_segments n other each) ∙ ap segments (sym e) ∙ ap segments (rooted_text ups one))

same_keys : (rooted flat : Bool) (ups n : ℕ) (one other : Path) → IsPathOf rooted ups one → IsPathOf flat n other → text_of_path (anchor rooted ups ∷ one) ≡ text_of_path (anchor flat n ∷ other) → anchor rooted ups ∷ one ≡ anchor flat n ∷ other
same_keys true true ups n one other first second e =
    let joined : 47 ∷ join_with_byte 47 one ≡ 47 ∷ join_with_byte 47 other = sym (rooted_text ups one) ∙ e ∙ rooted_text n other in
    let texts : join_with_byte 47 one ≡ join_with_byte 47 other = (cc) in
    ap (λ l. (47 ∷ []) ∷ l) (sym (parts_join one first.each) ∙ ap parts_in texts ∙ parts_join other second.each)
same_keys true false ups n one other first second e = absurd (rooted_apart ups n one other second.each e)
same_keys false true ups n one other first second e = absurd (rooted_apart n ups other one first.each (sym e))
same_keys false false ups n one other first second e =
    let same = same_segments ups n one other first.each second.each (sym (text_segments ups one first.each) ∙ ap segments e ∙ text_segments n other second.each) in
    ap (λ k. anchor false k ∷ one) same.0 ∙ ap (λ l. anchor false n ∷ l) same.1

pub same_path : (one other : Path) → IsPath one → IsPath other → text_of_path one ≡ text_of_path other → one ≡ other
same_path one other first second e =
    first.key_is
    ∙ same_keys first.rooted second.rooted first.ups second.ups first.parts second.parts first.path second.path (ap text_of_path (sym first.key_is) ∙ e ∙ ap text_of_path second.key_is)
    ∙ sym second.key_is
