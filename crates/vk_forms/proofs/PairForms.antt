-- Two texts with a mark between, which the first lacks.
use Rattle.std.proofs.Common.{◌≡◌, ◌≢◌, ◌++◌, ◌∷◌, ◌<◌, ℕ, List, [], length, get_or, refl, sym, ◌∙◌, subst, Bor}
use Rattle.std.specs.Prelude.{Option, Some, None, MatchOption}
use Rattle.std.proofs.lemmas.List.Elements.{All-head, All-tail}
use Rattle.std.proofs.lemmas.Str.Pattern.{IsSplitOnceResult, split_parts}
use Rattle.vk_base.specs.Paths.{Lacks}
use Rattle.vk_base.proofs.PathLemmas.{lacks_from}
use Rattle.vk_forms.specs.Forms.{ReadsAs, pair_text, IsRightPair}

cut_from : (c : ℕ) (bs : List ℕ) (r : Option (Bor (List ℕ) × Bor (List ℕ)))
    → MatchOption r ((i : ℕ) → i < length bs → get_or bs i 0 ≢ c) (λ x. (bs ≡ x.0.now ++ (c ∷ x.1.now)) × ((i : ℕ) → i < length x.0.now → get_or x.0.now i 0 ≢ c))
    → MatchOption r (Lacks c bs) (λ p. (bs ≡ p.0.now ++ c ∷ p.1.now) × Lacks c p.0.now)
cut_from c bs None parts = lacks_from c bs parts
cut_from c bs (Some p) parts = (parts.0, lacks_from c p.0.now parts.1)

pub cut_says : (c : ℕ) (bs : List ℕ) (r : Option (Bor (List ℕ) × Bor (List ℕ))) → IsSplitOnceResult c bs r → c < 128
    → MatchOption r (Lacks c bs) (λ p. (bs ≡ p.0.now ++ c ∷ p.1.now) × Lacks c p.0.now)
cut_says c bs r is small = cut_from c bs r (split_parts c bs r is small)

pub lacks_none : (mark : ℕ) (one other : List ℕ) → Lacks mark (one ++ mark ∷ other) → ⊥
lacks_none mark [] other lacks = All-head (λ c. c ≢ mark) mark other lacks refl
lacks_none mark (x ∷ one) other lacks = lacks_none mark one other (All-tail (λ c. c ≢ mark) x (one ++ mark ∷ other) lacks)

-- a text is cut in one way
pub same_pair : (mark : ℕ) (one front other rest : List ℕ) → Lacks mark one → Lacks mark front → one ++ mark ∷ other ≡ front ++ mark ∷ rest → (one ≡ front) × (other ≡ rest)
same_pair mark [] [] other rest first second e = (refl, (cc))
same_pair mark [] (y ∷ front) other rest first second e = absurd (All-head (λ c. c ≢ mark) y front second (cc))
same_pair mark (x ∷ one) [] other rest first second e = absurd (All-head (λ c. c ≢ mark) x one first (cc))
same_pair mark (x ∷ one) (y ∷ front) other rest first second e =
    let later = same_pair mark one front other rest (All-tail (λ c. c ≢ mark) x one first) (All-tail (λ c. c ≢ mark) y front second) (cc) in
    let one_is = later.0 in
    let head : x ≡ y = (cc) in (
      rw (head, one_is) refl,
      later.1,
    )

module _ {A B : Type 0} (one : A → List ℕ) (other : B → List ℕ) (is_right_one : A → Type 0) (is_right_other : B → Type 0) (mark : ℕ) (text : List ℕ) where
  pub not_cut : Lacks mark text → ReadsAs (pair_text mark one other) (IsRightPair mark one is_right_one is_right_other) text None
  not_cut lacks = λ p right e. lacks_none mark (one p.0) (other p.1) (subst (Lacks mark) e lacks)

  pub no_first : (front rest : List ℕ) → text ≡ front ++ mark ∷ rest → Lacks mark front → ReadsAs one is_right_one front None
      → ReadsAs (pair_text mark one other) (IsRightPair mark one is_right_one is_right_other) text None
  no_first front rest cut lacks none = λ p right e. none p.0 right.0 (same_pair mark front (one p.0) rest (other p.1) lacks right.1 (sym cut ∙ e)).0

  pub no_second : (front rest : List ℕ) → text ≡ front ++ mark ∷ rest → Lacks mark front → ReadsAs other is_right_other rest None
      → ReadsAs (pair_text mark one other) (IsRightPair mark one is_right_one is_right_other) text None
  no_second front rest cut lacks none = λ p right e. none p.1 right.2 (same_pair mark front (one p.0) rest (other p.1) lacks right.1 (sym cut ∙ e)).1

  pub both_read : (front rest : List ℕ) (a : A) (b : B) → text ≡ front ++ mark ∷ rest → Lacks mark front → ReadsAs one is_right_one front (Some a) → ReadsAs other is_right_other rest (Some b)
      → ReadsAs (pair_text mark one other) (IsRightPair mark one is_right_one is_right_other) text (Some (a, b))
  both_read front rest a b cut lacks first second = (rw (sym first.0, sym second.0) cut, (first.1, subst (Lacks mark) first.0 lacks, second.1))
