-- Values of several kinds, told apart by the first words of their lines.
use Rattle.std.proofs.Common.{◌≡◌, ◌⊎◌, ◌||◌, ◌++◌, ◌∷◌, ℕ, Bool, true, false, List, [], inl, inr, refl, sym, ◌∙◌, subst}
use Rattle.std.specs.Str.{bytes_eq}
use Rattle.std.proofs.lemmas.Slice.Eq.{bytes_eq-Decides}
use Rattle.vk_base.specs.Paths.{Lacks}
use Rattle.vk_forms.specs.Choices.{either_text, IsRightEither}
use Rattle.vk_forms.specs.Forms.{TellsApart, pair_text, IsRightPair}
use Rattle.vk_forms.specs.Words.{Any}
use Rattle.vk_forms.proofs.Apart.{AreOthers, either_apart, pair_apart, word_apart}
use Rattle.vk_forms.proofs.PairForms.{lacks_none, same_pair}
use Rattle.vk_forms.proofs.Through.{AreParts, parts_hold}

-- a line begins with a word, or is one
pub record IsHeaded (word text : List ℕ) : Type 0 where
  pub lacks : Lacks 32 word
  pub is : ((rest : List ℕ) × (text ≡ word ++ 32 ∷ rest)) ⊎ (text ≡ word)

same_head : (w v text : List ℕ) → IsHeaded w text → IsHeaded v text → w ≡ v
same_head w v text one other = by one.is other.is
  where
    by : ((rest : List ℕ) × (text ≡ w ++ 32 ∷ rest)) ⊎ (text ≡ w) → ((rest : List ℕ) × (text ≡ v ++ 32 ∷ rest)) ⊎ (text ≡ v) → w ≡ v
    by (inl p) (inl q) = (same_pair 32 w v p.0 q.0 one.lacks other.lacks (sym p.1 ∙ q.1)).0
    by (inl p) (inr q) = absurd (lacks_none 32 w p.0 (subst (Lacks 32) (sym q ∙ p.1) other.lacks))
    by (inr p) (inl q) = absurd (lacks_none 32 v q.0 (subst (Lacks 32) (sym p ∙ q.1) one.lacks))
    by (inr p) (inr q) = sym p ∙ q

-- one of these words
abbrev pub IsAmong : List ℕ → List (List ℕ) → Type 0
IsAmong w [] = ⊥
IsAmong w (v ∷ words) = (w ≡ v) ⊎ IsAmong w words

abbrev pub is_among : List ℕ → List (List ℕ) → Bool
is_among w [] = false
is_among w (v ∷ words) = bytes_eq w v || is_among w words

pub same_bytes : (w v : List ℕ) → w ≡ v → bytes_eq w v ≡ true
same_bytes w v e = (bytes_eq-Decides w v).1 e

or_first : (a b : Bool) → a ≡ true → (a || b) ≡ true
or_first true b e = refl
or_first false b e = (cc)

or_second : (a b : Bool) → b ≡ true → (a || b) ≡ true
or_second true b e = refl
or_second false b e = e

among : (w : List ℕ) (words : List (List ℕ)) → IsAmong w words → is_among w words ≡ true
among w [] is = absurd is
among w (v ∷ words) (inl same) = or_first (bytes_eq w v) (is_among w words) (same_bytes w v same)
among w (v ∷ words) (inr later) = or_second (bytes_eq w v) (is_among w words) (among w words later)

-- the values of a kind are headed by these words
abbrev pub HaveHeads : {X : Type 0} → List (List ℕ) → (X → List ℕ) → (X → Type 0) → Type 0
HaveHeads {X = X} words shows is_fine = (x : X) → is_fine x → (w : List ℕ) × (IsAmong w words × IsHeaded w (shows x))

-- values are headed by a word where their parts are
pub parts_headed : {P Q : Type 0} {prints : P → List ℕ} {is_right : P → Type 0} {shows : Q → List ℕ} {is_fine : Q → Type 0} {make : P → Q} (word : List ℕ)
    → AreParts prints is_right shows is_fine make → ((p : P) → is_right p → IsHeaded word (prints p)) → HaveHeads (word ∷ []) shows is_fine
parts_headed word are headed x fine = (word, (inl refl, parts_hold are (IsHeaded word) headed x fine))

-- a word that isn't among these heads no line that one of them heads
pub heads_clash : (word : List ℕ) (words : List (List ℕ)) (text : List ℕ) → is_among word words ≡ false → IsHeaded word text → (v : List ℕ) → IsAmong v words → IsHeaded v text → ⊥
heads_clash word words text new headed v is also =
    let same : v ≡ word = same_head v word text also headed in
    let clash : is_among word words ≡ true = among word words (subst (λ t. IsAmong t words) same is) in
    (cc)

-- a kind whose word is new to the others
pub heads_apart : {X Y : Type 0} (word : List ℕ) (words : List (List ℕ)) (shows : X → List ℕ) (is_fine : X → Type 0) (tells : Y → List ℕ) (is_good : Y → Type 0)
    → is_among word words ≡ false → HaveHeads (word ∷ []) shows is_fine → HaveHeads words tells is_good → AreOthers shows is_fine tells is_good
heads_apart word words shows is_fine tells is_good new one other x y left right e =
    let w = one x left in
    let v = other y right in
    heads_clash word words (tells y) new (subst (λ t. IsHeaded t (tells y)) (alone w.1.0) (subst (IsHeaded w.0) e w.1.1)) v.0 v.1.0 v.1.1
  where
    alone : {w : List ℕ} → IsAmong w (word ∷ []) → w ≡ word
    alone (inl same) = same
    alone (inr none) = absurd none

-- of one kind or of the others
abbrev pub OneOf : {X : Type 0} → (X → Type 0) → (X → Type 0) → X → Type 0
OneOf one other x = one x ⊎ other x

widened : {w : List ℕ} (word : List ℕ) (words : List (List ℕ)) → IsAmong w (word ∷ []) → IsAmong w (word ∷ words)
widened word words (inl same) = inl same
widened word words (inr none) = absurd none

pub more_heads : {X : Type 0} (word : List ℕ) (words : List (List ℕ)) (shows : X → List ℕ) (one other : X → Type 0) → HaveHeads (word ∷ []) shows one → HaveHeads words shows other → HaveHeads (word ∷ words) shows (OneOf one other)
more_heads word words shows one other first second x (inl is) = let w = first x is in (w.0, (widened word words w.1.0, w.1.1))
more_heads word words shows one other first second x (inr is) = let w = second x is in (w.0, (inr w.1.0, w.1.1))

pub either_heads : {P Q : Type 0} (word : List ℕ) (words : List (List ℕ)) (one : P → List ℕ) (other : Q → List ℕ) (is_right_one : P → Type 0) (is_right_other : Q → Type 0)
    → HaveHeads (word ∷ []) one is_right_one → HaveHeads words other is_right_other → HaveHeads (word ∷ words) (either_text one other) (IsRightEither is_right_one is_right_other)
either_heads word words one other is_right_one is_right_other first second (inl p) right = let w = first p right in (w.0, (widened word words w.1.0, w.1.1))
either_heads word words one other is_right_one is_right_other first second (inr q) right = let w = second q right in (w.0, (inr w.1.0, w.1.1))

pub kinds_apart : {X : Type 0} (shows : X → List ℕ) (one other : X → Type 0) → TellsApart shows one → TellsApart shows other → AreOthers shows one shows other → TellsApart shows (OneOf one other)
kinds_apart shows one other first second clash x y (inl left) (inl right) e = first x y left right e
kinds_apart shows one other first second clash x y (inr left) (inr right) e = second x y left right e
kinds_apart shows one other first second clash x y (inl left) (inr right) e = absurd (clash x y left right e)
kinds_apart shows one other first second clash x y (inr left) (inl right) e = absurd (clash y x right left (sym e))

-- kinds one after the other: how each is told apart, and by which word it begins
pub record AreKinds {X : Type 0} (words : List (List ℕ)) (shows : X → List ℕ) (is_fine : X → Type 0) : Type 0 where
  pub heads : HaveHeads words shows is_fine
  pub apart : TellsApart shows is_fine

pub one_more : {X : Type 0} (word : List ℕ) (words : List (List ℕ)) (shows : X → List ℕ) (one other : X → Type 0) → is_among word words ≡ false → AreKinds (word ∷ []) shows one → AreKinds words shows other → AreKinds (word ∷ words) shows (OneOf one other)
one_more word words shows one other new first second = record {
  heads = more_heads word words shows one other first.heads second.heads;
  apart = kinds_apart shows one other first.apart second.apart (heads_apart word words shows one shows other new first.heads second.heads);
}

-- a word with a value behind it
pub line_headed : (word rest : List ℕ) → Lacks 32 word → IsHeaded word (word ++ 32 ∷ rest)
line_headed word rest lacks = record { lacks = lacks; is = inl (rest, refl) }

pub one_kind : {B : Type 0} (word : List ℕ) (other : B → List ℕ) (is_right : B → Type 0) → TellsApart other is_right → AreKinds (word ∷ []) (pair_text 32 (λ u. word) other) (IsRightPair 32 (λ u. word) Any is_right)
one_kind word other is_right apart = record {
  heads = λ p right. (word, (inl refl, line_headed word (other p.1) right.1));
  apart = pair_apart 32 (λ u. word) other Any is_right (word_apart word) apart;
}

-- a word alone
pub word_headed : (word : List ℕ) → Lacks 32 word → IsHeaded word word
word_headed word lacks = record { lacks = lacks; is = inr refl }

pub word_kind : (word : List ℕ) → Lacks 32 word → AreKinds (word ∷ []) (λ u. word) Any
word_kind word lacks = record { heads = λ u right. (word, (inl refl, word_headed word lacks)); apart = word_apart word }

-- a choice of a kind whose word is new, or of the others
pub one_or : {P Q : Type 0} (word : List ℕ) (words : List (List ℕ)) (one : P → List ℕ) (other : Q → List ℕ) (is_right_one : P → Type 0) (is_right_other : Q → Type 0)
    → is_among word words ≡ false → AreKinds (word ∷ []) one is_right_one → AreKinds words other is_right_other → AreKinds (word ∷ words) (either_text one other) (IsRightEither is_right_one is_right_other)
one_or word words one other is_right_one is_right_other new first second = record {
  heads = either_heads word words one other is_right_one is_right_other first.heads second.heads;
  apart = either_apart one other is_right_one is_right_other first.apart second.apart (heads_apart word words one is_right_one other is_right_other new first.heads second.heads);
}
