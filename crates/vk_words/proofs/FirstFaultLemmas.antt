-- The first word that has a fault.
use Rattle.std.proofs.Common.{◌≡◌, ◌+◌, ℕ, zero, suc, List, [], ◌∷◌, ◌++◌, take, refl, ap, sym, subst, ◌∙◌, arith}
use Rattle.std.specs.Prelude.{Some, None, Result, Ok, Err, slice_get}
use Rattle.vk_spec.specs.Reading.{read_after}
use Rattle.vk_words.specs.Arguments.{argument_at}
use Rattle.vk_words.specs.Laws.{FirstFaultIsTold, ToldIsFirstFault}

-- what is read one after the other, by any reader
module _ {X A F : Type 0} (f : List A → ℕ → X → Result A F) where
  -- a place, what was read before it, and the fault there
  pub record Breaks (read : List A) (n : ℕ) (xs : List X) (wrong : F) : Type 0 where
    pub place : ℕ
    pub item : X
    pub stands : slice_get xs place ≡ Some item
    pub earlier : List A
    pub clean : read_after f read n (take place xs) ≡ Ok earlier
    pub has : f earlier (n + place) item ≡ Err wrong

  reads_on : (read : List A) (n : ℕ) (x : X) (xs : List X) (y : A) → f read n x ≡ Ok y
      → read_after f read n (x ∷ xs) ≡ read_after f (read ++ y ∷ []) (n + 1) xs
  unfolding read_after
  reads_on read n x xs y is = rw is refl

  ends_here : (read : List A) (n : ℕ) (x : X) (xs : List X) (wrong : F) → f read n x ≡ Err wrong
      → read_after f read n (x ∷ xs) ≡ Err wrong
  unfolding read_after
  ends_here read n x xs wrong is = rw is refl

  has_read : (read : List A) (n : ℕ) → read_after f read n [] ≡ Ok read
  unfolding read_after
  has_read read n = refl

  breaks_later : (read : List A) (n : ℕ) (x : X) (xs : List X) (y : A) (wrong : F) → f read n x ≡ Ok y
      → Breaks (read ++ y ∷ []) (n + 1) xs wrong → Breaks read n (x ∷ xs) wrong
  breaks_later read n x xs y wrong is b =
      let counted : n + 1 + b.place ≡ n + (suc b.place) = omega arith in
      record {
        place = suc b.place;
        item = b.item;
        stands = b.stands;
        earlier = b.earlier;
        clean = reads_on read n x (take b.place xs) y is ∙ b.clean;
        has = subst (λ m. f b.earlier m b.item ≡ Err wrong) counted b.has;
      }

  breaks_here : (read : List A) (n : ℕ) (x : X) (xs : List X) (wrong : F) → f read n x ≡ Err wrong
      → Breaks read n (x ∷ xs) wrong
  breaks_here read n x xs wrong is =
      let counted : n ≡ n + 0 = omega arith in
      record {
        place = 0;
        item = x;
        stands = refl;
        earlier = read;
        clean = has_read read n;
        has = subst (λ m. f read m x ≡ Err wrong) counted is;
      }

  breaks_by : (read : List A) (n : ℕ) (x : X) (xs : List X) (wrong : F) (answer : Result A F) → f read n x ≡ answer
      → ((y : A) → read_after f (read ++ y ∷ []) (n + 1) xs ≡ Err wrong → Breaks (read ++ y ∷ []) (n + 1) xs wrong)
      → read_after f read n (x ∷ xs) ≡ Err wrong → Breaks read n (x ∷ xs) wrong
  breaks_by read n x xs wrong (Ok y) is rest fails =
      breaks_later read n x xs y wrong is (rest y (sym (reads_on read n x xs y is) ∙ fails))
  breaks_by read n x xs wrong (Err other) is rest fails =
      let same : Err other ≡ Err wrong = sym (ends_here read n x xs other is) ∙ fails in
      let told : other ≡ wrong = (cc) in
      breaks_here read n x xs wrong (is ∙ ap Err told)

  -- where reading fails, a first item has that fault
  pub breaks_first : (read : List A) (n : ℕ) (xs : List X) (wrong : F) → read_after f read n xs ≡ Err wrong
      → Breaks read n xs wrong
  breaks_first read n [] wrong fails = let no : Ok read ≡ Err wrong = sym (has_read read n) ∙ fails in (cc)
  breaks_first read n (x ∷ xs) wrong fails =
      breaks_by read n x xs wrong (f read n x) refl (λ y. breaks_first (read ++ y ∷ []) (n + 1) xs wrong) fails

  fails_by : (read : List A) (n : ℕ) (x : X) (xs : List X) (front : List X) (earlier : List A) (wrong : F) (answer : Result A F)
      → f read n x ≡ answer → read_after f read n (x ∷ front) ≡ Ok earlier
      → ((y : A) → read_after f (read ++ y ∷ []) (n + 1) front ≡ Ok earlier → read_after f (read ++ y ∷ []) (n + 1) xs ≡ Err wrong)
      → read_after f read n (x ∷ xs) ≡ Err wrong
  fails_by read n x xs front earlier wrong (Ok y) is clean rest =
      reads_on read n x xs y is ∙ rest y (sym (reads_on read n x front y is) ∙ clean)
  fails_by read n x xs front earlier wrong (Err other) is clean rest =
      let no : Err other ≡ Ok earlier = sym (ends_here read n x front other is) ∙ clean in (cc)

  -- where an item has a fault after those before it, that is the fault of all
  pub fails_at : (place : ℕ) (read : List A) (n : ℕ) (xs : List X) (item : X) (earlier : List A) (wrong : F)
      → slice_get xs place ≡ Some item → read_after f read n (take place xs) ≡ Ok earlier
      → f earlier (n + place) item ≡ Err wrong → read_after f read n xs ≡ Err wrong
  fails_at place read n [] item earlier wrong stands clean has = let no : None ≡ Some item = stands in (cc)
  fails_at zero read n (x ∷ xs) item earlier wrong stands clean has =
      let it : Some x ≡ Some item = stands in
      let same : x ≡ item = (cc) in
      let all : Ok read ≡ Ok earlier = sym (has_read read n) ∙ clean in
      let before : read ≡ earlier = (cc) in
      let counted : n ≡ n + 0 = omega arith in
      let first : f read n x ≡ Err wrong = ap (λ r. f r n x) before ∙ ap (λ m. f earlier m x) counted ∙ ap (f earlier (n + 0)) same ∙ has in
      ends_here read n x xs wrong first
  fails_at (suc place) read n (x ∷ xs) item earlier wrong stands clean has =
      let counted : n + (suc place) ≡ n + 1 + place = omega arith in
      fails_by read n x xs (take place xs) earlier wrong (f read n x) refl clean
      (λ y front. fails_at place (read ++ y ∷ []) (n + 1) xs item earlier wrong stands front
      (subst (λ m. f earlier m item ≡ Err wrong) counted has))

-- the words after the command
pub first_is_told : FirstFaultIsTold
first_is_told command words wrong fails =
    let b = breaks_first (argument_at command) [] 0 words wrong fails in
    let counted : 0 + b.place ≡ b.place = omega arith in
    record {
      place = b.place;
      word = b.item;
      stands = b.stands;
      earlier = b.earlier;
      clean = b.clean;
      has = subst (λ m. argument_at command b.earlier m b.item ≡ Err wrong) counted b.has;
    }

pub told_is_first : ToldIsFirstFault
told_is_first command words wrong b =
    let counted : b.place ≡ 0 + b.place = omega arith in
    fails_at (argument_at command) b.place [] 0 words b.word b.earlier wrong b.stands b.clean
    (subst (λ m. argument_at command b.earlier m b.word ≡ Err wrong) counted b.has)
