-- What every reading gives, and where each fault that it tells stands.
use Rattle.std.proofs.Common.{◌≡◌, ◌≢◌, ◌+◌, ℕ, zero, suc, List, [], ◌∷◌, ◌++◌, map, refl, sym, subst, arith, append_assoc}
use Rattle.std.specs.Prelude.{Option, Some, None, IfSome, IsSome, Result, Ok, Err, MatchResult, slice_get}
use Rattle.std.specs.List.{All, Contains}
use Rattle.std.specs.declared.cmp.Ordering.{Ordering}
use Rattle.std.specs.declared.cmp.Ordering.TheVariants.{Less, Equal, Greater}
use Rattle.std.specs.Ordering.{nat_cmp, match_ordering}
use Rattle.std.specs.Cmp.Lexicographic.{slice_cmp}
use Rattle.std.specs.FinMap.{slice_cmp-IsAntisymmetric, nat_cmp-IsAntisymmetric}
use Rattle.std.proofs.lemmas.List.{append-nil}
use Rattle.std.proofs.lemmas.List.Elements.{All-nil, All-cons}
use Rattle.serde_json.specs.Data.{Data, Items, Members, no_members, member}
use Rattle.serde_json.specs.Data as json
use Rattle.serde_json.specs.Find.{get, get_member, as_object}
use Rattle.vk_spec.specs.Reading.{◌>>=◌, or_fault, read_each, read_after}
use Rattle.vk_spec.proofs.ListLemmas.{contains_first, contains_later}
use Rattle.vk_json.specs.declared.faults.FileFault.{FileFault}
use Rattle.vk_json.specs.declared.faults.Why.{Why}
use Rattle.vk_json.specs.declared.faults.Why.TheVariants as why
use Rattle.vk_json.specs.Looks.{list_of}
use Rattle.vk_json.specs.Places.{here, moved, at_member, inside, member_step, item_step}
use Rattle.vk_json.specs.NewItems.{NewReading, each_new_item}
use Rattle.vk_json.specs.Readings.{Reading, MemberReading, text_at, bool_at, number_at, members_at, object_at, if_there, wanted, optional, read_or, optional_or, text_or_object, item_at, each_item, pairs_of, member_at, each_member}
use Rattle.vk_json.specs.Standing.{itself, by_member, by_item, StandsIn, at_value, at_key}

-- ---- members and items

has_by : (key l : List ℕ) (e v : Data) (ms : Members) (o : Ordering) → slice_cmp nat_cmp key l ≡ o → (get_member key ms ≡ Some v → Contains (pairs_of ms) (key, v))
    → match_ordering o (get_member key ms) (Some e) (get_member key ms) ≡ Some v → Contains ((l, e) ∷ pairs_of ms) (key, v)
has_by key l e v ms Less c later found = contains_later (l, e) (key, v) (pairs_of ms) (later found)
has_by key l e v ms Greater c later found = contains_later (l, e) (key, v) (pairs_of ms) (later found)
has_by key l e v ms Equal c later found =
    let keys : key ≡ l = slice_cmp-IsAntisymmetric nat_cmp-IsAntisymmetric key l c in
    let values : e ≡ v = cc in
    rw (keys, ← values) (contains_first (l, e) (pairs_of ms))

has_member : (key : List ℕ) (ms : Members) (v : Data) → get_member key ms ≡ Some v → Contains (pairs_of ms) (key, v)
has_member key no_members v found = (cc)
has_member key (member l e ms) v found = has_by key l e v ms (slice_cmp nat_cmp key l) refl (has_member key ms v) found

-- what is found under a key is a member of an object
pub get_has : (key : List ℕ) (d v : Data) → get key d ≡ Some v → (ms : Members) × (d ≡ json.object ms) × Contains (pairs_of ms) (key, v)
get_has key json.null v found = (cc)
get_has key (json.boolean b) v found = (cc)
get_has key (json.number n) v found = (cc)
get_has key (json.string s) v found = (cc)
get_has key (json.array ds) v found = (cc)
get_has key (json.object ms) v found = (ms, refl, has_member key ms v found)

contains_at : {X : Type 0} (xs : List X) (k : ℕ) (x : X) → slice_get xs k ≡ Some x → Contains xs x
contains_at [] k x e = (cc)
contains_at (y ∷ xs) zero x e = let same : y ≡ x = cc in subst (λ z. Contains (y ∷ xs) z) same (contains_first y xs)
contains_at (y ∷ xs) (suc k) x e = contains_later y x xs (contains_at xs k x e)

-- ---- a fault of a part stands in the whole

stands_member : (ms : Members) (key : List ℕ) (d : Data) (fault : FileFault) → Contains (pairs_of ms) (key, d) → StandsIn d fault → StandsIn (json.object ms) (moved (member_step key) fault)
stands_member ms key d _ has (at_value _ found place what other leads) = at_value (json.object ms) found (member_step key ++ place) what other (by_member ms key place d found has leads)
stands_member ms key d _ has (at_key _ found place k leads none) =
    subst (λ p. StandsIn (json.object ms) (record { place = p; why = why.Missing })) (append_assoc (member_step key) place (member_step k))
    (at_key (json.object ms) found (member_step key ++ place) k (by_member ms key place d found has leads) none)

stands_item : (ds : Items) (n : ℕ) (d : Data) (fault : FileFault) → slice_get (list_of ds) n ≡ Some d → StandsIn d fault → StandsIn (json.array ds) (moved (item_step n) fault)
stands_item ds n d _ has (at_value _ found place what other leads) = at_value (json.array ds) found (item_step n ++ place) what other (by_item ds n place d found has leads)
stands_item ds n d _ has (at_key _ found place k leads none) =
    subst (λ p. StandsIn (json.array ds) (record { place = p; why = why.Missing })) (append_assoc (item_step n) place (member_step k))
    (at_key (json.array ds) found (item_step n ++ place) k (by_item ds n place d found has leads) none)

pub told_here : (d : Data) (what : Why) → what ≢ why.Missing → StandsIn d (here what)
told_here d what other = at_value d d [] what other (itself d)

-- at a member that is there
pub told_at : (key : List ℕ) (d v : Data) (what : Why) → get key d ≡ Some v → what ≢ why.Missing → StandsIn d (at_member key what)
told_at key d v what found other =
    let has = get_has key d v found in
    rw has.1 (stands_member has.0 key v (here what) has.2 (told_here v what other))

-- ---- readings

-- a value that was read has P, and a fault stands in d
abbrev pub Says : {A : Type 0} → (A → Type 0) → Data → Result A FileFault → Type 0
Says P d r = MatchResult r P (StandsIn d)

-- whatever is read
abbrev pub Reads : {A : Type 0} → (A → Type 0) → Reading A → Type 0
Reads P f = (d : Data) → Says P d (f d)

-- nothing is said of a value
abbrev pub Anything : {A : Type 0} → A → Type 0
Anything x = Unit {0}

pub says_then : {A B : Type 0} (P : A → Type 0) (R : B → Type 0) (d : Data) (r : Result A FileFault) (f : A → Result B FileFault) → Says P d r → ((x : A) → P x → Says R d (f x)) → Says R d (r >>= f)
says_then P R d (Ok x) f says next = next x says
says_then P R d (Err e) f says next = says

pub says_weaker : {A : Type 0} (P R : A → Type 0) (d : Data) (r : Result A FileFault) → Says P d r → ((x : A) → P x → R x) → Says R d r
says_weaker P R d (Ok x) says weaker = weaker x says
says_weaker P R d (Err e) says weaker = says

pub or_says : {A : Type 0} (d : Data) (what : Why) (o : Option A) → what ≢ why.Missing → Says Anything d (or_fault (here what) o)
or_says d what None other = told_here d what other
or_says d what (Some x) other = tt

pub text_says : Reads Anything text_at
text_says d = or_says d why.Text _ (λ e. (cc))

pub bool_says : Reads Anything bool_at
bool_says d = or_says d why.Bool _ (λ e. (cc))

pub number_says : Reads Anything number_at
number_says d = or_says d why.Number _ (λ e. (cc))

pub object_says : Reads Anything object_at
object_says d = says_then Anything Anything d (members_at d) (λ ms. Ok tt) (or_says d why.Object (as_object d) (λ e. (cc))) (λ ms any. tt)

says_member : {A : Type 0} (P : A → Type 0) (ms : Members) (key : List ℕ) (v : Data) (r : Result A FileFault) → Contains (pairs_of ms) (key, v) → Says P v r → Says P (json.object ms) (inside (member_step key) r)
says_member P ms key v (Ok x) has says = says
says_member P ms key v (Err e) has says = stands_member ms key v e has says

-- what is said of a member's reading is said of it from outside
pub says_under : {A : Type 0} (P : A → Type 0) (key : List ℕ) (d v : Data) (r : Result A FileFault) → get key d ≡ Some v → Says P v r → Says P d (inside (member_step key) r)
says_under P key d v r found says =
    let has = get_has key d v found in
    rw has.1 (says_member P has.0 key v r has.2 says)

module _ {A : Type 0} (P : A → Type 0) (f : Reading A) (reads : Reads P f) (key : List ℕ) (d : Data) where
  wanted_by : (o : Option Data) → get key d ≡ o → Says (λ x. P x × IsSome (get key d)) d (inside (member_step key) (or_fault (here why.Missing) o >>= f))
  wanted_by None e = subst (λ p. StandsIn d (record { place = p; why = why.Missing })) (sym (append-nil (member_step key))) (at_key d d [] key (itself d) e)
  wanted_by (Some v) e = says_under (λ x. P x × IsSome (get key d)) key d v (f v) e (says_weaker P (λ x. P x × IsSome (get key d)) v (f v) (reads v) (λ x p. (p, rw e refl)))

  -- a member that is wanted is there
  pub wanted_there : Says (λ x. P x × IsSome (get key d)) d (wanted f key d)
  unfolding wanted
  wanted_there = wanted_by (get key d) refl

  pub wanted_says : Says P d (wanted f key d)
  wanted_says = says_weaker (λ x. P x × IsSome (get key d)) P d (wanted f key d) wanted_there (λ x p. p.0)

  -- an optional value that was read has P, and its member is there
  abbrev WasThere : Option A → Type 0
  WasThere o = IfSome o (λ x. P x × IsSome (get key d))

  optional_by : (o : Option Data) → get key d ≡ o → Says WasThere d (inside (member_step key) (if_there f o))
  optional_by None e = tt
  optional_by (Some v) e = says_under WasThere key d v (f v >>= λ x. Ok (Some x)) e (says_then P WasThere v (f v) (λ x. Ok (Some x)) (reads v) (λ x p. (p, rw e refl)))

  pub optional_was_there : Says WasThere d (optional f key d)
  unfolding optional
  optional_was_there = optional_by (get key d) refl

  weaker_if : {Q R : A → Type 0} (o : Option A) → ((x : A) → Q x → R x) → IfSome o Q → IfSome o R
  weaker_if None weaker q = tt
  weaker_if (Some x) weaker q = weaker x q

  pub optional_says : Says (λ o. IfSome o P) d (optional f key d)
  optional_says = says_weaker WasThere (λ o. IfSome o P) d (optional f key d) optional_was_there (λ o there. weaker_if o (λ x both. both.0) there)

  pub optional_there : Says (λ o. IfSome o (λ x. IsSome (get key d))) d (optional f key d)
  optional_there = says_weaker WasThere (λ o. IfSome o (λ x. IsSome (get key d))) d (optional f key d) optional_was_there (λ o there. weaker_if o (λ x both. both.1) there)

  optional_or_by : (default : A) → P default → (o : Option Data) → get key d ≡ o → Says P d (inside (member_step key) (read_or default f o))
  optional_or_by default p None e = p
  optional_or_by default p (Some v) e = says_under P key d v (f v) e (reads v)

  pub optional_or_says : (default : A) → P default → Says P d (optional_or default f key d)
  unfolding optional_or
  optional_or_says default p = optional_or_by default p (get key d) refl

pub text_or_object_says : {A : Type 0} (P : A → Type 0) (text object : Reading A) → Reads P text → Reads P object → Reads P (text_or_object text object)
text_or_object_says P text object of_text of_object json.null = told_here json.null why.Item (λ e. (cc))
text_or_object_says P text object of_text of_object (json.boolean b) = told_here (json.boolean b) why.Item (λ e. (cc))
text_or_object_says P text object of_text of_object (json.number n) = told_here (json.number n) why.Item (λ e. (cc))
text_or_object_says P text object of_text of_object (json.string s) = of_text (json.string s)
text_or_object_says P text object of_text of_object (json.array ds) = told_here (json.array ds) why.Item (λ e. (cc))
text_or_object_says P text object of_text of_object (json.object ms) = of_object (json.object ms)

each_says : {X A : Type 0} (P : A → Type 0) (d : Data) (f : ℕ → X → Result A FileFault) (n : ℕ) (xs : List X) → ((k : ℕ) (x : X) → slice_get xs k ≡ Some x → Says P d (f (k + n) x)) → Says (All P) d (read_each f n xs)
unfolding read_each
each_says P d f n [] each = All-nil P
each_says P d f n (x ∷ xs) each =
    let at_n : 0 + n ≡ n = omega arith in
    says_then P (All P) d (f n x) (λ y. read_each f (n + 1) xs >>= λ ys. Ok (y ∷ ys)) (subst (λ m. Says P d (f m x)) at_n (each 0 x refl)) (λ y p.
    says_then (All P) (All P) d (read_each f (n + 1) xs) (λ ys. Ok (y ∷ ys))
    (each_says P d f (n + 1) xs (λ k z e. let at_k : suc k + n ≡ k + (n + 1) = omega arith in subst (λ m. Says P d (f m z)) at_k (each (suc k) z e)))
    (λ ys ps. All-cons P y ys p ps))

says_item : {A : Type 0} (P : A → Type 0) (ds : Items) (n : ℕ) (v : Data) (r : Result A FileFault) → slice_get (list_of ds) n ≡ Some v → Says P v r → Says P (json.array ds) (inside (item_step n) r)
says_item P ds n v (Ok x) has says = says
says_item P ds n v (Err e) has says = stands_item ds n v e has says

pub each_item_says : {A : Type 0} (P : A → Type 0) (f : Reading A) → Reads P f → Reads (All P) (each_item f)
unfolding each_item
each_item_says P f reads json.null = told_here json.null why.List (λ e. (cc))
each_item_says P f reads (json.boolean b) = told_here (json.boolean b) why.List (λ e. (cc))
each_item_says P f reads (json.number n) = told_here (json.number n) why.List (λ e. (cc))
each_item_says P f reads (json.string s) = told_here (json.string s) why.List (λ e. (cc))
each_item_says P f reads (json.object ms) = told_here (json.object ms) why.List (λ e. (cc))
each_item_says P f reads (json.array ds) = each_says P (json.array ds) (item_at f) 0 (list_of ds) (λ k v e. let at_k : k ≡ k + 0 = omega arith in subst (λ m. Says P (json.array ds) (item_at f m v)) at_k (says_item P ds k v (f v) e (reads v)))

pub each_member_says : {A : Type 0} (P : A → Type 0) (f : MemberReading A) → ((key : List ℕ) → Reads P (f key)) → Reads (All P) (each_member f)
unfolding each_member
each_member_says P f reads json.null = told_here json.null why.Object (λ e. (cc))
each_member_says P f reads (json.boolean b) = told_here (json.boolean b) why.Object (λ e. (cc))
each_member_says P f reads (json.number n) = told_here (json.number n) why.Object (λ e. (cc))
each_member_says P f reads (json.string s) = told_here (json.string s) why.Object (λ e. (cc))
each_member_says P f reads (json.array ds) = told_here (json.array ds) why.Object (λ e. (cc))
each_member_says P f reads (json.object ms) =
    each_says P (json.object ms) (λ _. member_at f) 0 (pairs_of ms) (λ k m e. says_member P ms m.0 m.1 (f m.0 m.1) (contains_at (pairs_of ms) k m e) (reads m.0 m.1))

-- items that are read after those before them; Good holds of what was read so far
after_says : {A : Type 0} (Good : List A → Type 0) (f : List A → Reading A) (ds : Items) (earlier : List A) (n : ℕ) (xs : List Data)
    → ((k : ℕ) (v : Data) → slice_get xs k ≡ Some v → slice_get (list_of ds) (k + n) ≡ Some v)
    → ((earlier : List A) → Good earlier → Reads (λ y. Good (earlier ++ y ∷ [])) (f earlier))
    → Good earlier → Says Good (json.array ds) (read_after (λ before m v. inside (item_step m) (f before v)) earlier n xs)
unfolding read_after
after_says Good f ds earlier n [] are reads good = good
after_says Good f ds earlier n (v ∷ xs) are reads good =
    let at_n : 0 + n ≡ n = omega arith in
    says_then (λ y. Good (earlier ++ y ∷ [])) Good (json.array ds) (inside (item_step n) (f earlier v)) (λ y. read_after (λ before m v. inside (item_step m) (f before v)) (earlier ++ y ∷ []) (n + 1) xs)
    (says_item (λ y. Good (earlier ++ y ∷ [])) ds n v (f earlier v) (subst (λ m. slice_get (list_of ds) m ≡ Some v) at_n (are 0 v refl)) (reads earlier good v))
    (λ y p. after_says Good f ds (earlier ++ y ∷ []) (n + 1) xs (λ k w e. let at_k : suc k + n ≡ k + (n + 1) = omega arith in subst (λ m. slice_get (list_of ds) m ≡ Some w) at_k (are (suc k) w e)) reads p)

-- a list whose items each have a key of their own, from the first on
pub each_new_item_says : {K A : Type 0} (Good : List A → Type 0) (key : A → K) (f : NewReading K A)
    → ((earlier : List A) → Good earlier
    → Reads (λ y. Good (earlier ++ y ∷ [])) (f (map key earlier)))
    → Good [] → Reads Good (each_new_item key f)
unfolding each_new_item
each_new_item_says Good key f reads good json.null = told_here json.null why.List (λ e. (cc))
each_new_item_says Good key f reads good (json.boolean b) =
    told_here (json.boolean b) why.List (λ e. (cc))
each_new_item_says Good key f reads good (json.number n) =
    told_here (json.number n) why.List (λ e. (cc))
each_new_item_says Good key f reads good (json.string s) =
    told_here (json.string s) why.List (λ e. (cc))
each_new_item_says Good key f reads good (json.object ms) =
    told_here (json.object ms) why.List (λ e. (cc))
each_new_item_says Good key f reads good (json.array ds) =
    after_says Good (λ earlier. f (map key earlier)) ds [] 0 (list_of ds)
    (λ k v e. let at_k : k ≡ k + 0 = omega arith in
    subst (λ m. slice_get (list_of ds) m ≡ Some v) at_k e) reads good

-- what is said of the fault that was told, and of the value that was given
pub told_stands : {A : Type 0} (P : A → Type 0) (d : Data) (r : Result A FileFault) (fault : FileFault) → Says P d r → r ≡ Err fault → StandsIn d fault
told_stands P d (Ok x) fault says e = (cc)
told_stands P d (Err told) fault says e = let same : told ≡ fault = cc in subst (StandsIn d) same says

pub given_has : {A : Type 0} (P : A → Type 0) (d : Data) (r : Result A FileFault) (x : A) → Says P d r → r ≡ Ok x → P x
given_has P d (Ok y) x says e = let same : y ≡ x = cc in subst P same says
given_has P d (Err told) x says e = (cc)
