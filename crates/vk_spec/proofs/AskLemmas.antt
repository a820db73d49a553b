-- Nothing was asked; one after the other; and what was answered, brought back to the start.
use Rattle.std.proofs.Common.{◌≡◌, subst, ℕ, List, true, false, refl, sym, ◌∙◌, arith}
use Rattle.std.specs.Prelude.{Bool, Option, Some, None, IfSome, Result, Ok, Err, IfOk}
use Rattle.vk_spec.specs.Counts.{MayHaveRisen, Rose}
use Rattle.vk_spec.specs.Calls.{Answer, Fault, stops, is_failed}
use Rattle.vk_spec.specs.Versions.{Version, Ask}
use Rattle.vk_spec.specs.Pages.{Page, Given}
use Rattle.vk_spec.specs.Catalogues.{Pages, ArePages, CatalogueState, OnPage, OnPages, OnlyAsked, Asks, AsksAs, SaysGiven, SaysVersion, CanAskVersion, CanAskManifest}
use Rattle.vk_spec.specs.AskedCalls.{IsAsking, stopped_by}
use Rattle.vk_spec.specs.Reading.{Gives}
use Rattle.vk_spec.proofs.OptionLemmas.{of_each, of_both}
use Rattle.vk_spec.proofs.CountLemmas.{counted_then, counted_risen, counted_rose}

-- ---- only asked

-- nothing was done
pub asked_nothing : {C : Type 0} (s : CatalogueState C) → OnlyAsked false s s
asked_nothing s = record { pages = refl; origin = refl; calls = omega arith; faults = refl; sure = refl; safe = λ _. refl }

-- one after the other
pub asked_then : {C : Type 0} {failed : Bool} {a b c : CatalogueState C} → OnlyAsked false a b → OnlyAsked failed b c → OnlyAsked failed a c
asked_then one two = record {
  pages = two.pages ∙ one.pages;
  origin = two.origin ∙ one.origin;
  calls = omega (arith, one.calls, two.calls);
  faults = counted_then _ _ _ _ one.faults two.faults;
  sure = two.sure ∙ one.sure;
  safe = λ s. two.safe (one.sure ∙ s);
}

-- one call
pub asked_once : {C A : Type 0} {port : List ℕ} {Says : Page C → A → Type 0} {answer : Answer A} {failed : Bool} {a b : CatalogueState C} → Asks port Says answer a b → is_failed answer ≡ failed → OnlyAsked failed a b
asked_once {a = a} {b = b} r e = subst (λ f. OnlyAsked f a b) e r.only

-- one call more
pub asked_more : {C A : Type 0} {port : List ℕ} {Says : Page C → A → Type 0} {answer : Answer A} {failed : Bool} {a b c : CatalogueState C} → Asks port Says answer b c → OnlyAsked false a b → is_failed answer ≡ failed → OnlyAsked failed a c
asked_more r x e = asked_then x (asked_once r e)

-- a catalogue is asked as anything is
pub asking_catalogue : {C : Type 0} → IsAsking (λ failed (a b : CatalogueState C). OnlyAsked failed a b) OnPages
asking_catalogue = record {
  nothing = asked_nothing;
  then = asked_then;
  each = λ P s f. of_each s.pages f;
  both = λ P Q R s f p q. of_both s.pages p q f;
  back = λ P only h. subst (λ o. IfSome o P) only.pages h;
}

-- what a run that only asks says of its failures
pub asked_risen : {C : Type 0} {failed : Bool} {a b : CatalogueState C} → OnlyAsked failed a b → failed ≡ true → MayHaveRisen a.faults b.faults
asked_risen r e = counted_risen _ _ r.faults e

pub asked_fails : {C : Type 0} {failed : Bool} {a b : CatalogueState C} → OnlyAsked failed a b → Rose a.faults b.faults → failed ≡ true
asked_fails r rose = counted_rose _ _ r.faults rose

-- ---- the pages stay

-- what is known of the pages after a run that only asked is known of those before
pub pages_before : {C : Type 0} {failed : Bool} {a b : CatalogueState C} (P : Pages C → Type 0) → OnlyAsked failed a b → IfSome b.pages P → IfSome a.pages P
pages_before P r h = subst (λ o. IfSome o P) r.pages h

-- and what is known of those before is known of those after
pub pages_after : {C : Type 0} {failed : Bool} {a b : CatalogueState C} (P : Pages C → Type 0) → OnlyAsked failed a b → IfSome a.pages P → IfSome b.pages P
pages_after P r h = subst (λ o. IfSome o P) (sym r.pages) h

-- what is asked after a run that only asked is asked from its start
pub asks_later : {C A : Type 0} {port : List ℕ} {Says : Page C → A → Type 0} {answer : Answer A} {a b c : CatalogueState C} → OnlyAsked false a b → Asks port Says answer b c → Asks port Says answer a c
asks_later {port = port} {Says = Says} {answer = answer} one two = record {
  told = subst (λ o. IfOk answer (λ x. IfSome o (λ p. Says (p port) x))) one.pages two.told;
  kept = pages_before ArePages one two.kept;
  only = asked_then one two.only;
}

-- ---- answers

-- an answer is what the page says
pub answer_says : {C A : Type 0} {port : List ℕ} {Says : Page C → A → Type 0} {x : A} {a b : CatalogueState C} (pages : Pages C) → a.pages ≡ Some pages → Asks port Says (Ok x) a b → Says (pages port) x
answer_says {port = port} {Says = Says} {x = x} pages e r = subst (λ o. IfSome o (λ p. Says (p port) x)) e r.told

-- what a page says by one answer and by the next, it says by both
says_both : {C A B D : Type 0} (P : Page C → A → Type 0) (Q : Page C → B → Type 0) (R : Page C → D → Type 0) (port : List ℕ) (x : A) (y : Answer B) (z : Answer D) (o : Option (Pages C))
    → ((page : Page C) → P page x → IfOk y (Q page) → IfOk z (R page))
    → IfSome o (λ p. P (p port) x) → IfOk y (λ b. IfSome o (λ p. Q (p port) b)) → IfOk z (λ d. IfSome o (λ p. R (p port) d))
says_both P Q R port x y (Err e) o f one two = tt
says_both P Q R port x y (Ok d) None f one two = tt
says_both P Q R port x (Ok b) (Ok d) (Some pages) f one two = f (pages port) one two
says_both P Q R port x (Err e) (Ok d) (Some pages) f one two = f (pages port) one tt

-- an answer that comes of one call and the next
pub asks_then : {C A B D : Type 0} {port : List ℕ} {P : Page C → A → Type 0} {Q : Page C → B → Type 0} {x : A} {y : Answer B} {a b c : CatalogueState C} (R : Page C → D → Type 0) (z : Answer D)
    → Asks port P (Ok x) a b → Asks port Q y b c → is_failed y ≡ is_failed z
    → ((page : Page C) → P page x → IfOk y (Q page) → IfOk z (R page)) → Asks port R z a c
asks_then {port = port} {P = P} {Q = Q} {x = x} {y = y} {a = a} {b = b} {c = c} R z one two e f = record {
  told = says_both P Q R port x y z a.pages f one.told (subst (λ o. IfOk y (λ q. IfSome o (λ p. Q (p port) q))) one.only.pages two.told);
  kept = one.kept;
  only = asked_then one.only (asked_once two e);
}

nothing : {C : Type 0} (o : Option (Pages C)) → IfSome o (λ p. Unit {0})
nothing None = tt
nothing (Some p) = tt

-- an answer that comes of one call
pub asks_so : {C A D : Type 0} {port : List ℕ} {P : Page C → A → Type 0} {y : Answer A} {a b : CatalogueState C} (R : Page C → D → Type 0) (z : Answer D)
    → Asks port P y a b → is_failed y ≡ is_failed z → ((page : Page C) → IfOk y (P page) → IfOk z (R page)) → Asks port R z a b
asks_so {port = port} {P = P} {y = y} {a = a} {b = b} R z one e f = record {
  told = says_both (λ page (u : Unit {0}). Unit {0}) P R port tt y z a.pages (λ page u. f page) (nothing a.pages) one.told;
  kept = one.kept;
  only = asked_once one e;
}

-- a call that gave no answer, or after which memory ran out
pub asks_stopped : {C A D : Type 0} {port : List ℕ} {P : Page C → A → Type 0} {R : Page C → D → Type 0} {y : Answer A} {f : Fault} {a b : CatalogueState C} → Asks port P y a b → is_failed y ≡ stops f → Asks port R (Err f) a b
asks_stopped {R = R} {f = f} one e = record { told = tt; kept = one.kept; only = asked_once one e }

-- ---- what can be asked

has_given : {C : Type 0} (g : Given) (page : Page C) → SaysGiven page (Ok g) → CanAskVersion page
has_given g page e = rw (← e) refl

can_by_given : {C : Type 0} (port : List ℕ) (g : Given) (o : Option (Pages C)) → IfSome o (λ p. SaysGiven (p port) (Ok g)) → IfSome o (λ p. CanAskVersion (p port))
can_by_given port g None h = tt
can_by_given port g (Some pages) h = has_given g (pages port) h

-- a port with a given version can be asked for a version
pub can_ask_version : {C : Type 0} {port : List ℕ} {g : Given} {a b : CatalogueState C} → Asks port SaysGiven (Ok (Ok g)) a b → OnPage port CanAskVersion b
can_ask_version {port = port} {g = g} {b = b} r = can_by_given port g b.pages (subst (λ o. IfSome o (λ p. SaysGiven (p port) (Ok g))) (sym r.only.pages) r.told)

can_by_version : {C : Type 0} (port : List ℕ) (ask : Ask) (v : Version) (o : Option (Pages C)) → IfSome o (λ p. CanAskVersion (p port)) → IfSome o (λ p. SaysVersion ask (p port) (Some v)) → IfSome o (λ p. CanAskManifest ask (p port))
can_by_version port ask v None one two = tt
can_by_version port ask v (Some pages) one two = record { given = one; listed = rw (← two) refl }

-- a port with a version for an ask can be asked for its manifest
pub can_ask_manifest : {C : Type 0} {port : List ℕ} (ask : Ask) {v : Version} {a b : CatalogueState C} → OnPage port CanAskVersion a → Asks port (SaysVersion ask) (Ok (Some v)) a b → OnPage port (CanAskManifest ask) b
can_ask_manifest {port = port} ask {v = v} {b = b} can r = can_by_version port ask v b.pages (subst (λ o. IfSome o (λ p. CanAskVersion (p port))) (sym r.only.pages) can) (subst (λ o. IfSome o (λ p. SaysVersion ask (p port) (Some v))) (sym r.only.pages) r.told)

-- ---- one call, told in other words

told_so : {C A X Y E F : Type 0} (port : List ℕ) (Says : Page C → A → Type 0) (fault : E → Option F) (view : X → Y) (answer : Result X E) (meaning : Pages C → Result Y F) (o : Option (Pages C)) (said : Answer A)
    → IfOk said (λ x. IfSome o (λ p. Says (p port) x)) → ((p : Pages C) → IfOk said (Says (p port)) → Gives view fault answer (meaning p)) → IfSome o (λ p. Gives view fault answer (meaning p))
told_so port Says fault view answer meaning None said told gives = tt
told_so port Says fault view answer meaning (Some p) (Ok x) told gives = gives p told
told_so port Says fault view answer meaning (Some p) (Err f) told gives = gives p tt

pub asks_one : {C A X Y E F : Type 0} {port : List ℕ} {Says : Page C → A → Type 0} {said : Answer A} {a b : CatalogueState C} (failed : E → Bool) (fault : E → Option F) (view : X → Y) (answer : Result X E) (meaning : Pages C → Result Y F)
    → Asks port Says said a b → is_failed said ≡ stopped_by failed answer → ((p : Pages C) → IfOk said (Says (p port)) → Gives view fault answer (meaning p)) → AsksAs failed fault view answer meaning a b
asks_one {port = port} {Says = Says} {said = said} {a = a} failed fault view answer meaning one e gives = record {
  only = asked_once one e;
  content = told_so port Says fault view answer meaning a.pages said one.told gives;
}
