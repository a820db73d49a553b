-- What is known of a port is what its page says.
use Rattle.std.proofs.Common.{◌≡◌, ℕ, zero, suc, Bool, true, false, cond, List, [], ◌∷◌, ◌++◌, length, ◌∙◌, ap, sym, subst, refl}
use Rattle.std.specs.Prelude.{Option, Some, None, option_map, Result, Ok, Err, IfOk, IfSome, IsSome, is_some, IsTrue, ◌↔◌, bytes_eq, slice_get}
use Rattle.std.specs.Map.{keys_of, lookup}
use Rattle.std.proofs.lemmas.Slice.Eq.{bytes_eq-Decides}
use Rattle.indexmap.specs.IndexMap.{insert_entry}
use Rattle.vk_spec.specs.Manifests.{Override}
use Rattle.vk_spec.specs.Pages.{Given, Wrong, is_pinned_by}
use Rattle.vk_spec.specs.Conditions.{Condition}
use Rattle.vk_spec.specs.Catalogues.{CatalogueState, OnPages, ArePages}
use Rattle.vk_resolution.specs.Givens.{Pages}
use Rattle.vk_resolution.specs.Faults.{given_troubles}
use Rattle.vk_resolution.specs.Reasons.{Reason}
use Rattle.vk_base.specs.declared.stops.Outage.{Outage}
use Rattle.vk_model.specs.WrongViews.{given_view}
use Rattle.vk_worklist.specs.Places.{IsPlace, KeepsSeats}
use Rattle.vk_close.specs.declared.known.Known.{Known}
use Rattle.vk_close.specs.declared.page_askers.PageAsker.{PageAsker}
use Rattle.vk_close.specs.Known.{given_in, base_by, IsKnown, AreKnown}
use Rattle.vk_close.specs.Kept.{IsKept, Tells}
use Rattle.vk_close.specs.Steps.{given_on}

pinned_page : (s : CatalogueState Condition) (pinned : Bool) (overrides : List Override) (port : List ℕ) (given : Result Given Wrong) → pinned ≡ is_pinned_by overrides port given
    → OnPages (λ (pages : Pages). given ≡ (pages port).given) s → OnPages (λ (pages : Pages). pinned ≡ is_pinned_by overrides port (pages port).given) s
pinned_page s pinned overrides port given is told = by s.pages told
  where
    by : (o : Option Pages) → IfSome o (λ pages. given ≡ (pages port).given) → IfSome o (λ pages. pinned ≡ is_pinned_by overrides port (pages port).given)
    by None told = tt
    by (Some pages) told = is ∙ ap (is_pinned_by overrides port) told

pub pinned_known : (r : Result Known Outage) (s : CatalogueState Condition) (overrides : List Override) (port : List ℕ) (given : Given) → IfOk r (λ known. (os : List Override) → known.pinned ≡ is_pinned_by os port (Ok given))
    → OnPages (λ (pages : Pages). Ok given ≡ (pages port).given) s → IfOk r (λ known. OnPages (λ (pages : Pages). known.pinned ≡ is_pinned_by overrides port (pages port).given) s)
pinned_known (Err e) s overrides port given is told = tt
pinned_known (Ok known) s overrides port given is told = pinned_page s known.pinned overrides port (Ok given) (is overrides) told

-- ---- one port more

-- what is looked up after a note is put
abbrev pub IsPut : List ℕ → Known → List (List ℕ × Known) → List (List ℕ × Known) → Type 0
IsPut key known old new = (q : List ℕ) → lookup (bytes_eq q) new ≡ cond (bytes_eq key q) (Some known) (lookup (bytes_eq q) old)

same : (key port : List ℕ) → key ≡ port → bytes_eq key port ≡ true
same key port e = (bytes_eq-Decides key port).1 e

pub put_there : (key port : List ℕ) (known : Known) (old new : List (List ℕ × Known)) → key ≡ port → IsPut key known old new → IsSome (lookup (bytes_eq port) new)
put_there key port known old new e put = subst IsSome (sym (put port ∙ ap (λ b. cond b (Some known) (lookup (bytes_eq port) old)) (same key port e))) (cc)

put_one : (overrides : List Override) (pages : Pages) (key : List ℕ) (known : Known) (old new : List (List ℕ × Known)) → IsPut key known old new
    → AreKnown overrides pages old → IsKnown overrides pages key known → AreKnown overrides pages new
put_one overrides pages key known old new put before is = λ q. subst (λ o. IfSome o (IsKnown overrides pages q)) (sym (put q)) (by q (bytes_eq key q) refl)
  where
    by : (q : List ℕ) (b : Bool) → bytes_eq key q ≡ b → IfSome (cond b (Some known) (lookup (bytes_eq q) old)) (IsKnown overrides pages q)
    by q true e = subst (λ p. IsKnown overrides pages p known) ((bytes_eq-Decides key q).0 e) is
    by q false e = before q

pub put_known : (o : Option Pages) (overrides : List Override) (key port : List ℕ) (known : Known) (old new : List (List ℕ × Known)) → key ≡ port → IsPut key known old new
    → IfSome o (λ pages. AreKnown overrides pages old) → IfSome o (λ pages. option_map given_view known.given ≡ given_in (pages port).given) → IfSome o (λ pages. known.base ≡ base_by (pages port) (pages port).given)
    → IfSome o (λ pages. known.pinned ≡ is_pinned_by overrides port (pages port).given) → IfSome o ArePages → IfSome o (λ pages. AreKnown overrides pages new)
put_known None overrides key port known old new e put before given base pinned sound = tt
put_known (Some pages) overrides key port known old new e put before given base pinned sound =
    put_one overrides pages key known old new put before (subst (λ p. IsKnown overrides pages p known) (sym e) (record { given = given; base = base; pinned = pinned; sound = sound }))

-- ---- places

found_seat : (es : List (List ℕ × Known)) (k : List ℕ) (v : Known) (b : Bool) (e : List ℕ × Known) → KeepsSeats (keys_of es) (keys_of (insert_entry bytes_eq es k v)) → KeepsSeats (keys_of (e ∷ es)) (keys_of (cond b ((e.0, v) ∷ es) (e ∷ insert_entry bytes_eq es k v)))
found_seat es k v true e keeps place port at = keep_head place at
  where
    keep_head : (place : ℕ) → slice_get (keys_of (e ∷ es)) place ≡ Some port → slice_get (keys_of ((e.0, v) ∷ es)) place ≡ Some port
    keep_head zero at = at
    keep_head (suc n) at = at
found_seat es k v false e keeps place port at = keep_tail place at
  where
    keep_tail : (place : ℕ) → slice_get (keys_of (e ∷ es)) place ≡ Some port → slice_get (keys_of (e ∷ insert_entry bytes_eq es k v)) place ≡ Some port
    keep_tail zero at = at
    keep_tail (suc n) at = keeps n port at

-- a map keeps the places of its keys when one is put
put_seats : (es : List (List ℕ × Known)) (k : List ℕ) (v : Known) → KeepsSeats (keys_of es) (keys_of (insert_entry bytes_eq es k v))
put_seats [] k v place port at = (cc)
put_seats (e ∷ es) k v place port at = found_seat es k v (bytes_eq k e.0) e (put_seats es k v) place port at

pub put_keeps : (es new : List (List ℕ × Known)) (k : List ℕ) (v : Known) → new ≡ insert_entry bytes_eq es k v → KeepsSeats (keys_of es) (keys_of new)
put_keeps es new k v is = subst (λ l. KeepsSeats (keys_of es) (keys_of l)) (sym is) (put_seats es k v)

-- ---- what every page keeps

-- what is known of any port shows it
pub pages_sound : (o : Option Pages) (overrides : List Override) (ports : List (List ℕ × Known)) → (ports ≡ [] → ⊥) → IfSome o (λ pages. AreKnown overrides pages ports) → IfSome o ArePages
pages_sound None overrides ports some known = tt
pages_sound (Some pages) overrides [] some known = absurd (some refl)
pages_sound (Some pages) overrides (e ∷ ports) some known = (first_known (bytes_eq e.0 e.0) ((bytes_eq-Decides e.0 e.0).1 refl) (known e.0)).sound
  where
    first_known : (b : Bool) → b ≡ true → IfSome (cond b (Some e.1) (lookup (bytes_eq e.0) ports)) (IsKnown overrides pages e.0) → IsKnown overrides pages e.0 e.1
    first_known true is h = h
    first_known false is h = (cc)

-- ---- what is known of one port

module _ (overrides : List Override) (ports : List (List ℕ × Known)) (port : List ℕ) (k : Known) (e : lookup (bytes_eq port) ports ≡ Some k) where
  pub here : (pages : Pages) → AreKnown overrides pages ports → IsKnown overrides pages port k
  here pages known = subst (λ o. IfSome o (IsKnown overrides pages port)) e (known port)

  pub pinned_here : (o : Option Pages) → IfSome o (λ pages. AreKnown overrides pages ports) → IfSome o (λ pages. k.pinned ≡ is_pinned_by overrides port (pages port).given)
  pinned_here None known = tt
  pinned_here (Some pages) known = (here pages known).pinned

  pub given_here : (o : Option Pages) → IfSome o (λ pages. AreKnown overrides pages ports) → IfSome o (λ pages. option_map given_view k.given ≡ given_in (pages port).given)
  given_here None known = tt
  given_here (Some pages) known = (here pages known).given

-- and so it is by what an asker keeps
pub given_kept : (a : PageAsker) (port : List ℕ) (k : Known) → lookup (bytes_eq port) a.ports.entries ≡ Some k → (o : Option Pages) → IfSome o (IsKept a) → IfSome o (λ pages. option_map given_view k.given ≡ given_in (pages port).given)
given_kept a port k e None kept = tt
given_kept a port k e (Some pages) kept = given_here a.overrides a.ports.entries port k e (Some pages) kept.known

-- the floor of a given version is the one that the page gives
pub given_brought : (o : Option Pages) (line : ℕ) (port : List ℕ) (given : Option Given) (old new : List Reason) → new ≡ old ++ given_on line port given → IfSome o (λ pages. given ≡ given_in (pages port).given) → IfSome o (λ pages. new ≡ old ++ given_on line port (given_in (pages port).given))
given_brought None line port given old new is told = tt
given_brought (Some pages) line port given old new is told = is ∙ ap (λ g. old ++ given_on line port g) told

given_tells : (port : List ℕ) (r : Result Given Wrong) → Tells (is_some (given_in r)) (given_troubles port r ≡ [])
given_tells port (Ok given) = ((λ e. refl), (λ e. refl))
given_tells port (Err wrong) = ((λ e. (cc)), (λ e. (cc)))

-- nothing is wrong with a port that has a given version
pub given_clear : (o : Option Pages) (port : List ℕ) (given : Option Given) (clear : Bool) → clear ≡ is_some given → IfSome o (λ pages. given ≡ given_in (pages port).given) → IfSome o (λ pages. Tells clear (given_troubles port (pages port).given ≡ []))
given_clear None port given clear is told = tt
given_clear (Some pages) port given clear is told = subst (λ b. Tells b (given_troubles port (pages port).given ≡ [])) (sym (is ∙ ap is_some told)) (given_tells port (pages port).given)

pub mapped_some : {X Y : Type 0} (f : X → Y) (o : Option X) → is_some o ≡ is_some (option_map f o)
mapped_some f None = refl
mapped_some f (Some x) = refl

-- ---- where something is known of a port, each page is as every page is

kept_sound : (a : PageAsker) → (a.ports.entries ≡ [] → ⊥) → (o : Option Pages) → IfSome o (IsKept a) → IfSome o ArePages
kept_sound a some None kept = tt
kept_sound a some (Some pages) kept = pages_sound (Some pages) a.overrides a.ports.entries some kept.known

pub placed_sound : (a : PageAsker) (port : List ℕ) (place : ℕ) → IsPlace a.ports.entries port place → (o : Option Pages) → IfSome o (IsKept a) → IfSome o ArePages
placed_sound a port place is = kept_sound a (λ none. no_place a.ports.entries none is)
  where
    no_place : (es : List (List ℕ × Known)) → es ≡ [] → IsPlace es port place → ⊥
    no_place [] none is = let at = is.at in (cc)
    no_place (e ∷ es) none is = (cc)

pub some_sound : (a : PageAsker) (empty : Bool) → (IsTrue empty ↔ (length a.ports.entries ≡ 0)) → empty ≡ false → (o : Option Pages) → IfSome o (IsKept a) → IfSome o ArePages
some_sound a empty is full = kept_sound a (λ none. clash empty full (is.1 (ap length none)))
  where
    clash : (b : Bool) → b ≡ false → IsTrue b → ⊥
    clash true e h = (cc)
    clash false e h = (cc)
