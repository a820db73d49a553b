-- What the steps of a reading gave, where the whole gives a value.
use Rattle.std.proofs.Common.{◌≡◌, ◌+◌, ◌++◌, [], ◌∷◌, ℕ, List}
use Rattle.std.specs.Prelude.{Option, Some, None, Result, Ok, Err}
use Rattle.serde_json.specs.Data.{Data}
use Rattle.serde_json.specs.Find.{get}
use Rattle.vk_spec.specs.Reading.{◌>>=◌, or_fault, read_after}
use Rattle.vk_json.specs.declared.faults.FileFault.{FileFault}
use Rattle.vk_json.specs.Places.{inside, here, member_step}
use Rattle.vk_json.specs.Readings.{Reading, wanted}
use Rattle.vk_json.specs.declared.faults.Why.TheVariants as why
use Rattle.vk_spec.proofs.ReadingLemmas.{bind_ok}

pub inside_ok : {A : Type 0} (step : List ℕ) (read : Result A FileFault) (x : A)
    → inside step read ≡ Ok x → read ≡ Ok x
inside_ok step (Ok y) x e = e
inside_ok step (Err fault) x e = (cc)

pub there_ok : {A F : Type 0} (fault : F) (found : Option A) (x : A) → or_fault fault found ≡ Ok x
    → found ≡ Some x
there_ok fault None x e = (cc)
there_ok fault (Some y) x e = (cc)

-- a member that was wanted is there, and was read
pub wanted_ok : {A : Type 0} (f : Reading A) (key : List ℕ) (d : Data) (x : A)
    → wanted f key d ≡ Ok x → (v : Data) × (get key d ≡ Some v) × (f v ≡ Ok x)
unfolding wanted
wanted_ok f key d x e =
    let s =
    bind_ok (or_fault (here why.Missing) (get key d)) f x
    (inside_ok (member_step key) (or_fault (here why.Missing) (get key d) >>= f) x e) in
    (s.0, there_ok (here why.Missing) (get key d) s.0 s.1, s.2)

-- what holds of the list after each member holds of the whole
pub kept_after : {X A F : Type 0} (P : List A → Type 0) (f : List A → ℕ → X → Result A F)
    → ((earlier : List A) (n : ℕ) (x : X) (y : A) → P earlier → f earlier n x ≡ Ok y
    → P (earlier ++ y ∷ []))
    → (earlier : List A) (n : ℕ) (xs : List X) (whole : List A) → P earlier
    → read_after f earlier n xs ≡ Ok whole → P whole
unfolding read_after
kept_after P f keeps earlier n [] whole holds e =
    let same : earlier ≡ whole = (cc) in rw (← same) holds
kept_after P f keeps earlier n (x ∷ xs) whole holds e =
    let s = bind_ok (f earlier n x) (λ y. read_after f (earlier ++ y ∷ []) (n + 1) xs) whole e in
    kept_after P f keeps (earlier ++ s.0 ∷ []) (n + 1) xs whole
    (keeps earlier n x s.0 holds s.1) s.2
