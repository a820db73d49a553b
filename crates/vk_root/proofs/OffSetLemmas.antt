-- A set of instances has what was put into it.
use Rattle.std.proofs.Common.{◌≡◌, ◌<◌, ◌||◌, ◌+◌, ℕ, Bool, true, false, cond, List, [], ◌∷◌, ◌++◌, length, take, get_or, refl, ap, sym, ◌∙◌, arith}
use Rattle.std.specs.List.{list_any}
use Rattle.std.proofs.lemmas.List.Folds.{list_any-append, list_any_more}
use Rattle.indexmap.specs.IndexSet.{insert_key}
use Rattle.indexmap.proofs.CallerLemmas.{Contains-list_any}
use Rattle.vk_resolution.proofs.Members.{contains_any}
use Rattle.vk_resolution.proofs.FactLemmas.{same_instance-Decides}
use Rattle.vk_base.specs.declared.instances.Instance.{Instance}
use Rattle.vk_model.specs.SettingViews.{instance_view}
use Rattle.vk_root.specs.Offs.{is_same, has_instance, AreOff}

pub same_is : (i j : Instance) → is_same i j ≡ true → i ≡ j
same_is i j e = ap (λ k. record { port = k.port; triplet = k.triplet }) ((same_instance-Decides (instance_view i) (instance_view j)).0 e)

or_nothing : (b : Bool) → (b || false) ≡ b
or_nothing true = refl
or_nothing false = refl

or_known : (a b : Bool) → (b ≡ true → a ≡ true) → a ≡ (a || b)
or_known true b known = refl
or_known false true known = known refl
or_known false false known = refl

-- a key that is put in is among the keys, with all that were
put_step : (p : Instance → Bool) (keys : List Instance) (x : Instance) (b : Bool) → list_any (is_same x) keys ≡ b → list_any p (cond b keys (keys ++ x ∷ [])) ≡ (list_any p keys || p x)
put_step p keys x true e = or_known (list_any p keys) (p x) (contains_any p keys x (Contains-list_any is_same same_is keys x e))
put_step p keys x false e = list_any-append p keys (x ∷ []) ∙ ap (λ b. list_any p keys || b) (or_nothing (p x))

put_any : (p : Instance → Bool) (keys : List Instance) (x : Instance) → list_any p (insert_key is_same keys x) ≡ (list_any p keys || p x)
put_any p keys x = put_step p keys x (list_any (is_same x) keys) refl

-- a set to which the next of a list is put has what the list has so far
pub off_more : (listed keys new : List Instance) (n : ℕ) (d x : Instance) → n < length listed → AreOff (take n listed) keys → x ≡ get_or listed n d → new ≡ insert_key is_same keys x → AreOff (take (n + 1) listed) new
off_more listed keys new n d x within was at put j =
    let p = is_same j in
    ap (list_any p) put ∙ put_any p keys x ∙ ap (λ b. b || p x) (was j) ∙ ap (λ y. list_any p (take n listed) || p y) at ∙ sym (list_any_more p listed n d within)

-- an empty set has nothing
pub nothing_there : (keys : List Instance) (j : Instance) → length keys ≡ 0 → false ≡ has_instance keys j
nothing_there [] j none = refl
nothing_there (k ∷ keys) j none = absurd (omega arith)
